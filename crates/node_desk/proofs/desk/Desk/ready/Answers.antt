use Rattle.std.proofs.Common.{arith}
use Rattle.node_desk.proofs.Kept.{kept-more}
use Rattle.node_desk.proofs.Rooms.{room-grows}
use Rattle.node_desk.proofs.desk.Desk.ready.Goals as goal

pub invariant_of-self-2 : goal.invariant_of-self-2
invariant_of-self-2 g c =
    kept-more _ _ _ _ _ _ _ _ _ _ _ _ _ _ _ c.self.invariant c.reserve-2.ensures.kept c.reserve.ensures.moment c.reserve.ensures.window c.reserve.ensures.stays
    (let room = c.self.invariant.room_is in let grows = c.reserve-2.ensures.grows in omega (arith, room, grows))

pub returns-in_err-reserve-clause-grows : goal.returns-in_err-reserve-clause-grows
returns-in_err-reserve-clause-grows g c = rw (← c.self.view_is) (room-grows _ _ _ _ c.self.inside.running c.reserve.ensures.kept (omega arith))

pub returns-clause-grows : goal.returns-clause-grows
returns-clause-grows g c = rw (← c.self.view_is) (room-grows _ _ _ _ c.self.inside.running c.reserve.ensures.kept c.reserve-2.ensures.grows)
