use Rattle.std.proofs.Common.{◌≡◌, ◌≢◌, None, subst, sym}
use Rattle.std.specs.Result.{IfErr}
use Rattle.mech_rows.specs.declared.refusal.Refusal.TheVariants.{Memory}
use Rattle.world_run.specs.Kept.{view_of}
use Rattle.world_run.specs.Opens.{IsOpenRefused, open_refusal}
use Rattle.world_run.specs.Turns.{HasNumbers}
use Rattle.world_run.specs.Views.{WorldView}
use Rattle.world_run.proofs.world.World.open.Goals as goal

pub open_in-requires-clause-numbers : goal.open_in-requires-clause-numbers
open_in-requires-clause-numbers c = subst HasNumbers (sym c.self.view_is) c.requires.numbers

pub returns-clause-ok : goal.returns-clause-ok
returns-clause-ok c = rw (← c.self.view_is) c.open_in.ensures.ok

pub returns-clause-refused : goal.returns-clause-refused
returns-clause-refused c = subst (λ (w : WorldView). IfErr c.open_in.result (λ e. e ≢ Memory → IsOpenRefused w c.args.head.now c.args.texts.now e (view_of c.open_in.new.scene))) c.self.view_is c.open_in.ensures.refused

pub returns-clause-left : goal.returns-clause-left
returns-clause-left c = rw (← c.self.view_is) c.open_in.ensures.left

pub returns-clause-grows : goal.returns-clause-grows
returns-clause-grows c = rw (← c.self.view_is) c.open_in.ensures.grows

pub returns-clause-memory : goal.returns-clause-memory
returns-clause-memory c = λ e. subst (λ (w : WorldView). open_refusal w c.args.head.now ≡ None) c.self.view_is (c.open_in.ensures.memory e)
