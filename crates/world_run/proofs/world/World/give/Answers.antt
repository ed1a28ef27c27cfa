use Rattle.std.proofs.Common.{◌≢◌, IfErr, subst, sym}
use Rattle.mech_rows.specs.declared.refusal.Refusal.TheVariants.{Memory}
use Rattle.text_hooks.specs.Rules.{allowed}
use Rattle.world_run.specs.Gives.{IsGiveRefused}
use Rattle.world_run.specs.Kept.{view_of}
use Rattle.world_run.specs.Turns.{HasNumbers}
use Rattle.world_run.specs.Views.{WorldView}
use Rattle.world_run.proofs.world.World.give.Goals as goal

pub give_in-requires-clause-numbers : goal.give_in-requires-clause-numbers
give_in-requires-clause-numbers g c = subst HasNumbers (sym c.self.view_is) c.requires.numbers

pub returns-clause-ok : goal.returns-clause-ok
returns-clause-ok g c = rw (← c.self.view_is) c.give_in.ensures.ok

pub returns-clause-refused : goal.returns-clause-refused
returns-clause-refused g c = subst (λ (w : WorldView). IfErr c.give_in.result (λ e. e ≢ Memory → IsGiveRefused (allowed c.args.hook.now.rules.items) w c.args.run c.args.term.now e (view_of c.give_in.new.scene))) c.self.view_is c.give_in.ensures.refused

pub returns-clause-left : goal.returns-clause-left
returns-clause-left g c = rw (← c.self.view_is) c.give_in.ensures.left

pub returns-clause-grows : goal.returns-clause-grows
returns-clause-grows g c = rw (← c.self.view_is) c.give_in.ensures.grows

pub returns-clause-memory : goal.returns-clause-memory
returns-clause-memory g c = rw (← c.self.view_is) c.give_in.ensures.memory
