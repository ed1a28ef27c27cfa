-- Each run that a node may have is of a mechanism with one long-term key.
use Rattle.std.proofs.Common.{◌≡◌, true, refl}
use Rattle.mech_rows.specs.Rows.{row_of}
use Rattle.text_hooks.specs.declared.names.Pair.{Pair}
use Rattle.node_desk.specs.declared.live.Live.{Live}
use Rattle.node_desk.specs.declared.live.Live.TheVariants.{E, C}
use Rattle.node_desk.specs.Lives.{live_state}
use Rattle.node_desk.specs.Suits.{have_one_key}
use Rattle.roles_9798_2.specs.declared.state.EState.TheVariants as of_e
use Rattle.roles_9798_4.specs.declared.state.CState.TheVariants as of_c
use Rattle.roles_9798_2.specs.E1A as e1a
use Rattle.roles_9798_2.specs.declared.e1.StageA.{StageA as E1AStage}
use Rattle.roles_9798_2.specs.declared.e1.StageA.TheVariants as in_e1a
use Rattle.roles_9798_2.specs.E1B as e1b
use Rattle.roles_9798_2.specs.declared.e1.StageB.{StageB as E1BStage}
use Rattle.roles_9798_2.specs.declared.e1.StageB.TheVariants as in_e1b
use Rattle.roles_9798_2.specs.E2A as e2a
use Rattle.roles_9798_2.specs.declared.e2.StageA.{StageA as E2AStage}
use Rattle.roles_9798_2.specs.declared.e2.StageA.TheVariants as in_e2a
use Rattle.roles_9798_2.specs.E2B as e2b
use Rattle.roles_9798_2.specs.declared.e2.StageB.{StageB as E2BStage}
use Rattle.roles_9798_2.specs.declared.e2.StageB.TheVariants as in_e2b
use Rattle.roles_9798_2.specs.E3A as e3a
use Rattle.roles_9798_2.specs.declared.e3.StageA.{StageA as E3AStage}
use Rattle.roles_9798_2.specs.declared.e3.StageA.TheVariants as in_e3a
use Rattle.roles_9798_2.specs.E3B as e3b
use Rattle.roles_9798_2.specs.declared.e3.StageB.{StageB as E3BStage}
use Rattle.roles_9798_2.specs.declared.e3.StageB.TheVariants as in_e3b
use Rattle.roles_9798_2.specs.E4A as e4a
use Rattle.roles_9798_2.specs.declared.e4.StageA.{StageA as E4AStage}
use Rattle.roles_9798_2.specs.declared.e4.StageA.TheVariants as in_e4a
use Rattle.roles_9798_2.specs.E4B as e4b
use Rattle.roles_9798_2.specs.declared.e4.StageB.{StageB as E4BStage}
use Rattle.roles_9798_2.specs.declared.e4.StageB.TheVariants as in_e4b
use Rattle.roles_9798_4.specs.C1A as c1a
use Rattle.roles_9798_4.specs.declared.c1.StageA.{StageA as C1AStage}
use Rattle.roles_9798_4.specs.declared.c1.StageA.TheVariants as in_c1a
use Rattle.roles_9798_4.specs.C1B as c1b
use Rattle.roles_9798_4.specs.declared.c1.StageB.{StageB as C1BStage}
use Rattle.roles_9798_4.specs.declared.c1.StageB.TheVariants as in_c1b
use Rattle.roles_9798_4.specs.C2A as c2a
use Rattle.roles_9798_4.specs.declared.c2.StageA.{StageA as C2AStage}
use Rattle.roles_9798_4.specs.declared.c2.StageA.TheVariants as in_c2a
use Rattle.roles_9798_4.specs.C2B as c2b
use Rattle.roles_9798_4.specs.declared.c2.StageB.{StageB as C2BStage}
use Rattle.roles_9798_4.specs.declared.c2.StageB.TheVariants as in_c2b
use Rattle.roles_9798_4.specs.C3A as c3a
use Rattle.roles_9798_4.specs.declared.c3.StageA.{StageA as C3AStage}
use Rattle.roles_9798_4.specs.declared.c3.StageA.TheVariants as in_c3a
use Rattle.roles_9798_4.specs.C3B as c3b
use Rattle.roles_9798_4.specs.declared.c3.StageB.{StageB as C3BStage}
use Rattle.roles_9798_4.specs.declared.c3.StageB.TheVariants as in_c3b
use Rattle.roles_9798_4.specs.C4A as c4a
use Rattle.roles_9798_4.specs.declared.c4.StageA.{StageA as C4AStage}
use Rattle.roles_9798_4.specs.declared.c4.StageA.TheVariants as in_c4a
use Rattle.roles_9798_4.specs.C4B as c4b
use Rattle.roles_9798_4.specs.declared.c4.StageB.{StageB as C4BStage}
use Rattle.roles_9798_4.specs.declared.c4.StageB.TheVariants as in_c4b

one-e1a : (n : Pair) (stage : E1AStage) → have_one_key (row_of (e1a.run n stage).head.mech) ≡ true
one-e1a n (in_e1a.Start k) = refl
one-e1a n (in_e1a.Done k) = refl

one-e1b : (n : Pair) (stage : E1BStage) → have_one_key (row_of (e1b.run n stage).head.mech) ≡ true
one-e1b n in_e1b.Start = refl
one-e1b n (in_e1b.Done k) = refl

one-e2a : (n : Pair) (stage : E2AStage) → have_one_key (row_of (e2a.run n stage).head.mech) ≡ true
one-e2a n (in_e2a.Start k) = refl
one-e2a n (in_e2a.Heard k) = refl
one-e2a n (in_e2a.Done k) = refl

one-e2b : (n : Pair) (stage : E2BStage) → have_one_key (row_of (e2b.run n stage).head.mech) ≡ true
one-e2b n (in_e2b.Start k) = refl
one-e2b n (in_e2b.Asked k) = refl
one-e2b n (in_e2b.Done k) = refl

one-e3a : (n : Pair) (stage : E3AStage) → have_one_key (row_of (e3a.run n stage).head.mech) ≡ true
one-e3a n (in_e3a.Start k) = refl
one-e3a n (in_e3a.Sent k) = refl
one-e3a n (in_e3a.Done k) = refl

one-e3b : (n : Pair) (stage : E3BStage) → have_one_key (row_of (e3b.run n stage).head.mech) ≡ true
one-e3b n (in_e3b.Start k) = refl
one-e3b n (in_e3b.Heard k) = refl
one-e3b n (in_e3b.Done k) = refl

one-e4a : (n : Pair) (stage : E4AStage) → have_one_key (row_of (e4a.run n stage).head.mech) ≡ true
one-e4a n (in_e4a.Start k) = refl
one-e4a n (in_e4a.Heard k) = refl
one-e4a n (in_e4a.Sent k) = refl
one-e4a n (in_e4a.Done k) = refl

one-e4b : (n : Pair) (stage : E4BStage) → have_one_key (row_of (e4b.run n stage).head.mech) ≡ true
one-e4b n (in_e4b.Start k) = refl
one-e4b n (in_e4b.Asked k) = refl
one-e4b n (in_e4b.Heard k) = refl
one-e4b n (in_e4b.Done k) = refl

one-c1a : (n : Pair) (stage : C1AStage) → have_one_key (row_of (c1a.run n stage).head.mech) ≡ true
one-c1a n (in_c1a.Start k) = refl
one-c1a n (in_c1a.Done k) = refl

one-c1b : (n : Pair) (stage : C1BStage) → have_one_key (row_of (c1b.run n stage).head.mech) ≡ true
one-c1b n in_c1b.Start = refl
one-c1b n (in_c1b.Done k) = refl

one-c2a : (n : Pair) (stage : C2AStage) → have_one_key (row_of (c2a.run n stage).head.mech) ≡ true
one-c2a n (in_c2a.Start k) = refl
one-c2a n (in_c2a.Heard k) = refl
one-c2a n (in_c2a.Done k) = refl

one-c2b : (n : Pair) (stage : C2BStage) → have_one_key (row_of (c2b.run n stage).head.mech) ≡ true
one-c2b n (in_c2b.Start k) = refl
one-c2b n (in_c2b.Asked k) = refl
one-c2b n (in_c2b.Done k) = refl

one-c3a : (n : Pair) (stage : C3AStage) → have_one_key (row_of (c3a.run n stage).head.mech) ≡ true
one-c3a n (in_c3a.Start k) = refl
one-c3a n (in_c3a.Sent k) = refl
one-c3a n (in_c3a.Done k) = refl

one-c3b : (n : Pair) (stage : C3BStage) → have_one_key (row_of (c3b.run n stage).head.mech) ≡ true
one-c3b n (in_c3b.Start k) = refl
one-c3b n (in_c3b.Heard k) = refl
one-c3b n (in_c3b.Done k) = refl

one-c4a : (n : Pair) (stage : C4AStage) → have_one_key (row_of (c4a.run n stage).head.mech) ≡ true
one-c4a n (in_c4a.Start k) = refl
one-c4a n (in_c4a.Heard k) = refl
one-c4a n (in_c4a.Sent k) = refl
one-c4a n (in_c4a.Done k) = refl

one-c4b : (n : Pair) (stage : C4BStage) → have_one_key (row_of (c4b.run n stage).head.mech) ≡ true
one-c4b n (in_c4b.Start k) = refl
one-c4b n (in_c4b.Asked k) = refl
one-c4b n (in_c4b.Heard k) = refl
one-c4b n (in_c4b.Done k) = refl

-- that of a state
pub one-key : (s : Live) → have_one_key (row_of (live_state s).head.mech) ≡ true
one-key (E (of_e.E1A s)) = one-e1a s.names s.stage
one-key (E (of_e.E1B s)) = one-e1b s.names s.stage
one-key (E (of_e.E2A s)) = one-e2a s.names s.stage
one-key (E (of_e.E2B s)) = one-e2b s.names s.stage
one-key (E (of_e.E3A s)) = one-e3a s.names s.stage
one-key (E (of_e.E3B s)) = one-e3b s.names s.stage
one-key (E (of_e.E4A s)) = one-e4a s.names s.stage
one-key (E (of_e.E4B s)) = one-e4b s.names s.stage
one-key (C (of_c.C1A s)) = one-c1a s.names s.stage
one-key (C (of_c.C1B s)) = one-c1b s.names s.stage
one-key (C (of_c.C2A s)) = one-c2a s.names s.stage
one-key (C (of_c.C2B s)) = one-c2b s.names s.stage
one-key (C (of_c.C3A s)) = one-c3a s.names s.stage
one-key (C (of_c.C3B s)) = one-c3b s.names s.stage
one-key (C (of_c.C4A s)) = one-c4a s.names s.stage
one-key (C (of_c.C4B s)) = one-c4b s.names s.stage
