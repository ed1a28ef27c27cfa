-- What a text says as a line, a world may be asked.
use Rattle.std.proofs.Common.{◌≡◌, ℕ, true, List, refl, sym, subst, None}
use Rattle.term_values.specs.Trees.{Tree}
use Rattle.mech_rows.specs.declared.kinds.Mech.{Mech}
use Rattle.mech_rows.specs.declared.kinds.Mech.TheVariants.{E1, E2, E3, E4, E5, E6, C1, C2, C3, C4, K3, K4, K5, K6, K8, K9}
use Rattle.mech_rows.specs.declared.kinds.Role.{Role}
use Rattle.mech_rows.specs.declared.kinds.Role.TheVariants.{A, B, P}
use Rattle.mech_rows.specs.Heads.{IsHead}
use Rattle.node_desk.specs.Lives.{plays_live}
use Rattle.script_text.specs.declared.line.Line.{Line}
use Rattle.script_text.specs.declared.line.Line.TheVariants as line
use Rattle.script_text.specs.Lines.{WrittenLine, AreLineValues, allow, clock, drop, give, is_end, is_offered, opening, own, revealed_pair, said, secret_pair, seq_party, silent, time_party}
use Rattle.transcript_replay.specs.Said.{IsPlayable, Says}

played : (m : Mech) (r : Role) (a b : ℕ) → is_offered m ≡ true → is_end r ≡ true → plays_live (record { mech = m; role = r; a = a; b = b; p = None }) ≡ true
played E1 A a b h k = refl
played E1 B a b h k = refl
played E2 A a b h k = refl
played E2 B a b h k = refl
played E3 A a b h k = refl
played E3 B a b h k = refl
played E4 A a b h k = refl
played E4 B a b h k = refl
played C1 A a b h k = refl
played C1 B a b h k = refl
played C2 A a b h k = refl
played C2 B a b h k = refl
played C3 A a b h k = refl
played C3 B a b h k = refl
played C4 A a b h k = refl
played C4 B a b h k = refl
played m P a b h k = absurd cc
played E5 r a b h k = absurd cc
played E6 r a b h k = absurd cc
played K3 r a b h k = absurd cc
played K4 r a b h k = absurd cc
played K5 r a b h k = absurd cc
played K6 r a b h k = absurd cc
played K8 r a b h k = absurd cc
played K9 r a b h k = absurd cc

said_playable : (sent : List Tree) (w : WrittenLine) → AreLineValues sent w → IsPlayable (said sent w)
said_playable sent silent v = tt
said_playable sent (time_party name window) v = tt
said_playable sent (seq_party name) v = tt
said_playable sent (secret_pair a b part) v = tt
said_playable sent (revealed_pair a b part) v = tt
said_playable sent (own part) v = tt
said_playable sent (allow mech slot longest start) v = tt
said_playable sent (clock name ms) v = tt
said_playable sent (opening mech role a b texts) v = played mech role a b v.0 v.1
said_playable sent (give run term) v = v.2
said_playable sent (drop run) v = tt

pub playable : (sent : List Tree) (text : List ℕ) (l : Line) → Says sent text l → IsPlayable l
playable sent text l x = subst IsPlayable (sym x.3) (said_playable sent x.0 x.1.values)

-- ---- heads

-- the run of a line has its parties
abbrev pub HasHead : Line → Type 0
HasHead (line.Open head texts) = IsHead head
HasHead (line.Clock name ms) = Unit {0}
HasHead (line.Give run term) = Unit {0}
HasHead (line.Drop run) = Unit {0}
HasHead (line.Party name kind window) = Unit {0}
HasHead (line.Pair a b part revealed) = Unit {0}
HasHead (line.Own part) = Unit {0}
HasHead (line.Allow rule) = Unit {0}
HasHead line.Empty = Unit {0}

is_headed : (m : Mech) (r : Role) (a b : ℕ) → is_offered m ≡ true → is_end r ≡ true → IsHead (record { mech = m; role = r; a = a; b = b; p = None })
is_headed E1 A a b h k = (refl, tt)
is_headed E1 B a b h k = (refl, tt)
is_headed E2 A a b h k = (refl, tt)
is_headed E2 B a b h k = (refl, tt)
is_headed E3 A a b h k = (refl, tt)
is_headed E3 B a b h k = (refl, tt)
is_headed E4 A a b h k = (refl, tt)
is_headed E4 B a b h k = (refl, tt)
is_headed C1 A a b h k = (refl, tt)
is_headed C1 B a b h k = (refl, tt)
is_headed C2 A a b h k = (refl, tt)
is_headed C2 B a b h k = (refl, tt)
is_headed C3 A a b h k = (refl, tt)
is_headed C3 B a b h k = (refl, tt)
is_headed C4 A a b h k = (refl, tt)
is_headed C4 B a b h k = (refl, tt)
is_headed m P a b h k = absurd cc
is_headed E5 r a b h k = absurd cc
is_headed E6 r a b h k = absurd cc
is_headed K3 r a b h k = absurd cc
is_headed K4 r a b h k = absurd cc
is_headed K5 r a b h k = absurd cc
is_headed K6 r a b h k = absurd cc
is_headed K8 r a b h k = absurd cc
is_headed K9 r a b h k = absurd cc

said_headed : (sent : List Tree) (w : WrittenLine) → AreLineValues sent w → HasHead (said sent w)
said_headed sent silent v = tt
said_headed sent (time_party name window) v = tt
said_headed sent (seq_party name) v = tt
said_headed sent (secret_pair a b part) v = tt
said_headed sent (revealed_pair a b part) v = tt
said_headed sent (own part) v = tt
said_headed sent (allow mech slot longest start) v = tt
said_headed sent (clock name ms) v = tt
said_headed sent (opening mech role a b texts) v = is_headed mech role a b v.0 v.1
said_headed sent (give run term) v = tt
said_headed sent (drop run) v = tt

pub headed : (sent : List Tree) (text : List ℕ) (l : Line) → Says sent text l → HasHead l
headed sent text l x = subst HasHead (sym x.3) (said_headed sent x.0 x.1.values)
