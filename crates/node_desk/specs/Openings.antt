-- Why a run is not opened.
use Rattle.std.specs.Prelude.{ℕ, Bool, true, false, not, ◌==◌, ◌&&◌, ◌||◌, nat_le, Option, Some, None, if◌then◌else◌}
use Rattle.mech_rows.specs.declared.kinds.Role.TheVariants.{P}
use Rattle.mech_rows.specs.declared.refusal.Refusal.{Refusal}
use Rattle.mech_rows.specs.declared.refusal.Refusal.TheVariants.{UnknownParty, WrongKind, SelfPeer, NoKey, TableFull}
use Rattle.mech_rows.specs.Rows.{has_third}
use Rattle.mech_rows.specs.Rings.{Ring}
use Rattle.mech_rows.specs.Heads.{Head, name_of}
use Rattle.mech_rows.specs.Openings.{has_parts}
use Rattle.agreement_laws.specs.Nodes.{Node, knows, serves, open_among, opens_in}

-- each name of the head is known
abbrev pub are_known : Ring → Head → Bool
are_known ring h = knows ring h.a && (knows ring h.b && (if has_third h.mech then knows ring (name_of h P) else true))

-- A or B is a third party, or the third party is none
abbrev pub have_wrong_kinds : Ring → Head → Bool
have_wrong_kinds ring h = serves ring h.a || (serves ring h.b || (if has_third h.mech then not (serves ring (name_of h P)) else false))

-- what the ring says against a run: an unknown name, a party of the wrong kind, the own peer, or a part that is missing
abbrev pub head_refusal : Ring → Head → Option Refusal
head_refusal ring h =
    if not (are_known ring h) then Some UnknownParty
    else if have_wrong_kinds ring h then Some WrongKind
    else if h.a == h.b then Some SelfPeer
    else if not (has_parts ring h) then Some NoKey
    else None

-- 1,024 runs are open, or 4,294,967,295 were opened
abbrev pub is_full : ℕ → ℕ → Bool
is_full open_count opened = nat_le 1024 open_count || nat_le 4_294_967_295 opened

-- the first refusal, or else the other
abbrev pub first_of : Option Refusal → Option Refusal → Option Refusal
first_of (Some e) other = Some e
first_of None other = other

-- the first refusal of an opening, where so many runs are open and so many were opened
abbrev pub opening_by : Ring → ℕ → ℕ → Head → Option Refusal
opening_by ring open_count opened h = first_of (head_refusal ring h) (if is_full open_count opened then Some TableFull else None)

-- the first refusal of an opening at a node
abbrev pub opening_refusal : Node → Head → Option Refusal
opening_refusal node h = opening_by node.ring (open_among node.runs (opens_in node.log)) (opens_in node.log) h
