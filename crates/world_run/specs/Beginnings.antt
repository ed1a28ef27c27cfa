-- The parties of a world before its first event.
use Rattle.std.specs.Prelude.{◌≡◌, List, [], ◌∷◌}
use Rattle.mech_rows.specs.Rings.{Ring}
use Rattle.agreement_laws.specs.Configs.{Config, Party}
use Rattle.agreement_laws.specs.Worlds.{peers_by}
use Rattle.world_run.specs.declared.seat.Seat.{Seat}

-- the ring of that party
abbrev pub ring_for : Config → Party → Ring
ring_for c p = record { me = p.name; is_server = p.is_server; kind = p.kind; window = p.window; peers = peers_by c p.name c.parties }

-- the seat of a party that did nothing yet
pub record IsNewSeat (c : Config) (p : Party) (s : Seat) : Type 0 where
  pub ring : s.desk.ring ≡ ring_for c p
  pub first : s.desk.first ≡ 0
  pub log : s.desk.log ≡ []
  pub clock : s.clock ≡ 0

-- that, of each party
abbrev pub AreNewSeats : Config → List Party → List Seat → Type 0
AreNewSeats c [] [] = Unit {0}
AreNewSeats c (p ∷ ps) (s ∷ ss) = IsNewSeat c p s × AreNewSeats c ps ss
AreNewSeats c _ _ = ⊥
