-- When a lease is the one that is known of its component.
use Rattle.std.specs.Prelude.{◌≡◌, List}
use Rattle.terms.specs.Datum.{Datum}
use Rattle.terms.specs.Named.{Named}
use Rattle.event_keys.specs.Ranks.{rank_of_bound}
use Rattle.virtual_time.specs.Machine.{Machine}
use Rattle.rollback.specs.Matched.{IsTaken, IsStanding}
use Rattle.exchange.specs.declared.stub.Stub.{Stub}
use Rattle.exchange.specs.LeaseView.{LeaseView}

-- base, floor, taken messages and standing sends are those of the stub
pub record IsKnown {P : Type 0} (m : Machine (List Datum) Named) (stub : Stub) (h : LeaseView P) : Type 0 where
  pub base : rank_of_bound h.component.base ≡ rank_of_bound stub.base
  pub floor : rank_of_bound h.floor ≡ rank_of_bound stub.floor
  pub taken : IsTaken m h.component.number h.component.history stub.taken h.tray
  pub standing : IsStanding m h.component.number h.component.history stub.standing h.out
