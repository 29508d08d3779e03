-- What components give up below a bound.
use Rattle.std.specs.Prelude.{◌≡◌, ℕ, ◌≤◌, ◌<◌, ◌&&◌, option_map, cond, nat_le, nat_lt, Option, None, Some, List}
use Rattle.std.specs.Prelude.{slice_get}
use Rattle.terms.specs.Datum.{Datum}
use Rattle.terms.specs.Named.{Named}
use Rattle.event_keys.specs.declared.key.Bound.{Bound}
use Rattle.event_keys.specs.Ranks.{rank_of_bound}
use Rattle.virtual_time.specs.Entries.{turn_at}
use Rattle.virtual_time.specs.Machine.{Machine}
use Rattle.virtual_time.specs.Reference.{Turn, outcome_at}
use Rattle.virtual_time.specs.Rules.{IsDone}
use Rattle.rollback.specs.ComponentView.{ComponentView, cut_at}

-- a component cut at a bound, where its number is from one on and below another
abbrev pub cut_between : {P : Type 0} → Machine (List Datum) Named → Bound → ℕ → ℕ → ℕ → ComponentView P → ComponentView P
cut_between m bound from to j c = cond (nat_le from j && nat_lt j to) (cut_at m bound c) c

-- the outcome of the own turn at the key, if there is such a component and it has done that
abbrev pub done_at : {P : Type 0} → ℕ → Option (ComponentView P) → Option (Option Named)
done_at k None = None
done_at k (Some c) = turn_at k c.history.done

-- the same, where the key is below a bound and its owner's number is from one on and below another
abbrev pub dropped_at : {P : Type 0} → Machine (List Datum) Named → ℕ → ℕ → ℕ → List (ComponentView P) → ℕ → Option (Option Named)
dropped_at m b from to cs k = cond (nat_le from (m.owner k) && (nat_lt (m.owner k) to && nat_lt k b)) (done_at k (slice_get cs (m.owner k))) None

-- component j of a setup, whose done entries are in order
pub record IsOrderly {P : Type 0} (m : Machine (List Datum) Named) (p : P) (j : ℕ) (c : ComponentView P) : Type 0 where
  pub number : c.number ≡ j
  pub setup : c.setup ≡ p
  pub low : ℕ
  pub done : IsDone m j low c.history.first c.history.base c.history.done

module _ {P : Type 0} (m : Machine (List Datum) Named) (from to : ℕ) where
  -- the components from one number on and below another are those of a setup, with their done entries in order
  abbrev pub AreOrderly : P → List (ComponentView P) → Type 0
  AreOrderly p cs = (j : ℕ) (c : ComponentView P) → from ≤ j → j < to → slice_get cs j ≡ Some c → IsOrderly m p j c

  -- these are cut at a bound, and the others stay
  abbrev pub AreCut : Bound → List (ComponentView P) → List (ComponentView P) → Type 0
  AreCut bound old new = (j : ℕ) → slice_get new j ≡ option_map (cut_between m bound from to j) (slice_get old j)

  -- the turns are those that they did below the bound
  abbrev pub AreDropped : Bound → List (ComponentView P) → List (Turn Named) → Type 0
  AreDropped bound cs turns = (k : ℕ) → outcome_at k turns ≡ dropped_at m (rank_of_bound bound) from to cs k
