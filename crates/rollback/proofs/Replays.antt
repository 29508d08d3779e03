-- Entries and states, cut at a bound.
use Rattle.std.proofs.Common.{◌≡◌, ℕ, suc, Bool, true, false, cond, nat_lt, List, [], ◌∷◌, ◌++◌, length, take, refl, ap}
use Rattle.virtual_time.specs.Entries.{Entry, Input, Own, below, by_own, entry_key, from, number, replay}
use Rattle.virtual_time.specs.Machine.{Machine}
use Rattle.terms.specs.Datum.{Datum}
use Rattle.undo_records.specs.First.{oldest}
use Rattle.rollback.specs.Replays.{replays_below}

pub from_below : {A : Type 0} (c : ℕ) (es : List (Entry A)) → from c es ++ below c es ≡ es
from_below c [] = refl
from_below c (e ∷ es) = go (from_below c es) (nat_lt (entry_key e) c) where
  go : from c es ++ below c es ≡ es → (b : Bool) → cond b [] (e ∷ from c es) ++ cond b (e ∷ es) (below c es) ≡ e ∷ es
  go rest true = refl
  go rest false = ap (λ xs. e ∷ xs) rest

pub number_cut : {A : Type 0} (c n : ℕ) (es : List (Entry A)) → number (number n (below c es)) (from c es) ≡ number n es
number_cut c n [] = refl
number_cut c n (Own k o ∷ es) = go (number_cut c n es) (nat_lt k c) where
  go : number (number n (below c es)) (from c es) ≡ number n es → (b : Bool) → number (number n (cond b (Own k o ∷ es) (below c es))) (cond b [] (Own k o ∷ from c es)) ≡ suc (number n es)
  go rest true = refl
  go rest false = ap suc rest
number_cut c n (Input x ∷ es) = go (number_cut c n es) (nat_lt x.key c) where
  go : number (number n (below c es)) (from c es) ≡ number n es → (b : Bool) → number (number n (cond b (Input x ∷ es) (below c es))) (cond b [] (Input x ∷ from c es)) ≡ number n es
  go rest true = refl
  go rest false = rest

pub oldest_replay : {A : Type 0} (m : Machine (List Datum) A) (i : ℕ) (base : List Datum) (es : List (Entry A)) → oldest (replay m i base es) (replays_below m i base es) ≡ base
oldest_replay m i base [] = refl
oldest_replay m i base (e ∷ es) = oldest_replay m i base es

module _ {S A : Type 0} (m : Machine S A) (i : ℕ) where
  pub length_replays : (base : S) (es : List (Entry A)) → length (replays_below m i base es) ≡ length es
  length_replays base [] = refl
  length_replays base (e ∷ es) = ap suc (length_replays base es)

  -- one more entry on two lists that lead to one state
  replay_more : (s t : S) (e : Entry A) (es fs : List (Entry A)) → replay m i s es ≡ replay m i t fs → replay m i s (e ∷ es) ≡ replay m i t (e ∷ fs)
  replay_more s t (Own k o) es fs h = ap (by_own m i o) h
  replay_more s t (Input x) es fs h = ap (m.apply i x.action) h

  pub replay_cut : (c : ℕ) (base : S) (es : List (Entry A)) → replay m i (replay m i base (below c es)) (from c es) ≡ replay m i base es
  replay_cut c base [] = refl
  replay_cut c base (e ∷ es) = go (replay_cut c base es) (nat_lt (entry_key e) c) where
    go : replay m i (replay m i base (below c es)) (from c es) ≡ replay m i base es → (b : Bool) → replay m i (replay m i base (cond b (e ∷ es) (below c es))) (cond b [] (e ∷ from c es)) ≡ replay m i base (e ∷ es)
    go rest true = refl
    go rest false = replay_more (replay m i base (below c es)) base e (from c es) es rest

  pub replays_cut : (c : ℕ) (base : S) (es : List (Entry A)) → replays_below m i (replay m i base (below c es)) (from c es) ≡ take (length (from c es)) (replays_below m i base es)
  replays_cut c base [] = refl
  replays_cut c base (e ∷ es) = go (replays_cut c base es) (nat_lt (entry_key e) c) where
    go : replays_below m i (replay m i base (below c es)) (from c es) ≡ take (length (from c es)) (replays_below m i base es)
        → (b : Bool) → replays_below m i (replay m i base (cond b (e ∷ es) (below c es))) (cond b [] (e ∷ from c es)) ≡ take (length (cond b [] (e ∷ from c es))) (replays_below m i base (e ∷ es))
    go rest true = refl
    go rest false = let first = replay_cut c base es in λ k. first k ∷ rest k
