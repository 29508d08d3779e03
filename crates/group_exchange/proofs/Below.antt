-- The first turns of a list, as long as they are below a bound.
use Rattle.std.proofs.Common.{◌≡◌, ℕ, ◌<◌, ◌≤◌, ◌⊎◌, inl, inr, List, [], ◌∷◌, map, refl, ap, ◌∙◌, arith}
use Rattle.std.specs.Prelude.{if◌then◌else◌, nat_lt}
use Rattle.std.proofs.lemmas.Bool.{lt-ltb, le-ltb, cases_lt}
use Rattle.terms.specs.Named.{Named}
use Rattle.event_keys.specs.declared.outcome.Turned.{Turned}
use Rattle.event_keys.specs.Ranks.{rank}
use Rattle.virtual_time.specs.Reference.{Turn, Falls}
use Rattle.virtual_time.specs.Exchange.Meetings.{turns_below, turns_from}
use Rattle.raw_events.specs.Onto.{onto}
use Rattle.task_seed.specs.Taken.{turn_of}
use Rattle.group_exchange.specs.Chunks.{first_below, first_from}

-- the list turned round, and round again from its end
pub onto_back : {X : Type 0} (before after : List X) → onto (onto before after) [] ≡ onto after before
onto_back [] after = refl
onto_back (x ∷ before) after = onto_back before (x ∷ after)

falls_rest : (T : List (Turn Named)) (acc : List (Turn Named)) → Falls (onto T acc) → Falls acc
falls_rest [] acc f = f
falls_rest (t ∷ T) acc f = (falls_rest T (t ∷ acc) f).1

-- all keys are at least b
abbrev AllAt : ℕ → List (Turn Named) → Type 0
AllAt b [] = Unit {0}
AllAt b (t ∷ ts) = (b ≤ t.key) × AllAt b ts

rising : (b : ℕ) (t : Turn Named) (T acc : List (Turn Named)) → b ≤ t.key → Falls (onto T (t ∷ acc)) → AllAt b T
rising b t [] acc l f = tt
rising b t (u ∷ T) acc l f =
    let under = (falls_rest T (u ∷ t ∷ acc) f).0.0 in
    let low : b ≤ u.key = omega (arith, l, under) in
    (low, rising b u T (t ∷ acc) low f)

below_skips : (b : ℕ) (T acc : List (Turn Named)) → AllAt b T → turns_below b (onto T acc) ≡ turns_below b acc
below_skips b [] acc all = refl
below_skips b (t ∷ T) acc all = below_skips b T (t ∷ acc) all.1 ∙ rw (le-ltb t.key b all.0) refl

from_keeps : (b : ℕ) (T acc kept : List (Turn Named)) → AllAt b T → turns_from b acc ≡ kept → turns_from b (onto T acc) ≡ onto T kept
from_keeps b [] acc kept all e = e
from_keeps b (t ∷ T) acc kept all e = from_keeps b T (t ∷ acc) (t ∷ kept) all.1 (rw (le-ltb t.key b all.0) (ap (λ l. t ∷ l) e))

seen : List Turned → List (Turn Named)
seen = map turn_of

pub below_onto : (b : ℕ) (ts : List Turned) (acc : List (Turn Named)) → Falls (onto (map turn_of ts) acc) → turns_below b acc ≡ acc → turns_below b (onto (map turn_of ts) acc) ≡ onto (map turn_of (first_below b ts)) acc
below_onto b [] acc f e = e
below_onto b (t ∷ ts) acc f e = go (below_onto b ts (turn_of t ∷ acc) f) (cases_lt (rank t.key) b)
  where
    go : (turns_below b (turn_of t ∷ acc) ≡ turn_of t ∷ acc → turns_below b (onto (map turn_of ts) (turn_of t ∷ acc)) ≡ onto (map turn_of (first_below b ts)) (turn_of t ∷ acc))
        → (rank t.key < b) ⊎ (b ≤ rank t.key) → turns_below b (onto (map turn_of ts) (turn_of t ∷ acc)) ≡ onto (map turn_of (if nat_lt (rank t.key) b then t ∷ first_below b ts else [])) acc
    go ih (inl h) = ih (rw (lt-ltb (rank t.key) b h) refl) ∙ rw (lt-ltb (rank t.key) b h) refl
    go ih (inr h) = below_skips b (map turn_of ts) (turn_of t ∷ acc) (rising b (turn_of t) (map turn_of ts) acc h f) ∙ rw (le-ltb (rank t.key) b h) e

pub from_onto : (b : ℕ) (ts : List Turned) (acc : List (Turn Named)) → Falls (onto (map turn_of ts) acc) → turns_from b acc ≡ [] → turns_from b (onto (map turn_of ts) acc) ≡ onto (map turn_of (first_from b ts)) []
from_onto b [] acc f e = e
from_onto b (t ∷ ts) acc f e = go (from_onto b ts (turn_of t ∷ acc) f) (cases_lt (rank t.key) b)
  where
    go : (turns_from b (turn_of t ∷ acc) ≡ [] → turns_from b (onto (map turn_of ts) (turn_of t ∷ acc)) ≡ onto (map turn_of (first_from b ts)) [])
        → (rank t.key < b) ⊎ (b ≤ rank t.key) → turns_from b (onto (map turn_of ts) (turn_of t ∷ acc)) ≡ onto (map turn_of (if nat_lt (rank t.key) b then first_from b ts else t ∷ ts)) []
    go ih (inl h) = ih (rw (lt-ltb (rank t.key) b h) refl) ∙ rw (lt-ltb (rank t.key) b h) refl
    go ih (inr h) = from_keeps b (map turn_of ts) (turn_of t ∷ acc) (turn_of t ∷ []) (rising b (turn_of t) (map turn_of ts) acc h f) (rw (le-ltb (rank t.key) b h) (ap (λ l. turn_of t ∷ l) e)) ∙ rw (le-ltb (rank t.key) b h) refl
