-- The own turns among the done entries below a bound.
use Rattle.std.proofs.Common.{◌≡◌, ℕ, ◌<◌, ◌≤◌, ◌⊎◌, inl, inr, Some, List, [], ◌∷◌, ap, sym, subst, ◌∙◌, arith}
use Rattle.std.proofs.lemmas.Bool.{cases_eq, cases_lt}
use Rattle.virtual_time.specs.Machine.{Lawful, Machine}
use Rattle.virtual_time.specs.Reference.{AllBelow, Falls, IsAmong, Turn}
use Rattle.virtual_time.specs.Entries.{Entry, Input, Own, below, number, turn_at}
use Rattle.virtual_time.specs.Records.{turns_among}
use Rattle.virtual_time.specs.Rules.{IsDone}
use Rattle.virtual_time.proofs.Cuts.{IsDone-below, Some≢None, turn_here, turn_past}
use Rattle.virtual_time.proofs.Joint.{AllBelow-weaken, own_owner}
use Rattle.virtual_time.proofs.Gathered.{below_member}
use Rattle.virtual_time.proofs.Exchange.Ones.{turn_above, turn_below}

module _ {S A : Type 0} (machine : Machine S A) (law : Lawful machine) (i g n : ℕ) (s : S) where
  all_below : (es : List (Entry A)) → IsDone machine i g n s es → AllBelow (machine.key i (number n es)) (turns_among es)
  all_below [] d = tt
  all_below (Own k o ∷ es) d =
      let e = d.0 in
      let l = d.1 in
      let up = law.rises i (number n es) (omega arith) in
      (omega arith, AllBelow-weaken machine law (machine.key i (number n es)) (machine.key i (number n (Own k o ∷ es))) (turns_among es) (omega arith) (all_below es d.4))
  all_below (Input x ∷ es) d = all_below es d.2

  turns_fall : (es : List (Entry A)) → IsDone machine i g n s es → Falls (turns_among es)
  turns_fall [] d = tt
  turns_fall (Own k o ∷ es) d = (subst (λ (c : ℕ). AllBelow c (turns_among es)) (sym d.0) (all_below es d.4), turns_fall es d.4)
  turns_fall (Input x ∷ es) d = turns_fall es d.2

  among_at : (t : Turn A) (es : List (Entry A)) → IsDone machine i g n s es → IsAmong t (turns_among es) → turn_at t.key es ≡ Some t.outcome
  among_at t [] d m = absurd m
  among_at t (Own k o ∷ es) d (inl e) = turn_here t.key k o es (sym (ap (λ (u : Turn A). u.key) e)) ∙ ap (λ (u : Turn A). Some u.outcome) (sym e)
  among_at t (Own k o ∷ es) d (inr m) =
      let low : t.key < machine.key i (number n es) = below_member (machine.key i (number n es)) t (turns_among es) (all_below es d.4) m in
      let e = d.0 in
      turn_past t.key k o es (λ (q : k ≡ t.key). omega arith) ∙ among_at t es d.4 m
  among_at t (Input x ∷ es) d m = among_at t es d.2 m

  at_among : (t : Turn A) (es : List (Entry A)) → turn_at t.key es ≡ Some t.outcome → IsAmong t (turns_among es)
  at_among t [] h = absurd (Some≢None t.outcome (sym h))
  at_among t (Own k o ∷ es) h = go (cases_eq k t.key) (at_among t es)
    where
      go : (k ≡ t.key) ⊎ (k ≡ t.key → ⊥) → (turn_at t.key es ≡ Some t.outcome → IsAmong t (turns_among es)) → IsAmong t (turns_among (Own k o ∷ es))
      go (inl e) ih =
          let f : Some o ≡ Some t.outcome = sym (turn_here t.key k o es e) ∙ h in
          let q : o ≡ t.outcome = cc in
          inl (λ v. record { key = sym e v; outcome = sym q v })
      go (inr ne) ih = inr (ih (sym (turn_past t.key k o es ne) ∙ h))
  at_among t (Input x ∷ es) h = at_among t es h

  pub dropped_fall : (b : ℕ) (es : List (Entry A)) → IsDone machine i g n s es → Falls (turns_among (below b es))
  dropped_fall b es d = turns_fall (below b es) (IsDone-below machine law i g n s b es d)

  pub dropped_only : (b : ℕ) (t : Turn A) (es : List (Entry A)) → IsDone machine i g n s es → IsAmong t (turns_among (below b es)) → (t.key < b) × (turn_at t.key es ≡ Some t.outcome) × (machine.owner t.key ≡ i)
  dropped_only b t es d m = go (cases_lt t.key b) (among_at t (below b es) (IsDone-below machine law i g n s b es d) m)
    where
      go : (t.key < b) ⊎ (b ≤ t.key) → turn_at t.key (below b es) ≡ Some t.outcome → (t.key < b) × (turn_at t.key es ≡ Some t.outcome) × (machine.owner t.key ≡ i)
      go (inl l) h = let q : turn_at t.key es ≡ Some t.outcome = sym (turn_below machine law i g n s b t.key es d l) ∙ h in (l, q, own_owner machine law i g n s t.key t.outcome es d q)
      go (inr l) h = absurd (Some≢None t.outcome (sym h ∙ turn_above machine law i g n s b t.key es d l))

  pub dropped_all : (b : ℕ) (t : Turn A) (es : List (Entry A)) → IsDone machine i g n s es → t.key < b → turn_at t.key es ≡ Some t.outcome → IsAmong t (turns_among (below b es))
  dropped_all b t es d l h = at_among t (below b es) (turn_below machine law i g n s b t.key es d l ∙ h)
