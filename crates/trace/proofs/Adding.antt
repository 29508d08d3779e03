-- Texts that go out one after another.
use Rattle.std.proofs.Common.{◌≡◌, ℕ, ◌+◌, ◌<◌, List, [], ◌∷◌, ◌++◌, length, take, drop, get_or, subst, sym, ap, ◌∙◌}
use Rattle.std.specs.Prelude.{Option, Result, Ok, Err, IfOk, IfErr, flat_map}
use Rattle.std.proofs.lemmas.Grind.{flat_map-append}
use Rattle.std.proofs.lemmas.List.{flat_map_more, take_more, take-append-drop}
use Rattle.trace.specs.declared.counted.Counted.{Counted}
use Rattle.trace.specs.declared.fault.WriteFault.{WriteFault}
use Rattle.trace.specs.Puts.{Puts, Stops}
use Rattle.trace.specs.Given.{puts_nothing, then_puts, then_stops, stops}

-- the texts of the items so far, and of one more
text_more : {X : Type 0} (f : X → List ℕ) (xs : List X) (i : ℕ) (d : X) → i < length xs → flat_map f (take i xs) ++ f (get_or xs i d) ≡ flat_map f (take (i + 1) xs)
text_more f xs i d low = flat_map_more f [] (take i xs) (get_or xs i d) ∙ ap (flat_map f) (sym (take_more xs i d low))

module _ {W : Type 0} {known : W → Option (List ℕ)} where
  -- the write failed after one byte, which the text shows in front
  pub then_stops_after : {a b c : Counted W} {m n x : ℕ} {t : List ℕ} {e : WriteFault} → Puts known a b m n (x ∷ []) → Stops known b c n t e → Stops known a c m (x ∷ t) e
  then_stops_after p q = then_stops p q

  -- one text, and then another, where the answer may be a fault
  pub then_fails : {a b : Counted W} {m n : ℕ} {s : List ℕ} (c : Counted W) (t : List ℕ) (r : Result ℕ WriteFault) → Puts known a b m n s → IfErr r (λ e. Stops known b c n t e) → IfErr r (λ e. Stops known a c m (s ++ t) e)
  then_fails c t (Ok after) p q = tt
  then_fails c t (Err fault) p q = then_stops p q

  pub then_goes_on : {a b : Counted W} {m n : ℕ} {s : List ℕ} (c : Counted W) (t : List ℕ) (r : Result ℕ WriteFault) → Puts known a b m n s → IfOk r (λ o. Puts known b c n o t) → IfOk r (λ o. Puts known a c m o (s ++ t))
  then_goes_on c t (Ok after) p q = then_puts p q
  then_goes_on c t (Err fault) p q = tt

  -- one more item's text went out
  pub puts_one_more : {X : Type 0} (f : X → List ℕ) (xs : List X) (i : ℕ) (d : X) {a b c : Counted W} {m n o : ℕ} → i < length xs
      → Puts known a b m n (flat_map f (take i xs)) → Puts known b c n o (f (get_or xs i d)) → Puts known a c m o (flat_map f (take (i + 1) xs))
  puts_one_more f xs i d {a} {b} {c} {m} {n} {o} low p q = subst (Puts known a c m o) (text_more f xs i d low) (then_puts p q)

  -- the write failed in the text of one of the items
  pub stops_at_one : {X : Type 0} (f : X → List ℕ) (xs : List X) (i : ℕ) (d : X) {a b c : Counted W} {m n : ℕ} {e : WriteFault} → i < length xs
      → Puts known a b m n (flat_map f (take i xs)) → Stops known b c n (f (get_or xs i d)) e → Stops known a c m (flat_map f xs) e
  stops_at_one f xs i d {a} {b} {c} {m} {n} {e} low p q =
      let whole : flat_map f (take (i + 1) xs) ++ flat_map f (drop (i + 1) xs) ≡ flat_map f xs = sym (flat_map-append f (take (i + 1) xs) (drop (i + 1) xs)) ∙ ap (flat_map f) (take-append-drop (i + 1) xs) in
      subst (λ w. Stops known a c m w e) whole (stops (flat_map f (drop (i + 1) xs)) (subst (λ w. Stops known a c m w e) (text_more f xs i d low) (then_stops p q)))

pub ruleset steps = (then_puts, then_stops, stops, then_stops_after)

pub ruleset items = (puts_nothing, puts_one_more, stops_at_one)
