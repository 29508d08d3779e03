-- Turns in a window.
use Rattle.std.proofs.Common.{◌≡◌, ℕ, zero, suc, ◌≤◌, ◌&&◌, Bool, true, false, List, [], ◌∷◌, cond, length, take, refl, subst, sym, arith}
use Rattle.std.specs.Prelude.{filter, nat_le}
use Rattle.std.proofs.lemmas.Bool.{leb-true}
use Rattle.event_keys.specs.declared.outcome.Turned.{Turned}
use Rattle.drawing.specs.declared.window.Window.{Window}
use Rattle.drawing.specs.Turns.{AreWithin, is_within}

-- what both tests say
both : (a b : Bool) → (a && b) ≡ true → (a ≡ true) × (b ≡ true)
both true b h = (refl, h)
both false b h = cc

-- the turns of a window are from its first tick on, and no later than its last one
pub filter_within : (window : Window) → window.to ≤ 4294967296 → (turns : List Turned) → AreWithin window.from (filter (is_within window) turns)
filter_within window short [] = tt
filter_within window short (turned ∷ turns) = go (filter_within window short turns) (is_within window turned) refl where
  rest : List Turned
  rest = filter (is_within window) turns

  go : AreWithin window.from rest → (b : Bool) → is_within window turned ≡ b → AreWithin window.from (cond (is_within window turned) (turned ∷ rest) rest)
  go later true h =
      let tests = both (nat_le window.from turned.key.tick) (nat_le turned.key.tick window.to) h in
      let from = leb-true window.from turned.key.tick tests.0 in
      let to = leb-true turned.key.tick window.to tests.1 in
      subst (λ (k : Bool). AreWithin window.from (cond k (turned ∷ rest) rest)) (sym h) (from, omega (arith, to, short), later)
  go later false h = subst (λ (k : Bool). AreWithin window.from (cond k (turned ∷ rest) rest)) (sym h) later

pub take_within : (from n : ℕ) (turns : List Turned) → AreWithin from turns → AreWithin from (take n turns)
take_within from zero turns is = tt
take_within from (suc n) [] is = tt
take_within from (suc n) (turned ∷ turns) is = (is.0, is.1, take_within from n turns is.2)

-- a first part has no more than it was to have
pub take_few : {A : Type 0} (n : ℕ) (l : List A) → length (take n l) ≤ n
take_few zero l = omega arith
take_few (suc n) [] = omega arith
take_few (suc n) (x ∷ l) = let h = take_few n l in omega (arith, h)
