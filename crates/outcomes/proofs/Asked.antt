-- One branch more of a stage that is asked.
use Rattle.std.specs.Prelude.{◌≡◌, ◌⊎◌, ℕ, zero, suc, ◌+◌, ◌<◌, ◌≤◌, min, max, Bool as Truth, true, false, ◌&&◌, ◌||◌, List, [], ◌∷◌, ◌++◌, length, take, drop, get_or, Some, refl}
use Rattle.std.proofs.Common.{arith, ap, sym, ◌∙◌, inl, inr, set, append_assoc, true≢false}
use Rattle.std.proofs.lemmas.List.{drop_more, drop_all, take_more_set, take_all, append-nil, length-set}
use Rattle.conditions.specs.Conditions.{tests_hold, left_after, is_one_left, Binds, AreBranches}
use Rattle.conditions.specs.Reach.{same_within}
use Rattle.conditions.specs.declared.condition.Branch.{Branch}
use Rattle.conditions.specs.declared.condition.Test.{Test}
use Rattle.io_automata.specs.Tuples.{choices, picked}
use Rattle.io_automata.specs.declared.automaton.Param.{Param}
use Rattle.outcomes.specs.Solving.{IsOnly, IsOutside, IsSure}
use Rattle.terms.specs.Datum.{Datum, Just}
use Rattle.terms.specs.Meaning.{Scope, slot, value}
use Rattle.terms.specs.TermTree.{term_tree}
use Rattle.terms.specs.declared.scalar.Scalar.{Scalar}
use Rattle.terms.specs.declared.term.Term.{Term}

pub kept_length : (xs : List Truth) (b : ℕ) (x : Truth) → length (set xs b x) ≡ length xs
kept_length xs b x = length-set xs b x

module _ (scope : Scope) (state : List Datum) (branches : List Branch) where
  abbrev pub from : ℕ → List Truth → List Truth
  from b left = left_after scope state (drop b branches) (drop b left)

  -- what stands at a place, and what follows
  opened : (left : List Truth) (b : ℕ) (d : Branch) → b < length left → length branches ≡ length left → from b left ≡ (get_or left b false && tests_hold scope state (get_or branches b d).tests.items) ∷ from (b + 1) left
  opened left b d below many =
      (λ i. left_after scope state (drop_more branches b d (omega (arith, below, many)) i) (drop_more left b false below i))

  drop_set : (xs : List Truth) (b : ℕ) (x : Truth) → drop (b + 1) (set xs b x) ≡ drop (b + 1) xs
  drop_set [] b x = refl
  drop_set (y ∷ ys) zero x = refl
  drop_set (y ∷ ys) (suc b) x = let more : suc b + 1 ≡ suc (b + 1) = omega arith in ap (λ (n : ℕ). drop n (y ∷ set ys b x)) more ∙ drop_set ys b x ∙ sym (ap (λ (n : ℕ). drop n (y ∷ ys)) more)

  -- a branch that was left is asked
  pub asked_next : (left new whole : List Truth) (b : ℕ) (d : Branch) (hold : Truth) → b < length left → length branches ≡ length left → get_or left b false ≡ true → hold ≡ tests_hold scope state (get_or branches b d).tests.items → new ≡ set left b hold → take b left ++ from b left ≡ whole → take (b + 1) new ++ from (b + 1) new ≡ whole
  asked_next left new whole b d hold below many here is new_is before =
      let one : from b left ≡ hold ∷ from (b + 1) left = opened left b d below many ∙ (λ i. (here i && sym is i) ∷ from (b + 1) left) in
      (λ i. take (b + 1) (new_is i) ++ left_after scope state (drop (b + 1) branches) (drop (b + 1) (new_is i)))
      ∙ (λ i. take_more_set left b hold below i ++ left_after scope state (drop (b + 1) branches) (drop_set left b hold i))
      ∙ append_assoc (take b left) (hold ∷ []) (from (b + 1) left)
      ∙ ap (λ xs. take b left ++ xs) (sym one)
      ∙ before

  take_next : (xs : List Truth) (b : ℕ) → b < length xs → take (b + 1) xs ≡ take b xs ++ get_or xs b false ∷ []
  take_next [] b below = absurd (omega (arith, below))
  take_next (y ∷ ys) zero below = refl
  take_next (y ∷ ys) (suc b) below = let more : suc b + 1 ≡ suc (b + 1) = omega arith in ap (λ (n : ℕ). take n (y ∷ ys)) more ∙ ap (λ zs. y ∷ zs) (take_next ys b (omega (arith, below)))

  -- one that was not stays so
  pub passed_next : (left whole : List Truth) (b : ℕ) (d : Branch) → b < length left → length branches ≡ length left → get_or left b false ≡ false → take b left ++ from b left ≡ whole → take (b + 1) left ++ from (b + 1) left ≡ whole
  passed_next left whole b d below many here before =
      let one : from b left ≡ false ∷ from (b + 1) left = opened left b d below many ∙ ap (λ h. (h && tests_hold scope state (get_or branches b d).tests.items) ∷ from (b + 1) left) here in
      ap (λ xs. xs ++ from (b + 1) left) (take_next left b below ∙ ap (λ h. take b left ++ h ∷ []) here)
      ∙ append_assoc (take b left) (false ∷ []) (from (b + 1) left)
      ∙ ap (λ xs. take b left ++ xs) (sym one)
      ∙ before

  pub passed_there : (left new whole : List Truth) (b : ℕ) → b < length left → length branches ≡ length left → get_or left b false ≡ false → new ≡ left → take b left ++ from b left ≡ whole → take (b + 1) new ++ from (b + 1) new ≡ whole
  passed_there left new whole b below many here same before = (λ i. take (b + 1) (same i) ++ from (b + 1) (same i)) ∙ go branches refl where
    go : (bs : List Branch) → bs ≡ branches → take (b + 1) left ++ from (b + 1) left ≡ whole
    go [] is = absurd (omega (arith, below, many, ap length is))
    go (d ∷ bs) is = passed_next left whole b d below many here before

  none_of : (left : List Truth) (b : ℕ) → length left ≤ b → length branches ≡ length left → from b left ≡ []
  none_of left b past many = (λ i. left_after scope state (drop_all b branches (omega (arith, past, many)) i) (drop b left))

  -- all were asked
  pub asked_all : (left whole : List Truth) (b : ℕ) → length left ≤ b → length branches ≡ length left → take b left ++ from b left ≡ whole → left ≡ whole
  asked_all left whole b past many before =
      sym (take_all b left past)
      ∙ sym (append-nil (take b left))
      ∙ ap (λ xs. take b left ++ xs) (sym (none_of left b past many))
      ∙ before

  -- a branch at a place, and whether one of those behind is left
  pub one_next : (left : List Truth) (b : ℕ) (d : Branch) → b < length left → length branches ≡ length left → (get_or left b false && tests_hold scope state (get_or branches b d).tests.items) ≡ false → is_one_left (from b left) ≡ is_one_left (from (b + 1) left)
  one_next left b d below many none =
      ap is_one_left (opened left b d below many) ∙ ap (λ h. h || is_one_left (from (b + 1) left)) none

  pub one_last : (left : List Truth) (b : ℕ) → length left ≤ b → length branches ≡ length left → is_one_left (from b left) ≡ false
  one_last left b past many = ap is_one_left (none_of left b past many)

-- the branches by their places
pub branch_at : (k : ℕ) (branches : List Branch) (b : ℕ) (d : Branch) → AreBranches k branches → b < length branches → Binds k (get_or branches b d).tests.items (get_or branches b d).bound
branch_at k [] b d are below = absurd (omega (arith, below))
branch_at k (branch ∷ branches) zero d are below = are.1
branch_at k (branch ∷ branches) (suc b) d are below = branch_at k branches b d are.2 (omega (arith, below))

-- a branch that is bound holds at one place at most
pub bound_outside : (scope : Scope) (state : List Datum) (known : ℕ) (param : Param) (tests : List Test) (term : Term) → Binds (suc known) tests (Some term)
    → (p : ℕ) (others : List Scalar) → (value (term_tree term) scope state ≡ Just (picked scope.formals param p) → ⊥) → take known others ≡ take known scope.parameters → slot others known ≡ picked scope.formals param p → tests_hold (record scope { parameters = others }) state tests ≡ false
bound_outside scope state known param tests term binds p others off front is = go (tests_hold (record scope { parameters = others }) state tests) refl where
  go : (b : Truth) → tests_hold (record scope { parameters = others }) state tests ≡ b → tests_hold (record scope { parameters = others }) state tests ≡ false
  go false h = h
  go true h =
      let there = binds.1 (record scope { parameters = others }) state h in
      let same = same_within (term_tree term) scope state others scope.parameters known binds.0 front in
      absurd (off (sym same ∙ there ∙ ap Just is))

-- one that has no other test holds where it has the value of its term
pub bound_sure : (scope : Scope) (state : List Datum) (known : ℕ) (param : Param) (tests : List Test) (term : Term) (place : ℕ) → Binds (suc known) tests (Some term) → length tests ≡ 1 → value (term_tree term) scope state ≡ Just (picked scope.formals param place) → IsSure scope state known param tests place (place + 1)
bound_sure scope state known param tests term place binds one is p others low high front there =
    let same : p ≡ place = omega (arith, low, high) in
    let agree = same_within (term_tree term) scope state others scope.parameters known binds.0 front in
    binds.2 (record scope { parameters = others }) state one (agree ∙ is ∙ ap Just (ap (picked scope.formals param) (sym same) ∙ sym there))

-- where there is no test, all hold
pub none_sure : (scope : Scope) (state : List Datum) (known : ℕ) (param : Param) (tests : List Test) (low high : ℕ) → tests ≡ [] → IsSure scope state known param tests low high
none_sure scope state known param tests low high none p others least below front there = ap (tests_hold (record scope { parameters = others }) state) none

none_kept : (scope : Scope) (state : List Datum) (branches : List Branch) (left : List Truth) → length branches ≡ length left → is_one_left left ≡ false → left_after scope state branches left ≡ left
none_kept scope state [] [] many none = refl
none_kept scope state [] (here ∷ left) many none = absurd (omega (arith, many))
none_kept scope state (branch ∷ branches) [] many none = absurd (omega (arith, many))
none_kept scope state (branch ∷ branches) (true ∷ left) many none = absurd (true≢false none)
none_kept scope state (branch ∷ branches) (false ∷ left) many none = ap (λ xs. false ∷ xs) (none_kept scope state branches left (omega (arith, many)) none)

-- the one branch that is left stays so where its tests hold
pub only_kept : (scope : Scope) (state : List Datum) (branches : List Branch) (left : List Truth) (b : ℕ) (d : Branch) → length branches ≡ length left → IsOnly b left → tests_hold scope state (get_or branches b d).tests.items ≡ true → left_after scope state branches left ≡ left
only_kept scope state branches [] b d many only hold = absurd only
only_kept scope state [] (here ∷ left) b d many only hold = absurd (omega (arith, many))
only_kept scope state (branch ∷ branches) (here ∷ left) zero d many only hold =
    let others = none_kept scope state branches left (omega (arith, many)) only.1 in
    (λ i. (only.0 i && hold i) ∷ others i) ∙ ap (λ h. h ∷ left) (sym only.0)
only_kept scope state (branch ∷ branches) (here ∷ left) (suc b) d many only hold =
    let others = only_kept scope state branches left b d (omega (arith, many)) only.1 hold in
    (λ i. (only.0 i && tests_hold scope state branch.tests.items) ∷ others i) ∙ ap (λ h. h ∷ left) (sym only.0)

-- and none is left where they don't
pub only_lost : (scope : Scope) (state : List Datum) (branches : List Branch) (left : List Truth) (b : ℕ) (d : Branch) → length branches ≡ length left → IsOnly b left → tests_hold scope state (get_or branches b d).tests.items ≡ false → is_one_left (left_after scope state branches left) ≡ false
only_lost scope state branches [] b d many only lost = absurd only
only_lost scope state [] (here ∷ left) b d many only lost = absurd (omega (arith, many))
only_lost scope state (branch ∷ branches) (here ∷ left) zero d many only lost =
    let others = none_kept scope state branches left (omega (arith, many)) only.1 in
    (λ i. (only.0 i && lost i) || is_one_left (others i)) ∙ only.1
only_lost scope state (branch ∷ branches) (here ∷ left) (suc b) d many only lost =
    let others = only_lost scope state branches left b d (omega (arith, many)) only.1 lost in
    λ i. (only.0 i && tests_hold scope state branch.tests.items) || others i

pub one_alone : (left : List Truth) (b : ℕ) → IsOnly b left → is_one_left left ≡ true
one_alone [] b only = absurd only
one_alone (here ∷ left) zero only = ap (λ h. h || is_one_left left) only.0
one_alone (here ∷ left) (suc b) only = ap (λ h. h || is_one_left left) only.0 ∙ one_alone left b only.1

pub only_one : (left : List Truth) (b : ℕ) → IsOnly b left → b < length left
only_one [] b only = absurd only
only_one (here ∷ left) zero only = omega arith
only_one (here ∷ left) (suc b) only = let below = only_one left b only.1 in omega (arith, below)

-- the range of one branch more, where it is left
pub range_next : (scope : Scope) (state : List Datum) (known : ℕ) (param : Param) (branches : List Branch) (left : List Truth) (b low high some_low some_high new_low new_high : ℕ) (d : Branch) → b < length left → length branches ≡ length left → IsOutside scope state known param (get_or branches b d).tests.items some_low some_high → new_low ≡ min low some_low → new_high ≡ max high some_high
    → ((p : ℕ) (others : List Scalar) → p < choices param → (p < low) ⊎ (high ≤ p) → take known others ≡ take known scope.parameters → slot others known ≡ picked scope.formals param p → is_one_left (left_after (record scope { parameters = others }) state branches left) ≡ is_one_left (left_after (record scope { parameters = others }) state (drop b branches) (drop b left)))
    → ((p : ℕ) (others : List Scalar) → p < choices param → (p < new_low) ⊎ (new_high ≤ p) → take known others ≡ take known scope.parameters → slot others known ≡ picked scope.formals param p → is_one_left (left_after (record scope { parameters = others }) state branches left) ≡ is_one_left (left_after (record scope { parameters = others }) state (drop (b + 1) branches) (drop (b + 1) left)))
range_next scope state known param branches left b low high some_low some_high new_low new_high d below many outside low_is high_is before p others less out front is =
    before p others less (wider out) front is ∙ one_next (record scope { parameters = others }) state branches left b d below many fails where
      wider : (p < new_low) ⊎ (new_high ≤ p) → (p < low) ⊎ (high ≤ p)
      wider (inl h) = inl (omega (arith, h, low_is))
      wider (inr h) = inr (omega (arith, h, high_is))

      own : (p < new_low) ⊎ (new_high ≤ p) → (p < some_low) ⊎ (some_high ≤ p)
      own (inl h) = inl (omega (arith, h, low_is))
      own (inr h) = inr (omega (arith, h, high_is))

      never : (a b : Truth) → b ≡ false → (a && b) ≡ false
      never true b h = h
      never false b h = refl

      fails : (get_or left b false && tests_hold (record scope { parameters = others }) state (get_or branches b d).tests.items) ≡ false
      fails = never (get_or left b false) (tests_hold (record scope { parameters = others }) state (get_or branches b d).tests.items) (outside p others less (own out) front is)

-- and where it is not
pub range_kept : (scope : Scope) (state : List Datum) (known : ℕ) (param : Param) (branches : List Branch) (left : List Truth) (b low high new_low new_high : ℕ) → b < length left → length branches ≡ length left → get_or left b false ≡ false → new_low ≡ low → new_high ≡ high
    → ((p : ℕ) (others : List Scalar) → p < choices param → (p < low) ⊎ (high ≤ p) → take known others ≡ take known scope.parameters → slot others known ≡ picked scope.formals param p → is_one_left (left_after (record scope { parameters = others }) state branches left) ≡ is_one_left (left_after (record scope { parameters = others }) state (drop b branches) (drop b left)))
    → ((p : ℕ) (others : List Scalar) → p < choices param → (p < new_low) ⊎ (new_high ≤ p) → take known others ≡ take known scope.parameters → slot others known ≡ picked scope.formals param p → is_one_left (left_after (record scope { parameters = others }) state branches left) ≡ is_one_left (left_after (record scope { parameters = others }) state (drop (b + 1) branches) (drop (b + 1) left)))
range_kept scope state known param branches left b low high new_low new_high below many here low_is high_is before p others less out front is =
    before p others less (same out) front is ∙ go branches refl where
      same : (p < new_low) ⊎ (new_high ≤ p) → (p < low) ⊎ (high ≤ p)
      same (inl h) = inl (omega (arith, h, low_is))
      same (inr h) = inr (omega (arith, h, high_is))

      go : (bs : List Branch) → bs ≡ branches → is_one_left (left_after (record scope { parameters = others }) state (drop b branches) (drop b left)) ≡ is_one_left (left_after (record scope { parameters = others }) state (drop (b + 1) branches) (drop (b + 1) left))
      go [] e = absurd (omega (arith, below, many, ap length e))
      go (d ∷ bs) e = one_next (record scope { parameters = others }) state branches left b d below many (ap (λ h. h && tests_hold (record scope { parameters = others }) state (get_or branches b d).tests.items) here)

-- what is off one place is not that place
pub off_one : (p place : ℕ) → (p < place) ⊎ (place + 1 ≤ p) → p ≡ place → ⊥
off_one p place (inl h) same = absurd (omega (arith, h, same))
off_one p place (inr h) same = absurd (omega (arith, h, same))
