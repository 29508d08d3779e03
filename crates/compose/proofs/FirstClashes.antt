-- The first clash is the first component with which a rule is broken.
use Rattle.std.proofs.Common.{arith, ◌≡◌, ◌≤◌, ◌+◌, ◌⊎◌, inl, inr, ℕ, suc, Bool as Truth, true, false, nat_le, List, [], ◌∷◌, ◌++◌, map, Option, None, Some, refl, sym, subst}
use Rattle.std.proofs.lemmas.Bool.Decides.{nat_tests}
use Rattle.terms.specs.declared.scalar.Scalar.{Scalar}
use Rattle.io_automata.specs.Automata.{Transition, Instance}
use Rattle.io_automata.specs.Compatible.{IsCompatible}
use Rattle.compose.specs.declared.compatibility.rule.Rule.{Rule}
use Rattle.compose.specs.declared.compatibility.rule.Rule.TheVariants as rule
use Rattle.compose.specs.Rules.{IsTwice, Breaks, IsFirst}
use Rattle.compose.specs.Standings.{Stood, stood_in, stands, Has, Pair, Clash, IsFirstPair, IsFirstClash}
use Rattle.compose.proofs.ListPairs.{has_split, has_weaker, has_either, pair_weaker, pair_right, pair_split, pair_across}
use Rattle.compose.proofs.Breaking.{ClashTo, broken_by, clash_of}

-- ---- the components rise

-- a later entry of an earlier component
abbrev Falls : Stood → Stood → Type 0
Falls a b = suc b.component ≤ a.component

low_in : (b i : ℕ) (formals : List Scalar) (es : List Transition) → b ≤ i → Has (λ y. suc y.component ≤ b) (map (stood_in i formals) es) → ⊥
low_in b i formals [] l h = h
low_in b i formals (e ∷ es) l (inl h) = absurd (omega (arith, l, h))
low_in b i formals (e ∷ es) l (inr h) = low_in b i formals es l h

low : (b i : ℕ) (cs : List Instance) → b ≤ i → Has (λ y. suc y.component ≤ b) (stands i cs) → ⊥
low b i [] l h = h
low b i (c ∷ cs) l h = by (has_split (λ y. suc y.component ≤ b) (map (stood_in i c.formals) c.entries) (stands (suc i) cs) h) (low b (suc i) cs (omega (arith, l)))
  where
    by : Has (λ y. suc y.component ≤ b) (map (stood_in i c.formals) c.entries) ⊎ Has (λ y. suc y.component ≤ b) (stands (suc i) cs) → (Has (λ y. suc y.component ≤ b) (stands (suc i) cs) → ⊥) → ⊥
    by (inl k) f = low_in b i c.formals c.entries l k
    by (inr k) f = f k

rising_in : (i : ℕ) (formals : List Scalar) (es : List Transition) (rest : List Stood) → (Has (λ y. suc y.component ≤ i) rest → ⊥) → (Pair Falls rest → ⊥) → Pair Falls (map (stood_in i formals) es ++ rest) → ⊥
rising_in i formals [] rest f g h = g h
rising_in i formals (e ∷ es) rest f g (inl h) = by (has_split (λ y. suc y.component ≤ i) (map (stood_in i formals) es) rest h)
  where
    by : Has (λ y. suc y.component ≤ i) (map (stood_in i formals) es) ⊎ Has (λ y. suc y.component ≤ i) rest → ⊥
    by (inl k) = low_in i i formals es (omega arith) k
    by (inr k) = f k
rising_in i formals (e ∷ es) rest f g (inr h) = rising_in i formals es rest f g h

rising : (i : ℕ) (cs : List Instance) → Pair Falls (stands i cs) → ⊥
rising i [] h = h
rising i (c ∷ cs) h = rising_in i c.formals c.entries (stands (suc i) cs) (low i (suc i) cs (omega arith)) (rising (suc i) cs) h

compared : (m n : ℕ) → (m ≤ n) ⊎ (suc n ≤ m)
compared m n = by (nat_le m n) refl
  where
    by : (b : Truth) → nat_le m n ≡ b → (m ≤ n) ⊎ (suc n ≤ m)
    by true h = inl (grind (arith, nat_tests))
    by false h = inr (grind (arith, nat_tests))

-- ---- the first clash

module _ (rule' : Rule) (cs : List Instance) where
  -- it breaks the rule
  breaks : (j : ℕ) → IsFirstPair rule' (stands 0 cs) j → Breaks rule' cs j
  breaks j f = broken_by rule' cs j (subst (λ all. Pair (ClashTo rule' j) all) (sym f.split) (pair_across (ClashTo rule' j) f.last f.before f.after (chosen (has_either (λ a. ClashTo rule' j a f.last) (λ a. Falls a f.last) f.before (has_weaker (λ a. Clash rule' a f.last) (λ a. ClashTo rule' j a f.last ⊎ Falls a f.last) judged f.before f.clash)))))
    where
      by : (a : Stood) → Clash rule' a f.last → (a.component ≤ f.last.component) ⊎ (suc f.last.component ≤ a.component) → ClashTo rule' j a f.last ⊎ Falls a f.last
      by a c (inl h) =
          let same = f.same in
          inl (record { first = omega (arith, h, same); second = omega (arith, same); clash = c })
      by a c (inr h) = inr h

      judged : (a : Stood) → Clash rule' a f.last → ClashTo rule' j a f.last ⊎ Falls a f.last
      judged a c = by a c (compared a.component f.last.component)

      chosen : Has (λ a. ClashTo rule' j a f.last) f.before ⊎ Has (λ a. Falls a f.last) f.before → Has (λ a. ClashTo rule' j a f.last) f.before
      chosen (inl h) = h
      chosen (inr h) = absurd (rising 0 cs (subst (λ all. Pair Falls all) (sym f.split) (pair_across Falls f.last f.before f.after h)))

  -- and no earlier component does
  least : (j : ℕ) → IsFirstPair rule' (stands 0 cs) j → (k : ℕ) → Breaks rule' cs k → j ≤ k
  least j f k b = chosen (pair_split (ClashTo rule' k) (λ y. y.component ≤ k) (λ x y c. c.second) f.before (f.last ∷ f.after) (subst (λ all. Pair (ClashTo rule' k) all) f.split (clash_of rule' cs k b)))
    where
      by : (y : Stood) → y.component ≤ k → (f.last.component ≤ k) ⊎ (suc k ≤ f.last.component) → (f.last.component ≤ k) ⊎ Falls f.last y
      by y h (inl i) = inl i
      by y h (inr i) = inr (omega (arith, h, i))

      -- the entries behind the first clash that stand so low
      behind : Has (λ y. y.component ≤ k) f.after → j ≤ k
      behind h = further (compared f.last.component k)
        where
          further : (f.last.component ≤ k) ⊎ (suc k ≤ f.last.component) → j ≤ k
          further (inl i) = let same = f.same in omega (arith, i, same)
          further (inr i) = absurd (rising 0 cs (subst (λ all. Pair Falls all) (sym f.split) (pair_right Falls f.before (f.last ∷ f.after) (inl (has_weaker (λ y. y.component ≤ k) (Falls f.last) (λ y l. omega (arith, l, i)) f.after h)))))

      chosen : Pair (ClashTo rule' k) f.before ⊎ Has (λ y. y.component ≤ k) (f.last ∷ f.after) → j ≤ k
      chosen (inl h) = absurd (f.free (pair_weaker (ClashTo rule' k) (Clash rule') (λ x y c. c.clash) f.before h))
      chosen (inr (inl h)) = let same = f.same in omega (arith, h, same)
      chosen (inr (inr h)) = behind h

  pub first_breaks : (first : Option ℕ) → IsFirstClash rule' (stands 0 cs) first → IsFirst (Breaks rule' cs) first
  first_breaks None h = λ j b. h (pair_weaker (ClashTo rule' j) (Clash rule') (λ x y c. c.clash) (stands 0 cs) (clash_of rule' cs j b))
  first_breaks (Some j) h = (breaks j h, least j h)

-- ---- compatible components

pub compatible_by : (cs : List Instance) → ((rule' : Rule) (j : ℕ) → Breaks rule' cs j → ⊥) → IsCompatible cs
compatible_by cs f = record {
  input_output = λ i action p q. f rule.Own i (record { component = i; within = omega arith; action = action; twice = inl (p, q) });
  input_internal = λ i action p q. f rule.Own i (record { component = i; within = omega arith; action = action; twice = inr (inl (p, q)) });
  output_internal = λ i action p q. f rule.Own i (record { component = i; within = omega arith; action = action; twice = inr (inr (p, q)) });
  own_internals = λ i j action differ p q. f rule.Internal (i + j) (record { owner = i; other = j; within = omega arith; other_within = omega arith; apart = differ; action = action; internal = p; had = q });
  own_outputs = λ i j action differ p q. f rule.Output (i + j) (record { owner = i; other = j; within = omega arith; other_within = omega arith; apart = differ; action = action; output = p; shared = q });
}

twice_not : (cs : List Instance) → IsCompatible cs → (o : (i : ℕ) × ((action : _) × IsTwice cs i action)) → ⊥
twice_not cs c o = by o.1.1
  where
    by : IsTwice cs o.0 o.1.0 → ⊥
    by (inl h) = c.input_output o.0 o.1.0 h.0 h.1
    by (inr (inl h)) = c.input_internal o.0 o.1.0 h.0 h.1
    by (inr (inr h)) = c.output_internal o.0 o.1.0 h.0 h.1

pub unbroken_by : (cs : List Instance) → IsCompatible cs → (rule' : Rule) (j : ℕ) → Breaks rule' cs j → ⊥
unbroken_by cs c rule.Own j b = twice_not cs c (b.component, (b.action, b.twice))
unbroken_by cs c rule.Internal j b = c.own_internals b.owner b.other b.action b.apart b.internal b.had
unbroken_by cs c rule.Output j b = c.own_outputs b.owner b.other b.action b.apart b.output b.shared
