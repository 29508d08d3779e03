-- The tuples for which a condition that is solved holds, and where they stand.
use Rattle.std.specs.Prelude.{◌≡◌, ◌⊎◌, ℕ, zero, suc, ◌+◌, ◌<◌, ◌≤◌, ◌^◌, Bool as Truth, true, false, List, [], ◌∷◌, ◌++◌, length, take, drop, slice_get, Some}
use Rattle.std.specs.List.{flat_map, range_with_len}
use Rattle.conditions.specs.Conditions.{left_after, left_after_all, is_one_left, tests_hold, AreApart, AreStages, AreWithout}
use Rattle.conditions.specs.declared.condition.Branch.{Branch}
use Rattle.conditions.specs.declared.condition.Stage.{Stage}
use Rattle.conditions.specs.declared.condition.Test.{Test}
use Rattle.terms.specs.Datum.{Datum, Just}
use Rattle.terms.specs.Meaning.{Scope, slot}
use Rattle.terms.specs.declared.scalar.Listed.{Listed}
use Rattle.terms.specs.declared.scalar.Scalar.{Scalar}
use Rattle.io_automata.specs.Steps.{scope_in}
use Rattle.io_automata.specs.Tuples.{many, choices, picked, tuple_at}
use Rattle.io_automata.specs.WellFormed.{is_complete}
use Rattle.io_automata.specs.declared.automaton.Param.{Param}
use Rattle.io_automata.specs.declared.automaton.Param.TheVariants.{Member}
use Rattle.outcomes.specs.declared.spans.Span.{Span}
use Rattle.outcomes.specs.declared.node.Node.{Node}

-- the places of tuples in some spans
abbrev pub places_in : List Span → List ℕ
places_in spans = flat_map (λ (span : Span). range_with_len span.from span.count) spans

-- a branch of those that are left is left after the stages to come, with these arguments
abbrev pub passes : List Scalar → List Datum → List Stage → List Truth → List Scalar → Truth
passes formals state stages left args = is_one_left (left_after_all (scope_in formals args) state stages left)

-- the listed types have all their members
abbrev pub AreComplete : List Param → Type 0
AreComplete params = (k : ℕ) (members : Listed) → slice_get params k ≡ Some (Member members) → is_complete members ≡ true

-- each stage has n branches
abbrev pub AreAsMany : ℕ → List Stage → Type 0
AreAsMany n [] = n ≡ n
AreAsMany n (stage ∷ stages) = (length stage.branches.items ≡ n) × AreAsMany n stages

-- branch b is left, and no other
abbrev pub IsOnly : ℕ → List Truth → Type 0
IsOnly b [] = ⊥
IsOnly zero (here ∷ left) = (here ≡ true) × (is_one_left left ≡ false)
IsOnly (suc b) (here ∷ left) = (here ≡ false) × IsOnly b left

-- there is a stage to come, and none after it mentions parameter p
abbrev pub AreLaterWithout : ℕ → List Stage → Type 0
AreLaterWithout p [] = ⊥
AreLaterWithout p (stage ∷ stages) = AreWithout p stages

-- At a node the first parameters have values, and the stages that they decide were asked. The tuples that begin with these values follow each other.
pub record IsNode (formals args : List Scalar) (node : Node) : Type 0 where
  pub room : length args ≡ length node.all.now
  pub known : node.known ≤ length node.all.now
  pub count : node.count ≡ many (drop node.known node.all.now)
  pub some : 0 < node.count
  pub within : node.from + node.count < 2 ^ 64
  pub reached : (j : ℕ) → j < node.count → tuple_at formals node.all.now (node.from + j) ≡ take node.known args ++ tuple_at formals (drop node.known node.all.now) j
  pub stages : AreStages (length node.left.now) (suc node.known) node.stages.now
  pub apart : AreApart (suc node.known) node.stages.now
  pub few : length node.left.now ≤ 16
  pub complete : AreComplete node.all.now

-- the listed type of a parameter has all its members
abbrev pub IsComplete : Param → Type 0
IsComplete param = (members : Listed) → param ≡ Member members → is_complete members ≡ true

-- Whatever the later arguments are, the tests don't hold where the next parameter has a value at a place below low or from high on.
abbrev pub IsOutside : Scope → List Datum → ℕ → Param → List Test → ℕ → ℕ → Type 0
IsOutside scope state known param tests low high =
    (p : ℕ) (others : List Scalar) → p < choices param → (p < low) ⊎ (high ≤ p) → take known others ≡ take known scope.parameters → slot others known ≡ picked scope.formals param p
    → tests_hold (record scope { parameters = others }) state tests ≡ false

-- the tests hold where it has a value at a place from low on and below high
abbrev pub IsSure : Scope → List Datum → ℕ → Param → List Test → ℕ → ℕ → Type 0
IsSure scope state known param tests low high =
    (p : ℕ) (others : List Scalar) → low ≤ p → p < high → take known others ≡ take known scope.parameters → slot others known ≡ picked scope.formals param p
    → tests_hold (record scope { parameters = others }) state tests ≡ true

-- a parameter has this value at this place, and at no other
pub record IsPlaceOf (value : Datum) (formals : List Scalar) (param : Param) (at : ℕ) : Type 0 where
  pub below : at < choices param
  pub there : value ≡ Just (picked formals param at)
  pub only : (p : ℕ) → p < choices param → value ≡ Just (picked formals param p) → p ≡ at

-- it has this value nowhere
abbrev pub IsNowhere : Datum → List Scalar → Param → Type 0
IsNowhere value formals param = (p : ℕ) → p < choices param → value ≡ Just (picked formals param p) → ⊥

-- Where it has a value at a place below low or from high on, no branch is left after the next stage.
abbrev pub IsRange : Scope → List Datum → ℕ → Param → List Branch → List Truth → ℕ → ℕ → Type 0
IsRange scope state known param branches left low high =
    (p : ℕ) (others : List Scalar) → p < choices param → (p < low) ⊎ (high ≤ p) → take known others ≡ take known scope.parameters → slot others known ≡ picked scope.formals param p
    → is_one_left (left_after (record scope { parameters = others }) state branches left) ≡ false
