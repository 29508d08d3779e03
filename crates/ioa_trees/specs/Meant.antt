-- When what is written has a meaning.
use Rattle.std.specs.Prelude.{◌≡◌, true, Option, IsSome, List}
use Rattle.std.specs.List.{All}
use Rattle.ioa_trees.specs.Trees.{Bytes}
use Rattle.ioa_trees.specs.Scopes.{Scope, named, is_type, kind_meant, is_value}
use Rattle.ioa_trees.specs.TermRules.{value_meant}
use Rattle.ioa_trees.specs.EntryRules.{Meant}
use Rattle.ioa_trees.specs.AutomatonRules.{MeantAutomaton}
use Rattle.ioa_trees.specs.SourceRules.{MeantComponent, MeantSource}

-- each type that is named has a kind, and each name that may stand in a term has a value
pub record AllMeant (s : Scope) : Type 0 where
  pub types : (q : Bytes) → is_type (named q s) ≡ true → IsSome (kind_meant (named q s))
  pub values : (q : Bytes) → is_value (named q s) ≡ true → IsSome (value_meant (named q s))

abbrev pub AllSome : {X : Type 0} → List (Option X) → Type 0
AllSome xs = All (λ x. IsSome x) xs

-- a meaning of which no part is missing
pub record IsWholeEntry (e : Meant) : Type 0 where
  pub parameters : AllSome e.parameters
  pub pre : IsSome e.pre
  pub effect : IsSome e.effect

pub record IsWholeAutomaton (a : MeantAutomaton) : Type 0 where
  pub formals : AllSome a.formals
  pub entries : All IsWholeEntry a.entries
  pub variables : AllSome a.variables
  pub start : AllSome a.start

-- the automaton of a component may be unknown: it then has no arguments
abbrev pub IsWholeComponent : MeantComponent → Type 0
IsWholeComponent c = AllSome c.arguments

pub record IsWholeSource (x : MeantSource) : Type 0 where
  pub automata : All IsWholeAutomaton x.automata
  pub components : All IsWholeComponent x.components
