-- What is asked of the names, the members and the arguments of a source, so that each action of its composition can be written and read back.
use Rattle.std.specs.Prelude.{◌≡◌, ◌<◌, ℕ, Some, true, length, map, slice_get}
use Rattle.terms.specs.Meaning.{slot}
use Rattle.terms.specs.ShapeTree.{ShapeTree}
use Rattle.terms.specs.declared.scalar.Scalar.{Scalar}
use Rattle.ioa_tokens.specs.Spelling.{IsName}
use Rattle.ioa_trees.specs.Trees.{Bytes}
use Rattle.ioa_trees.specs.AutomatonRules.{MeantAutomaton}
use Rattle.ioa_trees.specs.SourceRules.{MeantComponent, MeantSource}
use Rattle.plans.specs.declared.plan.Plan.{Plan}
use Rattle.compose.specs.Instances.{argument}
use Rattle.compose.specs.Names.{automaton_at, formal_type, is_among, used_names}
use Rattle.trace.specs.Written.{IsArgument, IsMember, is_of}

-- each name that components use is a name of the language
abbrev pub AreNamed : MeantSource → Type 0
AreNamed m = (name : Bytes) → is_among (used_names m) name ≡ true → IsName name

-- each member has a name of the language, and its name has its number
abbrev pub HaveNumbers : Plan → MeantSource → Type 0
HaveNumbers plan m = (member : ℕ) → member < length m.members → IsMember plan member

-- the value may be written, and is of the type
pub record IsTyped (plan : Plan) (type : ShapeTree) (value : Scalar) : Type 0 where
  pub written : IsArgument plan value
  pub kind : is_of type value ≡ true

-- the values of the formals of each component are of their types
abbrev pub FitFormals : Plan → MeantSource → Type 0
FitFormals plan m =
    (i formal : ℕ) (c : MeantComponent) (a : MeantAutomaton) → slice_get m.components i ≡ Some c → automaton_at m.automata c.automaton ≡ Some a
    → IsTyped plan (formal_type (slice_get a.formals formal)) (slot (map argument c.arguments) formal)
