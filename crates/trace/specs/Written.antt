-- What the lines of a trace file say, and how they are written.
use Rattle.std.specs.Prelude.{◌≡◌, ℕ, ◌+◌, ◌^◌, ◌<◌, nat_le, nat_lt, Bool, true, false, ◌&&◌, List, [], ◌∷◌, ◌++◌, codes, slice_get, Some, FitsSigned}
use Rattle.std.specs.Int.{w64}
use Rattle.std.specs.List.{AllByRecursion}
use Rattle.terms.specs.Named.{Named}
use Rattle.terms.specs.ShapeTree.{ShapeTree}
use Rattle.terms.specs.ShapeTree as shape
use Rattle.terms.specs.declared.scalar.Listed.TheVariants as listed
use Rattle.terms.specs.declared.scalar.Scalar.{Scalar}
use Rattle.terms.specs.declared.scalar.Scalar.TheVariants.{Int, Bool as Truth, Member}
use Rattle.ioa_tokens.specs.Spelling.{IsName}
use Rattle.event_keys.specs.declared.key.Key.{Key}
use Rattle.plans.specs.declared.plan.Plan.{Plan}
use Rattle.plans.specs.Plans.{action_texts, action_types, member_texts}
use Rattle.trace.specs.Lines.{name_at, arguments_text, key_text}

-- a name's number is the place, below 2 ^ 16, where it stands first
pub record IsNumberOf (names : List (List ℕ)) (text : List ℕ) (number : ℕ) : Type 0 where
  pub fits : number < 2 ^ 16
  pub is : slice_get names number ≡ Some text
  pub first : (k : ℕ) → k < number → slice_get names k ≡ Some text → ⊥

-- a member of an enumeration that has a name, and whose name has its number
pub record IsMember (plan : Plan) (member : ℕ) : Type 0 where
  pub name : IsName (name_at (member_texts plan) member)
  pub number : IsNumberOf (member_texts plan) (name_at (member_texts plan) member) member

-- an argument may be a whole number of 64 bits with a sign, a truth value, or a member of an enumeration
abbrev pub IsArgument : Plan → Scalar → Type 0
IsArgument plan (Int number) = FitsSigned w64 number
IsArgument plan (Truth value) = Unit {0}
IsArgument plan (Member member) = IsMember plan member

-- a name with arguments
pub record Written : Type 0 where
  pub name : List ℕ
  pub args : List Scalar

abbrev pub written_text : Plan → Written → List ℕ
written_text plan written = written.name ++ arguments_text plan written.args

-- the name is a name of the language, and the arguments are such as may be written
pub record IsWritten (plan : Plan) (written : Written) : Type 0 where
  pub name : IsName written.name
  pub args : AllByRecursion (IsArgument plan) written.args

-- a line has an action alone, a turn's key with its action, or the key of an idle turn
pub data Line : Type 0 where
  Alone : Written → Line
  Turn : Key → Written → Line
  Idle : Key → Line

-- the line's text, without its line feed
abbrev pub line_text : Plan → Line → List ℕ
line_text plan (Alone written) = written_text plan written
line_text plan (Turn key written) = key_text key ++ written_text plan written
line_text plan (Idle key) = key_text key ++ codes "idle"

-- the three numbers of a key are of 64 bits, and nothing else is asked of them
pub record IsKey (key : Key) : Type 0 where
  pub tick : key.tick < 2 ^ 64
  pub component : key.component < 2 ^ 64
  pub number : key.number < 2 ^ 64

abbrev pub IsLine : Plan → Line → Type 0
IsLine plan (Alone written) = IsWritten plan written
IsLine plan (Turn key written) = IsKey key × IsWritten plan written
IsLine plan (Idle key) = IsKey key

-- the argument is of the type's kind; whether a number is in a range isn't asked
abbrev pub is_of : ShapeTree → Scalar → Bool
is_of shape.Int (Int number) = true
is_of (shape.Range low high) (Int number) = true
is_of (shape.Listed (listed.Range low count)) (Int number) = true
is_of (shape.Listed listed.Bool) (Truth value) = true
is_of (shape.Listed (listed.Enumeration first count)) (Member member) = nat_le first member && nat_lt member (first + count)
is_of type arg = false

-- as many arguments as types, each of its type's kind
abbrev pub are_of : List ShapeTree → List Scalar → Bool
are_of [] [] = true
are_of (type ∷ types) (arg ∷ args) = is_of type arg && are_of types args
are_of types args = false

-- what is written is this action of the composition
pub record IsKnown (plan : Plan) (written : Written) (action : Named) : Type 0 where
  pub name : IsNumberOf (action_texts plan) written.name action.name
  pub args : action.args ≡ written.args
  pub types : List ShapeTree
  pub declared : slice_get (action_types plan) action.name ≡ Some types
  pub kinds : are_of types written.args ≡ true

-- what is written gives its action, and an idle turn none
abbrev pub WrittenGives : Plan → Written → List Named → Type 0
WrittenGives plan written given = (action : Named) × (given ≡ action ∷ []) × IsKnown plan written action

abbrev pub LineGives : Plan → Line → List Named → Type 0
LineGives plan (Alone written) given = WrittenGives plan written given
LineGives plan (Turn key written) given = WrittenGives plan written given
LineGives plan (Idle key) given = given ≡ []
