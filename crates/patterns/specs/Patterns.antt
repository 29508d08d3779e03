-- Where to look for the components that have an action as an input.
use Rattle.std.specs.Prelude.{◌≡◌, ℕ, ◌+◌, ◌-◌, ◌*◌, ◌%◌, ◌/◌, ◌^◌, Bool as Truth, true, false, List, [], ◌∷◌, length, map, slice_get, Option, None, Some, All, Contains, unsigned_abs, bit_and, if◌then◌else◌}
use Rattle.std.specs.declared.vec.Vec.{Vec}
use Rattle.std.specs.Global.{Global}
use Rattle.std.specs.List.Sorted.{IsStrictlyIncreasing}
use Rattle.terms.specs.Meaning.{slot}
use Rattle.terms.specs.declared.scalar.Scalar.{Scalar}
use Rattle.terms.specs.declared.scalar.Scalar.TheVariants as scalar
use Rattle.io_automata.specs.declared.automaton.Kind.{Kind}
use Rattle.io_automata.specs.declared.automaton.Kind.TheVariants.{Input}
use Rattle.io_automata.specs.declared.automaton.Param.{Param}
use Rattle.io_automata.specs.declared.automaton.Param.TheVariants.{Const, Member, Between, Whole}
use Rattle.patterns.specs.declared.index.Fixed.{Fixed}
use Rattle.patterns.specs.declared.index.Fixed.TheVariants as fixed
use Rattle.io_automata.specs.Automata.{Transition, Instance, component_at}
use Rattle.io_automata.specs.Signatures.{same_kind}

-- what an index keeps: masks at names, and numbers at the places of patterns
pub record Kept : Type 0 where
  pub masks : List (Vec (Vec Truth Global) Global)
  pub numbers : List (Vec ℕ Global)

-- a value that a pattern asks for
abbrev pub fixed_as : Scalar → Fixed
fixed_as (scalar.Int z) = fixed.Int z
fixed_as (scalar.Bool b) = fixed.Bool b
fixed_as (scalar.Member n) = fixed.Member n

-- which parameters an entry fixes: its mask
abbrev pub fixes : Param → Truth
fixes (Const n) = true
fixes (Member members) = false
fixes (Between low high) = false
fixes Whole = false

abbrev pub mask_of : List Param → List Truth
mask_of params = map fixes params

-- the values that an entry fixes, and free places
abbrev pub asked : List Scalar → Param → Fixed
asked formals (Const n) = fixed_as (slot formals n)
asked formals (Member members) = fixed.Free
asked formals (Between low high) = fixed.Free
asked formals Whole = fixed.Free

abbrev pub values_of : List Scalar → List Param → List Fixed
values_of formals params = map (asked formals) params

-- an action's arguments where a mask fixes them, and free places
abbrev pub shown : Truth → Scalar → Fixed
shown true value = fixed_as value
shown false value = fixed.Free

abbrev pub masked : List Truth → List Scalar → List Fixed
masked [] args = []
masked (flag ∷ mask) [] = []
masked (flag ∷ mask) (value ∷ args) = shown flag value ∷ masked mask args

-- the items of a vector, if there is one
abbrev pub items_or_none : {X A : Type 0} → Option (Vec X A) → List X
items_or_none None = []
items_or_none (Some items) = items.items

-- what stands in one of several lists
abbrev pub list_at : {X A : Type 0} → List (Vec X A) → ℕ → List X
list_at lists n = items_or_none (slice_get lists n)

abbrev pub flags_of : {A : Type 0} → Vec Truth A → List Truth
flags_of mask = mask.items

-- the masks that stand at a name
abbrev pub masks_in : {A B : Type 0} → List (Vec (Vec Truth A) B) → ℕ → List (List Truth)
masks_in masks name = map flags_of (list_at masks name)

-- a number for what a pattern asks of an argument; others may have the same
abbrev pub fixed_number : Fixed → ℕ
fixed_number fixed.Free = 0
fixed_number (fixed.Int z) = unsigned_abs z
fixed_number (fixed.Bool b) = if b then 1 else 0
fixed_number (fixed.Member n) = n

-- a number with one more value mixed in
abbrev pub mixed : ℕ → Fixed → ℕ
mixed number value = let spread = (number + fixed_number value) % 2 ^ 64 * 11400714819323198485 % 2 ^ 64 in (spread + spread / 4294967296) % 2 ^ 64

-- a number for a pattern, from that of its name; others may have the same
abbrev pub pattern_number : ℕ → List Fixed → ℕ
pattern_number number [] = number
pattern_number number (value ∷ values) = pattern_number (mixed number value) values

-- where a pattern stands among so many lists
abbrev pub place_of : ℕ → List Fixed → ℕ → ℕ
place_of name values count = bit_and (pattern_number name values) (count - 1)

-- the number stands at the place of the pattern of this name and these values
abbrev pub IsListed : {A : Type 0} → List (Vec ℕ A) → ℕ → List Fixed → ℕ → Type 0
IsListed numbers name values j = Contains (list_at numbers (place_of name values (length numbers))) j

-- each list of numbers rises
abbrev pub AreRising : {A : Type 0} → List (Vec ℕ A) → Type 0
AreRising numbers = (n : ℕ) → IsStrictlyIncreasing (list_at numbers n)

-- what stands in an index stands in a later one
pub record Keeps (old new : Kept) : Type 0 where
  pub masks : (name : ℕ) (mask : List Truth) → Contains (masks_in old.masks name) mask → Contains (masks_in new.masks name) mask
  pub numbers : (name j : ℕ) (values : List Fixed) → IsListed old.numbers name values j → IsListed new.numbers name values j

-- the index has an entry of component j: its mask under its name, and j under its pattern
pub record IsNoted (index : Kept) (formals : List Scalar) (j : ℕ) (entry : Transition) : Type 0 where
  pub mask : Contains (masks_in index.masks entry.name) (mask_of entry.params)
  pub number : IsListed index.numbers entry.name (values_of formals entry.params) j

-- an index is for all entries, or for the input entries
abbrev pub is_for : Truth → Kind → Truth
is_for true kind = true
is_for false kind = same_kind Input kind

-- the index has each entry of component j that it is for
abbrev pub HasEntries : Truth → Kept → ℕ → Instance → Type 0
HasEntries every index j component = All (λ entry. is_for every entry.kind ≡ true → IsNoted index component.formals j entry) component.entries

-- the index has each entry of each component that it is for, and its numbers rise
pub record IsIndexed (every : Truth) (index : Kept) (composition : List Instance) : Type 0 where
  pub rising : AreRising index.numbers
  pub entries : (j : ℕ) → HasEntries every index j (component_at composition j)
