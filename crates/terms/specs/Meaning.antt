-- What terms and effects mean: a term has a value, an effect leads from a whole state to a whole state.
use Rattle.std.specs.Prelude.{ℕ, ℤ, pos, ◌+ℤ◌, ◌-ℤ◌, ◌*ℤ◌, neg_ℤ, int_lt, int_le, Bool as Truth, true, false, not, ◌&&◌, ◌||◌, if◌then◌else◌, nat_lt, List, [], ◌∷◌, ◌++◌, length, get_or, drop, replicate, slice_get, slice_set, Option, None, Some, ◌≡◌, ◌⊎◌}
use Rattle.terms.specs.Datum.{Datum, Just, End, pack, items_of, scalar_of}
use Rattle.terms.specs.Same.{same}
use Rattle.terms.specs.Shapes.{whole, rest, nearest, number_of, truth_of, place, default, members, set_item}
use Rattle.terms.specs.TermTree.{TermTree}
use Rattle.terms.specs.TermTree as term
use Rattle.terms.specs.EffectTree.{EffectTree}
use Rattle.terms.specs.EffectTree as effect
use Rattle.terms.specs.declared.scalar.Scalar.{Scalar}
use Rattle.terms.specs.declared.scalar.Scalar.TheVariants.{Int, Bool}
use Rattle.terms.specs.declared.term.Operator.{Operator}
use Rattle.terms.specs.declared.term.Operator.TheVariants.{Plus, Minus, Times, Same, Differs, Less, AtMost, Both, Either}

-- the values of formals, parameters and loop variables
pub record Scope : Type 0 where
  pub formals : List Scalar
  pub parameters : List Scalar
  pub loops : List Scalar

-- the scalar in a slot; 0 where there is no such slot
abbrev pub slot : List Scalar → ℕ → Scalar
slot scalars n = get_or scalars n (Int (pos 0))

-- the value, or 0 where there is none
abbrev or_zero : Option Datum → Datum
or_zero None = Just (Int (pos 0))
or_zero (Some value) = value

-- the value of a variable; 0 where there is no such variable
abbrev pub cell : List Datum → ℕ → Datum
cell cells n = or_zero (slice_get cells n)

-- a value as a whole number
abbrev pub number : Datum → ℤ
number value = number_of (scalar_of value)

-- a value as a truth value
abbrev pub truth : Datum → Truth
truth value = truth_of (scalar_of value)

-- what an operator makes of two values; whole numbers wrap round at 64 bits
abbrev pub combined : Operator → Datum → Datum → Scalar
combined Plus a b = Int (whole (number a +ℤ number b))
combined Minus a b = Int (whole (number a -ℤ number b))
combined Times a b = Int (whole (number a *ℤ number b))
combined Same a b = Bool (same a b)
combined Differs a b = Bool (not (same a b))
combined Less a b = Bool (int_lt (number a) (number b))
combined AtMost a b = Bool (int_le (number a) (number b))
combined Both a b = Bool (truth a && truth b)
combined Either a b = Bool (truth a || truth b)

-- a sequence with one more item at the end, unless it is full
abbrev pub appended : ℕ → Datum → Datum → Datum
appended room list last = if nat_lt (length (items_of list)) room then pack (items_of list ++ last ∷ []) else pack (items_of list)

-- the value of a term in a scope and a state
abbrev pub value : TermTree → Scope → List Datum → Datum
value (term.Known scalar) scope cells = Just scalar
value (term.Formal n) scope cells = Just (slot scope.formals n)
value (term.Parameter n) scope cells = Just (slot scope.parameters n)
value (term.Loop n) scope cells = Just (slot scope.loops n)
value (term.Cell n) scope cells = cell cells n
value (term.Not a) scope cells = Just (Bool (not (truth (value a scope cells))))
value (term.Negative a) scope cells = Just (Int (whole (neg_ℤ (number (value a scope cells)))))
value (term.Modulo a k) scope cells = Just (Int (rest (number (value a scope cells)) k))
value (term.Nearest a low high) scope cells = Just (Int (nearest low high (number (value a scope cells))))
value (term.Binary operator a b) scope cells = Just (combined operator (value a scope cells) (value b scope cells))
value (term.Length a) scope cells = Just (Int (pos (length (items_of (value a scope cells)))))
value (term.Head a item) scope cells = get_or (items_of (value a scope cells)) 0 (default item)
value (term.Tail a) scope cells = pack (drop 1 (items_of (value a scope cells)))
value (term.Append a b room) scope cells = appended room (value a scope cells) (value b scope cells)
value (term.Index a at index) scope cells = get_or (items_of (value a scope cells)) (place index (scalar_of (value at scope cells))) (Just (Int (pos 0)))
value term.Empty scope cells = End
value (term.Fill count a) scope cells = pack (replicate count (value a scope cells))

-- the scope in which a loop variable has a member as its value
abbrev pub with_loop : ℕ → Scalar → Scope → Scope
with_loop n member scope = record scope { loops = slice_set scope.loops n member }

-- one after another
abbrev pub each : (Scalar → List Datum → List Datum) → List Scalar → List Datum → List Datum
each change [] cells = cells
each change (member ∷ members) cells = each change members (change member cells)

-- the state after an effect
abbrev pub after : EffectTree → Scope → List Datum → List Datum
after effect.Nothing scope cells = cells
after (effect.Assign n a) scope cells = slice_set cells n (value a scope cells)
after (effect.AssignItem n at index a) scope cells = set_item n (place index (scalar_of (value at scope cells))) (value a scope cells) cells
after (effect.Then first second) scope cells = after second scope (after first scope cells)
after (effect.If test body otherwise) scope cells = if truth (value test scope cells) then after body scope cells else after otherwise scope cells
after (effect.For n index body) scope cells = each (λ member state. after body (with_loop n member scope) state) (members index) cells

-- a state that some of the turns of a loop and a part of the next one reach
abbrev pub AreParts : (Scalar → List Datum → List Datum) → (Scalar → List Datum → List Datum → Type 0) → List Scalar → List Datum → List Datum → Type 0
AreParts change IsPartOf [] cells new = new ≡ cells
AreParts change IsPartOf (member ∷ members) cells new = IsPartOf member cells new ⊎ AreParts change IsPartOf members (change member cells) new

-- the fact of the branch that is taken
abbrev pub Branch : Truth → Type 0 → Type 0 → Type 0
Branch true P Q = P
Branch false P Q = Q

-- the new state is the old one with some first part of the assignments of an effect done
abbrev pub IsPart : EffectTree → Scope → List Datum → List Datum → Type 0
IsPart effect.Nothing scope cells new = new ≡ cells
IsPart (effect.Assign n a) scope cells new = new ≡ cells
IsPart (effect.AssignItem n at index a) scope cells new = new ≡ cells
IsPart (effect.Then first second) scope cells new = IsPart first scope cells new ⊎ IsPart second scope (after first scope cells) new
IsPart (effect.If test body otherwise) scope cells new = (new ≡ cells) ⊎ Branch (truth (value test scope cells)) (IsPart body scope cells new) (IsPart otherwise scope cells new)
IsPart (effect.For n index body) scope cells new = AreParts (λ member state. after body (with_loop n member scope) state) (λ member state reached. IsPart body (with_loop n member scope) state reached) (members index) cells new

-- one turn of a loop
abbrev pub turn : ℕ → EffectTree → Scope → Scalar → List Datum → List Datum
turn n body scope member cells = after body (with_loop n member scope) cells

-- a part of one turn of a loop
abbrev pub IsPartOfTurn : ℕ → EffectTree → Scope → Scalar → List Datum → List Datum → Type 0
IsPartOfTurn n body scope member cells new = IsPart body (with_loop n member scope) cells new
