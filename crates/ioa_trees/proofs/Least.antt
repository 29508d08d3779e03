-- The least fault so far is the least of all.
use Rattle.std.proofs.Common.{◌≡◌, Bool, true, false, Option, Some, None, List, [], ◌∷◌, ◌⊎◌, inl, inr, refl, arith, if◌then◌else◌}
use Rattle.std.proofs.lemmas.Bool.Decides.{nat_tests}
use Rattle.ioa_trees.specs.Faults.{Fault, is_before, keep, note, IsIn, IsLeast}

itself : (f : Fault) → is_before f f ≡ false
itself f = grind (arith, nat_tests)

other_way : (f g : Fault) → is_before f g ≡ true → is_before g f ≡ false
other_way f g h = grind (arith, nat_tests)

along : (f g h : Fault) → is_before g f ≡ false → is_before h g ≡ false → is_before h f ≡ false
along f g h a b = grind (arith, nat_tests)

below_by : (b : Bool) (x g f : Fault) (xs : List Fault) → ((y : Fault) → keep (Some y) xs ≡ Some f → is_before y f ≡ false) → is_before x g ≡ b → keep (if b then Some x else Some g) xs ≡ Some f → is_before g f ≡ false
below_by true x g f xs r i e = along f x g (r x e) (other_way x g i)
below_by false x g f xs r i e = r g e

below : (xs : List Fault) (g f : Fault) → keep (Some g) xs ≡ Some f → is_before g f ≡ false
below [] g f e = let same : g ≡ f = cc in rw same (itself f)
below (x ∷ xs) g f e = below_by (is_before x g) x g f xs (λ y h. below xs y f h) refl e

head_by : (b : Bool) (x g f : Fault) (xs : List Fault) → is_before x g ≡ b → keep (if b then Some x else Some g) xs ≡ Some f → is_before x f ≡ false
head_by true x g f xs i e = below xs x f e
head_by false x g f xs i e = along f g x (below xs g f e) i

head_below : (o : Option Fault) (x f : Fault) (xs : List Fault) → keep (note x o) xs ≡ Some f → is_before x f ≡ false
head_below None x f xs e = below xs x f e
head_below (Some g) x f xs e = head_by (is_before x g) x g f xs refl e

all_below : (o : Option Fault) (xs : List Fault) (f : Fault) → keep o xs ≡ Some f → (g : Fault) → IsIn g xs → is_before g f ≡ false
all_below o [] f e g i = absurd i
all_below o (x ∷ xs) f e g (inl h) = rw h (head_below o x f xs e)
all_below o (x ∷ xs) f e g (inr h) = all_below (note x o) xs f e g h

from_by : (b : Bool) (x g f : Fault) → (if b then Some x else Some g) ≡ Some f → (f ≡ x) ⊎ (Some g ≡ Some f)
from_by true x g f e = inl (cc)
from_by false x g f e = inr e

from : (o : Option Fault) (x f : Fault) → note x o ≡ Some f → (f ≡ x) ⊎ (o ≡ Some f)
from None x f e = inl (cc)
from (Some g) x f e = from_by (is_before x g) x g f e

one_of : (o : Option Fault) (xs : List Fault) (f : Fault) → keep o xs ≡ Some f → (o ≡ Some f) ⊎ IsIn f xs
one_of o [] f e = inl e
one_of o (x ∷ xs) f e = elim (one_of (note x o) xs f e) as (λ w. (o ≡ Some f) ⊎ ((f ≡ x) ⊎ IsIn f xs)) [
  | inl h ↦ elim (from o x f h) as (λ w. (o ≡ Some f) ⊎ ((f ≡ x) ⊎ IsIn f xs)) [ inl i ↦ inr (inl i) | inr i ↦ inl i ]
  | inr h ↦ inr (inr h)
]

never_none : (xs : List Fault) (g : Fault) → keep (Some g) xs ≡ None → ⊥
never_none [] g e = cc
never_none (x ∷ xs) g e = elim (is_before x g) as (λ b. keep (if b then Some x else Some g) xs ≡ None → ⊥) [ true ↦ λ h. never_none xs x h | false ↦ λ h. never_none xs g h ] e

-- what was kept is the least of the list
pub kept_least : (xs : List Fault) (f : Fault) → keep None xs ≡ Some f → IsLeast f xs
kept_least xs f e = record {
  is_one = elim (one_of None xs f e) as (λ w. IsIn f xs) [ inl h ↦ absurd (cc) | inr h ↦ h ];
  least = all_below None xs f e;
}

-- nothing was kept of no fault alone
pub kept_none : (xs : List Fault) → keep None xs ≡ None → xs ≡ []
kept_none [] e = refl
kept_none (x ∷ xs) e = absurd (never_none xs x e)
