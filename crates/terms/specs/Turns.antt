-- Turns of a loop over members, from any of them on.
use Rattle.std.specs.Prelude.{◌≡◌, ℕ, zero, suc, ◌+◌, ◌-◌, ◌<◌, List, [], ◌∷◌, get_or, length, slice_set, refl}
use Rattle.std.proofs.Common.{arith, ap, sym, ◌∙◌}
use Rattle.terms.specs.declared.scalar.Listed.{Listed}
use Rattle.terms.specs.Datum.{Datum, Link, pack}
use Rattle.terms.specs.Shapes.{member, members_from, with_item, set_item}

from_suc : (l : Listed) (k m n : ℕ) → m ≡ suc n → members_from l k m ≡ member l k ∷ members_from l (suc k) n
from_suc l k m n e = ap (members_from l k) e

pub next_member : (l : Listed) (k n : ℕ) → k < n → members_from l k (n - k) ≡ member l k ∷ members_from l (k + 1) (n - (k + 1))
next_member l k n h =
    let e : n - k ≡ suc (n - (k + 1)) = omega arith in
    let f : suc k ≡ k + 1 = omega arith in
    from_suc l k (n - k) (n - (k + 1)) e ∙ ap (λ j. member l k ∷ members_from l j (n - (k + 1))) f

pub no_member : (l : Listed) (k n : ℕ) → n < k + 1 → members_from l k (n - k) ≡ []
no_member l k n h = let e : n - k ≡ zero = omega arith in ap (members_from l k) e

-- a place that is set twice is as it was set last
pub set_twice : {A : Type 0} (xs : List A) (k : ℕ) (x y : A) → slice_set (slice_set xs k x) k y ≡ slice_set xs k y
set_twice [] k x y = refl
set_twice (z ∷ zs) zero x y = refl
set_twice (z ∷ zs) (suc k) x y = ap (λ ws. z ∷ ws) (set_twice zs k x y)

pub item_pack : (xs : List Datum) (k : ℕ) (x : Datum) → with_item k x (pack xs) ≡ pack (slice_set xs k x)
item_pack [] k x = refl
item_pack (y ∷ ys) zero x = refl
item_pack (y ∷ ys) (suc k) x = ap (Link y) (item_pack ys k x)

pub set_item_is : (ds : List Datum) (cell k : ℕ) (x d : Datum) → cell < length ds → set_item cell k x ds ≡ slice_set ds cell (with_item k x (get_or ds cell d))
set_item_is [] cell k x d h = absurd (omega arith)
set_item_is (y ∷ ys) zero k x d h = refl
set_item_is (y ∷ ys) (suc cell) k x d h = ap (λ zs. y ∷ zs) (set_item_is ys cell k x d (omega arith))

pub set_item_by : (ds : List Datum) (cell k : ℕ) (x d e : Datum) → cell < length ds → d ≡ get_or ds cell d → e ≡ with_item k x d → slice_set ds cell e ≡ set_item cell k x ds
set_item_by ds cell k x d e h at is =
    ap (slice_set ds cell) (is ∙ ap (with_item k x) at) ∙ sym (set_item_is ds cell k x d h)

pub set_item_past : (ds : List Datum) (cell k : ℕ) (x : Datum) → length ds < cell + 1 → set_item cell k x ds ≡ ds
set_item_past [] cell k x h = refl
set_item_past (y ∷ ys) zero k x h = absurd (omega arith)
set_item_past (y ∷ ys) (suc cell) k x h = ap (λ zs. y ∷ zs) (set_item_past ys cell k x (omega arith))

pub ruleset turns = (next_member, no_member, set_twice)

pub ruleset items = (item_pack, set_item_past)
