-- Values without where they lie in memory: a scalar, or a chain of values.
use Rattle.std.specs.Prelude.{◌≡◌, ◌⊎◌, Bool as Truth, true, false, ℕ, ◌+◌, suc, ℤ, pos, List, [], ◌∷◌, refl}
use Rattle.std.specs.Coded.{Coded, code_by, coded_list, coded⊎, coded_ℕ, coded_ℤ, coded_bool}
use Rattle.std.proofs.Common.{ap, ◌∙◌, inl, inr}
use Rattle.terms.specs.declared.scalar.Scalar.{Scalar}
use Rattle.terms.specs.declared.scalar.Scalar.TheVariants.{Int, Bool, Member}

-- a value: a scalar, or a list of values, from the first on
pub data Datum : Type 0 where
  Just : Scalar → Datum
  End : Datum
  Link : Datum → Datum → Datum

-- the value that has these items
abbrev pub pack : List Datum → Datum
pack [] = End
pack (item ∷ others) = Link item (pack others)

-- the items of a value; none of a scalar
abbrev pub items_of : Datum → List Datum
items_of (Just scalar) = []
items_of End = []
items_of (Link item others) = item ∷ items_of others

-- the scalar that a value is; 0 where it is a list
abbrev pub scalar_of : Datum → Scalar
scalar_of (Just scalar) = scalar
scalar_of End = Int (pos 0)
scalar_of (Link item others) = Int (pos 0)

-- whether a value is a whole number
abbrev pub is_number : Datum → Truth
is_number (Just (Int whole_number)) = true
is_number (Just (Bool is_true)) = false
is_number (Just (Member at)) = false
is_number End = false
is_number (Link item others) = false

-- whether it is a truth value
abbrev pub is_truth : Datum → Truth
is_truth (Just (Int whole_number)) = false
is_truth (Just (Bool is_true)) = true
is_truth (Just (Member at)) = false
is_truth End = false
is_truth (Link item others) = false

pub no_number : (xs : List Datum) → is_number (pack xs) ≡ false
no_number [] = refl
no_number (x ∷ xs) = refl

pub no_truth : (xs : List Datum) → is_truth (pack xs) ≡ false
no_truth [] = refl
no_truth (x ∷ xs) = refl

pub items_pack : (xs : List Datum) → items_of (pack xs) ≡ xs
items_pack [] = refl
items_pack (x ∷ xs) = ap (λ ys. x ∷ ys) (items_pack xs)

-- how many items a value has, in all depths
abbrev pub links : Datum → ℕ
links (Just scalar) = 0
links End = 0
links (Link item others) = suc (links item + links others)

-- a part of a value as it is told: a scalar, an end, or a link of the two values before it
abbrev Told : Type 0
Told = ℤ ⊎ (ℕ ⊎ (Truth ⊎ Truth))

-- a value told part by part, in front of what is told after it
abbrev tell : Datum → List Told → List Told
tell (Just (Int z)) ts = inl z ∷ ts
tell (Just (Bool b)) ts = inr (inr (inl b)) ∷ ts
tell (Just (Member n)) ts = inr (inl n) ∷ ts
tell End ts = inr (inr (inr false)) ∷ ts
tell (Link x xs) ts = tell x (tell xs (inr (inr (inr true)) ∷ ts))

-- the last two values heard, linked
abbrev link : List Datum → List Datum
link [] = []
link (x ∷ []) = []
link (x ∷ (y ∷ ds)) = Link y x ∷ ds

-- the values heard, the last one first
abbrev hear : List Told → List Datum → List Datum
hear [] ds = ds
hear (inl z ∷ ts) ds = hear ts (Just (Int z) ∷ ds)
hear (inr (inl n) ∷ ts) ds = hear ts (Just (Member n) ∷ ds)
hear (inr (inr (inl b)) ∷ ts) ds = hear ts (Just (Bool b) ∷ ds)
hear (inr (inr (inr false)) ∷ ts) ds = hear ts (End ∷ ds)
hear (inr (inr (inr true)) ∷ ts) ds = hear ts (link ds)

-- the last value heard
abbrev first : List Datum → Datum
first [] = End
first (d ∷ ds) = d

heard : (d : Datum) (ts : List Told) (ds : List Datum) → hear (tell d ts) ds ≡ hear ts (d ∷ ds)
heard (Just (Int z)) ts ds = refl
heard (Just (Bool b)) ts ds = refl
heard (Just (Member n)) ts ds = refl
heard End ts ds = refl
heard (Link x xs) ts ds = heard x (tell xs (inr (inr (inr true)) ∷ ts)) ds ∙ heard xs (inr (inr (inr true)) ∷ ts) (x ∷ ds)

pub told : (d : Datum) → first (hear (tell d []) []) ≡ d
told d = ap first (heard d [] [])

-- values can be told by lists, which makes them a type of data
abbrev pub datum_code : Coded Datum
datum_code =
    code_by (List Told) (coded_list (coded⊎ coded_ℤ (coded⊎ coded_ℕ (coded⊎ coded_bool coded_bool)))) (λ d. tell d []) (λ ts. first (hear ts [])) told

pub scalar_pack : (xs : List Datum) → scalar_of (pack xs) ≡ Int (pos 0)
scalar_pack [] = refl
scalar_pack (x ∷ xs) = refl

pub ruleset packs = (items_pack, scalar_pack, no_number, no_truth)
