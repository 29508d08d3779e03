-- Whether two values are the same.
use Rattle.std.specs.Prelude.{◌≡◌, Bool, true, false, ◌&&◌, List, [], ◌∷◌, refl}
use Rattle.std.specs.Cmp.{IsEquivalence}
use Rattle.std.proofs.Common.{ap, ◌∙◌, rules, arith, sym}
use Rattle.std.proofs.lemmas.Grind.{common_steps}
use lib.Pointwise.{pointwise}
use Rattle.terms.specs.Datum.{Datum, Just, End, Link, pack}
use Rattle.terms.specs.declared.scalar.Scalar.{Scalar}
use Rattle.terms.specs.contracts.scalar.ScalarPartialEq.TheImpl as scalar_eq

-- whether two values have the same scalars in the same places
abbrev pub same : Datum → Datum → Bool
same (Just a) (Just b) = scalar_eq.ghosts.eq a b
same (Just a) End = false
same (Just a) (Link y ys) = false
same End (Just b) = false
same End End = true
same End (Link y ys) = false
same (Link x xs) (Just b) = false
same (Link x xs) End = false
same (Link x xs) (Link y ys) = same x y && same xs ys

pub scalar_is : (a b : Scalar) → scalar_eq.ghosts.eq a b ≡ true → a ≡ b
scalar_is a b h = first_of (search rules, grind (arith, common_steps))

pub scalar_refl : (a : Scalar) → scalar_eq.ghosts.eq a a ≡ true
scalar_refl a = first_of (search rules, grind (arith, common_steps))

both_true : (a b : Bool) → a && b ≡ true → (a ≡ true) × (b ≡ true)
both_true true b h = (refl, h)
both_true false b h = cc

pub same_is : (d e : Datum) → same d e ≡ true → d ≡ e
same_is (Just a) (Just b) h = ap Just (scalar_is a b h)
same_is (Just a) End h = cc
same_is (Just a) (Link y ys) h = cc
same_is End (Just b) h = cc
same_is End End h = refl
same_is End (Link y ys) h = cc
same_is (Link x xs) (Just b) h = cc
same_is (Link x xs) End h = cc
same_is (Link x xs) (Link y ys) h =
    let parts = both_true (same x y) (same xs ys) h in
    let first : x ≡ y = same_is x y parts.0 in
    let rest : xs ≡ ys = same_is xs ys parts.1 in
    λ i. Link (first i) (rest i)

pub same_refl : (d : Datum) → same d d ≡ true
same_refl (Just a) = scalar_refl a
same_refl End = refl
same_refl (Link x xs) = rw (same_refl x, same_refl xs) refl

same_symm : (d e : Datum) → same d e ≡ same e d
same_symm d e = go (same d e) refl (same e d) refl where
  go : (a : Bool) → same d e ≡ a → (b : Bool) → same e d ≡ b → same d e ≡ same e d
  go true h b i = let e' = same_is d e h in rw e' refl
  go false h true i = let e' = same_is e d i in rw e' refl
  go false h false i = h ∙ sym i

pub same_laws : IsEquivalence same
same_laws = record {
  refl = same_refl;
  symm = same_symm;
  congr = λ d e f h. ap (λ x. same x f) (same_is d e h);
}

pub same_pack : (xs ys : List Datum) → same (pack xs) (pack ys) ≡ pointwise same xs ys
same_pack [] [] = refl
same_pack [] (y ∷ ys) = refl
same_pack (x ∷ xs) [] = refl
same_pack (x ∷ xs) (y ∷ ys) = ap (λ b. same x y && b) (same_pack xs ys)

pub just_pack : (a : Scalar) (xs : List Datum) → same (Just a) (pack xs) ≡ false
just_pack a [] = refl
just_pack a (x ∷ xs) = refl

pub pack_just : (a : Scalar) (xs : List Datum) → same (pack xs) (Just a) ≡ false
pack_just a [] = refl
pack_just a (x ∷ xs) = refl

pub ruleset sames = (same_pack, just_pack, pack_just)
