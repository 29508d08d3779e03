-- Effects from one of their parts on.
use Rattle.std.specs.Prelude.{OnErr, OnOk}
use Rattle.std.proofs.Common.{◌≡◌, ℕ, ◌+◌, ◌<◌, ◌≤◌, suc, List, ◌∷◌, map, drop, length, get_or, refl, sym, ap, subst, ◌∙◌, inl, inr, arith, if◌then◌else◌, true, false, Result, Ok, Err}
use Rattle.std.proofs.Math.Seq.{drop-cons}
use Rattle.std.proofs.lemmas.List.{drop_all}
use Rattle.terms.specs.Datum.{Datum}
use Rattle.terms.specs.EffectTree.{EffectTree, Then, If, PartTree, followed, ended, part_tree, last_tree}
use Rattle.terms.specs.Meaning.{Scope, value, truth, after, Branch, IsPart}
use Rattle.terms.specs.TermTree.{TermTree}
use Rattle.terms.specs.declared.effect.Effect.{Effect}
use Rattle.terms.specs.declared.effect.Part.{Part}

-- an effect from one of its parts on
abbrev pub onward : Effect → ℕ → EffectTree
onward effect i = ended (map part_tree (drop i effect.parts.items)) (last_tree effect.last)

-- it is that part, and the effect from the next one on
pub part_first : (effect : Effect) (items : List Part) (i : ℕ) (part : Part) (tree : PartTree) → items ≡ effect.parts.items → part ≡ get_or items i part → i < length items → part_tree part ≡ tree → onward effect i ≡ followed tree (onward effect (i + 1))
part_first effect items i part tree same is low told =
    let next : suc i ≡ i + 1 = omega arith in
    let split : drop i items ≡ part ∷ drop (i + 1) items =
    drop-cons items i part low ∙ ap (λ y. y ∷ drop (suc i) items) (sym is) ∙ ap (λ k. part ∷ drop k items) next in
    let there : drop i effect.parts.items ≡ part ∷ drop (i + 1) effect.parts.items =
    subst (λ ps. drop i ps ≡ part ∷ drop (i + 1) ps) same split in
    ap (λ ps. ended (map part_tree ps) (last_tree effect.last)) there
    ∙ ap (λ t. followed t (onward effect (i + 1))) told

-- behind its parts it is what stands last
pub only_last : (effect : Effect) (items : List Part) (i : ℕ) → items ≡ effect.parts.items → length items ≤ i → onward effect i ≡ last_tree effect.last
only_last effect items i same past =
    ap (λ ps. ended (map part_tree (drop i ps)) (last_tree effect.last)) (sym same)
    ∙ ap (λ ps. ended (map part_tree ps) (last_tree effect.last)) (drop_all i items past)

-- what an effect does, and the parts of it, are the same after a step to what is left of it
pub record Steps (all left : EffectTree) (scope : Scope) (cells new : List Datum) : Type 0 where
  pub done : after all scope cells ≡ after left scope new
  pub parts : (d : List Datum) → IsPart left scope new d → IsPart all scope cells d

pub past_first : (all first left : EffectTree) (scope : Scope) (cells new : List Datum) → all ≡ Then first left → new ≡ after first scope cells → Steps all left scope cells new
past_first all first left scope cells new is made = record {
  done = ap (λ e. after e scope cells) is ∙ sym (ap (after left scope) made);
  parts = λ d h. subst (λ e. IsPart e scope cells d) (sym is) (inr (subst (λ v. IsPart left scope v d) made h));
}

pub past_branch : (all : EffectTree) (test : TermTree) (body left : EffectTree) (scope : Scope) (cells new : List Datum) → all ≡ If test body left → false ≡ truth (value test scope cells) → new ≡ cells → Steps all left scope cells new
past_branch all test body left scope cells new is untrue same = record {
  done =
      ap (λ e. after e scope cells) is
      ∙ sym (ap (λ t. if t then after body scope cells else after left scope cells) untrue)
      ∙ sym (ap (after left scope) same);
  parts = λ d h. subst (λ e. IsPart e scope cells d) (sym is) (inr (subst (λ t. Branch t (IsPart body scope cells d) (IsPart left scope cells d)) untrue (subst (λ v. IsPart left scope v d) same h)));
}

pub part_of_first : (all first left : EffectTree) (scope : Scope) (cells new : List Datum) → all ≡ Then first left → IsPart first scope cells new → IsPart all scope cells new
part_of_first all first left scope cells new is h = subst (λ e. IsPart e scope cells new) (sym is) (inl h)

pub before_branch : (all : EffectTree) (test : TermTree) (body left : EffectTree) (scope : Scope) (cells : List Datum) → all ≡ If test body left → IsPart all scope cells cells
before_branch all test body left scope cells is = subst (λ e. IsPart e scope cells cells) (sym is) (inl refl)

pub done_by_branch : (all : EffectTree) (test : TermTree) (body left : EffectTree) (scope : Scope) (cells : List Datum) → all ≡ If test body left → true ≡ truth (value test scope cells) → after body scope cells ≡ after all scope cells
done_by_branch all test body left scope cells is holds =
    ap (λ t. if t then after body scope cells else after left scope cells) holds
    ∙ sym (ap (λ e. after e scope cells) is)

pub part_of_branch : (all : EffectTree) (test : TermTree) (body left : EffectTree) (scope : Scope) (cells new : List Datum) → all ≡ If test body left → true ≡ truth (value test scope cells) → IsPart body scope cells new → IsPart all scope cells new
part_of_branch all test body left scope cells new is holds h =
    subst (λ e. IsPart e scope cells new) (sym is) (inr (subst (λ t. Branch t (IsPart body scope cells new) (IsPart left scope cells new)) holds h))

pub on_err : {A E P : Type 0} (r : Result A E) → P → OnErr r P
on_err (Ok x) h = tt
on_err (Err e) h = h

pub on_err_by : {A E P Q : Type 0} (r : Result A E) → (P → Q) → OnErr r P → OnErr r Q
on_err_by (Ok x) f h = tt
on_err_by (Err e) f h = f h

pub on_ok_by : {A E P Q : Type 0} (r : Result A E) → (P → Q) → OnOk r P → OnOk r Q
on_ok_by (Ok x) f h = f h
on_ok_by (Err e) f h = tt
