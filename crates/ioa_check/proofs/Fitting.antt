-- Arguments, beside formals or not.
use Rattle.std.proofs.Common.{◌≡◌, ℕ, zero, suc, ◌+◌, Bool, not, nat_eq, nat_lt, Option, Some, None, List, [], ◌∷◌, ◌++◌, drop, get_or, length, map, refl, ap, sym, ◌∙◌, arith}
use Rattle.std.proofs.lemmas.Bool.Decides.{nat_tests}
use Rattle.std.proofs.lemmas.List.{append-nil}
use Rattle.terms.specs.TermTree.{TermTree}
use Rattle.terms.specs.declared.term.Term.{Term}
use Rattle.ioa_trees.specs.Trees.{PlainTerm}
use Rattle.ioa_trees.specs.Faults.{Fault, keep, where_wrong}
use Rattle.ioa_trees.specs.Kinds.{Kind}
use Rattle.ioa_trees.specs.Scopes.{Scope}
use Rattle.ioa_trees.specs.Sizes.{bracketed_size, listed_size, size}
use Rattle.ioa_trees.specs.SourceRules.{arguments_faults, misfit_arguments, placed_argument, placed_arguments, unfit_in}
use Rattle.ioa_trees.specs.TermRules.{faults}
use Rattle.ioa_typing.specs.TermViews.{core_tree}
use Rattle.ioa_check.specs.ComponentParts.{argument_faults, bracket, first_kind, fitted_faults, is_there, other_kinds, placing_faults, where_wanted}
use Rattle.ioa_typing.proofs.Keeps.{keep_append}
use Rattle.ioa_check.proofs.Turned.{keep_between, keep_woven}
use Rattle.ioa_typing.proofs.Items.{push_step}

-- ---- the formals that are left

pub first_at : (ks : List (Option Kind)) (i : ℕ) → first_kind (drop i ks) ≡ get_or ks i None
first_at [] zero = refl
first_at [] (suc i) = refl
first_at (k ∷ ks) zero = refl
first_at (k ∷ ks) (suc i) = first_at ks i

others_behind : (ks : List (Option Kind)) (i : ℕ) → drop (suc i) ks ≡ other_kinds (drop i ks)
others_behind [] zero = refl
others_behind [] (suc i) = refl
others_behind (k ∷ ks) zero = refl
others_behind (k ∷ ks) (suc i) = others_behind ks i

pub others_at : (ks : List (Option Kind)) (i : ℕ) → drop (i + 1) ks ≡ other_kinds (drop i ks)
others_at ks i = let next : i + 1 ≡ suc i = omega arith in ap (λ n. drop n ks) next ∙ others_behind ks i

one_less : (i n : ℕ) → nat_lt (suc i) (suc n) ≡ nat_lt i n
one_less i n = grind (arith, nat_tests)

pub there_at : (ks : List (Option Kind)) (i : ℕ) → nat_lt i (length ks) ≡ is_there (drop i ks)
there_at [] zero = grind (arith, nat_tests)
there_at [] (suc i) = grind (arith, nat_tests)
there_at (k ∷ ks) zero = grind (arith, nat_tests)
there_at (k ∷ ks) (suc i) = one_less i (length ks) ∙ there_at ks i

-- ---- values

none_placed : (s : Scope) (ts : List PlainTerm) → placed_arguments s [] ts ≡ []
none_placed s [] = refl
none_placed s (t ∷ ts) = refl

none_more : {A B : Type 0} (f : A → B) (xs : List A) (left : List B) → map f (xs ++ []) ++ left ≡ map f xs ++ left
none_more f [] left = refl
none_more f (x ∷ xs) left = ap (λ ys. f x ∷ ys) (none_more f xs left)

-- the value of one more argument, if a formal is left
pub value_kept : (s : Scope) (ks left : List (Option Kind)) (b : Bool) (t : PlainTerm) (ts : List PlainTerm) (x : Option Term) (xs ys : List (Option Term)) (all : List (Option TermTree)) →
    left ≡ other_kinds ks → b ≡ is_there ks → core_tree x ≡ placed_argument s (first_kind ks) t → ys ≡ xs ++ where_wanted b x → map core_tree xs ++ placed_arguments s ks (t ∷ ts) ≡ all →
    map core_tree ys ++ placed_arguments s left ts ≡ all
value_kept s [] left b t ts x xs ys all others there value put before =
    ap (λ ks. map core_tree ys ++ placed_arguments s ks ts) others
    ∙ ap (λ vs. map core_tree ys ++ vs) (none_placed s ts)
    ∙ ap (λ zs. map core_tree zs ++ []) (put ∙ ap (λ w. xs ++ where_wanted w x) there)
    ∙ none_more core_tree xs []
    ∙ before
value_kept s (k ∷ ks) left b t ts x xs ys all others there value put before =
    ap (λ js. map core_tree ys ++ placed_arguments s js ts) others
    ∙ push_step core_tree xs ys x (placed_argument s k t) (placed_arguments s ks ts) all (put ∙ ap (λ w. xs ++ where_wanted w x) there) value before

-- all values
pub values_end : (s : Scope) (ks : List (Option Kind)) (ts : List PlainTerm) (values all : List (Option TermTree)) → ts ≡ [] → values ++ placed_arguments s ks ts ≡ all → values ≡ all
values_end s ks ts values all none are = sym (append-nil values) ∙ ap (λ vs. values ++ vs) (sym (ended ks)) ∙ ap (λ us. values ++ placed_arguments s ks us) (sym none) ∙ are
  where
    ended : (js : List (Option Kind)) → placed_arguments s js [] ≡ []
    ended [] = refl
    ended (j ∷ js) = refl

-- ---- faults

-- the faults of an argument, and of those after it
pub argument_kept : (s : Scope) (ks left : List (Option Kind)) (k : Option Kind) (at after : ℕ) (t : PlainTerm) (ts : List PlainTerm) (o p : Option Fault) →
    p ≡ keep o (argument_faults s k at t) → k ≡ first_kind ks → left ≡ other_kinds ks → after ≡ at + size t → keep p (fitted_faults s left (after + 1) ts) ≡ keep o (fitted_faults s ks at (t ∷ ts))
argument_kept s ks left k at after t ts o p noted kind others place =
    let rest = fitted_faults s (other_kinds ks) (at + size t + 1) ts in
    ap (λ n. keep p (fitted_faults s left (n + 1) ts)) place
    ∙ ap (λ js. keep p (fitted_faults s js (at + size t + 1) ts)) others
    ∙ ap (λ x. keep x rest) (noted ∙ ap (λ j. keep o (argument_faults s j at t)) kind)
    ∙ sym (keep_append o (argument_faults s (first_kind ks) at t) rest)

none_unfit : (s : Scope) (at : ℕ) (ts : List PlainTerm) → misfit_arguments s [] at ts ≡ []
none_unfit s at [] = refl
none_unfit s at (t ∷ ts) = refl

-- the faults inside and the misfits, each in a row of its own
pub fitted_are : (s : Scope) (ks : List (Option Kind)) (at : ℕ) (ts : List PlainTerm) (o : Option Fault) → keep o (fitted_faults s ks at ts) ≡ keep o (arguments_faults s at ts ++ misfit_arguments s ks at ts)
fitted_are s [] at [] o = refl
fitted_are s (k ∷ ks) at [] o = refl
fitted_are s [] at (t ∷ ts) o =
    let next = at + size t + 1 in
    keep_woven o (faults s at t) [] (fitted_faults s [] next ts) (arguments_faults s next ts) (misfit_arguments s [] next ts) (fitted_are s [] next ts)
    ∙ ap (λ fs. keep o ((faults s at t ++ arguments_faults s next ts) ++ fs)) (none_unfit s next ts)
fitted_are s (k ∷ ks) at (t ∷ ts) o =
    let next = at + size t + 1 in
    keep_woven o (faults s at t) (unfit_in k s at t) (fitted_faults s ks next ts) (arguments_faults s next ts) (misfit_arguments s ks next ts) (fitted_are s ks next ts)

-- ---- parentheses

pub bracketed_is : (ts : List PlainTerm) → bracketed_size size ts ≡ bracket ts + listed_size size ts + bracket ts
bracketed_is [] = refl
bracketed_is (t ∷ ts) = omega arith

bracketed_place : (s : Scope) (ks : List (Option Kind)) (at : ℕ) (ts : List PlainTerm) → fitted_faults s ks (at + bracket ts) ts ≡ fitted_faults s ks (at + 1) ts
bracketed_place s ks at [] = refl
bracketed_place s ks at (t ∷ ts) = refl

pub bracketed_noted : (s : Scope) (ks : List (Option Kind)) (at place : ℕ) (ts : List PlainTerm) (o z : Option Fault) →
    z ≡ keep o (fitted_faults s ks place ts) → place ≡ at + bracket ts → z ≡ keep o (arguments_faults s (at + 1) ts ++ misfit_arguments s ks (at + 1) ts)
bracketed_noted s ks at place ts o z noted here =
    noted
    ∙ ap (λ n. keep o (fitted_faults s ks n ts)) here
    ∙ ap (keep o) (bracketed_place s ks at ts)
    ∙ fitted_are s ks (at + 1) ts o

-- ---- from the automaton's name on

pub counted_noted : (s : Scope) (ks : List (Option Kind)) (n m at place : ℕ) (ts : List PlainTerm) (o p z : Option Fault) →
    p ≡ keep o (where_wrong (not (nat_eq n m)) at 12) → z ≡ keep p (arguments_faults s place ts ++ misfit_arguments s ks place ts) → length ks ≡ n → length ts ≡ m → place ≡ at + 2 → z ≡ keep o (placing_faults s (Some ks) at ts)
counted_noted s ks n m at place ts o p z first second wanted given here =
    keep_between o p z (arguments_faults s (at + 2) ts) (where_wrong (not (nat_eq (length ks) (length ts))) at 12) (misfit_arguments s ks (at + 2) ts)
    (first ∙ ap (λ k. keep o (where_wrong (not (nat_eq k m)) at 12)) (sym wanted) ∙ ap (λ k. keep o (where_wrong (not (nat_eq (length ks) k)) at 12)) (sym given))
    (second ∙ ap (λ n. keep p (arguments_faults s n ts ++ misfit_arguments s ks n ts)) here)

pub alone_noted : (s : Scope) (at place : ℕ) (ts : List PlainTerm) (o z : Option Fault) →
    z ≡ keep o (arguments_faults s place ts ++ misfit_arguments s [] place ts) → place ≡ at + 2 → z ≡ keep o (placing_faults s None at ts)
alone_noted s at place ts o z noted here =
    noted
    ∙ ap (λ n. keep o (arguments_faults s n ts ++ misfit_arguments s [] n ts)) here
    ∙ ap (λ fs. keep o (arguments_faults s (at + 2) ts ++ fs)) (none_unfit s (at + 2) ts)
