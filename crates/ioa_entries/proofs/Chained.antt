-- Lists of effects and of branches are put together from the last one on.
use Rattle.std.proofs.Common.{◌≡◌, ℕ, Option, Some, None, Bool, true, false, if◌then◌else◌, List, [], ◌∷◌, ◌++◌, map, refl, ap}
use Rattle.terms.specs.TermTree.{TermTree}
use Rattle.terms.specs.EffectTree as effect
use Rattle.terms.specs.EffectTree.{EffectTree}
use Rattle.ioa_trees.specs.Trees.{PlainStatements, PlainBranches, no_statement, more_statements, no_branch, more_branches}
use Rattle.ioa_trees.specs.EffectRules.{effect_of, effects_of, branches_of, in_order, branch_of, loop_of}
use Rattle.ioa_trees.specs.Kinds.{Kind, can_be_listed, listed_of}
use Rattle.ioa_trees.specs.Scopes.{Scope}
use Rattle.ioa_trees.specs.TermRules.{judge, truth_of}
use Rattle.ioa_entries.specs.EffectLists.{before, chained, choice, effect_list, arm_list, for_of}
use Rattle.ioa_entries.specs.EffectViews.{members_of}

pub chained_last : (es : List (Option EffectTree)) (e : Option EffectTree) → chained (es ++ e ∷ []) ≡ before es e
chained_last [] e = refl
chained_last (x ∷ []) e = refl
chained_last (x ∷ y ∷ es) e = ap (in_order x) (chained_last (y ∷ es) e)

pub map_last : {A B : Type 0} (f : A → B) (xs : List A) (x : A) → map f (xs ++ x ∷ []) ≡ map f xs ++ f x ∷ []
map_last f [] x = refl
map_last f (y ∷ xs) x = ap (λ ys. f y ∷ ys) (map_last f xs x)

pub chained_is : (s : Scope) (n : ℕ) (ss : PlainStatements) → chained (effect_list s n ss) ≡ effects_of s n ss
chained_is s n no_statement = refl
chained_is s n (more_statements a no_statement) = refl
chained_is s n (more_statements a (more_statements b others)) = ap (in_order (effect_of s n a)) (chained_is s n (more_statements b others))

pub choice_is : (s : Scope) (n : ℕ) (bs : PlainBranches) (otherwise : Option EffectTree) → choice (arm_list s n bs) otherwise ≡ branches_of s n bs otherwise
choice_is s n no_branch otherwise = refl
choice_is s n (more_branches t ss bs) otherwise = ap (branch_of (truth_of (judge s t)) (effects_of s n ss)) (choice_is s n bs otherwise)

pub loop_is : (n : ℕ) (k : Option Kind) (body : Option EffectTree) → for_of n (members_of k) body ≡ loop_of n k body
loop_is n None body = refl
loop_is n (Some k) None = go (can_be_listed k)
  where
    go : (b : Bool) → for_of n (if b then Some (listed_of k) else None) None ≡ None
    go true = refl
    go false = refl
loop_is n (Some k) (Some e) = go (can_be_listed k)
  where
    go : (b : Bool) → for_of n (if b then Some (listed_of k) else None) (Some e) ≡ (if b then Some (effect.For n (listed_of k) e) else None)
    go true = refl
    go false = refl
