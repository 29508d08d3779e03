-- Lists of effects and of branches, put together from the last one on.
use Rattle.std.specs.Prelude.{ℕ, Option, Some, None, List, [], ◌∷◌, map}
use Rattle.terms.specs.TermTree.{TermTree}
use Rattle.terms.specs.declared.scalar.Listed.{Listed}
use Rattle.terms.specs.EffectTree as effect
use Rattle.terms.specs.EffectTree.{EffectTree, followed, ended, part_tree}
use Rattle.terms.specs.declared.effect.Part.{Part}
use Rattle.std.specs.declared.vec.Vec.{Vec}
use Rattle.std.specs.declared.alloc.Global.{Global}
use Rattle.ioa_trees.specs.Trees.{PlainStatements, PlainBranches, no_statement, more_statements, no_branch, more_branches}
use Rattle.ioa_trees.specs.EffectRules.{effect_of, effects_of, in_order, branch_of}
use Rattle.ioa_trees.specs.Scopes.{Scope}
use Rattle.ioa_trees.specs.TermRules.{judge, truth_of}

-- what each statement does
abbrev pub effect_list : Scope → ℕ → PlainStatements → List (Option EffectTree)
effect_list s n no_statement = []
effect_list s n (more_statements a others) = effect_of s n a ∷ effect_list s n others

-- effects before one more
abbrev pub before : List (Option EffectTree) → Option EffectTree → Option EffectTree
before [] last = last
before (e ∷ es) last = in_order e (before es last)

abbrev pub chained : List (Option EffectTree) → Option EffectTree
chained [] = Some effect.Nothing
chained (e ∷ []) = e
chained (e ∷ f ∷ fs) = in_order e (chained (f ∷ fs))

-- the condition and the effect of each branch
abbrev pub arm_list : Scope → ℕ → PlainBranches → List (Option TermTree × Option EffectTree)
arm_list s n no_branch = []
arm_list s n (more_branches t ss bs) = (truth_of (judge s t), effects_of s n ss) ∷ arm_list s n bs

-- the first branch whose condition holds, else what is done otherwise
abbrev pub choice : List (Option TermTree × Option EffectTree) → Option EffectTree → Option EffectTree
choice [] otherwise = otherwise
choice (a ∷ as') otherwise = branch_of a.0 a.1 (choice as' otherwise)

-- a part before what follows, and parts before it, where all are there
abbrev pub led_on : Option Part → Option EffectTree → Option EffectTree
led_on (Some part) (Some rest) = Some (followed (part_tree part) rest)
led_on _ _ = None

abbrev pub led_by : Option (Vec Part Global) → Option EffectTree → Option EffectTree
led_by (Some parts) (Some rest) = Some (ended (map part_tree parts.items) rest)
led_by _ _ = None

-- a loop over these members
abbrev pub for_of : ℕ → Option Listed → Option EffectTree → Option EffectTree
for_of n (Some members) (Some body) = Some (effect.For n members body)
for_of n _ _ = None
