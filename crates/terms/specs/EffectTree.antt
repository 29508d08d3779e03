-- An effect as a tree, wherever it lies in memory.
use Rattle.std.specs.Prelude.{ℕ, List, [], ◌∷◌}
use Rattle.terms.specs.TermTree.{TermTree, term_tree}
use Rattle.terms.specs.declared.scalar.Listed.{Listed}
use Rattle.terms.specs.declared.effect.Effect.{Effect}
use Rattle.terms.specs.declared.effect.Part.{Part}
use Rattle.terms.specs.declared.effect.Last.{Last}
use Rattle.terms.specs.declared.effect.Last.TheOpen.{Effect-F, Part-F, Last-F}
use Rattle.terms.specs.declared.effect.Last.TheOpen as code
use Rattle.terms.specs.declared.effect.Last.TheFolds.{fold-Effect, fold-Part, fold-Last}

-- the effects, two at a time
pub data EffectTree : Type 0 where
  Nothing : EffectTree
  Assign : (cell : ℕ) (value : TermTree) → EffectTree
  AssignItem : (cell : ℕ) (at : TermTree) (index : Listed) (value : TermTree) → EffectTree
  Then : (first second : EffectTree) → EffectTree
  If : (test : TermTree) (body otherwise : EffectTree) → EffectTree
  For : (slot : ℕ) (members : Listed) (body : EffectTree) → EffectTree

-- a part that something follows: an effect before it, or a branch in place of it
pub data PartTree : Type 0 where
  Before : (first : EffectTree) → PartTree
  Branch : (test : TermTree) (body : EffectTree) → PartTree

-- a part, and what follows it
abbrev pub followed : PartTree → EffectTree → EffectTree
followed (Before first) rest = Then first rest
followed (Branch test body) rest = If test body rest

-- parts, and what stands last
abbrev pub ended : List PartTree → EffectTree → EffectTree
ended [] last = last
ended (part ∷ parts) last = followed part (ended parts last)

abbrev pub part_step : Part-F EffectTree PartTree EffectTree → PartTree
part_step (code.Before first) = Before first
part_step (code.Branch test body) = Branch (term_tree test) body

abbrev pub last_step : Last-F EffectTree PartTree EffectTree → EffectTree
last_step code.Nothing = Nothing
last_step (code.Assign cell value) = Assign cell (term_tree value)
last_step (code.AssignItem cell at index value) = AssignItem cell (term_tree at) index (term_tree value)
last_step (code.For slot members body) = For slot members body.value

abbrev pub effect_step : Effect-F EffectTree PartTree EffectTree → EffectTree
effect_step effect = ended effect.parts.items effect.last

-- the tree that an effect of the code stands for
abbrev pub effect_tree : Effect → EffectTree
effect_tree = fold-Effect EffectTree PartTree EffectTree last_step part_step effect_step

abbrev pub last_tree : Last → EffectTree
last_tree = fold-Last EffectTree PartTree EffectTree last_step part_step effect_step

abbrev pub part_tree : Part → PartTree
part_tree = fold-Part EffectTree PartTree EffectTree last_step part_step effect_step
