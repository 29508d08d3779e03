-- Which composition a source text means, and why it means none.
use Rattle.std.specs.Prelude.{◌≡◌, ◌≤◌, ℕ, List, [], length}
use Rattle.ioa_trees.specs.Trees.{PlainSource}
use Rattle.ioa_trees.specs.SourceRules.{source_faults, source_meaning}
use Rattle.ioa_front.specs.Reading.{IsReadable, IsRefusal, Spells, most_bytes}
use Rattle.ioa_check.specs.Refusals as check
use Rattle.plans.specs.declared.plan.Plan.{Plan}
use Rattle.plans.specs.Plans.{action_texts}
use Rattle.compose.specs.Faults.{HasNoFault, IsPlan}
use Rattle.compose.specs.Faults as compose
use Rattle.compose.specs.declared.source_error.SourceError.{SourceError}
use Rattle.compose.specs.declared.source_error.SourceError.TheVariants as fault

-- one byte more than a source may have
abbrev pub front_bytes : ℕ
front_bytes = 65537

-- The bytes, at most 65,536, spell this tree of the grammar.
pub record IsRead (source : List ℕ) (tree : PlainSource) : Type 0 where
  pub size : length source ≤ most_bytes
  pub spelled : Spells source tree
  pub readable : IsReadable tree

-- The source is read, has no fault, its components can be composed, and the plan is what it means.
pub record IsComposed (source : List ℕ) (plan : Plan) : Type 0 where
  pub tree : PlainSource
  pub read : IsRead source tree
  pub faultless : source_faults tree ≡ []
  pub composes : HasNoFault (action_texts plan) (source_meaning tree)
  pub meant : IsPlan (source_meaning tree) plan

-- The source is read, and has the fault.
pub record IsFaulty (source : List ℕ) (Refused : PlainSource → Type 0) : Type 0 where
  pub tree : PlainSource
  pub read : IsRead source tree
  pub refused : Refused tree

-- The source is read, has no fault, and its components can't be composed.
pub record IsUncomposed (source : List ℕ) (Refused : PlainSource → Type 0) : Type 0 where
  pub tree : PlainSource
  pub read : IsRead source tree
  pub faultless : source_faults tree ≡ []
  pub refused : Refused tree

-- why a source is refused; of want of memory nothing is said
abbrev pub IsRefused : List ℕ → SourceError → Type 0
IsRefused source (fault.Read refusal) = IsRefusal source refusal
IsRefused source (fault.Check refusal) = IsFaulty source (λ tree. check.IsRefused tree refusal)
IsRefused source (fault.Compose refusal) = IsUncomposed source (λ tree. compose.IsRefused (source_meaning tree) refusal)
