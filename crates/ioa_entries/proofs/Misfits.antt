-- Whether a value fits doesn't depend on where it stands.
use Rattle.std.proofs.Common.{◌≡◌, ℕ, ◌+◌, Bool, true, false, not, if◌then◌else◌, Option, Some, None, refl, ◌∙◌, ap}
use Rattle.std.specs.Option.{is_some}
use Rattle.ioa_trees.specs.Trees.{PlainInit, Empty, Fill, Value}
use Rattle.ioa_trees.specs.Faults.{at_fault, where_wrong}
use Rattle.ioa_trees.specs.Kinds.{Kind, fits, is_seq, is_array}
use Rattle.ioa_trees.specs.Scopes.{Scope}
use Rattle.ioa_trees.specs.TermRules.{Judged, judge, unfit}
use Rattle.ioa_trees.specs.ValueRules.{has_fault, item_kind, misfits, is_misfit}
use Rattle.ioa_entries.specs.EffectViews.{misfit_faults}

wrong_anywhere : (w : Bool) (a b : ℕ) → has_fault (where_wrong w a 12) ≡ has_fault (where_wrong w b 12)
wrong_anywhere true a b = refl
wrong_anywhere false a b = refl

unfit_anywhere : (k : Kind) (a b : ℕ) (j : Option Judged) → has_fault (unfit k a j) ≡ has_fault (unfit k b j)
unfit_anywhere k a b None = refl
unfit_anywhere k a b (Some j) = wrong_anywhere (not (fits k j.kind)) a b

pub misfit_anywhere : (s : Scope) (k : Option Kind) (a b : ℕ) (v : PlainInit) → has_fault (misfits s k a v) ≡ has_fault (misfits s k b v)
misfit_anywhere s None a b v = refl
misfit_anywhere s (Some k) a b Empty = wrong_anywhere (not (is_seq k)) a b
misfit_anywhere s (Some k) a b (Fill v) = by_array (is_array k) (misfit_anywhere s (item_kind k) (a + 2) (b + 2) v)
  where
    by_array : (w : Bool) → has_fault (misfits s (item_kind k) (a + 2) v) ≡ has_fault (misfits s (item_kind k) (b + 2) v)
        → has_fault (if w then misfits s (item_kind k) (a + 2) v else at_fault a 12) ≡ has_fault (if w then misfits s (item_kind k) (b + 2) v else at_fault b 12)
    by_array true h = h
    by_array false h = refl
misfit_anywhere s (Some k) a b (Value t) = unfit_anywhere k a b (judge s t)

faulty : (p : Option ℕ) → is_some p ≡ has_fault (misfit_faults p)
faulty None = refl
faulty (Some place) = refl

pub misfit_is : (s : Scope) (k : Option Kind) (at : ℕ) (v : PlainInit) (p : Option ℕ) → misfit_faults p ≡ misfits s k at v → is_some p ≡ is_misfit s k v
misfit_is s k at v p h = faulty p ∙ ap has_fault h ∙ misfit_anywhere s k at 0 v
