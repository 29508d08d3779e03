-- One factor of a product, and those behind it.
use Rattle.std.proofs.Common.{arith, ◌≡◌, ◌+◌, ℕ, Option, [], ◌++◌, refl, ap, sym, ◌∙◌}
use Rattle.terms.specs.TermTree.{TermTree}
use Rattle.ioa_trees.specs.Trees.{PlainFactor, PlainFactors, Times, Modulo, no_factor, more_factors}
use Rattle.ioa_trees.specs.Faults.{Fault, keep, where_wrong}
use Rattle.ioa_trees.specs.Kinds.{is_whole}
use Rattle.ioa_trees.specs.Scopes.{Scope}
use Rattle.ioa_trees.specs.Sizes.{size, factor_size}
use Rattle.ioa_trees.specs.TermRules.{faults, judge, wants, factors_faults, multiplied}
use Rattle.std.specs.Prelude.{nat_eq}
use Rattle.ioa_typing.proofs.Keeps.{keep_append}

pub factors_step : (s : Scope) (o q : Option Fault) (at next : ℕ) (f : PlainFactor) (fs : PlainFactors) → q ≡ keep o (factors_faults s at (more_factors f no_factor)) → next ≡ at + factor_size f → keep q (factors_faults s next fs) ≡ keep o (factors_faults s at (more_factors f fs))
factors_step s o q at next (Times u) fs first is =
    let inside = faults s (at + 1) u in
    let wanted = wants is_whole (at + 1) (judge s u) in
    let rest = factors_faults s (at + size u + 1) fs in
    let place : next ≡ at + size u + 1 = is ∙ omega arith in
    ap (λ n. keep q (factors_faults s n fs)) place
    ∙ ap (λ x. keep x rest) (first ∙ keep_append o inside (wanted ++ []) ∙ keep_append (keep o inside) wanted [])
    ∙ sym (keep_append o inside (wanted ++ rest) ∙ keep_append (keep o inside) wanted rest)
factors_step s o q at next (Modulo n) fs first is =
    let wrong = where_wrong (nat_eq n 0) (at + 1) 12 in
    ap (λ m. keep q (factors_faults s m fs)) is
    ∙ ap (λ x. keep x (factors_faults s (at + 2) fs)) (first ∙ keep_append o wrong [])
    ∙ sym (keep_append o wrong (factors_faults s (at + 2) fs))

pub multiplied_more : (s : Scope) (c : Option TermTree) (f : PlainFactor) (fs : PlainFactors) → multiplied s (multiplied s c (more_factors f no_factor)) fs ≡ multiplied s c (more_factors f fs)
multiplied_more s c (Times u) fs = refl
multiplied_more s c (Modulo n) fs = refl
