use Rattle.std.proofs.Common.{◌≡◌, ◌+◌, ◌≤◌, Some, None, sym, ap, subst, ◌∙◌}
use Rattle.ioa_trees.specs.Views.{view_source}
use Rattle.ioa_trees.specs.Faults.{IsLeast, keep}
use Rattle.ioa_trees.specs.Meant.{IsWholeSource}
use Rattle.ioa_trees.specs.Sizes.{composed_size}
use Rattle.ioa_trees.specs.SourceRules.{composed_at, source_faults, source_meaning}
use Rattle.ioa_typing.specs.TermViews.{fault_tree, least_tree}
use Rattle.ioa_check.specs.SourceViews.{source_tree}
use Rattle.ioa_check.proofs.Answered.{room, told}
use Rattle.ioa_check.proofs.checking.check.Goals as goal

pub judge-requires : goal.judge-requires
judge-requires c = record {
  room = subst (λ t. composed_at (view_source t) + composed_size (view_source t).composed ≤ 65536) (sym c.tree.ensures.same)
      (room (view_source c.args.source) (c.size_law.ensures.all (view_source c.args.source) c.tree.ensures.some) c.tree.ensures.few);
}

pub returns-in-Some-clause-refused : goal.returns-in-Some-clause-refused
returns-in-Some-clause-refused c =
    let x = view_source c.args.source in
    let f = fault_tree c.in-Some.fault in
    let kept : keep None (source_faults x) ≡ Some f =
    sym (c.in_ok-meant.ensures.least ∙ ap (λ t. keep None (source_faults (view_source t))) c.tree.ensures.same) ∙ ap least_tree c.in-Some.is in
    let least : IsLeast f (source_faults x) = c.least_law.ensures.least (source_faults x) f kept in
    told x c.refusal.result f least c.refusal.ensures.place c.refusal.ensures.number

pub resolve-requires : goal.resolve-requires
resolve-requires c =
    let x = view_source c.args.source in
    let kept : keep None (source_faults x) ≡ None =
    sym (c.in_ok-meant.ensures.least ∙ ap (λ t. keep None (source_faults (view_source t))) c.tree.ensures.same) ∙ ap least_tree c.in-None.is in
    let same : source_tree c.in_ok-meant.meant ≡ source_meaning x = c.in_ok-meant.ensures.meant ∙ ap (λ t. source_meaning (view_source t)) c.tree.ensures.same in
    subst IsWholeSource (sym same) (c.sources_meant_law.ensures.meant x (c.least_law.ensures.none (source_faults x) kept))

pub invariant_of-result : goal.invariant_of-result
invariant_of-result c =
    let x = view_source c.args.source in
    let kept : keep None (source_faults x) ≡ None =
    sym (c.in_ok-meant.ensures.least ∙ ap (λ t. keep None (source_faults (view_source t))) c.tree.ensures.same) ∙ ap least_tree c.in-None.is in
    record {
      source = x;
      readable = c.tree.ensures.readable;
      few = c.tree.ensures.few;
      some = c.tree.ensures.some;
      faultless = c.least_law.ensures.none (source_faults x) kept;
      same = c.in_ok-resolved-in-None.ensures ∙ c.in_ok-meant.ensures.meant ∙ ap (λ t. source_meaning (view_source t)) c.tree.ensures.same;
    }
