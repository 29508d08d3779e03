use Rattle.std.proofs.Common.{◌≡◌, ◌∙◌, ap, subst}
use Rattle.ioa_layout.specs.Ink.{parts_of}
use Rattle.ioa_layout.specs.Gaps.{AreAllGaps, laid}
use Rattle.ioa_layout.specs.Lines.{StandAll}
use Rattle.ioa_layout.proofs.Layouts.{layout_is, reads_alike}
use Rattle.ioa_layout.proofs.layout.format.Goals as goal

pub returns-clause-ok : goal.returns-clause-ok
returns-clause-ok c =
    let source = c.args.source.now in
    let text = c.in_ok-text.text.items in
    let seen = c.in_ok-seen.seen.items in
    let set = c.in_ok-set.set.items in
    let gaps : AreAllGaps (parts_of seen) set = subst (λ xs. AreAllGaps (parts_of xs) set) c.as_slice-2.ensures.value c.in_ok-set.ensures.gaps in
    let stand : StandAll seen set = subst (λ xs. StandAll xs set) c.as_slice-2.ensures.value c.in_ok-set.ensures.lines in
    let whole : text ≡ laid (parts_of seen) set =
    c.in_ok-text.ensures ∙ ap (λ xs. laid (parts_of xs) c.as_slice-4.result.now) c.as_slice-3.ensures.value ∙ ap (λ gs. laid (parts_of seen) gs) c.as_slice-4.ensures.value in
    layout_is source text seen set c.in_ok-seen.ensures gaps stand whole

pub returns-clause-tokens : goal.returns-clause-tokens
returns-clause-tokens c =
    let source = c.args.source.now in
    let text = c.in_ok-text.text.items in
    let seen = c.in_ok-seen.seen.items in
    let set = c.in_ok-set.set.items in
    let gaps : AreAllGaps (parts_of seen) set = subst (λ xs. AreAllGaps (parts_of xs) set) c.as_slice-2.ensures.value c.in_ok-set.ensures.gaps in
    let stand : StandAll seen set = subst (λ xs. StandAll xs set) c.as_slice-2.ensures.value c.in_ok-set.ensures.lines in
    let whole : text ≡ laid (parts_of seen) set =
    c.in_ok-text.ensures ∙ ap (λ xs. laid (parts_of xs) c.as_slice-4.result.now) c.as_slice-3.ensures.value ∙ ap (λ gs. laid (parts_of seen) gs) c.as_slice-4.ensures.value in
    reads_alike source text c.in_ok-found.ensures.ok.0 (layout_is source text seen set c.in_ok-seen.ensures gaps stand whole)
