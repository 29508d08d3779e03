use Rattle.std.proofs.Common.{ap, sym, ◌∙◌}
use Rattle.std.specs.Prelude.{slice_index_or}
use Rattle.undo_records.specs.States.{without_first}
use Rattle.reference.specs.Taking.{other_than}
use Rattle.reference.proofs.Takers.{short, marked_here, one_more}
use Rattle.reference.proofs.taking.forget_others.Goals as goal

pub bounds-states-from : goal.bounds-states-from
bounds-states-from c =
    short (other_than c.args.i (without_first 1)) c.args.among.now c.requires.once c.args.states.now c.loop-j.states c.loop-j.j-index c.from.result c.from.ensures c.loop-j-test.true c.requires.within c.loop-j.invariant

pub forget_other-requires : goal.forget_other-requires
forget_other-requires c apart =
    marked_here (other_than c.args.i (without_first 1)) c.args.among.now c.requires.once c.args.states.now c.loop-j.states c.loop-j.j-index c.from.result c.from.ensures c.loop-j-test.true c.requires.within c.loop-j.invariant
    c.index-states-from.result c.args.i c.requires.marked (λ same. apart (sym c.from.ensures ∙ same))

pub loop-j-preserved : goal.loop-j-preserved
loop-j-preserved c =
    let was = slice_index_or c.loop-j.states c.from.result c.index-states-from.result in
    one_more (other_than c.args.i (without_first 1)) c.args.among.now c.requires.once c.args.states.now c.loop-j.states c.loop-j.j-index c.from.result c.from.ensures c.loop-j-test.true c.requires.within c.loop-j.invariant
    c.index-states-from.result c.forget_other.new.state (c.forget_other.ensures ∙ ap (λ j. other_than c.args.i (without_first 1) j was) (sym c.from.ensures))
