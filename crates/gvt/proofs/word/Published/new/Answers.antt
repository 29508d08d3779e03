use Rattle.std.proofs.Common.{arith, ap, ◌∙◌}
use Rattle.gvt.proofs.Steps.{admits, opens}
use Rattle.gvt.proofs.word.Published.new.Goals as goal

pub of_words-requires : goal.of_words-requires
of_words-requires c = opens

pub split_seat-place-requires : goal.split_seat-place-requires
split_seat-place-requires c = (
  c.loop.invariant.first.0 ∙ ap (λ t. t.shared.table_id) c.loop.invariant.same,
  (let one = c.in_ok-table.table.counts in let n = c.in_ok-table.ensures.0 in omega arith),
  admits _ _,
)
