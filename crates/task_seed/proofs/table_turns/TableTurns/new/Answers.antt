use Rattle.std.proofs.Common.{ℕ, take, get_or, ap, ◌∙◌, arith}
use Rattle.std.specs.List.{list_all}
use Rattle.std.proofs.lemmas.List.Elements.{All-take}
use Rattle.plans.specs.Plans.{composition}
use Rattle.task_seed.specs.declared.table.Row.{Row}
use Rattle.task_seed.specs.Faults.{HasFault}
use Rattle.task_seed.specs.Gaps.{is_in_range}
use Rattle.task_seed.proofs.Judged.{row_exists, turns_in_range, lists_in_range}
use Rattle.task_seed.proofs.table_turns.TableTurns.new.Goals as goal

pub add_turn-requires : goal.add_turn-requires
add_turn-requires c =
    let none : Row = record { component = 0; gap = 0; task = 0; choice = 0 } in
    let row = get_or c.args.rows.now c.loop-row.row-index none in
    let exists = row_exists (composition c.args.plan.now) row (c.in_ok-check_rows.ensures.ok c.loop-row.row-index none c.loop-row-test.true) in
    omega (arith, exists, c.loop-row.invariant.len)

pub invariant_of-result : goal.invariant_of-result
invariant_of-result c =
    let here = composition c.args.plan.now in
    let sound = All-take (λ r. (n : ℕ) → HasFault here r n → ⊥) c.loop-row.row-index c.args.rows.now c.in_ok-check_rows.ensures.ok in
    record {
      in_range = lists_in_range c.loop-row.turns.items
          (λ i. ap (list_all is_in_range) (c.loop-row.invariant.turns i) ∙ turns_in_range here (take c.loop-row.row-index c.args.rows.now) i sound);
    }
