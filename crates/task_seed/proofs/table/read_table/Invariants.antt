use Rattle.std.proofs.Common.{◌≡◌, ◌+◌, ◌≤◌, ◌++◌, All, length, map, vec_len}
use Rattle.task_seed.specs.Table.{lines_of, spelled, IsInRange}
use Rattle.task_seed.proofs.table.read_table.Given as goal

abbrev pub invariant-loop-rest : goal.invariant-loop-rest
invariant-loop-rest l = record {
  read : lines_of l.bytes ≡ map spelled l.rows.items ++ lines_of l.rest;
  in_range : All IsInRange l.rows.items;
  room : vec_len l.rows + length l.rest ≤ length l.bytes;
}

abbrev pub decreases-loop-rest : goal.decreases-loop-rest
decreases-loop-rest l = length l.rest
