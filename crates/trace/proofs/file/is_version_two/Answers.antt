use Rattle.std.proofs.Common.{eqb-true, length, sym, ◌∙◌}
use Rattle.trace.proofs.OneVersion.{empty_is_other, version_by_line}
use Rattle.trace.proofs.file.is_version_two.Goals as goal

pub returns-then-is_empty : goal.returns-then-is_empty
returns-then-is_empty c = empty_is_other c.args.bytes.now (eqb-true (length c.args.bytes.now) 0 (sym c.is_empty.ensures ∙ c.if-is_empty.true))

pub returns : goal.returns
returns c = version_by_line c.args.bytes.now c.split_line.result.0.now c.split_line.result.1.now c.is_head.result c.split_line.ensures.first c.is_head.ensures
