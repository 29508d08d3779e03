use Rattle.std.proofs.Common.{rules}
use Rattle.std.specs.Prelude.{flat_map}
use Rattle.commands.specs.Counts.{count_line}
use Rattle.commands.specs.Written.{IsCut}
use Rattle.commands.proofs.Pieces.{line_cut, line_written}
use Rattle.commands.proofs.counts.write_counts.Goals as goal

pub returns-in_err-write_count-clause-err : goal.returns-in_err-write_count-clause-err
returns-in_err-write_count-clause-err g c =
    let stats = c.args.stats.now in
    let h : IsCut g.E.Write.contents c.args.err.now c.write_count.new.err (flat_map (count_line stats) c.args.counts.now) =
    line_cut (count_line stats) c.loop-count.rest.now c.in-Some.later.now c.in-Some.count.now c.in-Some.ensures.cases.0 c.loop-count.invariant c.in_err-write_count.ensures.err in
    search (rules, h)

pub loop-count-preserved : goal.loop-count-preserved
loop-count-preserved g c =
    line_written (count_line c.args.stats.now) c.loop-count.rest.now c.in-Some.later.now c.in-Some.count.now c.in-Some.ensures.cases.0 c.loop-count.invariant c.in_ok-write_count.ensures.ok
