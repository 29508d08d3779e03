use Rattle.std.proofs.Common.{rules, sym}
use Rattle.std.proofs.lemmas.List.{length-take-le, take_all}
use Rattle.drawing.proofs.Windows.{take_few}
use Rattle.drawing.proofs.engine.first_names.Goals as goal

pub slice_bounds-result-end : goal.slice_bounds-result-end
slice_bounds-result-end c = sym (length-take-le 1024 c.args.names.now (search rules))

pub returns-then-names-gt-MOST_COMPONENTS-clause-few : goal.returns-then-names-gt-MOST_COMPONENTS-clause-few
returns-then-names-gt-MOST_COMPONENTS-clause-few c = take_few 1024 c.args.names.now

pub returns-else-names-gt-MOST_COMPONENTS-clause-first : goal.returns-else-names-gt-MOST_COMPONENTS-clause-first
returns-else-names-gt-MOST_COMPONENTS-clause-first c = sym (take_all 1024 c.args.names.now (search rules))
