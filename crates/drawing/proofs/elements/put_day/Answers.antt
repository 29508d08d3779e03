use Rattle.std.proofs.Common.{◌++◌}
use Rattle.drawing.specs.Elements.{texts_by_day, lines_by_day, dots_by_day}
use Rattle.drawing.proofs.Joined.{behind}
use Rattle.drawing.proofs.elements.put_day.Goals as goal

pub returns : goal.returns
returns c =
    behind c.put-3.result c.args.text.now.items c.put.new.text.items c.put-3.new.text.items texts_by_day (lines_by_day ++ dots_by_day) c.in_ok-put.ensures
    (behind c.put-3.result c.put.new.text.items c.put-2.new.text.items c.put-3.new.text.items lines_by_day dots_by_day c.in_ok-put-2.ensures c.put-3.ensures)
