use Rattle.std.proofs.Common.{◌++◌}
use Rattle.drawing.specs.Elements.{texts_by_night, lines_by_night, dots_by_night}
use Rattle.drawing.proofs.Joined.{behind}
use Rattle.drawing.proofs.elements.put_night.Goals as goal

pub returns : goal.returns
returns c =
    behind c.put-3.result c.args.text.now.items c.put.new.text.items c.put-3.new.text.items texts_by_night (lines_by_night ++ dots_by_night) c.in_ok-put.ensures
    (behind c.put-3.result c.put.new.text.items c.put-2.new.text.items c.put-3.new.text.items lines_by_night dots_by_night c.in_ok-put-2.ensures c.put-3.ensures)
