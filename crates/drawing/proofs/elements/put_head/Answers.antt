use Rattle.std.proofs.Common.{ℕ, List, codes, ◌++◌}
use Rattle.drawing.specs.Elements.{attribute_text, day_text, marker_text, night_text}
use Rattle.drawing.proofs.Joined.{behind}
use Rattle.drawing.proofs.elements.put_head.Goals as goal

pub returns : goal.returns
returns c =
    let end : List ℕ = c.put_marker.new.text.items in
    let from_night : List ℕ = night_text ++ marker_text in
    let from_day : List ℕ = day_text ++ from_night in
    let font : List ℕ = codes " font-family=\"monospace\" font-size=\"11\">\n" in
    let from_font : List ℕ = font ++ from_day in
    let height : List ℕ = attribute_text (codes " height=") c.args.height in
    let from_height : List ℕ = height ++ from_font in
    let width : List ℕ = attribute_text (codes " width=") c.args.width in
    let from_width : List ℕ = width ++ from_height in
    let begin : List ℕ = codes "<svg xmlns=\"http://www.w3.org/2000/svg\"" in
    behind c.put_marker.result c.args.text.now.items c.put.new.text.items end begin from_width c.in_ok-put.ensures
    (behind c.put_marker.result c.put.new.text.items c.put_attribute.new.text.items end width from_height c.in_ok-put_attribute.ensures
    (behind c.put_marker.result c.put_attribute.new.text.items c.put_attribute-2.new.text.items end height from_font c.in_ok-put_attribute-2.ensures
    (behind c.put_marker.result c.put_attribute-2.new.text.items c.put-2.new.text.items end font from_day c.in_ok-put-2.ensures
    (behind c.put_marker.result c.put-2.new.text.items c.put_day.new.text.items end day_text from_night c.in_ok-put_day.ensures
    (behind c.put_marker.result c.put_day.new.text.items c.put_night.new.text.items end night_text marker_text c.in_ok-put_night.ensures
    c.put_marker.ensures)))))
