use Rattle.std.proofs.Common.{◌≡◌, ℕ, List, codes, ◌+◌, ◌++◌, ◌∙◌, ap, flat_map, length, map, string_bytes}
use Rattle.drawing.specs.Elements.{head_text}
use Rattle.drawing.specs.Turns.{bottom_of, components_text, remark_text, turn_text, x_of}
use Rattle.drawing.proofs.Joined.{two}
use Rattle.drawing.proofs.turns.put_diagram.Goals as goal

pub returns : goal.returns
returns c =
    let end : List ℕ = c.put.new.text.items in
    let named : List (List ℕ) = map string_bytes c.args.names.now in
    let bottom : ℕ = bottom_of c.args.from c.args.turns.now in
    let head : List ℕ = head_text (x_of (length named)) (bottom + 40) in
    let components : List ℕ = components_text bottom 0 named in
    let marks : List ℕ = flat_map (turn_text c.args.plan.now c.args.from) c.args.turns.now in
    let remark : List ℕ = remark_text bottom c.args.many in
    let last : List ℕ = codes "</svg>\n" in
    let is_bottom = c.bottom_of-bottom.ensures.is in
    let put_head : c.put_head.new.text.items ≡ c.args.text.now.items ++ head = c.in_ok-put_head.ensures ∙ (λ i. c.args.text.now.items ++ head_text (c.width_of.ensures i) (is_bottom i + 40)) in
    let put_components : c.put_components.new.text.items ≡ c.put_head.new.text.items ++ components = c.in_ok-put_components.ensures ∙ ap (λ (b : ℕ). c.put_head.new.text.items ++ components_text b 0 named) is_bottom in
    let put_remark : c.put_remark.new.text.items ≡ c.put_turns.new.text.items ++ remark = c.in_ok-put_remark.ensures ∙ ap (λ (b : ℕ). c.put_turns.new.text.items ++ remark_text b c.args.many) is_bottom in
    two c.args.text.now.items c.put_head.new.text.items end head (components ++ (marks ++ (remark ++ last))) put_head
    (two c.put_head.new.text.items c.put_components.new.text.items end components (marks ++ (remark ++ last)) put_components
    (two c.put_components.new.text.items c.put_turns.new.text.items end marks (remark ++ last) c.in_ok-put_turns.ensures
    (two c.put_turns.new.text.items c.put_remark.new.text.items end remark last put_remark c.in_ok-put.ensures)))
