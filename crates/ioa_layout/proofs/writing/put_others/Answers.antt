use Rattle.std.proofs.Common.{◌≡◌, ◌++◌, length, sym, ◌∙◌, ap, drop}
use Rattle.ioa_layout.specs.Ink.{parts_of}
use Rattle.ioa_layout.proofs.Blanks.{ok_along, following_none}
use Rattle.ioa_layout.proofs.writing.put_others.Goals as goal

pub returns-in_default : goal.returns-in_default
returns-in_default c =
    let left = c.loop-item.left.now in
    let others = parts_of (drop c.loop-item.item-index c.args.items.now) in
    let none : length left ≡ 0 = c.in_default.ensures.cases in
    let text = c.loop-item.text.items in
    ok_along c.put.result _ _ _ c.put.ensures (ap (λ t. text ++ t) (sym (following_none others left none)) ∙ c.loop-item.invariant)
