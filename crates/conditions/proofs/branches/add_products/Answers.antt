use Rattle.std.proofs.Common.{◌∙◌, ◌+◌, drop, rules}
use Rattle.conditions.proofs.Opening.{with_product, item_and_rest}
use Rattle.conditions.proofs.branches.add_products.Goals as goal

pub loop-more-preserved : goal.loop-more-preserved
loop-more-preserved c scope state =
    with_product c.loop-more.all.items c.push.new.self.items (drop c.loop-more.more-index c.args.others.now) (drop (c.loop-more.more-index + 1) c.args.others.now) c.in_ok-product.field-0 c.more-item.result c.args.tests.now scope state (search rules) (search rules) (item_and_rest c.args.others.now c.loop-more.more-index c.more-item.result (search rules) c.more-item.is)
    ∙ c.loop-more.invariant scope state
