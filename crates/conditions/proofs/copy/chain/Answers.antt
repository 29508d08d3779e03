use Rattle.conditions.proofs.Copies.{chained}
use Rattle.conditions.proofs.copy.chain.Goals as goal

pub returns : goal.returns
returns c =
    chained (record { first = c.in_ok-first.first; links = c.in_ok-links.links }) c.args.first.now c.args.links.now c.in_ok-first.ensures c.in_ok-links.ensures
