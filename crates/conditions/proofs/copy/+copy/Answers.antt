use Rattle.conditions.proofs.Copies.{copied}
use Rattle.conditions.proofs.copy.+copy.Goals as goal

pub copy-returns : goal.copy-returns
copy-returns t c =
    copied (record { first = c.in_ok-first.first; links = c.in_ok-links.links }) c.args.term.now c.as_slice.result.now c.as_slice.ensures.value c.in_ok-first.ensures c.in_ok-links.ensures
