use Rattle.std.proofs.Common.{refl, string_bytes}
use Rattle.ioa_check.specs.AutomatonViews.{place_lists}
use Rattle.ioa_typing.specs.KindViews.{option_tree}
use Rattle.ioa_check.proofs.Taken.{below, raised}
use Rattle.ioa_check.proofs.resolving.automaton.Goals as goal

pub all-requires : goal.all-requires
all-requires c = below option_tree c.args.meant.formals.items refl c.requires.formals

pub returns : goal.returns
returns c =
    let formals = raised option_tree c.in_ok-formals.formals.items c.args.meant.formals.items c.in_ok-formals.ensures in
    let entries = c.in_ok-transitions.ensures in
    let kinds = c.in_ok-variables.ensures.kinds in
    let starts = c.in_ok-variables.ensures.starts in
    λ i. record { name = string_bytes c.args.meant.name; formals = formals i; entries = entries i; variables = kinds i; start = starts i; tasks = place_lists c.args.meant.tasks.items }
