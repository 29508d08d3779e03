use Rattle.std.proofs.Common.{refl, string_bytes}
use Rattle.ioa_typing.specs.TermViews.{core_tree}
use Rattle.ioa_check.proofs.Taken.{below, raised}
use Rattle.ioa_check.proofs.resolving.component.Goals as goal

pub all-requires : goal.all-requires
all-requires c = below core_tree c.args.meant.arguments.items refl c.requires

pub returns : goal.returns
returns c =
    let arguments = raised core_tree c.in_ok-arguments.arguments.items c.args.meant.arguments.items c.in_ok-arguments.ensures in
    λ i. record { name = string_bytes c.args.meant.name; automaton = c.args.meant.automaton; arguments = arguments i }
