use Rattle.std.proofs.Common.{refl, sym, string_bytes}
use Rattle.ioa_entries.specs.EffectViews.{done_tree}
use Rattle.ioa_entries.specs.EntryViews.{slot_tree}
use Rattle.ioa_typing.specs.TermViews.{core_tree}
use Rattle.ioa_check.proofs.Taken.{below, raised}
use Rattle.ioa_check.proofs.resolving.transition.Goals as goal

pub all-requires : goal.all-requires
all-requires c = below slot_tree c.args.meant.parameters.items refl c.requires.parameters

pub returns : goal.returns
returns c =
    let parameters = raised slot_tree c.in-Ok.parameters.items c.args.meant.parameters.items c.in-Ok.ensures in
    let pre = sym c.there.ensures in
    let effect = sym c.there-2.ensures in
    λ i. record { kind = c.args.meant.kind; name = string_bytes c.args.meant.name; parameters = parameters i; pre = core_tree (pre i); effect = done_tree (effect i) }
