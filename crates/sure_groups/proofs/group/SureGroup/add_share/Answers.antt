use Rattle.std.proofs.Common.{rules, ◌≡◌, ap, sym, subst, ◌∙◌, List, drop, arith, slice_set}
use Rattle.std.specs.Arc.{arc_value}
use Rattle.task_seed.specs.Setups.{system}
use Rattle.shares.specs.declared.share.Own.{Own}
use Rattle.sure_groups.specs.Sure.{AreSure, next_of}
use Rattle.sure_groups.proofs.Dealt.{dealt}
use Rattle.sure_groups.proofs.Written.{none_left}
use Rattle.sure_groups.proofs.group.SureGroup.add_share.Goals as goal

pub returns-clause-sure : goal.returns-clause-sure
returns-clause-sure g c =
    let x = c.args.self.now in
    let s = system g.T.Turns.turn_of (arc_value x.setup) in
    let next = c.next_at-next.ensures ∙ ap (λ (l : List Own). next_of (drop 0 l) c.args.share.until) c.deref.ensures.value in
    let begins : c.args.share.from ≡ x.until = search rules in
    subst (λ n. AreSure s x.hearing.groups.items (slice_set x.hearing.heard.items n c.next_at-next.result) x.hearing.me x.members.items c.args.share.own.items c.args.share.until x.bags.items x.slots.items) (sym c.from.ensures)
    (dealt s x.hearing.groups.items x.hearing.heard.items x.hearing.me x.members.items (drop x.at x.own.items) x.until x.bags.items x.slots.items c.args.share c.requires.known.0 c.next_at-next.result c.requires.sure (none_left x.own.items x.at (omega (arith, c.if-self-len.false, c.len.ensures, x.own.ok.0))) begins
    c.requires.known.1 c.requires.known.2 next)
