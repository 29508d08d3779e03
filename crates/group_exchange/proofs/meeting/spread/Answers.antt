use Rattle.std.proofs.Common.{rules, ◌≡◌, ◌++◌, None, Some, filter, refl, sym, subst, subst₂, ◌∙◌}
use Rattle.antimessage.specs.Bags.{is_to}
use Rattle.group_exchange.specs.ExchangeView.{group_at}
use Rattle.group_exchange.specs.Moving.{first_receiver, IsBrought}
use Rattle.group_exchange.proofs.Spreading.{IsSpreading, fewer, nothing_left, spreading_starts, spreading_steps, spreading_ends}
use Rattle.group_exchange.proofs.meeting.spread.Goals as goal

pub loop-to-init : goal.loop-to-init
loop-to-init c = record { many = refl; spread = λ s law split rest_law are copied. spreading_starts s law (group_at c.args.groups.now) split rest_law c.args.out.now c.args.copies.now c.args.stubs.now are copied }

pub loop-to-smaller : goal.loop-to-smaller
loop-to-smaller c =
    let l = c.loop-to in
    let first : first_receiver (l.out ++ l.copies) ≡ Some c.in-Some.to = search rules in
    rw (c.split_to-came.ensures.rest, c.split_to.ensures.rest) (fewer c.in-Some.to l.out l.copies first)

pub loop-to-preserved : goal.loop-to-preserved
loop-to-preserved c =
    let l = c.loop-to in
    let to = c.in-Some.to in
    let new = c.bring-pairs.new.stubs in
    let brought : IsBrought (group_at c.args.groups.now to) (filter (is_to to) l.out) (filter (is_to to) l.copies) l.stubs new
    = subst (λ n. IsBrought n (filter (is_to to) l.out) (filter (is_to to) l.copies) l.stubs new) c.group_at-group.ensures
    (subst₂ (λ came copies. IsBrought c.group_at-group.result came copies l.stubs new) c.split_to-came.ensures.taken c.split_to.ensures.taken c.bring-pairs.ensures) in
    record {
      many = brought.many ∙ l.invariant.many;
      spread = λ s law split rest_law are copied.
          subst₂ (λ out copies. IsSpreading s law (group_at c.args.groups.now) split rest_law c.args.out.now c.args.stubs.now out copies new) (sym c.split_to-came.ensures.rest) (sym c.split_to.ensures.rest)
          (spreading_steps s law (group_at c.args.groups.now) split rest_law c.args.out.now c.args.stubs.now l.out l.copies l.stubs (l.invariant.spread s law split rest_law are copied) to new brought);
    }

pub returns-clause-come : goal.returns-clause-come
returns-clause-come c s law are copied =
    let l = c.loop-to in
    let none : first_receiver (l.out ++ l.copies) ≡ None = search rules in
    let split = c.flight_law.ensures.to in
    let rest_law = c.flight_law.ensures.not_to in
    spreading_ends s law (group_at c.args.groups.now) split rest_law c.args.out.now c.args.stubs.now l.out l.copies l.stubs (l.invariant.spread s law split rest_law are copied) (nothing_left l.out l.copies none).0
