use Rattle.std.proofs.Common.{rules, ◌≡◌, ◌++◌, None, Some, filter, sym, subst₂}
use Rattle.antimessage.specs.Bags.{is_to}
use Rattle.exchange.specs.Moving.{first_receiver, IsBrought}
use Rattle.exchange.proofs.Spreading.{IsSpreading, fewer, nothing_left, spreading_steps, spreading_ends}
use Rattle.exchange.proofs.meeting.spread.Goals as goal

pub loop-to-smaller : goal.loop-to-smaller
loop-to-smaller c =
    let l = c.loop-to in
    let first : first_receiver (l.out ++ l.copies) ≡ Some c.in-Some.to = search rules in
    rw (c.split_to-came.ensures.rest, c.split_to.ensures.rest) (fewer c.in-Some.to l.out l.copies first)

pub loop-to-preserved : goal.loop-to-preserved
loop-to-preserved c =
    let l = c.loop-to in
    let to = c.in-Some.to in
    let first : first_receiver (l.out ++ l.copies) ≡ Some to = search rules in
    let brought : IsBrought to (filter (is_to to) l.out) (filter (is_to to) l.copies) l.stubs c.bring-pairs.new.stubs
    = subst₂ (λ came copies. IsBrought to came copies l.stubs c.bring-pairs.new.stubs) c.split_to-came.ensures.taken c.split_to.ensures.taken c.bring-pairs.ensures in
    subst₂ (λ out copies. IsSpreading c.args.out.now c.args.copies.now c.args.stubs.now out copies c.bring-pairs.new.stubs) (sym c.split_to-came.ensures.rest) (sym c.split_to.ensures.rest)
    (spreading_steps c.args.out.now c.args.copies.now c.args.stubs.now l.out l.copies l.stubs l.invariant to c.bring-pairs.new.stubs first brought)

pub returns-clause-each : goal.returns-clause-each
returns-clause-each c =
    let l = c.loop-to in
    let none : first_receiver (l.out ++ l.copies) ≡ None = search rules in
    spreading_ends c.args.out.now c.args.copies.now c.args.stubs.now l.out l.copies l.stubs l.invariant none

pub returns-clause-out : goal.returns-clause-out
returns-clause-out c =
    let l = c.loop-to in
    let none : first_receiver (l.out ++ l.copies) ≡ None = search rules in
    (nothing_left l.out l.copies none).0

pub returns-clause-copies : goal.returns-clause-copies
returns-clause-copies c =
    let l = c.loop-to in
    let none : first_receiver (l.out ++ l.copies) ≡ None = search rules in
    (nothing_left l.out l.copies none).1
