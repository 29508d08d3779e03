use Rattle.std.proofs.Common.{◌≡◌, ap, subst, sym}
use Rattle.std.specs.declared.vec.Vec.{Vec}
use Rattle.event_keys.specs.Ranks.{rank}
use Rattle.io_automata.specs.Steps.{applied}
use Rattle.plans.specs.Memos.{IsMemo}
use Rattle.plans.specs.Plans.{composition}
use Rattle.task_seed.specs.Setups.{system}
use Rattle.sure_groups.specs.Inputs.{IsOneOf}
use Rattle.sure_groups.specs.Members.{Stands}
use Rattle.sure_groups.specs.declared.input.Input.{Input}
use Rattle.sure_groups.proofs.Falling.{from_last}
use Rattle.sure_groups.proofs.Standing.{taken_in}
use Rattle.sure_groups.proofs.member.take_in.Goals as goal

pub loop-input-preserved-in_ok-change : goal.loop-input-preserved-in_ok-change
loop-input-preserved-in_ok-change g c =
    let s = system g.T.Turns.turn_of c.args.setup.now in
    let gs = c.args.hearing.now.groups.items in
    let hs = c.args.hearing.now.heard.items in
    let k = rank c.args.key in
    let j = c.args.key.component in
    let x = c.in-Some.input in
    let old = c.loop-input.member in
    let new = c.change.new.member in
    let front = c.next_below.new.pending.items in
    let ok = c.in_ok-change.ensures in
    let before = subst (λ l. Stands s gs hs k j old.state.current l) c.in-Some.ensures.some.0 c.loop-input.invariant.stands in
    let after = taken_in s gs hs k j old.state.current front x before c.requires.known c.in-Some.ensures.some.1 in
    let state_is = subst (λ p. new.state.current ≡ applied (composition p) j x.action old.state.current) c.plan.ensures ok.state in
    let front_is : new.pending.items ≡ front = ap (λ (v : Vec Input _). v.items) ok.pending in
    record {
      plain = ok.plain;
      memo = subst (λ p. IsMemo (composition p) j new.state.current new.memo) c.plan.ensures ok.memo;
      stands = subst (λ st. Stands s gs hs k j st new.pending.items) (sym state_is) (subst (λ l. Stands s gs hs k j (applied s.composition j x.action old.state.current) l) (sym front_is) after);
    }

pub loop-input-preserved : goal.loop-input-preserved
loop-input-preserved g c =
    let s = system g.T.Turns.turn_of c.args.setup.now in
    let gs = c.args.hearing.now.groups.items in
    let hs = c.args.hearing.now.heard.items in
    let k = rank c.args.key in
    let j = c.args.key.component in
    let x = c.in-Some.input in
    let old = c.loop-input.member in
    let new = c.change.new.member in
    let front = c.next_below.new.pending.items in
    let ok = c.in_ok-change.ensures in
    let before = subst (λ l. Stands s gs hs k j old.state.current l) c.in-Some.ensures.some.0 c.loop-input.invariant.stands in
    let after = taken_in s gs hs k j old.state.current front x before c.requires.known c.in-Some.ensures.some.1 in
    let state_is = subst (λ p. new.state.current ≡ applied (composition p) j x.action old.state.current) c.plan.ensures ok.state in
    let front_is : new.pending.items ≡ front = ap (λ (v : Vec Input _). v.items) ok.pending in
    record {
      plain = ok.plain;
      memo = subst (λ p. IsMemo (composition p) j new.state.current new.memo) c.plan.ensures ok.memo;
      stands = subst (λ st. Stands s gs hs k j st new.pending.items) (sym state_is) (subst (λ l. Stands s gs hs k j (applied s.composition j x.action old.state.current) l) (sym front_is) after);
    }

pub returns-clause-none : goal.returns-clause-none
returns-clause-none g c x is =
    let none = c.next_below.ensures.none c.in_default.is in
    from_last (rank c.args.key) c.loop-input.member.pending.items c.loop-input.invariant.stands.order none.1 x (subst (λ l. IsOneOf l x) none.0 is)
