use Rattle.std.proofs.Common.{◌≡◌, [], ap, arith, length, subst, sym, ◌∙◌}
use Rattle.io_automata.specs.Steps.{start_of}
use Rattle.plans.specs.Memos.{IsBlank}
use Rattle.plans.specs.Plans.{composition}
use Rattle.undo_records.specs.States.{States}
use Rattle.sure_groups.specs.declared.member.Member.{Member}
use Rattle.sure_groups.proofs.Written.{each_behind, long_behind}
use Rattle.sure_groups.proofs.members.start_members.Goals as goal

pub loop-i-preserved : goal.loop-i-preserved
loop-i-preserved c =
    let olds = c.loop-i.members.items in
    let news = c.push.new.self.items in
    let is = c.in_ok-push.ensures.items in
    let more = ap length is ∙ long_behind olds _ in
    let many = c.loop-i.invariant.many in
    let began = ap (λ (x : States). x.current) c.in_ok-new.ensures ∙ c.in_ok-start.ensures in
    record {
      many = omega (arith, more, many);
      state = each_behind (λ j (m : Member). m.state.current ≡ start_of (composition c.args.plan.now) j) olds news _ is c.loop-i.invariant.state (subst (λ n. c.in_ok-new.field-0.current ≡ start_of (composition c.args.plan.now) n) (sym many) began);
      plain = each_behind (λ j (m : Member). m.state.below ≡ []) olds news _ is c.loop-i.invariant.plain (ap (λ (x : States). x.below) c.in_ok-new.ensures);
      blank = each_behind (λ j (m : Member). IsBlank m.memo) olds news _ is c.loop-i.invariant.blank c.new-in-loop-i.ensures;
      none = each_behind (λ j (m : Member). m.pending.items ≡ []) olds news _ is c.loop-i.invariant.none c.new-in-loop-i-2.ensures.items;
    }
