use Rattle.std.proofs.Common.{◌≡◌, sym, subst, rules}
use Rattle.raw_events.specs.Around.{Around}
use Rattle.event_keys.specs.declared.message.Sign.TheVariants.{Minus}
use Rattle.event_keys.specs.declared.message.Signed.{Signed}
use Rattle.antimessage.proofs.Cancelling.{IsCancelling, cancelling_takes}
use Rattle.antimessage.proofs.walks.cancel.Goals as goal

pub loop-other-preserved-then-eq : goal.loop-other-preserved-then-eq
loop-other-preserved-then-eq c =
    let is_minus : c.in-Some.other.now.sign ≡ Minus = search rules in
    subst (λ (a : Around Signed). (a.before ≡ c.args.events.now.before) × IsCancelling c.args.others c.next.new.self c.args.events.now.after a.after) (sym c.take_one.ensures.rest) (
      c.loop-other.invariant.0,
      cancelling_takes c.args.others c.next.new.self c.args.events.now.after c.loop-other.events.after c.in-Some.other.now is_minus
          (subst (λ left. IsCancelling c.args.others left c.args.events.now.after c.loop-other.events.after) c.in-Some.ensures.steps c.loop-other.invariant.1),
    )
