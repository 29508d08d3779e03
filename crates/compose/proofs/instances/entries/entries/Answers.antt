use Rattle.std.proofs.Common.{rules, arith, ◌≡◌, ◌∷◌, length, map, ap}
use Rattle.std.specs.Vec.Iter.{into_iter_items}
use Rattle.io_automata.specs.Automata.{transition_of}
use Rattle.plans.specs.Plans.{text_of}
use Rattle.ioa_check.specs.Resolutions.{transition_meaning}
use Rattle.compose.specs.Instances.{transition}
use Rattle.compose.proofs.Grown.{put}
use Rattle.compose.proofs.instances.entries.entries.Goals as goal

pub loop-one-preserved : goal.loop-one-preserved
loop-one-preserved c =
    let at = c.loop-one in
    let steps : into_iter_items at.one-iterator ≡ c.in-Some.one ∷ into_iter_items c.next.new.self = c.in-Some.ensures.steps.0 in
    let short = ap length steps in
    let means = map text_of c.args.actions.now in
    record {
      taken = put transition_of at.found.items c.push.new.self.items c.in_ok-entry.field-0 (transition means (transition_meaning c.in-Some.one)) (map (transition means) (map transition_meaning (into_iter_items at.one-iterator))) (map (transition means) (map transition_meaning (into_iter_items c.next.new.self))) _ (search rules) c.in_ok-entry.ensures (ap (λ l. map (transition means) (map transition_meaning l)) steps) at.invariant.taken;
      left = omega (arith, short, at.invariant.left, c.in-Some.ensures.steps.1);
    }
