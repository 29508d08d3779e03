use Rattle.std.proofs.Common.{rules, arith, ◌≡◌, ◌∷◌, ◌<◌, ◌^◌, [], Some, if◌then◌else◌, length, map, ap, ◌∙◌}
use Rattle.std.specs.Vec.Iter.{into_iter_items}
use Rattle.io_automata.specs.Automata.{absent}
use Rattle.plans.specs.Plans.{text_of}
use Rattle.ioa_check.specs.Resolutions.{automaton_meaning}
use Rattle.compose.specs.Instances.{built}
use Rattle.compose.specs.Tables.{mark_at}
use Rattle.compose.proofs.Converted.{next_of, others_of, put_one}
use Rattle.compose.proofs.instances.automata.automata.Goals as goal

pub made-requires : goal.made-requires
made-requires c = record {
  few = c.requires.few;
  rising = c.requires.rising;
  few_tasks = next_of (λ a. length a.tasks < 2 ^ 32) automaton_meaning (into_iter_items c.loop-one.one-iterator) (into_iter_items c.next.new.self) c.in-Some.one c.in-Some.ensures.steps.0 c.loop-one.invariant.few;
}

pub loop-one-preserved : goal.loop-one-preserved
loop-one-preserved c =
    let l = c.loop-one in
    let steps : into_iter_items l.one-iterator ≡ c.in-Some.one ∷ into_iter_items c.next.new.self = c.in-Some.ensures.steps.0 in
    let short = ap length steps in
    let names = map text_of c.args.actions.now in
    let place : c.is_marked-is_used.result ≡ mark_at c.args.used.now (length l.found.items) = search rules in
    let is = c.in_ok-made.ensures ∙ ap (λ b. if b then built names [] (Some (automaton_meaning c.in-Some.one)) else absent) place in
    record {
      taken = put_one automaton_meaning names c.args.used.now l.found.items c.push.new.self.items c.in_ok-made.field-0 c.in-Some.one (into_iter_items l.one-iterator) (into_iter_items c.next.new.self) _ (search rules) is steps l.invariant.taken;
      few = others_of (λ a. length a.tasks < 2 ^ 32) automaton_meaning (into_iter_items l.one-iterator) (into_iter_items c.next.new.self) c.in-Some.one steps l.invariant.few;
      left = omega (arith, short, l.invariant.left, c.in-Some.ensures.steps.1);
    }
