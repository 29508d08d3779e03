use Rattle.std.proofs.Common.{◌≡◌, ◌+◌, ◌<◌, ◌≤◌, ◌++◌, ◌∷◌, [], ◌∙◌, arith, ap, sym, length, rules}
use Rattle.std.proofs.lemmas.Grind.{common_steps}
use Rattle.io_automata.specs.Automata.{transition_of}
use Rattle.io_automata.specs.Outcomes.{named}
use Rattle.io_automata.specs.Tuples.{tuple_at}
use Rattle.outcomes.proofs.Finding.{at_there, from_first, made_next, tuple_long, written}
use Rattle.outcomes.proofs.choose.add_actions.Goals as goal
use Rattle.terms.specs.Named.{Named}

pub loop-at-preserved : goal.loop-at-preserved
loop-at-preserved c =
    let task = c.args.task.now in
    let formals = task.formals.now in
    let found = c.args.found in
    let entry = transition_of c.in-Some.entry.now in
    let at = c.loop-at.at in
    let past : found.from ≤ at = c.loop-at.invariant.past in
    let less : at < found.from + found.count = omega (arith, c.loop-at-test.true) in
    let below = at_there task found entry at c.requires (sym c.in-Some.ensures) past less in
    let put : c.put_tuple.new.args ≡ tuple_at formals entry.params at = c.put_tuple.ensures ∙ from_first c.as_mut_slice.result.now (tuple_at formals c.as_slice-in-loop-at.result.now at) ∙ ap (λ ps. tuple_at formals ps at) c.as_slice-in-loop-at.ensures.value in
    let long : length c.put_tuple.new.args ≡ length entry.params = ap length put ∙ tuple_long formals entry.params at below in
    let len : c.loop-at.args.len ≡ length c.loop-at.args.items = first_of (search rules, first_of (omega arith, grind (arith, common_steps))) in
    let whole : length c.put_tuple.new.args ≡ c.loop-at.args.len = long ∙ sym c.loop-at.invariant.long ∙ sym len in
    let pushed : c.push.new.self.items ≡ c.loop-at.actions.items ++ c.in_ok-of_slice.field-0 ∷ [] = search rules in
    let made = c.in_ok-of_slice.ensures ∙ ap (named entry.name) (c.as_slice-in-loop-at-2.ensures.value ∙ written c.put_tuple.new.args _ c.loop-at.args.len whole ∙ put) in
    record {
      few = omega (arith, less);
      past = omega (arith, past);
      long = ap length (written c.put_tuple.new.args _ c.loop-at.args.len whole) ∙ long;
      made = made_next (λ n. named entry.name (tuple_at formals entry.params n)) c.args.actions.now.items c.loop-at.actions.items c.push.new.self.items found.from at past c.loop-at.invariant.made (pushed ∙ ap (λ (a : Named). c.loop-at.actions.items ++ a ∷ []) made);
    }
