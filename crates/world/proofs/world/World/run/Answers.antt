use Rattle.std.proofs.Common.{rules, ◌≡◌, ◌+◌, ◌++◌, ◌≤◌, [], ◌∷◌, ap, length, map, subst, sym, take, take_all, ◌∙◌}
use Rattle.std.proofs.lemmas.List.{map-append, take_more}
use Rattle.plans.specs.Plans.{composition}
use Rattle.virtual_time.specs.Machine.{HasCount, Lawful}
use Rattle.virtual_time.specs.Replies.{Answers, Runs}
use Rattle.task_seed.specs.Setups.{plan_of, system}
use Rattle.rollback.specs.ComponentView.{machine_of}
use Rattle.world.proofs.Keeping.{keeps_then, same_simulation}
use Rattle.world.specs.Simulation.{IsSimulation, world_of}
use Rattle.world.specs.Steps.{answer_of, step_of}
use Rattle.world.proofs.Reaching.{runs_push}
use Rattle.world.proofs.world.World.run.Goals as goal

pub loop-step-preserved : goal.loop-step-preserved
loop-step-preserved g c =
    let t = g.T.Turns.turn_of in
    let l = c.loop-step in
    let old = c.args.self.now in
    let xs = c.args.steps.now in
    let m = machine_of t old.setup in
    let count = length (composition (plan_of old.setup)) in
    let answers = subst (λ p. Answers (machine_of t p) (length (composition (plan_of p))) (world_of (machine_of t p) l.self) (step_of c.step-item.result) (answer_of c.step.result) (world_of (machine_of t p) c.step.new.self)) l.invariant.setup c.step.ensures.answers in
    let steps : map step_of (take (l.step-index + 1) xs) ≡ map step_of (take l.step-index xs) ++ step_of c.step-item.result ∷ []
    = ap (map step_of) (take_more xs l.step-index c.step-item.result c.loop-step-test.true ∙ ap (λ y. take l.step-index xs ++ y ∷ []) (sym c.step-item.is)) ∙ map-append step_of (take l.step-index xs) (c.step-item.result ∷ []) in
    let replies : map answer_of c.push_reserved.new.self.items ≡ map answer_of l.answers.items ++ answer_of c.step.result ∷ []
    = ap (map answer_of) c.push_reserved.ensures.items ∙ map-append answer_of l.answers.items (c.step.result ∷ []) in
    record {
      ran = runs_push m count (map step_of (take l.step-index xs)) (map step_of (take (l.step-index + 1) xs)) (map answer_of l.answers.items) (map answer_of c.push_reserved.new.self.items) (step_of c.step-item.result) (answer_of c.step.result) (world_of m old) (world_of m l.self) (world_of m c.step.new.self) l.invariant.ran answers steps replies;
      setup = c.step.ensures.setup ∙ l.invariant.setup;
      keeps = keeps_then old l.self c.step.new.self l.invariant.keeps c.step.ensures.keeps;
      len = c.push_reserved.ensures.len ∙ ap (λ n. n + 1) l.invariant.len;
      room = subst (λ n. length xs ≤ n) (sym c.push_reserved.ensures.capacity) l.invariant.room;
    }

pub returns-clause-back : goal.returns-clause-back
returns-clause-back g c = λ i there.
    let t = g.T.Turns.turn_of in
    let old = c.args.self.now in
    let m = machine_of t old.setup in
    let law = subst (λ p. Lawful (machine_of t p)) c.setup.ensures c.machine_is_lawful.ensures.lawful in
    let new = c.loop-step.self in
    let same = c.there_and_back_law.ensures.back m (length (composition (plan_of old.setup))) i (world_of m old) (world_of m new) (map step_of c.args.steps.now) (map answer_of c.loop-step.answers.items) law c.soundness_law.ensures.reached there in
    let simulation = subst (λ p. IsSimulation (system t p) new) c.loop-step.invariant.setup c.soundness_law-2.ensures.simulation in
    same_simulation (system t old.setup) old new c.soundness_law.ensures.simulation simulation c.loop-step.invariant.setup c.loop-step.invariant.keeps same c.soundness_law-2.ensures.order c.soundness_law.ensures.order (c.leaving_law.ensures.one (system t old.setup))

pub returns-clause-ran : goal.returns-clause-ran
returns-clause-ran g c =
    let old = c.args.self.now in
    let m = machine_of g.T.Turns.turn_of old.setup in
    let count = length (composition (plan_of old.setup)) in
    let all = c.args.steps.now in
    let at = c.loop-step.step-index in
    let replies = map answer_of c.loop-step.answers.items in
    let long : length all ≤ at = search rules in
    subst (λ steps. Runs m count (world_of m old) (map step_of steps) replies (world_of m c.loop-step.self)) (take_all at all long) c.loop-step.invariant.ran

pub returns-clause-first : goal.returns-clause-first
returns-clause-first g c = λ i out.
    let t = g.T.Turns.turn_of in
    let old = c.args.self.now in
    let m = machine_of t old.setup in
    let count = length (composition (plan_of old.setup)) in
    let law = subst (λ p. Lawful (machine_of t p)) c.setup.ensures c.machine_is_lawful.ensures.lawful in
    let counted = subst (λ p. HasCount (machine_of t p) (length (composition (plan_of p)))) c.setup.ensures c.machine_is_lawful.ensures.counted in
    let replies = map answer_of c.loop-step.answers.items in
    let there = c.there_and_back_law.ensures.set_out m count i (world_of m old) (world_of m c.loop-step.self) (map step_of c.args.steps.now) replies law counted c.soundness_law.ensures.reached out (returns-clause-ran g c) in
    (there, returns-clause-back g c i there)

pub returns-clause-stays : goal.returns-clause-stays
returns-clause-stays g c =
    let old = c.args.self.now in
    let m = machine_of g.T.Turns.turn_of old.setup in
    let replies = map answer_of c.loop-step.answers.items in
    c.committed_is_reference.ensures.stays m (length (composition (plan_of old.setup))) (world_of m old) (world_of m c.loop-step.self) (map step_of c.args.steps.now) replies (returns-clause-ran g c)
