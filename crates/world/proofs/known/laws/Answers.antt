use Rattle.std.proofs.Common.{◌<◌, length, ap, subst, ◌∙◌}
use Rattle.plans.specs.Plans.{composition}
use Rattle.task_seed.specs.Machines.{machine}
use Rattle.task_seed.specs.Setups.{system}
use Rattle.world.proofs.Few.{end_is, few_turns}
use Rattle.world.proofs.known.laws.Goals as goal

pub returns : goal.returns
returns g c =
    let s = system g.T.Turns.turn_of c.args.setup.now in
    let m = machine s in
    let law = c.machine_is_lawful.ensures.lawful in
    let counted = c.machine_is_lawful.ensures.counted in
    record {
      lawful = law;
      counted = counted;
      next = record {
        own = λ i r. c.next_law.ensures.own m i r law;
        pending = λ i r. c.next_law.ensures.pending m i r law;
        most = λ i b r. c.next_law.ensures.most m i b r law;
      };
      flight = record {
        low = c.least_law.ensures.low;
        most = c.least_law.ensures.most;
        removed = c.leaving_law.ensures.removed s;
        found = c.leaving_law.ensures.found s;
        pair = c.leaving_law.ensures.pair s;
        one = c.leaving_law.ensures.one s;
      };
      world = record {
        sound = λ w reached. c.committed_is_reference.ensures.sound m (length s.composition) w law reached;
        reference = λ w reached. c.committed_is_reference.ensures.committed m (length s.composition) w law reached;
        time = λ w reached. c.virtual_time_rises.ensures.exists m (length s.composition) w law counted reached;
        most = λ w g b. c.virtual_time_rises.ensures.most m w g b law;
        bound = λ w g. c.virtual_time_rises.ensures.bound m w g law;
        appended = c.commit_is_exact.ensures.appended m;
      };
      reference = record {
        one = c.reference_is_one.ensures.same m;
        exists = λ b. c.reference_is_complete.ensures.exists m b law;
        sum = λ b. c.reference_is_counted.ensures.sum m (length s.composition) b law counted;
        before = λ b i n. c.reference_is_counted.ensures.before m b i n law;
      };
      small = subst (λ n. n < 65536) (c.components-count.ensures ∙ ap (λ p. length (composition p)) c.plan.ensures) c.components-count.type_inv;
      few = few_turns s;
      top = end_is;
    }
