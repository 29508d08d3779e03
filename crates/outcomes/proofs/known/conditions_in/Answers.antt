use Rattle.std.proofs.Common.{◌≡◌, ◌<◌, ◌≤◌, ◌++◌, ◌∷◌, [], arith, map, length, get_or, rules, subst, take_all}
use Rattle.io_automata.specs.Automata.{transition_of}
use Rattle.outcomes.specs.Tasks.{AreSolved}
use Rattle.outcomes.proofs.Finding.{solved_next, longer}
use Rattle.outcomes.proofs.known.conditions_in.Goals as goal

pub loop-entry-preserved : goal.loop-entry-preserved
loop-entry-preserved c =
    let entries = c.args.entries.now in
    let k = c.loop-entry.entry-index in
    let item = c.entry-item.result in
    let there : get_or entries k item ≡ item = search rules in
    let below : k < length entries = omega (arith, c.loop-entry-test.true) in
    let pushed : c.push.new.self.items ≡ c.loop-entry.conditions.items ++ c.in_ok-of.field-0 ∷ [] = search rules in
    record {
      are = solved_next entries c.loop-entry.conditions.items c.push.new.self.items k item c.in_ok-of.field-0 below there c.loop-entry.invariant.are c.loop-entry.invariant.long c.in_ok-of.ensures pushed;
      long = longer c.loop-entry.conditions.items c.push.new.self.items c.in_ok-of.field-0 k c.loop-entry.invariant.long pushed;
    }

pub returns : goal.returns
returns c =
    let past : length c.args.entries.now ≤ c.loop-entry.entry-index = omega (arith, c.loop-entry-test.false) in
    subst (λ es. AreSolved (map transition_of es) c.loop-entry.conditions.items) (take_all c.loop-entry.entry-index c.args.entries.now past) c.loop-entry.invariant.are
