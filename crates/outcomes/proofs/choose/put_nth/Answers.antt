use Rattle.std.proofs.Common.{◌≡◌, ◌<◌, ◌≤◌, ◌∙◌, arith, ap, sym, subst, length, get_or, OnOk, Option, Fits, w64, rules}
use Rattle.std.proofs.lemmas.Option.{none-some}
use Rattle.io_automata.specs.Automata.{transition_of}
use Rattle.io_automata.specs.Tuples.{many}
use Rattle.outcomes.specs.Tasks.{made_of}
use Rattle.outcomes.specs.declared.spans.Found.{Found}
use Rattle.outcomes.proofs.Chosen.{stands_here, stands_later}
use Rattle.outcomes.proofs.Finding.{found_there, few_there, made_length, made_there}
use Rattle.outcomes.proofs.choose.put_nth.Goals as goal
use Rattle.terms.specs.Named.{Named}

pub returns-in_default-clause-ok : goal.returns-in_default-clause-ok
returns-in_default-clause-ok c =
    let founds = c.args.founds.now in
    let k = c.loop-one.one-index in
    let none : Found = record { place = 0; from = 0; count = 0 } in
    let below : k < length founds = omega (arith, c.loop-one-test.true) in
    let is = found_there c.args.task.now founds k none c.requires.founds below in
    absurd (none-some is.entry (c.in_default.ensures ∙ is.there))

pub overflow_add-one : goal.overflow_add-one
overflow_add-one c =
    let founds = c.args.founds.now in
    let k = c.loop-one.one-index in
    let none : Found = record { place = 0; from = 0; count = 0 } in
    let below : k < length founds = omega (arith, c.loop-one-test.true) in
    let one = get_or founds k none in
    let entry = transition_of c.in-Some.entry.now in
    let is = found_there c.args.task.now founds k none c.requires.founds below in
    let less : c.loop-one.left < one.count = omega (arith, c.if-left-one.true) in
    let few = few_there c.args.task.now one entry c.loop-one.left is (sym c.in-Some.ensures) less in
    let all : c.in_ok-count.count ≡ many entry.params = c.in_ok-count.ensures ∙ ap many c.as_slice.ensures.value in
    let fits : Fits w64 c.in_ok-count.count = search rules in
    omega (arith, few, all, fits)

pub put_action_at-requires-clause-below : goal.put_action_at-requires-clause-below
put_action_at-requires-clause-below c =
    let founds = c.args.founds.now in
    let k = c.loop-one.one-index in
    let none : Found = record { place = 0; from = 0; count = 0 } in
    let below : k < length founds = omega (arith, c.loop-one-test.true) in
    let one = get_or founds k none in
    let entry = transition_of c.in-Some.entry.now in
    let is = found_there c.args.task.now founds k none c.requires.founds below in
    let less : c.loop-one.left < one.count = omega (arith, c.if-left-one.true) in
    let few = few_there c.args.task.now one entry c.loop-one.left is (sym c.in-Some.ensures) less in
    let all : c.in_ok-count.count ≡ many entry.params = c.in_ok-count.ensures ∙ ap many c.as_slice.ensures.value in
    omega (arith, few, all)

pub returns-then-left-one-clause-ok : goal.returns-then-left-one-clause-ok
returns-then-left-one-clause-ok c =
    let founds = c.args.founds.now in
    let k = c.loop-one.one-index in
    let none : Found = record { place = 0; from = 0; count = 0 } in
    let below : k < length founds = omega (arith, c.loop-one-test.true) in
    let one = get_or founds k none in
    let entry = transition_of c.in-Some.entry.now in
    let is = found_there c.args.task.now founds k none c.requires.founds below in
    let less : c.loop-one.left < one.count = omega (arith, c.if-left-one.true) in
    let long = made_length c.args.task.now one is in
    let within : c.loop-one.left < length (made_of c.args.task.now one) = omega (arith, less, long) in
    let stands = made_there c.args.task.now one entry c.loop-one.left (sym c.in-Some.ensures) less ∙ stands_here (made_of c.args.task.now) founds k none c.loop-one.left below within ∙ c.loop-one.invariant.stands in
    subst (λ (action : Option Named). OnOk c.put_action_at.result (c.put_action_at.new.found ≡ action)) stands c.put_action_at.ensures.ok

pub loop-one-preserved : goal.loop-one-preserved
loop-one-preserved c =
    let founds = c.args.founds.now in
    let k = c.loop-one.one-index in
    let none : Found = record { place = 0; from = 0; count = 0 } in
    let below : k < length founds = omega (arith, c.loop-one-test.true) in
    let one = get_or founds k none in
    let is = found_there c.args.task.now founds k none c.requires.founds below in
    let past : one.count ≤ c.loop-one.left = omega (arith, c.if-left-one.false) in
    record { none = c.loop-one.invariant.none; stands = stands_later (made_of c.args.task.now) founds k none c.loop-one.left one.count below (sym (made_length c.args.task.now one is)) past ∙ c.loop-one.invariant.stands }
