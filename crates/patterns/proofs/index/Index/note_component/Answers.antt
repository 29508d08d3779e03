use Rattle.std.proofs.Common.{rules, ℕ, ◌≡◌, ◌<◌, ◌≤◌, ◌∙◌, true, None, Some, length, get_or, slice_get, sym, subst, take, take_all}
use Rattle.io_automata.specs.Automata.{transition_of}
use Rattle.patterns.specs.Patterns.{IsNoted, is_for}
use Rattle.patterns.proofs.Noted.{Passed, keeps_both, passed_more, instance_noted, none_noted, found_there, none_there}
use Rattle.patterns.proofs.index.Index.note_component.Goals as goal

pub loop-entry-preserved : goal.loop-entry-preserved
loop-entry-preserved c =
    let entries = c.deref-entry-items.result.now in
    let entry = c.entry-item.result in
    let formals = c.args.component.now.formals.items in
    let at : get_or entries c.loop-entry.entry-index entry ≡ entry = search rules in
    let below : c.loop-entry.entry-index < length entries = search rules in
    let every = c.args.every in
    let wanted = λ (w : is_for every entry.kind ≡ true). c.in_ok-note_if.ensures.noted (c.is_for.ensures ∙ w) in
    let noted = subst (λ fs. is_for every entry.kind ≡ true → IsNoted c.note_if.new.self fs c.args.j (transition_of entry)) c.as_slice.ensures.value wanted in
    let here = subst (λ e. is_for every e.kind ≡ true → IsNoted c.note_if.new.self formals c.args.j (transition_of e)) (sym at) noted in
    record {
      many = c.note_if.ensures.many ∙ c.loop-entry.invariant.many;
      rising = λ rising. c.note_if.ensures.rising (c.loop-entry.invariant.rising rising);
      kept = keeps_both c.args.self.now c.loop-entry.self c.note_if.new.self c.loop-entry.invariant.kept c.in_ok-note_if.ensures.kept;
      noted = passed_more every c.loop-entry.self c.note_if.new.self formals c.args.j entries c.loop-entry.entry-index entry below c.in_ok-note_if.ensures.kept c.loop-entry.invariant.noted here;
    }

pub returns-after-loop-entry-clause-noted : goal.returns-after-loop-entry-clause-noted
returns-after-loop-entry-clause-noted c =
    let automaton = c.in-Some.automaton.now in
    let there : slice_get c.args.automata.now c.args.component.now.automaton ≡ Some automaton = found_there c.args.automata.now c.args.component.now.automaton automaton (c.in-Some.ensures.lookup.3).0 c.in-Some.ensures.lookup.1 in
    let long : length c.deref-entry-items.result.now ≤ c.loop-entry.entry-index = search rules in
    let whole : take c.loop-entry.entry-index c.deref-entry-items.result.now ≡ automaton.entries.items = take_all c.loop-entry.entry-index c.deref-entry-items.result.now long ∙ c.deref-entry-items.ensures.value in
    instance_noted c.args.every c.loop-entry.self c.args.automata.now c.args.component.now automaton c.args.j there (subst (Passed c.args.every c.loop-entry.self c.args.component.now.formals.items c.args.j) whole c.loop-entry.invariant.noted)

pub returns-in_default-clause-noted : goal.returns-in_default-clause-noted
returns-in_default-clause-noted c =
    let none : slice_get c.args.automata.now c.args.component.now.automaton ≡ None = none_there c.args.automata.now c.args.component.now.automaton c.in_default.ensures.lookup.3 in
    none_noted c.args.every c.args.self.now c.args.automata.now c.args.component.now c.args.j none

pub note_if-requires : goal.note_if-requires
note_if-requires c = record { some = subst (λ (n : ℕ). 0 < n) (sym c.loop-entry.invariant.many) c.requires.some }

pub returns-in_err-note_if-clause-many : goal.returns-in_err-note_if-clause-many
returns-in_err-note_if-clause-many c = c.note_if.ensures.many ∙ c.loop-entry.invariant.many

pub returns-in_err-note_if-clause-rising : goal.returns-in_err-note_if-clause-rising
returns-in_err-note_if-clause-rising c rising = c.note_if.ensures.rising (c.loop-entry.invariant.rising rising)

pub returns-after-loop-entry-clause-many : goal.returns-after-loop-entry-clause-many
returns-after-loop-entry-clause-many c = c.loop-entry.invariant.many

pub returns-after-loop-entry-clause-rising : goal.returns-after-loop-entry-clause-rising
returns-after-loop-entry-clause-rising c rising = c.loop-entry.invariant.rising rising
