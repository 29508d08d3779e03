use Rattle.std.proofs.Common.{◌≡◌, ◌-◌, ap, sym, ◌∙◌, subst, length, bit_and, Contains}
use Rattle.std.proofs.lemmas.Result.{on_ok_weaker}
use Rattle.patterns.specs.Patterns.{values_of, pattern_number, place_of, list_at}
use Rattle.patterns.proofs.index.notes.note_number.Goals as goal

pub returns-clause-noted : goal.returns-clause-noted
returns-clause-noted c =
    let entry = c.args.entry.now in
    let formals = c.args.formals.now in
    let new = c.put_at.new.numbers.items in
    let number : c.number_of-number.result ≡ pattern_number entry.name (values_of formals entry.params.items) = c.number_of-number.ensures ∙ ap (λ params. pattern_number entry.name (values_of formals params)) c.as_slice.ensures.value in
    let count : c.len.result ≡ length new = c.len.ensures ∙ c.args.numbers.now.ok.0 ∙ sym c.put_at.ensures.many in
    let place : bit_and c.number_of-number.result (c.len.result - 1) ≡ place_of entry.name (values_of formals entry.params.items) (length new) = λ i. bit_and (number i) (count i - 1) in
    on_ok_weaker c.put_at.result (λ noted. subst (λ k. Contains (list_at new k) c.args.j) place noted) c.put_at.ensures.noted
