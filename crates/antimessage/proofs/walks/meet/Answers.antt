use Rattle.std.proofs.Common.{◌≡◌, ◌∙◌, sym, ap, List, None, Some}
use Rattle.raw_events.specs.Around.{Around, insert_sorted, first_where}
use Rattle.event_keys.specs.declared.message.Signed.{Signed}
use Rattle.antimessage.specs.Counts.{signed_cmp, plus, minus}
use Rattle.antimessage.specs.Bags.{is_one, remove}
use Rattle.antimessage.proofs.Pairs.{none_there, one_there, both_there}
use Rattle.antimessage.proofs.walks.meet.Goals as goal

abbrev with_after : Around Signed → List Signed → Around Signed
with_after a bag = record a { after = bag }

pub returns-in-None-clause-answer : goal.returns-in-None-clause-answer
returns-in-None-clause-answer c = sym (none_there c.args.message.now c.args.events.now.after (sym c.in-None.ensures.taken)).0

pub returns-in-None-clause-left : goal.returns-in-None-clause-left
returns-in-None-clause-left c = c.in-None.ensures.rest ∙ ap (with_after c.args.events.now) (none_there c.args.message.now c.args.events.now.after (sym c.in-None.ensures.taken)).1

pub returns-in-None-take_one-clause-answer : goal.returns-in-None-take_one-clause-answer
returns-in-None-take_one-clause-answer c =
    let gone : first_where (is_one (plus c.args.message.now)) (remove (minus c.args.message.now) c.args.events.now.after) ≡ None =
    ap (λ (a : Around Signed). first_where (is_one (plus c.args.message.now)) a.after) (sym c.in-Some.ensures.rest) ∙ sym c.in-None-take_one.ensures.taken in
    sym (one_there c.args.message.now c.in-Some.antimessage c.args.events.now.after c.requires (sym c.in-Some.ensures.taken) gone).0

pub returns-in-None-take_one-clause-left : goal.returns-in-None-take_one-clause-left
returns-in-None-take_one-clause-left c =
    let gone : first_where (is_one (plus c.args.message.now)) (remove (minus c.args.message.now) c.args.events.now.after) ≡ None =
    ap (λ (a : Around Signed). first_where (is_one (plus c.args.message.now)) a.after) (sym c.in-Some.ensures.rest) ∙ sym c.in-None-take_one.ensures.taken in
    let rest : c.take_one-in-Some.new.events ≡ with_after c.args.events.now (remove (plus c.args.message.now) (remove (minus c.args.message.now) c.args.events.now.after)) =
    c.in-None-take_one.ensures.rest ∙ ap (λ (a : Around Signed). with_after a (remove (plus c.args.message.now) a.after)) c.in-Some.ensures.rest in
    c.insert_sorted.ensures ∙ ap (λ (a : Around Signed). with_after a (insert_sorted signed_cmp c.in-Some.antimessage a.after)) rest
    ∙ ap (with_after c.args.events.now) (one_there c.args.message.now c.in-Some.antimessage c.args.events.now.after c.requires (sym c.in-Some.ensures.taken) gone).1

pub returns-in-Some-take_one-clause-answer : goal.returns-in-Some-take_one-clause-answer
returns-in-Some-take_one-clause-answer c =
    let found : first_where (is_one (plus c.args.message.now)) (remove (minus c.args.message.now) c.args.events.now.after) ≡ Some c.in-Some-take_one.field-0 =
    ap (λ (a : Around Signed). first_where (is_one (plus c.args.message.now)) a.after) (sym c.in-Some.ensures.rest) ∙ sym c.in-Some-take_one.ensures.taken in
    sym (both_there c.args.message.now c.in-Some.antimessage c.in-Some-take_one.field-0 c.args.events.now.after (sym c.in-Some.ensures.taken) found).0

pub returns-in-Some-take_one-clause-left : goal.returns-in-Some-take_one-clause-left
returns-in-Some-take_one-clause-left c =
    let found : first_where (is_one (plus c.args.message.now)) (remove (minus c.args.message.now) c.args.events.now.after) ≡ Some c.in-Some-take_one.field-0 =
    ap (λ (a : Around Signed). first_where (is_one (plus c.args.message.now)) a.after) (sym c.in-Some.ensures.rest) ∙ sym c.in-Some-take_one.ensures.taken in
    let rest : c.take_one-in-Some.new.events ≡ with_after c.args.events.now (remove (plus c.args.message.now) (remove (minus c.args.message.now) c.args.events.now.after)) =
    c.in-Some-take_one.ensures.rest ∙ ap (λ (a : Around Signed). with_after a (remove (plus c.args.message.now) a.after)) c.in-Some.ensures.rest in
    rest ∙ ap (with_after c.args.events.now) (both_there c.args.message.now c.in-Some.antimessage c.in-Some-take_one.field-0 c.args.events.now.after (sym c.in-Some.ensures.taken) found).1
