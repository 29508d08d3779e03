use Rattle.std.proofs.Common.{◌≡◌, ◌<◌, length, ap, sym, subst, subst₂, ◌∙◌, arith}
use Rattle.std.specs.Prelude.{Some, slice_get, slice_index_or}
use Rattle.std.proofs.lemmas.Option.{slice_get-get_or}
use Rattle.event_keys.specs.declared.outcome.Turned.{Turned}
use Rattle.raw_events.specs.Around.{Around}
use Rattle.task_seed.specs.Taken.{turns_of}
use Rattle.virtual_time.specs.Reference.{Falls}
use Rattle.group_exchange.specs.Held.{HasPut}
use Rattle.group_exchange.proofs.Putting.{putting_more}
use Rattle.group_exchange.proofs.queue.put_all_into.Goals as goal

pub put_into-requires-clause-front : goal.put_into-requires-clause-front
put_into-requires-clause-front g c =
    let l = c.loop-place in
    let cs = c.args.components.now in
    let test = c.loop-place-test.true in
    let end = l.auto.place-end in
    let within : l.place < length cs = omega (arith, test, end) in
    let component = c.index-components-place.result in
    let there : slice_get cs l.place ≡ Some component = slice_get-get_or cs l.place component within ∙ ap Some (sym c.index-components-place.is) in
    let many = l.invariant.many in
    let as_many = c.requires.many in
    let list = slice_index_or l.lists l.place c.index-lists-place.result in
    let at = slice_get-get_or l.lists l.place c.index-lists-place.result (omega (arith, within, many, as_many)) in
    ap (λ (x : Around Turned). x.before) c.replace-turns.ensures.value ∙ (c.requires.turns l.place component list there (sym (l.invariant.rest l.place (omega arith)) ∙ at)).0

pub put_into-requires-clause-falls : goal.put_into-requires-clause-falls
put_into-requires-clause-falls g c =
    let l = c.loop-place in
    let cs = c.args.components.now in
    let test = c.loop-place-test.true in
    let end = l.auto.place-end in
    let within : l.place < length cs = omega (arith, test, end) in
    let component = c.index-components-place.result in
    let there : slice_get cs l.place ≡ Some component = slice_get-get_or cs l.place component within ∙ ap Some (sym c.index-components-place.is) in
    let many = l.invariant.many in
    let as_many = c.requires.many in
    let list = slice_index_or l.lists l.place c.index-lists-place.result in
    let at = slice_get-get_or l.lists l.place c.index-lists-place.result (omega (arith, within, many, as_many)) in
    subst (λ (x : Around Turned). Falls (turns_of x.after)) (sym c.replace-turns.ensures.value) (c.requires.turns l.place component list there (sym (l.invariant.rest l.place (omega arith)) ∙ at)).1

pub loop-place-preserved : goal.loop-place-preserved
loop-place-preserved g c =
    let l = c.loop-place in
    let cs = c.args.components.now in
    let test = c.loop-place-test.true in
    let end = l.auto.place-end in
    let within : l.place < length cs = omega (arith, test, end) in
    let component = c.index-components-place.result in
    let there : slice_get cs l.place ≡ Some component = slice_get-get_or cs l.place component within ∙ ap Some (sym c.index-components-place.is) in
    let many = l.invariant.many in
    let as_many = c.requires.many in
    let list = slice_index_or l.lists l.place c.index-lists-place.result in
    let at = slice_get-get_or l.lists l.place c.index-lists-place.result (omega (arith, within, many, as_many)) in
    let put : HasPut component.number list.after l.queues c.put_into.new.queues
    = subst₂ (λ n (x : Around Turned). HasPut n x.after l.queues c.put_into.new.queues) c.number.ensures.number c.replace-turns.ensures.value c.put_into.ensures in
    putting_more cs c.args.lists.now c.args.queues.now l.place l.lists l.queues l.invariant component there list at c.replace-turns.new.dest c.put_into.new.queues put
