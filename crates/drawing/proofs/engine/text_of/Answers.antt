use Rattle.std.proofs.Common.{◌≡◌, ◌∙◌, List, ap, length, map, string_bytes, subst, sym, take}
use Rattle.std.specs.Prelude.{filter}
use Rattle.std.proofs.lemmas.List.{take-map}
use Rattle.std.proofs.lemmas.Result.{IfOk-weaker}
use Rattle.event_keys.specs.declared.outcome.Turned.{Turned}
use Rattle.drawing.specs.Turns.{AreWithin, diagram_of, is_within}
use Rattle.drawing.proofs.Windows.{filter_within, take_within}
use Rattle.drawing.proofs.engine.text_of.Goals as goal

pub diagram-requires-clause-turns : goal.diagram-requires-clause-turns
diagram-requires-clause-turns g c =
    let within : List Turned = filter (is_within c.args.window) c.in_ok-turns.turns.items in
    let drawn : c.as_slice.result.now ≡ take 2000 within = c.as_slice.ensures.value ∙ (c.truncate.ensures.items ∙ ap (take 2000) c.keep.ensures) in
    subst (λ (turns : List Turned). AreWithin c.args.window.from turns) (sym drawn)
    (take_within c.args.window.from 2000 within (filter_within c.args.window c.args.window.short c.in_ok-turns.turns.items))

pub returns : goal.returns
returns g c =
    let within : List Turned = filter (is_within c.args.window) c.in_ok-turns.turns.items in
    let drawn : c.as_slice.result.now ≡ take 2000 within = c.as_slice.ensures.value ∙ (c.truncate.ensures.items ∙ ap (take 2000) c.keep.ensures) in
    let many : length c.as_slice-many.result.now ≡ length within = ap length (c.as_slice-many.ensures.value ∙ c.keep.ensures) in
    let named : map string_bytes c.first_names.result.now ≡ take 1024 (map string_bytes c.args.names.now) = ap (map string_bytes) c.first_names.ensures.first ∙ sym (take-map string_bytes 1024 c.args.names.now) in
    IfOk-weaker c.diagram.result _ _
    (λ text is. record {
      turns = c.in_ok-turns.turns.items;
      are = c.in_ok-turns.ensures.all;
      became = is ∙ (λ i. diagram_of (c.plan.ensures i) (named i) c.args.window.from (many i) (drawn i));
    })
    c.diagram.ensures
