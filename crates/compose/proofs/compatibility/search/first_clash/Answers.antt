use Rattle.std.proofs.Common.{rules, ◌≡◌, ap, ◌∙◌, refl}
use Rattle.compose.specs.Standings.{stood, seen_at, is_input_of, is_control_of}
use Rattle.compose.proofs.Lookups.{seen_next, free_next, first_found}
use Rattle.compose.proofs.compatibility.search.first_clash.Goals as goal

pub returns-then-is_clash : goal.returns-then-is_clash
returns-then-is_clash c =
    let l = c.loop-standing in let x = c.standing-item.result in
    let name = (stood x).entry.name in
    let same : c.as_slice.result.now ≡ l.controls.items = search rules in
    first_found c.args.rule c.args.standings.now l.standing-index x c.standing-item.is c.loop-standing-test.true (is_control_of name) (seen_at c.as_slice.result.now name) (ap (λ s. seen_at s name) same ∙ l.invariant.controls name) l.invariant.free (c.if-is_clash.ensures.some refl)

pub returns-then-is_clash_with_input : goal.returns-then-is_clash_with_input
returns-then-is_clash_with_input c =
    let l = c.loop-standing in let x = c.standing-item.result in
    let name = (stood x).entry.name in
    let same : c.as_slice-in-loop-standing.result.now ≡ l.inputs.items = search rules in
    first_found c.args.rule c.args.standings.now l.standing-index x c.standing-item.is c.loop-standing-test.true (is_input_of name) (seen_at c.as_slice-in-loop-standing.result.now name) (ap (λ s. seen_at s name) same ∙ l.invariant.inputs name) l.invariant.free (c.if-is_clash_with_input.ensures.some refl)

pub loop-standing-preserved : goal.loop-standing-preserved
loop-standing-preserved c =
    let l = c.loop-standing in let x = c.standing-item.result in
    let name = (stood x).entry.name in
    let same_controls : c.as_slice.result.now ≡ l.controls.items = search rules in
    let same_inputs : c.as_slice-in-loop-standing.result.now ≡ l.inputs.items = search rules in
    record {
      inputs = λ n. seen_next c.args.rule c.args.standings.now l.standing-index x c.standing-item.is c.loop-standing-test.true is_input_of n (seen_at l.inputs.items n) (seen_at c.push_by_kind.new.inputs.items n) (l.invariant.inputs n) (c.in_ok-push_by_kind.ensures.inputs n);
      controls = λ n. seen_next c.args.rule c.args.standings.now l.standing-index x c.standing-item.is c.loop-standing-test.true is_control_of n (seen_at l.controls.items n) (seen_at c.push_by_kind.new.controls.items n) (l.invariant.controls n) (c.in_ok-push_by_kind.ensures.controls n);
      free = free_next c.args.rule c.args.standings.now l.standing-index x c.standing-item.is c.loop-standing-test.true (seen_at c.as_slice-in-loop-standing.result.now name) (seen_at c.as_slice.result.now name) (ap (λ s. seen_at s name) same_inputs ∙ l.invariant.inputs name) (ap (λ s. seen_at s name) same_controls ∙ l.invariant.controls name) l.invariant.free (c.if-is_clash.ensures.none refl) (c.if-is_clash_with_input.ensures.none refl);
    }
