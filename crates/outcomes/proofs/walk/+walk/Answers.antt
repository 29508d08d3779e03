use Rattle.std.proofs.Common.{◌≡◌, ◌<◌, ◌≤◌, ◌+◌, ◌++◌, ◌/◌, [], ◌∙◌, ap, subst, arith, rules, inl, inr, length, refl, true, false, drop, get_or, set}
use Rattle.std.proofs.lemmas.List.{length-set, take-set}
use Rattle.conditions.specs.Conditions.{is_one_left, left_after}
use Rattle.io_automata.specs.Steps.{scope_in}
use Rattle.io_automata.specs.Tuples.{picked}
use Rattle.io_automata.specs.declared.automaton.Param.TheVariants.{Const}
use Rattle.outcomes.specs.Solving.{places_in, IsRange}
use Rattle.outcomes.proofs.Walking.{step_at, none_before, none_after, chunk_found, count_many, count_some, below_within, below_reached, below_stages, below_few, next_apart, nothing_left, all_left, one_place, shorter, nothing_more, found_more, empty}
use Rattle.outcomes.proofs.walk.+walk.Goals as goal

pub returns-then-not-is_one_left-clause-out : goal.returns-then-not-is_one_left-clause-out
returns-then-not-is_one_left-clause-out g t c =
    let node = c.args.node.now in
    let none : is_one_left node.left.now ≡ false = search rules in
    nothing_left c.args.formals.now (g.C.Cells.values c.args.cells.now) node.stages.now node.left.now node.all.now node.from node.count (places_in c.args.out.now.items) none

pub returns-in_default-split_first-clause-out : goal.returns-in_default-split_first-clause-out
returns-in_default-split_first-clause-out g t c =
    let node = c.args.node.now in
    let none : node.stages.now ≡ [] = empty node.stages.now c.in_default-split_first.ensures.cases in
    let some : is_one_left node.left.now ≡ true = search rules in
    all_left c.args.formals.now (g.C.Cells.values c.args.cells.now) node.stages.now node.left.now node.all.now node.from node.count c.args.out.now.items c.push.new.self.items none some c.in_ok-push.ensures.ok

pub range_of-requires-clause-complete : goal.range_of-requires-clause-complete
range_of-requires-clause-complete g t c = λ members is.
    let node = c.args.node.now in
    let more : node.known < length node.all.now = omega (arith, c.if-node.false) in
    c.requires.node.complete node.known members (one_place node.all.now node.known (Const 0) _ more is)

pub loop-place-init : goal.loop-place-init
loop-place-init g t c =
    let node = c.args.node.now in
    let formals = c.args.formals.now in
    let state = g.C.Cells.values c.args.cells.now in
    let stage = c.in-Some-split_first.stage.now in
    let param = get_or node.all.now node.known (Const 0) in
    let params = drop (node.known + 1) node.all.now in
    let total = c.from-total.result in
    let count = node.count / total in
    let more : node.known < length node.all.now = omega (arith, c.if-node.false) in
    let step = step_at formals c.args.args.now c.args.args.now node stage c.in-Some-split_first.stages.now total c.requires.node refl refl c.in-Some-split_first.ensures.cases.0 more (c.from-total.ensures ∙ c.choices.ensures) in
    let low = c.in_ok-range.range.low in
    let within : low ≤ total = omega (arith, c.in_ok-range.ensures.low, step.total_is) in
    let range = subst (λ s. IsRange s state node.known param stage.branches.items node.left.now low c.in_ok-range.range.high) c.env_of-env.ensures c.in_ok-range.ensures.range in
    record {
      within = within;
      room = refl;
      front = refl;
      found = nothing_more (places_in c.args.out.now.items) _ (none_before formals c.args.args.now state node stage c.in-Some-split_first.stages.now param params total count step low within (λ p less others front value. range p others (omega (arith, less, within, step.total_is)) (inl less) front value));
    }

pub loop-place-preserved : goal.loop-place-preserved
loop-place-preserved g t c =
    let node = c.args.node.now in
    let formals = c.args.formals.now in
    let state = g.C.Cells.values c.args.cells.now in
    let stage = c.in-Some-split_first.stage.now in
    let stages = c.in-Some-split_first.stages.now in
    let param = get_or node.all.now node.known (Const 0) in
    let params = drop (node.known + 1) node.all.now in
    let total = c.from-total.result in
    let count = node.count / total in
    let args = c.loop-place.args in
    let more : node.known < length node.all.now = omega (arith, c.if-node.false) in
    let step = step_at formals c.args.args.now args node stage stages total c.requires.node c.loop-place.invariant.room c.loop-place.invariant.front c.in-Some-split_first.ensures.cases.0 more (c.from-total.ensures ∙ c.choices.ensures) in
    let place = c.loop-place.place in
    let below : place < total = omega (arith, c.loop-place-test.true, c.in_ok-range.ensures.high, step.total_is) in
    let new = set args node.known c.picked.result in
    let new_is : new ≡ set args node.known (picked formals param place) = ap (set args node.known) c.picked.ensures in
    let left_is : c.ask.new.left ≡ left_after (scope_in formals new) state stage.branches.items node.left.now = c.in_ok-ask.ensures.left ∙ (λ i. left_after (c.env_of.ensures i) state stage.branches.items (c.copy_from_slice.ensures.after i)) in
    record {
      within = omega (arith, below);
      room = c.walk.ensures.room ∙ length-set args node.known c.picked.result ∙ c.loop-place.invariant.room;
      front = shorter node.known c.walk.new.args new c.walk.ensures.args ∙ take-set args node.known c.picked.result ∙ c.loop-place.invariant.front;
      found = found_more (places_in c.args.out.now.items) (places_in c.loop-place.out.items) (places_in c.walk.new.out.items) _ _ _ c.loop-place.invariant.found c.in_ok-walk.ensures.out (chunk_found formals args state node stage stages param params total count step place below new new_is c.ask.new.left left_is);
    }

pub returns-in_err-ask-clause-args : goal.returns-in_err-ask-clause-args
returns-in_err-ask-clause-args g t c = take-set c.loop-place.args c.args.node.now.known c.picked.result ∙ c.loop-place.invariant.front

pub returns-in_err-walk-clause-args : goal.returns-in_err-walk-clause-args
returns-in_err-walk-clause-args g t c =
    let known = c.args.node.now.known in
    shorter known c.walk.new.args (set c.loop-place.args known c.picked.result) c.walk.ensures.args
    ∙ take-set c.loop-place.args known c.picked.result
    ∙ c.loop-place.invariant.front

pub walk-requires : goal.walk-requires
walk-requires g t c = λ κs within.
    let node = c.args.node.now in
    let formals = c.args.formals.now in
    let state = g.C.Cells.values c.args.cells.now in
    let stage = c.in-Some-split_first.stage.now in
    let stages = c.in-Some-split_first.stages.now in
    let param = get_or node.all.now node.known (Const 0) in
    let params = drop (node.known + 1) node.all.now in
    let total = c.from-total.result in
    let count = node.count / total in
    let args = c.loop-place.args in
    let more : node.known < length node.all.now = omega (arith, c.if-node.false) in
    let step = step_at formals c.args.args.now args node stage stages total c.requires.node c.loop-place.invariant.room c.loop-place.invariant.front c.in-Some-split_first.ensures.cases.0 more (c.from-total.ensures ∙ c.choices.ensures) in
    let place = c.loop-place.place in
    let below : place < total = omega (arith, c.loop-place-test.true, c.in_ok-range.ensures.high, step.total_is) in
    let new = set args node.known c.picked.result in
    let new_is : new ≡ set args node.known (picked formals param place) = ap (set args node.known) c.picked.ensures in
    let left_is : c.ask.new.left ≡ left_after (scope_in formals new) state stage.branches.items node.left.now = c.in_ok-ask.ensures.left ∙ (λ i. left_after (c.env_of.ensures i) state stage.branches.items (c.copy_from_slice.ensures.after i)) in
    let asked_length = ap length c.in-Some-split_first.ensures.cases.0 in
    let fewer : length stages < t = omega (arith, c.decreases, asked_length) in (
      fewer,
      (
        within,
        record {
          room = length-set args node.known c.picked.result ∙ c.loop-place.invariant.room ∙ c.requires.node.room;
          known = omega (arith, more);
          count = count_many formals args state node stage stages param params total count step;
          some = count_some formals args state node stage stages param params total count step;
          within = below_within formals args state node stage stages param params total count step place below new new_is c.ask.new.left left_is;
          reached = below_reached formals args state node stage stages param params total count step place below new new_is c.ask.new.left left_is;
          stages = below_stages formals args state node stage stages param params total count step place below new new_is c.ask.new.left left_is;
          apart = next_apart formals c.args.args.now node stage stages c.requires.node c.in-Some-split_first.ensures.cases.0;
          few = below_few formals args state node stage stages param params total count step place below new new_is c.ask.new.left left_is;
          complete = c.requires.node.complete;
        },
      ),
    )

pub returns-clause-args : goal.returns-clause-args
returns-clause-args g t c = c.loop-place.invariant.front

pub returns-clause-out : goal.returns-clause-out
returns-clause-out g t c =
    let node = c.args.node.now in
    let formals = c.args.formals.now in
    let state = g.C.Cells.values c.args.cells.now in
    let stage = c.in-Some-split_first.stage.now in
    let param = get_or node.all.now node.known (Const 0) in
    let params = drop (node.known + 1) node.all.now in
    let total = c.from-total.result in
    let count = node.count / total in
    let more : node.known < length node.all.now = omega (arith, c.if-node.false) in
    let step = step_at formals c.args.args.now c.args.args.now node stage c.in-Some-split_first.stages.now total c.requires.node refl refl c.in-Some-split_first.ensures.cases.0 more (c.from-total.ensures ∙ c.choices.ensures) in
    let place = c.loop-place.place in
    let past : c.in_ok-range.range.high ≤ place = omega (arith, c.loop-place-test.false) in
    let within : place ≤ total = c.loop-place.invariant.within in
    let range = subst (λ s. IsRange s state node.known param stage.branches.items node.left.now c.in_ok-range.range.low c.in_ok-range.range.high) c.env_of-env.ensures c.in_ok-range.ensures.range in
    c.loop-place.invariant.found
    ∙ ap (λ xs. places_in c.args.out.now.items ++ xs) (none_after formals c.args.args.now state node stage c.in-Some-split_first.stages.now param params total count step place within (λ p high less others front value. range p others (omega (arith, less, step.total_is)) (inr (omega (arith, high, past))) front value))
