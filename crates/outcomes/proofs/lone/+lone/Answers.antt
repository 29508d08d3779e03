use Rattle.std.specs.Prelude.{Bool as Truth, ℕ}
use Rattle.std.proofs.Common.{◌≡◌, ◌<◌, ◌≤◌, ◌+◌, ◌*◌, ◌++◌, ◌/◌, [], ◌∙◌, ap, sym, subst, arith, rules, inl, inr, filter, length, map, refl, true, false, drop, get_or, set, suc, take, zero-mul}
use Rattle.std.specs.List.{range_with_len}
use Rattle.std.proofs.lemmas.List.{length-set, take-set}
use Rattle.conditions.specs.Conditions.{is_one_left, left_after, tests_hold, Binds}
use Rattle.conditions.specs.declared.condition.Branch.{Branch}
use Rattle.io_automata.specs.Steps.{scope_in}
use Rattle.io_automata.specs.Tuples.{picked, tuple_at}
use Rattle.io_automata.specs.declared.automaton.Param.TheVariants.{Const}
use Rattle.outcomes.specs.Solving.{passes, places_in, AreLaterWithout, IsOutside, IsSure}
use Rattle.outcomes.proofs.Asked.{branch_at, only_kept, only_lost, only_one, one_alone}
use Rattle.outcomes.proofs.Walking.{step_at, stage_many, stage_branches, next_stages, next_apart, none_before, none_after, chunk_found, count_many, count_some, below_within, below_reached, first_within, first_reached, found_again, product, nothing_left, all_left, one_place, shorter, slot_set, nothing_more, found_more, empty}
use Rattle.outcomes.proofs.lone.+lone.Goals.{walk_lone-then-branch+in_ok-walk_lone, walk_lone-else-branch, walk_apart-then-branch+in_ok-add_behind, walk_apart-else-branch}
use Rattle.outcomes.proofs.lone.+lone.Goals as goal

pub walk_lone-returns-in_default-clause-out : goal.walk_lone-returns-in_default-clause-out
walk_lone-returns-in_default-clause-out g t c =
    let node = c.args.lone.now.node in
    let none : node.stages.now ≡ [] = empty node.stages.now c.in_default.ensures.cases in
    all_left c.args.formals.now (g.C.Cells.values c.args.cells.now) node.stages.now node.left.now node.all.now node.from node.count c.args.out.now.items c.push.new.self.items none (one_alone node.left.now c.args.lone.now.branch c.requires.only) c.in_ok-push.ensures.ok

pub walk_lone-index-branch-requires : goal.walk_lone-index-branch-requires
walk_lone-index-branch-requires g t c =
    let node = c.args.lone.now.node in
    let many = stage_many c.args.formals.now c.args.args.now node c.in-Some.stage.now c.in-Some.stages.now c.requires.node c.in-Some.ensures.cases.0 in
    let below = only_one node.left.now c.args.lone.now.branch c.requires.only in
    omega (arith, below, many)

pub walk_lone-branch_range-requires-clause-bound : goal.walk_lone-branch_range-requires-clause-bound
walk_lone-branch_range-requires-clause-bound g t c =
    let node = c.args.lone.now.node in
    let stage = c.in-Some.stage.now in
    let stages = c.in-Some.stages.now in
    let asked = c.in-Some.ensures.cases.0 in
    let branches = stage.branches.items in
    let b = c.args.lone.now.branch in
    let branch = c.index-branch.result.now in
    let many = stage_many c.args.formals.now c.args.args.now node stage stages c.requires.node asked in
    let there : get_or branches b branch ≡ branch = search rules in
    let below : b < length branches = let less = only_one node.left.now b c.requires.only in omega (arith, less, many) in
    subst (λ (x : Branch). Binds (suc node.known) x.tests.items x.bound) there (branch_at (suc node.known) branches b branch (stage_branches c.args.formals.now c.args.args.now node stage stages c.requires.node asked) below)

pub walk_lone-branch_range-requires-clause-complete : goal.walk_lone-branch_range-requires-clause-complete
walk_lone-branch_range-requires-clause-complete g t c = λ members is.
    let node = c.args.lone.now.node in
    let more : node.known < length node.all.now = omega (arith, c.if-node.false) in
    c.requires.node.complete node.known members (one_place node.all.now node.known (Const 0) _ more is)

pub walk_lone-loop-place-init : goal.walk_lone-loop-place-init
walk_lone-loop-place-init g t c =
    let node = c.args.lone.now.node in
    let formals = c.args.formals.now in
    let state = g.C.Cells.values c.args.cells.now in
    let stage = c.in-Some.stage.now in
    let stages = c.in-Some.stages.now in
    let param = get_or node.all.now node.known (Const 0) in
    let params = drop (node.known + 1) node.all.now in
    let total = c.from-total.result in
    let count = node.count / total in
    let args = c.args.args.now in
    let asked = c.in-Some.ensures.cases.0 in
    let more : node.known < length node.all.now = omega (arith, c.if-node.false) in
    let step = step_at formals args args node stage stages total c.requires.node refl refl asked more (c.from-total.ensures ∙ c.choices.ensures) in
    let branches = stage.branches.items in
    let b = c.args.lone.now.branch in
    let branch = c.index-branch.result.now in
    let many = stage_many formals c.args.args.now node stage stages c.requires.node asked in
    let there : get_or branches b branch ≡ branch = search rules in
    let low = c.in_ok-range.range.low in
    let high = c.in_ok-range.range.high in
    let range = subst (λ s. IsOutside s state node.known param branch.tests.items low high) c.env_of-env.ensures c.in_ok-range.ensures.range in
    let within : low ≤ total = omega (arith, c.in_ok-range.ensures.low, step.total_is) in
    record {
      least = omega arith;
      within = within;
      room = refl;
      front = refl;
      found = nothing_more (places_in c.args.out.now.items) _ (none_before formals args state node stage stages param params total count step low within (λ p less others front value. only_lost (scope_in formals others) state branches node.left.now b branch many c.requires.only (subst (λ (x : Branch). tests_hold (scope_in formals others) state x.tests.items ≡ false) (sym there) (range p others (omega (arith, less, within, step.total_is)) (inl less) front value))));
    }

pub walk_lone-is_kept-requires : goal.walk_lone-is_kept-requires
walk_lone-is_kept-requires g t c = λ sure.
    let node = c.args.lone.now.node in
    let formals = c.args.formals.now in
    let state = g.C.Cells.values c.args.cells.now in
    let stage = c.in-Some.stage.now in
    let stages = c.in-Some.stages.now in
    let param = get_or node.all.now node.known (Const 0) in
    let params = drop (node.known + 1) node.all.now in
    let total = c.from-total.result in
    let count = node.count / total in
    let args = c.loop-place.args in
    let asked = c.in-Some.ensures.cases.0 in
    let more : node.known < length node.all.now = omega (arith, c.if-node.false) in
    let branch = c.index-branch.result.now in
    let low = c.in_ok-range.range.low in
    let high = c.in_ok-range.range.high in
    let place = c.loop-place.place in
    let new = set args node.known c.picked.result in
    let all = subst (λ s. IsSure s state node.known param branch.tests.items low high) c.env_of-env.ensures (c.in_ok-range.ensures.sure sure) in
    let within : node.known < length args = omega (arith, more, c.loop-place.invariant.room, c.requires.node.room) in
    let value = slot_set args node.known c.picked.result within ∙ c.picked.ensures in
    ap (λ s. tests_hold s state branch.tests.items) c.env_of.ensures ∙ all place new c.loop-place.invariant.least (omega (arith, c.loop-place-test.true)) (take-set args node.known c.picked.result ∙ c.loop-place.invariant.front) value

pub walk_lone-walk_lone-requires : goal.walk_lone-walk_lone-requires
walk_lone-walk_lone-requires g t c = λ κs within.
    let node = c.args.lone.now.node in
    let formals = c.args.formals.now in
    let state = g.C.Cells.values c.args.cells.now in
    let stage = c.in-Some.stage.now in
    let stages = c.in-Some.stages.now in
    let param = get_or node.all.now node.known (Const 0) in
    let params = drop (node.known + 1) node.all.now in
    let total = c.from-total.result in
    let count = node.count / total in
    let args = c.loop-place.args in
    let asked = c.in-Some.ensures.cases.0 in
    let more : node.known < length node.all.now = omega (arith, c.if-node.false) in
    let step = step_at formals c.args.args.now args node stage stages total c.requires.node c.loop-place.invariant.room c.loop-place.invariant.front asked more (c.from-total.ensures ∙ c.choices.ensures) in
    let place = c.loop-place.place in
    let below : place < total = omega (arith, c.loop-place-test.true, c.in_ok-range.ensures.high, step.total_is) in
    let new = set args node.known c.picked.result in
    let new_is : new ≡ set args node.known (picked formals param place) = ap (set args node.known) c.picked.ensures in
    let left = left_after (scope_in formals new) state stage.branches.items node.left.now in
    let asked_length = ap length asked in
    let fewer : 2 * length stages + 1 < t = omega (arith, c.decreases, asked_length) in (
      fewer,
      (
        within,
        (
          record {
            room = length-set args node.known c.picked.result ∙ c.loop-place.invariant.room ∙ c.requires.node.room;
            known = omega (arith, more);
            count = count_many formals args state node stage stages param params total count step;
            some = count_some formals args state node stage stages param params total count step;
            within = below_within formals args state node stage stages param params total count step place below new new_is left refl;
            reached = below_reached formals args state node stage stages param params total count step place below new new_is left refl;
            stages = next_stages formals c.args.args.now node stage stages c.requires.node asked;
            apart = next_apart formals c.args.args.now node stage stages c.requires.node asked;
            few = c.requires.node.few;
            complete = c.requires.node.complete;
          },
          c.requires.only,
        ),
      ),
    )

pub walk_lone-returns-in_err-walk_lone-clause-args : goal.walk_lone-returns-in_err-walk_lone-clause-args
walk_lone-returns-in_err-walk_lone-clause-args g t c =
    let known = c.args.lone.now.node.known in
    shorter known c.walk_lone.new.args (set c.loop-place.args known c.picked.result) c.walk_lone.ensures.args
    ∙ take-set c.loop-place.args known c.picked.result
    ∙ c.loop-place.invariant.front

pub walk_lone-loop-place-preserved : goal.walk_lone-loop-place-preserved
walk_lone-loop-place-preserved g t c =
    let node = c.args.lone.now.node in
    let formals = c.args.formals.now in
    let state = g.C.Cells.values c.args.cells.now in
    let stage = c.in-Some.stage.now in
    let stages = c.in-Some.stages.now in
    let param = get_or node.all.now node.known (Const 0) in
    let params = drop (node.known + 1) node.all.now in
    let total = c.from-total.result in
    let count = node.count / total in
    let args = c.loop-place.args in
    let asked = c.in-Some.ensures.cases.0 in
    let more : node.known < length node.all.now = omega (arith, c.if-node.false) in
    let step = step_at formals c.args.args.now args node stage stages total c.requires.node c.loop-place.invariant.room c.loop-place.invariant.front asked more (c.from-total.ensures ∙ c.choices.ensures) in
    let branches = stage.branches.items in
    let b = c.args.lone.now.branch in
    let branch = c.index-branch.result.now in
    let many = stage_many formals c.args.args.now node stage stages c.requires.node asked in
    let there : get_or branches b branch ≡ branch = search rules in
    let place = c.loop-place.place in
    let below : place < total = omega (arith, c.loop-place-test.true, c.in_ok-range.ensures.high, step.total_is) in
    let new = set args node.known c.picked.result in
    let new_is : new ≡ set args node.known (picked formals param place) = ap (set args node.known) c.picked.ensures in
    let least = c.loop-place.invariant.least in
    let env = scope_in formals new in
    elim c.if-branch.branch [
      | walk_lone-then-branch+in_ok-walk_lone w ↦ (
          let holds : tests_hold env state (get_or branches b branch).tests.items ≡ true = ap (λ (x : Branch). tests_hold env state x.tests.items) there ∙ ap (λ s. tests_hold s state branch.tests.items) (sym c.env_of.ensures) ∙ sym c.in_ok-is_kept.ensures ∙ w.if-branch.true in
          let left_is : node.left.now ≡ left_after env state branches node.left.now = sym (only_kept env state branches node.left.now b branch many c.requires.only holds) in
          record {
            least = omega (arith, least);
            within = omega (arith, below);
            room = ap length w.args-is ∙ w.walk_lone.ensures.room ∙ length-set args node.known c.picked.result ∙ c.loop-place.invariant.room;
            front = ap (take node.known) w.args-is ∙ shorter node.known w.walk_lone.new.args new w.walk_lone.ensures.args ∙ take-set args node.known c.picked.result ∙ c.loop-place.invariant.front;
            found = (λ i. places_in (w.out-is i).items) ∙ found_more (places_in c.args.out.now.items) (places_in c.loop-place.out.items) (places_in w.walk_lone.new.out.items) _ _ _ c.loop-place.invariant.found w.in_ok-walk_lone.ensures.out (chunk_found formals args state node stage stages param params total count step place below new new_is node.left.now left_is);
          })
      | walk_lone-else-branch w ↦ (
          let lost : tests_hold env state (get_or branches b branch).tests.items ≡ false = ap (λ (x : Branch). tests_hold env state x.tests.items) there ∙ ap (λ s. tests_hold s state branch.tests.items) (sym c.env_of.ensures) ∙ sym c.in_ok-is_kept.ensures ∙ w.if-branch.false in
          let left = left_after env state branches node.left.now in
          let none : is_one_left left ≡ false = only_lost env state branches node.left.now b branch many c.requires.only lost in
          let old = places_in c.loop-place.out.items in
          record {
            least = omega (arith, least);
            within = omega (arith, below);
            room = ap length w.args-is ∙ length-set args node.known c.picked.result ∙ c.loop-place.invariant.room;
            front = ap (take node.known) w.args-is ∙ take-set args node.known c.picked.result ∙ c.loop-place.invariant.front;
            found = (λ i. places_in (w.out-is i).items) ∙ found_more (places_in c.args.out.now.items) old old _ _ _ c.loop-place.invariant.found (nothing_left formals state stages left node.all.now (node.from + place * count) count old none) (chunk_found formals args state node stage stages param params total count step place below new new_is left refl);
          })
    ]

pub walk_lone-returns-clause-out : goal.walk_lone-returns-clause-out
walk_lone-returns-clause-out g t c =
    let node = c.args.lone.now.node in
    let formals = c.args.formals.now in
    let state = g.C.Cells.values c.args.cells.now in
    let stage = c.in-Some.stage.now in
    let stages = c.in-Some.stages.now in
    let param = get_or node.all.now node.known (Const 0) in
    let params = drop (node.known + 1) node.all.now in
    let total = c.from-total.result in
    let count = node.count / total in
    let args = c.args.args.now in
    let asked = c.in-Some.ensures.cases.0 in
    let more : node.known < length node.all.now = omega (arith, c.if-node.false) in
    let step = step_at formals args args node stage stages total c.requires.node refl refl asked more (c.from-total.ensures ∙ c.choices.ensures) in
    let branches = stage.branches.items in
    let b = c.args.lone.now.branch in
    let branch = c.index-branch.result.now in
    let many = stage_many formals c.args.args.now node stage stages c.requires.node asked in
    let there : get_or branches b branch ≡ branch = search rules in
    let low = c.in_ok-range.range.low in
    let high = c.in_ok-range.range.high in
    let range = subst (λ s. IsOutside s state node.known param branch.tests.items low high) c.env_of-env.ensures c.in_ok-range.ensures.range in
    let place = c.loop-place.place in
    let past : high ≤ place = omega (arith, c.loop-place-test.false) in
    let within : place ≤ total = c.loop-place.invariant.within in
    c.loop-place.invariant.found
    ∙ ap (λ xs. places_in c.args.out.now.items ++ xs) (none_after formals args state node stage stages param params total count step place within (λ p least less others front value. only_lost (scope_in formals others) state branches node.left.now b branch many c.requires.only (subst (λ (x : Branch). tests_hold (scope_in formals others) state x.tests.items ≡ false) (sym there) (range p others (omega (arith, less, step.total_is)) (inr (omega (arith, least, past))) front value))))

pub walk_apart-index-branch-requires : goal.walk_apart-index-branch-requires
walk_apart-index-branch-requires g t c =
    let node = c.args.lone.now.node in
    let many = stage_many c.args.formals.now c.args.args.now node c.in-Some.stage.now c.in-Some.stages.now c.requires.node c.in-Some.ensures.cases.0 in
    let below = only_one node.left.now c.args.lone.now.branch c.requires.only in
    omega (arith, below, many)

pub walk_apart-walk_lone-requires : goal.walk_apart-walk_lone-requires
walk_apart-walk_lone-requires g t c = λ κs within.
    let node = c.args.lone.now.node in
    let formals = c.args.formals.now in
    let state = g.C.Cells.values c.args.cells.now in
    let stage = c.in-Some.stage.now in
    let stages = c.in-Some.stages.now in
    let param = get_or node.all.now node.known (Const 0) in
    let params = drop (node.known + 1) node.all.now in
    let total = c.from-total.result in
    let count = node.count / total in
    let args = c.args.args.now in
    let asked = c.in-Some.ensures.cases.0 in
    let more : node.known < length node.all.now = c.requires.more in
    let step = step_at formals args args node stage stages total c.requires.node refl refl asked more (c.from-total.ensures ∙ c.choices.ensures) in
    let new = set args node.known c.picked.result in
    let new_is : new ≡ set args node.known (picked formals param 0) = ap (set args node.known) c.picked.ensures in
    let asked_length = ap length asked in
    let fewer : 2 * length stages + 1 < t = omega (arith, c.decreases, asked_length) in (
      fewer,
      (
        within,
        (
          record {
            room = length-set args node.known c.picked.result ∙ c.requires.node.room;
            known = omega (arith, more);
            count = count_many formals args state node stage stages param params total count step;
            some = count_some formals args state node stage stages param params total count step;
            within = first_within formals args state node stage stages param params total count step new new_is;
            reached = first_reached formals args state node stage stages param params total count step new new_is;
            stages = next_stages formals args node stage stages c.requires.node asked;
            apart = next_apart formals args node stage stages c.requires.node asked;
            few = c.requires.node.few;
            complete = c.requires.node.complete;
          },
          c.requires.only,
        ),
      ),
    )

pub walk_apart-returns-in_err-walk_lone-clause-args : goal.walk_apart-returns-in_err-walk_lone-clause-args
walk_apart-returns-in_err-walk_lone-clause-args g t c =
    let known = c.args.lone.now.node.known in
    shorter known c.walk_lone.new.args (set c.args.args.now known c.picked.result) c.walk_lone.ensures.args ∙ take-set c.args.args.now known c.picked.result

pub walk_apart-loop-place-init : goal.walk_apart-loop-place-init
walk_apart-loop-place-init g t c =
    let node = c.args.lone.now.node in
    let known = node.known in
    let count = node.count / c.from-total.result in
    let test : ℕ → Truth = λ at. passes c.args.formals.now (g.C.Cells.values c.args.cells.now) node.stages.now node.left.now (tuple_at c.args.formals.now node.all.now at) in
    record {
      within = omega arith;
      room = c.walk_lone.ensures.room ∙ length-set c.args.args.now known c.picked.result;
      front = shorter known c.walk_lone.new.args (set c.args.args.now known c.picked.result) c.walk_lone.ensures.args ∙ take-set c.args.args.now known c.picked.result;
      found = nothing_more (places_in c.args.out.now.items) _ (ap (λ (n : ℕ). filter test (range_with_len node.from n)) (zero-mul count));
    }

pub walk_apart-loop-place-preserved : goal.walk_apart-loop-place-preserved
walk_apart-loop-place-preserved g t c =
    let node = c.args.lone.now.node in
    let formals = c.args.formals.now in
    let state = g.C.Cells.values c.args.cells.now in
    let stage = c.in-Some.stage.now in
    let stages = c.in-Some.stages.now in
    let param = get_or node.all.now node.known (Const 0) in
    let params = drop (node.known + 1) node.all.now in
    let total = c.from-total.result in
    let count = node.count / total in
    let args = c.loop-place.args in
    let asked = c.in-Some.ensures.cases.0 in
    let more : node.known < length node.all.now = c.requires.more in
    let step = step_at formals c.args.args.now args node stage stages total c.requires.node c.loop-place.invariant.room c.loop-place.invariant.front asked more (c.from-total.ensures ∙ c.choices.ensures) in
    let branches = stage.branches.items in
    let b = c.args.lone.now.branch in
    let branch = c.index-branch.result.now in
    let many = stage_many formals c.args.args.now node stage stages c.requires.node asked in
    let there : get_or branches b branch ≡ branch = search rules in
    let place = c.loop-place.place in
    let below : place < total = c.loop-place-test.true in
    let picked_here = c.picked-in-loop-place in
    let new = set args node.known picked_here.result in
    let new_is : new ≡ set args node.known (picked formals param place) = ap (set args node.known) picked_here.ensures in
    let env = scope_in formals new in
    let asks : tests_hold env state (get_or branches b branch).tests.items ≡ c.in_ok-tests_hold.field-0 = ap (λ (x : Branch). tests_hold env state x.tests.items) there ∙ (λ i. tests_hold (sym c.env_of.ensures i) state (sym c.as_slice.ensures.value i)) ∙ sym c.in_ok-tests_hold.ensures in
    let without = subst (AreLaterWithout node.known) asked c.requires.apart in
    elim c.if-branch.branch [
      | walk_apart-then-branch+in_ok-add_behind w ↦ (
          let left_is : node.left.now ≡ left_after env state branches node.left.now = sym (only_kept env state branches node.left.now b branch many c.requires.only (asks ∙ w.if-branch.true)) in
          let spans = c.walk_lone.new.out.items in
          let found_first : places_in spans ≡ filter (λ at. passes formals state stages node.left.now (tuple_at formals node.all.now at)) (range_with_len node.from count) = c.in_ok-walk_lone.ensures.out ∙ ap (λ xs. places_in xs ++ filter (λ at. passes formals state stages node.left.now (tuple_at formals node.all.now at)) (range_with_len node.from count)) c.new-below.ensures.items in
          let again = found_again formals args state node stage stages param params total count step place below without node.left.now spans found_first in
          record {
            within = omega (arith, below);
            room = length-set args node.known picked_here.result ∙ c.loop-place.invariant.room;
            front = take-set args node.known picked_here.result ∙ c.loop-place.invariant.front;
            found = (λ i. places_in (w.out-is i).items) ∙ found_more (places_in c.args.out.now.items) (places_in c.loop-place.out.items) (places_in w.add_behind.new.out.items) _ _ _ c.loop-place.invariant.found (w.in_ok-add_behind.ensures ∙ ap (λ xs. places_in c.loop-place.out.items ++ map (λ at. at + place * count) (places_in xs)) w.as_slice-spans.ensures ∙ ap (λ xs. places_in c.loop-place.out.items ++ xs) again) (chunk_found formals args state node stage stages param params total count step place below new new_is node.left.now left_is);
          })
      | walk_apart-else-branch w ↦ (
          let left = left_after env state branches node.left.now in
          let none : is_one_left left ≡ false = only_lost env state branches node.left.now b branch many c.requires.only (asks ∙ w.if-branch.false) in
          let old = places_in c.loop-place.out.items in
          record {
            within = omega (arith, below);
            room = length-set args node.known picked_here.result ∙ c.loop-place.invariant.room;
            front = take-set args node.known picked_here.result ∙ c.loop-place.invariant.front;
            found = (λ i. places_in (w.out-is i).items) ∙ found_more (places_in c.args.out.now.items) old old _ _ _ c.loop-place.invariant.found (nothing_left formals state stages left node.all.now (node.from + place * count) count old none) (chunk_found formals args state node stage stages param params total count step place below new new_is left refl);
          })
    ]

pub walk_apart-returns-clause-out : goal.walk_apart-returns-clause-out
walk_apart-returns-clause-out g t c =
    let node = c.args.lone.now.node in
    let formals = c.args.formals.now in
    let state = g.C.Cells.values c.args.cells.now in
    let stage = c.in-Some.stage.now in
    let stages = c.in-Some.stages.now in
    let param = get_or node.all.now node.known (Const 0) in
    let params = drop (node.known + 1) node.all.now in
    let total = c.from-total.result in
    let count = node.count / total in
    let args = c.args.args.now in
    let asked = c.in-Some.ensures.cases.0 in
    let more : node.known < length node.all.now = c.requires.more in
    let step = step_at formals args args node stage stages total c.requires.node refl refl asked more (c.from-total.ensures ∙ c.choices.ensures) in
    let place = c.loop-place.place in
    let end : place ≡ total = omega (arith, c.loop-place-test.false, c.loop-place.invariant.within) in
    let test : ℕ → Truth = λ at. passes formals state node.stages.now node.left.now (tuple_at formals node.all.now at) in
    c.loop-place.invariant.found
    ∙ ap (λ (p : ℕ). places_in c.args.out.now.items ++ filter test (range_with_len node.from (p * count))) end
    ∙ ap (λ (n : ℕ). places_in c.args.out.now.items ++ filter test (range_with_len node.from n)) (sym (product formals args state node stage stages param params total count step))
