use Rattle.std.proofs.Common.{◌≡◌, ℕ, ◌≤◌, List, [], Some, length, ap, sym, subst, ◌∙◌}
use Rattle.std.specs.Prelude.{IfSome, option_map, slice_get}
use Rattle.std.specs.Arc.{arc_value}
use Rattle.std.specs.Vec.{with_items}
use Rattle.std.proofs.lemmas.List.{with_items_is}
use Rattle.plans.specs.Plans.{composition}
use Rattle.plans.specs.declared.memo.Memo.{Memo}
use Rattle.task_seed.specs.Machines.{machine, end_rank, turn_outcome}
use Rattle.task_seed.specs.Setups.{plan_of, system}
use Rattle.undo_records.specs.States.{States}
use Rattle.virtual_time.specs.Machine.{Lawful}
use Rattle.reference.specs.Agendas.{AreBefore, Coming, HasCome, IsDue}
use Rattle.reference.specs.Memos.{AreMemos}
use Rattle.reference.specs.Taking.{joining}
use Rattle.reference.proofs.Stood.{before_next, comes}
use Rattle.reference.proofs.standing.Standing.take.Goals as goal

pub take_turn-requires-clause-plain : goal.take_turn-requires-clause-plain
take_turn-requires-clause-plain g c κs inside =
    subst (λ (l : List States). (j : ℕ) (state : States) → slice_get l j ≡ Some state → state.below ≡ []) (sym c.deref_mut.ensures.value)
    (λ j state at. ap (λ (x : States). x.below) (c.self.invariant.0.currents j state at))

pub invariant_of-self-2 : goal.invariant_of-self-2
invariant_of-self-2 g c =
    let t = g.T.Turns.turn_of in
    let f = c.self.inside in
    let s = system t (arc_value f.setup) in
    let law : Lawful (machine s) = subst (λ p. Lawful (machine (system t p))) c.deref.ensures c.machine_is_lawful.ensures.lawful in
    let exists = λ (b : ℕ) (h : b ≤ end_rank). c.reference_is_complete.ensures.exists (machine s) b law h in
    let due = c.args.due in
    let next = c.args.next in
    let at : f.next ≡ Some due.key = ap (λ (r : Coming _). r.next) c.self.view_is ∙ c.requires.at in
    let is : IsDue s due next = subst (λ (r : Coming _). IsDue (system t r.setup) due next) (sym c.self.view_is) c.requires.due in
    let states = f.states.items in
    let before : AreBefore s (Some due.key) states = subst (λ k. AreBefore s k states) at c.self.invariant.0 in
    let found = c.take_turn.new.found in
    let news = c.take_turn.new.states in
    let came_at = subst (λ p. IfSome (slice_get c.deref_mut.result.now due.key.component) (λ state. found ≡ turn_outcome (system t p) due.key.component due.key.number state.current)) c.deref-2.ensures c.in_ok-take_turn.ensures.found in
    let came = subst (λ (l : List States). IfSome (slice_get l due.key.component) (λ state. found ≡ turn_outcome s due.key.component due.key.number state.current)) c.deref_mut.ensures.value came_at in
    let each_at = subst (λ p. (j : ℕ) → slice_get news j ≡ option_map (joining (machine (system t p)) due.key.component found j) (slice_get c.deref_mut.result.now j)) c.deref-2.ensures c.in_ok-take_turn.ensures.states in
    let each = subst (λ (l : List States). (j : ℕ) → slice_get news j ≡ option_map (joining (machine s) due.key.component found j) (slice_get l j)) c.deref_mut.ensures.value each_at in
    let many = c.in_ok-take_turn.ensures.many ∙ c.deref_mut.ensures.len in
    let states_are : (with_items f.states news).items ≡ news = with_items_is f.states news many in
    let memos = c.take_turn.new.memos in
    let remembered : AreMemos (composition (plan_of (arc_value f.setup))) news memos = subst (λ p. AreMemos (composition (plan_of p)) news memos) c.deref-2.ensures c.in_ok-take_turn.ensures.memos in
    let memos_are : (with_items f.memos memos).items ≡ memos
    = with_items_is f.memos memos (remembered.many ∙ sym c.self.invariant.1.many ∙ ap length (sym c.deref_mut-2.ensures.value) ∙ c.deref_mut-2.ensures.len) in (
      subst (λ l. AreBefore s next l) (sym states_are) (before_next s exists due next is states before found came news (c.in_ok-take_turn.ensures.many ∙ ap length c.deref_mut.ensures.value) each),
      subst (λ (l : List States). AreMemos (composition (plan_of (arc_value f.setup))) l (with_items f.memos memos).items) (sym states_are)
          (subst (λ (l : List Memo). AreMemos (composition (plan_of (arc_value f.setup))) news l) (sym memos_are) remembered),
    )

pub returns-clause-turn : goal.returns-clause-turn
returns-clause-turn g c =
    let t = g.T.Turns.turn_of in
    let f = c.self.inside in
    let s = system t (arc_value f.setup) in
    let law : Lawful (machine s) = subst (λ p. Lawful (machine (system t p))) c.deref.ensures c.machine_is_lawful.ensures.lawful in
    let exists = λ (b : ℕ) (h : b ≤ end_rank). c.reference_is_complete.ensures.exists (machine s) b law h in
    let due = c.args.due in
    let next = c.args.next in
    let at : f.next ≡ Some due.key = ap (λ (r : Coming _). r.next) c.self.view_is ∙ c.requires.at in
    let is : IsDue s due next = subst (λ (r : Coming _). IsDue (system t r.setup) due next) (sym c.self.view_is) c.requires.due in
    let states = f.states.items in
    let before : AreBefore s (Some due.key) states = subst (λ k. AreBefore s k states) at c.self.invariant.0 in
    let found = c.take_turn.new.found in
    let came_at = subst (λ p. IfSome (slice_get c.deref_mut.result.now due.key.component) (λ state. found ≡ turn_outcome (system t p) due.key.component due.key.number state.current)) c.deref-2.ensures c.in_ok-take_turn.ensures.found in
    let came = subst (λ (l : List States). IfSome (slice_get l due.key.component) (λ state. found ≡ turn_outcome s due.key.component due.key.number state.current)) c.deref_mut.ensures.value came_at in
    subst (λ (r : Coming _). HasCome (machine (system t r.setup)) due.key found next) c.self.view_is (comes s exists due next is states before found came)
