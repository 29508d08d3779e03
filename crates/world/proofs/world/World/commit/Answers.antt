use Rattle.std.proofs.Common.{◌≡◌, List, ap, length, subst, subst₂, sym, ◌∙◌}
use Rattle.std.specs.Arc.{arc_value}
use Rattle.std.specs.Vec.{with_items}
use Rattle.std.proofs.lemmas.List.{with_items_is}
use Rattle.event_keys.specs.Ranks.{rank_of_bound}
use Rattle.plans.specs.Plans.{composition}
use Rattle.virtual_time.specs.Replies.{Answers, IsVirtualTime}
use Rattle.virtual_time.specs.Worlds.{Commit}
use Rattle.task_seed.specs.declared.setup.Setup.{Setup}
use Rattle.task_seed.specs.Setups.{plan_of, system}
use Rattle.task_seed.specs.Taken.{turns_of}
use Rattle.rollback.specs.ComponentView.{ComponentView, machine_of}
use Rattle.world.specs.MachineLaws.{Laws}
use Rattle.world.specs.Simulation.{IsSimulation, Simulation, world_of}
use Rattle.world.specs.Keeping.{Keeps}
use Rattle.world.proofs.Keeping.{level}
use Rattle.std.proofs.Common.{ℕ, []}
use Rattle.std.specs.Prelude.{option_map, slice_get}
use Rattle.std.proofs.lemmas.Bool.{ltb-false}
use Rattle.event_keys.specs.declared.outcome.Turned.{Turned}
use Rattle.raw_events.specs.Around.{Around}
use Rattle.raw_events.specs.Onto.{onto}
use Rattle.virtual_time.specs.Reference.{outcome_at}
use Rattle.virtual_time.specs.Replies as theory
use Rattle.world.specs.Dropping.{IsOrderly, cut_between, dropped_at}
use Rattle.world.proofs.Committing.{answers, few, kept, onto_append, orderly}
use Rattle.world.proofs.world.World.commit.Goals as goal

pub drop_between-turns-requires-clause-orderly : goal.drop_between-turns-requires-clause-orderly
drop_between-turns-requires-clause-orderly g c κs within = λ j x low high at.
    let t = g.T.Turns.turn_of in
    let f = c.self.inside in
    let w : Simulation _ = record { setup = arc_value f.setup; components = f.components.items; flight = f.flight; bound = f.bound; committed = f.committed.before } in
    let laws : Laws (machine_of t w.setup) (length (system t w.setup).composition) = subst (λ p. Laws (machine_of t p) (length (system t p).composition)) c.deref.ensures c.laws.ensures in
    subst (λ q. IsOrderly (machine_of t q) q j x) (sym c.deref-2.ensures) (orderly (system t w.setup) laws w c.self.invariant.1 j x (ap (λ xs. slice_get xs j) (sym c.deref_mut.ensures.value) ∙ at))

pub append-requires-clause-few : goal.append-requires-clause-few
append-requires-clause-few g c =
    let t = g.T.Turns.turn_of in
    let f = c.self.inside in
    let w : Simulation _ = record { setup = arc_value f.setup; components = f.components.items; flight = f.flight; bound = f.bound; committed = f.committed.before } in
    let laws : Laws (machine_of t w.setup) (length (system t w.setup).composition) = subst (λ p. Laws (machine_of t p) (length (system t p).composition)) c.deref.ensures c.laws.ensures in
    let m = machine_of t w.setup in
    let s = system t w.setup in
    let is = c.self.invariant.1 in
    let behind = ltb-false (rank_of_bound c.args.bound) (rank_of_bound f.bound) (sym c.is_above.ensures ∙ c.if-is_above.false) in
    let ahead = ltb-false (rank_of_bound c.gvt.result) (rank_of_bound c.args.bound) (sym c.is_above-2.ensures ∙ c.if-is_above-2.false) in
    let time : IsVirtualTime m (world_of m w) (rank_of_bound c.gvt.result) = subst (λ (v : Simulation _). IsVirtualTime (machine_of t v.setup) (world_of (machine_of t v.setup) v) (rank_of_bound c.gvt.result)) (sym c.self.view_is) c.gvt.ensures.time in
    let d = c.drop_between-turns in
    let cs = d.new.components in
    let n : c.len-count.result ≡ length f.components.items = c.len-count.ensures ∙ sym c.deref_mut.ensures.len ∙ ap length c.deref_mut.ensures.value in
    let cuts : (j : ℕ) → slice_get cs j ≡ option_map (cut_between m c.args.bound 0 (length f.components.items) j) (slice_get f.components.items j)
    = λ j. d.ensures.cut j ∙ (λ v. option_map (cut_between (machine_of t (c.deref-2.ensures v)) c.args.bound 0 (n v) j) (slice_get (c.deref_mut.ensures.value v) j)) in
    let given : (k : ℕ) → outcome_at k (turns_of d.result.after) ≡ dropped_at m (rank_of_bound c.args.bound) 0 (length f.components.items) f.components.items k
    = λ k. d.ensures.turns k ∙ (λ v. dropped_at (machine_of t (c.deref-2.ensures v)) (rank_of_bound c.args.bound) 0 (n v) (c.deref_mut.ensures.value v) k) in
    let many : length cs ≡ length f.components.items = d.ensures.many ∙ ap length c.deref_mut.ensures.value in
    few s laws w is c.args.bound behind (rank_of_bound c.gvt.result) time ahead cs many d.result.after cuts d.ensures.falls given

pub invariant_of-self : goal.invariant_of-self
invariant_of-self g c =
    let t = g.T.Turns.turn_of in
    let f = c.self.inside in
    let w : Simulation _ = record { setup = arc_value f.setup; components = f.components.items; flight = f.flight; bound = f.bound; committed = f.committed.before } in
    let laws : Laws (machine_of t w.setup) (length (system t w.setup).composition) = subst (λ p. Laws (machine_of t p) (length (system t p).composition)) c.deref.ensures c.laws.ensures in
    let m = machine_of t w.setup in
    let s = system t w.setup in
    let is = c.self.invariant.1 in
    let behind = ltb-false (rank_of_bound c.args.bound) (rank_of_bound f.bound) (sym c.is_above.ensures ∙ c.if-is_above.false) in
    let ahead = ltb-false (rank_of_bound c.gvt.result) (rank_of_bound c.args.bound) (sym c.is_above-2.ensures ∙ c.if-is_above-2.false) in
    let time : IsVirtualTime m (world_of m w) (rank_of_bound c.gvt.result) = subst (λ (v : Simulation _). IsVirtualTime (machine_of t v.setup) (world_of (machine_of t v.setup) v) (rank_of_bound c.gvt.result)) (sym c.self.view_is) c.gvt.ensures.time in
    let d = c.drop_between-turns in
    let cs = d.new.components in
    let n : c.len-count.result ≡ length f.components.items = c.len-count.ensures ∙ sym c.deref_mut.ensures.len ∙ ap length c.deref_mut.ensures.value in
    let cuts : (j : ℕ) → slice_get cs j ≡ option_map (cut_between m c.args.bound 0 (length f.components.items) j) (slice_get f.components.items j)
    = λ j. d.ensures.cut j ∙ (λ v. option_map (cut_between (machine_of t (c.deref-2.ensures v)) c.args.bound 0 (n v) j) (slice_get (c.deref_mut.ensures.value v) j)) in
    let given : (k : ℕ) → outcome_at k (turns_of d.result.after) ≡ dropped_at m (rank_of_bound c.args.bound) 0 (length f.components.items) f.components.items k
    = λ k. d.ensures.turns k ∙ (λ v. dropped_at (machine_of t (c.deref-2.ensures v)) (rank_of_bound c.args.bound) 0 (n v) (c.deref_mut.ensures.value v) k) in
    let many : length cs ≡ length f.components.items = d.ensures.many ∙ ap length c.deref_mut.ensures.value in
    let items : (with_items f.components cs).items ≡ cs = with_items_is f.components cs (d.ensures.many ∙ c.deref_mut.ensures.len) in
    let before = ap (λ (l : Around Turned). l.before) c.append.ensures.all in (
      ap (λ (l : Around Turned). l.after) c.append.ensures.all,
      subst₂ (λ (xs : List (ComponentView (Setup _))) (cm : List Turned). IsSimulation s (record { setup = arc_value f.setup; components = xs; flight = f.flight; bound = c.args.bound; committed = cm })) (sym items) (sym before) (kept s laws w is c.args.bound behind (rank_of_bound c.gvt.result) time ahead cs many d.result.after cuts d.ensures.falls given),
    )

pub returns-clause-answers : goal.returns-clause-answers
returns-clause-answers g c =
    let t = g.T.Turns.turn_of in
    let f = c.self.inside in
    let w : Simulation _ = record { setup = arc_value f.setup; components = f.components.items; flight = f.flight; bound = f.bound; committed = f.committed.before } in
    let laws : Laws (machine_of t w.setup) (length (system t w.setup).composition) = subst (λ p. Laws (machine_of t p) (length (system t p).composition)) c.deref.ensures c.laws.ensures in
    let m = machine_of t w.setup in
    let s = system t w.setup in
    let is = c.self.invariant.1 in
    let behind = ltb-false (rank_of_bound c.args.bound) (rank_of_bound f.bound) (sym c.is_above.ensures ∙ c.if-is_above.false) in
    let ahead = ltb-false (rank_of_bound c.gvt.result) (rank_of_bound c.args.bound) (sym c.is_above-2.ensures ∙ c.if-is_above-2.false) in
    let time : IsVirtualTime m (world_of m w) (rank_of_bound c.gvt.result) = subst (λ (v : Simulation _). IsVirtualTime (machine_of t v.setup) (world_of (machine_of t v.setup) v) (rank_of_bound c.gvt.result)) (sym c.self.view_is) c.gvt.ensures.time in
    let d = c.drop_between-turns in
    let cs = d.new.components in
    let n : c.len-count.result ≡ length f.components.items = c.len-count.ensures ∙ sym c.deref_mut.ensures.len ∙ ap length c.deref_mut.ensures.value in
    let cuts : (j : ℕ) → slice_get cs j ≡ option_map (cut_between m c.args.bound 0 (length f.components.items) j) (slice_get f.components.items j)
    = λ j. d.ensures.cut j ∙ (λ v. option_map (cut_between (machine_of t (c.deref-2.ensures v)) c.args.bound 0 (n v) j) (slice_get (c.deref_mut.ensures.value v) j)) in
    let given : (k : ℕ) → outcome_at k (turns_of d.result.after) ≡ dropped_at m (rank_of_bound c.args.bound) 0 (length f.components.items) f.components.items k
    = λ k. d.ensures.turns k ∙ (λ v. dropped_at (machine_of t (c.deref-2.ensures v)) (rank_of_bound c.args.bound) 0 (n v) (c.deref_mut.ensures.value v) k) in
    let many : length cs ≡ length f.components.items = d.ensures.many ∙ ap length c.deref_mut.ensures.value in
    let items : (with_items f.components cs).items ≡ cs = with_items_is f.components cs (d.ensures.many ∙ c.deref_mut.ensures.len) in
    let before = ap (λ (l : Around Turned). l.before) c.append.ensures.all in
    let here = subst₂ (λ (xs : List (ComponentView (Setup _))) (cm : List Turned). Answers m (length (composition (plan_of w.setup))) (world_of m w) (Commit (rank_of_bound c.args.bound)) (theory.Committed (length d.result.after)) (world_of m (record { setup = arc_value f.setup; components = xs; flight = f.flight; bound = c.args.bound; committed = cm }))) (sym items) (sym before) (answers s laws w is c.args.bound behind (rank_of_bound c.gvt.result) time ahead cs many d.result.after cuts d.ensures.falls given) in
    subst₂ (λ (v : Simulation _) (n : ℕ). Answers (machine_of t v.setup) (length (composition (plan_of v.setup))) (world_of (machine_of t v.setup) v) (Commit (rank_of_bound c.args.bound)) (theory.Committed n) (world_of (machine_of t v.setup) (record { setup = arc_value f.setup; components = (with_items f.components cs).items; flight = f.flight; bound = c.args.bound; committed = c.append.new.committed.before })))
    c.self.view_is (sym c.append.ensures.count) here

pub returns-clause-keeps : goal.returns-clause-keeps
returns-clause-keeps g c =
    let f = c.self.inside in
    let behind = ltb-false (rank_of_bound c.args.bound) (rank_of_bound f.bound) (sym c.is_above.ensures ∙ c.if-is_above.false) in
    let d = c.drop_between-turns in
    let cs = d.new.components in
    let items : (with_items f.components cs).items ≡ cs = with_items_is f.components cs (d.ensures.many ∙ c.deref_mut.ensures.len) in
    let before = ap (λ (l : Around Turned). l.before) c.append.ensures.all in
    let old : Simulation _ = record { setup = arc_value f.setup; components = f.components.items; flight = f.flight; bound = f.bound; committed = f.committed.before } in
    let new : Simulation _ = record { setup = arc_value f.setup; components = cs; flight = f.flight; bound = c.args.bound; committed = onto d.result.after f.committed.before } in
    let keeps : Keeps old new = record { rises = behind; bound = λ same. sym (c.bound_law.ensures.same (c.bound_rank_law.ensures ∙ level (rank_of_bound f.bound) (rank_of_bound c.args.bound) (sym same))); committed = (onto d.result.after [], onto_append d.result.after [] f.committed.before) } in
    subst (λ (v : Simulation _). Keeps v (record { setup = arc_value f.setup; components = (with_items f.components cs).items; flight = f.flight; bound = c.args.bound; committed = c.append.new.committed.before })) c.self.view_is
    (subst₂ (λ (xs : List (ComponentView (Setup _))) (cm : List Turned). Keeps old (record { setup = arc_value f.setup; components = xs; flight = f.flight; bound = c.args.bound; committed = cm })) (sym items) (sym before) keeps)
