use Rattle.std.proofs.Common.{◌≡◌, ◌<◌, ◌+◌, ◌++◌, [], length, map, reverse, IfSome, sym, ap, subst, ◌∙◌, arith}
use Rattle.std.specs.Arc.{arc_value}
use Rattle.event_keys.specs.Ranks.{rank_of_bound}
use Rattle.raw_events.specs.Around.{Around}
use Rattle.raw_events.specs.Onto.{onto}
use Rattle.undo_records.specs.States.{without_first}
use Rattle.virtual_time.specs.Entries.{below, number}
use Rattle.virtual_time.specs.Records.{cut_of, turns_among}
use Rattle.task_seed.specs.Clocks.{HasReached}
use Rattle.task_seed.specs.Setups.{system}
use Rattle.task_seed.specs.Machines.{machine}
use Rattle.task_seed.specs.Taken.{turn_of}
use Rattle.rollback.specs.Dropped.{dones_below, dones_from, number_after, turns_in}
use Rattle.rollback.specs.ComponentView.{ComponentView, machine_of}
use Rattle.rollback.specs.ComponentInvariant.{entries_of, record_of}
use Rattle.rollback.proofs.Keeping.{depth_is}
use Rattle.rollback.proofs.Dropping.{cut_number, dropped_record, dropped_turns, few_dropped, kept_dropped, length_entries, newest_number, newest_small, ready_below}
use Rattle.rollback.proofs.Oldest.{onto_reverse}
use Rattle.rollback.proofs.component.Component.drop_below.Goals as goal

pub take_below-dropped-requires-clause-end : goal.take_below-dropped-requires-clause-end
take_below-dropped-requires-clause-end g c = c.self.invariant.0.ahead

pub take_below-dropped-requires-clause-falling : goal.take_below-dropped-requires-clause-falling
take_below-dropped-requires-clause-falling g c = c.self.invariant.0.falling.done

pub take_below-dropped-requires-clause-few : goal.take_below-dropped-requires-clause-few
take_below-dropped-requires-clause-few g c =
    let f = c.self.inside in
    let s = system g.T.Turns.turn_of (arc_value f.setup) in
    let own = depth_is s f.number f.store f.done.before c.self.invariant.0.replayed in
    let all = ap (λ (h : ComponentView _). length h.history.done) c.self.view_is in
    let count = length_entries f.done.before in
    omega (arith, own, all, count, c.depth-depth.ensures, c.depth-depth.type_inv)

pub forget_first-requires : goal.forget_first-requires
forget_first-requires g c =
    let f = c.self.inside in
    let s = system g.T.Turns.turn_of (arc_value f.setup) in
    let b = rank_of_bound c.args.bound in
    subst (λ n. n < length f.store.below + 1) (sym c.take_below-dropped.ensures.count) (few_dropped s f.number f.first b f.store f.done f.pending f.owed f.coming c.self.invariant.0)

pub number_after-self-inside-requires : goal.number_after-self-inside-requires
number_after-self-inside-requires g c =
    let f = c.self.inside in
    let s = system g.T.Turns.turn_of (arc_value f.setup) in
    let b = rank_of_bound c.args.bound in
    let ds = f.done.before in
    subst (λ o. IfSome o (λ key. key.number < 4294967296)) (sym c.take_below-dropped.ensures.newest) (newest_small s f.number f.first (dones_below b ds) (ready_below s f.number f.first b ds c.self.invariant.0.ready))

pub invariant_of-self : goal.invariant_of-self
invariant_of-self g c =
    let f = c.self.inside in
    let s = system g.T.Turns.turn_of (arc_value f.setup) in
    let b = rank_of_bound c.args.bound in
    let ds = f.done.before in
    let states : c.forget_first.new.self ≡ without_first (length (dones_below b ds)) f.store = c.forget_first.ensures ∙ ap (λ k. without_first k f.store) c.take_below-dropped.ensures.count in
    let first : c.number_after-self-inside.result ≡ number f.first (entries_of (dones_below b ds))
    = c.number_after-self-inside.ensures ∙ ap (λ k. number_after k f.first) c.take_below-dropped.ensures.newest ∙ newest_number s f.number f.first (dones_below b ds) (ready_below s f.number f.first b ds c.self.invariant.0.ready) in
    let left : c.take_below-dropped.new.done ≡ record { before = dones_from b ds; after = [] } = c.take_below-dropped.ensures.rest in
    (rw (states, first, left) (kept_dropped s f.number f.first b f.store f.done f.pending f.owed f.coming c.self.invariant.0), rw (first, left) (subst (HasReached g.T.Turns.turn_of (arc_value f.setup) f.number f.clock) (sym (cut_number s f.number f.first b ds)) c.self.invariant.1), rw states c.self.invariant.2)

pub returns-clause-record : goal.returns-clause-record
returns-clause-record g c =
    let f = c.self.inside in
    let s = system g.T.Turns.turn_of (arc_value f.setup) in
    let b = rank_of_bound c.args.bound in
    let ds = f.done.before in
    let states : c.forget_first.new.self ≡ without_first (length (dones_below b ds)) f.store = c.forget_first.ensures ∙ ap (λ k. without_first k f.store) c.take_below-dropped.ensures.count in
    let first : c.number_after-self-inside.result ≡ number f.first (entries_of (dones_below b ds))
    = c.number_after-self-inside.ensures ∙ ap (λ k. number_after k f.first) c.take_below-dropped.ensures.newest ∙ newest_number s f.number f.first (dones_below b ds) (ready_below s f.number f.first b ds c.self.invariant.0.ready) in
    let left : c.take_below-dropped.new.done ≡ record { before = dones_from b ds; after = [] } = c.take_below-dropped.ensures.rest in
    let cut : record_of c.forget_first.new.self c.number_after-self-inside.result c.take_below-dropped.new.done f.pending f.owed ≡ cut_of (machine s) f.number b (record_of f.store f.first f.done f.pending f.owed)
    = rw (states, first, left) (dropped_record s f.number f.first b f.store f.done f.pending f.owed f.coming c.self.invariant.0) in
    subst (λ (h : ComponentView _). ◌≡◌ {A = ComponentView _} (record { setup = arc_value f.setup; number = f.number; base = c.args.bound; history = record_of c.forget_first.new.self c.number_after-self-inside.result c.take_below-dropped.new.done f.pending f.owed }) (record h { base = c.args.bound; history = cut_of (machine_of g.T.Turns.turn_of h.setup) h.number b h.history })) c.self.view_is
    (ap (λ r. record { setup = arc_value f.setup; number = f.number; base = c.args.bound; history = r }) cut)

pub returns-clause-turns : goal.returns-clause-turns
returns-clause-turns g c =
    let f = c.self.inside in
    let b = rank_of_bound c.args.bound in
    let ds = f.done.before in
    ap (λ (t : Around _). map turn_of t.after) c.from_front.ensures
    ∙ ap (λ (t : Around _). map turn_of (reverse t.before ++ t.after)) c.take_below-dropped.ensures.turns
    ∙ ap (map turn_of) (onto_reverse (turns_in (dones_below b ds)))
    ∙ dropped_turns b ds
    ∙ ap (λ (h : ComponentView _). onto (turns_among (below b h.history.done)) []) c.self.view_is

pub returns-clause-front : goal.returns-clause-front
returns-clause-front g c = ap (λ (t : Around _). t.before) c.from_front.ensures
