use Rattle.std.proofs.Common.{◌≡◌, ℕ, map, length, refl, sym, ap, subst, ◌∙◌}
use Rattle.std.specs.Prelude.{slice_get, option_map, Some}
use Rattle.std.specs.Arc.{arc_value}
use Rattle.std.specs.Vec.{with_items}
use Rattle.std.proofs.lemmas.List.{with_items_is}
use Rattle.event_keys.specs.Ranks.{rank_of_bound}
use Rattle.virtual_time.specs.Machine.{Lawful}
use Rattle.virtual_time.specs.Groups.Meetings.{IsCommit}
use Rattle.task_seed.specs.Setups.{system}
use Rattle.task_seed.specs.Machines.{machine}
use Rattle.rollback.specs.ComponentView.{machine_of}
use Rattle.gvt.specs.Least.{IsLeast}
use Rattle.group_exchange.specs.declared.passage.Passage.{Passage}
use Rattle.group_exchange.specs.ExchangeView.{ExchangeView, IsValidExchange, IsPassing, exchange_of, group_at, clear_until, passing}
use Rattle.group_exchange.specs.Windows.{HasWindow}
use Rattle.group_exchange.proofs.Windowed.{commit_within}
use Rattle.group_exchange.proofs.Raising.{committed, kept, passing_before}
use Rattle.group_exchange.proofs.exchange.Exchange.raise_bound.Goals as goal

pub pass_all-count-requires-clause-passing : goal.pass_all-count-requires-clause-passing
pass_all-count-requires-clause-passing g c = λ _ _.
    let t = g.T.Turns.turn_of in
    let f = c.self.inside in
    let s = system t (arc_value f.setup) in
    let e : ExchangeView _ = record { setup = arc_value f.setup; groups = f.groups.items; stubs = f.stubs.items; passages = f.passages.items; bound = f.bound; held = f.held.items; given = f.given; window = f.window } in
    let law : Lawful (machine s) = subst (λ p. Lawful (machine (system t p))) c.deref.ensures c.machine_is_lawful.ensures.lawful in
    let least : IsLeast (map clear_until f.stubs.items) c.least_clear-bound.result = subst (λ l. IsLeast (map clear_until l) c.least_clear-bound.result) c.deref-2.ensures.value c.least_clear-bound.ensures in
    let all = passing_before s e c.self.invariant.1 c.least_clear-bound.result least c.is_bounded.ensures c.least_law.ensures.low c.least_law.ensures.most (λ i n. c.reference_is_counted.ensures.before (machine s) (rank_of_bound f.bound) i n law) in
    subst (λ x. (j : ℕ) (p : Passage) → slice_get c.deref_mut.result.now j ≡ Some p → IsPassing (system t x) (rank_of_bound c.least_clear-bound.result) j p) (sym c.deref-3.ensures)
    (subst (λ l. (j : ℕ) (p : Passage) → slice_get l j ≡ Some p → IsPassing s (rank_of_bound c.least_clear-bound.result) j p) (sym c.deref_mut.ensures.value) all)

pub invariant_of-self : goal.invariant_of-self
invariant_of-self g c =
    let t = g.T.Turns.turn_of in
    let f = c.self.inside in
    let s = system t (arc_value f.setup) in
    let bound = c.least_clear-bound.result in
    let e : ExchangeView _ = record { setup = arc_value f.setup; groups = f.groups.items; stubs = f.stubs.items; passages = f.passages.items; bound = f.bound; held = f.held.items; given = f.given; window = f.window } in
    let law : Lawful (machine s) = subst (λ p. Lawful (machine (system t p))) c.deref.ensures c.machine_is_lawful.ensures.lawful in
    let least : IsLeast (map clear_until f.stubs.items) bound = subst (λ l. IsLeast (map clear_until l) bound) c.deref-2.ensures.value c.least_clear-bound.ensures in
    let all = c.pass_all-count in
    let many : length all.new.passages ≡ length f.passages.items = all.ensures.many ∙ ap length c.deref_mut.ensures.value in
    let passed : (j : ℕ) → slice_get all.new.passages j ≡ option_map (passing s (rank_of_bound bound) j) (slice_get f.passages.items j)
    = λ j. all.ensures.passages j ∙ ap (λ p. option_map (passing (system t p) (rank_of_bound bound) j) (slice_get c.deref_mut.result.now j)) c.deref-3.ensures
    ∙ ap (λ l. option_map (passing s (rank_of_bound bound) j) (slice_get l j)) c.deref_mut.ensures.value in
    let passing_all : (j : ℕ) (p : Passage) → slice_get all.new.passages j ≡ Some p → IsPassing s (rank_of_bound bound) j p
    = subst (λ x. (j : ℕ) (p : Passage) → slice_get all.new.passages j ≡ Some p → IsPassing (system t x) (rank_of_bound bound) j p) c.deref-3.ensures all.ensures.passed in
    let made = committed s e c.self.invariant.1 bound least c.is_bounded.ensures c.least_law.ensures.low c.least_law.ensures.most all.new.passages passed in
    let sound = c.group_exchange_is_sound.ensures.commit (machine s) (group_at f.groups.items) (length s.composition) (exchange_of (machine s) e) (exchange_of (machine s) (record e { bound = bound; passages = all.new.passages })) law c.self.invariant.1.sound made in
    let items : (with_items f.passages all.new.passages).items ≡ all.new.passages = with_items_is f.passages all.new.passages (all.ensures.many ∙ c.deref_mut.ensures.len) in
    let walks : length (with_items f.walks all.new.walks).items ≡ length s.composition
    = ap length (with_items_is f.walks all.new.walks (all.ensures.items ∙ c.deref_mut-2.ensures.len)) ∙ all.ensures.items ∙ ap length c.deref_mut-2.ensures.value ∙ c.self.invariant.0 in (
      walks,
      subst (λ l. IsValidExchange s (record e { bound = bound; passages = l })) (sym items) (kept s e c.self.invariant.1 bound least c.is_bounded.ensures c.least_law.ensures.low c.least_law.ensures.most all.new.passages passed sound many passing_all),
      subst (λ l. HasWindow (machine s) (length s.composition) (record e { bound = bound; passages = l })) (sym items)
          (commit_within (machine s) (length s.composition) e (record e { bound = bound; passages = all.new.passages }) (c.group_window_law.ensures.commit (machine s) (group_at f.groups.items)) refl refl (committed s e c.self.invariant.1 bound least c.is_bounded.ensures c.least_law.ensures.low c.least_law.ensures.most all.new.passages passed) c.self.invariant.2),
    )

pub returns-clause-commit : goal.returns-clause-commit
returns-clause-commit g c =
    let t = g.T.Turns.turn_of in
    let f = c.self.inside in
    let s = system t (arc_value f.setup) in
    let bound = c.least_clear-bound.result in
    let e : ExchangeView _ = record { setup = arc_value f.setup; groups = f.groups.items; stubs = f.stubs.items; passages = f.passages.items; bound = f.bound; held = f.held.items; given = f.given; window = f.window } in
    let law : Lawful (machine s) = subst (λ p. Lawful (machine (system t p))) c.deref.ensures c.machine_is_lawful.ensures.lawful in
    let least : IsLeast (map clear_until f.stubs.items) bound = subst (λ l. IsLeast (map clear_until l) bound) c.deref-2.ensures.value c.least_clear-bound.ensures in
    let all = c.pass_all-count in
    let passed : (j : ℕ) → slice_get all.new.passages j ≡ option_map (passing s (rank_of_bound bound) j) (slice_get f.passages.items j)
    = λ j. all.ensures.passages j ∙ ap (λ p. option_map (passing (system t p) (rank_of_bound bound) j) (slice_get c.deref_mut.result.now j)) c.deref-3.ensures
    ∙ ap (λ l. option_map (passing s (rank_of_bound bound) j) (slice_get l j)) c.deref_mut.ensures.value in
    let made = committed s e c.self.invariant.1 bound least c.is_bounded.ensures c.least_law.ensures.low c.least_law.ensures.most all.new.passages passed in
    let items : (with_items f.passages all.new.passages).items ≡ all.new.passages = with_items_is f.passages all.new.passages (all.ensures.many ∙ c.deref_mut.ensures.len) in
    subst (λ (old : ExchangeView _). IsCommit (machine_of t old.setup) (exchange_of (machine_of t old.setup) old) (exchange_of (machine_of t old.setup) (record e { bound = bound; passages = (with_items f.passages all.new.passages).items }))) c.self.view_is
    (subst (λ l. IsCommit (machine s) (exchange_of (machine s) e) (exchange_of (machine s) (record e { bound = bound; passages = l }))) (sym items) made)
