use Rattle.std.proofs.Common.{◌≡◌, ℕ, ◌+◌, ◌<◌, ◌≤◌, List, length, Some, ap, sym, subst, ◌∙◌}
use Rattle.std.specs.Prelude.{slice_set}
use Rattle.std.specs.Vec.{with_items}
use Rattle.std.proofs.lemmas.List.{with_items_is}
use Rattle.task_seed.specs.Setups.{system}
use Rattle.task_seed.specs.Machines.{machine, end_rank}
use Rattle.reference.specs.Agendas.{IsDue}
use Rattle.reference.specs.Clocks.{AreClocks}
use Rattle.reference.specs.Queues.{HasItsNumber, IsQueue, least_key, least_rank, place_of}
use Rattle.virtual_time.specs.Reference.{point}
use Rattle.gvt.specs.Tournaments.{IsTournament, node}
use Rattle.reference.proofs.Lined as lined
use Rattle.reference.proofs.Stepping.{small_key}
use Rattle.reference.proofs.Takers.{slice_set-length}
use Rattle.reference.proofs.line.Line.draw.Goals as goal

pub least_key-requires : goal.least_key-requires
least_key-requires g c =
    let s = system g.T.Turns.turn_of c.args.setup.now in
    let law = c.machine_is_lawful.ensures.lawful in
    let counted = c.machine_is_lawful.ensures.counted in
    let exists = λ (b : ℕ) (h : b ≤ end_rank). c.reference_is_complete.ensures.exists (machine s) b law h in
    let one = c.reference_is_one.ensures.same (machine s) in
    let places = c.args.self.now.places.items in
    let numbers = c.args.self.now.numbers.items in
    let queue = c.requires.queue in
    subst (λ l. HasItsNumber l c.deref-2.result.now) (sym c.deref.ensures.value)
    (subst (λ l. HasItsNumber places l) (sym c.deref-2.ensures.value) (lined.numbered s law counted exists one places numbers queue))

pub turn-turn-requires-clause-there : goal.turn-turn-requires-clause-there
turn-turn-requires-clause-there g c κs inside =
    let s = system g.T.Turns.turn_of c.args.setup.now in
    let law = c.machine_is_lawful.ensures.lawful in
    let counted = c.machine_is_lawful.ensures.counted in
    let exists = λ (b : ℕ) (h : b ≤ end_rank). c.reference_is_complete.ensures.exists (machine s) b law h in
    let one = c.reference_is_one.ensures.same (machine s) in
    let places = c.args.self.now.places.items in
    let numbers = c.args.self.now.numbers.items in
    let queue = c.requires.queue in
    let key = c.in-Some.key in
    let first = c.in-Some.ensures ∙ ap (λ l. least_key l c.deref-2.result.now) c.deref.ensures.value ∙ ap (least_key places) c.deref-2.ensures.value in
    lined.key_is s law counted exists one places numbers queue key first

pub turn-turn-requires-clause-within : goal.turn-turn-requires-clause-within
turn-turn-requires-clause-within g c κs inside =
    let s = system g.T.Turns.turn_of c.args.setup.now in
    let law = c.machine_is_lawful.ensures.lawful in
    let counted = c.machine_is_lawful.ensures.counted in
    let exists = λ (b : ℕ) (h : b ≤ end_rank). c.reference_is_complete.ensures.exists (machine s) b law h in
    let one = c.reference_is_one.ensures.same (machine s) in
    let places = c.args.self.now.places.items in
    let numbers = c.args.self.now.numbers.items in
    let queue = c.requires.queue in
    let key = c.in-Some.key in
    let first = c.in-Some.ensures ∙ ap (λ l. least_key l c.deref-2.result.now) c.deref.ensures.value ∙ ap (least_key places) c.deref-2.ensures.value in
    lined.within s law counted exists one places numbers queue key first

pub reach_after-requires-clause-there : goal.reach_after-requires-clause-there
reach_after-requires-clause-there g c κs inside =
    let s = system g.T.Turns.turn_of c.args.setup.now in
    let law = c.machine_is_lawful.ensures.lawful in
    let counted = c.machine_is_lawful.ensures.counted in
    let exists = λ (b : ℕ) (h : b ≤ end_rank). c.reference_is_complete.ensures.exists (machine s) b law h in
    let one = c.reference_is_one.ensures.same (machine s) in
    let places = c.args.self.now.places.items in
    let numbers = c.args.self.now.numbers.items in
    let queue = c.requires.queue in
    let key = c.in-Some.key in
    let first = c.in-Some.ensures ∙ ap (λ l. least_key l c.deref-2.result.now) c.deref.ensures.value ∙ ap (least_key places) c.deref-2.ensures.value in
    lined.key_is s law counted exists one places numbers queue key first

pub reach_after-requires-clause-within : goal.reach_after-requires-clause-within
reach_after-requires-clause-within g c κs inside =
    let s = system g.T.Turns.turn_of c.args.setup.now in
    let law = c.machine_is_lawful.ensures.lawful in
    let counted = c.machine_is_lawful.ensures.counted in
    let exists = λ (b : ℕ) (h : b ≤ end_rank). c.reference_is_complete.ensures.exists (machine s) b law h in
    let one = c.reference_is_one.ensures.same (machine s) in
    let places = c.args.self.now.places.items in
    let numbers = c.args.self.now.numbers.items in
    let queue = c.requires.queue in
    let key = c.in-Some.key in
    let first = c.in-Some.ensures ∙ ap (λ l. least_key l c.deref-2.result.now) c.deref.ensures.value ∙ ap (least_key places) c.deref-2.ensures.value in
    lined.within s law counted exists one places numbers queue key first

pub move_on-requires-clause-within : goal.move_on-requires-clause-within
move_on-requires-clause-within g c =
    let s = system g.T.Turns.turn_of c.args.setup.now in
    let law = c.machine_is_lawful.ensures.lawful in
    let counted = c.machine_is_lawful.ensures.counted in
    let exists = λ (b : ℕ) (h : b ≤ end_rank). c.reference_is_complete.ensures.exists (machine s) b law h in
    let one = c.reference_is_one.ensures.same (machine s) in
    let places = c.args.self.now.places.items in
    let numbers = c.args.self.now.numbers.items in
    let queue = c.requires.queue in
    let key = c.in-Some.key in
    let first = c.in-Some.ensures ∙ ap (λ l. least_key l c.deref-2.result.now) c.deref.ensures.value ∙ ap (least_key places) c.deref-2.ensures.value in
    subst (λ l. key.component < length l) (sym c.deref_mut-2.ensures.value) (lined.numbers_within s law counted exists one places numbers queue key first)

pub returns-clause-lined : goal.returns-clause-lined
returns-clause-lined g c =
    let s = system g.T.Turns.turn_of c.args.setup.now in
    let law = c.machine_is_lawful.ensures.lawful in
    let counted = c.machine_is_lawful.ensures.counted in
    let exists = λ (b : ℕ) (h : b ≤ end_rank). c.reference_is_complete.ensures.exists (machine s) b law h in
    let one = c.reference_is_one.ensures.same (machine s) in
    let places = c.args.self.now.places.items in
    let numbers = c.args.self.now.numbers.items in
    let queue = c.requires.queue in
    let key = c.in-Some.key in
    let first = c.in-Some.ensures ∙ ap (λ l. least_key l c.deref-2.result.now) c.deref.ensures.value ∙ ap (least_key places) c.deref-2.ensures.value in
    let i = key.component in
    let next = c.in_ok-next.next in
    let fits = lined.fits s law counted exists one places numbers queue key first in
    let small = small_key s c.args.setup.now.in_range i (key.number + 1) fits next c.in_ok-next.ensures.key c.in_ok-next.ensures.small in
    let new = c.move_on.new.places in
    let moved = c.move_on.ensures in
    let were = c.deref_mut-2.ensures.value in
    let tournament = subst (λ (l : List ℕ). IsTournament (length l) new) were moved.tournament in
    let own = subst (λ (l : List ℕ). node new (length l + i) ≡ place_of next) were moved.own in
    let others = subst (λ (l : List ℕ). (k : ℕ) → k < length l → (k ≡ i → ⊥) → node new (length l + k) ≡ node places (length l + k)) were
    (subst (λ (l : List ℕ). (k : ℕ) → k < length c.deref_mut-2.result.now → (k ≡ i → ⊥) → node new (length c.deref_mut-2.result.now + k) ≡ node l (length c.deref_mut-2.result.now + k)) c.deref_mut.ensures.value moved.others) in
    let new_numbers = c.move_on.new.numbers in
    let counted_on = moved.numbers ∙ ap (λ l. slice_set l i (key.number + 1)) were in
    let places_are : (with_items c.args.self.now.places new).items ≡ new = with_items_is c.args.self.now.places new (moved.many ∙ c.deref_mut.ensures.len) in
    let numbers_are : (with_items c.args.self.now.numbers new_numbers).items ≡ new_numbers
    = with_items_is c.args.self.now.numbers new_numbers (ap length moved.numbers ∙ slice_set-length c.deref_mut-2.result.now i (key.number + 1) ∙ c.deref_mut-2.ensures.len) in
    record {
      queue = subst (λ (l : List ℕ). IsQueue s (length s.composition) (point (machine s) (least_rank l (with_items c.args.self.now.numbers new_numbers).items)).next l (with_items c.args.self.now.numbers new_numbers).items) (sym places_are)
          (subst (λ (l : List ℕ). IsQueue s (length s.composition) (point (machine s) (least_rank new l)).next new l) (sym numbers_are)
          (lined.queue_next s law counted exists one places numbers queue key first next c.in_ok-next.ensures.key small new tournament own others new_numbers counted_on));
      clocks = subst (λ (l : List ℕ). AreClocks g.T.Turns.turn_of c.args.setup.now l c.reach_after.new.self.clocks.items) (sym numbers_are)
          (subst (λ (l : List ℕ). AreClocks g.T.Turns.turn_of c.args.setup.now l c.reach_after.new.self.clocks.items) (ap (λ l. slice_set l i (key.number + 1)) c.deref-4.ensures.value ∙ sym counted_on) c.in_ok-next.ensures.reached);
    }

pub returns-clause-ok : goal.returns-clause-ok
returns-clause-ok g c =
    let s = system g.T.Turns.turn_of c.args.setup.now in
    let law = c.machine_is_lawful.ensures.lawful in
    let counted = c.machine_is_lawful.ensures.counted in
    let exists = λ (b : ℕ) (h : b ≤ end_rank). c.reference_is_complete.ensures.exists (machine s) b law h in
    let one = c.reference_is_one.ensures.same (machine s) in
    let places = c.args.self.now.places.items in
    let numbers = c.args.self.now.numbers.items in
    let queue = c.requires.queue in
    let key = c.in-Some.key in
    let first = c.in-Some.ensures ∙ ap (λ l. least_key l c.deref-2.result.now) c.deref.ensures.value ∙ ap (least_key places) c.deref-2.ensures.value in
    let i = key.component in
    let next = c.in_ok-next.next in
    let fits = lined.fits s law counted exists one places numbers queue key first in
    let small = small_key s c.args.setup.now.in_range i (key.number + 1) fits next c.in_ok-next.ensures.key c.in_ok-next.ensures.small in
    let new = c.move_on.new.places in
    let moved = c.move_on.ensures in
    let were = c.deref_mut-2.ensures.value in
    let tournament = subst (λ (l : List ℕ). IsTournament (length l) new) were moved.tournament in
    let own = subst (λ (l : List ℕ). node new (length l + i) ≡ place_of next) were moved.own in
    let others = subst (λ (l : List ℕ). (k : ℕ) → k < length l → (k ≡ i → ⊥) → node new (length l + k) ≡ node places (length l + k)) were
    (subst (λ (l : List ℕ). (k : ℕ) → k < length c.deref_mut-2.result.now → (k ≡ i → ⊥) → node new (length c.deref_mut-2.result.now + k) ≡ node l (length c.deref_mut-2.result.now + k)) c.deref_mut.ensures.value moved.others) in
    let new_numbers = c.move_on.new.numbers in
    let counted_on = moved.numbers ∙ ap (λ l. slice_set l i (key.number + 1)) were in
    let places_are : (with_items c.args.self.now.places new).items ≡ new = with_items_is c.args.self.now.places new (moved.many ∙ c.deref_mut.ensures.len) in
    let numbers_are : (with_items c.args.self.now.numbers new_numbers).items ≡ new_numbers
    = with_items_is c.args.self.now.numbers new_numbers (ap length moved.numbers ∙ slice_set-length c.deref_mut-2.result.now i (key.number + 1) ∙ c.deref_mut-2.ensures.len) in
    let drawn = c.turn-turn.result in (
      sym first,
      subst (λ (l : List ℕ). IsDue s (record { key = key; turn = drawn }) (least_key l (with_items c.args.self.now.numbers new_numbers).items)) (sym places_are)
          (subst (λ (l : List ℕ). IsDue s (record { key = key; turn = drawn }) (least_key new l)) (sym numbers_are)
          (lined.due s law counted exists one places numbers queue key first next c.in_ok-next.ensures.key small new tournament own others new_numbers counted_on drawn c.turn-turn.ensures)),
    )
