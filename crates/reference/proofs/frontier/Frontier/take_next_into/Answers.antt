use Rattle.std.proofs.Common.{◌≡◌, ℕ, ◌+◌, ◌<◌, ◌≤◌, List, ◌∷◌, length, refl, ap, sym, subst, ◌∙◌}
use Rattle.std.specs.Prelude.{slice_set}
use Rattle.std.specs.Vec.{with_items}
use Rattle.std.proofs.lemmas.List.{with_items_is}
use Rattle.undo_records.specs.States.{States}
use Rattle.virtual_time.specs.Reference.{point, after, IsNext}
use Rattle.task_seed.specs.Setups.{system}
use Rattle.task_seed.specs.Machines.{machine, end_rank}
use Rattle.reference.specs.Queues.{HasItsNumber, least_key, least_rank, place_of}
use Rattle.reference.specs.Standing.{IsAt, taken_at}
use Rattle.gvt.specs.Tournaments.{IsTournament, node}
use Rattle.reference.specs.Views.{IsComplete}
use Rattle.reference.proofs.Takers.{slice_set-length}
use Rattle.reference.proofs.Stepping.{ended, fits, key_is, key_small, next_turn, numbered, numbers_within, small_key, stepped, turn_is, whole_after, whole_here, within}
use Rattle.reference.proofs.frontier.Frontier.take_next_into.Goals as goal

pub least_key-requires : goal.least_key-requires
least_key-requires g c =
    let s = system g.T.Turns.turn_of c.args.setup.now in
    let law = c.machine_is_lawful.ensures.lawful in
    let counted = c.machine_is_lawful.ensures.counted in
    let exists = λ (b : ℕ) (h : b ≤ end_rank). c.reference_is_complete.ensures.exists (machine s) b law h in
    let one = c.reference_is_one.ensures.same (machine s) in
    let places = c.args.self.now.places.items in
    let numbers = c.args.self.now.numbers.items in
    let states = c.args.self.now.states.items in
    subst (λ l. HasItsNumber l c.deref-2.result.now) (sym c.deref.ensures.value)
    (subst (λ l. HasItsNumber places l) (sym c.deref-2.ensures.value) (numbered s law counted exists one places numbers states c.requires.stands))

pub returns-in_default-clause-ok : goal.returns-in_default-clause-ok
returns-in_default-clause-ok g c =
    let s = system g.T.Turns.turn_of c.args.setup.now in
    let law = c.machine_is_lawful.ensures.lawful in
    let counted = c.machine_is_lawful.ensures.counted in
    let exists = λ (b : ℕ) (h : b ≤ end_rank). c.reference_is_complete.ensures.exists (machine s) b law h in
    let one = c.reference_is_one.ensures.same (machine s) in
    let places = c.args.self.now.places.items in
    let numbers = c.args.self.now.numbers.items in
    let states = c.args.self.now.states.items in
    let none = c.in_default.ensures ∙ ap (λ l. least_key l c.deref-2.result.now) c.deref.ensures.value ∙ ap (least_key places) c.deref-2.ensures.value in
    (ended s law counted exists one places numbers states c.requires.stands none, refl)

pub returns-in_default-clause-whole : goal.returns-in_default-clause-whole
returns-in_default-clause-whole g c =
    let s = system g.T.Turns.turn_of c.args.setup.now in
    let law = c.machine_is_lawful.ensures.lawful in
    let counted = c.machine_is_lawful.ensures.counted in
    let exists = λ (b : ℕ) (h : b ≤ end_rank). c.reference_is_complete.ensures.exists (machine s) b law h in
    let one = c.reference_is_one.ensures.same (machine s) in
    let places = c.args.self.now.places.items in
    let numbers = c.args.self.now.numbers.items in
    let states = c.args.self.now.states.items in
    whole_here s law counted exists one places numbers states c.requires.stands

pub returns-in_default-reach_after-clause-whole : goal.returns-in_default-reach_after-clause-whole
returns-in_default-reach_after-clause-whole g c =
    let s = system g.T.Turns.turn_of c.args.setup.now in
    let law = c.machine_is_lawful.ensures.lawful in
    let counted = c.machine_is_lawful.ensures.counted in
    let exists = λ (b : ℕ) (h : b ≤ end_rank). c.reference_is_complete.ensures.exists (machine s) b law h in
    let one = c.reference_is_one.ensures.same (machine s) in
    let places = c.args.self.now.places.items in
    let numbers = c.args.self.now.numbers.items in
    let states = c.args.self.now.states.items in
    whole_here s law counted exists one places numbers states c.requires.stands

pub returns-in_err-take_turn-clause-whole : goal.returns-in_err-take_turn-clause-whole
returns-in_err-take_turn-clause-whole g c =
    let s = system g.T.Turns.turn_of c.args.setup.now in
    let law = c.machine_is_lawful.ensures.lawful in
    let counted = c.machine_is_lawful.ensures.counted in
    let exists = λ (b : ℕ) (h : b ≤ end_rank). c.reference_is_complete.ensures.exists (machine s) b law h in
    let one = c.reference_is_one.ensures.same (machine s) in
    let places = c.args.self.now.places.items in
    let numbers = c.args.self.now.numbers.items in
    let states = c.args.self.now.states.items in
    whole_here s law counted exists one places numbers states c.requires.stands

pub turn-turn-requires-clause-there : goal.turn-turn-requires-clause-there
turn-turn-requires-clause-there g c κs inside =
    let s = system g.T.Turns.turn_of c.args.setup.now in
    let law = c.machine_is_lawful.ensures.lawful in
    let counted = c.machine_is_lawful.ensures.counted in
    let exists = λ (b : ℕ) (h : b ≤ end_rank). c.reference_is_complete.ensures.exists (machine s) b law h in
    let one = c.reference_is_one.ensures.same (machine s) in
    let places = c.args.self.now.places.items in
    let numbers = c.args.self.now.numbers.items in
    let states = c.args.self.now.states.items in
    let key = c.in-Some.key in
    let first = c.in-Some.ensures ∙ ap (λ l. least_key l c.deref-2.result.now) c.deref.ensures.value ∙ ap (least_key places) c.deref-2.ensures.value in
    key_is s law counted exists one places numbers states c.requires.stands key first

pub turn-turn-requires-clause-within : goal.turn-turn-requires-clause-within
turn-turn-requires-clause-within g c κs inside =
    let s = system g.T.Turns.turn_of c.args.setup.now in
    let law = c.machine_is_lawful.ensures.lawful in
    let counted = c.machine_is_lawful.ensures.counted in
    let exists = λ (b : ℕ) (h : b ≤ end_rank). c.reference_is_complete.ensures.exists (machine s) b law h in
    let one = c.reference_is_one.ensures.same (machine s) in
    let places = c.args.self.now.places.items in
    let numbers = c.args.self.now.numbers.items in
    let states = c.args.self.now.states.items in
    let key = c.in-Some.key in
    let first = c.in-Some.ensures ∙ ap (λ l. least_key l c.deref-2.result.now) c.deref.ensures.value ∙ ap (least_key places) c.deref-2.ensures.value in
    within s law counted exists one places numbers states c.requires.stands key first

pub take_turn-requires-clause-within : goal.take_turn-requires-clause-within
take_turn-requires-clause-within g c κs inside =
    let s = system g.T.Turns.turn_of c.args.setup.now in
    let law = c.machine_is_lawful.ensures.lawful in
    let counted = c.machine_is_lawful.ensures.counted in
    let exists = λ (b : ℕ) (h : b ≤ end_rank). c.reference_is_complete.ensures.exists (machine s) b law h in
    let one = c.reference_is_one.ensures.same (machine s) in
    let places = c.args.self.now.places.items in
    let numbers = c.args.self.now.numbers.items in
    let states = c.args.self.now.states.items in
    let key = c.in-Some.key in
    let first = c.in-Some.ensures ∙ ap (λ l. least_key l c.deref-2.result.now) c.deref.ensures.value ∙ ap (least_key places) c.deref-2.ensures.value in
    within s law counted exists one places numbers states c.requires.stands key first

pub reach_after-requires-clause-there : goal.reach_after-requires-clause-there
reach_after-requires-clause-there g c κs inside =
    let s = system g.T.Turns.turn_of c.args.setup.now in
    let law = c.machine_is_lawful.ensures.lawful in
    let counted = c.machine_is_lawful.ensures.counted in
    let exists = λ (b : ℕ) (h : b ≤ end_rank). c.reference_is_complete.ensures.exists (machine s) b law h in
    let one = c.reference_is_one.ensures.same (machine s) in
    let places = c.args.self.now.places.items in
    let numbers = c.args.self.now.numbers.items in
    let states = c.args.self.now.states.items in
    let key = c.in-Some.key in
    let first = c.in-Some.ensures ∙ ap (λ l. least_key l c.deref-2.result.now) c.deref.ensures.value ∙ ap (least_key places) c.deref-2.ensures.value in
    key_is s law counted exists one places numbers states c.requires.stands key first

pub reach_after-requires-clause-small : goal.reach_after-requires-clause-small
reach_after-requires-clause-small g c κs inside =
    let s = system g.T.Turns.turn_of c.args.setup.now in
    let law = c.machine_is_lawful.ensures.lawful in
    let counted = c.machine_is_lawful.ensures.counted in
    let exists = λ (b : ℕ) (h : b ≤ end_rank). c.reference_is_complete.ensures.exists (machine s) b law h in
    let one = c.reference_is_one.ensures.same (machine s) in
    let places = c.args.self.now.places.items in
    let numbers = c.args.self.now.numbers.items in
    let states = c.args.self.now.states.items in
    let key = c.in-Some.key in
    let first = c.in-Some.ensures ∙ ap (λ l. least_key l c.deref-2.result.now) c.deref.ensures.value ∙ ap (least_key places) c.deref-2.ensures.value in
    key_small s law counted exists one places numbers states c.requires.stands key first

pub reach_after-requires-clause-within : goal.reach_after-requires-clause-within
reach_after-requires-clause-within g c κs inside =
    let s = system g.T.Turns.turn_of c.args.setup.now in
    let law = c.machine_is_lawful.ensures.lawful in
    let counted = c.machine_is_lawful.ensures.counted in
    let exists = λ (b : ℕ) (h : b ≤ end_rank). c.reference_is_complete.ensures.exists (machine s) b law h in
    let one = c.reference_is_one.ensures.same (machine s) in
    let places = c.args.self.now.places.items in
    let numbers = c.args.self.now.numbers.items in
    let states = c.args.self.now.states.items in
    let key = c.in-Some.key in
    let first = c.in-Some.ensures ∙ ap (λ l. least_key l c.deref-2.result.now) c.deref.ensures.value ∙ ap (least_key places) c.deref-2.ensures.value in
    within s law counted exists one places numbers states c.requires.stands key first

pub move_on-requires-clause-within : goal.move_on-requires-clause-within
move_on-requires-clause-within g c =
    let s = system g.T.Turns.turn_of c.args.setup.now in
    let law = c.machine_is_lawful.ensures.lawful in
    let counted = c.machine_is_lawful.ensures.counted in
    let exists = λ (b : ℕ) (h : b ≤ end_rank). c.reference_is_complete.ensures.exists (machine s) b law h in
    let one = c.reference_is_one.ensures.same (machine s) in
    let places = c.args.self.now.places.items in
    let numbers = c.args.self.now.numbers.items in
    let states = c.args.self.now.states.items in
    let key = c.in-Some.key in
    let first = c.in-Some.ensures ∙ ap (λ l. least_key l c.deref-2.result.now) c.deref.ensures.value ∙ ap (least_key places) c.deref-2.ensures.value in
    subst (λ l. key.component < length l) (sym c.deref_mut-4.ensures.value) (numbers_within s law counted exists one places numbers states c.requires.stands key first)

pub move_on-requires-clause-fits : goal.move_on-requires-clause-fits
move_on-requires-clause-fits g c =
    let s = system g.T.Turns.turn_of c.args.setup.now in
    let law = c.machine_is_lawful.ensures.lawful in
    let counted = c.machine_is_lawful.ensures.counted in
    let exists = λ (b : ℕ) (h : b ≤ end_rank). c.reference_is_complete.ensures.exists (machine s) b law h in
    let one = c.reference_is_one.ensures.same (machine s) in
    let places = c.args.self.now.places.items in
    let numbers = c.args.self.now.numbers.items in
    let states = c.args.self.now.states.items in
    let key = c.in-Some.key in
    let first = c.in-Some.ensures ∙ ap (λ l. least_key l c.deref-2.result.now) c.deref.ensures.value ∙ ap (least_key places) c.deref-2.ensures.value in
    key_small s law counted exists one places numbers states c.requires.stands key first

pub returns-clause-stands : goal.returns-clause-stands
returns-clause-stands g c =
    let s = system g.T.Turns.turn_of c.args.setup.now in
    let law = c.machine_is_lawful.ensures.lawful in
    let counted = c.machine_is_lawful.ensures.counted in
    let exists = λ (b : ℕ) (h : b ≤ end_rank). c.reference_is_complete.ensures.exists (machine s) b law h in
    let one = c.reference_is_one.ensures.same (machine s) in
    let places = c.args.self.now.places.items in
    let numbers = c.args.self.now.numbers.items in
    let states = c.args.self.now.states.items in
    let key = c.in-Some.key in
    let first = c.in-Some.ensures ∙ ap (λ l. least_key l c.deref-2.result.now) c.deref.ensures.value ∙ ap (least_key places) c.deref-2.ensures.value in
    let i = key.component in
    let here = c.deref_mut.result.now in
    let found = c.take_turn.new.found in
    let stands = subst (λ l. IsAt s (point (machine s) (least_rank places numbers)) places numbers l) (sym c.deref_mut.ensures.value) c.requires.stands in
    let came = c.in_ok-take_turn.ensures.found in
    let next = c.in-Ok.next in
    let small = small_key s c.args.setup.now.in_range i (key.number + 1) (fits s law counted exists one places numbers here stands key first) next c.in-Ok.ensures.key c.in-Ok.ensures.small in
    let new = c.move_on.new.places in
    let moved = c.move_on.ensures in
    let tournament = subst (λ (l : List ℕ). IsTournament (length l) new) c.deref_mut-4.ensures.value moved.tournament in
    let own = subst (λ (l : List ℕ). node new (length l + i) ≡ place_of next) c.deref_mut-4.ensures.value moved.own in
    let others = subst (λ (l : List ℕ). (k : ℕ) → k < length l → (k ≡ i → ⊥) → node new (length l + k) ≡ node places (length l + k)) c.deref_mut-4.ensures.value
    (subst (λ (l : List ℕ). (k : ℕ) → k < length c.deref_mut-4.result.now → (k ≡ i → ⊥) → node new (length c.deref_mut-4.result.now + k) ≡ node l (length c.deref_mut-4.result.now + k)) c.deref_mut-3.ensures.value moved.others) in
    let new_numbers = c.move_on.new.numbers in
    let counted_on = moved.numbers ∙ ap (λ l. slice_set l i (key.number + 1)) c.deref_mut-4.ensures.value in
    let news = c.take_turn.new.states in
    let places_are : (with_items c.args.self.now.places new).items ≡ new = with_items_is c.args.self.now.places new (moved.many ∙ c.deref_mut-3.ensures.len) in
    let numbers_are : (with_items c.args.self.now.numbers new_numbers).items ≡ new_numbers
    = with_items_is c.args.self.now.numbers new_numbers (ap length moved.numbers ∙ slice_set-length c.deref_mut-4.result.now i (key.number + 1) ∙ c.deref_mut-4.ensures.len) in
    let states_are : (with_items c.args.self.now.states news).items ≡ news = with_items_is c.args.self.now.states news (c.in_ok-take_turn.ensures.many ∙ c.deref_mut.ensures.len) in
    subst (λ (l : List States). IsAt s (point (machine s) (least_rank (with_items c.args.self.now.places new).items (with_items c.args.self.now.numbers new_numbers).items)) (with_items c.args.self.now.places new).items (with_items c.args.self.now.numbers new_numbers).items l) (sym states_are)
    (subst (λ (l : List ℕ). IsAt s (point (machine s) (least_rank l (with_items c.args.self.now.numbers new_numbers).items)) l (with_items c.args.self.now.numbers new_numbers).items news) (sym places_are)
    (subst (λ (l : List ℕ). IsAt s (point (machine s) (least_rank new l)) new l news) (sym numbers_are)
    (stepped s law counted exists one places numbers here stands key first found came next c.in-Ok.ensures.key small new tournament own others new_numbers counted_on news c.in_ok-take_turn.ensures.many c.in_ok-take_turn.ensures.states).stands))

pub returns-clause-whole : goal.returns-clause-whole
returns-clause-whole g c =
    let s = system g.T.Turns.turn_of c.args.setup.now in
    let law = c.machine_is_lawful.ensures.lawful in
    let counted = c.machine_is_lawful.ensures.counted in
    let exists = λ (b : ℕ) (h : b ≤ end_rank). c.reference_is_complete.ensures.exists (machine s) b law h in
    let one = c.reference_is_one.ensures.same (machine s) in
    let places = c.args.self.now.places.items in
    let numbers = c.args.self.now.numbers.items in
    let states = c.args.self.now.states.items in
    let key = c.in-Some.key in
    let first = c.in-Some.ensures ∙ ap (λ l. least_key l c.deref-2.result.now) c.deref.ensures.value ∙ ap (least_key places) c.deref-2.ensures.value in
    let i = key.component in
    let here = c.deref_mut.result.now in
    let found = c.take_turn.new.found in
    let stands = subst (λ l. IsAt s (point (machine s) (least_rank places numbers)) places numbers l) (sym c.deref_mut.ensures.value) c.requires.stands in
    let came = c.in_ok-take_turn.ensures.found in
    let next = c.in-Ok.next in
    let small = small_key s c.args.setup.now.in_range i (key.number + 1) (fits s law counted exists one places numbers here stands key first) next c.in-Ok.ensures.key c.in-Ok.ensures.small in
    let new = c.move_on.new.places in
    let moved = c.move_on.ensures in
    let tournament = subst (λ (l : List ℕ). IsTournament (length l) new) c.deref_mut-4.ensures.value moved.tournament in
    let own = subst (λ (l : List ℕ). node new (length l + i) ≡ place_of next) c.deref_mut-4.ensures.value moved.own in
    let others = subst (λ (l : List ℕ). (k : ℕ) → k < length l → (k ≡ i → ⊥) → node new (length l + k) ≡ node places (length l + k)) c.deref_mut-4.ensures.value
    (subst (λ (l : List ℕ). (k : ℕ) → k < length c.deref_mut-4.result.now → (k ≡ i → ⊥) → node new (length c.deref_mut-4.result.now + k) ≡ node l (length c.deref_mut-4.result.now + k)) c.deref_mut-3.ensures.value moved.others) in
    let new_numbers = c.move_on.new.numbers in
    let counted_on = moved.numbers ∙ ap (λ l. slice_set l i (key.number + 1)) c.deref_mut-4.ensures.value in
    let news = c.take_turn.new.states in
    let places_are : (with_items c.args.self.now.places new).items ≡ new = with_items_is c.args.self.now.places new (moved.many ∙ c.deref_mut-3.ensures.len) in
    let numbers_are : (with_items c.args.self.now.numbers new_numbers).items ≡ new_numbers
    = with_items_is c.args.self.now.numbers new_numbers (ap length moved.numbers ∙ slice_set-length c.deref_mut-4.result.now i (key.number + 1) ∙ c.deref_mut-4.ensures.len) in
    let states_are : (with_items c.args.self.now.states news).items ≡ news = with_items_is c.args.self.now.states news (c.in_ok-take_turn.ensures.many ∙ c.deref_mut.ensures.len) in
    subst (λ (l : List ℕ). IsComplete (machine s) (taken_at s l (with_items c.args.self.now.numbers new_numbers).items)) (sym places_are)
    (subst (λ (l : List ℕ). IsComplete (machine s) (taken_at s new l)) (sym numbers_are)
    (whole_after s law counted exists one places numbers here stands key first found came next c.in-Ok.ensures.key small new tournament own others new_numbers counted_on))

pub returns-clause-ok : goal.returns-clause-ok
returns-clause-ok g c =
    let s = system g.T.Turns.turn_of c.args.setup.now in
    let law = c.machine_is_lawful.ensures.lawful in
    let counted = c.machine_is_lawful.ensures.counted in
    let exists = λ (b : ℕ) (h : b ≤ end_rank). c.reference_is_complete.ensures.exists (machine s) b law h in
    let one = c.reference_is_one.ensures.same (machine s) in
    let places = c.args.self.now.places.items in
    let numbers = c.args.self.now.numbers.items in
    let states = c.args.self.now.states.items in
    let key = c.in-Some.key in
    let first = c.in-Some.ensures ∙ ap (λ l. least_key l c.deref-2.result.now) c.deref.ensures.value ∙ ap (least_key places) c.deref-2.ensures.value in
    let i = key.component in
    let here = c.deref_mut.result.now in
    let found = c.take_turn.new.found in
    let stands = subst (λ l. IsAt s (point (machine s) (least_rank places numbers)) places numbers l) (sym c.deref_mut.ensures.value) c.requires.stands in
    let came = c.in_ok-take_turn.ensures.found in
    let next = c.in-Ok.next in
    let small = small_key s c.args.setup.now.in_range i (key.number + 1) (fits s law counted exists one places numbers here stands key first) next c.in-Ok.ensures.key c.in-Ok.ensures.small in
    let new = c.move_on.new.places in
    let moved = c.move_on.ensures in
    let tournament = subst (λ (l : List ℕ). IsTournament (length l) new) c.deref_mut-4.ensures.value moved.tournament in
    let own = subst (λ (l : List ℕ). node new (length l + i) ≡ place_of next) c.deref_mut-4.ensures.value moved.own in
    let others = subst (λ (l : List ℕ). (k : ℕ) → k < length l → (k ≡ i → ⊥) → node new (length l + k) ≡ node places (length l + k)) c.deref_mut-4.ensures.value
    (subst (λ (l : List ℕ). (k : ℕ) → k < length c.deref_mut-4.result.now → (k ≡ i → ⊥) → node new (length c.deref_mut-4.result.now + k) ≡ node l (length c.deref_mut-4.result.now + k)) c.deref_mut-3.ensures.value moved.others) in
    let new_numbers = c.move_on.new.numbers in
    let counted_on = moved.numbers ∙ ap (λ l. slice_set l i (key.number + 1)) c.deref_mut-4.ensures.value in
    let news = c.take_turn.new.states in
    let places_are : (with_items c.args.self.now.places new).items ≡ new = with_items_is c.args.self.now.places new (moved.many ∙ c.deref_mut-3.ensures.len) in
    let numbers_are : (with_items c.args.self.now.numbers new_numbers).items ≡ new_numbers
    = with_items_is c.args.self.now.numbers new_numbers (ap length moved.numbers ∙ slice_set-length c.deref_mut-4.result.now i (key.number + 1) ∙ c.deref_mut-4.ensures.len) in
    let states_are : (with_items c.args.self.now.states news).items ≡ news = with_items_is c.args.self.now.states news (c.in_ok-take_turn.ensures.many ∙ c.deref_mut.ensures.len) in (
      subst (λ t. IsNext (machine s) (after (machine s) (taken_at s places numbers)) t) (sym (turn_is found key)) (next_turn s law counted exists one places numbers here stands key first found came),
      ap (λ l. taken_at s l (with_items c.args.self.now.numbers new_numbers).items) places_are ∙ ap (taken_at s new) numbers_are
          ∙ (stepped s law counted exists one places numbers here stands key first found came next c.in-Ok.ensures.key small new tournament own others new_numbers counted_on news c.in_ok-take_turn.ensures.many c.in_ok-take_turn.ensures.states).taken
          ∙ ap (λ t. t ∷ taken_at s places numbers) (sym (turn_is found key)),
    )
