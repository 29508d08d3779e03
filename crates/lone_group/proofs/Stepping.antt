-- What a group of all components took, turn by turn, and where it stands.
use Rattle.std.proofs.Common.{◌≡◌, ℕ, ◌+◌, ◌<◌, ◌≤◌, ◌^◌, ◌⊎◌, inl, inr, Option, List, [], ◌∷◌, ◌++◌, drop, length, map, take, refl, ap, sym, ◌∙◌, arith, length-append}
use Rattle.std.specs.Prelude.{Result, Ok, Err, OnOk, slice_set}
use Rattle.std.proofs.lemmas.List.{append_assoc, append-nil, drop-drop, get_or-set_same, length-drop, length-map, length-set, length-take-le, map-append, take-set, take_more}
use Rattle.std.proofs.Math.ListN.{drop_of_length-le}
use Rattle.std.proofs.lemmas.Bool.{cases_lt}
use Rattle.terms.specs.Datum.{Datum}
use Rattle.terms.specs.Named.{Named}
use Rattle.virtual_time.specs.Machine.{Machine}
use Rattle.reference.specs.Agendas.{HasCome}
use Rattle.event_keys.specs.declared.key.Key.{Key}
use Rattle.event_keys.specs.declared.outcome.Turned.{Turned}
use Rattle.event_keys.specs.Ranks.{rank}
use Rattle.virtual_time.specs.Reference.{reference_below}
use Rattle.task_seed.specs.Machines.{machine, end_rank}
use Rattle.task_seed.specs.Taken.{turn_of, turned_of, turns_of}
use Rattle.task_seed.specs.Turning.{System}
use Rattle.schedules.proofs.Told.{turns_joined}
use Rattle.reference.specs.declared.agenda.Due.{Due}
use Rattle.reference.specs.Queues.{rank_or_end}
use Rattle.lone_group.specs.declared.batch.Slot.{Slot}
use Rattle.lone_group.specs.Drawn.{first_of}
use Rattle.lone_group.specs.Held.{IsHeld}
use Rattle.lone_group.specs.Lone.{Alone, IsAhead, turned, turns_in}
use Rattle.lone_group.specs.Taken.{IsIn}
use Rattle.lone_group.proofs.Counting.{length_turns}

-- where some are left, there are some
pub some_left : {X : Type 0} (xs : List X) (n : ℕ) → n < length xs → drop n xs ≡ [] → ⊥
some_left xs n more none = let long = length-drop n xs in let empty : length (drop n xs) ≡ 0 = ap length none in absurd (omega (arith, more, long, empty))

pub left_some : {X : Type 0} (xs : List X) (n : ℕ) → (drop n xs ≡ [] → ⊥) → n < length xs
left_some xs n some = go (cases_lt n (length xs))
  where
    go : (n < length xs) ⊎ (length xs ≤ n) → n < length xs
    go (inl more) = more
    go (inr past) = absurd (some (drop_of_length-le xs past))

pub on_ok : {A E P Q : Type 0} (r : Result A E) → (P → Q) → OnOk r P → OnOk r Q
on_ok (Ok a) f p = f p
on_ok (Err e) f p = tt

-- the turn stands in the first slot that wasn't used
pub put_in : {m : Machine (List Datum) Named} (key : Key) (next : Option Key) (used : ℕ) (olds slots : List Slot) (found : Option Named) → used < length slots → turns_in used slots ≡ turns_in used olds
    → HasCome m key found next → IsIn m key next used olds (slice_set slots used (record { key = key; found = found }))
put_in key next used olds slots found room same comes =
    let slot : Slot = record { key = key; found = found } in
    let news = slice_set slots used slot in
    let long = length-set slots used slot in
    let within : used < length news = omega (arith, room, long) in
    let last : take (used + 1) news ≡ take used slots ++ slot ∷ []
    = take_more news used slot within ∙ ap (λ x. take used news ++ x ∷ []) (get_or-set_same slots used slot slot room) ∙ ap (λ l. l ++ slot ∷ []) (take-set slots used slot) in
    record {
      outcome = found;
      comes = comes;
      turns = ap (map turned) last ∙ map-append turned (take used slots) (slot ∷ []) ∙ ap (λ l. l ++ turned_of found key ∷ []) same;
      room = omega (arith, within);
    }

pub many_in : (used : ℕ) (slots : List Slot) → used ≤ length slots → length (turns_in used slots) ≡ used
many_in used slots room = length-map (take used slots) turned ∙ length-take-le used slots room

module _ (s : System) where
  pub held_first : (next : Option Key) (slots : List Slot) → rank_or_end next ≤ end_rank → reference_below (machine s) (rank_or_end next) ≡ [] → IsHeld s next [] next 0 0 slots
  held_first next slots low none = record {
    starts = refl;
    due_is = tt;
    part = record { within = low; old = 0; before = refl; next = none };
    room = omega arith;
  }

  -- the turn that is due was taken
  pub held_next : (d : Due) (later : List Due) (next until : Option Key) (first used : ℕ) (olds news : List Slot) → IsHeld s next (d ∷ later) until first used olds
      → IsIn (machine s) d.key (first_of later until) used olds news → IsHeld s (first_of later until) later until first (used + 1) news
  held_next d later next until first used olds news h is =
      let p = h.part in
      let m = machine s in
      let turns = turns_in used olds in
      let t = turned_of is.outcome d.key in
      let before : reference_below m (rank d.key) ≡ turns_of turns ++ reference_below m p.old = ap (λ k. reference_below m (rank_or_end k)) (sym h.starts) ∙ p.next in record {
        starts = refl;
        due_is = h.due_is.1;
        part = record {
          within = h.due_is.0.low;
          old = p.old;
          before = p.before;
          next = is.comes ∙ ap (λ ts. turn_of t ∷ ts) before ∙ ap (λ ts. ts ++ reference_below m p.old) (sym (turns_joined turns (t ∷ []))) ∙ ap (λ ts. turns_of ts ++ reference_below m p.old) (sym is.turns);
        };
        room = is.room;
      }

  -- it is as it was
  pub held_same : (next : Option Key) (due : List Due) (until : Option Key) (first used : ℕ) (olds news : List Slot) → turns_in used news ≡ turns_in used olds → used ≤ length news → IsHeld s next due until first used olds
      → IsHeld s next due until first used news
  held_same next due until first used olds news same room h =
      let p = h.part in record {
        starts = h.starts;
        due_is = h.due_is;
        part = record { within = p.within; old = p.old; before = p.before; next = p.next ∙ ap (λ ts. turns_of ts ++ reference_below (machine s) p.old) (sym same) };
        room = room;
      }

  given_is : (next : Option Key) (due : List Due) (until : Option Key) (first used : ℕ) (slots : List Slot) → IsHeld s next due until first used slots → first + used ≡ length (reference_below (machine s) (rank_or_end next))
  given_is next due until first used slots h =
      let p = h.part in
      let long = length-append (turns_of (turns_in used slots)) (reference_below (machine s) p.old) in
      let turns = length_turns (turns_in used slots) in
      let many = many_in used slots h.room in
      let before = p.before in
      let next = ap length p.next in
      omega (arith, long, turns, many, before, next)

  pub held_given : (next : Option Key) (due : List Due) (until : Option Key) (first used given : ℕ) (slots spare : List Slot) → given ≡ first + used → IsHeld s next due until first used slots → IsHeld s next due until given 0 spare
  held_given next due until first used given slots spare is h =
      let p = h.part in record {
        starts = h.starts;
        due_is = h.due_is;
        part = record { within = p.within; old = rank_or_end next; before = is ∙ given_is next due until first used slots h; next = refl };
        room = omega arith;
      }

  pub given_few : (next : Option Key) (due : List Due) (until : Option Key) (first used : ℕ) (slots : List Slot) → IsHeld s next due until first used slots → length (reference_below (machine s) (rank_or_end next)) < 2 ^ 64 → first + used < 2 ^ 64
  given_few next due until first used slots h low = let is = given_is next due until first used slots h in omega (arith, is, low)

module _ {P : Type 0} where
  pub ahead_none : (l : Alone P) → IsAhead l l 0
  ahead_none l = record { more = []; many = refl; becomes = ap (λ (ts : List Turned). record l { turns = ts }) (sym (append-nil l.turns)) }

  -- one more
  pub ahead_one : (old mid new : Alone P) (count : ℕ) → IsAhead old mid count → IsAhead mid new 1 → IsAhead old new (count + 1)
  ahead_one old mid new count h is =
      let one : Alone P → Alone P = λ l. record l { next = new.next; due = drop 1 l.due; turns = l.turns ++ is.more } in record {
        more = h.more ++ is.more;
        many = length-append h.more is.more ∙ (let m = h.many in let n = is.many in omega (arith, m, n));
        becomes = is.becomes ∙ ap one h.becomes ∙ ap (λ ds. record old { next = new.next; due = ds; turns = (old.turns ++ h.more) ++ is.more }) (drop-drop 1 count old.due)
            ∙ ap (λ us. record old { next = new.next; due = drop (count + 1) old.due; turns = us }) (append_assoc old.turns h.more is.more);
      }
