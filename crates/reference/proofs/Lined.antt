-- Turns that are drawn from the queue of next keys.
use Rattle.std.proofs.Common.{◌≡◌, ℕ, ◌+◌, ◌<◌, ◌≤◌, Option, None, Some, List, [], ◌∷◌, length, map, refl, ap, sym, subst, ◌∙◌}
use Rattle.std.specs.Prelude.{IfSome, slice_get, slice_set, replicate}
use Rattle.std.specs.List.{range_with_len}
use Rattle.std.proofs.lemmas.List.FromFn.{length-map-range_with_len}
use Rattle.terms.specs.Datum.{Datum}
use Rattle.terms.specs.Named.{Named}
use Rattle.event_keys.specs.declared.key.Key.{Key}
use Rattle.event_keys.specs.Ranks.{rank}
use Rattle.undo_records.specs.States.{States}
use Rattle.virtual_time.specs.Machine.{Lawful, HasCount}
use Rattle.virtual_time.specs.Reference.{Turn, Point, IsReference, after, point, reference_below}
use Rattle.io_automata.specs.Steps.{start_of}
use Rattle.task_seed.specs.declared.turns.Turn.{Turn as Drawn}
use Rattle.task_seed.specs.Turning.{System, key_of, turn_in}
use Rattle.task_seed.specs.Machines.{machine, turn_outcome, end_rank}
use Rattle.reference.specs.declared.agenda.Due.{Due}
use Rattle.reference.specs.Agendas.{IsDue}
use Rattle.reference.specs.Queues.{ArePlaced, HasItsNumber, IsQueue, IsSmall, least_key, least_rank, place_of}
use Rattle.reference.specs.Standing.{IsBeforeLeast}
use Rattle.reference.specs.Taking.{plain}
use Rattle.gvt.specs.Tournaments.{IsTournament, node}
use Rattle.reference.proofs.Stepping as step

module _ (s : System) (law : Lawful (machine s)) (counted : HasCount (machine s) (length s.composition))
    (exists : (b : ℕ) → b ≤ end_rank → IsReference (machine s) b (reference_below (machine s) b))
    (one : (b : ℕ) (turns later : List (Turn Named)) → IsReference (machine s) b turns → IsReference (machine s) b later → turns ≡ later) where
  -- no turn comes before the first
  pub none_before : (places numbers : List ℕ) → ArePlaced s (length s.composition) (length s.composition) (λ j. 0) places → numbers ≡ replicate (length s.composition) 0
      → (reference_below (machine s) (least_rank places numbers) ≡ []) × IsQueue s (length s.composition) (point (machine s) (least_rank places numbers)).next places numbers
  none_before places numbers are zeros =
      let found = step.start_found s law counted exists one places numbers (map (λ i. plain (start_of s.composition i)) (range_with_len 0 (length s.composition)))
      (step.start_at s places numbers (map (λ i. plain (start_of s.composition i)) (range_with_len 0 (length s.composition))) are zeros refl) in
      (found.taken, found.stands.queue)

  module _ (places numbers : List ℕ) (queue : IsQueue s (length s.composition) (point (machine s) (least_rank places numbers)).next places numbers) where
    abbrev p : Point (List Datum)
    p = point (machine s) (least_rank places numbers)

    -- the states of the components there, which an agenda doesn't have
    abbrev ghosts : List States
    ghosts = map (λ j. plain (p.state j)) (range_with_len 0 (length s.composition))

    stands : IsBeforeLeast s places numbers ghosts
    stands = record {
      queue = queue;
      states_many = length-map-range_with_len (λ j. plain (p.state j)) 0 (length s.composition);
      currents = λ j x e. step.at_range (λ k. plain (p.state k)) (length s.composition) j x e;
    }

    pub numbered : HasItsNumber places numbers
    numbered = step.numbered s law counted exists one places numbers ghosts stands

    module _ (key : Key) (is_first : Some key ≡ least_key places numbers) where
      pub key_is : Some key ≡ key_of s key.component key.number
      key_is = step.key_is s law counted exists one places numbers ghosts stands key is_first

      pub within : key.component < length s.composition
      within = step.within s law counted exists one places numbers ghosts stands key is_first

      pub fits : key.component < 65536
      fits = step.fits s law counted exists one places numbers ghosts stands key is_first

      pub key_small : key.number < 4294967296
      key_small = step.key_small s law counted exists one places numbers ghosts stands key is_first

      pub numbers_within : key.component < length numbers
      numbers_within = step.numbers_within s law counted exists one places numbers ghosts stands key is_first

      pub number_is : key.number ≡ p.next key.component
      number_is = step.number_is s law counted exists one places numbers ghosts stands key is_first

      abbrev o : Option Named
      o = turn_outcome s key.component key.number (p.state key.component)

      came : (x : Option States) → slice_get ghosts key.component ≡ x → IfSome x (λ state. o ≡ turn_outcome s key.component key.number state.current)
      came None e = tt
      came (Some state) e = ap (λ (x : States). turn_outcome s key.component key.number x.current) (sym (step.at_range (λ k. plain (p.state k)) (length s.composition) key.component state e))

      module _ (follower : Option Key) (follower_is : follower ≡ key_of s key.component (key.number + 1)) (follower_small : IfSome follower IsSmall)
          (new : List ℕ) (is_tournament : IsTournament (length numbers) new) (own : node new (length numbers + key.component) ≡ place_of follower)
          (others : (k : ℕ) → k < length numbers → (k ≡ key.component → ⊥) → node new (length numbers + k) ≡ node places (length numbers + k))
          (new_numbers : List ℕ) (counted_on : new_numbers ≡ slice_set numbers key.component (key.number + 1)) where
        advanced : reference_below (machine s) (least_rank new new_numbers) ≡ step.turn_at key o ∷ reference_below (machine s) (least_rank places numbers)
        advanced =
            step.advanced s law counted exists one places numbers ghosts stands key is_first o (came (slice_get ghosts key.component) refl)
            follower follower_is follower_small new is_tournament own others new_numbers counted_on

        queue_after : IsQueue s (length s.composition) (after (machine s) (step.turn_at key o ∷ reference_below (machine s) (least_rank places numbers))).next new new_numbers
        queue_after =
            step.queue_after s law counted exists one places numbers ghosts stands key is_first o (came (slice_get ghosts key.component) refl)
            follower follower_is follower_small new is_tournament own others new_numbers counted_on

        -- the queue is one before its least key again
        pub queue_next : IsQueue s (length s.composition) (point (machine s) (least_rank new new_numbers)).next new new_numbers
        queue_next = subst (λ ts. IsQueue s (length s.composition) (after (machine s) ts).next new new_numbers) (sym advanced) queue_after

        -- the turn of the key is due
        pub due : (turn : Drawn) → Some turn ≡ turn_in s key.component key.number → IsDue s (record { key = key; turn = turn }) (least_key new new_numbers)
        due turn drawn =
            let least : rank key ≡ least_rank places numbers = step.is_least s law counted exists one places numbers ghosts stands key is_first in record {
              small = (step.first s law counted exists one places numbers ghosts stands key is_first).small;
              within = within;
              number = subst (λ b. key.number ≡ (point (machine s) b).next key.component) (sym least) number_is;
              turn = drawn;
              outcome = o;
              comes = advanced ∙ ap (λ b. step.turn_at key o ∷ reference_below (machine s) b) (sym least) ∙ ap (λ t. t ∷ reference_below (machine s) (rank key)) (sym (step.turn_is o key));
              low = step.least_end s law counted (point (machine s) (least_rank new new_numbers)) new new_numbers queue_next;
            }
