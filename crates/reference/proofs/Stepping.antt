-- The turn with the least key is the simulator's next one, and where it stands after that.
use Rattle.std.proofs.Common.{◌≡◌, ℕ, suc, ◌+◌, ◌<◌, ◌≤◌, ◌^◌, ◌⊎◌, inl, inr, Option, None, Some, List, [], ◌∷◌, length, map, refl, ap, sym, subst, ◌∙◌, arith}
use Rattle.std.specs.Prelude.{cond, replicate, slice_get, slice_index_or, slice_set, option_map, IfSome}
use Rattle.std.specs.List.{range_with_len}
use Rattle.std.proofs.lemmas.List.FromFn.{get_or-map-range_with_len, length-map-range_with_len}
use Rattle.std.proofs.lemmas.Bool.{cases_eq, cases_lt, eq-eqb, ne_eqb}
use Rattle.std.proofs.lemmas.Option.{slice_get-get_or, slice_get_within}
use Rattle.terms.specs.Datum.{Datum}
use Rattle.terms.specs.Named.{Named}
use Rattle.event_keys.specs.declared.key.Key.{Key}
use Rattle.event_keys.specs.Ranked.{rank_owner}
use Rattle.event_keys.specs.Ranks.{rank, owner_of}
use Rattle.undo_records.specs.States.{States}
use Rattle.virtual_time.specs.Machine.{Lawful, HasCount}
use Rattle.virtual_time.specs.Reference.{Turn, Point, AllBelow, IsNext, IsReference, joint, advance, after, point, reference_below}
use Rattle.io_automata.specs.Steps.{start_of}
use Rattle.task_seed.specs.Ticks.{reaches_key}
use Rattle.task_seed.specs.Turning.{System, key_of}
use Rattle.task_seed.specs.Taken.{turn_of, turned_of}
use Rattle.task_seed.specs.Machines.{machine, turn_rank, turn_outcome, end_rank}
use Rattle.reference.specs.Queues.{ArePlaced, HasItsNumber, IsQueue, IsSmall, least_key, least_rank, place_of, rank_or_end}
use Rattle.reference.specs.Taking.{plain, joining}
use Rattle.gvt.specs.Tournaments.{IsTournament, node}
use Rattle.reference.specs.Standing.{IsAt, IsBeforeLeast, taken_at}
use Rattle.reference.specs.Views.{IsComplete, Ran}
use Rattle.reference.proofs.Queued.{IsFirst, first_queue, has_number, key_there, least_low, led, ranked, refilled}

pub end_is : end_rank ≡ 2 ^ 144
unfolding end_rank
end_is = refl

all_below_more : {A : Type 0} (a b : ℕ) → a ≤ b → (ts : List (Turn A)) → AllBelow a ts → AllBelow b ts
all_below_more a b h [] all = tt
all_below_more a b h (t ∷ ts) all = let first = all.0 in (omega (arith, h, first), all_below_more a b h ts all.1)

-- a setup and turns, seen as one value
abbrev pub seen : {P : Type 0} → P → List (Turn Named) → Ran P
seen setup taken = record { setup = setup; taken = taken }

-- the turn at a key
abbrev pub turn_at : Key → Option Named → Turn Named
turn_at key outcome = record { key = rank key; outcome = outcome }

-- a turn by its key and the action that it took, as the theory has it
pub turn_is : (found : Option Named) (key : Key) → turn_of (turned_of found key) ≡ turn_at key found
turn_is None key = refl
turn_is (Some action) key = refl

-- these turns were taken, and these are the queue and the states
pub record IsFound (s : System) (turns : List (Turn Named)) (places numbers : List ℕ) (states : List States) : Type 0 where
  pub taken : taken_at s places numbers ≡ turns
  pub stands : IsBeforeLeast s places numbers states

-- the item at a place of a list made by a function of the place
pub at_range : {X : Type 0} (f : ℕ → X) (n j : ℕ) (x : X) → slice_get (map f (range_with_len 0 n)) j ≡ Some x → x ≡ f j
at_range f n j x e =
    let short = slice_get_within (map f (range_with_len 0 n)) j x e in
    let count = length-map-range_with_len f 0 n in
    let both : Some (slice_index_or (map f (range_with_len 0 n)) j x) ≡ Some x = sym (slice_get-get_or (map f (range_with_len 0 n)) j x short) ∙ e in
    let same : slice_index_or (map f (range_with_len 0 n)) j x ≡ x = cc in
    sym same ∙ get_or-map-range_with_len f 0 n j j x (omega (arith, short, count)) (omega arith)

-- the first keys and the start states are those at the start
pub start_at : (s : System) (places numbers : List ℕ) (states : List States) → ArePlaced s (length s.composition) (length s.composition) (λ j. 0) places → numbers ≡ replicate (length s.composition) 0
    → states ≡ map (λ i. plain (start_of s.composition i)) (range_with_len 0 (length s.composition)) → IsAt s (after (machine s) []) places numbers states
start_at s places numbers states are zeros starts = record {
  queue = first_queue s (length s.composition) places numbers are zeros;
  states_many = ap length starts ∙ length-map-range_with_len start 0 (length s.composition);
  currents = λ j x e. at_range start (length s.composition) j x (ap (λ l. slice_get l j) (sym starts) ∙ e);
} where
  start : ℕ → States
  start i = plain (start_of s.composition i)

-- the key of a turn is small
pub small_key : (s : System) → s.horizon ≤ 4294967296 → (i n : ℕ) → i < 65536 → (o : Option Key) → o ≡ key_of s i n → IfSome o (λ key. key.number < 4294967296) → IfSome o IsSmall
small_key s short i n fits None e small = tt
small_key s short i n fits (Some key) e small =
    let reached = reaches_key s i n key (sym e) in
    let within = reached.within in
    let is = key_there s i n key e in
    let component = is.component in
    record { tick = omega (arith, within, short); component = omega (arith, component, fits); number = small }

pub first_small : (s : System) → s.horizon ≤ 4294967296 → (i : ℕ) → i < 65536 → (o : Option Key) → o ≡ key_of s i 0 → IfSome o IsSmall
first_small s short i fits o e = small_key s short i 0 fits o e (number o e) where
  number : (o : Option Key) → o ≡ key_of s i 0 → IfSome o (λ key. key.number < 4294967296)
  number None e = tt
  number (Some key) e = let is = (key_there s i 0 key e).number in omega (arith, is)

small_below : (k : Key) → IsSmall k → rank k < end_rank
small_below k small =
    let tick = small.tick in
    let component = small.component in
    let number = small.number in
    let below : rank k < 2 ^ 144 = omega (arith, tick, component, number) in
    subst (λ e. rank k < e) (sym end_is) below

small_end : (k : Key) → IsSmall k → rank k ≤ end_rank
small_end k small = let h = small_below k small in omega (arith, h)

module _ (s : System) (law : Lawful (machine s)) (counted : HasCount (machine s) (length s.composition)) where
  rank_of_first : (p : Point (List Datum)) (places : List ℕ) (key : Key) → IsFirst s (length s.composition) p.next places key → rank key ≡ turn_rank s key.component (p.next key.component)
  rank_of_first p places key is = ap rank_or_end is.there ∙ ranked s key.component (p.next key.component) is.within

  pub least_end : (p : Point (List Datum)) (places numbers : List ℕ) → IsQueue s (length s.composition) p.next places numbers → least_rank places numbers ≤ end_rank
  least_end p places numbers queue = go (least_key places numbers) refl where
    go : (o : Option Key) → o ≡ least_key places numbers → least_rank places numbers ≤ end_rank
    go None e = subst (λ k. rank_or_end k ≤ end_rank) e (omega arith)
    go (Some key) e = subst (λ k. rank_or_end k ≤ end_rank) e (small_end key (led s (length s.composition) p.next places numbers queue (Some key) e).small)

  -- no component has a turn with a lesser key
  pub least_below : (p : Point (List Datum)) (places numbers : List ℕ) → IsQueue s (length s.composition) p.next places numbers → (j : ℕ) → least_rank places numbers ≤ turn_rank s j (p.next j)
  least_below p places numbers queue j = go (cases_lt j (length s.composition)) where
    go : (j < length s.composition) ⊎ (length s.composition ≤ j) → least_rank places numbers ≤ turn_rank s j (p.next j)
    go (inl h) = least_low s (length s.composition) p.next places numbers queue refl small_end j h
    go (inr h) = let silent : turn_rank s j (p.next j) ≡ end_rank = counted.silent j (p.next j) h in let low = least_end p places numbers queue in omega (arith, silent, low)

  module _ (exists : (b : ℕ) → b ≤ end_rank → IsReference (machine s) b (reference_below (machine s) b))
      (one : (b : ℕ) (turns later : List (Turn Named)) → IsReference (machine s) b turns → IsReference (machine s) b later → turns ≡ later) where
    pub whole : (p : Point (List Datum)) (places numbers : List ℕ) → IsQueue s (length s.composition) p.next places numbers → IsComplete (machine s) (taken_at s places numbers)
    whole p places numbers queue = record { bound = least_rank places numbers; within = least_end p places numbers queue; is = refl }

    found : (turns : List (Turn Named)) (places numbers : List ℕ) (states : List States) → IsReference (machine s) (least_rank places numbers) turns → IsAt s (after (machine s) turns) places numbers states → IsFound s turns places numbers states
    found turns places numbers states is at =
        let end = least_end (after (machine s) turns) places numbers at.queue in
        let same : reference_below (machine s) (least_rank places numbers) ≡ turns = one (least_rank places numbers) (reference_below (machine s) (least_rank places numbers)) turns (exists (least_rank places numbers) end) is in
        record { taken = same; stands = subst (λ (ts : List (Turn Named)). IsAt s (after (machine s) ts) places numbers states) (sym same) at }

    pub start_found : (places numbers : List ℕ) (states : List States) → IsAt s (after (machine s) []) places numbers states → IsFound s [] places numbers states
    start_found places numbers states at = found [] places numbers states (record { run = tt; below = tt; all = λ j. least_below (after (machine s) []) places numbers at.queue j }) at

    module _ (places numbers : List ℕ) (states : List States) (stands : IsBeforeLeast s places numbers states) where
      abbrev pub p : Point (List Datum)
      p = point (machine s) (least_rank places numbers)

      pub whole_here : IsComplete (machine s) (taken_at s places numbers)
      whole_here = whole p places numbers stands.queue

      pub numbered : HasItsNumber places numbers
      numbered = has_number s (length s.composition) p.next places numbers stands.queue

      pub ended : None ≡ least_key places numbers → IsReference (machine s) end_rank (taken_at s places numbers)
      ended none = subst (λ b. IsReference (machine s) end_rank (reference_below (machine s) b)) (ap rank_or_end none) (exists end_rank (omega arith))

      module _ (key : Key) (is_first : Some key ≡ least_key places numbers) where
        pub first : IsFirst s (length s.composition) p.next places key
        first = led s (length s.composition) p.next places numbers stands.queue (Some key) is_first

        below_end : rank key < end_rank
        below_end = small_below key first.small

        owner : owner_of (rank key) ≡ key.component
        owner =
            let component = first.small.component in
            let number = first.small.number in
            rank_owner key (omega (arith, component)) (omega (arith, number))

        pub within : key.component < length s.composition
        within = first.within

        pub fits : key.component < 65536
        fits = first.small.component

        pub number_is : key.number ≡ p.next key.component
        number_is = first.number

        pub key_is : Some key ≡ key_of s key.component key.number
        key_is = subst (λ n. Some key ≡ key_of s key.component n) (sym number_is) first.there

        pub key_small : key.number < 4294967296
        key_small = first.small.number

        pub numbers_within : key.component < length numbers
        numbers_within = let w = within in let many = stands.queue.many in omega (arith, w, many)

        pub states_within : key.component < length states
        states_within = let w = within in let many = stands.states_many in omega (arith, w, many)

        pub tournament : IsTournament (length numbers) places
        tournament = subst (λ n. IsTournament n places) (sym stands.queue.many) stands.queue.places.tournament

        rank_is : rank key ≡ turn_rank s key.component (p.next key.component)
        rank_is = rank_of_first p places key first

        pub is_least : rank key ≡ least_rank places numbers
        is_least = ap rank_or_end is_first

        least_of_all : (j : ℕ) → rank key ≤ turn_rank s j (p.next j)
        least_of_all j = let l = least_below p places numbers stands.queue j in let e = is_least in omega (arith, l, e)

        module _ (o : Option Named) (came : IfSome (slice_get states key.component) (λ state. o ≡ turn_outcome s key.component key.number state.current)) where
          state_there : slice_get states key.component ≡ Some (slice_index_or states key.component (plain []))
          state_there = slice_get-get_or states key.component (plain []) (let l = within in let many = stands.states_many in omega (arith, l, many))

          o_is : o ≡ turn_outcome s key.component key.number (slice_index_or states key.component (plain [])).current
          o_is = subst (λ x. IfSome x (λ (y : States). o ≡ turn_outcome s key.component key.number y.current)) state_there came

          abbrev pub t : Turn Named
          t = record { key = rank key; outcome = o }

          outcome_here : o ≡ turn_outcome s key.component (p.next key.component) (p.state key.component)
          outcome_here =
              o_is ∙ ap (λ n. turn_outcome s key.component n (slice_index_or states key.component (plain [])).current) number_is
              ∙ ap (λ (x : States). turn_outcome s key.component (p.next key.component) x.current) (stands.currents key.component (slice_index_or states key.component (plain [])) state_there)

          pub next_turn : IsNext (machine s) (point (machine s) (least_rank places numbers)) (record { key = rank key; outcome = o })
          next_turn = record {
            its_key = subst (λ k. rank key ≡ turn_rank s k (p.next k)) (sym owner) rank_is;
            exists = below_end;
            least = least_of_all;
            its_outcome = subst (λ k. o ≡ turn_outcome s k (p.next k) (p.state k)) (sym owner) outcome_here;
          }

          abbrev pub q : Point (List Datum)
          q = advance (machine s) p t

          next_own : (j : ℕ) → j ≡ key.component → q.next j ≡ suc (p.next j)
          next_own j e = ap (λ b. cond b (suc (p.next j)) (p.next j)) (eq-eqb j (owner_of (rank key)) (e ∙ sym owner))

          next_other : (j : ℕ) → (j ≡ key.component → ⊥) → q.next j ≡ p.next j
          next_other j ne = ap (λ b. cond b (suc (p.next j)) (p.next j)) (ne_eqb j (owner_of (rank key)) (λ e. ne (e ∙ owner)))

          -- all turns that come are later
          strictly : (j : ℕ) → rank key < turn_rank s j (q.next j)
          strictly j = go (cases_eq j key.component) where
            own : rank key < turn_rank s key.component (suc (p.next key.component))
            own =
                let r = rank_is in
                let b = below_end in
                let up = law.rises key.component (p.next key.component) (omega (arith, r, b)) in
                omega (arith, r, up)

            apart : (j ≡ key.component → ⊥) → (rank key ≡ turn_rank s j (p.next j)) ⊎ (rank key ≡ turn_rank s j (p.next j) → ⊥) → rank key < turn_rank s j (p.next j)
            apart ne (inl e) =
                let b = below_end in
                absurd (ne (sym (law.owned j (p.next j) (omega (arith, e, b))) ∙ ap owner_of (sym e) ∙ owner))
            apart ne (inr ne_rank) = let l = least_of_all j in omega (arith, l, ne_rank)

            go : (j ≡ key.component) ⊎ (j ≡ key.component → ⊥) → rank key < turn_rank s j (q.next j)
            go (inl e) = subst (λ n. rank key < turn_rank s j n) (sym (next_own j e)) (subst (λ k. rank key < turn_rank s k (suc (p.next k))) (sym e) own)
            go (inr ne) = subst (λ n. rank key < turn_rank s j n) (sym (next_other j ne)) (apart ne (cases_eq (rank key) (turn_rank s j (p.next j))))

          module _ (follower : Option Key) (follower_is : follower ≡ key_of s key.component (key.number + 1)) (follower_small : IfSome follower IsSmall)
              (new : List ℕ) (is_tournament : IsTournament (length numbers) new) (own : node new (length numbers + key.component) ≡ place_of follower)
              (others : (k : ℕ) → k < length numbers → (k ≡ key.component → ⊥) → node new (length numbers + k) ≡ node places (length numbers + k))
              (new_numbers : List ℕ) (counted_on : new_numbers ≡ slice_set numbers key.component (key.number + 1)) where
            pub queue_after : IsQueue s (length s.composition) q.next new new_numbers
            queue_after =
                let many : length numbers ≡ length s.composition = stands.queue.many in
                let e = number_is in
                let later : suc (p.next key.component) ≡ key.number + 1 = omega (arith, e) in
                subst (IsQueue s (length s.composition) q.next new) (sym counted_on)
                (refilled s (length s.composition) p.next q.next places numbers stands.queue key.component (key.number + 1) within
                (next_own key.component refl ∙ later) next_other follower follower_is follower_small new
                (subst (λ n. IsTournament n new) many is_tournament)
                (subst (λ n. node new (n + key.component) ≡ place_of follower) many own)
                (subst (λ n. (k : ℕ) → k < n → (k ≡ key.component → ⊥) → node new (n + k) ≡ node places (n + k)) many others))

            before_next : rank key < least_rank new new_numbers
            before_next = go (least_key new new_numbers) refl where
              go : (k : Option Key) → k ≡ least_key new new_numbers → rank key < least_rank new new_numbers
              go None e = subst (λ k. rank key < rank_or_end k) e below_end
              go (Some later) e =
                  let is = led s (length s.composition) q.next new new_numbers queue_after (Some later) e in
                  let there = strictly later.component in
                  let same = rank_of_first q new later is in
                  subst (λ k. rank key < rank_or_end k) e (omega (arith, there, same))

            advanced_is : IsReference (machine s) (least_rank new new_numbers) (t ∷ reference_below (machine s) (least_rank places numbers))
            advanced_is =
                let before = exists (least_rank places numbers) (least_end p places numbers stands.queue) in
                let e = is_least in record {
                  run = (next_turn, before.run);
                  below = (before_next, all_below_more (least_rank places numbers) (least_rank new new_numbers) (let b = before_next in omega (arith, b, e)) (reference_below (machine s) (least_rank places numbers)) before.below);
                  all = least_below q new new_numbers queue_after;
                }

            -- up to the next turn there is this one more
            pub advanced : taken_at s new new_numbers ≡ record { key = rank key; outcome = o } ∷ taken_at s places numbers
            advanced = one (least_rank new new_numbers) (reference_below (machine s) (least_rank new new_numbers)) (t ∷ reference_below (machine s) (least_rank places numbers)) (exists (least_rank new new_numbers) (least_end q new new_numbers queue_after)) advanced_is

            pub whole_after : IsComplete (machine s) (taken_at s new new_numbers)
            whole_after = whole q new new_numbers queue_after

            module _ (news : List States) (news_many : length news ≡ length states) (news_is : (j : ℕ) → slice_get news j ≡ option_map (joining (machine s) key.component o j) (slice_get states j)) where
              currents_after : (j : ℕ) (x : States) → slice_get news j ≡ Some x → x ≡ plain (q.state j)
              currents_after j x e = go (slice_get states j) refl where
                go : (was : Option States) → slice_get states j ≡ was → x ≡ plain (q.state j)
                go None f = let none : Some x ≡ None = sym e ∙ news_is j ∙ ap (option_map (joining (machine s) key.component o j)) f in cc
                go (Some was) f =
                    let both : Some x ≡ Some (joining (machine s) key.component o j was) = sym e ∙ news_is j ∙ ap (option_map (joining (machine s) key.component o j)) f in
                    let is : x ≡ joining (machine s) key.component o j was = cc in
                    is ∙ ap (joining (machine s) key.component o j) (stands.currents j was f) ∙ ap (λ k. plain (joint (machine s) k o j (p.state j))) (sym owner)

              at_after : IsAt s q new new_numbers news
              at_after = record { queue = queue_after; states_many = news_many ∙ stands.states_many; currents = currents_after }

              pub stepped : IsFound s (record { key = rank key; outcome = o } ∷ taken_at s places numbers) new new_numbers news
              stepped = found (t ∷ reference_below (machine s) (least_rank places numbers)) new new_numbers news advanced_is at_after
