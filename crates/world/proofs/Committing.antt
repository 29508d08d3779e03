-- A commit of a world is the theory's.
use Rattle.std.proofs.Common.{◌≡◌, ℕ, zero, suc, ◌+◌, ◌*◌, ◌<◌, ◌≤◌, ◌^◌, ◌++◌, ◌==◌, ◌⊎◌, inl, inr, Bool, true, false, cond, Option, None, Some, List, [], ◌∷◌, map, length, refl, ap, sym, subst, ◌∙◌, arith}
use Rattle.std.specs.Prelude.{◌&&◌, option_map, slice_get}
use Rattle.std.proofs.lemmas.Bool.{cases_lt, eqb-true, le-leb, lt-ltb}
use Rattle.std.proofs.lemmas.List.{length-append, length-map}
use Rattle.std.proofs.lemmas.Option.{slice_get_within}
use Rattle.terms.specs.Datum.{Datum}
use Rattle.terms.specs.Named.{Named}
use Rattle.event_keys.specs.declared.key.Bound.{Bound}
use Rattle.event_keys.specs.declared.outcome.Turned.{Turned}
use Rattle.event_keys.specs.Ranks.{rank_of_bound}
use Rattle.virtual_time.specs.Entries.{Entry, Input, Own, latest, number, turn_at}
use Rattle.virtual_time.specs.Machine.{Machine}
use Rattle.virtual_time.specs.Records.{cut_of}
use Rattle.virtual_time.specs.Reference.{Falls, IsAmong, Point, Turn, outcome_at, point, reference_below, turns_of as taken_of}
use Rattle.virtual_time.specs.Replies as theory
use Rattle.virtual_time.specs.Replies.{Answers, IsReached, IsVirtualTime}
use Rattle.virtual_time.specs.Rules.{IsDone, IsWorld}
use Rattle.virtual_time.specs.Worlds as happening
use Rattle.virtual_time.specs.Worlds.{IsToCommit, Part, Past, World, commit, cut}
use Rattle.task_seed.specs.Machines.{machine}
use Rattle.task_seed.specs.Turning.{System}
use Rattle.task_seed.specs.Taken.{turn_of, turns_of}
use Rattle.rollback.specs.ComponentView.{ComponentView}
use Rattle.raw_events.specs.Onto.{onto}
use Rattle.world.specs.Dropping.{IsOrderly, cut_between, done_at, dropped_at}
use Rattle.rollback.specs.ComponentView.{cut_at}
use Rattle.world.specs.MachineLaws.{Laws}
use Rattle.world.specs.Simulation.{IsComponent, IsSimulation, Simulation, part_of, record_or_start, world_of}
use Rattle.world.proofs.Ranges.{among_at, at_among, dropped_some, some_dropped}
use Rattle.world.proofs.Reaching.{reached_step}

some_is : {X : Type 0} (a b : X) → Some a ≡ Some b → a ≡ b
some_is a b e = cc

not_some : {X : Type 0} (a : X) → Some a ≡ None → ⊥
not_some a e = cc

pub onto_append : {X : Type 0} (xs ys zs : List X) → onto xs (ys ++ zs) ≡ onto xs ys ++ zs
onto_append [] ys zs = refl
onto_append (x ∷ xs) ys zs = onto_append xs (x ∷ ys) zs

map_onto : (xs ys : List Turned) → map turn_of (onto xs ys) ≡ onto (map turn_of xs) (map turn_of ys)
map_onto [] ys = refl
map_onto (x ∷ xs) ys = map_onto xs (x ∷ ys)

pub onto_length : {X : Type 0} (xs ys : List X) → length (onto xs ys) ≡ length xs + length ys
onto_length [] ys = omega arith
onto_length (x ∷ xs) ys = let rest = onto_length xs (x ∷ ys) in omega (arith, rest)

pub turns_length : (ts : List Turned) → length (turns_of ts) ≡ length ts
turns_length ts = let all = onto_length (map turn_of ts) [] in let each = length-map ts turn_of in omega (arith, all, each)

-- nothing is done below the base
low_latest : (m : Machine (List Datum) Named) (i g n : ℕ) (s : List Datum) (es : List (Entry Named)) → IsDone m i g n s es → g ≤ latest g es
low_latest m i g n s [] d = omega arith
low_latest m i g n s (Own k o ∷ es) d = let rest = low_latest m i g n s es d.4 in let step = d.3 in omega (arith, rest, step)
low_latest m i g n s (Input x ∷ es) d = let rest = low_latest m i g n s es d.2 in let step = d.1 in omega (arith, rest, step)

low_turn : (m : Machine (List Datum) Named) (i g n : ℕ) (s : List Datum) (es : List (Entry Named)) → IsDone m i g n s es → (k : ℕ) (o : Option Named) → turn_at k es ≡ Some o → g ≤ k
low_turn m i g n s [] d k o e = cc
low_turn m i g n s (Own l p ∷ es) d k o e = go (l == k) refl (low_turn m i g n s es d.4 k o) e
  where
    go : (b : Bool) → (l == k) ≡ b → (turn_at k es ≡ Some o → g ≤ k) → cond b (Some p) (turn_at k es) ≡ Some o → g ≤ k
    go true q before h =
        let rest = low_latest m i g n s es d.4 in
        let step = d.3 in
        let same = eqb-true l k q in
        omega (arith, rest, step, same)
    go false q before h = before h
low_turn m i g n s (Input x ∷ es) d k o e = low_turn m i g n s es d.2 k o e

few_taken : {S : Type 0} (p : Point S) (n : ℕ) → ((j : ℕ) → j < n → p.next j ≤ 4294967296) → taken_of p n ≤ n * 4294967296
few_taken p zero h = omega arith
few_taken p (suc n) h = let one = h n (omega arith) in let rest = few_taken p n (λ j l. h j (omega (arith, l))) in omega (arith, one, rest)

module _ {P : Type 0} (s : System) (laws : Laws (machine s) (length s.composition)) (w : Simulation P) (is : IsSimulation s w) where
  abbrev m : Machine (List Datum) Named
  m = machine s

  abbrev count : ℕ
  count = length s.composition

  sound : IsWorld m (world_of m w)
  sound = laws.world.sound (world_of m w) is.reached

  -- each component's done entries are in order
  pub orderly : (j : ℕ) (c : ComponentView P) → slice_get w.components j ≡ Some c → IsOrderly m w.setup j c
  orderly j c e =
      let here = is.components j c e in
      record {
        number = here.number;
        setup = here.setup;
        low = rank_of_bound w.bound;
        done = subst (λ o. IsDone m j (rank_of_bound w.bound) (record_or_start m j o).first (record_or_start m j o).base (record_or_start m j o).done) e (sound.proper j).done;
      }

  module _ (bound : Bound) (not_behind : rank_of_bound w.bound ≤ rank_of_bound bound) (g : ℕ) (time : IsVirtualTime m (world_of m w) g) (not_ahead : rank_of_bound bound ≤ g)
      (components : List (ComponentView P)) (many : length components ≡ length w.components) (turns : List Turned)
      (cuts : (j : ℕ) → slice_get components j ≡ option_map (cut_between m bound 0 (length w.components) j) (slice_get w.components j))
      (falls : Falls (turns_of turns)) (given : (k : ℕ) → outcome_at k (turns_of turns) ≡ dropped_at m (rank_of_bound bound) 0 (length w.components) w.components k) where
    abbrev b : ℕ
    b = rank_of_bound bound

    abbrev pub after : Simulation P
    after = record w { components = components; bound = bound; committed = onto turns w.committed }

    -- what is given is what is to be committed
    to_commit : (t : Turn Named) → IsAmong t (turns_of turns) → IsToCommit m (world_of m w) b t
    to_commit t among =
        let at : dropped_at m b 0 (length w.components) w.components t.key ≡ Some t.outcome = sym (given t.key) ∙ among_at t (turns_of turns) falls among in
        let found = dropped_some m b 0 (length w.components) w.components t.key t.outcome at in
        let done = has_done (slice_get w.components (m.owner t.key)) found.1 in
        record {
          from = let p = (sound.proper (m.owner t.key)).done in low_turn m (m.owner t.key) (rank_of_bound w.bound) ((world_of m w).part (m.owner t.key)).first ((world_of m w).part (m.owner t.key)).base ((world_of m w).part (m.owner t.key)).done p t.key t.outcome done;
          below = found.0.below;
          done = done;
        }
      where
        has_done : (o : Option (ComponentView P)) → done_at t.key o ≡ Some t.outcome → turn_at t.key (record_or_start m (m.owner t.key) o).done ≡ Some t.outcome
        has_done None e = cc
        has_done (Some c) e = e

    is_given : (t : Turn Named) → IsToCommit m (world_of m w) b t → IsAmong t (turns_of turns)
    is_given t h = at_among t.key t.outcome (turns_of turns) (given t.key ∙ go (slice_get w.components (m.owner t.key)) refl h.done)
      where
        go : (o : Option (ComponentView P)) → slice_get w.components (m.owner t.key) ≡ o → turn_at t.key (record_or_start m (m.owner t.key) o).done ≡ Some t.outcome → dropped_at m b 0 (length w.components) w.components t.key ≡ Some t.outcome
        go None e d = cc
        go (Some c) e d =
            let short = slice_get_within w.components (m.owner t.key) c e in
            some_dropped m b 0 (length w.components) w.components t.key t.outcome (record { low = omega arith; high = short; below = h.below }) (ap (done_at t.key) e ∙ d)

    appended : (commit m b (world_of m w)).committed ≡ turns_of turns ++ map turn_of w.committed
    appended = laws.world.appended (world_of m w) b (turns_of turns) not_behind falls to_commit is_given

    -- the committed list after it
    committed_is : map turn_of (onto turns w.committed) ≡ (commit m b (world_of m w)).committed
    committed_is = map_onto turns w.committed ∙ onto_append (map turn_of turns) [] (map turn_of w.committed) ∙ sym appended

    cut_here : (j : ℕ) (c : ComponentView P) → j < length w.components → cut_between m bound 0 (length w.components) j c ≡ cut_at m bound c
    cut_here j c short = ap (λ t. cond t (cut_at m bound c) c) (λ v. le-leb 0 j (omega arith) v && lt-ltb j (length w.components) short v)

    part_is : (j : ℕ) → (world_of m after).part j ≡ cut m b j ((world_of m w).part j)
    part_is j = ap (λ o. part_of (record_or_start m j o) w.flight j) (cuts j) ∙ go (slice_get w.components j) refl
      where
        go : (o : Option (ComponentView P)) → slice_get w.components j ≡ o → part_of (record_or_start m j (option_map (cut_between m bound 0 (length w.components) j) o)) w.flight j ≡ cut m b j (part_of (record_or_start m j o) w.flight j)
        go None e = refl
        go (Some c) e =
            let here = is.components j c e in
            let short = slice_get_within w.components j c e in
            ap (λ x. part_of x.history w.flight j) (cut_here j c short)
            ∙ ap (λ n. part_of (cut_of m n b c.history) w.flight j) here.number

    -- the world is the theory's after the commit
    pub world_is : world_of m after ≡ commit m b (world_of m w)
    world_is = λ v. record { part = λ j. part_is j v; bound = b; committed = committed_is v }

    count_is : length (commit m b (world_of m w)).committed ≡ length turns + length (world_of m w).committed
    count_is =
        let all = length-append (turns_of turns) (map turn_of w.committed) in
        let each = turns_length turns in
        let old : length (commit m b (world_of m w)).committed ≡ length (turns_of turns ++ map turn_of w.committed) = ap length appended in
        omega (arith, all, each, old)

    pub answers : Answers m count (world_of m w) (happening.Commit b) (theory.Committed (length turns)) (world_of m after)
    answers = inr (inr (g, length turns, time, not_behind, not_ahead, refl, count_is, world_is))

    pub reached : IsReached m count (world_of m after)
    reached = reached_step m count (happening.Commit b) (theory.Committed (length turns)) (world_of m w) (world_of m after) is.reached answers

    -- there are few turns
    pub few : length turns < 2 ^ 64
    few =
        let past = time.least 0 in
        let turn = past.turn in
        let bounded = laws.lawful.bounded 0 (number ((world_of m w).part 0).first ((world_of m w).part 0).done) in
        let end : b ≤ m.top = omega (arith, turn, bounded, not_ahead) in
        let same = laws.reference.one b (world_of m after).committed (reference_below m b) (laws.world.reference (world_of m after) reached) (laws.reference.exists b end) in
        let long : length (world_of m after).committed ≡ taken_of (point m b) count = ap length same ∙ laws.reference.sum b end in
        let most = few_taken (point m b) count (λ j l. each j end) in
        let small = laws.small in
        let is_world : length (world_of m after).committed ≡ length (commit m b (world_of m w)).committed = ap length committed_is in
        let counted = count_is in
        omega (arith, long, most, small, is_world, counted)
      where
        each : (j : ℕ) → b ≤ m.top → (point m b).next j ≤ 4294967296
        each j end = go (cases_lt 4294967296 ((point m b).next j))
          where
            go : (4294967296 < (point m b).next j) ⊎ ((point m b).next j ≤ 4294967296) → (point m b).next j ≤ 4294967296
            go (inr l) = l
            go (inl l) =
                let low = laws.reference.before b j 4294967296 l in
                let n = laws.few j 4294967296 (omega (arith, low, end)) in
                absurd (omega (arith, n))

    pub kept : IsSimulation s after
    kept = record { reached = reached; many = many ∙ is.many; components = λ j c e. each j c e (slice_get w.components j) refl; inside = is.inside }
      where
        each : (j : ℕ) (c : ComponentView P) → slice_get components j ≡ Some c → (o : Option (ComponentView P)) → slice_get w.components j ≡ o → IsComponent after j c
        each j c e None q = absurd (not_some c (sym e ∙ cuts j ∙ ap (option_map (cut_between m bound 0 (length w.components) j)) q))
        each j c e (Some d) q =
            let short = slice_get_within w.components j d q in
            let some : Some c ≡ Some (cut_between m bound 0 (length w.components) j d) = sym e ∙ cuts j ∙ ap (option_map (cut_between m bound 0 (length w.components) j)) q in
            let cut_is : cut_between m bound 0 (length w.components) j d ≡ cut_at m bound d = cut_here j d short in
            let same : cut_between m bound 0 (length w.components) j d ≡ c = sym (some_is c (cut_between m bound 0 (length w.components) j d) some) in
            let here = is.components j d q in
            subst (IsComponent after j) (sym cut_is ∙ same) (record { number = here.number; setup = here.setup; base = refl })
