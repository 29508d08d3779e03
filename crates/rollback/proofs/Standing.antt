-- All messages of a component are balanced exactly where those stand that are said.
use Rattle.std.proofs.Common.{◌≡◌, ℕ, ◌+◌, ◌<◌, ◌^◌, ◌==◌, ◌&&◌, ◌||◌, ◌⊎◌, inl, not, Bool, true, false, cond, Option, None, Some, List, [], ◌∷◌, map, reverse, refl, ap, sym, subst, ◌∙◌, if◌then◌else◌, arith}
use Rattle.std.specs.Prelude.{count_by, nat_lt, ◌↔◌}
use Rattle.std.specs.List.{list_all}
use Rattle.std.proofs.lemmas.Bool.{and_parts, eq-eqb, eqb-true, lt-ltb}
use Rattle.std.proofs.lemmas.Bool.Decides.{nat_tests}
use Rattle.terms.specs.Named.{Named}
use Rattle.event_keys.specs.Entries.{action_of}
use Rattle.event_keys.specs.Ranked.{rank_owner}
use Rattle.event_keys.specs.Ranks.{owner_of, rank}
use Rattle.event_keys.specs.declared.key.Key.{Key}
use Rattle.event_keys.specs.declared.message.Message.{Message}
use Rattle.event_keys.specs.declared.message.Sign.{Sign}
use Rattle.event_keys.specs.declared.message.Sign.TheVariants.{Plus, Minus}
use Rattle.event_keys.specs.declared.message.Signed.{Signed}
use Rattle.event_keys.specs.declared.outcome.Outcome.{Outcome}
use Rattle.event_keys.specs.declared.outcome.Outcome.TheVariants.{Idle, Did}
use Rattle.event_keys.specs.declared.outcome.Turned.{Turned}
use Rattle.raw_events.specs.Around.{Around}
use Rattle.antimessage.specs.Bags.{is_one}
use Rattle.antimessage.specs.Counts.{Each, is_same, plus, minus}
use Rattle.antimessage.specs.Order.{Fits, IsInOrder, KeyFits}
use Rattle.undo_records.specs.States.{States}
use Rattle.io_automata.specs.Automata.{Instance}
use Rattle.io_automata.specs.Receivers.{IsIn}
use Rattle.io_automata.specs.Signatures.{receives, receivers_of}
use Rattle.virtual_time.specs.Bags.{hit, hit_own, owns, same_item, sends, times}
use Rattle.virtual_time.specs.Entries.{number}
use Rattle.task_seed.specs.Machines.{machine, same_action}
use Rattle.task_seed.specs.Turning.{System, has_turns, key_at, key_of, ticks}
use Rattle.message_balance.specs.declared.done.Done.{Done}
use Rattle.message_balance.specs.declared.done.Done.TheVariants.{Turn, Input}
use Rattle.message_balance.specs.declared.sent.Sent.{Sent}
use Rattle.rollback.specs.Flight.{in_flight, item_of}
use Rattle.task_seed.specs.Clocks.{IsTurnKey}
use Rattle.rollback.specs.ComponentInvariant.{AllReady, IsValidComponent, IsReady, entries_of, record_of, signed_of}
use Rattle.message_balance.specs.Balance.{all_of, count_as, is_all_sent, is_sending_of, is_sent_if_from, is_sent_balanced, is_turn_balanced}
use Rattle.rollback.specs.Matched.{IsStanding}
use Rattle.rollback.specs.Post.{signed_to}
use Rattle.rollback.proofs.Flight.{item_same}
use Rattle.rollback.proofs.Sending.{end_is}
use Rattle.message_balance.proofs.Counting.{all_before, all_reversed, count_next, count_none, count_reversed, each_passes, passes_each}
use Rattle.rollback.proofs.Levels.{action_is, both_or, elsewhere, hit_or, none_or, same_or, times_count}

and_true : (a : Bool) → a ≡ (a && true)
and_true true = refl
and_true false = refl

and_false : (a : Bool) → false ≡ (a && false)
and_false true = refl
and_false false = refl

spread : (e a b : Bool) → ((e && a) || (e && b)) ≡ (e && (a || b))
spread true a b = refl
spread false a b = refl

one_more : (b : Bool) (n : ℕ) → nat_lt 0 (cond b 1 0 + n) ≡ (b || nat_lt 0 n)
one_more true n = lt-ltb 0 (1 + n) (omega arith)
one_more false n = ap (nat_lt 0) (let e : 0 + n ≡ n = omega arith in e)

flipped : (a b : ℕ) → (a == b) ≡ (b == a)
flipped a b = grind (arith, nat_tests)

cond_none : (r : Bool) → cond {A = ℕ} r 0 0 ≡ 0
cond_none true = refl
cond_none false = refl

cond_plus : (r : Bool) (m n : ℕ) → cond r (m + n) 0 ≡ cond r m 0 + cond r n 0
cond_plus true m n = refl
cond_plus false m n = omega arith

itself : (n : ℕ) → (n == n) ≡ true
itself n = eq-eqb n n refl

module _ (s : System) (i : ℕ) (small : i < 2 ^ 16) (all : (composition : List Instance) (action : Named) (sender j : ℕ) → IsIn j (receivers_of composition action sender) ≡ receives composition sender action j) where
  component_is : (n : ℕ) (key : Key) → Some key ≡ key_of s i n → key.component ≡ i
  component_is n key h = go (has_turns s i (n + 1)) h where
    go : (b : Bool) → Some key ≡ (if b then Some (key_at i n (ticks s i (n + 1))) else None) → key.component ≡ i
    go true e = let same : key ≡ key_at i n (ticks s i (n + 1)) = cc in ap (λ k. k.component) same
    go false e = cc

  key_fits : (n : ℕ) (key : Key) → Some key ≡ key_of s i n → IsTurnKey key → KeyFits key
  key_fits n key h low =
      let component = component_is n key h in
      let number = low.0 in
      let low_rank = low.1 in
      (omega (arith, component, small), omega (arith, number), omega (arith, low_rank, end_is))

  module _ (m : Message) (f : Fits (plus m)) where
    to_one : (key : Key) (b : Named) (j : ℕ) → KeyFits key
        → is_same (signed_to Minus key b j) (minus m) ≡ (same_item (machine s) (record { key = rank key; action = b }) (item_of (minus m)) && (m.to == j))
    to_one key b j g = go (m.to == j) refl where
      go : (c : Bool) → (m.to == j) ≡ c → is_same (signed_to Minus key b j) (minus m) ≡ (same_item (machine s) (record { key = rank key; action = b }) (item_of (minus m)) && c)
      go true h = sym (item_same s Minus m.to (signed_to Minus key b j) (minus m) g f (flipped j m.to ∙ h) (itself m.to)) ∙ and_true _
      go false h = elsewhere Minus m.to (signed_to Minus key b j) (minus m) (itself m.to) (flipped j m.to ∙ h) ∙ and_false _

    has_one : (key : Key) (b : Named) → KeyFits key → (js : List ℕ)
        → nat_lt 0 (count_as Minus m (map (signed_to Minus key b) js)) ≡ (same_item (machine s) (record { key = rank key; action = b }) (item_of (minus m)) && IsIn m.to js)
    has_one key b g [] = and_false _
    has_one key b g (j ∷ js) =
        ap (nat_lt 0) (sym (count_next (is_one (minus m)) (signed_to Minus key b j) (map (signed_to Minus key b) js)))
        ∙ one_more (is_same (signed_to Minus key b j) (minus m)) (count_as Minus m (map (signed_to Minus key b) js))
        ∙ (λ v. to_one key b j g v || has_one key b g js v)
        ∙ spread (same_item (machine s) (record { key = rank key; action = b }) (item_of (minus m))) (m.to == j) (IsIn m.to js)

    abbrev goes_there : Bool
    goes_there = receives s.composition i m.action m.to

    -- a turn sent the message
    outcome_hit : (key : Key) (o : Outcome) → KeyFits key → cond goes_there (hit_own (machine s) (rank key) (action_of o) (rank m.key) m.action) 0 ≡ cond (nat_lt 0 (count_as Minus m (signed_of s Minus i key o))) 1 0
    unfolding hit
    outcome_hit key Idle g = cond_none goes_there
    outcome_hit key (Did b) g =
        go ((rank key == rank m.key) && same_action b m.action) refl
        ∙ ap (λ (c : Bool). cond c 1 0) (sym (has_one key b g (receivers_of s.composition b i) ∙ ap (λ c. same_item (machine s) (record { key = rank key; action = b }) (item_of (minus m)) && c) (all s.composition b i m.to)))
      where
        go : (e : Bool) → ((rank key == rank m.key) && same_action b m.action) ≡ e → ◌≡◌ {A = ℕ} (cond goes_there (cond e 1 0) 0) (cond (e && receives s.composition i b m.to) 1 0)
        go false h = cond_none goes_there
        go true h = ap (λ (a : Named). cond {A = ℕ} (receives s.composition i a m.to) 1 0) (sym (action_is b m.action (and_parts (rank key == rank m.key) (same_action b m.action) h).1))

    turn_hit : (n : ℕ) (turned : Turned) (minuses : Around Signed) → IsReady s i n (Turn turned minuses)
        → cond goes_there (hit_own (machine s) (rank turned.key) (action_of turned.outcome) (rank m.key) m.action) 0 ≡ cond (is_sending_of m (Turn turned minuses)) 1 0
    turn_hit n turned minuses ready =
        let ends : minuses.after ≡ [] = ap (λ (q : Around Signed). q.after) ready.2 in
        let listed : all_of minuses ≡ reverse (signed_of s Minus i turned.key turned.outcome) = all_before minuses ends ∙ ap (λ (q : Around Signed). reverse q.before) ready.2 in
        outcome_hit turned.key turned.outcome (key_fits n turned.key ready.0 ready.1)
        ∙ ap (λ (c : ℕ). cond {A = ℕ} (nat_lt 0 c) 1 0) (sym (ap (count_as Minus m) listed ∙ count_reversed (is_one (minus m)) (signed_of s Minus i turned.key turned.outcome)))

    owns_count : (first : ℕ) (ds : List Done) → AllReady s i first ds → cond goes_there (owns (machine s) (entries_of ds) (rank m.key) m.action) 0 ≡ count_by (is_sending_of m) ds
    owns_count first [] ready = cond_none goes_there
    owns_count first (Turn turned minuses ∷ ds) ready =
        let one = turn_hit (number first (entries_of ds)) turned minuses ready.0 in
        let rest = owns_count first ds ready.1 in
        cond_plus goes_there (hit_own (machine s) (rank turned.key) (action_of turned.outcome) (rank m.key) m.action) (owns (machine s) (entries_of ds) (rank m.key) m.action)
        ∙ (λ v. one v + rest v)
        ∙ count_next (is_sending_of m) (Turn turned minuses) ds
    owns_count first (Input y ∷ ds) ready = owns_count first ds ready.1 ∙ count_none (is_sending_of m) (Input y) ds refl

    -- how often a message was sent
    sends_count : (m.key.component == i) ≡ true → (first : ℕ) (ds : List Done) → AllReady s i first ds → sends (machine s) (entries_of ds) (rank m.key) m.action m.to ≡ count_by (is_sending_of m) ds
    unfolding sends
    sends_count own first ds ready =
        ap (λ l. cond (receives s.composition l m.action m.to) (owns (machine s) (entries_of ds) (rank m.key) m.action) 0) (rank_owner m.key f.0 f.1 ∙ eqb-true m.key.component i own)
        ∙ owns_count first ds ready

  module _ (t : Sent) (first : ℕ) (standing_fits : Each Fits t.standing.now) (out_fits : Each Fits t.out.now) (ready : AllReady s i first t.done.now.before) (ahead : t.done.now.after ≡ []) where
    abbrev left : ℕ → Named → ℕ → ℕ
    left k a j = times (machine s) (in_flight Plus j t.standing.now) k a + times (machine s) (in_flight Plus j t.out.now) k a

    abbrev right : ℕ → Named → ℕ → ℕ
    right k a j = sends (machine s) (entries_of t.done.now.before) k a j + times (machine s) (in_flight Minus j t.out.now) k a

    balanced_is : (m : Message) → (m.key.component == i) ≡ true → Fits (plus m) → is_sent_balanced t m ≡ (left (rank m.key) m.action m.to == right (rank m.key) m.action m.to)
    balanced_is m own f =
        let standing = times_count s Plus m.to m (itself m.to) f t.standing.now standing_fits in
        let pluses = times_count s Plus m.to m (itself m.to) f t.out.now out_fits in
        let done = sends_count m f own first t.done.now.before ready ∙ sym (ap (count_by (is_sending_of m)) (all_before t.done.now ahead) ∙ count_reversed (is_sending_of m) t.done.now.before) in
        let minuses = times_count s Minus m.to m (itself m.to) f t.out.now out_fits in
        sym (λ v. (standing v + pluses v) == (done v + minuses v))

    abbrev IsBalanced : ℕ → Named → ℕ → Type 0
    IsBalanced k a j = left k a j ≡ right k a j

    own_key : (key : Key) (k : ℕ) → KeyFits key → rank key ≡ k → owner_of k ≡ i → (key.component == i) ≡ true
    own_key key k f same owned = eq-eqb key.component i (sym (rank_owner key f.0 f.1) ∙ ap owner_of same ∙ owned)

    -- what a balanced message shows
    balanced_at : (x : Signed) (k : ℕ) (a : Named) (j : ℕ) → owner_of k ≡ i → Fits x → is_sent_if_from t i x ≡ true → rank x.message.key ≡ k → x.message.action ≡ a → x.message.to ≡ j → IsBalanced k a j
    balanced_at x k a j owned f h same_key same_action same_place =
        let own = own_key x.message.key k f same_key owned in
        let told : is_sent_balanced t x.message ≡ true = ap (λ b. not b || is_sent_balanced t x.message) (sym own) ∙ h in
        let balanced : IsBalanced (rank x.message.key) x.message.action x.message.to = eqb-true _ _ (sym (balanced_is x.message own f) ∙ told) in
        subst (λ l. IsBalanced k a l) same_place (subst (λ b. IsBalanced k b x.message.to) same_action (subst (λ l. IsBalanced l x.message.action x.message.to) same_key balanced))

    abbrev IsGood : Signed → Type 0
    IsGood x = Fits x × (is_sent_if_from t i x ≡ true)

    module _ (k : ℕ) (a : Named) (j : ℕ) (owned : owner_of k ≡ i) where
      list_or : (sign : Sign) (xs : List Signed) → Each Fits xs → list_all (is_sent_if_from t i) xs ≡ true → (times (machine s) (in_flight sign j xs) k a ≡ 0) ⊎ IsBalanced k a j
      list_or sign xs e h = none_or s (IsBalanced k a j) IsGood sign j k a (λ x q g sk sa. balanced_at x k a j owned q.0 q.1 sk sa (eqb-true x.message.to j (and_parts _ (x.message.to == j) g).1)) xs (passes_each (is_sent_if_from t i) Fits xs e h)

      receiver_at : (p : Signed → Bool) (made : ℕ → Signed) (js : List ℕ) → IsIn j js ≡ true → list_all p (map made js) ≡ true → p (made j) ≡ true
      receiver_at p made [] there h = cc
      receiver_at p made (l ∷ js) there h =
          let parts = and_parts (p (made l)) (list_all p (map made js)) h in
          go (j == l) refl there parts.0 (λ more. receiver_at p made js more parts.1)
        where
          go : (b : Bool) → (j == l) ≡ b → (b || IsIn j js) ≡ true → p (made l) ≡ true → (IsIn j js ≡ true → p (made j) ≡ true) → p (made j) ≡ true
          go true e in_it here later = ap (λ n. p (made n)) (eqb-true j l e) ∙ here
          go false e in_it here later = later in_it

      outcome_or : (key : Key) (o : Outcome) → KeyFits key → receives s.composition i a j ≡ true → list_all (is_sent_if_from t i) (signed_of s Minus i key o) ≡ true
          → (hit_own (machine s) (rank key) (action_of o) k a ≡ 0) ⊎ IsBalanced k a j
      outcome_or key Idle g takes h = inl refl
      outcome_or key (Did b) g takes h =
          hit_or s (IsBalanced k a j) (record { key = rank key; action = b }) k a (λ sk sa.
          let there : IsIn j (receivers_of s.composition b i) ≡ true = all s.composition b i j ∙ ap (λ c. receives s.composition i c j) sa ∙ takes in
          balanced_at (signed_to Minus key b j) k a j owned g (receiver_at (is_sent_if_from t i) (signed_to Minus key b) (receivers_of s.composition b i) there h) sk sa refl)

      owns_or : (ds : List Done) → AllReady s i first ds → receives s.composition i a j ≡ true → list_all (is_turn_balanced t i) ds ≡ true → (owns (machine s) (entries_of ds) k a ≡ 0) ⊎ IsBalanced k a j
      owns_or [] ready takes h = inl refl
      owns_or (Turn turned minuses ∷ ds) ready takes h =
          let parts = and_parts (is_turn_balanced t i (Turn turned minuses)) (list_all (is_turn_balanced t i) ds) h in
          let ends : minuses.after ≡ [] = ap (λ (q : Around Signed). q.after) ready.0.2 in
          let listed : all_of minuses ≡ reverse (signed_of s Minus i turned.key turned.outcome) = all_before minuses ends ∙ ap (λ (q : Around Signed). reverse q.before) ready.0.2 in
          let each : list_all (is_sent_if_from t i) (signed_of s Minus i turned.key turned.outcome) ≡ true =
          sym (ap (list_all (is_sent_if_from t i)) listed ∙ all_reversed (is_sent_if_from t i) (signed_of s Minus i turned.key turned.outcome)) ∙ parts.0 in
          both_or (IsBalanced k a j) (hit_own (machine s) (rank turned.key) (action_of turned.outcome) k a) (owns (machine s) (entries_of ds) k a)
          (outcome_or turned.key turned.outcome (key_fits (number first (entries_of ds)) turned.key ready.0.0 ready.0.1) takes each)
          (owns_or ds ready.1 takes parts.1)
      owns_or (Input y ∷ ds) ready takes h = owns_or ds ready.1 takes h

      sends_or : (ds : List Done) → AllReady s i first ds → list_all (is_turn_balanced t i) ds ≡ true → (sends (machine s) (entries_of ds) k a j ≡ 0) ⊎ IsBalanced k a j
      unfolding sends
      sends_or ds ready h = go (receives s.composition (owner_of k) a j) refl where
        go : (b : Bool) → receives s.composition (owner_of k) a j ≡ b → (cond b (owns (machine s) (entries_of ds) k a) 0 ≡ 0) ⊎ IsBalanced k a j
        go false e = inl refl
        go true e = owns_or ds ready (ap (λ l. receives s.composition l a j) (sym owned) ∙ e) h

      standing_from : is_all_sent t i ≡ true → IsBalanced k a j
      standing_from h =
          let one = and_parts _ (list_all (is_turn_balanced t i) (all_of t.done.now)) h in
          let two = and_parts (list_all (is_sent_if_from t i) t.standing.now) (list_all (is_sent_if_from t i) t.out.now) one.0 in
          let done : list_all (is_turn_balanced t i) t.done.now.before ≡ true = sym (ap (list_all (is_turn_balanced t i)) (all_before t.done.now ahead) ∙ all_reversed (is_turn_balanced t i) t.done.now.before) ∙ one.1 in
          same_or (left k a j) (right k a j)
          (both_or (IsBalanced k a j) _ _ (list_or Plus t.standing.now standing_fits two.0) (list_or Plus t.out.now out_fits two.1))
          (both_or (IsBalanced k a j) _ _ (sends_or t.done.now.before ready done) (list_or Minus t.out.now out_fits two.1))

    module _ (h : (k : ℕ) (a : Named) (j : ℕ) → owner_of k ≡ i → IsBalanced k a j) where
      good_by : (x : Signed) → Fits x → is_sent_if_from t i x ≡ true
      good_by x f = go (x.message.key.component == i) refl where
        go : (b : Bool) → (x.message.key.component == i) ≡ b → (not b || is_sent_balanced t x.message) ≡ true
        go false e = refl
        go true e =
            let owned : owner_of (rank x.message.key) ≡ i = rank_owner x.message.key f.0 f.1 ∙ eqb-true x.message.key.component i e in
            balanced_is x.message e f ∙ eq-eqb _ _ (h (rank x.message.key) x.message.action x.message.to owned)

      list_by : (xs : List Signed) → Each Fits xs → list_all (is_sent_if_from t i) xs ≡ true
      list_by xs e = each_passes (is_sent_if_from t i) Fits good_by xs e

      made_by : (key : Key) (b : Named) → KeyFits key → (js : List ℕ) → list_all (is_sent_if_from t i) (map (signed_to Minus key b) js) ≡ true
      made_by key b g [] = refl
      made_by key b g (j ∷ js) = let one = good_by (signed_to Minus key b j) g in let rest = made_by key b g js in (λ v. one v && rest v)

      outcome_by : (key : Key) (o : Outcome) → KeyFits key → list_all (is_sent_if_from t i) (signed_of s Minus i key o) ≡ true
      outcome_by key Idle g = refl
      outcome_by key (Did b) g = made_by key b g (receivers_of s.composition b i)

      turns_by : (ds : List Done) → AllReady s i first ds → list_all (is_turn_balanced t i) ds ≡ true
      turns_by [] ready = refl
      turns_by (Turn turned minuses ∷ ds) ready =
          let ends : minuses.after ≡ [] = ap (λ (q : Around Signed). q.after) ready.0.2 in
          let listed : all_of minuses ≡ reverse (signed_of s Minus i turned.key turned.outcome) = all_before minuses ends ∙ ap (λ (q : Around Signed). reverse q.before) ready.0.2 in
          let one : list_all (is_sent_if_from t i) (all_of minuses) ≡ true =
          ap (list_all (is_sent_if_from t i)) listed ∙ all_reversed (is_sent_if_from t i) (signed_of s Minus i turned.key turned.outcome)
          ∙ outcome_by turned.key turned.outcome (key_fits (number first (entries_of ds)) turned.key ready.0.0 ready.0.1) in
          let rest = turns_by ds ready.1 in
          (λ v. one v && rest v)
      turns_by (Input y ∷ ds) ready = turns_by ds ready.1

      standing_by : is_all_sent t i ≡ true
      standing_by =
          let standing = list_by t.standing.now standing_fits in
          let out = list_by t.out.now out_fits in
          let done = (ap (list_all (is_turn_balanced t i)) (all_before t.done.now ahead) ∙ all_reversed (is_turn_balanced t i) t.done.now.before) ∙ turns_by t.done.now.before ready in
          (λ v. (standing v && out v) && done v)

  -- the fields are balanced exactly where the messages stand
  pub standing_is : (first : ℕ) (states : States) (own : Option Key) (pending owed : Around Signed) (t : Sent) (b : Bool) → b ≡ is_all_sent t i → IsValidComponent s i first states t.done.now pending owed own → IsInOrder t.standing.now → IsInOrder t.out.now
      → (b ≡ true) ↔ IsStanding (machine s) i (record_of states first t.done.now pending owed) t.standing.now t.out.now
  standing_is first states own pending owed t b e kept standing out =
      (λ h k a j owned. standing_from t first standing.fits out.fits kept.ready kept.ahead k a j owned (sym e ∙ h), λ h. e ∙ standing_by t first standing.fits out.fits kept.ready kept.ahead h)
