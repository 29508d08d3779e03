-- What one walk along both sides shows of the messages that a component sent.
use Rattle.std.proofs.Common.{◌≡◌, ℕ, zero, suc, ◌+◌, ◌<◌, ◌≤◌, Bool, true, false, cond, List, [], ◌∷◌, map, reverse, refl, ap, sym, subst, ◌∙◌, arith}
use Rattle.std.specs.Prelude.{count_by, nat_lt}
use mathlib.Core.List.{reverse_aux}
use Rattle.std.proofs.lemmas.Bool.{eq-eqb}
use Rattle.terms.specs.Named.{Named}
use Rattle.event_keys.specs.declared.key.Key.{Key}
use Rattle.event_keys.specs.declared.message.Message.{Message}
use Rattle.event_keys.specs.declared.message.Sign.TheVariants.{Minus}
use Rattle.event_keys.specs.declared.message.Signed.{Signed}
use Rattle.event_keys.specs.declared.outcome.Outcome.{Outcome}
use Rattle.event_keys.specs.declared.outcome.Outcome.TheVariants.{Idle, Did}
use Rattle.event_keys.specs.declared.outcome.Turned.{Turned}
use Rattle.raw_events.specs.Around.{Around}
use Rattle.antimessage.proofs.Counting.{signed_decides}
use Rattle.antimessage.specs.Bags.{is_one}
use Rattle.antimessage.specs.Counts.{minus}
use Rattle.io_automata.specs.Automata.{Instance}
use Rattle.io_automata.specs.Receivers.{Rising}
use Rattle.io_automata.specs.Signatures.{receivers_of}
use Rattle.virtual_time.specs.Entries.{number}
use Rattle.task_seed.specs.Turning.{System}
use Rattle.message_balance.specs.declared.done.Done.{Done}
use Rattle.message_balance.specs.declared.done.Done.TheVariants.{Turn, Input}
use Rattle.message_balance.specs.declared.sent.Sent.{Sent}
use Rattle.rollback.specs.ComponentInvariant.{AllReady, IsReady, entries_of, signed_of}
use Rattle.message_balance.specs.Balance.{all_of, count_as, count_standing, is_all_sent, is_sending_of}
use Rattle.rollback.specs.Post.{signed_to}
use Rattle.message_balance.specs.Walks.{count_turns}
use Rattle.message_balance.proofs.AllBalanced.{all_sent}
use Rattle.message_balance.proofs.Counting.{all_before, count_next, count_none, count_reversed}

-- a turn sends each message at most once, since its receivers are listed once
one_at_most : (n : ℕ) → n ≤ 1 → n ≡ cond (nat_lt 0 n) 1 0
one_at_most zero h = refl
one_at_most (suc zero) h = refl
one_at_most (suc (suc n)) h = absurd (omega (arith, h))

module _ (m : Message) (key : Key) (b : Named) where
  abbrev made : ℕ → Signed
  made = signed_to Minus key b

  other_receiver : (j : ℕ) → (j ≡ m.to → ⊥) → is_one (minus m) (made j) ≡ false
  other_receiver j ne = go (is_one (minus m) (made j)) refl where
    go : (c : Bool) → is_one (minus m) (made j) ≡ c → c ≡ false
    go false e = refl
    go true e = absurd (ne (ap (λ (y : Signed). y.message.to) ((signed_decides (made j) (minus m)).0 e)))

  none_after : (a : ℕ) (js : List ℕ) → Rising a js → m.to < a → count_as Minus m (map made js) ≡ 0
  none_after a [] r less = refl
  none_after a (j ∷ js) r less =
      let low = r.0 in
      sym (count_none (is_one (minus m)) (made j) (map made js) (other_receiver j (λ e. omega (arith, low, less, e)))) ∙ none_after (j + 1) js r.1 (omega (arith, low, less))

  once_at_most : (a : ℕ) (js : List ℕ) → Rising a js → count_as Minus m (map made js) ≤ 1
  once_at_most a [] r = omega arith
  once_at_most a (j ∷ js) r = go (once_at_most (j + 1) js r.1) (is_one (minus m) (made j)) refl where
    go : count_as Minus m (map made js) ≤ 1 → (c : Bool) → is_one (minus m) (made j) ≡ c → count_as Minus m (map made (j ∷ js)) ≤ 1
    go rest false e = subst (λ n. n ≤ 1) (count_none (is_one (minus m)) (made j) (map made js) e) rest
    go rest true e =
        let here : j ≡ m.to = ap (λ (y : Signed). y.message.to) ((signed_decides (made j) (minus m)).0 e) in
        let later = none_after (j + 1) js r.1 (omega (arith, here)) in
        let all = sym (count_next (is_one (minus m)) (made j) (map made js)) ∙ ap (λ (c : Bool). cond c 1 0 + count_as Minus m (map made js)) e in
        omega (arith, all, later)

module _ (s : System) (i : ℕ) (once : (composition : List Instance) (action : Named) (sender : ℕ) → Rising 0 (receivers_of composition action sender)) (m : Message) where
  outcome_once : (key : Key) (o : Outcome) → count_as Minus m (signed_of s Minus i key o) ≤ 1
  outcome_once key Idle = omega arith
  outcome_once key (Did b) = once_at_most m key b 0 (receivers_of s.composition b i) (once s.composition b i)

  turn_once : (n : ℕ) (turned : Turned) (minuses : Around Signed) → IsReady s i n (Turn turned minuses) → count_as Minus m (all_of minuses) ≡ cond (is_sending_of m (Turn turned minuses)) 1 0
  turn_once n turned minuses ready =
      let ends : minuses.after ≡ [] = ap (λ (q : Around Signed). q.after) ready.2 in
      let listed : all_of minuses ≡ reverse (signed_of s Minus i turned.key turned.outcome) = all_before minuses ends ∙ ap (λ (q : Around Signed). reverse q.before) ready.2 in
      let count = ap (count_as Minus m) listed ∙ count_reversed (is_one (minus m)) (signed_of s Minus i turned.key turned.outcome) in
      let few = outcome_once turned.key turned.outcome in
      one_at_most (count_as Minus m (all_of minuses)) (omega (arith, count, few))

  -- among done entries, the newest first
  turns_count : (first : ℕ) (ds : List Done) → AllReady s i first ds → count_turns m ds ≡ count_by (is_sending_of m) ds
  turns_count first [] ready = refl
  turns_count first (Turn turned minuses ∷ ds) ready =
      let one = turn_once (number first (entries_of ds)) turned minuses ready.0 in
      let rest = turns_count first ds ready.1 in
      (λ v. one v + rest v) ∙ count_next (is_sending_of m) (Turn turned minuses) ds
  turns_count first (Input y ∷ ds) ready = turns_count first ds ready.1 ∙ count_none (is_sending_of m) (Input y) ds refl

  turns_along : (xs ys : List Done) → count_turns m (reverse_aux xs ys) ≡ count_turns m xs + count_turns m ys
  turns_along [] ys = omega arith
  turns_along (Turn turned minuses ∷ xs) ys = let rest = turns_along xs (Turn turned minuses ∷ ys) in omega (arith, rest)
  turns_along (Input y ∷ xs) ys = turns_along xs (Input y ∷ ys)

  -- among all of them
  all_turns_count : (first : ℕ) (done : Around Done) → AllReady s i first done.before → done.after ≡ [] → count_turns m (all_of done) ≡ count_by (is_sending_of m) (all_of done)
  all_turns_count first done ready ahead =
      let all = all_before done ahead in
      let along : count_turns m (reverse done.before) ≡ count_turns m done.before = (let e = turns_along done.before [] in omega (arith, e)) in
      ap (count_turns m) all ∙ along ∙ turns_count first done.before ready ∙ sym (count_reversed (is_sending_of m) done.before) ∙ sym (ap (count_by (is_sending_of m)) all)

-- what one walk along both sides shows of the messages that a component sent
pub all_sent_by : (s : System) (i first : ℕ) → ((composition : List Instance) (action : Named) (sender : ℕ) → Rising 0 (receivers_of composition action sender)) → (t : Sent) → AllReady s i first t.done.now.before → t.done.now.after ≡ []
    → ((m : Message) → count_standing m (record { standing = t.standing.now; out = t.out.now }) ≡ count_turns m (all_of t.done.now) + count_as Minus m t.out.now) → is_all_sent t i ≡ true
all_sent_by s i first once t ready ahead h =
    all_sent t i (λ m. eq-eqb _ _ (h m ∙ ap (λ n. n + count_as Minus m t.out.now) (all_turns_count s i once m first t.done.now ready ahead)))
