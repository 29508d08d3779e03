-- The bounds of a window.
use Rattle.std.proofs.Common.{◌≡◌, ℕ, zero, suc, ◌+◌, ◌-◌, ◌*◌, ◌<◌, ◌≤◌, ◌==◌, ◌&&◌, ◌⊎◌, inl, inr, Bool, true, false, cond, None, Some, List, [], ◌∷◌, ◌++◌, length, length-append, refl, ap, sym, subst, ◌∙◌, arith, ltb, leb}
use Rattle.std.proofs.lemmas.Bool.{le-leb, lt-leb, eq-eqb, eqb-true, ne_eqb, cases_eq, cases_lt, cases_Bool}
use Rattle.std.proofs.Math.Nat.{mul-suc}
use Rattle.virtual_time.specs.Machine.{Lawful, Machine}
use Rattle.virtual_time.specs.Entries.{Entry, Input, Item, Own, from}
use Rattle.virtual_time.specs.Bags.{AllFrom, has, hit, inputs, insert, owns, remove, same_item, sends, times}
use Rattle.virtual_time.specs.Records.{Record, after_entry, antimessage_comes, before_last, is_input, later, message_comes, next_of, not_later, stays, without_first}
use Rattle.virtual_time.specs.Worlds.{record_of}
use Rattle.virtual_time.specs.Exchange.Stubs.{Exchange, IsSound, Stub, start_exchange}
use Rattle.virtual_time.specs.Exchange.Leases.{IsLease, Lease, Matches, start_lease}
use Rattle.virtual_time.specs.Exchange.Meetings.{Met}
use Rattle.virtual_time.specs.Exchange.Windows.{HasRoom, IsExchangeWithin, IsStubWithin, IsWithin, inboxes, inputs_done, own_turns}
use Rattle.virtual_time.proofs.Counts.{hit_cases, hit_key, hit_not, hit_self, times-remove}
use Rattle.virtual_time.proofs.Exchange.Meetings.{meet_sound}
use Rattle.virtual_time.proofs.Recorded.{first_is}

module _ {S A : Type 0} (machine : Machine S A) where
  pub times_append : (xs ys : List (Item A)) (k : ℕ) (a : A) → times machine (xs ++ ys) k a ≡ times machine xs k a + times machine ys k a
  times_append [] ys k a = omega arith
  times_append (x ∷ xs) ys k a = let h = times_append xs ys k a in omega arith

  pub sends_is : (es : List (Entry A)) (k : ℕ) (a : A) (i : ℕ) → sends machine es k a i ≡ cond (machine.receives (machine.owner k) a i) (owns machine es k a) 0
  unfolding sends
  sends_is es k a i = refl

  -- the messages with keys from b on that component j's entries sent to i
  abbrev pub told : ℕ → ℕ → ℕ → List (Entry A) → List (Item A)
  told b j i [] = []
  told b j i (Own k None ∷ es) = told b j i es
  told b j i (Own k (Some a) ∷ es) = cond (leb b k && ((machine.owner k == j) && machine.receives j a i)) (record { key = k; action = a } ∷ told b j i es) (told b j i es)
  told b j i (Input x ∷ es) = told b j i es

  pub told_few : (b j i : ℕ) (es : List (Entry A)) → length (told b j i es) ≤ own_turns es
  told_few b j i [] = omega arith
  told_few b j i (Own k None ∷ es) = let h = told_few b j i es in omega arith
  told_few b j i (Own k (Some a) ∷ es) = go (leb b k && ((machine.owner k == j) && machine.receives j a i)) (told_few b j i es)
    where
      go : (t : Bool) → length (told b j i es) ≤ own_turns es → length (cond t (record { key = k; action = a } ∷ told b j i es) (told b j i es)) ≤ suc (own_turns es)
      go true h = omega arith
      go false h = omega arith
  told_few b j i (Input x ∷ es) = told_few b j i es

  cond_add : (c d : Bool) (h o : ℕ) → cond c (cond d (h + o) 0) 0 ≡ cond c (cond d h 0) 0 + cond c (cond d o 0) 0
  cond_add true true h o = refl
  cond_add true false h o = omega arith
  cond_add false d h o = omega arith

  cond_none : (c d : Bool) → ◌≡◌ {A = ℕ} (cond c (cond d 0 0) 0) 0
  cond_none true true = refl
  cond_none true false = refl
  cond_none false d = refl

  pub cond_zero : (c : Bool) → ◌≡◌ {A = ℕ} (cond c 0 0) 0
  cond_zero true = refl
  cond_zero false = refl

  times_cond : (c : Bool) (x : Item A) (xs : List (Item A)) (k : ℕ) (a : A) → times machine (cond c (x ∷ xs) xs) k a ≡ cond c (hit machine x k a) 0 + times machine xs k a
  times_cond true x xs k a = refl
  times_cond false x xs k a = omega arith

module _ {S A : Type 0} (machine : Machine S A) (law : Lawful machine) where
  -- one own turn
  told_one : (b j i k' : ℕ) (a' : A) (k : ℕ) (a : A)
      → cond (leb b k' && ((machine.owner k' == j) && machine.receives j a' i)) (hit machine (record { key = k'; action = a' }) k a) 0
      ≡ cond (leb b k && (machine.owner k == j)) (cond (machine.receives (machine.owner k) a i) (hit machine (record { key = k'; action = a' }) k a) 0) 0
  told_one b j i k' a' k a = go (hit_cases machine law (record { key = k'; action = a' }) (record { key = k; action = a }))
    where
      h : ℕ
      h = hit machine (record { key = k'; action = a' }) k a

      same : (p q : Bool) → (machine.owner k == j) ≡ q → cond (p && (q && machine.receives j a i)) h 0 ≡ cond (p && q) (cond (machine.receives (machine.owner k) a i) h 0) 0
      same true true e =
          let o : machine.owner k ≡ j = eqb-true (machine.owner k) j e in
          ap (λ (l : ℕ). cond (machine.receives l a i) h 0) (sym o)
      same true false e = refl
      same false q e = refl

      go : (h ≡ 0) ⊎ (◌≡◌ {A = Item A} (record { key = k'; action = a' }) (record { key = k; action = a })) → cond (leb b k' && ((machine.owner k' == j) && machine.receives j a' i)) h 0 ≡ cond (leb b k && (machine.owner k == j)) (cond (machine.receives (machine.owner k) a i) h 0) 0
      go (inl z) =
          ap (λ (n : ℕ). cond (leb b k' && ((machine.owner k' == j) && machine.receives j a' i)) n 0) z ∙ cond_zero machine (leb b k' && ((machine.owner k' == j) && machine.receives j a' i))
          ∙ sym (cond_none machine (leb b k && (machine.owner k == j)) (machine.receives (machine.owner k) a i))
          ∙ ap (λ (n : ℕ). cond (leb b k && (machine.owner k == j)) (cond (machine.receives (machine.owner k) a i) n 0) 0) (sym z)
      go (inr e) =
          ap (λ (x : Item A). cond (leb b x.key && ((machine.owner x.key == j) && machine.receives j x.action i)) h 0) e
          ∙ same (leb b k) (machine.owner k == j) refl

  told_times : (b j i : ℕ) (es : List (Entry A)) (k : ℕ) (a : A)
      → times machine (told machine b j i es) k a ≡ cond (leb b k && (machine.owner k == j)) (cond (machine.receives (machine.owner k) a i) (owns machine es k a) 0) 0
  told_times b j i [] k a = sym (cond_none machine (leb b k && (machine.owner k == j)) (machine.receives (machine.owner k) a i))
  told_times b j i (Own k' None ∷ es) k a =
      let e : owns machine es k a ≡ 0 + owns machine es k a = omega arith in
      told_times b j i es k a ∙ ap (λ (n : ℕ). cond (leb b k && (machine.owner k == j)) (cond (machine.receives (machine.owner k) a i) n 0) 0) e
  told_times b j i (Own k' (Some a') ∷ es) k a =
      let x : Item A = record { key = k'; action = a' } in
      let p = times_cond machine (leb b k' && ((machine.owner k' == j) && machine.receives j a' i)) x (told machine b j i es) k a in
      let q = told_one b j i k' a' k a in
      let r = told_times b j i es k a in
      let s = cond_add machine (leb b k && (machine.owner k == j)) (machine.receives (machine.owner k) a i) (hit machine x k a) (owns machine es k a) in
      omega arith
  told_times b j i (Input x ∷ es) k a = told_times b j i es k a

  told_own : (b j i : ℕ) (es : List (Entry A)) (k : ℕ) (a : A) → machine.owner k ≡ j → b ≤ k → times machine (told machine b j i es) k a ≡ sends machine es k a i
  told_own b j i es k a e l = told_times b j i es k a ∙ rw (le-leb b k l, eq-eqb (machine.owner k) j e) (sym (sends_is machine es k a i))

  told_other : (b j i : ℕ) (es : List (Entry A)) (k : ℕ) (a : A) → (machine.owner k ≡ j → ⊥) → times machine (told machine b j i es) k a ≡ 0
  told_other b j i es k a ne = told_times b j i es k a ∙ rw (ne_eqb (machine.owner k) j ne) (none (leb b k))
    where
      none : (p : Bool) → cond (p && false) (cond (machine.receives (machine.owner k) a i) (owns machine es k a) 0) 0 ≡ 0
      none true = refl
      none false = refl

  told_low : (b j i : ℕ) (es : List (Entry A)) (k : ℕ) (a : A) → k < b → times machine (told machine b j i es) k a ≡ 0
  told_low b j i es k a l = told_times b j i es k a ∙ rw (lt-leb b k l)

  pub told_self : (b i : ℕ) (es : List (Entry A)) → told machine b i i es ≡ []
  told_self b i [] = refl
  told_self b i (Own k None ∷ es) = told_self b i es
  told_self b i (Own k (Some a) ∷ es) = rw (law.others i a) (go (leb b k) (machine.owner k == i)) ∙ told_self b i es
    where
      go : (p q : Bool) → cond (p && (q && false)) (record { key = k; action = a } ∷ told machine b i i es) (told machine b i i es) ≡ told machine b i i es
      go true true = refl
      go true false = refl
      go false q = refl
  told_self b i (Input x ∷ es) = told_self b i es

  -- what all components sent to i
  abbrev pub gathered : (ℕ → List (Entry A)) → ℕ → ℕ → ℕ → List (Item A)
  gathered sents b i zero = []
  gathered sents b i (suc n) = told machine b n i (sents n) ++ gathered sents b i n

  pub gathered_past : (sents : ℕ → List (Entry A)) (b i n k : ℕ) (a : A) → n ≤ machine.owner k → times machine (gathered sents b i n) k a ≡ 0
  gathered_past sents b i zero k a l = refl
  gathered_past sents b i (suc n) k a l =
      let h = gathered_past sents b i n k a (omega arith) in
      let t = told_other b n i (sents n) k a (λ (e : machine.owner k ≡ n). omega arith) in
      let s = times_append machine (told machine b n i (sents n)) (gathered sents b i n) k a in
      omega arith

  pub gathered_low : (sents : ℕ → List (Entry A)) (b i n k : ℕ) (a : A) → k < b → times machine (gathered sents b i n) k a ≡ 0
  gathered_low sents b i zero k a l = refl
  gathered_low sents b i (suc n) k a l =
      let h = gathered_low sents b i n k a l in
      let t = told_low b n i (sents n) k a l in
      let s = times_append machine (told machine b n i (sents n)) (gathered sents b i n) k a in
      omega arith

  pub gathered_own : (sents : ℕ → List (Entry A)) (b i n k : ℕ) (a : A) → machine.owner k < n → b ≤ k → times machine (gathered sents b i n) k a ≡ sends machine (sents (machine.owner k)) k a i
  gathered_own sents b i zero k a h l = absurd (omega arith)
  gathered_own sents b i (suc n) k a h l = go (cases_eq (machine.owner k) n) (λ (m : machine.owner k < n). gathered_own sents b i n k a m l)
    where
      go : (machine.owner k ≡ n) ⊎ (machine.owner k ≡ n → ⊥) → (machine.owner k < n → times machine (gathered sents b i n) k a ≡ sends machine (sents (machine.owner k)) k a i)
          → times machine (gathered sents b i (suc n)) k a ≡ sends machine (sents (machine.owner k)) k a i
      go (inl e) ih =
          let t = told_own b n i (sents n) k a e l in
          let u : sends machine (sents n) k a i ≡ sends machine (sents (machine.owner k)) k a i = ap (λ (j : ℕ). sends machine (sents j) k a i) (sym e) in
          let p = gathered_past sents b i n k a (omega arith) in
          let s = times_append machine (told machine b n i (sents n)) (gathered sents b i n) k a in
          omega arith
      go (inr ne) ih =
          let t = told_other b n i (sents n) k a ne in
          let g = ih (omega arith) in
          let s = times_append machine (told machine b n i (sents n)) (gathered sents b i n) k a in
          omega arith

  gathered_few : (v : ℕ) (sents : ℕ → List (Entry A)) → ((j : ℕ) → own_turns (sents j) ≤ v) → (b i n : ℕ) → length (gathered sents b i n) ≤ v * n
  gathered_few v sents few b i zero = omega arith
  gathered_few v sents few b i (suc n) =
      let h = gathered_few v sents few b i n in
      let t = told_few machine b n i (sents n) in
      let f = few n in
      let s = length-append (told machine b n i (sents n)) (gathered sents b i n) in
      let m : v * suc n ≡ v * n + v = mul-suc v n in
      omega arith

  pub gathered_less : (v : ℕ) (sents : ℕ → List (Entry A)) → ((j : ℕ) → own_turns (sents j) ≤ v) → (b i n : ℕ) → i < n → length (gathered sents b i n) ≤ v * (n - 1)
  gathered_less v sents few b i zero l = absurd (omega arith)
  gathered_less v sents few b i (suc n) l = go (cases_eq i n) (λ (m : i < n). gathered_less v sents few b i n m)
    where
      s : length (told machine b n i (sents n) ++ gathered sents b i n) ≡ length (told machine b n i (sents n)) + length (gathered sents b i n)
      s = length-append (told machine b n i (sents n)) (gathered sents b i n)

      go : (i ≡ n) ⊎ (i ≡ n → ⊥) → (i < n → length (gathered sents b i n) ≤ v * (n - 1)) → length (gathered sents b i (suc n)) ≤ v * (suc n - 1)
      go (inl e) ih =
          let none : length (told machine b n i (sents n)) ≡ 0 = subst (λ (j : ℕ). length (told machine b j i (sents n)) ≡ 0) e (ap length (told_self b i (sents n))) in
          let h = gathered_few v sents few b i n in
          let q : suc n - 1 ≡ n = omega arith in
          let s' = s in
          subst (λ (m : ℕ). length (gathered sents b i (suc n)) ≤ v * m) (sym q) (omega arith)
      go (inr ne) ih =
          let h = ih (omega arith) in
          let t = told_few machine b n i (sents n) in
          let f = few n in
          let q : suc n - 1 ≡ suc (n - 1) = omega arith in
          let m : v * suc (n - 1) ≡ v * (n - 1) + v = mul-suc v (n - 1) in
          let s' = s in
          subst (λ (m : ℕ). length (gathered sents b i (suc n)) ≤ v * m) (sym q) (omega arith)

  -- A bag that is part of another is no longer.
  one_less : (x : Item A) (ys : List (Item A)) → 0 < times machine ys x.key x.action → length ys ≡ suc (length (remove machine x ys))
  one_less x [] h = absurd (omega arith)
  one_less x (y ∷ ys) h = go (cases_Bool (same_item machine y x)) (λ (l : 0 < times machine ys x.key x.action). one_less x ys l)
    where
      go : (same_item machine y x ≡ true) ⊎ (same_item machine y x ≡ false) → (0 < times machine ys x.key x.action → length ys ≡ suc (length (remove machine x ys))) → suc (length ys) ≡ suc (length (remove machine x (y ∷ ys)))
      go (inl e) ih = rw e refl
      go (inr e) ih = let z = hit_not machine law y x e in rw e (ap suc (ih (omega arith)))

  pub part_shorter : (xs ys : List (Item A)) → ((k : ℕ) (a : A) → times machine xs k a ≤ times machine ys k a) → length xs ≤ length ys
  part_shorter [] ys part = omega arith
  part_shorter (x ∷ xs) ys part =
      let h = hit_self machine law x in
      let p = part x.key x.action in
      let some : 0 < times machine ys x.key x.action = omega arith in
      let less = one_less x ys some in
      let ih = part_shorter xs (remove machine x ys) (λ k a. let q = part k a in let r = times-remove machine law x ys k a some in omega arith) in
      omega arith

  -- A record.
  pub from_turns : (b : ℕ) (es : List (Entry A)) → own_turns (from b es) ≤ own_turns es
  from_turns b [] = omega arith
  from_turns b (Own k o ∷ es) = go (ltb k b) (from_turns b es)
    where
      go : (t : Bool) → own_turns (from b es) ≤ own_turns es → own_turns (cond t [] (Own k o ∷ from b es)) ≤ suc (own_turns es)
      go true h = omega arith
      go false h = omega arith
  from_turns b (Input x ∷ es) = go (ltb x.key b) (from_turns b es)
    where
      go : (t : Bool) → own_turns (from b es) ≤ own_turns es → own_turns (cond t [] (Input x ∷ from b es)) ≤ own_turns es
      go true h = omega arith
      go false h = h

  pub from_inputs : (b : ℕ) (es : List (Entry A)) → inputs_done (from b es) ≤ inputs_done es
  from_inputs b [] = omega arith
  from_inputs b (Own k o ∷ es) = go (ltb k b) (from_inputs b es)
    where
      go : (t : Bool) → inputs_done (from b es) ≤ inputs_done es → inputs_done (cond t [] (Own k o ∷ from b es)) ≤ inputs_done es
      go true h = omega arith
      go false h = h
  from_inputs b (Input x ∷ es) = go (ltb x.key b) (from_inputs b es)
    where
      go : (t : Bool) → inputs_done (from b es) ≤ inputs_done es → inputs_done (cond t [] (Input x ∷ from b es)) ≤ suc (inputs_done es)
      go true h = omega arith
      go false h = omega arith

  not_later_turns : (x : Item A) (es : List (Entry A)) → own_turns (not_later machine x es) ≤ own_turns es
  not_later_turns x [] = omega arith
  not_later_turns x (e ∷ es) = go e (stays machine x e) (not_later_turns x es)
    where
      go : (f : Entry A) (t : Bool) → own_turns (not_later machine x es) ≤ own_turns es → own_turns (cond t (f ∷ es) (not_later machine x es)) ≤ own_turns (f ∷ es)
      go f true h = omega arith
      go (Own k o) false h = omega arith
      go (Input y) false h = h

  before_last_turns : (x : Item A) (es : List (Entry A)) → own_turns (before_last machine x es) ≤ own_turns es
  before_last_turns x [] = omega arith
  before_last_turns x (e ∷ es) = go e (is_input machine x e) (before_last_turns x es)
    where
      go : (f : Entry A) (t : Bool) → own_turns (before_last machine x es) ≤ own_turns es → own_turns (cond t es (before_last machine x es)) ≤ own_turns (f ∷ es)
      go (Own k o) true h = omega arith
      go (Own k o) false h = omega arith
      go (Input y) true h = omega arith
      go (Input y) false h = h

  -- no delivery adds an own turn
  pub message_turns : (x : Item A) (r : Record S A) → own_turns (message_comes machine x r).done ≤ own_turns r.done
  message_turns x r = go (has machine x r.owed) (not_later_turns x r.done)
    where
      go : (t : Bool) → own_turns (not_later machine x r.done) ≤ own_turns r.done
          → own_turns (cond {A = Record S A} t (record { base = r.base; first = r.first; done = r.done; pending = r.pending; owed = remove machine x r.owed })
          (record { base = r.base; first = r.first; done = not_later machine x r.done; pending = insert machine x (Rattle.virtual_time.specs.Records.returned machine (later machine x r.done) r.pending); owed = r.owed })).done ≤ own_turns r.done
      go true h = omega arith
      go false h = h

  pub antimessage_turns : (x : Item A) (r : Record S A) → own_turns (antimessage_comes machine x r).done ≤ own_turns r.done
  antimessage_turns x r = go (has machine x r.pending) (ltb 0 (inputs machine r.done x.key x.action)) (before_last_turns x r.done)
    where
      cancelled : List (Item A) → List (Entry A) → Record S A
      cancelled xs es = record { base = r.base; first = r.first; done = es; pending = xs; owed = r.owed }

      owing : Record S A
      owing = record { base = r.base; first = r.first; done = r.done; pending = r.pending; owed = insert machine x r.owed }

      go : (p t : Bool) → own_turns (before_last machine x r.done) ≤ own_turns r.done
          → own_turns (cond p (cancelled (remove machine x r.pending) r.done) (cond t (cancelled (remove machine x (Rattle.virtual_time.specs.Records.returned machine (Rattle.virtual_time.specs.Records.back_until machine x r.done) r.pending)) (before_last machine x r.done)) owing)).done ≤ own_turns r.done
      go true t h = omega arith
      go false true h = h
      go false false h = omega arith

  -- processing within the window
  pub process_within : (v count i : ℕ) (e : Entry A) (r : Record S A) → next_of machine i r ≡ Some e → HasRoom v r e → IsWithin v count r → IsWithin v count (after_entry e r)
  process_within v count i (Own k o) r h room w = let l = w.turns in record { turns = room; inputs = w.inputs }
  process_within v count i (Input x) r h room w =
      let l = w.inputs in
      let p : length r.pending ≡ suc (length (without_first r.pending)) = ap length (first_is machine i x r r.pending h) in
      record { turns = w.turns; inputs = omega arith }

  -- The inputs of a record are no more than what its lease has taken, where the tray is empty.
  pub inputs_list : List (Entry A) → List (Item A)
  inputs_list [] = []
  inputs_list (Own k o ∷ es) = inputs_list es
  inputs_list (Input x ∷ es) = x ∷ inputs_list es

  pub list_length : (es : List (Entry A)) → length (inputs_list es) ≡ inputs_done es
  unfolding inputs_list
  list_length [] = refl
  list_length (Own k o ∷ es) = list_length es
  list_length (Input x ∷ es) = ap suc (list_length es)

  pub list_times : (es : List (Entry A)) (k : ℕ) (a : A) → times machine (inputs_list es) k a ≡ inputs machine es k a
  unfolding inputs_list
  list_times [] k a = refl
  list_times (Own k' o ∷ es) k a = list_times es k a
  list_times (Input x ∷ es) k a = let h = list_times es k a in omega arith

  pub settled_inputs : (v count i : ℕ) (st : Stub A) (l : Lease S A) → IsLease machine i l → Matches machine i st l → IsStubWithin machine v count i st → l.part.plus ≡ [] → l.part.minus ≡ []
      → inputs_done l.part.done + length l.part.pending ≤ v * (count - 1)
  settled_inputs v count i st l lease match within np nm =
      let a = length-append (inputs_list l.part.done) l.part.pending in
      let b = list_length l.part.done in
      let c = part_shorter (inputs_list l.part.done ++ l.part.pending) within.took (λ k x. less k x (lease.proper.owed k x) (match.taken k x) (within.taken k x)) in
      let f = within.few in
      omega arith
    where
      less : (k : ℕ) (x : A) → (times machine l.part.owed k x ≡ 0) ⊎ (times machine l.part.pending k x + inputs machine l.part.done k x ≡ 0)
          → st.taken k x + times machine l.part.owed k x + times machine l.part.minus k x ≡ inputs machine l.part.done k x + times machine l.part.pending k x + times machine l.part.plus k x
          → st.taken k x ≡ times machine within.took k x
          → times machine (inputs_list l.part.done ++ l.part.pending) k x ≤ times machine within.took k x
      less k x o m t =
          let s = times_append machine (inputs_list l.part.done) l.part.pending k x in
          let u = list_times l.part.done k x in
          let p : times machine l.part.plus k x ≡ 0 = ap (λ (xs : List (Item A)). times machine xs k x) np in
          let n : times machine l.part.minus k x ≡ 0 = ap (λ (xs : List (Item A)). times machine xs k x) nm in
          omega arith

  sends_self : (es : List (Entry A)) (k : ℕ) (a : A) (i : ℕ) → machine.owner k ≡ i → sends machine es k a i ≡ 0
  sends_self es k a i e =
      let r : machine.receives (machine.owner k) a i ≡ false = subst (λ (j : ℕ). machine.receives j a i ≡ false) (sym e) (law.others i a) in
      sends_is machine es k a i ∙ rw r

  -- A meeting keeps the window.
  module _ (v count i : ℕ) (e : Exchange A) (is : IsSound machine count e) (l : Lease S A) (lease : IsLease machine i l) (match : Matches machine i (e.stub i) l) (e' : Exchange A) (l' : Lease S A) (met : Met machine i e l e' l')
      (low : i < count) (within : IsExchangeWithin machine v count e) (mine : IsWithin v count (record_of l.part)) where
    pub meet_lease : IsWithin v count (record_of l'.part)
    meet_lease =
        let d : own_turns l'.part.done ≡ own_turns (from e.bound l.part.done) = ap own_turns met.done in
        let t = from_turns e.bound l.part.done in
        let n : inputs_done l'.part.done ≡ inputs_done (from e.bound l.part.done) = ap inputs_done met.done in
        let m = from_inputs e.bound l.part.done in
        let p : length l'.part.pending ≡ length l.part.pending = ap length met.pending in
        let a = mine.turns in
        let b = mine.inputs in
        record { turns = omega arith; inputs = omega arith }

    abbrev sents : ℕ → List (Entry A)
    sents j = (within.stubs j).sent

    sound : IsSound machine count e'
    sound = meet_sound machine law i e is l lease match e' l' met

    -- what it has taken is what is standing of the others
    taken_high : (k : ℕ) (a : A) → e.bound ≤ k → (e'.stub i).taken k a ≡ (e'.stub (machine.owner k)).standing k a i
    taken_high k a high =
        let b : e'.bound ≤ k = subst (λ (g : ℕ). g ≤ k) (sym met.bound) high in
        let v' = sound.even i k a b in
        let p : times machine (e'.stub i).plus k a ≡ 0 = ap (λ (xs : List (Item A)). times machine xs k a) met.inbox_plus in
        let m : times machine (e'.stub i).minus k a ≡ 0 = ap (λ (xs : List (Item A)). times machine xs k a) met.inbox_minus in
        omega arith

    taken_low : (k : ℕ) (a : A) → k < e.bound → (e'.stub i).taken k a ≡ 0
    taken_low k a l = sound.low_taken i k a (subst (λ (b : ℕ). k < b) (sym met.base ∙ met.matches.base) l)

    taken_self : (k : ℕ) (a : A) → machine.owner k ≡ i → (e'.stub (machine.owner k)).standing k a i ≡ 0
    taken_self k a o =
        let s = met.matches.standing k a i o in
        let p : times machine (l'.out_plus i) k a ≡ 0 = ap (λ (xs : List (Item A)). times machine xs k a) (met.out_plus i) in
        let m : times machine (l'.out_minus i) k a ≡ 0 = ap (λ (xs : List (Item A)). times machine xs k a) (met.out_minus i) in
        let z = sends_self l'.part.done k a i o in
        let q : (e'.stub i).standing k a i ≡ 0 = omega arith in
        subst (λ (j : ℕ). (e'.stub j).standing k a i ≡ 0) (sym o) q

    taken_is : (k : ℕ) (a : A) → (e'.stub i).taken k a ≡ times machine (gathered sents e.bound i count) k a
    taken_is k a = go (cases_lt k e.bound) (cases_lt (machine.owner k) count) (cases_eq (machine.owner k) i)
      where
        go : (k < e.bound) ⊎ (e.bound ≤ k) → (machine.owner k < count) ⊎ (count ≤ machine.owner k) → (machine.owner k ≡ i) ⊎ (machine.owner k ≡ i → ⊥)
            → (e'.stub i).taken k a ≡ times machine (gathered sents e.bound i count) k a
        go (inl l) c o = taken_low k a l ∙ sym (gathered_low sents e.bound i count k a l)
        go (inr h) (inl c) (inl o) = taken_high k a h ∙ taken_self k a o ∙ sym (gathered_own sents e.bound i count k a c h ∙ sends_self (sents (machine.owner k)) k a i o)
        go (inr h) (inl c) (inr ne) =
            taken_high k a h ∙ ap (λ (st : Stub A). st.standing k a i) (met.others (machine.owner k) ne)
            ∙ (within.stubs (machine.owner k)).standing k a i refl ∙ sym (gathered_own sents e.bound i count k a c h)
        go (inr h) (inr c) o =
            let ne : machine.owner k ≡ i → ⊥ = λ (f : machine.owner k ≡ i). omega arith in
            taken_high k a h ∙ ap (λ (st : Stub A). st.standing k a i) (met.others (machine.owner k) ne)
            ∙ (within.stubs (machine.owner k)).silent c k a i ∙ sym (gathered_past sents e.bound i count k a c)

    stub_mine : IsStubWithin machine v count i (e'.stub i)
    stub_mine =
        let w = meet_lease in
        record {
          sent = l'.part.done;
          turns = w.turns;
          standing = λ k a j o.
              let s = met.matches.standing k a j o in
              let p : times machine (l'.out_plus j) k a ≡ 0 = ap (λ (xs : List (Item A)). times machine xs k a) (met.out_plus j) in
              let m : times machine (l'.out_minus j) k a ≡ 0 = ap (λ (xs : List (Item A)). times machine xs k a) (met.out_minus j) in
              omega arith;
          silent = λ c. absurd (omega arith);
          took = gathered sents e.bound i count;
          few = gathered_less v sents (λ j. (within.stubs j).turns) e.bound i count low;
          taken = taken_is;
        }

    stub_other : (j : ℕ) → (j ≡ i → ⊥) → IsStubWithin machine v count j (e'.stub j)
    stub_other j ne =
        let w = within.stubs j in
        subst (λ (st : Stub A). IsStubWithin machine v count j st) (sym (met.others j ne))
        (record { sent = w.sent; turns = w.turns; standing = w.standing; silent = w.silent; took = w.took; few = w.few; taken = w.taken })

    pub meet_within : IsExchangeWithin machine v count e'
    meet_within = record { stubs = λ j. stubs j (cases_eq j i); apart = λ j k a. apart j k a (cases_eq j i) }
      where
        stubs : (j : ℕ) → (j ≡ i) ⊎ (j ≡ i → ⊥) → IsStubWithin machine v count j (e'.stub j)
        stubs j (inl o) = subst (λ (n : ℕ). IsStubWithin machine v count n (e'.stub n)) (sym o) stub_mine
        stubs j (inr ne) = stub_other j ne

        apart : (j k : ℕ) (a : A) → (j ≡ i) ⊎ (j ≡ i → ⊥) → (times machine (e'.stub j).plus k a ≡ 0) ⊎ (times machine (e'.stub j).minus k a ≡ 0)
        apart j k a (inl o) = inl (ap (λ (n : ℕ). times machine (e'.stub n).plus k a) o ∙ ap (λ (xs : List (Item A)). times machine xs k a) met.inbox_plus)
        apart j k a (inr ne) = subst (λ (st : Stub A). (times machine st.plus k a ≡ 0) ⊎ (times machine st.minus k a ≡ 0)) (sym (met.others j ne)) (met.apart j k a)

  pub none_low : {count : ℕ} (e : Exchange A) → IsSound machine count e → (xs : List (Item A)) (k : ℕ) (a : A) → AllFrom e.bound xs → k < e.bound → times machine xs k a ≡ 0
  none_low e is [] k a p l = refl
  none_low e is (x ∷ xs) k a p l =
      let h = none_low e is xs k a p.1 l in
      let f = p.0 in
      let z : hit machine x k a ≡ 0 = hit_key machine law x k a (λ (q : x.key ≡ k). omega arith) in
      omega arith

  -- All inboxes together.
  module _ (v count : ℕ) (e : Exchange A) (is : IsSound machine count e) (within : IsExchangeWithin machine v count e) where
    plus_part : (j k : ℕ) (a : A) → times machine (e.stub j).plus k a ≤ times machine (gathered (λ n. (within.stubs n).sent) e.bound j count) k a
    plus_part j k a = go (cases_lt k e.bound) (cases_lt (machine.owner k) count)
      where
        go : (k < e.bound) ⊎ (e.bound ≤ k) → (machine.owner k < count) ⊎ (count ≤ machine.owner k) → times machine (e.stub j).plus k a ≤ times machine (gathered (λ n. (within.stubs n).sent) e.bound j count) k a
        go (inl l) c = let z = none_low e is (e.stub j).plus k a (is.plus j) l in omega arith
        go (inr h) (inl c) =
            let g = gathered_own (λ n. (within.stubs n).sent) e.bound j count k a c h in
            let s = (within.stubs (machine.owner k)).standing k a j refl in
            let v' = is.even j k a h in
            let o = within.apart j k a in
            omega arith
        go (inr h) (inr c) =
            let s = (within.stubs (machine.owner k)).silent c k a j in
            let v' = is.even j k a h in
            let o = within.apart j k a in
            omega arith

    minus_part : (j k : ℕ) (a : A) → times machine (e.stub j).minus k a ≤ times machine (within.stubs j).took k a
    minus_part j k a = go (cases_lt k e.bound)
      where
        go : (k < e.bound) ⊎ (e.bound ≤ k) → times machine (e.stub j).minus k a ≤ times machine (within.stubs j).took k a
        go (inl l) = let z = none_low e is (e.stub j).minus k a (is.minus j) l in omega arith
        go (inr h) =
            let t = (within.stubs j).taken k a in
            let v' = is.even j k a h in
            let o = within.apart j k a in
            omega arith

    inbox_few : (j : ℕ) → j < count → length (e.stub j).plus + length (e.stub j).minus ≤ 2 * (v * (count - 1))
    inbox_few j l =
        let p = part_shorter (e.stub j).plus (gathered (λ n. (within.stubs n).sent) e.bound j count) (λ k a. plus_part j k a) in
        let g = gathered_less v (λ n. (within.stubs n).sent) (λ n. (within.stubs n).turns) e.bound j count l in
        let m = part_shorter (e.stub j).minus (within.stubs j).took (λ k a. minus_part j k a) in
        let f = (within.stubs j).few in
        omega arith

    pub inboxes_few : (n : ℕ) → n ≤ count → inboxes e n ≤ 2 * (v * (count - 1)) * n
    inboxes_few zero l = omega arith
    inboxes_few (suc n) l =
        let h = inboxes_few n (omega arith) in
        let b = inbox_few n (omega arith) in
        let m : 2 * (v * (count - 1)) * suc n ≡ 2 * (v * (count - 1)) * n + 2 * (v * (count - 1)) = mul-suc (2 * (v * (count - 1))) n in
        omega arith

  -- The start, a commit and a chunk.
  pub start_within : (v count : ℕ) → IsExchangeWithin machine v count (start_exchange machine)
  start_within v count =
      record {
        stubs = λ j. record { sent = []; turns = omega arith; standing = λ k a i o. sym (sends_is machine [] k a i ∙ cond_zero machine (machine.receives (machine.owner k) a i)); silent = λ c k a i. refl; took = []; few = omega arith; taken = λ k a. refl };
        apart = λ j k a. inl refl;
      }

  pub start_lease_within : (v count i : ℕ) → IsWithin v count (record_of (start_lease machine i).part)
  start_lease_within v count i = record { turns = omega arith; inputs = omega arith }
