-- The bounds of a window, where components are held in groups.
use Rattle.std.proofs.Common.{◌≡◌, ℕ, zero, suc, ◌+◌, ◌-◌, ◌*◌, ◌<◌, ◌≤◌, ◌==◌, ◌⊎◌, inl, inr, Bool, cond, List, [], ◌++◌, length, length-append, refl, ap, sym, subst, ◌∙◌, arith}
use Rattle.std.proofs.lemmas.Bool.{eq-eqb, ne_eqb, cases_eq, cases_lt}
use Rattle.std.proofs.Math.Nat.{mul-suc}
use Rattle.virtual_time.specs.Machine.{Lawful, Machine}
use Rattle.virtual_time.specs.Entries.{Entry, Item, from}
use Rattle.virtual_time.specs.Bags.{sends, times}
use Rattle.virtual_time.specs.Worlds.{record_of}
use Rattle.virtual_time.specs.Exchange.Windows.{IsWithin, inputs_done, own_turns}
use Rattle.virtual_time.specs.Groups.Stubs.{Exchange, IsSound, Stub, between, start_exchange, within}
use Rattle.virtual_time.specs.Groups.Leases.{IsLease, Lease, Matches}
use Rattle.virtual_time.specs.Groups.Meetings.{Met}
use Rattle.virtual_time.specs.Groups.Windows.{AreAmong, IsExchangeWithin, IsStubWithin, crossings, inboxes, strangers}
use Rattle.virtual_time.proofs.Joint.{all_zero}
use Rattle.virtual_time.proofs.Exchange.Chunks.{no_sends}
use Rattle.virtual_time.proofs.Exchange.Windowed.{from_inputs, from_turns, gathered, gathered_low, gathered_own, gathered_past, inputs_list, list_length, list_times, part_shorter, times_append, told, told_few, told_self}
use Rattle.virtual_time.proofs.Groups.Parts.{none, passes, stays}
use Rattle.virtual_time.proofs.Groups.Meetings.{meet_sound}

pub mul_sum : (v a b : ℕ) → v * (a + b) ≡ v * a + v * b
mul_sum v a zero =
    let z : a + 0 ≡ a = omega arith in
    let o : v * 0 ≡ 0 = omega arith in
    ap (λ (n : ℕ). v * n) z ∙ omega (arith, o)
mul_sum v a (suc b) =
    let z : a + suc b ≡ suc (a + b) = omega arith in
    let h = mul_sum v a b in
    let s : v * suc (a + b) ≡ v * (a + b) + v = mul-suc v (a + b) in
    let t : v * suc b ≡ v * b + v = mul-suc v b in
    ap (λ (n : ℕ). v * n) z ∙ omega (arith, h, s, t)

module _ {S A : Type 0} (machine : Machine S A) (law : Lawful machine) (group : ℕ → ℕ) (v : ℕ) where
  -- what components of other groups sent
  strangers_few : (g : ℕ) (sents : ℕ → List (Entry A)) → ((n : ℕ) → group n ≡ g → sents n ≡ []) → ((n : ℕ) → own_turns (sents n) ≤ v) → (b i n : ℕ) → length (gathered machine law sents b i n) ≤ v * strangers group n g
  strangers_few g sents empty few b i zero = omega arith
  strangers_few g sents empty few b i (suc n) = go (strangers_few g sents empty few b i n) (cases_eq (group n) g)
    where
      s : length (told machine b n i (sents n) ++ gathered machine law sents b i n) ≡ length (told machine b n i (sents n)) + length (gathered machine law sents b i n)
      s = length-append (told machine b n i (sents n)) (gathered machine law sents b i n)

      go : length (gathered machine law sents b i n) ≤ v * strangers group n g → (group n ≡ g) ⊎ (group n ≡ g → ⊥)
          → length (told machine b n i (sents n) ++ gathered machine law sents b i n) ≤ v * cond (group n == g) (strangers group n g) (suc (strangers group n g))
      go ih (inl e) =
          let t : length (told machine b n i (sents n)) ≡ 0 = ap (λ (es : List (Entry A)). length (told machine b n i es)) (empty n e) in
          let s' = s in
          rw (eq-eqb (group n) g e) (omega arith)
      go ih (inr ne) =
          let t = told_few machine b n i (sents n) in
          let f = few n in
          let m : v * suc (strangers group n g) ≡ v * strangers group n g + v = mul-suc v (strangers group n g) in
          let s' = s in
          rw (ne_eqb (group n) g ne) (omega arith)

  -- with what the components of the own group sent
  companions_few : (g : ℕ) (sents : ℕ → List (Entry A)) → ((n : ℕ) → (group n ≡ g → ⊥) → sents n ≡ []) → ((n : ℕ) → own_turns (sents n) ≤ v) → (b i : ℕ) → group i ≡ g → (n : ℕ)
      → (n ≤ i → length (gathered machine law sents b i n) + v * strangers group n g ≤ v * n) × (i < n → length (gathered machine law sents b i n) + v * strangers group n g ≤ v * (n - 1))
  companions_few g sents empty few b i own zero = (λ l. omega arith, λ l. absurd (omega arith))
  companions_few g sents empty few b i own (suc n) = go (companions_few g sents empty few b i own n) (cases_eq (group n) g) (cases_eq n i)
    where
      s : length (told machine b n i (sents n) ++ gathered machine law sents b i n) ≡ length (told machine b n i (sents n)) + length (gathered machine law sents b i n)
      s = length-append (told machine b n i (sents n)) (gathered machine law sents b i n)

      back : suc n - 1 ≡ n
      back = omega arith

      go : (n ≤ i → length (gathered machine law sents b i n) + v * strangers group n g ≤ v * n) × (i < n → length (gathered machine law sents b i n) + v * strangers group n g ≤ v * (n - 1))
          → (group n ≡ g) ⊎ (group n ≡ g → ⊥) → (n ≡ i) ⊎ (n ≡ i → ⊥)
          → (suc n ≤ i → length (told machine b n i (sents n) ++ gathered machine law sents b i n) + v * cond (group n == g) (strangers group n g) (suc (strangers group n g)) ≤ v * suc n)
          × (i < suc n → length (told machine b n i (sents n) ++ gathered machine law sents b i n) + v * cond (group n == g) (strangers group n g) (suc (strangers group n g)) ≤ v * (suc n - 1))
      go ih (inl e) (inl q) =
          let t : length (told machine b n i (sents n)) ≡ 0 = subst (λ (j : ℕ). length (told machine b n j (sents n)) ≡ 0) q (ap length (told_self machine law b n (sents n))) in
          let a = ih.0 (omega arith) in
          let s' = s in
          (λ l. absurd (omega arith), λ l. rw (eq-eqb (group n) g e, back) (omega arith))
      go ih (inr ne) (inl q) = absurd (ne (ap group q ∙ own))
      go ih (inl e) (inr nq) =
          let t = told_few machine b n i (sents n) in
          let f = few n in
          let s' = s in
          let m : v * suc n ≡ v * n + v = mul-suc v n in (
            λ l. let a = ih.0 (omega arith) in rw (eq-eqb (group n) g e) (omega arith),
            λ l. let a = ih.1 (omega arith) in let k : suc (n - 1) ≡ n = omega arith in let m' : v * suc (n - 1) ≡ v * (n - 1) + v = mul-suc v (n - 1) in let m'' : v * suc (n - 1) ≡ v * n = ap (λ (x : ℕ). v * x) k in rw (eq-eqb (group n) g e, back) (omega arith),
          )
      go ih (inr ne) (inr nq) =
          let t : length (told machine b n i (sents n)) ≡ 0 = ap (λ (es : List (Entry A)). length (told machine b n i es)) (empty n ne) in
          let s' = s in
          let p : v * suc (strangers group n g) ≡ v * strangers group n g + v = mul-suc v (strangers group n g) in
          let m : v * suc n ≡ v * n + v = mul-suc v n in (
            λ l. let a = ih.0 (omega arith) in rw (ne_eqb (group n) g ne) (omega arith),
            λ l. let a = ih.1 (omega arith) in let k : suc (n - 1) ≡ n = omega arith in let m' : v * suc (n - 1) ≡ v * (n - 1) + v = mul-suc v (n - 1) in let m'' : v * suc (n - 1) ≡ v * n = ap (λ (x : ℕ). v * x) k in rw (ne_eqb (group n) g ne, back) (omega arith),
          )

  -- The inputs of a record, where nothing is in flight to its component.
  module _ (count g : ℕ) (inside : AreAmong group count g) (st : Stub A) (l : Lease S A) (lease : IsLease machine group g l) (match : Matches machine group g st l) (stub : IsStubWithin machine group v count g st)
      (turns : (i : ℕ) → group i ≡ g → own_turns (l.part i).done ≤ v) where
    abbrev inner : ℕ → List (Entry A)
    inner n = cond (group n == g) (l.part n).done []

    inner_few : (n : ℕ) → own_turns (inner n) ≤ v
    inner_few n = go (cases_eq (group n) g)
      where
        go : (group n ≡ g) ⊎ (group n ≡ g → ⊥) → own_turns (cond (group n == g) (l.part n).done []) ≤ v
        go (inl e) = rw (eq-eqb (group n) g e) (turns n e)
        go (inr ne) = rw (ne_eqb (group n) g ne) (omega arith)

    inner_none : (n : ℕ) → (group n ≡ g → ⊥) → inner n ≡ []
    inner_none n ne = rw (ne_eqb (group n) g ne)

    inner_part : (i k : ℕ) (a : A) → group i ≡ g → (group (machine.owner k) ≡ g) ⊎ (group (machine.owner k) ≡ g → ⊥) → within machine group k i (sends machine (l.part (machine.owner k)).done k a i) ≤ times machine (gathered machine law inner 0 i count) k a
    inner_part i k a own (inl mine) =
        let w = (stays machine group k i (sends machine (l.part (machine.owner k)).done k a i) (mine ∙ sym own)).1 in
        let x = gathered_own machine law inner 0 i count k a (inside (machine.owner k) mine) (omega arith) in
        let y : sends machine (inner (machine.owner k)) k a i ≡ sends machine (l.part (machine.owner k)).done k a i
        = subst (λ (b : Bool). sends machine (cond b (l.part (machine.owner k)).done []) k a i ≡ sends machine (l.part (machine.owner k)).done k a i) (sym (eq-eqb (group (machine.owner k)) g mine)) refl in
        omega arith
    inner_part i k a own (inr ne) =
        let w = (passes machine group k i (sends machine (l.part (machine.owner k)).done k a i) (λ q. ne (q ∙ own))).1 in
        omega arith

    pub settled_inputs : (i : ℕ) → group i ≡ g → (l.part i).plus ≡ [] → (l.part i).minus ≡ [] → inputs_done (l.part i).done + length (l.part i).pending ≤ v * (count - 1)
    settled_inputs i own np nm =
        let a = length-append (inputs_list machine law (l.part i).done) (l.part i).pending in
        let b = list_length machine law (l.part i).done in
        let d = length-append (stub.took i) (gathered machine law inner 0 i count) in
        let c = part_shorter machine law (inputs_list machine law (l.part i).done ++ (l.part i).pending) (stub.took i ++ gathered machine law inner 0 i count) (λ k x. less k x) in
        let f = stub.few i own in
        let h = (companions_few g inner inner_none inner_few 0 i own count).1 (inside i own) in
        omega arith
      where
        less : (k : ℕ) (x : A) → times machine (inputs_list machine law (l.part i).done ++ (l.part i).pending) k x ≤ times machine (stub.took i ++ gathered machine law inner 0 i count) k x
        less k x =
            let o = (lease.proper i own).owed k x in
            let m = match.taken i k x own in
            let t = stub.taken i k x own in
            let w = inner_part i k x own (cases_eq (group (machine.owner k)) g) in
            let s = times_append machine (inputs_list machine law (l.part i).done) (l.part i).pending k x in
            let u = list_times machine law (l.part i).done k x in
            let r = times_append machine (stub.took i) (gathered machine law inner 0 i count) k x in
            let p : times machine (l.part i).plus k x ≡ 0 = ap (λ (xs : List (Item A)). times machine xs k x) np in
            let n : times machine (l.part i).minus k x ≡ 0 = ap (λ (xs : List (Item A)). times machine xs k x) nm in
            omega arith

  -- A meeting keeps the window.
  module _ (count g : ℕ) (inside : AreAmong group count g) (e : Exchange A) (is : IsSound machine group count e) (l : Lease S A) (lease : IsLease machine group g l) (match : Matches machine group g (e.stub g) l) (e' : Exchange A) (l' : Lease S A) (met : Met machine group g e l e' l')
      (window : IsExchangeWithin machine group v count e) (mine : (i : ℕ) → group i ≡ g → IsWithin v count (record_of (l.part i))) where
    pub meet_lease : (i : ℕ) → group i ≡ g → IsWithin v count (record_of (l'.part i))
    meet_lease i own =
        let d : own_turns (l'.part i).done ≡ own_turns (from e.bound (l.part i).done) = ap own_turns (met.done i own) in
        let t = from_turns machine law e.bound (l.part i).done in
        let n : inputs_done (l'.part i).done ≡ inputs_done (from e.bound (l.part i).done) = ap inputs_done (met.done i own) in
        let m = from_inputs machine law e.bound (l.part i).done in
        let p : length (l'.part i).pending ≡ length (l.part i).pending = ap length (met.pending i own) in
        let w = mine i own in
        let a = w.turns in
        let b = w.inputs in
        record { turns = omega arith; inputs = omega arith }

    -- what the others' components had done at their last meetings
    abbrev theirs : ℕ → List (Entry A)
    theirs n = (window.stubs (group n)).sent n

    abbrev sents : ℕ → List (Entry A)
    sents n = cond (group n == g) [] (theirs n)

    sents_few : (n : ℕ) → own_turns (sents n) ≤ v
    sents_few n = go (cases_eq (group n) g)
      where
        go : (group n ≡ g) ⊎ (group n ≡ g → ⊥) → own_turns (cond (group n == g) [] (theirs n)) ≤ v
        go (inl q) = rw (eq-eqb (group n) g q) (omega arith)
        go (inr ne) = rw (ne_eqb (group n) g ne) ((window.stubs (group n)).turns n refl)

    sents_none : (n : ℕ) → group n ≡ g → sents n ≡ []
    sents_none n q = rw (eq-eqb (group n) g q)

    sound : IsSound machine group count e'
    sound = meet_sound machine law group g e is l lease match e' l' met

    -- the standing sends of its own components are what they have done
    standing_mine : (k : ℕ) (a : A) (j : ℕ) → group (machine.owner k) ≡ g → (e'.stub g).standing k a j ≡ between machine group k j (sends machine (l'.part (machine.owner k)).done k a j)
    standing_mine k a j own =
        let s = met.matches.standing k a j own in
        let p : times machine (l'.out_plus j) k a ≡ 0 = ap (λ (xs : List (Item A)). times machine xs k a) (met.out_plus j) in
        let m : times machine (l'.out_minus j) k a ≡ 0 = ap (λ (xs : List (Item A)). times machine xs k a) (met.out_minus j) in
        omega arith

    -- what is taken is what is standing of the others
    taken_high : (i k : ℕ) (a : A) → group i ≡ g → e.bound ≤ k → (e'.stub g).taken i k a ≡ (e'.stub (group (machine.owner k))).standing k a i
    taken_high i k a own high =
        let b : e'.bound ≤ k = subst (λ (n : ℕ). n ≤ k) (sym met.bound) high in
        let w : (e'.stub (group (machine.owner k))).standing k a i + times machine (e'.minus i) k a ≡ (e'.stub g).taken i k a + times machine (e'.plus i) k a
        = subst (λ (n : ℕ). (e'.stub (group (machine.owner k))).standing k a i + times machine (e'.minus i) k a ≡ (e'.stub n).taken i k a + times machine (e'.plus i) k a) own (sound.even i k a b) in
        let p : times machine (e'.plus i) k a ≡ 0 = ap (λ (xs : List (Item A)). times machine xs k a) (met.inbox_plus i own) in
        let m : times machine (e'.minus i) k a ≡ 0 = ap (λ (xs : List (Item A)). times machine xs k a) (met.inbox_minus i own) in
        omega arith

    taken_low : (i k : ℕ) (a : A) → group i ≡ g → k < e.bound → (e'.stub g).taken i k a ≡ 0
    taken_low i k a own low = subst (λ (n : ℕ). k < (e'.stub n).base → (e'.stub n).taken i k a ≡ 0) own (sound.low_taken i k a) (subst (λ (b : ℕ). k < b) (sym met.base ∙ met.matches.base) low)

    taken_is : (i k : ℕ) (a : A) → group i ≡ g → (e'.stub g).taken i k a ≡ times machine (gathered machine law sents e.bound i count) k a
    taken_is i k a own = go (cases_lt k e.bound) (cases_lt (machine.owner k) count) (cases_eq (group (machine.owner k)) g)
      where
        go : (k < e.bound) ⊎ (e.bound ≤ k) → (machine.owner k < count) ⊎ (count ≤ machine.owner k) → (group (machine.owner k) ≡ g) ⊎ (group (machine.owner k) ≡ g → ⊥)
            → (e'.stub g).taken i k a ≡ times machine (gathered machine law sents e.bound i count) k a
        go (inl low) c o = taken_low i k a own low ∙ sym (gathered_low machine law sents e.bound i count k a low)
        go (inr h) (inr c) (inl o) = let z = inside (machine.owner k) o in absurd (omega arith)
        go (inr h) (inl c) (inl o) =
            taken_high i k a own h ∙ ap (λ (n : ℕ). (e'.stub n).standing k a i) o ∙ standing_mine k a i o
            ∙ (stays machine group k i (sends machine (l'.part (machine.owner k)).done k a i) (o ∙ sym own)).0
            ∙ sym (gathered_own machine law sents e.bound i count k a c h ∙ ap (λ (es : List (Entry A)). sends machine es k a i) (sents_none (machine.owner k) o) ∙ no_sends machine law k a i)
        go (inr h) (inl c) (inr ne) =
            let x : sends machine (sents (machine.owner k)) k a i ≡ sends machine (theirs (machine.owner k)) k a i
            = subst (λ (b : Bool). sends machine (cond b [] (theirs (machine.owner k))) k a i ≡ sends machine (theirs (machine.owner k)) k a i) (sym (ne_eqb (group (machine.owner k)) g ne)) refl in
            taken_high i k a own h ∙ ap (λ (st : Stub A). st.standing k a i) (met.others (group (machine.owner k)) ne)
            ∙ (window.stubs (group (machine.owner k))).standing k a i refl
            ∙ (passes machine group k i (sends machine (theirs (machine.owner k)) k a i) (λ q. ne (q ∙ own))).0
            ∙ sym (gathered_own machine law sents e.bound i count k a c h ∙ x)
        go (inr h) (inr c) (inr ne) =
            taken_high i k a own h ∙ ap (λ (st : Stub A). st.standing k a i) (met.others (group (machine.owner k)) ne)
            ∙ (window.stubs (group (machine.owner k))).silent k a i refl c ∙ sym (gathered_past machine law sents e.bound i count k a c)

    stub_mine : IsStubWithin machine group v count g (e'.stub g)
    stub_mine =
        record {
          sent = λ i. (l'.part i).done;
          turns = λ i own. (meet_lease i own).turns;
          standing = standing_mine;
          silent = λ k a j own c. let z = inside (machine.owner k) own in absurd (omega arith);
          took = λ i. gathered machine law sents e.bound i count;
          few = λ i own. strangers_few g sents sents_none sents_few e.bound i count;
          taken = taken_is;
        }

    pub meet_within : IsExchangeWithin machine group v count e'
    meet_within = record { stubs = λ h. stubs h (cases_eq h g); apart = λ j k a. apart j k a (cases_eq (group j) g) }
      where
        stubs : (h : ℕ) → (h ≡ g) ⊎ (h ≡ g → ⊥) → IsStubWithin machine group v count h (e'.stub h)
        stubs h (inl q) = subst (λ (n : ℕ). IsStubWithin machine group v count n (e'.stub n)) (sym q) stub_mine
        stubs h (inr ne) = subst (λ (st : Stub A). IsStubWithin machine group v count h st) (sym (met.others h ne)) (window.stubs h)

        apart : (j k : ℕ) (a : A) → (group j ≡ g) ⊎ (group j ≡ g → ⊥) → (times machine (e'.plus j) k a ≡ 0) ⊎ (times machine (e'.minus j) k a ≡ 0)
        apart j k a (inl own) = inl (ap (λ (xs : List (Item A)). times machine xs k a) (met.inbox_plus j own))
        apart j k a (inr ne) = rw (met.others_plus j ne, met.others_minus j ne) (met.apart j k a)

  -- All inboxes together.
  module _ (count : ℕ) (e : Exchange A) (is : IsSound machine group count e) (window : IsExchangeWithin machine group v count e) where
    abbrev all : ℕ → List (Entry A)
    all n = (window.stubs (group n)).sent n

    abbrev foreign : ℕ → ℕ → List (Entry A)
    foreign j n = cond (group n == group j) [] (all n)

    foreign_few : (j n : ℕ) → own_turns (foreign j n) ≤ v
    foreign_few j n = go (cases_eq (group n) (group j))
      where
        go : (group n ≡ group j) ⊎ (group n ≡ group j → ⊥) → own_turns (cond (group n == group j) [] (all n)) ≤ v
        go (inl q) = rw (eq-eqb (group n) (group j) q) (omega arith)
        go (inr ne) = rw (ne_eqb (group n) (group j) ne) ((window.stubs (group n)).turns n refl)

    foreign_none : (j n : ℕ) → group n ≡ group j → foreign j n ≡ []
    foreign_none j n q = rw (eq-eqb (group n) (group j) q)

    plus_part : (j k : ℕ) (a : A) → times machine (e.plus j) k a ≤ times machine (gathered machine law (foreign j) e.bound j count) k a
    plus_part j k a = go (cases_lt k e.bound) (cases_lt (machine.owner k) count) (cases_eq (group (machine.owner k)) (group j))
      where
        go : (k < e.bound) ⊎ (e.bound ≤ k) → (machine.owner k < count) ⊎ (count ≤ machine.owner k) → (group (machine.owner k) ≡ group j) ⊎ (group (machine.owner k) ≡ group j → ⊥)
            → times machine (e.plus j) k a ≤ times machine (gathered machine law (foreign j) e.bound j count) k a
        go (inl low) c o = let z = all_zero machine law e.bound k (e.plus j) (is.plus j) low a in omega arith
        go (inr h) (inl c) (inl q) =
            let s = (window.stubs (group (machine.owner k))).standing k a j refl in
            let w = (stays machine group k j (sends machine (all (machine.owner k)) k a j) q).0 in
            let y = is.even j k a h in
            let o = window.apart j k a in
            omega arith
        go (inr h) (inl c) (inr ne) =
            let x = gathered_own machine law (foreign j) e.bound j count k a c h in
            let z : sends machine (foreign j (machine.owner k)) k a j ≡ sends machine (all (machine.owner k)) k a j
            = subst (λ (b : Bool). sends machine (cond b [] (all (machine.owner k))) k a j ≡ sends machine (all (machine.owner k)) k a j) (sym (ne_eqb (group (machine.owner k)) (group j) ne)) refl in
            let s = (window.stubs (group (machine.owner k))).standing k a j refl in
            let w = (passes machine group k j (sends machine (all (machine.owner k)) k a j) ne).0 in
            let y = is.even j k a h in
            let o = window.apart j k a in
            omega arith
        go (inr h) (inr c) q =
            let s = (window.stubs (group (machine.owner k))).silent k a j refl c in
            let y = is.even j k a h in
            let o = window.apart j k a in
            omega arith

    minus_part : (j k : ℕ) (a : A) → times machine (e.minus j) k a ≤ times machine ((window.stubs (group j)).took j) k a
    minus_part j k a = go (cases_lt k e.bound)
      where
        go : (k < e.bound) ⊎ (e.bound ≤ k) → times machine (e.minus j) k a ≤ times machine ((window.stubs (group j)).took j) k a
        go (inl low) = let z = all_zero machine law e.bound k (e.minus j) (is.minus j) low a in omega arith
        go (inr h) =
            let t = (window.stubs (group j)).taken j k a refl in
            let y = is.even j k a h in
            let o = window.apart j k a in
            omega arith

    pub inbox_few : (j : ℕ) → length (e.plus j) + length (e.minus j) ≤ 2 * (v * strangers group count (group j))
    inbox_few j =
        let p = part_shorter machine law (e.plus j) (gathered machine law (foreign j) e.bound j count) (λ k a. plus_part j k a) in
        let q = strangers_few (group j) (foreign j) (foreign_none j) (foreign_few j) e.bound j count in
        let m = part_shorter machine law (e.minus j) ((window.stubs (group j)).took j) (λ k a. minus_part j k a) in
        let f = (window.stubs (group j)).few j refl in
        omega arith

    pub inboxes_few : (n : ℕ) → inboxes e n ≤ 2 * (v * crossings group count n)
    inboxes_few zero = omega arith
    inboxes_few (suc n) =
        let h = inboxes_few n in
        let b = inbox_few n in
        let m = mul_sum v (strangers group count (group n)) (crossings group count n) in
        omega arith

  -- The start.
  pub start_within : (count : ℕ) → IsExchangeWithin machine group v count (start_exchange machine group count)
  start_within count =
      record {
        stubs = λ g. record {
          sent = λ i. [];
          turns = λ i own. omega arith;
          standing = λ k a j own. sym (none machine group k j (sends machine [] k a j) (no_sends machine law k a j)).0;
          silent = λ k a j own c. refl;
          took = λ i. [];
          few = λ i own. omega arith;
          taken = λ i k a own. refl;
        };
        apart = λ j k a. inl refl;
      }
