-- A commit of the exchange keeps it sound.
use Rattle.std.proofs.Common.{◌≡◌, ℕ, zero, suc, ◌+◌, ◌-◌, ◌<◌, ◌≤◌, ◌⊎◌, inl, inr, List, refl, ap, sym, subst, ◌∙◌, arith}
use Rattle.std.proofs.lemmas.Bool.{cases_lt}
use Rattle.virtual_time.specs.Machine.{Lawful, Machine}
use Rattle.virtual_time.specs.Entries.{Entry, number, replay}
use Rattle.virtual_time.specs.Bags.{inputs, sends}
use Rattle.virtual_time.specs.Rules.{IsDone}
use Rattle.virtual_time.specs.Reference.{point}
use Rattle.virtual_time.specs.Exchange.Stubs.{Exchange, IsSound, reference_sends}
use Rattle.virtual_time.specs.Exchange.Meetings.{IsClear}
use Rattle.virtual_time.proofs.Cuts.{below_none}
use Rattle.virtual_time.proofs.Joint.{all_zero}
use Rattle.virtual_time.proofs.Refs.{At, at_step, at_all, sends_ref}

module _ {S A : Type 0} (machine : Machine S A) (law : Lawful machine) where
  pub sends_self : (es : List (Entry A)) (c : ℕ) (a : A) → sends machine es c a (machine.owner c) ≡ 0
  unfolding sends
  sends_self es c a = rw (law.others (machine.owner c) a)

  -- the local lemma: done entries from the reference's point at the base, with the reference's inputs up to b, stand at b where the reference stands
  module _ (i g n : ℕ) (s : S) (es : List (Entry A)) (d : IsDone machine i g n s es) (first : n ≡ (point machine g).next i) (state : s ≡ (point machine g).state i) where
    pub at_base : At machine law i g n s es d g
    at_base =
        let e = below_none machine law i g n s es d in
        record {
          next = ap (λ (fs : List (Entry A)). number n fs) e ∙ first;
          state = ap (λ (fs : List (Entry A)). replay machine i s fs) e ∙ state;
        }

    pub at_bound : (b : ℕ) → g ≤ b → ((c : ℕ) (a : A) → g ≤ c → c < b → inputs machine es c a ≡ reference_sends machine c a i) → b ≤ machine.key i (number n es) → At machine law i g n s es d b
    at_bound b l ins k =
        let e : g + (b - g) ≡ b = omega arith in
        subst (λ (c : ℕ). At machine law i g n s es d c) e
        (at_all machine law i g n s es d g (b - g) at_base (λ c a h m. ins c a h (omega arith)) (omega arith))

  module _ {count : ℕ} (e : Exchange A) (is : IsSound machine count e) (b : ℕ) (up : e.bound ≤ b) (clear : IsClear machine e b) where
    abbrev Stands : ℕ → ℕ → Type 0
    Stands j c = At machine law j (e.stub j).base ((point machine (e.stub j).base).next j) ((point machine (e.stub j).base).state j) (is.runs j).es (is.runs j).done c

    pub at_start : (j : ℕ) → Stands j e.bound
    at_start j =
        let r = is.runs j in
        let n = r.next in
        let f = is.floor j in
        at_bound j (e.stub j).base ((point machine (e.stub j).base).next j) ((point machine (e.stub j).base).state j) r.es r.done refl refl e.bound (is.base j) (λ c a h k. r.ins c a h (omega arith) ∙ is.settled j c a h k) (omega arith)

    module _ (c : ℕ) (low : e.bound ≤ c) (high : c < b) where
      pub taken_standing : (j : ℕ) (a : A) → (e.stub j).taken c a ≡ (e.stub (machine.owner c)).standing c a j
      taken_standing j a =
          let v = is.even j c a low in
          let p = all_zero machine law b c (e.stub j).plus (clear.plus j) high a in
          let m = all_zero machine law b c (e.stub j).minus (clear.minus j) high a in
          omega arith

      pub standing_sends : (j : ℕ) (a : A) → (e.stub (machine.owner c)).standing c a j ≡ sends machine (is.runs (machine.owner c)).es c a j
      standing_sends j a =
          let f = clear.floor (machine.owner c) in
          let g = is.base (machine.owner c) in
          sym ((is.runs (machine.owner c)).outs c a j refl (omega arith) (omega arith))

      pub inputs_sends : (j : ℕ) (a : A) → inputs machine (is.runs j).es c a ≡ sends machine (is.runs (machine.owner c)).es c a j
      inputs_sends j a =
          let f = clear.floor j in
          let g = is.base j in
          (is.runs j).ins c a (omega arith) (omega arith) ∙ taken_standing j a ∙ standing_sends j a

      pub next_high : (j : ℕ) → c < machine.key j (number ((point machine (e.stub j).base).next j) (is.runs j).es)
      next_high j = let f = clear.floor j in let n = (is.runs j).next in omega arith

      pub none_owner : (a : A) → inputs machine (is.runs (machine.owner c)).es c a ≡ 0
      none_owner a = inputs_sends (machine.owner c) a ∙ sends_self (is.runs (machine.owner c)).es c a

      module _ (at : (j : ℕ) → Stands j c) where
        pub sends_are : (j : ℕ) (a : A) → sends machine (is.runs (machine.owner c)).es c a j ≡ reference_sends machine c a j
        sends_are j a =
            let i : ℕ = machine.owner c in
            sends_ref machine law i (e.stub i).base ((point machine (e.stub i).base).next i) ((point machine (e.stub i).base).state i) (is.runs i).es (is.runs i).done c (next_high i) refl none_owner (at i) a j

        pub stands_step : (j : ℕ) → Stands j (suc c)
        stands_step j =
            at_step machine law j (e.stub j).base ((point machine (e.stub j).base).next j) ((point machine (e.stub j).base).state j) (is.runs j).es (is.runs j).done c (next_high j)
            (λ a. inputs_sends j a ∙ sends_are j a) (at j)

    pub stands : (d : ℕ) → e.bound + d ≤ b → (j : ℕ) → Stands j (e.bound + d)
    stands zero h j = let z : e.bound + 0 ≡ e.bound = omega arith in rw z (at_start j)
    stands (suc d) h j = let z : e.bound + suc d ≡ suc (e.bound + d) = omega arith in rw z (stands_step (e.bound + d) (omega arith) (omega arith) (stands d (omega arith)) j)

    pub stands_at : (c : ℕ) → e.bound ≤ c → c ≤ b → (j : ℕ) → Stands j c
    stands_at c l h j = let z : e.bound + (c - e.bound) ≡ c = omega arith in subst (λ (m : ℕ). Stands j m) z (stands (c - e.bound) (omega arith) j)

    pub standing_ref : (c : ℕ) → e.bound ≤ c → c < b → (j : ℕ) (a : A) → (e.stub (machine.owner c)).standing c a j ≡ reference_sends machine c a j
    standing_ref c l h j a = standing_sends c l h j a ∙ sends_are c l h (stands_at c l (omega arith)) j a

    -- clauses 2 to 5 speak of stubs alone; the third is what moves
    pub commit_sound : IsSound machine count (record { stub = e.stub; bound = b; held = e.held; given = e.given })
    commit_sound =
        record {
          end = clear.end;
          base = λ j. let h = is.base j in omega arith;
          floor = clear.floor;
          plus = clear.plus;
          minus = clear.minus;
          even = λ j k a low. is.even j k a (omega arith);
          settled = λ j k a low high. settled j k a low high (cases_lt k e.bound);
          sent = λ j k a low high. sent j k a low high (cases_lt k e.bound);
          runs = is.runs;
          one_taken = is.one_taken;
          one_standing = is.one_standing;
          low_taken = is.low_taken;
          low_standing = is.low_standing;
          held = (is.held.0, record { end = is.held.1.end; low = is.held.1.low; counted = is.held.1.counted; given = is.held.1.given; falls = is.held.1.falls; turns = is.held.1.turns });
        }
      where
        settled : (j k : ℕ) (a : A) → (e.stub j).base ≤ k → k < b → (k < e.bound) ⊎ (e.bound ≤ k) → (e.stub j).taken k a ≡ reference_sends machine k a j
        settled j k a low high (inl l) = is.settled j k a low l
        settled j k a low high (inr l) = taken_standing k l high j a ∙ standing_ref k l high j a

        sent : (j k : ℕ) (a : A) → (e.stub (machine.owner k)).base ≤ k → k < b → (k < e.bound) ⊎ (e.bound ≤ k) → (e.stub (machine.owner k)).standing k a j ≡ reference_sends machine k a j
        sent j k a low high (inl l) = is.sent j k a low l
        sent j k a low high (inr l) = standing_ref k l high j a
