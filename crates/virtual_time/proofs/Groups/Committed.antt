-- A commit of the exchange of groups keeps it sound.
use Rattle.std.proofs.Common.{◌≡◌, ℕ, zero, suc, ◌+◌, ◌-◌, ◌<◌, ◌≤◌, ◌⊎◌, inl, inr, List, refl, ap, sym, subst, ◌∙◌, arith}
use Rattle.std.proofs.lemmas.Bool.{cases_eq, cases_lt}
use Rattle.virtual_time.specs.Machine.{Lawful, Machine}
use Rattle.virtual_time.specs.Entries.{Entry, number}
use Rattle.virtual_time.specs.Bags.{inputs, sends}
use Rattle.virtual_time.specs.Reference.{point}
use Rattle.virtual_time.specs.Exchange.Stubs.{reference_sends}
use Rattle.virtual_time.specs.Groups.Stubs.{Exchange, IsSound, between, within}
use Rattle.virtual_time.specs.Groups.Meetings.{IsClear, IsCommit}
use Rattle.virtual_time.proofs.Joint.{all_zero}
use Rattle.virtual_time.proofs.Refs.{At, at_step, sends_ref}
use Rattle.virtual_time.proofs.Exchange.Committed.{sends_self}
use Rattle.virtual_time.proofs.Groups.Parts.{passes, stays}
use Rattle.virtual_time.proofs.Groups.Stands

module _ {S A : Type 0} (machine : Machine S A) (law : Lawful machine) (group : ℕ → ℕ) {count : ℕ} (e : Exchange A) (is : IsSound machine group count e) where
  -- below the bound what a group has taken is what the reference sends it
  pub settled_at : (g i k : ℕ) (a : A) → group i ≡ g → (e.stub g).base ≤ k → k < e.bound → (e.stub g).taken i k a ≡ between machine group k i (reference_sends machine k a i)
  settled_at g i k a own = subst (λ (h : ℕ). (e.stub h).base ≤ k → k < e.bound → (e.stub h).taken i k a ≡ between machine group k i (reference_sends machine k a i)) own (is.settled i k a)

  -- the run of a component
  abbrev pub run : ℕ → List (Entry A)
  run j = (is.runs (group j)).es j

  abbrev pub base : ℕ → ℕ
  base j = (e.stub (group j)).base

  abbrev pub IsAt : ℕ → ℕ → Type 0
  IsAt j c = At machine law j (base j) ((point machine (base j)).next j) ((point machine (base j)).state j) (run j) ((is.runs (group j)).done j refl) c

  pub at_bound : (j : ℕ) → IsAt j e.bound
  at_bound j =
      let g : ℕ = group j in
      let r = is.runs (group j) in
      Stands.stands machine law group (group j) (base j) (λ i. (point machine (base j)).next i) (λ i. (point machine (base j)).state i) r.es r.done (λ i own. refl) (λ i own. refl) e.bound
      (λ i c a own h k.
      let f = is.floor (group j) in
      let x = r.ins i c a own h (omega arith) in
      let y = settled_at (group j) i c a own h k in
      omega arith)
      (λ i own. let f = is.floor (group j) in let n = r.next i own in omega arith) e.bound (is.base (group j)) (omega arith) j refl

  module _ (b : ℕ) (up : e.bound ≤ b) (clear : IsClear machine e b) where
    module _ (c : ℕ) (low : e.bound ≤ c) (high : c < b) where
      pub taken_standing : (j : ℕ) (a : A) → (e.stub (group j)).taken j c a ≡ (e.stub (group (machine.owner c))).standing c a j
      taken_standing j a =
          let v = is.even j c a low in
          let p = all_zero machine law b c (e.plus j) (clear.plus j) high a in
          let m = all_zero machine law b c (e.minus j) (clear.minus j) high a in
          omega arith

      pub standing_sends : (j : ℕ) (a : A) → (e.stub (group (machine.owner c))).standing c a j ≡ between machine group c j (sends machine (run (machine.owner c)) c a j)
      standing_sends j a =
          let f = clear.floor (group (machine.owner c)) in
          let g = is.base (group (machine.owner c)) in
          sym ((is.runs (group (machine.owner c))).outs c a j refl (omega arith) (omega arith))

      pub inputs_sends : (j : ℕ) (a : A) → inputs machine (run j) c a ≡ sends machine (run (machine.owner c)) c a j
      inputs_sends j a =
          let f = clear.floor (group j) in
          let g = is.base (group j) in
          go ((is.runs (group j)).ins j c a refl (omega arith) (omega arith)) (cases_eq (group (machine.owner c)) (group j))
        where
          theirs : ℕ
          theirs = sends machine ((is.runs (group j)).es (machine.owner c)) c a j

          go : inputs machine (run j) c a ≡ (e.stub (group j)).taken j c a + within machine group c j (sends machine ((is.runs (group j)).es (machine.owner c)) c a j) → (group (machine.owner c) ≡ group j) ⊎ (group (machine.owner c) ≡ group j → ⊥)
              → inputs machine (run j) c a ≡ sends machine (run (machine.owner c)) c a j
          go h (inl q) =
              let t = taken_standing j a in
              let s = standing_sends j a in
              let x = (stays machine group c j (sends machine (run (machine.owner c)) c a j) q).0 in
              let y = (stays machine group c j (sends machine ((is.runs (group j)).es (machine.owner c)) c a j) q).1 in
              let z : sends machine (run (machine.owner c)) c a j ≡ sends machine ((is.runs (group j)).es (machine.owner c)) c a j = ap (λ (n : ℕ). sends machine ((is.runs n).es (machine.owner c)) c a j) q in
              omega arith
          go h (inr ne) =
              let t = taken_standing j a in
              let s = standing_sends j a in
              let x = (passes machine group c j (sends machine (run (machine.owner c)) c a j) ne).0 in
              let y = (passes machine group c j (sends machine ((is.runs (group j)).es (machine.owner c)) c a j) ne).1 in
              omega arith

      pub next_high : (j : ℕ) → c < machine.key j (number ((point machine (base j)).next j) (run j))
      next_high j = let f = clear.floor (group j) in let n = (is.runs (group j)).next j refl in omega arith

      pub none_owner : (a : A) → inputs machine (run (machine.owner c)) c a ≡ 0
      none_owner a = inputs_sends (machine.owner c) a ∙ sends_self machine law (run (machine.owner c)) c a

      module _ (at : (j : ℕ) → IsAt j c) where
        pub sends_are : (j : ℕ) (a : A) → sends machine (run (machine.owner c)) c a j ≡ reference_sends machine c a j
        sends_are j a =
            let i : ℕ = machine.owner c in
            sends_ref machine law (machine.owner c) (base (machine.owner c)) ((point machine (base (machine.owner c))).next (machine.owner c)) ((point machine (base (machine.owner c))).state (machine.owner c)) (run (machine.owner c))
            ((is.runs (group (machine.owner c))).done (machine.owner c) refl) c (next_high (machine.owner c)) refl none_owner (at (machine.owner c)) a j

        pub stands_step : (j : ℕ) → IsAt j (suc c)
        stands_step j =
            at_step machine law j (base j) ((point machine (base j)).next j) ((point machine (base j)).state j) (run j) ((is.runs (group j)).done j refl) c (next_high j)
            (λ a. inputs_sends j a ∙ sends_are j a) (at j)

    pub stands : (d : ℕ) → e.bound + d ≤ b → (j : ℕ) → IsAt j (e.bound + d)
    stands zero h j = let z : e.bound + 0 ≡ e.bound = omega arith in rw z (at_bound j)
    stands (suc d) h j = let z : e.bound + suc d ≡ suc (e.bound + d) = omega arith in rw z (stands_step (e.bound + d) (omega arith) (omega arith) (stands d (omega arith)) j)

    pub stands_at : (c : ℕ) → e.bound ≤ c → c ≤ b → (j : ℕ) → IsAt j c
    stands_at c l h j = let z : e.bound + (c - e.bound) ≡ c = omega arith in subst (λ (m : ℕ). IsAt j m) z (stands (c - e.bound) (omega arith) j)

    pub standing_ref : (c : ℕ) → e.bound ≤ c → c < b → (j : ℕ) (a : A) → (e.stub (group (machine.owner c))).standing c a j ≡ between machine group c j (reference_sends machine c a j)
    standing_ref c l h j a = standing_sends c l h j a ∙ ap (between machine group c j) (sends_are c l h (stands_at c l (omega arith)) j a)

    pub raised_sound : IsSound machine group count (record { stub = e.stub; plus = e.plus; minus = e.minus; bound = b; held = e.held; given = e.given })
    raised_sound =
        record {
          end = clear.end;
          base = λ g. let h = is.base g in omega arith;
          floor = clear.floor;
          plus = clear.plus;
          minus = clear.minus;
          even = λ j k a low. is.even j k a (omega arith);
          settled = λ j k a low high. settled j k a low high (cases_lt k e.bound);
          sent = λ j k a low high. sent j k a low high (cases_lt k e.bound);
          runs = is.runs;
          one_taken = is.one_taken;
          one_standing = is.one_standing;
          low_taken = is.low_taken;
          low_standing = is.low_standing;
          held = (is.held.0, record { end = is.held.1.end; low = is.held.1.low; counted = is.held.1.counted; given = is.held.1.given; falls = is.held.1.falls; turns = is.held.1.turns });
        }
      where
        settled : (j k : ℕ) (a : A) → (e.stub (group j)).base ≤ k → k < b → (k < e.bound) ⊎ (e.bound ≤ k) → (e.stub (group j)).taken j k a ≡ between machine group k j (reference_sends machine k a j)
        settled j k a low high (inl l) = is.settled j k a low l
        settled j k a low high (inr l) = taken_standing k l high j a ∙ standing_ref k l high j a

        sent : (j k : ℕ) (a : A) → (e.stub (group (machine.owner k))).base ≤ k → k < b → (k < e.bound) ⊎ (e.bound ≤ k) → (e.stub (group (machine.owner k))).standing k a j ≡ between machine group k j (reference_sends machine k a j)
        sent j k a low high (inl l) = is.sent j k a low l
        sent j k a low high (inr l) = standing_ref k l high j a

  pub commit_up : (e' : Exchange A) → IsCommit machine e e' → e.bound ≤ e'.bound
  commit_up e' c = c.most e.bound (record { end = is.end; floor = is.floor; plus = is.plus; minus = is.minus })

  pub commit_sound : (e' : Exchange A) → IsCommit machine e e' → IsSound machine group count e'
  commit_sound e' c = subst (λ (x : Exchange A). IsSound machine group count x) (sym c.rest) (raised_sound e'.bound (commit_up e' c) c.clear)
