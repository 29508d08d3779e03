-- The turns that the reference has before a bound, what a meeting has to count, and a meeting at the start.
use Rattle.std.proofs.Common.{◌≡◌, ℕ, zero, suc, ◌+◌, ◌<◌, ◌≤◌, ◌==◌, ◌&&◌, ◌⊎◌, inl, inr, Bool, true, false, cond, Option, None, Some, [], refl, ap, sym, subst, ◌∙◌, arith, leb}
use Rattle.std.proofs.lemmas.Bool.{eq-eqb, ne_eqb, cases_eq, cases_lt}
use Rattle.virtual_time.specs.Machine.{Lawful, Machine}
use Rattle.virtual_time.specs.Reference.{add_turn, after, point, reference_below, reference_turn}
use Rattle.virtual_time.specs.Bags.{inputs, times}
use Rattle.virtual_time.specs.Exchange.Stubs.{Exchange, IsSound, HasRun, Stub, reference_sends, start_exchange}
use Rattle.virtual_time.specs.Exchange.Leases.{Lease, Matches, start_lease}
use Rattle.virtual_time.specs.Exchange.Meetings.{Met}
use Rattle.virtual_time.proofs.Refs.{ref_is, turn_is, sends_ref, none_self}
use Rattle.virtual_time.proofs.Exchange.Committed.{at_bound}
use Rattle.virtual_time.proofs.Exchange.Chunks.{start_matches}

module _ {S A : Type 0} (machine : Machine S A) (law : Lawful machine) where
  -- the turns before c are those whose keys are
  pub before_next : (c i m : ℕ) → m < (point machine c).next i → machine.key i m < c
  before_next zero i m h = absurd (omega arith)
  before_next (suc c) i m h = go (reference_turn machine c) refl (before_next c i m) h
    where
      go : (t : Option (Option A)) → reference_turn machine c ≡ t → (m < (point machine c).next i → machine.key i m < c) → m < (after machine (add_turn c t (reference_below machine c))).next i → machine.key i m < suc c
      go None e ih l = let k = ih l in omega arith
      go (Some o) e ih l = pick (cases_eq i (machine.owner c)) l
        where
          here : i ≡ machine.owner c → (m ≡ (point machine c).next i) ⊎ (m ≡ (point machine c).next i → ⊥) → m < suc ((point machine c).next i) → machine.key i m < suc c
          here f (inl q) n =
              let k = (turn_is machine law c (point machine c) o e).key in
              let k' : machine.key i ((point machine c).next i) ≡ c = subst (λ (x : ℕ). machine.key x ((point machine c).next x) ≡ c) (sym f) k in
              let k'' : machine.key i m ≡ c = ap (λ (x : ℕ). machine.key i x) q ∙ k' in
              omega arith
          here f (inr q) n = let k = ih (omega arith) in omega arith

          pick : (i ≡ machine.owner c) ⊎ (i ≡ machine.owner c → ⊥) → m < cond (i == machine.owner c) (suc ((point machine c).next i)) ((point machine c).next i) → machine.key i m < suc c
          pick (inl f) n = here f (cases_eq m ((point machine c).next i)) (subst (λ (b : Bool). m < cond b (suc ((point machine c).next i)) ((point machine c).next i)) (eq-eqb i (machine.owner c) f) n)
          pick (inr ne) n = let k = ih (subst (λ (b : Bool). m < cond b (suc ((point machine c).next i)) ((point machine c).next i)) (ne_eqb i (machine.owner c) ne) n) in omega arith

  pub key_up : (c i m d : ℕ) → c ≤ machine.top → c ≤ machine.key i m → c ≤ machine.key i (m + d)
  key_up c i m zero l h = let z : m + 0 ≡ m = omega arith in rw z h
  key_up c i m (suc d) l h = let z : m + suc d ≡ suc (m + d) = omega arith in rw z (go (key_up c i m d l h) (cases_lt (machine.key i (m + d)) machine.top))
    where
      go : c ≤ machine.key i (m + d) → (machine.key i (m + d) < machine.top) ⊎ (machine.top ≤ machine.key i (m + d)) → c ≤ machine.key i (suc (m + d))
      go k (inl n) = let up = law.rises i (m + d) n in omega arith
      go k (inr n) = let e = law.ends i (m + d) n in omega arith

  pub next_on : (c i d : ℕ) → c ≤ machine.top → c ≤ machine.key i ((point machine c).next i + d)
  next_on c i d l = key_up c i ((point machine c).next i) d l ((ref_is machine law c l).all i)

  -- a meeting never has to count below 0: what component i has taken after it is what the senders' standing sends say
  pub net_taken : {count : ℕ} (i : ℕ) (e : Exchange A) (l : Lease S A) → IsSound machine count e → Matches machine i (e.stub i) l → (k : ℕ) (a : A) → e.bound ≤ k
      → (e.stub (machine.owner k)).standing k a i + times machine l.part.owed k a + (times machine l.part.minus k a + times machine (e.stub i).minus k a)
      ≡ inputs machine l.part.done k a + times machine l.part.pending k a + (times machine l.part.plus k a + times machine (e.stub i).plus k a)
  net_taken i e l is match k a h = let m = match.taken k a in let v = is.even i k a h in omega arith

  pub meet_start : (i : ℕ) → Met machine i (start_exchange machine) (start_lease machine i) (start_exchange machine) (start_lease machine i)
  meet_start i =
      record {
        p = λ j. [];
        m = λ j. [];
        gone = [];
        by_plus = λ j k a. refl;
        by_minus = λ j k a. refl;
        apart = λ j k a. inl refl;
        p_low = λ j. tt;
        m_low = λ j. tt;
        others = λ j ne. refl;
        bound = refl;
        given = refl;
        base = refl;
        first = refl;
        state = refl;
        done = refl;
        pending = refl;
        owed = refl;
        tray_plus = λ k a. refl;
        tray_minus = λ k a. refl;
        tray_low = tt;
        tray_low_minus = tt;
        out_plus = λ j. refl;
        out_minus = λ j. refl;
        floor = record { low = record { turn = omega arith; pending = tt; plus = tt; minus = tt }; most = λ d past. past.turn };
        matches = start_matches machine law i;
        inbox_plus = refl;
        inbox_minus = refl;
        falls = tt;
        turns = λ k. none (leb 0 k && (machine.owner k == i));
      }
    where
      none : (b : Bool) → ◌≡◌ {A = Option (Option A)} None (cond b None None)
      none true = refl
      none false = refl

  -- that the standing sends are what the reference sends follows from the same of the taken messages and from the run
  pub sent_follows : (j : ℕ) (k : ℕ) (a : A) (g : ℕ) (st : Stub A) (r : HasRun machine (machine.owner k) st) → g ≤ st.floor
      → ((c : ℕ) (b : A) → st.base ≤ c → c < g → st.taken c b ≡ reference_sends machine c b (machine.owner k)) → st.base ≤ k → k < g → st.standing k a j ≡ reference_sends machine k a j
  sent_follows j k a g st r l settled low high =
      let n = r.next in
      let i : ℕ = machine.owner k in
      let first : ℕ = (point machine st.base).next (machine.owner k) in
      let at = at_bound machine law (machine.owner k) st.base ((point machine st.base).next (machine.owner k)) ((point machine st.base).state (machine.owner k)) r.es r.done refl refl k low
      (λ c b p q. r.ins c b p (omega arith) ∙ settled c b p (omega arith)) (omega arith) in
      sym (r.outs k a j refl low (omega arith))
      ∙ sends_ref machine law (machine.owner k) st.base ((point machine st.base).next (machine.owner k)) ((point machine st.base).state (machine.owner k)) r.es r.done k (omega arith) refl
      (λ b. r.ins k b low (omega arith) ∙ settled k b low high ∙ none_self machine law k b) at a j
