-- A group matches what is kept of it exactly where each of its components is matched, with what they sent to each other.
use Rattle.std.proofs.Common.{◌≡◌, ℕ, zero, suc, ◌+◌, ◌<◌, ◌==◌, ◌⊎◌, inl, inr, Bool, true, false, true≢false, cond, Option, Some, List, [], ◌∷◌, refl, ap, sym, subst, ◌∙◌, arith}
use Rattle.std.specs.Prelude.{slice_get, ◌↔◌}
use Rattle.std.proofs.lemmas.Bool.{cases_eq, eq-eqb, eqb-true, ne_eqb}
use Rattle.terms.specs.Datum.{Datum}
use Rattle.terms.specs.Named.{Named}
use Rattle.event_keys.specs.declared.key.Bound.{Bound}
use Rattle.event_keys.specs.declared.message.Sign.TheVariants.{Plus, Minus}
use Rattle.event_keys.specs.declared.message.Signed.{Signed}
use Rattle.event_keys.specs.Ranks.{rank_of_bound}
use Rattle.virtual_time.specs.Bags.{inputs, sends, times}
use Rattle.virtual_time.specs.Entries.{Entry, Input, Item, Own, number}
use Rattle.virtual_time.specs.Groups.Leases.{Matches}
use Rattle.virtual_time.specs.Groups.Stubs.{between, within}
use Rattle.virtual_time.specs.Machine.{Lawful, Machine}
use Rattle.virtual_time.specs.Records.{Record, sent_all}
use Rattle.virtual_time.specs.Rules.{IsDone}
use Rattle.virtual_time.proofs.Counts.{sent_here, sent_other}
use Rattle.task_seed.specs.declared.setup.Setup.{Setup}
use Rattle.task_seed.specs.declared.turns.Turn.{Turn}
use Rattle.task_seed.specs.Setups.{system}
use Rattle.rollback.specs.ComponentView.{ComponentView, machine_of}
use Rattle.rollback.specs.Flight.{in_flight}
use Rattle.rollback.specs.Matched.{IsStanding, IsTaken}
use Rattle.groups.specs.Crew.{AreApart, AreOf, AreSound}
use Rattle.groups.specs.GroupView.{AreMembers, GroupView, history_of, is_member, lease_of}
use Rattle.groups.proofs.Placed.{IsAt, one_some, apart_here, apart_tail, history_there, member_at, member_there, own_there}
use Rattle.group_exchange.specs.declared.stub.Stub.{Stub}
use Rattle.group_exchange.specs.Compared.{AreInside, AreMatched, AreTogether, TellsMatch, all_sent}
use Rattle.group_exchange.specs.ExchangeView.{stub_of}
use Rattle.group_exchange.specs.LeaseView.{IsValidLease}
use Rattle.group_exchange.proofs.Leased.{own_group, own_members}

module _ {S A : Type 0} (machine : Machine S A) (k : ℕ) (a : A) (j : ℕ) where
  sends_none : sends machine [] k a j ≡ 0
  unfolding sends
  sends_none = go (machine.receives (machine.owner k) a j)
    where
      go : (b : Bool) → cond {A = ℕ} b 0 0 ≡ 0
      go true = refl
      go false = refl

  sends_input : (x : Item A) (es : List (Entry A)) → sends machine (Input x ∷ es) k a j ≡ sends machine es k a j
  unfolding sends
  sends_input x es = refl

cond_none : (b : Bool) → cond {A = ℕ} b 0 0 ≡ 0
cond_none true = refl
cond_none false = refl

module _ {S A : Type 0} (machine : Machine S A) (law : Lawful machine) (i g n : ℕ) (s : S) (j k : ℕ) (a : A) (xs : List (Item A)) where
  -- what done turns sent, posted once more, is counted as their sends
  resent : (es : List (Entry A)) → IsDone machine i g n s es → times machine (sent_all machine i es j xs) k a ≡ cond (machine.owner k == i) (sends machine es k a j) 0 + times machine xs k a
  resent [] d =
      let none = ap (λ c. cond (machine.owner k == i) c 0) (sends_none machine k a j) ∙ cond_none (machine.owner k == i) in
      omega (arith, none)
  resent (Own k' o ∷ es) d = go (machine.owner k == i) refl (resent es d.4)
    where
      own : machine.owner k' ≡ i
      own = ap machine.owner d.0 ∙ law.owned i (number n es) (subst (λ x. x < machine.top) d.0 d.1)

      go : (b : Bool) → (machine.owner k == i) ≡ b → times machine (sent_all machine i es j xs) k a ≡ cond (machine.owner k == i) (sends machine es k a j) 0 + times machine xs k a
          → times machine (sent_all machine i (Own k' o ∷ es) j xs) k a ≡ cond (machine.owner k == i) (sends machine (Own k' o ∷ es) k a j) 0 + times machine xs k a
      go true e rest =
          let here = sent_here machine law i k' o j (sent_all machine i es j xs) es k a own in
          let before : times machine (sent_all machine i es j xs) k a ≡ sends machine es k a j + times machine xs k a = subst (λ b. times machine (sent_all machine i es j xs) k a ≡ cond b (sends machine es k a j) 0 + times machine xs k a) e rest in
          rw e (omega (arith, here, before))
      go false e rest =
          let other = sent_other machine law i k' o j (sent_all machine i es j xs) k a (λ same. true≢false (sym (eq-eqb (machine.owner k) i (ap machine.owner (sym same) ∙ own)) ∙ e)) in
          let before : times machine (sent_all machine i es j xs) k a ≡ 0 + times machine xs k a = subst (λ b. times machine (sent_all machine i es j xs) k a ≡ cond b (sends machine es k a j) 0 + times machine xs k a) e rest in
          rw e (other ∙ before)
  resent (Input x ∷ es) d = resent es d.2 ∙ ap (λ c. cond (machine.owner k == i) c 0 + times machine xs k a) (sym (sends_input machine k a j x es))

module _ {T : Type 0} (turn_of : T → ℕ → ℕ → Option Turn) (setup : Setup T) (base : Bound) (law : Lawful (machine_of turn_of setup)) (place : ℕ → ℕ) where
  abbrev m : Machine (List Datum) Named
  m = machine_of turn_of setup

  -- the entries of each are done from the base on
  abbrev AreDone : List (ComponentView (Setup T)) → Type 0
  AreDone cs = (q : ℕ) (c : ComponentView (Setup T)) → slice_get cs q ≡ Some c → IsDone m c.number (rank_of_bound base) c.history.first c.history.base c.history.done

  -- how often the member among these whose turn has the key sent the message of this key and action to component j
  abbrev sent_among : List (ComponentView (Setup T)) → ℕ → Named → ℕ → ℕ
  sent_among cs k a j = cond (is_member cs (m.owner k)) (sends m (history_of m cs (m.owner k)).done k a j) 0

  module _ (k : ℕ) (a : Named) (j : ℕ) where
    all_counted : (first : ℕ) (cs : List (ComponentView (Setup T))) → AreApart place first cs → AreOf setup base cs → AreDone cs → (xs : List (Item Named)) → times m (all_sent turn_of cs j xs) k a ≡ sent_among cs k a j + times m xs k a
    all_counted first [] apart own done xs = omega arith
    all_counted first (c ∷ cs) apart own done xs =
        go (all_counted (suc first) cs (apart_tail place first c cs apart) own.2 (λ q d at. done (suc q) d at) (sent_all (machine_of turn_of c.setup) c.number c.history.done j xs)) (cases_eq (m.owner k) c.number)
      where
        mid : List (Item Named)
        mid = sent_all (machine_of turn_of c.setup) c.number c.history.done j xs

        mine : times m mid k a ≡ cond (m.owner k == c.number) (sends m c.history.done k a j) 0 + times m xs k a
        mine = ap (λ p. times m (sent_all (machine_of turn_of p) c.number c.history.done j xs) k a) own.0 ∙ resent m law c.number (rank_of_bound base) c.history.first c.history.base j k a xs c.history.done (done 0 c refl)

        alien : m.owner k ≡ c.number → (b : Bool) → is_member cs (m.owner k) ≡ b → b ≡ false
        alien e false h = refl
        alien e true h = let at = member_at cs (m.owner k) h in absurd (apart_here place first c cs apart at.place at.c at.there (at.number ∙ e))

        go : times m (all_sent turn_of cs j mid) k a ≡ sent_among cs k a j + times m mid k a → (m.owner k ≡ c.number) ⊎ (m.owner k ≡ c.number → ⊥) → times m (all_sent turn_of (c ∷ cs) j xs) k a ≡ sent_among (c ∷ cs) k a j + times m xs k a
        go rest (inl e) =
            let none : sent_among cs k a j ≡ 0 = ap (λ b. cond b (sends m (history_of m cs (m.owner k)).done k a j) 0) (alien e (is_member cs (m.owner k)) refl) in
            let here : times m mid k a ≡ sends m c.history.done k a j + times m xs k a = mine ∙ ap (λ b. cond b (sends m c.history.done k a j) 0 + times m xs k a) (eq-eqb (m.owner k) c.number e) in
            rw (eq-eqb (m.owner k) c.number e) (omega (arith, rest, none, here))
        go rest (inr ne) =
            let here : times m mid k a ≡ 0 + times m xs k a = mine ∙ ap (λ b. cond b (sends m c.history.done k a j) 0 + times m xs k a) (ne_eqb (m.owner k) c.number ne) in
            rw (ne_eqb (m.owner k) c.number ne) (omega (arith, rest, here))

taken_on : (t w x u o n r : ℕ) → u ≡ t + w → w ≡ x → u + o + n ≡ r → t + x + o + n ≡ r
taken_on t w x u o n r e f h = omega (arith, e, f, h)

taken_back : (t w x u o n r : ℕ) → u ≡ t + w → w ≡ x → t + x + o + n ≡ r → u + o + n ≡ r
taken_back t w x u o n r e f h = omega (arith, e, f, h)

standing_on : (b : Bool) (t u n p q : ℕ) → u ≡ t + cond b n 0 → u + p ≡ n + q → t + p ≡ cond b 0 n + q
standing_on true t u n p q e h = omega (arith, e, h)
standing_on false t u n p q e h = omega (arith, e, h)

standing_back : (b : Bool) (t u n p q : ℕ) → u ≡ t + cond b n 0 → t + p ≡ cond b 0 n + q → u + p ≡ n + q
standing_back true t u n p q e h = omega (arith, e, h)
standing_back false t u n p q e h = omega (arith, e, h)

flipped : (a b : ℕ) → (a == b) ≡ (b == a)
flipped a b = go (cases_eq a b)
  where
    go : (a ≡ b) ⊎ (a ≡ b → ⊥) → (a == b) ≡ (b == a)
    go (inl e) = eq-eqb a b e ∙ sym (eq-eqb b a (sym e))
    go (inr ne) = ne_eqb a b ne ∙ sym (ne_eqb b a (λ e. ne (sym e)))

module _ {T : Type 0} (turn_of : T → ℕ → ℕ → Option Turn) (taken standing tray out : List Signed) where
  pub matched_at : (cs : List (ComponentView (Setup T))) → AreMatched turn_of cs taken standing tray out → (q : ℕ) (c : ComponentView (Setup T)) → slice_get cs q ≡ Some c
      → IsTaken (machine_of turn_of c.setup) c.number c.history taken tray × IsStanding (machine_of turn_of c.setup) c.number c.history standing out
  matched_at [] all q c e = cc
  matched_at (d ∷ ds) all zero c e = subst (λ x. IsTaken (machine_of turn_of x.setup) x.number x.history taken tray × IsStanding (machine_of turn_of x.setup) x.number x.history standing out) (one_some d c e) (all.0, all.1)
  matched_at (d ∷ ds) all (suc q) c e = matched_at ds all.2 q c e

  pub all_matched : (cs : List (ComponentView (Setup T)))
      → ((q : ℕ) (c : ComponentView (Setup T)) → slice_get cs q ≡ Some c → IsTaken (machine_of turn_of c.setup) c.number c.history taken tray × IsStanding (machine_of turn_of c.setup) c.number c.history standing out)
      → AreMatched turn_of cs taken standing tray out
  all_matched [] each = tt
  all_matched (c ∷ cs) each = let here = each 0 c refl in (here.0, here.1, all_matched cs (λ q d at. each (suc q) d at))

module _ {T : Type 0} (turn_of : T → ℕ → ℕ → Option Turn) (v : GroupView (Setup T)) (law : Lawful (machine_of turn_of v.setup)) (sound : AreSound turn_of (record { setup = v.setup; base = v.base; components = v.components })) (stub : Stub) (taken standing : List Signed) where
  abbrev M : Machine (List Datum) Named
  M = machine_of turn_of v.setup

  abbrev cs : List (ComponentView (Setup T))
  cs = v.components

  -- how often the components sent to each other the message of this key and action to component j
  abbrev inside : ℕ → Named → ℕ → ℕ
  inside k a j = cond (is_member cs j) (cond (is_member cs (M.owner k)) (sends M (history_of M cs (M.owner k)).done k a j) 0) 0

  module _ (with_taken : (j k : ℕ) (a : Named) → times M (in_flight Plus j taken) k a ≡ times M (in_flight Plus j stub.taken) k a + inside k a j)
      (with_standing : (j k : ℕ) (a : Named) → times M (in_flight Plus j standing) k a ≡ times M (in_flight Plus j stub.standing) k a + inside k a j)
      (base : rank_of_bound v.base ≡ rank_of_bound stub.base) (floor : rank_of_bound v.floor ≡ rank_of_bound stub.floor)
      (group : ℕ → ℕ) (members : AreMembers group v.number cs) where
    module _ (q : ℕ) (c : ComponentView (Setup T)) (there : slice_get cs q ≡ Some c) where
      own_machine : machine_of turn_of c.setup ≡ M
      own_machine = ap (machine_of turn_of) (own_there v.setup v.base cs q c sound.own there).0

      member : is_member cs c.number ≡ true
      member = member_there cs q c there

      mine : group c.number ≡ v.number
      mine = eqb-true (group c.number) v.number (members c.number ∙ member)

      history : history_of M cs c.number ≡ c.history
      history = history_there M sound.place 0 cs q c sound.apart there

      -- what came from within
      from_inside : (k : ℕ) (a : Named) → inside k a c.number ≡ within M group k c.number (sends M (history_of M cs (M.owner k)).done k a c.number)
      from_inside k a =
          let s = sends M (history_of M cs (M.owner k)).done k a c.number in
          ap (λ b. cond b (cond (is_member cs (M.owner k)) s 0) 0) member
          ∙ ap (λ b. cond b s 0) (sym (members (M.owner k)))
          ∙ ap (λ n. cond (group (M.owner k) == n) s 0) (sym mine)

      abbrev TakenFrom : Record (List Datum) Named → Type 0
      TakenFrom r =
          (k : ℕ) (a : Named)
          → times M (in_flight Plus c.number stub.taken) k a + within M group k c.number (sends M (history_of M cs (M.owner k)).done k a c.number) + times M r.owed k a + times M (in_flight Minus c.number v.tray) k a
          ≡ inputs M r.done k a + times M r.pending k a + times M (in_flight Plus c.number v.tray) k a

      taken_there : IsTaken (machine_of turn_of c.setup) c.number c.history taken v.tray → TakenFrom (history_of M cs c.number)
      taken_there h =
          subst TakenFrom (sym history) (λ k a.
          taken_on (times M (in_flight Plus c.number stub.taken) k a) (inside k a c.number) (within M group k c.number (sends M (history_of M cs (M.owner k)).done k a c.number)) (times M (in_flight Plus c.number taken) k a) (times M c.history.owed k a) (times M (in_flight Minus c.number v.tray) k a)
          (inputs M c.history.done k a + times M c.history.pending k a + times M (in_flight Plus c.number v.tray) k a) (with_taken c.number k a) (from_inside k a) (subst (λ x. IsTaken x c.number c.history taken v.tray) own_machine h k a))

      taken_here : TakenFrom (history_of M cs c.number) → IsTaken (machine_of turn_of c.setup) c.number c.history taken v.tray
      taken_here h =
          subst (λ x. IsTaken x c.number c.history taken v.tray) (sym own_machine) (λ k a.
          taken_back (times M (in_flight Plus c.number stub.taken) k a) (inside k a c.number) (within M group k c.number (sends M (history_of M cs (M.owner k)).done k a c.number)) (times M (in_flight Plus c.number taken) k a) (times M c.history.owed k a) (times M (in_flight Minus c.number v.tray) k a)
          (inputs M c.history.done k a + times M c.history.pending k a + times M (in_flight Plus c.number v.tray) k a) (with_taken c.number k a) (from_inside k a) (subst TakenFrom history h k a))

      -- what stays within, and what leaves
      of_inside : (k : ℕ) (a : Named) (j : ℕ) → M.owner k ≡ c.number → inside k a j ≡ cond (is_member cs j) (sends M c.history.done k a j) 0
      of_inside k a j own =
          let at : history_of M cs (M.owner k) ≡ c.history = ap (history_of M cs) own ∙ history in
          let there_too : is_member cs (M.owner k) ≡ true = ap (is_member cs) own ∙ member in
          ap (λ b. cond (is_member cs j) (cond b (sends M (history_of M cs (M.owner k)).done k a j) 0) 0) there_too
          ∙ ap (λ (r : Record (List Datum) Named). cond (is_member cs j) (sends M r.done k a j) 0) at

      leaving : (k : ℕ) (a : Named) (j : ℕ) → M.owner k ≡ c.number → between M group k j (sends M (history_of M cs (M.owner k)).done k a j) ≡ cond (is_member cs j) 0 (sends M c.history.done k a j)
      leaving k a j own =
          let at : history_of M cs (M.owner k) ≡ c.history = ap (history_of M cs) own ∙ history in
          let of_group : group (M.owner k) ≡ v.number = ap group own ∙ mine in
          ap (λ (r : Record (List Datum) Named). cond (group (M.owner k) == group j) 0 (sends M r.done k a j)) at
          ∙ ap (λ n. cond (n == group j) 0 (sends M c.history.done k a j)) of_group
          ∙ ap (λ b. cond b 0 (sends M c.history.done k a j)) (flipped v.number (group j) ∙ members j)

      with_one : (k : ℕ) (a : Named) (j : ℕ) → M.owner k ≡ c.number → times M (in_flight Plus j standing) k a ≡ times M (in_flight Plus j stub.standing) k a + cond (is_member cs j) (sends M c.history.done k a j) 0
      with_one k a j own = with_standing j k a ∙ ap (λ n. times M (in_flight Plus j stub.standing) k a + n) (of_inside k a j own)

      standing_there : IsStanding (machine_of turn_of c.setup) c.number c.history standing v.out → (k : ℕ) (a : Named) (j : ℕ) → M.owner k ≡ c.number
          → times M (in_flight Plus j stub.standing) k a + times M (in_flight Plus j v.out) k a ≡ between M group k j (sends M (history_of M cs (M.owner k)).done k a j) + times M (in_flight Minus j v.out) k a
      standing_there h k a j own =
          standing_on (is_member cs j) (times M (in_flight Plus j stub.standing) k a) (times M (in_flight Plus j standing) k a) (sends M c.history.done k a j) (times M (in_flight Plus j v.out) k a) (times M (in_flight Minus j v.out) k a) (with_one k a j own)
          (subst (λ x. IsStanding x c.number c.history standing v.out) own_machine h k a j own)
          ∙ ap (λ n. n + times M (in_flight Minus j v.out) k a) (sym (leaving k a j own))

      standing_here : ((k : ℕ) (a : Named) (j : ℕ) → M.owner k ≡ c.number
          → times M (in_flight Plus j stub.standing) k a + times M (in_flight Plus j v.out) k a ≡ between M group k j (sends M (history_of M cs (M.owner k)).done k a j) + times M (in_flight Minus j v.out) k a)
          → IsStanding (machine_of turn_of c.setup) c.number c.history standing v.out
      standing_here h =
          subst (λ x. IsStanding x c.number c.history standing v.out) (sym own_machine) (λ k a j own.
          standing_back (is_member cs j) (times M (in_flight Plus j stub.standing) k a) (times M (in_flight Plus j standing) k a) (sends M c.history.done k a j) (times M (in_flight Plus j v.out) k a) (times M (in_flight Minus j v.out) k a) (with_one k a j own)
          (h k a j own ∙ ap (λ n. n + times M (in_flight Minus j v.out) k a) (leaving k a j own)))

    member_of : (i : ℕ) → group i ≡ v.number → IsAt cs i
    member_of i e = member_at cs i (sym (members i) ∙ eq-eqb (group i) v.number e)

    pub matches : AreMatched turn_of cs taken standing v.tray v.out → Matches M group v.number (stub_of M stub) (lease_of M v)
    matches all =
        record {
          base = base;
          floor = floor;
          taken = λ i k a e.
              let at = member_of i e in
              subst (λ l. times M (in_flight Plus l stub.taken) k a + within M group k l (sends M (history_of M cs (M.owner k)).done k a l) + times M (history_of M cs l).owed k a + times M (in_flight Minus l v.tray) k a ≡ inputs M (history_of M cs l).done k a + times M (history_of M cs l).pending k a + times M (in_flight Plus l v.tray) k a) at.number
              (taken_there at.place at.c at.there (matched_at turn_of taken standing v.tray v.out cs all at.place at.c at.there).0 k a);
          standing = λ k a j e.
              let at = member_of (M.owner k) e in
              standing_there at.place at.c at.there (matched_at turn_of taken standing v.tray v.out cs all at.place at.c at.there).1 k a j (sym at.number);
        }

    pub matched : Matches M group v.number (stub_of M stub) (lease_of M v) → AreMatched turn_of cs taken standing v.tray v.out
    matched is =
        all_matched turn_of taken standing v.tray v.out cs (λ q c there. (
          taken_here q c there (λ k a. is.taken c.number k a (mine q c there)),
          standing_here q c there (λ k a j own. is.standing k a j (ap group own ∙ mine q c there)),
        ))

module _ {T : Type 0} (turn_of : T → ℕ → ℕ → Option Turn) (count : ℕ) (v : GroupView (Setup T)) (law : Lawful (machine_of turn_of v.setup)) (sound : AreSound turn_of (record { setup = v.setup; base = v.base; components = v.components }))
    (valid : IsValidLease (machine_of turn_of v.setup) count v) (stub : Stub) (all inner taken standing : List Signed) where
  are_done : AreDone turn_of v.setup v.base law sound.place v.components
  are_done q c there =
      let M = machine_of turn_of v.setup in
      let own = own_members v.number v.components in
      let mine = eqb-true (own_group v.number v.components c.number) v.number (own c.number ∙ member_there v.components q c there) in
      let proper = (valid.lease (own_group v.number v.components) own).proper c.number mine in
      subst (λ (r : Record (List Datum) Named). IsDone M c.number (rank_of_bound v.base) r.first r.base r.done) (history_there M sound.place 0 v.components q c sound.apart there) proper.done

  -- what components sent to each other, counted
  counted_inside : ((j : ℕ) → in_flight Plus j all ≡ all_sent turn_of v.components j []) → AreInside v.components all inner
      → (j k : ℕ) (a : Named) → times (machine_of turn_of v.setup) (in_flight Plus j inner) k a ≡ inside turn_of v law sound stub taken standing k a j
  counted_inside sent kept j k a =
      let M = machine_of turn_of v.setup in
      let many : times M (in_flight Plus j all) k a ≡ sent_among turn_of v.setup v.base law sound.place v.components k a j + times M [] k a
      = ap (λ xs. times M xs k a) (sent j) ∙ all_counted turn_of v.setup v.base law sound.place k a j 0 v.components sound.apart sound.own are_done [] in
      kept (system turn_of v.setup) j k a ∙ ap (λ n. cond (is_member v.components j) n 0) (omega (arith, many))

  pub tells : ((j : ℕ) → in_flight Plus j all ≡ all_sent turn_of v.components j []) → AreInside v.components all inner → AreTogether stub.taken inner taken → AreTogether stub.standing inner standing
      → rank_of_bound v.base ≡ rank_of_bound stub.base → rank_of_bound v.floor ≡ rank_of_bound stub.floor
      → (answer : Bool) → (answer ≡ true) ↔ AreMatched turn_of v.components taken standing v.tray v.out → TellsMatch (machine_of turn_of v.setup) stub v answer
  tells sent kept with_taken with_standing base floor answer told group members = (
    (λ yes. matches turn_of v law sound stub taken standing more_taken more_standing base floor group members (told.0 yes)),
    (λ is. told.1 (matched turn_of v law sound stub taken standing more_taken more_standing base floor group members is)),
  )
    where
      more_taken : (j k : ℕ) (a : Named) → times (machine_of turn_of v.setup) (in_flight Plus j taken) k a ≡ times (machine_of turn_of v.setup) (in_flight Plus j stub.taken) k a + inside turn_of v law sound stub taken standing k a j
      more_taken j k a = with_taken (system turn_of v.setup) j k a ∙ ap (λ n. times (machine_of turn_of v.setup) (in_flight Plus j stub.taken) k a + n) (counted_inside sent kept j k a)

      more_standing : (j k : ℕ) (a : Named) → times (machine_of turn_of v.setup) (in_flight Plus j standing) k a ≡ times (machine_of turn_of v.setup) (in_flight Plus j stub.standing) k a + inside turn_of v law sound stub taken standing k a j
      more_standing j k a = with_standing (system turn_of v.setup) j k a ∙ ap (λ n. times (machine_of turn_of v.setup) (in_flight Plus j stub.standing) k a + n) (counted_inside sent kept j k a)
