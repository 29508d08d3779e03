-- A group that took its next turn.
use Rattle.std.proofs.Common.{◌≡◌, ℕ, zero, suc, ◌+◌, ◌<◌, ◌≤◌, ◌⊎◌, inl, inr, Option, None, Some, List, [], ◌∷◌, ◌++◌, drop, length, refl, ap, sym, subst, ◌∙◌, arith, slice_set}
use Rattle.std.specs.Prelude.{Contains, slice_get}
use Rattle.std.proofs.lemmas.Bool.{cases_eq, cases_lt}
use Rattle.std.proofs.lemmas.List.Elements.{Contains-append_cases}
use Rattle.std.proofs.lemmas.Option.{slice_get_within}
use Rattle.terms.specs.Datum.{Datum}
use Rattle.terms.specs.Named.{Named}
use Rattle.event_keys.specs.declared.key.Key.{Key}
use Rattle.event_keys.specs.Ranks.{rank, owner_of}
use Rattle.task_seed.specs.Turning.{System}
use Rattle.reference.specs.Queues.{rank_or_end}
use Rattle.lone_group.specs.declared.batch.Slot.{Slot}
use Rattle.shares.specs.Shares.{AreOwn}
use Rattle.shares.specs.Turns.{HasTurn, NoTurn, group_at}
use Rattle.shares.specs.declared.share.Own.{Own}
use Rattle.shares.specs.declared.share.Wait.{Wait}
use Rattle.sure_groups.specs.declared.bags.Bag.{Bag}
use Rattle.sure_groups.specs.declared.input.Input.{Input}
use Rattle.sure_groups.specs.declared.member.Member.{Member}
use Rattle.sure_groups.specs.Inputs.{Comes, IsOneOf, Knows, heard_at}
use Rattle.sure_groups.specs.Members.{IsMember}
use Rattle.sure_groups.specs.Passing.{HasActed, acted}
use Rattle.sure_groups.specs.Sure.{AreBags, AreMembers, AreSure, IsTaken, next_of}
use Rattle.sure_groups.proofs.Coming.{known, owner}
use Rattle.sure_groups.proofs.Dealt.{first_up, from_first, none_before_first}
use Rattle.sure_groups.proofs.Points as points
use Rattle.sure_groups.proofs.Standing.{reached, stays, takes_turn}
use Rattle.sure_groups.proofs.Written.{get_same, heard_before, heard_now, heard_there, set_length}

-- the first of what is left, where some is
pub left_first : {X : Type 0} (xs : List X) (n : ℕ) (x : X) → slice_get xs n ≡ Some x → drop n xs ≡ x ∷ drop (n + 1) xs
left_first xs n x e = go xs n x e ∙ (let more : suc n ≡ n + 1 = omega arith in ap (λ k. x ∷ drop k xs) more)
  where
    go : {X : Type 0} (xs : List X) (n : ℕ) (x : X) → slice_get xs n ≡ Some x → drop n xs ≡ x ∷ drop (suc n) xs
    go [] n x e = cc
    go (y ∷ ys) zero x e = let same : y ≡ x = cc in ap (λ z. z ∷ ys) same
    go (y ∷ ys) (suc n) x e = go ys n x e

module _ (s : System) (groups : List ℕ) (heard : List (Option Key)) (me : ℕ) (members : List Member) (own : Own) (later : List Own) (until : Option Key) (bags : List Bag) (slots : List Slot)
    (h : AreSure s groups heard me members (own ∷ later) until bags slots) where
  abbrev k : ℕ
  k = rank own.due.key

  abbrev i : ℕ
  i = own.due.key.component

  pub member : group_at groups i ≡ me
  member = h.own_are.2

  mine : heard_at heard me ≡ k
  mine = heard_there heard me (Some own.due.key) h.mine

  -- where all that it awaits was heard of, all is known that comes before it
  pub all_known : ((wait : Wait) → Contains own.waits.items wait → rank wait.last < heard_at heard wait.group) → Knows s groups heard i k
  all_known waits = known s h.senders h.senders_are groups heard own h.own_are.4 (let same : heard_at heard (group_at groups i) ≡ k = ap (heard_at heard) member ∙ mine in omega (arith, same)) waits

  abbrev next : ℕ
  next = rank_or_end (next_of later until)

  abbrev now : List (Option Key)
  now = slice_set heard me (next_of later until)

  rest : AreOwn s h.senders groups me (k + 1) later until
  rest = h.own_are.5

  later_up : suc k ≤ next
  later_up = let up = first_up s groups h.senders me (k + 1) later until rest in omega (arith, up)

  none_between : NoTurn s groups me (suc k) next
  none_between r o low high e = none_before_first s groups h.senders me (k + 1) later until rest r o (omega (arith, low)) high e

  inside : me < length heard
  inside = slice_get_within heard me (Some own.due.key) h.mine

  mine_now : heard_at now me ≡ next
  mine_now = heard_now heard me (next_of later until) inside

  its : owner_of k ≡ i
  its = owner own.due.key h.own_are.3.small

  -- it was taken, and handed on
  pub stepped : (found : Option Named) → HasTurn s k found → (mids news : List Member) (bags_now : List Bag) → length mids ≡ length members → AreMembers s groups heard me k mids → Knows s groups heard i k
      → ((m : Member) (x : Input) → slice_get mids i ≡ Some m → IsOneOf m.pending.items x → k ≤ rank x.key) → HasActed s groups heard me k i found mids news bags_now → length bags_now ≡ length bags
      → AreSure s groups now me news later until bags_now (slots ++ record { key = own.due.key; found = found } ∷ [])
  stepped found turn mids news bags_now many are knows none acts count = record {
    senders = h.senders;
    senders_are = h.senders_are;
    every = h.every;
    below = λ j within. (let low = h.below j within in let long = set_length heard me (next_of later until) in omega (arith, low, long));
    many = acts.many ∙ many ∙ h.many;
    bagged = count ∙ h.bagged ∙ sym (set_length heard me (next_of later until));
    mine = get_same heard me (next_of later until) inside;
    own_are = from_first s groups h.senders me (k + 1) later until rest;
    members_are = λ j m at group. one j m at group (cases_eq j i);
    bags_are = gathered;
    slots_are = λ slot is. taken slot (Contains-append_cases slots (record { key = own.due.key; found = found } ∷ []) slot is);
  }
    where
      its_turn : (m : Member) → slice_get news i ≡ Some m → (o : Option Member) → slice_get mids i ≡ o → IsMember s groups now next i m
      its_turn m at None gone = absurd (nothing (slice_get_within news i m at))
        where
          nothing : i < length news → ⊥
          nothing within = let long = acts.many in go mids i gone (omega (arith, within, long))
            where
              go : (xs : List Member) (n : ℕ) → slice_get xs n ≡ None → n < length xs → ⊥
              go [] n e low = omega (arith, low)
              go (x ∷ xs) zero e low = let both : Some x ≡ None = e in cc
              go (x ∷ xs) (suc n) e low = go xs n e (omega (arith, low))
      its_turn m at (Some mid) there =
          let was = are i mid there member in
          let after = acts.own mid m there at in
          let stood = reached s groups heard k i mid.state.current mid.pending.items was.stands knows (λ x is. none mid x there is) in record {
            plain = after.0;
            memo = after.1;
            stands = subst (λ l. Rattle.sure_groups.specs.Members.Stands s groups now next i m.state.current l) (sym after.2)
                (takes_turn s groups heard now me k next mine mine_now (λ g ne. heard_before heard me (next_of later until) g ne) later_up none_between i found mid.state.current m.state.current mid.pending.items member its turn
                (after.3 ∙ moved found turn mid.state.current stood) knows (λ x is. none mid x there is) was.stands);
          }
        where
          moved : (o : Option Named) → HasTurn s k o → (state : List Datum) → state ≡ points.state_of s i k → acted s groups heard me k i o state ≡ points.state_of s i (suc k)
          moved None e state is = is ∙ sym (points.own_idle s i k e)
          moved (Some a) e state is = ap (Rattle.io_automata.specs.Steps.applied s.composition i a) is ∙ sym (points.own_acts s i k a e its)

      one : (j : ℕ) (m : Member) → slice_get news j ≡ Some m → group_at groups j ≡ me → (j ≡ i) ⊎ (j ≡ i → ⊥) → IsMember s groups now next j m
      one j m at group (inl e) = subst (λ q. IsMember s groups now next q m) (sym e) (its_turn m (subst (λ q. slice_get news q ≡ Some m) e at) (slice_get mids i) refl)
      one j m at group (inr ne) =
          let is = acts.others j m at group ne in record {
            plain = is.0.plain;
            memo = is.0.memo;
            stands = stays s groups heard now me k next mine mine_now (λ g other. heard_before heard me (next_of later until) g other) later_up none_between j m.state.current m.pending.items group (λ e. ne (sym e ∙ its)) is.1 is.0.stands;
          }

      gathered : AreBags s groups me next bags_now
      gathered group bag at other =
          let is = acts.bags_are group bag at other in (
            let low = is.0 in let up = later_up in omega (arith, low, up),
            record {
              each = is.1.each;
              all = λ j r a low high from to comes. is.1.all j r a low (before j r a high from comes (cases_lt r (suc k))) from to comes;
            },
          )
        where
          before : (j r : ℕ) (a : Named) → r < next → group_at groups (owner_of r) ≡ me → Comes s j r a → (r < suc k) ⊎ (suc k ≤ r) → r < suc k
          before j r a high from comes (inl less) = less
          before j r a high from comes (inr up) = absurd (none_between r (Some a) up high comes.0 from)

      taken : (slot : Slot) → Contains slots slot ⊎ Contains (record { key = own.due.key; found = found } ∷ []) slot → IsTaken s slot
      taken slot (inl old) = h.slots_are slot old
      taken slot (inr new) = subst (λ (t : Slot). IsTaken s t) (only new) turn
        where
          only : Contains (record { key = own.due.key; found = found } ∷ []) slot → record { key = own.due.key; found = found } ≡ slot
          only (zero, low, e) = e
          only (suc n, low, e) = absurd (omega (arith, low))
