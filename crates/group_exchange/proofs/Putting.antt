-- The turns that the components of a group give up are put into their lists, one list after the other.
use Rattle.std.proofs.Common.{◌≡◌, ℕ, zero, suc, ◌+◌, ◌<◌, ◌≤◌, ◌==◌, ◌⊎◌, inl, inr, Bool, true, false, true≢false, cond, Option, None, Some, List, [], ◌∷◌, length, refl, ap, sym, subst, ◌∙◌, arith}
use Rattle.std.specs.Prelude.{slice_get, slice_set}
use Rattle.std.specs.Option.{option_or}
use Rattle.std.proofs.lemmas.Bool.{cases_eq, ne_eqb}
use Rattle.std.proofs.lemmas.Option.{slice_get_within}
use Rattle.terms.specs.Named.{Named}
use Rattle.event_keys.specs.declared.outcome.Turned.{Turned}
use Rattle.event_keys.specs.Ranks.{owner_of}
use Rattle.raw_events.specs.Around.{Around}
use Rattle.antimessage.specs.Counts.{Each}
use Rattle.virtual_time.specs.Reference.{Falls, Turn, outcome_at}
use Rattle.virtual_time.specs.Exchange.Merged.{put_turns}
use Rattle.task_seed.specs.Taken.{turns_of}
use Rattle.rollback.specs.ComponentView.{ComponentView}
use Rattle.groups.specs.Crew.{AreApart}
use Rattle.groups.specs.GroupView.{AreMembers, is_member}
use Rattle.groups.proofs.Placed.{member_at, member_there}
use Rattle.group_exchange.specs.Held.{AreInOrder, AreOwned, HasPut, HasPutOne, HavePutTo, put_all}
use Rattle.group_exchange.proofs.Lists.{length_set, order_at, put_at}
use Rattle.group_exchange.proofs.Owned.{IsOf, owned_at}
use Rattle.group_exchange.proofs.Placing.{get_other, one_some, slice_set-length}

abbrev pub MergedFalls : Type 0
MergedFalls =
    (turns held : List (Turn Named)) → Falls turns → Falls held → ((k : ℕ) (outcome : Option Named) → outcome_at k turns ≡ Some outcome → outcome_at k held ≡ None) → Falls (put_turns turns held)

abbrev pub MergedOutcomes : Type 0
MergedOutcomes =
    (turns held : List (Turn Named)) → Falls turns → Falls held → ((k : ℕ) (outcome : Option Named) → outcome_at k turns ≡ Some outcome → outcome_at k held ≡ None)
    → (k : ℕ) → outcome_at k (put_turns turns held) ≡ option_or (outcome_at k turns) (outcome_at k held)

-- a turn that is there is its owner's
owner_at : (i k : ℕ) (o : Option Named) (ts : List (Turn Named)) → Each (IsOf i) ts → outcome_at k ts ≡ Some o → owner_of k ≡ i
owner_at i k o [] own e = cc
owner_at i k o (t ∷ ts) own e = go (owner_at i k o ts own.1) (cases_eq t.key k) e
  where
    go : (outcome_at k ts ≡ Some o → owner_of k ≡ i) → (t.key ≡ k) ⊎ (t.key ≡ k → ⊥) → outcome_at k (t ∷ ts) ≡ Some o → owner_of k ≡ i
    go rest (inl same) h = ap owner_of (sym same) ∙ own.0
    go rest (inr ne) h = rest (subst (λ (b : Bool). cond b (Some t.outcome) (outcome_at k ts) ≡ Some o) (ne_eqb t.key k ne) h)

missing_at : (i k : ℕ) (ts : List (Turn Named)) → Each (IsOf i) ts → (owner_of k ≡ i → ⊥) → outcome_at k ts ≡ None
missing_at i k ts own ne = go (outcome_at k ts) refl
  where
    go : (o : Option (Option Named)) → outcome_at k ts ≡ o → o ≡ None
    go None e = refl
    go (Some o) e = absurd (ne (owner_at i k o ts own e))

module _ {P : Type 0} (cs : List (ComponentView P)) (place : ℕ → ℕ) (apart : AreApart place 0 cs) (lists : List (Around Turned)) (taken : ℕ → List (Turn Named))
    (are : (q : ℕ) (c : ComponentView P) (turns : Around Turned) → slice_get cs q ≡ Some c → slice_get lists q ≡ Some turns → turns_of turns.after ≡ taken c.number)
    (fall : (q : ℕ) (c : ComponentView P) → slice_get cs q ≡ Some c → Falls (taken c.number))
    (own : (q : ℕ) (c : ComponentView P) → slice_get cs q ≡ Some c → Each (IsOf c.number) (taken c.number))
    (old : List (List Turned)) (old_falls : Falls (put_all old)) (old_order : AreInOrder old) (old_owned : AreOwned 0 old)
    (free : (q : ℕ) (c : ComponentView P) → slice_get cs q ≡ Some c → (k : ℕ) (o : Option Named) → outcome_at k (taken c.number) ≡ Some o → outcome_at k (put_all old) ≡ None)
    (merged_falls : MergedFalls) (merged_outcomes : MergedOutcomes) where
  -- what holds once the lists of the first so many were put into theirs
  pub record IsPut (n : ℕ) (now : List (List Turned)) : Type 0 where
    pub falls : Falls (put_all now)
    pub order : AreInOrder now
    pub owners : AreOwned 0 now
    pub many : length now ≡ length old
    pub mine : (k q : ℕ) (c : ComponentView P) → q < n → slice_get cs q ≡ Some c → owner_of k ≡ c.number → outcome_at k (put_all now) ≡ option_or (outcome_at k (taken c.number)) (outcome_at k (put_all old))
    pub others : (k : ℕ) → ((q : ℕ) (c : ComponentView P) → q < n → slice_get cs q ≡ Some c → owner_of k ≡ c.number → ⊥) → outcome_at k (put_all now) ≡ outcome_at k (put_all old)

  -- no two have one number
  other_number : (q n : ℕ) (d c : ComponentView P) → slice_get cs q ≡ Some d → slice_get cs n ≡ Some c → q < n → d.number ≡ c.number → ⊥
  other_number q n d c at there l e =
      let a = apart q d at in
      let b = apart n c there in
      let same : place d.number ≡ place c.number = ap place e in
      omega (arith, a, b, same, l)

  put_more : (n : ℕ) (mid now : List (List Turned)) → IsPut n mid → HasPutOne cs lists n mid now → IsPut (suc n) now
  put_more n mid now is one =
      record {
        falls = subst Falls (sym both) merged;
        order = subst AreInOrder (sym one.put.all) (order_at mid one.c.number one.put.before one.put.after (turns_of one.turns.after) one.put.there one.put.put merged_code is.order);
        owners = subst (AreOwned 0) (sym one.put.all) (owned_at mid one.c.number one.put.before one.put.after (turns_of one.turns.after) one.put.there one.put.put (subst (Each (IsOf one.c.number)) (sym same) (own n one.c one.there)) is.owners);
        many = ap length one.put.all ∙ length_set mid one.c.number one.put.after ∙ is.many;
        mine = λ k q d l at e. mine k q d l at e (cases_eq q n);
        others = λ k none. outcome k ∙ ap (λ o. option_or o (outcome_at k (put_all mid))) (missing_at one.c.number k (taken one.c.number) (own n one.c one.there) (none n one.c (omega arith) one.there)) ∙ is.others k (λ q d l at e. none q d (omega (arith, l)) at e);
      }
    where
      same : turns_of one.turns.after ≡ taken one.c.number
      same = are n one.c one.turns one.there one.list

      free_now : (k : ℕ) (o : Option Named) → outcome_at k (taken one.c.number) ≡ Some o → outcome_at k (put_all mid) ≡ None
      free_now k o h =
          let owner = owner_at one.c.number k o (taken one.c.number) (own n one.c one.there) h in
          is.others k (λ q d l at e. other_number q n d one.c at one.there l (sym e ∙ owner)) ∙ free n one.c one.there k o h

      merged : Falls (put_turns (taken one.c.number) (put_all mid))
      merged = merged_falls (taken one.c.number) (put_all mid) (fall n one.c one.there) is.falls free_now

      merged_code : Falls (put_turns (turns_of one.turns.after) (put_all mid))
      merged_code = subst (λ ts. Falls (put_turns ts (put_all mid))) (sym same) merged

      both : put_all now ≡ put_turns (taken one.c.number) (put_all mid)
      both = ap put_all one.put.all ∙ put_at mid one.c.number one.put.before one.put.after (turns_of one.turns.after) one.put.there one.put.put merged_code ∙ ap (λ ts. put_turns ts (put_all mid)) same

      outcome : (k : ℕ) → outcome_at k (put_all now) ≡ option_or (outcome_at k (taken one.c.number)) (outcome_at k (put_all mid))
      outcome k = ap (outcome_at k) both ∙ merged_outcomes (taken one.c.number) (put_all mid) (fall n one.c one.there) is.falls free_now k

      mine : (k q : ℕ) (d : ComponentView P) → q < suc n → slice_get cs q ≡ Some d → owner_of k ≡ d.number → (q ≡ n) ⊎ (q ≡ n → ⊥) → outcome_at k (put_all now) ≡ option_or (outcome_at k (taken d.number)) (outcome_at k (put_all old))
      mine k q d l at e (inl here) =
          let one_c : one.c ≡ d = one_some one.c d (sym one.there ∙ ap (slice_get cs) (sym here) ∙ at) in
          let number : one.c.number ≡ d.number = ap (λ (x : ComponentView P). x.number) one_c in
          outcome k ∙ ap (option_or (outcome_at k (taken one.c.number))) (is.others k (λ p x less there f. other_number p n x one.c there one.there less (sym f ∙ e ∙ sym number)))
          ∙ ap (λ j. option_or (outcome_at k (taken j)) (outcome_at k (put_all old))) number
      mine k q d l at e (inr ne) =
          let before : q < n = omega (arith, l, ne) in
          outcome k ∙ ap (λ o. option_or o (outcome_at k (put_all mid))) (missing_at one.c.number k (taken one.c.number) (own n one.c one.there) (λ f. other_number q n d one.c at one.there before (sym e ∙ f)))
          ∙ is.mine k q d before at e

  pub put_some : (n : ℕ) (now : List (List Turned)) → HavePutTo cs lists n old now → IsPut n now
  put_some zero now e =
      subst (IsPut 0) (sym e) (record { falls = old_falls; order = old_order; owners = old_owned; many = refl; mine = λ k q c l. absurd (omega (arith, l)); others = λ k none. refl })
  put_some (suc n) now h = put_more n h.0 now (put_some n h.0 h.1) h.2

  -- all of them
  module _ (now : List (List Turned)) (put : HavePutTo cs lists (length cs) old now) (group : ℕ → ℕ) (g : ℕ) (members : AreMembers group g cs) where
    pub outcomes : (k : ℕ) → outcome_at k (put_all now) ≡ cond (group (owner_of k) == g) (option_or (outcome_at k (taken (owner_of k))) (outcome_at k (put_all old))) (outcome_at k (put_all old))
    outcomes k = go (is_member cs (owner_of k)) refl
      where
        all : IsPut (length cs) now
        all = put_some (length cs) now put

        go : (b : Bool) → is_member cs (owner_of k) ≡ b → outcome_at k (put_all now) ≡ cond (group (owner_of k) == g) (option_or (outcome_at k (taken (owner_of k))) (outcome_at k (put_all old))) (outcome_at k (put_all old))
        go true e =
            let at = member_at cs (owner_of k) e in
            all.mine k at.place at.c (slice_get_within cs at.place at.c at.there) at.there (sym at.number)
            ∙ ap (λ j. option_or (outcome_at k (taken j)) (outcome_at k (put_all old))) at.number
            ∙ sym (ap (λ (b : Bool). cond b (option_or (outcome_at k (taken (owner_of k))) (outcome_at k (put_all old))) (outcome_at k (put_all old))) (members (owner_of k) ∙ e))
        go false e =
            all.others k (λ q c l at f. true≢false (sym (member_there cs q c at) ∙ ap (is_member cs) (sym f) ∙ e))
            ∙ sym (ap (λ (b : Bool). cond b (option_or (outcome_at k (taken (owner_of k))) (outcome_at k (put_all old))) (outcome_at k (put_all old))) (members (owner_of k) ∙ e))

-- a loop that puts them in
module _ {P : Type 0} (cs : List (ComponentView P)) (lists : List (Around Turned)) where
  pub record IsPutting (old : List (List Turned)) (place : ℕ) (now_lists : List (Around Turned)) (now : List (List Turned)) : Type 0 where
    pub put : HavePutTo cs lists place old now
    pub many : length now_lists ≡ length lists
    pub rest : (q : ℕ) → place ≤ q → slice_get now_lists q ≡ slice_get lists q
    pub long : length now ≡ length old

  pub putting_starts : (old : List (List Turned)) → IsPutting old 0 lists old
  putting_starts old = record { put = refl; many = refl; rest = λ q l. refl; long = refl }

  pub putting_more : (old : List (List Turned)) (place : ℕ) (now_lists : List (Around Turned)) (now : List (List Turned)) → IsPutting old place now_lists now → (c : ComponentView P) → slice_get cs place ≡ Some c → (turns : Around Turned) → slice_get now_lists place ≡ Some turns → (empty : Around Turned)
      (new : List (List Turned)) → HasPut c.number turns.after now new → IsPutting old (place + 1) (slice_set now_lists place empty) new
  putting_more old place now_lists now is c there turns at empty new put =
      let one : suc place ≡ place + 1 = omega arith in
      record {
        put = subst (λ n. HavePutTo cs lists n old new) one (now, is.put, record { c = c; there = there; turns = turns; list = sym (is.rest place (omega arith)) ∙ at; put = put });
        many = slice_set-length now_lists place empty ∙ is.many;
        rest = λ q l. get_other now_lists place empty q (λ e. omega (arith, e, l)) ∙ is.rest q (omega (arith, l));
        long = ap length put.all ∙ length_set now c.number put.after ∙ is.long;
      }
