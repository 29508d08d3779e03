-- What comes from the tray keeps what a lease has by its type.
use Rattle.std.proofs.Common.{◌≡◌, ℕ, ◌<◌, ◌≤◌, ◌+◌, ◌==◌, ◌⊎◌, inl, inr, cond, true, false, None, Some, List, [], ◌∷◌, refl, ap, sym, subst, ◌∙◌, arith}
use Rattle.std.specs.Prelude.{◌&&◌, ◌-◌, ◌^◌, min, length}
use Rattle.std.proofs.lemmas.Bool.{eq-eqb, ne_eqb, cases_eq}
use Rattle.terms.specs.Datum.{Datum}
use Rattle.terms.specs.Named.{Named}
use Rattle.event_keys.specs.declared.message.Sign.{Sign}
use Rattle.event_keys.specs.declared.message.Sign.TheVariants.{Plus, Minus}
use Rattle.event_keys.specs.declared.message.Signed.{Signed}
use Rattle.virtual_time.specs.Bags.{hit, times, remove}
use Rattle.virtual_time.specs.Machine.{Machine, Lawful, HasCount}
use Rattle.virtual_time.specs.Entries.{Entry, Own, Input, Item}
use Rattle.virtual_time.specs.Records.{Record, message_comes, antimessage_comes, back_by_message, back_by_antimessage, sent_by, unsent}
use Rattle.virtual_time.specs.Worlds.{DeliverMessage, DeliverAntimessage, deliver_message, deliver_antimessage, put_back, record_of, same, taken_at}
use Rattle.virtual_time.specs.Exchange.Leases.{Does, Lease, IsLease, Matches, alone, lease_after, lease_of as lease_in}
use Rattle.antimessage.specs.Counts.{Each}
use Rattle.antimessage.specs.Bags.{is_to}
use Rattle.raw_events.specs.Around.{first_where, without_where}
use Rattle.rollback.specs.Flight.{in_flight, item_of, goes, is_sign}
use Rattle.rollback.specs.ComponentView.{comes, back_by}
use Rattle.rollback.specs.Post.{IsPosted}
use Rattle.exchange.specs.LeaseView.{LeaseView, IsValidLease, IsDelivered, AllDelivered, IsCount, lease_of}
use Rattle.exchange.specs.Core.{delivery}
use Rattle.exchange.proofs.Leasing.{AloneLaw, PutLaw, kept, not_to_self}

-- where all came to component i, the first to it is the first of all
pub none_to : (i : ℕ) (xs : List Signed) → Each (λ y. y.message.to ≡ i) xs → first_where (is_to i) xs ≡ None → xs ≡ []
none_to i [] all e = refl
none_to i (x ∷ xs) all e =
    let found : first_where (is_to i) (x ∷ xs) ≡ Some x = rw (eq-eqb x.message.to i all.0) refl in
    let both : Some x ≡ None = sym found ∙ e in
    cc

pub first_to : (i : ℕ) (xs : List Signed) (s : Signed) → Each (λ y. y.message.to ≡ i) xs → first_where (is_to i) xs ≡ Some s → xs ≡ s ∷ without_where (is_to i) xs
first_to i [] s all e = cc
first_to i (x ∷ xs) s all e =
    let found : first_where (is_to i) (x ∷ xs) ≡ Some x = rw (eq-eqb x.message.to i all.0) refl in
    let left : without_where (is_to i) (x ∷ xs) ≡ xs = rw (eq-eqb x.message.to i all.0) refl in
    let one : Some x ≡ Some s = sym found ∙ e in
    let same_one : x ≡ s = cc in
    ap (λ y. y ∷ xs) same_one ∙ ap (λ ys. s ∷ ys) (sym left)

module _ (m : Machine (List Datum) Named) (law : Lawful m) where
  -- deliveries of a lease's own are those of its record
  abbrev pub MessageLaw : Type 0
  MessageLaw =
      (i : ℕ) (lease : Lease (List Datum) Named) (message : Item Named)
      → lease_in i lease.floor (deliver_message m i message (alone m i lease)) ≡ lease_after i lease (message_comes m message (record_of lease.part)) (taken_at m i message) (unsent m i (back_by_message m message (record_of lease.part)))

  abbrev pub AntimessageLaw : Type 0
  AntimessageLaw =
      (i : ℕ) (lease : Lease (List Datum) Named) (message : Item Named)
      → lease_in i lease.floor (deliver_antimessage m i message (alone m i lease))
      ≡ lease_after i lease (antimessage_comes m message (record_of lease.part)) same (λ j xs. taken_at m i message j (unsent m i (back_by_antimessage m message (record_of lease.part)) j xs))

  one_more : (x : Item Named) (xs : List (Item Named)) → 0 < times m (x ∷ xs) x.key x.action
  unfolding hit
  one_more x xs = let a = law.same_refl x.action in rw (eq-eqb x.key x.key refl, a) (omega arith)

  first_gone : (x : Item Named) (xs : List (Item Named)) → remove m x (x ∷ xs) ≡ xs
  first_gone x xs = rw (eq-eqb x.key x.key refl, law.same_refl x.action) refl

  -- what is taken back sends nothing to the component itself
  none_to_self : (i : ℕ) (es : List (Entry Named)) (xs : List (Item Named)) → unsent m i es i xs ≡ xs
  none_to_self i [] xs = refl
  none_to_self i (e ∷ es) xs = none_to_self i es (sent_by m i e i xs) ∙ not_to_self m law i e xs

  -- beyond the components nobody is sent anything
  none_beyond : (count : ℕ) → HasCount m count → (i j : ℕ) (es : List (Entry Named)) → count ≤ j → unsent m i es j [] ≡ []
  none_beyond count counted i j [] past = refl
  none_beyond count counted i j (e ∷ es) past = ap (unsent m i es j) (one e) ∙ none_beyond count counted i j es past
    where
      one : (e : Entry Named) → sent_by m i e j [] ≡ []
      one (Own k None) = refl
      one (Own k (Some a)) = rw (counted.deaf i a j past) refl
      one (Input x) = refl

  module _ {P : Type 0} (count : ℕ) (counted : HasCount m count) (h : LeaseView P) (is : IsValidLease m count h) where
    abbrev i : ℕ
    i = h.component.number

    abbrev r : Record (List Datum) Named
    r = h.component.history

    abbrev l : Lease (List Datum) Named
    l = lease_of h

    abbrev pub after : Record (List Datum) Named → List Signed → List Signed → LeaseView P
    after q tray out = record h { component = record h.component { history = q }; tray = tray; out = out }

    here : (alone m i l).part i ≡ l.part
    here = rw (eq-eqb i i refl) refl

    plus_first : (s : Signed) (rest : List Signed) → goes Plus i s ≡ true → in_flight Plus i (s ∷ rest) ≡ item_of s ∷ in_flight Plus i rest
    plus_first s rest e = rw e refl

    module _ (back : List (Entry Named)) (out : List Signed) (sent : IsPosted Minus (unsent m i back) h.out out) where
      out_plus_is : (j : ℕ) (f : List (Item Named) → List (Item Named)) → ((j ≡ i → ⊥) → (xs : List (Item Named)) → f xs ≡ xs) → cond (j == i) [] (f (in_flight Plus j h.out)) ≡ in_flight Plus j out
      out_plus_is j f same_f = go (cases_eq j i)
        where
          go : (j ≡ i) ⊎ (j ≡ i → ⊥) → cond (j == i) [] (f (in_flight Plus j h.out)) ≡ in_flight Plus j out
          go (inl e) = rw (eq-eqb j i e) (sym (sent.other j ∙ subst (λ n. in_flight Plus n h.out ≡ []) (sym e) is.lease.self_plus))
          go (inr ne) = rw (ne_eqb j i ne) (same_f ne (in_flight Plus j h.out) ∙ sym (sent.other j))

      out_minus_is : (j : ℕ) (f : List (Item Named) → List (Item Named)) → ((j ≡ i → ⊥) → (xs : List (Item Named)) → f xs ≡ xs)
          → cond (j == i) [] (f (unsent m i back j (in_flight Minus j h.out))) ≡ in_flight Minus j out
      out_minus_is j f same_f = go (cases_eq j i)
        where
          go : (j ≡ i) ⊎ (j ≡ i → ⊥) → cond (j == i) [] (f (unsent m i back j (in_flight Minus j h.out))) ≡ in_flight Minus j out
          go (inl e) =
              rw (eq-eqb j i e)
              (sym (subst (λ n. in_flight Minus n out ≡ []) (sym e) (sent.there i ∙ none_to_self i back (in_flight Minus i h.out) ∙ is.lease.self_minus)))
          go (inr ne) = rw (ne_eqb j i ne) (same_f ne (unsent m i back j (in_flight Minus j h.out)) ∙ sym (sent.there j))

      taken_else : (x : Item Named) (j : ℕ) → (j ≡ i → ⊥) → (xs : List (Item Named)) → taken_at m i x j xs ≡ xs
      taken_else x j ne xs = rw (ne_eqb j i ne) refl

      taken_here : (x : Item Named) (xs : List (Item Named)) → taken_at m i x i xs ≡ remove m x xs
      taken_here x xs = rw (eq-eqb i i refl) refl

      module _ (s : Signed) (rest : List Signed) (tray : h.tray ≡ s ∷ rest) where
        abbrev x : Item Named
        x = item_of s

        message_is : goes Plus i s ≡ true → goes Minus i s ≡ false → back ≡ back_by_message m x r
            → lease_after i l (message_comes m x r) (taken_at m i x) (unsent m i (back_by_message m x r)) ≡ lease_of (after (message_comes m x r) rest out)
        message_is p n b =
            let q = message_comes m x r in
            let plus_is : taken_at m i x i (in_flight Plus i h.tray) ≡ in_flight Plus i rest
            = taken_here x (in_flight Plus i h.tray) ∙ ap (λ xs. remove m x (in_flight Plus i xs)) tray ∙ ap (remove m x) (plus_first s rest p) ∙ first_gone x (in_flight Plus i rest) in
            let minus_is : unsent m i (back_by_message m x r) i (in_flight Minus i h.tray) ≡ in_flight Minus i rest
            = none_to_self i (back_by_message m x r) (in_flight Minus i h.tray) ∙ ap (in_flight Minus i) tray ∙ rw n refl in
            λ v. record {
              base = l.base;
              floor = l.floor;
              part = record { base = q.base; first = q.first; done = q.done; pending = q.pending; owed = q.owed; plus = plus_is v; minus = minus_is v };
              out_plus = λ j. out_plus_is j (taken_at m i x j) (taken_else x j) v;
              out_minus = λ j. (ap (λ es. cond (j == i) [] (unsent m i es j (in_flight Minus j h.out))) (sym b) ∙ out_minus_is j (λ xs. xs) (λ ne xs. refl)) v;
            }

        antimessage_is : goes Plus i s ≡ false → goes Minus i s ≡ true → back ≡ back_by_antimessage m x r
            → lease_after i l (antimessage_comes m x r) same (λ j xs. taken_at m i x j (unsent m i (back_by_antimessage m x r) j xs)) ≡ lease_of (after (antimessage_comes m x r) rest out)
        antimessage_is p n b =
            let q = antimessage_comes m x r in
            let minus_first : in_flight Minus i (s ∷ rest) ≡ x ∷ in_flight Minus i rest = rw n refl in
            let plus_is : in_flight Plus i h.tray ≡ in_flight Plus i rest = ap (in_flight Plus i) tray ∙ rw p refl in
            let minus_is : taken_at m i x i (unsent m i (back_by_antimessage m x r) i (in_flight Minus i h.tray)) ≡ in_flight Minus i rest
            = taken_here x (unsent m i (back_by_antimessage m x r) i (in_flight Minus i h.tray))
            ∙ ap (remove m x) (none_to_self i (back_by_antimessage m x r) (in_flight Minus i h.tray) ∙ ap (in_flight Minus i) tray ∙ minus_first) ∙ first_gone x (in_flight Minus i rest) in
            λ v. record {
              base = l.base;
              floor = l.floor;
              part = record { base = q.base; first = q.first; done = q.done; pending = q.pending; owed = q.owed; plus = plus_is v; minus = minus_is v };
              out_plus = λ j. out_plus_is j (λ xs. xs) (λ ne xs. refl) v;
              out_minus = λ j. (ap (λ es. cond (j == i) [] (taken_at m i x j (unsent m i es j (in_flight Minus j h.out)))) (sym b) ∙ out_minus_is j (taken_at m i x j) (taken_else x j)) v;
            }

    -- the first of the tray delivered
    module _ (alone_law : AloneLaw m law) (message_law : MessageLaw) (antimessage_law : AntimessageLaw) (s : Signed) (rest : List Signed) (tray : h.tray ≡ s ∷ rest) where
      arrived : Each (λ y. y.message.to ≡ i) (s ∷ rest)
      arrived = subst (λ ys. Each (λ y. y.message.to ≡ i) ys) tray is.arrived

      here_sign : (sign : Sign) → goes sign i (record { message = s.message; sign = s.sign }) ≡ (is_sign sign s.sign && (s.message.to == i))
      here_sign sign = refl

      plus_goes : s.sign ≡ Plus → (goes Plus i s ≡ true) × (goes Minus i s ≡ false)
      plus_goes e = (rw (e, eq-eqb s.message.to i arrived.0) refl, rw e refl)

      minus_goes : s.sign ≡ Minus → (goes Plus i s ≡ false) × (goes Minus i s ≡ true)
      minus_goes e = (rw e refl, rw (e, eq-eqb s.message.to i arrived.0) refl)

      made : (out : List Signed) (q : Record (List Datum) Named) (back : List (Entry Named)) → IsPosted Minus (unsent m i back) h.out out → IsLease m i (lease_of (after q rest out)) × Matches m i is.stub (lease_of (after q rest out)) → IsValidLease m count (after q rest out)
      made out q back sent both =
          record {
            lease = both.0;
            stub = is.stub;
            match = both.1;
            arrived = arrived.1;
            of_sender = λ j. is.of_sender j ∙ sym (sent.other j);
            of_receiver = λ j. is.of_receiver j ∙ sym (sent.other j);
            inside = inside;
          }
        where
          inside : (sign : Sign) (j : ℕ) → count ≤ j → in_flight sign j out ≡ []
          inside Plus j past = sent.other j ∙ is.inside Plus j past
          inside Minus j past = sent.there j ∙ ap (unsent m i back j) (is.inside Minus j past) ∙ none_beyond count counted i j back past

      plus_there : s.sign ≡ Plus → 0 < times m ((alone m i l).part i).plus (item_of s).key (item_of s).action
      plus_there e =
          let x = item_of s in
          subst (λ c. 0 < times m c.plus x.key x.action) (sym here) (subst (λ ys. 0 < times m (in_flight Plus i ys) x.key x.action) (sym tray) (subst (λ ys. 0 < times m ys x.key x.action) (sym (plus_first s rest (plus_goes e).0)) (one_more x (in_flight Plus i rest))))

      minus_there : s.sign ≡ Minus → 0 < times m ((alone m i l).part i).minus (item_of s).key (item_of s).action
      minus_there e =
          let x = item_of s in
          let goes_on = minus_goes e in
          subst (λ c. 0 < times m c.minus x.key x.action) (sym here) (subst (λ ys. 0 < times m (in_flight Minus i ys) x.key x.action) (sym tray) (rw (goes_on.1) (one_more x (in_flight Minus i rest))))

      pub deliver_kept : (sign : Sign) → s.sign ≡ sign → (out : List Signed) → IsPosted Minus (unsent m i (back_by m sign (item_of s) r)) h.out out → IsValidLease m count (after (comes m sign (item_of s) r) rest out)
      deliver_kept Plus e out sent =
          let x = item_of s in
          let goes_on = plus_goes e in
          made out (message_comes m x r) (back_by_message m x r) sent
          (kept m law alone_law i is.stub l (lease_of (after (message_comes m x r) rest out)) (DeliverMessage i x ∷ []) (deliver_message m i x (alone m i l)) is.lease is.match (refl, plus_there e, refl)
          (message_law i l x ∙ message_is (back_by_message m x r) out sent s rest tray goes_on.0 goes_on.1 refl))
      deliver_kept Minus e out sent =
          let x = item_of s in
          let goes_on = minus_goes e in
          made out (antimessage_comes m x r) (back_by_antimessage m x r) sent
          (kept m law alone_law i is.stub l (lease_of (after (antimessage_comes m x r) rest out)) (DeliverAntimessage i x ∷ []) (deliver_antimessage m i x (alone m i l)) is.lease is.match (refl, minus_there e, refl)
          (antimessage_law i l x ∙ antimessage_is (back_by_antimessage m x r) out sent s rest tray goes_on.0 goes_on.1 refl))

      own : record_of ((alone m i l).part i) ≡ r
      own = ap record_of here

      -- it is a step of the lease alone
      pub deliver_does : PutLaw m law → (sign : Sign) → s.sign ≡ sign → (out : List Signed) → IsPosted Minus (unsent m i (back_by m sign (item_of s) r)) h.out out
          → Does m i (alone m i l) (delivery i sign (item_of s) ∷ []) (alone m i (lease_of (after (comes m sign (item_of s) r) rest out)))
      deliver_does put_law Plus e out sent =
          let x = item_of s in
          let goes_on = plus_goes e in (
            refl,
            plus_there e,
            ap (alone m i) (sym (message_is (back_by_message m x r) out sent s rest tray goes_on.0 goes_on.1 refl)) ∙ put_law i l (message_comes m x r) (taken_at m i x) (unsent m i (back_by_message m x r))
                ∙ ap (λ q. put_back i (message_comes m x q) (taken_at m i x) (unsent m i (back_by_message m x q)) (alone m i l)) (sym own),
          )
      deliver_does put_law Minus e out sent =
          let x = item_of s in
          let goes_on = minus_goes e in
          let minus : Record (List Datum) Named → ℕ → List (Item Named) → List (Item Named) = λ q j xs. taken_at m i x j (unsent m i (back_by_antimessage m x q) j xs) in (
            refl,
            minus_there e,
            ap (alone m i) (sym (antimessage_is (back_by_antimessage m x r) out sent s rest tray goes_on.0 goes_on.1 refl)) ∙ put_law i l (antimessage_comes m x r) same (minus r)
                ∙ ap (λ q. put_back i (antimessage_comes m x q) same (minus q) (alone m i l)) (sym own),
          )

-- one more was delivered, of a list of deliveries that is not yet done
module _ {P : Type 0} (m : Machine (List Datum) Named) (initial old mid : LeaseView P) (s : Signed) (is : IsDelivered m old mid s) where
  pub rest_after : ((end : LeaseView P) → AllDelivered m old old.tray end → AllDelivered m initial initial.tray end) → (end : LeaseView P) → AllDelivered m mid mid.tray end → AllDelivered m initial initial.tray end
  rest_after rest end all = rest end (subst (λ ys. AllDelivered m old ys end) (sym is.tray) (mid, is, all))

  pub count_after : (count : ℕ) → IsCount initial.tray old.tray count → IsCount initial.tray mid.tray (min (count + 1) (2 ^ 64 - 1))
  count_after count h =
      let left = h.left ∙ ap (λ ys. h.many + length ys) is.tray in
      let is_min = h.is in
      record { many = h.many + 1; left = omega (arith, left); is = rw is_min (omega arith) }
