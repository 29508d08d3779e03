-- The steps of a world are the walks.
use Rattle.std.proofs.Common.{◌≡◌, ℕ, ◌⊎◌, inl, inr, Bool, true, false, cond, Option, None, Some, List, [], ◌∷◌, refl, ap, sym, subst, ◌∙◌, ltb}
use Rattle.std.proofs.lemmas.Bool.{eq-eqb, ne_eqb, cases_eq}
use Rattle.virtual_time.specs.Records.{Record, after_entry, antimessage_comes, back_at, back_by_antimessage, back_by_message, back_until, before_last, is_input, later, least_of, message_comes, next_of, not_later, own_next, returned, sent_by, stays, unsent, without_first}
use Rattle.virtual_time.specs.Worlds.{Commit, DeliverAntimessage, DeliverMessage, Happens, Meet, Part, Process, Reaches, RollBack, Step, World, can_meet, deliver_antimessage, deliver_message, meet, process, process_entry, put, put_back, record_of, roll_back, same, taken_at, undo_entry, with_parts, with_record}
use Rattle.virtual_time.specs.Entries.{Entry, Input, Item, Own, number, replay}
use Rattle.virtual_time.proofs.Moves.{Leads, Walks, accept, back_past, back_to, cancel, next_own, owe, pay, process_from, process_input, process_own, undo, walk_back, walk_meet, walk_meets, walk_minus, walk_on, walk_plus, walk_sent, walk_try, with_done}
use Rattle.virtual_time.specs.Exchange.Leases.{Does}
use Rattle.virtual_time.specs.Inverses.{meet_sent, meets, try_meet}
use Rattle.virtual_time.specs.Bags.{has, inputs, insert, remove}
use Rattle.virtual_time.specs.Machine.{Machine}
use Rattle.virtual_time.proofs.Exchange.Parts.{WalksAlone}
use Rattle.virtual_time.proofs.Lists.{put_same, put_other}
use Rattle.virtual_time.proofs.Cuts.{Some≢None}

module _ {S A : Type 0} (machine : Machine S A) where
  own_tied : (i : ℕ) (e : Entry A) (w : World S A) → own_next machine i (record_of (w.part i)) ≡ Some e → next_own machine i w ≡ put_back i (after_entry e (record_of (w.part i))) (sent_by machine i e) same w
  own_tied i e w = go (ltb (machine.key i m) machine.top)
    where
      m : ℕ
      m = number (w.part i).first (w.part i).done

      own : Entry A
      own = Own (machine.key i m) (machine.outcome i m (replay machine i (w.part i).base (w.part i).done))

      go : (b : Bool) → cond b (Some own) None ≡ Some e
          → cond b (process_own machine i (machine.key i m) (machine.outcome i m (replay machine i (w.part i).base (w.part i).done)) w) w ≡ put_back i (after_entry e (record_of (w.part i))) (sent_by machine i e) same w
      go true h = let f : own ≡ e = cc in ap (λ (d : Entry A). put_back i (after_entry d (record_of (w.part i))) (sent_by machine i d) same w) f
      go false h = let f : ◌≡◌ {A = Option (Entry A)} None (Some e) = h in cc

  from_tied : (i : ℕ) (e : Entry A) (xs : List (Item A)) (w : World S A) → (w.part i).pending ≡ xs → least_of machine i (record_of (w.part i)) xs ≡ Some e
      → process_from machine i xs w ≡ put_back i (after_entry e (record_of (w.part i))) (sent_by machine i e) same w
  from_tied i e [] w p h = own_tied i e w h
  from_tied i e (x ∷ xs) w p h = go (ltb x.key (machine.key i (number (w.part i).first (w.part i).done))) h
    where
      input : Input x ≡ e → process_input i x xs w ≡ put_back i (after_entry e (record_of (w.part i))) (sent_by machine i e) same w
      input f =
          let tail : xs ≡ without_first (w.part i).pending = sym (ap (λ (ys : List (Item A)). without_first ys) p) in
          ap (λ (ys : List (Item A)). with_parts w (put i (with_done (w.part i) (Input x ∷ (w.part i).done) ys) w.part)) tail
          ∙ ap (λ (d : Entry A). put_back i (after_entry d (record_of (w.part i))) (sent_by machine i d) same w) f

      go : (b : Bool) → cond b (Some (Input x)) (own_next machine i (record_of (w.part i))) ≡ Some e
          → cond b (process_input i x xs w) (next_own machine i w) ≡ put_back i (after_entry e (record_of (w.part i))) (sent_by machine i e) same w
      go true f = let g : Input x ≡ e = cc in input g
      go false f = own_tied i e w f

  pub process_tied : (i : ℕ) (e : Entry A) (w : World S A) → next_of machine i (record_of (w.part i)) ≡ Some e
      → walk_on machine i w ≡ put_back i (after_entry e (record_of (w.part i))) (sent_by machine i e) same w
  process_tied i e w h = from_tied i e (w.part i).pending w refl h

  own_stays : (i : ℕ) (w : World S A) → own_next machine i (record_of (w.part i)) ≡ None → next_own machine i w ≡ w
  own_stays i w = go (ltb (machine.key i m) machine.top)
    where
      m : ℕ
      m = number (w.part i).first (w.part i).done

      o : Option A
      o = machine.outcome i m (replay machine i (w.part i).base (w.part i).done)

      go : (b : Bool) → cond b (Some (Own (machine.key i m) o)) None ≡ None → cond b (process_own machine i (machine.key i m) o w) w ≡ w
      go true h = absurd (Some≢None (Own (machine.key i m) o) h)
      go false h = refl

  from_stays : (i : ℕ) (xs : List (Item A)) (w : World S A) → least_of machine i (record_of (w.part i)) xs ≡ None → process_from machine i xs w ≡ w
  from_stays i [] w h = own_stays i w h
  from_stays i (x ∷ xs) w h = go (ltb x.key (machine.key i (number (w.part i).first (w.part i).done))) h
    where
      go : (b : Bool) → cond b (Some (Input x)) (own_next machine i (record_of (w.part i))) ≡ None → cond b (process_input i x xs w) (next_own machine i w) ≡ w
      go true f = absurd (Some≢None (Input x) f)
      go false f = own_stays i w f

  pub process_stays : (i : ℕ) (w : World S A) → next_of machine i (record_of (w.part i)) ≡ None → walk_on machine i w ≡ w
  process_stays i w h = from_stays i (w.part i).pending w h

  -- Rolling back.
  pub undo_tied : (i : ℕ) (e : Entry A) (es : List (Entry A)) (w : World S A)
      → undo machine i (e ∷ es) w ≡ put_back i (back_at machine (e ∷ []) es (record_of (w.part i))) same (sent_by machine i e) w
  undo_tied i (Own k o) es w = refl
  undo_tied i (Input x) es w = refl

  pub roll_back_tied : (i : ℕ) (e : Entry A) (es : List (Entry A)) (w : World S A) → (w.part i).done ≡ e ∷ es
      → walk_back machine i w ≡ put_back i (back_at machine (e ∷ []) es (record_of (w.part i))) same (sent_by machine i e) w
  roll_back_tied i e es w h = ap (λ (fs : List (Entry A)). undo machine i fs w) h ∙ undo_tied i e es w

  pub roll_back_stays : (i : ℕ) (w : World S A) → (w.part i).done ≡ [] → walk_back machine i w ≡ w
  roll_back_stays i w h = ap (λ (fs : List (Entry A)). undo machine i fs w) h

  -- one record after the other is put back at one component
  pub put_twice : (i : ℕ) (q r : Record S A) (plus minus plus' minus' : ℕ → List (Item A) → List (Item A)) (w : World S A)
      → put_back i r plus' minus' (put_back i q plus minus w) ≡ put_back i r (λ j xs. plus' j (plus j xs)) (λ j xs. minus' j (minus j xs)) w
  put_twice i q r plus minus plus' minus' w = λ v. record { part = λ j. each j (cases_eq j i) v; bound = w.bound; committed = w.committed }
    where
      u : World S A
      u = put_back i q plus minus w

      f : ℕ → Part S A → Part S A
      f j c = record { base = c.base; first = c.first; done = c.done; pending = c.pending; owed = c.owed; plus = plus j c.plus; minus = minus j c.minus }

      g : ℕ → Part S A → Part S A
      g j c = record { base = c.base; first = c.first; done = c.done; pending = c.pending; owed = c.owed; plus = plus' j c.plus; minus = minus' j c.minus }

      each : (j : ℕ) → (j ≡ i) ⊎ (j ≡ i → ⊥) → g j (put i (with_record (u.part i) r) u.part j) ≡ g j (f j (put i (with_record (w.part i) r) w.part j))
      each j (inl e) = subst (λ (l : ℕ). g l (put i (with_record (u.part i) r) u.part l) ≡ g l (f l (put i (with_record (w.part i) r) w.part l))) (sym e)
          (ap (g i) (put_same i (with_record (u.part i) r) u.part)
          ∙ ap (λ (c : Part S A). g i (with_record (f i c) r)) (put_same i (with_record (w.part i) q) w.part)
          ∙ sym (ap (λ (c : Part S A). g i (f i c)) (put_same i (with_record (w.part i) r) w.part)))
      each j (inr ne) =
          ap (g j) (put_other i (with_record (u.part i) r) u.part j ne)
          ∙ ap (λ (c : Part S A). g j (f j c)) (put_other i (with_record (w.part i) q) w.part j ne)
          ∙ sym (ap (λ (c : Part S A). g j (f j c)) (put_other i (with_record (w.part i) r) w.part j ne))

  pub record_put : (i : ℕ) (r : Record S A) (plus minus : ℕ → List (Item A) → List (Item A)) (w : World S A) → record_of ((put_back i r plus minus w).part i) ≡ r
  record_put i r plus minus w = ap (λ (c : Part S A). record_of c) (put_same i (with_record (w.part i) r) w.part)

  -- nothing was changed
  pub put_none : (i : ℕ) (w : World S A) → put_back i (record_of (w.part i)) same same w ≡ w
  put_none i w = λ v. record { part = λ j. each j (cases_eq j i) v; bound = w.bound; committed = w.committed }
    where
      each : (j : ℕ) → (j ≡ i) ⊎ (j ≡ i → ⊥) → put i (w.part i) w.part j ≡ w.part j
      each j (inl e) = subst (λ (l : ℕ). put i (w.part i) w.part l ≡ w.part l) (sym e) (put_same i (w.part i) w.part)
      each j (inr ne) = put_other i (w.part i) w.part j ne

  pub back_past_tied : (i : ℕ) (x : Item A) (es : List (Entry A)) (w : World S A) → (w.part i).done ≡ es
      → back_past machine i x es w ≡ put_back i (back_at machine (later machine x es) (not_later machine x es) (record_of (w.part i))) same (unsent machine i (later machine x es)) w
  back_past_tied i x [] w h =
      sym (put_none i w) ∙ ap (λ (fs : List (Entry A)). put_back i (record { base = (w.part i).base; first = (w.part i).first; done = fs; pending = (w.part i).pending; owed = (w.part i).owed }) same same w) h
  back_past_tied i x (e ∷ es) w h = go (stays machine x e) (back_past_tied i x es u done)
    where
      u : World S A
      u = walk_back machine i w

      tied : u ≡ put_back i (back_at machine (e ∷ []) es (record_of (w.part i))) same (sent_by machine i e) w
      tied = roll_back_tied i e es w h

      now : record_of (u.part i) ≡ back_at machine (e ∷ []) es (record_of (w.part i))
      now = ap (λ (v : World S A). record_of (v.part i)) tied ∙ record_put i (back_at machine (e ∷ []) es (record_of (w.part i))) same (sent_by machine i e) w

      done : (u.part i).done ≡ es
      done = ap (λ (r : Record S A). r.done) now

      returns : (ls : List (Entry A)) → returned machine ls (returned machine (e ∷ []) (w.part i).pending) ≡ returned machine (e ∷ ls) (w.part i).pending
      returns ls = each e
        where
          each : (f : Entry A) → returned machine ls (returned machine (f ∷ []) (w.part i).pending) ≡ returned machine (f ∷ ls) (w.part i).pending
          each (Own k o) = refl
          each (Input y) = refl

      go : (b : Bool)
          → back_past machine i x es u ≡ put_back i (back_at machine (later machine x es) (not_later machine x es) (record_of (u.part i))) same (unsent machine i (later machine x es)) u
          → cond b w (back_past machine i x es u) ≡ put_back i (back_at machine (cond b [] (e ∷ later machine x es)) (cond b (e ∷ es) (not_later machine x es)) (record_of (w.part i))) same (unsent machine i (cond b [] (e ∷ later machine x es))) w
      go true ih = sym (put_none i w) ∙ ap (λ (fs : List (Entry A)). put_back i (record { base = (w.part i).base; first = (w.part i).first; done = fs; pending = (w.part i).pending; owed = (w.part i).owed }) same same w) h
      go false ih =
          ih
          ∙ ap (λ (r : Record S A). put_back i (back_at machine (later machine x es) (not_later machine x es) r) same (unsent machine i (later machine x es)) u) now
          ∙ ap (λ (v : World S A). put_back i (back_at machine (later machine x es) (not_later machine x es) (back_at machine (e ∷ []) es (record_of (w.part i)))) same (unsent machine i (later machine x es)) v) tied
          ∙ put_twice i (back_at machine (e ∷ []) es (record_of (w.part i))) (back_at machine (later machine x es) (not_later machine x es) (back_at machine (e ∷ []) es (record_of (w.part i)))) same (sent_by machine i e) same (unsent machine i (later machine x es)) w
          ∙ ap (λ (ys : List (Item A)). put_back i (record { base = (w.part i).base; first = (w.part i).first; done = not_later machine x es; pending = ys; owed = (w.part i).owed }) same (unsent machine i (e ∷ later machine x es)) w) (returns (later machine x es))

  pub back_to_tied : (i : ℕ) (x : Item A) (es : List (Entry A)) (w : World S A) → (w.part i).done ≡ es
      → back_to machine i x es w ≡ put_back i (back_at machine (back_until machine x es) (before_last machine x es) (record_of (w.part i))) same (unsent machine i (back_until machine x es)) w
  back_to_tied i x [] w h =
      sym (put_none i w) ∙ ap (λ (fs : List (Entry A)). put_back i (record { base = (w.part i).base; first = (w.part i).first; done = fs; pending = (w.part i).pending; owed = (w.part i).owed }) same same w) h
  back_to_tied i x (e ∷ es) w h = go (is_input machine x e) (back_to_tied i x es u done)
    where
      u : World S A
      u = walk_back machine i w

      tied : u ≡ put_back i (back_at machine (e ∷ []) es (record_of (w.part i))) same (sent_by machine i e) w
      tied = roll_back_tied i e es w h

      now : record_of (u.part i) ≡ back_at machine (e ∷ []) es (record_of (w.part i))
      now = ap (λ (v : World S A). record_of (v.part i)) tied ∙ record_put i (back_at machine (e ∷ []) es (record_of (w.part i))) same (sent_by machine i e) w

      done : (u.part i).done ≡ es
      done = ap (λ (r : Record S A). r.done) now

      returns : (ls : List (Entry A)) → returned machine ls (returned machine (e ∷ []) (w.part i).pending) ≡ returned machine (e ∷ ls) (w.part i).pending
      returns ls = each e
        where
          each : (f : Entry A) → returned machine ls (returned machine (f ∷ []) (w.part i).pending) ≡ returned machine (f ∷ ls) (w.part i).pending
          each (Own k o) = refl
          each (Input y) = refl

      go : (b : Bool)
          → back_to machine i x es u ≡ put_back i (back_at machine (back_until machine x es) (before_last machine x es) (record_of (u.part i))) same (unsent machine i (back_until machine x es)) u
          → cond b u (back_to machine i x es u) ≡ put_back i (back_at machine (e ∷ cond b [] (back_until machine x es)) (cond b es (before_last machine x es)) (record_of (w.part i))) same (unsent machine i (e ∷ cond b [] (back_until machine x es))) w
      go true ih = tied
      go false ih =
          ih
          ∙ ap (λ (r : Record S A). put_back i (back_at machine (back_until machine x es) (before_last machine x es) r) same (unsent machine i (back_until machine x es)) u) now
          ∙ ap (λ (v : World S A). put_back i (back_at machine (back_until machine x es) (before_last machine x es) (back_at machine (e ∷ []) es (record_of (w.part i)))) same (unsent machine i (back_until machine x es)) v) tied
          ∙ put_twice i (back_at machine (e ∷ []) es (record_of (w.part i))) (back_at machine (back_until machine x es) (before_last machine x es) (back_at machine (e ∷ []) es (record_of (w.part i)))) same (sent_by machine i e) same (unsent machine i (back_until machine x es)) w
          ∙ ap (λ (ys : List (Item A)). put_back i (record { base = (w.part i).base; first = (w.part i).first; done = before_last machine x es; pending = ys; owed = (w.part i).owed }) same (unsent machine i (e ∷ back_until machine x es)) w) (returns (back_until machine x es))

  -- Deliveries.
  -- one component changes, and what is in flight to it
  pub local_tied : (j : ℕ) (r : Record S A) (plus minus : ℕ → List (Item A) → List (Item A)) (v : World S A)
      → ((l : ℕ) (xs : List (Item A)) → (l ≡ j → ⊥) → plus l xs ≡ xs) → ((l : ℕ) (xs : List (Item A)) → (l ≡ j → ⊥) → minus l xs ≡ xs)
      → with_parts v (put j (record { base = r.base; first = r.first; done = r.done; pending = r.pending; owed = r.owed; plus = plus j (v.part j).plus; minus = minus j (v.part j).minus }) v.part)
      ≡ put_back j r plus minus v
  local_tied j r plus minus v p m = λ s. record { part = λ l. each l (cases_eq l j) s; bound = v.bound; committed = v.committed }
    where
      f : ℕ → Part S A → Part S A
      f l c = record { base = c.base; first = c.first; done = c.done; pending = c.pending; owed = c.owed; plus = plus l c.plus; minus = minus l c.minus }

      c' : Part S A
      c' = f j (with_record (v.part j) r)

      each : (l : ℕ) → (l ≡ j) ⊎ (l ≡ j → ⊥) → put j c' v.part l ≡ f l (put j (with_record (v.part j) r) v.part l)
      each l (inl e) = subst (λ (n : ℕ). put j c' v.part n ≡ f n (put j (with_record (v.part j) r) v.part n)) (sym e)
          (put_same j c' v.part ∙ sym (ap (f j) (put_same j (with_record (v.part j) r) v.part)))
      each l (inr ne) =
          put_other j c' v.part l ne
          ∙ (λ s. let c = v.part l in record { base = c.base; first = c.first; done = c.done; pending = c.pending; owed = c.owed; plus = sym (p l c.plus ne) s; minus = sym (m l c.minus ne) s })
          ∙ sym (ap (f l) (put_other j (with_record (v.part j) r) v.part l ne))

  taken_here : (j : ℕ) (x : Item A) (xs : List (Item A)) → taken_at machine j x j xs ≡ remove machine x xs
  taken_here j x xs = rw (eq-eqb j j refl)

  taken_there : (j : ℕ) (x : Item A) (l : ℕ) (xs : List (Item A)) → (l ≡ j → ⊥) → taken_at machine j x l xs ≡ xs
  taken_there j x l xs ne = rw (ne_eqb l j ne)

  pub message_tied : (j : ℕ) (x : Item A) (w : World S A)
      → walk_plus machine j x w ≡ put_back j (message_comes machine x (record_of (w.part j))) (taken_at machine j x) (unsent machine j (back_by_message machine x (record_of (w.part j)))) w
  message_tied j x w = go (has machine x (w.part j).owed)
    where
      r : Record S A
      r = record_of (w.part j)

      u : World S A
      u = back_past machine j x (w.part j).done w

      back : List (Entry A)
      back = later machine x (w.part j).done

      kept : List (Entry A)
      kept = not_later machine x (w.part j).done

      tied : u ≡ put_back j (back_at machine back kept r) same (unsent machine j back) w
      tied = back_past_tied j x (w.part j).done w refl

      came : Record S A → Record S A
      came q = record { base = q.base; first = q.first; done = q.done; pending = insert machine x q.pending; owed = q.owed }

      paid : Record S A → Record S A
      paid q = record { base = q.base; first = q.first; done = q.done; pending = q.pending; owed = remove machine x q.owed }

      less : (q : Record S A) (v : World S A)
          → with_parts v (put j (record { base = q.base; first = q.first; done = q.done; pending = q.pending; owed = q.owed; plus = remove machine x (v.part j).plus; minus = (v.part j).minus }) v.part)
          ≡ put_back j q (taken_at machine j x) same v
      less q v =
          ap (λ (xs : List (Item A)). with_parts v (put j (record { base = q.base; first = q.first; done = q.done; pending = q.pending; owed = q.owed; plus = xs; minus = (v.part j).minus }) v.part)) (sym (taken_here j x (v.part j).plus))
          ∙ local_tied j q (taken_at machine j x) same v (λ l xs ne. taken_there j x l xs ne) (λ l xs ne. refl)

      go : (b : Bool) → cond b (pay machine j x w) (accept machine j x u)
          ≡ put_back j (cond b (paid r) (came (back_at machine back kept r))) (taken_at machine j x) (unsent machine j (cond b [] back)) w
      go true = less (paid r) w
      go false =
          less (came (record_of (u.part j))) u
          ∙ ap (λ (v : World S A). put_back j (came (record_of (v.part j))) (taken_at machine j x) same v) tied
          ∙ ap (λ (q : Record S A). put_back j (came q) (taken_at machine j x) same (put_back j (back_at machine back kept r) same (unsent machine j back) w)) (record_put j (back_at machine back kept r) same (unsent machine j back) w)
          ∙ put_twice j (back_at machine back kept r) (came (back_at machine back kept r)) same (unsent machine j back) (taken_at machine j x) same w

  pub antimessage_tied : (j : ℕ) (x : Item A) (w : World S A)
      → walk_minus machine j x w ≡ put_back j (antimessage_comes machine x (record_of (w.part j))) same (λ l xs. taken_at machine j x l (unsent machine j (back_by_antimessage machine x (record_of (w.part j))) l xs)) w
  antimessage_tied j x w = go (has machine x (w.part j).pending) (ltb 0 (inputs machine (w.part j).done x.key x.action))
    where
      r : Record S A
      r = record_of (w.part j)

      u : World S A
      u = back_to machine j x (w.part j).done w

      back : List (Entry A)
      back = back_until machine x (w.part j).done

      kept : List (Entry A)
      kept = before_last machine x (w.part j).done

      tied : u ≡ put_back j (back_at machine back kept r) same (unsent machine j back) w
      tied = back_to_tied j x (w.part j).done w refl

      cancelled : Record S A → Record S A
      cancelled q = record { base = q.base; first = q.first; done = q.done; pending = remove machine x q.pending; owed = q.owed }

      owing : Record S A → Record S A
      owing q = record { base = q.base; first = q.first; done = q.done; pending = q.pending; owed = insert machine x q.owed }

      less : (q : Record S A) (v : World S A)
          → with_parts v (put j (record { base = q.base; first = q.first; done = q.done; pending = q.pending; owed = q.owed; plus = (v.part j).plus; minus = remove machine x (v.part j).minus }) v.part)
          ≡ put_back j q same (taken_at machine j x) v
      less q v =
          ap (λ (xs : List (Item A)). with_parts v (put j (record { base = q.base; first = q.first; done = q.done; pending = q.pending; owed = q.owed; plus = (v.part j).plus; minus = xs }) v.part)) (sym (taken_here j x (v.part j).minus))
          ∙ local_tied j q same (taken_at machine j x) v (λ l xs ne. refl) (λ l xs ne. taken_there j x l xs ne)

      go : (b d : Bool) → cond b (cancel machine j x w) (cond d (cancel machine j x u) (owe machine j x w))
          ≡ put_back j (cond b (cancelled r) (cond d (cancelled (back_at machine back kept r)) (owing r))) same (λ l xs. taken_at machine j x l (unsent machine j (cond b [] (cond d back [])) l xs)) w
      go true d = less (cancelled r) w
      go false false = less (owing r) w
      go false true =
          less (cancelled (record_of (u.part j))) u
          ∙ ap (λ (v : World S A). put_back j (cancelled (record_of (v.part j))) same (taken_at machine j x) v) tied
          ∙ ap (λ (q : Record S A). put_back j (cancelled q) same (taken_at machine j x) (put_back j (back_at machine back kept r) same (unsent machine j back) w)) (record_put j (back_at machine back kept r) same (unsent machine j back) w)
          ∙ put_twice j (back_at machine back kept r) (cancelled (back_at machine back kept r)) same (unsent machine j back) same (taken_at machine j x) w

  pub meet_tied : (j : ℕ) (x : Item A) (w : World S A) → walk_meet machine j x w ≡ put_back j (record_of (w.part j)) (taken_at machine j x) (taken_at machine j x) w
  meet_tied j x w =
      ap (λ (xs : List (Item A)). with_parts w (put j (record { base = (w.part j).base; first = (w.part j).first; done = (w.part j).done; pending = (w.part j).pending; owed = (w.part j).owed; plus = xs; minus = remove machine x (w.part j).minus }) w.part)) (sym (taken_here j x (w.part j).plus))
      ∙ ap (λ (xs : List (Item A)). with_parts w (put j (record { base = (w.part j).base; first = (w.part j).first; done = (w.part j).done; pending = (w.part j).pending; owed = (w.part j).owed; plus = taken_at machine j x j (w.part j).plus; minus = xs }) w.part)) (sym (taken_here j x (w.part j).minus))
      ∙ local_tied j (record_of (w.part j)) (taken_at machine j x) (taken_at machine j x) w (λ l xs ne. taken_there j x l xs ne) (λ l xs ne. taken_there j x l xs ne)

  -- The steps are the walks.
  pub process_is : (i : ℕ) (w : World S A) → process machine i w ≡ walk_on machine i w
  process_is i w = go (next_of machine i (record_of (w.part i))) refl
    where
      go : (e : Option (Entry A)) → next_of machine i (record_of (w.part i)) ≡ e → process_entry machine i e w ≡ walk_on machine i w
      go None h = sym (process_stays i w h)
      go (Some e) h = sym (process_tied i e w h)

  pub roll_back_is : (i : ℕ) (w : World S A) → roll_back machine i w ≡ walk_back machine i w
  roll_back_is i w = go (w.part i).done
    where
      go : (es : List (Entry A)) → undo_entry machine i es w ≡ undo machine i es w
      go [] = refl
      go (e ∷ es) = sym (undo_tied i e es w)

  pub deliver_is : (j : ℕ) (x : Item A) (w : World S A) → deliver_message machine j x w ≡ walk_plus machine j x w
  deliver_is j x w = sym (message_tied j x w)

  pub undeliver_is : (j : ℕ) (x : Item A) (w : World S A) → deliver_antimessage machine j x w ≡ walk_minus machine j x w
  undeliver_is j x w = sym (antimessage_tied j x w)

  pub meet_is : (j : ℕ) (x : Item A) (w : World S A) → meet machine j x w ≡ walk_meet machine j x w
  meet_is j x w = sym (meet_tied j x w)

  -- what may be done or not
  guarded : (b : Bool) (u v w : World S A) → u ≡ v → cond b u w ≡ cond b v w
  guarded true u v w e = e
  guarded false u v w e = refl

  pub walks : (w : World S A) (step : Step A) (v : World S A) → Happens machine w step v → Walks machine w step v
  walks w (Process i) v h = h ∙ process_is i w
  walks w (RollBack i) v h = h ∙ roll_back_is i w
  walks w (DeliverMessage j x) v h = h ∙ guarded (has machine x (w.part j).plus) _ _ w (deliver_is j x w)
  walks w (DeliverAntimessage j x) v h = h ∙ guarded (has machine x (w.part j).minus) _ _ w (undeliver_is j x w)
  walks w (Meet j x) v h = h ∙ guarded (can_meet machine j x w) _ _ w (meet_is j x w)
  walks w (Commit b) v h = h

  pub happens : (w : World S A) (step : Step A) (v : World S A) → Walks machine w step v → Happens machine w step v
  happens w (Process i) v h = h ∙ sym (process_is i w)
  happens w (RollBack i) v h = h ∙ sym (roll_back_is i w)
  happens w (DeliverMessage j x) v h = h ∙ sym (guarded (has machine x (w.part j).plus) _ _ w (deliver_is j x w))
  happens w (DeliverAntimessage j x) v h = h ∙ sym (guarded (has machine x (w.part j).minus) _ _ w (undeliver_is j x w))
  happens w (Meet j x) v h = h ∙ sym (guarded (can_meet machine j x w) _ _ w (meet_is j x w))
  happens w (Commit b) v h = h

  pub leads : (w : World S A) (steps : List (Step A)) (v : World S A) → Reaches machine w steps v → Leads machine w steps v
  leads w [] v h = h
  leads w (s ∷ ss) v h = (h.0, walks w s h.0 h.1, leads h.0 ss v h.2)

  pub reaches : (w : World S A) (steps : List (Step A)) (v : World S A) → Leads machine w steps v → Reaches machine w steps v
  reaches w [] v h = h
  reaches w (s ∷ ss) v h = (h.0, happens w s h.0 h.1, reaches h.0 ss v h.2)

  -- Meetings.
  pub try_is : (j : ℕ) (x : Item A) (w : World S A) → try_meet machine j x w ≡ walk_try machine j x w
  try_is j x w = guarded (can_meet machine j x w) _ _ w (meet_is j x w)

  pub meets_is : (js : List ℕ) (x : Item A) (w : World S A) → meets machine js x w ≡ walk_meets machine js x w
  meets_is [] x w = refl
  meets_is (j ∷ js) x w = meets_is js x (try_meet machine j x w) ∙ ap (walk_meets machine js x) (try_is j x w)

  pub meet_sent_is : (e : Entry A) (js : List ℕ) (w : World S A) → meet_sent machine e js w ≡ walk_sent machine e js w
  meet_sent_is (Own k (Some a)) js w = meets_is js (record { key = k; action = a }) w
  meet_sent_is (Own k None) js w = refl
  meet_sent_is (Input x) js w = refl

  -- A lease's own steps.
  pub alone_walks : (i : ℕ) (u : World S A) (ss : List (Step A)) (v : World S A) → Does machine i u ss v → WalksAlone machine i u ss v
  alone_walks i u [] v h = h
  alone_walks i u (Process j ∷ ss) v h = (h.0, alone_walks i (walk_on machine i u) ss v (subst (λ (w : World S A). Does machine i w ss v) (process_is i u) h.1))
  alone_walks i u (DeliverMessage j x ∷ ss) v h = (h.0, h.1, alone_walks i (walk_plus machine i x u) ss v (subst (λ (w : World S A). Does machine i w ss v) (deliver_is i x u) h.2))
  alone_walks i u (DeliverAntimessage j x ∷ ss) v h = (h.0, h.1, alone_walks i (walk_minus machine i x u) ss v (subst (λ (w : World S A). Does machine i w ss v) (undeliver_is i x u) h.2))
  alone_walks i u (RollBack j ∷ ss) v h = absurd h
  alone_walks i u (Meet j x ∷ ss) v h = absurd h
  alone_walks i u (Commit b ∷ ss) v h = absurd h
