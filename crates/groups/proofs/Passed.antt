-- What is on its way comes to its receivers, one after the other.
use Rattle.std.proofs.Common.{◌≡◌, ℕ, suc, ◌<◌, ◌+◌, true, false, Option, None, Some, List, [], ◌∷◌, ◌++◌, refl, ap, sym, subst, ◌∙◌, arith}
use Rattle.std.specs.Prelude.{length, slice_set}
use Rattle.terms.specs.Datum.{Datum}
use Rattle.terms.specs.Named.{Named}
use Rattle.event_keys.specs.declared.message.Sign.{Sign}
use Rattle.event_keys.specs.declared.message.Sign.TheVariants.{Plus, Minus}
use Rattle.event_keys.specs.declared.message.Signed.{Signed}
use Rattle.raw_events.specs.Around.{head, tail}
use Rattle.antimessage.specs.Bags.{insert as insert_one, insert_all}
use Rattle.antimessage.specs.Counts.{signed_cmp}
use Rattle.antimessage.proofs.Sorted.{each_inserted}
use Rattle.antimessage.specs.Order.{Fits, IsInOrder}
use Rattle.virtual_time.specs.Machine.{Lawful, Machine}
use Rattle.virtual_time.specs.Entries.{Entry}
use Rattle.virtual_time.specs.Records.{after_entry, next_of, sent_by, unsent}
use Rattle.virtual_time.specs.Worlds.{DeliverAntimessage, DeliverMessage, Process, World}
use Rattle.virtual_time.specs.Groups.Leases.{Does}
use Rattle.virtual_time.proofs.Groups.Leased.{does_both}
use Rattle.task_seed.specs.declared.setup.Setup.{Setup}
use Rattle.task_seed.specs.declared.turns.Turn.{Turn}
use Rattle.task_seed.specs.Setups.{system}
use Rattle.rollback.specs.ComponentView.{ComponentView, back_by, comes, machine_of, processed, sent_next}
use Rattle.rollback.specs.Flight.{item_of}
use Rattle.rollback.specs.Laws.{NoneIsBelowLeast}
use Rattle.rollback.specs.Post.{IsPosted}
use Rattle.rollback.specs.Stepped.{stepped, with_coming}
use Rattle.groups.specs.Crew.{AreApart, AreOf, MembersView}
use Rattle.groups.specs.GroupView.{AreMembers, frames, is_member}
use Rattle.groups.specs.Moves.{Delivers}
use Rattle.groups.specs.Open.{AllInside, AllOutside, IsDelivered, IsPassed, IsProcessed, depth_of, open_world}
use Rattle.groups.specs.declared.window.Window.{Window}
use Rattle.groups.specs.Windows.{HaveDone}
use Rattle.groups.proofs.Depths.{come_depth, depth_put}
use Rattle.groups.proofs.Opened.{antimessage_does, least_both, least_open, left_open, message_does, process_does}
use Rattle.groups.proofs.Placed.{frames_put, members_same, own_there}
use Rattle.groups.proofs.Roomy.{come_kept}

pub split : (x : Signed) (xs rest : List Signed) → Some x ≡ head xs → rest ≡ tail xs → xs ≡ x ∷ rest
split x [] rest e left = cc
split x (y ∷ ys) rest e left = let same : x ≡ y = cc in ap (λ z. z ∷ ys) (sym same) ∙ ap (λ zs. x ∷ zs) (sym left)

nothing_left : (xs : List Signed) → None ≡ head xs → xs ≡ []
nothing_left [] e = refl
nothing_left (y ∷ ys) e = cc

pub none_after : (xs rest : List Signed) → None ≡ head xs → rest ≡ tail xs → rest ≡ []
none_after [] rest e left = left
none_after (y ∷ ys) rest e left = cc

pub shorter : (x : Signed) (xs rest new : List Signed) → Some x ≡ head xs → rest ≡ tail xs → new ≡ rest → length new < length xs
shorter x xs rest new e left same =
    let whole : length xs ≡ suc (length rest) = ap length (split x xs rest e left) in
    let kept : length new ≡ length rest = ap length same in
    omega (arith, whole, kept)

pub inside_more : {P : Type 0} (cs : List (ComponentView P)) (more tray : List Signed) → AllInside cs more → AllInside cs tray → AllInside cs (insert_all more tray)
inside_more cs [] tray h k = k
inside_more cs (x ∷ more) tray h k = inside_more cs more (insert_one x tray) h.1 (each_inserted signed_cmp (λ s. is_member cs s.message.to ≡ true) x tray h.0 k)

pub outside_same : {P : Type 0} (old new : List (ComponentView P)) → ((j : ℕ) → is_member new j ≡ is_member old j) → (out : List Signed) → AllOutside old out → AllOutside new out
outside_same old new same [] h = tt
outside_same old new same (x ∷ xs) h = (same x.message.to ∙ h.0, outside_same old new same xs h.1)

pub outside_more : {P : Type 0} (cs : List (ComponentView P)) (x : Signed) (out : List Signed) → is_member cs x.message.to ≡ false → AllOutside cs out → AllOutside cs (insert_one x out)
outside_more cs x out alien h = each_inserted signed_cmp (λ s. is_member cs s.message.to ≡ false) x out alien h

module _ {S A : Type 0} (m : Machine S A) (group : ℕ → ℕ) (g : ℕ) where
  pub delivers_none : (u : World S A) → Delivers m group g u u
  delivers_none u = record { steps = []; deliveries = tt; does = refl }

  pub delivers_both : (u w v : World S A) → Delivers m group g u w → Delivers m group g w v → Delivers m group g u v
  delivers_both u w v p q =
      record { steps = p.steps ++ q.steps; deliveries = least_both m group g p.steps q.steps u w p.deliveries p.does q.deliveries; does = does_both m group g p.steps q.steps u w v p.does q.does }

module _ {T : Type 0} (turn_of : T → ℕ → ℕ → Option Turn) where
  abbrev at : Setup T → Machine (List Datum) Named
  at p = machine_of turn_of p

  pub passed_none : (old : MembersView (Setup T)) (sent out : List Signed) → IsPassed turn_of old old sent sent out out
  passed_none old sent out = record { setup = refl; base = refl; same = refl; outside = λ h. h; turns = λ most h. h; moves = λ group g mine. delivers_none (at old.setup) group g (open_world (at old.setup) old sent out) }

  pub passed_both : (old mid new : MembersView (Setup T)) (s0 s1 s2 o0 o1 o2 : List Signed) → IsPassed turn_of old mid s0 s1 o0 o1 → IsPassed turn_of mid new s1 s2 o1 o2 → IsPassed turn_of old new s0 s2 o0 o2
  passed_both old mid new s0 s1 s2 o0 o1 o2 p q =
      record {
        setup = q.setup ∙ p.setup;
        base = q.base ∙ p.base;
        same = q.same ∙ p.same;
        outside = λ h. q.outside (p.outside h);
        turns = λ most h. q.turns most (p.turns most h);
        moves = λ group g mine. delivers_both (at old.setup) group g (open_world (at old.setup) old s0 o0) (open_world (at old.setup) mid s1 o1) (open_world (at old.setup) new s2 o2) (p.moves group g mine) (later group g mine);
      }
    where
      later : (group : ℕ → ℕ) (g : ℕ) → AreMembers group g old.components → Delivers (at old.setup) group g (open_world (at old.setup) mid s1 o1) (open_world (at old.setup) new s2 o2)
      later group g mine =
          subst (λ x. Delivers (at x) group g (open_world (at x) mid s1 o1) (open_world (at x) new s2 o2)) p.setup
          (q.moves group g (λ j. mine j ∙ sym (members_same old.components mid.components p.same j)))

  -- and the first of what is left
  pub passed_next : (old mid new : MembersView (Setup T)) (s0 s1 rest s2 o0 o1 o2 : List Signed) (x : Signed) → IsPassed turn_of old mid s0 s1 o0 o1 → Some x ≡ head s1 → rest ≡ tail s1 → IsPassed turn_of mid new (x ∷ rest) s2 o1 o2 → IsPassed turn_of old new s0 s2 o0 o2
  passed_next old mid new s0 s1 rest s2 o0 o1 o2 x p first left q = passed_both old mid new s0 s1 s2 o0 o1 o2 p (subst (λ ys. IsPassed turn_of mid new ys s2 o1 o2) (sym (split x s1 rest first left)) q)

  pub passed_end : (old mid : MembersView (Setup T)) (s0 s1 rest o0 o1 : List Signed) → IsPassed turn_of old mid s0 s1 o0 o1 → None ≡ head s1 → rest ≡ tail s1 → IsPassed turn_of old mid s0 rest o0 o1
  passed_end old mid s0 s1 rest o0 o1 p none left = subst (λ ys. IsPassed turn_of old mid s0 ys o0 o1) (nothing_left s1 none ∙ sym (none_after s1 rest none left)) p

  -- one that goes to others waits to leave
  pub passed_out : (old : MembersView (Setup T)) (x : Signed) (sent out new_out : List Signed) → Lawful (at old.setup) → is_member old.components x.message.to ≡ false → IsInOrder out → Fits x → new_out ≡ insert_one x out
      → IsPassed turn_of old old (x ∷ sent) sent out new_out
  passed_out old x sent out new_out law alien order fits e =
      subst (IsPassed turn_of old old (x ∷ sent) sent out) (sym e)
      (record {
        setup = refl;
        base = refl;
        same = refl;
        outside = outside_more old.components x out alien;
        turns = λ most h. h;
        moves = λ group g mine.
            subst (Delivers (at old.setup) group g (open_world (at old.setup) old (x ∷ sent) out)) (left_open (system turn_of old.setup) law old x sent out alien order fits)
            (delivers_none (at old.setup) group g (open_world (at old.setup) old (x ∷ sent) out));
      })

  module _ (old new : MembersView (Setup T)) (law : Lawful (at old.setup)) (place : ℕ → ℕ) (apart : AreApart place 0 old.components) (own : AreOf old.setup old.base old.components) where
    -- one came to its receiver
    pub passed_in : (x : Signed) (count : ℕ) (sent new_sent out : List Signed) → NoneIsBelowLeast → IsInOrder (x ∷ sent) → IsDelivered turn_of x count old new sent new_sent → IsPassed turn_of old new (x ∷ sent) new_sent out out
    passed_in x count sent new_sent out low_law order d =
        record {
          setup = ap (λ (v : MembersView _). v.setup) d.becomes;
          base = ap (λ (v : MembersView _). v.base) d.becomes;
          same = frames_are;
          outside = outside_same old.components new.components (members_same old.components new.components frames_are) out;
          turns = λ most h. subst (λ (v : MembersView _). HaveDone most v.components) (sym d.becomes) (come_kept turn_of old.components d.place c x (subst (λ p. Lawful (at p)) (sym of) law) d.there most h);
          moves = λ group g mine. subst (λ v. Delivers (at old.setup) group g (open_world (at old.setup) old (x ∷ sent) out) (open_world (at old.setup) v new_sent out)) (sym d.becomes) (go group g mine x.sign refl posted);
        }
      where
        c : ComponentView (Setup T)
        c = d.c

        of : c.setup ≡ old.setup
        of = (own_there old.setup old.base old.components d.place c own d.there).0

        posted : IsPosted Minus (unsent (at c.setup) c.number (back_by (at c.setup) x.sign (item_of x) c.history)) sent new_sent
        posted = d.posts

        frames_are : frames new.components ≡ frames old.components
        frames_are = ap (λ (v : MembersView _). frames v.components) d.becomes ∙ frames_put old.components d.place c (with_coming turn_of c x) d.there refl

        history_is : (sign : Sign) → x.sign ≡ sign → comes (at old.setup) sign (item_of x) c.history ≡ comes (at c.setup) x.sign (item_of x) c.history
        history_is sign e = ap (λ k. comes (at old.setup) k (item_of x) c.history) (sym e) ∙ ap (λ p. comes (at p) x.sign (item_of x) c.history) (sym of)

        sent_is : (sign : Sign) → x.sign ≡ sign → IsPosted Minus (unsent (at old.setup) c.number (back_by (at old.setup) sign (item_of x) c.history)) sent new_sent
        sent_is sign e =
            subst (λ k. IsPosted Minus (unsent (at old.setup) c.number (back_by (at old.setup) k (item_of x) c.history)) sent new_sent) e
            (subst (λ p. IsPosted Minus (unsent (at p) c.number (back_by (at p) x.sign (item_of x) c.history)) sent new_sent) of posted)

        go : (group : ℕ → ℕ) (g : ℕ) → AreMembers group g old.components → (sign : Sign) → x.sign ≡ sign → IsPosted Minus (unsent (at c.setup) c.number (back_by (at c.setup) x.sign (item_of x) c.history)) sent new_sent
            → Delivers (at old.setup) group g (open_world (at old.setup) old (x ∷ sent) out) (open_world (at old.setup) (record old { components = slice_set old.components d.place (with_coming turn_of c x) }) new_sent out)
        go group g mine Plus e p =
            record {
              steps = DeliverMessage c.number (item_of x) ∷ [];
              deliveries = (least_open (at old.setup) old x sent out low_law order group g mine, tt);
              does = subst (λ h. Does (at old.setup) group g (open_world (at old.setup) old (x ∷ sent) out) (DeliverMessage c.number (item_of x) ∷ []) (open_world (at old.setup) (record old { components = slice_set old.components d.place (record c { history = h }) }) new_sent out)) (history_is Plus e)
                  (message_does (system turn_of old.setup) law old place apart d.place c d.there x sent out d.number group g mine e new_sent (sent_is Plus e));
            }
        go group g mine Minus e p =
            record {
              steps = DeliverAntimessage c.number (item_of x) ∷ [];
              deliveries = (least_open (at old.setup) old x sent out low_law order group g mine, tt);
              does = subst (λ h. Does (at old.setup) group g (open_world (at old.setup) old (x ∷ sent) out) (DeliverAntimessage c.number (item_of x) ∷ []) (open_world (at old.setup) (record old { components = slice_set old.components d.place (record c { history = h }) }) new_sent out)) (history_is Minus e)
                  (antimessage_does (system turn_of old.setup) law old place apart d.place c d.there x sent out d.number group g mine e new_sent (sent_is Minus e));
            }

    -- it took back as many entries as are missing
    pub depth_in : (x : Signed) (count : ℕ) (sent new_sent : List Signed) → IsDelivered turn_of x count old new sent new_sent → depth_of new.components + count ≡ depth_of old.components
    depth_in x count sent new_sent d =
        let c = d.c in
        let put = depth_put old.components d.place c (with_coming turn_of c x) d.there in
        let came = come_depth (at c.setup) x.sign (item_of x) c.history in
        let now : depth_of new.components ≡ depth_of (slice_set old.components d.place (with_coming turn_of c x)) = ap (λ (v : MembersView _). depth_of v.components) d.becomes in
        let many = d.many in
        omega (arith, put, came, now, many)

    -- the member with the least next key processed that entry
    module _ {window : Option Window} (sent new_sent out : List Signed) (p : IsProcessed turn_of window old new sent new_sent) where
      abbrev b : ComponentView (Setup T)
      b = p.c

      abbrev e : Entry Named
      e = p.entry

      b_of : b.setup ≡ old.setup
      b_of = (own_there old.setup old.base old.components p.place b own p.there).0

      pub its_next : next_of (at old.setup) b.number b.history ≡ Some e
      its_next = subst (λ x. next_of (at x) b.number b.history ≡ Some e) b_of p.next

      its_sent : IsPosted Plus (sent_by (at old.setup) b.number e) sent new_sent
      its_sent =
          subst (λ x. IsPosted Plus (sent_by (at x) b.number e) sent new_sent) b_of
          (subst (λ o. IsPosted Plus (sent_next (at b.setup) b.number o) sent new_sent) p.next p.posts)

      its_stepped : stepped turn_of b ≡ record b { history = after_entry e b.history }
      its_stepped = ap (λ o. record b { history = processed o b.history }) p.next

      pub its_new : new ≡ record old { components = slice_set old.components p.place (record b { history = after_entry e b.history }) }
      its_new = p.becomes ∙ ap (λ x. record old { components = slice_set old.components p.place x }) its_stepped

      pub its_frames : frames new.components ≡ frames old.components
      its_frames = ap (λ (v : MembersView _). frames v.components) its_new ∙ frames_put old.components p.place b (record b { history = after_entry e b.history }) p.there refl

      pub its_step : (group : ℕ → ℕ) (g : ℕ) → AreMembers group g old.components → Does (at old.setup) group g (open_world (at old.setup) old sent out) (Process b.number ∷ []) (open_world (at old.setup) new new_sent out)
      its_step group g mine =
          subst (λ v. Does (at old.setup) group g (open_world (at old.setup) old sent out) (Process b.number ∷ []) (open_world (at old.setup) v new_sent out)) (sym its_new)
          (process_does (system turn_of old.setup) law old place apart p.place b p.there sent out group g mine e its_next new_sent its_sent)
