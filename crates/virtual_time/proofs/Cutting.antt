-- A record that is cut takes the same steps, above the cut.
use Rattle.std.proofs.Common.{◌≡◌, ℕ, ◌<◌, ◌≤◌, ◌⊎◌, inl, inr, Bool, true, false, cond, None, Some, List, [], ◌∷◌, refl, ap, sym, subst, ◌∙◌, arith, ltb}
use Rattle.std.proofs.lemmas.Bool.{ltb-true, le-leb, leb-false, cases_lt, cases_Bool}
use Rattle.virtual_time.specs.Machine.{Lawful, Machine}
use Rattle.virtual_time.specs.Entries.{Entry, Input, Item, Own, below, entry_key, from, number, replay}
use Rattle.virtual_time.specs.Bags.{has, hit, inputs, insert, remove}
use Rattle.virtual_time.specs.Records.{Record, after_entry, antimessage_comes, back_at, back_by_message, back_until, before_last, cut_of, is_input, later, least_of, message_comes, next_of, not_later, own_next, returned, roll_back_of, stays, undone}
use Rattle.virtual_time.specs.Rules.{IsDone}
use Rattle.virtual_time.proofs.Counts.{hit_not}
use Rattle.virtual_time.proofs.Lists.{first_low, first_lt, first_total}
use Rattle.virtual_time.proofs.Cuts.{below_past}
use Rattle.virtual_time.proofs.Commits.{from_at, from_past, number_split, replay_split, inputs_from}

module _ {S A : Type 0} (machine : Machine S A) (law : Lawful machine) (i b : ℕ) where
  own_cut : (r : Record S A) → own_next machine i (cut_of machine i b r) ≡ own_next machine i r
  own_cut r =
      (λ v. cond (ltb (machine.key i (number_split b r.first r.done v)) machine.top)
      (Some (Own (machine.key i (number_split b r.first r.done v)) (machine.outcome i (number_split b r.first r.done v) (replay_split machine law i b r.base r.done v)))) None)

  least_cut : (r : Record S A) (xs : List (Item A)) → least_of machine i (cut_of machine i b r) xs ≡ least_of machine i r xs
  least_cut r [] = own_cut r
  least_cut r (x ∷ xs) = λ v. cond (ltb x.key (machine.key i (number_split b r.first r.done v))) (Some (Input x)) (own_cut r v)

  pub next_cut : (r : Record S A) → next_of machine i (cut_of machine i b r) ≡ next_of machine i r
  next_cut r = least_cut r r.pending

  pub after_cut : (e : Entry A) (r : Record S A) → b ≤ entry_key e → cut_of machine i b (after_entry e r) ≡ after_entry e (cut_of machine i b r)
  after_cut (Own k o) r l =
      λ v. record {
        base = replay machine i r.base (below_past b (Own k o) r.done l v);
        first = number r.first (below_past b (Own k o) r.done l v);
        done = from_past b (Own k o) r.done l v;
        pending = r.pending;
        owed = r.owed;
      }
  after_cut (Input x) r l =
      λ v. record {
        base = replay machine i r.base (below_past b (Input x) r.done l v);
        first = number r.first (below_past b (Input x) r.done l v);
        done = from_past b (Input x) r.done l v;
        pending = after_pending;
        owed = r.owed;
      }
    where
      after_pending : List (Item A)
      after_pending = (after_entry (Input x) r).pending

  -- the entries that are taken back are those at or above the cut
  pub back_cut : (back kept : List (Entry A)) (r : Record S A) → below b kept ≡ below b r.done → back_at machine back (from b kept) (cut_of machine i b r) ≡ cut_of machine i b (back_at machine back kept r)
  back_cut back kept r e =
      λ v. record { base = replay machine i r.base (sym e v); first = number r.first (sym e v); done = from b kept; pending = returned machine back r.pending; owed = r.owed }

  pub roll_back_cut : (e : Entry A) (es : List (Entry A)) (r : Record S A) → r.done ≡ e ∷ es → b ≤ entry_key e → roll_back_of machine (cut_of machine i b r) ≡ cut_of machine i b (roll_back_of machine r)
  roll_back_cut e es r d l =
      ap (λ (fs : List (Entry A)). undone machine fs (cut_of machine i b r)) (ap (from b) d ∙ from_past b e es l)
      ∙ back_cut (e ∷ []) es r (sym (ap (below b) d ∙ below_past b e es l))
      ∙ ap (λ (fs : List (Entry A)). cut_of machine i b (undone machine fs r)) (sym d)

  -- A message.
  later_high : (x : Item A) (e : Entry A) → b ≤ x.key → stays machine x e ≡ false → b ≤ entry_key e
  later_high x (Own k o) l h = let n = leb-false k x.key h in omega arith
  later_high x (Input y) l h = let n = first_low machine x y (first_total machine law y x h) in omega arith

  low_stays : (x : Item A) (e : Entry A) → b ≤ x.key → entry_key e < b → stays machine x e ≡ true
  low_stays x (Own k o) l h = le-leb k x.key (omega arith)
  low_stays x (Input y) l h = first_lt machine y x (omega arith)

  later_cut : (x : Item A) (es : List (Entry A)) → b ≤ x.key → later machine x (from b es) ≡ later machine x es
  later_cut x [] l = refl
  later_cut x (e ∷ es) l = go (cases_lt (entry_key e) b) (later_cut x es l)
    where
      go : (entry_key e < b) ⊎ (b ≤ entry_key e) → later machine x (from b es) ≡ later machine x es → later machine x (from b (e ∷ es)) ≡ later machine x (e ∷ es)
      go (inl h) ih = ap (later machine x) (from_at b e es h) ∙ sym (rw (low_stays x e l h))
      go (inr h) ih = ap (later machine x) (from_past b e es h) ∙ ap (λ (fs : List (Entry A)). cond (stays machine x e) [] (e ∷ fs)) ih

  not_later_cut : (x : Item A) (es : List (Entry A)) → b ≤ x.key → not_later machine x (from b es) ≡ from b (not_later machine x es)
  not_later_cut x [] l = refl
  not_later_cut x (e ∷ es) l = go (cases_lt (entry_key e) b) (cases_Bool (stays machine x e)) (not_later_cut x es l)
    where
      go : (entry_key e < b) ⊎ (b ≤ entry_key e) → (stays machine x e ≡ true) ⊎ (stays machine x e ≡ false) → not_later machine x (from b es) ≡ from b (not_later machine x es)
          → not_later machine x (from b (e ∷ es)) ≡ from b (not_later machine x (e ∷ es))
      go (inl h) s ih = ap (not_later machine x) (from_at b e es h) ∙ sym (ap (from b) {x = not_later machine x (e ∷ es)} {y = e ∷ es} (rw (low_stays x e l h)) ∙ from_at b e es h)
      go (inr h) (inl s) ih = ap (not_later machine x) (from_past b e es h) ∙ rw s (sym (from_past b e es h))
      go (inr h) (inr s) ih = ap (not_later machine x) (from_past b e es h) ∙ rw s ih

  not_later_low : (x : Item A) (es : List (Entry A)) → b ≤ x.key → below b (not_later machine x es) ≡ below b es
  not_later_low x [] l = refl
  not_later_low x (e ∷ es) l = go (cases_Bool (stays machine x e)) (not_later_low x es l)
    where
      go : (stays machine x e ≡ true) ⊎ (stays machine x e ≡ false) → below b (not_later machine x es) ≡ below b es → below b (not_later machine x (e ∷ es)) ≡ below b (e ∷ es)
      go (inl s) ih = ap (λ (t : Bool). below b (cond t (e ∷ es) (not_later machine x es))) s
      go (inr s) ih = ap (λ (t : Bool). below b (cond t (e ∷ es) (not_later machine x es))) s ∙ ih ∙ sym (below_past b e es (later_high x e l s))

  pub message_cut : (x : Item A) (r : Record S A) → b ≤ x.key → message_comes machine x (cut_of machine i b r) ≡ cut_of machine i b (message_comes machine x r)
  message_cut x r l = go (has machine x r.owed)
    where
      came : Record S A → Record S A
      came q = record { base = q.base; first = q.first; done = q.done; pending = insert machine x q.pending; owed = q.owed }

      paid : Record S A → Record S A
      paid q = record { base = q.base; first = q.first; done = q.done; pending = q.pending; owed = remove machine x q.owed }

      go : (t : Bool) → cond t (paid (cut_of machine i b r)) (came (back_at machine (later machine x (from b r.done)) (not_later machine x (from b r.done)) (cut_of machine i b r)))
          ≡ cut_of machine i b (cond t (paid r) (came (back_at machine (later machine x r.done) (not_later machine x r.done) r)))
      go true = refl
      go false =
          (λ v. came (back_at machine (later_cut x r.done l v) (not_later_cut x r.done l v) (cut_of machine i b r)))
          ∙ ap came (back_cut (later machine x r.done) (not_later machine x r.done) r (not_later_low x r.done l))

  pub back_by_message_cut : (x : Item A) (r : Record S A) → b ≤ x.key → back_by_message machine x (cut_of machine i b r) ≡ back_by_message machine x r
  back_by_message_cut x r l = ap (λ (es : List (Entry A)). cond (has machine x r.owed) [] es) (later_cut x r.done l)

  -- An antimessage.
  abbrev UntilCut : Item A → List (Entry A) → Type 0
  UntilCut x es = (back_until machine x (from b es) ≡ back_until machine x es) × (before_last machine x (from b es) ≡ from b (before_last machine x es)) × (below b (before_last machine x es) ≡ below b es)

  until_cut : (x : Item A) (es : List (Entry A)) → 0 < inputs machine (from b es) x.key x.action → UntilCut x es
  until_cut x [] h = absurd (omega arith)
  until_cut x (e ∷ es) h = go (cases_lt (entry_key e) b) (cases_Bool (is_input machine x e)) (until_cut x es)
    where
      less : (f : Entry A) → is_input machine x f ≡ false → 0 < inputs machine (f ∷ from b es) x.key x.action → 0 < inputs machine (from b es) x.key x.action
      less (Own k o) s n = n
      less (Input y) s n = let z : hit machine y x.key x.action ≡ 0 = hit_not machine law y x s in omega arith

      go : (entry_key e < b) ⊎ (b ≤ entry_key e) → (is_input machine x e ≡ true) ⊎ (is_input machine x e ≡ false) → (0 < inputs machine (from b es) x.key x.action → UntilCut x es) → UntilCut x (e ∷ es)
      go (inl l) s ih = let n : 0 < inputs machine [] x.key x.action = subst (λ (fs : List (Entry A)). 0 < inputs machine fs x.key x.action) (from_at b e es l) h in absurd (omega arith)
      go (inr l) (inl s) ih = (
        ap (back_until machine x) (from_past b e es l) ∙ (λ v. e ∷ cond (s v) [] (back_until machine x (from b es))) ∙ sym (λ v. e ∷ cond (s v) [] (back_until machine x es)),
        ap (before_last machine x) (from_past b e es l) ∙ (λ v. cond (s v) (from b es) (before_last machine x (from b es))) ∙ sym (λ v. from b (cond (s v) es (before_last machine x es))),
        (λ v. below b (cond (s v) es (before_last machine x es))) ∙ sym (below_past b e es l),
      )
      go (inr l) (inr s) ih =
          let n : 0 < inputs machine (e ∷ from b es) x.key x.action = subst (λ (fs : List (Entry A)). 0 < inputs machine fs x.key x.action) (from_past b e es l) h in
          let q = ih (less e s n) in (
            ap (back_until machine x) (from_past b e es l) ∙ (λ v. e ∷ cond (s v) [] (q.0 v)) ∙ sym (λ v. e ∷ cond (s v) [] (back_until machine x es)),
            ap (before_last machine x) (from_past b e es l) ∙ (λ v. cond (s v) (from b es) (before_last machine x (from b es))) ∙ q.1 ∙ sym (λ v. from b (cond (s v) es (before_last machine x es))),
            (λ v. below b (cond (s v) es (before_last machine x es))) ∙ q.2 ∙ sym (below_past b e es l),
          )

  pub antimessage_cut : (g : ℕ) (x : Item A) (r : Record S A) → IsDone machine i g r.first r.base r.done → b ≤ x.key → antimessage_comes machine x (cut_of machine i b r) ≡ cut_of machine i b (antimessage_comes machine x r)
  antimessage_cut g x r d l = go (has machine x r.pending) (ltb 0 (inputs machine r.done x.key x.action)) refl
    where
      same_inputs : inputs machine (from b r.done) x.key x.action ≡ inputs machine r.done x.key x.action
      same_inputs = inputs_from machine law i g r.first r.base b r.done d x.key l x.action

      cancelled : Record S A → Record S A
      cancelled q = record { base = q.base; first = q.first; done = q.done; pending = remove machine x q.pending; owed = q.owed }

      owing : Record S A → Record S A
      owing q = record { base = q.base; first = q.first; done = q.done; pending = q.pending; owed = insert machine x q.owed }

      rest : (t : Bool) → ltb 0 (inputs machine r.done x.key x.action) ≡ t
          → cond t (cancelled (back_at machine (back_until machine x (from b r.done)) (before_last machine x (from b r.done)) (cut_of machine i b r))) (owing (cut_of machine i b r))
          ≡ cut_of machine i b (cond t (cancelled (back_at machine (back_until machine x r.done) (before_last machine x r.done) r)) (owing r))
      rest false h = refl
      rest true h =
          let some = ltb-true 0 (inputs machine r.done x.key x.action) h in
          let e : inputs machine (from b r.done) x.key x.action ≡ inputs machine r.done x.key x.action = same_inputs in
          let q = until_cut x r.done (omega arith) in
          (λ v. cancelled (back_at machine (q.0 v) (q.1 v) (cut_of machine i b r)))
          ∙ ap cancelled (back_cut (back_until machine x r.done) (before_last machine x r.done) r q.2)

      go : (p t : Bool) → ltb 0 (inputs machine r.done x.key x.action) ≡ t
          → cond p (cancelled (cut_of machine i b r)) (cond (ltb 0 (inputs machine (from b r.done) x.key x.action)) (cancelled (back_at machine (back_until machine x (from b r.done)) (before_last machine x (from b r.done)) (cut_of machine i b r))) (owing (cut_of machine i b r)))
          ≡ cut_of machine i b (cond p (cancelled r) (cond (ltb 0 (inputs machine r.done x.key x.action)) (cancelled (back_at machine (back_until machine x r.done) (before_last machine x r.done) r)) (owing r)))
      go true t h = refl
      go false t h = rw same_inputs (subst (λ (u : Bool). cond u (cancelled (back_at machine (back_until machine x (from b r.done)) (before_last machine x (from b r.done)) (cut_of machine i b r))) (owing (cut_of machine i b r))
          ≡ cut_of machine i b (cond u (cancelled (back_at machine (back_until machine x r.done) (before_last machine x r.done) r)) (owing r))) (sym h) (rest t h))
