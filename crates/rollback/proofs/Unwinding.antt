-- Roll-backs one after the other, as the coming of a message or of an antimessage asks for them.
use Rattle.std.proofs.Common.{◌≡◌, ℕ, ◌+◌, ◌||◌, not, Bool, true, false, cond, List, [], ◌∷◌, length, refl, ap, sym, ◌∙◌, arith}
use Rattle.virtual_time.specs.Machine.{Machine}
use Rattle.virtual_time.specs.Entries.{Entry, Own, Input, Item}
use Rattle.virtual_time.specs.Records.{Record, back_at, undone, roll_back_of, later, not_later, stays, back_until, before_last, is_input, unsent, sent_by, back_by_message, back_by_antimessage}
use Rattle.virtual_time.specs.Bags.{has, hit, inputs}
use Rattle.std.specs.Prelude.{nat_lt}
use Rattle.std.proofs.lemmas.Bool.{lt-ltb}
use Rattle.rollback.specs.ComponentView.{last_of, is_last_later, is_last_another}

module _ {S A : Type 0} (m : Machine S A) (i : ℕ) (x : Item A) where
  -- the record after all later entries were taken back
  abbrev pub unwound : Record S A → Record S A
  unwound r = back_at m (later m x r.done) (not_later m x r.done) r

  -- the record after the entries from the message on were taken back
  abbrev pub rewound : Record S A → Record S A
  rewound r = back_at m (back_until m x r.done) (before_last m x r.done) r

  no : (b : Bool) → not b ≡ true → b ≡ false
  no true h = cc
  no false h = refl

  yes : (b : Bool) → not b ≡ false → b ≡ true
  yes true h = refl
  yes false h = cc

  back_again : (e : Entry A) (es back kept : List (Entry A)) (r : Record S A) → back_at m back kept (back_at m (e ∷ []) es r) ≡ back_at m (e ∷ back) kept r
  back_again (Own k o) es back kept r = refl
  back_again (Input y) es back kept r = refl

  later_by : (ds : List (Entry A)) (r : Record S A) → is_last_later m x ds ≡ true → unwound (undone m ds r) ≡ back_at m (later m x ds) (not_later m x ds) r
  later_by [] r h = cc
  later_by (e ∷ es) r h = back_again e es (later m x es) (not_later m x es) r ∙ go (stays m x e) (no (stays m x e) h)
    where
      go : (b : Bool) → b ≡ false → back_at m (e ∷ later m x es) (not_later m x es) r ≡ back_at m (cond b [] (e ∷ later m x es)) (cond b (e ∷ es) (not_later m x es)) r
      go true f = cc
      go false f = refl

  -- one more roll-back of a later entry
  pub later_step : (r : Record S A) → is_last_later m x r.done ≡ true → unwound (roll_back_of m r) ≡ unwound r
  later_step r h = later_by r.done r h

  sent_later_by : (ds : List (Entry A)) (r : Record S A) (j : ℕ) (xs : List (Item A)) → is_last_later m x ds ≡ true → unsent m i (later m x (undone m ds r).done) j (unsent m i (last_of ds) j xs) ≡ unsent m i (later m x ds) j xs
  sent_later_by [] r j xs h = cc
  sent_later_by (e ∷ es) r j xs h = go (stays m x e) (no (stays m x e) h)
    where
      go : (b : Bool) → b ≡ false → unsent m i (later m x es) j (sent_by m i e j xs) ≡ unsent m i (cond b [] (e ∷ later m x es)) j xs
      go true f = cc
      go false f = refl

  pub later_sent : (r : Record S A) (j : ℕ) (xs : List (Item A)) → is_last_later m x r.done ≡ true → unsent m i (later m x (roll_back_of m r).done) j (unsent m i (last_of r.done) j xs) ≡ unsent m i (later m x r.done) j xs
  later_sent r j xs h = sent_later_by r.done r j xs h

  no_later : (ds : List (Entry A)) → is_last_later m x ds ≡ false → (later m x ds ≡ []) × (not_later m x ds ≡ ds)
  no_later [] h = (refl, refl)
  no_later (e ∷ es) h = (ap (λ b. cond b [] (e ∷ later m x es)) (yes (stays m x e) h), ap (λ b. cond b (e ∷ es) (not_later m x es)) (yes (stays m x e) h))

  -- no later entry is left
  pub later_end : (r : Record S A) → is_last_later m x r.done ≡ false → unwound r ≡ r
  later_end r h = let n = no_later r.done h in (λ v. back_at m (n.0 v) (n.1 v) r)

  pub later_end_sent : (r : Record S A) (j : ℕ) (xs : List (Item A)) → is_last_later m x r.done ≡ false → unsent m i (later m x r.done) j xs ≡ xs
  later_end_sent r j xs h = ap (λ l. unsent m i l j xs) (no_later r.done h).0

  -- the later entries and the others are all
  pub later_length : (ds : List (Entry A)) → length (later m x ds) + length (not_later m x ds) ≡ length ds
  later_length [] = refl
  later_length (e ∷ es) = go (later_length es) (stays m x e)
    where
      go : length (later m x es) + length (not_later m x es) ≡ length es → (b : Bool) → length (cond b [] (e ∷ later m x es)) + length (cond b (e ∷ es) (not_later m x es)) ≡ length (e ∷ es)
      go rest true = omega arith
      go rest false = omega (arith, rest)

  until_by : (ds : List (Entry A)) (r : Record S A) → is_last_another m x ds ≡ true → rewound (undone m ds r) ≡ back_at m (back_until m x ds) (before_last m x ds) r
  until_by [] r h = cc
  until_by (e ∷ es) r h = back_again e es (back_until m x es) (before_last m x es) r ∙ go (is_input m x e) (no (is_input m x e) h)
    where
      go : (b : Bool) → b ≡ false → back_at m (e ∷ back_until m x es) (before_last m x es) r ≡ back_at m (e ∷ cond b [] (back_until m x es)) (cond b es (before_last m x es)) r
      go true f = cc
      go false f = refl

  -- one more roll-back of an entry that isn't the message
  pub until_step : (r : Record S A) → is_last_another m x r.done ≡ true → rewound (roll_back_of m r) ≡ rewound r
  until_step r h = until_by r.done r h

  sent_until_by : (ds : List (Entry A)) (r : Record S A) (j : ℕ) (xs : List (Item A)) → is_last_another m x ds ≡ true → unsent m i (back_until m x (undone m ds r).done) j (unsent m i (last_of ds) j xs) ≡ unsent m i (back_until m x ds) j xs
  sent_until_by [] r j xs h = cc
  sent_until_by (e ∷ es) r j xs h = go (is_input m x e) (no (is_input m x e) h)
    where
      go : (b : Bool) → b ≡ false → unsent m i (back_until m x es) j (sent_by m i e j xs) ≡ unsent m i (cond b [] (back_until m x es)) j (sent_by m i e j xs)
      go true f = cc
      go false f = refl

  pub until_sent : (r : Record S A) (j : ℕ) (xs : List (Item A)) → is_last_another m x r.done ≡ true → unsent m i (back_until m x (roll_back_of m r).done) j (unsent m i (last_of r.done) j xs) ≡ unsent m i (back_until m x r.done) j xs
  until_sent r j xs h = sent_until_by r.done r j xs h

  end_by : (ds : List (Entry A)) (r : Record S A) → r.done ≡ ds → is_last_another m x ds ≡ false → undone m ds r ≡ back_at m (back_until m x ds) (before_last m x ds) r
  end_by [] r e h = ap (λ l. record { base = r.base; first = r.first; done = l; pending = r.pending; owed = r.owed }) e
  end_by (d ∷ ds) r e h = go (is_input m x d) (yes (is_input m x d) h)
    where
      go : (b : Bool) → b ≡ true → back_at m (d ∷ []) ds r ≡ back_at m (d ∷ cond b [] (back_until m x ds)) (cond b ds (before_last m x ds)) r
      go true f = refl
      go false f = cc

  -- the last roll-back, that of the message
  pub until_end : (r : Record S A) → is_last_another m x r.done ≡ false → roll_back_of m r ≡ rewound r
  until_end r h = end_by r.done r refl h

  sent_end_by : (ds : List (Entry A)) (j : ℕ) (xs : List (Item A)) → is_last_another m x ds ≡ false → unsent m i (last_of ds) j xs ≡ unsent m i (back_until m x ds) j xs
  sent_end_by [] j xs h = refl
  sent_end_by (d ∷ ds) j xs h = go (is_input m x d) (yes (is_input m x d) h)
    where
      go : (b : Bool) → b ≡ true → sent_by m i d j xs ≡ unsent m i (cond b [] (back_until m x ds)) j (sent_by m i d j xs)
      go true f = refl
      go false f = cc

  pub until_end_sent : (r : Record S A) (j : ℕ) (xs : List (Item A)) → is_last_another m x r.done ≡ false → unsent m i (last_of r.done) j xs ≡ unsent m i (back_until m x r.done) j xs
  until_end_sent r j xs h = sent_end_by r.done j xs h

  -- the entries from the message on and those before it are all
  pub until_length : (ds : List (Entry A)) → length (back_until m x ds) + length (before_last m x ds) ≡ length ds
  until_length [] = refl
  until_length (e ∷ es) = go (until_length es) (is_input m x e)
    where
      go : length (back_until m x es) + length (before_last m x es) ≡ length es → (b : Bool) → length (e ∷ cond b [] (back_until m x es)) + length (cond b es (before_last m x es)) ≡ length (e ∷ es)
      go rest true = omega arith
      go rest false = omega (arith, rest)

  -- what the coming of a message takes back, where no antimessage is owed for it
  pub by_message : (r : Record S A) → has m x r.owed ≡ false → later m x r.done ≡ back_by_message m x r
  by_message r h = ap (λ b. cond b [] (later m x r.done)) (sym h)

  -- what the coming of an antimessage takes back, where its message is done and none is pending
  pub by_antimessage : (r : Record S A) → has m x r.pending ≡ false → nat_lt 0 (inputs m r.done x.key x.action) ≡ true → back_until m x r.done ≡ back_by_antimessage m x r
  by_antimessage r h d =
      ap (λ b. cond b (back_until m x r.done) []) (sym d)
      ∙ ap (λ b. cond b [] (cond (nat_lt 0 (inputs m r.done x.key x.action)) (back_until m x r.done) [])) (sym h)

  one_more : (b : Bool) (n : ℕ) → nat_lt 0 (cond b 1 0 + n) ≡ (b || nat_lt 0 n)
  one_more true n = lt-ltb 0 (1 + n) (omega arith)
  one_more false n = ap (nat_lt 0) (let e : 0 + n ≡ n = omega arith in e)

  -- an input among the done entries is counted
  pub inputs_more : (y : Item A) (es : List (Entry A)) → nat_lt 0 (inputs m (Input y ∷ es) x.key x.action) ≡ (is_input m x (Input y) || nat_lt 0 (inputs m es x.key x.action))
  unfolding hit
  inputs_more y es = one_more (is_input m x (Input y)) (inputs m es x.key x.action)
