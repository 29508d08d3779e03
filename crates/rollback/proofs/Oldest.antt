-- The entries below a bound, taken one after the other from the oldest on.
use Rattle.std.proofs.Common.{◌≡◌, ℕ, ◌+◌, ◌≤◌, Bool, true, false, cond, Option, None, Some, List, [], ◌∷◌, ◌++◌, length, reverse, refl, ap, sym, ◌∙◌, arith}
use mathlib.Core.List.{reverse_aux}
use Rattle.std.specs.Prelude.{nat_lt}
use Rattle.std.proofs.lemmas.Bool.Decides.{nat_tests}
use Rattle.event_keys.specs.declared.key.Key.{Key}
use Rattle.event_keys.specs.declared.outcome.Turned.{Turned}
use Rattle.raw_events.specs.Around.{Around, first_of, last, without_first_of}
use Rattle.raw_events.specs.Onto.{onto}
use Rattle.virtual_time.specs.Entries.{entry_key, latest}
use Rattle.message_balance.specs.declared.done.Done.{Done}
use Rattle.message_balance.specs.declared.done.Done.TheVariants.{Turn, Input}
use Rattle.rollback.specs.Dropped.{dones_below, dones_from, is_done_below, key_in, newest_key, oldest_below, turn_in, turns_in, without_oldest_below}
use Rattle.rollback.specs.Falling.{Falls}
use Rattle.rollback.specs.ComponentInvariant.{entries_of, entry_of}

-- the key of the newest own turn among entries, or this one where there is none
abbrev pub newest_or : List Done → Option Key → Option Key
newest_or [] key = key
newest_or (d ∷ ds) key = key_in d (newest_or ds key)

pub newest_none : (ds : List Done) → newest_or ds None ≡ newest_key ds
newest_none [] = refl
newest_none (d ∷ ds) = ap (key_in d) (newest_none ds)

newest_snoc : (ds : List Done) (d : Done) (key : Option Key) → newest_or (ds ++ d ∷ []) key ≡ newest_or ds (key_in d key)
newest_snoc [] d key = refl
newest_snoc (e ∷ ds) d key = ap (key_in e) (newest_snoc ds d key)

turn_append : (d : Done) (ts us : List Turned) → turn_in d ts ++ us ≡ turn_in d (ts ++ us)
turn_append (Turn turned antimessages) ts us = refl
turn_append (Input signed) ts us = refl

turns_snoc : (ds : List Done) (d : Done) (ts : List Turned) → turns_in (ds ++ d ∷ []) ++ ts ≡ turns_in ds ++ turn_in d ts
turns_snoc [] d ts = turn_append d [] ts
turns_snoc (e ∷ ds) d ts =
    turn_append e (turns_in (ds ++ d ∷ [])) ts
    ∙ ap (turn_in e) (turns_snoc ds d ts)
    ∙ turn_again e (turns_in ds) (turn_in d ts)
  where
    turn_again : (d : Done) (ts us : List Turned) → turn_in d (ts ++ us) ≡ turn_in d ts ++ us
    turn_again (Turn turned antimessages) ts us = refl
    turn_again (Input signed) ts us = refl

pub turns_none : (ts : List Turned) → ts ++ [] ≡ ts
turns_none [] = refl
turns_none (t ∷ ts) = ap (λ l. t ∷ l) (turns_none ts)

pub onto_reverse : (ts : List Turned) → reverse ts ++ [] ≡ onto ts []
onto_reverse ts = turns_none (reverse ts) ∙ back ts []
  where
    back : (ts us : List Turned) → reverse_aux ts us ≡ onto ts us
    back [] us = refl
    back (t ∷ ts) us = back ts (t ∷ us)

length_snoc : (ds : List Done) (d : Done) → length (ds ++ d ∷ []) ≡ length ds + 1
length_snoc [] d = refl
length_snoc (e ∷ ds) d = let rest = length_snoc ds d in omega (arith, rest)

-- the oldest stands behind all others
whole : (c : ℕ) (ds : List Done) (d : Done) → Some d ≡ oldest_below c ds → ds ≡ without_oldest_below c ds ++ d ∷ []
whole c [] d e = cc
whole c (x ∷ []) d e = go (is_done_below c x) e
  where
    go : (b : Bool) → Some d ≡ cond b (Some x) None → x ∷ [] ≡ cond b [] (x ∷ []) ++ d ∷ []
    go true e = cc
    go false e = cc
whole c (x ∷ y ∷ ds) d e = ap (λ l. x ∷ l) (whole c (y ∷ ds) d e)

-- the oldest is the last of those below
below_snoc : (c : ℕ) (ds : List Done) (d : Done) → Some d ≡ oldest_below c ds → dones_below c ds ≡ dones_below c (without_oldest_below c ds) ++ d ∷ []
below_snoc c [] d e = cc
below_snoc c (x ∷ []) d e = go (is_done_below c x) e
  where
    go : (b : Bool) → Some d ≡ cond b (Some x) None → cond b (x ∷ []) [] ≡ dones_below c (cond b [] (x ∷ [])) ++ d ∷ []
    go true e = cc
    go false e = cc
below_snoc c (x ∷ y ∷ ds) d e = go (below_snoc c (y ∷ ds) d e) (whole c (y ∷ ds) d e) (is_done_below c x)
  where
    go : dones_below c (y ∷ ds) ≡ dones_below c (without_oldest_below c (y ∷ ds)) ++ d ∷ [] → y ∷ ds ≡ without_oldest_below c (y ∷ ds) ++ d ∷ [] → (b : Bool)
        → cond b (x ∷ y ∷ ds) (dones_below c (y ∷ ds)) ≡ cond b (x ∷ without_oldest_below c (y ∷ ds)) (dones_below c (without_oldest_below c (y ∷ ds))) ++ d ∷ []
    go rest all true = ap (λ l. x ∷ l) all
    go rest all false = rest

-- those that stay are the same without it
pub from_stays : (c : ℕ) (ds : List Done) (d : Done) → Some d ≡ oldest_below c ds → dones_from c (without_oldest_below c ds) ≡ dones_from c ds
from_stays c [] d e = refl
from_stays c (x ∷ []) d e = go (is_done_below c x) refl e
  where
    go : (b : Bool) → is_done_below c x ≡ b → Some d ≡ cond b (Some x) None → dones_from c (cond b [] (x ∷ [])) ≡ cond b [] (x ∷ [])
    go true h e = refl
    go false h e = cc
from_stays c (x ∷ y ∷ ds) d e = go (from_stays c (y ∷ ds) d e) (is_done_below c x)
  where
    go : dones_from c (without_oldest_below c (y ∷ ds)) ≡ dones_from c (y ∷ ds) → (b : Bool) → cond b [] (x ∷ dones_from c (without_oldest_below c (y ∷ ds))) ≡ cond b [] (x ∷ dones_from c (y ∷ ds))
    go rest true = refl
    go rest false = ap (λ l. x ∷ l) rest

pub turns_step : (c : ℕ) (ds : List Done) (d : Done) (ts : List Turned) → Some d ≡ oldest_below c ds → turns_in (dones_below c (without_oldest_below c ds)) ++ turn_in d ts ≡ turns_in (dones_below c ds) ++ ts
turns_step c ds d ts e =
    sym (turns_snoc (dones_below c (without_oldest_below c ds)) d ts)
    ∙ ap (λ l. turns_in l ++ ts) (sym (below_snoc c ds d e))

pub newest_step : (c : ℕ) (ds : List Done) (d : Done) (key : Option Key) → Some d ≡ oldest_below c ds → newest_or (dones_below c (without_oldest_below c ds)) (key_in d key) ≡ newest_or (dones_below c ds) key
newest_step c ds d key e =
    sym (newest_snoc (dones_below c (without_oldest_below c ds)) d key)
    ∙ ap (λ l. newest_or l key) (sym (below_snoc c ds d e))

pub length_step : (c : ℕ) (ds : List Done) (d : Done) → Some d ≡ oldest_below c ds → length (dones_below c ds) ≡ length (dones_below c (without_oldest_below c ds)) + 1
length_step c ds d e = ap (λ l. length l) (below_snoc c ds d e) ∙ length_snoc (dones_below c (without_oldest_below c ds)) d

pub length_whole : (c : ℕ) (ds : List Done) (d : Done) → Some d ≡ oldest_below c ds → length ds ≡ length (without_oldest_below c ds) + 1
length_whole c ds d e = ap (λ l. length l) (whole c ds d e) ∙ length_snoc (without_oldest_below c ds) d

-- the keys fall without it too
latest_without : (c : ℕ) (ds : List Done) → latest 0 (entries_of (without_oldest_below c ds)) ≤ latest 0 (entries_of ds)
latest_without c [] = omega arith
latest_without c (x ∷ []) = go (is_done_below c x)
  where
    go : (b : Bool) → latest 0 (entries_of (cond b [] (x ∷ []))) ≤ entry_key (entry_of x)
    go true = omega arith
    go false = omega arith
latest_without c (x ∷ y ∷ ds) = omega arith

pub falls_without : (c : ℕ) (ds : List Done) → Falls (entries_of ds) → Falls (entries_of (without_oldest_below c ds))
falls_without c [] f = tt
falls_without c (x ∷ []) f = go (is_done_below c x)
  where
    go : (b : Bool) → Falls (entries_of (cond b [] (x ∷ [])))
    go true = tt
    go false = f
falls_without c (x ∷ y ∷ ds) f =
    let low = latest_without c (y ∷ ds) in
    let first = f.0 in
    (omega (arith, low, first), falls_without c (y ∷ ds) f.1)

higher : (a b c : ℕ) → a ≤ b → nat_lt a c ≡ false → nat_lt b c ≡ false
higher a b c h e = grind (arith, nat_tests)

-- where the oldest isn't below, nothing is
pub none_below : (c : ℕ) (ds : List Done) → Falls (entries_of ds) → None ≡ oldest_below c ds → (dones_below c ds ≡ []) × (dones_from c ds ≡ ds)
none_below c [] f e = (refl, refl)
none_below c (x ∷ []) f e = go (is_done_below c x) e
  where
    go : (b : Bool) → None ≡ cond b (Some x) None → (cond b (x ∷ []) [] ≡ []) × (cond b [] (x ∷ []) ≡ x ∷ [])
    go true e = cc
    go false e = (refl, refl)
none_below c (x ∷ y ∷ ds) f e = go (none_below c (y ∷ ds) f.1 e) (is_done_below c y) refl
  where
    fst : (b : Bool) → b ≡ false → dones_below c (y ∷ ds) ≡ [] → dones_from c (y ∷ ds) ≡ y ∷ ds → (cond b (x ∷ y ∷ ds) (dones_below c (y ∷ ds)) ≡ []) × (cond b [] (x ∷ dones_from c (y ∷ ds)) ≡ x ∷ y ∷ ds)
    fst true h rest all = cc
    fst false h rest all = (rest, ap (λ l. x ∷ l) all)

    go : (dones_below c (y ∷ ds) ≡ []) × (dones_from c (y ∷ ds) ≡ y ∷ ds) → (b : Bool) → is_done_below c y ≡ b → (dones_below c (x ∷ y ∷ ds) ≡ []) × (dones_from c (x ∷ y ∷ ds) ≡ x ∷ y ∷ ds)
    go rest true h = cc
    go rest false h = fst (is_done_below c x) (higher (entry_key (entry_of y)) (entry_key (entry_of x)) c f.0 h) rest.0 rest.1

-- what is left below is no more than all
pub few_below : (c : ℕ) (ds : List Done) → length (dones_below c ds) ≤ length ds
few_below c [] = omega arith
few_below c (d ∷ ds) = go (few_below c ds) (is_done_below c d)
  where
    go : length (dones_below c ds) ≤ length ds → (b : Bool) → length (cond b (d ∷ ds) (dones_below c ds)) ≤ length (d ∷ ds)
    go rest true = omega arith
    go rest false = omega (arith, rest)

no_last : (d : Done) (ds : List Done) → ◌≡◌ {A = Option Done} None (last (d ∷ ds)) → ⊥
no_last d [] e = cc
no_last d (x ∷ ds) e = no_last x ds e

some_same : (d x : Done) → Some x ≡ Some d → x ≡ d
some_same d x e = cc

module _ (c : ℕ) where
  -- there is no entry
  pub nothing_there : (ds after : List Done) → None ≡ first_of ds after → (None ≡ oldest_below c ds) × (ds ≡ without_oldest_below c ds)
  nothing_there [] after e = (refl, refl)
  nothing_there (d ∷ ds) after e = absurd (no_last d ds e)

  -- the oldest isn't below
  pub oldest_stays : (ds after : List Done) (x : Done) → after ≡ [] → Some x ≡ first_of ds after → is_done_below c x ≡ false → (None ≡ oldest_below c ds) × (ds ≡ without_oldest_below c ds)
  oldest_stays [] after x none e h = (refl, refl)
  oldest_stays (d ∷ []) after x none e h = go (is_done_below c d) (ap (is_done_below c) (sym (some_same d x e)) ∙ h)
    where
      go : (b : Bool) → b ≡ false → (None ≡ cond b (Some d) None) × (d ∷ [] ≡ cond b [] (d ∷ []))
      go true n = cc
      go false n = (refl, refl)
  oldest_stays (d ∷ y ∷ ds) after x none e h = let rest = oldest_stays (y ∷ ds) after x none e h in (rest.0, ap (λ l. d ∷ l) rest.1)

  -- the oldest is below
  pub oldest_goes : (ds after : List Done) (x : Done) → after ≡ [] → Some x ≡ first_of ds after → is_done_below c x ≡ true → (first_of ds after ≡ oldest_below c ds) × (◌≡◌ {A = Around Done} (without_first_of ds after) (record { before = without_oldest_below c ds; after = after }))
  oldest_goes [] [] x none e h = cc
  oldest_goes [] (y ∷ after) x none e h = cc
  oldest_goes (d ∷ []) after x none e h = go (is_done_below c d) (ap (is_done_below c) (sym (some_same d x e)) ∙ h)
    where
      go : (b : Bool) → b ≡ true → (Some d ≡ cond b (Some d) None) × (◌≡◌ {A = Around Done} (record { before = []; after = after }) (record { before = cond b [] (d ∷ []); after = after }))
      go true n = (refl, refl)
      go false n = cc
  oldest_goes (d ∷ y ∷ ds) after x none e h =
      let rest = oldest_goes (y ∷ ds) after x none e h in
      (rest.0, ap (λ (a : Around Done). record { before = d ∷ a.before; after = a.after }) rest.1)

  -- where the oldest isn't below, it stays
  pub none_stays : (ds : List Done) → None ≡ oldest_below c ds → without_oldest_below c ds ≡ ds
  none_stays [] e = refl
  none_stays (d ∷ []) e = go (is_done_below c d) e
    where
      go : (b : Bool) → None ≡ cond b (Some d) None → cond b [] (d ∷ []) ≡ d ∷ []
      go true e = cc
      go false e = refl
  none_stays (d ∷ x ∷ ds) e = ap (λ l. d ∷ l) (none_stays (x ∷ ds) e)
