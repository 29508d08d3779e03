-- Counts of messages in the code are those of the theory.
use Rattle.std.proofs.Common.{◌≡◌, ℕ, ◌+◌, ◌==◌, ◌&&◌, ◌⊎◌, inl, inr, Bool, true, false, cond, List, [], ◌∷◌, refl, ap, sym, ◌∙◌, if◌then◌else◌, arith}
use Rattle.std.proofs.lemmas.Bool.{and_parts, eqb-true}
use Rattle.std.specs.Cmp.{Equal-is}
use Rattle.terms.specs.Named.{Named}
use Rattle.event_keys.specs.Apart.{action_apart}
use Rattle.event_keys.specs.Orders.{action_order}
use Rattle.event_keys.specs.Ranks.{rank}
use Rattle.event_keys.specs.declared.message.Message.{Message}
use Rattle.event_keys.specs.declared.message.Sign.{Sign}
use Rattle.event_keys.specs.declared.message.Signed.{Signed}
use Rattle.antimessage.proofs.Counting.{signed_decides}
use Rattle.antimessage.specs.Bags.{is_one}
use Rattle.antimessage.specs.Counts.{Each, is_same}
use Rattle.antimessage.specs.Order.{Fits}
use Rattle.virtual_time.specs.Bags.{hit, times}
use Rattle.virtual_time.specs.Entries.{Item}
use Rattle.task_seed.specs.Machines.{machine, same_action}
use Rattle.task_seed.specs.Turning.{System}
use Rattle.rollback.specs.Flight.{goes, in_flight, item_of}
use Rattle.message_balance.specs.Balance.{count_as, signed_as}
use Rattle.message_balance.proofs.Counting.{count_next, count_none}
use Rattle.rollback.proofs.Flight.{hit_same}

pub action_is : (a b : Named) → same_action a b ≡ true → a ≡ b
action_is a b h = action_apart a b ((Equal-is (action_order a b)).0 h)

-- a message that goes elsewhere is another
pub elsewhere : (sign : Sign) (j : ℕ) (x y : Signed) → goes sign j y ≡ true → goes sign j x ≡ false → is_same x y ≡ false
elsewhere sign j x y p q = go (is_same x y) refl where
  go : (b : Bool) → is_same x y ≡ b → b ≡ false
  go false e = refl
  go true e = let there : goes sign j x ≡ true = ap (goes sign j) ((signed_decides x y).0 e) ∙ p in cc

-- two counts are nothing, or P holds
pub both_or : (P : Type 0) (m n : ℕ) → (m ≡ 0) ⊎ P → (n ≡ 0) ⊎ P → (m + n ≡ 0) ⊎ P
both_or P m n (inl a) (inl b) = inl (omega (arith, a, b))
both_or P m n (inl a) (inr p) = inr p
both_or P m n (inr p) b = inr p

-- two counts are the same where both are nothing or they are the same
pub same_or : (m n : ℕ) → (m ≡ 0) ⊎ (m ≡ n) → (n ≡ 0) ⊎ (m ≡ n) → m ≡ n
same_or m n (inl a) (inl b) = a ∙ sym b
same_or m n (inl a) (inr p) = p
same_or m n (inr p) b = p

module _ (s : System) where
  -- how often a message is in flight
  pub times_count : (sign : Sign) (j : ℕ) (m : Message) → goes sign j (signed_as sign m) ≡ true → Fits (signed_as sign m) → (xs : List Signed) → Each Fits xs
      → times (machine s) (in_flight sign j xs) (rank m.key) m.action ≡ count_as sign m xs
  times_count sign j m here f [] e = refl
  times_count sign j m here f (x ∷ xs) e = go (times_count sign j m here f xs e.1) (goes sign j x) refl where
    go : times (machine s) (in_flight sign j xs) (rank m.key) m.action ≡ count_as sign m xs → (b : Bool) → goes sign j x ≡ b
        → times (machine s) (if b then item_of x ∷ in_flight sign j xs else in_flight sign j xs) (rank m.key) m.action ≡ count_as sign m (x ∷ xs)
    go rest true p = let one = hit_same s sign j x (signed_as sign m) e.0 f p here in (λ v. one v + rest v) ∙ count_next (is_one (signed_as sign m)) x xs
    go rest false p =
        rest ∙ count_none (is_one (signed_as sign m)) x xs (elsewhere sign j x (signed_as sign m) here p)

  -- a message is hit, or it isn't
  pub hit_or : (P : Type 0) (x : Item Named) (k : ℕ) (a : Named) → (x.key ≡ k → x.action ≡ a → P) → (hit (machine s) x k a ≡ 0) ⊎ P
  unfolding hit
  hit_or P x k a h = go ((x.key == k) && same_action x.action a) refl where
    go : (b : Bool) → ((x.key == k) && same_action x.action a) ≡ b → (◌≡◌ {A = ℕ} (cond b 1 0) 0) ⊎ P
    go false e = inl refl
    go true e =
        let parts = and_parts (x.key == k) (same_action x.action a) e in
        inr (h (eqb-true x.key k parts.0) (action_is x.action a parts.1))

  -- no message of a list is hit, or what each hit one shows holds
  pub none_or : (P : Type 0) (Q : Signed → Type 0) (sign : Sign) (j k : ℕ) (a : Named)
      → ((x : Signed) → Q x → goes sign j x ≡ true → rank x.message.key ≡ k → x.message.action ≡ a → P)
      → (xs : List Signed) → Each Q xs → (times (machine s) (in_flight sign j xs) k a ≡ 0) ⊎ P
  none_or P Q sign j k a h [] e = inl refl
  none_or P Q sign j k a h (x ∷ xs) e = go (none_or P Q sign j k a h xs e.1) (goes sign j x) refl where
    go : (times (machine s) (in_flight sign j xs) k a ≡ 0) ⊎ P → (b : Bool) → goes sign j x ≡ b
        → (times (machine s) (if b then item_of x ∷ in_flight sign j xs else in_flight sign j xs) k a ≡ 0) ⊎ P
    go rest false p = rest
    go rest true p = both_or P (hit (machine s) (item_of x) k a) (times (machine s) (in_flight sign j xs) k a) (hit_or P (item_of x) k a (h x e.0 p)) rest
