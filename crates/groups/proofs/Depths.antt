-- How many entries are done, before and after some are taken back.
use Rattle.std.proofs.Common.{◌≡◌, ℕ, zero, suc, ◌+◌, Bool, true, false, cond, nat_lt, Some, List, [], ◌∷◌, refl, ap, arith}
use Rattle.std.specs.Prelude.{length, slice_get, slice_set}
use Rattle.terms.specs.Named.{Named}
use Rattle.event_keys.specs.declared.message.Sign.{Sign}
use Rattle.event_keys.specs.declared.message.Sign.TheVariants.{Plus, Minus}
use Rattle.event_keys.specs.declared.message.Signed.{Signed}
use Rattle.antimessage.specs.Order.{IsInOrder}
use Rattle.virtual_time.specs.Machine.{Machine}
use Rattle.virtual_time.specs.Bags.{has, inputs}
use Rattle.virtual_time.specs.Entries.{Entry, Item}
use Rattle.virtual_time.specs.Records.{Record, back_until, before_last, is_input, later, not_later, stays}
use Rattle.task_seed.specs.Turning.{System}
use Rattle.task_seed.specs.Machines.{machine}
use Rattle.rollback.specs.ComponentView.{ComponentView, back_by, comes}
use Rattle.rollback.specs.Flight.{in_flight}
use Rattle.rollback.specs.Laws.{SameFlightIsSame}
use Rattle.rollback.specs.Post.{IsPosted}
use Rattle.virtual_time.specs.Records.{unsent}
use Rattle.groups.specs.Open.{depth_of}
use Rattle.groups.proofs.Placed.{none_some, one_some}

module _ {S : Type 0} (m : Machine S Named) where
  later_all : (x : Item Named) (es : List (Entry Named)) → length (not_later m x es) + length (later m x es) ≡ length es
  later_all x [] = refl
  later_all x (e ∷ es) = go (later_all x es) (stays m x e)
    where
      go : length (not_later m x es) + length (later m x es) ≡ length es → (b : Bool) → length (cond b (e ∷ es) (not_later m x es)) + length (cond b [] (e ∷ later m x es)) ≡ suc (length es)
      go rest true = omega arith
      go rest false = omega (arith, rest)

  until_all : (x : Item Named) (es : List (Entry Named)) → length (before_last m x es) + length (back_until m x es) ≡ length es
  until_all x [] = refl
  until_all x (e ∷ es) = go (until_all x es) (is_input m x e)
    where
      go : length (before_last m x es) + length (back_until m x es) ≡ length es → (b : Bool) → length (cond b es (before_last m x es)) + suc (length (cond b [] (back_until m x es))) ≡ suc (length es)
      go rest true = omega arith
      go rest false = omega (arith, rest)

  -- what comes leaves all entries but those that it takes back
  pub come_depth : (sign : Sign) (x : Item Named) (r : Record S Named) → length (comes m sign x r).done + length (back_by m sign x r) ≡ length r.done
  come_depth Plus x r = go (has m x r.owed) refl
    where
      go : (b : Bool) → has m x r.owed ≡ b → length (comes m Plus x r).done + length (back_by m Plus x r) ≡ length r.done
      go true e = rw e (omega arith)
      go false e = rw e (later_all x r.done)
  come_depth Minus x r = go (has m x r.pending) (nat_lt 0 (inputs m r.done x.key x.action)) refl refl
    where
      go : (b c : Bool) → has m x r.pending ≡ b → nat_lt 0 (inputs m r.done x.key x.action) ≡ c → length (comes m Minus x r).done + length (back_by m Minus x r) ≡ length r.done
      go true c e f = rw e (omega arith)
      go false true e f = rw (e, f) (until_all x r.done)
      go false false e f = rw (e, f) (omega arith)

module _ {P : Type 0} where
  pub depth_put : (cs : List (ComponentView P)) (q : ℕ) (c new : ComponentView P) → slice_get cs q ≡ Some c → depth_of (slice_set cs q new) + length c.history.done ≡ depth_of cs + length new.history.done
  depth_put [] q c new e = absurd (none_some c e)
  depth_put (d ∷ ds) zero c new e =
      let here = one_some d c e in
      let same : length d.history.done ≡ length c.history.done = ap (λ (x : ComponentView P). length x.history.done) here in
      omega (arith, same)
  depth_put (d ∷ ds) (suc q) c new e = let rest = depth_put ds q c new e in omega (arith, rest)

-- where nothing is taken back nothing is posted
pub nothing_posted : (s : System) (i : ℕ) (old new : List Signed) → SameFlightIsSame → IsInOrder old → IsInOrder new → IsPosted Minus (unsent (machine s) i []) old new → new ≡ old
nothing_posted s i old new law before after posted = law s new old after before same
  where
    same : (sign : Sign) (j : ℕ) → in_flight sign j new ≡ in_flight sign j old
    same Plus j = posted.other j
    same Minus j = posted.there j
