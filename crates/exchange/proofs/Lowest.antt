-- The least key that a lease has to do.
use Rattle.std.proofs.Common.{◌≡◌, ℕ, ◌≤◌, List, [], ◌∷◌, sym, subst, arith}
use Rattle.terms.specs.Datum.{Datum}
use Rattle.terms.specs.Named.{Named}
use Rattle.event_keys.specs.declared.key.Bound.{Bound}
use Rattle.event_keys.specs.declared.message.Sign.TheVariants.{Plus, Minus}
use Rattle.event_keys.specs.declared.message.Signed.{Signed}
use Rattle.event_keys.specs.Ranks.{rank_of_bound}
use Rattle.antimessage.specs.Bags.{least_of as least_of_bag}
use Rattle.antimessage.specs.Counts.{Each}
use Rattle.antimessage.specs.Order.{IsInOrder}
use Rattle.virtual_time.specs.Bags.{AllFrom, IsSorted}
use Rattle.virtual_time.specs.Entries.{Item, number}
use Rattle.virtual_time.specs.Machine.{Lawful}
use Rattle.virtual_time.specs.Records.{Record, next_of}
use Rattle.virtual_time.specs.Exchange.Leases.{IsFloor}
use Rattle.rollback.specs.ComponentView.{next_key}
use Rattle.task_seed.specs.Turning.{System}
use Rattle.task_seed.specs.Machines.{machine}
use Rattle.exchange.specs.LeaseView.{part_of}
use Rattle.exchange.specs.ExchangeView.{earlier}
use Rattle.rollback.proofs.Lowest.{next_from, next_low, next_most}
use Rattle.exchange.proofs.Committing.{each_low, earlier_both, earlier_first, earlier_second, flight_from, flight_to, least_low, low_least}

lower : (a b : ℕ) (xs : List (Item Named)) → b ≤ a → AllFrom a xs → AllFrom b xs
lower a b [] l h = tt
lower a b (x ∷ xs) l h = let k = h.0 in (omega (arith, l, k), lower a b xs l h.1)

-- the least of the next key and of the tray's keys
pub floor_is : (s : System) (law : Lawful (machine s)) (i : ℕ) (r : Record (List Datum) Named) (tray : List Signed) (next : Bound) → IsSorted (machine s) r.pending → IsInOrder tray → Each (λ x. x.message.to ≡ i) tray
    → rank_of_bound next ≡ next_key (machine s) (next_of (machine s) i r) → IsFloor (machine s) i (rank_of_bound (earlier next (least_of_bag tray))) (part_of i r tray)
floor_is s law i r tray next sorted order arrived is =
    let m = machine s in
    let least = least_of_bag tray in
    let b = rank_of_bound (earlier next least) in
    let first = earlier_first next least in
    let second = earlier_second next least in
    let keys = each_low (rank_of_bound least) b tray second (least_low tray order) in
    let to_next : b ≤ next_key m (next_of m i r) = subst (λ n. b ≤ n) is first in
    record {
      low = record {
        turn = let k = next_low m law i r in omega (arith, to_next, k);
        pending = lower (next_key m (next_of m i r)) b r.pending to_next (next_from m law i r sorted);
        plus = flight_from b Plus i tray keys;
        minus = flight_from b Minus i tray keys;
      };
      most = λ d past.
          let bounded = law.bounded i (number r.first r.done) in
          let turn = past.turn in
          earlier_both d next least (subst (λ n. d ≤ n) (sym is) (next_most m law i d r past.turn past.pending))
          (low_least d tray (omega (arith, bounded, turn)) (flight_to d i tray arrived past.plus past.minus));
    }
