-- The least key that a group has to do.
use Rattle.std.proofs.Common.{◌≡◌, ℕ, ◌≤◌, ◌⊎◌, inl, inr, Bool, true, false, Option, Some, List, refl, ap, sym, subst, ◌∙◌, arith}
use Rattle.std.specs.Prelude.{slice_get}
use Rattle.std.proofs.lemmas.Bool.{eq-eqb, eqb-true}
use Rattle.terms.specs.Datum.{Datum}
use Rattle.terms.specs.Named.{Named}
use Rattle.event_keys.specs.declared.key.Bound.{Bound}
use Rattle.event_keys.specs.declared.message.Sign.{Sign}
use Rattle.event_keys.specs.declared.message.Sign.TheVariants.{Plus, Minus}
use Rattle.event_keys.specs.Ranks.{rank_of_bound}
use Rattle.antimessage.specs.Bags.{least_of as least_of_bag}
use Rattle.antimessage.specs.Order.{IsInOrder}
use Rattle.virtual_time.specs.Bags.{AllFrom, IsSorted}
use Rattle.virtual_time.specs.Entries.{number}
use Rattle.virtual_time.specs.Machine.{Lawful, Machine}
use Rattle.virtual_time.specs.Records.{next_of}
use Rattle.virtual_time.specs.Worlds.{IsPast}
use Rattle.virtual_time.specs.Groups.Leases.{IsFloor}
use Rattle.virtual_time.proofs.Lists.{AllFrom-weaken}
use Rattle.task_seed.specs.declared.setup.Setup.{Setup}
use Rattle.task_seed.specs.declared.turns.Turn.{Turn}
use Rattle.rollback.specs.ComponentView.{ComponentView, machine_of, next_key}
use Rattle.rollback.specs.Flight.{in_flight}
use Rattle.rollback.specs.Laws.{LeastIsGreatest, NoneIsBelowLeast}
use Rattle.rollback.proofs.Lowest.{next_from, next_low, next_most}
use Rattle.groups.specs.Crew.{AreSound}
use Rattle.groups.specs.GroupView.{AreMembers, GroupView, history_of, is_member, key_of_next, lease_of, least_next}
use Rattle.groups.specs.Open.{AllInside}
use Rattle.groups.proofs.Least.{least_end, least_low, least_most}
use Rattle.groups.proofs.Moved.{inside_none, members_in}
use Rattle.groups.proofs.Placed.{history_there, member_at, member_there, own_there}

pub either_key : (r a b : Bound) (m n : ℕ) → (r ≡ a) ⊎ (r ≡ b) → rank_of_bound a ≡ m → rank_of_bound b ≡ n → (rank_of_bound r ≡ m) ⊎ (rank_of_bound r ≡ n)
either_key r a b m n (inl e) x y = inl (ap rank_of_bound e ∙ x)
either_key r a b m n (inr e) x y = inr (ap rank_of_bound e ∙ y)

module _ {T : Type 0} (turn_of : T → ℕ → ℕ → Option Turn) (g : GroupView (Setup T)) (inside : AllInside g.components g.tray) (law : Lawful (machine_of turn_of g.setup)) (sound : AreSound turn_of (members_in g)) (order : IsInOrder g.tray) (low_law : NoneIsBelowLeast) (most_law : LeastIsGreatest) where
  abbrev m : Machine (List Datum) Named
  m = machine_of turn_of g.setup

  abbrev least : ℕ
  least = least_next turn_of g.setup g.components

  abbrev coming : ℕ
  coming = rank_of_bound (least_of_bag g.tray)

  next_is : (c : ComponentView (Setup T)) → c.setup ≡ g.setup → key_of_next turn_of c ≡ next_key m (next_of m c.number c.history)
  next_is c of = ap (λ p. next_key (machine_of turn_of p) (next_of (machine_of turn_of p) c.number c.history)) of

  -- it is a floor
  pub floor_is : (b : ℕ) → b ≤ least → b ≤ coming → (b ≡ least) ⊎ (b ≡ coming) → (group : ℕ → ℕ) → AreMembers group g.number g.components → IsFloor m group g.number b (lease_of m g).part
  floor_is b next came either group mine =
      record {
        end = let end = least_end turn_of g.setup g.components in omega (arith, next, end);
        low = low;
        most = most;
      }
    where
      member : (i : ℕ) → group i ≡ g.number → is_member g.components i ≡ true
      member i e = sym (mine i) ∙ eq-eqb (group i) g.number e

      low : (i : ℕ) → group i ≡ g.number → IsPast m b i ((lease_of m g).part i)
      low i e =
          let at = member_at g.components i (member i e) in
          let c = at.c in
          let of = (own_there g.setup g.base g.components at.place c sound.own at.there).0 in
          let history : history_of m g.components i ≡ c.history = ap (history_of m g.components) (sym at.number) ∙ history_there m sound.place 0 g.components at.place c sound.apart at.there in
          let first = least_low turn_of g.setup g.components at.place c at.there in
          let same = next_is c of in
          let key : next_key m (next_of m i c.history) ≡ key_of_next turn_of c = ap (λ n. next_key m (next_of m n c.history)) (sym at.number) ∙ sym same in
          let turn = next_low m law i c.history in
          let sorted : IsSorted m c.history.pending = subst (λ p. IsSorted (machine_of turn_of p) c.history.pending) of (sound.sorted at.place c at.there) in
          subst (λ r. IsPast m b i (record { base = r.base; first = r.first; done = r.done; pending = r.pending; owed = r.owed; plus = in_flight Plus i g.tray; minus = in_flight Minus i g.tray })) (sym history)
          (record {
            turn = omega (arith, next, first, key, turn);
            pending = AllFrom-weaken b (next_key m (next_of m i c.history)) c.history.pending (omega (arith, next, first, key)) (next_from m law i c.history sorted);
            plus = AllFrom-weaken b coming (in_flight Plus i g.tray) came (low_law Plus i g.tray order);
            minus = AllFrom-weaken b coming (in_flight Minus i g.tray) came (low_law Minus i g.tray order);
          })

      most : (d : ℕ) → d ≤ m.top → ((i : ℕ) → group i ≡ g.number → IsPast m d i ((lease_of m g).part i)) → d ≤ b
      most d end past = go either
        where
          of_member : (q : ℕ) (c : ComponentView (Setup T)) → slice_get g.components q ≡ Some c → group c.number ≡ g.number
          of_member q c there = eqb-true (group c.number) g.number (mine c.number ∙ member_there g.components q c there)

          each : (q : ℕ) (c : ComponentView (Setup T)) → slice_get g.components q ≡ Some c → d ≤ key_of_next turn_of c
          each q c there =
              let of = (own_there g.setup g.base g.components q c sound.own there).0 in
              let p = past c.number (of_member q c there) in
              let history = history_there m sound.place 0 g.components q c sound.apart there in
              let same = next_is c of in
              let high = next_most m law c.number d c.history (subst (λ r. d ≤ m.key c.number (number r.first r.done)) history p.turn) (subst (λ r. AllFrom d r.pending) history p.pending) in
              omega (arith, same, high)

          flying : (sign : Sign) (j : ℕ) → AllFrom d (in_flight sign j g.tray)
          flying sign j = by (is_member g.components j) refl
            where
              by : (x : Bool) → is_member g.components j ≡ x → AllFrom d (in_flight sign j g.tray)
              by true e = signed sign (past j (eqb-true (group j) g.number (mine j ∙ e)))
                where
                  signed : (k : Sign) → IsPast m d j ((lease_of m g).part j) → AllFrom d (in_flight k j g.tray)
                  signed Plus p = p.plus
                  signed Minus p = p.minus
              by false e = subst (AllFrom d) (sym (inside_none g.components g.tray inside sign j e)) tt

          go : (b ≡ least) ⊎ (b ≡ coming) → d ≤ b
          go (inl e) = let high = least_most turn_of g.setup d g.components end each in omega (arith, e, high)
          go (inr e) = let high = most_law d g.tray end flying in omega (arith, e, high)
