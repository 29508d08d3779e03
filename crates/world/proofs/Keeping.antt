-- Steps that keep what is committed, and worlds that are the same as the theory sees them.
use Rattle.std.proofs.Common.{◌≡◌, ℕ, suc, ◌+◌, ◌++◌, ◌≤◌, Some, List, [], ◌∷◌, length, refl, ap, sym, subst, ◌∙◌, arith, length-append}
use Rattle.std.proofs.lemmas.List.{length-map}
use Rattle.std.proofs.lemmas.Bool.Decides.{nat_tests}
use Rattle.std.specs.Ordering.{nat_cmp}
use Rattle.std.specs.declared.cmp.Ordering.TheVariants.{Equal}
use Rattle.std.specs.Prelude.{slice_get}
use Rattle.terms.specs.Datum.{Datum}
use Rattle.terms.specs.Named.{Named}
use Rattle.event_keys.specs.declared.message.Sign.{Sign}
use Rattle.event_keys.specs.declared.message.Sign.TheVariants.{Plus, Minus}
use Rattle.event_keys.specs.declared.message.Signed.{Signed}
use Rattle.event_keys.specs.declared.outcome.Turned.{Turned}
use Rattle.event_keys.specs.Ranks.{rank_of_bound}
use Rattle.antimessage.specs.Order.{IsInOrder}
use Rattle.virtual_time.specs.Worlds.{Part, World}
use Rattle.task_seed.specs.Machines.{machine}
use Rattle.task_seed.specs.Turning.{System}
use Rattle.task_seed.specs.Taken.{turn_of}
use Rattle.rollback.specs.Flight.{in_flight}
use Rattle.rollback.specs.ComponentView.{ComponentView}
use Rattle.world.specs.Keeping.{Keeps}
use Rattle.world.specs.Simulation.{IsSimulation, Simulation, part_of, record_or_start, world_of}

pub keeps_same : {P : Type 0} (old new : Simulation P) → new.bound ≡ old.bound → new.committed ≡ old.committed → Keeps old new
keeps_same old new bound committed =
    record {
      rises = subst (λ b. rank_of_bound old.bound ≤ rank_of_bound b) (sym bound) (omega arith);
      bound = λ _. bound;
      committed = ([], committed);
    }

pub keeps_then : {P : Type 0} (old mid new : Simulation P) → Keeps old mid → Keeps mid new → Keeps old new
keeps_then old mid new first second =
    let extra = first.committed.0 in
    let more = second.committed.0 in
    record {
      rises = omega (arith, first.rises, second.rises);
      bound = λ same. second.bound (omega (arith, first.rises, second.rises, same)) ∙ first.bound (omega (arith, first.rises, second.rises, same));
      committed = (more ++ extra, second.committed.1 ∙ ap (λ ts. more ++ ts) first.committed.1 ∙ regroup more extra old.committed);
    }
  where
    regroup : (xs ys zs : List Turned) → xs ++ (ys ++ zs) ≡ (xs ++ ys) ++ zs
    regroup [] ys zs = refl
    regroup (x ∷ xs) ys zs = ap (λ l. x ∷ l) (regroup xs ys zs)

-- whole numbers that are the same compare as equal
pub level : (a b : ℕ) → a ≡ b → nat_cmp a b ≡ Equal
level a b e = grind (arith, nat_tests, e)

none_more : {X : Type 0} (extra : List X) → length extra ≡ 0 → extra ≡ []
none_more [] e = refl
none_more (x ∷ xs) e = absurd (omega (arith, e))

-- lists of one length whose items are the same at each place
same_items : {X : Type 0} (xs ys : List X) → length xs ≡ length ys → ((j : ℕ) (x y : X) → slice_get xs j ≡ Some x → slice_get ys j ≡ Some y → x ≡ y) → xs ≡ ys
same_items [] [] e at = refl
same_items [] (y ∷ ys) e at = absurd (omega (arith, e))
same_items (x ∷ xs) [] e at = absurd (omega (arith, e))
same_items (x ∷ xs) (y ∷ ys) e at = λ v. at 0 x y refl refl v ∷ same_items xs ys (omega (arith, e)) (λ j a b p q. at (suc j) a b p q) v

module _ {P : Type 0} (s : System) (v w : Simulation P) (a : IsSimulation s v) (b : IsSimulation s w) (setup : w.setup ≡ v.setup) (keeps : Keeps v w) (same : world_of (machine s) w ≡ world_of (machine s) v) where
  bound_is : w.bound ≡ v.bound
  bound_is = keeps.bound (ap (λ (x : World (List Datum) Named). x.bound) same)

  committed_is : w.committed ≡ v.committed
  committed_is =
      let extra = keeps.committed.0 in
      let long : length w.committed ≡ length v.committed = sym (length-map w.committed turn_of) ∙ ap length (ap (λ (x : World (List Datum) Named). x.committed) same) ∙ length-map v.committed turn_of in
      let sum : length w.committed ≡ length extra + length v.committed = ap length keeps.committed.1 ∙ length-append extra v.committed in
      keeps.committed.1 ∙ ap (λ ts. ts ++ v.committed) (none_more extra (omega (arith, long, sum)))

  part_is : (j : ℕ) → part_of (record_or_start (machine s) j (slice_get w.components j)) w.flight j ≡ part_of (record_or_start (machine s) j (slice_get v.components j)) v.flight j
  part_is j = ap (λ (x : World (List Datum) Named). x.part j) same

  in_flight_is : (sign : Sign) (j : ℕ) → in_flight sign j w.flight ≡ in_flight sign j v.flight
  in_flight_is Plus j = ap (λ (x : Part (List Datum) Named). x.plus) (part_is j)
  in_flight_is Minus j = ap (λ (x : Part (List Datum) Named). x.minus) (part_is j)

  held_is : (j : ℕ) (c d : ComponentView P) → slice_get w.components j ≡ Some c → slice_get v.components j ≡ Some d → c ≡ d
  held_is j c d at_w at_v =
      let of_w = b.components j c at_w in
      let of_v = a.components j d at_v in
      let number = of_w.number ∙ sym of_v.number in
      let owner = of_w.setup ∙ setup ∙ sym of_v.setup in
      let base = of_w.base ∙ bound_is ∙ sym of_v.base in
      let parts : part_of c.history w.flight j ≡ part_of d.history v.flight j = subst (λ o. part_of (record_or_start (machine s) j o) w.flight j ≡ part_of d.history v.flight j) at_w (subst (λ o. part_of (record_or_start (machine s) j (slice_get w.components j)) w.flight j ≡ part_of (record_or_start (machine s) j o) v.flight j) at_v (part_is j)) in
      λ i. record { setup = owner i; number = number i; base = base i; history = record { base = (parts i).base; first = (parts i).first; done = (parts i).done; pending = (parts i).pending; owed = (parts i).owed } }

  -- they are the same
  pub same_simulation : IsInOrder w.flight → IsInOrder v.flight → ((bag other : List Signed) → IsInOrder bag → IsInOrder other → ((sign : Sign) (j : ℕ) → in_flight sign j bag ≡ in_flight sign j other) → bag ≡ other) → w ≡ v
  same_simulation order_w order_v one =
      let components = same_items w.components v.components (b.many ∙ sym a.many) held_is in
      let flight = one w.flight v.flight order_w order_v in_flight_is in
      λ i. record { setup = setup i; components = components i; flight = flight i; bound = bound_is i; committed = committed_is i }
