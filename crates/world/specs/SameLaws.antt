-- Comparing worlds tells exactly whether what is compared is the same.
use Rattle.std.specs.Prelude.{◌≡◌, ◌&&◌, Bool as Truth, true, List}
use Rattle.std.specs.Bool.{Decides}
use Rattle.std.specs.Ordering.{is_eq}
use Rattle.std.specs.Cmp.{IsEquivalence, Equal-is, tied_itself, and_equiv, on_equiv, decided}
use Rattle.std.specs.Cmp.Lexicographic.{pointwise, pointwise_decides, lists_equiv}
use Rattle.std.proofs.Common.{ap, sym, subst, ◌∙◌, rules}
use Rattle.terms.specs.SameTreeLaws.{both_true, both_by}
use Rattle.event_keys.specs.declared.message.Signed.{Signed}
use Rattle.event_keys.specs.declared.outcome.Turned.{Turned}
use Rattle.event_keys.specs.contracts.key.BoundPartialEq.TheImpl as bound_eq
use Rattle.event_keys.specs.contracts.message.SignedPartialEq.TheImpl as signed_eq
use Rattle.event_keys.specs.contracts.message.SignedOrd.TheImpl as signed_ord
use Rattle.event_keys.specs.contracts.message.SignedOrd.TheImpl.Laws.{matches_eq-law as signed_agrees, total-law as signed_total}
use Rattle.event_keys.specs.contracts.outcome.TurnedPartialEq.TheImpl as turned_eq
use Rattle.event_keys.specs.contracts.outcome.TurnedOrd.TheImpl as turned_ord
use Rattle.event_keys.specs.contracts.outcome.TurnedOrd.TheImpl.Laws.{matches_eq-law as turned_agrees, total-law as turned_total}
use Rattle.event_keys.specs.Apart.{signed_apart, turned_apart}
use Rattle.event_keys.specs.Orders.{signed_order, turned_order}
use Rattle.antimessage.specs.Counts.{is_same}
use Rattle.rollback.specs.Same.{same_held}
use Rattle.rollback.specs.SameLaws.{bound_decides, same_held_equiv}
use Rattle.world.specs.Simulation.{Simulation}
use Rattle.world.specs.Same.{same_progress, same_world}

signed_decides : (a b : Signed) → Decides (is_same a b) (a ≡ b)
signed_decides a b =
    let order : signed_ord.ghosts.cmp a b ≡ signed_order a b = search rules in
    let agrees : signed_eq.ghosts.eq a b ≡ is_eq (signed_ord.ghosts.cmp a b) = signed_agrees a b in
    (λ h. signed_apart a b (sym order ∙ (Equal-is (signed_ord.ghosts.cmp a b)).0 (sym agrees ∙ h)), λ e. agrees ∙ ap is_eq (ap (signed_ord.ghosts.cmp a) (sym e) ∙ tied_itself signed_total a))

turned_decides : (a b : Turned) → Decides (turned_eq.ghosts.eq a b) (a ≡ b)
turned_decides a b =
    let order : turned_ord.ghosts.cmp a b ≡ turned_order a b = search rules in
    let agrees : turned_eq.ghosts.eq a b ≡ is_eq (turned_ord.ghosts.cmp a b) = turned_agrees a b in
    (λ h. turned_apart a b (sym order ∙ (Equal-is (turned_ord.ghosts.cmp a b)).0 (sym agrees ∙ h)), λ e. agrees ∙ ap is_eq (ap (turned_ord.ghosts.cmp a) (sym e) ∙ tied_itself turned_total a))

flights_decide : (xs ys : List Signed) → Decides (pointwise is_same xs ys) (xs ≡ ys)
flights_decide = pointwise_decides signed_decides

pub turns_decide : (xs ys : List Turned) → Decides (pointwise turned_eq.ghosts.eq xs ys) (xs ≡ ys)
turns_decide = pointwise_decides turned_decides

progress_equiv : {P : Type 0} → IsEquivalence (same_progress {P = P})
progress_equiv =
    and_equiv (on_equiv (λ w. w.bound) (decided bound_eq.ghosts.eq bound_decides))
    (and_equiv (on_equiv (λ w. w.flight) (decided (pointwise is_same) flights_decide)) (on_equiv (λ w. w.committed) (decided (pointwise turned_eq.ghosts.eq) turns_decide)))

-- the equality of worlds is an equivalence where that of their setups is
pub same_world_equiv : {P : Type 0} {eq : P → P → Truth} → IsEquivalence eq → IsEquivalence (same_world eq)
same_world_equiv laws =
    and_equiv (on_equiv (λ w. w.setup) laws)
    (and_equiv progress_equiv (on_equiv (λ w. w.components) (lists_equiv (same_held_equiv laws))))

module _ {P : Type 0} (eq : P → P → Truth) (a b : Simulation P) where
  -- equal worlds have equal setups and components, and all else is the same
  abbrev pub HasSameParts : Type 0
  HasSameParts = (eq a.setup b.setup ≡ true) × (pointwise (same_held eq) a.components b.components ≡ true) × (a.flight ≡ b.flight) × (a.bound ≡ b.bound) × (a.committed ≡ b.committed)

  pub world_is : same_world eq a b ≡ true → HasSameParts
  world_is h =
      let one = both_true (eq a.setup b.setup) (same_progress a b && pointwise (same_held eq) a.components b.components) h in
      let two = both_true (same_progress a b) (pointwise (same_held eq) a.components b.components) one.1 in
      let three = both_true (bound_eq.ghosts.eq a.bound b.bound) (pointwise is_same a.flight b.flight && pointwise turned_eq.ghosts.eq a.committed b.committed) two.0 in
      let four = both_true (pointwise is_same a.flight b.flight) (pointwise turned_eq.ghosts.eq a.committed b.committed) three.1 in
      (one.0, two.1, (flights_decide a.flight b.flight).0 four.0, (bound_decides a.bound b.bound).0 three.0, (turns_decide a.committed b.committed).0 four.1)

  pub world_from : HasSameParts → same_world eq a b ≡ true
  world_from h =
      both_by _ _ h.0
      (both_by _ _
      (both_by _ _ ((bound_decides a.bound b.bound).1 h.3) (both_by _ _ ((flights_decide a.flight b.flight).1 h.2) ((turns_decide a.committed b.committed).1 h.4)))
      h.1)

-- every world is equal to itself
pub world_itself : {P : Type 0} (eq : P → P → Truth) → IsEquivalence eq → (a b : Simulation P) → a ≡ b → same_world eq a b ≡ true
world_itself eq laws a b e = subst (λ w. same_world eq a w ≡ true) e ((same_world_equiv laws).refl a)
