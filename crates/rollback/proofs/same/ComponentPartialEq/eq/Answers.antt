use Rattle.std.proofs.Common.{◌≡◌, Bool, nat_eq, ◌&&◌, refl, ◌∙◌}
use Rattle.std.specs.Arc.{arc_value}
use Rattle.event_keys.specs.contracts.key.BoundPartialEq.TheImpl as bound_eq
use Rattle.raw_events.specs.Same.{same_items}
use Rattle.antimessage.specs.Counts.{is_same}
use Rattle.undo_records.specs.First.{same_state}
use Rattle.task_seed.specs.Setups.{system}
use Rattle.task_seed.specs.contracts.setup.SetupPartialEq.TheImpl as setup_eq
use Rattle.rollback.specs.ComponentInvariant.{base_state}
use Rattle.message_balance.specs.Same.{same_done}
use Rattle.rollback.specs.Same.{same_held}
use Rattle.rollback.proofs.Equality.{and_then, and_else, held_same}
use Rattle.rollback.proofs.same.ComponentPartialEq.eq.Goals as goal
use Rattle.rollback.proofs.same.ComponentPartialEq.eq.Goals.{then-eq, else-eq, then-self-other, else-self-other, then-eq-2, else-eq-2, then-self-other-2, else-self-other-2, then-has_same_first, else-has_same_first, then-eq-3, else-eq-3}

pub returns-then-eq-4 : goal.returns-then-eq-4
returns-then-eq-4 g c =
    let f = c.self.inside in
    let o = c.other.inside in
    let same_setup = (setup_eq.ghosts g.row.T g.T.PartialEq setup_eq.no_dict).eq in
    let setups : Bool = same_setup (arc_value f.setup) (arc_value o.setup) in
    let numbers : Bool = nat_eq f.number o.number in
    let bases : Bool = bound_eq.ghosts.eq f.base o.base in
    let firsts : Bool = nat_eq f.first o.first in
    let states : Bool = same_state (base_state f.store) (base_state o.store) in
    let done : Bool = same_items same_done f.done o.done in
    let pending : Bool = same_items is_same f.pending o.pending in
    let one : c.if-eq.value ≡ (setups && numbers) = elim c.if-eq.branch [ then-eq w ↦ and_then _ _ _ _ c.eq.ensures w.if-eq.true (w.value-is) | else-eq w ↦ and_else _ _ _ _ c.eq.ensures w.if-eq.false w.value-is ] in
    let two : c.if-self-other.value ≡ ((setups && numbers) && bases) = elim c.if-self-other.branch [ then-self-other w ↦ and_then _ _ _ _ one w.if-self-other.true (w.value-is ∙ w.eq-then-self-other.ensures) | else-self-other w ↦ and_else _ _ _ _ one w.if-self-other.false w.value-is ] in
    let three : c.if-eq-2.value ≡ (((setups && numbers) && bases) && firsts) = elim c.if-eq-2.branch [ then-eq-2 w ↦ and_then _ _ _ _ two w.if-eq-2.true (w.value-is) | else-eq-2 w ↦ and_else _ _ _ _ two w.if-eq-2.false w.value-is ] in
    let four : c.if-self-other-2.value ≡ ((((setups && numbers) && bases) && firsts) && states) = elim c.if-self-other-2.branch [ then-self-other-2 w ↦ and_then _ _ _ _ three w.if-self-other-2.true (w.value-is ∙ w.has_same_first.ensures) | else-self-other-2 w ↦ and_else _ _ _ _ three w.if-self-other-2.false w.value-is ] in
    let five : c.if-has_same_first.value ≡ (((((setups && numbers) && bases) && firsts) && states) && done) = elim c.if-has_same_first.branch [ then-has_same_first w ↦ and_then _ _ _ _ four w.if-has_same_first.true (w.value-is ∙ w.eq-then-has_same_first.ensures) | else-has_same_first w ↦ and_else _ _ _ _ four w.if-has_same_first.false w.value-is ] in
    let six : c.if-eq-3.value ≡ ((((((setups && numbers) && bases) && firsts) && states) && done) && pending) = elim c.if-eq-3.branch [ then-eq-3 w ↦ and_then _ _ _ _ five w.if-eq-3.true (w.value-is ∙ w.eq-then-eq-3.ensures) | else-eq-3 w ↦ and_else _ _ _ _ five w.if-eq-3.false w.value-is ] in
    and_then _ _ _ _ six c.if-eq-4.true c.eq-then-eq-4.ensures
    ∙ held_same same_setup (arc_value f.setup) (arc_value o.setup) (system g.T.Turns.turn_of (arc_value f.setup)) (system g.T.Turns.turn_of (arc_value o.setup)) f.number o.number f.base o.base f.first o.first f.store o.store f.done o.done f.pending o.pending f.owed o.owed f.coming o.coming c.self.invariant.0 c.other.invariant.0
    ∙ (λ v. same_held same_setup (c.self.view_is v) (c.other.view_is v))

pub returns-else-eq-4 : goal.returns-else-eq-4
returns-else-eq-4 g c =
    let f = c.self.inside in
    let o = c.other.inside in
    let same_setup = (setup_eq.ghosts g.row.T g.T.PartialEq setup_eq.no_dict).eq in
    let setups : Bool = same_setup (arc_value f.setup) (arc_value o.setup) in
    let numbers : Bool = nat_eq f.number o.number in
    let bases : Bool = bound_eq.ghosts.eq f.base o.base in
    let firsts : Bool = nat_eq f.first o.first in
    let states : Bool = same_state (base_state f.store) (base_state o.store) in
    let done : Bool = same_items same_done f.done o.done in
    let pending : Bool = same_items is_same f.pending o.pending in
    let one : c.if-eq.value ≡ (setups && numbers) = elim c.if-eq.branch [ then-eq w ↦ and_then _ _ _ _ c.eq.ensures w.if-eq.true (w.value-is) | else-eq w ↦ and_else _ _ _ _ c.eq.ensures w.if-eq.false w.value-is ] in
    let two : c.if-self-other.value ≡ ((setups && numbers) && bases) = elim c.if-self-other.branch [ then-self-other w ↦ and_then _ _ _ _ one w.if-self-other.true (w.value-is ∙ w.eq-then-self-other.ensures) | else-self-other w ↦ and_else _ _ _ _ one w.if-self-other.false w.value-is ] in
    let three : c.if-eq-2.value ≡ (((setups && numbers) && bases) && firsts) = elim c.if-eq-2.branch [ then-eq-2 w ↦ and_then _ _ _ _ two w.if-eq-2.true (w.value-is) | else-eq-2 w ↦ and_else _ _ _ _ two w.if-eq-2.false w.value-is ] in
    let four : c.if-self-other-2.value ≡ ((((setups && numbers) && bases) && firsts) && states) = elim c.if-self-other-2.branch [ then-self-other-2 w ↦ and_then _ _ _ _ three w.if-self-other-2.true (w.value-is ∙ w.has_same_first.ensures) | else-self-other-2 w ↦ and_else _ _ _ _ three w.if-self-other-2.false w.value-is ] in
    let five : c.if-has_same_first.value ≡ (((((setups && numbers) && bases) && firsts) && states) && done) = elim c.if-has_same_first.branch [ then-has_same_first w ↦ and_then _ _ _ _ four w.if-has_same_first.true (w.value-is ∙ w.eq-then-has_same_first.ensures) | else-has_same_first w ↦ and_else _ _ _ _ four w.if-has_same_first.false w.value-is ] in
    let six : c.if-eq-3.value ≡ ((((((setups && numbers) && bases) && firsts) && states) && done) && pending) = elim c.if-eq-3.branch [ then-eq-3 w ↦ and_then _ _ _ _ five w.if-eq-3.true (w.value-is ∙ w.eq-then-eq-3.ensures) | else-eq-3 w ↦ and_else _ _ _ _ five w.if-eq-3.false w.value-is ] in
    and_else _ _ _ (same_items is_same f.owed o.owed) six c.if-eq-4.false refl
    ∙ held_same same_setup (arc_value f.setup) (arc_value o.setup) (system g.T.Turns.turn_of (arc_value f.setup)) (system g.T.Turns.turn_of (arc_value o.setup)) f.number o.number f.base o.base f.first o.first f.store o.store f.done o.done f.pending o.pending f.owed o.owed f.coming o.coming c.self.invariant.0 c.other.invariant.0
    ∙ (λ v. same_held same_setup (c.self.view_is v) (c.other.view_is v))
