use Rattle.std.proofs.Common.{◌≡◌, suc, ◌-◌, ◌++◌, length, slice_index_or, ℕ, false, refl, arith, sym, ◌∙◌, ap, subst}
use lib.ListN.{length-map}
use Rattle.raw_events.specs.Marks.{IsMarked, items_of}
use Rattle.raw_events.specs.Around.{is_nonempty}
use Rattle.raw_events.specs.declared.slot.Slot.{Slot}
use Rattle.raw_events.proofs.Marks.{has_some, some_has, kept_has, marks_cut, marks_after, front_more, items_set, items_append}
use Rattle.raw_events.proofs.line.Line.take_last.Goals as goal
use Rattle.raw_events.proofs.line.Line.take_last.Goals.{then-more, else-more}

pub invariant_of-self : goal.invariant_of-self
invariant_of-self g c =
    let xs = c.split_last-strand.new.self.items in
    let ls = c.split_last-strand.result.items in
    let s = c.split_last-strand.ensures in
    let m : IsMarked (xs ++ ls) = subst IsMarked s.0 c.self.invariant.1 in
    let f : c.front.result.now.more ≡ is_nonempty xs = front_more xs ls c.front.result.now m s.1 (subst (λ zs. c.front.result.now ≡ slice_index_or zs 0 c.front.result.now) s.0 c.front.ensures) in
    let some = some_has xs (sym f ∙ c.if-more.true) in
    let i : ℕ = length xs - 1 in
    let e : suc i ≡ length xs = omega arith in
    let w : Slot g.row.T.Denot = record { item = c.back_mut.result.now.item; more = false } in
    (f ∙ sym (kept_has xs i w), marks_cut xs ls i w m s.1 e refl)

pub invariant_of-result : goal.invariant_of-result
invariant_of-result g c =
    let xs = c.split_last-strand.new.self.items in
    let ls = c.split_last-strand.result.items in
    let s = c.split_last-strand.ensures in
    let one = s.1 in
    (sym (has_some ls (omega arith)), marks_after xs ls (subst IsMarked s.0 c.self.invariant.1))

pub returns : goal.returns
returns g c =
    let xs = c.split_last-strand.new.self.items in
    let ls = c.split_last-strand.result.items in
    let s = c.split_last-strand.ensures in
    let cut = sym c.self.view_is ∙ ap items_of s.0 ∙ items_append xs ls in
    elim c.if-more.branch [
      | then-more w ↦ (cut ∙ ap (λ zs. zs ++ items_of ls) (sym (items_set xs (length xs - 1) w.back_mut.result.now (record { item = w.back_mut.result.now.item; more = false }) w.back_mut.ensures.value refl) ∙ sym w.self-is), length-map ls (λ t. t.item) ∙ s.1)
      | else-more w ↦ (cut ∙ ap (λ zs. zs ++ items_of ls) (sym w.self-is), length-map ls (λ t. t.item) ∙ s.1)
    ]
