use Rattle.std.proofs.Common.{◌≡◌, suc, ◌-◌, [], ◌++◌, length, ℕ, true, refl, arith, sym, ◌∙◌, ap}
use Rattle.raw_events.specs.Marks.{items_of}
use Rattle.raw_events.specs.declared.slot.Slot.{Slot}
use Rattle.raw_events.proofs.Marks.{some_has, join_has, marks_join, items_join, shows_none, append_none, no_items}
use Rattle.raw_events.proofs.line.Line.append.Goals as goal
use Rattle.raw_events.proofs.line.Line.append.Goals.{then-not-self, else-not-self+else-other}

pub invariant_of-self : goal.invariant_of-self
invariant_of-self g c =
    let xs = c.self.inside.strand.items in
    let ys = c.other.inside.strand.items in
    let some = some_has xs (sym c.self.invariant.0 ∙ c.if-not-self.false) in
    let more = some_has ys (sym c.other.invariant.0 ∙ c.if-other.true) in
    let i : ℕ = length xs - 1 in
    let e : suc i ≡ length xs = omega arith in
    let w : Slot g.row.T.Denot = record { item = c.back_mut.result.now.item; more = true } in
    rw c.join.ensures (c.if-not-self.false ∙ sym (join_has xs ys i w more), marks_join xs ys i w e c.self.invariant.1 c.other.invariant.1 (sym c.other.invariant.0 ∙ c.if-other.true) refl)

pub returns-then-other : goal.returns-then-other
returns-then-other g c =
    let xs = c.self.inside.strand.items in
    let ys = c.other.inside.strand.items in
    let w : Slot g.row.T.Denot = record { item = c.back_mut.result.now.item; more = true } in
    ap items_of c.join.ensures ∙ items_join xs ys (length xs - 1) c.back_mut.result.now w c.back_mut.ensures.value refl ∙ (λ j. c.self.view_is j ++ c.other.view_is j)

pub returns : goal.returns
returns g c = elim c.if-not-self.branch [
  | then-not-self w ↦ (w.self-is ∙ w.swap.ensures.x_after) ∙ ap (λ zs. zs ++ c.args.other) (sym (shows_none c.self.inside.strand.items c.self.inside.some c.args.self.now c.self.invariant.0 w.if-not-self.true c.self.view_is))
  | else-not-self+else-other w ↦ w.self-is ∙ sym (append_none c.args.self.now) ∙ ap (λ zs. c.args.self.now ++ zs) (sym (shows_none w.other.inside.strand.items w.other.inside.some c.args.other w.other.invariant.0 w.if-other.false w.other.view_is))
]

pub end-requires : goal.end-requires
end-requires g c =
    let none : c.if-not-self.other ≡ [] = elim c.if-not-self.branch [
      | then-not-self w ↦ w.other-is ∙ w.swap.ensures.y_after ∙ shows_none c.self.inside.strand.items c.self.inside.some c.args.self.now c.self.invariant.0 w.if-not-self.true c.self.view_is
      | else-not-self+else-other w ↦ w.other-is ∙ shows_none w.other.inside.strand.items w.other.inside.some c.args.other w.other.invariant.0 w.if-other.false w.other.view_is
    ] in
    no_items c.other-2.inside.strand.items (c.other-2.view_is ∙ none)
