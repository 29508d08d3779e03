use Rattle.std.proofs.Common.{◌-◌, length, refl, ◌∙◌, sym}
use Rattle.raw_events.specs.declared.slot.Slot.{Slot}
use Rattle.raw_events.proofs.Marks.{kept_has, marks_set, last_written, last_item}
use Rattle.raw_events.proofs.line.Line.last_mut.Goals as goal

pub invariant_of-self-lent : goal.invariant_of-self-lent
invariant_of-self-lent g c = λ w.
    let xs = c.self.inside.strand.items in
    let b = c.back_mut-slot.result.now in
    let s : Slot g.row.T.Denot = record { item = w; more = b.more } in
    (c.self.invariant.0 ∙ sym (kept_has xs (length xs - 1) s), marks_set xs (length xs - 1) b s c.self.invariant.1 c.back_mut-slot.ensures.value refl)

pub returns : goal.returns
returns g c =
    let xs = c.self.inside.strand.items in
    let b = c.back_mut-slot.result.now in (
      (refl, λ w. last_written xs c.args.self.now (record { item = w; more = b.more }) c.self.view_is),
      record { writes_back = tt; value = last_item xs c.args.self.now b c.back_mut-slot.ensures.value c.self.view_is },
    )
