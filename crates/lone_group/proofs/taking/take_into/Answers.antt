use Rattle.std.proofs.Common.{◌≡◌, ◌<◌, ◌∷◌, [], Global, Vec, length, length-append, ap, map, ◌∙◌, arith}
use Rattle.lone_group.specs.declared.batch.Slot.{Slot}
use Rattle.std.proofs.lemmas.List.{take-append-le}
use Rattle.lone_group.specs.Lone.{turned, turns_in}
use Rattle.lone_group.proofs.Stepping.{on_ok, put_in}
use Rattle.lone_group.proofs.taking.take_into.Goals as goal
use Rattle.lone_group.proofs.taking.take_into.Goals.{then-used-len+in_ok-push, else-used-len}

pub returns-clause-turn : goal.returns-clause-turn
returns-clause-turn g c =
    let used = c.args.used in
    let olds = c.args.slots.now in
    let slots = c.if-used-len.slots in
    let within = c.requires.within in
    let ok = olds.ok.0 in
    let len = c.len.ensures in
    let room : used < length slots.items = elim c.if-used-len.branch [
      | then-used-len+in_ok-push w ↦
          let is = w.if-used-len.true in
          let long = ap (λ (v : Vec Slot Global). length v.items) w.slots-is ∙ ap length w.in_ok-push.ensures.items ∙ length-append olds.items (w.unused.result ∷ []) in
          omega (arith, is, long, len, ok)
      | else-used-len w ↦
          let other = w.if-used-len.false in
          let same = ap (λ (v : Vec Slot Global). length v.items) w.slots-is in
          omega (arith, other, same, within, len, ok)
    ] in
    let same : turns_in used slots.items ≡ turns_in used olds.items = elim c.if-used-len.branch [
      | then-used-len+in_ok-push w ↦
          ap (λ (v : Vec Slot Global). turns_in used v.items) w.slots-is ∙ ap (turns_in used) w.in_ok-push.ensures.items
          ∙ ap (map turned) (take-append-le used olds.items (w.unused.result ∷ []) (omega (arith, within, ok)))
      | else-used-len w ↦ ap (λ (v : Vec Slot Global). turns_in used v.items) w.slots-is
    ] in
    on_ok c.take.result (λ comes. put_in c.args.due.key c.args.next used olds.items slots.items c.take.new.found room same comes) c.take.ensures.turn
