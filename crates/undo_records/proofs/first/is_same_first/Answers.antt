use Rattle.std.proofs.Common.{◌≡◌, ap, length, sym, ◌∙◌}
use Rattle.terms.specs.Datum.{items_of, scalar_of}
use Rattle.undo_records.specs.Places.{IsLike}
use Rattle.undo_records.specs.Traced.{first_value}
use Rattle.undo_records.proofs.Likeness.{like_first}
use Rattle.undo_records.proofs.Sameness.{same_scalar, same_list_scalar, same_other_length, lists_same}
use Rattle.undo_records.proofs.first.is_same_first.Goals as goal
use Rattle.undo_records.proofs.first.is_same_first.Goals.{then-not-is_list-via-then-not-is_list, then-not-is_list-via-else-not-is_list+then-not-is_list-2, then-not-is_list-via-else-not-is_list+else-not-is_list-2+then-items-count}

pub returns-then-not-is_list : goal.returns-then-not-is_list
returns-then-not-is_list c =
    let first = c.first_whole-first.result.now in
    let second = c.first_whole-second.result.now in
    let like_a : IsLike first (first_value c.args.a) = like_first c.args.a first c.first_whole-first.ensures in
    let like_b : IsLike second (first_value c.args.b) = like_first c.args.b second c.first_whole-second.ensures in
    c.eq.ensures
    ∙ elim c.then-not-is_list.branch [
      | then-not-is_list-via-then-not-is_list w ↦
          same_scalar first (first_value c.args.a) second (first_value c.args.b) (scalar_of first) like_a like_b w.if-not-is_list.ensures
      | then-not-is_list-via-else-not-is_list+then-not-is_list-2 w ↦
          same_list_scalar first (first_value c.args.a) second (first_value c.args.b) (scalar_of second) like_a like_b w.if-not-is_list.ensures w.if-not-is_list-2.ensures
      | then-not-is_list-via-else-not-is_list+else-not-is_list-2+then-items-count w ↦
          same_other_length first (first_value c.args.a) second (first_value c.args.b) like_a like_b w.if-not-is_list.ensures w.if-not-is_list-2.ensures
          (λ (as_many : length (items_of first) ≡ length (items_of second)). w.if-items-count.true (ap length w.items.ensures ∙ sym as_many ∙ ap length (sym c.items-count.ensures)))
    ]

pub returns : goal.returns
returns c =
    let first = c.first_whole-first.result.now in
    let second = c.first_whole-second.result.now in
    let like_a : IsLike first (first_value c.args.a) = like_first c.args.a first c.first_whole-first.ensures in
    let like_b : IsLike second (first_value c.args.b) = like_first c.args.b second c.first_whole-second.ensures in
    c.have_same_parts.ensures (like_a.count ∙ ap length (sym c.items-count.ensures)) (like_b.count ∙ ap length (sym c.items.ensures) ∙ c.if-items-count.false)
    ∙ sym (lists_same (first_value c.args.a) (first_value c.args.b) (like_a.list c.if-not-is_list.ensures) (like_b.list c.if-not-is_list-2.ensures))
