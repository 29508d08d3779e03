use Rattle.std.proofs.Common.{rules, ◌≡◌, ◌∷◌, [], arith, refl, true, slice_set, sym, subst, Contains}
use Rattle.std.proofs.lemmas.List.Elements.{Contains-append_left, Contains-append_right}
use Rattle.std.specs.List.{list_any}
use Rattle.std.specs.Bool.{beq}
use lib.Pointwise.{pointwise}
use Rattle.patterns.specs.Patterns.{flags_of, list_at, masks_in}
use Rattle.patterns.proofs.Noted.{mask_found, through, in_map, at_set, kept_more}
use Rattle.patterns.proofs.index.notes.note_mask.Goals as goal

pub returns-then-has_mask-clause-noted : goal.returns-then-has_mask-clause-noted
returns-then-has_mask-clause-noted c =
    let mask = c.in_ok-mask.mask.items in
    let masks = list_at c.args.masks.now.items c.args.name in
    let has : list_any (λ other. pointwise beq other.items mask) masks ≡ true = search rules in
    subst (Contains (masks_in c.args.masks.now.items c.args.name)) c.in_ok-mask.ensures (mask_found mask masks has)

pub returns-clause-kept : goal.returns-clause-kept
returns-clause-kept c n mask has =
    let lists = c.make_room.new.masks.items in
    let old = c.index_mut.result.now in
    let new = c.push.new.self in
    through flags_of (list_at c.args.masks.now.items n) (list_at (slice_set lists c.args.name new) n)
    (λ flags there. kept_more lists c.args.name old new n flags c.in_ok-make_room.ensures.room c.index_mut.ensures.value
    (λ v h. subst (λ xs. Contains xs v) (sym c.in_ok-push.ensures.items) (Contains-append_left old.items (c.in_ok-mask.mask ∷ []) v h))
    (subst (λ xs. Contains xs flags) (sym (c.in_ok-make_room.ensures.same n)) there)) mask has

pub returns-clause-noted : goal.returns-clause-noted
returns-clause-noted c =
    let lists = c.make_room.new.masks.items in
    let mask = c.in_ok-mask.mask in
    let new = c.push.new.self in
    let last = subst (λ xs. Contains xs mask) (sym c.in_ok-push.ensures.items) (Contains-append_right c.index_mut.result.now.items (mask ∷ []) mask (0, omega arith, refl)) in
    let here = subst (λ xs. Contains xs mask) (sym (at_set lists c.args.name new c.in_ok-make_room.ensures.room)) last in
    subst (Contains (masks_in (slice_set lists c.args.name new) c.args.name)) c.in_ok-mask.ensures (in_map flags_of (list_at (slice_set lists c.args.name new) c.args.name) mask here)
