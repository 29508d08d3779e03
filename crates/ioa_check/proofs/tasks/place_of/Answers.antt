use Rattle.std.proofs.Common.{rules, ◌≡◌, ◌+◌, ◌∷◌, false, drop, map, ap, sym, ◌∙◌}
use Rattle.ioa_trees.specs.Views.{view_transition}
use Rattle.ioa_trees.specs.AutomatonRules.{place_of}
use Rattle.ioa_check.specs.AutomatonParts.{is_controlled}
use Rattle.ioa_typing.proofs.Items.{drop_at}
use Rattle.ioa_check.proofs.Turns.{place_later}
use Rattle.ioa_check.proofs.tasks.place_of.Goals as goal

pub loop-place-preserved : goal.loop-place-preserved
loop-place-preserved c =
    let l = c.loop-place in
    let q = c.args.name.now in
    let t = view_transition c.index-transitions-place.result in
    let left = map view_transition (drop (l.place + 1) c.args.transitions.now) in
    let split : map view_transition (drop l.place c.args.transitions.now) ≡ t ∷ left = ap (map view_transition) (drop_at c.args.transitions.now l.place c.index-transitions-place.result c.index-transitions-place.is c.loop-place-test.true) in
    let other : is_controlled t.entry q ≡ false = search rules in
    sym (place_later q l.place t left other) ∙ ap (place_of q l.place) (sym split) ∙ l.invariant
