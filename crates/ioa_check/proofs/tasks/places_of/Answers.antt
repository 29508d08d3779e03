use Rattle.std.proofs.Common.{rules, ◌≡◌, ℕ, ◌+◌, ◌∷◌, ◌++◌, [], List, drop, map, string_bytes, ap, sym, ◌∙◌}
use Rattle.ioa_trees.specs.Views.{view_transition}
use Rattle.ioa_trees.specs.AutomatonRules.{place_of}
use Rattle.ioa_typing.proofs.Items.{drop_at}
use Rattle.ioa_check.proofs.Turns.{push_plain}
use Rattle.ioa_check.proofs.tasks.places_of.Goals as goal

pub loop-name-preserved : goal.loop-name-preserved
loop-name-preserved c =
    let l = c.loop-name in
    let f = λ (q : List ℕ). place_of q 0 (map view_transition c.args.transitions.now) in
    let q = string_bytes c.name-item.result in
    let left = map string_bytes (drop (l.name-index + 1) c.args.task.now) in
    let split : map string_bytes (drop l.name-index c.args.task.now) ≡ q ∷ left = ap (map string_bytes) (drop_at c.args.task.now l.name-index c.name-item.result c.name-item.is c.loop-name-test.true) in
    let here : c.place_of.result ≡ f q = search rules in
    let pushed : c.push.new.self.items ≡ l.places.items ++ f q ∷ [] = c.in_ok-push.ensures.items ∙ ap (λ n. l.places.items ++ n ∷ []) here in
    push_plain l.places.items c.push.new.self.items (f q) (map f left) _ pushed (ap (λ xs. l.places.items ++ map f xs) (sym split) ∙ l.invariant)
