-- Lists of turns of which all stands before the cursor compare as what stands there.
use Rattle.std.proofs.Common.{◌≡◌, ◌&&◌, Bool, true, false, List, [], reverse, refl, ap, sym, ◌∙◌}
use Rattle.std.proofs.lemmas.List.{reverse-reverse}
use Rattle.std.specs.Bool.{one_answer}
use Rattle.std.specs.Cmp.Lexicographic.{pointwise}
use Rattle.event_keys.specs.declared.outcome.Turned.{Turned}
use Rattle.event_keys.specs.contracts.outcome.TurnedPartialEq.TheImpl as turned_eq
use Rattle.raw_events.specs.Around.{Around}
use Rattle.raw_events.specs.Same.{same_items}
use Rattle.world.specs.SameLaws.{turns_decide}

and_yes : (b : Bool) → (b && true) ≡ b
and_yes true = refl
and_yes false = refl

reversed : (xs ys : List Turned) → pointwise turned_eq.ghosts.eq (reverse xs) (reverse ys) ≡ pointwise turned_eq.ghosts.eq xs ys
reversed xs ys =
    let back = turns_decide (reverse xs) (reverse ys) in
    one_answer _ _ ((λ h. sym (reverse-reverse xs) ∙ ap reverse (back.0 h) ∙ reverse-reverse ys), λ e. back.1 (ap reverse e)) (turns_decide xs ys)

pub before_same : (a b : Around Turned) → a.after ≡ [] → b.after ≡ [] → same_items turned_eq.ghosts.eq a b ≡ pointwise turned_eq.ghosts.eq a.before b.before
before_same a b h k =
    (λ v. reversed a.before b.before v && pointwise turned_eq.ghosts.eq (h v) (k v)) ∙ and_yes (pointwise turned_eq.ghosts.eq a.before b.before)
