use Rattle.std.proofs.Common.{◌++◌, ◌∷◌, [], List, length, ap, sym, subst, ◌∙◌}
use Rattle.event_keys.specs.Ranks.{rank}
use Rattle.shares.specs.declared.share.Wait.{Wait}
use Rattle.shares.specs.Waiting.{IsCovered}
use Rattle.shares.proofs.Covered.{covered_more, covered_new, refilled}
use Rattle.shares.proofs.waiting.add_wait.Goals as goal

pub returns-then-raise-clause-kept : goal.returns-then-raise-clause-kept
returns-then-raise-clause-kept c = λ group r was.
    let olds = c.args.waits.now.items in
    let back = refilled olds c.raise.new.waits (c.raise.auto.waits ∙ ap length c.as_mut_slice.ensures.value) in
    subst (λ (ws : List Wait). IsCovered ws group r) (sym back) (c.raise.ensures.kept group r (subst (λ (ws : List Wait). IsCovered ws group r) (sym c.as_mut_slice.ensures.value) was))

pub returns-clause-kept : goal.returns-clause-kept
returns-clause-kept c = λ group r was.
    let olds = c.args.waits.now.items in
    let more : Wait = record { group = c.args.group; last = c.args.last } in
    let back = refilled olds c.raise.new.waits (c.raise.auto.waits ∙ ap length c.as_mut_slice.ensures.value) in
    let is = c.in_ok-push.ensures.ok ∙ ap (λ (ws : List Wait). ws ++ more ∷ []) back in
    subst (λ (ws : List Wait). IsCovered ws group r) (sym is)
    (covered_more c.raise.new.waits more group r (c.raise.ensures.kept group r (subst (λ (ws : List Wait). IsCovered ws group r) (sym c.as_mut_slice.ensures.value) was)))

pub returns-clause-covered : goal.returns-clause-covered
returns-clause-covered c =
    let olds = c.args.waits.now.items in
    let more : Wait = record { group = c.args.group; last = c.args.last } in
    let back = refilled olds c.raise.new.waits (c.raise.auto.waits ∙ ap length c.as_mut_slice.ensures.value) in
    let is = c.in_ok-push.ensures.ok ∙ ap (λ (ws : List Wait). ws ++ more ∷ []) back in
    subst (λ (ws : List Wait). IsCovered ws c.args.group (rank c.args.last)) (sym is) (covered_new c.raise.new.waits more)
