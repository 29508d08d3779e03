-- Parts before what follows, one more at a time.
use Rattle.std.proofs.Common.{◌≡◌, Option, Some, None, List, [], ◌∷◌, ◌++◌, map, Vec, Global, refl, ap, sym, ◌∙◌}
use Rattle.terms.specs.EffectTree.{EffectTree, followed, ended, part_tree}
use Rattle.terms.specs.declared.effect.Effect.{Effect}
use Rattle.terms.specs.declared.effect.Part.{Part}
use Rattle.ioa_trees.specs.EffectRules.{branch_of, in_order}
use Rattle.ioa_typing.specs.TermViews.{core_tree}
use Rattle.ioa_entries.specs.EffectLists.{before, choice, led_by, led_on}
use Rattle.ioa_entries.specs.EffectViews.{arm_tree, done_tree}
use Rattle.ioa_entries.specs.declared.effects.Arm.{Arm}

ended_more : (parts : List Part) (part : Part) (rest : EffectTree) → ended (map part_tree (parts ++ part ∷ [])) rest ≡ ended (map part_tree parts) (followed (part_tree part) rest)
ended_more [] part rest = refl
ended_more (other ∷ parts) part rest = ap (followed (part_tree other)) (ended_more parts part rest)

led_more : (parts more : Vec Part Global) (part : Part) (rest : Option EffectTree) → more.items ≡ parts.items ++ part ∷ [] → led_by (Some more) rest ≡ led_by (Some parts) (led_on (Some part) rest)
led_more parts more part None h = refl
led_more parts more part (Some rest) h =
    ap (λ ps. Some (ended (map part_tree ps) rest)) h ∙ ap Some (ended_more parts.items part rest)

pub next_arm : (parts more : Vec Part Global) (part : Part) (arm : Arm) (arms others : List Arm) (all : Option EffectTree → Option EffectTree) → more.items ≡ parts.items ++ part ∷ [] → arms ≡ arm ∷ others → ((rest : Option EffectTree) → led_on (Some part) rest ≡ branch_of (core_tree arm.test) (done_tree arm.body) rest) → ((rest : Option EffectTree) → led_by (Some parts) (choice (map arm_tree arms) rest) ≡ all rest) → (rest : Option EffectTree) → led_by (Some more) (choice (map arm_tree others) rest) ≡ all rest
next_arm parts more part arm arms others all pushed split on whole rest =
    led_more parts more part (choice (map arm_tree others) rest) pushed
    ∙ ap (led_by (Some parts)) (on (choice (map arm_tree others) rest))
    ∙ sym (ap (λ as'. led_by (Some parts) (choice (map arm_tree as') rest)) split)
    ∙ whole rest

pub next_effect : (parts more : Vec Part Global) (part : Part) (effect : Option Effect) (effects others : List (Option Effect)) (all : Option EffectTree → Option EffectTree) → more.items ≡ parts.items ++ part ∷ [] → effects ≡ effect ∷ others → ((rest : Option EffectTree) → led_on (Some part) rest ≡ in_order (done_tree effect) rest) → ((rest : Option EffectTree) → led_by (Some parts) (before (map done_tree effects) rest) ≡ all rest) → (rest : Option EffectTree) → led_by (Some more) (before (map done_tree others) rest) ≡ all rest
next_effect parts more part effect effects others all pushed split on whole rest =
    led_more parts more part (before (map done_tree others) rest) pushed
    ∙ ap (led_by (Some parts)) (on (before (map done_tree others) rest))
    ∙ sym (ap (λ es. led_by (Some parts) (before (map done_tree es) rest)) split)
    ∙ whole rest
