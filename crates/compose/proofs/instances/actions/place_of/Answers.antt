use Rattle.std.proofs.Common.{of_calls, rules}
use Rattle.std.proofs.lemmas.Fn.{always_returns_same}
use Rattle.std.specs.Cmp.Lexicographic.{slice_cmp}
use Rattle.std.specs.Ordering.{nat_cmp}
use Rattle.plans.specs.Plans.{text_of}
use Rattle.compose.proofs.Rising.{searched}
use Rattle.compose.proofs.instances.actions.place_of.Goals as goal

pub returns : goal.returns
returns c =
    let facts = c.binary_search_by.ensures in
    let by_text = facts.position (λ a. slice_cmp nat_cmp (text_of a) c.args.name.now) (always_returns_same _ _ _ (λ a r f k. search (rules, of_calls))) in
    searched c.args.actions.now c.args.name.now c.binary_search_by.result c.requires facts.bound by_text
