use Rattle.std.proofs.Common.{subst₂, ◌≡◌, ◌==◌, true, Some, sym, ◌∙◌}
use Rattle.std.specs.Cmp.{unsigned_Decides}
use Rattle.groups.specs.declared.window.Window.{Window}
use Rattle.group_exchange.proofs.judging.is_same_window.Goals as goal

as_many : (a b : Window) → (a.turns == b.turns) ≡ true → Some a ≡ Some b
as_many a b h = let same = (unsigned_Decides a.turns b.turns).0 h in λ i. Some (record { turns = same i })

pub returns-in-Some-Some-clause-same : goal.returns-in-Some-Some-clause-same
returns-in-Some-Some-clause-same c told =
    let first = c.in-Some-Some.first in
    let second = c.in-Some-Some.second in
    c.in-Some-Some.is-0 ∙ as_many first second (subst₂ (λ a b. (a == b) ≡ true) c.turns.ensures c.turns-in-Some-Some.ensures told) ∙ sym c.in-Some-Some.is-1
