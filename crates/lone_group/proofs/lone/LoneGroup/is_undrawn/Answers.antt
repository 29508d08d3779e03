use Rattle.std.proofs.Common.{ap, arith, ◌∙◌}
use Rattle.lone_group.specs.Lone.{Alone}
use Rattle.lone_group.proofs.Stepping.{some_left}
use Rattle.lone_group.proofs.lone.LoneGroup.is_undrawn.Goals as goal

pub returns-then-self-len : goal.returns-then-self-len
returns-then-self-len g c =
    let l = c.self.inside in
    let len = c.len.ensures in
    let ok = l.due.ok.0 in
    let more = c.if-self-len.true in (
      λ no. search (no),
      λ both. absurd (some_left l.due.items l.at (omega (arith, more, len, ok)) (ap (λ (a : Alone _). a.due) c.self.view_is ∙ both.0)),
    )
