use Rattle.std.proofs.Common.{◌∙◌, nat_eq, sym}
use Rattle.compose.specs.Standings.{stood, seen_at, Clash, ClashesAsInput}
use Rattle.compose.proofs.ListPairs.{has_none, has_weaker}
use Rattle.compose.proofs.Lookups.{inputs_suit}
use Rattle.compose.proofs.compatibility.seen.is_clash_with_input.Goals as goal

pub returns-then-suits_inputs-clause-none : goal.returns-then-suits_inputs-clause-none
returns-then-suits_inputs-clause-none c none h =
    let s = stood c.args.standing.now in
    has_none (λ a. ClashesAsInput c.args.rule a s)
    (λ a clash. inputs_suit c.args.rule (nat_eq a.component s.component) a.entry.kind s.entry.kind clash.0 (sym c.suits_inputs.ensures ∙ c.if-suits_inputs.true) clash.1.0) (seen_at c.args.inputs.now s.entry.name) h

pub returns-clause-none : goal.returns-clause-none
returns-clause-none c none h =
    let s = stood c.args.standing.now in
    c.is_clash.ensures.none none (has_weaker (λ a. ClashesAsInput c.args.rule a s) (λ a. Clash c.args.rule a s) (λ a clash. clash.1) (seen_at c.args.inputs.now s.entry.name) h)
