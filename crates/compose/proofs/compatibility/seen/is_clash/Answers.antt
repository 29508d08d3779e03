use Rattle.std.proofs.Common.{◌∙◌, nat_eq, sym}
use Rattle.compose.specs.Standings.{stood, seen_at, Clash}
use Rattle.compose.proofs.ListPairs.{has_none}
use Rattle.compose.proofs.Lookups.{all_suit}
use Rattle.compose.proofs.compatibility.seen.is_clash.Goals as goal

pub returns-then-suits_all-clause-none : goal.returns-then-suits_all-clause-none
returns-then-suits_all-clause-none c none h =
    let s = stood c.args.standing.now in
    has_none (λ a. Clash c.args.rule a s) (λ a clash. all_suit c.args.rule (nat_eq a.component s.component) a.entry.kind s.entry.kind (sym c.suits_all.ensures ∙ c.if-suits_all.true) clash.0) (seen_at c.args.seen.now s.entry.name) h
