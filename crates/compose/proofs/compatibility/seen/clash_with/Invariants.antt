use Rattle.std.proofs.Common.{drop, map}
use Rattle.compose.specs.Standings.{stood, Has, Clash}
use Rattle.compose.proofs.compatibility.seen.clash_with.Given as goal

-- one that clashes is among what is left
abbrev pub invariant-loop-other : goal.invariant-loop-other
invariant-loop-other l = Has (λ a. Clash l.rule a (stood l.standing)) (map stood l.earlier) → Has (λ a. Clash l.rule a (stood l.standing)) (map stood (drop l.other-index l.earlier))
