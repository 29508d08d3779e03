use Rattle.std.proofs.Common.{◌+◌, drop, map, subst, refl}
use Rattle.compose.specs.Standings.{stood, Has, Clash}
use Rattle.compose.proofs.Lookups.{has_at, has_rest, left_at}
use Rattle.compose.proofs.compatibility.seen.clash_with.Goals as goal

pub returns-then-clash-clause-some : goal.returns-then-clash-clause-some
returns-then-clash-clause-some c t =
    has_at (λ a. Clash c.args.rule a (stood c.args.standing.now)) c.args.earlier.now c.loop-other.other-index c.other-item.result c.other-item.is c.loop-other-test.true (c.if-clash.ensures.some refl)

pub loop-other-preserved : goal.loop-other-preserved
loop-other-preserved c h =
    has_rest (λ a. Clash c.args.rule a (stood c.args.standing.now)) (stood c.other-item.result) (map stood (drop (c.loop-other.other-index + 1) c.args.earlier.now)) (c.if-clash.ensures.none refl)
    (subst (λ xs. Has (λ a. Clash c.args.rule a (stood c.args.standing.now)) (map stood xs)) (left_at c.args.earlier.now c.loop-other.other-index c.other-item.result c.other-item.is c.loop-other-test.true) (c.loop-other.invariant h))
