use Rattle.std.proofs.Common.{◌≡◌, ◌+◌, ◌++◌, [], ◌∷◌, Option, ap, drop, map, sym, take, ◌∙◌}
use Rattle.compose.specs.TypedStandings.{Stood, differs, first_of, or_this, stood}
use Rattle.compose.proofs.FirstDifferences.{first_more}
use Rattle.compose.proofs.Steps.{drop_at, search_ends, search_on, take_at}
use Rattle.compose.proofs.action_types.search.first_different.Goals as goal

pub returns-then-differs : goal.returns-then-differs
returns-then-differs c =
    let xs = c.args.standings.now in
    let i = c.loop-standing.standing-index in
    let x = c.standing-item.result in
    let before = map stood (take i xs) in
    search_ends before (map stood (drop (i + 1) xs)) (map stood (drop i xs)) (stood x) _
    (ap (map stood) (drop_at xs i x c.standing-item.is c.loop-standing-test.true))
    (ap (λ (o : Option Stood). differs o (stood x)) (sym (c.loop-standing.invariant.seen (stood x).name)) ∙ sym c.differs.ensures ∙ c.if-differs.true)
    c.loop-standing.invariant.left

pub loop-standing-preserved : goal.loop-standing-preserved
loop-standing-preserved c =
    let xs = c.args.standings.now in
    let i = c.loop-standing.standing-index in
    let x = c.standing-item.result in
    let before = map stood (take i xs) in
    let added : map stood (take (i + 1) xs) ≡ before ++ stood x ∷ [] = take_at stood xs i x c.standing-item.is c.loop-standing-test.true in
    record {
      seen = λ q. c.in_ok-keep.ensures q ∙ ap (λ (o : Option Stood). or_this o q (stood x)) (c.loop-standing.invariant.seen q) ∙ sym (first_more q before (stood x)) ∙ ap (first_of q) (sym added);
      left =
          search_on before (map stood (take (i + 1) xs)) (map stood (drop (i + 1) xs)) (map stood (drop i xs)) (stood x) _
          (ap (map stood) (drop_at xs i x c.standing-item.is c.loop-standing-test.true)) added
          (ap (λ (o : Option Stood). differs o (stood x)) (sym (c.loop-standing.invariant.seen (stood x).name)) ∙ sym c.differs.ensures ∙ c.if-differs.false)
          c.loop-standing.invariant.left;
    }
