use Rattle.std.proofs.Common.{rules, arith, ◌≡◌, ◌≤◌, ◌∷◌, length, sym, ap, subst}
use Rattle.std.proofs.lemmas.List.Elements.{All-head, All-tail}
use Rattle.std.specs.Vec.Iter.{into_iter_items}
use Rattle.hunt.specs.declared.find.Taken.{Taken}
use Rattle.hunt.specs.Hunts.{AreTaken, IsPart}
use Rattle.hunt.proofs.sharing.gathered.Goals as goal

pub returns-then-not-follows : goal.returns-then-not-follows
returns-then-not-follows c h are = c.ended.ensures h c.args.from (c.loop-taken.invariant.part h (subst (AreTaken h) (sym c.into_iter-taken-iterator.ensures.into_iter_gives.0) are))

pub loop-taken-preserved : goal.loop-taken-preserved
loop-taken-preserved c =
    let at = c.loop-taken in
    let taken = c.in-Some.taken in
    let left = into_iter_items c.next.new.self in
    let steps : into_iter_items at.taken-iterator ≡ taken ∷ left = c.in-Some.ensures.steps.0 in
    let short = ap length steps in
    let follows : (taken.from ≡ at.at) × (at.at ≤ taken.end) × (taken.end ≤ c.args.end) = search rules in
    record {
      above = omega (arith, at.invariant.above, follows.1);
      below = follows.2;
      part = λ h are. c.merged-all.ensures h c.args.from at.at taken.end at.invariant.above follows.1 (at.invariant.part h are)
          (subst (λ n. IsPart h n taken.end taken.part) follows.0 (All-head (λ (t : Taken). IsPart h t.from t.end t.part) taken left (subst (AreTaken h) steps (at.invariant.rest h are))));
      rest = λ h are. All-tail (λ (t : Taken). IsPart h t.from t.end t.part) taken left (subst (AreTaken h) steps (at.invariant.rest h are));
      left = omega (arith, short, at.invariant.left, c.in-Some.ensures.steps.1);
    }

pub returns : goal.returns
returns c h are = c.ended-2.ensures h c.args.from (c.loop-taken.invariant.part h (subst (AreTaken h) (sym c.into_iter-taken-iterator.ensures.into_iter_gives.0) are))
