use Rattle.std.proofs.Common.{◌≡◌, ◌+◌, ◌<◌, Some, suc, length, refl, sym, subst, ap, ◌∙◌, arith}
use Rattle.std.specs.Prelude.{slice_get, slice_set}
use Rattle.std.proofs.lemmas.List.{length-set}
use Rattle.groups.specs.Crew.{AreSeated}
use Rattle.groups.specs.Dropping.{cut_to}
use Rattle.groups.proofs.Dropped.{AreGivenTo, all_given, cut_end, cut_first, cut_more, cut_there, one_given}
use Rattle.groups.proofs.Seated.{cut_seated, there_within}
use Rattle.groups.proofs.dropping.drop_all.Goals as goal

pub loop-place-preserved : goal.loop-place-preserved
loop-place-preserved g c =
    let t = g.T.Turns.turn_of in
    let b = c.args.bound in
    let l = c.loop-place in
    let cs = c.args.components.now in
    let test = c.loop-place-test.true in
    let long = l.auto.components in
    let within : l.place < length l.components = omega (arith, test, long) in
    let found = there_within l.components l.place within in
    let first : slice_get cs l.place ≡ Some found.0 = sym (cut_there t b l.place cs) ∙ ap (λ xs. slice_get xs l.place) (sym l.invariant.components) ∙ found.1 in
    let one : suc l.place ≡ l.place + 1 = omega arith in
    record {
      components = c.drop_at.ensures.components found.0 found.1 ∙ ap (λ xs. slice_set xs l.place (cut_to t b found.0)) l.invariant.components ∙ cut_more t b l.place cs found.0 first ∙ ap (λ n. cut_first t b n cs) one;
      given = one_given t b l.place cs found.0 l.lists (slice_set l.lists l.place c.drop_at.result) c.drop_at.result first (c.drop_at.ensures.given found.0 found.1) refl (length-set l.lists l.place c.drop_at.result) l.invariant.given;
      seated = λ seats is. subst (λ xs. AreSeated t xs seats) (sym (c.drop_at.ensures.components found.0 found.1)) (cut_seated t l.components l.place found.0 (cut_to t b found.0) seats found.1 (c.drop_at.ensures.next found.0 found.1) refl refl (l.invariant.seated seats is));
    }

pub returns-clause-components : goal.returns-clause-components
returns-clause-components g c =
    let t = g.T.Turns.turn_of in
    let b = c.args.bound in
    let l = c.loop-place in
    let cs = c.args.components.now in
    let past = c.loop-place-test.false in
    let end = l.auto.place-end in
    let place : l.place ≡ length cs = omega (arith, past, end) in
    l.invariant.components ∙ ap (λ n. cut_first t b n cs) place ∙ cut_end t b cs

pub returns-clause-given : goal.returns-clause-given
returns-clause-given g c =
    let t = g.T.Turns.turn_of in
    let b = c.args.bound in
    let l = c.loop-place in
    let cs = c.args.components.now in
    let past = c.loop-place-test.false in
    let end = l.auto.place-end in
    let place : l.place ≡ length cs = omega (arith, past, end) in
    all_given t b cs l.lists (subst (λ n. AreGivenTo t b n cs l.lists) place l.invariant.given)
