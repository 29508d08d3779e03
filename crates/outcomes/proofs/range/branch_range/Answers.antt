use Rattle.std.proofs.Common.{◌∙◌, IfNone, IfSome, ap, length, subst, suc, sym}
use Rattle.conditions.specs.Conditions.{Binds}
use Rattle.terms.specs.Meaning.{value}
use Rattle.terms.specs.Scopes.{scope}
use Rattle.terms.specs.TermTree.{term_tree}
use Rattle.outcomes.specs.Solving.{IsNowhere, IsPlaceOf}
use Rattle.outcomes.proofs.Asked.{bound_outside, bound_sure, off_one}
use Rattle.outcomes.proofs.range.branch_range.Goals as goal

pub returns-in-Some-2-clause-range : goal.returns-in-Some-2-clause-range
returns-in-Some-2-clause-range g c = λ p others below out front is.
    let env = scope c.args.env.now in
    let state = g.C.Cells.values c.args.cells.now in
    let tests = c.args.branch.now.tests.items in
    let binds = subst (Binds (suc c.args.known) tests) c.in-Some.is c.requires.bound in
    let there = subst (λ o. IfSome o (IsPlaceOf (value (term_tree c.in-Some.term) env state) env.formals c.args.param)) c.in-Some-2.is c.in_ok-place-in-Some.ensures.some in
    bound_outside env state c.args.known c.args.param tests c.in-Some.term binds p others (λ v. off_one p c.in-Some-2.place out (there.only p below v)) front is

pub returns-in-None-2-clause-range : goal.returns-in-None-2-clause-range
returns-in-None-2-clause-range g c = λ p others below out front is.
    let env = scope c.args.env.now in
    let state = g.C.Cells.values c.args.cells.now in
    let tests = c.args.branch.now.tests.items in
    let binds = subst (Binds (suc c.args.known) tests) c.in-Some.is c.requires.bound in
    let nowhere = subst (λ o. IfNone o (IsNowhere (value (term_tree c.in-Some.term) env state) env.formals c.args.param)) c.in-None-2.is c.in_ok-place-in-Some.ensures.none in
    bound_outside env state c.args.known c.args.param tests c.in-Some.term binds p others (λ v. nowhere p below v) front is

pub returns-in-Some-2-clause-sure : goal.returns-in-Some-2-clause-sure
returns-in-Some-2-clause-sure g c = λ sure.
    let env = scope c.args.env.now in
    let state = g.C.Cells.values c.args.cells.now in
    let tests = c.args.branch.now.tests.items in
    let binds = subst (Binds (suc c.args.known) tests) c.in-Some.is c.requires.bound in
    let there = subst (λ o. IfSome o (IsPlaceOf (value (term_tree c.in-Some.term) env state) env.formals c.args.param)) c.in-Some-2.is c.in_ok-place-in-Some.ensures.some in
    let one = sym (ap length c.as_slice.ensures.value) ∙ c.is_alone.ensures sure in
    bound_sure env state c.args.known c.args.param tests c.in-Some.term c.in-Some-2.place binds one there.there
