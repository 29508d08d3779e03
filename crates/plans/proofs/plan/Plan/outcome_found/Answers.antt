use Rattle.std.proofs.Common.{◌≡◌, ◌%◌, None, List, OnOk, length, slice_get, rules, refl, subst, sym, ap, ◌∙◌}
use Rattle.std.specs.List.{flat_map}
use Rattle.terms.specs.Named.{Named}
use Rattle.outcomes.specs.Tasks.{made_of}
use Rattle.plans.specs.Plans.{composition}
use Rattle.plans.proofs.Remembered.{kept_memo, known_found, known_whole, noted_memo}
use Rattle.plans.proofs.Tasks.{enabled_same}
use Rattle.plans.proofs.plan.Plan.outcome_found.Goals as goal

pub put_found-requires-clause-founds : goal.put_found-requires-clause-founds
put_found-requires-clause-founds g c =
    known_found (composition c.args.self.now) c.args.ask.component (g.C.Cells.values c.args.cells.now) c.args.ask.task c.in-Some.task c.in-Some.ensures.some c.args.memo.now c.requires.memo c.in-Some-founds_of.founds.now c.in-Some-founds_of.ensures

pub returns-in-Some-founds_of-clause-ok : goal.returns-in-Some-founds_of-clause-ok
returns-in-Some-founds_of-clause-ok g c =
    let same = known_whole (composition c.args.self.now) c.args.ask.component (g.C.Cells.values c.args.cells.now) c.args.ask.task c.in-Some.task c.in-Some.ensures.some c.args.memo.now c.requires.memo c.in-Some-founds_of.founds.now c.in-Some-founds_of.ensures in
    subst (λ (all : List Named). OnOk c.put_found.result (c.put_found.new.found ≡ slice_get all (c.args.ask.choice % length all))) same c.put_found.ensures.ok

pub returns-then-is_none-clause-memo : goal.returns-then-is_none-clause-memo
returns-then-is_none-clause-memo g c =
    let p = composition c.args.self.now in
    let i = c.args.ask.component in
    let state = g.C.Cells.values c.args.cells.now in
    let whole = ap (flat_map (made_of c.in-Some.task)) c.as_slice.ensures ∙ c.in_ok-founds.ensures.made ∙ enabled_same p i c.args.ask.task c.in-Some.task state c.in-Some.ensures.some in
    let none : c.put_found-2.new.found ≡ None = search rules in
    noted_memo p i state c.args.memo.now _ c.requires.memo c.args.ask.task c.args.ask.choice
    (sym none ∙ c.in_ok-put_found.ensures.ok ∙ ap (λ (all : List Named). slice_get all (c.args.ask.choice % length all)) whole) refl c.note.ensures

pub returns-else-is_none-clause-memo : goal.returns-else-is_none-clause-memo
returns-else-is_none-clause-memo g c =
    kept_memo (composition c.args.self.now) c.args.ask.component (g.C.Cells.values c.args.cells.now) c.args.ask.task c.in-Some.task c.in-Some.ensures.some c.args.memo.now c.keep.new.self c.requires.memo
    c.in_ok-founds.founds.items c.in_ok-founds.ensures.there c.in_ok-founds.ensures.made c.keep.ensures.resting c.keep.ensures.kept
