use Rattle.std.proofs.Common.{◌<◌, false, ap, ◌∙◌, refl, length, take, drop, rules, arith}
use Rattle.std.specs.Prelude.{Some, None}
use Rattle.boards.specs.declared.parts.Board.{Board}
use Rattle.boards.specs.Sections.{seeing}
use Rattle.boards.proofs.Cutting.{next_section, owners_more}
use Rattle.boards.proofs.Moves.{begins, founds, is_empty, admits}
use Rattle.boards.proofs.parts.Board.new.Goals as goal

pub ruled-requires-clause-rule : goal.ruled-requires-clause-rule
ruled-requires-clause-rule g c = begins g.L.Sectioned.kind_of g.L.Sectioned.sections_of

pub push_as-requires-clause-rule : goal.push_as-requires-clause-rule
push_as-requires-clause-rule g c =
    let kind = g.L.Sectioned.kind_of in
    let sections = g.L.Sectioned.sections_of in
    (founds kind sections _ _ _ _ (ap (λ v. v.is_new) c.in_ok-queue.ensures.3), is_empty kind sections _ _)

pub another-pass-requires-clause-rule : goal.another-pass-requires-clause-rule
another-pass-requires-clause-rule g c = admits g.L.Sectioned.kind_of g.L.Sectioned.sections_of _ _ (ap (λ v. v.is_new) c.loop.invariant.sees)

pub loop-preserved : goal.loop-preserved
loop-preserved g c =
    let i = c.loop.invariant in
    let kind = g.L.Sectioned.kind_of c.args.item in
    let sections = g.L.Sectioned.sections_of c.args.item in
    let board : Board g.row.L.Denot g.row.K.Denot g.row.P.Denot = record { queue = c.in_ok-queue.queue } in
    let a = c.another-pass.ensures in
    let within : c.loop.counter < length sections = let n = c.requires in let m = c.loop-test.true in omega arith in
    let next = next_section sections c.loop.counter within in
    let capacity = c.in_ok-queue.ensures.0 in record {
      count = search rules;
      room = search rules;
      same = refl;
      pass = search rules;
      sees = a.rule.0 ∙ ap (λ v. seeing false v.kind (drop 1 v.own) v.taken) i.sees ∙ ap (λ own. seeing false (Some kind) (drop 1 own) None) next.2;
      owners = owners_more board kind sections c.loop.passes.items _ _ c.loop.counter next.0 c.push_reserved.ensures.items (let n = i.count in let o = c.loop.passes.ok.0 in omega arith) i.owners
          ((a.queue.1, omega arith), ap (λ v. v.kind) a.rule.1 ∙ ap (λ v. v.kind) i.sees, ap (λ v. v.taken) a.rule.1) next.1 (ap (λ v. v.own) a.rule.1 ∙ ap (λ v. take 1 v.own) i.sees ∙ ap (take 1) next.2);
    }
