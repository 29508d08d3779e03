use Rattle.std.proofs.Common.{rules, ◌≡◌, ◌<◌, ◌+◌, length, drop, None, subst, sym, arith}
use Rattle.ioa_tokens.specs.Tokens.{placed}
use Rattle.ioa_tokens.specs.Finding.{front, found}
use Rattle.ioa_tokens.specs.Seen.{piece_of}
use Rattle.ioa_tokens.proofs.Cuts.{IsCutTo, step, stuck}
use Rattle.ioa_tokens.proofs.reading.cut_source.Goals as goal

pub returns-in_default-front-clause-err : goal.returns-in_default-front-clause-err
returns-in_default-front-clause-err c =
    let at = c.loop-at.at in
    let source = c.args.source.now in
    let small : at < length source = omega arith in
    let none : front (drop at source) ≡ None = search rules in
    (c.in_default.ensures.none, stuck source at (placed c.loop-at.found.items) small c.loop-at.invariant.cut none)

pub loop-at-preserved : goal.loop-at-preserved
loop-at-preserved c =
    let at = c.loop-at.at in
    let source = c.args.source.now in
    let p = piece_of c.in-Some-front.piece in
    let len = c.in-Some-front.len in
    let small : at < length source = omega arith in
    let there : front (drop at source) ≡ found p len = subst (λ x. front x ≡ found p len) c.split_at.ensures.back (sym c.in-Some-front.ensures.value) in
    let within = c.in-Some-front.ensures.within in
    record {
      cut = subst (λ ts. IsCutTo source (at + len) ts) (sym c.in_ok-keep_found.ensures.ok) (step source at (placed c.loop-at.found.items) p len small c.loop-at.invariant.cut there);
      within = omega arith;
    }
