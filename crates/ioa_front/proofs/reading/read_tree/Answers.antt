use Rattle.std.proofs.Common.{◌∙◌, length, ap, sym, subst, arith}
use Rattle.ioa_tokens.specs.Cutting.{IsTokens}
use Rattle.ioa_tokens.specs.Layout.{AreProper}
use Rattle.ioa_tokens.specs.Tokens.{placed}
use Rattle.ioa_trees.specs.Spelling.{spell}
use Rattle.ioa_front.specs.Reading.{toks}
use Rattle.ioa_front.specs.Theorem.{IsFound}
use Rattle.ioa_front.proofs.Found.{only, readable, spelled, token_refused, tokens_only, tokens_refused, toks_placed}
use Rattle.ioa_front.proofs.reading.read_tree.Goals as goal

pub returns-then-source-gt-MOST_BYTES-clause-refused : goal.returns-then-source-gt-MOST_BYTES-clause-refused
returns-then-source-gt-MOST_BYTES-clause-refused c = c.if-source-gt-MOST_BYTES.true

pub returns-in_err-found-clause-only : goal.returns-in_err-found-clause-only
returns-in_err-found-clause-only c = λ x p s l.
    tokens_only c.args.source.now x c.from_residual.result c.in_err-found.field-0.0 c.from_residual.ensures.0 c.from_residual.ensures.1 c.in_err-found.ensures.err
    (c.one_reading_law.ensures.apart c.args.source.now) (c.one_reading_law.ensures.ascii c.args.source.now) s

pub returns-in_err-found-clause-refused : goal.returns-in_err-found-clause-refused
returns-in_err-found-clause-refused c =
    tokens_refused c.args.source.now c.from_residual.result c.in_err-found.field-0.0 (omega (arith, c.if-source-gt-MOST_BYTES.false)) c.from_residual.ensures.0 c.from_residual.ensures.1 c.in_err-found.ensures.err

pub returns-clause-spelled : goal.returns-clause-spelled
returns-clause-spelled c =
    let n = length c.args.source.now in
    let ts = c.in_ok-found.found.items in
    let own : IsFound (placed ts) n c.read_found.result = subst (λ z. IsFound (placed z) n c.read_found.result) c.as_slice.ensures.value c.read_found.ensures in
    spelled c.args.source.now (placed ts) n c.read_found.result c.in_ok-found.ensures.ok.0 c.in_ok-found.ensures.ok.1 own

pub returns-clause-readable : goal.returns-clause-readable
returns-clause-readable c =
    let n = length c.args.source.now in
    let ts = c.in_ok-found.found.items in
    let own : IsFound (placed ts) n c.read_found.result = subst (λ z. IsFound (placed z) n c.read_found.result) c.as_slice.ensures.value c.read_found.ensures in
    readable (placed ts) n c.read_found.result (subst (λ z. AreProper z) (sym (toks_placed ts)) c.in_ok-found.ensures.proper) own

pub returns-clause-only : goal.returns-clause-only
returns-clause-only c = λ x p s l.
    let n = length c.args.source.now in
    let ts = c.in_ok-found.found.items in
    let own : IsFound (placed ts) n c.read_found.result = subst (λ z. IsFound (placed z) n c.read_found.result) c.as_slice.ensures.value c.read_found.ensures in
    only (placed ts) n c.read_found.result own x p
    (ap toks (c.one_reading_law.ensures.tokens c.args.source.now (placed ts) s.tokens c.in_ok-found.ensures.ok.1 s.cut) ∙ s.spelled)

pub returns-clause-again : goal.returns-clause-again
returns-clause-again c = λ x p e l.
    let n = length c.args.source.now in
    let ts = c.in_ok-found.found.items in
    let own : IsFound (placed ts) n c.read_found.result = subst (λ z. IsFound (placed z) n c.read_found.result) c.as_slice.ensures.value c.read_found.ensures in
    only (placed ts) n c.read_found.result own x p
    (c.read_back_law.ensures.same (spell x) (placed ts) p.1 (subst (λ z. IsTokens z (placed ts)) e c.in_ok-found.ensures.ok.1))

pub returns-clause-refused : goal.returns-clause-refused
returns-clause-refused c =
    let n = length c.args.source.now in
    let ts = c.in_ok-found.found.items in
    let own : IsFound (placed ts) n c.read_found.result = subst (λ z. IsFound (placed z) n c.read_found.result) c.as_slice.ensures.value c.read_found.ensures in
    token_refused c.args.source.now (placed ts) c.read_found.result (omega (arith, c.if-source-gt-MOST_BYTES.false)) c.in_ok-found.ensures.ok.0 c.in_ok-found.ensures.ok.1 own
