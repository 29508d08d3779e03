use Rattle.std.proofs.Common.{rules, ◌≡◌, ◌∷◌, [], true, false, ◌∙◌, ap, subst, drop, take}
use Rattle.std.specs.Prelude.{slice_index}
use Rattle.ioa_tokens.specs.Bytes.{is_blank}
use Rattle.ioa_tokens.specs.Tokens.{tok_of, placed}
use Rattle.ioa_tokens.specs.Cutting.{Mark}
use Rattle.ioa_layout.specs.Fronts.{IsRest}
use Rattle.ioa_layout.specs.Lines.{is_below}
use Rattle.ioa_layout.proofs.Fronts.{blank_leads, comment_leads, token_shown, blank_ends, comment_ends, comment_flags, token_ends}
use Rattle.ioa_layout.proofs.reading.found_at.Goals as goal

pub returns-then-is_blank-clause-found : goal.returns-then-is_blank-clause-found
returns-then-is_blank-clause-found c = λ p ps rest.
    let blank : is_blank (slice_index c.args.bytes.now 0) ≡ true = search rules in
    let leads = blank_leads c.args.bytes.now c.args.at (placed c.args.left.now) p ps blank rest in
    leads

pub returns-then-first-eq37-clause-found : goal.returns-then-first-eq37-clause-found
returns-then-first-eq37-clause-found c = λ p ps rest.
    let first : slice_index c.args.bytes.now 0 ≡ 37 = search rules in
    let leads = comment_leads c.args.bytes.now c.args.at (placed c.args.left.now) p ps first rest in
    record { len_is = c.line_len.ensures.value ∙ leads.len_is; shown_is = ap (λ x. x ∷ []) c.comment-line.ensures.part ∙ leads.shown_is; left_is = leads.left_is }

pub returns-clause-found : goal.returns-clause-found
returns-clause-found c = λ p ps rest.
    let bytes = c.args.bytes.now in
    let at = c.args.at in
    let token = c.in-Some.token.now in
    let others = c.in-Some.others.now in
    let blank : is_blank (slice_index bytes 0) ≡ false = search rules in
    let first : slice_index bytes 0 ≡ 37 → ⊥ = c.if-first-eq37.false in
    let split : c.args.left.now ≡ token ∷ others = search rules in
    let leads = token_shown bytes at (record { tok = tok_of token.kind; at = token.at }) (placed others) p ps blank first (subst (λ ts. IsRest bytes at ts (p ∷ ps)) (ap placed split) rest) in
    record {
      len_is = c.token_len-len.ensures.value ∙ leads.len_is;
      shown_is = ap (λ x. record { piece = Mark (tok_of token.kind); text = x } ∷ []) (c.split_at.ensures.front ∙ ap (λ n. take n bytes) c.token_len-len.ensures.value) ∙ leads.shown_is;
      left_is = ap (λ ts. placed (drop 1 ts)) split ∙ leads.left_is;
    }

pub returns-then-is_blank-clause-lines : goal.returns-then-is_blank-clause-lines
returns-then-is_blank-clause-lines c = λ p ps rest.
    let blank : is_blank (slice_index c.args.bytes.now 0) ≡ true = search rules in
    blank_ends c.args.bytes.now c.args.at (placed c.args.left.now) p ps (is_below c.args.below) (is_below c.below_after.result) blank rest c.below_after.ensures

pub returns-then-first-eq37-clause-lines : goal.returns-then-first-eq37-clause-lines
returns-then-first-eq37-clause-lines c = λ p ps rest.
    let first : slice_index c.args.bytes.now 0 ≡ 37 = search rules in
    comment_flags c.comment-line.result (is_below c.args.below) p (ap is_below c.comment-line.ensures.below) (ap (λ q. q.piece) c.comment-line.ensures.part) (comment_ends c.args.bytes.now c.args.at (placed c.args.left.now) p ps (is_below c.args.below) first rest)

pub returns-clause-lines : goal.returns-clause-lines
returns-clause-lines c = λ p ps rest.
    let bytes = c.args.bytes.now in
    let blank : is_blank (slice_index bytes 0) ≡ false = search rules in
    let first : slice_index bytes 0 ≡ 37 → ⊥ = c.if-first-eq37.false in
    token_ends bytes c.args.at (placed c.args.left.now) p ps (is_below c.args.below) blank first rest
