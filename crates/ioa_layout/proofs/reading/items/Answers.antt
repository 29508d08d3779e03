use Rattle.std.proofs.Common.{◌≤◌, ◌<◌, ◌+◌, ◌++◌, length, length-drop, drop, sym, ap, subst, arith}
use Rattle.ioa_tokens.specs.Tokens.{placed}
use Rattle.ioa_layout.specs.Ink.{parts_of}
use Rattle.ioa_layout.specs.Fronts.{shown_by}
use Rattle.ioa_layout.specs.Lines.{flags_by, flags_of, is_below}
use Rattle.ioa_layout.proofs.Items.{IsLeft, next_of, all_shown}
use Rattle.ioa_layout.proofs.reading.items.Goals as goal

pub overflow_add-at : goal.overflow_add-at
overflow_add-at c =
    let source = c.args.source.now in
    let tokens = c.args.tokens.now in
    let at = c.loop-at.at in
    let read = c.loop-at.read in
    let len = c.found_at-len.result.1 in
    let count = c.found_at-len.result.2 in
    let small : at < length source = omega arith in
    let next = next_of source c.split_at.result.1.now tokens c.split_at-in-loop-at.result.1.now at read len count (parts_of c.loop-at.items.items) (shown_by c.found_at-len.result.0) (flags_of c.loop-at.items.items) (flags_by c.found_at-len.result.0) (is_below c.loop-at.below) (is_below c.found_at-len.result.3) small
    c.split_at.ensures.back c.split_at-in-loop-at.ensures.back c.loop-at.invariant.left c.found_at-len.ensures.found c.found_at-len.ensures.lines in
    omega (arith, next.fits, c.type_inv.source)

pub loop-at-smaller : goal.loop-at-smaller
loop-at-smaller c =
    let source = c.args.source.now in
    let tokens = c.args.tokens.now in
    let at = c.loop-at.at in
    let read = c.loop-at.read in
    let len = c.found_at-len.result.1 in
    let count = c.found_at-len.result.2 in
    let small : at < length source = omega arith in
    let next = next_of source c.split_at.result.1.now tokens c.split_at-in-loop-at.result.1.now at read len count (parts_of c.loop-at.items.items) (shown_by c.found_at-len.result.0) (flags_of c.loop-at.items.items) (flags_by c.found_at-len.result.0) (is_below c.loop-at.below) (is_below c.found_at-len.result.3) small
    c.split_at.ensures.back c.split_at-in-loop-at.ensures.back c.loop-at.invariant.left c.found_at-len.ensures.found c.found_at-len.ensures.lines in
    omega (arith, next.fits, next.moves)

pub loop-at-preserved : goal.loop-at-preserved
loop-at-preserved c =
    let source = c.args.source.now in
    let tokens = c.args.tokens.now in
    let at = c.loop-at.at in
    let read = c.loop-at.read in
    let len = c.found_at-len.result.1 in
    let count = c.found_at-len.result.2 in
    let small : at < length source = omega arith in
    let next = next_of source c.split_at.result.1.now tokens c.split_at-in-loop-at.result.1.now at read len count (parts_of c.loop-at.items.items) (shown_by c.found_at-len.result.0) (flags_of c.loop-at.items.items) (flags_by c.found_at-len.result.0) (is_below c.loop-at.below) (is_below c.found_at-len.result.3) small
    c.split_at.ensures.back c.split_at-in-loop-at.ensures.back c.loop-at.invariant.left c.found_at-len.ensures.found c.found_at-len.ensures.lines in
    record {
      left = subst (λ fs. IsLeft source (at + len) (placed (drop (read + count) tokens)) (parts_of c.keep.new.items.items) fs (is_below c.found_at-len.result.3)) (sym c.in_ok-keep.ensures.lines)
          (subst (λ ps. IsLeft source (at + len) (placed (drop (read + count) tokens)) ps (flags_of c.loop-at.items.items ++ flags_by c.found_at-len.result.0) (is_below c.found_at-len.result.3))
          (sym c.in_ok-keep.ensures.shown) next.left);
      within = next.fits;
      few = omega (arith, ap length c.split_at-in-loop-at.ensures.back, length-drop read tokens, c.found_at-len.ensures.within);
    }

pub returns : goal.returns
returns c =
    let full : length c.args.source.now ≤ c.loop-at.at = omega arith in
    all_shown c.args.source.now c.loop-at.at (placed (drop c.loop-at.read c.args.tokens.now)) (parts_of c.loop-at.items.items) (flags_of c.loop-at.items.items) (is_below c.loop-at.below) full c.loop-at.invariant.left
