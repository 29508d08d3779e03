use Rattle.std.proofs.Common.{◌≡◌, ◌≤◌, ◌-◌, [], length, drop, refl, sym, subst, arith, append-nil}
use Rattle.std.proofs.lemmas.List.{drop_all}
use Rattle.ioa_layout.specs.Ink.{part_of, parts_of, piece_of}
use Rattle.ioa_layout.specs.Gaps.{AreGaps}
use Rattle.ioa_layout.specs.Lines.{Stand}
use Rattle.ioa_layout.proofs.outline.set_others.Goals as goal

pub returns-clause-gaps : goal.returns-clause-gaps
returns-clause-gaps c =
    let others = c.args.others.now in
    let at = c.loop-item.item-index in
    let first = c.args.first.now in
    let full : length others ≤ at = omega arith in
    let none : drop at others ≡ [] = drop_all at others full in
    let all = c.loop-item.invariant.gaps [] (subst (λ xs. AreGaps c.loop-item.room (part_of c.loop-item.before) (parts_of xs) []) (sym none) refl) in
    subst (λ gs. AreGaps (100 - length first.text.now) (part_of first) (parts_of others) gs) (append-nil c.loop-item.gaps.items) all

pub returns-clause-lines : goal.returns-clause-lines
returns-clause-lines c =
    let others = c.args.others.now in
    let at = c.loop-item.item-index in
    let first = c.args.first.now in
    let full : length others ≤ at = omega arith in
    let none : drop at others ≡ [] = drop_all at others full in
    let all = c.loop-item.invariant.lines [] (subst (λ xs. Stand (piece_of c.loop-item.before.ink) xs []) (sym none) tt) in
    subst (λ gs. Stand (piece_of first.ink) others gs) (append-nil c.loop-item.gaps.items) all
