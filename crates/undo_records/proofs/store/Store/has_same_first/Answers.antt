use Rattle.std.proofs.Common.{◌≡◌, ◌∷◌, arith, ap, length, map, get_or, ◌∙◌}
use Rattle.undo_records.specs.Changes.{changes_in}
use Rattle.undo_records.proofs.Cells.{firsts, not_as_many, cells_equal, cells_differ, cells_end}
use Rattle.undo_records.proofs.store.Store.has_same_first.Goals as goal

pub returns-then-len : goal.returns-then-len
returns-then-len c =
    not_as_many c.self.inside.current.items c.other.inside.current.items (c.self.inside.newest.items ∷ map changes_in c.self.inside.older.items) (c.other.inside.newest.items ∷ map changes_in c.other.inside.older.items) c.args.self.now c.args.other.now
    (firsts c.self.inside.is_marked c.other.inside.is_marked c.self.inside.newest.items c.other.inside.newest.items (map changes_in c.self.inside.older.items) (map changes_in c.other.inside.older.items) c.self.inside.current.items c.other.inside.current.items c.args.self.now c.args.other.now c.self.invariant.0 c.other.invariant.0 c.self.view_is c.other.view_is)
    (λ (as_many : length c.self.inside.current.items ≡ length c.other.inside.current.items). c.if-len.true (omega (arith, c.self.inside.current.ok.0, c.other.inside.current.ok.0, c.len.ensures, c.len-2.ensures)))

pub returns-then-not-is_same_first : goal.returns-then-not-is_same_first
returns-then-not-is_same_first c =
    let items = c.deref-value-items.ensures.value in
    cells_differ c.self.inside.current.items c.other.inside.current.items (c.self.inside.newest.items ∷ map changes_in c.self.inside.older.items) (c.other.inside.newest.items ∷ map changes_in c.other.inside.older.items) c.args.self.now c.args.other.now c.loop-cell.cell c.value-item.result c.index.result.now
    (firsts c.self.inside.is_marked c.other.inside.is_marked c.self.inside.newest.items c.other.inside.newest.items (map changes_in c.self.inside.older.items) (map changes_in c.other.inside.older.items) c.self.inside.current.items c.other.inside.current.items c.args.self.now c.args.other.now c.self.invariant.0 c.other.invariant.0 c.self.view_is c.other.view_is)
    (record {
      as_many = omega (arith, c.self.inside.current.ok.0, c.other.inside.current.ok.0, c.len.ensures, c.len-2.ensures, c.if-len.false);
      within = omega (arith, ap length items, c.loop-cell-test.true);
      x_is = c.value-item.is ∙ ap (λ xs. get_or xs c.loop-cell.cell c.value-item.result) items;
      y_is = c.index.ensures;
      so_far = c.loop-cell.invariant;
    })
    c.if-not-is_same_first.ensures

pub loop-cell-preserved : goal.loop-cell-preserved
loop-cell-preserved c =
    let items = c.deref-value-items.ensures.value in
    cells_equal c.self.inside.current.items c.other.inside.current.items (c.self.inside.newest.items ∷ map changes_in c.self.inside.older.items) (c.other.inside.newest.items ∷ map changes_in c.other.inside.older.items) c.args.self.now c.args.other.now c.loop-cell.cell c.value-item.result c.index.result.now
    (firsts c.self.inside.is_marked c.other.inside.is_marked c.self.inside.newest.items c.other.inside.newest.items (map changes_in c.self.inside.older.items) (map changes_in c.other.inside.older.items) c.self.inside.current.items c.other.inside.current.items c.args.self.now c.args.other.now c.self.invariant.0 c.other.invariant.0 c.self.view_is c.other.view_is)
    (record {
      as_many = omega (arith, c.self.inside.current.ok.0, c.other.inside.current.ok.0, c.len.ensures, c.len-2.ensures, c.if-len.false);
      within = omega (arith, ap length items, c.loop-cell-test.true);
      x_is = c.value-item.is ∙ ap (λ xs. get_or xs c.loop-cell.cell c.value-item.result) items;
      y_is = c.index.ensures;
      so_far = c.loop-cell.invariant;
    })
    c.if-not-is_same_first.ensures

pub returns : goal.returns
returns c =
    cells_end c.self.inside.current.items c.other.inside.current.items (c.self.inside.newest.items ∷ map changes_in c.self.inside.older.items) (c.other.inside.newest.items ∷ map changes_in c.other.inside.older.items) c.args.self.now c.args.other.now c.loop-cell.cell
    (firsts c.self.inside.is_marked c.other.inside.is_marked c.self.inside.newest.items c.other.inside.newest.items (map changes_in c.self.inside.older.items) (map changes_in c.other.inside.older.items) c.self.inside.current.items c.other.inside.current.items c.args.self.now c.args.other.now c.self.invariant.0 c.other.invariant.0 c.self.view_is c.other.view_is)
    (omega (arith, c.self.inside.current.ok.0, c.other.inside.current.ok.0, c.len.ensures, c.len-2.ensures, c.if-len.false))
    (omega (arith, ap length c.deref-value-items.ensures.value, c.loop-cell-test.false))
    c.loop-cell.invariant
