-- Tests of the elements of a list.
use Rattle.std.proofs.Common.{◌≡◌, ℕ, Bool, true, false, ◌||◌, Some, if◌then◌else◌, bytes_eq, option_map, string_bytes, Vec, List, [], ◌∷◌, map, refl, ap, sym, ◌∙◌}
use Rattle.std.specs.Global.{Global}
use Rattle.std.specs.declared.string.String.{String}
use Rattle.std.specs.List.{find, list_any}
use Rattle.ioa_trees.specs.declared.tree.Entry.{Entry}
use Rattle.ioa_trees.specs.Trees.{PlainEntry}
use Rattle.ioa_trees.specs.Views.{view_entry}
use Rattle.ioa_trees.specs.EntryRules.{agrees, entry_for, has_task}
use Rattle.ioa_entries.specs.TaskNames.{task_names}
use Rattle.ioa_typing.proofs.Items.{any_map}

pub found_is : (t : PlainEntry) (es : List Entry) → option_map view_entry (find (λ e. agrees t (view_entry e)) es) ≡ entry_for t (map view_entry es)
found_is t [] = refl
found_is t (e ∷ es) = go (agrees t (view_entry e)) (found_is t es)
  where
    go : (b : Bool) → option_map view_entry (find (λ d. agrees t (view_entry d)) es) ≡ entry_for t (map view_entry es)
        → option_map view_entry (if b then Some e else find (λ d. agrees t (view_entry d)) es) ≡ (if b then Some (view_entry e) else entry_for t (map view_entry es))
    go true h = refl
    go false h = h

pub task_is : (ts : List (Vec (String Global) Global)) (q : List ℕ) → list_any (λ t. list_any (λ p. bytes_eq q (string_bytes p)) t.items) ts ≡ has_task (task_names ts) q
task_is [] q = refl
task_is (t ∷ ts) q =
    ap (λ b. b || list_any (λ u. list_any (λ p. bytes_eq q (string_bytes p)) u.items) ts) (sym (any_map (bytes_eq q) string_bytes t.items))
    ∙ ap (λ b. list_any (bytes_eq q) (map string_bytes t.items) || b) (task_is ts q)
