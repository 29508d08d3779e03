-- A map with `String` keys, read as a scope.
use Rattle.std.proofs.Common.{◌≡◌, ℕ, zero, suc, Bool, true, false, Some, cond, List, [], ◌∷◌, map, take, option_map, refl, ap, string_bytes, bytes_eq, arith, ◌∙◌}
use Rattle.std.specs.declared.string.String.{String}
use Rattle.std.specs.Map.{lookup}
use Rattle.std.specs.Option.{is_some}
use Rattle.indexmap.specs.IndexMap.{insert_entry}
use Rattle.std.specs.String.{string_eq}
use Rattle.ioa_typing.specs.declared.meaning.Meaning.{Meaning}
use Rattle.ioa_typing.specs.NameViews.{entry_tree, meaning_tree}
use Rattle.ioa_trees.specs.Scopes.{Scope, named, declare}
use Rattle.ioa_trees.specs.Scopes as plain

pub named_map : {A : Type 0} (q : List ℕ) (es : List (String A × Meaning)) → named q (map entry_tree es) ≡ option_map meaning_tree (lookup (λ k. bytes_eq q (string_bytes k)) es)
named_map q [] = refl
named_map q (e ∷ es) = at_test (bytes_eq q (string_bytes e.0)) (named_map q es)
  where
    at_test : (b : Bool) → named q (map entry_tree es) ≡ option_map meaning_tree (lookup (λ k. bytes_eq q (string_bytes k)) es)
        → cond b (Some (meaning_tree e.1)) (named q (map entry_tree es)) ≡ option_map meaning_tree (cond b (Some e.1) (lookup (λ k. bytes_eq q (string_bytes k)) es))
    at_test true h = refl
    at_test false h = h

pub declare_known : (q : List ℕ) (m : plain.Meaning) (s : Scope) → is_some (named q s) ≡ true → declare q m s ≡ s
declare_known q m [] h = cc
declare_known q m (e ∷ es) h = grind (arith, declare_known q m es)

pub declare_map : {A : Type 0} (k : String A) (m : Meaning) (es : List (String A × Meaning)) → is_some (named (string_bytes k) (map entry_tree es)) ≡ false → map entry_tree (insert_entry string_eq es k m) ≡ declare (string_bytes k) (meaning_tree m) (map entry_tree es)
declare_map k m [] h = refl
declare_map k m (e ∷ es) h = grind (arith, declare_map k m es)

pub inserted : {A : Type 0} (k : String A) (m : Meaning) (es : List (String A × Meaning)) (q : List ℕ) (s : Scope) → string_bytes k ≡ q → map entry_tree es ≡ s → is_some (named q s) ≡ false → map entry_tree (insert_entry string_eq es k m) ≡ declare q (meaning_tree m) s
inserted k m es q s e f h =
    let free : is_some (named (string_bytes k) (map entry_tree es)) ≡ false = cc in
    declare_map k m es free ∙ (cc)

pub ruleset scopes = (named_map, declare_known, declare_map)

pub first_names : {A : Type 0} (n : ℕ) (es : List (String A × Meaning)) → map entry_tree (take n es) ≡ take n (map entry_tree es)
first_names zero es = refl
first_names (suc n) [] = refl
first_names (suc n) (e ∷ es) = ap (λ z. entry_tree e ∷ z) (first_names n es)
