-- A set of `String`s, read as a list of names.
use Rattle.std.proofs.Common.{◌≡◌, ℕ, Bool, true, false, ◌||◌, if◌then◌else◌, List, [], ◌∷◌, ◌++◌, map, refl, ap, string_bytes, bytes_eq, ◌∙◌}
use Rattle.std.specs.declared.string.String.{String}
use Rattle.std.specs.List.{list_any}
use Rattle.std.specs.String.{string_eq}
use Rattle.indexmap.specs.IndexSet.{insert_key}

pub found_in : {A : Type 0} (q : List ℕ) (ks : List (String A)) → list_any (λ k. bytes_eq q (string_bytes k)) ks ≡ list_any (bytes_eq q) (map string_bytes ks)
found_in q [] = refl
found_in q (k ∷ ks) = ap (λ b. bytes_eq q (string_bytes k) || b) (found_in q ks)

any_last : (q r : List ℕ) (ks : List (List ℕ)) → list_any (bytes_eq q) (ks ++ r ∷ []) ≡ (bytes_eq q r || list_any (bytes_eq q) ks)
any_last q r [] = refl
any_last q r (k ∷ ks) = ap (λ b. bytes_eq q k || b) (any_last q r ks) ∙ turn (bytes_eq q k) (bytes_eq q r) (list_any (bytes_eq q) ks)
  where
    turn : (a b c : Bool) → (a || (b || c)) ≡ (b || (a || c))
    turn true true c = refl
    turn true false c = refl
    turn false true c = refl
    turn false false c = refl

map_last : {A : Type 0} (k : String A) (ks : List (String A)) → map string_bytes (ks ++ k ∷ []) ≡ map string_bytes ks ++ string_bytes k ∷ []
map_last k [] = refl
map_last k (j ∷ ks) = ap (λ z. string_bytes j ∷ z) (map_last k ks)

pub inserted_in : {A : Type 0} (k : String A) (ks js : List (String A)) (n q : List ℕ) → string_bytes k ≡ n → list_any (bytes_eq n) (map string_bytes ks) ≡ false → js ≡ insert_key string_eq ks k →
    list_any (bytes_eq q) (map string_bytes js) ≡ (bytes_eq q n || list_any (bytes_eq q) (map string_bytes ks))
inserted_in k ks js n q e free h =
    let absent : list_any (string_eq k) ks ≡ false = found_in (string_bytes k) ks ∙ ap (λ x. list_any (bytes_eq x) (map string_bytes ks)) e ∙ free in
    let put : js ≡ ks ++ k ∷ [] = h ∙ ap (λ b. if b then ks else ks ++ k ∷ []) absent in
    ap (λ xs. list_any (bytes_eq q) (map string_bytes xs)) put ∙ ap (list_any (bytes_eq q)) (map_last k ks) ∙ ap (λ x. list_any (bytes_eq q) (map string_bytes ks ++ x ∷ [])) e ∙ any_last q n (map string_bytes ks)
