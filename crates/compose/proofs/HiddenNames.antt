-- Sets of names that grow name by name, and marks of names.
use Rattle.std.proofs.Common.{◌≡◌, ℕ, ◌+◌, ◌<◌, Bool, true, false, ◌||◌, List, [], ◌∷◌, ◌++◌, map, length, take, get_or, string_bytes, bytes_eq, refl, sym, ap, ◌∙◌}
use Rattle.std.specs.Global.{Global}
use Rattle.std.specs.List.{list_any}
use Rattle.std.specs.declared.string.String.{String}
use Rattle.ioa_trees.specs.Trees.{Bytes}
use Rattle.ioa_check.specs.Sets.{AreNames}
use Rattle.compose.specs.Names.{is_among}
use Rattle.compose.proofs.Grown.{map_end, taken}

any_end : (q r : Bytes) (names : List Bytes) → list_any (bytes_eq q) (names ++ r ∷ []) ≡ (bytes_eq q r || list_any (bytes_eq q) names)
any_end q r [] = refl
any_end q r (n ∷ names) = ap (λ b. bytes_eq q n || b) (any_end q r names) ∙ turned (bytes_eq q n) (bytes_eq q r) (list_any (bytes_eq q) names)
  where
    turned : (a b c : Bool) → (a || (b || c)) ≡ (b || (a || c))
    turned true true c = refl
    turned true false c = refl
    turned false true c = refl
    turned false false c = refl

-- one more of a list of names
pub one_more_name : (q : Bytes) (xs : List (String Global)) (i : ℕ) (x : String Global) (before : List Bytes) → x ≡ get_or xs i x → i < length xs
    → list_any (bytes_eq q) before ≡ list_any (bytes_eq q) (map string_bytes (take i xs))
    → (bytes_eq q (string_bytes x) || list_any (bytes_eq q) before) ≡ list_any (bytes_eq q) (map string_bytes (take (i + 1) xs))
one_more_name q xs i x before is low same =
    ap (λ b. bytes_eq q (string_bytes x) || b) same
    ∙ sym (any_end q (string_bytes x) (map string_bytes (take i xs)))
    ∙ ap (list_any (bytes_eq q)) (sym (map_end string_bytes (take i xs) x))
    ∙ ap (λ l. list_any (bytes_eq q) (map string_bytes l)) (sym (taken xs i x is low))

-- what is made of one item is what is made of its text
pub one_more_mark : {A B C : Type 0} (mark : A → C) (text : A → B) (test : B → C) (xs new : List A) (x : A)
    → new ≡ xs ++ x ∷ [] → mark x ≡ test (text x) → map mark xs ≡ map test (map text xs) → map mark new ≡ map test (map text new)
one_more_mark mark text test xs new x pushed is same =
    ap (map mark) pushed ∙ map_end mark xs x ∙ ap (λ l. l ++ mark x ∷ []) same ∙ ap (λ y. map test (map text xs) ++ y ∷ []) is
    ∙ sym (map_end test (map text xs) (text x)) ∙ ap (map test) (sym (map_end text xs x)) ∙ ap (λ l. map test (map text l)) (sym pushed)

-- marks by a set that has these names
pub marks_among : (marks : List Bool) (texts set given names : List Bytes) → AreNames set given → given ≡ names → marks ≡ map (is_among set) texts → marks ≡ map (is_among names) texts
marks_among marks texts set given names are same is = is ∙ (λ i. map (λ q. are q i) texts) ∙ ap (λ l. map (is_among l) texts) same
