-- Lists of names, whatever their order and however often a name stands.
use Rattle.std.proofs.Common.{◌≡◌, Bool, true, false, ◌||◌, bytes_eq, List, [], ◌∷◌, ◌++◌, refl, ap, sym, ◌∙◌}
use Rattle.std.proofs.lemmas.List.Folds.{list_any-append}
use Rattle.std.specs.List.{list_any}
use Rattle.ioa_trees.specs.Trees.{Bytes, Constant, PlainParameter, Typed}
use Rattle.ioa_trees.specs.AutomatonRules.{typed_names}
use Rattle.ioa_check.specs.Sets.{Adds, AreNames}

or_moved : (a b c : Bool) → (a || (b || c)) ≡ ((b || a) || c)
or_moved true true c = refl
or_moved true false c = refl
or_moved false true c = refl
or_moved false false c = refl

pub or_false : (a : Bool) → (a || false) ≡ a
or_false true = refl
or_false false = refl

-- one more name of those that are left
pub one_added : (q r : Bytes) (left after before : List Bytes) (all : Bool) → list_any (bytes_eq r) after ≡ (bytes_eq r q || list_any (bytes_eq r) before) →
    (list_any (bytes_eq r) (q ∷ left) || list_any (bytes_eq r) before) ≡ all → (list_any (bytes_eq r) left || list_any (bytes_eq r) after) ≡ all
one_added q r left after before all added is =
    ap (λ b. list_any (bytes_eq r) left || b) added ∙ or_moved (list_any (bytes_eq r) left) (bytes_eq r q) (list_any (bytes_eq r) before) ∙ is

-- some more
pub some_added : (qs : List Bytes) (r : Bytes) (left after before : List Bytes) (all : Bool) → list_any (bytes_eq r) after ≡ (list_any (bytes_eq r) qs || list_any (bytes_eq r) before) →
    (list_any (bytes_eq r) (qs ++ left) || list_any (bytes_eq r) before) ≡ all → (list_any (bytes_eq r) left || list_any (bytes_eq r) after) ≡ all
some_added qs r left after before all added is =
    ap (λ b. list_any (bytes_eq r) left || b) added
    ∙ or_moved (list_any (bytes_eq r) left) (list_any (bytes_eq r) qs) (list_any (bytes_eq r) before)
    ∙ ap (λ b. b || list_any (bytes_eq r) before) (sym (list_any-append (bytes_eq r) qs left))
    ∙ is

-- what was added stands in front
pub added_front : (after names before : List Bytes) → Adds after names before → AreNames after (names ++ before)
added_front after names before adds = λ q. adds q ∙ sym (list_any-append (bytes_eq q) names before)

pub same_front : (names others before : List Bytes) → AreNames before others → AreNames (names ++ before) (names ++ others)
same_front names others before same = λ q. list_any-append (bytes_eq q) names before ∙ ap (λ b. list_any (bytes_eq q) names || b) (same q) ∙ sym (list_any-append (bytes_eq q) names others)

-- one set after another
pub added_both : (last middle before first second : List Bytes) → Adds middle first before → Adds last second middle → Adds last (first ++ second) before
added_both last middle before first second one two = λ q. two q ∙ some_added first q second middle before (list_any (bytes_eq q) (first ++ second) || list_any (bytes_eq q) before) (one q) refl

pub typed_next : (p : PlainParameter) (ps : List PlainParameter) → typed_names (p ∷ ps) ≡ typed_names (p ∷ []) ++ typed_names ps
typed_next (Constant q) ps = refl
typed_next (Typed d) ps = refl
