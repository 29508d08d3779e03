-- The first types of a name, in lists and in maps.
use Rattle.std.proofs.Common.{◌≡◌, ℕ, ◌+◌, ◌<◌, Bool, true, false, Option, Some, None, is_some, if◌then◌else◌, List, [], ◌∷◌, ◌++◌, map, length, take, get_or, string_bytes, bytes_eq, refl, sym, ap, ◌∙◌}
use Rattle.std.proofs.lemmas.Map.Text.{btree_map_updates_text, is_eq-slice_cmp}
use Rattle.std.specs.BTreeMap.{BTreeMap, UpdatesBy, get_by_text, is_at}
use Rattle.std.specs.Cmp.{both_ways}
use Rattle.std.specs.Cmp.Lexicographic.{bytes_decides, slice_cmp}
use Rattle.std.specs.Global.{Global}
use Rattle.std.specs.Map.{lookup}
use Rattle.std.specs.Ordering.{nat_cmp}
use Rattle.std.specs.String.{string_cmp}
use Rattle.std.specs.declared.string.String.{String}
use Rattle.std.specs.declared.vec.Vec.{Vec}
use Rattle.terms.specs.ShapeTree.{ShapeTree, shape_tree}
use Rattle.terms.specs.declared.scalar.Shape.{Shape}
use Rattle.ioa_trees.specs.Trees.{Bytes}
use Rattle.compose.specs.Names.{Signature, first_in}
use Rattle.compose.specs.Tables.{Adds, either_of, entry_signature, table}
use Rattle.compose.proofs.Grown.{map_end, taken}

either_assoc : (a b c : Option (List ShapeTree)) → either_of (either_of a b) c ≡ either_of a (either_of b c)
either_assoc None b c = refl
either_assoc (Some t) b c = refl

pub either_none : (a : Option (List ShapeTree)) → either_of a None ≡ a
either_none None = refl
either_none (Some t) = refl

pub first_append : (xs ys : List Signature) (q : Bytes) → first_in (xs ++ ys) q ≡ either_of (first_in xs q) (first_in ys q)
first_append [] ys q = refl
first_append (x ∷ xs) ys q = pick (bytes_eq q x.name) (first_append xs ys q)
  where
    pick : (b : Bool) → first_in (xs ++ ys) q ≡ either_of (first_in xs q) (first_in ys q) → (if b then Some x.types else first_in (xs ++ ys) q) ≡ either_of (if b then Some x.types else first_in xs q) (first_in ys q)
    pick true others = refl
    pick false others = others

-- added one after the other
pub adds_both : (last middle before xs ys : List Signature) → Adds middle before xs → Adds last middle ys → Adds last before (xs ++ ys)
adds_both last middle before xs ys one two = λ q.
    two q ∙ ap (λ o. either_of o (first_in ys q)) (one q) ∙ either_assoc (first_in before q) (first_in xs q) (first_in ys q) ∙ ap (either_of (first_in before q)) (sym (first_append xs ys q))

pub adds_none : (before : List Signature) → Adds before before []
adds_none before = λ q. sym (either_none (first_in before q))

pub adds_more : {A B : Type 0} (g : B → Signature) (f : A → B) (xs : List A) (i : ℕ) (x : A) (last middle before : List Signature)
    → x ≡ get_or xs i x → i < length xs → Adds middle before (map g (map f (take i xs))) → Adds last middle (g (f x) ∷ []) → Adds last before (map g (map f (take (i + 1) xs)))
adds_more g f xs i x last middle before is low one two = λ q.
    adds_both last middle before (map g (map f (take i xs))) (g (f x) ∷ []) one two q
    ∙ ap (λ l. either_of (first_in before q) (first_in l q)) (sym (map_end g (map f (take i xs)) (f x)) ∙ ap (map g) (sym (map_end f (take i xs) x)) ∙ ap (λ l. map g (map f l)) (sym (taken xs i x is low)))

-- ---- maps

pub swapped : (a b : Bytes) → bytes_eq a b ≡ bytes_eq b a
swapped a b = both_ways (bytes_eq a b) (bytes_eq b a) (λ h. (bytes_decides b a).1 (sym ((bytes_decides a b).0 h))) (λ h. (bytes_decides a b).1 (sym ((bytes_decides b a).0 h)))

abbrev trees_in : Option (Vec Shape Global) → Option (List ShapeTree)
trees_in None = None
trees_in (Some v) = Some (map shape_tree v.items)

first_found : (es : List (String Global × Vec Shape Global)) (q : Bytes) → first_in (map entry_signature es) q ≡ trees_in (lookup (is_at (λ k. slice_cmp nat_cmp q (string_bytes k))) es)
first_found [] q = refl
first_found (e ∷ es) q =
    pick (bytes_eq q (string_bytes e.0)) (first_found es q)
    ∙ ap (λ b. trees_in (if b then Some e.1 else lookup (is_at (λ k. slice_cmp nat_cmp q (string_bytes k))) es)) (sym (is_eq-slice_cmp q (string_bytes e.0)))
  where
    pick : (b : Bool) → first_in (map entry_signature es) q ≡ trees_in (lookup (is_at (λ k. slice_cmp nat_cmp q (string_bytes k))) es)
        → (if b then Some (map shape_tree e.1.items) else first_in (map entry_signature es) q) ≡ trees_in (if b then Some e.1 else lookup (is_at (λ k. slice_cmp nat_cmp q (string_bytes k))) es)
    pick true others = refl
    pick false others = others

pub in_table : (m : BTreeMap (String Global) (Vec Shape Global)) (q : Bytes) → first_in (table m) q ≡ trees_in (get_by_text m q)
in_table m q = first_found m.entries q

-- a name that is there stays with its types
pub noted : (m : BTreeMap (String Global) (Vec Shape Global)) (s : Signature) → is_some (get_by_text m s.name) ≡ true → Adds (table m) (table m) (s ∷ [])
noted m s there = λ q. by q (bytes_eq q s.name) refl
  where
    found : (o : Option (Vec Shape Global)) (others : Option (List ShapeTree)) → is_some o ≡ true → trees_in o ≡ either_of (trees_in o) others
    found None others is = cc
    found (Some v) others is = refl

    by : (q : Bytes) (b : Bool) → bytes_eq q s.name ≡ b → first_in (table m) q ≡ either_of (first_in (table m) q) (if b then Some s.types else None)
    by q false apart = sym (either_none (first_in (table m) q))
    by q true same =
        let named : q ≡ s.name = (bytes_decides q s.name).0 same in
        let has : is_some (get_by_text m q) ≡ true = ap (λ r. is_some (get_by_text m r)) named ∙ there in
        in_table m q ∙ found (get_by_text m q) (Some s.types) has ∙ ap (λ o. either_of o (Some s.types)) (sym (in_table m q))

-- a name that wasn't there comes with its types
pub inserted : (m n : BTreeMap (String Global) (Vec Shape Global)) (k : String Global) (v : Vec Shape Global) (s : Signature)
    → string_bytes k ≡ s.name → map shape_tree v.items ≡ s.types → is_some (get_by_text m s.name) ≡ false → UpdatesBy string_cmp (string_cmp k) m n (Some v) → Adds (table n) (table m) (s ∷ [])
inserted m n k v s key types free updates = λ q. by q (bytes_eq q s.name) refl
  where
    none : (o : Option (Vec Shape Global)) → is_some o ≡ false → o ≡ None
    none None is = refl
    none (Some w) is = cc

    after : (q : Bytes) → get_by_text n q ≡ (if bytes_eq s.name q then Some v else get_by_text m q)
    after q = btree_map_updates_text (string_bytes k) m n (Some v) updates q ∙ ap (λ r. if bytes_eq r q then Some v else get_by_text m q) key

    by : (q : Bytes) (b : Bool) → bytes_eq q s.name ≡ b → first_in (table n) q ≡ either_of (first_in (table m) q) (if b then Some s.types else None)
    by q false apart =
        let turned : bytes_eq s.name q ≡ false = swapped s.name q ∙ apart in
        in_table n q ∙ ap trees_in (after q ∙ ap (λ b. if b then Some v else get_by_text m q) turned) ∙ sym (in_table m q) ∙ sym (either_none (first_in (table m) q))
    by q true same =
        let named : q ≡ s.name = (bytes_decides q s.name).0 same in
        let turned : bytes_eq s.name q ≡ true = ap (λ r. bytes_eq s.name r) named ∙ ap (λ r. bytes_eq r s.name) (sym named) ∙ same in
        let gone : get_by_text m q ≡ None = none (get_by_text m q) (ap (λ r. is_some (get_by_text m r)) named ∙ free) in
        in_table n q ∙ ap trees_in (after q ∙ ap (λ b. if b then Some v else get_by_text m q) turned) ∙ ap Some types
        ∙ sym (ap (λ o. either_of o (Some s.types)) (in_table m q ∙ ap trees_in gone))
