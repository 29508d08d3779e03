-- In a tree of the grammar no branch is without leaves.
use Rattle.std.proofs.Common.{◌≡◌, ℕ, Bool, true, false, ◌&&◌, List, [], ◌∷◌, ◌++◌, refl, ap, ◌∙◌, cond}
use Rattle.std.proofs.lemmas.Bool.{and_parts, and_from}
use Rattle.ioa_trees.specs.Nodes.{Sort, Node, Leaf, Branch, Nodes, none, more, pack, passes, alone, make}
use Rattle.ioa_trees.specs.Grammar.{Part, token, one, maybe, many, Is, Are, by_token, by_rule, a_source, end, a_token, a_rule, absent, present, no_more, one_more}

abbrev pub some : Nodes → Bool
some none = false
some (more n ns) = true

abbrev mutual
  pub filled : Node → Bool
  filled (Leaf t) = true
  filled (Branch s ns) = some ns && all_filled ns

  pub all_filled : Nodes → Bool
  all_filled none = true
  all_filled (more n ns) = filled n && all_filled ns

make_by : (c : Bool) (s : Sort) (n : Node) (ns : List Node) → filled n ≡ true → all_filled (pack ns) ≡ true → filled (cond c (alone s (n ∷ ns)) (Branch s (pack (n ∷ ns)))) ≡ true
make_by true s n [] h i = h
make_by true s n (m ∷ ns) h i = and_from (filled n) (all_filled (pack (m ∷ ns))) h i
make_by false s n ns h i = and_from (filled n) (all_filled (pack ns)) h i

made : (s : Sort) (n : Node) (ns : List Node) → filled n ≡ true → all_filled (pack ns) ≡ true → filled (make s (n ∷ ns)) ≡ true
made s n ns h i = make_by (passes s) s n ns h i

-- a part that has to stand
abbrev needs : List Part → Bool
needs [] = false
needs (token c i ∷ ps) = true
needs (one s i ∷ ps) = true
needs (maybe s i ∷ ps) = needs ps
needs (many s i ∷ ps) = needs ps

some_stand : (b : Bool) {d : ℕ} {ps : List Part} {ns : List Node} → Are b d ps ns → needs ps ≡ true → some (pack ns) ≡ true
some_stand b end h = cc
some_stand b (a_token fits accepted are) h = refl
some_stand b (a_rule low is are) h = refl
some_stand b (absent are) h = some_stand b are h
some_stand b (present is are) h = refl
some_stand b (no_more are) h = some_stand b are h
some_stand b (one_more is are) h = refl

mutual
  pub is_filled : (b : Bool) {s : Sort} {d : ℕ} {n : Node} → Is b s d n → filled n ≡ true
  is_filled b {s = s} (by_token t ps ns p are e) = ap filled e ∙ made s (Leaf t) ns refl (are_filled b are)
  is_filled b {s = s} (by_rule r ps m ns p is are e) = ap filled e ∙ made s m ns (is_filled b is) (are_filled b are)
  is_filled b (a_source ns are e) = ap filled e ∙ and_from (some (pack ns)) (all_filled (pack ns)) (some_stand b are refl) (are_filled b are)

  pub are_filled : (b : Bool) {d : ℕ} {ps : List Part} {ns : List Node} → Are b d ps ns → all_filled (pack ns) ≡ true
  are_filled b end = refl
  are_filled b (a_token fits accepted are) = are_filled b are
  are_filled b (a_rule {n = n} {ns = ns} low is are) = and_from (filled n) (all_filled (pack ns)) (is_filled b is) (are_filled b are)
  are_filled b (absent are) = are_filled b are
  are_filled b (present {n = n} {ns = ns} is are) = and_from (filled n) (all_filled (pack ns)) (is_filled b is) (are_filled b are)
  are_filled b (no_more are) = are_filled b are
  are_filled b (one_more {n = n} {ns = ns} is are) = and_from (filled n) (all_filled (pack ns)) (is_filled b is) (are_filled b are)

-- ---- parts of a list of nodes

pub split_filled : (ns ms : List Node) → all_filled (pack (ns ++ ms)) ≡ true → (all_filled (pack ns) ≡ true) × (all_filled (pack ms) ≡ true)
split_filled [] ms h = (refl, h)
split_filled (n ∷ ns) ms h =
    let both = and_parts (filled n) (all_filled (pack (ns ++ ms))) h in
    let rest = split_filled ns ms both.1 in
    (and_from (filled n) (all_filled (pack ns)) both.0 rest.0, rest.1)

pub inner_filled : (s : Sort) (ns : Nodes) → filled (Branch s ns) ≡ true → all_filled ns ≡ true
inner_filled s ns h = (and_parts (some ns) (all_filled ns) h).1

pub first_filled : (n : Node) (ns : Nodes) → all_filled (more n ns) ≡ true → (filled n ≡ true) × (all_filled ns ≡ true)
first_filled n ns h = and_parts (filled n) (all_filled ns) h
