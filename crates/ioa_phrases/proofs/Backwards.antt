-- Types, terms and statements are had back from their nodes.
use Rattle.std.proofs.Common.{◌≡◌, ℕ, Bool, true, false, List, [], ◌∷◌, ◌++◌, Some, None, refl, ◌∙◌, ap}
use Rattle.ioa_trees.specs.declared.tree.Signed.{Signed}
use Rattle.ioa_trees.specs.declared.tree.Sign.{Sign}
use Rattle.ioa_trees.specs.declared.tree.Sign.TheVariants as sign
use Rattle.ioa_trees.specs.declared.tree.Relation.{Relation}
use Rattle.ioa_trees.specs.declared.tree.Relation.TheVariants as relation
use Rattle.ioa_trees.specs.declared.tree.Call.TheVariants as call
use Rattle.ioa_trees.specs.declared.tree.EntryKind.{EntryKind}
use Rattle.ioa_trees.specs.declared.tree.EntryKind.TheVariants as kind
use Rattle.ioa_tokens.specs.declared.Word.{Word}
use Rattle.ioa_tokens.specs.declared.Word.TheVariants as w
use Rattle.ioa_tokens.specs.Tokens.{Name, Num, Key}
use Rattle.ioa_trees.specs.Nodes.{Sort, type, statement, choice, elseif_part, else_part, init, term, conjunction, negation, comparison, sum, product, unary, postfix, primary, Node, Leaf, Branch, Nodes, none, more, pack}
use Rattle.ioa_trees.specs.Trees.{Bytes, PlainType, Bools, Ints, Range, Named, SeqOf, ArrayOf, PlainTerm, Number, True, False, Variable, Group, Called, Append, Index, Minus, Product, Sum, Compare, Not, And, Or, PlainTerms, no_term, more_terms, PlainFactor, Times, Modulo, PlainFactors, no_factor, more_factors, PlainAddends, no_addend, more_addends, PlainInit, Empty, Fill, Value, PlainDeclared, PlainStatement, Assign, If, For, PlainStatements, no_statement, more_statements, PlainBranches, no_branch, more_branches}
use Rattle.ioa_trees.specs.Spelling.{key, word_of_sign, word_of_relation, word_of_kind, signed_node, type_node, node, index_nodes, and_nodes, or_nodes, factor_node, factor_nodes, addend_nodes, init_node, statement_node, if_nodes, elseif_nodes, else_nodes, statements_node, statement_nodes, parts}

-- ---- lists

-- what stands behind a sign each, up to a leaf
abbrev behind : {A : Type 0} → (Node → A) → Nodes → List A
behind g (more (Branch s (more k (more n ms))) ns) = g n ∷ behind g ns
behind g _ = []

abbrev pub items : {A : Type 0} → (Node → A) → Nodes → List A
items g none = []
items g (more n ns) = g n ∷ behind g ns

-- a list in a node of its own, where there is one
abbrev pub inside : {A : Type 0} → (Node → A) → Nodes → List A
inside g (more (Branch s (more k ns)) ms) = items g ns
inside g _ = []

pub back_parts : {A : Type 0} (s : Sort) (g : Node → A) (f : A → Node) → ((x : A) → g (f x) ≡ x) → (xs : List A) → behind g (pack (parts s w.Comma f xs)) ≡ xs
back_parts s g f h [] = refl
back_parts s g f h (x ∷ xs) = λ i. h x i ∷ back_parts s g f h xs i

-- up to a sign at the end
pub back_parts_to : {A : Type 0} (s : Sort) (u : Word) (g : Node → A) (f : A → Node) → ((x : A) → g (f x) ≡ x) → (xs : List A)
    → behind g (pack (parts s w.Comma f xs ++ key u ∷ [])) ≡ xs
back_parts_to s u g f h [] = refl
back_parts_to s u g f h (x ∷ xs) = λ i. h x i ∷ back_parts_to s u g f h xs i

abbrev pub name_of : Node → Bytes
name_of (Leaf (Name s)) = s
name_of _ = []

-- ---- words

abbrev sign_of : Word → Sign
sign_of w.Plus = sign.Plus
sign_of _ = sign.Minus

back_sign : (s : Sign) → sign_of (word_of_sign s) ≡ s
back_sign sign.Plus = refl
back_sign sign.Minus = refl

abbrev relation_of : Word → Relation
relation_of w.NotEqual = relation.NotEqual
relation_of w.Less = relation.Less
relation_of w.AtMost = relation.AtMost
relation_of w.Greater = relation.Greater
relation_of w.AtLeast = relation.AtLeast
relation_of _ = relation.Equal

back_relation : (r : Relation) → relation_of (word_of_relation r) ≡ r
back_relation relation.Equal = refl
back_relation relation.NotEqual = refl
back_relation relation.Less = refl
back_relation relation.AtMost = refl
back_relation relation.Greater = refl
back_relation relation.AtLeast = refl

abbrev pub kind_of : Word → EntryKind
kind_of w.Input = kind.Input
kind_of w.Output = kind.Output
kind_of _ = kind.Internal

pub back_kind : (k : EntryKind) → kind_of (word_of_kind k) ≡ k
back_kind kind.Input = refl
back_kind kind.Output = refl
back_kind kind.Internal = refl

-- ---- types

abbrev signed_of : Node → Signed
signed_of (Branch s (more (Leaf (Num n)) ns)) = record { is_negative = false; size = n }
signed_of (Branch s (more k (more (Leaf (Num n)) ns))) = record { is_negative = true; size = n }
signed_of _ = record { is_negative = false; size = 0 }

back_signed : (s : Signed) → signed_of (signed_node s) ≡ s
back_signed s = at_sign s.is_negative s.size
  where
    at_sign : (b : Bool) (n : ℕ) → signed_of (signed_node (record { is_negative = b; size = n })) ≡ record { is_negative = b; size = n }
    at_sign true n = refl
    at_sign false n = refl

abbrev simple_of : Node → PlainType
simple_of (Leaf (Name s)) = Named s
simple_of (Leaf (Key w.Int)) = Ints
simple_of _ = Bools

abbrev pub type_of : Node → PlainType
type_of (Branch type (more n none)) = simple_of n
type_of (Branch type (more m (more d (more n none)))) = Range (signed_of m) (signed_of n)
type_of (Branch type (more (Leaf (Key w.Seq)) (more o (more t (more c (more (Leaf (Num n)) ns)))))) = SeqOf (type_of t) n
type_of (Branch type (more (Leaf (Key w.Array)) (more o (more t (more c (more u ns)))))) = ArrayOf (type_of t) (type_of u)
type_of _ = Bools

pub back_type : (t : PlainType) → type_of (type_node t) ≡ t
back_type Bools = refl
back_type Ints = refl
back_type (Range a b) = λ i. Range (back_signed a i) (back_signed b i)
back_type (Named s) = refl
back_type (SeqOf t n) = λ i. SeqOf (back_type t i) n
back_type (ArrayOf t u) = λ i. ArrayOf (back_type t i) (back_type u i)

-- ---- terms

abbrev mutual
  pub term_of : Node → PlainTerm
  term_of (Branch primary ns) = primary_of ns
  term_of (Branch postfix (more n ns)) = Index (term_of n) (terms_of ns)
  term_of (Branch unary (more k (more n ns))) = Minus (term_of n)
  term_of (Branch product (more n ns)) = Product (term_of n) (factors_of ns)
  term_of (Branch sum (more n ns)) = Sum (term_of n) (addends_of ns)
  term_of (Branch comparison (more n (more (Branch s (more (Leaf (Key v)) (more m ms))) ns))) = Compare (term_of n) (relation_of v) (term_of m)
  term_of (Branch negation (more k (more n ns))) = Not (term_of n)
  term_of (Branch conjunction (more n ns)) = And (term_of n) (terms_of ns)
  term_of (Branch term (more n ns)) = Or (term_of n) (terms_of ns)
  term_of _ = True

  primary_of : Nodes → PlainTerm
  primary_of (more (Leaf (Num n)) ns) = Number n
  primary_of (more (Leaf (Name s)) ns) = Variable s
  primary_of (more (Leaf (Key w.False)) ns) = False
  primary_of (more (Leaf (Key w.Open)) (more n ns)) = Group (term_of n)
  primary_of (more (Leaf (Key w.Head)) (more o (more n ns))) = Called call.Head (term_of n)
  primary_of (more (Leaf (Key w.Tail)) (more o (more n ns))) = Called call.Tail (term_of n)
  primary_of (more (Leaf (Key w.Len)) (more o (more n ns))) = Called call.Len (term_of n)
  primary_of (more (Leaf (Key w.Append)) (more o (more n (more c (more m ns))))) = Append (term_of n) (term_of m)
  primary_of _ = True

  -- each behind a sign
  terms_of : Nodes → PlainTerms
  terms_of (more (Branch s (more k (more n ms))) ns) = more_terms (term_of n) (terms_of ns)
  terms_of _ = no_term

  factor_of : Node → PlainFactor
  factor_of (Branch s (more (Leaf (Key w.Mod)) (more (Leaf (Num n)) ms))) = Modulo n
  factor_of (Branch s (more k (more n ms))) = Times (term_of n)
  factor_of _ = Modulo 0

  factors_of : Nodes → PlainFactors
  factors_of none = no_factor
  factors_of (more n ns) = more_factors (factor_of n) (factors_of ns)

  addends_of : Nodes → PlainAddends
  addends_of (more (Branch s (more (Leaf (Key v)) (more n ms))) ns) = more_addends (sign_of v) (term_of n) (addends_of ns)
  addends_of _ = no_addend

mutual
  pub back_term : (t : PlainTerm) → term_of (node t) ≡ t
  back_term (Number n) = refl
  back_term True = refl
  back_term False = refl
  back_term (Variable s) = refl
  back_term (Group t) = λ i. Group (back_term t i)
  back_term (Called call.Head t) = λ i. Called call.Head (back_term t i)
  back_term (Called call.Tail t) = λ i. Called call.Tail (back_term t i)
  back_term (Called call.Len t) = λ i. Called call.Len (back_term t i)
  back_term (Append t u) = λ i. Append (back_term t i) (back_term u i)
  back_term (Index t us) = λ i. Index (back_term t i) (back_indexes us i)
  back_term (Minus t) = λ i. Minus (back_term t i)
  back_term (Product t fs) = λ i. Product (back_term t i) (back_factors fs i)
  back_term (Sum t ss) = λ i. Sum (back_term t i) (back_addends ss i)
  back_term (Compare t r u) = λ i. Compare (back_term t i) (back_relation r i) (back_term u i)
  back_term (Not t) = λ i. Not (back_term t i)
  back_term (And t us) = λ i. And (back_term t i) (back_ands us i)
  back_term (Or t us) = λ i. Or (back_term t i) (back_ors us i)

  back_indexes : (ts : PlainTerms) → terms_of (index_nodes ts) ≡ ts
  back_indexes no_term = refl
  back_indexes (more_terms t ts) = λ i. more_terms (back_term t i) (back_indexes ts i)

  back_ands : (ts : PlainTerms) → terms_of (and_nodes ts) ≡ ts
  back_ands no_term = refl
  back_ands (more_terms t ts) = λ i. more_terms (back_term t i) (back_ands ts i)

  back_ors : (ts : PlainTerms) → terms_of (or_nodes ts) ≡ ts
  back_ors no_term = refl
  back_ors (more_terms t ts) = λ i. more_terms (back_term t i) (back_ors ts i)

  back_factor : (f : PlainFactor) → factor_of (factor_node f) ≡ f
  back_factor (Times t) = λ i. Times (back_term t i)
  back_factor (Modulo n) = refl

  back_factors : (fs : PlainFactors) → factors_of (factor_nodes fs) ≡ fs
  back_factors no_factor = refl
  back_factors (more_factors f fs) = λ i. more_factors (back_factor f i) (back_factors fs i)

  back_addends : (ss : PlainAddends) → addends_of (addend_nodes ss) ≡ ss
  back_addends no_addend = refl
  back_addends (more_addends s t ss) = λ i. more_addends (back_sign s i) (back_term t i) (back_addends ss i)

abbrev pub init_of : Node → PlainInit
init_of (Leaf t) = Empty
init_of (Branch init (more f (more o (more n ns)))) = Fill (init_of n)
init_of n = Value (term_of n)

pub back_init : (v : PlainInit) → init_of (init_node v) ≡ v
back_init Empty = refl
back_init (Fill v) = λ i. Fill (back_init v i)
back_init (Value t) = at_term t ∙ ap Value (back_term t)
  where
    at_term : (t : PlainTerm) → init_of (node t) ≡ Value (term_of (node t))
    at_term (Number n) = refl
    at_term True = refl
    at_term False = refl
    at_term (Variable s) = refl
    at_term (Group t) = refl
    at_term (Called c t) = refl
    at_term (Append t u) = refl
    at_term (Index t us) = refl
    at_term (Minus t) = refl
    at_term (Product t fs) = refl
    at_term (Sum t ss) = refl
    at_term (Compare t r u) = refl
    at_term (Not t) = refl
    at_term (And t us) = refl
    at_term (Or t us) = refl

-- ---- statements

-- a name, a colon and a type
abbrev pub declared_of : Nodes → PlainDeclared
declared_of (more (Leaf (Name s)) (more c (more t ns))) = record { name = s; of = type_of t }
declared_of _ = record { name = []; of = Bools }

abbrev assigned : Bytes → Nodes → PlainStatement
assigned s (more (Leaf a) (more v ns)) = Assign s None (init_of v)
assigned s (more (Branch p (more o (more n ms))) (more a (more v ns))) = Assign s (Some (term_of n)) (init_of v)
assigned s _ = If no_branch no_statement

abbrev mutual
  statement_of : Node → PlainStatement
  statement_of (Branch statement (more (Leaf (Name s)) ns)) = assigned s ns
  statement_of (Branch statement (more (Leaf (Key w.For)) (more n (more c (more t (more d (more b ns))))))) =
      For (declared_of (more n (more c (more t none)))) (statements_of b)
  statement_of (Branch statement (more k ns)) = If (branches_of ns) (else_of ns)
  statement_of _ = If no_branch no_statement

  branches_of : Nodes → PlainBranches
  branches_of (more (Branch choice (more n (more k (more b ms)))) ns) = more_branches (term_of n) (statements_of b) (branches_of ns)
  branches_of (more (Branch elseif_part (more e (more (Branch s (more n (more k (more b ms)))) ks))) ns) = more_branches (term_of n) (statements_of b) (branches_of ns)
  branches_of _ = no_branch

  else_of : Nodes → PlainStatements
  else_of none = no_statement
  else_of (more (Branch else_part (more k (more b ms))) ns) = statements_of b
  else_of (more n ns) = else_of ns

  pub statements_of : Node → PlainStatements
  statements_of (Branch s (more n ns)) = more_statements (statement_of n) (others_of ns)
  statements_of _ = no_statement

  others_of : Nodes → PlainStatements
  others_of (more (Branch s (more k (more n ms))) ns) = more_statements (statement_of n) (others_of ns)
  others_of _ = no_statement

no_branches : (ss : PlainStatements) → branches_of (else_nodes ss) ≡ no_branch
no_branches no_statement = refl
no_branches (more_statements s ss) = refl

else_behind_others : (bs : PlainBranches) (ns : Nodes) → else_of (elseif_nodes bs ns) ≡ else_of ns
else_behind_others no_branch ns = refl
else_behind_others (more_branches t ss bs) ns = else_behind_others bs ns

else_behind : (bs : PlainBranches) (ns : Nodes) → else_of (if_nodes bs ns) ≡ else_of ns
else_behind no_branch ns = refl
else_behind (more_branches t ss bs) ns = else_behind_others bs ns

mutual
  back_statement : (s : PlainStatement) → statement_of (statement_node s) ≡ s
  back_statement (Assign s None v) = λ i. Assign s None (back_init v i)
  back_statement (Assign s (Some t) v) = λ i. Assign s (Some (back_term t i)) (back_init v i)
  back_statement (If bs ss) = λ i. If (back_branches bs ss i) ((else_behind bs (else_nodes ss) ∙ back_else ss) i)
  back_statement (For d ss) = λ i. For (record { name = d.name; of = back_type d.of i }) (back_statements ss i)

  back_branches : (bs : PlainBranches) (ss : PlainStatements) → branches_of (if_nodes bs (else_nodes ss)) ≡ bs
  back_branches no_branch ss = no_branches ss
  back_branches (more_branches t us bs) ss = λ i. more_branches (back_term t i) (back_statements us i) (back_elseifs bs ss i)

  back_elseifs : (bs : PlainBranches) (ss : PlainStatements) → branches_of (elseif_nodes bs (else_nodes ss)) ≡ bs
  back_elseifs no_branch ss = no_branches ss
  back_elseifs (more_branches t us bs) ss = λ i. more_branches (back_term t i) (back_statements us i) (back_elseifs bs ss i)

  back_else : (ss : PlainStatements) → else_of (else_nodes ss) ≡ ss
  back_else no_statement = refl
  back_else (more_statements s ss) = λ i. more_statements (back_statement s i) (back_others ss i)

  pub back_statements : (ss : PlainStatements) → statements_of (statements_node ss) ≡ ss
  back_statements no_statement = refl
  back_statements (more_statements s ss) = λ i. more_statements (back_statement s i) (back_others ss i)

  back_others : (ss : PlainStatements) → others_of (statement_nodes ss) ≡ ss
  back_others no_statement = refl
  back_others (more_statements s ss) = λ i. more_statements (back_statement s i) (back_others ss i)
