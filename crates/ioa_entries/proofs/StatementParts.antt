-- Parts of statements: their sizes and their faults.
use Rattle.std.proofs.Common.{◌≡◌, ℕ, suc, ◌+◌, Bool, true, false, if◌then◌else◌, Option, Some, List, [], ◌∷◌, ◌++◌, map, take, length, slice_get, bytes_eq, Vec, Global, refl, ap, sym, ◌∙◌, arith, rules}
use Rattle.std.proofs.lemmas.List.{append_assoc}
use Rattle.ioa_trees.specs.declared.tree.Branch.{Branch}
use Rattle.ioa_trees.specs.declared.tree.Declared.{Declared}
use Rattle.ioa_trees.specs.declared.tree.Statement.{Statement, the_lemmas}
use Rattle.ioa_trees.specs.declared.tree.Statement.TheFolds.{fold-roll-Statement}
use Rattle.ioa_trees.specs.declared.tree.Statement.TheOpen as open_statement
use Rattle.ioa_trees.specs.declared.tree.Statement.TheVariants.{rolls-For, rolls-If}
use Rattle.ioa_trees.specs.declared.tree.Statement.TheViews as made
use Rattle.ioa_trees.specs.Trees.{Bytes, PlainDeclared, PlainStatement, PlainStatements, PlainBranches, PlainTerm, For, If, no_statement, more_statements, no_branch, more_branches, pack_branches}
use Rattle.ioa_trees.specs.Views.{branch_step, statement_step, view, view_branch, view_declared, view_statement, view_statements}
use Rattle.ioa_trees.specs.EffectRules.{branches_faults, in_loop, statement_faults, statements_faults}
use Rattle.ioa_trees.specs.Faults.{Fault, keep}
use Rattle.ioa_trees.specs.Scopes.{Scope, Meaning, declare}
use Rattle.ioa_trees.specs.Kinds.{is_truth}
use Rattle.ioa_trees.specs.Sizes.{branches_size, later_size, size, statement_size, statements_size, type_size}
use Rattle.ioa_trees.specs.TermRules.{faults, judge, wants}
use Rattle.ioa_entries.specs.Between.{between}
use Rattle.ioa_entries.specs.StatementParts.{branch_faults, branch_size, rest_size, else_word, end_word, head_faults}
use Rattle.ioa_typing.proofs.Keeps.{keep_append, keep_both, keep_three}
use Rattle.ioa_typing.proofs.Items.{take_all}

pub if_size : (bs : PlainBranches) (ss : PlainStatements) → statement_size (If bs ss) ≡ branches_size bs + else_word ss + statements_size ss + end_word bs
if_size no_branch no_statement = refl
if_size no_branch (more_statements a others) = omega arith
if_size (more_branches t us bs) no_statement = omega arith
if_size (more_branches t us bs) (more_statements a others) = omega arith

pub else_place : (s : Scope) (n at : ℕ) (ss : PlainStatements) → statements_faults s n (at + else_word ss) ss ≡ statements_faults s n (at + 1) ss
else_place s n at no_statement = refl
else_place s n at (more_statements a others) = refl

pub loop_faults : (s : Scope) (n at : ℕ) (d : PlainDeclared) (ss : PlainStatements) →
    head_faults s n at d ++ statements_faults (in_loop s n d) (n + 1) (at + type_size d.of + 4) ss ≡ statement_faults s n at (For d ss)
loop_faults s n at d ss = simp append_assoc refl

-- a name that was declared last is forgotten
pub take_declare : (q : Bytes) (m : Meaning) (s : Scope) → take (length s) (declare q m s) ≡ s
take_declare q m [] = refl
take_declare q m (e ∷ s) = go (bytes_eq q e.0) (take_declare q m s)
  where
    go : (b : Bool) → take (length s) (declare q m s) ≡ s → take (suc (length s)) (if b then e ∷ s else e ∷ declare q m s) ≡ e ∷ s
    go true h = ap (λ ys. e ∷ ys) (take_all s)
    go false h = ap (λ ys. e ∷ ys) h

pub else_is : (xs : List Statement) (x : Statement) → slice_get xs 0 ≡ Some x → 1 ≡ else_word (view_statements xs)
else_is [] x h = cc
else_is (y ∷ xs) x h = refl

pub end_is : (xs : List Branch) (x : Branch) → slice_get xs 0 ≡ Some x → 1 ≡ end_word (pack_branches (map view_branch xs))
end_is [] x h = cc
end_is (y ∷ xs) x h = refl

-- how a `for` and an `if` are seen
pub seen_for : (d : Declared) (b : Vec Statement Global) → view_statement (made.For d b) ≡ For (view_declared d) (view_statements b.items)
seen_for d b = ap view_statement (sym (rolls-For d b)) ∙ fold-roll-Statement PlainStatement (PlainTerm × PlainStatements) statement_step branch_step (open_statement.For d b)

pub seen_if : (bs : Vec Branch Global) (ss : Vec Statement Global) → view_statement (made.If bs ss) ≡ If (pack_branches (map view_branch bs.items)) (view_statements ss.items)
seen_if bs ss = ap view_statement (sym (rolls-If bs ss)) ∙ fold-roll-Statement PlainStatement (PlainTerm × PlainStatements) statement_step branch_step (open_statement.If bs ss)

pub seen_branch : (b : Branch) → view_branch b ≡ (view b.test, view_statements b.body.items)
seen_branch b = search (rules, the_lemmas)

-- the size of what is left is that of its first statement and of those after it
pub rest_sized : (is_first : Bool) (at : ℕ) (a : PlainStatement) (ss : PlainStatements) → at + rest_size is_first (more_statements a ss) ≡ at + between is_first + statement_size a + later_size ss
rest_sized true at a ss = omega arith
rest_sized false at a ss = omega arith

-- the faults of a branch, and of those after it
pub branch_kept : (s : Scope) (n at after : ℕ) (b : PlainTerm × PlainStatements) (bs : PlainBranches) (o p : Option Fault) → p ≡ keep o (branch_faults s n at b) → after ≡ at + branch_size b →
    keep p (branches_faults s n after bs) ≡ keep o (branches_faults s n at (more_branches b.0 b.1 bs))
branch_kept s n at after b bs o p noted place =
    let tail : ℕ → List Fault = λ k. branches_faults s n k bs in
    let here : after ≡ at + size b.0 + statements_size b.1 + 2 = omega (arith, place) in
    let joined : branch_faults s n at b ++ tail (at + size b.0 + statements_size b.1 + 2) ≡ branches_faults s n at (more_branches b.0 b.1 bs) = simp append_assoc refl in
    ap (λ k. keep p (tail k)) here
    ∙ ap (λ x. keep x (tail (at + size b.0 + statements_size b.1 + 2))) noted
    ∙ sym (keep_append o (branch_faults s n at b) (tail (at + size b.0 + statements_size b.1 + 2)))
    ∙ ap (keep o) joined

-- the faults of a statement, and of those after it
pub statement_kept : (s : Scope) (n at after : ℕ) (a : PlainStatement) (ss : PlainStatements) (o p : Option Fault) → p ≡ keep o (statement_faults s n at a) → after ≡ at + statement_size a →
    keep p (statements_faults s n (after + 1) ss) ≡ keep o (statements_faults s n at (more_statements a ss))
statement_kept s n at after a ss o p noted place =
    ap (λ k. keep p (statements_faults s n (k + 1) ss)) place
    ∙ ap (λ x. keep x (statements_faults s n (at + statement_size a + 1) ss)) noted
    ∙ sym (keep_append o (statement_faults s n at a) (statements_faults s n (at + statement_size a + 1) ss))

-- a branch by its parts
pub branch_noted : (s : Scope) (n at k : ℕ) (b : PlainTerm × PlainStatements) (o p q z : Option Fault) → p ≡ keep o (faults s (at + 1) b.0) → q ≡ keep p (wants is_truth (at + 1) (judge s b.0)) → z ≡ keep q (statements_faults s n k b.1) → k ≡ at + size b.0 + 2 → z ≡ keep o (branch_faults s n at b)
branch_noted s n at k b o p q z first second third place =
    keep_three o p q z (faults s (at + 1) b.0) (wants is_truth (at + 1) (judge s b.0)) (wants is_truth (at + 1) (judge s b.0)) (statements_faults s n (at + size b.0 + 2) b.1) first refl second (third ∙ ap (λ i. keep q (statements_faults s n i b.1)) place)

-- an `if` by its parts
pub if_noted : (s : Scope) (n at middle : ℕ) (bs : PlainBranches) (ss : PlainStatements) (o p z : Option Fault) → p ≡ keep o (branches_faults s n at bs) → middle ≡ at + branches_size bs → z ≡ keep p (statements_faults s n (middle + else_word ss) ss) → z ≡ keep o (statement_faults s n at (If bs ss))
if_noted s n at middle bs ss o p z first place second =
    keep_both o p z (branches_faults s n at bs) (statements_faults s n (middle + else_word ss) ss) (statements_faults s n (at + branches_size bs + 1) ss) first
    (else_place s n middle ss ∙ ap (λ i. statements_faults s n (i + 1) ss) place) second

-- a loop by its parts
pub loop_noted : (s : Scope) (n at middle : ℕ) (d : PlainDeclared) (ss : PlainStatements) (o p z : Option Fault) → p ≡ keep o (head_faults s n at d) → middle ≡ at + (type_size d.of + 4) → z ≡ keep p (statements_faults (in_loop s n d) (n + 1) middle ss) → z ≡ keep o (statement_faults s n at (For d ss))
loop_noted s n at middle d ss o p z first place second =
    let here : middle ≡ at + type_size d.of + 4 = omega (arith, place) in
    keep_both o p z (head_faults s n at d) (statements_faults (in_loop s n d) (n + 1) middle ss) (statements_faults (in_loop s n d) (n + 1) (at + type_size d.of + 4) ss) first (ap (λ i. statements_faults (in_loop s n d) (n + 1) i ss) here) second
    ∙ ap (keep o) (loop_faults s n at d ss)
