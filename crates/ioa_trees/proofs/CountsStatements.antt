-- The sizes of statements count the leaves of their nodes.
use Rattle.std.proofs.Common.{◌≡◌, ◌+◌, [], ◌∷◌, refl, arith}
use Rattle.ioa_tokens.specs.declared.Word.TheVariants as w
use Rattle.ioa_trees.specs.Nodes.{Nodes}
use Rattle.ioa_trees.specs.Spelling.{key, init_node, at_index, statement_node, elseif_nodes, else_nodes, statements_node, statement_nodes}
use Rattle.ioa_trees.specs.Trees.{PlainStatement, Assign, If, For, PlainStatements, no_statement, more_statements, PlainBranches, no_branch, more_branches}
use Rattle.ioa_trees.specs.Sizes.{statement_size, branches_size, else_size, statements_size, later_size}
use Rattle.ioa_trees.proofs.Counts.{count, counts, counts_append}
use Rattle.ioa_trees.proofs.CountsTerms.{type_counts, term_counts, init_counts, at_counts}

mutual
  pub statement_counts : (a : PlainStatement) → count (statement_node a) ≡ statement_size a
  statement_counts (Assign q i v) = omega (arith, counts_append (at_index i) (key w.Assign ∷ (init_node v ∷ [])), at_counts i, init_counts v)
  statement_counts (If no_branch ss) = omega (arith, else_counts ss)
  statement_counts (If (more_branches t us bs) ss) =
      omega (arith, term_counts t, statements_counts us, elseif_counts bs (else_nodes ss), else_counts ss)
  statement_counts (For d ss) = omega (arith, type_counts d.of, statements_counts ss)

  elseif_counts : (bs : PlainBranches) (ns : Nodes) → counts (elseif_nodes bs ns) ≡ branches_size bs + counts ns
  elseif_counts no_branch ns = omega arith
  elseif_counts (more_branches t ss bs) ns = omega (arith, term_counts t, statements_counts ss, elseif_counts bs ns)

  else_counts : (ss : PlainStatements) → counts (else_nodes ss) ≡ else_size ss + 1
  else_counts no_statement = refl
  else_counts (more_statements s ss) = omega (arith, statement_counts s, later_counts ss)

  pub statements_counts : (ss : PlainStatements) → count (statements_node ss) ≡ statements_size ss
  statements_counts no_statement = refl
  statements_counts (more_statements s ss) = omega (arith, statement_counts s, later_counts ss)

  later_counts : (ss : PlainStatements) → counts (statement_nodes ss) ≡ later_size ss
  later_counts no_statement = refl
  later_counts (more_statements s ss) = omega (arith, statement_counts s, later_counts ss)
