use Rattle.std.proofs.Common.{◌≡◌, ◌≤◌, ◌<◌, ◌+◌, ◌-◌, ◌*◌, length, true, ◌∷◌, []}
use Rattle.ioa_tokens.specs.declared.Word.TheVariants as w
use Rattle.ioa_tokens.specs.Tokens.{toks_of}
use Rattle.ioa_trees.specs.Nodes.{statement, statements, statement_part, elseif_part}
use Rattle.ioa_trees.specs.Grammar.{many, outside, inside, if_parts, else_parts}
use Rattle.ioa_phrases.specs.Machine.{Frames, depth, want, At, at, go}
use Rattle.ioa_trees.specs.Spelling.{key}
use Rattle.ioa_phrases.specs.Items.{listed, statement_item, statement_part_item, choice_item, elseif_item}
use Rattle.ioa_phrases.proofs.statements.+reading_statements.Given as goal

abbrev pub decreases-read_choice : goal.decreases-read_choice
decreases-read_choice l = 16 * (65 - l.depth) + 7

abbrev pub decreases-read_statements : goal.decreases-read_statements
decreases-read_statements l = 16 * (65 - l.depth) + 6

abbrev pub decreases-read_statement : goal.decreases-read_statement
decreases-read_statement l = 16 * (65 - l.depth) + 5

abbrev pub decreases-read_low_statement : goal.decreases-read_low_statement
decreases-read_low_statement l = 16 * (65 - l.depth) + 4

abbrev pub decreases-read_if : goal.decreases-read_if
decreases-read_if l = 16 * (65 - l.depth) + 3

abbrev pub decreases-read_for : goal.decreases-read_for
decreases-read_for l = 16 * (65 - l.depth) + 3

abbrev pub decreases-read_branches : goal.decreases-read_branches
decreases-read_branches l = 16 * (65 - l.depth) + 2

abbrev pub decreases-read_else : goal.decreases-read_else
decreases-read_else l = 16 * (65 - l.depth) + 2

abbrev pub decreases-read_loop : goal.decreases-read_loop
decreases-read_loop l = 16 * (65 - l.depth) + 2

abbrev pub invariant-read_statements-loop-after : goal.invariant-read_statements-loop-after
invariant-read_statements-loop-after l = record {
  reads : (k : Frames) → depth k ≡ l.depth → go true (want statements k) (toks_of l.tokens) ≡ go true (At statements (listed statement_item statement_part_item l.all.items) (many statement_part outside ∷ []) k) (toks_of l.rest);
  some : 0 < length l.all.items;
  shorter : length l.rest ≤ length l.tokens;
}

abbrev pub decreases-read_statements-loop-after : goal.decreases-read_statements-loop-after
decreases-read_statements-loop-after l = length l.rest

abbrev pub invariant-read_branches-loop-after : goal.invariant-read_branches-loop-after
invariant-read_branches-loop-after l = record {
  reads : (k : Frames) → depth k ≡ l.depth → go true (at statement (key w.If ∷ []) if_parts k) (toks_of l.tokens) ≡ go true (At statement (key w.If ∷ listed choice_item elseif_item l.all.items) (many elseif_part inside ∷ else_parts) k) (toks_of l.rest);
  some : 0 < length l.all.items;
  low : l.depth + 1 ≤ 64;
  shorter : length l.rest ≤ length l.tokens;
}

abbrev pub decreases-read_branches-loop-after : goal.decreases-read_branches-loop-after
decreases-read_branches-loop-after l = length l.rest
