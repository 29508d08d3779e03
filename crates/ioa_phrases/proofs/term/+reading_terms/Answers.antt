use Rattle.std.proofs.Common.{sym, ◌∙◌, ap, map, [], ◌∷◌, true}
use Rattle.ioa_tokens.specs.Tokens.{toks_of}
use Rattle.ioa_trees.specs.Nodes.{term, conjunction, comparison, compared, sum, addend, postfix}
use Rattle.ioa_trees.specs.Grammar.{maybe, outside}
use Rattle.ioa_phrases.specs.Machine.{In, go, have}
use Rattle.ioa_trees.specs.Spelling.{node}
use Rattle.ioa_phrases.specs.Items.{or_item, and_item, index_item}
use Rattle.ioa_trees.specs.Views.{view}
use Rattle.ioa_phrases.proofs.Moves.{no_or_part, no_and_part, no_index_part, no_many, no_maybe}
use Rattle.ioa_phrases.proofs.Items.{or_made, and_made, index_made}
use Rattle.ioa_phrases.proofs.term.+reading_terms.Goals as goal

pub read_addend-returns-in_default-clause-turns : goal.read_addend-returns-in_default-clause-turns
read_addend-returns-in_default-clause-turns t c = λ done k d l. no_many sum addend done outside [] k (toks_of c.args.tokens.now) c.in_default.ensures.cases

pub read_comparison-returns-in_default-clause-gives : goal.read_comparison-returns-in_default-clause-gives
read_comparison-returns-in_default-clause-gives t c = λ k d.
    c.in_ok-left.ensures.gives (In comparison [] (maybe compared outside ∷ []) outside k) d
    ∙ no_maybe comparison compared (node (view c.in_ok-left.left) ∷ []) outside [] k (toks_of c.in_ok-left.rest.now) c.in_default.ensures.cases

pub read_term-returns-clause-gives : goal.read_term-returns-clause-gives
read_term-returns-clause-gives t c = λ k d.
    let first = view c.in_ok-first.first in
    let others = c.loop-after.others.items in
    let rest = toks_of c.loop-after.rest.now in
    c.loop-after.invariant.reads k d
    ∙ (no_or_part term (node first ∷ map or_item others) outside [] k rest c.in_default.ensures.cases
    ∙ ap (λ z. go true (have z k) rest) (sym (ap node c.in_ok-or_of.ensures ∙ or_made first others)))

pub read_conjunction-returns-clause-gives : goal.read_conjunction-returns-clause-gives
read_conjunction-returns-clause-gives t c = λ k d.
    let first = view c.in_ok-first.first in
    let others = c.loop-after.others.items in
    let rest = toks_of c.loop-after.rest.now in
    c.loop-after.invariant.reads k d
    ∙ (no_and_part conjunction (node first ∷ map and_item others) outside [] k rest c.in_default.ensures.cases
    ∙ ap (λ z. go true (have z k) rest) (sym (ap node c.in_ok-and_of.ensures ∙ and_made first others)))

pub read_postfix-returns-clause-gives : goal.read_postfix-returns-clause-gives
read_postfix-returns-clause-gives t c = λ k d l.
    let first = view c.in_ok-first.first in
    let others = c.loop-after.others.items in
    let rest = toks_of c.loop-after.rest.now in
    c.loop-after.invariant.reads k d l
    ∙ (no_index_part postfix (node first ∷ map index_item others) outside [] k rest c.in_default.ensures.cases
    ∙ ap (λ z. go true (have z k) rest) (sym (ap node c.in_ok-index_of.ensures ∙ index_made first others)))
