use Rattle.std.proofs.Common.{◌∙◌, ◌++◌, ◌∷◌, [], ap, sym, map, true, append-nil, string_bytes}
use Rattle.ioa_tokens.specs.Tokens.{toks_of}
use Rattle.ioa_trees.specs.Nodes.{basic, tasks}
use Rattle.ioa_trees.specs.Grammar.{maybe, outside}
use Rattle.ioa_phrases.specs.Machine.{go, at, At, In}
use Rattle.ioa_trees.specs.Spelling.{key, tasks_node}
use Rattle.ioa_phrases.proofs.Moves.{no_tasks}
use Rattle.ioa_phrases.proofs.Joins.{tasks_made}
use Rattle.ioa_tokens.specs.declared.Word.TheVariants as w
use Rattle.ioa_phrases.proofs.blocks.read_tasks.Goals as goal

pub returns-in_default-clause-perhaps : goal.returns-in_default-clause-perhaps
returns-in_default-clause-perhaps c = λ done k d l.
    let ts = toks_of c.args.tokens.now in
    no_tasks basic done outside [] k ts c.in_default.ensures.cases
    ∙ (ap (λ z. go true (at basic z [] k) ts) (sym (append-nil done))
    ∙ ap (λ z. go true (at basic (done ++ tasks_node (map (λ t. map string_bytes t.items) z)) [] k) ts) (sym c.new.ensures.items))

pub returns-clause-perhaps : goal.returns-clause-perhaps
returns-clause-perhaps c = λ done k d l.
    let all = c.in_ok-all.all.items in
    let left = toks_of c.in_ok-all.rest.now in
    ap (λ z. go true (At basic done (maybe tasks outside ∷ []) k) z) c.in-Some.ensures.cases
    ∙ (c.in_ok-all.ensures.gives tasks (key w.Tasks ∷ []) [] (In basic done [] outside k) d
    ∙ ap (λ z. go true (at basic (done ++ z) [] k) left) (sym (tasks_made all c.in_ok-all.ensures.some)))
