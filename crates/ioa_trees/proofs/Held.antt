-- Where the parts of definitions, entries, transitions and components stand among their tokens, and hidden names at the end of a source.
use Rattle.std.proofs.Common.{◌≡◌, ◌<◌, ℕ, ◌+◌, List, [], ◌∷◌, ◌++◌, length, take, drop, append-nil, Some, refl, ap, ◌∙◌, arith}
use Rattle.ioa_tokens.specs.declared.Word.TheVariants as w
use Rattle.ioa_tokens.specs.Tokens.{Tok, Name}
use Rattle.ioa_trees.specs.Nodes.{eff_part, pre_part, hidden, parameters, arguments, type_body, parameter_part, argument_part, name_part, Node, yield, yields}
use Rattle.ioa_trees.specs.Spelling.{key, named, word_of_kind, node, parts, separated, type_node, init_node, statements_node, parameter_node, parameters_node, entry_node, variable_node, pre_node, eff_node, transition_node, arguments_node, component_node, hidden_node, type_body_node, type_definition_node, spell}
use Rattle.ioa_trees.specs.Trees.{Bytes, PlainType, PlainTerm, PlainStatements, no_statement, more_statements, PlainParameter, PlainEntry, PlainVariable, PlainTransition, PlainComponent, Same, Enumeration, PlainTypeDefinition, PlainSource}
use Rattle.ioa_trees.specs.Sizes.{size, type_size, statements_size, behind, listed_size, name_size, parameter_size, entry_size, pre_size, component_size}
use Rattle.ioa_trees.specs.SourceRules.{composed_at, hidden_at}
use Rattle.ioa_trees.proofs.CountsTerms.{type_counts, term_counts}
use Rattle.ioa_trees.proofs.CountsStatements.{statements_counts}
use Rattle.ioa_trees.proofs.CountsAutomata.{parameter_counts, entry_counts, pre_counts, name_counts}
use Rattle.ioa_trees.proofs.Placed.{yields_pack, advance, taken, at_end}
use Rattle.ioa_trees.proofs.Inside.{separated_placed, some, opened}

opened_parameters : (ps : List PlainParameter) → 0 < length ps
    → yields (parameters_node ps) ≡ yields (key w.Open ∷ (separated parameter_part w.Comma parameter_node ps ++ (key w.Close ∷ [])))
opened_parameters [] h = absurd (omega (arith, h))
opened_parameters (p ∷ ps) h =
    let inner : List Node = key w.Open ∷ (separated parameter_part w.Comma parameter_node (p ∷ ps) ++ (key w.Close ∷ [])) in
    opened parameters inner [] ∙ ap yields (append-nil inner)

opened_arguments : (ts : List PlainTerm) → 0 < length ts
    → yields (arguments_node ts) ≡ yields (key w.Open ∷ (separated argument_part w.Comma node ts ++ (key w.Close ∷ [])))
opened_arguments [] h = absurd (omega (arith, h))
opened_arguments (t ∷ ts) h =
    let inner : List Node = key w.Open ∷ (separated argument_part w.Comma node (t ∷ ts) ++ (key w.Close ∷ [])) in
    opened arguments inner [] ∙ ap yields (append-nil inner)

opened_members : (ns : List Bytes) → 0 < length ns
    → yields (type_body_node (Enumeration ns) ∷ []) ≡ yields (key w.Enumeration ∷ (key w.Of ∷ (separated name_part w.Comma named ns ++ [])))
opened_members [] h = absurd (omega (arith, h))
opened_members (n ∷ ns) h = opened type_body (key w.Enumeration ∷ (key w.Of ∷ (named n ∷ parts name_part w.Comma named ns))) []

pub parameter_placed : (e : PlainEntry) (before after : List PlainParameter) (p : PlainParameter) → e.parameters ≡ before ++ p ∷ after
    → take (parameter_size p) (drop (3 + behind parameter_size before) (yield (entry_node e))) ≡ yield (parameter_node p)
parameter_placed e before after p same =
    let ts : List Tok = yield (entry_node e) in
    let first : List Node = key (word_of_kind e.kind) ∷ (named e.name ∷ []) in
    separated_placed parameter_part w.Comma parameter_node parameter_size parameter_counts ts 3 e.parameters before after p (key w.Close ∷ []) same
    (advance ts 2 1 3 (key w.Open ∷ []) (separated parameter_part w.Comma parameter_node e.parameters ++ (key w.Close ∷ []))
    (advance ts 0 2 2 first (parameters_node e.parameters) (yields_pack (first ++ parameters_node e.parameters)) refl refl
    ∙ opened_parameters e.parameters (some e.parameters before after p same))
    refl refl)

pub argument_placed : (c : PlainComponent) (before after : List PlainTerm) (t : PlainTerm) → c.arguments ≡ before ++ t ∷ after
    → take (size t) (drop (4 + behind size before) (yield (component_node c))) ≡ yield (node t)
argument_placed c before after t same =
    let ts : List Tok = yield (component_node c) in
    let first : List Node = named c.name ∷ (key w.Colon ∷ (named c.automaton ∷ [])) in
    separated_placed argument_part w.Comma node size term_counts ts 4 c.arguments before after t (key w.Close ∷ []) same
    (advance ts 3 1 4 (key w.Open ∷ []) (separated argument_part w.Comma node c.arguments ++ (key w.Close ∷ []))
    (advance ts 0 3 3 first (arguments_node c.arguments) (yields_pack (first ++ arguments_node c.arguments)) refl refl
    ∙ opened_arguments c.arguments (some c.arguments before after t same))
    refl refl)

at_body : (d : PlainTypeDefinition) → drop 3 (yield (type_definition_node d)) ≡ yields (type_body_node d.body ∷ [])
at_body d = yields_pack (type_body_node d.body ∷ [])

pub same_placed : (d : PlainTypeDefinition) (t : PlainType) → d.body ≡ Same t → drop 3 (yield (type_definition_node d)) ≡ yield (type_node t)
same_placed d t e = at_body d ∙ (append-nil (yield (type_body_node d.body)) ∙ ap (λ b. yield (type_body_node b)) e)

pub member_placed : (d : PlainTypeDefinition) (before after : List Bytes) (q : Bytes) → d.body ≡ Enumeration (before ++ q ∷ after)
    → take 1 (drop (5 + behind name_size before) (yield (type_definition_node d))) ≡ Name q ∷ []
member_placed d before after q same =
    let ts : List Tok = yield (type_definition_node d) in
    let all : List Bytes = before ++ q ∷ after in
    separated_placed name_part w.Comma named name_size name_counts ts 5 all before after q [] refl
    (advance ts 3 2 5 (key w.Enumeration ∷ (key w.Of ∷ [])) (separated name_part w.Comma named all ++ [])
    (at_body d ∙ (ap (λ b. yields (type_body_node b ∷ [])) same ∙ opened_members all (some all before after q refl))) refl refl)

pub start_placed : (v : PlainVariable) → drop (type_size v.declared.of + 3) (yield (variable_node v)) ≡ yield (init_node v.start)
start_placed v =
    let ts : List Tok = yield (variable_node v) in
    let first : List Node = named v.declared.name ∷ (key w.Colon ∷ (type_node v.declared.of ∷ (key w.Assign ∷ []))) in
    let long = type_counts v.declared.of in
    advance ts 0 (type_size v.declared.of + 3) (type_size v.declared.of + 3) first (init_node v.start ∷ [])
    (yields_pack (first ++ (init_node v.start ∷ []))) (omega (arith, long)) (omega arith)
    ∙ append-nil (yield (init_node v.start))

at_pre : (t : PlainTransition) → drop (entry_size t.entry) (yield (transition_node t)) ≡ yields (pre_node t.pre ++ eff_node t.eff)
at_pre t =
    let rest : List Node = pre_node t.pre ++ eff_node t.eff in
    let long = entry_counts t.entry in
    advance (yield (transition_node t)) 0 (entry_size t.entry) (entry_size t.entry) (entry_node t.entry ∷ []) rest
    (yields_pack (entry_node t.entry ∷ rest)) (omega (arith, long)) (omega arith)

at_eff : (t : PlainTransition) → drop (entry_size t.entry + pre_size t.pre) (yield (transition_node t)) ≡ yields (eff_node t.eff)
at_eff t =
    advance (yield (transition_node t)) (entry_size t.entry) (pre_size t.pre) (entry_size t.entry + pre_size t.pre) (pre_node t.pre) (eff_node t.eff)
    (at_pre t) (pre_counts t.pre) refl

pub pre_placed : (t : PlainTransition) (p : PlainTerm) → t.pre ≡ Some p
    → take (size p) (drop (entry_size t.entry + 1) (yield (transition_node t))) ≡ yield (node p)
pre_placed t p e =
    let ts : List Tok = yield (transition_node t) in
    taken ts (entry_size t.entry + 1) (size p) (node p) (eff_node t.eff)
    (advance ts (entry_size t.entry) 1 (entry_size t.entry + 1) (key w.Pre ∷ []) (node p ∷ eff_node t.eff)
    (at_pre t ∙ (ap (λ z. yields (pre_node z ++ eff_node t.eff)) e ∙ opened pre_part (key w.Pre ∷ (node p ∷ [])) (eff_node t.eff))) refl refl)
    (term_counts p)

statements_placed : (ss : PlainStatements) (ts : List Tok) (n : ℕ) → drop n ts ≡ yields (eff_node ss)
    → take (statements_size ss) (drop (n + 1) ts) ≡ yield (statements_node ss)
statements_placed no_statement ts n e = refl
statements_placed (more_statements s ss) ts n e =
    let this : Node = statements_node (more_statements s ss) in
    taken ts (n + 1) (statements_size (more_statements s ss)) this []
    (advance ts n 1 (n + 1) (key w.Eff ∷ []) (this ∷ []) (e ∙ opened eff_part (key w.Eff ∷ (this ∷ [])) []) refl refl)
    (statements_counts (more_statements s ss))

pub eff_placed : (t : PlainTransition)
    → take (statements_size t.eff) (drop (entry_size t.entry + pre_size t.pre + 1) (yield (transition_node t))) ≡ yield (statements_node t.eff)
eff_placed t = statements_placed t.eff (yield (transition_node t)) (entry_size t.entry + pre_size t.pre) (at_eff t)

opened_hidden : (qs : List Bytes) → 0 < length qs
    → yields (hidden_node qs) ≡ yields (key w.Hidden ∷ (separated name_part w.Comma named qs ++ []))
opened_hidden [] h = absurd (omega (arith, h))
opened_hidden (q ∷ qs) h = opened hidden (key w.Hidden ∷ (named q ∷ parts name_part w.Comma named qs)) []

pub hidden_placed : (x : PlainSource) (before after : List Bytes) (q : Bytes) → 0 < length x.automata → x.composed.hidden ≡ before ++ q ∷ after
    → take 1 (drop (hidden_at (composed_at x) x.composed + behind name_size before) (spell x)) ≡ Name q ∷ []
hidden_placed x before after q h same =
    let ts : List Tok = spell x in
    let all : List Bytes = x.composed.hidden in
    let end : ℕ = composed_at x + 3 + listed_size component_size x.composed.components in
    separated_placed name_part w.Comma named name_size name_counts ts (hidden_at (composed_at x) x.composed) all before after q [] same
    (advance ts end 1 (end + 1) (key w.Hidden ∷ []) (separated name_part w.Comma named all ++ [])
    (at_end x h ∙ opened_hidden all (some all before after q same)) refl refl)
