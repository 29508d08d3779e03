-- Trees without where they lie in memory, and what a reader ensures.
use Rattle.std.specs.Prelude.{Option, List, map, string_bytes, option_map}
use Rattle.ioa_trees.specs.declared.tree.Sign.{Sign}
use Rattle.ioa_trees.specs.declared.tree.TypeTree.{TypeTree}
use Rattle.ioa_trees.specs.declared.tree.TypeTree.TheOpen.{TypeTree-F}
use Rattle.ioa_trees.specs.declared.tree.TypeTree.TheOpen as y
use Rattle.ioa_trees.specs.declared.tree.TypeTree.TheFolds.{fold-TypeTree}
use Rattle.ioa_trees.specs.declared.tree.Term.{Term}
use Rattle.ioa_trees.specs.declared.tree.Addend.{Addend}
use Rattle.ioa_trees.specs.declared.tree.Factor.{Factor}
use Rattle.ioa_trees.specs.declared.tree.Factor.TheOpen.{Term-F, Factor-F, Addend-F}
use Rattle.ioa_trees.specs.declared.tree.Factor.TheOpen as f
use Rattle.ioa_trees.specs.declared.tree.Factor.TheFolds.{fold-Term, fold-Factor, fold-Addend}
use Rattle.ioa_trees.specs.declared.tree.Init.{Init}
use Rattle.ioa_trees.specs.declared.tree.Init.TheOpen.{Init-F}
use Rattle.ioa_trees.specs.declared.tree.Init.TheOpen as i
use Rattle.ioa_trees.specs.declared.tree.Init.TheFolds.{fold-Init}
use Rattle.ioa_trees.specs.declared.tree.Declared.{Declared}
use Rattle.ioa_trees.specs.declared.tree.Statement.{Statement}
use Rattle.ioa_trees.specs.declared.tree.Branch.{Branch}
use Rattle.ioa_trees.specs.declared.tree.Statement.TheOpen.{Statement-F, Branch-F}
use Rattle.ioa_trees.specs.declared.tree.Statement.TheOpen as s
use Rattle.ioa_trees.specs.declared.tree.Statement.TheFolds.{fold-Statement, fold-Branch}
use Rattle.ioa_trees.specs.declared.tree.Parameter.{Parameter}
use Rattle.ioa_trees.specs.declared.tree.Parameter.TheVariants as parameter
use Rattle.ioa_trees.specs.declared.tree.Entry.{Entry}
use Rattle.ioa_trees.specs.declared.tree.Variable.{Variable}
use Rattle.ioa_trees.specs.declared.tree.Transition.{Transition}
use Rattle.ioa_trees.specs.declared.tree.Automaton.{Automaton}
use Rattle.ioa_trees.specs.declared.tree.ComponentTree.{ComponentTree}
use Rattle.ioa_trees.specs.declared.tree.Composed.{Composed}
use Rattle.ioa_trees.specs.declared.tree.TypeBody.{TypeBody}
use Rattle.ioa_trees.specs.declared.tree.TypeBody.TheVariants as body
use Rattle.ioa_trees.specs.declared.tree.TypeDefinition.{TypeDefinition}
use Rattle.ioa_trees.specs.declared.tree.SourceTree.{SourceTree}
use Rattle.ioa_trees.specs.Trees as plain
use Rattle.ioa_trees.specs.Trees.{PlainType, Bools, Ints, Range, Named, SeqOf, ArrayOf, PlainTerm, Number, True, False, Group, Called, Append, Index, Minus, Product, Sum, Compare, Not, And, Or, PlainFactor, Times, Modulo, pack_terms, pack_factors, pack_addends, PlainInit, Empty, Fill, Value, PlainDeclared, PlainStatement, Assign, If, For, PlainStatements, pack_statements, pack_branches, PlainParameter, Constant, Typed, PlainEntry, PlainVariable, PlainTransition, PlainAutomaton, PlainComponent, PlainComposed, PlainTypeBody, Same, Enumeration, PlainTypeDefinition, PlainSource}

abbrev pub type_step : TypeTree-F PlainType → PlainType
type_step y.Bool = Bools
type_step y.Int = Ints
type_step (y.Range a b) = Range a b
type_step (y.Named n) = Named (string_bytes n)
type_step (y.Seq t n) = SeqOf t.value n
type_step (y.Array t u) = ArrayOf t.value u.value

abbrev pub view_type : TypeTree → PlainType
view_type = fold-TypeTree PlainType type_step

-- one term, with the tree of each inner term in its place
abbrev pub step : Term-F PlainFactor PlainTerm (Sign × PlainTerm) → PlainTerm
step (f.Number n) = Number n
step f.True = True
step f.False = False
step (f.Name n) = plain.Variable (string_bytes n)
step (f.Group t) = Group t.value
step (f.Call c t) = Called c t.value
step (f.Append t u) = Append t.value u.value
step (f.Index t us) = Index t.value (pack_terms us.items)
step (f.Minus t) = Minus t.value
step (f.Product t fs) = Product t.value (pack_factors fs.items)
step (f.Sum t ss) = Sum t.value (pack_addends ss.items)
step (f.Compare t r u) = Compare t.value r u.value
step (f.Not t) = Not t.value
step (f.And t us) = And t.value (pack_terms us.items)
step (f.Or t us) = Or t.value (pack_terms us.items)

abbrev pub factor_step : Factor-F PlainFactor PlainTerm (Sign × PlainTerm) → PlainFactor
factor_step (f.Times t) = Times t
factor_step (f.Modulo n) = Modulo n

abbrev pub addend_step : Addend-F PlainFactor PlainTerm (Sign × PlainTerm) → Sign × PlainTerm
addend_step a = (a.sign, a.term)

abbrev pub view : Term → PlainTerm
view = fold-Term PlainFactor PlainTerm (Sign × PlainTerm) factor_step step addend_step

abbrev pub option_view : Option Term → Option PlainTerm
option_view t = option_map view t

abbrev pub view_factor : Factor → PlainFactor
view_factor = fold-Factor PlainFactor PlainTerm (Sign × PlainTerm) factor_step step addend_step

abbrev pub view_addend : Addend → Sign × PlainTerm
view_addend = fold-Addend PlainFactor PlainTerm (Sign × PlainTerm) factor_step step addend_step

abbrev pub init_step : Init-F PlainInit → PlainInit
init_step i.Empty = Empty
init_step (i.Fill v) = Fill v.value
init_step (i.Term t) = Value (view t)

abbrev pub view_init : Init → PlainInit
view_init = fold-Init PlainInit init_step

abbrev pub view_declared : Declared → PlainDeclared
view_declared d = record { name = string_bytes d.name; of = view_type d.of }

abbrev pub statement_step : Statement-F PlainStatement (PlainTerm × PlainStatements) → PlainStatement
statement_step (s.Assign n t v) = Assign (string_bytes n) (option_view t) (view_init v)
statement_step (s.If bs ss) = If (pack_branches bs.items) (pack_statements ss.items)
statement_step (s.For d ss) = For (view_declared d) (pack_statements ss.items)

abbrev pub branch_step : Branch-F PlainStatement (PlainTerm × PlainStatements) → PlainTerm × PlainStatements
branch_step b = (view b.test, pack_statements b.body.items)

abbrev pub view_statement : Statement → PlainStatement
view_statement = fold-Statement PlainStatement (PlainTerm × PlainStatements) statement_step branch_step

abbrev pub view_branch : Branch → PlainTerm × PlainStatements
view_branch = fold-Branch PlainStatement (PlainTerm × PlainStatements) statement_step branch_step

abbrev pub view_statements : List Statement → PlainStatements
view_statements xs = pack_statements (map view_statement xs)

abbrev pub view_parameter : Parameter → PlainParameter
view_parameter (parameter.Constant n) = Constant (string_bytes n)
view_parameter (parameter.Typed d) = Typed (view_declared d)

abbrev pub view_entry : Entry → PlainEntry
view_entry e = record { kind = e.kind; name = string_bytes e.name; parameters = map view_parameter e.parameters.items }

abbrev pub view_variable : Variable → PlainVariable
view_variable v = record { declared = view_declared v.declared; start = view_init v.start }

abbrev pub view_transition : Transition → PlainTransition
view_transition t = record { entry = view_entry t.entry; pre = option_view t.pre; eff = view_statements t.eff.items }

abbrev pub view_automaton : Automaton → PlainAutomaton
view_automaton a = record {
  name = string_bytes a.name;
  formals = map view_declared a.formals.items;
  entries = map view_entry a.entries.items;
  variables = map view_variable a.variables.items;
  transitions = map view_transition a.transitions.items;
  tasks = map (λ t. map string_bytes t.items) a.tasks.items;
}

abbrev pub view_component : ComponentTree → PlainComponent
view_component c = record { name = string_bytes c.name; automaton = string_bytes c.automaton; arguments = map view c.arguments.items }

abbrev pub view_composed : Composed → PlainComposed
view_composed c = record { name = string_bytes c.name; components = map view_component c.components.items; hidden = map string_bytes c.hidden.items }

abbrev pub view_type_body : TypeBody → PlainTypeBody
view_type_body (body.Same t) = Same (view_type t)
view_type_body (body.Enumeration ns) = Enumeration (map string_bytes ns.items)

abbrev pub view_type_definition : TypeDefinition → PlainTypeDefinition
view_type_definition d = record { name = string_bytes d.name; body = view_type_body d.body }

abbrev pub view_source : SourceTree → PlainSource
view_source s = record {
  types = map view_type_definition s.types.items;
  automata = map view_automaton s.automata.items;
  composed = view_composed s.composed;
}
