-- Whether two plans are the same.
use Rattle.std.specs.Prelude.{Bool as Truth, ◌&&◌, nat_eq, List}
use Rattle.std.specs.Bool.{beq}
use lib.Pointwise.{pointwise}
use Rattle.io_automata.specs.declared.automaton.ActionName.{ActionName}
use Rattle.io_automata.specs.SameCompositions.{same_composition, same_texts}
use Rattle.plans.specs.declared.plan.Plan.{Plan}
use Rattle.plans.specs.Plans.{composition, action_texts, hidden_marks, mark_of, member_texts, text_of}

-- whether two names of actions have the same text
abbrev pub same_text_of : ActionName → ActionName → Truth
same_text_of a b = pointwise nat_eq (text_of a) (text_of b)

-- whether outputs of both names are hidden, or of neither; and the same of two lists of marks
abbrev pub same_mark_of : ActionName → ActionName → Truth
same_mark_of a b = beq (mark_of a) (mark_of b)

abbrev pub same_marks : List Truth → List Truth → Truth
same_marks a b = pointwise beq a b

-- whether two plans are the same composition with the same texts and the same hidden names
abbrev pub same_plan : Plan → Plan → Truth
same_plan a b =
    same_composition (composition a) (composition b)
    && (same_texts (action_texts a) (action_texts b)
    && (same_texts (member_texts a) (member_texts b)
    && same_marks (hidden_marks a) (hidden_marks b)))
