-- Turns read in the order of their keys.
use Rattle.std.proofs.Common.{◌≡◌, ℕ, ◌+◌, ◌<◌, List, [], ◌∷◌, ◌++◌, length, refl, ap, sym, subst, ◌∙◌, arith}
use Rattle.std.specs.Prelude.{◌==◌, Bool, true, false, Decides, Option, None, Some}
use Rattle.std.proofs.lemmas.Bool.{both_ways, eqb-true}
use Rattle.std.proofs.lemmas.List.{flat_map_more, map-append}
use Rattle.terms.specs.Named.{Named}
use Rattle.event_keys.specs.declared.key.Key.{Key}
use Rattle.event_keys.specs.declared.outcome.Turned.{Turned}
use Rattle.plans.specs.declared.plan.Plan.{Plan}
use Rattle.task_seed.specs.Table.{lines_of}
use Rattle.trace.specs.FileFaults.{IsFirstAtFault}
use Rattle.trace.specs.NextTurns.{IsNextFault}
use Rattle.trace.specs.OrderedFile.{head_line, AreInOrder, AreTurns, GivesInOrder, IsAfter, IsForeignTurn, IsLate, IsNoTurn, IsOrderedFault, IsTurnOf, last_key, SaysTurn, turn_text}
use Rattle.trace.specs.Versions.{IsVersionTwo}
use Rattle.trace.specs.TraceFile.{Blames, fault_of}
use Rattle.trace.specs.WrittenTurns.{actions_of, actions_done}
use Rattle.trace.specs.declared.line_fault.LineFault.{LineFault}
use Rattle.trace.specs.declared.line_fault.LineFault.TheVariants as fault
use Rattle.trace.specs.declared.fault.TraceError.{TraceError}
use Rattle.trace.specs.declared.fault.TraceError.TheVariants as trace
use Rattle.trace.proofs.OneFault.{head_of}
use Rattle.trace.proofs.Sequel.{IsReadTo, fault_next, read_all, read_more}

-- so many lines up to the rest are the head and those of turns in order; this is their last key, and these are their actions
pub record IsReadInOrder (plan : Plan) (bytes rest : List ℕ) (line : ℕ) (last : Option Key) (actions : List Named) : Type 0 where
  pub turns : List Turned
  pub read : IsReadTo (AreTurns plan) bytes rest line turns
  pub last_is : last ≡ last_key None turns
  pub actions_are : actions ≡ actions_done turns

pub ordered_some : (bytes : List ℕ) → IsVersionTwo bytes → 0 < length bytes
ordered_some [] h = absurd (omega (arith, ap length h.1))
ordered_some (b ∷ bs) h = omega arith

-- the head is read
pub head_read : (plan : Plan) (bytes first later : List ℕ) (actions : List Named) → IsVersionTwo bytes → lines_of bytes ≡ first ∷ lines_of later → actions ≡ [] → IsReadInOrder plan bytes later 1 None actions
head_read plan bytes first later actions h e none =
    record {
      turns = [];
      read = record {
        before = head_line ∷ [];
        split = e ∙ ap (λ l. l ∷ lines_of later) (ap head_of (sym e ∙ h.1));
        given = record { are = refl; order = tt };
        counted = refl;
      };
      last_is = refl;
      actions_are = none;
    }

-- one turn more
order_more : (plan : Plan) (last : Option Key) (turns : List Turned) (turned : Turned) → AreInOrder plan last turns → IsTurnOf plan turned → IsAfter (last_key last turns) turned.key → AreInOrder plan last (turns ++ turned ∷ [])
order_more plan last [] turned h proper above = (proper, above, tt)
order_more plan last (t ∷ turns) turned h proper above = (h.0, h.1, order_more plan (Some t.key) turns turned h.2 proper above)

last_more : (last : Option Key) (turns : List Turned) (turned : Turned) → last_key last (turns ++ turned ∷ []) ≡ Some turned.key
last_more last [] turned = refl
last_more last (t ∷ turns) turned = last_more (Some t.key) turns turned

turns_more : (plan : Plan) (before : List (List ℕ)) (text : List ℕ) (turns : List Turned) (turned : Turned) → AreTurns plan before turns → SaysTurn plan text turned → IsAfter (last_key None turns) turned.key → AreTurns plan (before ++ text ∷ []) (turns ++ turned ∷ [])
turns_more plan before text turns turned h says above =
    let more = map-append (turn_text plan) turns (turned ∷ []) in
    record {
      are = (λ i. h.are i ++ says.is i ∷ []) ∙ ap (λ l. head_line ∷ l) (sym more);
      order = order_more plan None turns turned h.order says.proper above;
    }

pub turn_more : (plan : Plan) (bytes rest text later : List ℕ) (line : ℕ) (last : Option Key) (actions : List Named) (turned : Turned)
    → IsReadInOrder plan bytes rest line last actions → lines_of rest ≡ text ∷ lines_of later → SaysTurn plan text turned → IsAfter last turned.key
    → IsReadInOrder plan bytes later (line + 1) (Some turned.key) (actions ++ actions_of turned.outcome)
turn_more plan bytes rest text later line last actions turned h e says above =
    let known : IsAfter (last_key None h.turns) turned.key = subst (λ (l : Option Key). IsAfter l turned.key) h.last_is above in
    record {
      turns = h.turns ++ turned ∷ [];
      read = read_more (AreTurns plan) bytes rest text later line h.turns (h.turns ++ turned ∷ []) h.read e (turns_more plan h.read.before text h.turns turned h.read.given says known);
      last_is = sym (last_more None h.turns turned);
      actions_are = ap (λ l. l ++ actions_of turned.outcome) h.actions_are ∙ flat_map_more (λ (t : Turned). actions_of t.outcome) [] h.turns turned;
    }

-- no line more
pub nothing_left : (rest : List ℕ) (r : Bool) → r ≡ (length rest == 0) → r ≡ true → rest ≡ []
nothing_left [] r is t = refl
nothing_left (b ∷ bs) r is t = absurd (omega (arith, eqb-true (length (b ∷ bs)) 0 (sym is ∙ t)))

pub all_in_order : (plan : Plan) (bytes rest : List ℕ) (line : ℕ) (last : Option Key) (actions : List Named) → IsReadInOrder plan bytes rest line last actions → rest ≡ [] → GivesInOrder plan (lines_of bytes) actions
all_in_order plan bytes rest line last actions h e = (h.turns, read_all (AreTurns plan) bytes rest line h.turns h.read e, h.actions_are)

-- a line has one of the faults of a line by itself, or is late
pub line_fault : (plan : Plan) (last : Option Key) (text : List ℕ) (line : ℕ) (f : LineFault) (error : TraceError) → error ≡ fault_of f line → Blames (IsNoTurn plan text) (IsForeignTurn plan text) f → IsNextFault plan last text line error
line_fault plan last text line f error is h = subst (IsNextFault plan last text line) (sym is) (blamed f h) where
  blamed : (g : LineFault) → Blames (IsNoTurn plan text) (IsForeignTurn plan text) g → IsNextFault plan last text line (fault_of g line)
  blamed fault.NoMemory k = tt
  blamed fault.Bad k = (refl, k)
  blamed fault.Unknown k = (refl, k)

pub late_here : (plan : Plan) (last : Option Key) (text : List ℕ) (turned : Turned) (r : Bool) → SaysTurn plan text turned → Decides r (IsAfter last turned.key) → r ≡ false → IsLate plan last text
late_here plan last text turned r says h low = record { turned = turned; says = says; late = λ above. both_ways r low (h.1 above) }

-- the next line is at fault
pub next_fault : (plan : Plan) (bytes rest text later : List ℕ) (line : ℕ) (last : Option Key) (actions : List Named) (error : TraceError)
    → IsReadInOrder plan bytes rest line last actions → lines_of rest ≡ text ∷ lines_of later → IsNextFault plan last text (line + 1) error → IsOrderedFault plan bytes error
next_fault plan bytes rest text later line last actions trace.NoMemory h e k = tt
next_fault plan bytes rest text later line last actions (trace.BadLine n) h e k =
    let here = fault_next (AreTurns plan) (λ turns. IsNoTurn plan) bytes rest text later line h.turns h.read e k.1 in
    subst (IsFirstAtFault (AreTurns plan) (λ turns. IsNoTurn plan) bytes) (sym k.0) here
next_fault plan bytes rest text later line last actions (trace.UnknownAction n) h e k =
    let here = fault_next (AreTurns plan) (λ turns. IsForeignTurn plan) bytes rest text later line h.turns h.read e k.1 in
    subst (IsFirstAtFault (AreTurns plan) (λ turns. IsForeignTurn plan) bytes) (sym k.0) here
next_fault plan bytes rest text later line last actions (trace.NotInOrder n) h e k =
    let late : IsLate plan (last_key None h.turns) text = subst (λ (l : Option Key). IsLate plan l text) h.last_is k.1 in
    let here = fault_next (AreTurns plan) (λ turns. IsLate plan (last_key None turns)) bytes rest text later line h.turns h.read e late in
    subst (IsFirstAtFault (AreTurns plan) (λ turns. IsLate plan (last_key None turns)) bytes) (sym k.0) here
