-- A file of version 2 gives one list of turns or has one fault.
use Rattle.std.proofs.Common.{◌≡◌, ◌≢◌, ℕ, ◌+◌, List, [], ◌∷◌, ◌++◌, length, refl, ap, sym, subst, ◌∙◌, arith}
use Rattle.std.specs.Prelude.{Option, None, Some, map}
use Rattle.terms.specs.Named.{Named}
use Rattle.event_keys.specs.declared.key.Key.{Key}
use Rattle.event_keys.specs.declared.outcome.Turned.{Turned}
use Rattle.plans.specs.declared.plan.Plan.{Plan}
use Rattle.task_seed.specs.Table.{lines_of}
use Rattle.trace.specs.FileFaults.{IsFirstAtFault}
use Rattle.trace.specs.OrderedFile.{head_line, AreInOrder, AreTurns, GivesInOrder, IsAfter, IsForeignTurn, IsLate, IsNoTurn, IsOrderedFault, IsTurnOf, last_key, SaysTurn, turn_text}
use Rattle.trace.specs.WrittenTurns.{actions_done}
use Rattle.trace.specs.declared.fault.TraceError.{TraceError}
use Rattle.trace.specs.declared.fault.TraceError.TheVariants as trace
use Rattle.trace.proofs.OneFault.{head_of, tail_of}
use Rattle.trace.proofs.TurnLines.{bad_no_foreign, says_no_bad, says_no_foreign, says_same}

-- the line says no turn that may come next
abbrev IsAtFault : Plan → Option Key → List ℕ → Type 0
IsAtFault plan last text = (turned : Turned) → SaysTurn plan text turned → IsAfter last turned.key → ⊥

bad_at_fault : (plan : Plan) (last : Option Key) (text : List ℕ) → IsNoTurn plan text → IsAtFault plan last text
bad_at_fault plan last text bad turned says above = says_no_bad plan text turned says bad

foreign_at_fault : (plan : Plan) (last : Option Key) (text : List ℕ) → IsForeignTurn plan text → IsAtFault plan last text
foreign_at_fault plan last text foreign turned says above = says_no_foreign plan text turned says foreign

late_at_fault : (plan : Plan) (last : Option Key) (text : List ℕ) → IsLate plan last text → IsAtFault plan last text
late_at_fault plan last text late turned says above =
    let same = says_same plan text turned late.turned says late.says in
    late.late (subst (λ (t : Turned). IsAfter last t.key) same above)

-- two first turns with one line are the same, and so are what follows them and what the next lines are judged by
turn_same : (plan : Plan) (t u : Turned) → IsTurnOf plan t → IsTurnOf plan u → turn_text plan t ≡ turn_text plan u → t ≡ u
turn_same plan t u h k e = says_same plan (turn_text plan t) t u (record { proper = h; is = refl }) (record { proper = k; is = e })

order_from : (plan : Plan) (t u : Turned) (us : List Turned) → t ≡ u → AreInOrder plan (Some u.key) us → AreInOrder plan (Some t.key) us
order_from plan t u us same h = subst (λ (x : Turned). AreInOrder plan (Some x.key) us) (sym same) h

fault_from : (plan : Plan) (t u : Turned) (us : List Turned) (text : List ℕ) → t ≡ u → IsAtFault plan (last_key (Some u.key) us) text → IsAtFault plan (last_key (Some t.key) us) text
fault_from plan t u us text same h = subst (λ (x : Turned). IsAtFault plan (last_key (Some x.key) us) text) (sym same) h

lines_same : (plan : Plan) (last : Option Key) (ts us : List Turned) → AreInOrder plan last ts → AreInOrder plan last us → map (turn_text plan) ts ≡ map (turn_text plan) us → ts ≡ us
lines_same plan last [] [] h k e = refl
lines_same plan last [] (u ∷ us) h k e = absurd (omega (arith, ap length e))
lines_same plan last (t ∷ ts) [] h k e = absurd (omega (arith, ap length e))
lines_same plan last (t ∷ ts) (u ∷ us) h k e =
    let same = turn_same plan t u h.0 k.0 (ap head_of e) in
    let more = lines_same plan (Some t.key) ts us h.2 (order_from plan t u us same k.2) (ap tail_of e) in
    λ i. same i ∷ more i

-- lines in order have no line at fault
no_fault_among : (plan : Plan) (last : Option Key) (ts us : List Turned) (line : List ℕ) (later : List (List ℕ)) → AreInOrder plan last ts → AreInOrder plan last us → IsAtFault plan (last_key last ts) line
    → map (turn_text plan) ts ++ (line ∷ later) ≡ map (turn_text plan) us → ⊥
no_fault_among plan last [] [] line later h k f e = omega (arith, ap length e)
no_fault_among plan last [] (u ∷ us) line later h k f e = f u (record { proper = k.0; is = ap head_of e }) k.1
no_fault_among plan last (t ∷ ts) [] line later h k f e = omega (arith, ap length e)
no_fault_among plan last (t ∷ ts) (u ∷ us) line later h k f e =
    let same = turn_same plan t u h.0 k.0 (ap head_of e) in
    no_fault_among plan (Some t.key) ts us line later h.2 (order_from plan t u us same k.2) f (ap tail_of e)

-- the first line at fault is one line, after the same turns
first_same : (plan : Plan) (last : Option Key) (ts us : List Turned) (line other : List ℕ) (later rest : List (List ℕ)) → AreInOrder plan last ts → AreInOrder plan last us
    → IsAtFault plan (last_key last ts) line → IsAtFault plan (last_key last us) other → map (turn_text plan) ts ++ (line ∷ later) ≡ map (turn_text plan) us ++ (other ∷ rest) → (ts ≡ us) × (line ≡ other)
first_same plan last [] [] line other later rest h k f g e = (refl, ap head_of e)
first_same plan last [] (u ∷ us) line other later rest h k f g e = absurd (f u (record { proper = k.0; is = ap head_of e }) k.1)
first_same plan last (t ∷ ts) [] line other later rest h k f g e = absurd (g t (record { proper = h.0; is = sym (ap head_of e) }) h.1)
first_same plan last (t ∷ ts) (u ∷ us) line other later rest h k f g e =
    let same = turn_same plan t u h.0 k.0 (ap head_of e) in
    let more = first_same plan (Some t.key) ts us line other later rest h.2 (order_from plan t u us same k.2) f (fault_from plan t u us other same g) (ap tail_of e) in
    ((λ i. same i ∷ more.0 i), more.1)

-- the fault of a line after turns, as faults of files have it
abbrev IsAny : Plan → (List Turned → List ℕ → Type 0) → Type 0
IsAny plan has_fault = (turns : List Turned) (text : List ℕ) → has_fault turns text → IsAtFault plan (last_key None turns) text

module _ (plan : Plan) (bytes : List ℕ) where
  no_fault : (has_fault : List Turned → List ℕ → Type 0) (n : ℕ) (turns : List Turned) → IsAny plan has_fault → AreTurns plan (lines_of bytes) turns → IsFirstAtFault (AreTurns plan) has_fault bytes n → ⊥
  no_fault has_fault n turns any h k =
      let e = ap (λ l. l ++ (k.line ∷ k.later)) (sym k.sound.are) ∙ sym k.split ∙ h.are in
      no_fault_among plan None k.items turns k.line k.later k.sound.order h.order (any k.items k.line k.fault) (ap tail_of e)

  same_place : (fault foreign : List Turned → List ℕ → Type 0) (m n : ℕ) → IsAny plan fault → IsAny plan foreign → IsFirstAtFault (AreTurns plan) fault bytes m → IsFirstAtFault (AreTurns plan) foreign bytes n
      → (m ≡ n) × ((turns : List Turned) × (text : List ℕ) × fault turns text × foreign turns text)
  same_place fault foreign m n any other h k =
      let e = ap (λ l. l ++ (h.line ∷ h.later)) (sym h.sound.are) ∙ sym h.split ∙ k.split ∙ ap (λ l. l ++ (k.line ∷ k.later)) k.sound.are in
      let same = first_same plan None h.items k.items h.line k.line h.later k.later h.sound.order k.sound.order (any h.items h.line h.fault) (other k.items k.line k.fault) (ap tail_of e) in
      let long = ap length h.sound.are ∙ ap (λ l. length (head_line ∷ map (turn_text plan) l)) same.0 ∙ sym (ap length k.sound.are) in
      (sym h.counted ∙ ap (λ l. l + 1) long ∙ k.counted, (k.items, k.line, subst (fault k.items) same.1 (subst (λ (l : List Turned). fault l h.line) same.0 h.fault), k.fault))

  any_bad : IsAny plan (λ turns. IsNoTurn plan)
  any_bad turns text h = bad_at_fault plan (last_key None turns) text h

  any_foreign : IsAny plan (λ turns. IsForeignTurn plan)
  any_foreign turns text h = foreign_at_fault plan (last_key None turns) text h

  any_late : IsAny plan (λ turns. IsLate plan (last_key None turns))
  any_late turns text h = late_at_fault plan (last_key None turns) text h

  pub ordered_no_fault : (actions : List Named) (error : TraceError) → GivesInOrder plan (lines_of bytes) actions → IsOrderedFault plan bytes error → error ≡ trace.NoMemory
  ordered_no_fault actions trace.NoMemory h k = refl
  ordered_no_fault actions (trace.BadLine n) h k = absurd (no_fault (λ turns. IsNoTurn plan) n h.0 any_bad h.1 k)
  ordered_no_fault actions (trace.UnknownAction n) h k = absurd (no_fault (λ turns. IsForeignTurn plan) n h.0 any_foreign h.1 k)
  ordered_no_fault actions (trace.NotInOrder n) h k = absurd (no_fault (λ turns. IsLate plan (last_key None turns)) n h.0 any_late h.1 k)

  bad_foreign : (m n : ℕ) → IsOrderedFault plan bytes (trace.BadLine m) → IsOrderedFault plan bytes (trace.UnknownAction n) → ⊥
  bad_foreign m n h k =
      let place = (same_place (λ turns. IsNoTurn plan) (λ turns. IsForeignTurn plan) m n any_bad any_foreign h k).1 in
      bad_no_foreign plan place.1 place.2 place.3

  bad_late : (m n : ℕ) → IsOrderedFault plan bytes (trace.BadLine m) → IsOrderedFault plan bytes (trace.NotInOrder n) → ⊥
  bad_late m n h k =
      let place = (same_place (λ turns. IsNoTurn plan) (λ turns. IsLate plan (last_key None turns)) m n any_bad any_late h k).1 in
      says_no_bad plan place.1 place.3.turned place.3.says place.2

  foreign_late : (m n : ℕ) → IsOrderedFault plan bytes (trace.UnknownAction m) → IsOrderedFault plan bytes (trace.NotInOrder n) → ⊥
  foreign_late m n h k =
      let place = (same_place (λ turns. IsForeignTurn plan) (λ turns. IsLate plan (last_key None turns)) m n any_foreign any_late h k).1 in
      says_no_foreign plan place.1 place.3.turned place.3.says place.2

  pub ordered_fault_same : (error other : TraceError) → error ≢ trace.NoMemory → other ≢ trace.NoMemory → IsOrderedFault plan bytes error → IsOrderedFault plan bytes other → error ≡ other
  ordered_fault_same trace.NoMemory other f g h k = absurd (f refl)
  ordered_fault_same error trace.NoMemory f g h k = absurd (g refl)
  ordered_fault_same (trace.BadLine m) (trace.BadLine n) f g h k = ap trace.BadLine (same_place (λ turns. IsNoTurn plan) (λ turns. IsNoTurn plan) m n any_bad any_bad h k).0
  ordered_fault_same (trace.BadLine m) (trace.UnknownAction n) f g h k = absurd (bad_foreign m n h k)
  ordered_fault_same (trace.BadLine m) (trace.NotInOrder n) f g h k = absurd (bad_late m n h k)
  ordered_fault_same (trace.UnknownAction m) (trace.BadLine n) f g h k = absurd (bad_foreign n m k h)
  ordered_fault_same (trace.UnknownAction m) (trace.UnknownAction n) f g h k =
      ap trace.UnknownAction (same_place (λ turns. IsForeignTurn plan) (λ turns. IsForeignTurn plan) m n any_foreign any_foreign h k).0
  ordered_fault_same (trace.UnknownAction m) (trace.NotInOrder n) f g h k = absurd (foreign_late m n h k)
  ordered_fault_same (trace.NotInOrder m) (trace.BadLine n) f g h k = absurd (bad_late n m k h)
  ordered_fault_same (trace.NotInOrder m) (trace.UnknownAction n) f g h k = absurd (foreign_late n m k h)
  ordered_fault_same (trace.NotInOrder m) (trace.NotInOrder n) f g h k =
      ap trace.NotInOrder (same_place (λ turns. IsLate plan (last_key None turns)) (λ turns. IsLate plan (last_key None turns)) m n any_late any_late h k).0

pub ordered_same : (plan : Plan) (texts : List (List ℕ)) (one two : List Named) → GivesInOrder plan texts one → GivesInOrder plan texts two → one ≡ two
ordered_same plan texts one two h k =
    let same = lines_same plan None h.0 k.0 h.1.order k.1.order (ap tail_of (sym h.1.are ∙ k.1.are)) in
    h.2 ∙ ap actions_done same ∙ sym k.2
