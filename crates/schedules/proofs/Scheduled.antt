-- The actions of a run are a schedule of the composition.
use Rattle.std.proofs.Common.{◌≡◌, ◌≢◌, ℕ, zero, suc, ◌⊎◌, inl, inr, Bool, true, false, Option, None, Some, List, [], ◌∷◌, ◌++◌, map, reverse, refl, ap, sym, subst, ◌∙◌}
use Rattle.std.specs.Prelude.{not, ◌&&◌, ◌||◌, slice_get}
use Rattle.std.specs.List.{list_any}
use Rattle.std.proofs.lemmas.List.{reverse-append}
use Rattle.std.proofs.lemmas.Bool.{cases_eq, ne_eqb}
use Rattle.terms.specs.Datum.{Datum}
use Rattle.terms.specs.Named.{Named}
use Rattle.event_keys.specs.declared.outcome.Turned.{Turned}
use Rattle.event_keys.specs.Entries.{action_of}
use Rattle.io_automata.specs.declared.automaton.Kind.{Kind}
use Rattle.io_automata.specs.declared.automaton.Kind.TheVariants.{Input, Output, Internal}
use Rattle.io_automata.specs.Automata.{component_at}
use Rattle.io_automata.specs.Compatible.{IsCompatible}
use Rattle.io_automata.specs.WellFormed.{IsWellFormed}
use Rattle.io_automata.specs.Outcomes.{outcome_of}
use Rattle.io_automata.specs.Signatures.{has, has_as, same_kind, any_as, inputs, outputs, internals, acts, controls, receives}
use Rattle.io_automata.specs.Steps.{Joint, Leads, IsSchedule, applied, is_enabled, start_of}
use Rattle.io_automata.specs.TurnSteps.{IsOffered, outcome_offered}
use Rattle.virtual_time.specs.Executions.{IsJoint, IsExecution, add_action, schedule}
use Rattle.virtual_time.specs.Reference.{Turn}
use Rattle.task_seed.specs.declared.turns.Turn.{Turn as Row}
use Rattle.task_seed.specs.Turning.{System, turn_in}
use Rattle.task_seed.specs.Machines.{machine, outcome_by, turn_outcome}
use Rattle.task_seed.specs.Taken.{turn_of, turns_of}
use Rattle.schedules.specs.Schedules.{actions_of}

any_at : {X : Type 0} (test : X → Bool) (xs : List X) (place : ℕ) (x : X) → slice_get xs place ≡ Some x → test x ≡ true → list_any test xs ≡ true
any_at test [] place x at passes = cc
any_at test (y ∷ ys) zero x at passes =
    let same : y ≡ x = cc in
    ap (λ b. b || list_any test ys) (ap test same ∙ passes)
any_at test (y ∷ ys) (suc place) x at passes = go (test y) (any_at test ys place x at passes) where
  go : (b : Bool) → list_any test ys ≡ true → (b || list_any test ys) ≡ true
  go true rest = refl
  go false rest = rest

schedule_append : {A : Type 0} (xs ys : List (Turn A)) → schedule (xs ++ ys) ≡ schedule xs ++ schedule ys
schedule_append {A} [] ys = refl
schedule_append {A} (x ∷ xs) ys = ap (add_action x.outcome) (schedule_append xs ys) ∙ go x.outcome where
  go : (o : Option A) → add_action o (schedule xs ++ schedule ys) ≡ add_action o (schedule xs) ++ schedule ys
  go None = refl
  go (Some a) = refl

-- the schedule of turns, the last one first, is that of their actions
actions_reversed : (turns : List Turned) → reverse (schedule (turns_of turns)) ≡ actions_of turns
actions_reversed [] = refl
actions_reversed (t ∷ ts) =
    ap (λ l. reverse (schedule l)) (reverse-append (turn_of t ∷ []) (map turn_of ts)) ∙ ap reverse (schedule_append (turns_of ts) (turn_of t ∷ []))
    ∙ reverse-append (schedule (turns_of ts)) (schedule (turn_of t ∷ [])) ∙ ap (λ l. reverse (schedule (turn_of t ∷ [])) ++ l) (actions_reversed ts) ∙ go (action_of t.outcome) where
      go : (o : Option Named) → reverse (add_action o []) ++ actions_of ts ≡ add_action o (actions_of ts)
      go None = refl
      go (Some a) = refl

module _ (s : System) (compatible : IsCompatible s.composition) (formed : IsWellFormed s.composition)
    (step : (i task choice : ℕ) (state : ℕ → List Datum) (action : Named) → outcome_of s.composition i task choice (state i) ≡ Some action → Joint s.composition state action (λ j. applied s.composition j action (state j))) where
  -- whose entry is offered controls the action
  in_control : (i : ℕ) (state : List Datum) (action : Named) → IsOffered (component_at s.composition i) state action → controls s.composition i action ≡ true
  in_control i state action offered = go offered.entry.kind refl where
    any : (k : Kind) → offered.entry.kind ≡ k → same_kind k k ≡ true → any_as k (component_at s.composition i) action ≡ true
    any k is own =
        any_at (has_as k (component_at s.composition i).formals action) (component_at s.composition i).entries offered.place offered.entry offered.at
        (ap (λ b. b && has (component_at s.composition i).formals action offered.entry) (ap (same_kind k) is ∙ own) ∙ offered.has)

    or_true : (a : Bool) → (a || true) ≡ true
    or_true true = refl
    or_true false = refl

    go : (k : Kind) → offered.entry.kind ≡ k → controls s.composition i action ≡ true
    go Input is = let local : same_kind Input Input ≡ false = subst (λ k. same_kind Input k ≡ false) is offered.local in cc
    go Output is = ap (λ b. b || internals s.composition i action) (any Output is refl)
    go Internal is = ap (λ b. outputs s.composition i action || b) (any Internal is refl) ∙ or_true (outputs s.composition i action)

  -- who controls an action is alone in that, and nobody else has it but as an input
  not_acting : (i j : ℕ) (action : Named) → controls s.composition i action ≡ true → i ≢ j → inputs s.composition j action ≡ false → acts s.composition j action ≡ false
  not_acting i j action control other none = go (inputs s.composition j action) (outputs s.composition j action) (internals s.composition j action) refl refl refl where
    whose : (a b : Bool) → outputs s.composition i action ≡ a → internals s.composition i action ≡ b → (a || b) ≡ true → (outputs s.composition j action ≡ true) ⊎ (internals s.composition j action ≡ true) → acts s.composition j action ≡ true → ⊥
    whose true b e f h (inl out) all = compatible.own_outputs i j action other e out
    whose true b e f h (inr inside) all = compatible.own_internals j i action (λ g. other (sym g)) inside (acting (inputs s.composition i action) e) where
      acting : (a : Bool) → outputs s.composition i action ≡ true → (a || outputs s.composition i action || internals s.composition i action) ≡ true
      acting true g = refl
      acting false g = ap (λ b. b || internals s.composition i action) g
    whose false true e f h which all = compatible.own_internals i j action other f all
    whose false false e f h which all = cc

    out_acts : (a : Bool) → outputs s.composition j action ≡ true → (a || outputs s.composition j action || internals s.composition j action) ≡ true
    out_acts true g = refl
    out_acts false g = ap (λ b. b || internals s.composition j action) g

    or_true : (a : Bool) → (a || true) ≡ true
    or_true true = refl
    or_true false = refl

    in_acts : (a b : Bool) → internals s.composition j action ≡ true → (a || b || internals s.composition j action) ≡ true
    in_acts true b g = refl
    in_acts false b g = ap (λ c. b || c) g ∙ or_true b

    go : (a b c : Bool) → inputs s.composition j action ≡ a → outputs s.composition j action ≡ b → internals s.composition j action ≡ c → acts s.composition j action ≡ false
    go true b c e f g = let both : ◌≡◌ {A = Bool} true false = sym e ∙ none in cc
    go false true c e f g = absurd (whose (outputs s.composition i action) (internals s.composition i action) refl refl control (inl f) (out_acts (inputs s.composition j action) f))
    go false false true e f g = absurd (whose (outputs s.composition i action) (internals s.composition i action) refl refl control (inr g) (in_acts (inputs s.composition j action) (outputs s.composition j action) g))
    go false false false e f g = ap (λ a. a || outputs s.composition j action || internals s.composition j action) e ∙ ap (λ b. b || internals s.composition j action) f ∙ g

  -- what a turn did, by the row of the turn
  pub record IsDone (i : ℕ) (state : List Datum) (action : Named) : Type 0 where
    pub task : ℕ
    pub choice : ℕ
    pub is : outcome_of s.composition i task choice state ≡ Some action

  done_by : (i n : ℕ) (state : List Datum) (action : Named) → turn_outcome s i n state ≡ Some action → IsDone i state action
  done_by i n state action e = go (turn_in s i n) e where
    go : (row : Option Row) → outcome_by s i row state ≡ Some action → IsDone i state action
    go None f = cc
    go (Some row) f = record { task = row.task; choice = row.choice; is = f }

  joint_of : (old new : ℕ → List Datum) (action : Named) → IsJoint (machine s) old action new → Joint s.composition old action new
  joint_of old new action h = record { actor = j.actor; acting = j.acting; enabled = j.enabled; changes = changes; stays = stays } where
    done : IsDone h.by (old h.by) action
    done = done_by h.by h.turn (old h.by) action h.enabled

    j : Joint s.composition old action (λ k. applied s.composition k action (old k))
    j = step h.by done.task done.choice old action done.is

    control : controls s.composition h.by action ≡ true
    control = in_control h.by (old h.by) action (outcome_offered s.composition formed h.by done.task done.choice (old h.by) action done.is)

    away : (k : ℕ) → (k ≡ h.by → ⊥) → receives s.composition h.by action k ≡ inputs s.composition k action
    away k ne = ap (λ b. not b && inputs s.composition k action) (ne_eqb k h.by ne)

    all : (k : ℕ) → new k ≡ applied s.composition k action (old k)
    all k = go (cases_eq k h.by) where
      rest : (k ≡ h.by → ⊥) → (b : Bool) → receives s.composition h.by action k ≡ b → new k ≡ applied s.composition k action (old k)
      rest ne true e = h.input k e
      rest ne false e = h.others k ne e ∙ sym (j.stays k (not_acting h.by k action control (λ f. ne (sym f)) (sym (away k ne) ∙ e)))

      go : (k ≡ h.by) ⊎ (k ≡ h.by → ⊥) → new k ≡ applied s.composition k action (old k)
      go (inl e) = subst (λ i. new i ≡ applied s.composition i action (old i)) (sym e) h.own
      go (inr ne) = rest ne (receives s.composition h.by action k) refl

    changes : (k : ℕ) → acts s.composition k action ≡ true → new k ≡ applied s.composition k action (old k)
    changes k has = all k

    stays : (k : ℕ) → acts s.composition k action ≡ false → new k ≡ old k
    stays k none = all k ∙ j.stays k none

  -- one more joint step at the end
  leads_more : (old : ℕ → List Datum) (actions : List Named) (between new : ℕ → List Datum) (action : Named) → Leads s.composition old actions between → Joint s.composition between action new → Leads s.composition old (actions ++ action ∷ []) new
  leads_more old [] between new action leads one = (
    new,
    record {
      actor = one.actor;
      acting = one.acting;
      enabled = λ i c. subst (λ (state : List Datum). is_enabled s.composition i action state ≡ true) (leads i) (one.enabled i c);
      changes = λ i a. one.changes i a ∙ ap (applied s.composition i action) (leads i);
      stays = λ i a. one.stays i a ∙ leads i;
    },
    λ i. refl,
  )
  leads_more old (a ∷ actions) between new action leads one = (leads.0, leads.1, leads_more leads.0 actions between new action leads.2 one)

  leads_of : (actions : List Named) (new : ℕ → List Datum) → IsExecution (machine s) actions new → Leads s.composition (start_of s.composition) (reverse actions) new
  leads_of [] new run = run
  leads_of (a ∷ actions) new run = subst (λ l. Leads s.composition (start_of s.composition) l new) (sym (reverse-append (a ∷ []) actions)) (leads_more (start_of s.composition) (reverse actions) run.0 new a (leads_of actions run.0 run.1) (joint_of run.0 new a run.2))

  pub is_schedule : (turns : List Turned) (new : ℕ → List Datum) → IsExecution (machine s) (schedule (turns_of turns)) new → IsSchedule s.composition (actions_of turns)
  is_schedule turns new run = (new, subst (λ l. Leads s.composition (start_of s.composition) l new) (actions_reversed turns) (leads_of (schedule (turns_of turns)) new run))
