-- Lines read one after another.
use Rattle.std.proofs.Common.{◌≡◌, ℕ, ◌+◌, List, [], ◌∷◌, ◌++◌, length, length-append, refl, ap, sym, subst, ◌∙◌, append-nil}
use Rattle.std.proofs.lemmas.List.{append_assoc}
use Rattle.terms.specs.Named.{Named}
use Rattle.plans.specs.declared.plan.Plan.{Plan}
use Rattle.task_seed.specs.Table.{lines_of}
use Rattle.event_keys.specs.declared.step.Step.{Step}
use Rattle.trace.specs.declared.line_fault.LineFault.{LineFault}
use Rattle.trace.specs.declared.line_fault.LineFault.TheVariants as fault
use Rattle.trace.specs.FileFaults.{IsFirstAtFault, IsFileFault}
use Rattle.trace.specs.TraceFile.{IsGiven, Gives, Blames, fault_of}
use Rattle.trace.specs.StepFile.{SaysStep, GivesSteps}

-- the lines before the rest are so many, and they give these items
pub record IsReadTo {X : Type 0} (gives : List (List ℕ) → List X → Type 0) (bytes rest : List ℕ) (count : ℕ) (items : List X) : Type 0 where
  pub before : List (List ℕ)
  pub split : lines_of bytes ≡ before ++ lines_of rest
  pub given : gives before items
  pub counted : length before ≡ count

module _ {X : Type 0} (gives : List (List ℕ) → List X → Type 0) where
  pub read_nothing : (bytes : List ℕ) → gives [] [] → IsReadTo gives bytes bytes 0 []
  read_nothing bytes none = record { before = []; split = refl; given = none; counted = refl }

  -- one line more
  pub read_more : (bytes rest text later : List ℕ) (count : ℕ) (items more : List X) (h : IsReadTo gives bytes rest count items) → lines_of rest ≡ text ∷ lines_of later → gives (h.before ++ text ∷ []) more → IsReadTo gives bytes later (count + 1) more
  read_more bytes rest text later count items more h e k =
      record {
        before = h.before ++ text ∷ [];
        split = h.split ∙ ap (λ l. h.before ++ l) e ∙ sym (append_assoc h.before (text ∷ []) (lines_of later));
        given = k;
        counted = length-append h.before (text ∷ []) ∙ ap (λ n. n + 1) h.counted;
      }

  -- no line more
  pub read_all : (bytes rest : List ℕ) (count : ℕ) (items : List X) → IsReadTo gives bytes rest count items → rest ≡ [] → gives (lines_of bytes) items
  read_all bytes rest count items h e = subst (λ l. gives l items) (sym (h.split ∙ ap (λ l. h.before ++ lines_of l) e ∙ append-nil h.before)) h.given

  -- the next line is at fault
  pub fault_next : (has_fault : List X → List ℕ → Type 0) (bytes rest text later : List ℕ) (count : ℕ) (items : List X) → IsReadTo gives bytes rest count items → lines_of rest ≡ text ∷ lines_of later → has_fault items text → IsFirstAtFault gives has_fault bytes (count + 1)
  fault_next has_fault bytes rest text later count items h e k =
      record {
        before = h.before;
        line = text;
        later = lines_of later;
        split = h.split ∙ ap (λ l. h.before ++ l) e;
        items = items;
        sound = h.given;
        counted = ap (λ n. n + 1) h.counted;
        fault = k;
      }

  pub file_fault : (bad unknown : List ℕ → Type 0) (bytes rest text later : List ℕ) (count : ℕ) (items : List X) (e : LineFault) → IsReadTo gives bytes rest count items → lines_of rest ≡ text ∷ lines_of later → Blames (bad text) (unknown text) e → IsFileFault gives bad unknown bytes (fault_of e (count + 1))
  file_fault bad unknown bytes rest text later count items fault.NoMemory h e k = tt
  file_fault bad unknown bytes rest text later count items fault.Bad h e k = fault_next (λ before. bad) bytes rest text later count items h e k
  file_fault bad unknown bytes rest text later count items fault.Unknown h e k = fault_next (λ before. unknown) bytes rest text later count items h e k

-- one line more of a trace
gives_more : (plan : Plan) (before : List (List ℕ)) (text : List ℕ) (actions given : List Named) → Gives plan before actions → IsGiven plan text given → Gives plan (before ++ text ∷ []) (actions ++ given)
gives_more plan [] text actions given h k = (given, [], k, refl, (λ i. h i ++ given) ∙ sym (append-nil given))
gives_more plan (t ∷ before) text actions given h k =
    (h.0, h.1 ++ given, h.2, gives_more plan before text h.1 given h.3 k, (λ i. h.4 i ++ given) ∙ append_assoc h.0 h.1 given)

pub actions_more : (plan : Plan) (bytes rest text later : List ℕ) (count : ℕ) (actions given : List Named) → IsReadTo (Gives plan) bytes rest count actions → lines_of rest ≡ text ∷ lines_of later → IsGiven plan text given → IsReadTo (Gives plan) bytes later (count + 1) (actions ++ given)
actions_more plan bytes rest text later count actions given h e k = read_more (Gives plan) bytes rest text later count actions (actions ++ given) h e (gives_more plan h.before text actions given h.given k)

-- one line more of a file of steps
gives_step_more : (plan : Plan) (before : List (List ℕ)) (text : List ℕ) (steps : List Step) (said : Step) → GivesSteps plan before steps → SaysStep plan text said → GivesSteps plan (before ++ text ∷ []) (steps ++ said ∷ [])
gives_step_more plan [] text [] said h k = (k, tt)
gives_step_more plan [] text (s ∷ steps) said h k = absurd h
gives_step_more plan (t ∷ before) text [] said h k = absurd h
gives_step_more plan (t ∷ before) text (s ∷ steps) said h k = (h.0, gives_step_more plan before text steps said h.1 k)

pub steps_more : (plan : Plan) (bytes rest text later : List ℕ) (count : ℕ) (steps : List Step) (said : Step) → IsReadTo (GivesSteps plan) bytes rest count steps → lines_of rest ≡ text ∷ lines_of later → SaysStep plan text said → IsReadTo (GivesSteps plan) bytes later (count + 1) (steps ++ said ∷ [])
steps_more plan bytes rest text later count steps said h e k = read_more (GivesSteps plan) bytes rest text later count steps (steps ++ said ∷ []) h e (gives_step_more plan h.before text steps said h.given k)
