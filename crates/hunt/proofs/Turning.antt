-- Turns that are taken one after another, up to the first that does what is wanted.
use Rattle.std.proofs.Common.{◌≡◌, ◌-◌, ◌<◌, ◌||◌, true, false, List, [], ◌∷◌, ◌++◌, length, refl, ap, sym, subst, ◌∙◌, arith, length-append}
use Rattle.std.specs.List.{list_any}
use Rattle.std.proofs.lemmas.List.Folds.{list_any-append}
use Rattle.terms.specs.Named.{Named}
use Rattle.event_keys.specs.declared.outcome.Turned.{Turned}
use Rattle.virtual_time.specs.Reference.{Turn, IsReference, reference_below}
use Rattle.plans.specs.declared.plan.Plan.{Plan}
use Rattle.task_seed.specs.Machines.{machine, end_rank}
use Rattle.task_seed.specs.Taken.{turn_of, turns_of}
use Rattle.task_seed.specs.Turning.{System}
use Rattle.schedules.specs.Schedules.{AreAllTurns, KeysFit}
use Rattle.schedules.proofs.Told.{followed, turns_joined}
use Rattle.reference.specs.Views.{IsComplete}
use Rattle.hunt.specs.declared.wanted.Wanted.{Wanted}
use Rattle.hunt.specs.Known.{IsKnown}
use Rattle.hunt.specs.Sightings.{NeverOccurs, Occurs, saw}

-- no turns are all those below the least key
pub complete_none : (s : System) {taken : List (Turn Named)} → taken ≡ [] → IsComplete (machine s) taken
complete_none s none = record { bound = 0; within = omega arith; is = none }

-- one more turn was taken
pub one_taken : {taken now : List (Turn Named)} (turns : List Turned) (turned : Turned) → now ≡ turn_of turned ∷ taken → turns_of turns ≡ taken → turns_of (turns ++ turned ∷ []) ≡ now
one_taken turns turned next are = turns_joined turns (turned ∷ []) ∙ ap (λ l. turn_of turned ∷ l) are ∙ sym next

-- one more turn that didn't do it
pub unseen_more : (wanted : Wanted) (turns : List Turned) (turned : Turned) → list_any (saw wanted) turns ≡ false → saw wanted turned ≡ false → list_any (saw wanted) (turns ++ turned ∷ []) ≡ false
unseen_more wanted turns turned none here = list_any-append (saw wanted) turns (turned ∷ []) ∙ (λ i. none i || (here i || false))

module _ (plan : Plan) (s : System) (laws : IsKnown plan s) where
  -- all turns begin with these
  all_after : (turns : List Turned) → IsComplete (machine s) (turns_of turns) → KeysFit turns → (later : List Turned) × AreAllTurns plan s (turns ++ later)
  all_after turns complete keys =
      let found = laws.begins complete.bound complete.within in
      let rest = followed (machine s) turns found.0 (found.1 ∙ ap (λ l. found.0 ++ l) (sym complete.is)) keys in
      (rest.later, record { all = rest.are; keys = rest.keys; scheduled = laws.scheduled (turns ++ rest.later) end_rank (omega arith) rest.are })

  -- one turn more leaves fewer to take
  pub fewer_left : (old new : List (Turn Named)) (turn : Turn Named) → new ≡ turn ∷ old → IsComplete (machine s) new
      → length (reference_below (machine s) end_rank) - length new < length (reference_below (machine s) end_rank) - length old
  fewer_left old new turn next complete =
      let found = laws.begins complete.bound complete.within in
      let whole = ap length found.1 ∙ length-append found.0 (reference_below (machine s) complete.bound) in
      let here = ap length complete.is in
      let more = ap length next in
      omega (arith, whole, here, more)

  module _ (wanted : Wanted) where
    -- the last of the turns that were taken did it
    pub seen_last : {now : List (Turn Named)} (turns all : List Turned) (turned : Turned) → all ≡ turns ++ turned ∷ [] → turns_of all ≡ now → IsComplete (machine s) now → KeysFit all
        → list_any (saw wanted) turns ≡ false → saw wanted turned ≡ true → Occurs plan s wanted all
    seen_last turns all turned is are complete keys none here =
        let rest = all_after all (subst (IsComplete (machine s)) (sym are) complete) keys in record {
          all = all ++ rest.0;
          are = rest.1;
          later = rest.0;
          begin = refl;
          first = record { before = turns; last = turned; are = is; seen = here; unseen = none };
        }

    -- all turns were taken, and none did it
    pub never : {taken : List (Turn Named)} (turns : List Turned) → turns_of turns ≡ taken → IsReference (machine s) end_rank taken → KeysFit turns → list_any (saw wanted) turns ≡ false → NeverOccurs plan s wanted
    never {taken = taken} turns are whole keys none =
        let is = are ∙ laws.one taken whole in
        record { all = turns; are = record { all = is; keys = keys; scheduled = laws.scheduled turns end_rank (omega arith) is }; unseen = none }
