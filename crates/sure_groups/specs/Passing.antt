-- An action that passes to those that take it.
use Rattle.std.specs.Prelude.{◌≡◌, true, ℕ, suc, Option, None, Some, List, [], length, slice_get}
use Rattle.terms.specs.Datum.{Datum}
use Rattle.terms.specs.Named.{Named}
use Rattle.event_keys.specs.declared.key.Key.{Key}
use Rattle.event_keys.specs.Ranks.{rank}
use Rattle.io_automata.specs.Automata.{Instance}
use Rattle.io_automata.specs.Receivers.{IsIn}
use Rattle.io_automata.specs.Signatures.{receivers_of}
use Rattle.io_automata.specs.Steps.{applied}
use Rattle.plans.specs.Memos.{IsMemo}
use Rattle.task_seed.specs.Turning.{System}
use Rattle.shares.specs.Turns.{group_at}
use Rattle.sure_groups.specs.declared.bags.Bag.{Bag}
use Rattle.sure_groups.specs.declared.input.Input.{Input}
use Rattle.sure_groups.specs.declared.member.Member.{Member}
use Rattle.sure_groups.specs.Inputs.{Comes, IsOneOf}
use Rattle.sure_groups.specs.Members.{IsMember}
use Rattle.sure_groups.specs.Sure.{AreBags, AreMembers}

-- those that receive the action of a turn of component i, if there is one
abbrev pub receivers_in : List Instance → ℕ → Option Named → List ℕ
receivers_in composition i None = []
receivers_in composition i (Some action) = receivers_of composition action i

-- an input that came at a rank waits
abbrev pub Waits : List Input → ℕ → Type 0
Waits pending r = (x : Input) × IsOneOf pending x × (rank x.key ≡ r)

-- an input for a component that came at a rank is gathered
abbrev pub IsGathered : List Input → (j r : ℕ) → Type 0
IsGathered inputs j r = (x : Input) × IsOneOf inputs x × (x.to ≡ j) × (rank x.key ≡ r)

module _ (s : System) (groups : List ℕ) (heard : List (Option Key)) (me k i : ℕ) where
  -- An action of component i at the rank k came to these components: it waits where they are of its group, and is gathered for their groups else.
  pub record IsPassedOn (done : List ℕ) (olds news : List Member) (bags : List Bag) : Type 0 where
    pub many : length news ≡ length olds
    pub members : AreMembers s groups heard me k news
    pub own : slice_get news i ≡ slice_get olds i
    pub brought : (j : ℕ) (member : Member) → slice_get news j ≡ Some member → group_at groups j ≡ me → IsIn j done ≡ true → Waits member.pending.items k
    pub bags_are : AreBags s groups me k bags
    pub gathered : (group j : ℕ) (bag : Bag) → slice_get bags group ≡ Some bag → (group ≡ me → ⊥) → group_at groups j ≡ group → IsIn j done ≡ true → IsGathered bag.inputs.items j k

  -- what a turn leaves of its component's state
  abbrev pub acted : Option Named → List Datum → List Datum
  acted None state = state
  acted (Some action) state = applied s.composition i action state

  -- The turn of component i at the rank k was taken with this outcome: by it, and what came of it to others waits or is gathered.
  pub record HasActed (found : Option Named) (olds news : List Member) (bags : List Bag) : Type 0 where
    pub many : length news ≡ length olds
    pub others : (j : ℕ) (member : Member) → slice_get news j ≡ Some member → group_at groups j ≡ me → (j ≡ i → ⊥)
        → IsMember s groups heard k j member × ((action : Named) → Comes s j k action → Waits member.pending.items k)
    pub own : (old new : Member) → slice_get olds i ≡ Some old → slice_get news i ≡ Some new
        → (new.state.below ≡ []) × IsMemo s.composition i new.state.current new.memo × (new.pending.items ≡ old.pending.items) × (new.state.current ≡ acted found old.state.current)
    pub bags_are : AreBags s groups me (suc k) bags
