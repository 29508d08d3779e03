-- What is found among the seeds of a range, which ends before its end.
use Rattle.std.specs.List.{All}
use Rattle.std.specs.Prelude.{◌≡◌, ◌<◌, ◌≤◌, ◌+◌, ◌-◌, ◌⊎◌, ℕ, zero, suc, List, ◌++◌, Option, None, Some, codes, decimal}
use Rattle.event_keys.specs.declared.outcome.Turned.{Turned}
use Rattle.plans.specs.declared.plan.Plan.{Plan}
use Rattle.hunt.specs.declared.find.Find.{Find}
use Rattle.hunt.specs.declared.find.Part.{Part}
use Rattle.hunt.specs.declared.find.Part.TheVariants.{Found, Nothing, GivenUp, Counted}
use Rattle.hunt.specs.declared.find.Taken.{Taken}
use Rattle.hunt.specs.Seeds.{Has, Hunted, Lacks}
use Rattle.hunt.specs.Sightings.{seed_text}

-- no seed of the range has the action
abbrev pub AllLack : Hunted → ℕ → ℕ → Type 0
AllLack h from end = (seed : ℕ) → from ≤ seed → seed < end → Lacks h seed

-- the least seed of the range that has it, with what holds of its turns
pub record IsLeast (h : Hunted) (from end seed : ℕ) (Holds : Plan → List Turned → Type 0)
    : Type 0 where
  pub within : from ≤ seed
  pub below : seed < end
  pub has : Has h seed Holds
  pub first : AllLack h from seed

-- the least seed of the range that has the action, with the text of its turns up to that one
abbrev pub IsFind : Hunted → ℕ → ℕ → Find → Type 0
IsFind h from end find =
    IsLeast h from end find.seed (λ plan turns. find.text.items ≡ seed_text find.seed plan turns)

-- what is found in the range
abbrev pub IsFound : Hunted → ℕ → ℕ → Option Find → Type 0
IsFound h from end None = AllLack h from end
IsFound h from end (Some find) = IsFind h from end find

-- so many seeds from one on, of which a number has the action
abbrev pub AreSeeds : Hunted → ℕ → (many count : ℕ) → Type 0
AreSeeds h from zero count = count ≡ 0
AreSeeds h from (suc many) count =
    (Lacks h (from + many) × AreSeeds h from many count)
    ⊎ (Has h (from + many) (λ plan turns. Unit {0})
    × ((fewer : ℕ) × AreSeeds h from many fewer × (count ≡ suc fewer)))

-- so many seeds of the range have it
abbrev pub IsCount : Hunted → ℕ → ℕ → ℕ → Type 0
IsCount h from end count = AreSeeds h from (end - from) count

-- what a look at the range came to; of one that was given up nothing is said
abbrev pub IsPart : Hunted → ℕ → ℕ → Part → Type 0
IsPart h from end (Found find) = IsFind h from end find
IsPart h from end Nothing = AllLack h from end
IsPart h from end GivenUp = Unit {0}
IsPart h from end (Counted count) = IsCount h from end count

-- these are parts of a range, and what a look at each came to
abbrev pub AreTaken : Hunted → List Taken → Type 0
AreTaken h = All (λ taken. IsPart h taken.from taken.end taken.part)

-- the text that tells the least seed became this
pub record IsTold (h : Hunted) (from end : ℕ) (Became : List ℕ → Type 0) : Type 0 where
  pub seed : ℕ
  pub least : IsLeast h from end seed (λ plan turns. Became (seed_text seed plan turns))

-- the line of a range in which no seed has it became this
pub record IsNone (h : Hunted) (from end : ℕ) (Became : List ℕ → Type 0) : Type 0 where
  pub lack : AllLack h from end
  pub became : Became (codes "none\n")

-- the line of a count became this
pub record IsCounted (h : Hunted) (from end : ℕ) (Became : List ℕ → Type 0) : Type 0 where
  pub count : ℕ
  pub are : IsCount h from end count
  pub became : Became (decimal count ++ codes "\n")

-- the text of the least seed, or the line that there is none, became this
abbrev pub IsAnswered : Hunted → ℕ → ℕ → (List ℕ → Type 0) → Type 0
IsAnswered h from end Became = IsTold h from end Became ⊎ IsNone h from end Became
