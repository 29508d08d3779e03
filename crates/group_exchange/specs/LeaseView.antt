-- What a lease of a group holds, as the theory sees it.
use Rattle.std.specs.Prelude.{◌≡◌, ℕ, ◌≤◌, List, []}
use Rattle.terms.specs.Datum.{Datum}
use Rattle.terms.specs.Named.{Named}
use Rattle.event_keys.specs.declared.message.Sign.TheVariants.{Plus}
use Rattle.virtual_time.specs.Machine.{Machine}
use Rattle.virtual_time.specs.Groups.Leases.{IsLease, Matches}
use Rattle.virtual_time.specs.Groups.Stubs.{Stub}
use Rattle.rollback.specs.Flight.{in_flight}
use Rattle.groups.specs.GroupView.{AreMembers, GroupView, is_member, lease_of}

module _ {P : Type 0} where
  -- whatever the groups of the other components: it has what each lease of the theory has, and matches some stub; there are so many
  -- components
  pub record IsValidLease (m : Machine (List Datum) Named) (count : ℕ) (v : GroupView P) : Type 0 where
    pub lease : (group : ℕ → ℕ) → AreMembers group v.number v.components → IsLease m group v.number (lease_of m v)
    pub stub : Stub Named
    pub match : (group : ℕ → ℕ) → AreMembers group v.number v.components → Matches m group v.number stub (lease_of m v)
    -- each outgoing message goes to a component that exists
    pub inside : (j : ℕ) → count ≤ j → in_flight Plus j v.out ≡ []

  -- it is the same group of the same setup, with the same components
  abbrev pub KeepsMembers : GroupView P → GroupView P → Type 0
  KeepsMembers old new =
      (new.setup ≡ old.setup)
      × (new.number ≡ old.number)
      × ((j : ℕ) → is_member new.components j ≡ is_member old.components j)
