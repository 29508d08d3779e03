-- The error of the least number is the least fault.
use Rattle.std.proofs.Common.{arith, ◌≡◌, ◌≤◌, ◌<◌, ℕ, nat_lt, Bool, true, false, if◌then◌else◌, Option, None, Some, List, length, refl, subst}
use Rattle.std.proofs.lemmas.Bool.Decides.{nat_tests}
use Rattle.ioa_trees.specs.Trees.{Bytes}
use Rattle.ioa_trees.specs.SourceRules.{MeantSource}
use Rattle.compose.specs.Rules.{IsFirst}
use Rattle.compose.specs.Names.{AreNames}
use Rattle.compose.specs.declared.fault.ComposeError.{ComposeError}
use Rattle.compose.specs.declared.fault.ComposeError.TheVariants as error
use Rattle.compose.specs.Faults.{Fault, Unknown, Own, Internal, Output, Types, Many, Hidden, fault_number, HasFault, IsLeastFault, IsRefused, last_error, least_error}

module _ (names : List Bytes) (m : MeantSource) (are : AreNames names m) where
  -- the first components with each fault, and the first hidden name at fault
  pub record Firsts (unknown own internal output types : Option ℕ) (n : ℕ) (hidden : Option ℕ) : Type 0 where
    pub unknown_first : IsFirst (HasFault names m Unknown) unknown
    pub own_first : IsFirst (HasFault names m Own) own
    pub internal_first : IsFirst (HasFault names m Internal) internal
    pub output_first : IsFirst (HasFault names m Output) output
    pub types_first : IsFirst (HasFault names m Types) types
    pub count : n ≡ length m.components
    pub hidden_first : IsFirst (HasFault names m Hidden) hidden

  not_less : (f g : Fault) → fault_number g < fault_number f → fault_number f ≤ fault_number g → ⊥
  not_less f g l h = absurd (omega (arith, l, h))

  unknown_least : (j : ℕ) → IsFirst (HasFault names m Unknown) (Some j) → IsLeastFault names m Unknown j
  unknown_least j h = record { first = h; least = least }
    where
      least : (g : Fault) (k : ℕ) → fault_number g < 20 → HasFault names m g k → ⊥
      least Unknown k l i = absurd (omega (arith, l))
      least Own k l i = absurd (omega (arith, l))
      least Internal k l i = absurd (omega (arith, l))
      least Output k l i = absurd (omega (arith, l))
      least Types k l i = absurd (omega (arith, l))
      least Many k l i = absurd (omega (arith, l))
      least Hidden k l i = absurd (omega (arith, l))

  module _ (u : IsFirst (HasFault names m Unknown) None) where
    own_least : (j : ℕ) → IsFirst (HasFault names m Own) (Some j) → IsLeastFault names m Own j
    own_least j h = record { first = h; least = least }
      where
        least : (g : Fault) (k : ℕ) → fault_number g < 21 → HasFault names m g k → ⊥
        least Unknown k l i = u k i
        least Own k l i = absurd (omega (arith, l))
        least Internal k l i = absurd (omega (arith, l))
        least Output k l i = absurd (omega (arith, l))
        least Types k l i = absurd (omega (arith, l))
        least Many k l i = absurd (omega (arith, l))
        least Hidden k l i = absurd (omega (arith, l))

    module _ (o : IsFirst (HasFault names m Own) None) where
      internal_least : (j : ℕ) → IsFirst (HasFault names m Internal) (Some j) → IsLeastFault names m Internal j
      internal_least j h = record { first = h; least = least }
        where
          least : (g : Fault) (k : ℕ) → fault_number g < 22 → HasFault names m g k → ⊥
          least Unknown k l i = u k i
          least Own k l i = o k i
          least Internal k l i = absurd (omega (arith, l))
          least Output k l i = absurd (omega (arith, l))
          least Types k l i = absurd (omega (arith, l))
          least Many k l i = absurd (omega (arith, l))
          least Hidden k l i = absurd (omega (arith, l))

      module _ (t : IsFirst (HasFault names m Internal) None) where
        output_least : (j : ℕ) → IsFirst (HasFault names m Output) (Some j) → IsLeastFault names m Output j
        output_least j h = record { first = h; least = least }
          where
            least : (g : Fault) (k : ℕ) → fault_number g < 23 → HasFault names m g k → ⊥
            least Unknown k l i = u k i
            least Own k l i = o k i
            least Internal k l i = t k i
            least Output k l i = absurd (omega (arith, l))
            least Types k l i = absurd (omega (arith, l))
            least Many k l i = absurd (omega (arith, l))
            least Hidden k l i = absurd (omega (arith, l))

        module _ (p : IsFirst (HasFault names m Output) None) where
          types_least : (j : ℕ) → IsFirst (HasFault names m Types) (Some j) → IsLeastFault names m Types j
          types_least j h = record { first = h; least = least }
            where
              least : (g : Fault) (k : ℕ) → fault_number g < 24 → HasFault names m g k → ⊥
              least Unknown k l i = u k i
              least Own k l i = o k i
              least Internal k l i = t k i
              least Output k l i = p k i
              least Types k l i = absurd (omega (arith, l))
              least Many k l i = absurd (omega (arith, l))
              least Hidden k l i = absurd (omega (arith, l))

          module _ (s : IsFirst (HasFault names m Types) None) where
            many_least : 1024 < length m.components → IsLeastFault names m Many 1024
            many_least h = record { first = ((refl, h), λ k i. let same : k ≡ 1024 = i.0 in omega (arith, same)); least = least }
              where
                least : (g : Fault) (k : ℕ) → fault_number g < 25 → HasFault names m g k → ⊥
                least Unknown k l i = u k i
                least Own k l i = o k i
                least Internal k l i = t k i
                least Output k l i = p k i
                least Types k l i = s k i
                least Many k l i = absurd (omega (arith, l))
                least Hidden k l i = absurd (omega (arith, l))

            module _ (n : 1024 < length m.components → ⊥) where
              hidden_least : (j : ℕ) → IsFirst (HasFault names m Hidden) (Some j) → IsLeastFault names m Hidden j
              hidden_least j h = record { first = h; least = least }
                where
                  least : (g : Fault) (k : ℕ) → fault_number g < 36 → HasFault names m g k → ⊥
                  least Unknown k l i = u k i
                  least Own k l i = o k i
                  least Internal k l i = t k i
                  least Output k l i = p k i
                  least Types k l i = s k i
                  least Many k l i = n i.1
                  least Hidden k l i = absurd (omega (arith, l))

              no_fault : IsFirst (HasFault names m Hidden) None → (f : Fault) (j : ℕ) → HasFault names m f j → ⊥
              no_fault h Unknown j i = u j i
              no_fault h Own j i = o j i
              no_fault h Internal j i = t j i
              no_fault h Output j i = p j i
              no_fault h Types j i = s j i
              no_fault h Many j i = n i.1
              no_fault h Hidden j i = h j i

  many_by : (n : ℕ) → n ≡ length m.components → nat_lt 1024 n ≡ true → 1024 < length m.components
  many_by n same h = grind (arith, nat_tests)

  few_by : (n : ℕ) → n ≡ length m.components → nat_lt 1024 n ≡ false → 1024 < length m.components → ⊥
  few_by n same h l = let few : n ≤ 1024 = grind (arith, nat_tests) in absurd (omega (arith, few, same, l))

  named : (e : ComposeError) (f : Fault) (j : ℕ) → IsLeastFault names m f j → (names : List Bytes) × (AreNames names m × IsLeastFault names m f j)
  named e f j h = (names, (are, h))

  last_by : (n : ℕ) (b : Bool) → nat_lt 1024 n ≡ b → (hidden : Option ℕ) → IsFirst (HasFault names m Hidden) hidden → (e : ComposeError)
      → (1024 < length m.components → IsLeastFault names m Many 1024)
      → ((1024 < length m.components → ⊥) → (j : ℕ) → IsFirst (HasFault names m Hidden) (Some j) → IsLeastFault names m Hidden j)
      → n ≡ length m.components → (if b then Some error.TooManyComponents else last_error hidden) ≡ Some e → IsRefused m e
  last_by n true h hidden first e many others same is = let found : error.TooManyComponents ≡ e = cc in subst (IsRefused m) found (names, (are, many (many_by n same h)))
  last_by n false h (Some j) first e many others same is = let found : error.NotAnOutput j ≡ e = cc in subst (IsRefused m) found (names, (are, others (few_by n same h) j first))
  last_by n false h None first e many others same is = cc

  -- what is answered is the least fault
  pub refused_by : (unknown own internal output types : Option ℕ) (n : ℕ) (hidden : Option ℕ) → Firsts unknown own internal output types n hidden
      → (e : ComposeError) → least_error unknown own internal output types n hidden ≡ Some e → IsRefused m e
  refused_by (Some j) own internal output types n hidden h e is = let found : error.NoSuchAutomaton j ≡ e = cc in subst (IsRefused m) found (names, (are, unknown_least j h.unknown_first))
  refused_by None (Some j) internal output types n hidden h e is = let found : error.OwnOverlap j ≡ e = cc in subst (IsRefused m) found (names, (are, own_least h.unknown_first j h.own_first))
  refused_by None None (Some j) output types n hidden h e is = let found : error.InternalShared j ≡ e = cc in subst (IsRefused m) found (names, (are, internal_least h.unknown_first h.own_first j h.internal_first))
  refused_by None None None (Some j) types n hidden h e is = let found : error.OutputShared j ≡ e = cc in subst (IsRefused m) found (names, (are, output_least h.unknown_first h.own_first h.internal_first j h.output_first))
  refused_by None None None None (Some j) n hidden h e is = let found : error.ShapeDiffers j ≡ e = cc in subst (IsRefused m) found (names, (are, types_least h.unknown_first h.own_first h.internal_first h.output_first j h.types_first))
  refused_by None None None None None n hidden h e is =
      last_by n (nat_lt 1024 n) refl hidden h.hidden_first e
      (many_least h.unknown_first h.own_first h.internal_first h.output_first h.types_first)
      (hidden_least h.unknown_first h.own_first h.internal_first h.output_first h.types_first) h.count is

  none_last : (n : ℕ) (b : Bool) → nat_lt 1024 n ≡ b → (hidden : Option ℕ) → (if b then Some error.TooManyComponents else last_error hidden) ≡ None → (b ≡ false) × (hidden ≡ None)
  none_last n true h hidden is = cc
  none_last n false h (Some j) is = cc
  none_last n false h None is = (refl, refl)

  -- where nothing is answered there is no fault
  pub faultless_by : (unknown own internal output types : Option ℕ) (n : ℕ) (hidden : Option ℕ) → Firsts unknown own internal output types n hidden
      → least_error unknown own internal output types n hidden ≡ None → (f : Fault) (j : ℕ) → HasFault names m f j → ⊥
  faultless_by (Some j) own internal output types n hidden h is = cc
  faultless_by None (Some j) internal output types n hidden h is = cc
  faultless_by None None (Some j) output types n hidden h is = cc
  faultless_by None None None (Some j) types n hidden h is = cc
  faultless_by None None None None (Some j) n hidden h is = cc
  faultless_by None None None None None n hidden h is =
      let last = none_last n (nat_lt 1024 n) refl hidden is in
      no_fault h.unknown_first h.own_first h.internal_first h.output_first h.types_first (few_by n h.count last.0) (subst (IsFirst (HasFault names m Hidden)) last.1 h.hidden_first)
