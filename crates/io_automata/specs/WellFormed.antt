-- What a composition that comes of an accepted source has beside compatibility.
use Rattle.std.specs.Prelude.{◌≡◌, ℕ, ◌+◌, ◌^◌, pos, ◌+ℤ◌, neg_ℤ, int_le, nat_le, Bool as Truth, true, false, ◌&&◌, ◌==◌, if◌then◌else◌, List, [], ◌∷◌, Option, None, Some, slice_get}
use Rattle.std.specs.List.{flat_map}
use Rattle.terms.specs.Named.{Named}
use Rattle.terms.specs.declared.scalar.Listed.{Listed}
use Rattle.terms.specs.declared.scalar.Listed.TheVariants as listed
use Rattle.io_automata.specs.declared.automaton.Kind.TheVariants.{Input}
use Rattle.io_automata.specs.declared.automaton.Param.{Param}
use Rattle.io_automata.specs.declared.automaton.Param.TheVariants.{Const, Member, Between, Whole}
use Rattle.io_automata.specs.Automata.{Transition, Instance, component_at}
use Rattle.io_automata.specs.Signatures.{has, same_kind}

-- all members of a listed type are numbers of 64 bits with a sign, or numbers of members
abbrev pub is_complete : Listed → Truth
is_complete listed.Bool = true
is_complete (listed.Range low count) = int_le (neg_ℤ (pos (2 ^ 63))) low && int_le (low +ℤ pos count) (pos (2 ^ 63))
is_complete (listed.Enumeration first count) = nat_le (first + count) (2 ^ 16)

-- the values of a parameter are listed: it has a formal's value, or is of a listed type
abbrev pub is_listed : Param → Truth
is_listed (Const n) = true
is_listed (Member members) = true
is_listed (Between low high) = false
is_listed Whole = false

-- how often a number stands in a list
abbrev pub times : ℕ → List ℕ → ℕ
times n [] = 0
times n (x ∷ xs) = (if x == n then 1 else 0) + times n xs

-- the places of all tasks, one after another
abbrev pub all_places : List (List ℕ) → List ℕ
all_places tasks = flat_map (λ places. places) tasks

-- once for an entry that is locally controlled, else never
abbrev pub share : Option Transition → ℕ
share None = 0
share (Some entry) = if same_kind Input entry.kind then 0 else 1

-- Each action of a component has one entry. The tasks are a partition of the locally controlled entries. Listed types have all their members, and the parameters of locally controlled entries are listed.
pub record IsWellFormed (composition : List Instance) : Type 0 where
  pub single : (i m n : ℕ) (e f : Transition) (action : Named) → slice_get (component_at composition i).entries m ≡ Some e → slice_get (component_at composition i).entries n ≡ Some f → has (component_at composition i).formals action e ≡ true → has (component_at composition i).formals action f ≡ true → m ≡ n
  pub tasks : (i place : ℕ) → times place (all_places (component_at composition i).tasks) ≡ share (slice_get (component_at composition i).entries place)
  pub complete : (i place k : ℕ) (entry : Transition) (members : Listed) → slice_get (component_at composition i).entries place ≡ Some entry → slice_get entry.params k ≡ Some (Member members) → is_complete members ≡ true
  pub listed : (i place k : ℕ) (entry : Transition) (param : Param) → slice_get (component_at composition i).entries place ≡ Some entry → same_kind Input entry.kind ≡ false → slice_get entry.params k ≡ Some param → is_listed param ≡ true
