-- Compatible signatures (Lynch, Distributed Algorithms, sections 8.1 and 8.2.1).
use Rattle.std.specs.Prelude.{◌≡◌, ◌≢◌, ℕ, true, List}
use Rattle.terms.specs.Named.{Named}
use Rattle.io_automata.specs.Automata.{Instance}
use Rattle.io_automata.specs.Signatures.{inputs, outputs, internals, acts}

-- The input, output and internal actions of each component are disjoint. No internal action of a component is an action of another, and no two components share an output.
pub record IsCompatible (composition : List Instance) : Type 0 where
  pub input_output : (i : ℕ) (action : Named) → inputs composition i action ≡ true → outputs composition i action ≡ true → ⊥
  pub input_internal : (i : ℕ) (action : Named) → inputs composition i action ≡ true → internals composition i action ≡ true → ⊥
  pub output_internal : (i : ℕ) (action : Named) → outputs composition i action ≡ true → internals composition i action ≡ true → ⊥
  pub own_internals : (i j : ℕ) (action : Named) → i ≢ j → internals composition i action ≡ true → acts composition j action ≡ true → ⊥
  pub own_outputs : (i j : ℕ) (action : Named) → i ≢ j → outputs composition i action ≡ true → outputs composition j action ≡ true → ⊥
