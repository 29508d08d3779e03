-- What is simulated: components that take turns at given keys. A key is a number here, its place in the order of keys.
use Rattle.std.specs.Prelude.{◌≡◌, ℕ, suc, ◌<◌, ◌≤◌, Bool, true, false, Option}

-- An abstract machine: components that take turns at given keys, do actions, and receive the actions of others.
pub record Machine (State Action : Type 0) : Type 0 where
  -- above every key: the key of a turn that does not exist
  pub top : ℕ
  pub start : ℕ → State
  -- of a component and the number of its turn
  pub key : ℕ → ℕ → ℕ
  -- the component whose turn has the key
  pub owner : ℕ → ℕ
  -- of a component, the number of its turn, and its state
  pub outcome : ℕ → ℕ → State → Option Action
  pub apply : ℕ → Action → State → State
  -- sender, action, receiver
  pub receives : ℕ → Action → ℕ → Bool
  pub same : Action → Action → Bool
  pub before : Action → Action → Bool

-- The laws of a machine: a component's keys rise up to the end and stay there, a key tells its component, nobody receives its own
-- output, and actions have an equality and a total order.
pub record Lawful {State Action : Type 0} (machine : Machine State Action) : Type 0 where
  pub rises : (i m : ℕ) → machine.key i m < machine.top → machine.key i m < machine.key i (suc m)
  pub bounded : (i m : ℕ) → machine.key i m ≤ machine.top
  pub ends : (i m : ℕ) → machine.top ≤ machine.key i m → machine.key i (suc m) ≡ machine.top
  pub owned : (i m : ℕ) → machine.key i m < machine.top → machine.owner (machine.key i m) ≡ i
  pub others : (i : ℕ) (a : Action) → machine.receives i a i ≡ false
  pub same_refl : (a : Action) → machine.same a a ≡ true
  pub same_is : (a b : Action) → machine.same a b ≡ true → a ≡ b
  pub total : (a b : Action) → machine.before a b ≡ false → machine.before b a ≡ true
  pub one : (a b : Action) → machine.before a b ≡ true → machine.before b a ≡ true → a ≡ b
  pub chain : (a b c : Action) → machine.before a b ≡ true → machine.before b c ≡ true → machine.before a c ≡ true

-- The machine has this many components: beyond them nobody has a turn, and nobody receives anything.
pub record HasCount {S A : Type 0} (machine : Machine S A) (count : ℕ) : Type 0 where
  pub silent : (j m : ℕ) → count ≤ j → machine.key j m ≡ machine.top
  pub deaf : (i : ℕ) (a : A) (j : ℕ) → count ≤ j → machine.receives i a j ≡ false
