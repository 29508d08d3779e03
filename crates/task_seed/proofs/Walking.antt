-- A turn that exists.
use Rattle.std.proofs.Common.{◌≡◌, ℕ, ◌+◌, ◌∙◌, Bool, true, false, Option, None, Some, IfSome, IsSome, is_some, ap, refl, sym}
use Rattle.std.specs.List.{list_all}
use Rattle.std.specs.Prelude.{◌&&◌, option_map, if◌then◌else◌}
use Rattle.io_automata.specs.Outcomes.{task_count}
use Rattle.event_keys.specs.declared.key.Key.{Key}
use Rattle.task_seed.specs.declared.turns.Turn.{Turn}
use Rattle.task_seed.specs.Ticks.{exist-more, has_parts}
use Rattle.task_seed.specs.Turning.{System, first_turns, has_turns, key_at, key_of, ticks, turn_in, with_task_below}

-- where there is something, the first of two was taken
taken : {A : Type 0} {B : Type 0} (b : Bool) (x : A) (y : A) (z : Option B) → Some x ≡ (if b then Some y else None) → (if b then z else None) ≡ z
taken true x y z e = refl
taken false x y z e = cc

pub turn_there : (s : System) (i n : ℕ) (key : Key) (turn : Turn) → Some key ≡ key_of s i n → s.turn i n ≡ Some turn → turn_in s i n ≡ Some (with_task_below (task_count s.composition i) turn)
turn_there s i n key turn there found =
    let below = with_task_below (task_count s.composition i) in
    taken (has_turns s i (n + 1)) key (key_at i n (ticks s i (n + 1))) (option_map below (s.turn i n)) there ∙ ap (option_map below) found

gone : (before : Bool) (o : Option Turn) (below : Turn → Turn) → None ≡ option_map below o → (before && is_some o) ≡ true → ⊥
gone true None below e h = cc
gone false None below e h = cc
gone before (Some turn) below e h = cc

-- a turn whose key exists is there
pub turn_exists : (s : System) (i n : ℕ) → IsSome (key_of s i n) → None ≡ turn_in s i n → ⊥
turn_exists s i n some none = go (has_turns s i (n + 1)) refl some none where
  go : (there : Bool) → has_turns s i (n + 1) ≡ there → IsSome (if there then Some (key_at i n (ticks s i (n + 1))) else None)
      → None ≡ (if there then option_map (with_task_below (task_count s.composition i)) (s.turn i n) else None) → ⊥
  go true h some none =
      gone (list_all is_some (first_turns s i n)) (s.turn i n) (with_task_below (task_count s.composition i)) none (sym (exist-more s i n) ∙ (has_parts s i (n + 1) h).exist)
  go false h some none = cc

some_key : (o : Option Key) → IsSome o → (key : Key) × (Some key ≡ o)
some_key None h = cc
some_key (Some key) h = (key, refl)

-- the turn of a number that has one
pub own_turn : (s : System) (i n : ℕ) (turn : Turn) → IsSome (key_of s i n) → s.turn i n ≡ Some turn → Some (with_task_below (task_count s.composition i) turn) ≡ turn_in s i n
own_turn s i n turn there found = let key = some_key (key_of s i n) there in sym (turn_there s i n key.0 turn key.1 found)

-- what a part of what is there says
pub mapped : {A : Type 0} {B : Type 0} {C : Type 0} (f : B → C) (part : A → B) (o : Option A) → option_map f (option_map part o) ≡ option_map (λ x. f (part x)) o
mapped f part None = refl
mapped f part (Some x) = refl

pub some_mapped : {A : Type 0} {B : Type 0} (P : Type 0) (part : A → B) (o : Option A) → IfSome (option_map part o) (λ _. P) → IfSome o (λ _. P)
some_mapped P part None h = tt
some_mapped P part (Some x) h = h
