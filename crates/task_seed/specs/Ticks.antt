-- What follows from the definition of keys: one turn more, and all turns up to one.
use Rattle.std.proofs.Common.{◌≡◌, ℕ, zero, suc, ◌+◌, ◌-◌, ◌≤◌, ◌<◌, Bool, true, false, ◌&&◌, leb, [], ◌∷◌, Option, None, Some, is_some, refl, ap, subst, sym, ◌∙◌, arith, add-zero}
use Rattle.std.specs.Prelude.{if◌then◌else◌, nat_lt, option_map, IfSome}
use Rattle.std.proofs.lemmas.Bool.{leb-true}
use Rattle.event_keys.specs.declared.key.Key.{Key}
use Rattle.std.specs.List.{list_all}
use Rattle.std.proofs.lemmas.List.FromFn.{map-range_with_len_more, sum_by-map-range_with_len_more}
use Rattle.std.proofs.lemmas.List.Folds.{list_all-append}
use Rattle.std.proofs.lemmas.Bool.Decides.{nat_tests}
use Rattle.task_seed.specs.declared.turns.Turn.{Turn}
use Rattle.task_seed.specs.Turning.{System, first_turns, gap_of, ticks, most_turns, has_turns, key_at, key_of, Reaches}
use Rattle.task_seed.specs.Steps.{tick_after, tick_with}

-- the tick of one turn more
pub ticks-more : (s : System) (i n : ℕ) → ticks s i (n + 1) ≡ ticks s i n + gap_of (s.turn i n)
ticks-more s i n = sum_by-map-range_with_len_more gap_of (s.turn i) 0 n n (omega arith)

-- both of a conjunction hold
and_parts : (a b : Bool) → (a && b) ≡ true → (a ≡ true) × (b ≡ true)
and_parts true b h = (refl, h)
and_parts false b h = cc

-- a list of one turn
one : (o : Option Turn) → list_all is_some (o ∷ []) ≡ is_some o
one None = refl
one (Some turn) = refl

-- whether one turn more exists
pub exist-more : (s : System) (i n : ℕ) → list_all is_some (first_turns s i (n + 1)) ≡ (list_all is_some (first_turns s i n) && is_some (s.turn i n))
exist-more s i n =
    ap (list_all is_some) (map-range_with_len_more (s.turn i) 0 n n (omega arith))
    ∙ list_all-append is_some (first_turns s i n) (s.turn i n ∷ [])
    ∙ ap (λ b. list_all is_some (first_turns s i n) && b) (one (s.turn i n))

-- and whether its tick is within the horizon, and its number below the limit
has-more : (s : System) (i n : ℕ) → has_turns s i (n + 1) ≡ ((list_all is_some (first_turns s i n) && is_some (s.turn i n)) && (leb (ticks s i n + gap_of (s.turn i n)) s.horizon && leb (n + 1) most_turns))
has-more s i n =
    ap (λ b. b && (leb (ticks s i (n + 1)) s.horizon && leb (n + 1) most_turns)) (exist-more s i n)
    ∙ ap (λ t. (list_all is_some (first_turns s i n) && is_some (s.turn i n)) && (leb t s.horizon && leb (n + 1) most_turns)) (ticks-more s i n)

-- where something is there, the test was passed
passed : {A : Type 0} (b : Bool) (x : A) (o : Option A) → Some x ≡ (if b then o else None) → (b ≡ true) × (Some x ≡ o)
passed true x o e = (refl, e)
passed false x o e = cc

one_more : (n : ℕ) → nat_lt n most_turns ≡ true → leb (n + 1) most_turns ≡ true
one_more n h = grind (arith, nat_tests)

no_more : (n : ℕ) → nat_lt n most_turns ≡ false → leb (n + 1) most_turns ≡ false
no_more n h = grind (arith, nat_tests)

-- what a next tick says of the turn
some_with : (o : Option Turn) (horizon tick next : ℕ) → Some next ≡ tick_with horizon tick o → (is_some o ≡ true) × (next ≡ tick + gap_of o) × (leb (tick + gap_of o) horizon ≡ true)
some_with None horizon tick next e = cc
some_with (Some turn) horizon tick next e = grind (arith, nat_tests)

-- and of its number
record IsNext (s : System) (i n tick next : ℕ) : Type 0 where
  there : is_some (s.turn i n) ≡ true
  tick_is : next ≡ tick + gap_of (s.turn i n)
  within : leb (tick + gap_of (s.turn i n)) s.horizon ≡ true
  few : leb (n + 1) most_turns ≡ true

some_by : (s : System) (i n tick next : ℕ) → Some next ≡ tick_after s i n tick → IsNext s i n tick next
some_by s i n tick next e =
    let parts = passed (nat_lt n most_turns) next (tick_with s.horizon tick (s.turn i n)) e in
    let turn = some_with (s.turn i n) s.horizon tick next parts.1 in
    record { there = turn.0; tick_is = turn.1; within = turn.2; few = one_more n parts.0 }

-- and where there is none
none_with : (before few : Bool) (o : Option Turn) (horizon tick : ℕ) → None ≡ tick_with horizon tick o → ((before && is_some o) && (leb (tick + gap_of o) horizon && few)) ≡ false
none_with true few None horizon tick e = refl
none_with false few None horizon tick e = refl
none_with false few (Some turn) horizon tick e = refl
none_with true few (Some turn) horizon tick e = late (leb (tick + turn.gap) horizon) few (grind (arith, nat_tests)) where
  late : (within few : Bool) → within ≡ false → (within && few) ≡ false
  late true few h = cc
  late false few h = refl

and_false : (a b : Bool) → (a && (b && false)) ≡ false
and_false true true = refl
and_false true false = refl
and_false false b = refl

none_by : (before : Bool) (s : System) (i n tick : ℕ) → None ≡ tick_after s i n tick → ((before && is_some (s.turn i n)) && (leb (tick + gap_of (s.turn i n)) s.horizon && leb (n + 1) most_turns)) ≡ false
none_by before s i n tick e = go (nat_lt n most_turns) refl e where
  go : (b : Bool) → nat_lt n most_turns ≡ b → None ≡ (if b then tick_with s.horizon tick (s.turn i n) else None) → ((before && is_some (s.turn i n)) && (leb (tick + gap_of (s.turn i n)) s.horizon && leb (n + 1) most_turns)) ≡ false
  go true h e = none_with before (leb (n + 1) most_turns) (s.turn i n) s.horizon tick e
  go false h e = rw (no_more n h) (and_false (before && is_some (s.turn i n)) (leb (tick + gap_of (s.turn i n)) s.horizon))

-- a turn more is no nearer
less_by : (before there : Bool) (tick gap horizon n : ℕ) → (before && (leb tick horizon && leb n most_turns)) ≡ false → ((before && there) && (leb (tick + gap) horizon && leb (n + 1) most_turns)) ≡ false
less_by false there tick gap horizon n e = refl
less_by true false tick gap horizon n e = refl
less_by true true tick gap horizon n e = go (leb tick horizon) refl (leb n most_turns) refl e where
  go : (within : Bool) → leb tick horizon ≡ within → (few : Bool) → leb n most_turns ≡ few → (within && few) ≡ false → (leb (tick + gap) horizon && leb (n + 1) most_turns) ≡ false
  go true w true f e = cc
  go true w false f e = let later : leb (n + 1) most_turns ≡ false = grind (arith, nat_tests) in rw later (and_false true (leb (tick + gap) horizon))
  go false w few f e = let later : leb (tick + gap) horizon ≡ false = grind (arith, nat_tests) in rw later refl

-- where a turn is missing, all later ones are
pub none_stays : (s : System) (i n d : ℕ) → has_turns s i n ≡ false → has_turns s i (n + d) ≡ false
none_stays s i n zero h = rw add-zero h
none_stays s i n (suc d) h =
    let e : n + suc d ≡ (n + d) + 1 = omega arith in
    rw e (has-more s i (n + d) ∙ less_by (list_all is_some (first_turns s i (n + d))) (is_some (s.turn i (n + d))) (ticks s i (n + d)) (gap_of (s.turn i (n + d))) s.horizon (n + d) (none_stays s i n d h))

-- the turns up to n are there, and the tick of turn n
step : (s : System) (i n tick next : ℕ) → list_all is_some (first_turns s i n) ≡ true → tick ≡ ticks s i n → IsNext s i n tick next → (list_all is_some (first_turns s i (n + 1)) ≡ true) × (next ≡ ticks s i (n + 1))
step s i n tick next exist sum e =
    let there : list_all is_some (first_turns s i (n + 1)) ≡ true = exist-more s i n ∙ ap (λ b. b && is_some (s.turn i n)) exist ∙ e.there in
    let more = ticks-more s i n in
    let is = e.tick_is in
    (there, (cc))

all_three : (a b c : Bool) → a ≡ true → b ≡ true → c ≡ true → (a && (b && c)) ≡ true
all_three a b c f g h = rw (f, g, h) refl

-- the key of a turn that exists
key_found : (s : System) (i n tick next : ℕ) → list_all is_some (first_turns s i n) ≡ true → tick ≡ ticks s i n → Some next ≡ tick_after s i n tick → key_of s i n ≡ Some (record { tick = next; component = i; number = n })
key_found s i n tick next exist sum e =
    let h = some_by s i n tick next e in
    let stepped = step s i n tick next exist sum h in
    let within : leb (ticks s i (n + 1)) s.horizon ≡ true = ap (λ t. leb t s.horizon) (sym stepped.1 ∙ h.tick_is) ∙ h.within in
    let there : has_turns s i (n + 1) ≡ true = all_three (list_all is_some (first_turns s i (n + 1))) (leb (ticks s i (n + 1)) s.horizon) (leb (n + 1) most_turns) stepped.0 within h.few in
    let key : ℕ → Key = λ t. record { tick = t; component = i; number = n } in
    ap (λ b. if b then Some (key (ticks s i (n + 1))) else None) there ∙ ap (λ t. Some (key t)) (sym stepped.1)

-- and of one that doesn't
no_key : (s : System) (i n tick : ℕ) → tick ≡ ticks s i n → None ≡ tick_after s i n tick → key_of s i n ≡ None
no_key s i n tick sum e =
    let before = list_all is_some (first_turns s i n) in
    let gone : has_turns s i (n + 1) ≡ false =
    has-more s i n
    ∙ ap (λ t. (before && is_some (s.turn i n)) && (leb (t + gap_of (s.turn i n)) s.horizon && leb (n + 1) most_turns)) (sym sum)
    ∙ none_by before s i n tick e in
    ap (λ b. if b then Some (key_at i n (ticks s i (n + 1))) else None) gone

key_after_by : (s : System) (i n tick : ℕ) (o : Option ℕ) → Reaches s i n tick → o ≡ tick_after s i n tick → option_map (key_at i n) o ≡ key_of s i n
key_after_by s i n tick None h e = sym (no_key s i n tick h.sum e)
key_after_by s i n tick (Some next) h e = sym (key_found s i n tick next h.exist h.sum e)

-- the next turn's key
pub key_after : (s : System) (i n tick : ℕ) → Reaches s i n tick → option_map (key_at i n) (tick_after s i n tick) ≡ key_of s i n
key_after s i n tick h = key_after_by s i n tick (tick_after s i n tick) h refl

reached_by : (s : System) (i n tick : ℕ) (o : Option ℕ) → Reaches s i n tick → o ≡ tick_after s i n tick → IfSome o (λ next. Reaches s i (n + 1) next)
reached_by s i n tick None h e = tt
reached_by s i n tick (Some next) h e =
    let found = some_by s i n tick next e in
    let stepped = step s i n tick next h.exist h.sum found in
    let low = found.tick_is in
    let high = leb-true (tick + gap_of (s.turn i n)) s.horizon found.within in
    record { exist = stepped.0; sum = stepped.1; within = omega (arith, low, high); few = leb-true (n + 1) most_turns found.few }

-- and how far it reaches
pub reached_after : (s : System) (i n tick : ℕ) → Reaches s i n tick → IfSome (tick_after s i n tick) (λ next. Reaches s i (n + 1) next)
reached_after s i n tick h = reached_by s i n tick (tick_after s i n tick) h refl

few_by : (n : ℕ) (s : System) (i tick : ℕ) (o : Option ℕ) → o ≡ tick_after s i n tick → IfSome o (λ _. n < 4294967296)
few_by n s i tick None e = tt
few_by n s i tick (Some next) e = let few = leb-true (n + 1) most_turns (some_by s i n tick next e).few in omega (arith, few)

-- and that its number is below the limit
pub few_after : (s : System) (i n tick : ℕ) → IfSome (tick_after s i n tick) (λ _. n < 4294967296)
few_after s i n tick = few_by n s i tick (tick_after s i n tick) refl

missing_by : (there : Bool) (key : Key) → None ≡ (if there then Some key else None) → there ≡ false
missing_by true key e = cc
missing_by false key e = refl

-- where a key is missing, all later ones are
pub no_later_key : (s : System) (i k n : ℕ) → k ≤ n → None ≡ key_of s i k → key_of s i n ≡ None
no_later_key s i k n within missing =
    let gone = missing_by (has_turns s i (k + 1)) (key_at i k (ticks s i (k + 1))) missing in
    let all : (k + 1) + (n - k) ≡ n + 1 = omega arith in
    let none : has_turns s i (n + 1) ≡ false = rw all at (none_stays s i (k + 1) (n - k) gone) in
    ap (λ b. if b then Some (key_at i n (ticks s i (n + 1))) else None) none

key_by : (there : Bool) (key found : Key) → (if there then Some key else None) ≡ Some found → (there ≡ true) × (key.tick ≡ found.tick)
key_by true key found e = let same : key ≡ found = cc in (refl, ap (λ (k : Key). k.tick) same)
key_by false key found e = cc

-- before its first turn a component is at tick 0
pub reaches_start : (s : System) (i : ℕ) → Reaches s i 0 0
reaches_start s i = record { exist = refl; sum = refl; within = omega arith; few = omega arith }

-- what it means to have so many turns
pub record Has (s : System) (i n : ℕ) : Type 0 where
  pub exist : list_all is_some (first_turns s i n) ≡ true
  pub within : ticks s i n ≤ s.horizon
  pub few : n ≤ most_turns

pub has_parts : (s : System) (i n : ℕ) → has_turns s i n ≡ true → Has s i n
has_parts s i n h =
    let parts = and_parts (list_all is_some (first_turns s i n)) (leb (ticks s i n) s.horizon && leb n most_turns) h in
    let limits = and_parts (leb (ticks s i n) s.horizon) (leb n most_turns) parts.1 in
    record { exist = parts.0; within = leb-true (ticks s i n) s.horizon limits.0; few = leb-true n most_turns limits.1 }

-- a turn with a key is reached, at the tick of its key
pub reaches_key : (s : System) (i n : ℕ) (key : Key) → key_of s i n ≡ Some key → Reaches s i (n + 1) key.tick
reaches_key s i n key e =
    let found = key_by (has_turns s i (n + 1)) (key_at i n (ticks s i (n + 1))) key e in
    let has = has_parts s i (n + 1) found.0 in
    let within = has.within in
    let same : ticks s i (n + 1) ≡ key.tick = found.1 in
    record { exist = has.exist; sum = sym same; within = omega (arith, within, same); few = has.few }

-- the next turn of a component is no earlier
pub later_next : (s : System) (i n : ℕ) → ticks s i (n + 1) ≤ ticks s i (suc n + 1)
later_next s i n =
    let one : suc n + 1 ≡ (n + 1) + 1 = omega arith in
    let sum = ticks-more s i (n + 1) in
    let more : ticks s i (n + 1) ≤ ticks s i ((n + 1) + 1) = omega (arith, sum) in
    subst (λ (m : ℕ). ticks s i (n + 1) ≤ ticks s i m) (sym one) more
