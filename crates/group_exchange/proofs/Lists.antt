-- The lists of the turns that are held: what is put among them, and what is taken from them.
use Rattle.std.proofs.Common.{◌≡◌, ℕ, zero, suc, ◌+◌, ◌<◌, ◌^◌, Bool, true, false, Some, List, [], ◌∷◌, ◌++◌, map, length, refl, ap, sym, subst, ◌∙◌, arith}
use Rattle.std.specs.Prelude.{if◌then◌else◌, nat_lt, replicate, slice_get, slice_index_or, slice_set}
use Rattle.terms.specs.Named.{Named}
use Rattle.event_keys.specs.declared.outcome.Turned.{Turned}
use Rattle.event_keys.specs.Ranks.{rank}
use Rattle.virtual_time.specs.Reference.{Falls, Turn}
use Rattle.virtual_time.specs.Exchange.Meetings.{turns_below, turns_from}
use Rattle.virtual_time.specs.Exchange.Merged.{put_turns}
use Rattle.std.proofs.lemmas.List.{length-map}
use Rattle.raw_events.specs.Onto.{onto}
use Rattle.task_seed.specs.Taken.{turn_of, turns_of}
use Rattle.group_exchange.specs.Chunks.{first_below, first_from}
use Rattle.group_exchange.specs.Held.{put_all, AreInOrder, IsCutBelow, all_below, all_from}
use Rattle.group_exchange.proofs.Below.{below_onto, from_onto}
use Rattle.group_exchange.proofs.Together.{Apart, alone, apart_first, apart_rest, falls_below, falls_from, falls_puts, length_puts, lists_swap, puts_below, puts_fell, puts_from, together}

-- turns put into one of the lists are put among all
pub put_at : (lists : List (List Turned)) (i : ℕ) (part new : List Turned) (d : List (Turn Named)) → slice_get lists i ≡ Some part → turns_of new ≡ put_turns d (turns_of part) → Falls (put_turns d (put_all lists))
    → put_all (slice_set lists i new) ≡ put_turns d (put_all lists)
put_at [] i part new d there is f = cc
put_at (p ∷ ls) zero part new d there is f =
    let same : p ≡ part = cc in
    let apart = apart_first d (turns_of p) (put_all ls) (puts_fell d (put_turns (turns_of p) (put_all ls)) f).0 in
    ap (λ l. put_turns l (put_all ls)) (is ∙ ap (λ l. put_turns d (turns_of l)) (sym same)) ∙ together d (turns_of p) (put_all ls) apart
put_at (p ∷ ls) (suc i) part new d there is f =
    let fell = puts_fell d (put_turns (turns_of p) (put_all ls)) f in
    let swapped = lists_swap d (turns_of p) (put_all ls) (apart_first d (turns_of p) (put_all ls) fell.0) in
    let rest = (puts_fell (turns_of p) (put_turns d (put_all ls)) (subst Falls swapped f)).1 in
    ap (put_turns (turns_of p)) (put_at ls i part new d there is rest) ∙ sym swapped

apart_at : (lists : List (List Turned)) (i : ℕ) (part : List Turned) (d : List (Turn Named)) → slice_get lists i ≡ Some part → Apart d (put_all lists) → Apart d (turns_of part)
apart_at [] i part d there p = cc
apart_at (x ∷ ls) zero part d there p =
    let same : x ≡ part = cc in
    subst (λ l. Apart d (turns_of l)) same (apart_first d (turns_of x) (put_all ls) p)
apart_at (x ∷ ls) (suc i) part d there p = apart_at ls i part d there (apart_rest d (turns_of x) (put_all ls) p)

order_there : (lists : List (List Turned)) (i : ℕ) (part : List Turned) → slice_get lists i ≡ Some part → AreInOrder lists → Falls (turns_of part)
order_there [] i part there order = cc
order_there (x ∷ ls) zero part there order =
    let same : x ≡ part = cc in
    subst (λ l. Falls (turns_of l)) same order.0
order_there (x ∷ ls) (suc i) part there order = order_there ls i part there order.1

order_set : (lists : List (List Turned)) (i : ℕ) (new : List Turned) → AreInOrder lists → Falls (turns_of new) → AreInOrder (slice_set lists i new)
order_set [] i new order f = tt
order_set (x ∷ ls) zero new order f = (f, order.1)
order_set (x ∷ ls) (suc i) new order f = (order.0, order_set ls i new order.1 f)

-- and the lists stay in order
pub order_at : (lists : List (List Turned)) (i : ℕ) (part new : List Turned) (d : List (Turn Named)) → slice_get lists i ≡ Some part → turns_of new ≡ put_turns d (turns_of part) → Falls (put_turns d (put_all lists))
    → AreInOrder lists → AreInOrder (slice_set lists i new)
order_at lists i part new d there is f order =
    let apart = apart_at lists i part d there (puts_fell d (put_all lists) f).0 in
    order_set lists i new order (subst Falls (sym is) (falls_puts d (turns_of part) (order_there lists i part there order) apart))

pub length_set : (lists : List (List Turned)) (i : ℕ) (new : List Turned) → length (slice_set lists i new) ≡ length lists
length_set [] i new = refl
length_set (x ∷ ls) zero new = refl
length_set (x ∷ ls) (suc i) new = ap suc (length_set ls i new)

-- what is below a bound, of all lists
pub all_taken : (b : ℕ) (lists : List (List Turned)) → AreInOrder lists → turns_below b (put_all lists) ≡ put_all (all_below b lists)
all_taken b [] order = refl
all_taken b (p ∷ ls) order =
    puts_below b (turns_of p) (put_all ls) order.0 ∙ ap (λ l. put_turns l (turns_below b (put_all ls))) (below_onto b p [] order.0 refl)
    ∙ ap (put_turns (turns_of (first_below b p))) (all_taken b ls order.1)

-- and what isn't
pub all_left : (b : ℕ) (lists : List (List Turned)) → AreInOrder lists → turns_from b (put_all lists) ≡ put_all (all_from b lists)
all_left b [] order = refl
all_left b (p ∷ ls) order =
    puts_from b (turns_of p) (put_all ls) order.0 ∙ ap (λ l. put_turns l (turns_from b (put_all ls))) (from_onto b p [] order.0 refl)
    ∙ ap (put_turns (turns_of (first_from b p))) (all_left b ls order.1)

pub order_left : (b : ℕ) (lists : List (List Turned)) → AreInOrder lists → AreInOrder (all_from b lists)
order_left b [] order = tt
order_left b (p ∷ ls) order = (subst Falls (from_onto b p [] order.0 refl) (falls_from b (turns_of p) order.0), order_left b ls order.1)

pub taken_falls : (b : ℕ) (lists : List (List Turned)) → AreInOrder lists → Falls (put_all lists) → Falls (put_all (all_below b lists))
taken_falls b lists order f = subst Falls (all_taken b lists order) (falls_below b (put_all lists) f)

-- the lists in two halves
halves : (xs ys : List (List Turned)) → Falls (put_all (xs ++ ys)) → put_all (xs ++ ys) ≡ put_turns (put_all xs) (put_all ys)
halves [] ys f = refl
halves (p ∷ xs) ys f =
    let fell = puts_fell (turns_of p) (put_all (xs ++ ys)) f in
    let both = halves xs ys fell.1 in
    ap (put_turns (turns_of p)) both ∙ sym (together (turns_of p) (put_all xs) (put_all ys) (apart_first (turns_of p) (put_all xs) (put_all ys) (subst (Apart (turns_of p)) both fell.0)))

first_falls : (xs ys : List (List Turned)) → Falls (put_all (xs ++ ys)) → Falls (put_all xs)
first_falls [] ys f = tt
first_falls (p ∷ xs) ys f =
    let fell = puts_fell (turns_of p) (put_all (xs ++ ys)) f in
    let apart = subst (Apart (turns_of p)) (halves xs ys fell.1) fell.0 in
    falls_puts (turns_of p) (put_all xs) (first_falls xs ys fell.1) (apart_first (turns_of p) (put_all xs) (put_all ys) apart)

second_falls : (xs ys : List (List Turned)) → Falls (put_all (xs ++ ys)) → Falls (put_all ys)
second_falls xs ys f = (puts_fell (put_all xs) (put_all ys) (subst Falls (halves xs ys f) f)).1

length_halves : (xs ys : List (List Turned)) → Falls (put_all (xs ++ ys)) → length (put_all (xs ++ ys)) ≡ length (put_all xs) + length (put_all ys)
length_halves xs ys f = ap length (halves xs ys f) ∙ length_puts (put_all xs) (put_all ys)

below_halves : (b : ℕ) (xs ys : List (List Turned)) → all_below b (xs ++ ys) ≡ all_below b xs ++ all_below b ys
below_halves b [] ys = refl
below_halves b (x ∷ xs) ys = ap (λ l. first_below b x ∷ l) (below_halves b xs ys)

first_order : (xs ys : List (List Turned)) → AreInOrder (xs ++ ys) → AreInOrder xs
first_order [] ys order = tt
first_order (x ∷ xs) ys order = (order.0, first_order xs ys order.1)

second_order : (xs ys : List (List Turned)) → AreInOrder (xs ++ ys) → AreInOrder ys
second_order [] ys order = order
second_order (x ∷ xs) ys order = second_order xs ys order.1

-- what is below a bound in these lists, of which there are two halves
pub record AreHalved (b : ℕ) (lists xs ys : List (List Turned)) : Type 0 where
  pub all : put_all (all_below b lists) ≡ put_turns (put_all (all_below b xs)) (put_all (all_below b ys))
  pub many : length (put_all (all_below b lists)) ≡ length (put_all (all_below b xs)) + length (put_all (all_below b ys))
  pub first : Falls (put_all (all_below b xs))
  pub second : Falls (put_all (all_below b ys))
  pub first_in_order : AreInOrder xs
  pub second_in_order : AreInOrder ys

pub halved : (b : ℕ) (lists xs ys : List (List Turned)) → lists ≡ xs ++ ys → AreInOrder lists → Falls (put_all (all_below b lists)) → AreHalved b lists xs ys
halved b lists xs ys is order f =
    let parts : all_below b lists ≡ all_below b xs ++ all_below b ys = ap (all_below b) is ∙ below_halves b xs ys in
    let falls = subst (λ l. Falls (put_all l)) parts f in
    let both = subst AreInOrder is order in
    record {
      all = ap put_all parts ∙ halves (all_below b xs) (all_below b ys) falls;
      many = ap (λ l. length (put_all l)) parts ∙ length_halves (all_below b xs) (all_below b ys) falls;
      first = first_falls (all_below b xs) (all_below b ys) falls;
      second = second_falls (all_below b xs) (all_below b ys) falls;
      first_in_order = first_order xs ys both;
      second_in_order = second_order xs ys both;
    }

-- there is one list
pub single : (b : ℕ) (lists : List (List Turned)) (d : List Turned) → length lists ≡ 1 → AreInOrder lists → put_all (all_below b lists) ≡ turns_of (first_below b (slice_index_or lists 0 d))
single b [] d e order = absurd (omega (arith, e))
single b (x ∷ []) d e order = alone (turns_of (first_below b x)) (subst Falls (below_onto b x [] order.0 refl) (falls_below b (turns_of x) order.0))
single b (x ∷ y ∷ ls) d e order = absurd (omega (arith, e))

length_onto : {X : Type 0} (xs ys : List X) → length (onto xs ys) ≡ length xs + length ys
length_onto [] ys = omega arith
length_onto (x ∷ xs) ys = length_onto xs (x ∷ ys) ∙ omega arith

length_turns : (ts : List Turned) → length (turns_of ts) ≡ length ts
length_turns ts = length_onto (map turn_of ts) [] ∙ (let e = length-map ts turn_of in omega (arith, e))

pub length_single : (b : ℕ) (lists : List (List Turned)) (d : List Turned) → length lists ≡ 1 → AreInOrder lists → length (put_all (all_below b lists)) ≡ length (first_below b (slice_index_or lists 0 d))
length_single b lists d e order = ap length (single b lists d e order) ∙ length_turns (first_below b (slice_index_or lists 0 d))

-- what was taken can be put together
twice_below : (b : ℕ) (ts : List Turned) → first_below b (first_below b ts) ≡ first_below b ts
twice_below b [] = refl
twice_below b (t ∷ ts) = go (twice_below b ts) (nat_lt (rank t.key) b) refl
  where
    go : first_below b (first_below b ts) ≡ first_below b ts → (c : Bool) → nat_lt (rank t.key) b ≡ c → first_below b (if c then t ∷ first_below b ts else []) ≡ (if c then t ∷ first_below b ts else [])
    go ih true e = rw e (ap (λ l. t ∷ l) ih)
    go ih false e = refl

all_twice_below : (b : ℕ) (lists : List (List Turned)) → all_below b (all_below b lists) ≡ all_below b lists
all_twice_below b [] = refl
all_twice_below b (p ∷ ls) = ap (λ l. l ∷ all_below b (all_below b ls)) (twice_below b p) ∙ ap (λ l. first_below b p ∷ l) (all_twice_below b ls)

order_taken : (b : ℕ) (lists : List (List Turned)) → AreInOrder lists → AreInOrder (all_below b lists)
order_taken b [] order = tt
order_taken b (p ∷ ls) order = (subst Falls (below_onto b p [] order.0 refl) (falls_below b (turns_of p) order.0), order_taken b ls order.1)

pub cut_below : (b : ℕ) (lists : List (List Turned)) → AreInOrder lists → Falls (put_all (all_below b lists)) → length (put_all (all_below b lists)) < 2 ^ 64 → IsCutBelow b (all_below b lists)
cut_below b lists order falls few = record { order = order_taken b lists order; below = all_twice_below b lists; falls = falls; few = few }

-- and then nothing is left
from_none : (b : ℕ) (ts : List Turned) → first_from b (first_below b ts) ≡ []
from_none b [] = refl
from_none b (t ∷ ts) = go (from_none b ts) (nat_lt (rank t.key) b) refl
  where
    go : first_from b (first_below b ts) ≡ [] → (c : Bool) → nat_lt (rank t.key) b ≡ c → first_from b (if c then t ∷ first_below b ts else []) ≡ []
    go ih true e = rw e ih
    go ih false e = refl

left_none : (b : ℕ) (lists : List (List Turned)) → all_from b (all_below b lists) ≡ map (λ _. []) lists
left_none b [] = refl
left_none b (p ∷ ls) = ap (λ l. l ∷ all_from b (all_below b ls)) (from_none b p) ∙ ap (λ l. [] ∷ l) (left_none b ls)

put_none : (lists : List (List Turned)) → put_all (map (λ _. []) lists) ≡ []
put_none [] = refl
put_none (p ∷ ls) = put_none ls

none_order : (lists : List (List Turned)) → AreInOrder (map (λ _. []) lists)
none_order [] = tt
none_order (p ∷ ls) = (tt, none_order ls)

none_below : (b : ℕ) (lists : List (List Turned)) → all_below b (map (λ _. []) lists) ≡ map (λ _. []) lists
none_below b [] = refl
none_below b (p ∷ ls) = ap (λ l. [] ∷ l) (none_below b ls)

none_cut : (b : ℕ) (lists : List (List Turned)) → IsCutBelow b (map (λ _. []) lists)
none_cut b lists = record {
  order = none_order lists;
  below = none_below b lists;
  falls = subst Falls (sym (put_none lists)) tt;
  few = let none = ap length (put_none lists) in omega (arith, none);
}

-- where all are taken, none is left
pub put_left : (b : ℕ) (lists : List (List Turned)) → all_below b lists ≡ lists → put_all (all_from b lists) ≡ []
put_left b lists below = ap put_all (ap (all_from b) (sym below) ∙ left_none b lists) ∙ put_none lists

pub cut_from : (b : ℕ) (lists : List (List Turned)) → all_below b lists ≡ lists → IsCutBelow b (all_from b lists)
cut_from b lists below = subst (λ l. IsCutBelow b (all_from b l)) below (subst (IsCutBelow b) (sym (left_none b lists)) (none_cut b lists))

replicated : (n : ℕ) → map {A = List Turned} {B = List Turned} (λ _. []) (replicate n []) ≡ replicate n []
replicated zero = refl
replicated (suc n) = ap (λ l. [] ∷ l) (replicated n)

pub cut_none : (b n : ℕ) → IsCutBelow b (replicate n [])
cut_none b n = subst (IsCutBelow b) (replicated n) (none_cut b (replicate n []))
