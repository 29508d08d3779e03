-- Turns are put among those that are held.
use Rattle.std.proofs.Common.{◌≡◌, ℕ, ◌<◌, ◌≤◌, Bool, true, false, None, Some, List, [], ◌∷◌, ◌++◌, map, append_assoc, refl, ap, sym, subst, ◌∙◌, arith}
use Rattle.std.specs.Prelude.{not, nat_lt}
use Rattle.std.proofs.lemmas.Bool.{le-ltb, lt-ltb, ltb-false, ltb-true}
use Rattle.terms.specs.Named.{Named}
use Rattle.event_keys.specs.declared.outcome.Turned.{Turned}
use Rattle.event_keys.specs.Ranks.{rank}
use Rattle.raw_events.specs.Around.{head, tail}
use Rattle.raw_events.specs.Onto.{onto}
use Rattle.antimessage.specs.Counts.{Each}
use Rattle.virtual_time.specs.Reference.{AllBelow, Falls, Turn}
use Rattle.virtual_time.specs.Exchange.Merged.{put_turn, put_turns}
use Rattle.task_seed.specs.Taken.{turn_of, turns_of}
use Rattle.turn_lists.specs.Turns.{is_last_from}

-- none of these is before t
abbrev pub NotBefore : Turned → List Turned → Type 0
NotBefore t = Each (λ u. rank t.key ≤ rank u.key)

seen : List Turned → List (Turn Named)
seen = map turn_of

pub map_onto : (xs ys : List Turned) → map turn_of (onto xs ys) ≡ onto (map turn_of xs) (map turn_of ys)
map_onto [] ys = refl
map_onto (x ∷ xs) ys = map_onto xs (x ∷ ys)

-- the list turned round, and round again from its end
pub onto_back : {X : Type 0} (before after : List X) → onto (onto before after) [] ≡ onto after before
onto_back [] after = refl
onto_back (x ∷ before) after = onto_back before (x ∷ after)

not_lower : (a b : ℕ) → not (nat_lt a b) ≡ true → b ≤ a
not_lower a b h = go (nat_lt a b) refl h
  where
    go : (t : Bool) → nat_lt a b ≡ t → not t ≡ true → b ≤ a
    go true e n = cc
    go false e n = ltb-false a b e

-- the cursor steps back over a turn that is not before t
pub step_back : (t u : Turned) (us : List Turned) → not (nat_lt (rank u.key) (rank t.key)) ≡ true → put_turn (turn_of t) (map turn_of (u ∷ us)) ≡ turn_of u ∷ put_turn (turn_of t) (map turn_of us)
step_back t u us h = rw (le-ltb (rank u.key) (rank t.key) (not_lower (rank u.key) (rank t.key) h)) refl

-- how far a turn is on its way to its place
pub record IsPutting (t : Turned) (before0 after0 before after : List Turned) : Type 0 where
  pub same : onto (map turn_of after) (put_turn (turn_of t) (map turn_of before)) ≡ onto (map turn_of after0) (put_turn (turn_of t) (map turn_of before0))
  pub passed : NotBefore t after0 → NotBefore t after

pub putting_steps : (t u : Turned) (before0 after0 us after : List Turned) → not (nat_lt (rank u.key) (rank t.key)) ≡ true → IsPutting t before0 after0 (u ∷ us) after → IsPutting t before0 after0 us (u ∷ after)
putting_steps t u before0 after0 us after h p = record {
  same = sym (ap (onto (map turn_of after)) (step_back t u us h)) ∙ p.same;
  passed = λ n. (not_lower (rank u.key) (rank t.key) h, p.passed n);
}

-- its place is found
stands : (t : Turned) (us : List Turned) → is_last_from (rank t.key) us ≡ false → put_turn (turn_of t) (map turn_of us) ≡ turn_of t ∷ map turn_of us
stands t [] h = refl
stands t (u ∷ us) h = go (nat_lt (rank u.key) (rank t.key)) refl h
  where
    go : (b : Bool) → nat_lt (rank u.key) (rank t.key) ≡ b → not b ≡ false → put_turn (turn_of t) (map turn_of (u ∷ us)) ≡ turn_of t ∷ map turn_of (u ∷ us)
    go true e n = rw e refl
    go false e n = cc

pub putting_ends : (t : Turned) (before0 after0 before after : List Turned) → is_last_from (rank t.key) before ≡ false → IsPutting t before0 after0 before after
    → onto (map turn_of (t ∷ after)) (map turn_of before) ≡ onto (map turn_of after0) (put_turn (turn_of t) (map turn_of before0))
putting_ends t before0 after0 before after h p = sym (ap (onto (map turn_of after)) (stands t before h)) ∙ p.same

-- a turn goes past all that are not before it
put_past : (t : Turned) (after : List Turned) (us : List (Turn Named)) → NotBefore t after → put_turn (turn_of t) (onto (map turn_of after) us) ≡ onto (map turn_of after) (put_turn (turn_of t) us)
put_past t [] us n = refl
put_past t (u ∷ after) us n =
    put_past t after (turn_of u ∷ us) n.1 ∙ ap (onto (map turn_of after)) (rw (le-ltb (rank u.key) (rank t.key) n.0) refl)

-- how far the turns are put among those that are held: none that is left is after one that was passed
pub record IsMerging (turns0 held0 : List (Turn Named)) (left before after : List Turned) : Type 0 where
  pub same : put_turns (map turn_of left) (onto (map turn_of after) (map turn_of before)) ≡ put_turns turns0 held0
  pub falls : Falls (map turn_of left)
  pub past : Each (λ t. NotBefore t after) left

none_before : (t s : Turned) (us : List Turned) → rank s.key < rank t.key → NotBefore t us → NotBefore s us
none_before t s [] l n = tt
none_before t s (u ∷ us) l n = let low = n.0 in (omega (arith, l, low), none_before t s us l n.1)

all_past : (t : Turned) (ts after : List Turned) → AllBelow (rank t.key) (map turn_of ts) → NotBefore t after → Each (λ s. NotBefore s after) ts
all_past t [] after f n = tt
all_past t (s ∷ ts) after f n = (none_before t s after f.0 n, all_past t ts after f.1 n)

pub merging_steps : (turns0 held0 : List (Turn Named)) (t : Turned) (ts before after new_before new_after : List Turned) → IsMerging turns0 held0 (t ∷ ts) before after
    → onto (map turn_of new_after) (map turn_of new_before) ≡ onto (map turn_of after) (put_turn (turn_of t) (map turn_of before)) → (NotBefore t after → NotBefore t new_after) → IsMerging turns0 held0 ts new_before new_after
merging_steps turns0 held0 t ts before after new_before new_after p placed passed = record {
  same = ap (put_turns (map turn_of ts)) (placed ∙ sym (put_past t after (map turn_of before) p.past.0)) ∙ p.same;
  falls = p.falls.1;
  past = all_past t ts new_after p.falls.0 (passed p.past.0);
}

pub merging_ends : (turns0 held0 : List (Turn Named)) (before after : List Turned) → IsMerging turns0 held0 [] before after → turns_of (onto before after) ≡ put_turns turns0 held0
merging_ends turns0 held0 before after p =
    sym (map_onto (onto before after) []) ∙ ap (map turn_of) (onto_back before after) ∙ map_onto after before ∙ p.same

nothing_past : (ts : List Turned) → Each (λ t. NotBefore t []) ts
nothing_past [] = tt
nothing_past (t ∷ ts) = (tt, nothing_past ts)

pub merging_starts : (turns held : List Turned) → Falls (turns_of turns) → IsMerging (turns_of turns) (turns_of held) (onto turns []) (onto held []) []
merging_starts turns held f = record {
  same = ap (λ ts. put_turns ts (map turn_of (onto held []))) (map_onto turns []) ∙ ap (put_turns (turns_of turns)) (map_onto held []);
  falls = subst Falls (sym (map_onto turns [])) f;
  past = nothing_past (onto turns []);
}

pub merging_next : (turns0 held0 : List (Turn Named)) (t : Turned) (left before after new_before new_after : List Turned) → head left ≡ Some t → IsMerging turns0 held0 left before after
    → onto (map turn_of new_after) (map turn_of new_before) ≡ onto (map turn_of after) (put_turn (turn_of t) (map turn_of before)) → (NotBefore t after → NotBefore t new_after) → IsMerging turns0 held0 (tail left) new_before new_after
merging_next turns0 held0 t [] before after new_before new_after h p placed passed = cc
merging_next turns0 held0 t (x ∷ left) before after new_before new_after h p placed passed =
    let same : x ≡ t = cc in
    merging_steps turns0 held0 t left before after new_before new_after (subst (λ y. IsMerging turns0 held0 (y ∷ left) before after) same p) placed passed

pub merging_stops : (turns0 held0 : List (Turn Named)) (left before after : List Turned) → head left ≡ None → IsMerging turns0 held0 left before after → turns_of (onto before after) ≡ put_turns turns0 held0
merging_stops turns0 held0 [] before after h p = merging_ends turns0 held0 before after p
merging_stops turns0 held0 (x ∷ left) before after h p = cc

-- no key is below k
abbrev AllOver : ℕ → List (Turn Named) → Type 0
AllOver k [] = Unit {0}
AllOver k (u ∷ us) = (k ≤ u.key) × AllOver k us

-- the first key, if there is one, is
abbrev IsFirstUnder : ℕ → List (Turn Named) → Type 0
IsFirstUnder k [] = Unit {0}
IsFirstUnder k (u ∷ us) = u.key < k

put_between : (t : Turn Named) (over us : List (Turn Named)) → AllOver t.key over → IsFirstUnder t.key us → put_turn t (over ++ us) ≡ over ++ (t ∷ us)
put_between t [] [] o h = refl
put_between t [] (u ∷ us) o h = rw (lt-ltb u.key t.key h) refl
put_between t (a ∷ over) us o h = rw (le-ltb a.key t.key o.0) (ap (λ l. a ∷ l) (put_between t over us o.1 h))

over_more : (k : ℕ) (t : Turn Named) (over : List (Turn Named)) → k ≤ t.key → AllOver k over → AllOver k (over ++ (t ∷ []))
over_more k t [] l o = (l, tt)
over_more k t (u ∷ over) l o = (o.0, over_more k t over l o.1)

each_over : (t : Turn Named) (over left : List (Turn Named)) → AllBelow t.key left → Each (λ s. AllOver s.key over) left → Each (λ s. AllOver s.key (over ++ (t ∷ []))) left
each_over t over [] f o = tt
each_over t over (s ∷ left) f o = let low = f.0 in (over_more s.key t over (omega (arith, low)) o.0, each_over t over left f.1 o.1)

puts_between : (left over us : List (Turn Named)) → Falls left → Each (λ t. AllOver t.key over) left → Each (λ t. IsFirstUnder t.key us) left → put_turns left (over ++ us) ≡ over ++ (left ++ us)
puts_between [] over us f o h = refl
puts_between (t ∷ left) over us f o h =
    ap (put_turns left) (put_between t over us o.0 h.0 ∙ sym (append_assoc over (t ∷ []) us))
    ∙ puts_between left (over ++ (t ∷ [])) us f.1 (each_over t over left f.0 o.1) h.1
    ∙ append_assoc over (t ∷ []) (left ++ us)

nothing_over : (ts : List (Turn Named)) → Each (λ t. AllOver t.key []) ts
nothing_over [] = tt
nothing_over (t ∷ ts) = (tt, nothing_over ts)

falls_rest : (ts acc : List (Turn Named)) → Falls (onto ts acc) → Falls acc
falls_rest [] acc f = f
falls_rest (t ∷ ts) acc f = (falls_rest ts (t ∷ acc) f).1

all_over : (k : ℕ) (ts : List (Turn Named)) (x : Turn Named) (acc : List (Turn Named)) → k ≤ x.key → AllOver k acc → Falls (onto ts (x ∷ acc)) → AllOver k (onto ts (x ∷ acc))
all_over k [] x acc l o f = (l, o)
all_over k (u ∷ ts) x acc l o f = let under = (falls_rest ts (u ∷ x ∷ acc) f).0.0 in all_over k ts u (x ∷ acc) (omega (arith, l, under)) (l, o) f

higher : (k l : ℕ) (us : List (Turn Named)) → k ≤ l → IsFirstUnder k us → IsFirstUnder l us
higher k l [] o h = tt
higher k l (u ∷ us) o h = omega (arith, o, h)

each_higher : (k : ℕ) (us left : List (Turn Named)) → IsFirstUnder k us → AllOver k left → Each (λ t. IsFirstUnder t.key us) left
each_higher k us [] h o = tt
each_higher k us (t ∷ left) h o = (higher k t.key us o.0 h, each_higher k us left h o.1)

first_under : (k : ℕ) (xs : List Turned) → not (is_last_from k xs) ≡ true → IsFirstUnder k (map turn_of xs)
first_under k [] h = tt
first_under k (x ∷ xs) h = go (nat_lt (rank x.key) k) refl h
  where
    go : (b : Bool) → nat_lt (rank x.key) k ≡ b → not (not b) ≡ true → rank x.key < k
    go true e n = ltb-true (rank x.key) k e
    go false e n = cc

onto_more : (xs ys zs : List (Turn Named)) → onto xs (ys ++ zs) ≡ onto xs ys ++ zs
onto_more [] ys zs = refl
onto_more (x ∷ xs) ys zs = onto_more xs (x ∷ ys) zs

turned_more : (xs ys : List Turned) (acc : List (Turn Named)) → onto (map turn_of (xs ++ ys)) acc ≡ onto (map turn_of ys) (onto (map turn_of xs) acc)
turned_more [] ys acc = refl
turned_more (x ∷ xs) ys acc = turned_more xs ys (turn_of x ∷ acc)

-- turns that are later than all that are held stand behind these
pub later_stand : (first : Turned) (turns held : List Turned) → head turns ≡ Some first → not (is_last_from (rank first.key) (onto held [])) ≡ true → Falls (turns_of turns) → turns_of (held ++ turns) ≡ put_turns (turns_of turns) (turns_of held)
later_stand first [] held there last falls = cc
later_stand first (t ∷ ts) held there last falls =
    let same : t ≡ first = cc in
    let under : IsFirstUnder (rank t.key) (turns_of held) = subst (IsFirstUnder (rank t.key)) (map_onto held []) (first_under (rank t.key) (onto held []) (subst (λ (x : Turned). not (is_last_from (rank x.key) (onto held [])) ≡ true) (sym same) last)) in
    let over : AllOver (rank t.key) (turns_of (t ∷ ts)) = all_over (rank t.key) (map turn_of ts) (turn_of t) [] (omega arith) tt falls in
    turned_more held (t ∷ ts) [] ∙ onto_more (map turn_of (t ∷ ts)) [] (turns_of held)
    ∙ sym (puts_between (turns_of (t ∷ ts)) [] (turns_of held) falls (nothing_over (turns_of (t ∷ ts))) (each_higher (rank t.key) (turns_of held) (turns_of (t ∷ ts)) under over))
