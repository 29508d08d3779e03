-- Cells put in their places along one walk.
use Rattle.std.proofs.Common.{◌≡◌, refl, sym, ◌∙◌, ap, subst, ◌+◌, List, [], ◌∷◌, ◌++◌, reverse, Bool, true, false, true≢false, not, if◌then◌else◌, None, Some, arith}
use mathlib.Core.List.{reverse_aux, reverse_aux-eq}
use Rattle.std.specs.Ordering.{is_gt}
use Rattle.std.specs.Cmp.{tied_itself}
use Rattle.raw_events.specs.Around.{first_is_at_most, head, pass_next, tail}
use Rattle.event_keys.specs.declared.message.Signed.{Signed}
use Rattle.antimessage.specs.Counts.{Each, IsSorted, signed_cmp, is_same, count}
use Rattle.antimessage.specs.Bags.{insert, insert_all}
use Rattle.antimessage.proofs.Counting.{counted_inserted}
use Rattle.antimessage.proofs.Sorted.{at_most, each_more, signed_inserted, signed_total}

-- none of these is greater than x
abbrev pub AtMost : Signed → List Signed → Type 0
AtMost x = Each (λ s. is_gt (signed_cmp s x) ≡ false)

each_all : {A : Type 0} (P : A → Type 0) → ((x : A) → P x) → (xs : List A) → Each P xs
each_all P f [] = tt
each_all P f (x ∷ xs) = (f x, each_all P f xs)

-- x put in its place passes a first item that isn't greater
insert_passes : (x y : Signed) (ys : List Signed) → is_gt (signed_cmp y x) ≡ false → insert x (y ∷ ys) ≡ y ∷ insert x ys
insert_passes x y ys e = ap (λ (b : Bool). if b then x ∷ y ∷ ys else y ∷ insert x ys) e

-- and stands before a greater one
insert_stops : (x : Signed) (ys : List Signed) → first_is_at_most signed_cmp x ys ≡ false → insert x ys ≡ x ∷ ys
insert_stops x [] e = refl
insert_stops x (y ∷ ys) e =
    (elim (is_gt (signed_cmp y x)) as (λ b. not b ≡ false → (if b then x ∷ y ∷ ys else y ∷ insert x ys) ≡ x ∷ y ∷ ys) [
      | true ↦ λ f. refl
      | false ↦ λ f. absurd (true≢false f)
    ]) e

not_greater : (b : Bool) → not b ≡ true → b ≡ false
not_greater true e = absurd (true≢false (sym e))
not_greater false e = refl

-- x goes behind all that isn't greater
insert_beyond : (x : Signed) (before after : List Signed) → AtMost x before → insert x (reverse_aux before after) ≡ reverse_aux before (insert x after)
insert_beyond x [] after e = refl
insert_beyond x (s ∷ before) after e = insert_beyond x before (s ∷ after) e.1 ∙ ap (reverse_aux before) (insert_passes x s after e.0)

-- where the walk of a cell to its place stands: what comes of the lists, and what was passed
pub record IsPlacing (x : Signed) (old_before old_after before after : List Signed) : Type 0 where
  pub placed : reverse_aux before (insert x after) ≡ reverse_aux old_before (insert x old_after)
  pub passed : AtMost x old_before → AtMost x before

pub placing_starts : (x : Signed) (before after : List Signed) → IsPlacing x before after before after
placing_starts x before after = record { placed = refl; passed = λ e. e }

pub placing_passes : (x : Signed) (old_before old_after before after : List Signed) → first_is_at_most signed_cmp x after ≡ true → IsPlacing x old_before old_after before after
    → IsPlacing x old_before old_after (pass_next before after).before (pass_next before after).after
placing_passes x old_before old_after before [] e k = absurd (true≢false (sym e))
placing_passes x old_before old_after before (y ∷ after) e k =
    let no : is_gt (signed_cmp y x) ≡ false = not_greater (is_gt (signed_cmp y x)) e in
    record {
      placed = ap (reverse_aux before) (sym (insert_passes x y after no)) ∙ k.placed;
      passed = λ p. (no, k.passed p);
    }

pub placing_ends : (x : Signed) (old_before old_after before after : List Signed) → first_is_at_most signed_cmp x after ≡ false → IsPlacing x old_before old_after before after
    → reverse (x ∷ before) ++ after ≡ reverse old_before ++ insert x old_after
placing_ends x old_before old_after before after e k =
    sym (reverse_aux-eq (x ∷ before) after) ∙ ap (reverse_aux before) (sym (insert_stops x after e)) ∙ k.placed ∙ reverse_aux-eq old_before (insert x old_after)

pub placing_ends_passed : (x : Signed) (old_before old_after before after : List Signed) → IsPlacing x old_before old_after before after → AtMost x old_before → AtMost x (x ∷ before)
placing_ends_passed x old_before old_after before after k e = (ap is_gt (tied_itself signed_total x), k.passed e)

-- where the walk that puts a list's messages into another stands: what comes of both, and nothing that is left is less than what was
-- passed
pub record IsJoining (old more before after rest : List Signed) : Type 0 where
  pub all : insert_all rest (reverse_aux before after) ≡ insert_all more old
  pub rising : IsSorted rest
  pub above : Each (λ x. AtMost x before) rest

pub joining_starts : (before old more : List Signed) → before ≡ [] → IsSorted more → IsJoining old more before old more
joining_starts before old more e r =
    subst (λ b. IsJoining old more b old more) (sym e) (record {
      all = refl;
      rising = r;
      above = each_all (λ x. AtMost x []) (λ x. tt) more;
    })

pub joining_puts : (old more before after rest new_before new_after : List Signed) (x : Signed) → head rest ≡ Some x → reverse new_before ++ new_after ≡ reverse before ++ insert x after → (AtMost x before → AtMost x new_before)
    → IsJoining old more before after rest → IsJoining old more new_before new_after (tail rest)
joining_puts old more before after [] new_before new_after x h e f k = cc
joining_puts old more before after (y ∷ rest) new_before new_after x h e f k =
    let same : y ≡ x = cc in
    let low : AtMost x before = subst (λ w. AtMost w before) same k.above.0 in
    let beyond : insert y (reverse_aux before after) ≡ reverse_aux new_before new_after =
    ap (λ w. insert w (reverse_aux before after)) same ∙ insert_beyond x before after low ∙ reverse_aux-eq before (insert x after) ∙ sym e ∙ sym (reverse_aux-eq new_before new_after) in
    record {
      all = ap (insert_all rest) (sym beyond) ∙ k.all;
      rising = k.rising.1;
      above = each_more (λ z. is_gt (signed_cmp x z) ≡ false) (λ z. AtMost z new_before)
          (λ z g. each_more (λ s. is_gt (signed_cmp s x) ≡ false) (λ s. is_gt (signed_cmp s z) ≡ false) (λ s l. at_most signed_cmp signed_total s x z l g) new_before (f low))
          rest (subst (λ w. Each (λ z. is_gt (signed_cmp w z) ≡ false) rest) same k.rising.0);
    }

none_left : (rest : List Signed) → head rest ≡ None → rest ≡ []
none_left [] e = refl
none_left (x ∷ rest) e = cc

pub joining_ends : (old more before after rest : List Signed) → head rest ≡ None → IsJoining old more before after rest → reverse before ++ after ≡ insert_all more old
joining_ends old more before after rest e k = sym (reverse_aux-eq before after) ∙ subst (λ r. insert_all r (reverse_aux before after) ≡ insert_all more old) (none_left rest e) k.all

-- the counts of all that was put together
pub count_all : (x : Signed) (more bag : List Signed) → count x (insert_all more bag) ≡ count x more + count x bag
count_all x [] bag = omega arith
count_all x (s ∷ more) bag = omega (arith, count_all x more (insert s bag), counted_inserted is_same signed_cmp x s bag)

pub sorted_all : (more bag : List Signed) → IsSorted bag → IsSorted (insert_all more bag)
sorted_all [] bag r = r
sorted_all (s ∷ more) bag r = sorted_all more (insert s bag) (signed_inserted s bag r)
