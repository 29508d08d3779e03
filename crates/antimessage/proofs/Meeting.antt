-- Messages and antimessages that meet along one walk.
use Rattle.std.proofs.Common.{◌≡◌, refl, sym, ◌∙◌, ap, subst, ℕ, zero, suc, ◌+◌, ◌-◌, ◌^◌, ◌<◌, min, List, [], ◌∷◌, ◌++◌, reverse, length, Bool, true, false, true≢false, if◌then◌else◌, ◌&&◌, arith}
use mathlib.Core.List.{reverse_aux, reverse_aux-eq}
use Rattle.std.specs.declared.cmp.Ordering.{Ordering}
use Rattle.std.specs.declared.cmp.Ordering.TheVariants.{Less, Equal, Greater}
use Rattle.std.specs.Ordering.{is_gt, ordering_reverse, ordering_then}
use Rattle.std.specs.Cmp.{tied_itself}
use Rattle.raw_events.specs.Around.{tail, is_nonempty, pass_next}
use Rattle.event_keys.specs.declared.message.Message.{Message}
use Rattle.event_keys.specs.declared.message.Sign.{Sign}
use Rattle.event_keys.specs.declared.message.Sign.TheVariants.{Plus, Minus}
use Rattle.event_keys.specs.declared.message.Signed.{Signed}
use Rattle.event_keys.specs.contracts.message.MessageOrd.TheImpl as message_ord
use Rattle.event_keys.specs.contracts.message.SignOrd.TheImpl as sign_ord
use Rattle.event_keys.specs.contracts.message.MessageOrd.TheImpl.Laws.{total-law as message_total}
use Rattle.event_keys.specs.contracts.message.SignedOrd.TheImpl.Laws.{total-law as signed_total}
use Rattle.event_keys.specs.Apart.{message_apart}
use Rattle.antimessage.specs.Counts.{Each, IsRising, IsSorted, signed_cmp, is_same, plus, minus, count}
use Rattle.antimessage.specs.Order.{Fits, IsInOrder}
use Rattle.antimessage.proofs.Counting.{counted_each, counted_first, signed_decides}
use Rattle.antimessage.specs.Meetings.{can_meet, is_minus, IsAllMet, IsPairCount}

module _ {A : Type 0} (R : A → A → Ordering) where
  rising_after : (b u : List A) → IsRising R (reverse_aux b u) → IsRising R u
  rising_after [] u r = r
  rising_after (x ∷ b) u r = (rising_after b (x ∷ u) r).1

  -- what stays of a sorted list where some items after a place leave
  pub rising_fewer : (b u v : List A) → ((P : A → Type 0) → Each P u → Each P v) → (IsRising R u → IsRising R v) → IsRising R (reverse_aux b u) → IsRising R (reverse_aux b v)
  rising_fewer [] u v each rising r = rising r
  rising_fewer (x ∷ b) u v each rising r =
      rising_fewer b (x ∷ u) (x ∷ v) (λ P e. (e.0, each P e.1)) (λ s. (each (λ y. is_gt (R x y) ≡ false) s.0, rising s.1)) r

  -- and of what holds of each item
  pub each_fewer : (P : A → Type 0) (b u v : List A) → ((Q : A → Type 0) → Each Q u → Each Q v) → Each P (reverse_aux b u) → Each P (reverse_aux b v)
  each_fewer P [] u v each e = each P e
  each_fewer P (x ∷ b) u v each e = each_fewer P b (x ∷ u) (x ∷ v) (λ Q f. (f.0, each Q f.1)) e

  pub each_before : (b : List A) (x : A) (a : List A) → IsRising R (reverse_aux b (x ∷ a)) → Each (λ y. is_gt (R y x) ≡ false) b
  each_before [] x a r = tt
  each_before (y ∷ b) x a r =
      ((rising_after b (y ∷ x ∷ a) r).0.0, each_before b x a (rising_fewer b (y ∷ x ∷ a) (x ∷ a) (λ P e. e.1) (λ s. s.1) r))

pub count_along : (z : Signed) (b u : List Signed) → count z (reverse_aux b u) ≡ count z b + count z u
count_along z [] u = omega arith
count_along z (x ∷ b) u = omega (arith, count_along z b (x ∷ u))

pub length_along : (b u : List Signed) → length (reverse_aux b u) ≡ length b + length u
length_along [] u = omega arith
length_along (x ∷ b) u = omega (arith, length_along b (x ∷ u))

-- where a walk stands: the walked list is in order, what left it left in pairs, and no message before the cursor has both signs
pub record IsMeeting (old before after : List Signed) (answer : ℕ) : Type 0 where
  pub order : IsInOrder (reverse_aux before after)
  pub balanced : (m : Message) → count (plus m) old + count (minus m) (reverse_aux before after) ≡ count (minus m) old + count (plus m) (reverse_aux before after)
  pub apart : (m : Message) → 0 < count (plus m) before → count (minus m) before ≡ 0
  pub counted : IsPairCount old (reverse_aux before after) answer

pub meeting_starts : (old : List Signed) → IsInOrder old → IsMeeting old [] old 0
meeting_starts old r = record {
  order = r;
  balanced = λ m. omega arith;
  apart = λ m c. refl;
  counted = record { pairs = 0; left = omega arith; is = omega arith };
}

-- a message is below its antimessage, and nothing is between them
plus_below : (m : Message) → is_gt (signed_cmp (minus m) (plus m)) ≡ true
plus_below m =
    let tied : message_ord.ghosts.cmp m m ≡ Equal = tied_itself message_total m in
    ap (λ o. is_gt (ordering_then o Greater)) tied

level_parts : (o p s t : Ordering) → o ≡ ordering_reverse p → is_gt (ordering_then o s) ≡ false → is_gt (ordering_then p t) ≡ false → o ≡ Equal
level_parts Less Less s t e a b = cc
level_parts Less Equal s t e a b = cc
level_parts Less Greater s t e a b = cc
level_parts Equal p s t e a b = refl
level_parts Greater p s t e a b = cc

between : (m : Message) (x : Signed) → is_gt (signed_cmp (plus m) x) ≡ false → is_gt (signed_cmp x (minus m)) ≡ false → m ≡ x.message
between m x a b =
    message_apart m x.message (level_parts (message_ord.ghosts.cmp m x.message) (message_ord.ghosts.cmp x.message m) (sign_ord.ghosts.cmp Plus x.sign) (sign_ord.ghosts.cmp x.sign Minus) (message_total.antisymm m x.message) a b)

pub unlike : (x y : Signed) → (x ≡ y → ⊥) → is_same x y ≡ false
unlike x y f =
    (elim (is_same x y) as (λ b. is_same x y ≡ b → b ≡ false) [
      | true ↦ λ e. absurd (f ((signed_decides x y).0 e))
      | false ↦ λ e. refl
    ]) refl

plus_not_minus : (m n : Message) → plus m ≡ minus n → ⊥
plus_not_minus m n e = let signs : Plus ≡ Minus = ap (λ (s : Signed). s.sign) e in cc

of_sign : (m n : Message) (s : Sign) → m ≡ n → is_same (record { message = n; sign = s }) (plus m) ≡ false → record { message = n; sign = s } ≡ minus m
of_sign m n Plus e d = absurd (true≢false (sym ((signed_decides (plus n) (plus m)).1 (λ i. plus (sym e i))) ∙ d))
of_sign m n Minus e d = λ i. minus (sym e i)

none : (n : ℕ) → (0 < n → ⊥) → n ≡ 0
none zero f = refl
none (suc n) f = absurd (f (omega arith))

-- an antimessage whose message was passed stands directly after it, where no antimessage was passed
last_meets : (m : Message) (before after : List Signed) → IsSorted (reverse_aux before (minus m ∷ after)) → 0 < count (plus m) before → count (minus m) before ≡ 0 → can_meet before (minus m ∷ after) ≡ true
last_meets m [] after r c z = absurd (omega arith)
last_meets m (l ∷ b) after r c z =
    let below : is_gt (signed_cmp l (minus m)) ≡ false = (each_before signed_cmp (l ∷ b) (minus m) after r).0 in
    let own : is_gt (signed_cmp l l) ≡ false = ap is_gt (tied_itself signed_total l) in
    let above : is_gt (signed_cmp (plus m) l) ≡ false =
    counted_each is_same signed_decides (λ y. is_gt (signed_cmp y l) ≡ false) (plus m) (l ∷ b) c (own, each_before signed_cmp b l (minus m ∷ after) r) in
    let same : m ≡ l.message = between m l above below in
    (elim (is_same l (plus m)) as (λ h. is_same l (plus m) ≡ h → h && true ≡ true) [
      | true ↦ λ e. refl
      | false ↦ λ e.
          let other : l ≡ minus m = of_sign m l.message l.sign same e in
          let there : 0 < count (minus m) (l ∷ b) = subst (λ w. 0 < count (minus m) (w ∷ b)) (sym other) (counted_first is_same signed_decides (minus m) b) in
          absurd (omega arith)
    ]) refl

passed_minus : (m : Message) (before after : List Signed) → IsSorted (reverse_aux before (minus m ∷ after)) → can_meet before (minus m ∷ after) ≡ false → (0 < count (plus m) before → count (minus m) before ≡ 0) → 0 < count (plus m) before → ⊥
passed_minus m before after r n apart c = true≢false (sym (last_meets m before after r c (apart c)) ∙ n)

passed_plus : (m : Message) (before after : List Signed) → IsSorted (reverse_aux before (plus m ∷ after)) → count (minus m) before ≡ 0
passed_plus m before after r =
    none (count (minus m) before) (λ c.
    let below : is_gt (signed_cmp (minus m) (plus m)) ≡ false =
    counted_each is_same signed_decides (λ y. is_gt (signed_cmp y (plus m)) ≡ false) (minus m) before c (each_before signed_cmp before (plus m) after r) in
    true≢false (sym (plus_below m) ∙ below))

abbrev pub one_of : Signed → Signed → ℕ
one_of y x = if is_same y x then 1 else 0

pub one_no : (x y : Signed) → is_same x y ≡ false → one_of x y ≡ 0
one_no x y e = ap (λ (b : Bool). if b then 1 else 0) e

passed_apart : (m : Message) (x : Signed) (before after : List Signed) → IsSorted (reverse_aux before (x ∷ after)) → can_meet before (x ∷ after) ≡ false → (0 < count (plus m) before → count (minus m) before ≡ 0) → 0 < one_of x (plus m) + count (plus m) before → one_of x (minus m) + count (minus m) before ≡ 0
passed_apart m x before after r n apart c =
    (elim (is_same x (minus m)) as (λ b. is_same x (minus m) ≡ b → (if b then 1 else 0) + count (minus m) before ≡ 0) [
      | true ↦ λ e.
          let is : x ≡ minus m = (signed_decides x (minus m)).0 e in
          let no : one_of x (plus m) ≡ 0 = one_no x (plus m) (unlike x (plus m) (λ p. plus_not_minus m m (sym p ∙ is))) in
          absurd (passed_minus m before after (subst (λ w. IsSorted (reverse_aux before (w ∷ after))) is r) (subst (λ w. can_meet before (w ∷ after) ≡ false) is n) apart (omega arith))
      | false ↦ λ e.
          (elim (is_same x (plus m)) as (λ b. is_same x (plus m) ≡ b → 0 < (if b then 1 else 0) + count (plus m) before → 0 + count (minus m) before ≡ 0) [
            | true ↦ λ f d.
                let is : x ≡ plus m = (signed_decides x (plus m)).0 f in
                omega (arith, passed_plus m before after (subst (λ w. IsSorted (reverse_aux before (w ∷ after))) is r))
            | false ↦ λ f d. omega (arith, apart (omega arith))
          ]) refl c
    ]) refl

meeting_passes : (old before after : List Signed) (x : Signed) (answer : ℕ) → can_meet before (x ∷ after) ≡ false → IsMeeting old before (x ∷ after) answer → IsMeeting old (x ∷ before) after answer
meeting_passes old before after x answer n k = record {
  order = k.order;
  balanced = k.balanced;
  apart = λ m. passed_apart m x before after k.order.sorted n (k.apart m);
  counted = k.counted;
}

pub both_true : (a b : Bool) → a && b ≡ true → (a ≡ true) × (b ≡ true)
both_true true b e = (refl, e)
both_true false b e = cc

of_minus : (m : Message) (s : Sign) → is_minus s ≡ true → record { message = m; sign = s } ≡ minus m
of_minus m Plus e = cc
of_minus m Minus e = refl

pub one_each : (k m : Message) → one_of (plus k) (plus m) ≡ one_of (minus k) (minus m)
one_each k m = refl

pub one_minus : (k m : Message) → one_of (minus k) (plus m) ≡ 0
one_minus k m = one_no (minus k) (plus m) (unlike (minus k) (plus m) (λ e. plus_not_minus m k (sym e)))

pub one_plus : (k m : Message) → one_of (plus k) (minus m) ≡ 0
one_plus k m = one_no (plus k) (minus m) (unlike (plus k) (minus m) (plus_not_minus k m))

balanced_pair : (old before after : List Signed) (k m : Message) (x y : Signed) → x ≡ plus k → y ≡ minus k
    → count (plus m) old + count (minus m) (reverse_aux before (x ∷ y ∷ after)) ≡ count (minus m) old + count (plus m) (reverse_aux before (x ∷ y ∷ after))
    → count (plus m) old + count (minus m) (reverse_aux before after) ≡ count (minus m) old + count (plus m) (reverse_aux before after)
balanced_pair old before after k m x y xe ye h =
    let x_plus : one_of x (plus m) ≡ one_of (plus k) (plus m) = ap (λ w. one_of w (plus m)) xe in
    let x_minus : one_of x (minus m) ≡ 0 = ap (λ w. one_of w (minus m)) xe ∙ one_plus k m in
    let y_plus : one_of y (plus m) ≡ 0 = ap (λ w. one_of w (plus m)) ye ∙ one_minus k m in
    let y_minus : one_of y (minus m) ≡ one_of (plus k) (plus m) = ap (λ w. one_of w (minus m)) ye ∙ sym (one_each k m) in
    omega (arith, h, x_plus, x_minus, y_plus, y_minus, count_along (plus m) before (x ∷ y ∷ after), count_along (minus m) before (x ∷ y ∷ after), count_along (plus m) before after, count_along (minus m) before after)

meeting_meets : (old before after : List Signed) (x y : Signed) (answer : ℕ) → can_meet (x ∷ before) (y ∷ after) ≡ true → IsMeeting old (x ∷ before) (y ∷ after) answer → IsMeeting old before after (min (answer + 1) (2 ^ 64 - 1))
meeting_meets old before after x y answer n k =
    let parts : (is_same x (plus y.message) ≡ true) × (is_minus y.sign ≡ true) = both_true (is_same x (plus y.message)) (is_minus y.sign) n in
    let xe : x ≡ plus y.message = (signed_decides x (plus y.message)).0 parts.0 in
    let ye : y ≡ minus y.message = of_minus y.message y.sign parts.1 in
    record {
      order = record {
        sorted = rising_fewer signed_cmp before (x ∷ y ∷ after) after (λ P e. e.1.1) (λ s. s.1.1) k.order.sorted;
        fits = each_fewer signed_cmp Fits before (x ∷ y ∷ after) after (λ P e. e.1.1) k.order.fits;
      };
      balanced = λ m. balanced_pair old before after y.message m x y xe ye (k.balanced m);
      apart = λ m c. let gone : count (minus m) (x ∷ before) ≡ 0 = k.apart m (omega arith) in omega arith;
      counted = record {
        pairs = k.counted.pairs + 1;
        left = omega (arith, k.counted.left, length_along before (x ∷ y ∷ after), length_along before after);
        is = omega (arith, k.counted.is);
      };
    }

left_more : (p q a b : ℕ) → p + b ≡ q + a → (0 < a → b ≡ 0) → a ≡ p - q
left_more p q zero b e f = omega arith
left_more p q (suc a) b e f = let gone : b ≡ 0 = f (omega arith) in omega arith

right_more : (p q a b : ℕ) → p + b ≡ q + a → (0 < a → b ≡ 0) → b ≡ q - p
right_more p q zero b e f = omega arith
right_more p q (suc a) b e f = let gone : b ≡ 0 = f (omega arith) in omega arith

none_after : (z : Signed) (before : List Signed) → count z (reverse_aux before []) ≡ count z before
none_after z before = omega (arith, count_along z before [])

meeting_ends : (old before : List Signed) (answer : ℕ) → IsMeeting old before [] answer → IsAllMet old (reverse_aux before [])
meeting_ends old before answer k =
    let apart : (m : Message) → 0 < count (plus m) (reverse_aux before []) → count (minus m) (reverse_aux before []) ≡ 0 =
    λ m c. none_after (minus m) before ∙ k.apart m (subst (λ n. 0 < n) (none_after (plus m) before) c) in
    record {
      pluses = λ m. left_more (count (plus m) old) (count (minus m) old) (count (plus m) (reverse_aux before [])) (count (minus m) (reverse_aux before [])) (k.balanced m) (apart m);
      minuses = λ m. right_more (count (plus m) old) (count (minus m) old) (count (plus m) (reverse_aux before [])) (count (minus m) (reverse_aux before [])) (k.balanced m) (apart m);
    }

-- one turn of the walk at which two meet
pub turn_meets : (old before after : List Signed) (answer : ℕ) → can_meet before after ≡ true → IsMeeting old before after answer → IsMeeting old (tail before) (tail after) (min (answer + 1) (2 ^ 64 - 1))
turn_meets old [] after answer e k = cc
turn_meets old (x ∷ before) [] answer e k = cc
turn_meets old (x ∷ before) (y ∷ after) answer e k = meeting_meets old before after x y answer e k

-- one turn of the walk at which one is passed
pub turn_passes : (old before after : List Signed) (answer : ℕ) → is_nonempty after ≡ true → can_meet before after ≡ false → IsMeeting old before after answer → IsMeeting old (pass_next before after).before (pass_next before after).after answer
turn_passes old before [] answer h e k = cc
turn_passes old before (x ∷ after) answer h e k = meeting_passes old before after x answer e k

-- the end of the walk
pub walk_ends : (old before after : List Signed) (answer : ℕ) → is_nonempty after ≡ false → IsMeeting old before after answer → IsAllMet old (reverse before ++ after)
walk_ends old before [] answer h k = subst (IsAllMet old) (reverse_aux-eq before []) (meeting_ends old before answer k)
walk_ends old before (x ∷ after) answer h k = cc
