-- What is outgoing comes to the stubs of its receivers' groups, one receiver after the other.
use Rattle.std.proofs.Common.{◌≡◌, ℕ, suc, ◌+◌, ◌-◌, ◌<◌, ◌≤◌, ◌==◌, ◌⊎◌, inl, inr, Bool, true, false, not, None, Some, List, [], ◌∷◌, ◌++◌, filter, length, refl, ap, sym, subst, ◌∙◌, arith}
use Rattle.std.specs.Prelude.{if◌then◌else◌, slice_get, slice_set, slice_index_or}
use Rattle.std.proofs.lemmas.Bool.{eq-eqb, cases_eq, cases_lt}
use Rattle.std.proofs.lemmas.Option.{slice_get-get_or, slice_get_within}
use Rattle.terms.specs.Named.{Named}
use Rattle.event_keys.specs.declared.key.Bound.{Bound}
use Rattle.event_keys.specs.declared.message.Sign.{Sign}
use Rattle.event_keys.specs.declared.message.Sign.TheVariants.{Plus, Minus}
use Rattle.event_keys.specs.declared.message.Signed.{Signed}
use Rattle.antimessage.specs.Bags.{is_to}
use Rattle.virtual_time.specs.Bags.{times}
use Rattle.virtual_time.specs.Machine.{Lawful}
use Rattle.rollback.specs.declared.copied.Copies.{Copies}
use Rattle.rollback.specs.Laws.{RestGoesToOthers, SplitGoesToOne}
use Rattle.task_seed.specs.Turning.{System}
use Rattle.task_seed.specs.Machines.{machine}
use Rattle.group_exchange.specs.declared.stub.Stub.{Stub}
use Rattle.group_exchange.specs.ExchangeView.{AreStubs, IsStub}
use Rattle.group_exchange.specs.Moving.{AllCome, HasMetStub, HasPassedOn, HaveCome, IsArrived, IsBrought, IsReached, among, first_receiver}
use Rattle.group_exchange.proofs.Receiving.{left_else, left_here, none_else, split_else, split_here, to_alone}
use Rattle.group_exchange.proofs.Placing.{get_other, get_same, slice_set-length}

left_few : (i : ℕ) (xs : List Signed) → length (filter (λ s. not (is_to i s)) xs) ≤ length xs
left_few i [] = omega arith
left_few i (x ∷ xs) = go (x.message.to == i) (left_few i xs)
  where
    go : (b : Bool) → length (filter (λ s. not (is_to i s)) xs) ≤ length xs → length (if not b then x ∷ filter (λ s. not (is_to i s)) xs else filter (λ s. not (is_to i s)) xs) ≤ suc (length xs)
    go true few = omega (arith, few)
    go false few = omega (arith, few)

-- and less where the first is to i
left_fewer : (i : ℕ) (x : Signed) (xs : List Signed) → x.message.to ≡ i → length (filter (λ s. not (is_to i s)) (x ∷ xs)) < length (x ∷ xs)
left_fewer i x xs e = let few = left_few i xs in rw (eq-eqb x.message.to i e) (omega (arith, few))

pub fewer : (to : ℕ) (out copies : List Signed) → first_receiver (out ++ copies) ≡ Some to → length (filter (λ s. not (is_to to s)) out) + length (filter (λ s. not (is_to to s)) copies) < length out + length copies
fewer to [] [] e = cc
fewer to [] (x ∷ xs) e = let same : x.message.to ≡ to = cc in let less = left_fewer to x xs same in omega (arith, less)
fewer to (x ∷ xs) copies e = let same : x.message.to ≡ to = cc in let less = left_fewer to x xs same in let few = left_few to copies in omega (arith, less, few)

pub nothing_left : (out copies : List Signed) → first_receiver (out ++ copies) ≡ None → (out ≡ []) × (copies ≡ [])
nothing_left [] [] e = (refl, refl)
nothing_left [] (x ∷ xs) e = cc
nothing_left (x ∷ xs) copies e = cc

-- of two differences one is none
one_side : {x y p q : ℕ} → (x < y) ⊎ (y ≤ x) → p ≡ x - y → q ≡ y - x → (p ≡ 0) ⊎ (q ≡ 0)
one_side (inl l) e f = inl (omega (arith, l, e))
one_side (inr l) e f = inr (omega (arith, l, f))

-- what came to one receiver leaves what is to come in all
all_came : (p m old_p old_m out_p out_m r : ℕ) → p ≡ (out_p + old_p) - (out_m + old_m) → m ≡ (out_m + old_m) - (out_p + old_p) → (old_p + out_p) - (old_m + out_m) ≡ r → (p + 0) - (m + 0) ≡ r
all_came p m old_p old_m out_p out_m r e f h = omega (arith, e, f, h)

none_came : (p m old_p old_m out_p out_m r : ℕ) → p ≡ (0 + old_p) - (0 + old_m) → m ≡ (0 + old_m) - (0 + old_p) → (old_p ≡ 0) ⊎ (old_m ≡ 0) → (old_p + out_p) - (old_m + out_m) ≡ r → (p + out_p) - (m + out_m) ≡ r
none_came p m old_p old_m out_p out_m r e f (inl z) h = omega (arith, e, f, z, h)
none_came p m old_p old_m out_p out_m r e f (inr z) h = omega (arith, e, f, z, h)

at_end : {p m r : ℕ} → (p ≡ 0) ⊎ (m ≡ 0) → (p + 0) - (m + 0) ≡ r → p ≡ r
at_end (inl z) h = omega (arith, z, h)
at_end (inr z) h = omega (arith, z, h)

turned : {A B : Type 0} → A ⊎ B → B ⊎ A
turned (inl a) = inr a
turned (inr b) = inl b

module _ (s : System) (law : Lawful (machine s)) (group : ℕ → ℕ) (split : SplitGoesToOne) (rest_law : RestGoesToOthers) where
  -- a stub on the way: what it has and what is still to come are in all what it had and what was to come
  pub record IsOn (out0 : List Signed) (old : List Stub) (out : List Signed) (g : ℕ) (stub : Stub) : Type 0 where
    pub was : Stub
    pub there : slice_get old g ≡ Some was
    pub kept : IsStub s group g stub
    pub rest : stub ≡ record was { inbox = stub.inbox; copies = stub.copies }
    pub more : (j k : ℕ) (a : Named) → group j ≡ g
        → (among s Plus j stub.inbox k a + among s Plus j out k a) - (among s Minus j stub.inbox k a + among s Minus j out k a) ≡ (among s Plus j was.inbox k a + among s Plus j out0 k a) - (among s Minus j was.inbox k a + among s Minus j out0 k a)
    pub fewer : (j k : ℕ) (a : Named) → group j ≡ g
        → (among s Minus j stub.inbox k a + among s Minus j out k a) - (among s Plus j stub.inbox k a + among s Plus j out k a) ≡ (among s Minus j was.inbox k a + among s Minus j out0 k a) - (among s Plus j was.inbox k a + among s Plus j out0 k a)

  pub record IsSpreading (out0 : List Signed) (old : List Stub) (out copies : List Signed) (now : List Stub) : Type 0 where
    pub many : length now ≡ length old
    pub copied : (j k : ℕ) (a : Named) → among s Plus j copies k a ≡ among s Plus j out k a
    pub each : (g : ℕ) (stub : Stub) → slice_get now g ≡ Some stub → IsOn out0 old out g stub

  pub spreading_starts : (out copies : List Signed) (old : List Stub) → AreStubs s group old → ((j k : ℕ) (a : Named) → among s Plus j copies k a ≡ among s Plus j out k a) → IsSpreading out old out copies old
  spreading_starts out copies old are copied = record {
    many = refl;
    copied = copied;
    each = λ g stub h. record { was = stub; there = h; kept = are g stub h; rest = refl; more = λ j k a e. refl; fewer = λ j k a e. refl };
  }

  -- one receiver
  module _ (out0 : List Signed) (old : List Stub) (out copies : List Signed) (now : List Stub) (is : IsSpreading out0 old out copies now) (to : ℕ) where
    abbrev came : List Signed
    came = filter (is_to to) out

    abbrev came_copies : List Signed
    came_copies = filter (is_to to) copies

    abbrev left : List Signed
    left = filter (λ x. not (is_to to x)) out

    same_copies : (j k : ℕ) (a : Named) → among s Plus j came_copies k a ≡ among s Plus j came k a
    same_copies j k a = go (cases_eq j to)
      where
        go : (j ≡ to) ⊎ (j ≡ to → ⊥) → among s Plus j came_copies k a ≡ among s Plus j came k a
        go (inl e) = subst (λ n. among s Plus n came_copies k a ≡ among s Plus n came k a) (sym e) (split_here s split rest_law Plus to k a copies ∙ is.copied to k a ∙ sym (split_here s split rest_law Plus to k a out))
        go (inr ne) = split_else s split rest_law Plus to j k a copies ne ∙ sym (split_else s split rest_law Plus to j k a out ne)

    left_copied : (j k : ℕ) (a : Named) → among s Plus j (filter (λ x. not (is_to to x)) copies) k a ≡ among s Plus j left k a
    left_copied j k a = go (cases_eq j to)
      where
        go : (j ≡ to) ⊎ (j ≡ to → ⊥) → among s Plus j (filter (λ x. not (is_to to x)) copies) k a ≡ among s Plus j left k a
        go (inl e) = subst (λ n. among s Plus n (filter (λ x. not (is_to to x)) copies) k a ≡ among s Plus n left k a) (sym e) (left_here s split rest_law Plus to k a copies ∙ sym (left_here s split rest_law Plus to k a out))
        go (inr ne) = left_else s split rest_law Plus to j k a copies ne ∙ is.copied j k a ∙ sym (left_else s split rest_law Plus to j k a out ne)

    -- the stub to which it comes
    module _ (was stub : Stub) (on : IsOn out0 old out (group to) was) (arrived : IsArrived came came_copies was stub) where
      apart_now : (j k : ℕ) (a : Named) → (among s Plus j stub.inbox k a ≡ 0) ⊎ (among s Minus j stub.inbox k a ≡ 0)
      apart_now j k a = one_side (cases_lt (among s Plus j came k a + among s Plus j was.inbox k a) (among s Minus j came k a + among s Minus j was.inbox k a)) (arrived.messages s j k a) (arrived.antimessages s j k a)

      copied_now : (j k : ℕ) (a : Named) → among s Plus j stub.copies k a ≡ among s Plus j stub.inbox k a
      copied_now j k a =
          let c = arrived.copied s j k a in
          let m = arrived.messages s j k a in
          let f = same_copies j k a in
          let o = on.kept.copied j k a in
          omega (arith, c, m, f, o)

      alone_now : (sign : Sign) (l k : ℕ) (a : Named) → (group l ≡ group to → ⊥) → among s sign l stub.inbox k a ≡ 0
      alone_now Plus l k a ne =
          let m = arrived.messages s l k a in
          let f = split_else s split rest_law Plus to l k a out (λ e. ne (ap group e)) in
          let o : among s Plus l was.inbox k a ≡ 0 = ap (λ ys. times (machine s) ys k a) (none_else group (group to) Plus l was.inbox ne on.kept.inbox) in
          omega (arith, m, f, o)
      alone_now Minus l k a ne =
          let m = arrived.antimessages s l k a in
          let f = split_else s split rest_law Minus to l k a out (λ e. ne (ap group e)) in
          let o : among s Minus l was.inbox k a ≡ 0 = ap (λ ys. times (machine s) ys k a) (none_else group (group to) Minus l was.inbox ne on.kept.inbox) in
          omega (arith, m, f, o)

      messages_to : (k : ℕ) (a : Named) → among s Plus to stub.inbox k a ≡ (among s Plus to out k a + among s Plus to was.inbox k a) - (among s Minus to out k a + among s Minus to was.inbox k a)
      messages_to k a = let m = arrived.messages s to k a in let p = split_here s split rest_law Plus to k a out in let n = split_here s split rest_law Minus to k a out in omega (arith, m, p, n)

      antimessages_to : (k : ℕ) (a : Named) → among s Minus to stub.inbox k a ≡ (among s Minus to out k a + among s Minus to was.inbox k a) - (among s Plus to out k a + among s Plus to was.inbox k a)
      antimessages_to k a = let m = arrived.antimessages s to k a in let p = split_here s split rest_law Plus to k a out in let n = split_here s split rest_law Minus to k a out in omega (arith, m, p, n)

      messages_else : (j k : ℕ) (a : Named) → (j ≡ to → ⊥) → among s Plus j stub.inbox k a ≡ (0 + among s Plus j was.inbox k a) - (0 + among s Minus j was.inbox k a)
      messages_else j k a ne = let m = arrived.messages s j k a in let p = split_else s split rest_law Plus to j k a out ne in let n = split_else s split rest_law Minus to j k a out ne in omega (arith, m, p, n)

      antimessages_else : (j k : ℕ) (a : Named) → (j ≡ to → ⊥) → among s Minus j stub.inbox k a ≡ (0 + among s Minus j was.inbox k a) - (0 + among s Plus j was.inbox k a)
      antimessages_else j k a ne = let m = arrived.antimessages s j k a in let p = split_else s split rest_law Plus to j k a out ne in let n = split_else s split rest_law Minus to j k a out ne in omega (arith, m, p, n)

      on_now : IsOn out0 old left (group to) stub
      on_now =
          record {
            was = on.was;
            there = on.there;
            kept = record { inbox = to_alone s law group (group to) stub.inbox alone_now; order = arrived.order; apart = apart_now; copied = copied_now };
            rest = arrived.rest ∙ ap (λ (x : Stub). record x { inbox = stub.inbox; copies = stub.copies }) on.rest;
            more = λ j k a e. more j k a e (cases_eq j to);
            fewer = λ j k a e. less j k a e (cases_eq j to);
          }
        where
          more : (j k : ℕ) (a : Named) → group j ≡ group to → (j ≡ to) ⊎ (j ≡ to → ⊥)
              → (among s Plus j stub.inbox k a + among s Plus j left k a) - (among s Minus j stub.inbox k a + among s Minus j left k a)
              ≡ (among s Plus j on.was.inbox k a + among s Plus j out0 k a) - (among s Minus j on.was.inbox k a + among s Minus j out0 k a)
          more j k a e (inl here) =
              let z = left_here s split rest_law Plus to k a out in
              let y = left_here s split rest_law Minus to k a out in
              let p = messages_to k a in
              let m = antimessages_to k a in
              let all = on.more to k a refl in
              subst (λ n. (among s Plus n stub.inbox k a + among s Plus n left k a) - (among s Minus n stub.inbox k a + among s Minus n left k a)
              ≡ (among s Plus n on.was.inbox k a + among s Plus n out0 k a) - (among s Minus n on.was.inbox k a + among s Minus n out0 k a)) (sym here)
              (ap (λ n. (among s Plus to stub.inbox k a + n) - (among s Minus to stub.inbox k a + among s Minus to left k a)) z
              ∙ ap (λ n. (among s Plus to stub.inbox k a + 0) - (among s Minus to stub.inbox k a + n)) y ∙ all_came _ _ _ _ _ _ _ p m all)
          more j k a e (inr ne) =
              let z = left_else s split rest_law Plus to j k a out ne in
              let y = left_else s split rest_law Minus to j k a out ne in
              ap (λ n. (among s Plus j stub.inbox k a + n) - (among s Minus j stub.inbox k a + among s Minus j left k a)) z
              ∙ ap (λ n. (among s Plus j stub.inbox k a + among s Plus j out k a) - (among s Minus j stub.inbox k a + n)) y
              ∙ none_came _ _ _ _ _ _ _ (messages_else j k a ne) (antimessages_else j k a ne) (on.kept.apart j k a) (on.more j k a e)

          less : (j k : ℕ) (a : Named) → group j ≡ group to → (j ≡ to) ⊎ (j ≡ to → ⊥)
              → (among s Minus j stub.inbox k a + among s Minus j left k a) - (among s Plus j stub.inbox k a + among s Plus j left k a)
              ≡ (among s Minus j on.was.inbox k a + among s Minus j out0 k a) - (among s Plus j on.was.inbox k a + among s Plus j out0 k a)
          less j k a e (inl here) =
              let z = left_here s split rest_law Plus to k a out in
              let y = left_here s split rest_law Minus to k a out in
              let p = messages_to k a in
              let m = antimessages_to k a in
              let all = on.fewer to k a refl in
              subst (λ n. (among s Minus n stub.inbox k a + among s Minus n left k a) - (among s Plus n stub.inbox k a + among s Plus n left k a)
              ≡ (among s Minus n on.was.inbox k a + among s Minus n out0 k a) - (among s Plus n on.was.inbox k a + among s Plus n out0 k a)) (sym here)
              (ap (λ n. (among s Minus to stub.inbox k a + n) - (among s Plus to stub.inbox k a + among s Plus to left k a)) y
              ∙ ap (λ n. (among s Minus to stub.inbox k a + 0) - (among s Plus to stub.inbox k a + n)) z ∙ all_came _ _ _ _ _ _ _ m p all)
          less j k a e (inr ne) =
              let z = left_else s split rest_law Plus to j k a out ne in
              let y = left_else s split rest_law Minus to j k a out ne in
              ap (λ n. (among s Minus j stub.inbox k a + n) - (among s Plus j stub.inbox k a + among s Plus j left k a)) y
              ∙ ap (λ n. (among s Minus j stub.inbox k a + among s Minus j out k a) - (among s Plus j stub.inbox k a + n)) z
              ∙ none_came _ _ _ _ _ _ _ (antimessages_else j k a ne) (messages_else j k a ne) (turned (on.kept.apart j k a)) (on.fewer j k a e)

    pub spreading_steps : (new : List Stub) → IsBrought (group to) came came_copies now new → IsSpreading out0 old left (filter (λ x. not (is_to to x)) copies) new
    spreading_steps new brought = record { many = brought.many ∙ is.many; copied = left_copied; each = λ g stub h. go g stub h (cases_eq g (group to)) }
      where
        other : (g : ℕ) (stub : Stub) → (g ≡ group to → ⊥) → IsOn out0 old out g stub → IsOn out0 old left g stub
        other g stub ne on =
            record {
              was = on.was;
              there = on.there;
              kept = on.kept;
              rest = on.rest;
              more = λ j k a e.
                  let z = left_else s split rest_law Plus to j k a out (λ h. ne (sym e ∙ ap group h)) in
                  let y = left_else s split rest_law Minus to j k a out (λ h. ne (sym e ∙ ap group h)) in
                  ap (λ n. (among s Plus j stub.inbox k a + n) - (among s Minus j stub.inbox k a + among s Minus j left k a)) z
                  ∙ ap (λ n. (among s Plus j stub.inbox k a + among s Plus j out k a) - (among s Minus j stub.inbox k a + n)) y ∙ on.more j k a e;
              fewer = λ j k a e.
                  let z = left_else s split rest_law Plus to j k a out (λ h. ne (sym e ∙ ap group h)) in
                  let y = left_else s split rest_law Minus to j k a out (λ h. ne (sym e ∙ ap group h)) in
                  ap (λ n. (among s Minus j stub.inbox k a + n) - (among s Plus j stub.inbox k a + among s Plus j left k a)) y
                  ∙ ap (λ n. (among s Minus j stub.inbox k a + among s Minus j out k a) - (among s Plus j stub.inbox k a + n)) z ∙ on.fewer j k a e;
            }

        own : (stub : Stub) → (was : Stub) × (slice_get now (group to) ≡ Some was) × IsArrived came came_copies was stub → IsOn out0 old left (group to) stub
        own stub h = on_now h.0 stub (is.each (group to) h.0 h.1) h.2

        go : (g : ℕ) (stub : Stub) → slice_get new g ≡ Some stub → (g ≡ group to) ⊎ (g ≡ group to → ⊥) → IsOn out0 old left g stub
        go g stub h (inl e) = subst (λ n. IsOn out0 old left n stub) (sym e) (own stub (brought.own stub (sym (ap (slice_get new) e) ∙ h)))
        go g stub h (inr ne) = other g stub ne (is.each g stub (sym (brought.others g ne) ∙ h))

  pub spreading_ends : (out0 : List Signed) (old : List Stub) (out copies : List Signed) (now : List Stub) → IsSpreading out0 old out copies now → out ≡ [] → HaveCome s group out0 old now
  spreading_ends out0 old out copies now is none = record { many = is.many; each = λ g stub h. reached g stub (is.each g stub h) }
    where
      reached : (g : ℕ) (stub : Stub) → IsOn out0 old out g stub → IsReached s group out0 old g stub
      reached g stub on =
          record {
            was = on.was;
            there = on.there;
            messages = λ j k a e. at_end (on.kept.apart j k a) (subst (λ xs. (among s Plus j stub.inbox k a + among s Plus j xs k a) - (among s Minus j stub.inbox k a + among s Minus j xs k a)
                ≡ (among s Plus j on.was.inbox k a + among s Plus j out0 k a) - (among s Minus j on.was.inbox k a + among s Minus j out0 k a)) none (on.more j k a e));
            antimessages = λ j k a e. at_end (turned (on.kept.apart j k a)) (subst (λ xs. (among s Minus j stub.inbox k a + among s Minus j xs k a) - (among s Plus j stub.inbox k a + among s Plus j xs k a)
                ≡ (among s Minus j on.was.inbox k a + among s Minus j out0 k a) - (among s Plus j on.was.inbox k a + among s Plus j out0 k a)) none (on.fewer j k a e));
            kept = on.kept;
            rest = on.rest;
          }

-- it is brought to the stub at its place, or to none
pub brought_at : (g : ℕ) (came copies : List Signed) (old : List Stub) (d new : Stub) → g < length old → IsArrived came copies (slice_index_or old g d) new → IsBrought g came copies old (slice_set old g new)
brought_at g came copies old d new short come = record {
  many = slice_set-length old g new;
  others = λ h ne. get_other old g new h ne;
  own = λ stub h. (slice_index_or old g d, slice_get-get_or old g d short, subst (IsArrived came copies (slice_index_or old g d)) (same stub h) come);
}
  where
    same : (stub : Stub) → slice_get (slice_set old g new) g ≡ Some stub → new ≡ stub
    same stub h = let one : Some new ≡ Some stub = sym (get_same old g new short) ∙ h in cc

pub brought_none : (g : ℕ) (came copies : List Signed) (old : List Stub) → length old ≤ g → IsBrought g came copies old old
brought_none g came copies old past = record { many = refl; others = λ h ne. refl; own = λ stub h. let short = slice_get_within old g stub h in absurd (omega (arith, short, past)) }

-- what is outgoing of a group came to the others, once its own stub was met
pub passed_on : (group : ℕ → ℕ) (g n : ℕ) → n ≡ g → (bound floor : Bound) (out left : List Signed) → left ≡ out → (copies : Copies) (old : List Stub) (d own : Stub) (new : List Stub) → g < length old → HasMetStub bound floor left copies.of_sender (slice_index_or old n d) own
    → AllCome group left copies.of_receiver (slice_set old n own) new → length new ≡ length (slice_set old n own) → HasPassedOn group g bound floor out copies old new
passed_on group g n is bound floor out left same copies old d own new short met come many = record {
  was = slice_index_or old n d;
  there = ap (slice_get old) (sym is) ∙ slice_get-get_or old n d (omega (arith, is, short));
  own = own;
  met = subst (λ xs. HasMetStub bound floor xs copies.of_sender (slice_index_or old n d) own) same met;
  come = subst (λ xs. AllCome group xs copies.of_receiver (slice_set old g own) new) same (subst (λ k. AllCome group left copies.of_receiver (slice_set old k own) new) is come);
  many = many ∙ slice_set-length old n own;
}
