-- What is outgoing comes to all stubs, one after the other.
use Rattle.std.proofs.Common.{◌≡◌, ℕ, suc, ◌+◌, ◌<◌, ◌≤◌, ◌==◌, ◌⊎◌, inl, inr, Bool, true, false, not, None, Some, List, [], ◌∷◌, ◌++◌, filter, length, refl, ap, sym, subst, ◌∙◌, arith}
use Rattle.std.specs.Prelude.{if◌then◌else◌, slice_get, slice_set, slice_index_or}
use Rattle.std.proofs.lemmas.Bool.{eq-eqb, ne_eqb, cases_eq}
use Rattle.std.proofs.lemmas.Option.{slice_get-get_or, slice_get_within}
use Rattle.event_keys.specs.declared.key.Bound.{Bound}
use Rattle.event_keys.specs.declared.message.Signed.{Signed}
use Rattle.antimessage.specs.Bags.{insert_all, is_to}
use Rattle.exchange.specs.declared.stub.Stub.{Stub}
use Rattle.exchange.specs.Moving.{first_receiver, HasCome, IsBrought, IsForgotten, IsHandedOver, IsPassedOn, IsReached, IsSent}
use Rattle.virtual_time.specs.Machine.{Lawful}
use Rattle.task_seed.specs.Turning.{System}
use Rattle.task_seed.specs.Machines.{machine}
use Rattle.exchange.proofs.Accepting.{ToLaw, still_to}
use Rattle.exchange.proofs.Receiving.{To, to_all}
use Rattle.exchange.proofs.Passing.{get_same, get_other, slice_set-length}

-- what is to j stays where what is to i is taken
pub left_for : (i j : ℕ) (xs : List Signed) → (j ≡ i → ⊥) → filter (is_to j) (filter (λ s. not (is_to i s)) xs) ≡ filter (is_to j) xs
left_for i j [] ne = refl
left_for i j (x ∷ xs) ne = go (cases_eq x.message.to i) (left_for i j xs ne)
  where
    go : (x.message.to ≡ i) ⊎ (x.message.to ≡ i → ⊥) → filter (is_to j) (filter (λ s. not (is_to i s)) xs) ≡ filter (is_to j) xs → filter (is_to j) (filter (λ s. not (is_to i s)) (x ∷ xs)) ≡ filter (is_to j) (x ∷ xs)
    go (inl e) rest = rw (eq-eqb x.message.to i e, ne_eqb x.message.to j (λ q. ne (sym q ∙ e))) rest
    go (inr other) rest = rw (ne_eqb x.message.to i other) (kept (x.message.to == j))
      where
        kept : (b : Bool) → (if b then x ∷ filter (is_to j) (filter (λ s. not (is_to i s)) xs) else filter (is_to j) (filter (λ s. not (is_to i s)) xs)) ≡ (if b then x ∷ filter (is_to j) xs else filter (is_to j) xs)
        kept true = ap (λ ys. x ∷ ys) rest
        kept false = rest

-- what is to i goes
pub none_for : (i : ℕ) (xs : List Signed) → filter (is_to i) (filter (λ s. not (is_to i s)) xs) ≡ []
none_for i [] = refl
none_for i (x ∷ xs) = go (cases_eq x.message.to i) (none_for i xs)
  where
    go : (x.message.to ≡ i) ⊎ (x.message.to ≡ i → ⊥) → filter (is_to i) (filter (λ s. not (is_to i s)) xs) ≡ [] → filter (is_to i) (filter (λ s. not (is_to i s)) (x ∷ xs)) ≡ []
    go (inl e) rest = rw (eq-eqb x.message.to i e) rest
    go (inr other) rest = rw (ne_eqb x.message.to i other, ne_eqb x.message.to i other) rest

-- what is left is no more than there was
left_few : (i : ℕ) (xs : List Signed) → length (filter (λ s. not (is_to i s)) xs) ≤ length xs
left_few i [] = omega arith
left_few i (x ∷ xs) = go (x.message.to == i) (left_few i xs)
  where
    go : (b : Bool) → length (filter (λ s. not (is_to i s)) xs) ≤ length xs → length (if not b then x ∷ filter (λ s. not (is_to i s)) xs else filter (λ s. not (is_to i s)) xs) ≤ suc (length xs)
    go true few = omega (arith, few)
    go false few = omega (arith, few)

-- and less where the first is to i
left_fewer : (i : ℕ) (x : Signed) (xs : List Signed) → x.message.to ≡ i → length (filter (λ s. not (is_to i s)) (x ∷ xs)) < length (x ∷ xs)
left_fewer i x xs e = let few = left_few i xs in rw (eq-eqb x.message.to i e) (omega (arith, few))

pub fewer : (to : ℕ) (out copies : List Signed) → first_receiver (out ++ copies) ≡ Some to → length (filter (λ s. not (is_to to s)) out) + length (filter (λ s. not (is_to to s)) copies) < length out + length copies
fewer to [] [] e = cc
fewer to [] (x ∷ xs) e = let same : x.message.to ≡ to = cc in let less = left_fewer to x xs same in omega (arith, less)
fewer to (x ∷ xs) copies e = let same : x.message.to ≡ to = cc in let less = left_fewer to x xs same in let few = left_few to copies in omega (arith, less, few)

-- the first receiver has something
first_there : (to : ℕ) (x : Signed) (xs : List Signed) → x.message.to ≡ to → filter (is_to to) (x ∷ xs) ≡ [] → ⊥
first_there to x xs e none = let some : x ∷ filter (is_to to) xs ≡ [] = subst (λ (b : Bool). (if b then x ∷ filter (is_to to) xs else filter (is_to to) xs) ≡ []) (eq-eqb x.message.to to e) none in cc

receiver_there : (to : ℕ) (out copies : List Signed) → first_receiver (out ++ copies) ≡ Some to → filter (is_to to) out ≡ [] → filter (is_to to) copies ≡ [] → ⊥
receiver_there to [] [] e none_out none_copies = cc
receiver_there to [] (x ∷ xs) e none_out none_copies = first_there to x xs (cc) none_copies
receiver_there to (x ∷ xs) copies e none_out none_copies = first_there to x xs (cc) none_out

pub nothing_left : (out copies : List Signed) → first_receiver (out ++ copies) ≡ None → (out ≡ []) × (copies ≡ [])
nothing_left [] [] e = (refl, refl)
nothing_left [] (x ∷ xs) e = cc
nothing_left (x ∷ xs) copies e = cc

-- each stub is reached, and nothing to it is left, or it is as it was, and all to it is left
module _ (out0 copies0 : List Signed) (old : List Stub) where
  abbrev pub IsThrough : List Signed → List Signed → ℕ → Stub → Type 0
  IsThrough out copies j stub = IsReached out0 copies0 old j stub × (filter (is_to j) out ≡ []) × (filter (is_to j) copies ≡ [])

  abbrev pub IsAwaited : List Signed → List Signed → ℕ → Stub → Type 0
  IsAwaited out copies j stub = (slice_get old j ≡ Some stub) × (filter (is_to j) out ≡ filter (is_to j) out0) × (filter (is_to j) copies ≡ filter (is_to j) copies0)

  pub record IsSpreading (out copies : List Signed) (now : List Stub) : Type 0 where
    pub many : length now ≡ length old
    pub each : (j : ℕ) (stub : Stub) → slice_get now j ≡ Some stub → IsThrough out copies j stub ⊎ IsAwaited out copies j stub

  pub spreading_starts : IsSpreading out0 copies0 old
  spreading_starts = record { many = refl; each = λ j stub h. inr (h, refl, refl) }

  module _ (out copies : List Signed) (now : List Stub) (is : IsSpreading out copies now) where
    pub spreading_steps : (to : ℕ) (new : List Stub) → first_receiver (out ++ copies) ≡ Some to → IsBrought to (filter (is_to to) out) (filter (is_to to) copies) now new → IsSpreading (filter (λ s. not (is_to to s)) out) (filter (λ s. not (is_to to s)) copies) new
    spreading_steps to new first brought = record { many = brought.many ∙ is.many; each = λ j stub h. go j stub h (cases_eq j to) }
      where
        own : (stub : Stub) → (was : Stub) × (slice_get now to ≡ Some was) × HasCome (filter (is_to to) out) (filter (is_to to) copies) was stub → IsThrough (filter (λ s. not (is_to to s)) out) (filter (λ s. not (is_to to s)) copies) to stub
        own stub come = by (is.each to come.0 come.1)
          where
            by : IsThrough out copies to come.0 ⊎ IsAwaited out copies to come.0 → IsThrough (filter (λ s. not (is_to to s)) out) (filter (λ s. not (is_to to s)) copies) to stub
            by (inl through) = absurd (receiver_there to out copies first through.1 through.2)
            by (inr awaited) = (
              record {
                was = come.0;
                there = awaited.0;
                come = subst (λ xs. HasCome xs (filter (is_to to) copies0) come.0 stub) awaited.1 (subst (λ xs. HasCome (filter (is_to to) out) xs come.0 stub) awaited.2 come.2);
              },
              none_for to out,
              none_for to copies,
            )

        other : (j : ℕ) (stub : Stub) → (j ≡ to → ⊥) → IsThrough out copies j stub ⊎ IsAwaited out copies j stub → IsThrough (filter (λ s. not (is_to to s)) out) (filter (λ s. not (is_to to s)) copies) j stub ⊎ IsAwaited (filter (λ s. not (is_to to s)) out) (filter (λ s. not (is_to to s)) copies) j stub
        other j stub ne (inl through) = inl (through.0, left_for to j out ne ∙ through.1, left_for to j copies ne ∙ through.2)
        other j stub ne (inr awaited) = inr (awaited.0, left_for to j out ne ∙ awaited.1, left_for to j copies ne ∙ awaited.2)

        go : (j : ℕ) (stub : Stub) → slice_get new j ≡ Some stub → (j ≡ to) ⊎ (j ≡ to → ⊥) → IsThrough (filter (λ s. not (is_to to s)) out) (filter (λ s. not (is_to to s)) copies) j stub ⊎ IsAwaited (filter (λ s. not (is_to to s)) out) (filter (λ s. not (is_to to s)) copies) j stub
        go j stub h (inl e) = inl (subst (λ k. IsThrough (filter (λ s. not (is_to to s)) out) (filter (λ s. not (is_to to s)) copies) k stub) (sym e) (own stub (brought.own stub (sym (ap (slice_get new) e) ∙ h))))
        go j stub h (inr ne) = other j stub ne (is.each j stub (sym (brought.others j ne) ∙ h))

    pub spreading_ends : first_receiver (out ++ copies) ≡ None → (j : ℕ) (stub : Stub) → slice_get now j ≡ Some stub → IsReached out0 copies0 old j stub
    spreading_ends none j stub h = go (is.each j stub h) (nothing_left out copies none)
      where
        go : IsThrough out copies j stub ⊎ IsAwaited out copies j stub → (out ≡ []) × (copies ≡ []) → IsReached out0 copies0 old j stub
        go (inl through) left = through.0
        go (inr awaited) left = record { was = stub; there = awaited.0; come = inr (sym awaited.1 ∙ ap (filter (is_to j)) left.0, sym awaited.2 ∙ ap (filter (is_to j)) left.1, refl) }

-- it is brought to the stub at its place, or to none
pub brought_at : (to n : ℕ) (came copies : List Signed) (old : List Stub) (d new : Stub) → n ≡ to → n < length old → HasCome came copies (slice_index_or old n d) new → IsBrought to came copies old (slice_set old n new)
brought_at to n came copies old d new is short come = record {
  many = slice_set-length old n new;
  others = λ j ne. get_other old n new j (λ e. ne (e ∙ is));
  own = λ stub h. (slice_index_or old n d, ap (slice_get old) (sym is) ∙ slice_get-get_or old n d short, subst (HasCome came copies (slice_index_or old n d)) (same stub h) come);
}
  where
    same : (stub : Stub) → slice_get (slice_set old n new) to ≡ Some stub → new ≡ stub
    same stub h = let one : Some new ≡ Some stub = sym (get_same old n new short) ∙ ap (slice_get (slice_set old n new)) is ∙ h in cc

pub brought_none : (to : ℕ) (came copies : List Signed) (old : List Stub) → length old ≤ to → IsBrought to came copies old old
brought_none to came copies old past = record { many = refl; others = λ j ne. refl; own = λ stub h. let short = slice_get_within old to stub h in absurd (omega (arith, short, past)) }

-- a component's own stub, step by step
module _ (i n : ℕ) (is_n : n ≡ i) (bound floor : Bound) (out of_sender of_receiver tray new_tray : List Signed) (old : List Stub) (d e : Stub) (short : i < length old)
    (sent : Stub) (is_sent : IsSent of_sender out (slice_index_or old n d) sent) (mid : List Stub) (many : length mid ≡ length (slice_set old n sent))
    (each : (j : ℕ) (stub : Stub) → slice_get mid j ≡ Some stub → IsReached out of_receiver (slice_set old n sent) j stub) where
  there : slice_get old i ≡ Some (slice_index_or old n d)
  there = ap (slice_get old) (sym is_n) ∙ slice_get-get_or old n d (omega (arith, is_n, short))

  short_mid : n < length mid
  short_mid = let l = slice_set-length old n sent in omega (arith, many, l, is_n, short)

  at_mid : slice_get mid i ≡ Some (slice_index_or mid n e)
  at_mid = ap (slice_get mid) (sym is_n) ∙ slice_get-get_or mid n e short_mid

  pub come_is : HasCome (filter (is_to i) out) (filter (is_to i) of_receiver) sent (slice_index_or mid n e)
  come_is =
      let r = each i (slice_index_or mid n e) at_mid in
      let one : Some sent ≡ Some r.was = sym (get_same old n sent (omega (arith, is_n, short))) ∙ ap (slice_get (slice_set old n sent)) is_n ∙ r.there in
      let same : r.was ≡ sent = cc in
      subst (λ x. HasCome (filter (is_to i) out) (filter (is_to i) of_receiver) x (slice_index_or mid n e)) same r.come

  -- what is then in its tray is to it
  pub tray_to : (s : System) → Lawful (machine s) → ToLaw → ((stub : Stub) → slice_get old i ≡ Some stub → To i stub.inbox) → To i tray → new_tray ≡ insert_all (slice_index_or mid n e).inbox tray → To i new_tray
  tray_to s law to inbox t in_tray =
      let same : sent.inbox ≡ (slice_index_or old n d).inbox = ap (λ (x : Stub). x.inbox) is_sent.rest in
      let all = still_to s to law i out of_receiver sent (slice_index_or mid n e) come_is (subst (To i) (sym same) (inbox (slice_index_or old n d) there)) in
      subst (To i) (sym in_tray) (to_all i (slice_index_or mid n e).inbox tray all t)

  module _ (handed : Stub) (is_handed : IsHandedOver (slice_index_or mid n e) handed) (kept : Stub) (is_kept : IsForgotten bound handed kept) (in_tray : new_tray ≡ insert_all (slice_index_or mid n e).inbox tray) where
    pub passed_on : IsPassedOn i bound floor out of_sender of_receiver tray new_tray old (slice_set mid n (record kept { floor = floor }))
    passed_on = record {
      many = slice_set-length mid n (record kept { floor = floor }) ∙ many ∙ slice_set-length old n sent;
      others = λ j stub ne h.
          let r = each j stub (sym (get_other mid n (record kept { floor = floor }) j (λ q. ne (q ∙ is_n))) ∙ h) in
          record { was = r.was; there = sym (get_other old n sent j (λ q. ne (q ∙ is_n))) ∙ r.there; come = r.come };
      was = slice_index_or old n d;
      there = there;
      sent = sent;
      is_sent = is_sent;
      arrived = slice_index_or mid n e;
      has_come = come_is;
      handed = handed;
      is_handed = is_handed;
      kept = kept;
      is_kept = is_kept;
      here = ap (slice_get (slice_set mid n (record kept { floor = floor }))) (sym is_n) ∙ get_same mid n (record kept { floor = floor }) short_mid;
      in_tray = in_tray;
    }
