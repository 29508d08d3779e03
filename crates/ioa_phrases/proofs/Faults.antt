-- The limit is on the depths of a tree, and a refusal is of the first fault.
use Rattle.std.proofs.Common.{◌≡◌, ◌≤◌, ◌<◌, ◌+◌, ℕ, Bool, true, false, nat_lt, List, [], ◌∷◌, ◌++◌, length, length-append, Option, Some, None, refl, sym, ◌∙◌, ap, subst, cond, arith}
use borrow.Author.Tests.{le-ltb}
use Rattle.std.proofs.lemmas.Bool.{ltb-false, ltb-true, lt-ltb}
use Rattle.ioa_tokens.specs.Tokens.{Tok}
use Rattle.ioa_trees.specs.Nodes.{Sort, source, Node, Leaf, pack, yield}
use Rattle.ioa_trees.specs.Grammar.{Place, outside, first, inside, deeper, Part, one, many, Is, Are, Fits, by_token, by_rule, a_source, end, a_token, a_rule, absent, present, no_more, one_more}
use Rattle.ioa_phrases.specs.Machine.{State, Step, on, move, Verdict, Read, Syntax, Deep, go, start}
use Rattle.ioa_phrases.specs.Depths.{here, depths, depths_in, WithinLimit}
use Rattle.ioa_phrases.proofs.Prefix.{left, go_left, deep_stays}
use Rattle.ioa_phrases.proofs.Sound.{read_formed}
use Rattle.ioa_phrases.proofs.Told.{apart, firsts, starts, trails, is_part, safe, body, whole_safe}
use Rattle.ioa_phrases.proofs.Complete.{both_left, both_right, led_body, plain_told, read_again}
use Rattle.ioa_phrases.proofs.Places.{same_place, same_place_is, settled, is_settled, turn, fits_token, agree, token_agrees, led_agrees, plain_agrees, whole_agrees, Known, known_next_step, token_behind, token_known, token_here, first_here, first_depths, rule_depths, counts}
use Rattle.ioa_phrases.proofs.Judged.{judge, judge_append, judge_low, headed, row_depths, place_known, place_low, settled_same, read_judged}

-- ---- the limit

fits_free : (i : Place) (d : ℕ) → Fits false i d
fits_free outside d = tt
fits_free first d = tt
fits_free inside d = tt

-- without a limit as well
mutual
  pub freed : {s : Sort} {d : ℕ} {n : Node} → Is true s d n → Is false s d n
  freed (by_token t ps ns p are e) = by_token t ps ns p (all_freed are) e
  freed (by_rule r ps m ns p is are e) = by_rule r ps m ns p (freed is) (all_freed are) e
  freed (a_source ns are e) = a_source ns (all_freed are) e

  all_freed : {d : ℕ} {ps : List Part} {ns : List Node} → Are true d ps ns → Are false d ps ns
  all_freed end = end
  all_freed {d = d} (a_token {i = i} f a are) = a_token (fits_free i d) a (all_freed are)
  all_freed (a_rule l is are) = a_rule tt (freed is) (all_freed are)
  all_freed (absent are) = absent (all_freed are)
  all_freed (present is are) = present (freed is) (all_freed are)
  all_freed (no_more are) = no_more (all_freed are)
  all_freed (one_more is are) = one_more (freed is) (all_freed are)

judged_low : (l : ℕ) (ds : List ℕ) (v : Verdict) → WithinLimit ds → judge l ds v ≡ v
judged_low l [] v h = refl
judged_low l (d ∷ ds) v h = judge_low l ds v d h.0 ∙ judged_low l ds v h.1

judged_read : (l : ℕ) (ds : List ℕ) (n : Node) → judge l ds (Read n) ≡ Read n → WithinLimit ds
judged_read l [] n e = tt
judged_read l (d ∷ ds) n e = at_test (nat_lt 64 d) refl e (judged_read l ds n)
  where
    at_test : (b : Bool) → nat_lt 64 d ≡ b → cond b (Deep (length ds + l + 1)) (judge l ds (Read n)) ≡ Read n → (judge l ds (Read n) ≡ Read n → WithinLimit ds) → d ≤ 64 × WithinLimit ds
    at_test true u e f = cc
    at_test false u e f = (ltb-false 64 d u, f e)

pub within : (n : Node) → Is false source 0 n → WithinLimit (depths 0 n) → Is true source 0 n
within n is w = read_formed true (yield n) n (read_judged n is ∙ judged_low 0 (depths 0 n) (Read n) w)

pub kept : (n : Node) → Is true source 0 n → WithinLimit (depths 0 n)
kept n is = judged_read 0 (depths 0 n) n (sym (read_judged n (freed is)) ∙ read_again true n is)

-- ---- the first that is too deep

-- up to the first beyond the limit they grow by one
abbrev Climbs : List ℕ → Type 0
Climbs [] = Unit {0}
Climbs (d ∷ ds) = d ≤ 65 × (d ≤ 64 → Climbs ds)

climbs_append : (ds es : List ℕ) → Climbs ds → (WithinLimit ds → Climbs es) → Climbs (ds ++ es)
climbs_append [] es c f = f tt
climbs_append (d ∷ ds) es c f = (c.0, λ l. climbs_append ds es (c.1 l) (λ w. f (l, w)))

-- a node that stands at most one too deep
climbs_node : (d : ℕ) (n : Node) (es : List ℕ) → depths d n ≡ d ∷ es → d ≤ 65 → (d ≤ 64 → Climbs (depths d n)) → Climbs (depths d n)
climbs_node d n es e l f = at_test (nat_lt 64 d) refl
  where
    at_test : (b : Bool) → nat_lt 64 d ≡ b → Climbs (depths d n)
    at_test true u = let over = ltb-true 64 d u in subst Climbs (sym e) (l, λ low. absurd (omega (arith, over, low)))
    at_test false u = f (ltb-false 64 d u)

low_first : (d : ℕ) (n : Node) (es : List ℕ) → depths d n ≡ d ∷ es → WithinLimit (depths d n) → d ≤ 64
low_first d n es e w = let a : WithinLimit (d ∷ es) = subst WithinLimit e w in a.0

place_step : (i j : Place) (d : ℕ) → same_place i j ≡ true → Known j d → deeper i d ≤ 65
place_step i j d h k = subst (λ z. deeper z d ≤ 65) (sym (same_place_is i j h)) (known_next_step j d k)

mutual
  is_climbing : {b : Bool} {s : Sort} {d : ℕ} {n : Node} → Is b s d n → is_part s ≡ true → d ≤ 64 → Climbs (depths d n)
  is_climbing {s = s} {d = d} {n = n} (by_token t ps ns p are e) h l =
      let told = led_body s t ps p in
      let fits = both_left (fits_token s outside t outside) _ (led_agrees s t ps p) in
      let known = token_known s outside outside t d fits l (ap (λ z. nat_lt 64 z) (first_here s t d fits) ∙ le-ltb 64 d l) in
      subst Climbs (sym (first_depths s d n t ps ns p e))
      (omega (arith, l), λ low. are_climbing are (both_left (safe ps) _ told) s (turn s outside t) (both_right (fits_token s outside t outside) _ (led_agrees s t ps p)) known)
  is_climbing {s = s} {d = d} (by_rule r ps m ns p is are e) h l =
      let part = both_left (safe (one r outside ∷ ps)) _ (both_left (body (trails s) (one r outside ∷ ps)) _ (plain_told s r ps p)) in
      let kept = both_right (apart (firsts ps) (trails r)) _ (both_right (is_part r) _ part) in
      subst Climbs (sym (rule_depths s m ns is e))
      (climbs_append (depths d m) (depths_in s d (pack ns)) (is_climbing is (both_left (is_part r) _ part) l) (λ w. are_climbing are kept s outside (plain_agrees s r ps p) l))
  is_climbing (a_source ns are e) h l = cc

  are_climbing : {b : Bool} {d : ℕ} {ps : List Part} {ns : List Node} → Are b d ps ns → safe ps ≡ true → (s : Sort) (j : Place) → agree s j ps ≡ true → Known j d → Climbs (depths_in s (deeper j d) (pack ns))
  are_climbing end h s j a l = tt
  are_climbing {d = d} (a_token {c = c} {i = i} {ps = ps} {t = t} {ns = ns} f u are) h s j a l =
      let both = token_agrees s j c t i ps u a in
      let fits = both_left (fits_token s j t i) _ both in (
        token_here j t d l,
        λ low. subst (λ z. Climbs (depths_in s z (pack ns))) (sym (token_behind s j i t d fits))
            (are_climbing are h s (turn s j t) (both_right (fits_token s j t i) _ both) (token_known s j i t d fits l (le-ltb 64 (here (Leaf t) (deeper j d)) low))),
      )
  are_climbing {d = d} (a_rule {s = r} {i = i} {ps = ps} {n = n} {ns = ns} low is are) h s j a l =
      let kept = both_right (apart (firsts ps) (trails r)) _ (both_right (is_part r) _ h) in
      let here_is = both_left (same_place i j) _ a in
      let g = headed is (both_left (is_part r) _ h) in
      subst Climbs (sym (row_depths s d i j n ns here_is is))
      (climbs_append (depths (deeper i d) n) (depths_in s (deeper (settled j) d) (pack ns))
      (climbs_node (deeper i d) n g.0 g.1 (place_step i j d here_is l) (λ low. is_climbing is (both_left (is_part r) _ h) low))
      (λ w. are_climbing are kept s (settled j) (both_right (same_place i j) _ a) (place_known i j d here_is (low_first (deeper i d) n g.0 g.1 w))))
  are_climbing (absent {s = r} {i = i} {ps = ps} {ns = ns} are) h s j a l =
      let kept = both_right (apart (firsts ps) (trails r)) _ (both_right (apart (firsts ps) (starts r)) _ (both_right (is_part r) _ h)) in
      are_climbing are kept s j (both_right (is_settled j) _ (both_right (same_place i j) _ a)) l
  are_climbing {d = d} (present {s = r} {i = i} {ps = ps} {n = n} {ns = ns} is are) h s j a l =
      let kept = both_right (apart (firsts ps) (trails r)) _ (both_right (apart (firsts ps) (starts r)) _ (both_right (is_part r) _ h)) in
      let here_is = both_left (same_place i j) _ a in
      let still_is = both_left (is_settled j) _ (both_right (same_place i j) _ a) in
      let low = place_low i j d here_is still_is l in
      subst Climbs (sym (row_depths s d i j n ns here_is is))
      (climbs_append (depths (deeper i d) n) (depths_in s (deeper (settled j) d) (pack ns)) (is_climbing is (both_left (is_part r) _ h) low)
      (λ w. are_climbing are kept s (settled j) (subst (λ z. agree s z ps ≡ true) (sym (settled_same j still_is)) (both_right (is_settled j) _ (both_right (same_place i j) _ a)))
      (place_known i j d here_is low)))
  are_climbing (no_more {s = r} {i = i} {ps = ps} {ns = ns} are) h s j a l =
      let kept = both_right (apart (firsts ps) (starts r)) _ (both_right (apart (starts r ++ firsts ps) (trails r)) _ (both_right (is_part r) _ h)) in
      are_climbing are kept s j (both_right (is_settled j) _ (both_right (same_place i j) _ a)) l
  are_climbing {d = d} (one_more {s = r} {i = i} {ps = ps} {n = n} {ns = ns} is are) h s j a l =
      let here_is = both_left (same_place i j) _ a in
      let still_is = both_left (is_settled j) _ (both_right (same_place i j) _ a) in
      let low = place_low i j d here_is still_is l in
      subst Climbs (sym (row_depths s d i j n ns here_is is))
      (climbs_append (depths (deeper i d) n) (depths_in s (deeper (settled j) d) (pack ns)) (is_climbing is (both_left (is_part r) _ h) low)
      (λ w. are_climbing are h s (settled j) (subst (λ z. agree s z (many r i ∷ ps) ≡ true) (sym (settled_same j still_is)) a) (place_known i j d here_is low)))

climbing : (n : Node) → Is false source 0 n → Climbs (depths 0 n)
climbing n (by_token t ps ns p are e) = cc
climbing n (by_rule r ps m ns p is are e) = cc
climbing n (a_source ns are e) = subst (λ z. Climbs (depths 0 z)) (sym e) (are_climbing are whole_safe source outside whole_agrees (omega arith))

-- where the depths say that it is too deep, there is the first that is
judged_deep : (ds : List ℕ) (n : Node) (m : ℕ) → Climbs ds → judge 0 ds (Read n) ≡ Deep m
    → (before : List ℕ) × ((after : List ℕ) × ((ds ≡ before ++ 65 ∷ after) × ((length after + 1 ≡ m) × WithinLimit before)))
judged_deep [] n m c e = cc
judged_deep (d ∷ ds) n m c e = at_test (nat_lt 64 d) refl e (λ l. judged_deep ds n m (c.1 l))
  where
    at_test : (b : Bool) → nat_lt 64 d ≡ b → cond b (Deep (length ds + 0 + 1)) (judge 0 ds (Read n)) ≡ Deep m
        → (d ≤ 64 → judge 0 ds (Read n) ≡ Deep m → (before : List ℕ) × ((after : List ℕ) × ((ds ≡ before ++ 65 ∷ after) × ((length after + 1 ≡ m) × WithinLimit before))))
        → (before : List ℕ) × ((after : List ℕ) × ((d ∷ ds ≡ before ++ 65 ∷ after) × ((length after + 1 ≡ m) × WithinLimit before)))
    at_test true u e f =
        let over = ltb-true 64 d u in
        let just : d ≡ 65 = let least = c.0 in omega (arith, over, least) in
        let size : length ds + 0 + 1 ≡ m = ap left e in
        ([], (ds, (ap (λ z. z ∷ ds) just, (omega (arith, size), tt))))
    at_test false u e f =
        let l = ltb-false 64 d u in
        let w = f l e in
        (d ∷ w.0, (w.1.0, (ap (λ z. d ∷ z) w.1.1.0, (w.1.1.1.0, (l, w.1.1.1.1)))))

pub first_deep : (pre rest more : List Tok) (t : Tok) (m : Node) → go true start (pre ++ t ∷ rest) ≡ Deep (length rest + 1) → Is false source 0 m → yield m ≡ pre ++ t ∷ more
    → (before : List ℕ) × ((after : List ℕ) × ((depths 0 m ≡ before ++ 65 ∷ after) × ((length before ≡ length pre) × WithinLimit before)))
first_deep pre rest more t m h is y =
    let said : judge 0 (depths 0 m) (Read m) ≡ Deep (length more + 1) = sym (read_judged m is) ∙ (ap (λ z. go true start z) y ∙ deep_stays start pre t rest more h) in
    let w = judged_deep (depths 0 m) m (length more + 1) (climbing m is) said in
    let size : length (w.0 ++ 65 ∷ w.1.0) ≡ length (pre ++ t ∷ more) = ap length (sym w.1.1.0) ∙ (counts 0 m ∙ ap length y) in
    let tail : length w.1.0 + 1 ≡ length more + 1 = w.1.1.1.0 in
    (w.0, (w.1.0, (w.1.1.0, (omega (arith, size, tail, length-append w.0 (65 ∷ w.1.0), length-append pre (t ∷ more)), w.1.1.1.1))))

-- the first that is too deep in one text is refused, whatever follows
pub refuses : (pre rest more : List Tok) (t : Tok) (m : Node) (before after : List ℕ) (d : ℕ) → Is false source 0 m → yield m ≡ pre ++ t ∷ more
    → depths 0 m ≡ before ++ d ∷ after → length before ≡ length pre → WithinLimit before → 64 < d → go true start (pre ++ t ∷ rest) ≡ Deep (length rest + 1)
refuses pre rest more t m before after d is y e c w o = deep_stays start pre t more rest (ap (λ z. go true start z) (sym y) ∙ (read_judged m is ∙ (judged ∙ ap Deep size)))
  where
    judged : judge 0 (depths 0 m) (Read m) ≡ Deep (length after + 0 + 1)
    judged =
        ap (λ z. judge 0 z (Read m)) e
        ∙ (judge_append 0 before (d ∷ after) (Read m) ∙ (judged_low (length (d ∷ after) + 0) before (judge 0 (d ∷ after) (Read m)) w ∙ rw (lt-ltb 64 d o) refl))

    size : length after + 0 + 1 ≡ length more + 1
    size =
        let all : length (before ++ d ∷ after) ≡ length (pre ++ t ∷ more) = ap length (sym e) ∙ (counts 0 m ∙ ap length y) in
        omega (arith, all, c, length-append before (d ∷ after), length-append pre (t ∷ more))

-- ---- none is too deep before a fault of another kind

none_deep : (s : State) (pre ts more : List Tok) (n : ℕ) → go true s (pre ++ ts) ≡ Syntax (length ts) → go true s (pre ++ more) ≡ Deep n → n ≤ length more
none_deep s [] ts more n h e = let a = go_left true s more in omega (arith, a, ap left e)
none_deep s (p ∷ pre) ts more n h e = at_move (move s p) h e (λ m. none_deep m pre ts more n)
  where
    at_test : (b : Bool) (v w : Verdict) → cond b (Deep (length (pre ++ ts) + 1)) v ≡ Syntax (length ts) → cond b (Deep (length (pre ++ more) + 1)) w ≡ Deep n
        → (v ≡ Syntax (length ts) → w ≡ Deep n → n ≤ length more) → n ≤ length more
    at_test true v w h e f = cc
    at_test false v w h e f = f h e

    at_move : (m : Option Step)
        → on m (λ n. cond (nat_lt 64 n.depth) (Deep (length (pre ++ ts) + 1)) (go true n.next (pre ++ ts))) (Syntax (length (pre ++ ts) + 1)) ≡ Syntax (length ts)
        → on m (λ n. cond (nat_lt 64 n.depth) (Deep (length (pre ++ more) + 1)) (go true n.next (pre ++ more))) (Syntax (length (pre ++ more) + 1)) ≡ Deep n
        → ((m : State) → go true m (pre ++ ts) ≡ Syntax (length ts) → go true m (pre ++ more) ≡ Deep n → n ≤ length more) → n ≤ length more
    at_move None h e f = cc
    at_move (Some m) h e f = at_test (nat_lt 64 m.depth) _ _ h e (f m.next)

low_front : (pre more : List Tok) (ds : List ℕ) (v : Node) → length ds ≡ length pre + length more → ((n : ℕ) → judge 0 ds (Read v) ≡ Deep n → n ≤ length more)
    → (before : List ℕ) × ((after : List ℕ) × ((ds ≡ before ++ after) × ((length before ≡ length pre) × WithinLimit before)))
low_front [] more ds v c f = ([], (ds, (refl, (refl, tt))))
low_front (p ∷ pre) more [] v c f = absurd (omega (arith, c))
low_front (p ∷ pre) more (d ∷ ds) v c f = at_test (nat_lt 64 d) refl (low_front pre more ds v (omega (arith, c)))
  where
    at_test : (b : Bool) → nat_lt 64 d ≡ b
        → (((n : ℕ) → judge 0 ds (Read v) ≡ Deep n → n ≤ length more) → (before : List ℕ) × ((after : List ℕ) × ((ds ≡ before ++ after) × ((length before ≡ length pre) × WithinLimit before))))
        → (before : List ℕ) × ((after : List ℕ) × ((d ∷ ds ≡ before ++ after) × ((length before ≡ length (p ∷ pre)) × WithinLimit before)))
    at_test true u g = let a : length ds + 0 + 1 ≤ length more = f (length ds + 0 + 1) (rw u refl) in absurd (omega (arith, c, a))
    at_test false u g =
        let w = g (λ n e. f n (rw u e)) in
        (d ∷ w.0, (w.1.0, (ap (λ z. d ∷ z) w.1.1.0, (let e = w.1.1.1.0 in omega (arith, e), (ltb-false 64 d u, w.1.1.1.1)))))

pub first_syntax : (pre ts more : List Tok) (m : Node) → go true start (pre ++ ts) ≡ Syntax (length ts) → Is false source 0 m → yield m ≡ pre ++ more
    → (before : List ℕ) × ((after : List ℕ) × ((depths 0 m ≡ before ++ after) × ((length before ≡ length pre) × WithinLimit before)))
first_syntax pre ts more m h is y =
    low_front pre more (depths 0 m) m (counts 0 m ∙ (ap length y ∙ length-append pre more))
    (λ n e. none_deep start pre ts more n h (ap (λ z. go true start z) (sym y) ∙ (read_judged m is ∙ e)))
