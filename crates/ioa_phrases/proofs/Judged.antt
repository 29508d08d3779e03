-- The machine reads a tree of the grammar up to the first token that stands too deep in it.
use Rattle.std.proofs.Common.{◌≡◌, ◌≤◌, ◌+◌, ℕ, Bool, true, false, nat_lt, List, [], ◌∷◌, ◌++◌, length, length-append, append_assoc, append-nil, Some, refl, sym, ◌∙◌, ap, subst, cond, arith}
use borrow.Author.Tests.{le-ltb}
use Rattle.std.proofs.lemmas.Bool.{ltb-false}
use Rattle.ioa_tokens.specs.Tokens.{Tok}
use Rattle.ioa_trees.specs.Nodes.{Sort, source, Node, Leaf, more, pack, make, yield, yields}
use Rattle.ioa_trees.specs.Grammar.{Place, outside, first, inside, deeper, Part, token, one, maybe, many, led, Is, Are, by_token, by_rule, a_source, end, a_token, a_rule, absent, present, no_more, one_more}
use Rattle.ioa_phrases.specs.Machine.{Frames, Bottom, In, depth, State, At, Step, want, have, at, enter, checked, move, Verdict, Read, Deep, go, start}
use Rattle.ioa_phrases.specs.Depths.{here, behind, depths, depths_in}
use Rattle.ioa_phrases.proofs.Spelled.{make_yields}
use Rattle.ioa_phrases.proofs.Told.{hit, apart, apart_hit, heads, starts, firsts, trails, empty, ends, is_part, safe, body, whole_safe, enter_is, move_want}
use Rattle.ioa_phrases.proofs.Complete.{both_left, both_right, led_body, plain_told, no_pick, first_same, is_first, are_first, Quiet, quiet_within, quiet_left, quiet_right, quiet_start, quiet_trail, follows, have_at, skip_maybe, skip_many, is_read}
use Rattle.ioa_phrases.proofs.Places.{same_place, same_place_is, settled, is_settled, turn, fits_token, agree, token_agrees, led_agrees, plain_agrees, whole_agrees, Known, known_settled, known_next, settled_deeper, token_test, token_behind, token_known, first_here, still, node_depths, first_depths, rule_depths, counts, counts_row}

-- what the depths say, where so many tokens follow, and this is said of those
abbrev pub judge : ℕ → List ℕ → Verdict → Verdict
judge l [] v = v
judge l (d ∷ ds) v = cond (nat_lt 64 d) (Deep (length ds + l + 1)) (judge l ds v)

same_cond : (x y : Bool) (p q r u : Verdict) → x ≡ y → p ≡ q → (y ≡ false → r ≡ u) → cond x p r ≡ cond y q u
same_cond x true p q r u e f g = rw e f
same_cond x false p q r u e f g = rw e (g refl)

no_cond : (x : Bool) (p q : Verdict) → x ≡ false → cond x p q ≡ q
no_cond x p q e = rw e refl

pub judge_append : (l : ℕ) (ds es : List ℕ) (v : Verdict) → judge l (ds ++ es) v ≡ judge (length es + l) ds (judge l es v)
judge_append l [] es v = refl
judge_append l (d ∷ ds) es v =
    same_cond (nat_lt 64 d) (nat_lt 64 d) _ _ _ _ refl (ap Deep (omega (arith, length-append ds es))) (λ f. judge_append l ds es v)

pub judge_low : (l : ℕ) (ds : List ℕ) (v : Verdict) (d : ℕ) → d ≤ 64 → judge l (d ∷ ds) v ≡ judge l ds v
judge_low l ds v d h = rw (le-ltb 64 d h) refl

-- the depths of what a node begins with
pub headed : {b : Bool} {s : Sort} {d : ℕ} {n : Node} → Is b s d n → is_part s ≡ true → (es : List ℕ) × (depths d n ≡ d ∷ es)
headed {s = s} {d = d} {n = n} (by_token t ps ns p are e) h = (depths_in s (deeper (turn s outside t) d) (pack ns), first_depths s d n t ps ns p e)
headed {s = s} {d = d} (by_rule r ps m ns p is are e) h =
    let g = headed is (both_left (is_part r) _ (both_left (safe (one r outside ∷ ps)) _ (both_left (body (trails s) (one r outside ∷ ps)) _ (plain_told s r ps p)))) in
    (g.0 ++ depths_in s d (pack ns), rule_depths s m ns is e ∙ ap (λ z. z ++ depths_in s d (pack ns)) g.1)
headed (a_source ns are e) h = cc

-- A node of this rule is judged from its depths: its first token goes in, and the others lead to what its depths say.
record Judged (s : Sort) (d : ℕ) (k : Frames) (n : Node) (ts : List Tok) : Type 0 where
  head : Tok
  others : List Tok
  reached : State
  later : List ℕ
  spells : yield n ≡ head ∷ others
  enters : enter s head k ≡ Some reached
  stands : depths d n ≡ d ∷ later
  goes : go true reached (others ++ ts) ≡ judge (length ts) later (go true (have n k) ts)

-- one step, too deep or not
taken : (s : State) (t : Tok) (us : List Tok) (m : Step) → move s t ≡ Some m → go true s (t ∷ us) ≡ cond (nat_lt 64 m.depth) (Deep (length us + 1)) (go true m.next us)
taken s t us m e = rw e refl

-- a node and what follows it
joined : (r s : Sort) (d : ℕ) (i : Place) (done : List Node) (qs : List Part) (k : Frames) (n : Node) (ns : List Node) (ts : List Tok) (rest : List ℕ) (v : Verdict)
    → length rest ≡ length (yields ns) → (w : Judged r d (In s done qs i k) n (yields ns ++ ts))
    → go true (at s (done ++ n ∷ []) qs k) (yields ns ++ ts) ≡ judge (length ts) rest v
    → go true w.reached ((w.others ++ yields ns) ++ ts) ≡ judge (length ts) (w.later ++ rest) v
joined r s d i done qs k n ns ts rest v c w g =
    let size : length (yields ns ++ ts) ≡ length rest + length ts = length-append (yields ns) ts ∙ ap (λ z. z + length ts) (sym c) in
    ap (λ z. go true w.reached z) (append_assoc w.others (yields ns) ts) ∙ (w.goes
    ∙ (ap (λ z. judge (length (yields ns ++ ts)) w.later (go true z (yields ns ++ ts))) (have_at s done qs i k n)
    ∙ (ap (λ z. judge (length (yields ns ++ ts)) w.later z) g
    ∙ (ap (λ z. judge z w.later (judge (length ts) rest v)) size ∙ sym (judge_append (length ts) w.later rest v)))))

-- a node that is not too deep, where its step says nothing
settles : (r s : Sort) (d : ℕ) (i : Place) (done : List Node) (ps qs : List Part) (k : Frames) (n : Node) (ns : List Node) (ts : List Tok) (rest : List ℕ) (v : Verdict)
    → length rest ≡ length (yields ns) → d ≤ 64 → (w : Judged r d (In s done qs i k) n (yields ns ++ ts))
    → move (At s done ps k) w.head ≡ Some (record { next = w.reached; depth = 0 })
    → go true (at s (done ++ n ∷ []) qs k) (yields ns ++ ts) ≡ judge (length ts) rest v
    → go true (At s done ps k) ((yield n ++ yields ns) ++ ts) ≡ judge (length ts) (depths d n ++ rest) v
settles r s d i done ps qs k n ns ts rest v c l w e g =
    ap (λ z. go true (At s done ps k) ((z ++ yields ns) ++ ts)) w.spells
    ∙ (taken (At s done ps k) w.head ((w.others ++ yields ns) ++ ts) (record { next = w.reached; depth = 0 }) e
    ∙ (joined r s d i done qs k n ns ts rest v c w g
    ∙ (sym (judge_low (length ts) (w.later ++ rest) v d l) ∙ ap (λ z. judge (length ts) (z ++ rest) v) (sym w.stands))))

-- a node whose step says how deep it stands
wanted : (r s : Sort) (d : ℕ) (i : Place) (done : List Node) (qs : List Part) (k : Frames) (n : Node) (ns : List Node) (ts : List Tok) (rest : List ℕ) (v : Verdict)
    → length rest ≡ length (yields ns) → d ≡ depth (In s done qs i k)
    → (t : Tok) (us : List Tok) (m : State) → yield n ≡ t ∷ us → enter r t (In s done qs i k) ≡ Some m → (es : List ℕ) → depths d n ≡ d ∷ es
    → (d ≤ 64 → Judged r d (In s done qs i k) n (yields ns ++ ts))
    → (d ≤ 64 → go true (at s (done ++ n ∷ []) qs k) (yields ns ++ ts) ≡ judge (length ts) rest v)
    → go true (want r (In s done qs i k)) ((yield n ++ yields ns) ++ ts) ≡ judge (length ts) (depths d n ++ rest) v
wanted r s d i done qs k n ns ts rest v c x t us m y e es z f g = at_test (nat_lt 64 d) refl
  where
    size : length ((us ++ yields ns) ++ ts) ≡ length (es ++ rest) + length ts
    size =
        let a : length us + 1 ≡ length es + 1 = ones (sym (counts d n)) in
        omega (arith, a, c, length-append (us ++ yields ns) ts, length-append us (yields ns), length-append es rest)
      where
        ones : length (yield n) ≡ length (depths d n) → length us + 1 ≡ length es + 1
        ones q = let b : length (t ∷ us) ≡ length (d ∷ es) = ap length (sym y) ∙ (q ∙ ap length z) in omega (arith, b)

    at_test : (b : Bool) → nat_lt 64 d ≡ b → go true (want r (In s done qs i k)) ((yield n ++ yields ns) ++ ts) ≡ judge (length ts) (depths d n ++ rest) v
    at_test true u =
        let over : nat_lt 64 (depth (In s done qs i k)) ≡ true = ap (λ z. nat_lt 64 z) (sym x) ∙ u in
        ap (λ z. go true (want r (In s done qs i k)) ((z ++ yields ns) ++ ts)) y
        ∙ (taken (want r (In s done qs i k)) t ((us ++ yields ns) ++ ts) (record { next = m; depth = depth (In s done qs i k) }) (move_want r t (In s done qs i k) ∙ rw e refl)
        ∙ (same_cond (nat_lt 64 (depth (In s done qs i k))) (nat_lt 64 d) _ _ _ (judge (length ts) (es ++ rest) v) (over ∙ sym u) (ap Deep (ap (λ z. z + 1) size)) (λ f. cc)
        ∙ ap (λ z. judge (length ts) (z ++ rest) v) (sym z)))
    at_test false u =
        let l : d ≤ 64 = ltb-false 64 d u in
        let w = f l in
        let under : nat_lt 64 (depth (In s done qs i k)) ≡ false = ap (λ z. nat_lt 64 z) (sym x) ∙ u in
        ap (λ z. go true (want r (In s done qs i k)) ((z ++ yields ns) ++ ts)) w.spells
        ∙ (taken (want r (In s done qs i k)) w.head ((w.others ++ yields ns) ++ ts) (record { next = w.reached; depth = depth (In s done qs i k) }) (move_want r w.head (In s done qs i k) ∙ rw w.enters refl)
        ∙ (no_cond _ _ _ under ∙ (joined r s d i done qs k n ns ts rest v c w (g l)
        ∙ (sym (judge_low (length ts) (w.later ++ rest) v d l) ∙ ap (λ z. judge (length ts) (z ++ rest) v) (sym w.stands)))))

-- the depths of a row that begins with a node
pub row_depths : {b : Bool} {r : Sort} (s : Sort) (d : ℕ) (i j : Place) (n : Node) (ns : List Node) → same_place i j ≡ true → Is b r (deeper i d) n
    → depths_in s (deeper j d) (more n (pack ns)) ≡ depths (deeper i d) n ++ depths_in s (deeper (settled j) d) (pack ns)
row_depths s d i j n ns h is =
    ap (λ z. depths_in s (deeper z d) (more n (pack ns))) (sym (same_place_is i j h))
    ∙ (node_depths s n (pack ns) (deeper i d) (still is)
    ∙ ap (λ z. depths (deeper i d) n ++ depths_in s z (pack ns)) (ap (λ z. deeper z d) (same_place_is i j h) ∙ sym (settled_deeper j d)))

pub place_known : (i j : Place) (d : ℕ) → same_place i j ≡ true → deeper i d ≤ 64 → Known (settled j) d
place_known i j d h l = known_next j d (subst (λ z. deeper z d ≤ 64) (same_place_is i j h) l)

pub place_low : (i j : Place) (d : ℕ) → same_place i j ≡ true → is_settled j ≡ true → Known j d → deeper i d ≤ 64
place_low i j d h g k = subst (λ z. deeper z d ≤ 64) (sym (same_place_is i j h)) (known_settled j d g k)

pub settled_same : (j : Place) → is_settled j ≡ true → settled j ≡ j
settled_same outside h = refl
settled_same first h = cc
settled_same inside h = refl

mutual
  is_judged : {s : Sort} {d : ℕ} {n : Node} → Is false s d n → is_part s ≡ true → (k : Frames) (ts : List Tok) → d ≡ depth k → d ≤ 64 → Quiet (trails s) ts → Judged s d k n ts
  is_judged {s = s} {d = d} {n = n} (by_token t ps ns p are e) h k ts x l q =
      let told = led_body s t ps p in
      let quiet = quiet_within (ends ps) (trails s) ts (both_right (safe ps) _ told) q in
      let fits = both_left (fits_token s outside t outside) _ (led_agrees s t ps p) in
      let known = token_known s outside outside t d fits l (ap (λ z. nat_lt 64 z) (first_here s t d fits) ∙ le-ltb 64 d l) in
      let rest = are_judged are (both_left (safe ps) _ told) s (turn s outside t) (both_right (fits_token s outside t outside) _ (led_agrees s t ps p)) (Leaf t ∷ []) k ts x known quiet in
      record {
        head = t;
        others = yields ns;
        reached = at s (Leaf t ∷ []) ps k;
        later = depths_in s (deeper (turn s outside t) d) (pack ns);
        spells = rw (e, make_yields s (Leaf t ∷ ns)) refl;
        enters = rw (enter_is s t k, p) refl;
        stands = first_depths s d n t ps ns p e;
        goes = rest ∙ ap (λ z. judge (length ts) (depths_in s (deeper (turn s outside t) d) (pack ns)) (go true (have z k) ts)) (sym e);
      }
  is_judged {s = s} {d = d} {n = n} (by_rule r ps m ns p is are e) h k ts x l q =
      let all = plain_told s r ps p in
      let told = both_left (body (trails s) (one r outside ∷ ps)) _ all in
      let part = both_left (safe (one r outside ∷ ps)) _ told in
      let tail = both_right (is_part r) _ part in
      let kept = both_right (apart (firsts ps) (trails r)) _ tail in
      let quiet = quiet_within (ends (one r outside ∷ ps)) (trails s) ts (both_right (safe (one r outside ∷ ps)) _ told) q in
      let begun = are_first are kept in
      let next = follows ps ns (trails r) [] ts begun (both_left (apart (firsts ps) (trails r)) _ tail) (quiet_left (cond (empty ps) (trails r) []) (ends ps) ts quiet) in
      let w = is_judged is (both_left (is_part r) _ part) (In s [] ps outside k) (yields ns ++ ts) x l next in
      let f = is_first is (both_left (is_part r) _ part) in
      let same : f.0 ≡ w.head = first_same (sym f.1.1.0 ∙ w.spells) in
      let missed : hit (heads (led s)) w.head ≡ false = apart_hit (starts r) (heads (led s)) w.head (both_right (body (trails s) (one r outside ∷ ps)) _ all) (subst (λ z. hit (starts r) z ≡ true) same f.1.1.1) in
      let rest = are_judged are kept s outside (plain_agrees s r ps p) (m ∷ []) k ts x l (quiet_right (cond (empty ps) (trails r) []) (ends ps) ts quiet) in
      record {
        head = w.head;
        others = w.others ++ yields ns;
        reached = w.reached;
        later = w.later ++ depths_in s d (pack ns);
        spells = rw (e, make_yields s (m ∷ ns), w.spells) refl;
        enters = rw (enter_is s w.head k, no_pick (led s) w.head missed, p) w.enters;
        stands = rule_depths s m ns is e ∙ ap (λ z. z ++ depths_in s d (pack ns)) w.stands;
        goes =
            joined r s d outside [] ps k m ns ts (depths_in s d (pack ns)) (go true (have (make s (m ∷ ns)) k) ts) (counts_row s d ns) w rest
            ∙ ap (λ z. judge (length ts) (w.later ++ depths_in s d (pack ns)) (go true (have z k) ts)) (sym e);
      }
  is_judged (a_source ns are e) h k ts x l q = cc

  are_judged : {d : ℕ} {ps : List Part} {ns : List Node} → Are false d ps ns → safe ps ≡ true → (s : Sort) (j : Place) → agree s j ps ≡ true → (done : List Node) (k : Frames) (ts : List Tok) → d ≡ depth k
      → Known j d → Quiet (ends ps) ts → go true (at s done ps k) (yields ns ++ ts) ≡ judge (length ts) (depths_in s (deeper j d) (pack ns)) (go true (have (make s (done ++ ns)) k) ts)
  are_judged end h s j a done k ts x l q = ap (λ z. go true (have (make s z) k) ts) (sym (append-nil done))
  are_judged {d = d} (a_token {c = c} {i = i} {ps = ps} {t = t} {ns = ns} f u are) h s j a done k ts x l q =
      let both = token_agrees s j c t i ps u a in
      let fits = both_left (fits_token s j t i) _ both in
      let test : nat_lt 64 (checked i (depth k)) ≡ nat_lt 64 (here (Leaf t) (deeper j d)) = ap (λ z. nat_lt 64 (checked i z)) (sym x) ∙ token_test s j i t d fits l in
      let row = counts_row s (behind s (Leaf t) (deeper j d)) ns in
      let size : length (yields ns ++ ts) + 1 ≡ length (depths_in s (behind s (Leaf t) (deeper j d)) (pack ns)) + length ts + 1 = omega (arith, row, length-append (yields ns) ts) in
      taken (At s done (token c i ∷ ps) k) t (yields ns ++ ts) (record { next = at s (done ++ Leaf t ∷ []) ps k; depth = checked i (depth k) }) (rw u refl)
      ∙ same_cond (nat_lt 64 (checked i (depth k))) (nat_lt 64 (here (Leaf t) (deeper j d))) _ _ _ _ test (ap Deep size)
      (λ g. are_judged are h s (turn s j t) (both_right (fits_token s j t i) _ both) (done ++ Leaf t ∷ []) k ts x (token_known s j i t d fits l g) q
      ∙ (ap (λ z. judge (length ts) (depths_in s z (pack ns)) (go true (have (make s ((done ++ Leaf t ∷ []) ++ ns)) k) ts)) (sym (token_behind s j i t d fits))
      ∙ ap (λ z. judge (length ts) (depths_in s (behind s (Leaf t) (deeper j d)) (pack ns)) (go true (have (make s z) k) ts)) (append_assoc done (Leaf t ∷ []) ns)))
  are_judged {d = d} (a_rule {s = r} {i = i} {ps = ps} {n = n} {ns = ns} low is are) h s j a done k ts x l q =
      let tail = both_right (is_part r) _ h in
      let kept = both_right (apart (firsts ps) (trails r)) _ tail in
      let next = follows ps ns (trails r) [] ts (are_first are kept) (both_left (apart (firsts ps) (trails r)) _ tail) (quiet_left (cond (empty ps) (trails r) []) (ends ps) ts q) in
      let here_is = both_left (same_place i j) _ a in
      let deep : deeper i d ≡ deeper i (depth k) = ap (λ z. deeper i z) x in
      let w = is_read false is (both_left (is_part r) _ h) (In s done ps i k) (yields ns ++ ts) deep next in
      let g = headed is (both_left (is_part r) _ h) in
      let rest = depths_in s (deeper (settled j) d) (pack ns) in
      wanted r s (deeper i d) i done ps k n ns ts rest (go true (have (make s (done ++ n ∷ ns)) k) ts) (counts_row s (deeper (settled j) d) ns) deep w.0 w.1.0 w.1.1.0 w.1.1.1.0 w.1.1.1.1.0 g.0 g.1
      (λ low. is_judged is (both_left (is_part r) _ h) (In s done ps i k) (yields ns ++ ts) deep low next)
      (λ low. are_judged are kept s (settled j) (both_right (same_place i j) _ a) (done ++ n ∷ []) k ts x (place_known i j d here_is low) (quiet_right (cond (empty ps) (trails r) []) (ends ps) ts q)
      ∙ ap (λ z. judge (length ts) rest (go true (have (make s z) k) ts)) (append_assoc done (n ∷ []) ns))
      ∙ ap (λ z. judge (length ts) z (go true (have (make s (done ++ n ∷ ns)) k) ts)) (sym (row_depths s d i j n ns here_is is))
  are_judged (absent {s = r} {i = i} {ps = ps} {ns = ns} are) h s j a done k ts x l q =
      let tail = both_right (is_part r) _ h in
      let further = both_right (apart (firsts ps) (starts r)) _ tail in
      let kept = both_right (apart (firsts ps) (trails r)) _ further in
      let quiet = quiet_left (cond (empty ps) (starts r ++ trails r) []) (ends ps) ts q in
      let next = follows ps ns (starts r) [] ts (are_first are kept) (both_left (apart (firsts ps) (starts r)) _ tail) (quiet_start (empty ps) (starts r) (trails r) ts quiet) in
      skip_maybe true s r done i ps k (yields ns ++ ts) next
      ∙ are_judged are kept s j (both_right (is_settled j) _ (both_right (same_place i j) _ a)) done k ts x l (quiet_right (cond (empty ps) (starts r ++ trails r) []) (ends ps) ts q)
  are_judged {d = d} (present {s = r} {i = i} {ps = ps} {n = n} {ns = ns} is are) h s j a done k ts x l q =
      let tail = both_right (is_part r) _ h in
      let further = both_right (apart (firsts ps) (starts r)) _ tail in
      let kept = both_right (apart (firsts ps) (trails r)) _ further in
      let quiet = quiet_left (cond (empty ps) (starts r ++ trails r) []) (ends ps) ts q in
      let next = follows ps ns (trails r) [] ts (are_first are kept) (both_left (apart (firsts ps) (trails r)) _ further) (quiet_trail (empty ps) (starts r) (trails r) ts quiet) in
      let here_is = both_left (same_place i j) _ a in
      let still_is = both_left (is_settled j) _ (both_right (same_place i j) _ a) in
      let low = place_low i j d here_is still_is l in
      let w = is_judged is (both_left (is_part r) _ h) (In s done ps i k) (yields ns ++ ts) (ap (λ z. deeper i z) x) low next in
      let rest = depths_in s (deeper (settled j) d) (pack ns) in
      settles r s (deeper i d) i done (maybe r i ∷ ps) ps k n ns ts rest (go true (have (make s (done ++ n ∷ ns)) k) ts) (counts_row s (deeper (settled j) d) ns) low w (rw w.enters refl)
      (are_judged are kept s (settled j) (subst (λ z. agree s z ps ≡ true) (sym (settled_same j still_is)) (both_right (is_settled j) _ (both_right (same_place i j) _ a)))
      (done ++ n ∷ []) k ts x (place_known i j d here_is low) (quiet_right (cond (empty ps) (starts r ++ trails r) []) (ends ps) ts q)
      ∙ ap (λ z. judge (length ts) rest (go true (have (make s z) k) ts)) (append_assoc done (n ∷ []) ns))
      ∙ ap (λ z. judge (length ts) z (go true (have (make s (done ++ n ∷ ns)) k) ts)) (sym (row_depths s d i j n ns here_is is))
  are_judged (no_more {s = r} {i = i} {ps = ps} {ns = ns} are) h s j a done k ts x l q =
      let tail = both_right (is_part r) _ h in
      let further = both_right (apart (starts r ++ firsts ps) (trails r)) _ tail in
      let kept = both_right (apart (firsts ps) (starts r)) _ further in
      let quiet = quiet_left (cond (empty ps) (starts r ++ trails r) []) (ends ps) ts q in
      let next = follows ps ns (starts r) [] ts (are_first are kept) (both_left (apart (firsts ps) (starts r)) _ further) (quiet_start (empty ps) (starts r) (trails r) ts quiet) in
      skip_many true s r done i ps k (yields ns ++ ts) next
      ∙ are_judged are kept s j (both_right (is_settled j) _ (both_right (same_place i j) _ a)) done k ts x l (quiet_right (cond (empty ps) (starts r ++ trails r) []) (ends ps) ts q)
  are_judged {d = d} (one_more {s = r} {i = i} {ps = ps} {n = n} {ns = ns} is are) h s j a done k ts x l q =
      let tail = both_right (is_part r) _ h in
      let quiet = quiet_left (cond (empty ps) (starts r ++ trails r) []) (ends ps) ts q in
      let next = follows (many r i ∷ ps) ns (trails r) [] ts (are_first are h) (both_left (apart (starts r ++ firsts ps) (trails r)) _ tail) (quiet_trail (empty ps) (starts r) (trails r) ts quiet) in
      let here_is = both_left (same_place i j) _ a in
      let still_is = both_left (is_settled j) _ (both_right (same_place i j) _ a) in
      let low = place_low i j d here_is still_is l in
      let w = is_judged is (both_left (is_part r) _ h) (In s done (many r i ∷ ps) i k) (yields ns ++ ts) (ap (λ z. deeper i z) x) low next in
      let rest = depths_in s (deeper (settled j) d) (pack ns) in
      settles r s (deeper i d) i done (many r i ∷ ps) (many r i ∷ ps) k n ns ts rest (go true (have (make s (done ++ n ∷ ns)) k) ts) (counts_row s (deeper (settled j) d) ns) low w (rw w.enters refl)
      (are_judged are h s (settled j) (subst (λ z. agree s z (many r i ∷ ps) ≡ true) (sym (settled_same j still_is)) a)
      (done ++ n ∷ []) k ts x (place_known i j d here_is low) q
      ∙ ap (λ z. judge (length ts) rest (go true (have (make s z) k) ts)) (append_assoc done (n ∷ []) ns))
      ∙ ap (λ z. judge (length ts) z (go true (have (make s (done ++ n ∷ ns)) k) ts)) (sym (row_depths s d i j n ns here_is is))

-- What the machine says of a tree's tokens is what their depths say.
pub read_judged : (n : Node) → Is false source 0 n → go true start (yield n) ≡ judge 0 (depths 0 n) (Read n)
read_judged n (by_token t ps ns p are e) = cc
read_judged n (by_rule r ps m ns p is are e) = cc
read_judged n (a_source ns are e) =
    ap (λ z. go true start z) (ap yield e ∙ (make_yields source ns ∙ sym (append-nil (yields ns))))
    ∙ (are_judged are whole_safe source outside whole_agrees [] Bottom [] refl (omega arith) tt ∙ ap (λ z. judge 0 (depths 0 z) (Read z)) (sym e))
