-- Each text of the grammar is read, and as one tree alone.
use Rattle.std.proofs.Common.{◌≡◌, ◌+◌, ℕ, zero, suc, Bool, true, false, ◌&&◌, nat_lt, List, [], ◌∷◌, ◌++◌, length, append_assoc, append-nil, Option, Some, None, refl, sym, ◌∙◌, ap, subst, cond, ◌⊎◌, inl, inr}
use borrow.Author.Tests.{le-ltb}
use Rattle.ioa_tokens.specs.Tokens.{Tok}
use Rattle.ioa_trees.specs.Nodes.{Sort, source, Node, Leaf, make, yield, yields}
use Rattle.ioa_trees.specs.Grammar.{Class, accepts, Place, outside, first, inside, deeper, Part, token, one, maybe, many, led, plain, pick, Low, Fits, Is, Are, by_token, by_rule, a_source, end, a_token, a_rule, absent, present, no_more, one_more}
use Rattle.ioa_phrases.specs.Machine.{Frames, Bottom, In, depth, State, At, Step, on, want, have, at, enter, descend_by, checked, walk, after, move, Read, Syntax, Deep, nullable, finish, ending, go, start}
use Rattle.ioa_phrases.proofs.Spelled.{make_yields}
use Rattle.ioa_phrases.proofs.Told.{hit, apart, within, apart_hit, within_hit, hit_left, hit_right, miss_left, miss_right, heads, starts, starts_by, firsts, trails, empty, ends, is_part, safe, body, bodies, all_told, whole_safe, starts_is, enter_is, move_want, want_ending}

pub both_left : (a b : Bool) → (a && b) ≡ true → a ≡ true
both_left true b h = refl
both_left false b h = h

pub both_right : (a b : Bool) → (a && b) ≡ true → b ≡ true
both_right true b h = h
both_right false b h = cc

-- ---- what the table says of each rule

pick_body : (cs : List Class) (l : List (Class × List Part)) (t : Tok) (ps : List Part) → bodies cs l ≡ true → pick t l ≡ Some ps → body cs ps ≡ true
pick_body cs [] t ps h e = cc
pick_body cs ((c, qs) ∷ rest) t ps h e = at_test (accepts c t) e (pick_body cs rest t ps (both_right (body cs qs) _ h))
  where
    at_test : (x : Bool) → cond x (Some qs) (pick t rest) ≡ Some ps → (pick t rest ≡ Some ps → body cs ps ≡ true) → body cs ps ≡ true
    at_test true e f = let same : qs ≡ ps = cc in subst (λ z. body cs z ≡ true) same (both_left (body cs qs) _ h)
    at_test false e f = f e

pub led_body : (s : Sort) (t : Tok) (ps : List Part) → pick t (led s) ≡ Some ps → body (trails s) ps ≡ true
led_body s t ps e = pick_body (trails s) (led s) t ps (both_left (bodies (trails s) (led s)) _ (all_told s)) e

pub plain_told : (s r : Sort) (ps : List Part) → plain s ≡ Some (r, ps) → (body (trails s) (one r outside ∷ ps) && apart (starts r) (heads (led s))) ≡ true
plain_told s r ps e =
    let h = both_right (bodies (trails s) (led s)) _ (all_told s) in
    subst (λ z. on z (λ p. body (trails s) (one p.0 outside ∷ p.1) && apart (starts p.0) (heads (led s))) true ≡ true) e h

pick_head : (l : List (Class × List Part)) (t : Tok) (ps : List Part) → pick t l ≡ Some ps → hit (heads l) t ≡ true
pick_head [] t ps e = cc
pick_head ((c, qs) ∷ rest) t ps e = at_test (accepts c t) e (pick_head rest t ps)
  where
    at_test : (x : Bool) → cond x (Some qs) (pick t rest) ≡ Some ps → (pick t rest ≡ Some ps → hit (heads rest) t ≡ true) → cond x true (hit (heads rest) t) ≡ true
    at_test true e f = refl
    at_test false e f = f e

pub no_pick : (l : List (Class × List Part)) (t : Tok) → hit (heads l) t ≡ false → pick t l ≡ None
no_pick [] t h = refl
no_pick ((c, qs) ∷ rest) t h = at_test (accepts c t) h (no_pick rest t)
  where
    at_test : (x : Bool) → cond x true (hit (heads rest) t) ≡ false → (hit (heads rest) t ≡ false → pick t rest ≡ None) → cond x (Some qs) (pick t rest) ≡ None
    at_test true h f = cc
    at_test false h f = f h

-- ---- the first token of something

abbrev pub First : List Class → List Tok → Type 0
First cs ts = (t : Tok) × ((us : List Tok) × ((ts ≡ t ∷ us) × (hit cs t ≡ true)))

pub is_first : {b : Bool} {s : Sort} {d : ℕ} {n : Node} → Is b s d n → is_part s ≡ true → First (starts s) (yield n)
is_first {s = s} (by_token t ps ns p are e) h =
    (t, (yields ns, (rw (e, make_yields s (Leaf t ∷ ns)) refl, rw (starts_is s) (hit_left (heads (led s)) _ t (pick_head (led s) t ps p)))))
is_first {s = s} (by_rule r ps m ns p is are e) h =
    let g = is_first is (both_left (is_part r) _ (both_left (safe (one r outside ∷ ps)) _ (both_left (body (trails s) (one r outside ∷ ps)) _ (plain_told s r ps p)))) in
    let hits : hit (on (plain s) (λ p. starts p.0) []) g.0 ≡ true = subst (λ z. hit (on z (λ p. starts p.0) []) g.0 ≡ true) (sym p) g.1.1.1 in
    (g.0, (g.1.0 ++ yields ns, (rw (e, make_yields s (m ∷ ns), g.1.1.0) refl, rw (starts_is s) (hit_right (heads (led s)) _ g.0 hits))))
is_first (a_source ns are e) h = cc

-- the next token is in none of these
abbrev pub Quiet : List Class → List Tok → Type 0
Quiet cs [] = Unit {0}
Quiet cs (t ∷ ts) = hit cs t ≡ false

first_quiet : (cs ds : List Class) (ts us : List Tok) → First cs ts → apart cs ds ≡ true → Quiet ds (ts ++ us)
first_quiet cs ds ts us f a = subst (λ z. Quiet ds (z ++ us)) (sym f.1.1.0) (apart_hit cs ds f.0 a f.1.1.1)

pub quiet_within : (cs ds : List Class) (ts : List Tok) → within cs ds ≡ true → Quiet ds ts → Quiet cs ts
quiet_within cs ds [] h q = tt
quiet_within cs ds (t ∷ ts) h q = within_hit cs ds t h q

pub quiet_left : (cs ds : List Class) (ts : List Tok) → Quiet (cs ++ ds) ts → Quiet cs ts
quiet_left cs ds [] q = tt
quiet_left cs ds (t ∷ ts) q = miss_left cs ds t q

pub quiet_right : (cs ds : List Class) (ts : List Tok) → Quiet (cs ++ ds) ts → Quiet ds ts
quiet_right cs ds [] q = tt
quiet_right cs ds (t ∷ ts) q = miss_right cs ds t q

first_left : (cs ds : List Class) (ts : List Tok) → First cs ts → First (cs ++ ds) ts
first_left cs ds ts f = (f.0, (f.1.0, (f.1.1.0, hit_left cs ds f.0 f.1.1.1)))

first_right : (cs ds : List Class) (ts : List Tok) → First ds ts → First (cs ++ ds) ts
first_right cs ds ts f = (f.0, (f.1.0, (f.1.1.0, hit_right cs ds f.0 f.1.1.1)))

first_more : (cs : List Class) (ts us : List Tok) → First cs ts → First cs (ts ++ us)
first_more cs ts us f = (f.0, (f.1.0 ++ us, (ap (λ z. z ++ us) f.1.1.0, f.1.1.1)))

abbrev pub Begun : List Part → List Node → Type 0
Begun ps ns = (yields ns ≡ [] × empty ps ≡ true) ⊎ First (firsts ps) (yields ns)

pub are_first : {b : Bool} {d : ℕ} {ps : List Part} {ns : List Node} → Are b d ps ns → safe ps ≡ true → Begun ps ns
are_first end h = inl (refl, refl)
are_first (a_token {t = t} {ns = ns} f a are) h = inr (t, (yields ns, (refl, rw a refl)))
are_first (a_rule {s = s} {n = n} {ns = ns} l is are) h = inr (first_more (starts s) (yield n) (yields ns) (is_first is (both_left (is_part s) _ h)))
are_first (absent {s = s} {ps = ps} {ns = ns} are) h =
    later (are_first are (both_right (apart (firsts ps) (trails s)) _ (both_right (apart (firsts ps) (starts s)) _ (both_right (is_part s) _ h))))
  where
    later : Begun ps ns → (yields ns ≡ [] × empty ps ≡ true) ⊎ First (starts s ++ firsts ps) (yields ns)
    later (inl e) = inl e
    later (inr f) = inr (first_right (starts s) (firsts ps) (yields ns) f)
are_first (present {s = s} {ps = ps} {n = n} {ns = ns} is are) h =
    inr (first_left (starts s) (firsts ps) _ (first_more (starts s) (yield n) (yields ns) (is_first is (both_left (is_part s) _ h))))
are_first (no_more {s = s} {ps = ps} {ns = ns} are) h =
    later (are_first are (both_right (apart (firsts ps) (starts s)) _ (both_right (apart (starts s ++ firsts ps) (trails s)) _ (both_right (is_part s) _ h))))
  where
    later : Begun ps ns → (yields ns ≡ [] × empty ps ≡ true) ⊎ First (starts s ++ firsts ps) (yields ns)
    later (inl e) = inl e
    later (inr f) = inr (first_right (starts s) (firsts ps) (yields ns) f)
are_first (one_more {s = s} {ps = ps} {n = n} {ns = ns} is are) h =
    inr (first_left (starts s) (firsts ps) _ (first_more (starts s) (yield n) (yields ns) (is_first is (both_left (is_part s) _ h))))

-- what follows a part doesn't go on with it
pub follows : (ps : List Part) (ns : List Node) (cs ds : List Class) (ts : List Tok) → Begun ps ns → apart (firsts ps) cs ≡ true → Quiet (cond (empty ps) cs ds) ts → Quiet cs (yields ns ++ ts)
follows ps ns cs ds ts (inl e) a q = subst (λ z. Quiet cs (z ++ ts)) (sym e.0) (subst (λ z. Quiet (cond z cs ds) ts) e.1 q)
follows ps ns cs ds ts (inr f) a q = first_quiet (firsts ps) cs (yields ns) ts f a

-- ---- a token that isn't there

no_entry : (f : ℕ) (s : Sort) (t : Tok) (k : Frames) → hit (starts_by f s) t ≡ false → descend_by f s t k ≡ None
no_entry zero s t k h = refl
no_entry (suc f) s t k h =
    rw (no_pick (led s) t (miss_left (heads (led s)) _ t h)) (at_plain (plain s) (miss_right (heads (led s)) _ t h) (λ p. no_entry f p.0 t (In s [] p.1 outside k)))
  where
    at_plain : (p : Option (Sort × List Part)) → hit (on p (λ p. starts_by f p.0) []) t ≡ false
        → ((p : Sort × List Part) → hit (starts_by f p.0) t ≡ false → descend_by f p.0 t (In s [] p.1 outside k) ≡ None)
        → on p (λ p. descend_by f p.0 t (In s [] p.1 outside k)) None ≡ None
    at_plain None h g = refl
    at_plain (Some p) h g = g p h

after_have : (k : Frames) (n : Node) (t : Tok) → after k n t ≡ move (have n k) t
after_have Bottom n t = refl
after_have (In s done [] i k) n t = after_have k (make s (done ++ n ∷ [])) t
after_have (In s done (one r j ∷ ps) i k) n t = sym (move_want r t (In s (done ++ n ∷ []) ps j k))
after_have (In s done (token c j ∷ ps) i k) n t = refl
after_have (In s done (maybe r j ∷ ps) i k) n t = refl
after_have (In s done (many r j ∷ ps) i k) n t = refl

walk_at : (t : Tok) (s : Sort) (done : List Node) (ps : List Part) (k : Frames) → walk t s done k ps (after k (make s done) t) ≡ move (at s done ps k) t
walk_at t s done [] k = after_have k (make s done) t
walk_at t s done (one r j ∷ ps) k = sym (move_want r t (In s done ps j k))
walk_at t s done (token c j ∷ ps) k = refl
walk_at t s done (maybe r j ∷ ps) k = refl
walk_at t s done (many r j ∷ ps) k = refl

have_ending : (k : Frames) (n : Node) → ending (have n k) ≡ finish k n
have_ending Bottom n = refl
have_ending (In s done [] i k) n = have_ending k (make s (done ++ n ∷ []))
have_ending (In s done (one r j ∷ ps) i k) n = want_ending r (In s (done ++ n ∷ []) ps j k)
have_ending (In s done (token c j ∷ ps) i k) n = refl
have_ending (In s done (maybe r j ∷ ps) i k) n = refl
have_ending (In s done (many r j ∷ ps) i k) n = refl

at_ending : (s : Sort) (done : List Node) (ps : List Part) (k : Frames) → ending (at s done ps k) ≡ cond (nullable ps) (finish k (make s done)) (Syntax 0)
at_ending s done [] k = have_ending k (make s done)
at_ending s done (one r j ∷ ps) k = want_ending r (In s done ps j k)
at_ending s done (token c j ∷ ps) k = refl
at_ending s done (maybe r j ∷ ps) k = refl
at_ending s done (many r j ∷ ps) k = refl

pub have_at : (s : Sort) (done : List Node) (ps : List Part) (i : Place) (k : Frames) (n : Node) → have n (In s done ps i k) ≡ at s (done ++ n ∷ []) ps k
have_at s done [] i k n = refl
have_at s done (one r j ∷ ps) i k n = refl
have_at s done (token c j ∷ ps) i k n = refl
have_at s done (maybe r j ∷ ps) i k n = refl
have_at s done (many r j ∷ ps) i k n = refl

module _ (b : Bool) where
  pub by_move : (s r : State) (t : Tok) (ts : List Tok) → move s t ≡ move r t → go b s (t ∷ ts) ≡ go b r (t ∷ ts)
  by_move s r t ts e = ap (λ z. on z (λ m. cond (b && nat_lt 64 m.depth) (Deep (length ts + 1)) (go b m.next ts)) (Syntax (length ts + 1))) e

  pub skip_maybe : (s r : Sort) (done : List Node) (i : Place) (ps : List Part) (k : Frames) (ts : List Tok) → Quiet (starts r) ts
      → go b (At s done (maybe r i ∷ ps) k) ts ≡ go b (at s done ps k) ts
  skip_maybe s r done i ps k [] q = sym (at_ending s done ps k)
  skip_maybe s r done i ps k (t ∷ ts) q = by_move (At s done (maybe r i ∷ ps) k) (at s done ps k) t ts (rw (no_entry 16 r t (In s done ps i k) q) (walk_at t s done ps k))

  pub skip_many : (s r : Sort) (done : List Node) (i : Place) (ps : List Part) (k : Frames) (ts : List Tok) → Quiet (starts r) ts
      → go b (At s done (many r i ∷ ps) k) ts ≡ go b (at s done ps k) ts
  skip_many s r done i ps k [] q = sym (at_ending s done ps k)
  skip_many s r done i ps k (t ∷ ts) q = by_move (At s done (many r i ∷ ps) k) (at s done ps k) t ts (rw (no_entry 16 r t (In s done (many r i ∷ ps) i k) q) (walk_at t s done ps k))

  -- one step that is not too deep
  pub stepped : (s : State) (t : Tok) (us : List Tok) (m : Step) → move s t ≡ Some m → (b && nat_lt 64 m.depth) ≡ false → go b s (t ∷ us) ≡ go b m.next us
  stepped s t us m e c = rw (e, c) refl

low_check : (b : Bool) (d : ℕ) → Low b d → (b && nat_lt 64 d) ≡ false
low_check true d l = le-ltb 64 d l
low_check false d l = refl

fits_check : (b : Bool) (i : Place) (d : ℕ) → Fits b i d → (b && nat_lt 64 (checked i d)) ≡ false
fits_check true outside d l = refl
fits_check true first d l = le-ltb 64 (d + 1) l
fits_check true inside d l = refl
fits_check false i d l = refl

zero_check : (b : Bool) → (b && nat_lt 64 0) ≡ false
zero_check true = refl
zero_check false = refl

-- A node of this rule is read from its tokens: its first token goes in, and the others lead to where the node was read.
abbrev pub Entered : Bool → Sort → Frames → Node → List Tok → Type 0
Entered b s k n ts = (t : Tok) × ((us : List Tok) × ((m : State) × ((yield n ≡ t ∷ us) × ((enter s t k ≡ Some m) × (go b m (us ++ ts) ≡ go b (have n k) ts)))))

pub first_same : {t u : Tok} {ts us : List Tok} → t ∷ ts ≡ u ∷ us → t ≡ u
first_same e = cc

pub quiet_start : (c : Bool) (cs ds : List Class) (ts : List Tok) → Quiet (cond c (cs ++ ds) []) ts → Quiet (cond c cs []) ts
quiet_start true cs ds ts q = quiet_left cs ds ts q
quiet_start false cs ds ts q = q

pub quiet_trail : (c : Bool) (cs ds : List Class) (ts : List Tok) → Quiet (cond c (cs ++ ds) []) ts → Quiet (cond c ds []) ts
quiet_trail true cs ds ts q = quiet_right cs ds ts q
quiet_trail false cs ds ts q = q

mutual
  pub is_read : (b : Bool) {s : Sort} {d : ℕ} {n : Node} → Is b s d n → is_part s ≡ true → (k : Frames) (ts : List Tok) → d ≡ depth k → Quiet (trails s) ts → Entered b s k n ts
  is_read b {s = s} {n = n} (by_token t ps ns p are e) h k ts x q =
      let told = led_body s t ps p in
      let quiet = quiet_within (ends ps) (trails s) ts (both_right (safe ps) _ told) q in
      let rest = are_read b are (both_left (safe ps) _ told) s (Leaf t ∷ []) k ts x quiet in
      (t, (yields ns, (at s (Leaf t ∷ []) ps k, (rw (e, make_yields s (Leaf t ∷ ns)) refl, (rw (enter_is s t k, p) refl, rest ∙ ap (λ z. go b (have z k) ts) (sym e))))))
  is_read b {s = s} {n = n} (by_rule r ps m ns p is are e) h k ts x q =
      let all = plain_told s r ps p in
      let told = both_left (body (trails s) (one r outside ∷ ps)) _ all in
      let part = both_left (safe (one r outside ∷ ps)) _ told in
      let tail = both_right (is_part r) _ part in
      let kept = both_right (apart (firsts ps) (trails r)) _ tail in
      let quiet = quiet_within (ends (one r outside ∷ ps)) (trails s) ts (both_right (safe (one r outside ∷ ps)) _ told) q in
      let begun = are_first are kept in
      let next = follows ps ns (trails r) [] ts begun (both_left (apart (firsts ps) (trails r)) _ tail) (quiet_left (cond (empty ps) (trails r) []) (ends ps) ts quiet) in
      let w = is_read b is (both_left (is_part r) _ part) (In s [] ps outside k) (yields ns ++ ts) x next in
      let f = is_first is (both_left (is_part r) _ part) in
      let same : f.0 ≡ w.0 = first_same (sym f.1.1.0 ∙ w.1.1.1.0) in
      let missed : hit (heads (led s)) w.0 ≡ false = apart_hit (starts r) (heads (led s)) w.0 (both_right (body (trails s) (one r outside ∷ ps)) _ all) (subst (λ z. hit (starts r) z ≡ true) same f.1.1.1) in
      let rest = are_read b are kept s (m ∷ []) k ts x (quiet_right (cond (empty ps) (trails r) []) (ends ps) ts quiet) in (
        w.0,
        (
          w.1.0 ++ yields ns,
          (
            w.1.1.0,
            (
              rw (e, make_yields s (m ∷ ns), w.1.1.1.0) refl,
              (
                rw (enter_is s w.0 k, no_pick (led s) w.0 missed, p) w.1.1.1.1.0,
                (ap (λ z. go b w.1.1.0 z) (append_assoc w.1.0 (yields ns) ts) ∙ (w.1.1.1.1.1 ∙ (ap (λ z. go b z (yields ns ++ ts)) (have_at s [] ps outside k m) ∙ (rest ∙ ap (λ z. go b (have z k) ts) (sym e))))),
              ),
            ),
          ),
        ),
      )
  is_read b (a_source ns are e) h k ts x q = cc

  are_read : (b : Bool) {d : ℕ} {ps : List Part} {ns : List Node} → Are b d ps ns → safe ps ≡ true → (s : Sort) (done : List Node) (k : Frames) (ts : List Tok) → d ≡ depth k
      → Quiet (ends ps) ts → go b (at s done ps k) (yields ns ++ ts) ≡ go b (have (make s (done ++ ns)) k) ts
  are_read b end h s done k ts x q = ap (λ z. go b (have (make s z) k) ts) (sym (append-nil done))
  are_read b (a_token {c = c} {i = i} {ps = ps} {t = t} {ns = ns} f a are) h s done k ts x q =
      stepped b (At s done (token c i ∷ ps) k) t (yields ns ++ ts) (record { next = at s (done ++ Leaf t ∷ []) ps k; depth = checked i (depth k) }) (rw a refl)
      (fits_check b i (depth k) (subst (λ z. Fits b i z) x f))
      ∙ (are_read b are h s (done ++ Leaf t ∷ []) k ts x q ∙ ap (λ z. go b (have (make s z) k) ts) (append_assoc done (Leaf t ∷ []) ns))
  are_read b (a_rule {s = r} {i = i} {ps = ps} {n = n} {ns = ns} l is are) h s done k ts x q =
      let tail = both_right (is_part r) _ h in
      let kept = both_right (apart (firsts ps) (trails r)) _ tail in
      let next = follows ps ns (trails r) [] ts (are_first are kept) (both_left (apart (firsts ps) (trails r)) _ tail) (quiet_left (cond (empty ps) (trails r) []) (ends ps) ts q) in
      let w = is_read b is (both_left (is_part r) _ h) (In s done ps i k) (yields ns ++ ts) (ap (λ z. deeper i z) x) next in
      let rest = are_read b are kept s (done ++ n ∷ []) k ts x (quiet_right (cond (empty ps) (trails r) []) (ends ps) ts q) in
      ap (λ z. go b (want r (In s done ps i k)) ((z ++ yields ns) ++ ts)) w.1.1.1.0
      ∙ (stepped b (want r (In s done ps i k)) w.0 ((w.1.0 ++ yields ns) ++ ts) (record { next = w.1.1.0; depth = deeper i (depth k) })
      (move_want r w.0 (In s done ps i k) ∙ rw w.1.1.1.1.0 refl) (low_check b (deeper i (depth k)) (subst (λ z. Low b (deeper i z)) x l))
      ∙ (ap (λ z. go b w.1.1.0 z) (append_assoc w.1.0 (yields ns) ts) ∙ (w.1.1.1.1.1
      ∙ (ap (λ z. go b z (yields ns ++ ts)) (have_at s done ps i k n) ∙ (rest ∙ ap (λ z. go b (have (make s z) k) ts) (append_assoc done (n ∷ []) ns))))))
  are_read b (absent {s = r} {i = i} {ps = ps} {ns = ns} are) h s done k ts x q =
      let tail = both_right (is_part r) _ h in
      let more = both_right (apart (firsts ps) (starts r)) _ tail in
      let kept = both_right (apart (firsts ps) (trails r)) _ more in
      let quiet = quiet_left (cond (empty ps) (starts r ++ trails r) []) (ends ps) ts q in
      let next = follows ps ns (starts r) [] ts (are_first are kept) (both_left (apart (firsts ps) (starts r)) _ tail) (quiet_start (empty ps) (starts r) (trails r) ts quiet) in
      skip_maybe b s r done i ps k (yields ns ++ ts) next ∙ are_read b are kept s done k ts x (quiet_right (cond (empty ps) (starts r ++ trails r) []) (ends ps) ts q)
  are_read b (present {s = r} {i = i} {ps = ps} {n = n} {ns = ns} is are) h s done k ts x q =
      let tail = both_right (is_part r) _ h in
      let more = both_right (apart (firsts ps) (starts r)) _ tail in
      let kept = both_right (apart (firsts ps) (trails r)) _ more in
      let quiet = quiet_left (cond (empty ps) (starts r ++ trails r) []) (ends ps) ts q in
      let next = follows ps ns (trails r) [] ts (are_first are kept) (both_left (apart (firsts ps) (trails r)) _ more) (quiet_trail (empty ps) (starts r) (trails r) ts quiet) in
      let w = is_read b is (both_left (is_part r) _ h) (In s done ps i k) (yields ns ++ ts) (ap (λ z. deeper i z) x) next in
      let rest = are_read b are kept s (done ++ n ∷ []) k ts x (quiet_right (cond (empty ps) (starts r ++ trails r) []) (ends ps) ts q) in
      ap (λ z. go b (At s done (maybe r i ∷ ps) k) ((z ++ yields ns) ++ ts)) w.1.1.1.0
      ∙ (stepped b (At s done (maybe r i ∷ ps) k) w.0 ((w.1.0 ++ yields ns) ++ ts) (record { next = w.1.1.0; depth = 0 }) (rw w.1.1.1.1.0 refl) (zero_check b)
      ∙ (ap (λ z. go b w.1.1.0 z) (append_assoc w.1.0 (yields ns) ts) ∙ (w.1.1.1.1.1
      ∙ (ap (λ z. go b z (yields ns ++ ts)) (have_at s done ps i k n) ∙ (rest ∙ ap (λ z. go b (have (make s z) k) ts) (append_assoc done (n ∷ []) ns))))))
  are_read b (no_more {s = r} {i = i} {ps = ps} {ns = ns} are) h s done k ts x q =
      let tail = both_right (is_part r) _ h in
      let more = both_right (apart (starts r ++ firsts ps) (trails r)) _ tail in
      let kept = both_right (apart (firsts ps) (starts r)) _ more in
      let quiet = quiet_left (cond (empty ps) (starts r ++ trails r) []) (ends ps) ts q in
      let next = follows ps ns (starts r) [] ts (are_first are kept) (both_left (apart (firsts ps) (starts r)) _ more) (quiet_start (empty ps) (starts r) (trails r) ts quiet) in
      skip_many b s r done i ps k (yields ns ++ ts) next ∙ are_read b are kept s done k ts x (quiet_right (cond (empty ps) (starts r ++ trails r) []) (ends ps) ts q)
  are_read b (one_more {s = r} {i = i} {ps = ps} {n = n} {ns = ns} is are) h s done k ts x q =
      let tail = both_right (is_part r) _ h in
      let quiet = quiet_left (cond (empty ps) (starts r ++ trails r) []) (ends ps) ts q in
      let next = follows (many r i ∷ ps) ns (trails r) [] ts (are_first are h) (both_left (apart (starts r ++ firsts ps) (trails r)) _ tail) (quiet_trail (empty ps) (starts r) (trails r) ts quiet) in
      let w = is_read b is (both_left (is_part r) _ h) (In s done (many r i ∷ ps) i k) (yields ns ++ ts) (ap (λ z. deeper i z) x) next in
      let rest = are_read b are h s (done ++ n ∷ []) k ts x q in
      ap (λ z. go b (At s done (many r i ∷ ps) k) ((z ++ yields ns) ++ ts)) w.1.1.1.0
      ∙ (stepped b (At s done (many r i ∷ ps) k) w.0 ((w.1.0 ++ yields ns) ++ ts) (record { next = w.1.1.0; depth = 0 }) (rw w.1.1.1.1.0 refl) (zero_check b)
      ∙ (ap (λ z. go b w.1.1.0 z) (append_assoc w.1.0 (yields ns) ts) ∙ (w.1.1.1.1.1
      ∙ (rest ∙ ap (λ z. go b (have (make s z) k) ts) (append_assoc done (n ∷ []) ns)))))

-- a tree of the grammar, within the limit where there is one, is read from its tokens
pub read_again : (b : Bool) (n : Node) → Is b source 0 n → go b start (yield n) ≡ Read n
read_again b n (by_token t ps ns p are e) = cc
read_again b n (by_rule r ps m ns p is are e) = cc
read_again b n (a_source ns are e) =
    ap (λ z. go b start z) (ap yield e ∙ (make_yields source ns ∙ sym (append-nil (yields ns))))
    ∙ (are_read b are whole_safe source [] Bottom [] refl tt ∙ ap (λ z. Read z) (sym e))

-- no two trees have the same tokens
pub one_tree : (b : Bool) (n m : Node) → Is b source 0 n → Is b source 0 m → yield n ≡ yield m → n ≡ m
one_tree b n m p q e = let a : Read n ≡ Read m = sym (read_again b n p) ∙ (ap (λ z. go b start z) e ∙ read_again b m q) in cc
