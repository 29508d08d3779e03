-- Each step of a pass keeps the rule of the pool.
use Rattle.std.proofs.Common.{◌≡◌, ◌≢◌, ◌⊎◌, ℕ, zero, suc, ◌+◌, ◌++◌, ◌≤◌, ◌<◌, true, false, true≢false, All, List, [], ◌∷◌, length, set, sym, refl, ap, subst, ◌∙◌, ⊎_elim, inl, inr, arith, length-set, length-append}
use Rattle.std.specs.Prelude.{Option, Some, None}
use Rattle.std.proofs.lemmas.List.{nil_from_length}
use Rattle.std.proofs.lemmas.List.Elements.{All-nil, All-push, All-head, All-rest}
use mathlib.Core.Option.{some, some-injective, some-ne-none}
use lib.ListN.{get_elem?}
use Rattle.crossbeam_queue.specs.Fifo.{Pushes, Pops, Forks, Learns}
use Rattle.crossbeam_queue.proofs.Lists.{at_set, at_snoc}
use Rattle.pools.specs.declared.rule.Hand.{Hand}
use Rattle.pools.specs.Places.{hand, times, without, common, AreAlike, Placed}
use Rattle.pools.proofs.Sums.{total_set, total_more, below_total, total_alone, one_place, times_more, times_without, length_without, once_more}

module _ {K : Type 0} where
  abbrev held_times : ℕ → Hand K → ℕ
  held_times x v = times x v.held

  abbrev held_count : Hand K → ℕ
  held_count v = length v.held

  abbrev Agree : List ℕ → Option K → List (Hand K) → Type 0
  Agree all one_kind views = (pass : ℕ) (v : Hand K) → get_elem? views pass ≡ some v → (v.all ≡ all) × (v.kind ≡ one_kind)

  abbrev Sole : ℕ → List (Hand K) → Type 0
  Sole among views = (pass : ℕ) (v : Hand K) → get_elem? views pass ≡ some v → v.alone ≡ true → among ≡ 1

  -- a pass changes what it holds, and nothing else
  agree_set : (all : List ℕ) (one_kind : Option K) (views : List (Hand K)) (pass : ℕ) (v w : Hand K) → Agree all one_kind views → get_elem? views pass ≡ some v → w.all ≡ v.all → w.kind ≡ v.kind
      → Agree all one_kind (set views pass w)
  agree_set all one_kind views pass v w each at same_all same_kind j u e = ⊎_elim
      (λ (x : (j ≡ pass) × (w ≡ u)). let mine = each pass v at in (ap (λ (y : Hand K). y.all) (sym x.1) ∙ same_all ∙ mine.0, ap (λ (y : Hand K). y.kind) (sym x.1) ∙ same_kind ∙ mine.1))
      (λ (x : (j ≢ pass) × (get_elem? views j ≡ some u)). each j u x.1) (at_set views pass j w u e)

  sole_set : (views : List (Hand K)) (pass : ℕ) (v w : Hand K) → Sole (length views) views → get_elem? views pass ≡ some v → w.alone ≡ v.alone → Sole (length (set views pass w)) (set views pass w)
  sole_set views pass v w each at same j u e alone = let n = length-set views pass w in ⊎_elim
      (λ (x : (j ≡ pass) × (w ≡ u)). n ∙ each pass v at (sym same ∙ ap (λ (y : Hand K). y.alone) x.1 ∙ alone))
      (λ (x : (j ≢ pass) × (get_elem? views j ≡ some u)). n ∙ each j u x.1 alone) (at_set views pass j w u e)

module _ {L K : Type 0} (kind : L → K) where
  -- what holds of all holds of one among them
  one_of : (P : L → Type 0) (before : List L) (l : L) (rest : List L) → All P (before ++ l ∷ rest) → P l
  one_of P [] l rest each = All-head P l rest each
  one_of P (x ∷ xs) l rest each = one_of P xs l rest (All-rest P x (xs ++ l ∷ rest) _ refl each)

  -- the next of several of one kind has the kind of those before it, if there are some
  pub next_kind : (all before : List L) (l : L) (rest : List L) → AreAlike kind all → before ++ l ∷ rest ≡ all → ((before ≡ []) ⊎ (common kind before ≡ Some (kind l))) × (common kind (before ++ l ∷ []) ≡ Some (kind l))
  next_kind all [] l rest alike is = (inl refl, refl)
  next_kind all (x ∷ xs) l rest alike is =
      let each : AreAlike kind (x ∷ xs ++ l ∷ rest) = subst (AreAlike kind) (sym is) alike in
      let same : common kind (x ∷ xs) ≡ Some (kind l) = one_of (λ y. Some (kind x) ≡ Some (kind y)) (x ∷ xs) l rest each in
      (inr same, same)

module _ {L K : Type 0} (number : L → ℕ) (kind : L → K) where
  pub begins : Placed number kind [] (hand true [] [] None ∷ [])
  begins = record { all = []; one_kind = None; agree = first; sole = λ pass v e alone. refl; alike = All-nil _; distinct = λ x. omega arith; each_once = λ x. refl; count = refl }
    where
      first : Agree {K = K} [] None (hand true [] [] None ∷ [])
      first zero v e = let same = some-injective (hand true [] [] None) v e in (ap (λ (y : Hand K). y.all) (sym same), ap (λ (y : Hand K). y.kind) (sym same))
      first (suc pass) v e = absurd (some-ne-none v (sym e))

  -- those that are there already are of the kind of one more
  still_alike : (items : List L) (one_kind : Option K) (l : L) → All (λ x. one_kind ≡ Some (kind x)) items → (items ≡ []) ⊎ (one_kind ≡ Some (kind l)) → All (λ x. Some (kind l) ≡ Some (kind x)) items
  still_alike items one_kind l each (inl none) = subst (All (λ x. Some (kind l) ≡ Some (kind x))) (sym none) (All-nil _)
  still_alike items one_kind l each (inr same) = subst (λ (k : Option K). All (λ x. k ≡ Some (kind x)) items) same each

  pub founds : (n pass : ℕ) (v : Hand K) (l : L) → v.alone ≡ true → times (number l) v.all ≡ 0 → (v.all ≡ []) ⊎ (v.kind ≡ Some (kind l)) → Pushes (Placed number kind) n pass v l (λ w. w ≡ hand v.alone (number l ∷ v.all) v.held (Some (kind l)))
  founds n pass v l alone new of_kind items views _ h at =
      let w = hand v.alone (number l ∷ v.all) v.held (Some (kind l)) in
      let mine = h.agree pass v at in
      let single = h.sole pass v at alone in
      let absent : times (number l) h.all ≡ 0 = ap (times (number l)) (sym mine.0) ∙ new in
      let left : (items ≡ []) ⊎ (h.one_kind ≡ Some (kind l)) = ⊎_elim (λ none. inl (nil_from_length items (let o = h.count in let e = ap length (sym mine.0 ∙ none) in omega arith))) (λ same. inr (sym mine.1 ∙ same)) of_kind in (
        w,
        record {
          all = number l ∷ h.all;
          one_kind = Some (kind l);
          agree = λ j u e. ⊎_elim (λ (x : (j ≡ pass) × (w ≡ u)). (ap (λ (y : Hand K). y.all) (sym x.1) ∙ ap (λ xs. number l ∷ xs) mine.0, ap (λ (y : Hand K). y.kind) (sym x.1)))
              (λ (x : (j ≢ pass) × (get_elem? views j ≡ some u)). absurd (x.0 (one_place views pass j v u single at x.1))) (at_set views pass j w u e);
          sole = sole_set views pass v w h.sole at refl;
          alike = All-push (λ x. Some (kind l) ≡ Some (kind x)) items l (still_alike items h.one_kind l h.alike left) refl;
          distinct = λ x. once_more (number l) x h.all absent (h.distinct x);
          each_once = λ x. let t = total_set (held_times x) views pass v w at in let q = times_more number x items l in let o = h.each_once x in omega arith;
          count = let t = total_set held_count views pass v w at in let o = h.count in let a = length-append items (l ∷ []) in omega arith;
        },
        refl,
      )

  pub takes : (pass : ℕ) (v : Hand K) → Pops (Placed number kind) pass v (λ l w. (w ≡ hand v.alone v.all (number l ∷ v.held) v.kind) × (v.kind ≡ Some (kind l)))
  takes pass v l items views h at = let w = hand v.alone v.all (number l ∷ v.held) v.kind in (
    w,
    record {
      all = h.all;
      one_kind = h.one_kind;
      agree = agree_set h.all h.one_kind views pass v w h.agree at refl refl;
      sole = sole_set views pass v w h.sole at refl;
      alike = All-rest (λ x. h.one_kind ≡ Some (kind x)) l items _ refl h.alike;
      distinct = h.distinct;
      each_once = λ x. let t = total_set (held_times x) views pass v w at in let o = h.each_once x in omega arith;
      count = let t = total_set held_count views pass v w at in let o = h.count in omega arith;
    },
    (refl, (h.agree pass v at).1 ∙ All-head (λ x. h.one_kind ≡ Some (kind x)) l items h.alike),
  )

  pub gives : (n pass : ℕ) (v : Hand K) (l : L) → 0 < times (number l) v.held → v.kind ≡ Some (kind l) → Pushes (Placed number kind) n pass v l (λ w. w ≡ hand v.alone v.all (without (number l) v.held) v.kind)
  gives n pass v l there of_kind items views _ h at = let w = hand v.alone v.all (without (number l) v.held) v.kind in (
    w,
    record {
      all = h.all;
      one_kind = h.one_kind;
      agree = agree_set h.all h.one_kind views pass v w h.agree at refl refl;
      sole = sole_set views pass v w h.sole at refl;
      alike = All-push (λ x. h.one_kind ≡ Some (kind x)) items l h.alike (sym (h.agree pass v at).1 ∙ of_kind);
      distinct = h.distinct;
      each_once = λ x.
          let t = total_set (held_times x) views pass v w at in
          let q = times_more number x items l in
          let m = times_without (number l) x v.held there in
          let o = h.each_once x in omega arith;
      count = let t = total_set held_count views pass v w at in let m = length_without (number l) v.held there in let o = h.count in let a = length-append items (l ∷ []) in omega arith;
    },
    refl,
  )

  pub has_room : (pass : ℕ) (v : Hand K) → Learns (Placed number kind) pass v (λ items. length items + length v.held ≤ length v.all)
  has_room pass v items views h at = let b = below_total held_count views pass v at in let mine = ap length (h.agree pass v at).0 in let o = h.count in omega arith

  pub holds_rest : (pass : ℕ) (v : Hand K) → Learns (Placed number kind) pass v (λ items. v.alone ≡ true → length items + length v.held ≡ length v.all)
  holds_rest pass v items views h at alone =
      let mine = h.agree pass v at in
      let b = total_alone held_count views pass v (h.sole pass v at alone) at in
      let c = ap length mine.0 in
      let o = h.count in omega arith

  pub admits : (pass : ℕ) (v : Hand K) → Forks (Placed number kind) pass v (hand false v.all v.held v.kind) (hand false v.all [] v.kind)
  admits pass v items views h at = let l = hand false v.all v.held v.kind in let r = hand false v.all [] v.kind in let mine = h.agree pass v at in let vs = set views pass l in record {
    all = h.all;
    one_kind = h.one_kind;
    agree = λ j u e. ⊎_elim
        (λ (x : get_elem? vs j ≡ some u). agree_set h.all h.one_kind views pass v l h.agree at refl refl j u x)
        (λ (x : r ≡ u). (ap (λ (z : Hand K). z.all) (sym x) ∙ mine.0, ap (λ (z : Hand K). z.kind) (sym x) ∙ mine.1)) (at_snoc vs r u j e);
    sole = λ j u e alone. ⊎_elim
        (λ (x : get_elem? vs j ≡ some u). ⊎_elim (λ (y : (j ≡ pass) × (l ≡ u)). absurd (true≢false (sym alone ∙ ap (λ (z : Hand K). z.alone) (sym y.1))))
        (λ (y : (j ≢ pass) × (get_elem? views j ≡ some u)). absurd (y.0 (one_place views pass j v u (h.sole j u y.1 alone) at y.1))) (at_set views pass j l u x))
        (λ (x : r ≡ u). absurd (true≢false (sym alone ∙ ap (λ (z : Hand K). z.alone) (sym x)))) (at_snoc vs r u j e);
    alike = h.alike;
    distinct = h.distinct;
    each_once = λ x. let t = total_set (held_times x) views pass v l at in let m = total_more (held_times x) vs r in let o = h.each_once x in omega arith;
    count = let t = total_set held_count views pass v l at in let m = total_more held_count vs r in let o = h.count in omega arith;
  }
