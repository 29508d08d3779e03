-- What stands among the sections of an item.
use Rattle.std.proofs.Common.{◌≡◌, ◌≢◌, ℕ, suc, eqb, ◌+◌, ◌≤◌, ◌<◌, All, List, [], ◌∷◌, ◌++◌, length, get_or, take, drop, set, sym, refl, ap, subst, ◌∙◌, ⊎_elim, arith, eq-eqb, ne_eqb}
use Rattle.std.specs.Prelude.{slice_get}
use Rattle.std.proofs.lemmas.List.Elements.{All-nil, All-cons, All-head, All-tail}
use Rattle.std.proofs.lemmas.Option.{slice_get_within, slice_get-get_or}
use mathlib.Core.Option.{some}
use mathlib.Core.Logic.{dite}
use native.Mathlib.Decide.{ℕ_discrete}
use lib.ListN.{get_elem?}
use Rattle.crossbeam_queue.proofs.Lists.{at_set, at_snoc}
use Rattle.boards.specs.declared.rule.Section.{Section}
use Rattle.boards.specs.declared.rule.Sight.{Sight}
use Rattle.boards.specs.Sections.{one, times, section_of, numbered, refreshed, numbers, Stands, StandFor}

module _ {P : Type 0} where
  -- another's sections stand there still
  pub others_stand : (before now : List P) (mine theirs : List (Section P)) → ((n : ℕ) → times n (numbers mine) ≡ 0 → slice_get now n ≡ slice_get before n)
      → ((n : ℕ) → times n (numbers mine) + times n (numbers theirs) ≤ 1) → All (Stands before) theirs → All (Stands now) theirs
  others_stand before now mine [] same apart each = All-nil (Stands now)
  others_stand before now mine (s ∷ more) same apart each =
      let here : one (eqb s.number s.number) ≡ 1 = ap one (eq-eqb s.number s.number refl) in
      let a = apart s.number in
      let not_mine : times s.number (numbers mine) ≡ 0 = omega arith in
      All-cons (Stands now) s more (same s.number not_mine ∙ All-head (Stands before) s more each)
      (others_stand before now mine more same (λ n. let b = apart n in omega arith) (All-tail (Stands before) s more each))

  pub own_stand : (before now : List P) (own : List (Section P)) → length now ≡ length before → All (Stands before) own → All (Stands now) (refreshed now own)
  own_stand before now [] count each = All-nil (Stands now)
  own_stand before now (s ∷ own) count each =
      let within : s.number < length before = slice_get_within before s.number s.content (All-head (Stands before) s own each) in
      let content = get_or now s.number s.content in
      All-cons (Stands now) (section_of s.number content) (refreshed now own) (slice_get-get_or now s.number s.content (omega arith)) (own_stand before now own count (All-tail (Stands before) s own each))

  pub same_numbers : (now : List P) (own : List (Section P)) → numbers (refreshed now own) ≡ numbers own
  same_numbers now [] = refl
  same_numbers now (s ∷ own) = ap (λ l. s.number ∷ l) (same_numbers now own)

  pub numbered_stand : (all : List P) (k : ℕ) (rest : List P) → ((i : ℕ) → slice_get all (k + i) ≡ slice_get rest i) → All (Stands all) (numbered k rest)
  numbered_stand all k [] each = All-nil (Stands all)
  numbered_stand all k (x ∷ rest) each =
      let first : k + 0 ≡ k = omega arith in
      All-cons (Stands all) (section_of k x) (numbered (suc k) rest) (ap (slice_get all) (sym first) ∙ each 0)
      (numbered_stand all (suc k) rest (λ i. let next : suc k + i ≡ k + suc i = omega arith in ap (slice_get all) next ∙ each (suc i)))

  none_below : (n k : ℕ) (rest : List P) → n < k → times n (numbers (numbered k rest)) ≡ 0
  none_below n k [] below = refl
  none_below n k (x ∷ rest) below =
      let here : one (eqb k n) ≡ 0 = ap one (ne_eqb k n (λ same. omega arith)) in
      let more = none_below n (suc k) rest (omega arith) in omega arith

  -- no number is given twice
  pub numbered_once : (n k : ℕ) (rest : List P) → times n (numbers (numbered k rest)) ≤ 1
  numbered_once n k [] = omega arith
  numbered_once n k (x ∷ rest) = dite (ℕ_discrete k n)
      (λ hit. let here : one (eqb k n) ≡ 1 = ap one (eq-eqb k n hit) in let more = none_below n (suc k) rest (omega arith) in omega arith)
      (λ miss. let here : one (eqb k n) ≡ 0 = ap one (ne_eqb k n miss) in let more = numbered_once n (suc k) rest in omega arith)

  -- the first section and the others
  pub times_cut : (n : ℕ) (own : List (Section P)) → times n (numbers (drop 1 own)) + times n (numbers (take 1 own)) ≡ times n (numbers own)
  times_cut n [] = refl
  times_cut n (s ∷ own) = omega arith

module _ {K P : Type 0} where
  pub stand_set : (views : List (Sight K P)) (pass : ℕ) (w : Sight K P) (xs : List P) → StandFor views xs → All (Stands xs) w.own → StandFor (set views pass w) xs
  stand_set views pass w xs each mine j u e = ⊎_elim (λ (x : (j ≡ pass) × (w ≡ u)). subst (λ (y : Sight K P). All (Stands xs) y.own) x.1 mine)
      (λ (x : (j ≢ pass) × (get_elem? views j ≡ some u)). each j u x.1) (at_set views pass j w u e)

  pub stand_more : (views : List (Sight K P)) (w : Sight K P) (xs : List P) → StandFor views xs → All (Stands xs) w.own → StandFor (views ++ w ∷ []) xs
  stand_more views w xs each mine j u e = ⊎_elim (λ (x : get_elem? views j ≡ some u). each j u x) (λ (x : w ≡ u). subst (λ (y : Sight K P). All (Stands xs) y.own) x mine) (at_snoc views w u j e)
