-- Each step of a pass keeps the rule of the board.
use Rattle.std.proofs.Common.{◌≡◌, ◌≢◌, ℕ, zero, suc, ◌+◌, ◌++◌, ◌≤◌, Bool, true, false, true≢false, All, List, [], ◌∷◌, length, take, drop, set, sym, refl, ap, subst, ◌∙◌, ⊎_elim, arith, length-append}
use Rattle.std.specs.Prelude.{Option, Some, None, is_some, slice_get}
use Rattle.std.proofs.lemmas.List.{nil_from_length}
use Rattle.std.proofs.lemmas.List.Elements.{All-nil, All-push, All-head, All-rest, All-weaker, All-take, All-drop}
use Rattle.std.proofs.lemmas.Option.{none-some, same_Some}
use mathlib.Core.Option.{some, some-injective, some-ne-none}
use lib.ListN.{get_elem?}
use Rattle.crossbeam_queue.specs.Fifo.{Pushes, Pops, Forks, Learns}
use Rattle.crossbeam_queue.proofs.Lists.{at_set, at_snoc}
use Rattle.boards.specs.declared.rule.Sight.{Sight}
use Rattle.boards.specs.Sections.{one, times, seeing, numbered, refreshed, away, owned, Stands, StandFor, Kept, KeepsOthers}
use Rattle.boards.proofs.Sums.{total_set, total_more, below_total, two_below_total, total_alone, same_place}
use Rattle.boards.proofs.Standing.{others_stand, own_stand, same_numbers, numbered_stand, numbered_once, times_cut, stand_set, stand_more}

not_true : (b : Bool) → b ≢ true → b ≡ false
not_true true never = absurd (never refl)
not_true false never = refl

module _ {K P : Type 0} where
  abbrev Agree : Option K → List (Sight K P) → Type 0
  Agree one_kind views = (pass : ℕ) (v : Sight K P) → get_elem? views pass ≡ some v → v.is_new ≡ false → v.kind ≡ one_kind

  -- no pass waits for the item to come
  abbrev AllOld : List (Sight K P) → Type 0
  AllOld views = (pass : ℕ) (v : Sight K P) → get_elem? views pass ≡ some v → v.is_new ≢ true

  agree_set : (one_kind : Option K) (views : List (Sight K P)) (pass : ℕ) (w : Sight K P) → Agree one_kind views → w.kind ≡ one_kind → Agree one_kind (set views pass w)
  agree_set one_kind views pass w each mine j u e old = ⊎_elim (λ (x : (j ≡ pass) × (w ≡ u)). ap (λ (y : Sight K P). y.kind) (sym x.1) ∙ mine)
      (λ (x : (j ≢ pass) × (get_elem? views j ≡ some u)). each j u x.1 old) (at_set views pass j w u e)

  old_set : (views : List (Sight K P)) (pass : ℕ) (w : Sight K P) → AllOld views → w.is_new ≢ true → AllOld (set views pass w)
  old_set views pass w each mine j u e new = ⊎_elim (λ (x : (j ≡ pass) × (w ≡ u)). mine (ap (λ (y : Sight K P). y.is_new) x.1 ∙ new))
      (λ (x : (j ≢ pass) × (get_elem? views j ≡ some u)). each j u x.1 new) (at_set views pass j w u e)

  taken_is_away : (v : Sight K P) (xs : List P) → v.taken ≡ Some xs → away v ≡ 1
  taken_is_away v xs taken = ap (λ (o : Option (List P)). one (is_some o)) taken

module _ {L K P : Type 0} (kind : L → K) (sections : L → List P) where
  -- where one isn't new, none is
  all_old : (items : List L) (views : List (Sight K P)) (pass : ℕ) (v : Sight K P) → Kept kind sections items views → get_elem? views pass ≡ some v → v.is_new ≢ true → AllOld views
  all_old items views pass v h at mine j u e new =
      let here : j ≡ pass = same_place views pass j v u (h.first j u e new).0 at e in
      let same : u ≡ v = some-injective u v (sym e ∙ ap (get_elem? views) here ∙ at) in
      mine (ap (λ (y : Sight K P). y.is_new) (sym same) ∙ new)

  pub begins : Kept kind sections [] (seeing true None [] None ∷ [])
  begins = record {
    one_kind = None;
    agree = λ pass v e old. ap (λ (y : Sight K P). y.kind) (sym (only pass v e));
    alike = All-nil _;
    first = λ pass v e new. (refl, refl, ap (λ (y : Sight K P). y.own) (sym (only pass v e)), ap (λ (y : Sight K P). y.taken) (sym (only pass v e)));
    one_place = omega arith;
    one_owner = λ n. omega arith;
    here = All-nil _;
    out = λ pass v xs e taken. absurd (none-some xs (ap (λ (y : Sight K P). y.taken) (only pass v e) ∙ taken));
  }
    where
      only : (pass : ℕ) (v : Sight K P) → get_elem? (seeing {K = K} {P = P} true None [] None ∷ []) pass ≡ some v → seeing true None [] None ≡ v
      only zero v e = some-injective (seeing true None [] None) v e
      only (suc pass) v e = absurd (some-ne-none v (sym e))

  pub founds : (n pass : ℕ) (v : Sight K P) (l : L) → v.is_new ≡ true → Pushes (Kept kind sections) n pass v l (λ w. w ≡ seeing false (Some (kind l)) (numbered 0 (sections l)) None)
  founds n pass v l new items views _ h at =
      let w : Sight K P = seeing false (Some (kind l)) (numbered 0 (sections l)) None in
      let first = h.first pass v at new in
      let alone : (j : ℕ) (u : Sight K P) → get_elem? (set views pass w) j ≡ some u → w ≡ u = λ j u e. ⊎_elim (λ (x : (j ≡ pass) × (w ≡ u)). x.1)
      (λ (x : (j ≢ pass) × (get_elem? views j ≡ some u)). absurd (x.0 (same_place views pass j v u first.0 at x.1))) (at_set views pass j w u e) in
      let stands : StandFor (set views pass w) (sections l) = λ j u e. subst (λ (y : Sight K P). All (Stands (sections l)) y.own) (alone j u e) (numbered_stand (sections l) 0 (sections l) (λ i. let same : 0 + i ≡ i = omega arith in ap (slice_get (sections l)) same)) in (
        w,
        record {
          one_kind = Some (kind l);
          agree = λ j u e old. ap (λ (y : Sight K P). y.kind) (sym (alone j u e));
          alike = subst (λ (is : List L). All (λ x. Some (kind l) ≡ Some (kind x)) (is ++ l ∷ [])) (sym first.1) (All-push (λ x. Some (kind l) ≡ Some (kind x)) [] l (All-nil _) refl);
          first = λ j u e again. absurd (true≢false (sym again ∙ ap (λ (y : Sight K P). y.is_new) (sym (alone j u e))));
          one_place =
              let none : length items ≡ 0 = ap length first.1 in
              let t = total_set away views pass v w at in
              let a = total_alone away views pass v first.0 at in
              let at_rest : away w ≡ 0 = refl in
              let more = length-append items (l ∷ []) in omega arith;
          one_owner = λ k.
              let t = total_set (owned k) views pass v w at in
              let a = total_alone (owned k) views pass v first.0 at in
              let once : owned k w ≤ 1 = numbered_once k 0 (sections l) in omega arith;
          here = subst (λ (is : List L). All (λ x. StandFor (set views pass w) (sections x)) (is ++ l ∷ [])) (sym first.1) (All-push (λ x. StandFor (set views pass w) (sections x)) [] l (All-nil _) stands);
          out = λ j u xs e taken. absurd (none-some xs (ap (λ (y : Sight K P). y.taken) (alone j u e) ∙ taken));
        },
        refl,
      )

  pub takes : (pass : ℕ) (v : Sight K P) → Pops (Kept kind sections) pass v (λ l w. (w ≡ seeing v.is_new v.kind v.own (Some (sections l))) × (v.kind ≡ Some (kind l)) × All (Stands (sections l)) v.own)
  takes pass v l items views h at =
      let w : Sight K P = seeing v.is_new v.kind v.own (Some (sections l)) in
      let old : v.is_new ≢ true = λ new. let none = ap length (h.first pass v at new).1 in absurd (omega arith) in
      let olds = all_old (l ∷ items) views pass v h at old in
      let mine : v.kind ≡ h.one_kind = h.agree pass v at (not_true v.is_new old) in
      let stands : StandFor views (sections l) = All-head (λ x. StandFor views (sections x)) l items h.here in (
        w,
        record {
          one_kind = h.one_kind;
          agree = agree_set h.one_kind views pass w h.agree mine;
          alike = All-rest (λ x. h.one_kind ≡ Some (kind x)) l items _ refl h.alike;
          first = λ j u e new. absurd (old_set views pass w olds old j u e new);
          one_place = let t = total_set away views pass v w at in let o = h.one_place in let out : away w ≡ 1 = refl in omega arith;
          one_owner = λ k. let t = total_set (owned k) views pass v w at in let o = h.one_owner k in omega arith;
          here = All-weaker _ _ (λ x each. stand_set views pass w (sections x) each (each pass v at)) items (All-rest (λ x. StandFor views (sections x)) l items _ refl h.here);
          out = λ j u xs e taken. ⊎_elim
              (λ (x : (j ≡ pass) × (w ≡ u)). let same : Some (sections l) ≡ Some xs = ap (λ (y : Sight K P). y.taken) x.1 ∙ taken in stand_set views pass w xs (is_same xs same stands) (is_same xs same stands pass v at))
              (λ (x : (j ≢ pass) × (get_elem? views j ≡ some u)). let each = h.out j u xs x.1 taken in stand_set views pass w xs each (each pass v at)) (at_set views pass j w u e);
        },
        (refl, mine ∙ All-head (λ x. h.one_kind ≡ Some (kind x)) l items h.alike, stands pass v at),
      )
    where
      is_same : (xs : List P) → Some (sections l) ≡ Some xs → StandFor views (sections l) → StandFor views xs
      is_same xs same each = subst (StandFor views) (same_Some (sections l) xs same) each

  pub gives : (n pass : ℕ) (v : Sight K P) (l : L) → v.kind ≡ Some (kind l) → KeepsOthers v (sections l)
      → Pushes (Kept kind sections) n pass v l (λ w. (w ≡ seeing v.is_new v.kind (refreshed (sections l) v.own) None) × All (Stands (sections l)) w.own)
  gives n pass v l of_kind keeps items views _ h at =
      let w : Sight K P = seeing v.is_new v.kind (refreshed (sections l) v.own) None in
      let was_away : away v ≡ 1 = taken_is_away v keeps.before keeps.taken in
      let at_rest : away w ≡ 0 = refl in
      let old : v.is_new ≢ true = λ new. none-some keeps.before (sym (h.first pass v at new).3 ∙ keeps.taken) in
      let olds = all_old items views pass v h at old in
      let mine : v.kind ≡ h.one_kind = h.agree pass v at (not_true v.is_new old) in
      let before : StandFor views keeps.before = h.out pass v keeps.before at keeps.taken in
      let none : items ≡ [] = nil_from_length items (let o = h.one_place in let b = below_total away views pass v at in omega arith) in
      let own : All (Stands (sections l)) w.own = own_stand keeps.before (sections l) v.own keeps.count (before pass v at) in
      let stands : StandFor (set views pass w) (sections l) = λ j u e. ⊎_elim (λ (x : (j ≡ pass) × (w ≡ u)). subst (λ (y : Sight K P). All (Stands (sections l)) y.own) x.1 own)
      (λ (x : (j ≢ pass) × (get_elem? views j ≡ some u)).
      others_stand keeps.before (sections l) v.own u.own keeps.others (λ k. let t = two_below_total (owned k) views pass j v u x.0 at x.1 in let o = h.one_owner k in omega arith) (before j u x.1)) (at_set views pass j w u e) in (
        w,
        record {
          one_kind = h.one_kind;
          agree = agree_set h.one_kind views pass w h.agree mine;
          alike = All-push (λ x. h.one_kind ≡ Some (kind x)) items l h.alike (sym mine ∙ of_kind);
          first = λ j u e new. absurd (old_set views pass w olds old j u e new);
          one_place =
              let t = total_set away views pass v w at in
              let o = h.one_place in
              let more = length-append items (l ∷ []) in omega arith;
          one_owner = λ k.
              let t = total_set (owned k) views pass v w at in
              let same : owned k w ≡ owned k v = ap (times k) (same_numbers (sections l) v.own) in
              let o = h.one_owner k in omega arith;
          here = subst (λ (is : List L). All (λ x. StandFor (set views pass w) (sections x)) (is ++ l ∷ [])) (sym none) (All-push (λ x. StandFor (set views pass w) (sections x)) [] l (All-nil _) stands);
          out = λ j u xs e taken. ⊎_elim (λ (x : (j ≡ pass) × (w ≡ u)). absurd (none-some xs (ap (λ (y : Sight K P). y.taken) x.1 ∙ taken)))
              (λ (x : (j ≢ pass) × (get_elem? views j ≡ some u)).
              let t = two_below_total away views pass j v u x.0 at x.1 in
              let theirs : away u ≡ 1 = taken_is_away u xs taken in
              let o = h.one_place in absurd (omega arith)) (at_set views pass j w u e);
        },
        (refl, own),
      )

  pub is_empty : (pass : ℕ) (v : Sight K P) → Learns (Kept kind sections) pass v (λ items. v.is_new ≡ true → length items ≡ 0)
  is_empty pass v items views h at new = ap length (h.first pass v at new).1

  pub has_room : (pass : ℕ) (v : Sight K P) → Learns (Kept kind sections) pass v (λ items. length items + away v ≤ 1)
  has_room pass v items views h at = let b = below_total away views pass v at in let o = h.one_place in omega arith

  pub admits : (pass : ℕ) (v : Sight K P) → v.is_new ≡ false → Forks (Kept kind sections) pass v (seeing false v.kind (drop 1 v.own) v.taken) (seeing false v.kind (take 1 v.own) None)
  admits pass v old items views h at =
      let l : Sight K P = seeing false v.kind (drop 1 v.own) v.taken in
      let r : Sight K P = seeing false v.kind (take 1 v.own) None in
      let vs = set views pass l in
      let mine : v.kind ≡ h.one_kind = h.agree pass v at old in
      let olds = old_set views pass l (all_old items views pass v h at (λ new. true≢false (sym new ∙ old))) (λ new. true≢false (sym new)) in
      let stand : (xs : List P) → StandFor views xs → StandFor (vs ++ r ∷ []) xs = λ xs each.
      stand_more vs r xs (stand_set views pass l xs each (All-drop (Stands xs) 1 v.own (each pass v at))) (All-take (Stands xs) 1 v.own (each pass v at)) in record {
        one_kind = h.one_kind;
        agree = λ j u e known. ⊎_elim (λ (x : get_elem? vs j ≡ some u). agree_set h.one_kind views pass l h.agree mine j u x known)
            (λ (x : r ≡ u). ap (λ (y : Sight K P). y.kind) (sym x) ∙ mine) (at_snoc vs r u j e);
        alike = h.alike;
        first = λ j u e new. ⊎_elim (λ (x : get_elem? vs j ≡ some u). absurd (olds j u x new))
            (λ (x : r ≡ u). absurd (true≢false (sym new ∙ ap (λ (y : Sight K P). y.is_new) (sym x)))) (at_snoc vs r u j e);
        one_place = let t = total_set away views pass v l at in let m = total_more away vs r in let at_rest : away r ≡ 0 = refl in let o = h.one_place in omega arith;
        one_owner = λ k. let t = total_set (owned k) views pass v l at in let m = total_more (owned k) vs r in let c = times_cut k v.own in let o = h.one_owner k in omega arith;
        here = All-weaker _ _ (λ x each. stand (sections x) each) items h.here;
        out = λ j u xs e taken. ⊎_elim
            (λ (x : get_elem? vs j ≡ some u). ⊎_elim (λ (y : (j ≡ pass) × (l ≡ u)). stand xs (h.out pass v xs at (ap (λ (z : Sight K P). z.taken) y.1 ∙ taken)))
            (λ (y : (j ≢ pass) × (get_elem? views j ≡ some u)). stand xs (h.out j u xs y.1 taken)) (at_set views pass j l u x))
            (λ (x : r ≡ u). absurd (none-some xs (ap (λ (z : Sight K P). z.taken) x ∙ taken))) (at_snoc vs r u j e);
      }
