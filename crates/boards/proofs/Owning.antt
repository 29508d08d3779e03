-- For callers: a pass with one section, and what may be given back.
use Rattle.std.proofs.Common.{◌≡◌, ◌≢◌, ℕ, eqb, ◌+◌, All, List, [], ◌∷◌, length, sym, refl, ap, subst, ◌∙◌, arith, eq-eqb}
use Rattle.std.specs.Prelude.{Option, Some, None, IfSome, MatchOption, slice_get}
use Rattle.std.proofs.lemmas.List.Elements.{All-head}
use Rattle.std.proofs.lemmas.Option.{get_or_from_slice_get}
use Rattle.boards.specs.declared.rule.Section.{Section}
use Rattle.boards.specs.declared.rule.Sight.{Sight}
use Rattle.boards.specs.Sections.{one, times, section_of, numbers, refreshed, Stands, KeepsOthers}

-- what was told of an answer holds of what comes
pub told : {A : Type 0} (answer : Option A) (nothing : Type 0) (F G : A → Type 0) → ((x : A) → F x → G x) → MatchOption answer nothing F → IfSome answer G
told None nothing F G more known = tt
told (Some x) nothing F G more known = more x known

module _ {P : Type 0} where
  pub stands_there : (xs : List P) (own : List (Section P)) (n : ℕ) (c : P) → All (Stands xs) own → own ≡ section_of n c ∷ [] → slice_get xs n ≡ Some c
  stands_there xs own n c each is = All-head (Stands xs) (section_of n c) [] (subst (All (Stands xs)) is each)

  pub refreshed_one : (now : List P) (own : List (Section P)) (n : ℕ) (old c : P) → own ≡ section_of n old ∷ [] → slice_get now n ≡ Some c → refreshed now own ≡ section_of n c ∷ []
  refreshed_one now own n old c is there = ap (refreshed now) is ∙ ap (λ x. section_of n x ∷ []) (get_or_from_slice_get now n c old there)

module _ {K P : Type 0} where
  -- the pass has the section n, and no other section is changed
  pub keeps_but_one : (v : Sight K P) (n : ℕ) (c : P) (before now : List P) → v.own ≡ section_of n c ∷ [] → v.taken ≡ Some before → length now ≡ length before
      → ((k : ℕ) → k ≢ n → slice_get now k ≡ slice_get before k) → KeepsOthers v now
  keeps_but_one v n c before now is taken count same = record {
    before = before;
    taken = taken;
    count = count;
    others = λ k none. same k (λ hit.
        let here : one (eqb n k) ≡ 1 = ap one (eq-eqb n k (sym hit)) in
        let mine : times k (numbers v.own) ≡ one (eqb n k) + 0 = ap (λ l. times k (numbers l)) is in absurd (omega arith));
  }

  -- no section is changed
  pub keeps_all : (v : Sight K P) (before : List P) → v.taken ≡ Some before → KeepsOthers v before
  keeps_all v before taken = record { before = before; taken = taken; count = refl; others = λ n none. refl }
