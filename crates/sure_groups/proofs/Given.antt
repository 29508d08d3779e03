-- Inputs wait at the components that they are for, as one after another is put there.
use Rattle.std.proofs.Common.{◌≡◌, ℕ, ◌<◌, ◌⊎◌, inl, inr, Some, List, [], ◌∷◌, ◌++◌, length, refl, ap, sym, subst, ◌∙◌, arith}
use Rattle.std.specs.Prelude.{slice_get, slice_set}
use Rattle.std.proofs.lemmas.Bool.{cases_eq}
use Rattle.std.proofs.lemmas.Option.{slice_get_within}
use Rattle.event_keys.specs.Ranks.{rank}
use Rattle.sure_groups.specs.declared.input.Input.{Input}
use Rattle.sure_groups.specs.declared.member.Member.{Member}
use Rattle.sure_groups.specs.Giving.{AreGiven, IsGiven}
use Rattle.sure_groups.specs.Inputs.{AreFalling, IsOneOf}
use Rattle.sure_groups.proofs.Falling.{in_either, in_left, in_right}
use Rattle.sure_groups.proofs.Written.{get_other, get_same, set_length, some_same}

pub none_given : (olds : List Member) → AreGiven [] olds olds
none_given olds = record {
  many = refl;
  each = λ j new there. (
    new,
    there,
    record {
      state = refl;
      memo = refl;
      order = λ falls. falls;
      kept = λ y is. is;
      only = λ y is. inl is;
      there = λ y is. absurd is;
    },
  );
}

-- one more is put
pub record IsPut (x : Input) (old new : Member) : Type 0 where
  pub state : new.state ≡ old.state
  pub memo : new.memo ≡ old.memo
  pub order : AreFalling old.pending.items → AreFalling new.pending.items
  pub kept : (y : Input) → IsOneOf old.pending.items y → IsOneOf new.pending.items y
  pub only : (y : Input) → IsOneOf new.pending.items y → IsOneOf old.pending.items y ⊎ (y ≡ x)
  pub there : (y : Input) × IsOneOf new.pending.items y × (rank y.key ≡ rank x.key)

module _ (done : List Input) (x : Input) where
  put_there : (j : ℕ) (old mid new : Member) → x.to ≡ j → IsGiven j done old mid → IsPut x mid new → IsGiven j (done ++ x ∷ []) old new
  put_there j old mid new its given put = record {
    state = put.state ∙ given.state;
    memo = put.memo ∙ given.memo;
    order = λ falls. put.order (given.order falls);
    kept = λ y is. put.kept y (given.kept y is);
    only = λ y is. first y (put.only y is);
    there = λ y is to. brought y (in_either done (x ∷ []) y is) to;
  }
    where
      second : (y : Input) → IsOneOf old.pending.items y ⊎ (IsOneOf done y × (y.to ≡ j)) → IsOneOf old.pending.items y ⊎ (IsOneOf (done ++ x ∷ []) y × (y.to ≡ j))
      second y (inl was) = inl was
      second y (inr (is, to)) = inr (in_left done (x ∷ []) y is, to)

      first : (y : Input) → IsOneOf mid.pending.items y ⊎ (y ≡ x) → IsOneOf old.pending.items y ⊎ (IsOneOf (done ++ x ∷ []) y × (y.to ≡ j))
      first y (inl is) = second y (given.only y is)
      first y (inr e) = inr (in_right done (x ∷ []) y (inl e), ap (λ (i : Input). i.to) e ∙ its)

      brought : (y : Input) → IsOneOf done y ⊎ IsOneOf (x ∷ []) y → y.to ≡ j → (z : Input) × IsOneOf new.pending.items z × (rank z.key ≡ rank y.key)
      brought y (inl is) to = let was = given.there y is to in (was.0, put.kept was.0 was.1, was.2)
      brought y (inr (inl e)) to = (put.there.0, put.there.1, put.there.2 ∙ sym (ap (λ (i : Input). rank i.key) e))
      brought y (inr (inr none)) to = absurd none

  kept_there : (j : ℕ) (old new : Member) → (x.to ≡ j → ⊥) → IsGiven j done old new → IsGiven j (done ++ x ∷ []) old new
  kept_there j old new apart given = record {
    state = given.state;
    memo = given.memo;
    order = given.order;
    kept = given.kept;
    only = λ y is. first y (given.only y is);
    there = λ y is to. brought y (in_either done (x ∷ []) y is) to;
  }
    where
      first : (y : Input) → IsOneOf old.pending.items y ⊎ (IsOneOf done y × (y.to ≡ j)) → IsOneOf old.pending.items y ⊎ (IsOneOf (done ++ x ∷ []) y × (y.to ≡ j))
      first y (inl was) = inl was
      first y (inr (is, to)) = inr (in_left done (x ∷ []) y is, to)

      brought : (y : Input) → IsOneOf done y ⊎ IsOneOf (x ∷ []) y → y.to ≡ j → (z : Input) × IsOneOf new.pending.items z × (rank z.key ≡ rank y.key)
      brought y (inl is) to = given.there y is to
      brought y (inr (inl e)) to = absurd (apart (sym (ap (λ (i : Input). i.to) e) ∙ to))
      brought y (inr (inr none)) to = absurd none

  pub one_given : (olds mids : List Member) (mid new : Member) → AreGiven done olds mids → slice_get mids x.to ≡ Some mid → IsPut x mid new → AreGiven (done ++ x ∷ []) olds (slice_set mids x.to new)
  one_given olds mids mid new given there put = record {
    many = set_length mids x.to new ∙ given.many;
    each = λ j m is. go j m is (cases_eq j x.to);
  }
    where
      go : (j : ℕ) (m : Member) → slice_get (slice_set mids x.to new) j ≡ Some m → (j ≡ x.to) ⊎ (j ≡ x.to → ⊥) → (old : Member) × (slice_get olds j ≡ Some old) × IsGiven j (done ++ x ∷ []) old m
      go j m is (inl e) =
          let within = slice_get_within mids x.to mid there in
          let same : m ≡ new = some_same m new (sym is ∙ ap (slice_get (slice_set mids x.to new)) e ∙ get_same mids x.to new within) in
          let was = given.each j mid (ap (slice_get mids) e ∙ there) in
          (was.0, was.1, subst (IsGiven j (done ++ x ∷ []) was.0) (sym same) (put_there j was.0 mid new (sym e) was.2 put))
      go j m is (inr ne) =
          let was = given.each j m (sym (get_other mids x.to new j ne) ∙ is) in
          (was.0, was.1, kept_there j was.0 m (λ e. ne (sym e)) was.2)

-- the next one is for a component
pub is_within : (inputs : List Input) (olds mids : List Member) (done items rest : List Input) (x : Input) → ((y : Input) → IsOneOf inputs y → y.to < length olds) → done ++ items ≡ inputs → items ≡ x ∷ rest → AreGiven done olds mids → x.to < length mids
is_within inputs olds mids done items rest x all whole steps given =
    let low = all x (subst (λ l. IsOneOf l x) (ap (λ l. done ++ l) (sym steps) ∙ whole) (in_right done (x ∷ rest) x (inl refl))) in
    let many = given.many in
    omega (arith, low, many)
