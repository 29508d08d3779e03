-- A component whose base lags behind: what it does alone is a step of the world in which its base is at the bound.
use Rattle.std.proofs.Common.{◌≡◌, ℕ, ◌≤◌, ◌⊎◌, inl, inr, Bool, true, false, cond, Option, List, [], ◌∷◌, refl, ap, sym, subst, ◌∙◌, ltb}
use Rattle.std.proofs.lemmas.Bool.{cases_eq}
use Rattle.virtual_time.specs.Machine.{Lawful, Machine}
use Rattle.virtual_time.specs.Entries.{Entry, Input, Item, Own, entry_key, number, replay}
use Rattle.virtual_time.specs.Worlds.{Part, World, cut, put, with_parts}
use Rattle.virtual_time.specs.Records.{sent}
use Rattle.virtual_time.proofs.Moves.{next_own, process_from, process_input, process_own, with_done, with_plus}
use Rattle.virtual_time.proofs.Lists.{put_same, put_other}
use Rattle.virtual_time.proofs.Cuts.{below_past}
use Rattle.virtual_time.proofs.Commits.{from_past, number_split, replay_split}

module _ {S A : Type 0} (machine : Machine S A) (law : Lawful machine) (g : ℕ) where
  abbrev pub whole : World S A → World S A
  whole w = with_parts w (λ j. cut machine g j (w.part j))

  -- a new entry stays behind the cut
  pub cut_entry : (i : ℕ) (c : Part S A) (e : Entry A) (p : List (Item A)) → g ≤ entry_key e
      → cut machine g i (with_done c (e ∷ c.done) p) ≡ with_done (cut machine g i c) (e ∷ (cut machine g i c).done) p
  cut_entry i c e p l =
      λ v. record {
        base = replay machine i c.base (below_past g e c.done l v);
        first = number c.first (below_past g e c.done l v);
        done = from_past g e c.done l v;
        pending = p;
        owed = c.owed;
        plus = c.plus;
        minus = c.minus;
      }

  pub cut_put : (i : ℕ) (c d : Part S A) (parts : ℕ → Part S A) → cut machine g i c ≡ d → (j : ℕ) → cut machine g j (put i c parts j) ≡ put i d (λ l. cut machine g l (parts l)) j
  cut_put i c d parts e j = go (cases_eq j i)
    where
      go : (j ≡ i) ⊎ (j ≡ i → ⊥) → cut machine g j (put i c parts j) ≡ put i d (λ l. cut machine g l (parts l)) j
      go (inl h) = subst (λ (l : ℕ). cut machine g l (put i c parts l) ≡ put i d (λ m. cut machine g m (parts m)) l) (sym h)
          (ap (cut machine g i) (put_same i c parts) ∙ e ∙ sym (put_same i d (λ m. cut machine g m (parts m))))
      go (inr ne) = ap (cut machine g j) (put_other i c parts j ne) ∙ sym (put_other i d (λ m. cut machine g m (parts m)) j ne)

  pub whole_own : (i k : ℕ) (o : Option A) (w : World S A) → g ≤ k → whole (process_own machine i k o w) ≡ process_own machine i k o (whole w)
  whole_own i k o w l =
      λ v. record {
        part = λ j. f j (cut_put i (with_done (w.part i) (Own k o ∷ (w.part i).done) (w.part i).pending)
            (with_done (cut machine g i (w.part i)) (Own k o ∷ (cut machine g i (w.part i)).done) (w.part i).pending) w.part (cut_entry i (w.part i) (Own k o) (w.part i).pending l) j v);
        bound = w.bound;
        committed = w.committed;
      }
    where
      f : ℕ → Part S A → Part S A
      f j d = with_plus d (sent machine i k o j d.plus)

  pub whole_input : (i : ℕ) (x : Item A) (rest : List (Item A)) (w : World S A) → g ≤ x.key → whole (process_input i x rest w) ≡ process_input i x rest (whole w)
  whole_input i x rest w l =
      λ v. record {
        part = λ j. cut_put i (with_done (w.part i) (Input x ∷ (w.part i).done) rest)
            (with_done (cut machine g i (w.part i)) (Input x ∷ (cut machine g i (w.part i)).done) rest) w.part (cut_entry i (w.part i) (Input x) rest l) j v;
        bound = w.bound;
        committed = w.committed;
      }

  pub whole_next_own : (i : ℕ) (w : World S A) → g ≤ machine.key i (number (w.part i).first (w.part i).done) → whole (next_own machine i w) ≡ next_own machine i (whole w)
  whole_next_own i w l =
      rw (number_split g (w.part i).first (w.part i).done, replay_split machine law i g (w.part i).base (w.part i).done) (go (ltb (machine.key i m) machine.top))
    where
      m : ℕ
      m = number (w.part i).first (w.part i).done

      o : Option A
      o = machine.outcome i m (replay machine i (w.part i).base (w.part i).done)

      go : (b : Bool) → whole (cond b (process_own machine i (machine.key i m) o w) w) ≡ cond b (process_own machine i (machine.key i m) o (whole w)) (whole w)
      go true = whole_own i (machine.key i m) o w l
      go false = refl

  pub whole_from : (i : ℕ) (xs : List (Item A)) (w : World S A) → g ≤ machine.key i (number (w.part i).first (w.part i).done) → ((x : Item A) (ys : List (Item A)) → xs ≡ x ∷ ys → g ≤ x.key)
      → whole (process_from machine i xs w) ≡ process_from machine i xs (whole w)
  whole_from i [] w l p = whole_next_own i w l
  whole_from i (x ∷ xs) w l p =
      subst (λ (n : ℕ). whole (process_from machine i (x ∷ xs) w) ≡ cond (ltb x.key (machine.key i n)) (process_input i x xs (whole w)) (next_own machine i (whole w)))
      (sym (number_split g (w.part i).first (w.part i).done)) (go (ltb x.key (machine.key i (number (w.part i).first (w.part i).done))))
    where
      go : (b : Bool) → whole (cond b (process_input i x xs w) (next_own machine i w)) ≡ cond b (process_input i x xs (whole w)) (next_own machine i (whole w))
      go true = whole_input i x xs w (p x xs refl)
      go false = whole_next_own i w l
