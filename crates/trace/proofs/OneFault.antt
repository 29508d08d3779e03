-- A file that is read line by line has one first fault.
use Rattle.std.proofs.Common.{◌≡◌, ◌≢◌, ℕ, ◌+◌, List, [], ◌∷◌, ◌++◌, length, refl, ap, sym, subst, ◌∙◌, arith}
use Rattle.std.specs.List.{AllByRecursion}
use Rattle.task_seed.specs.Table.{lines_of}
use Rattle.trace.specs.declared.fault.TraceError.{TraceError}
use Rattle.trace.specs.declared.fault.TraceError.TheVariants as trace
use Rattle.trace.specs.FileFaults.{IsFirstAtFault, IsFileFault}

abbrev pub head_of : List (List ℕ) → List ℕ
head_of [] = []
head_of (x ∷ xs) = x

abbrev pub tail_of : List (List ℕ) → List (List ℕ)
tail_of [] = []
tail_of (x ∷ xs) = xs

module _ (P : List ℕ → Type 0) where
  holds_at : (before : List (List ℕ)) (line : List ℕ) (later texts : List (List ℕ)) → AllByRecursion P texts → texts ≡ before ++ (line ∷ later) → P line
  holds_at [] line later [] all e = absurd (omega (arith, ap length e))
  holds_at [] line later (t ∷ ts) all e = subst P (ap head_of e) all.0
  holds_at (x ∷ before) line later [] all e = absurd (omega (arith, ap length e))
  holds_at (x ∷ before) line later (t ∷ ts) all e = holds_at before line later ts all.1 (ap tail_of e)

  first_same : (before past : List (List ℕ)) (line other : List ℕ) (later rest : List (List ℕ)) → AllByRecursion P before → AllByRecursion P past → (P line → ⊥) → (P other → ⊥)
      → before ++ (line ∷ later) ≡ past ++ (other ∷ rest) → (length before ≡ length past) × (line ≡ other)
  first_same [] [] line other later rest h k f g e = (refl, ap head_of e)
  first_same [] (y ∷ past) line other later rest h k f g e = absurd (f (subst P (sym (ap head_of e)) k.0))
  first_same (x ∷ before) [] line other later rest h k f g e = absurd (g (subst P (ap head_of e) h.0))
  first_same (x ∷ before) (y ∷ past) line other later rest h k f g e =
      let more = first_same before past line other later rest h.1 k.1 f g (ap tail_of e) in
      (omega (arith, more.0), more.1)

-- lines that give items are sound, and a sound line has no fault
module _ {X : Type 0} (gives : List (List ℕ) → List X → Type 0) (Sound : List ℕ → Type 0) (all_sound : (texts : List (List ℕ)) (items : List X) → gives texts items → AllByRecursion Sound texts) where
  no_fault : (has_fault : List ℕ → Type 0) (bytes : List ℕ) (n : ℕ) (items : List X) → ((text : List ℕ) → Sound text → has_fault text → ⊥) → gives (lines_of bytes) items → IsFirstAtFault gives (λ before. has_fault) bytes n → ⊥
  no_fault has_fault bytes n items apart h k =
      apart k.line (holds_at Sound k.before k.line k.later (lines_of bytes) (all_sound (lines_of bytes) items h) k.split) k.fault

  -- the first line at fault is one line
  same_place : (fault foreign : List ℕ → Type 0) (bytes : List ℕ) (m n : ℕ) → ((text : List ℕ) → Sound text → fault text → ⊥) → ((text : List ℕ) → Sound text → foreign text → ⊥)
      → IsFirstAtFault gives (λ before. fault) bytes m → IsFirstAtFault gives (λ before. foreign) bytes n → (m ≡ n) × ((text : List ℕ) × fault text × foreign text)
  same_place fault foreign bytes m n apart distinct h k =
      let same = first_same Sound h.before k.before h.line k.line h.later k.later (all_sound h.before h.items h.sound) (all_sound k.before k.items k.sound)
      (λ p. apart h.line p h.fault) (λ p. distinct k.line p k.fault) (sym h.split ∙ k.split) in
      (sym h.counted ∙ ap (λ l. l + 1) same.0 ∙ k.counted, (k.line, subst fault same.1 h.fault, k.fault))

  module _ (bad unknown : List ℕ → Type 0) (no_bad : (text : List ℕ) → Sound text → bad text → ⊥) (no_unknown : (text : List ℕ) → Sound text → unknown text → ⊥) (apart : (text : List ℕ) → bad text → unknown text → ⊥) where
    pub no_file_fault : (bytes : List ℕ) (items : List X) (error : TraceError) → gives (lines_of bytes) items → IsFileFault gives bad unknown bytes error → error ≡ trace.NoMemory
    no_file_fault bytes items trace.NoMemory h k = refl
    no_file_fault bytes items (trace.BadLine n) h k = absurd (no_fault bad bytes n items no_bad h k)
    no_file_fault bytes items (trace.UnknownAction n) h k = absurd (no_fault unknown bytes n items no_unknown h k)
    no_file_fault bytes items (trace.NotInOrder n) h k = absurd k

    pub file_fault_same : (bytes : List ℕ) (error other : TraceError) → error ≢ trace.NoMemory → other ≢ trace.NoMemory → IsFileFault gives bad unknown bytes error → IsFileFault gives bad unknown bytes other → error ≡ other
    file_fault_same bytes trace.NoMemory other f g h k = absurd (f refl)
    file_fault_same bytes error trace.NoMemory f g h k = absurd (g refl)
    file_fault_same bytes (trace.NotInOrder m) other f g h k = absurd h
    file_fault_same bytes error (trace.NotInOrder n) f g h k = absurd k
    file_fault_same bytes (trace.BadLine m) (trace.BadLine n) f g h k = ap trace.BadLine (same_place bad bad bytes m n no_bad no_bad h k).0
    file_fault_same bytes (trace.BadLine m) (trace.UnknownAction n) f g h k =
        let place = (same_place bad unknown bytes m n no_bad no_unknown h k).1 in absurd (apart place.0 place.1 place.2)
    file_fault_same bytes (trace.UnknownAction m) (trace.BadLine n) f g h k =
        let place = (same_place bad unknown bytes n m no_bad no_unknown k h).1 in absurd (apart place.0 place.1 place.2)
    file_fault_same bytes (trace.UnknownAction m) (trace.UnknownAction n) f g h k = ap trace.UnknownAction (same_place unknown unknown bytes m n no_unknown no_unknown h k).0
