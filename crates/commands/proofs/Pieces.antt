-- Pieces of a text, written one after another.
use Rattle.std.proofs.Common.{◌≡◌, inl, inr, ℕ, ◌+◌, ◌≤◌, List, ◌++◌, length, take, append_assoc, arith, length-append, ap, subst, sym, ◌∙◌}
use Rattle.std.specs.Prelude.{Option, Result, Ok, Err, OnOk, OnErr, IfErr, ◌∷◌, flat_map}
use Rattle.std.specs.Io.KnownBytes.{Appends}
use Rattle.std.proofs.KnownBytes.{Appends-trans}
use Rattle.std.proofs.lemmas.List.{take-append-le}
use lib.Seq.{take-append-add}
use Rattle.trace.specs.declared.counted.Counted.{Counted}
use Rattle.trace.specs.declared.fault.WriteFault.{WriteFault}
use Rattle.trace.specs.Counts.{writer_of, one_more}
use Rattle.trace.specs.Puts.{written_of}
use Rattle.trace.specs.Went.{IsStopped, IsWritten}
use Rattle.commands.specs.Written.{IsCut, IsSaid, IsWrittenFront}

module _ {W : Type 0} {known : W → Option (List ℕ)} where
  -- one piece, and then another
  pub then_written : {a b c : Counted W} {s t : List ℕ} → IsWritten known a b s → IsWritten known b c t → IsWritten known a c (s ++ t)
  then_written {a} {b} {c} {s} {t} p q =
      record {
        bytes = Appends-trans (known (writer_of a)) (known (writer_of b)) (known (writer_of c)) s t p.bytes q.bytes;
        failures = q.failures ∙ p.failures;
      }

  -- one piece, and then a write failed in another
  pub then_cut : {a b c : Counted W} {s t : List ℕ} → IsWritten known a b s → IsCut known b c t → IsCut known a c (s ++ t)
  then_cut {a} {b} {c} {s} {t} p q =
      let old = known (writer_of a) in
      let new = known (writer_of c) in
      let joined = Appends-trans old (known (writer_of b)) new s (take q.written t) p.bytes q.stopped.bytes in
      let short = q.stopped.short in
      record {
        written = length s + q.written;
        stopped =
            record {
              short = simp length-append (omega arith);
              bytes = subst (Appends old new) (sym (take-append-add s t q.written)) joined;
              failures = q.stopped.failures ∙ ap one_more p.failures;
            };
      }

  -- a write failed in the first piece
  pub cut_before : {a b : Counted W} {s : List ℕ} (t : List ℕ) → IsCut known a b s → IsCut known a b (s ++ t)
  cut_before {a} {b} {s} t p =
      let short = p.stopped.short in
      let low : p.written ≤ length s = omega arith in
      record {
        written = p.written;
        stopped =
            record {
              short = simp length-append (omega arith);
              bytes = subst (Appends (known (writer_of a)) (known (writer_of b))) (sym (take-append-le p.written s t low)) p.stopped.bytes;
              failures = p.stopped.failures;
            };
      }

  pub is_cut : {a b : Counted W} {s : List ℕ} {n : ℕ} → IsStopped known a b s n → IsCut known a b s
  is_cut {a} {b} {s} {n} h = record { written = n; stopped = h }

  -- the same of answers
  pub on_written : {a b : Counted W} {s : List ℕ} {T : Type 0} (c : Counted W) (t : List ℕ) (r : Result T WriteFault) → IsWritten known a b s → OnOk r (IsWritten known b c t) → OnOk r (IsWritten known a c (s ++ t))
  on_written c t (Ok x) p q = then_written p q
  on_written c t (Err e) p q = tt

  pub on_cut : {a b : Counted W} {s : List ℕ} {T : Type 0} (c : Counted W) (t : List ℕ) (r : Result T WriteFault) → IsWritten known a b s → OnErr r (IsCut known b c t) → OnErr r (IsCut known a c (s ++ t))
  on_cut c t (Ok x) p q = tt
  on_cut c t (Err e) p q = then_cut p q

module _ {W : Type 0} (known : W → Option (List ℕ)) (old new : Counted W) (text : List ℕ) {T : Type 0} where
  pub on_stopped : (r : Result T WriteFault) → IfErr r (λ fault. IsStopped known old new text (written_of fault)) → OnErr r (IsCut known old new text)
  on_stopped (Ok x) stopped = tt
  on_stopped (Err e) stopped = is_cut stopped

  -- a text that was written, or not to its end, was said
  pub said_by : (r : Result T WriteFault) → OnOk r (IsWritten known old new text) → OnErr r (IsCut known old new text) → IsSaid known old new text
  said_by (Ok x) written cut = inl written
  said_by (Err e) written cut = inr cut

-- what is left begins with the line of the first item that is left
line_next : {X : Type 0} (line : X → List ℕ) (text front : List ℕ) (left later : List X) (x : X) → left ≡ x ∷ later → text ≡ front ++ flat_map line left → text ≡ front ++ (line x ++ flat_map line later)
line_next {X} line text front left later x split whole = subst (λ (l : List X). text ≡ front ++ flat_map line l) split whole

-- lines, one for each item of a list
module _ {W : Type 0} {known : W → Option (List ℕ)} {X : Type 0} (line : X → List ℕ) where
  -- one line more went out
  pub line_written : {a b c : Counted W} {text : List ℕ} (left later : List X) (x : X) → left ≡ x ∷ later → IsWrittenFront known a b text (flat_map line left) → IsWritten known b c (line x) → IsWrittenFront known a c text (flat_map line later)
  line_written {a} {b} {c} {text} left later x split before went = record {
    front = before.front ++ line x;
    went = then_written before.went went;
    whole = line_next line text before.front left later x split before.whole ∙ sym (append_assoc before.front (line x) (flat_map line later));
  }

  -- a write failed in a line
  pub line_cut : {a b c : Counted W} {text : List ℕ} (left later : List X) (x : X) → left ≡ x ∷ later → IsWrittenFront known a b text (flat_map line left) → IsCut known b c (line x) → IsCut known a c text
  line_cut {a} {b} {c} {text} left later x split before cut = subst (λ (l : List ℕ). IsCut known a c l) (sym (line_next line text before.front left later x split before.whole)) (then_cut before.went (cut_before (flat_map line later) cut))

-- five pieces, in two groups
pub grouped : (a b c d e : List ℕ) → (a ++ b) ++ ((c ++ d) ++ e) ≡ (((a ++ b) ++ c) ++ d) ++ e
grouped a b c d e = simp append_assoc

pub ruleset pieces = (then_written, then_cut, cut_before, is_cut)
