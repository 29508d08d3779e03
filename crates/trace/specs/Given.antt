-- What a write says of a list of turns, where the iterator that it takes gives that list.
use Rattle.std.specs.Prelude.{◌≡◌, ℕ, ◌≤◌, ◌<◌, ◌+◌, ◌^◌, List, [], ◌∷◌, ◌++◌, length, take, Option, Result, Ok, Err, IfOk, OnOk, IfErr}
use Rattle.std.proofs.Common.{arith, length-append, append-nil, subst, sym, ap, ◌∙◌, refl}
use Rattle.std.specs.Borrow.{Bor}
use Rattle.std.specs.Iterator.{AlwaysYields, Yields, Drains}
use Rattle.std.specs.Io.KnownBytes.{Appends}
use Rattle.std.proofs.KnownBytes.{Appends-trans, Appends-nil}
use lib.Seq.{take-append-add}
use Rattle.std.proofs.lemmas.Grind.{flat_map-append}
use Rattle.std.proofs.lemmas.Iterator.{YieldsList}
use Rattle.std.proofs.lemmas.List.{take-append-le}
use Rattle.event_keys.specs.declared.outcome.Turned.{Turned}
use Rattle.plans.specs.declared.plan.Plan.{Plan}
use Rattle.trace.specs.declared.counted.Counted.{Counted}
use Rattle.trace.specs.declared.fault.WriteFault.{WriteFault}
use Rattle.trace.specs.declared.lines.Lines.{Lines}
use Rattle.trace.specs.Counts.{writer_of, one_more}
use Rattle.trace.specs.Puts.{Puts, Stops}
use Rattle.trace.specs.Lines.{text_of, shown_text, turns_at}

module _ {W : Type 0} {known : W → Option (List ℕ)} where
  -- nothing was written yet
  pub puts_nothing : (a : Counted W) (m : ℕ) → m < 2 ^ 64 → Puts known a a m m []
  puts_nothing a m low = record { bytes = Appends-nil (known (writer_of a)); failures = refl; count = omega (arith, low) }

  -- one text, and then another
  pub then_puts : {a b c : Counted W} {m n o : ℕ} {s t : List ℕ} → Puts known a b m n s → Puts known b c n o t → Puts known a c m o (s ++ t)
  then_puts {a} {b} {c} {m} {n} {o} {s} {t} p q =
      record {
        bytes = Appends-trans (known (writer_of a)) (known (writer_of b)) (known (writer_of c)) s t p.bytes q.bytes;
        failures = q.failures ∙ p.failures;
        count = simp length-append (omega arith);
      }

  -- one text, and then the write failed in another
  pub then_stops : {a b c : Counted W} {m n : ℕ} {s t : List ℕ} {e : WriteFault} → Puts known a b m n s → Stops known b c n t e → Stops known a c m (s ++ t) e
  then_stops {a} {b} {c} {m} {n} {s} {t} {e} p q =
      let old = known (writer_of a) in
      let new = known (writer_of c) in
      let joined = Appends-trans old (known (writer_of b)) new s (take q.part t) p.bytes q.bytes in
      record {
        part = length s + q.part;
        short = simp length-append (omega arith);
        bytes = subst (Appends old new) (sym (take-append-add s t q.part)) joined;
        failures = q.failures ∙ ap one_more p.failures;
        count = omega arith;
      }

  -- the write failed in a text that is the first part of another
  pub stops : {a b : Counted W} {m : ℕ} {s : List ℕ} {e : WriteFault} (t : List ℕ) → Stops known a b m s e → Stops known a b m (s ++ t) e
  stops {a} {b} {m} {s} {e} t p =
      let short = p.short in
      let low : p.part ≤ length s = omega arith in
      record {
        part = p.part;
        short = simp length-append (omega arith);
        bytes = subst (Appends (known (writer_of a)) (known (writer_of b))) (sym (take-append-le p.part s t low)) p.bytes;
        failures = p.failures;
        count = p.count;
      }

module _ {S : Type 0} (steps : S → Option (Bor Turned) → S → Type 0) where
  -- what calls have given is the front of what always comes
  given_first : (s : S) (given : List (Bor Turned)) (t : S) (turns : List Turned) → Yields steps s given t → AlwaysYields steps (λ turn. turn.now) s turns
      → (rest : List Turned) × (turns ≡ turns_at given ++ rest) × AlwaysYields steps (λ turn. turn.now) t rest
  given_first s [] t turns y always = (turns, refl, subst (λ (u : S). AlwaysYields steps (λ turn. turn.now) u turns) y always)
  given_first s (x ∷ given) t [] y always = absurd (always x y.0 y.1)
  given_first s (x ∷ given) t (turn ∷ turns) y always =
      let here = always.1 x y.0 y.1 in
      let later = given_first y.0 given t turns y.2 here.1 in
      (later.0, (λ i. sym here.0 i ∷ later.1 i), later.2)

  -- all that was given is what always comes
  pub all_given : (s : S) (given : List (Bor Turned)) (turns : List Turned) → Drains steps s given → AlwaysYields steps (λ turn. turn.now) s turns → turns_at given ≡ turns
  all_given s given turns drained always = go front.0 front.1 front.2 where
    front : (rest : List Turned) × (turns ≡ turns_at given ++ rest) × AlwaysYields steps (λ turn. turn.now) drained.1.0 rest
    front = given_first s given drained.1.0 turns drained.1.1 always

    go : (rest : List Turned) → turns ≡ turns_at given ++ rest → AlwaysYields steps (λ turn. turn.now) drained.1.0 rest → turns_at given ≡ turns
    go [] split later = sym (split ∙ append-nil (turns_at given))
    go (x ∷ rest) split later = absurd (later.0 drained.0 drained.1.2)

module _ {W R S : Type 0} {steps : S → Option (Bor Turned) → S → Type 0} {s : S} {turns : List Turned} (known : W → Option (List ℕ)) (old new : Counted W) (plan : Plan) (lines : Lines) (always : YieldsList steps (λ turn. turn.now) s turns) where
  -- the text of what was given is the text of what always comes
  pub all_written : (result : Result R WriteFault) → OnOk result ((given : List (Bor Turned)) × Drains steps s given × Appends (known (writer_of old)) (known (writer_of new)) (text_of plan lines (turns_at given)))
      → OnOk result (Appends (known (writer_of old)) (known (writer_of new)) (text_of plan lines turns))
  all_written (Ok x) h = subst (λ (l : List Turned). Appends (known (writer_of old)) (known (writer_of new)) (text_of plan lines l)) (all_given steps s h.0 turns h.1 always.runs) h.2
  all_written (Err fault) h = tt

  -- and a write that failed in the one failed in the other
  pub all_stopped : (m : ℕ) (result : Result R WriteFault)
      → IfErr result (λ fault. (given : List (Bor Turned)) × (rest : S) × Yields steps s given rest × Stops known old new m (text_of plan lines (turns_at given)) fault)
      → IfErr result (λ fault. Stops known old new m (text_of plan lines turns) fault)
  all_stopped m (Ok x) h = tt
  all_stopped m (Err fault) h =
      let front = given_first steps s h.0 h.1 turns h.2 always.runs in
      let text : text_of plan lines (turns_at h.0) ++ text_of plan lines front.0 ≡ text_of plan lines turns = sym (flat_map-append (shown_text plan lines) (turns_at h.0) front.0) ∙ ap (text_of plan lines) (sym front.1) in
      subst (λ l. Stops known old new m l fault) text (stops (text_of plan lines front.0) h.3)

module _ {W S : Type 0} {steps : S → Option (Bor Turned) → S → Type 0} {s : S} {turns : List Turned} (known : W → Option (List ℕ)) (old new : Counted W) (plan : Plan) (lines : Lines) (always : YieldsList steps (λ turn. turn.now) s turns) where
  -- the text of what was given is the text of what always comes, also by the number of bytes from then on
  pub all_put : (m : ℕ) (result : Result ℕ WriteFault) → IfOk result (λ after. (given : List (Bor Turned)) × Drains steps s given × Puts known old new m after (text_of plan lines (turns_at given)))
      → IfOk result (λ after. Puts known old new m after (text_of plan lines turns))
  all_put m (Ok after) h = subst (λ (l : List Turned). Puts known old new m after (text_of plan lines l)) (all_given steps s h.0 turns h.1 always.runs) h.2
  all_put m (Err fault) h = tt
