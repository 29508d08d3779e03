-- Turns that are drawn one after another.
use Rattle.std.proofs.Common.{◌≡◌, Option, Some, List, [], ◌∷◌, ◌++◌, refl, sym, subst}
use Rattle.event_keys.specs.declared.key.Key.{Key}
use Rattle.task_seed.specs.Turning.{System}
use Rattle.reference.specs.declared.agenda.Due.{Due}
use Rattle.reference.specs.Agendas.{IsDue}
use Rattle.lone_group.specs.Drawn.{AreNext, first_of}

pub first_more : (ds : List Due) (d : Due) (old new : Option Key) → old ≡ Some d.key → first_of (ds ++ d ∷ []) new ≡ first_of ds old
first_more [] d old new e = sym e
first_more (x ∷ xs) d old new e = refl

-- one more behind them
pub next_more : (s : System) (ds : List Due) (d : Due) (old new : Option Key) → old ≡ Some d.key → IsDue s d new → AreNext s ds old → AreNext s (ds ++ d ∷ []) new
next_more s [] d old new e is all = (is, tt)
next_more s (x ∷ xs) d old new e is all = (subst (IsDue s x) (sym (first_more xs d old new e)) all.0, next_more s xs d old new e is all.1)
