-- A world that steps reach, and one step more.
use Rattle.std.proofs.Common.{◌≡◌, ℕ, List, [], ◌∷◌, ◌++◌, refl, subst, subst₂, sym}
use Rattle.virtual_time.specs.Machine.{Machine}
use Rattle.virtual_time.specs.Replies.{Answers, IsReached, Reply, Runs}
use Rattle.virtual_time.specs.Worlds.{Step, World, start_world}

module _ {S A : Type 0} (machine : Machine S A) (count : ℕ) where
  -- steps after steps
  pub runs_append : (ss ts : List (Step A)) (rs qs : List Reply) (w u v : World S A) → Runs machine count w ss rs u → Runs machine count u ts qs v → Runs machine count w (ss ++ ts) (rs ++ qs) v
  runs_append [] ts [] qs w u v first second = subst (λ x. Runs machine count x ts qs v) first second
  runs_append [] ts (r ∷ rs) qs w u v first second = absurd first
  runs_append (s ∷ ss) ts [] qs w u v first second = absurd first
  runs_append (s ∷ ss) ts (r ∷ rs) qs w u v first second = (first.0, first.1, runs_append ss ts rs qs first.0 u v first.2 second)

  pub runs_one : (s : Step A) (r : Reply) (w v : World S A) → Answers machine count w s r v → Runs machine count w (s ∷ []) (r ∷ []) v
  runs_one s r w v answers = (v, answers, refl)

  -- what a reached world's steps lead to is reached
  pub reached_runs : (ss : List (Step A)) (rs : List Reply) (w v : World S A) → IsReached machine count w → Runs machine count w ss rs v → IsReached machine count v
  reached_runs ss rs w v reached runs = record {
    steps = reached.steps ++ ss;
    replies = reached.replies ++ rs;
    run = runs_append reached.steps ss reached.replies rs (start_world machine) w v reached.run runs;
  }

  pub reached_step : (s : Step A) (r : Reply) (w v : World S A) → IsReached machine count w → Answers machine count w s r v → IsReached machine count v
  reached_step s r w v reached answers = reached_runs (s ∷ []) (r ∷ []) w v reached (runs_one s r w v answers)

  -- one step more at the end
  pub runs_push : (ss ts : List (Step A)) (rs qs : List Reply) (s : Step A) (r : Reply) (w u v : World S A) → Runs machine count w ss rs u → Answers machine count u s r v → ts ≡ ss ++ s ∷ [] → qs ≡ rs ++ r ∷ [] → Runs machine count w ts qs v
  runs_push ss ts rs qs s r w u v first last steps replies = subst₂ (λ x y. Runs machine count w x y v) (sym steps) (sym replies) (runs_append ss (s ∷ []) rs (r ∷ []) w u v first (runs_one s r u v last))
