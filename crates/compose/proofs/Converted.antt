-- Automata that are converted one after the other.
use Rattle.std.proofs.Common.{◌≡◌, ◌+◌, Bool, if◌then◌else◌, Some, List, [], ◌∷◌, ◌++◌, map, length, length-append, ap, subst, ◌∙◌, arith}
use Rattle.std.proofs.lemmas.List.Elements.{All-head, All-tail}
use Rattle.std.specs.List.{All}
use Rattle.io_automata.specs.Automata.{Instance, absent, with_formals}
use Rattle.io_automata.specs.declared.automaton.Automaton.{Automaton}
use Rattle.ioa_trees.specs.AutomatonRules.{MeantAutomaton}
use Rattle.ioa_trees.specs.Trees.{Bytes}
use Rattle.compose.specs.Instances.{built}
use Rattle.compose.specs.Tables.{converted, mark_at}
use Rattle.compose.proofs.Grown.{put}

pub put_one : {A : Type 0} (g : A → MeantAutomaton) (names : List Bytes) (marks : List Bool) (found new : List Automaton) (y : Automaton) (x : A) (before rest : List A) (all : List Instance)
    → new ≡ found ++ y ∷ [] → with_formals [] y ≡ (if mark_at marks (length found) then built names [] (Some (g x)) else absent) → before ≡ x ∷ rest
    → map (with_formals []) found ++ converted names marks (length found) (map g before) ≡ all → map (with_formals []) new ++ converted names marks (length new) (map g rest) ≡ all
put_one g names marks found new y x before rest all pushed is split whole =
    let one = ap length pushed ∙ length-append found (y ∷ []) in
    let longer : length new ≡ length found + 1 = omega (arith, one) in
    ap (λ n. map (with_formals []) new ++ converted names marks n (map g rest)) longer
    ∙ put (with_formals []) found new y _ (converted names marks (length found) (map g before)) (converted names marks (length found + 1) (map g rest)) all pushed is (ap (λ l. converted names marks (length found) (map g l)) split) whole

-- what holds of all that is left holds of the next, and of the others
pub next_of : {A B : Type 0} (P : B → Type 0) (g : A → B) (before rest : List A) (x : A) → before ≡ x ∷ rest → All P (map g before) → P (g x)
next_of P g before rest x split all = All-head P (g x) (map g rest) (subst (λ l. All P (map g l)) split all)

pub others_of : {A B : Type 0} (P : B → Type 0) (g : A → B) (before rest : List A) (x : A) → before ≡ x ∷ rest → All P (map g before) → All P (map g rest)
others_of P g before rest x split all = All-tail P (g x) (map g rest) (subst (λ l. All P (map g l)) split all)
