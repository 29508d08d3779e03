-- The states of the components where a turn that is due was taken.
use Rattle.std.proofs.Common.{◌≡◌, ℕ, ◌≤◌, Option, None, Some, List, [], ◌∷◌, length, map, refl, ap, sym, subst, ◌∙◌, arith}
use Rattle.std.specs.Prelude.{IfSome, option_map, slice_get, slice_index_or}
use Rattle.std.specs.List.{range_with_len}
use Rattle.std.proofs.lemmas.List.FromFn.{length-map-range_with_len}
use Rattle.std.proofs.lemmas.Option.{slice_get-get_or}
use Rattle.terms.specs.Datum.{Datum}
use Rattle.terms.specs.Named.{Named}
use Rattle.event_keys.specs.declared.key.Key.{Key}
use Rattle.event_keys.specs.Ranked.{rank_owner}
use Rattle.event_keys.specs.Ranks.{rank, owner_of}
use Rattle.undo_records.specs.States.{States}
use Rattle.io_automata.specs.Steps.{start_of}
use Rattle.virtual_time.specs.Reference.{Turn, Point, IsNext, IsReference, IsRun, after, joint, point, reference_below}
use Rattle.task_seed.specs.Turning.{System}
use Rattle.task_seed.specs.Machines.{machine, turn_outcome, end_rank}
use Rattle.reference.specs.declared.agenda.Due.{Due}
use Rattle.reference.specs.Agendas.{AreBefore, HasCome, IsDue}
use Rattle.reference.specs.Queues.{rank_or_end}
use Rattle.reference.specs.Taking.{joining, plain}
use Rattle.reference.proofs.Stepping.{at_range, turn_at, turn_is}

-- the start states are those before the first turn
pub first_before : (s : System) (next : Option Key) (states : List States) → reference_below (machine s) (rank_or_end next) ≡ []
    → states ≡ map (λ i. plain (start_of s.composition i)) (range_with_len 0 (length s.composition)) → AreBefore s next states
first_before s next states none starts = record {
  many = ap length starts ∙ length-map-range_with_len (λ i. plain (start_of s.composition i)) 0 (length s.composition);
  currents = λ j x e. at_range (λ i. plain (start_of s.composition i)) (length s.composition) j x (ap (λ l. slice_get l j) (sym starts) ∙ e) ∙ ap (λ ts. plain ((after (machine s) ts).state j)) (sym none);
}

module _ (s : System) (exists : (b : ℕ) → b ≤ end_rank → IsReference (machine s) b (reference_below (machine s) b))
    (due : Due) (next : Option Key) (is : IsDue s due next) (states : List States) (before : AreBefore s (Some due.key) states)
    (found : Option Named) (came : IfSome (slice_get states due.key.component) (λ state. found ≡ turn_outcome s due.key.component due.key.number state.current)) where
  abbrev p : Point (List Datum)
  p = point (machine s) (rank due.key)

  owner : owner_of (rank due.key) ≡ due.key.component
  owner =
      let component = is.small.component in
      let number = is.small.number in
      rank_owner due.key (omega (arith, component)) (omega (arith, number))

  comes_at : reference_below (machine s) (rank_or_end next) ≡ turn_at due.key is.outcome ∷ reference_below (machine s) (rank due.key)
  comes_at = is.comes ∙ ap (λ t. t ∷ reference_below (machine s) (rank due.key)) (turn_is is.outcome due.key)

  is_next : IsNext (machine s) p (turn_at due.key is.outcome)
  is_next = (subst (IsRun (machine s)) comes_at (exists (rank_or_end next) is.low).run).0

  outcome_is : is.outcome ≡ turn_outcome s due.key.component due.key.number (p.state due.key.component)
  outcome_is = is_next.its_outcome ∙ ap (λ k. turn_outcome s k (p.next k) (p.state k)) owner ∙ ap (λ n. turn_outcome s due.key.component n (p.state due.key.component)) (sym is.number)

  there : slice_get states due.key.component ≡ Some (slice_index_or states due.key.component (plain []))
  there = slice_get-get_or states due.key.component (plain []) (let w = is.within in let many = before.many in omega (arith, w, many))

  found_is : found ≡ turn_outcome s due.key.component due.key.number (p.state due.key.component)
  found_is =
      subst (λ x. IfSome x (λ (y : States). found ≡ turn_outcome s due.key.component due.key.number y.current)) there came
      ∙ ap (λ (x : States). turn_outcome s due.key.component due.key.number x.current) (before.currents due.key.component (slice_index_or states due.key.component (plain [])) there)

  same : is.outcome ≡ found
  same = outcome_is ∙ sym found_is

  pub comes : HasCome (machine s) due.key found next
  comes = subst (λ o. HasCome (machine s) due.key o next) same is.comes

  abbrev t : Turn Named
  t = turn_at due.key found

  point_is : reference_below (machine s) (rank_or_end next) ≡ t ∷ reference_below (machine s) (rank due.key)
  point_is = comes ∙ ap (λ t. t ∷ reference_below (machine s) (rank due.key)) (turn_is found due.key)

  pub before_next : (news : List States) → length news ≡ length states → ((j : ℕ) → slice_get news j ≡ option_map (joining (machine s) due.key.component found j) (slice_get states j)) → AreBefore s next news
  before_next news many each = record { many = many ∙ before.many; currents = λ j x e. go j x e (slice_get states j) refl } where
    go : (j : ℕ) (x : States) → slice_get news j ≡ Some x → (was : Option States) → slice_get states j ≡ was → x ≡ plain ((point (machine s) (rank_or_end next)).state j)
    go j x e None f = let none : Some x ≡ None = sym e ∙ each j ∙ ap (option_map (joining (machine s) due.key.component found j)) f in cc
    go j x e (Some was) f =
        let both : Some x ≡ Some (joining (machine s) due.key.component found j was) = sym e ∙ each j ∙ ap (option_map (joining (machine s) due.key.component found j)) f in
        let own : x ≡ joining (machine s) due.key.component found j was = cc in
        own ∙ ap (joining (machine s) due.key.component found j) (before.currents j was f) ∙ ap (λ k. plain (joint (machine s) k found j (p.state j))) (sym owner)
        ∙ ap (λ ts. plain ((after (machine s) ts).state j)) (sym point_is)
