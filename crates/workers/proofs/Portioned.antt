-- A chunk of an exchange is a portion.
use Rattle.std.proofs.Common.{◌≡◌, ◌+◌, ◌≤◌, List, [], length, ap, sym, subst₂, ◌∙◌, ℕ, arith}
use Rattle.std.specs.List.{list_all}
use Rattle.terms.specs.Named.{Named}
use Rattle.virtual_time.specs.Groups.Meetings.{IsChunk}
use Rattle.virtual_time.specs.Reference.{Turn}
use Rattle.task_seed.specs.Machines.{machine, end_rank}
use Rattle.task_seed.specs.Turning.{System}
use Rattle.task_seed.specs.Taken.{turns_of}
use Rattle.group_exchange.specs.Chunks.{IsGiven}
use Rattle.group_exchange.specs.ExchangeView.{ExchangeView, IsValidExchange, exchange_of, group_at, is_ended}
use Rattle.workers.specs.declared.portions.Cut.{Cut}
use Rattle.workers.specs.declared.portions.Portion.{Portion}
use Rattle.workers.specs.Portions.{IsCutOf, IsPortion}
use Rattle.workers.proofs.Ended.{all_ended}
use Rattle.lone_group.proofs.Counting.{length_turns}

pub cut_off : {P : Type 0} (s : System) (e new : ExchangeView P) → IsValidExchange s e → (cut : Cut) (turns : List (Turn Named)) → cut.first ≡ e.given → cut.given ≡ new.given → cut.is_last ≡ list_all is_ended e.stubs
    → (b : ℕ) → IsChunk (machine s) (group_at e.groups) (length s.composition) (exchange_of (machine s) e) b (exchange_of (machine s) new) turns → IsGiven (machine s) cut.first b turns → IsCutOf s cut turns
cut_off s e new shared cut turns first given last b chunk next =
    let grew : new.given ≡ e.given + length turns = ap (λ x. x.given) chunk.rest in
    let low : b ≤ end_rank = chunk.end in
    record {
      bound = b;
      within = low;
      next = next;
      count = omega (arith, given, grew, first);
      last = λ yes.
          let high = chunk.most end_rank (omega arith) (λ j under. all_ended s e.stubs e.groups (length s.composition) shared.partition (sym last ∙ yes) j under) in
          omega (arith, high, low);
    }

-- what was cut off, put together
pub portioned : (s : System) (cut : Cut) (turns : List (Turn Named)) (p : Portion) → IsCutOf s cut turns → p.turns.before ≡ [] → turns_of p.turns.after ≡ turns → p.first ≡ cut.first → p.given ≡ cut.given → p.is_last ≡ cut.is_last → IsPortion s p
portioned s cut turns p is front same first given last =
    let long = length_turns p.turns.after in
    let count = is.count in
    let many = ap length same in
    record {
      front = front;
      bound = is.bound;
      within = is.within;
      next = subst₂ (λ n l. IsGiven (machine s) n is.bound l) (sym first) (sym same) is.next;
      count = omega (arith, given, first, count, long, many);
      last = λ yes. is.last (sym last ∙ yes);
    }
