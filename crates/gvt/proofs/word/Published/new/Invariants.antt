use Rattle.std.proofs.Common.{◌≡◌, ◌+◌, [], All, vec_len}
use Rattle.gvt.specs.Counts.{known}
use Rattle.gvt.specs.Seats.{knowledge}
use Rattle.gvt.proofs.word.Published.new.Given as goal

abbrev pub invariant-loop : goal.invariant-loop
invariant-loop l = record {
  count : vec_len l.places + 1 ≡ l.counter;
  room : l.places.cap ≡ l.initial.places.cap;
  all : All (λ s. (s.place.table_id ≡ l.table.shared.table_id) × (knowledge s ≡ known 0 0)) l.places.items;
  same : l.table ≡ l.initial.table;
  first : (l.first.table_id ≡ l.table.shared.table_id) × (l.first.me ≡ (known 0 0, []));
}
