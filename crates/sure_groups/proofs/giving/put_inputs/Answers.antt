use Rattle.std.proofs.Common.{rules, ◌≡◌, ◌++◌, ◌∷◌, Some, [], ap, arith, length, refl, slice_set, subst, sym, ◌∙◌}
use Rattle.std.specs.Prelude.{slice_get}
use Rattle.std.specs.Vec.Iter.{into_iter_items}
use Rattle.std.proofs.lemmas.Option.{slice_get_read}
use Rattle.sure_groups.specs.Giving.{AreGiven}
use Rattle.sure_groups.proofs.Given.{IsPut, is_within, none_given, one_given}
use Rattle.sure_groups.proofs.Written.{behind}
use Rattle.sure_groups.proofs.giving.put_inputs.Goals as goal

pub loop-input-init : goal.loop-input-init
loop-input-init c = record {
  can = tt;
  finite = tt;
  left = search rules;
  given = ([], refl, none_given c.args.members.now.items);
}

pub index_mut-requires : goal.index_mut-requires
index_mut-requires c =
    let at = c.loop-input in
    let x = c.in-Some.input in
    let whole = at.invariant.given.1 ∙ c.into_iter-input-iterator.ensures.into_iter_gives.0 in
    let within = is_within c.args.inputs.items c.args.members.now.items at.members.items at.invariant.given.0 (into_iter_items at.input-iterator) (into_iter_items c.next.new.self) x c.requires whole c.in-Some.ensures.steps.0 at.invariant.given.2 in
    omega (arith, within, c.from-to.ensures, at.members.ok.0)

pub loop-input-preserved : goal.loop-input-preserved
loop-input-preserved c =
    let at = c.loop-input in
    let x = c.in-Some.input in
    let mids = at.members.items in
    let mid = c.index_mut.result.now in
    let rest = into_iter_items c.next.new.self in
    let done = at.invariant.given.0 in
    let steps : into_iter_items at.input-iterator ≡ x ∷ rest = c.in-Some.ensures.steps.0 in
    let whole = at.invariant.given.1 ∙ c.into_iter-input-iterator.ensures.into_iter_gives.0 in
    let within = is_within c.args.inputs.items c.args.members.now.items mids done (into_iter_items at.input-iterator) rest x c.requires whole steps at.invariant.given.2 in
    let there : slice_get mids c.from-to.result ≡ Some mid = slice_get_read mids (length mids) c.from-to.result mid refl (omega (arith, within, c.from-to.ensures)) c.index_mut.ensures.value in
    let put : IsPut x mid (record { state = mid.state; memo = mid.memo; pending = c.put_input.new.pending }) = record {
      state = refl;
      memo = refl;
      order = c.in_ok-put_input.ensures.order;
      kept = c.in_ok-put_input.ensures.kept;
      only = c.in_ok-put_input.ensures.only;
      there = c.in_ok-put_input.ensures.there;
    } in
    let short = ap length steps in
    record {
      can = tt;
      finite = tt;
      left = omega (arith, short, at.invariant.left, c.in-Some.ensures.steps.1);
      given = (
        done ++ x ∷ [],
        behind done rest x ∙ ap (λ l. done ++ l) (sym steps) ∙ at.invariant.given.1,
        subst (λ n. AreGiven (done ++ x ∷ []) c.args.members.now.items (slice_set mids n (record { state = mid.state; memo = mid.memo; pending = c.put_input.new.pending }))) (sym c.from-to.ensures)
            (one_given done x c.args.members.now.items mids mid _ at.invariant.given.2 (ap (slice_get mids) (sym c.from-to.ensures) ∙ there) put),
      );
    }
