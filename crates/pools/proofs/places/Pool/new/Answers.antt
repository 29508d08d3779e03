use Rattle.std.proofs.Common.{⊎_elim, inl, inr, ◌≡◌, ◌++◌, [], ap, sym, subst, ◌∙◌, refl, length, map, rules, arith, All, ◌≤◌, ◌∷◌, true, append_assoc, length-append}
use Rattle.std.proofs.lemmas.List.{length-map, append-nil, nil_from_length}
use Rattle.std.proofs.lemmas.List.Elements.{All-nil, All-push}
use Rattle.pools.specs.declared.places.Pass.{Pass}
use Rattle.pools.specs.Passes.{holding, IsEmptyOf}
use Rattle.crossbeam_queue.specs.Passes.{view, ruled_capacity}
use Rattle.pools.specs.Places.{common, times}
use Rattle.pools.proofs.Sums.{none_before, times_more}
use Rattle.pools.proofs.Moves.{begins, founds, has_room, admits, next_kind}
use Rattle.pools.proofs.places.Pool.new.Goals as goal

pub ruled-requires-clause-rule : goal.ruled-requires-clause-rule
ruled-requires-clause-rule g c = begins g.L.Numbered.number_of g.L.Numbered.kind_of

pub push_as-requires-clause-rule : goal.push_as-requires-clause-rule
push_as-requires-clause-rule g c =
    let i = c.loop-item.invariant in
    let number = g.L.Numbered.number_of in
    let item = c.in-Some.item in
    let all = ap (λ l. c.loop-item.yielded ++ l) (sym c.in-Some.ensures.steps.0) ∙ i.left in
    let once = subst (λ l. times (number item) (map number l) ≤ 1) (sym all) (c.requires.once (number item)) in
    let alike = (next_kind g.L.Numbered.kind_of c.args.items.items c.loop-item.yielded item c.next.new.self.rest.items c.requires.alike all).0 in
    let of_kind = ⊎_elim (λ (none : c.loop-item.yielded ≡ []). inl (nil_from_length (view c.loop-item.founder).all (i.count ∙ ap length none))) (λ same. inr (i.kind ∙ same)) alike in
    (founds _ _ _ _ _ _ i.alone (i.numbers (number item) ∙ none_before number c.loop-item.yielded item _ once) of_kind, has_room number g.L.Numbered.kind_of _ _)

pub another-pass-requires-clause-rule : goal.another-pass-requires-clause-rule
another-pass-requires-clause-rule g c = admits g.L.Numbered.number_of g.L.Numbered.kind_of _ _

pub loop-item-preserved : goal.loop-item-preserved
loop-item-preserved g c =
    let i = c.loop-item.invariant in
    let number = g.L.Numbered.number_of in
    let at : c.loop-item.yielded ++ c.in-Some.item ∷ c.next.new.self.rest.items ≡ c.args.items.items = ap (λ l. c.loop-item.yielded ++ l) (sym c.in-Some.ensures.steps.0) ∙ i.left in
    let same = ap (λ v. v.all) c.in-Ok.ensures.rule in record {
      can = search rules;
      ends = search rules;
      left = append_assoc c.loop-item.yielded (c.in-Some.item ∷ []) c.next.new.self.rest.items ∙ at;
      pass = search rules;
      alone = search rules;
      held = search rules;
      kind = ap (λ v. v.kind) c.in-Ok.ensures.rule ∙ sym (next_kind g.L.Numbered.kind_of c.args.items.items c.loop-item.yielded c.in-Some.item c.next.new.self.rest.items c.requires.alike at).1;
      numbers = λ x. ap (times x) same ∙ (let h = times_more number x c.loop-item.yielded c.in-Some.item in let k = i.numbers x in omega arith);
      count = ap length same ∙ (let k = i.count in omega (arith, length-append c.loop-item.yielded (c.in-Some.item ∷ [])));
    }

pub loop-init : goal.loop-init
loop-init g c =
    let i = c.loop-item.invariant in
    let number = g.L.Numbered.number_of in
    let rest = c.loop-item.item-iterator.rest in
    let ended : rest.items ≡ [] = nil_from_length rest.items (sym rest.ok.0 ∙ c.in-None.ensures.steps.0) in
    let all : c.loop-item.yielded ≡ c.args.items.items = sym (append-nil c.loop-item.yielded) ∙ ap (λ l. c.loop-item.yielded ++ l) (sym ended) ∙ i.left in record {
      count = search rules;
      room = refl;
      all = subst (All (IsEmptyOf (record { queue = c.in_ok-queue.queue }) (map number c.args.items.items))) (sym c.in_ok-places.ensures.items) (All-nil _);
      same = refl;
      pass = i.pass;
      held = i.held;
      sole = λ _. i.alone;
      kind = i.kind ∙ ap (common g.L.Numbered.kind_of) all;
      kinds = subst (All (λ p. (holding p).kind ≡ common g.L.Numbered.kind_of c.args.items.items)) (sym c.in_ok-places.ensures.items) (All-nil _);
      numbers = λ x. i.numbers x ∙ ap (λ l. times x (map number l)) all;
      length = i.count ∙ ap length all ∙ sym (length-map c.args.items.items number);
    }

pub loop-preserved : goal.loop-preserved
loop-preserved g c =
    let i = c.loop.invariant in
    let numbers = map g.L.Numbered.number_of c.args.items.items in
    let P : Pass g.row.L.Denot g.row.K.Denot → Type 0 = IsEmptyOf (record { queue = c.in_ok-queue.queue }) numbers in
    let a = c.another-pass.ensures in
    let Q : Pass g.row.L.Denot g.row.K.Denot → Type 0 = λ p. (holding p).kind ≡ common g.L.Numbered.kind_of c.args.items.items in
    let known : (view c.another-pass.result).all ≡ (view c.loop.founder).all = ap (λ v. v.all) a.rule.1 in
    let fits : length (view c.another-pass.result).all ≤ ruled_capacity c.in_ok-queue.queue = let e = c.in_ok-queue.ensures.0 in let l = c.len.ensures in let k = ap length known ∙ i.length in omega (arith, length-map c.args.items.items g.L.Numbered.number_of) in record {
      count = search rules;
      room = search rules;
      all = subst (All P) (sym c.push_reserved.ensures.items) (All-push P _ _ i.all ((a.queue.1, fits), ap (λ v. v.held) a.rule.1, (λ x. ap (times x) known ∙ i.numbers x), ap length known ∙ i.length));
      same = refl;
      pass = search rules;
      held = search rules;
      sole = λ one. let n = c.loop-test.true in let m = c.loop.invariant.count in absurd (omega arith);
      kind = ap (λ v. v.kind) a.rule.0 ∙ i.kind;
      kinds = subst (All Q) (sym c.push_reserved.ensures.items) (All-push Q _ _ i.kinds (ap (λ v. v.kind) a.rule.1 ∙ i.kind));
      numbers = λ x. ap (λ v. times x v.all) a.rule.0 ∙ i.numbers x;
      length = ap (λ v. length v.all) a.rule.0 ∙ i.length;
    }

pub returns-clause-passes : goal.returns-clause-passes
returns-clause-passes g c =
    let i = c.loop.invariant in
    let numbers = map g.L.Numbered.number_of c.args.items.items in
    let P : Pass g.row.L.Denot g.row.K.Denot → Type 0 = IsEmptyOf (record { queue = c.in_ok-queue.queue }) numbers in
    let fits : length (view c.loop.founder).all ≤ ruled_capacity c.in_ok-queue.queue = let e = c.in_ok-queue.ensures.0 in let l = c.len.ensures in let k = i.length in omega (arith, length-map c.args.items.items g.L.Numbered.number_of) in
    subst (All P) (sym c.push_reserved-2.ensures.items) (All-push P _ _ i.all ((i.pass, fits), i.held, i.numbers, i.length))

pub returns-clause-kind : goal.returns-clause-kind
returns-clause-kind g c =
    let i = c.loop.invariant in
    let Q : Pass g.row.L.Denot g.row.K.Denot → Type 0 = λ p. (holding p).kind ≡ common g.L.Numbered.kind_of c.args.items.items in
    subst (All Q) (sym c.push_reserved-2.ensures.items) (All-push Q _ _ i.kinds i.kind)

pub returns-clause-alone : goal.returns-clause-alone
returns-clause-alone g c only =
    let i = c.loop.invariant in
    let P : Pass g.row.L.Denot g.row.K.Denot → Type 0 = λ p. (holding p).alone ≡ true in
    let none : c.loop.places.items ≡ [] = nil_from_length c.loop.places.items (let n = i.count in let e = c.loop.auto.counter-end in let o = c.loop.places.ok.0 in let p = only in omega arith) in
    subst (All P) (sym c.push_reserved-2.ensures.items) (All-push P _ _ (subst (All P) (sym none) (All-nil P)) (i.sole only))
