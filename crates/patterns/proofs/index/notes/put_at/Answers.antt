use Rattle.std.proofs.Common.{sym, subst, Contains}
use Rattle.std.specs.List.Sorted.{IsStrictlyIncreasing}
use Rattle.std.proofs.lemmas.Result.{on_ok_weaker}
use Rattle.patterns.proofs.Noted.{after_set, at_set, at_there, kept_more}
use Rattle.patterns.proofs.index.notes.put_at.Goals as goal

pub returns-clause-rising : goal.returns-clause-rising
returns-clause-rising c rising n =
    let lists = c.args.numbers.now.items in
    let old = c.index_mut.result.now in
    let before = subst IsStrictlyIncreasing (at_there lists c.args.place old c.requires.within c.index_mut.ensures.value) (rising c.args.place) in
    after_set IsStrictlyIncreasing lists c.args.place c.put.new.list n c.requires.within (λ same. c.put.ensures.rising before) (rising n)

pub returns-clause-kept : goal.returns-clause-kept
returns-clause-kept c =
    let lists = c.args.numbers.now.items in
    on_ok_weaker c.put.result (λ kept n i has. kept_more lists c.args.place c.index_mut.result.now c.put.new.list n i c.requires.within c.index_mut.ensures.value kept has) c.put.ensures.kept

pub returns-clause-noted : goal.returns-clause-noted
returns-clause-noted c =
    let lists = c.args.numbers.now.items in
    on_ok_weaker c.put.result (λ noted. subst (λ xs. Contains xs c.args.j) (sym (at_set lists c.args.place c.put.new.list c.requires.within)) noted) c.put.ensures.noted
