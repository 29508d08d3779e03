use Rattle.std.proofs.Common.{rules, ℕ, ◌≡◌, ◌<◌, ◌≤◌, length, get_or, sym, subst}
use Rattle.io_automata.specs.Automata.{instance_of}
use Rattle.patterns.specs.Patterns.{HasEntries}
use Rattle.patterns.proofs.Noted.{indexed_more, all_indexed}
use Rattle.patterns.proofs.index.Index.of.Goals as goal

pub loop-j-preserved : goal.loop-j-preserved
loop-j-preserved c =
    let components = c.args.components.now in
    let component = c.index-components-j.result in
    let at : get_or components c.loop-j.j component ≡ component = search rules in
    let below : c.loop-j.j < length components = search rules in
    let here = subst (λ one. HasEntries c.args.every c.note_component.new.self c.loop-j.j (instance_of c.args.automata.now one)) (sym at) c.in_ok-note_component.ensures.noted in
    record {
      some = subst (λ (n : ℕ). 0 < n) (sym c.note_component.ensures.many) c.loop-j.invariant.some;
      rising = c.note_component.ensures.rising c.loop-j.invariant.rising;
      before = indexed_more c.args.every c.loop-j.index c.note_component.new.self c.args.automata.now components c.loop-j.j component below c.in_ok-note_component.ensures.kept c.loop-j.invariant.before here;
    }

pub returns : goal.returns
returns c =
    let long : length c.args.components.now ≤ c.loop-j.j = search rules in
    all_indexed c.args.every c.loop-j.index c.args.automata.now c.args.components.now c.loop-j.j c.loop-j.invariant.rising long c.loop-j.invariant.before
