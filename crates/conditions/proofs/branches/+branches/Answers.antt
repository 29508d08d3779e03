use Rattle.std.proofs.Common.{◌+◌, map, take, rules}
use Rattle.conditions.proofs.Opening.{opened_next, made_along, stand_along, next_link, whole_chain}
use Rattle.terms.specs.TermTree.{linked, link_on, link_tree, operand_tree, term_tree}
use Rattle.conditions.proofs.branches.+branches.Goals as goal
use Rattle.conditions.proofs.branches.+branches.Goals.{branches_of-in-Some, branches_of-in-None+in_ok-branches-in-None}

pub branches_of-loop-place-preserved : goal.branches_of-loop-place-preserved
branches_of-loop-place-preserved t c =
    let links = c.as_slice-links.result.now in
    let first = operand_tree c.args.term.now.first in
    elim c.match-branch-3.branch [
      | branches_of-in-Some w ↦ record {
        stand = stand_along (link_on (linked first (map link_tree (take c.loop-place.place links))) (link_tree c.index-links-place.result)) (linked first (map link_tree (take (c.loop-place.place + 1) links))) c.args.is c.match-branch-3.branches.items (next_link first links c.loop-place.place c.index-links-place.result (search rules) c.index-links-place.is) (opened_next (linked first (map link_tree (take c.loop-place.place links))) (link_tree c.index-links-place.result) c.args.is c.loop-place.branches.items c.in_ok-more.field-0 w.in-Some.more c.match-branch-3.branches w.branches-is w.in-Some.is c.in_ok-more.ensures.stand c.loop-place.invariant.stand);
        few = search rules;
      }
      | branches_of-in-None+in_ok-branches-in-None w ↦ record {
        stand = made_along (linked first (map link_tree (take (c.loop-place.place + 1) links))) c.args.is c.match-branch-3.branches w.in_ok-branches-in-None.branches w.branches-is w.in_ok-branches-in-None.ensures.stand;
        few = search rules;
      }
    ]

pub branches_of-returns-clause-stand : goal.branches_of-returns-clause-stand
branches_of-returns-clause-stand t c =
    stand_along (linked (operand_tree c.args.term.now.first) (map link_tree (take c.loop-place.place c.as_slice-links.result.now))) (term_tree c.args.term.now) c.args.is c.loop-place.branches.items (whole_chain c.args.term.now c.as_slice-links.result.now c.loop-place.place c.as_slice-links.ensures.value c.loop-place-test.false) c.loop-place.invariant.stand
