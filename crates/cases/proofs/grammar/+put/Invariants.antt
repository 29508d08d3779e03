use Rattle.cases.proofs.grammar.+put.Given as goal

abbrev pub decreases-put : goal.decreases-put
decreases-put l = l.levels

abbrev pub invariant-loop-sign : goal.invariant-loop-sign
invariant-loop-sign l =
    (goal.iterator-loop-sign).can_next l.sign-iterator ×
    (goal.iterator-loop-sign).is_finite l.sign-iterator
