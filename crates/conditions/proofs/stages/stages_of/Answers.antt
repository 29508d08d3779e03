use Rattle.std.proofs.Common.{◌≡◌, ◌+◌, ◌-◌, ◌<◌, ◌≤◌, length, rules, arith}
use Rattle.conditions.specs.Conditions.{IsApart}
use Rattle.conditions.proofs.Staging.{stages_begin, stages_go_on, all_held}
use Rattle.conditions.proofs.stages.stages_of.Goals as goal

pub loop-alloc-init : goal.loop-alloc-init
loop-alloc-init c = stages_begin c.args.branches.now c.new-stages.result.items c.args.last c.new-stages.ensures.items

pub loop-alloc-preserved : goal.loop-alloc-preserved
loop-alloc-preserved c =
    let later = c.loop-alloc.stages.items in
    let stage = c.in_ok-stage.stage in
    let k = c.args.last - c.len-in-loop-alloc.result in
    let many : c.len-in-loop-alloc.result ≡ length later = search rules in
    let few : length later ≤ c.args.last = search rules in
    let here : k + length later ≡ c.args.last = omega (arith, many, few) in
    let apart : IsApart k stage.apart later = search rules in
    stages_go_on c.args.branches.now later c.insert.new.self.items stage k c.args.last c.in_ok-insert.ensures.items here c.loop-alloc.invariant c.in_ok-stage.ensures.are c.in_ok-stage.ensures.held c.in_ok-stage.ensures.many apart

pub returns-clause-held : goal.returns-clause-held
returns-clause-held c =
    let many : c.args.last < length c.loop-alloc.stages.items = search rules in
    all_held c.args.branches.now c.args.last c.loop-alloc.stages.items c.loop-alloc.invariant many
