use Rattle.std.proofs.Common.{◌∙◌, refl, nat_eq}
use Rattle.std.specs.Prelude.{string_bytes}
use Rattle.std.specs.String.{string_eq}
use lib.Pointwise.{pointwise}
use Rattle.plans.proofs.Pairs.{by_items}
use Rattle.plans.proofs.plan.Plan.has_members_of.Goals as goal

pub returns : goal.returns
returns c = c.eq.ensures ∙ by_items string_bytes string_eq (pointwise nat_eq) (λ a b. refl) c.args.self.now.members.items c.args.other.now.members.items
