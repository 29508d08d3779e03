use Rattle.std.proofs.Common.{rules, ◌≡◌, ◌<◌, ◌≤◌, All, ap, subst, ◌∙◌, length, get_or, take, take_all}
use Rattle.terms.specs.Named.{Named}
use Rattle.patterns.specs.Patterns.{Kept, masked, list_at, place_of}
use Rattle.patterns.proofs.Noted.{Gathers, gathered_more, gathered_all}
use Rattle.patterns.proofs.index.Index.listed.Goals as goal

pub loop-mask-preserved : goal.loop-mask-preserved
loop-mask-preserved c =
    let masks = c.masks_at-mask-items.result.now in
    let mask = c.mask-item.result in
    let action = c.args.action.now in
    let numbers = c.args.self.now.numbers in
    let below : c.loop-mask.mask-index < length masks = search rules in
    let at : get_or masks c.loop-mask.mask-index mask ≡ mask = search rules in
    let lists = c.as_slice-in-loop-mask.ensures.value ∙ ap (λ (k : Kept). k.numbers) c.self.view_is in
    let flags = c.as_slice-in-loop-mask-2.ensures.value in
    let args = c.as_slice-in-loop-mask-3.ensures ∙ ap (λ (a : Named). a.args) c.action.view_is in
    let more : c.numbers_at-numbers.result.now ≡ list_at numbers (place_of action.name (masked mask.items action.args) (length numbers)) = c.numbers_at-numbers.ensures ∙ (λ i. list_at (lists i) (place_of (c.action.view_is i).name (masked (flags i) (args i)) (length (lists i)))) in
    gathered_more numbers action.name action.args masks c.loop-mask.mask-index mask c.loop-mask.found.items c.extend_from_slice.new.self.items c.numbers_at-numbers.result.now below at more (search rules) c.loop-mask.invariant

pub returns : goal.returns
returns c mask j has listed =
    let action = c.args.action.now in
    let numbers = c.args.self.now.numbers in
    let masks = list_at c.args.self.now.masks action.name in
    let long : length c.masks_at-mask-items.result.now ≤ c.loop-mask.mask-index = search rules in
    let lists = c.as_slice.ensures.value ∙ ap (λ (k : Kept). k.masks) c.self.view_is in
    let whole : take c.loop-mask.mask-index c.masks_at-mask-items.result.now ≡ masks = take_all c.loop-mask.mask-index c.masks_at-mask-items.result.now long ∙ c.masks_at-mask-items.ensures ∙ (λ i. list_at (lists i) (c.action.view_is i).name) in
    let all = subst (All (λ mask. Gathers numbers action.name action.args c.loop-mask.found.items mask.items)) whole c.loop-mask.invariant in
    gathered_all numbers action.name action.args masks c.loop-mask.found.items all mask has j listed
