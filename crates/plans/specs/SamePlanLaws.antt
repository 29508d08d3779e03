-- Comparing plans tells exactly whether they are the same.
use Rattle.std.specs.Prelude.{◌≡◌, Bool as Truth, true, false, ◌&&◌, List, refl}
use Rattle.std.specs.Bool.{Decides}
use Rattle.std.specs.Cmp.{IsEquivalence, booleans_Decides}
use Rattle.std.proofs.Common.{sym, ◌∙◌}
use lib.Pointwise.{pointwise_decides}
use Rattle.terms.specs.SameTreeLaws.{both_true, both_by}
use Rattle.io_automata.specs.SameCompositions.{same_composition, same_texts}
use Rattle.io_automata.specs.SameLaws.{composition_decides, texts_decide}
use Rattle.plans.specs.declared.plan.Plan.{Plan}
use Rattle.plans.specs.Plans.{composition, action_texts, hidden_marks, member_texts}
use Rattle.plans.specs.SamePlans.{same_marks, same_plan}

marks_decide : (a b : List Truth) → Decides (same_marks a b) (a ≡ b)
marks_decide = pointwise_decides booleans_Decides

-- two plans that are the same have the same composition, texts and hidden names
pub plan_is : (a b : Plan) → same_plan a b ≡ true
    → (composition a ≡ composition b) × (action_texts a ≡ action_texts b) × (member_texts a ≡ member_texts b) × (hidden_marks a ≡ hidden_marks b)
plan_is a b h =
    let one = both_true (same_composition (composition a) (composition b)) (same_texts (action_texts a) (action_texts b) && (same_texts (member_texts a) (member_texts b) && same_marks (hidden_marks a) (hidden_marks b))) h in
    let two = both_true (same_texts (action_texts a) (action_texts b)) (same_texts (member_texts a) (member_texts b) && same_marks (hidden_marks a) (hidden_marks b)) one.1 in
    let three = both_true (same_texts (member_texts a) (member_texts b)) (same_marks (hidden_marks a) (hidden_marks b)) two.1 in (
      (composition_decides (composition a) (composition b)).0 one.0,
      (texts_decide (action_texts a) (action_texts b)).0 two.0,
      (texts_decide (member_texts a) (member_texts b)).0 three.0,
      (marks_decide (hidden_marks a) (hidden_marks b)).0 three.1,
    )

-- and two plans with the same composition, texts and hidden names are the same
pub plan_from : (a b : Plan)
    → (composition a ≡ composition b) × (action_texts a ≡ action_texts b) × (member_texts a ≡ member_texts b) × (hidden_marks a ≡ hidden_marks b) → same_plan a b ≡ true
plan_from a b h =
    both_by _ _ ((composition_decides (composition a) (composition b)).1 h.0)
    (both_by _ _ ((texts_decide (action_texts a) (action_texts b)).1 h.1)
    (both_by _ _ ((texts_decide (member_texts a) (member_texts b)).1 h.2)
    ((marks_decide (hidden_marks a) (hidden_marks b)).1 h.3)))

plan_refl : (a : Plan) → same_plan a a ≡ true
plan_refl a = plan_from a a ((λ i. composition a), (λ i. action_texts a), (λ i. member_texts a), λ i. hidden_marks a)

plan_symm : (a b : Plan) → same_plan a b ≡ same_plan b a
plan_symm a b = go (same_plan a b) refl (same_plan b a) refl where
  turned : (c d : Plan) → same_plan c d ≡ true → same_plan d c ≡ true
  turned c d h = let parts = plan_is c d h in plan_from d c (sym parts.0, sym parts.1, sym parts.2, sym parts.3)

  go : (s : Truth) → same_plan a b ≡ s → (t : Truth) → same_plan b a ≡ t → same_plan a b ≡ same_plan b a
  go true h t k = h ∙ sym (turned a b h)
  go false h true k = turned b a k ∙ sym k
  go false h false k = h ∙ sym k

pub same_plan_laws : IsEquivalence same_plan
same_plan_laws = record {
  refl = plan_refl;
  symm = plan_symm;
  congr = λ a b c h. let parts = plan_is a b h in
      λ i. same_composition (parts.0 i) (composition c) && (same_texts (parts.1 i) (action_texts c) && (same_texts (parts.2 i) (member_texts c) && same_marks (parts.3 i) (hidden_marks c)));
}
