-- One gap more.
use Rattle.std.proofs.Common.{ℕ, ◌-◌, List, [], ◌∷◌, ◌++◌, length, subst, sym, append_assoc}
use Rattle.ioa_tokens.specs.Cutting.{Part}
use Rattle.ioa_layout.specs.declared.gap.Gap.{Gap}
use Rattle.ioa_layout.specs.Gaps.{IsGap, AreGaps, room_after}

pub set_more : (first room : ℕ) (p q r : Part) (all rs : List Part) (done : List Gap) (g : Gap) → ((gs : List Gap) → AreGaps room q (r ∷ rs) gs → AreGaps first p all (done ++ gs))
    → IsGap room q g r → (gs : List Gap) → AreGaps (room_after g room - length r.text) r rs gs → AreGaps first p all ((done ++ g ∷ []) ++ gs)
set_more first room p q r all rs done g before h gs k = subst (λ t. AreGaps first p all t) (sym (append_assoc done (g ∷ []) gs)) (before (g ∷ gs) (h, k))
