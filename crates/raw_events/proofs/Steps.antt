-- What a strand owns is taken apart and made, at any element type. Assumes `Logic`.
--     strand_had, strand_made          the two words by value
--     strand_opens, strand_closes      the same behind a `&mut`
use Rattle.std.proofs.Common.{◌≡◌, refl, ◌∙◌, ℕ, List, [], ◌∷◌, ◌++◌}
use seplogic.Ra.Ura.{Ura}
use base.Fraction.{full_share}
use base.Stored.{Gv}
use mir.Val.{Val, vstruct, vcons, vnil, of_list}
use base.Fml.{Lft, GName, Share, flft, fobs, fauth, fbor, fobor}
use types.Logic.{Logic}
use types.Kit.{Item, Goal, Seq, Step, Soaks, step, ‵, ◌$◌, move, drop, fsplit, fjoin, fpick, fpack, feq_i, feq_l, rewrite}
use types.SemTy.{Body as Borrowed}
use denote.RattleType.{RattleType, Valss}
use denote.Memory.{cell_at, mem}
use denote.RawPtr.{Ptr, ptr_val}
use denote.Steps.{nothing, opens, closes}
use denote.Struct.Struct.{within}
use denote.Struct.Owning.{Owning, shape}
use Rattle.std_alloc.proofs.BoxSteps.Form.{Bx, X, R, P}
use Rattle.std_collections.proofs.ListMemory.Steps.{Hd, Held}
use Rattle.raw_events.specs.declared.strand.Strand.{Strand}
use Rattle.raw_events.specs.contracts.strand.Strand as S

abbrev pub words : Ptr → Ptr → Val
words h t = vstruct (vcons (ptr_val h) (vcons (ptr_val t) vnil))

module _ (E : Bx) where
  abbrev pub D : Type 0
  D = Strand (X E) (Hd E)

  abbrev pub owning : Owning
  owning = S.the_type (R E) (P E) E.al.g

  abbrev pub Sr : RattleType
  Sr = S.the_row (R E) (P E) E.al.g

module _ (E : Bx) {M : Type 1} {𝓤 : Ura M} {𝓛 : Logic 𝓤} {K : Type 0} {Γ : List (Item 𝓤)} {G : Goal 𝓤 𝓛.H} where
  open 𝓛 use {H}

  pub strand_had : K → (d : D E) (vs : List Val) → (vs ≡ words d.head d.tail ∷ [] → Seq K 𝓛 (‵ (Held E d.blocks d.items) ∷ Γ) G) → Seq K 𝓛 (‵ ((Sr E).own_val d vs) ∷ Γ) G
  strand_had t d vs k =
      fsplit t $ fpick t (λ vss. fsplit t $ feq_l t (λ all. fsplit t $ feq_l t (λ e₀. fsplit t $ feq_l t (λ e₁. drop t $
      k (all ∙ (λ i. vstruct (of_list (e₀ i ++ (e₁ i ++ []))) ∷ []))))))

  pub strand_made : K → (d : D E) → Step K 𝓛 (‵ ((Sr E).own_val d (words d.head d.tail ∷ [])) ∷ Γ) G (‵ (Held E d.blocks d.items) ∷ Γ) G
  strand_made t d = step (λ s.
      let v = words d.head d.tail in
      nothing t $
      feq_i t (List Val) (ptr_val d.tail ∷ []) (ptr_val d.tail ∷ []) refl $ fjoin t $ feq_i t (List Val) (ptr_val d.head ∷ []) (ptr_val d.head ∷ []) refl $ fjoin t $
      feq_i t (List Val) (v ∷ []) (v ∷ []) refl $ fjoin t $
      fpack t (Valss (shape (owning E)).fields) (within (shape (owning E)) (d.head, (d.tail, tt)) (v ∷ [])) (ptr_val d.head ∷ [], (ptr_val d.tail ∷ [], tt)) $ fjoin t $ s)

module _ (E : Bx) {M : Type 1} {𝓤 : Ura M} {𝓛 : Logic 𝓤} {K : Type 0} {Γ : List (Item 𝓤)} {G : Goal 𝓤 𝓛.H} where
  -- [the nodes; the words; the open borrow; obs; auth]
  pub strand_opens : K → Soaks G → {κ : Lft} {q : Share} {γ : GName} (d : D E) (rb ro : ℕ)
      → Step K 𝓛 (‵ (Held E d.blocks d.items) ∷ ‵ (cell_at full_share (Sr E).mir (words d.head d.tail ∷ []) rb ro) ∷ ‵ (fobor κ q (Borrowed (mem (Sr E)) rb ro γ)) ∷ ‵ (fobs γ ((Sr E).coded.code d)) ∷ ‵ (fauth γ ((Sr E).coded.code d)) ∷ Γ) G
      (‵ (fobs γ ((Sr E).coded.code d)) ∷ ‵ (fbor κ (Borrowed (mem (Sr E)) rb ro γ)) ∷ ‵ (flft κ q) ∷ Γ) G
  strand_opens t z d rb ro = step (λ s.
      opens t z (Sr E) {h = d} rb ro (λ vs. move t (1 ∷ []) $ strand_had E t d vs (λ is. rewrite t 1 (λ (ws : List Val). ‵ (cell_at full_share (Sr E).mir ws rb ro)) is refl $ s)))

  pub strand_closes : K → Soaks G → {κ : Lft} {q : Share} {u v : Gv} {γ : GName} (d : D E) (rb ro : ℕ)
      → Step K 𝓛 (‵ (fobs γ ((Sr E).coded.code d)) ∷ ‵ (fbor κ (Borrowed (mem (Sr E)) rb ro γ)) ∷ ‵ (flft κ q) ∷ Γ) G
      (‵ (Held E d.blocks d.items) ∷ ‵ (cell_at full_share (Sr E).mir (words d.head d.tail ∷ []) rb ro) ∷ ‵ (fobor κ q (Borrowed (mem (Sr E)) rb ro γ)) ∷ ‵ (fobs γ u) ∷ ‵ (fauth γ v) ∷ Γ) G
  strand_closes t z d rb ro = step (λ s. strand_made E t d $ move t (1 ∷ 0 ∷ []) $ closes t z (Sr E) d (words d.head d.tail ∷ []) rb ro $ s)
