-- A `Rest` as a value: what it owns is made, and taken apart. Assumes `Logic`.
use Rattle.std.proofs.Common.{◌≡◌, refl, ◌∙◌, List, [], ◌∷◌, ◌++◌}
use seplogic.Ra.Ura.{Ura}
use mir.Val.{Val, vstruct, vcons, vnil, of_list}
use base.Logic.{ent}
use types.Logic.{Logic, sem}
use types.Kit.{Item, Goal, Seq, ‵, ◌$◌, ◌∵◌, !, qed, use0, drop, fsplit, fpick, feq_l, fjoin, done}
use denote.RattleType.{RattleType}
use denote.Memory.{lone}
use denote.Ref.{NamedLft}
use denote.RawPtr.{Ptr, block_ptr, null_ptr, ptr_val}
use denote.Shadow.{makes_shadow}
use denote.Struct.Struct.{Struct}
use denote.Struct.Owning.{shape}
use Rattle.std_alloc.proofs.RcSteps.{Good, Ptr-Good}
use mathlib.Core.Logic.{∥∥₁_elim}
use base.Stored.{Coded-set}
use denote.RawPtr.{coded_ptr}
use Rattle.std_collections.specs.LinkedList.Links.{Link, LeadsForward}
use Rattle.std_collections.specs.LinkedList.Ownership.{chain_lent}
use Rattle.raw_events.specs.contracts.strand.rest.Rest as C

abbrev pub rest_val : Ptr → Val
rest_val p = vstruct (vcons (ptr_val p) (vcons (vstruct vnil) vnil))

module _ (a : NamedLft) (R : RattleType) where
  abbrev pub Row : RattleType
  Row = C.the_row a R

  abbrev Words : RattleType
  Words = Struct (shape (C.the_type a R))

  pub rest_good : (p : Ptr) → Good (lone Row.mir) (rest_val p)
  rest_good (block_ptr b o) = (tt, (tt, (tt, tt)))
  rest_good null_ptr = (tt, ((Ptr-Good null_ptr).1, (tt, tt)))

  pub rest_made : {M : Type 1} {𝓤 : Ura M} (𝓛 : Logic 𝓤) (r : Row.Denot) → ent 𝓤 (sem 𝓛 (chain_lent R r.links r.items a.lft)) (sem 𝓛 (Row.own_val r (rest_val r.at ∷ [])))
  rest_made 𝓛 r = let p = r.at in let F = Words.own_val (p, (tt, tt)) (rest_val p ∷ []) in
      qed 𝓛 (‵ (chain_lent R r.links r.items a.lft) ∷ []) ∵ use0 𝓛 (‵ F) (makes_shadow 𝓛 F (λ vss. (tt, (tt, ((λ uss. (tt, tt)), tt)))) ((ptr_val p ∷ [], (vstruct vnil ∷ [], tt)), (refl, (refl, ((tt, (refl, tt)), tt))))) $ fjoin ! $ done !

module _ (a : NamedLft) (R : RattleType) {M : Type 1} {𝓤 : Ura M} {𝓛 : Logic 𝓤} {K : Type 0} {Γ : List (Item 𝓤)} {G : Goal 𝓤 𝓛.H} where
  pub rest_had : K → (d : (Row a R).Denot) (vs : List Val) → (vs ≡ rest_val d.at ∷ [] → Seq K 𝓛 (‵ (chain_lent R d.links d.items a.lft) ∷ Γ) G) → Seq K 𝓛 (‵ ((Row a R).own_val d vs) ∷ Γ) G
  rest_had t d vs k =
      fsplit t $ fpick t (λ vss. fsplit t $ feq_l t (λ all. fsplit t $ feq_l t (λ e₀. fsplit t $ fpick t (λ uss. fsplit t $ feq_l t (λ e₁. drop t $ drop t $
      k (all ∙ (λ i. vstruct (of_list (e₀ i ++ (e₁ i ++ []))) ∷ [])))))))

LeadsForward-prop : (h : Ptr) (ls : List Link) → IsProp (LeadsForward h ls)
LeadsForward-prop h [] = λ p q. refl
LeadsForward-prop h (l ∷ ls) = λ p q i. (Coded-set coded_ptr h l.0 p.0 q.0 i, LeadsForward-prop l.1 ls p.1 q.1 i)

-- what is known only as a fact that has one proof at most
pub leads_had : (h : Ptr) (ls : List Link) → ∥ LeadsForward h ls ∥₁ → LeadsForward h ls
leads_had h ls c = ∥∥₁_elim c (LeadsForward-prop h ls) (λ p. p)
