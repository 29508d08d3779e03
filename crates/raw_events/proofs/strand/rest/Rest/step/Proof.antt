-- `step` shows the first element and goes on to the next node. Assumes `Logic`.
use mathlib.Core.Path.{◌≡◌, refl, sym, ap, subst, ◌∙◌}
use Prim.Native.Nat.{ℕ, ◌+◌, ◌<◌}
use native.Mathlib.Omega.{arith}
use mathlib.Core.List.{List, [], ◌∷◌, ◌++◌}
use lib.ListN.{length}
use seplogic.Ra.Ura.{Ura}
use mir.Syntax.{Fn, named, a_type}
use mir.MapTy.{inst_fn}
use mir.Val.{Val, vptr}
use base.Fraction.{full_share}
use base.Logic.{SProp, ent, sep, never, fst∗}
use base.Fml.{Lft, GName, Share, ftrue, flft, fobs, fbor}
use contract.Lifetimes.{AllOutlive}
use prog.Wp.{Env, Calls, Loops, WpFn, Tables}
use types.Logic.{Logic, sem}
use contract.Monad.{fact}
use contract.Running.{tables, tables_of}
use sound.WpLaws.{WpFn-mono}
use types.Kit.{Item, ⋆, ‵, ◌⊛◌, at_ret, ◌$◌, ◌∵◌, !, qed, by, move, keep, use1, drop, split3, join, rewrite, fsplit, fsplit3, fjoin, fjoin3, feq_i, feq_l, suffices, frame, done}
use types.Part.{whole, sub, look_in, store_in}
use types.Run.{look, stop, fld, load, of_opd, addr, assigns, first, blocks, exec, returns, enter}
use types.ByLocal.{alloc_all, pass_all, free_all, look_at, get, through, sets, sets_last, is, env}
use types.SemTy.{Body as Borrowed}
use denote.Exit.{yes}
use denote.RattleType.{RattleType, owns}
use denote.Memory.{cell_at, mem, shared_of}
use denote.RawPtr.{Ptr, RawPtr, ptr_val, in_a_block, ◌+ₚ◌}
use denote.Ref.{MutBor, MutRef, ShrRef}
use denote.Builtin.{RefMutOf, RefOf}
use denote.Param.{param, layouts}
use denote.Signature.{plain, named_lft}
use denote.Steps.{nothing, opens, closes}
use denote.Opens.{hide}
use denote.Struct.Lending.{lent_at}
use denote.Triple.Carry.{spared}
use denote.Triple.Clauses.{Clauses, Ended, closing}
use denote.Triple.Entry.{on_entry}
use denote.Triple.Spec.{Meets, triple_of}
use denote.Triple.Table.{entered, run_framed}
use denote.Triple.Walked.{says, needs, Stays, stay_ref, walk_of, ends_at, Goes-ref, walk_Meets}
use Rattle.std_alloc.proofs.VecSteps.Shapes.{after}
use Rattle.std_alloc.proofs.RcSteps.{Ptr-Good}
use Rattle.std_collections.specs.LinkedList.Links.{Link, LeadsForward}
use Rattle.std_collections.specs.LinkedList.Ownership.{elem_offset, chain_lent}
use Rattle.std_collections.proofs.ListMemory.Steps.{uncons}
use Rattle.std_collections.proofs.ListMemory.Seen.{pointer_in, pointer_out}
use Rattle.raw_events.specs.declared.strand.rest.Rest.{Rest}
use Rattle.raw_events.proofs.Rests.{Row, rest_val, rest_had, rest_made, leads_had}
use Rattle.raw_events.specs.contracts.strand.rest.Rest.step.Key.{name as #self}
use Rattle.raw_events.proofs.strand.rest.Rest.step.Statement as stated
use Rattle.raw_events.proofs.strand.rest.Rest.step.Code as code

module _ (Y : RattleType) where
  abbrev R : RattleType
  R = param 0 Y

  abbrev function : Fn
  function = inst_fn (layouts (a_type ∷ []) (Y, tt)) code.function

  abbrev D : Type 0
  D = Rest Y.Denot

  abbrev ended : Ended
  ended = record {
    signature = record {
      lifetimes = 2;
      outlives = record { long = 1; long_ok = tt; short = named 0; short_ok = tt } ∷ [];
      params = RefMutOf (0 ∷ []) tt (plain (λ κs. Row (named_lft 2 1 tt κs) R)) (λ _. tt) ∷ [];
      result = RefOf (1 ∷ []) tt (plain (λ _. R)) (λ _. tt);
    };
    kept = (yes, tt);
  }

  abbrev stayed : Stays ended.signature.params ended.kept
  stayed = (stay_ref (0 ∷ []) tt (plain (λ κs. Row (named_lft 2 1 tt κs) R)), tt)

  abbrev Gives : D → Y.Denot → D → Type 0
  Gives d x e = d.items ≡ x ∷ e.items

  abbrev spec : {M : Type 1} (𝓤 : Ura M) → Clauses 𝓤 ended
  spec 𝓤 κs a = record { ghost = Unit {0}; requires = λ _. fact 𝓤 (0 < length a.0.now.items); ensures = λ _ r w. fact 𝓤 (Gives a.0.now r.now w.0.now) }

module _ (Y : RattleType) {M : Type 1} {𝓤 : Ura M} (𝓛 : Logic 𝓤) (C : Calls 𝓤 𝓛.H) (Λ : Loops 𝓤 𝓛.H) (κ κ' : Lft) (q q' : Share) (within : AllOutlive 2 (ended Y).signature.outlives (κ, (κ', tt))) (rb ro : ℕ) (γ : GName) (d : D Y) (ps : List Val) where
  open 𝓛 use {H, A}

  abbrev It : RattleType
  It = Row (named_lft 2 1 tt (κ, (κ', tt))) (R Y)

  abbrev self : MutBor (D Y)
  self = record { ref_ptr = (rb, ro); ghost_name = γ; now = d }

  abbrev bound : (walk_of 𝓛 (ended Y) (stayed Y) (spec Y 𝓤)).Ghost
  bound = (((κ, (κ', tt)), (q, (q', tt)), within, (self, tt), (ps, tt)), tt)

  abbrev Post : Val → SProp 𝓤
  Post = (walk_of 𝓛 (ended Y) (stayed Y) (spec Y 𝓤)).post bound

  exits : ps ≡ vptr rb ro ∷ [] → (b o : ℕ) (x : Y.Denot) (new : D Y) → Gives Y d x new
      → ent 𝓤 (sep 𝓤 (A.obs γ (It.coded.code new)) (sep 𝓤 (A.bor κ (Borrowed (mem It) rb ro γ)) (sep 𝓤 (A.lft κ q) (sep 𝓤 (A.lft κ' q') (sem 𝓛 ((ShrRef (named 1) κ' (R Y)).own_val (record { ref_ptr = (b, o); now = x }) (vptr b o ∷ []))))))) (Post (vptr b o))
  exits passed b o x new e =
      qed 𝓛 (‵ (fobs γ (It.coded.code new)) ∷ ‵ (fbor κ (Borrowed (mem It) rb ro γ)) ∷ ‵ (flft κ q) ∷ ‵ (flft κ' q') ∷ ‵ ((ShrRef (named 1) κ' (R Y)).own_val (record { ref_ptr = (b, o); now = x }) (vptr b o ∷ [])) ∷ []) ∵
      suffices ! _ (ends_at 𝓛 (ended Y) (stayed Y) (spec Y 𝓤) bound (vptr b o) (record { ref_ptr = (b, o); now = x }) (new, tt) (tt, tt)) $ says ! e $
      nothing ! $ move ! (4 ∷ 0 ∷ []) $ join ! $ move ! (3 ∷ 0 ∷ []) $ join ! $ frame ! $ feq_i ! (List Val) ps (vptr rb ro ∷ []) passed $ fjoin3 ! $ nothing ! $ move ! (1 ∷ 0 ∷ []) $ fjoin ! $ done !

  abbrev Had : List (Item 𝓤)
  Had = ‵ (fobs γ (It.coded.code d)) ∷ ‵ (fbor κ (Borrowed (mem It) rb ro γ)) ∷ ‵ (flft κ q) ∷ ‵ (flft κ' q') ∷ []

  walk : ps ≡ vptr rb ro ∷ [] → 0 < length d.items → ent 𝓤 (⋆ 𝓛 Had) (WpFn 𝓤 H C Λ (function Y) (vptr rb ro ∷ []) Post)
  walk passed asked =
      let ok = d.ok in
      let ns = uncons d.links (omega arith) in
      let xs = uncons d.items asked in
      let m : Link = ns.0 in
      let x : Y.Denot = xs.0 in
      let long = ap length ns.2 in
      let many = ap length xs.2 in
      let leads : LeadsForward d.at (m ∷ ns.1) = subst (λ ks. LeadsForward d.at ks) ns.2 (leads_had d.at d.links d.leads) in
      let k : ℕ = elem_offset (R Y) in
      let a = named_lft 2 1 tt (κ, (κ', tt)) in
      let new : D Y = record { at = m.1; marker = d.marker; items = xs.1; links = ns.1; ok = omega arith; leads = ∣ leads.1 ∣₁ } in
      qed 𝓛 Had ∵ enter ! C Λ (function Y) (vptr rb ro ∷ []) _ $ alloc_all ! (λ l. pass_all ! refl ((tt, tt), tt) $
      let En : Env 𝓤 H = env (function Y).locals l in
      opens ! tt It {h = d} rb ro (λ vs. move ! (1 ∷ []) $ rest_had a (R Y) ! d vs (λ f.
      rewrite ! 1 (λ (ws : List Val). ‵ (cell_at full_share It.mir ws rb ro)) f refl $
      rewrite ! 0 (λ (ks : List Link). ‵ (chain_lent (R Y) ks d.items κ')) ns.2 refl $ rewrite ! 0 (λ (ys : List Y.Denot). ‵ (chain_lent (R Y) (m ∷ ns.1) ys κ')) xs.2 refl $
      fsplit ! $ fsplit ! $ move ! (2 ∷ []) $ fsplit ! $ fsplit ! $
      -- [next; prev; the other pointers; the element; the others; the words; the open borrow; obs; auth; the token]
      in_a_block ! m.0 (λ p. lent_at RawPtr (p +ₚ 0) m.1 κ') (fst∗ 𝓤 (never 𝓤) (sem 𝓛 (shared_of RawPtr m.1 0 0 κ'))) (λ nb no e. fsplit ! $ drop ! $ hide ! $
      move ! (3 ∷ []) $ rewrite ! 0 (λ (p : Ptr). ‵ (lent_at (R Y) (p +ₚ k) x κ')) e refl $ fsplit ! $ drop ! $ hide ! $
      let r : Val = vptr nb (no + k) in
      -- [the element; next; prev; the other pointers; the others; the words; the open borrow; obs; auth; the token]
      move ! (1 ∷ 9 ∷ []) $ pointer_in ! tt m.1 nb (no + 0) (λ s.
      -- [next, open; what shuts it; the element; prev; the other pointers; the others; the words; ..]
      sets ! (is ! (of_opd ! (load ! (through ! refl (fld ! refl (stop !))) (look_in ! 6 (sub ! 0 refl (whole !))))) (ap ptr_val (leads.0 ∙ e))) refl (tt, tt) $ first ! $ blocks ! $
      sets ! (of_opd ! (load ! (through ! refl (fld ! refl (stop !))) (look ! 0 refl))) refl (Ptr-Good m.1) $
      assigns ! (of_opd ! (get ! refl)) (through ! refl (fld ! refl (stop !))) (store_in ! 6 (sub ! 0 refl (whole !)) (Ptr-Good m.1)) $
      sets_last ! (addr ! (through ! refl (fld ! refl (stop !)))) refl (tt, tt) $
      exec ! C Λ En (after 2 (function Y).body) (at_ret En Post) $ sets ! (of_opd ! (get ! refl)) refl (tt, tt) $
      pointer_out ! tt m.1 nb (no + 0) $
      -- [the token; the element; prev; the other pointers; the others; the words; the open borrow; obs; auth]
      move ! (4 ∷ 3 ∷ []) $ fjoin ! $ use1 𝓛 (‵ (It.own_val new (rest_val m.1 ∷ []))) (rest_made a (R Y) 𝓛 new) $
      move ! (4 ∷ 0 ∷ 5 ∷ 6 ∷ 7 ∷ []) $ closes ! tt It new (rest_val m.1 ∷ []) rb ro $
      move ! (4 ∷ []) $ feq_i ! (List Val) (r ∷ []) (r ∷ []) refl $ fjoin ! $
      returns ! (look_at ! 0 refl) $ free_all ! refl $ keep ! (1 ∷ 2 ∷ 3 ∷ 4 ∷ 0 ∷ []) $ by ! (exits passed nb (no + k) x new xs.2))))))

  entry : 0 < length d.items → ent 𝓤 (on_entry 𝓛 (ended Y).signature (κ, (κ', tt)) (q, (q', tt)) (self, tt) (ps, tt)) (WpFn 𝓤 H C Λ (function Y) (ps ++ []) Post)
  entry asked =
      qed 𝓛 ((‵ (flft κ q) ⊛ ‵ (flft κ' q') ⊛ ‵ ftrue) ∷ ‵ (owns (MutRef (named 0) κ It ∷ []) (self, tt) (ps, tt)) ∷ []) ∵ split3 ! $ move ! (3 ∷ []) $ fsplit ! $ fsplit3 ! $ feq_l ! (λ e. keep ! (0 ∷ 1 ∷ 3 ∷ 4 ∷ []) $
      by ! (subst (λ (ws : List Val). ent 𝓤 (⋆ 𝓛 Had) (WpFn 𝓤 H C Λ (function Y) (ws ++ []) Post)) (sym e) (walk e asked)))

meets : (Y : RattleType) {M : Type 1} {𝓤 : Ura M} (𝓛 : Logic 𝓤) (𝓣 : Tables 𝓤 𝓛.H)
    → Meets 𝓛 (ended Y).signature (WpFn 𝓤 𝓛.H 𝓣.C 𝓣.Λ (function Y)) (closing 𝓛 (ended Y) (spec Y 𝓤))
meets Y {𝓤 = 𝓤} 𝓛 𝓣 =
    walk_Meets 𝓛 (ended Y) (stayed Y) (Goes-ref 𝓛 2 0 tt (plain (λ κs. Row (named_lft 2 1 tt κs) (R Y))), tt) (spec Y 𝓤) (WpFn 𝓤 𝓛.H 𝓣.C 𝓣.Λ (function Y)) (WpFn-mono 𝓤 𝓛.H 𝓛.laws 𝓣 (function Y))
    (λ z. let a = z.0.3.0 in needs 𝓤 (0 < length a.now.items) _ (entry Y 𝓛 𝓣.C 𝓣.Λ z.0.0.0 z.0.0.1.0 z.0.1.0 z.0.1.1.0 z.0.2 a.ref_ptr.0 a.ref_ptr.1 a.ghost_name a.now z.0.4.0))

pub step_spec : {M : Type 1} → stated.statement M
unfolding tables_of
step_spec 𝓤 𝓛 𝓜 𝓡 wired X L y =
    let A = 𝓛.A in
    let 𝓣 : Tables 𝓤 𝓛.H = tables_of 𝓤 𝓛.H 𝓜 (tables 𝓤 𝓛.H 𝓜 𝓡 𝓡.env) in
    let k = #self (layouts (a_type ∷ []) (X, tt)) in
    spared 𝓛 (ended X).signature (𝓡.run (𝓡.env k)) (run_framed 𝓤 𝓛.H 𝓜 𝓡 (𝓡.env k)) 1 (X.lives, tt) (closing 𝓛 (ended X) (spec X 𝓤))
    (entered 𝓤 𝓛.H (triple_of 𝓛 (ended X).signature (closing 𝓛 (ended X) (spec X 𝓤))) 𝓣.C 𝓣.Λ k (function X) (code.unfolded 𝓤 𝓛.H 𝓜 𝓡 wired (X, tt)) (meets X 𝓛 𝓣))
    ((y.0.0, y.0.1, (y.0.2.0, tt), y.0.3, y.0.4), y.1)
