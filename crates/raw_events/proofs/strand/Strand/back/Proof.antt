-- `back` shows the last element. Assumes `Logic`.
use mathlib.Core.Path.{◌≡◌, refl, sym, ap, subst, ◌∙◌}
use Prim.Native.Nat.{ℕ, ◌+◌, ◌-◌, ◌<◌}
use native.Mathlib.Omega.{arith}
use mathlib.Core.List.{List, [], ◌∷◌, ◌++◌}
use lib.ListN.{get_or, length, length-map}
use seplogic.Ra.Ura.{Ura}
use mir.Syntax.{Fn, named}
use mir.MapTy.{inst_fn}
use mir.Val.{Val, vptr}
use base.Logic.{SProp, ent, never, fst∗}
use base.Fml.{Lft, Share, ftrue, flft}
use prog.Wp.{Env, Calls, Loops, WpFn, Tables}
use types.Logic.{Logic, sem}
use contract.Monad.{fact}
use contract.Running.{tables, tables_of}
use sound.WpLaws.{WpFn-mono}
use types.Kit.{Item, ⋆, ‵, ◌⊛◌, at_ret, ◌$◌, ◌∵◌, !, qed, by, move, keep, use1, drop, split, join, fsplit, fjoin, feq_i, feq_l, suffices, done}
use types.Run.{look, stop, fld, load, of_opd, addr, first, blocks, exec, returns, enter}
use types.ByLocal.{alloc_all, pass_all, free_all, look_at, get, through, sets, sets_last, is, env}
use denote.Exit.{yes}
use denote.RattleType.{owns}
use denote.Memory.{shared_of, hidden_shr}
use denote.RawPtr.{ptr_val, in_a_block, ◌+ₚ◌}
use denote.Ref.{Bor, ShrRef}
use denote.Builtin.{RefOf}
use denote.Signature.{plain}
use denote.Steps.{nothing}
use denote.Opens.{hide}
use denote.Triple.Carry.{spared}
use denote.Triple.Clauses.{Clauses, Ended, closing}
use denote.Triple.Entry.{on_entry}
use denote.Triple.Spec.{Meets, triple_of}
use denote.Triple.Table.{entered, run_framed}
use denote.Triple.Walked.{says, needs, Stays, stay_dropped, walk_of, ends_at, Goes-dropped, walk_Meets}
use Rattle.std_alloc.proofs.VecSteps.Shapes.{after}
use Rattle.core.proofs.slice.Lists.{any-default}
use denote.Struct.Lending.{lent_at}
use Rattle.std_alloc.proofs.BoxSteps.Form.{Bx, args, X, R}
use Rattle.std_collections.specs.LinkedList.Links.{Link, links_of}
use Rattle.std_collections.specs.LinkedList.Ownership.{elem_offset}
use Rattle.std_collections.proofs.ListMemory.Chained.{IsChained-had, link_at, tail_is}
use Rattle.std_collections.proofs.ListMemory.Steps.{uncons}
use Rattle.std_collections.proofs.ListMemory.Seen.{elem_at, pointer_in, pointer_out}
use Rattle.raw_events.proofs.Steps.{D, Sr}
use Rattle.raw_events.proofs.Seen.{strand_Seen}
use Rattle.raw_events.specs.contracts.strand.Strand.back.Key.{name as #self}
use Rattle.raw_events.proofs.strand.Strand.back.Statement as stated
use Rattle.raw_events.proofs.strand.Strand.back.Code as code

module _ (E : Bx) where
  abbrev function : Fn
  function = inst_fn (args E) code.function

  abbrev ended : Ended
  ended = record { signature = record { lifetimes = 1; outlives = []; params = RefOf (0 ∷ []) tt (plain (λ _. Sr E)) (λ _. tt) ∷ []; result = RefOf (0 ∷ []) tt (plain (λ _. R E)) (λ _. tt) }; kept = (yes, tt) }

  abbrev stayed : Stays ended.signature.params ended.kept
  stayed = (stay_dropped (RefOf (0 ∷ []) tt (plain (λ _. Sr E)) (λ _. tt)) yes, tt)

  abbrev spec : {M : Type 1} (𝓤 : Ura M) → Clauses 𝓤 ended
  spec 𝓤 κs a = record { ghost = Unit {0}; requires = λ _. fact 𝓤 (0 < length a.0.now.items); ensures = λ _ r _. fact 𝓤 (r.now ≡ get_or a.0.now.items (length a.0.now.items - 1) r.now) }

module _ (E : Bx) {M : Type 1} {𝓤 : Ura M} (𝓛 : Logic 𝓤) (C : Calls 𝓤 𝓛.H) (Λ : Loops 𝓤 𝓛.H) (κ : Lft) (q : Share) (b o : ℕ) (d : D E) (ps : List Val) where
  open 𝓛 use {H}

  abbrev self : Bor (D E)
  self = record { ref_ptr = (b, o); now = d }

  abbrev bound : (walk_of 𝓛 (ended E) (stayed E) (spec E 𝓤)).Ghost
  bound = (((κ, tt), (q, tt), tt, (self, tt), (ps, tt)), tt)

  abbrev Post : Val → SProp 𝓤
  Post = (walk_of 𝓛 (ended E) (stayed E) (spec E 𝓤)).post bound

  abbrev Had : List (Item 𝓤)
  Had = ‵ (hidden_shr (Sr E) κ d b o) ∷ ‵ (flft κ q) ∷ []

  walk : 0 < length d.items → ent 𝓤 (⋆ 𝓛 Had) (WpFn 𝓤 H C Λ (function E) (vptr b o ∷ []) Post)
  walk asked =
      let ok = d.ok in
      let ls : List Link = links_of d.blocks in
      let long : length ls ≡ length d.blocks = length-map d.blocks (λ n. n.0) in
      let linked = IsChained-had d.head d.tail ls d.chained in
      let i : ℕ = length d.items - 1 in
      let n : Link = link_at ls i in
      let here : d.tail ≡ n.0 = tail_is ls d.tail (length d.items) (omega arith) asked linked.1 in
      let y : X E = (uncons d.items asked).0 in
      let x : X E = get_or d.items i y in
      let k : ℕ = elem_offset (R E) in
      qed 𝓛 Had ∵ enter ! C Λ (function E) (vptr b o ∷ []) _ $ alloc_all ! (λ l. pass_all ! refl ((tt, tt), tt) $
      let En : Env 𝓤 H = env (function E).locals l in
      strand_Seen E ! d b o $ move ! (2 ∷ []) $ use1 𝓛 (‵ (lent_at (R E) (n.0 +ₚ k) x κ)) (elem_at 𝓛 κ (R E) ls d.items i y (omega arith) (omega arith)) $
      in_a_block ! n.0 (λ p. lent_at (R E) (p +ₚ k) x κ) (fst∗ 𝓤 (never 𝓤) (sem 𝓛 (shared_of (R E) x 0 0 κ))) (λ nb no e. fsplit ! $ drop ! $ hide ! $
      let r : Val = vptr nb (no + k) in
      -- [the element; head; tail; the pointers; the token]
      move ! (2 ∷ 4 ∷ []) $ pointer_in ! tt d.tail b (o + 8) (λ s.
      sets ! (is ! (of_opd ! (load ! (through ! refl (fld ! refl (stop !))) (look ! 0 refl))) (ap ptr_val (here ∙ e))) refl (tt, tt) $
      pointer_out ! tt d.tail b (o + 8) $ move ! (1 ∷ []) $ first ! $ blocks ! $
      sets_last ! (addr ! (through ! refl (fld ! refl (stop !)))) refl (tt, tt) $ exec ! C Λ En (after 2 (function E).body) (at_ret En Post) $ sets ! (of_opd ! (get ! refl)) refl (tt, tt) $
      feq_i ! (List Val) (r ∷ []) (r ∷ []) refl $ fjoin ! $ returns ! (look_at ! 0 refl) $ free_all ! refl $ keep ! (0 ∷ 1 ∷ []) $
      suffices ! _ (ends_at 𝓛 (ended E) (stayed E) (spec E 𝓤) bound r (record { ref_ptr = (nb, no + k); now = x }) (tt, tt) (tt, tt)) $ says ! (any-default d.items i y x (omega arith)) $
      nothing ! $ nothing ! $ fjoin ! $ join ! $ nothing ! $ move ! (2 ∷ 0 ∷ []) $ join ! $ join ! $ done !)))

  entry : 0 < length d.items → ent 𝓤 (on_entry 𝓛 (ended E).signature (κ, tt) (q, tt) (self, tt) (ps, tt)) (WpFn 𝓤 H C Λ (function E) (ps ++ []) Post)
  entry asked =
      qed 𝓛 ((‵ (flft κ q) ⊛ ‵ ftrue) ∷ ‵ (owns (ShrRef (named 0) κ (Sr E) ∷ []) (self, tt) (ps, tt)) ∷ []) ∵ split ! $ move ! (2 ∷ []) $ fsplit ! $ fsplit ! $ feq_l ! (λ e. keep ! (0 ∷ 2 ∷ []) $
      by ! (subst (λ (ws : List Val). ent 𝓤 (⋆ 𝓛 Had) (WpFn 𝓤 H C Λ (function E) (ws ++ []) Post)) (sym e) (walk asked)))

meets : (E : Bx) {M : Type 1} {𝓤 : Ura M} (𝓛 : Logic 𝓤) (𝓣 : Tables 𝓤 𝓛.H)
    → Meets 𝓛 (ended E).signature (WpFn 𝓤 𝓛.H 𝓣.C 𝓣.Λ (function E)) (closing 𝓛 (ended E) (spec E 𝓤))
meets E {𝓤 = 𝓤} 𝓛 𝓣 =
    walk_Meets 𝓛 (ended E) (stayed E) (Goes-dropped 𝓛 1 (RefOf (0 ∷ []) tt (plain (λ _. Sr E)) (λ _. tt)) yes (λ κs x f. refl), tt) (spec E 𝓤) (WpFn 𝓤 𝓛.H 𝓣.C 𝓣.Λ (function E)) (WpFn-mono 𝓤 𝓛.H 𝓛.laws 𝓣 (function E))
    (λ z. let a = z.0.3.0 in needs 𝓤 (0 < length a.now.items) _ (entry E 𝓛 𝓣.C 𝓣.Λ z.0.0.0 z.0.1.0 a.ref_ptr.0 a.ref_ptr.1 a.now z.0.4.0))

pub back_spec : {M : Type 1} → stated.statement M
unfolding tables_of
back_spec 𝓤 𝓛 𝓜 𝓡 wired Y Z L LZ g d dd met md y =
    let E : Bx = record { row = Y; laws = L; al = record { row = Z; laws = LZ; g = g; d = d; drops = dd } } in
    let A = 𝓛.A in
    let 𝓣 : Tables 𝓤 𝓛.H = tables_of 𝓤 𝓛.H 𝓜 (tables 𝓤 𝓛.H 𝓜 𝓡 𝓡.env) in
    spared 𝓛 (ended E).signature (𝓡.run (𝓡.env (#self (args E)))) (run_framed 𝓤 𝓛.H 𝓜 𝓡 (𝓡.env (#self (args E)))) 2 (Y.lives, (Z.lives, tt)) (closing 𝓛 (ended E) (spec E 𝓤))
    (entered 𝓤 𝓛.H (triple_of 𝓛 (ended E).signature (closing 𝓛 (ended E) (spec E 𝓤))) 𝓣.C 𝓣.Λ (#self (args E)) (function E) (code.unfolded 𝓤 𝓛.H 𝓜 𝓡 wired (Y, (Z, tt)) d dd) (meets E 𝓛 𝓣))
    ((y.0.0, y.0.1, tt, y.0.3, y.0.4), y.1)
