-- `take_apart` moves the element and the handle out of the only node. Assumes `Logic`.
use mathlib.Core.Path.{◌≡◌, refl, sym, ap, subst, ◌∙◌}
use native.Mathlib.Omega.{arith}
use mathlib.Core.List.{List, [], ◌∷◌, ◌++◌}
use lib.ListN.{length}
use seplogic.Ra.Ura.{Ura}
use mir.Syntax.{Fn, ty_ptr}
use mir.MapTy.{inst_fn}
use mir.Val.{Val}
use base.Logic.{SProp, ent}
use base.Fml.{ftrue}
use prog.Wp.{Env, Calls, Loops, WpFn, Tables}
use types.Logic.{Logic}
use contract.Monad.{fact}
use contract.Running.{tables, tables_of}
use sound.WpLaws.{WpFn-mono}
use types.Kit.{Item, ⋆, ‵, ◌⊛◌, at_ret, ◌$◌, ◌∵◌, !, qed, by, move, keep, use1, use2, split, join, rewrite, fsplit, fjoin, suffices, done}
use types.Part.{whole, sub, agg}
use types.Run.{look, stop, fld, load, of_opd, addr, and_then, no_more, first, blocks, exec, returns, enter}
use types.ByLocal.{alloc_all, pass_all, free_all, look_at, get, get_in, through, sets, sets_last, is, env}
use denote.Exit.{no}
use denote.RattleType.{RattleType, owns}
use denote.RawPtr.{block_ptr, ptr_val}
use denote.Signature.{plain}
use denote.Steps.{nothing}
use denote.Struct.Struct.{as_fields}
use denote.Triple.Carry.{spared}
use denote.Triple.Clauses.{Clauses, Ended, closing}
use denote.Triple.Entry.{on_entry}
use denote.Triple.Spec.{Meets, triple_of}
use denote.Triple.Table.{entered, run_framed}
use denote.Triple.Walked.{says, needs, Stays, stay_dropped, walk_of, ends_at, Goes-dropped, walk_Meets}
use Rattle.std_alloc.proofs.VecSteps.Shapes.{after}
use Rattle.std_alloc.proofs.RcSteps.{Ptr-Good}
use Rattle.std_alloc.proofs.BoxSteps.Form.{Bx, args, X, τ, R, P}
use Rattle.std_alloc.proofs.OfVacant.{Vacant, vacant_val, vacant_ty, vacant_typed, Vacant-made}
use Rattle.std_alloc.proofs.Pairs.{pair_val, pair_Typed, pair_of}
use denote.Struct.Tuple.{Tuple}
use Rattle.raw_events.specs.contracts.strand.Node as Block
use Rattle.std_collections.specs.LinkedList.Links.{Link, links_of, IsChained}
use Rattle.std_collections.proofs.ListMemory.Chained.{IsChained-had}
use Rattle.std_collections.proofs.ListMemory.Steps.{uncons, Hd, Held, One, cons_out, one_opens, node_unmade, block_back}
use Rattle.raw_events.proofs.Steps.{words, D, Sr, strand_had}
use Rattle.raw_events.specs.contracts.strand.Strand.take_apart.Key.{name as #self}
use Rattle.raw_events.proofs.strand.Strand.take_apart.Statement as stated
use Rattle.raw_events.proofs.strand.Strand.take_apart.Code as code

empty : {Y : Type 0} (ys : List Y) → length ys ≡ 0 → ys ≡ []
empty [] e = refl
empty (y ∷ ys) e = absurd (omega arith)

module _ (E : Bx) where
  abbrev function : Fn
  function = inst_fn (args E) code.function

  abbrev Node : RattleType
  Node = Block.the_row (R E) (P E)

  abbrev Room : RattleType
  Room = Vacant E.al Node

  abbrev Out : RattleType
  Out = Tuple (R E ∷ Room ∷ [])

  abbrev ended : Ended
  ended = record { signature = record { lifetimes = 0; outlives = []; params = plain (λ _. Sr E) ∷ []; result = plain (λ _. Out) }; kept = (no, tt) }

  abbrev stayed : Stays ended.signature.params ended.kept
  stayed = (stay_dropped (plain (λ _. Sr E)) no, tt)

  abbrev spec : {M : Type 1} {𝓤 : Ura M} (𝓛 : Logic 𝓤) → Clauses 𝓤 ended
  spec {𝓤 = 𝓤} 𝓛 κs a = record { ghost = Unit {0}; requires = λ _. fact 𝓤 (length a.0.items ≡ 1); ensures = λ _ r w. fact 𝓤 (a.0.items ≡ r.0 ∷ []) }

module _ (E : Bx) {M : Type 1} {𝓤 : Ura M} (𝓛 : Logic 𝓤) (C : Calls 𝓤 𝓛.H) (Λ : Loops 𝓤 𝓛.H) (d : D E) (us : List Val) where
  open 𝓛 use {H}

  abbrev bound : (walk_of 𝓛 (ended E) (stayed E) (spec E 𝓛)).Ghost
  bound = ((tt, tt, tt, (d, tt), (us, tt)), tt)

  abbrev Post : Val → SProp 𝓤
  Post = (walk_of 𝓛 (ended E) (stayed E) (spec E 𝓛)).post bound

  abbrev Had : List (Item 𝓤)
  Had = ‵ (Held E d.blocks d.items) ∷ []

  walk : length d.items ≡ 1 → ent 𝓤 (⋆ 𝓛 Had) (WpFn 𝓤 H C Λ (function E) (words d.head d.tail ∷ []) Post)
  walk asked =
      let ok = d.ok in
      let ns = uncons d.blocks (omega arith) in
      let xs = uncons d.items (omega arith) in
      let m = ns.0 in
      let x = xs.0 in
      let many = ap length xs.2 in
      let only : d.items ≡ x ∷ [] = xs.2 ∙ ap (λ ys. x ∷ ys) (empty xs.1 (omega arith)) in
      let linked : IsChained d.head d.tail (m.0 ∷ links_of ns.1) = subst (λ ks. IsChained d.head d.tail (links_of ks)) ns.2 (IsChained-had _ _ _ d.chained) in
      qed 𝓛 Had ∵ enter ! C Λ (function E) (words d.head d.tail ∷ []) _ $
      alloc_all ! (λ l. pass_all ! refl (as_fields (ty_ptr ∷ ty_ptr ∷ []) (ptr_val d.head ∷ ptr_val d.tail ∷ []) (Ptr-Good d.head, (Ptr-Good d.tail, tt)), tt) $
      let En : Env 𝓤 H = env (function E).locals l in
      rewrite ! 0 (λ (ks : List (Link × Hd E)). ‵ (Held E ks d.items)) ns.2 refl $ rewrite ! 0 (λ (ys : List (X E)). ‵ (Held E (m ∷ ns.1) ys)) xs.2 refl $
      use1 𝓛 (‵ (One E m x) ⊛ ‵ (Held E ns.1 xs.1)) (cons_out E 𝓛 m ns.1 x xs.1) $ split ! $
      one_opens E ! m.0 m.1 x (λ b o e. node_unmade E ! b o m.0.1 m.0.2 m.1 x (λ v hv good fa.
      let room = vacant_typed E.al (Node E) hv b o fa in
      let both = pair_Typed (τ E) (vacant_ty E.al (Node E)) v (vacant_val hv b o) good room in
      let made : (Room E).Denot = record { ptr = block_ptr b o; alloc = m.1 } in
      -- [the node, in eight; the others, which are none]
      sets ! (is ! (of_opd ! (get_in ! (fld ! refl (stop !)) (sub ! 0 refl (whole !)))) (ap ptr_val (linked.0.0 ∙ e))) refl (tt, tt) $ sets ! (of_opd ! (get ! refl)) refl (tt, tt) $ first ! $ blocks ! $
      sets ! (addr ! (through ! refl (fld ! refl (stop !)))) refl (tt, tt) $ sets ! (of_opd ! (load ! (through ! refl (stop !)) (look ! 2 refl))) refl good $
      sets ! (addr ! (through ! refl (fld ! refl (stop !)))) refl (tt, tt) $ sets ! (of_opd ! (load ! (through ! refl (stop !)) (look ! 3 refl))) refl fa $
      sets ! (of_opd ! (get ! refl)) refl good $ sets ! (of_opd ! (get ! refl)) refl fa $ sets ! (agg ! (and_then ! (get ! refl) (and_then ! (get ! refl) (no_more !)))) refl room $
      sets_last ! (agg ! (and_then ! (get ! refl) (and_then ! (get ! refl) (no_more !)))) refl both $ exec ! C Λ En (after 3 (function E).body) (at_ret En Post) $ sets ! (of_opd ! (get ! refl)) refl both $
      block_back E ! b o m.0.1 m.0.2 v hv $ Vacant-made E.al (Node E) ! m.1 b o $ move ! (1 ∷ 0 ∷ []) $
      use2 𝓛 (‵ ((Out E).own_val (x, made) (pair_val v (vacant_val hv b o) ∷ []))) (pair_of 𝓛 (R E) (Room E) x made v (vacant_val hv b o)) $
      returns ! (look_at ! 0 refl) $ free_all ! refl $ keep ! (0 ∷ []) $
      suffices ! _ (ends_at 𝓛 (ended E) (stayed E) (spec E 𝓛) bound (pair_val v (vacant_val hv b o)) (x, made) (tt, tt) (tt, tt)) $ says ! only $
      nothing ! $ nothing ! $ fjoin ! $ join ! $ nothing ! $ join ! $ done !)))

  entry : length d.items ≡ 1 → ent 𝓤 (on_entry 𝓛 (ended E).signature tt tt (d, tt) (us, tt)) (WpFn 𝓤 H C Λ (function E) (us ++ []) Post)
  entry asked =
      qed 𝓛 (‵ ftrue ∷ ‵ (owns (Sr E ∷ []) (d, tt) (us, tt)) ∷ []) ∵ move ! (1 ∷ []) $ fsplit ! $ strand_had E ! d us (λ f. keep ! (0 ∷ []) $
      by ! (subst (λ (ws : List Val). ent 𝓤 (⋆ 𝓛 Had) (WpFn 𝓤 H C Λ (function E) (ws ++ []) Post)) (sym f) (walk asked)))

meets : (E : Bx) {M : Type 1} {𝓤 : Ura M} (𝓛 : Logic 𝓤) (𝓣 : Tables 𝓤 𝓛.H)
    → Meets 𝓛 (ended E).signature (WpFn 𝓤 𝓛.H 𝓣.C 𝓣.Λ (function E)) (closing 𝓛 (ended E) (spec E 𝓛))
meets E {𝓤 = 𝓤} 𝓛 𝓣 =
    walk_Meets 𝓛 (ended E) (stayed E) (Goes-dropped 𝓛 0 (plain (λ _. Sr E)) no (λ κs x f. refl), tt) (spec E 𝓛) (WpFn 𝓤 𝓛.H 𝓣.C 𝓣.Λ (function E)) (WpFn-mono 𝓤 𝓛.H 𝓛.laws 𝓣 (function E))
    (λ z. let a = z.0.3 in needs 𝓤 (length a.0.items ≡ 1) _ (entry E 𝓛 𝓣.C 𝓣.Λ a.0 z.0.4.0))

pub take_apart_spec : {M : Type 1} → stated.statement M
unfolding tables_of
take_apart_spec 𝓤 𝓛 𝓜 𝓡 wired Y Z L LZ g d dd met md y =
    let E : Bx = record { row = Y; laws = L; al = record { row = Z; laws = LZ; g = g; d = d; drops = dd } } in
    let A = 𝓛.A in
    let 𝓣 : Tables 𝓤 𝓛.H = tables_of 𝓤 𝓛.H 𝓜 (tables 𝓤 𝓛.H 𝓜 𝓡 𝓡.env) in
    spared 𝓛 (ended E).signature (𝓡.run (𝓡.env (#self (args E)))) (run_framed 𝓤 𝓛.H 𝓜 𝓡 (𝓡.env (#self (args E)))) 2 (Y.lives, (Z.lives, tt)) (closing 𝓛 (ended E) (spec E 𝓛))
    (entered 𝓤 𝓛.H (triple_of 𝓛 (ended E).signature (closing 𝓛 (ended E) (spec E 𝓛))) 𝓣.C 𝓣.Λ (#self (args E)) (function E) (code.unfolded 𝓤 𝓛.H 𝓜 𝓡 wired (Y, (Z, tt)) d dd) (meets E 𝓛 𝓣))
    ((y.0.0, y.0.1, tt, y.0.3, y.0.4), y.1)
