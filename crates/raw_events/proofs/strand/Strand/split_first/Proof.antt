-- `split_first` takes the first node off, as a strand of its own. Assumes `Logic`.
use mathlib.Core.Path.{◌≡◌, refl, sym, ap, subst, ◌∙◌}
use Prim.Native.Nat.{ℕ, ◌<◌}
use native.Mathlib.Omega.{arith}
use mathlib.Core.List.{List, [], ◌∷◌, ◌++◌}
use lib.ListN.{length}
use seplogic.Ra.Ura.{Ura}
use mir.Syntax.{Fn, named}
use mir.MapTy.{inst_fn}
use mir.Val.{Val, vptr}
use base.Logic.{SProp, ent, sep}
use base.Fml.{Lft, GName, Share, ftrue, flft, fobs, fbor}
use prog.Wp.{Env, Calls, Loops, WpFn, Tables}
use types.Logic.{Logic, sem}
use contract.Monad.{fact}
use contract.Running.{tables, tables_of}
use sound.WpLaws.{WpFn-mono}
use types.Kit.{Item, ⋆, ‵, ◌⊛◌, at_ret, ◌$◌, ◌∵◌, !, qed, by, move, keep, use1, use2, split, join, rewrite, fsplit, fsplit3, fjoin, fjoin3, feq_i, feq_l, suffices, frame, done}
use types.Part.{whole, sub, agg, look_in, store_in}
use types.Run.{look, stop, fld, load, of_opd, and_then, no_more, assigns_last, first, blocks, exec, returns, enter}
use types.ByLocal.{alloc_all, pass_all, free_all, look_at, get, through, sets, is, env}
use types.SemTy.{Body as Borrowed}
use denote.Exit.{yes}
use denote.RattleType.{owns}
use denote.Memory.{mem}
use denote.RawPtr.{Ptr, block_ptr, ptr_val}
use denote.Ref.{MutBor, MutRef}
use denote.Builtin.{RefMutOf}
use denote.Signature.{plain}
use denote.Steps.{nothing}
use denote.Triple.Carry.{spared}
use denote.Triple.Clauses.{Clauses, Ended, closing}
use denote.Triple.Entry.{on_entry}
use denote.Triple.Spec.{Meets, triple_of}
use denote.Triple.Table.{entered, run_framed}
use denote.Triple.Walked.{says, needs, Stays, stay_ref, walk_of, ends_at, Goes-ref, walk_Meets}
use Rattle.std_alloc.proofs.VecSteps.Shapes.{after}
use Rattle.std_alloc.proofs.RcSteps.{Ptr-Good}
use Rattle.std_alloc.proofs.BoxSteps.Form.{Bx, args, X}
use Rattle.std_collections.specs.LinkedList.Links.{Link, links_of, IsChained}
use Rattle.std_collections.proofs.ListMemory.Chained.{IsChained-had, IsChained-tail}
use Rattle.std_collections.proofs.ListMemory.Steps.{uncons, Hd, Held, One, cons_out, cons_in, one_opens, one_closes}
use Rattle.raw_events.proofs.Steps.{words, D, Sr, strand_made, strand_opens, strand_closes}
use Rattle.raw_events.specs.contracts.strand.Strand.split_first.Key.{name as #self}
use Rattle.raw_events.proofs.strand.Strand.split_first.Statement as stated
use Rattle.raw_events.proofs.strand.Strand.split_first.Code as code

module _ (E : Bx) where
  abbrev function : Fn
  function = inst_fn (args E) code.function

  abbrev ended : Ended
  ended = record { signature = record { lifetimes = 1; outlives = []; params = RefMutOf (0 ∷ []) tt (plain (λ _. Sr E)) (λ _. tt) ∷ []; result = plain (λ _. Sr E) }; kept = (yes, tt) }

  abbrev stayed : Stays ended.signature.params ended.kept
  stayed = (stay_ref (0 ∷ []) tt (plain (λ _. Sr E)), tt)

  abbrev Gives : D E → D E → D E → Type 0
  Gives d r e = (d.items ≡ r.items ++ e.items) × (length r.items ≡ 1)

  abbrev spec : {M : Type 1} {𝓤 : Ura M} (𝓛 : Logic 𝓤) → Clauses 𝓤 ended
  spec {𝓤 = 𝓤} 𝓛 κs a = record { ghost = Unit {0}; requires = λ _. fact 𝓤 (0 < length a.0.now.items); ensures = λ _ r w. fact 𝓤 (Gives a.0.now r w.0.now) }

module _ (E : Bx) {M : Type 1} {𝓤 : Ura M} (𝓛 : Logic 𝓤) (C : Calls 𝓤 𝓛.H) (Λ : Loops 𝓤 𝓛.H) (κ : Lft) (q : Share) (rb ro : ℕ) (γ : GName) (d : D E) (ps : List Val) where
  open 𝓛 use {H, A}

  abbrev self : MutBor (D E)
  self = record { ref_ptr = (rb, ro); ghost_name = γ; now = d }

  abbrev bound : (walk_of 𝓛 (ended E) (stayed E) (spec E 𝓛)).Ghost
  bound = (((κ, tt), (q, tt), tt, (self, tt), (ps, tt)), tt)

  abbrev Post : Val → SProp 𝓤
  Post = (walk_of 𝓛 (ended E) (stayed E) (spec E 𝓛)).post bound

  exits : ps ≡ vptr rb ro ∷ [] → (r : D E) (v : Val) (new : D E) → Gives E d r new
      → ent 𝓤 (sep 𝓤 (A.obs γ ((Sr E).coded.code new)) (sep 𝓤 (A.bor κ (Borrowed (mem (Sr E)) rb ro γ)) (sep 𝓤 (A.lft κ q) (sem 𝓛 ((Sr E).own_val r (v ∷ [])))))) (Post v)
  exits passed r v new e =
      qed 𝓛 (‵ (fobs γ ((Sr E).coded.code new)) ∷ ‵ (fbor κ (Borrowed (mem (Sr E)) rb ro γ)) ∷ ‵ (flft κ q) ∷ ‵ ((Sr E).own_val r (v ∷ [])) ∷ []) ∵
      suffices ! _ (ends_at 𝓛 (ended E) (stayed E) (spec E 𝓛) bound v r (new, tt) (tt, tt)) $ says ! e $
      nothing ! $ move ! (3 ∷ 0 ∷ []) $ join ! $ frame ! $ feq_i ! (List Val) ps (vptr rb ro ∷ []) passed $ fjoin3 ! $ nothing ! $ move ! (1 ∷ 0 ∷ []) $ fjoin ! $ done !

  abbrev Had : List (Item 𝓤)
  Had = ‵ (fobs γ ((Sr E).coded.code d)) ∷ ‵ (fbor κ (Borrowed (mem (Sr E)) rb ro γ)) ∷ ‵ (flft κ q) ∷ []

  walk : ps ≡ vptr rb ro ∷ [] → 0 < length d.items → ent 𝓤 (⋆ 𝓛 Had) (WpFn 𝓤 H C Λ (function E) (vptr rb ro ∷ []) Post)
  walk passed asked =
      let ok = d.ok in
      let ns = uncons d.blocks (omega arith) in
      let xs = uncons d.items asked in
      let m = ns.0 in
      let x = xs.0 in
      let long = ap length ns.2 in
      let many = ap length xs.2 in
      let linked : IsChained d.head d.tail (m.0 ∷ links_of ns.1) = subst (λ ks. IsChained d.head d.tail (links_of ks)) ns.2 (IsChained-had _ _ _ d.chained) in
      let at = linked.0.0 in
      let new : D E = record { head = m.0.1; tail = d.tail; items = xs.1; blocks = ns.1; ok = omega arith; chained = ∣ IsChained-tail d.head d.tail m.0 (links_of ns.1) linked ∣₁ } in
      qed 𝓛 Had ∵ enter ! C Λ (function E) (vptr rb ro ∷ []) _ $ alloc_all ! (λ l. pass_all ! refl ((tt, tt), tt) $
      let En : Env 𝓤 H = env (function E).locals l in
      strand_opens E ! tt d rb ro $
      rewrite ! 0 (λ (ks : List (Link × Hd E)). ‵ (Held E ks d.items)) ns.2 refl $ rewrite ! 0 (λ (ys : List (X E)). ‵ (Held E (m ∷ ns.1) ys)) xs.2 refl $
      use1 𝓛 (‵ (One E m x) ⊛ ‵ (Held E ns.1 xs.1)) (cons_out E 𝓛 m ns.1 x xs.1) $ split ! $
      one_opens E ! m.0 m.1 x (λ b o e.
      let p : Ptr = block_ptr b o in
      let node : Link × Hd E = ((p, m.0.1, m.0.2), m.1) in
      let out : D E = record { head = p; tail = p; items = x ∷ []; blocks = node ∷ []; ok = refl; chained = ∣ ((refl, tt), refl) ∣₁ } in
      -- [the element; next; prev; what frees the node; the others; the words; the open borrow; obs; auth]
      sets ! (is ! (of_opd ! (load ! (through ! refl (fld ! refl (stop !))) (look_in ! 5 (sub ! 0 refl (whole !))))) (ap ptr_val (at ∙ e))) refl (tt, tt) $ first ! $ blocks ! $
      sets ! (of_opd ! (load ! (through ! refl (fld ! refl (stop !))) (look ! 1 refl))) refl (Ptr-Good m.0.1) $
      assigns_last ! (of_opd ! (get ! refl)) (through ! refl (fld ! refl (stop !))) (store_in ! 5 (sub ! 0 refl (whole !)) (Ptr-Good m.0.1)) $
      exec ! C Λ En (after 2 (function E).body) (at_ret En Post) $
      sets ! (agg ! (and_then ! (get ! refl) (and_then ! (get ! refl) (no_more !)))) refl (tt, (tt, (tt, tt))) $
      one_closes E ! b o m.0.1 m.0.2 m.1 x $ nothing ! $ nothing ! $ fjoin ! $ move ! (1 ∷ 0 ∷ []) $
      use2 𝓛 (‵ (Held E out.blocks out.items)) (cons_in E 𝓛 node [] x []) $ strand_made E ! out $
      move ! (1 ∷ 2 ∷ 3 ∷ 4 ∷ 5 ∷ []) $ strand_closes E ! tt new rb ro $
      returns ! (look_at ! 0 refl) $ free_all ! refl $ keep ! (0 ∷ 1 ∷ 2 ∷ 3 ∷ []) $ by ! (exits passed out (words p p) new (xs.2, refl))))

  entry : 0 < length d.items → ent 𝓤 (on_entry 𝓛 (ended E).signature (κ, tt) (q, tt) (self, tt) (ps, tt)) (WpFn 𝓤 H C Λ (function E) (ps ++ []) Post)
  entry asked =
      qed 𝓛 ((‵ (flft κ q) ⊛ ‵ ftrue) ∷ ‵ (owns (MutRef (named 0) κ (Sr E) ∷ []) (self, tt) (ps, tt)) ∷ []) ∵ split ! $ move ! (2 ∷ []) $ fsplit ! $ fsplit3 ! $ feq_l ! (λ e. keep ! (0 ∷ 1 ∷ 3 ∷ []) $
      by ! (subst (λ (ws : List Val). ent 𝓤 (⋆ 𝓛 Had) (WpFn 𝓤 H C Λ (function E) (ws ++ []) Post)) (sym e) (walk e asked)))

meets : (E : Bx) {M : Type 1} {𝓤 : Ura M} (𝓛 : Logic 𝓤) (𝓣 : Tables 𝓤 𝓛.H)
    → Meets 𝓛 (ended E).signature (WpFn 𝓤 𝓛.H 𝓣.C 𝓣.Λ (function E)) (closing 𝓛 (ended E) (spec E 𝓛))
meets E {𝓤 = 𝓤} 𝓛 𝓣 =
    walk_Meets 𝓛 (ended E) (stayed E) (Goes-ref 𝓛 1 0 tt (plain (λ _. Sr E)), tt) (spec E 𝓛) (WpFn 𝓤 𝓛.H 𝓣.C 𝓣.Λ (function E)) (WpFn-mono 𝓤 𝓛.H 𝓛.laws 𝓣 (function E))
    (λ z. let a = z.0.3.0 in needs 𝓤 (0 < length a.now.items) _ (entry E 𝓛 𝓣.C 𝓣.Λ z.0.0.0 z.0.1.0 a.ref_ptr.0 a.ref_ptr.1 a.ghost_name a.now z.0.4.0))

pub split_first_spec : {M : Type 1} → stated.statement M
unfolding tables_of
split_first_spec 𝓤 𝓛 𝓜 𝓡 wired Y Z L LZ g d dd met md y =
    let E : Bx = record { row = Y; laws = L; al = record { row = Z; laws = LZ; g = g; d = d; drops = dd } } in
    let A = 𝓛.A in
    let 𝓣 : Tables 𝓤 𝓛.H = tables_of 𝓤 𝓛.H 𝓜 (tables 𝓤 𝓛.H 𝓜 𝓡 𝓡.env) in
    spared 𝓛 (ended E).signature (𝓡.run (𝓡.env (#self (args E)))) (run_framed 𝓤 𝓛.H 𝓜 𝓡 (𝓡.env (#self (args E)))) 2 (Y.lives, (Z.lives, tt)) (closing 𝓛 (ended E) (spec E 𝓛))
    (entered 𝓤 𝓛.H (triple_of 𝓛 (ended E).signature (closing 𝓛 (ended E) (spec E 𝓛))) 𝓣.C 𝓣.Λ (#self (args E)) (function E) (code.unfolded 𝓤 𝓛.H 𝓜 𝓡 wired (Y, (Z, tt)) d dd) (meets E 𝓛 𝓣))
    ((y.0.0, y.0.1, tt, y.0.3, y.0.4), y.1)
