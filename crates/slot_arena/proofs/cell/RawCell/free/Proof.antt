-- `free` joins the block again, lends the handle for the call, and returns it. Assumes `Logic`.
use Rattle.std.proofs.Common.{◌≡◌, ℕ, ◌+◌, T, List, [], ◌∷◌, ◌++◌, refl, sym, ap, subst}
use Rattle.std.specs.Prelude.{None}
use Rattle.slot_arena.proofs.Prelude
use Prelude.{addr, after, align, align-raw, align_word, alloc_all, and_then, args, at_ret, await}
use Prelude.{block_ptr, blocks, Bx, by, Calls, capped, capped_fits, Clauses, closing, done, fact}
use Prelude.{Ended, ends_at, ent, enter, entered, Env, env, exec, first, Fits, fjoin, fld, flft}
use Prelude.{fm_of, FmC, Fn, free_all, from, froom, fsplit, ftrue, Fun, get, get_in, give_at}
use Prelude.{given, Goes-blank, has_ty, Incl-trans, inst_fn, join, keep, later, learn, Lft, Logic}
use Prelude.{look_at, Loops, meet_⊑_right, Meets, Memory, move, no, no_more, nothing, of_opd}
use Prelude.{on_entry, owns, pass_all, plain, qed, raw, returns, Routine, says, second, sem, sep}
use Prelude.{sets, Share, size, size-raw, size_word, split3, SProp, stay_dropped, Stays, stop, sub}
use Prelude.{suffices, Tables, tables, take_at, tcons, tnil, Triple, triple_of, Ty, ty_ptr, Ura}
use Prelude.{use1, Val, vcons, vnil, vptr, walk_Meets, walk_of, whole, WpFn, WpFn-mono, WT, α}
use Prelude.{τ, !, ‵, ◌$◌, ◌∵◌, ◌⊑◌, ◌⊛◌}
use Rattle.std.proofs.alloc.Calls.{at_gives, Gives, Gives-Gives, Gives-goes, gives_key}
use Rattle.std.proofs.alloc.Calls.{lends_field, takes_back}
use contract.Running.{tables_of}
use denote.Triple.Call.{calls_at_last}
use denote.Triple.Walked.{needs}
use mir.Syntax.{ty_unit, Tys}
use mir.Val.{Vals, vunit}
use prog.Memory.{up}
use types.ByLocal.{lands_last}
use types.Kit.{rewrite, use3}
use Rattle.slot_arena.proofs.CellSteps.{cell_out}
use Rattle.slot_arena.proofs.Cells.{block, Cell, cell, cell_typed, D, Held, inside, word}
use mir.Raw.{raw as bare}
use Rattle.slot_arena.specs.contracts.cell.RawCell.free as F
use Rattle.slot_arena.specs.contracts.cell.RawCell.free.Key.{name as #self}
use Rattle.slot_arena.proofs.cell.RawCell.free.Statement as stated
use Rattle.slot_arena.proofs.cell.RawCell.free.Code as code

module _ (E : Bx) where
  abbrev fn' : Fn
  fn' = inst_fn (args E) code.function

  abbrev ended : Ended
  ended = F.ended E.row E.al.row E.al.g E.al.d E.al.drops

  abbrev clauses : {M : Type 1} {𝓤 : Ura M} (𝓛 : Logic 𝓤) → (Memory → SProp 𝓤) → (Routine → Fun 𝓤) → Clauses 𝓤 ended
  clauses 𝓛 = F.clauses E.row E.al.row E.al.g E.al.d E.al.drops 𝓛

  abbrev stayed : Stays ended.signature.params ended.kept
  stayed = (stay_dropped (plain (λ _. Cell E)) no, tt)

module _ (E : Bx) {M : Type 1} {𝓤 : Ura M} (𝓛 : Logic 𝓤) (at_mem : Memory → SProp 𝓤) (run : Routine → Fun 𝓤)
    (C : Calls 𝓤 𝓛.H) (Λ : Loops 𝓤 𝓛.H) (fm : FmC 𝓤 𝓛.H 𝓛.laws C)
    (callee : Triple 𝓤 (C (gives_key E.al)) (Gives E.al 𝓛 at_mem run)) (κT ρ : Lft) (qT qρ : Share)
    (within : ρ ⊑ E.al.row.lives) (d : D E) (vs : List Val) where
  open 𝓛 use {H, A}

  abbrev bound : (walk_of 𝓛 (ended E) (stayed E) (clauses E 𝓛 at_mem run)).Ghost
  bound = (((κT, (ρ, tt)), (qT, (qρ, tt)), tt, (d, tt), (vs, tt)), tt)

  abbrev Post : Val → SProp 𝓤
  Post = (walk_of 𝓛 (ended E) (stayed E) (clauses E 𝓛 at_mem run)).post bound

  abbrev a : E.al.row.Denot
  a = d.alloc

  -- the room, the rest of the block, the handle and the lifetimes
  abbrev Had : Val → ℕ → ℕ → SProp 𝓤
  Had hv b o =
      sep 𝓤 (H.room (bare (τ E)) b o) (sep 𝓤 (sem 𝓛 (block E a (block_ptr b o)))
      (sep 𝓤 (sem 𝓛 (E.al.row.own_val a (hv ∷ []))) (sep 𝓤 (A.lft ρ qρ) (A.lft κT qT))))

  exits : (v : Val) → ent 𝓤 (sep 𝓤 (sem 𝓛 (E.al.row.own_val a (v ∷ []))) (sep 𝓤 (A.lft κT qT) (A.lft ρ qρ))) (Post v)
  exits v =
      qed 𝓛 (‵ (E.al.row.own_val a (v ∷ [])) ∷ ‵ (flft κT qT) ∷ ‵ (flft ρ qρ) ∷ []) ∵
      suffices ! _ (ends_at 𝓛 (ended E) (stayed E) (clauses E 𝓛 at_mem run) bound v a ((tt, (tt, tt)), tt) (tt, tt)) $
      says ! refl $ nothing ! $ nothing ! $ fjoin ! $ join ! $ nothing ! $ move ! (3 ∷ 0 ∷ []) $ join ! $
      move ! (2 ∷ 0 ∷ []) $ join ! $ join ! $ done !

  walk : (hv : Val) (b o : ℕ) → Fits E.al hv → ent 𝓤 (Had hv b o) (WpFn 𝓤 H C Λ (fn' E) (word E hv b o ∷ []) Post)
  walk hv b o fa =
      let typed = cell_typed E hv b o fa in let σ : Ty = τ E in
      qed 𝓛 (‵ (froom (bare (τ E)) b o) ∷ ‵ (block E a (block_ptr b o)) ∷ ‵ (E.al.row.own_val a (hv ∷ []))
      ∷ ‵ (flft ρ qρ) ∷ ‵ (flft κT qT) ∷ []) ∵
      enter ! C Λ (fn' E) (word E hv b o ∷ []) _ $ alloc_all ! (λ l. pass_all ! refl (typed, tt) $
      let En : Env 𝓤 H = env (fn' E).locals l in
      let s : ℕ = capped (size σ) in
      let al : ℕ = capped (align σ) in
      let at : ℕ = up (align (α E.al)) 8 in
      let words : Vals = vcons (vptr b o) (vcons hv vnil) in
      let fields : Tys = tcons ty_ptr (tcons (α E.al) tnil) in
      sets ! (of_opd ! (get ! refl)) refl typed $ first ! $ blocks ! $
      sets ! (addr ! (from ! (fld ! refl (stop !)))) refl (tt, tt) $
      sets ! (of_opd ! (get_in ! (fld ! refl (stop !)) (sub ! 0 refl (whole !)))) refl (tt, tt) $
      sets ! (of_opd ! (get ! refl)) refl (tt, tt) $
      take_at ! 2 $ move ! (0 ∷ 3 ∷ 4 ∷ []) $
      lends_field E.al (cell E).name fields 1 at (l 2) 0 words a ρ qρ ! tt refl within (λ m.
      let κ : Lft = m.0 ∷ ρ in
      let hp : ℕ × ℕ = (l 2, 0 + at) in
      let y : (Gives E.al 𝓛 at_mem run).Ghost = at_gives E.al 𝓛 at_mem run κ m.1 hp a b o s al (bare σ) in
      join ! $ move ! (2 ∷ 3 ∷ 0 ∷ []) $ use3 𝓛 (raw ((Gives E.al 𝓛 at_mem run).pre y))
      (Gives-goes E.al 𝓛 at_mem run κ m.1 hp a (Incl-trans (meet_⊑_right (m.0 ∷ []) ρ) within) b o s al (bare σ)
      (ap capped (size-raw σ)) (ap capped (align-raw σ)) (capped_fits (size σ)) (capped_fits (align σ))) $
      calls_at_last ! fm (Gives E.al 𝓛 at_mem run) callee y
      (and_then ! (get ! refl) (and_then ! (get ! refl) (and_then ! (size_word !) (and_then ! (align_word !)
      (no_more !))))) (λ v.
      use1 𝓛 (later (given (v ≡ vunit) (‵ (flft κ m.1)))) (Gives-Gives E.al 𝓛 at_mem run κ m.1 hp a b o s al
      (bare σ) v) $
      await ! tt $ learn ! (λ e.
      takes_back E.al (cell E).name fields 1 at (l 2) 0 words a ρ qρ ! tt m (λ hv' fa'. give_at ! 2 $
      lands_last ! refl (subst (λ (z : Val). T (has_ty ty_unit z) × WT z) (sym e) (tt, tt)) $
      exec ! C Λ En (after 2 (fn' E).body) (at_ret En Post) $
      sets ! (of_opd ! (get_in ! (fld ! refl (stop !)) (sub ! 1 refl (whole !)))) refl fa' $
      sets ! (of_opd ! (get ! refl)) refl fa' $
      returns ! (look_at ! 0 refl) $ free_all ! refl $ keep ! (0 ∷ 2 ∷ 1 ∷ []) $ by ! (exits hv'))))))

  entry : d.held ≡ None → ent 𝓤 (on_entry 𝓛 (ended E).signature (κT, (ρ, tt)) (qT, (qρ, tt)) (d, tt) (vs, tt))
      (WpFn 𝓤 H C Λ (fn' E) (vs ++ []) Post)
  entry none =
      qed 𝓛 ((‵ (flft κT qT) ⊛ ‵ (flft ρ qρ) ⊛ ‵ ftrue) ∷ ‵ (owns (Cell E ∷ []) (d, tt) (vs, tt)) ∷ []) ∵
      split3 ! $ move ! (3 ∷ []) $ fsplit ! $ cell_out E ! d vs (λ b o hv e is fa.
      rewrite ! 0 (λ (c : Held E). ‵ (inside E c b o)) none refl $ keep ! (0 ∷ 1 ∷ 2 ∷ 5 ∷ 4 ∷ []) $
      by ! (subst (λ (ws : List Val). ent 𝓤 (Had hv b o) (WpFn 𝓤 H C Λ (fn' E) (ws ++ []) Post)) (sym is)
      (walk hv b o fa)))

meets : (E : Bx) {M : Type 1} {𝓤 : Ura M} (𝓛 : Logic 𝓤) (at_mem : Memory → SProp 𝓤) (run : Routine
    → Fun 𝓤) (𝓣 : Tables 𝓤 𝓛.H)
    → Triple 𝓤 (𝓣.C (gives_key E.al)) (Gives E.al 𝓛 at_mem run)
    → Meets 𝓛 (ended E).signature (WpFn 𝓤 𝓛.H 𝓣.C 𝓣.Λ (fn' E)) (closing 𝓛 (ended E) (clauses E 𝓛 at_mem run))
meets E {𝓤 = 𝓤} 𝓛 at_mem run 𝓣 callee =
    walk_Meets 𝓛 (ended E) (stayed E) (Goes-blank 𝓛 2 (plain (λ _. Cell E)) no (λ κs x f. tt), tt)
    (clauses E 𝓛 at_mem run)
    (WpFn 𝓤 𝓛.H 𝓣.C 𝓣.Λ (fn' E)) (WpFn-mono 𝓤 𝓛.H 𝓛.laws 𝓣 (fn' E))
    (λ z. let κs = z.0.0 in let qs = z.0.1 in
    let On : SProp 𝓤 = on_entry 𝓛 (ended E).signature κs qs z.0.3 z.0.4 in
    let Vacant : Type 0 = z.0.3.0.held ≡ None in
    second 𝓤 (κs.0 ⊑ E.row.lives) (κs.1.0 ⊑ E.al.row.lives) On (fact 𝓤 Vacant) (λ within. needs 𝓤 Vacant On
    (entry E 𝓛 at_mem run 𝓣.C 𝓣.Λ (fm_of 𝓤 𝓛.H 𝓛.laws 𝓣) callee κs.0 κs.1.0 qs.0 qs.1.0 within z.0.3.0 z.0.4.0)))

pub free_spec : {M : Type 1} → stated.statement M
unfolding tables_of
free_spec 𝓤 𝓛 𝓜 𝓡 wired Y Z L LZ g d dd met md =
    let E : Bx = record { row = Y; laws = L; al = record { row = Z; laws = LZ; g = g; d = d; drops = dd } } in
    let A = 𝓛.A in
    let 𝓣 : Tables 𝓤 𝓛.H = tables_of 𝓤 𝓛.H 𝓜 (tables 𝓤 𝓛.H 𝓜 𝓡 𝓡.env) in
    let spec = F.spec Y Z g d dd 𝓛 𝓜.mem 𝓡.returns in
    let unfolded = code.unfolded 𝓤 𝓛.H 𝓜 𝓡 wired (Y, (Z, tt)) d dd in
    entered 𝓤 𝓛.H (triple_of 𝓛 (ended E).signature spec) 𝓣.C 𝓣.Λ (#self (args E)) (fn' E) unfolded
    (meets E 𝓛 𝓜.mem 𝓡.returns 𝓣 (met.deallocate dd))
