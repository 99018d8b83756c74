-- `write` puts the value into the room, at any type of value. Assumes `Logic`.
use Rattle.std.proofs.Common.{◌≡◌, ℕ, List, [], ◌∷◌, ◌++◌, MutBor, refl, sym, subst}
use Rattle.std.specs.Prelude.{None, Some}
use Rattle.slot_arena.proofs.Prelude
use Prelude.{after, alloc_all, args, assigns_last, at_ret, blocks, Bx, by, Calls}
use Prelude.{Clauses, closing, done, Ended, ends_at, ent, enter, entered, Env, env, exec, fact, feq_i}
use Prelude.{first, fjoin, fld, flft, Fn, frame, free_all, fsplit, ftrue, full_share, get, GName}
use Prelude.{Goes-dropped, Good, init, inst_fn, join, keep, Lft, load, Logic, look_at, Loops, Meets, mem}
use Prelude.{move, named, no, nothing, of_opd, on_entry, own, owns, part_at, pass_all, plain, qed, R}
use Prelude.{returns, run_framed, says, sets, Share, spared, split, SProp, stay_dropped, Stays, stop, sub}
use Prelude.{suffices, Tables, tables, through, triple_of, Ura, use2, Val, vptr, walk_Meets, walk_of}
use Prelude.{whole, WpFn, WpFn-mono, X, τ, !, ‵, ◌$◌, ◌∵◌, ◌⊛◌}
use Rattle.std.proofs.BoxSteps.Steps.{el_in, el_tells}
use Rattle.std.proofs.RawLayout.{as_written}
use base.Fml.{fbor, fobs}
use contract.Running.{tables_of}
use denote.Builtin.{RefMutOf, unit}
use denote.Exit.{yes}
use denote.Ref.{MutRef}
use denote.Steps.{closes}
use denote.Triple.Walked.{Goes-ref, needs, stay_ref}
use mir.Val.{vunit}
use types.Kit.{feq_l, fjoin3, fsplit3, Item, rewrite, ⋆}
use types.Part.{look_in}
use types.Run.{unit_lit}
use types.SemTy.{Body as Borrowed}
use Rattle.slot_arena.specs.Lending.{with_value}
use Rattle.slot_arena.proofs.CellSteps.{cell_in, cell_opens}
use Rattle.slot_arena.proofs.Cells.{Cell, D, Held, inside, word}
use Rattle.slot_arena.specs.contracts.cell.RawCell.write.Key.{name as #self}
use Rattle.slot_arena.proofs.cell.RawCell.write.Statement as stated
use Rattle.slot_arena.proofs.cell.RawCell.write.Code as code

module _ (E : Bx) where
  abbrev fn' : Fn
  fn' = inst_fn (args E) code.function

  abbrev ended : Ended
  ended =
      record {
        signature =
            record {
              lifetimes = 1;
              outlives = [];
              params = RefMutOf (0 ∷ []) tt (plain (λ _. Cell E)) (λ _. tt) ∷ plain (λ _. R E) ∷ [];
              result = plain (λ _. unit);
            };
        kept = (yes, (no, tt));
      }

  abbrev stayed : Stays ended.signature.params ended.kept
  stayed = (stay_ref (0 ∷ []) tt (plain (λ _. Cell E)), (stay_dropped (plain (λ _. R E)) no, tt))

  abbrev spec : {M : Type 1} (𝓤 : Ura M) → Clauses 𝓤 ended
  spec 𝓤 κs a =
      record {
        ghost = Unit {0};
        requires = λ _. fact 𝓤 (a.0.now.held ≡ None);
        ensures = λ _ _ w. fact 𝓤 (w.0.now.held ≡ Some a.1.0);
      }

module _ (E : Bx) {M : Type 1} {𝓤 : Ura M} (𝓛 : Logic 𝓤) (C : Calls 𝓤 𝓛.H) (Λ : Loops 𝓤 𝓛.H) (κ : Lft) (q : Share)
    (rb ro : ℕ) (γ : GName) (d : D E) (x : X E) (us vs : List Val) where
  open 𝓛 use {H}

  abbrev self : MutBor (D E)
  self = record { ref_ptr = (rb, ro); ghost_name = γ; now = d }

  abbrev bound : (walk_of 𝓛 (ended E) (stayed E) (spec E 𝓤)).Ghost
  bound = (((κ, tt), (q, tt), tt, (self, (x, tt)), (us, (vs, tt))), tt)

  abbrev Post : Val → SProp 𝓤
  Post = (walk_of 𝓛 (ended E) (stayed E) (spec E 𝓤)).post bound

  -- the open borrow's parts at this cell, and the token
  abbrev Borrow : D E → List (Item 𝓤) → List (Item 𝓤)
  Borrow c more =
      ‵ (fobs γ ((Cell E).coded.code c)) ∷ ‵ (fbor κ (Borrowed (mem (Cell E)) rb ro γ)) ∷ ‵ (flft κ q) ∷ more

  exits : us ≡ vptr rb ro ∷ [] → ent 𝓤 (⋆ 𝓛 (Borrow (with_value d x) [])) (Post vunit)
  exits passed =
      qed 𝓛 (Borrow (with_value d x) []) ∵
      suffices ! _ (ends_at 𝓛 (ended E) (stayed E) (spec E 𝓤) bound vunit tt (with_value d x, (tt, tt))
      (tt, (tt, tt))) $ says ! refl $
      feq_i ! (List Val) (vunit ∷ []) (vunit ∷ []) refl $ move ! (1 ∷ 2 ∷ 3 ∷ 0 ∷ []) $
      nothing ! $ move ! (3 ∷ 0 ∷ []) $ join ! $ frame ! $ feq_i ! (List Val) us (vptr rb ro ∷ []) passed $ fjoin3 ! $
      nothing ! $ nothing ! $ fjoin ! $ move ! (1 ∷ 0 ∷ []) $ fjoin ! $ done !

  walk : us ≡ vptr rb ro ∷ [] → d.held ≡ None → (v : Val) → Good E v
      → ent 𝓤 (⋆ 𝓛 (Borrow d (‵ (own E x (v ∷ [])) ∷ []))) (WpFn 𝓤 H C Λ (fn' E) (vptr rb ro ∷ v ∷ []) Post)
  walk passed vacant v t =
      qed 𝓛 (Borrow d (‵ (own E x (v ∷ [])) ∷ [])) ∵
      enter ! C Λ (fn' E) (vptr rb ro ∷ v ∷ []) _ $ alloc_all ! (λ l. pass_all ! refl ((tt, tt), (t, tt)) $
      let En : Env 𝓤 H = env (fn' E).locals l in
      cell_opens E ! tt d rb ro (λ b o hv at_b.
      rewrite ! 0 (λ (c : Held E). ‵ (inside E c b o)) vacant refl $ as_written ! (τ E) b o $
      first ! $ blocks ! $
      sets ! (of_opd ! (load ! (through ! refl (fld ! refl (stop !))) (look_in ! 2 (sub ! 0 refl (whole !))))) refl
      (tt, tt) $
      sets ! (of_opd ! (get ! refl)) refl t $
      assigns_last ! (of_opd ! (get ! refl)) (through ! refl (stop !)) (init ! 0 refl t) $
      exec ! C Λ En (after 1 (fn' E).body) (at_ret En Post) $
      sets ! (of_opd ! (unit_lit !)) refl (tt, tt) $
      move ! (0 ∷ 6 ∷ []) $ use2 𝓛 (‵ (part_at (R E) full_share x b o)) (el_in E 𝓛 x b o v) $
      move ! (1 ∷ []) $ fsplit ! $ move ! (2 ∷ []) $ cell_in E ! (with_value d x) b o (Some x) at_b refl $
      move ! (1 ∷ []) $ closes ! tt (Cell E) (with_value d x) (word E hv b o ∷ []) rb ro $
      returns ! (look_at ! 0 refl) $ free_all ! refl $ keep ! (0 ∷ 1 ∷ 2 ∷ []) $ by ! (exits passed)))

  entry : d.held ≡ None → ent 𝓤 (on_entry 𝓛 (ended E).signature (κ, tt) (q, tt) (self, (x, tt)) (us, (vs, tt)))
      (WpFn 𝓤 H C Λ (fn' E) (us ++ (vs ++ [])) Post)
  entry vacant =
      qed 𝓛 ((‵ (flft κ q) ⊛ ‵ ftrue) ∷ ‵ (owns (MutRef (named 0) κ (Cell E) ∷ R E ∷ []) (self, (x, tt))
      (us, (vs, tt))) ∷ []) ∵
      split ! $ move ! (2 ∷ []) $ fsplit ! $ fsplit3 ! $ feq_l ! (λ passed. move ! (2 ∷ []) $ fsplit ! $
      el_tells E ! x vs (λ v ev t. keep ! (2 ∷ 3 ∷ 4 ∷ 0 ∷ []) $
      by ! (subst (λ (ws : List Val × List Val). ent 𝓤 (⋆ 𝓛 (Borrow d (‵ (own E x (v ∷ [])) ∷ [])))
      (WpFn 𝓤 H C Λ (fn' E) (ws.0 ++ (ws.1 ++ [])) Post))
      (λ i. (sym passed i, sym ev i)) (walk passed vacant v t))))

meets : (E : Bx) {M : Type 1} {𝓤 : Ura M} (𝓛 : Logic 𝓤) (𝓣 : Tables 𝓤 𝓛.H)
    → Meets 𝓛 (ended E).signature (WpFn 𝓤 𝓛.H 𝓣.C 𝓣.Λ (fn' E)) (closing 𝓛 (ended E) (spec E 𝓤))
meets E {𝓤 = 𝓤} 𝓛 𝓣 =
    walk_Meets 𝓛 (ended E) (stayed E) (
      Goes-ref 𝓛 1 0 tt (plain (λ _. Cell E)),
      (Goes-dropped 𝓛 1 (plain (λ _. R E)) no (λ κs x f. refl), tt),
    )
    (spec E 𝓤) (WpFn 𝓤 𝓛.H 𝓣.C 𝓣.Λ (fn' E)) (WpFn-mono 𝓤 𝓛.H 𝓛.laws 𝓣 (fn' E))
    (λ z. let s = z.0.3.0 in needs 𝓤 (s.now.held ≡ None) _
    (entry E 𝓛 𝓣.C 𝓣.Λ z.0.0.0 z.0.1.0 s.ref_ptr.0 s.ref_ptr.1 s.ghost_name s.now z.0.3.1.0 z.0.4.0 z.0.4.1.0))

pub write_spec : {M : Type 1} → stated.statement M
unfolding tables_of
write_spec 𝓤 𝓛 𝓜 𝓡 wired Y Z L LZ g d dd met md y =
    let E : Bx = record { row = Y; laws = L; al = record { row = Z; laws = LZ; g = g; d = d; drops = dd } } in
    let A = 𝓛.A in
    let 𝓣 : Tables 𝓤 𝓛.H = tables_of 𝓤 𝓛.H 𝓜 (tables 𝓤 𝓛.H 𝓜 𝓡 𝓡.env) in
    let clauses = closing 𝓛 (ended E) (spec E 𝓤) in
    let run = 𝓡.run (𝓡.env (#self (args E))) in
    let framed = run_framed 𝓤 𝓛.H 𝓜 𝓡 (𝓡.env (#self (args E))) in
    let unfolded = code.unfolded 𝓤 𝓛.H 𝓜 𝓡 wired (Y, (Z, tt)) d dd in
    spared 𝓛 (ended E).signature run framed 2 (Y.lives, (Z.lives, tt)) clauses
    (entered 𝓤 𝓛.H (triple_of 𝓛 (ended E).signature clauses) 𝓣.C 𝓣.Λ (#self (args E)) (fn' E) unfolded (meets E 𝓛 𝓣))
    ((y.0.0, y.0.1, tt, y.0.3, y.0.4), y.1)
