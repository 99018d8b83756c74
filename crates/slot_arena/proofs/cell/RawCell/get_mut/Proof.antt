-- `get_mut` lends the value, and the cell follows it. Assumes `Logic`.
use Rattle.std.proofs.Common.{◌≡◌, ℕ, List, [], ◌∷◌, refl, MutBor}
use Rattle.std.specs.Prelude.{Some}
use Rattle.slot_arena.proofs.Prelude
use Prelude.{addr, after, alloc_all, args, at_ret, await, block_ptr, blocks, Bx, by, Calls}
use Prelude.{cell_at, Clauses, closing, done, drop, Ended, ends_at, ent, enter, entered, Env}
use Prelude.{env, exec, fact, first, fjoin, fld, flft, Fml, Fn, fpack, frame, free_all, fsep}
use Prelude.{fsplit, ftrue, full_share, get, GName, handle, inst_fn, join, keep, later, Lft}
use Prelude.{Logic, look_at, Loops, Meets, mem, move, named, no, nothing, of_opd, on_entry}
use Prelude.{owns, part_at, pass_all, pick, plain, qed, R, raw, returns, run_framed, says, sem}
use Prelude.{sep, sets, sets_last, Share, some, spared, split, SProp, stay_dropped, Stays, stop}
use Prelude.{sub, suffices, Tables, tables, through, triple_of, Ura, use1, Val, vptr}
use Prelude.{walk_Meets, walk_of, walked, whole, WpFn, WpFn-mono, X, !, ‵, ◌$◌, ◌∵◌, ◌⊛◌}
use contract.Running.{tables_of}
use denote.Builtin.{RefMutOf}
use denote.Follow.{follows, lends_Part, Part}
use denote.Memory.{part_of}
use denote.Ref.{mut_Tells, mut_vals, MutRef}
use denote.Signature.{mut_ref_to}
use denote.Triple.Walked.{Goes-spent_ref, needs}
use types.Kit.{fsplit3, group, rewrite}
use types.Part.{look_in}
use types.Run.{hop}
use Rattle.slot_arena.specs.Lending.{with_value}
use Rattle.slot_arena.proofs.CellSteps.{cell_in, cell_opens}
use Rattle.slot_arena.proofs.Cells.{block, Cell, D, Held, inside, word}
use Rattle.slot_arena.specs.contracts.cell.RawCell.get_mut.Key.{name as #self}
use Rattle.slot_arena.proofs.cell.RawCell.get_mut.Statement as stated
use Rattle.slot_arena.proofs.cell.RawCell.get_mut.Code as code

module _ (E : Bx) where
  abbrev fn' : Fn
  fn' = inst_fn (args E) code.function

  abbrev ended : Ended
  ended =
      record {
        signature =
            record {
              lifetimes = 1;
              outlives = [];
              params = RefMutOf (0 ∷ []) tt (plain (λ _. Cell E)) (λ _. tt) ∷ [];
              result = RefMutOf (0 ∷ []) tt (plain (λ _. R E)) (λ _. tt);
            };
        kept = (no, tt);
      }

  abbrev stayed : Stays ended.signature.params ended.kept
  stayed = (stay_dropped (mut_ref_to (0 ∷ []) tt (plain (λ _. Cell E))) no, tt)

  abbrev Asks : D E → Type 0
  Asks d = (x : X E) × (d.held ≡ Some x)

  abbrev spec : {M : Type 1} {𝓤 : Ura M} (𝓛 : Logic 𝓤) → Clauses 𝓤 ended
  spec {𝓤 = 𝓤} 𝓛 κs a =
      record {
        ghost = Unit {0};
        requires = λ _. fact 𝓤 (Asks a.0.now);
        ensures = λ _ r _.
            sep 𝓤 (sem 𝓛 (follows (Cell E) (R E) a.0.ghost_name r.ghost_name (with_value a.0.now)))
            (fact 𝓤 (a.0.now.held ≡ Some r.now));
      }

module _ (E : Bx) {M : Type 1} {𝓤 : Ura M} (𝓛 : Logic 𝓤) (κ : Lft) (q : Share) (rb ro : ℕ) (γ : GName) (h : D E)
    (x : X E) (held : h.held ≡ Some x) where
  open 𝓛 use {H, A}

  abbrev bound : (walk_of 𝓛 (ended E) (stayed E) (spec E 𝓛)).Ghost
  bound = (
    (
      (κ, tt),
      (q, tt),
      tt,
      (record { ref_ptr = (rb, ro); ghost_name = γ; now = h }, tt),
      (
        vptr rb ro
            ∷ [],
        tt,
      ),
    ),
    tt,
  )

  abbrev Post : Val → SProp 𝓤
  Post = (walk_of 𝓛 (ended E) (stayed E) (spec E 𝓛)).post bound

  module _ (b o : ℕ) (hv : Val) where
    -- all of the cell but its value
    abbrev Rest : Fml
    Rest =
        fsep (fsep (block E h.alloc (block_ptr b o)) (handle E h.alloc hv))
        (cell_at full_share (Cell E).mir (word E hv b o ∷ []) rb ro)

    back : h.at ≡ block_ptr b o → (w : X E)
        → ent 𝓤 (sep 𝓤 (sem 𝓛 ((mem (R E)).own_at w b o)) (sem 𝓛 Rest)) (sem 𝓛 ((mem (Cell E)).own_at
        (with_value h w) rb ro))
    unfolding part_of
    back at_b w =
        qed 𝓛 (‵ (part_at (R E) full_share w b o) ∷ ‵ Rest ∷ []) ∵
        move ! (1 ∷ []) $ fsplit ! $ fsplit ! $ move ! (3 ∷ []) $
        cell_in E ! (with_value h w) b o (Some w) at_b refl $ move ! (1 ∷ 0 ∷ []) $ fjoin ! $
        fpack ! (List Val) (λ us. fsep (cell_at full_share (Cell E).mir us rb ro) ((Cell E).own_val
        (with_value h w) us))
        (word E hv b o ∷ []) $ done !

    exits : (γ' : GName)
        → ent 𝓤 (sep 𝓤 (sem 𝓛 ((MutRef (named 0) κ (R E)).own_val
        (record { ref_ptr = (b, o); ghost_name = γ'; now = x }) (vptr b o ∷ [])))
        (sep 𝓤 (A.lft κ q) (sem 𝓛 (follows (Cell E) (R E) γ γ' (with_value h))))) (Post (vptr b o))
    exits γ' =
        let lent : MutBor (X E) = record { ref_ptr = (b, o); ghost_name = γ'; now = x } in
        qed 𝓛 (‵ ((MutRef (named 0) κ (R E)).own_val lent (vptr b o ∷ [])) ∷ ‵ (flft κ q)
        ∷ ‵ (follows (Cell E) (R E) γ γ' (with_value h)) ∷ []) ∵
        suffices ! _ (ends_at 𝓛 (ended E) (stayed E) (spec E 𝓛) bound (vptr b o) lent (tt, tt) (tt, tt)) $
        nothing ! $ nothing ! $ fjoin ! $ join ! $ nothing ! $
        move ! (2 ∷ 0 ∷ []) $ join ! $ join ! $ frame ! $ says ! held $ done !

  module _ (C : Calls 𝓤 H) (Λ : Loops 𝓤 H) where
    walk : ent 𝓤 (on_entry 𝓛 (ended E).signature (κ, tt) (q, tt)
        (record { ref_ptr = (rb, ro); ghost_name = γ; now = h }, tt) (vptr rb ro ∷ [], tt))
        (WpFn 𝓤 H C Λ (fn' E) (vptr rb ro ∷ []) Post)
    walk =
        let code_of = (Cell E).coded.code h in
        qed 𝓛 ((‵ (flft κ q) ⊛ ‵ ftrue) ∷ ‵ (owns (MutRef (named 0) κ (Cell E) ∷ [])
        (record { ref_ptr = (rb, ro); ghost_name = γ; now = h }, tt) (vptr rb ro ∷ [], tt)) ∷ []) ∵
        enter ! C Λ (fn' E) (vptr rb ro ∷ []) _ $
        alloc_all ! (λ l. pass_all ! refl ((tt, tt), tt) $
        let En : Env 𝓤 H = env (fn' E).locals l in
        move ! (1 ∷ []) $ fsplit ! $ fsplit3 ! $ drop ! $ move ! (3 ∷ []) $ split ! $ move ! (2 ∷ 3 ∷ 0 ∷ []) $
        cell_opens E ! tt h rb ro (λ b o hv at_b.
        rewrite ! 0 (λ (c : Held E). ‵ (inside E c b o)) held refl $
        first ! $ blocks ! $
        sets_last ! (addr ! (through ! refl (fld ! refl (hop ! (look_in ! 2 (sub ! 0 refl (whole !))) (stop !))))) refl
        (tt, tt) $
        exec ! C Λ En (after 1 (fn' E).body) (at_ret En Post) $
        sets ! (of_opd ! (get ! refl)) refl (tt, tt) $
        move ! (1 ∷ 2 ∷ []) $ fjoin ! $ move ! (2 ∷ 3 ∷ 4 ∷ 1 ∷ 0 ∷ []) $ group ! 5 $
        use1 𝓛 (later (some (λ (γ' : GName).
        raw (Part 𝓛 (Cell E) (R E) (with_value h) (named 0) κ q rb ro b o γ (sem 𝓛 (Rest b o hv))
        (back b o hv at_b) x γ'))))
        (lends_Part 𝓛 (Cell E) (R E) (with_value h) (named 0) κ q rb ro b o γ (sem 𝓛 (Rest b o hv)) (back b o hv at_b)
        code_of code_of x) $ await ! tt $ pick ! (λ γ'.
        returns ! (look_at ! 0 refl) $ free_all ! refl $
        keep ! (0 ∷ []) $ by ! (exits b o hv γ'))))

meets : (E : Bx) {M : Type 1} {𝓤 : Ura M} (𝓛 : Logic 𝓤) (𝓣 : Tables 𝓤 𝓛.H)
    → Meets 𝓛 (ended E).signature (WpFn 𝓤 𝓛.H 𝓣.C 𝓣.Λ (fn' E)) (closing 𝓛 (ended E) (spec E 𝓛))
meets E {𝓤 = 𝓤} 𝓛 𝓣 =
    walk_Meets 𝓛 (ended E) (stayed E) (Goes-spent_ref 𝓛 1 (0 ∷ []) tt (plain (λ _. Cell E)), tt)
    (spec E 𝓛) (WpFn 𝓤 𝓛.H 𝓣.C 𝓣.Λ (fn' E)) (WpFn-mono 𝓤 𝓛.H 𝓛.laws 𝓣 (fn' E))
    (walked 𝓛 (ended E) (stayed E) (spec E 𝓛) (WpFn 𝓤 𝓛.H 𝓣.C 𝓣.Λ (fn' E))
    (λ κs. (mut_vals, tt)) (λ κs. (mut_Tells (named 0) κs.0 (Cell E), tt))
    (λ κs qs bounds a g are. needs 𝓤 (Asks E a.0.now) _
    (λ asked. walk E 𝓛 κs.0 qs.0 a.0.ref_ptr.0 a.0.ref_ptr.1 a.0.ghost_name a.0.now asked.0 asked.1 𝓣.C 𝓣.Λ)))

pub get_mut_spec : {M : Type 1} → stated.statement M
unfolding tables_of
get_mut_spec 𝓤 𝓛 𝓜 𝓡 wired Y Z L LZ g d dd met md y =
    let E : Bx = record { row = Y; laws = L; al = record { row = Z; laws = LZ; g = g; d = d; drops = dd } } in
    let A = 𝓛.A in
    let 𝓣 : Tables 𝓤 𝓛.H = tables_of 𝓤 𝓛.H 𝓜 (tables 𝓤 𝓛.H 𝓜 𝓡 𝓡.env) in
    let clauses = closing 𝓛 (ended E) (spec E 𝓛) in
    let run = 𝓡.run (𝓡.env (#self (args E))) in
    let framed = run_framed 𝓤 𝓛.H 𝓜 𝓡 (𝓡.env (#self (args E))) in
    let unfolded = code.unfolded 𝓤 𝓛.H 𝓜 𝓡 wired (Y, (Z, tt)) d dd in
    spared 𝓛 (ended E).signature run framed 2 (Y.lives, (Z.lives, tt)) clauses
    (entered 𝓤 𝓛.H (triple_of 𝓛 (ended E).signature clauses) 𝓣.C 𝓣.Λ (#self (args E)) (fn' E) unfolded (meets E 𝓛 𝓣))
    ((y.0.0, y.0.1, tt, y.0.3, y.0.4), y.1)
