-- `get` reads through a `&`, at any type of value. Assumes `Logic`.
use Rattle.std.proofs.Common.{◌≡◌, ℕ, ◌+◌, List, [], ◌∷◌, refl, Bor}
use Rattle.std.specs.Prelude.{Some}
use Rattle.slot_arena.proofs.Prelude
use Prelude.{addr, args, assigns_last, at_ret, block_of, blocks, Body, Bx, by, Calls, Clauses}
use Prelude.{closing, count_of, done, drop, Ended, ends_at, ent, enter, entered, Env, exec}
use Prelude.{fact, feq_i, first, fjoin, fld, flft, Fml, Fn, frame, from, fsplit, ftrue, init}
use Prelude.{inst_fn, join, keep, Lft, load, Logic, look, Loops, Meets, move, named, nothing}
use Prelude.{of_opd, on_entry, owns, P, plain, ptr_row_laws, qed, R, RattleType, raw, RawPtr}
use Prelude.{returns, run_framed, says, sem, sep, shape, Share, spared, split, SProp, Stays, stop}
use Prelude.{Struct, Struct-row_laws, suffices, Tables, tables, tcons, tnil, triple_of, Ura, use1}
use Prelude.{Val, value_lent, vptr, walk_Meets, walk_of, walked, WpFn, WpFn-mono, X, !, ‵, ◌$◌, ◌∵◌, ◌⊛◌}
use Rattle.std.proofs.Words.{pointer_in, pointer_out}
use base.Fml.{fhide}
use contract.Running.{tables_of}
use denote.Builtin.{RefOf}
use denote.Exit.{yes}
use denote.Memory.{hidden_shr}
use denote.Opens.{hide, shr_dup, unhide}
use denote.RawPtr.{InBlock}
use denote.Ref.{shr_Tells, shr_vals, ShrRef}
use denote.Steps.{heard}
use denote.Struct.Lending.{in_block_says, lent_out}
use denote.Triple.Walked.{Goes-none_ref, needs, stay_none_ref}
use types.Kit.{rewrite}
use mir.Syntax.{assign, copy, erased, imm, place, return, rv_opd, seq, ty_named, ty_param, ty_ref}
use types.Run.{alloc0, alloc1, assigns, forget, free0, free1, hop, params1, pass0, pass1}
use Rattle.slot_arena.proofs.Cells.{Cell, cell, cell_row_laws, D, Held}
use Rattle.slot_arena.specs.contracts.cell.RawCell as F
use Rattle.slot_arena.specs.contracts.cell.RawCell.get.Key.{name as #self}
use Rattle.slot_arena.proofs.cell.RawCell.get.Statement as stated
use Rattle.slot_arena.proofs.cell.RawCell.get.Code as code

module _ (E : Bx) where
  abbrev fn' : Fn
  fn' = inst_fn (args E) code.function

  abbrev ended : Ended
  ended =
      record {
        signature =
            record {
              lifetimes = 1;
              outlives = [];
              params = RefOf (0 ∷ []) tt (plain (λ _. Cell E)) (λ _. tt) ∷ [];
              result = RefOf (0 ∷ []) tt (plain (λ _. R E)) (λ _. tt);
            };
        kept = (yes, tt);
      }

  abbrev stayed : Stays ended.signature.params ended.kept
  stayed = (stay_none_ref (0 ∷ []) tt (plain (λ _. Cell E)) yes, tt)

  abbrev Asks : D E → Type 0
  Asks d = (x : X E) × (d.held ≡ Some x)

  abbrev spec : {M : Type 1} (𝓤 : Ura M) → Clauses 𝓤 ended
  spec 𝓤 κs a =
      record {
        ghost = Unit {0};
        requires = λ _. fact 𝓤 (Asks a.0.now);
        ensures = λ _ r _. fact 𝓤 (a.0.now.held ≡ Some r.now);
      }

abbrev rest : Body
rest = seq (assign (place 0 []) (rv_opd (copy (place 2 [])))) return

module _ (E : Bx) {M : Type 1} {𝓤 : Ura M} (𝓛 : Logic 𝓤) where
  open 𝓛 use {H, A}

  abbrev Words : RattleType
  Words = Struct (shape (cell E))

  module _ (κ : Lft) (q : Share) (b o : ℕ) (d : D E) (x : X E) (held : d.held ≡ Some x) where
    abbrev self : Bor (D E)
    self = record { ref_ptr = (b, o); now = d }

    abbrev bound : (walk_of 𝓛 (ended E) (stayed E) (spec E 𝓤)).Ghost
    bound = (((κ, tt), (q, tt), tt, (self, tt), (vptr b o ∷ [], tt)), tt)

    abbrev Post : Val → SProp 𝓤
    Post = (walk_of 𝓛 (ended E) (stayed E) (spec E 𝓤)).post bound

    abbrev at : ℕ × ℕ
    at = (block_of d.at, count_of d.at)

    abbrev fields : Words.Denot
    fields = (d.at, (d.alloc, tt))

    abbrev Lent : Fml
    Lent = F.the_lent (R E) (P E) E.al.g d d.at κ

    -- a `&` to the fields shows the pointer
    shows_ptr : ent 𝓤 (sem 𝓛 (hidden_shr Words κ fields b o))
        (sep 𝓤 (sem 𝓛 (hidden_shr RawPtr κ d.at b (o + 0))) (sem 𝓛 (hidden_shr Words κ fields b o)))
    shows_ptr =
        qed 𝓛 (‵ (hidden_shr Words κ fields b o) ∷ []) ∵
        shr_dup ! Words (Struct-row_laws (shape (cell E)) (ptr_row_laws, (E.al.laws.shr_laws, tt))) fields b o κ $
        unhide ! $ fsplit ! $ fsplit ! $ hide ! $ keep ! (0 ∷ 3 ∷ []) $ done !

    exits : ent 𝓤 (sep 𝓤 (A.lft κ q) (sep 𝓤 (sem 𝓛 (hidden_shr (Cell E) κ d b o))
        (sem 𝓛 (hidden_shr (R E) κ x at.0 at.1)))) (Post (vptr at.0 at.1))
    exits =
        qed 𝓛 (‵ (flft κ q) ∷ ‵ (hidden_shr (Cell E) κ d b o) ∷ ‵ (hidden_shr (R E) κ x at.0 at.1) ∷ []) ∵
        suffices ! _ (ends_at 𝓛 (ended E) (stayed E) (spec E 𝓤) bound (vptr at.0 at.1)
        (record { ref_ptr = at; now = x }) (tt, tt) (tt, tt)) $ says ! held $
        nothing ! $ move ! (1 ∷ 0 ∷ []) $ join ! $ frame ! $
        feq_i ! (List Val) (vptr b o ∷ []) (vptr b o ∷ []) refl $ fjoin ! $
        nothing ! $ move ! (1 ∷ 0 ∷ []) $ fjoin ! $ frame ! $
        feq_i ! (List Val) (vptr at.0 at.1 ∷ []) (vptr at.0 at.1 ∷ []) refl $ fjoin ! $ done !

    module _ (C : Calls 𝓤 H) (Λ : Loops 𝓤 H) where
      walk : ent 𝓤 (on_entry 𝓛 (ended E).signature (κ, tt) (q, tt) (self, tt) (vptr b o ∷ [], tt))
          (WpFn 𝓤 H C Λ (fn' E) (vptr b o ∷ []) Post)
      walk =
          qed 𝓛 ((‵ (flft κ q) ⊛ ‵ ftrue) ∷ ‵ (owns (ShrRef (named 0) κ (Cell E) ∷ []) (self, tt) (
            vptr b o
                ∷ [],
            tt,
          )) ∷ []) ∵
          enter ! C Λ (fn' E) (vptr b o ∷ []) _ $
          alloc1 ! (λ l₀. alloc1 ! (λ l₁. alloc1 ! (λ l₂. alloc0 ! $ params1 ! $ pass1 ! (init ! 2 refl (tt, tt)) $
          pass0 ! $
          let En : Env 𝓤 H =
          ((ty_ref (named 0) imm (ty_param 0), l₀)
          ∷ (ty_ref (named 0) imm (ty_named ((cell E).name, []) (tcons (ty_param 0) (tcons (ty_param 1) tnil))), l₁)
          ∷ (ty_ref erased imm (ty_param 0), l₂) ∷ []) in
          move ! (7 ∷ []) $
          fsplit ! $ fsplit ! $ drop ! $ shr_dup ! (Cell E) (cell_row_laws E) d b o κ $
          use1 𝓛 (‵ (hidden_shr Words κ fields b o) ⊛ ‵ (fhide Lent))
          (lent_out 𝓛 (F.struct (R E) (P E) E.al.g) (F.the_codes (X E) (P E).Denot (R E).coded (P E).coded)
          (F.the_heap (R E) (P E) E.al.g) (F.the_lent (R E) (P E) E.al.g) κ d b o) $ split ! $
          move ! (1 ∷ []) $
          unhide ! $ rewrite ! 0 (λ (c : Held E). ‵ (value_lent (R E) d.at c κ)) held refl $
          fsplit ! $ use1 𝓛 (raw (fact 𝓤 (InBlock d.at))) (in_block_says 𝓛 d.at) $
          heard ! (InBlock d.at) (λ inb. hide ! $
          move ! (10 ∷ []) $
          split ! $
          move ! (3 ∷ 0 ∷ []) $
          first ! $ blocks ! $
          pointer_in ! tt d.at inb b (o + 0) shows_ptr (λ q'.
          assigns_last ! (addr ! (from ! (hop ! (look ! 10 refl) (fld ! refl (hop ! (look ! 1 refl) (stop !))))))
          (from ! (stop !)) (init ! 8 refl (tt, tt)) $
          exec ! C Λ En rest (at_ret En Post) $
          pointer_out ! tt d.at inb b (o + 0) $
          assigns ! (of_opd ! (load ! (from ! (stop !)) (look ! 6 refl))) (from ! (stop !)) (init ! 10 refl (tt, tt)) $
          returns ! (look ! 10 refl) $
          forget ! 6 refl $ forget ! 8 refl $ forget ! 10 refl $
          move ! (10 ∷ 11 ∷ []) $ free1 ! $ move ! (8 ∷ 9 ∷ []) $ free1 ! $ move ! (6 ∷ 7 ∷ []) $ free1 ! $ free0 ! $
          keep ! (0 ∷ 4 ∷ 3 ∷ []) $
          by ! exits)))))

  meets : (𝓣 : Tables 𝓤 H) → Meets 𝓛 (ended E).signature (WpFn 𝓤 H 𝓣.C 𝓣.Λ (fn' E)) (closing 𝓛 (ended E) (spec E 𝓤))
  meets 𝓣 =
      walk_Meets 𝓛 (ended E) (stayed E) (Goes-none_ref 𝓛 1 (0 ∷ []) tt (plain (λ _. Cell E)) yes, tt)
      (spec E 𝓤) (WpFn 𝓤 H 𝓣.C 𝓣.Λ (fn' E)) (WpFn-mono 𝓤 H 𝓛.laws 𝓣 (fn' E))
      (walked 𝓛 (ended E) (stayed E) (spec E 𝓤) (WpFn 𝓤 H 𝓣.C 𝓣.Λ (fn' E))
      (λ κs. (shr_vals, tt)) (λ κs. (shr_Tells (named 0) κs.0 (Cell E), tt))
      (λ κs qs bounds a g are. needs 𝓤 (Asks E a.0.now) _
      (λ asked. walk κs.0 qs.0 a.0.ref_ptr.0 a.0.ref_ptr.1 a.0.now asked.0 asked.1 𝓣.C 𝓣.Λ)))

pub get_spec : {M : Type 1} → stated.statement M
unfolding tables_of
get_spec 𝓤 𝓛 𝓜 𝓡 wired Y Z L LZ g d dd met md y =
    let E : Bx = record { row = Y; laws = L; al = record { row = Z; laws = LZ; g = g; d = d; drops = dd } } in
    let A = 𝓛.A in
    let 𝓣 : Tables 𝓤 𝓛.H = tables_of 𝓤 𝓛.H 𝓜 (tables 𝓤 𝓛.H 𝓜 𝓡 𝓡.env) in
    let clauses = closing 𝓛 (ended E) (spec E 𝓤) in
    let run = 𝓡.run (𝓡.env (#self (args E))) in
    let framed = run_framed 𝓤 𝓛.H 𝓜 𝓡 (𝓡.env (#self (args E))) in
    let unfolded = code.unfolded 𝓤 𝓛.H 𝓜 𝓡 wired (Y, (Z, tt)) d dd in
    spared 𝓛 (ended E).signature run framed 2 (Y.lives, (Z.lives, tt)) clauses
    (entered 𝓤 𝓛.H (triple_of 𝓛 (ended E).signature clauses) 𝓣.C 𝓣.Λ (#self (args E)) (fn' E) unfolded (meets E 𝓛 𝓣))
    ((y.0.0, y.0.1, tt, y.0.3, y.0.4), y.1)
