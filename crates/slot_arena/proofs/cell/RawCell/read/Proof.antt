-- `read` moves the value out and leaves the room, at any type of value. Assumes `Logic`.
use Rattle.std.proofs.Common.{◌≡◌, ℕ, List, [], ◌∷◌, MutBor, refl}
use Rattle.std.specs.Prelude.{None, Some}
use Rattle.slot_arena.proofs.Prelude
use Prelude.{after, alloc_all, args, at_ret, blocks, Bx, by, Calls, Clauses, closing, done}
use Prelude.{drop, Ended, ends_at, ent, enter, entered, Env, env, exec, fact, fat, feq_i, first, fjoin}
use Prelude.{fld, flft, Fn, frame, free_all, froom, fsplit, ftrue, full_share, get, given, GName, Good}
use Prelude.{inst_fn, join, keep, learn, Lft, load, Logic, look, look_at, Loops, Meets, mem, move, named}
use Prelude.{nothing, of_opd, on_entry, own, owns, pass_all, pick, plain, qed, R, returns, run_framed}
use Prelude.{says, sets, sets_last, Share, some, spared, split, SProp, Stays, stop, sub, suffices, Tables}
use Prelude.{tables, through, triple_of, Ura, use1, Val, vptr, walk_Meets, walk_of, walked, whole, WpFn}
use Prelude.{WpFn-mono, X, τ, !, ‵, ◌$◌, ◌∵◌, ◌⊛◌}
use Rattle.std.proofs.BoxSteps.Steps.{el_out}
use Rattle.std.proofs.RawLayout.{as_raw}
use base.Fml.{fbor, fobs}
use contract.Running.{tables_of}
use denote.Builtin.{RefMutOf}
use denote.Exit.{yes}
use denote.Ref.{mut_Tells, mut_vals, MutRef}
use denote.Steps.{closes}
use denote.Triple.Walked.{Goes-ref, needs, stay_ref}
use types.Kit.{fjoin3, fsplit3, Item, rewrite, ⋆}
use types.Part.{look_in}
use types.SemTy.{Body as Borrowed}
use Rattle.slot_arena.proofs.CellSteps.{cell_in, cell_opens}
use Rattle.slot_arena.proofs.Cells.{Cell, D, Held, inside, word}
use Rattle.slot_arena.specs.contracts.cell.RawCell.read.Key.{name as #self}
use Rattle.slot_arena.proofs.cell.RawCell.read.Statement as stated
use Rattle.slot_arena.proofs.cell.RawCell.read.Code as code

module _ (E : Bx) where
  abbrev fn' : Fn
  fn' = inst_fn (args E) code.function

  abbrev ended : Ended
  ended =
      record {
        signature =
            record {
              lifetimes = 1;
              outlives = [];
              params = RefMutOf (0 ∷ []) tt (plain (λ _. Cell E)) (λ _. tt) ∷ [];
              result = plain (λ _. R E);
            };
        kept = (yes, tt);
      }

  abbrev stayed : Stays ended.signature.params ended.kept
  stayed = (stay_ref (0 ∷ []) tt (plain (λ _. Cell E)), tt)

  abbrev Asks : D E → Type 0
  Asks d = (x : X E) × (d.held ≡ Some x)

  abbrev spec : {M : Type 1} (𝓤 : Ura M) → Clauses 𝓤 ended
  spec 𝓤 κs a =
      record {
        ghost = Unit {0};
        requires = λ _. fact 𝓤 (Asks a.0.now);
        ensures = λ _ r w. fact 𝓤 ((a.0.now.held ≡ Some r) × (w.0.now.held ≡ None));
      }

module _ (E : Bx) {M : Type 1} {𝓤 : Ura M} (𝓛 : Logic 𝓤) (κ : Lft) (q : Share) (rb ro : ℕ) (γ : GName) (d : D E)
    (x : X E) (held : d.held ≡ Some x) where
  open 𝓛 use {H}

  abbrev self : MutBor (D E)
  self = record { ref_ptr = (rb, ro); ghost_name = γ; now = d }

  abbrev bound : (walk_of 𝓛 (ended E) (stayed E) (spec E 𝓤)).Ghost
  bound = (((κ, tt), (q, tt), tt, (self, tt), (vptr rb ro ∷ [], tt)), tt)

  abbrev Post : Val → SProp 𝓤
  Post = (walk_of 𝓛 (ended E) (stayed E) (spec E 𝓤)).post bound

  abbrev left : D E
  left = record { at = d.at; alloc = d.alloc; held = None }

  -- the borrow at the cell that is left, the token and the value
  abbrev Has : Val → List (Item 𝓤)
  Has v =
      ‵ (fobs γ ((Cell E).coded.code left)) ∷ ‵ (fbor κ (Borrowed (mem (Cell E)) rb ro γ)) ∷ ‵ (flft κ q)
      ∷ ‵ (own E x (v ∷ [])) ∷ []

  exits : (v : Val) → ent 𝓤 (⋆ 𝓛 (Has v)) (Post v)
  exits v =
      qed 𝓛 (Has v) ∵
      suffices ! _ (ends_at 𝓛 (ended E) (stayed E) (spec E 𝓤) bound v x (left, tt) (tt, tt)) $ says ! (held, refl) $
      nothing ! $ move ! (3 ∷ 0 ∷ []) $ join ! $ frame ! $
      feq_i ! (List Val) (vptr rb ro ∷ []) (vptr rb ro ∷ []) refl $ fjoin3 ! $
      nothing ! $ move ! (1 ∷ 0 ∷ []) $ fjoin ! $ done !

  module _ (C : Calls 𝓤 H) (Λ : Loops 𝓤 H) where
    walk : ent 𝓤 (on_entry 𝓛 (ended E).signature (κ, tt) (q, tt) (self, tt) (vptr rb ro ∷ [], tt))
        (WpFn 𝓤 H C Λ (fn' E) (vptr rb ro ∷ []) Post)
    walk =
        qed 𝓛 ((‵ (flft κ q) ⊛ ‵ ftrue) ∷ ‵ (owns (MutRef (named 0) κ (Cell E) ∷ []) (self, tt) (vptr rb ro ∷ [], tt))
        ∷ []) ∵
        enter ! C Λ (fn' E) (vptr rb ro ∷ []) _ $ alloc_all ! (λ l. pass_all ! refl ((tt, tt), tt) $
        let En : Env 𝓤 H = env (fn' E).locals l in
        move ! (1 ∷ []) $ fsplit ! $ fsplit3 ! $ drop ! $ move ! (3 ∷ []) $ split ! $ move ! (2 ∷ 3 ∷ 0 ∷ []) $
        cell_opens E ! tt d rb ro (λ b o hv at_b.
        rewrite ! 0 (λ (c : Held E). ‵ (inside E c b o)) held refl $
        use1 𝓛 (some (λ (v : Val). given (Good E v) (‵ (fat full_share (τ E) b o v) ⊛ ‵ (own E x (v ∷ [])))))
        (el_out E 𝓛 x b o) $ pick ! (λ v. learn ! (λ t. split ! $
        first ! $ blocks ! $
        sets ! (of_opd ! (load ! (through ! refl (fld ! refl (stop !))) (look_in ! 3 (sub ! 0 refl (whole !))))) refl
        (tt, tt) $
        sets_last ! (of_opd ! (load ! (through ! refl (stop !)) (look ! 0 refl))) refl t $
        exec ! C Λ En (after 1 (fn' E).body) (at_ret En Post) $
        sets ! (of_opd ! (get ! refl)) refl t $
        use1 𝓛 (‵ (froom (τ E) b o)) (𝓛.laws.at_room (τ E) b o v) $ as_raw ! (τ E) b o $
        move ! (2 ∷ []) $ fsplit ! $ move ! (2 ∷ []) $ cell_in E ! left b o None at_b refl $
        move ! (2 ∷ 0 ∷ 3 ∷ 4 ∷ 5 ∷ []) $ closes ! tt (Cell E) left (word E hv b o ∷ []) rb ro $
        returns ! (look_at ! 0 refl) $ free_all ! refl $ keep ! (0 ∷ 1 ∷ 2 ∷ 3 ∷ []) $ by ! (exits v)))))

meets : (E : Bx) {M : Type 1} {𝓤 : Ura M} (𝓛 : Logic 𝓤) (𝓣 : Tables 𝓤 𝓛.H)
    → Meets 𝓛 (ended E).signature (WpFn 𝓤 𝓛.H 𝓣.C 𝓣.Λ (fn' E)) (closing 𝓛 (ended E) (spec E 𝓤))
meets E {𝓤 = 𝓤} 𝓛 𝓣 =
    walk_Meets 𝓛 (ended E) (stayed E) (Goes-ref 𝓛 1 0 tt (plain (λ _. Cell E)), tt)
    (spec E 𝓤) (WpFn 𝓤 𝓛.H 𝓣.C 𝓣.Λ (fn' E)) (WpFn-mono 𝓤 𝓛.H 𝓛.laws 𝓣 (fn' E))
    (walked 𝓛 (ended E) (stayed E) (spec E 𝓤) (WpFn 𝓤 𝓛.H 𝓣.C 𝓣.Λ (fn' E))
    (λ κs. (mut_vals, tt)) (λ κs. (mut_Tells (named 0) κs.0 (Cell E), tt))
    (λ κs qs bounds a g are. needs 𝓤 (Asks E a.0.now) _ (λ asked.
    walk E 𝓛 κs.0 qs.0 a.0.ref_ptr.0 a.0.ref_ptr.1 a.0.ghost_name a.0.now asked.0 asked.1 𝓣.C 𝓣.Λ)))

pub read_spec : {M : Type 1} → stated.statement M
unfolding tables_of
read_spec 𝓤 𝓛 𝓜 𝓡 wired Y Z L LZ g d dd met md y =
    let E : Bx = record { row = Y; laws = L; al = record { row = Z; laws = LZ; g = g; d = d; drops = dd } } in
    let A = 𝓛.A in
    let 𝓣 : Tables 𝓤 𝓛.H = tables_of 𝓤 𝓛.H 𝓜 (tables 𝓤 𝓛.H 𝓜 𝓡 𝓡.env) in
    let clauses = closing 𝓛 (ended E) (spec E 𝓤) in
    let run = 𝓡.run (𝓡.env (#self (args E))) in
    let framed = run_framed 𝓤 𝓛.H 𝓜 𝓡 (𝓡.env (#self (args E))) in
    let unfolded = code.unfolded 𝓤 𝓛.H 𝓜 𝓡 wired (Y, (Z, tt)) d dd in
    spared 𝓛 (ended E).signature run framed 2 (Y.lives, (Z.lives, tt)) clauses
    (entered 𝓤 𝓛.H (triple_of 𝓛 (ended E).signature clauses) 𝓣.C 𝓣.Λ (#self (args E)) (fn' E) unfolded (meets E 𝓛 𝓣))
    ((y.0.0, y.0.1, tt, y.0.3, y.0.4), y.1)
