-- What the proofs of a cell's functions share. Assumes `Logic`.
--     cell_out, cell_in      a cell by value is [the value or its room; the rest of the block; the handle]
--     cell_opens             one behind a `&mut` is
--                            [the value or its room; the rest with the handle; the word; the open borrow; obs; auth]
use Rattle.std.proofs.Common.{◌≡◌, ℕ, List, [], ◌∷◌, ◌++◌, refl, sym, ap, subst}
use Rattle.std.specs.Prelude.{None, Some}
use Rattle.slot_arena.proofs.Prelude.{block_ptr, Bx, cell_at, content, drop, ent, feq_i, Fits, fjoin, flft}
use Rattle.slot_arena.proofs.Prelude.{fpack, fsep, fsplit, fst∗, full_share, GName, handle}
use Rattle.slot_arena.proofs.Prelude.{handle_tells, Lft, Logic, mem, move, nothing, null_ptr, P}
use Rattle.slot_arena.proofs.Prelude.{Ptr, R, RawPtr, sem, shape, Share, token, Ura, Val}
use Rattle.slot_arena.proofs.Prelude.{Valss, via, vptr, vstruct, within, ‵, ◌$◌}
use base.Fml.{fauth, fbor, fobor, fobs}
use base.Logic.{id⊢, never}
use denote.RawPtr.{in_a_block, ptr_val}
use denote.Steps.{opens}
use mir.Val.{of_list}
use types.Kit.{feq_l, fpick, Goal, Item, rewrite, Seq, Soaks, Step, step}
use Rattle.slot_arena.specs.Ownership.{cell_owns}
use Rattle.slot_arena.proofs.Cells.{block, Cell, cell, D, Held, inside, word}
use types.SemTy.{Body as Borrowed}

module _ (E : Bx) {M : Type 1} {𝓤 : Ura M} (𝓛 : Logic 𝓤) where
  -- no cell lies at null
  nowhere : (c : Held E) → ent 𝓤 (sem 𝓛 (content (R E) null_ptr c)) (never 𝓤)
  nowhere None = id⊢ 𝓤 (never 𝓤)
  nowhere (Some x) = id⊢ 𝓤 (never 𝓤)

module _ (E : Bx) {M : Type 1} {𝓤 : Ura M} {𝓛 : Logic 𝓤} {K : Type 0} {Γ : List (Item 𝓤)} {G : Goal 𝓤 𝓛.H} where
  pub cell_out : K → (d : D E) (vs : List Val)
      → ((b o : ℕ) (hv : Val) → d.at ≡ block_ptr b o → vs ≡ word E hv b o ∷ [] → Fits E.al hv
      → Seq K 𝓛 (‵ (inside E d.held b o) ∷ ‵ (block E d.alloc (block_ptr b o)) ∷ ‵ (handle E d.alloc hv) ∷ Γ) G)
      → Seq K 𝓛 (‵ ((Cell E).own_val d vs) ∷ Γ) G
  cell_out t d vs k =
      fsplit t $ fpick t (λ vss. fsplit t $ feq_l t (λ ev. fsplit t $ feq_l t (λ ep. fsplit t $
      handle_tells E.al t d.alloc vss.1.0 (λ hv ea fa. move t (1 ∷ []) $ drop t $ move t (1 ∷ []) $
      in_a_block t d.at (λ p. cell_owns (R E) p (token E.al d.alloc) d.held)
      (via 𝓤 _ (fst∗ 𝓤 (sem 𝓛 (content (R E) null_ptr d.held)) (sem 𝓛 (block E d.alloc null_ptr))) (nowhere E 𝓛 d.held))
      (λ b o e. fsplit t $ k b o hv e
      (subst (λ (p : Ptr). vs ≡ vstruct (of_list (ptr_val p ∷ hv ∷ [])) ∷ []) e
      (subst (λ (ws : List Val). vs ≡ vstruct (of_list (ptr_val d.at ∷ (ws ++ []))) ∷ []) ea
      (subst (λ (ps : List Val). vs ≡ vstruct (of_list (ps ++ (vss.1.0 ++ []))) ∷ []) ep ev))) fa)))))

  pub cell_in : K → {hv : Val} (d : D E) (b o : ℕ) (c : Held E) → d.at ≡ block_ptr b o → d.held ≡ c
      → Step K 𝓛 (‵ ((Cell E).own_val d (word E hv b o ∷ [])) ∷ Γ) G
      (‵ (inside E c b o) ∷ ‵ (block E d.alloc (block_ptr b o)) ∷ ‵ (handle E d.alloc hv) ∷ Γ) G
  cell_in t {hv} d b o c e f = step (λ s.
      fjoin t $
      rewrite t 0 (λ (y : Held E). ‵ (cell_owns (R E) (block_ptr b o) (token E.al d.alloc) y)) (sym f) refl $
      rewrite t 0 (λ (p : Ptr). ‵ (cell_owns (R E) p (token E.al d.alloc) d.held)) (sym e) refl $
      nothing t $ move t (2 ∷ 0 ∷ []) $ fjoin t $
      feq_i t (List Val) (vptr b o ∷ []) (ptr_val d.at ∷ []) (ap (λ (p : Ptr). ptr_val p ∷ []) (sym e)) $ fjoin t $
      feq_i t (List Val) (word E hv b o ∷ []) (word E hv b o ∷ []) refl $ fjoin t $
      fpack t (Valss (RawPtr ∷ P E ∷ [])) (within (shape (cell E)) (d.at, (d.alloc, tt)) (word E hv b o ∷ []))
      (vptr b o ∷ [], (hv ∷ [], tt)) $ fjoin t $ s)

module _ (E : Bx) {M : Type 1} {𝓤 : Ura M} {𝓛 : Logic 𝓤} {K : Type 0} {Γ : List (Item 𝓤)} {G : Goal 𝓤 𝓛.H} where
  pub cell_opens : K → Soaks G → {κ : Lft} {q : Share} {γ : GName} (d : D E) (rb ro : ℕ)
      → ((b o : ℕ) (hv : Val) → d.at ≡ block_ptr b o
      → Seq K 𝓛 (‵ (inside E d.held b o)
      ∷ ‵ (fsep (block E d.alloc (block_ptr b o)) (handle E d.alloc hv))
      ∷ ‵ (cell_at full_share (Cell E).mir (word E hv b o ∷ []) rb ro) ∷ ‵ (fobor κ q (Borrowed (mem (Cell E)) rb ro γ))
      ∷ ‵ (fobs γ ((Cell E).coded.code d)) ∷ ‵ (fauth γ ((Cell E).coded.code d)) ∷ Γ) G)
      → Seq K 𝓛 (‵ (fobs γ ((Cell E).coded.code d)) ∷ ‵ (fbor κ (Borrowed (mem (Cell E)) rb ro γ)) ∷ ‵ (flft κ q) ∷ Γ) G
  cell_opens t z d rb ro k =
      opens t z (Cell E) {h = d} rb ro (λ vs. move t (1 ∷ []) $ cell_out E t d vs (λ b o hv e ws fa.
      move t (1 ∷ 2 ∷ []) $ fjoin t $ move t (1 ∷ []) $
      rewrite t 2 (λ (us : List Val). ‵ (cell_at full_share (Cell E).mir us rb ro)) ws refl $ k b o hv e))
