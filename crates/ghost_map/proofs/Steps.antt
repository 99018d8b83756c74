-- The ghost steps of a map. Assumes `Logic`.
use Rattle.std.proofs.Common.{◌≡◌, ℕ, zero, suc, ◌^◌, List, [], ◌∷◌, ◌++◌, length, slice_get}
use Rattle.std.proofs.Common.{slice_set, Some, None, Option, refl, sym, ap, ◌∙◌, subst}
use Rattle.ghost_map.proofs.Prelude
use Prelude.{await, before, by, Cell, chain, done, drop, emp, ent, entry_owns, fjoin, fjoin3, flft}
use Prelude.{Fml, fsep, fsplit, fsplit3, ftrue, given, Gv, id⊢, keep, later, learn, Lft, Logic}
use Prelude.{move, nothing, now, path, qed, raw, rewrite, said, sem, sep, snd∗, split, SProp}
use Prelude.{state, tokens, updating, Ura, use1, use2, use3, via, !, ‵, ◌$◌, ◌∵◌, ◌⊛◌}
use Rattle.left_right.proofs.PartSteps.{tokens_whole}
use base.Fml.{fauth, fdead, fex, finv, fobs, fres, Share}
use base.Fraction.{full_share}
use base.FractionLaws.{Counts, Counts-all}
use base.Logic.{ex, guard, never, never_e, upd, upd_i}
use base.Stored.{Coded, coded_ℕ, coded×, gcons, gnil, gnum}
use denote.Sharing.{ShrLaws}
use types.Kit.{assume, check, fpack, fpick, frame, settle, show, suffices}
use types.Tokens.{lft_end, lft_new, name_new, obor_close, res_dup, shr_bor-open}
use types.Within.{tokens_halve}
use Rattle.ghost_map.specs.Chain.{blank_owns, cell, entry_path, entry_shares, map_owns, past, this}
use Rattle.ghost_map.specs.Chain.{value}

abbrev IsPair : Gv → Type 0
IsPair gnil = ⊥
IsPair (gnum n) = ⊥
IsPair (gcons a b) = Unit {0}

module _ {A : Type 0} where
  abbrev pub Has : List (Option A) → ℕ → A → Type 0
  Has es i x = slice_get es i ≡ Some (Some x)

module _ {A : Type 0} (C : Coded A) where
  value_inj : (x y : Cell A) → value C.code x ≡ value C.code y → x ≡ y
  unfolding value
  value_inj = (coded× coded_ℕ (coded× coded_ℕ C)).inj

  value_not_nil : (x : Cell A) → value C.code x ≡ gnil → ⊥
  unfolding value
  value_not_nil x e = subst IsPair e tt

module _ {S : Type 0} (C : Coded S) {M : Type 1} {𝓤 : Ura M} (𝓛 : Logic 𝓤) where
  open 𝓛 use {H, A}

  abbrev ⟦◌⟧ : Fml → SProp 𝓤
  ⟦ P ⟧ = sem 𝓛 P

  abbrev ◌∗◌ : SProp 𝓤 → SProp 𝓤 → SProp 𝓤
  P ∗ Q = sep 𝓤 P Q

  abbrev ◌⊢◌ : SProp 𝓤 → SProp 𝓤 → Type 1
  P ⊢ Q = ent 𝓤 P Q

  infix 26 ◌⊢◌
  infixr 35 ◌∗◌
  path_dup : (i a : ℕ) (x : S) (γ : ℕ) → ⟦ path C.code i a x γ ⟧ ⊢ ⟦ path C.code i a x γ ⟧ ∗ ⟦ path C.code i a x γ ⟧
  path_dup zero a x γ = qed 𝓛 (‵ (path C.code zero a x γ) ∷ []) ∵ fpick ! (λ c. fsplit ! $ res_dup ! $ move ! (2 ∷ []) $ fpick ! (λ is. drop ! $
      nothing ! $ fpack ! ((c.0 ≡ a) × (c.1.1 ≡ x)) (λ _. ftrue) is $ move ! (1 ∷ 0 ∷ []) $ fjoin ! $ fpack ! (Cell S) (past C.code γ (this a x)) c $
      frame ! $
      nothing ! $ fpack ! ((c.0 ≡ a) × (c.1.1 ≡ x)) (λ _. ftrue) is $ move ! (1 ∷ 0 ∷ []) $ fjoin ! $ fpack ! (Cell S) (past C.code γ (this a x)) c $ done !))
  path_dup (suc i) a x γ = qed 𝓛 (‵ (path C.code (suc i) a x γ) ∷ []) ∵ fpick ! (λ c. fsplit ! $ res_dup ! $ move ! (2 ∷ []) $
      use1 𝓛 (‵ (path C.code i a x c.1.0) ⊛ ‵ (path C.code i a x c.1.0)) (path_dup i a x c.1.0) $ split ! $ move ! (2 ∷ 0 ∷ []) $ fjoin ! $
      fpack ! (Cell S) (past C.code γ (λ d. path C.code i a x d.1.0)) c $ frame ! $
      move ! (1 ∷ 0 ∷ []) $ fjoin ! $ fpack ! (Cell S) (past C.code γ (λ d. path C.code i a x d.1.0)) c $ done !)

  -- nothing is known past an open cell
  past_open : (γ : ℕ) (F : Cell S → Fml) (X Z : SProp 𝓤) → ⟦ chain C.code [] γ ⟧ ∗ ⟦ fex (Cell S) (past C.code γ F) ⟧ ∗ X ⊢ Z
  past_open γ F X Z = qed 𝓛 (‵ (chain C.code [] γ) ∷ ‵ (fex (Cell S) (past C.code γ F)) ∷ raw X ∷ []) ∵ fsplit ! $ move ! (2 ∷ []) $ fpick ! (λ c. fsplit ! $
      move ! (0 ∷ 3 ∷ []) $
      use2 𝓛 (given (value C.code c ≡ gnil) (‵ (fres γ (value C.code c)) ⊛ ‵ (fauth γ gnil))) (𝓛.names.res_agree γ (value C.code c) gnil) $
      learn ! (λ e. absurd (value_not_nil C c e)))

  -- what is known past a cell is known of what the cell names
  past_cell : (γ : ℕ) (r : Option S) (rest : ℕ → Fml) (F : Cell S → Fml) (X Z : SProp 𝓤)
      → ((c : Cell S) → A.auth γ (value C.code c) ∗ A.res γ (value C.code c) ∗ ⟦ state r c ⟧ ∗ ⟦ rest c.1.0 ⟧ ∗ A.res γ (value C.code c) ∗ ⟦ F c ⟧ ∗ X ⊢ Z)
      → ⟦ fex (Cell S) (cell C.code γ r rest) ⟧ ∗ ⟦ fex (Cell S) (past C.code γ F) ⟧ ∗ X ⊢ Z
  past_cell γ r rest F X Z k = qed 𝓛 (‵ (fex (Cell S) (cell C.code γ r rest)) ∷ ‵ (fex (Cell S) (past C.code γ F)) ∷ raw X ∷ []) ∵ fpick ! (λ c. fsplit3 ! $
      move ! (2 ∷ []) $ fsplit ! $ move ! (4 ∷ []) $ fpick ! (λ d. fsplit ! $ move ! (0 ∷ 4 ∷ []) $
      use2 𝓛 (given (value C.code d ≡ value C.code c) (‵ (fres γ (value C.code d)) ⊛ ‵ (fauth γ (value C.code c)))) (𝓛.names.res_agree γ (value C.code d)
      (value C.code c)) $ learn ! (λ e. split ! $
      rewrite ! 0 (λ (u : Cell S). ‵ (fres γ (value C.code u))) (value_inj C d c e) refl $ rewrite ! 2 (λ (u : Cell S). ‵ (F u)) (value_inj C d c e) refl $
      move ! (1 ∷ 5 ∷ 3 ∷ 4 ∷ 0 ∷ 2 ∷ []) $ by ! (k c))))

  abbrev Sees : List (Option S) → ℕ → ℕ → S → ℕ → Share → SProp 𝓤
  Sees es i a x γ q = guard 𝓤 (Has es i x) (⟦ chain C.code es γ ⟧ ∗ A.lft (a ∷ []) q)

  -- an entry whose life goes on is in the chain, and isn't over
  sees : (es : List (Option S)) (i a : ℕ) (x : S) (γ : ℕ) (q : Share) → ⟦ chain C.code es γ ⟧ ∗ ⟦ path C.code i a x γ ⟧ ∗ A.lft (a ∷ []) q ⊢ Sees es i a x γ q
  sees [] zero a x γ q = past_open γ (this a x) (A.lft (a ∷ []) q) _
  sees [] (suc i) a x γ q = past_open γ (λ c. path C.code i a x c.1.0) (A.lft (a ∷ []) q) _
  sees (Some k ∷ es) zero a x γ q = past_cell γ (Some k) (chain C.code es) (this a x) (A.lft (a ∷ []) q) (Sees (Some k ∷ es) zero a x γ q) (λ c.
      qed 𝓛 (‵ (fauth γ (value C.code c)) ∷ ‵ (fres γ (value C.code c)) ∷ ‵ (state (Some k) c) ∷ ‵ (chain C.code es c.1.0) ∷ ‵ (fres γ (value C.code c))
      ∷ ‵ (this a x c) ∷ ‵ (flft (a ∷ []) q) ∷ []) ∵
      move ! (5 ∷ []) $ fpick ! (λ is. drop ! $ move ! (2 ∷ []) $ fpick ! (λ same. drop ! $ check ! (ap (λ (x : S). Some (Some x)) (sym same ∙ is.1)) $
      nothing ! $ fpack ! (c.1.1 ≡ k) (λ _. ftrue) same $ move ! (0 ∷ 3 ∷ []) $ fjoin ! $ move ! (1 ∷ 2 ∷ 0 ∷ []) $ fjoin3 ! $
      fpack ! (Cell S) (cell C.code γ (Some k) (chain C.code es)) c $ frame ! $ keep ! (1 ∷ []) $ done !)))
  sees (None ∷ es) zero a x γ q = past_cell γ None (chain C.code es) (this a x) (A.lft (a ∷ []) q) (Sees (None ∷ es) zero a x γ q) (λ c.
      qed 𝓛 (‵ (fauth γ (value C.code c)) ∷ ‵ (fres γ (value C.code c)) ∷ ‵ (state None c) ∷ ‵ (chain C.code es c.1.0) ∷ ‵ (fres γ (value C.code c))
      ∷ ‵ (this a x c) ∷ ‵ (flft (a ∷ []) q) ∷ []) ∵
      move ! (5 ∷ []) $ fpick ! (λ is. drop ! $ rewrite ! 2 (λ (u : ℕ). ‵ (fdead (u ∷ []))) is.0 refl $ move ! (5 ∷ 2 ∷ []) $
      use2 𝓛 (raw (never 𝓤)) (𝓛.lfts.lft-dead (a ∷ []) q) $ keep ! (0 ∷ []) $ by ! (never_e 𝓤 _)))
  sees (r ∷ es) (suc i) a x γ q = past_cell γ r (chain C.code es) (λ c. path C.code i a x c.1.0) (A.lft (a ∷ []) q) (Sees (r ∷ es) (suc i) a x γ q) (λ c.
      qed 𝓛 (‵ (fauth γ (value C.code c)) ∷ ‵ (fres γ (value C.code c)) ∷ ‵ (state r c) ∷ ‵ (chain C.code es c.1.0) ∷ ‵ (fres γ (value C.code c))
      ∷ ‵ (path C.code i a x c.1.0) ∷ ‵ (flft (a ∷ []) q) ∷ []) ∵
      move ! (3 ∷ 5 ∷ 6 ∷ []) $ use3 𝓛 (given (Has es i x) (‵ (chain C.code es c.1.0) ⊛ ‵ (flft (a ∷ []) q))) (sees es i a x c.1.0 q) $
      learn ! (λ has. split ! $ check ! has $
      move ! (4 ∷ 0 ∷ []) $ fjoin ! $ move ! (2 ∷ 3 ∷ 0 ∷ []) $ fjoin3 ! $ fpack ! (Cell S) (cell C.code γ r (chain C.code es)) c $ frame ! $
      keep ! (0 ∷ []) $ done !))

  -- an entry whose life has ended is over
  ends : (es : List (Option S)) (i a : ℕ) (x : S) (γ : ℕ) → ⟦ chain C.code es γ ⟧ ∗ ⟦ path C.code i a x γ ⟧ ∗ A.dead (a
      ∷ []) ⊢ ⟦ chain C.code (slice_set es i None) γ ⟧
  ends [] zero a x γ = past_open γ (this a x) (A.dead (a ∷ [])) _
  ends [] (suc i) a x γ = past_open γ (λ c. path C.code i a x c.1.0) (A.dead (a ∷ [])) _
  ends (r ∷ es) zero a x γ = past_cell γ r (chain C.code es) (this a x) (A.dead (a ∷ [])) (⟦ chain C.code (None ∷ es) γ ⟧) (λ c.
      qed 𝓛 (‵ (fauth γ (value C.code c)) ∷ ‵ (fres γ (value C.code c)) ∷ ‵ (state r c) ∷ ‵ (chain C.code es c.1.0) ∷ ‵ (fres γ (value C.code c))
      ∷ ‵ (this a x c) ∷ ‵ (fdead (a ∷ [])) ∷ []) ∵
      move ! (5 ∷ []) $ fpick ! (λ is. drop ! $ rewrite ! 5 (λ (u : ℕ). ‵ (fdead (u ∷ []))) (sym is.0) refl $ move ! (5 ∷ 3 ∷ []) $ fjoin ! $
      move ! (1 ∷ 2 ∷ 0 ∷ []) $ fjoin3 ! $
      fpack ! (Cell S) (cell C.code γ None (chain C.code es)) c $ keep ! (0 ∷ []) $ done !))
  ends (r ∷ es) (suc i) a x γ = past_cell γ r (chain C.code es) (λ c. path C.code i a x c.1.0) (A.dead (a ∷ [])) (⟦ chain C.code (r
      ∷ slice_set es i None) γ ⟧) (λ c.
      qed 𝓛 (‵ (fauth γ (value C.code c)) ∷ ‵ (fres γ (value C.code c)) ∷ ‵ (state r c) ∷ ‵ (chain C.code es c.1.0) ∷ ‵ (fres γ (value C.code c))
      ∷ ‵ (path C.code i a x c.1.0) ∷ ‵ (fdead (a ∷ [])) ∷ []) ∵
      move ! (3 ∷ 5 ∷ 6 ∷ []) $ use3 𝓛 (‵ (chain C.code (slice_set es i None) c.1.0)) (ends es i a x c.1.0) $
      move ! (3 ∷ 0 ∷ []) $ fjoin ! $ move ! (1 ∷ 2 ∷ 0 ∷ []) $ fjoin3 ! $ fpack ! (Cell S) (cell C.code γ r (chain C.code (slice_set es i None))) c $
      keep ! (0 ∷ []) $ done !)

  -- a new entry, of a new life, and a new open cell
  abbrev Added : List (Option S) → ℕ → S → ℕ → SProp 𝓤
  Added es a x γ = ⟦ chain C.code (es ++ Some x ∷ []) γ ⟧ ∗ ⟦ path C.code (length es) a x γ ⟧

  entry_add : (es : List (Option S)) (a : ℕ) (x : S) (δ γ : ℕ) → ⟦ chain C.code es γ ⟧ ∗ ⟦ chain C.code [] δ ⟧ ⊢ upd 𝓤 (Added es a x γ)
  entry_add [] a x δ γ = let G : SProp 𝓤 = Added [] a x γ in let d : Cell S = (a, (δ, x)) in
      qed 𝓛 (‵ (chain C.code [] γ) ∷ ‵ (chain C.code [] δ) ∷ []) ∵ use1 𝓛 (raw (upd 𝓤 (A.obs γ (value C.code d) ∗ A.auth γ (value C.code d))))
      (𝓛.names.name_set_upd γ gnil gnil (value C.code d)) $ settle 𝓛 G (‵ (fobs γ (value C.code d)) ⊛ ‵ (fauth γ (value C.code d))) $ split ! $
      use1 𝓛 (‵ (fres γ (value C.code d))) (𝓛.names.obs-res γ (value C.code d)) $ res_dup ! $ suffices ! G (upd_i 𝓤 G) $
      nothing ! $ fpack ! (x ≡ x) (λ _. ftrue) refl $ move ! (0 ∷ 4 ∷ []) $ fjoin ! $ move ! (3 ∷ 2 ∷ 0 ∷ []) $ fjoin3 ! $
      fpack ! (Cell S) (cell C.code γ (Some x) (chain C.code [])) d $ frame ! $
      nothing ! $ fpack ! ((a ≡ a) × (x ≡ x)) (λ _. ftrue) (refl, refl) $ move ! (1 ∷ 0 ∷ []) $ fjoin ! $ fpack ! (Cell S) (past C.code γ (this a x)) d $
      done !
  entry_add (r ∷ es) a x δ γ = let G : SProp 𝓤 = Added (r ∷ es) a x γ in
      qed 𝓛 (‵ (chain C.code (r ∷ es) γ) ∷ ‵ (chain C.code [] δ) ∷ []) ∵ fpick ! (λ c. fsplit3 ! $ move ! (2 ∷ []) $ fsplit ! $ move ! (1 ∷ 4 ∷ []) $
      use2 𝓛 (raw (upd 𝓤 (Added es a x c.1.0))) (entry_add es a x δ c.1.0) $
      settle 𝓛 G (‵ (chain C.code (es ++ Some x ∷ []) c.1.0) ⊛ ‵ (path C.code (length es) a x c.1.0)) $ split ! $ suffices ! G (upd_i 𝓤 G) $
      move ! (4 ∷ []) $ res_dup ! $ move ! (4 ∷ 2 ∷ []) $ fjoin ! $ move ! (4 ∷ 1 ∷ 0 ∷ []) $ fjoin3 ! $
      fpack ! (Cell S) (cell C.code γ r (chain C.code (es ++ Some x ∷ []))) c $ frame ! $
      fjoin ! $ fpack ! (Cell S) (past C.code γ (λ e. path C.code (length es) a x e.1.0)) c $ done !)

  basic : (Q : SProp 𝓤) → upd 𝓤 Q ⊢ H.⇛ Q
  basic Q = qed 𝓛 (raw (upd 𝓤 Q) ∷ []) ∵ updating ! $ nothing ! $ use1 𝓛 (later (‵ (finv ftrue))) (𝓛.invs.inv_new ftrue) $ await ! tt $
      by ! (qed 𝓛 (‵ (finv ftrue) ∷ raw (upd 𝓤 Q) ∷ []) ∵ suffices ! _ (𝓛.invs.inv_acc ftrue Q) $ frame ! $ assume ! (‵ ftrue) $ move ! (1 ∷ []) $
      settle 𝓛 (emp 𝓤 ∗ Q) (raw Q) $ suffices ! _ (upd_i 𝓤 (emp 𝓤 ∗ Q)) $ move ! (1 ∷ 0 ∷ []) $ done !)

  pub entry_path_dup : (name i a : ℕ) (x : S) → ⟦ entry_path C.code name i a x ⟧ ⊢ ⟦ entry_path C.code name i a x ⟧ ∗ ⟦ entry_path C.code name i a x ⟧
  unfolding entry_path
  entry_path_dup name i a x = path_dup i a x name

  tokens_in : (a : ℕ) → A.lft (a ∷ []) full_share ⊢ ⟦ tokens a (2 ^ 63) ⟧
  tokens_in a = qed 𝓛 (‵ (flft (a ∷ []) full_share) ∷ []) ∵ fpack ! (Counts 63 full_share (2 ^ 63)) (λ _. flft (a ∷ []) full_share) (Counts-all 63) $
      fpack ! Share (λ s. fex (Counts 63 s (2 ^ 63)) (λ _. flft (a ∷ []) s)) full_share $ done !

  -- a map that has a name
  pub names : (name : ℕ) → ⟦ blank_owns name ⟧ ⊢ ⟦ map_owns C.code name [] ⟧
  unfolding blank_owns map_owns
  names name = id⊢ 𝓤 _

  -- a new entry
  pub adds : (name : ℕ) (es : List (Option S)) (x : S) → ⟦ map_owns C.code name es ⟧ ⊢ H.⇛ (ex 𝓤 (λ (a : ℕ). ⟦ fsep (map_owns C.code name (es ++ Some x
      ∷ [])) (entry_owns C.code name (length es) a x) ⟧))
  unfolding map_owns entry_path
  adds name es x = qed 𝓛 (‵ (chain C.code es name) ∷ []) ∵ updating ! $ name_new ! tt gnil (λ δ. fjoin ! $ lft_new ! tt (λ a. move ! (2 ∷ 1 ∷ []) $
      use2 𝓛 (later (‵ (chain C.code (es ++ Some x ∷ []) name) ⊛ ‵ (path C.code (length es) a x name))) (via 𝓤 _ (entry_add es a x δ name) (basic _)) $
      await ! tt $ split ! $
      move ! (2 ∷ []) $ use1 𝓛 (‵ (tokens a (2 ^ 63))) (tokens_in a) $ move ! (0 ∷ 2 ∷ []) $ fjoin ! $ move ! (1 ∷ 0 ∷ []) $ fjoin ! $ now ! $
      show ! (λ (b : ℕ). ⟦ fsep (chain C.code (es ++ Some x ∷ []) name) (entry_owns C.code name (length es) b x) ⟧) a $ done !))

  -- an entry that is lent is in the map, and isn't over
  pub seen : (name : ℕ) (es : List (Option S)) (i a : ℕ) (x : S) (κ : Lft) (q : Share)
      → ⟦ map_owns C.code name es ⟧ ∗ ⟦ entry_shares C.code name i a x κ ⟧ ∗ A.lft κ q ⊢ H.⇛ (guard 𝓤 (Has es i x) (⟦ map_owns C.code name es ⟧ ∗ A.lft κ q))
  unfolding map_owns entry_path
  seen name es i a x κ q = qed 𝓛 (‵ (chain C.code es name) ∷ ‵ (entry_shares C.code name i a x κ) ∷ ‵ (flft κ q) ∷ []) ∵ updating ! $ move ! (1 ∷ []) $
      fsplit ! $ move ! (0 ∷ 3 ∷ []) $
      shr_bor-open ! tt (tokens_halve 𝓛 (a ∷ [])) (λ r. move ! (3 ∷ 2 ∷ 1 ∷ []) $
      use3 𝓛 (given (Has es i x) (‵ (chain C.code es name) ⊛ ‵ (flft (a ∷ []) r))) (sees es i a x name r) $ learn ! (λ has. split ! $ move ! (2 ∷ 1 ∷ []) $
      obor_close ! tt $
      now ! $ check ! has $ move ! (2 ∷ 1 ∷ []) $ frame ! $ keep ! (0 ∷ []) $ done !))

  -- and one that comes back is over
  pub closes : (name : ℕ) (es : List (Option S)) (i a : ℕ) (x : S)
      → ⟦ map_owns C.code name es ⟧ ∗ ⟦ entry_owns C.code name i a x ⟧ ⊢ H.⇛ (guard 𝓤 (Has es i x) ⟦ map_owns C.code name (slice_set es i None) ⟧)
  unfolding map_owns entry_path
  closes name es i a x = qed 𝓛 (‵ (chain C.code es name) ∷ ‵ (entry_owns C.code name i a x) ∷ []) ∵ updating ! $ move ! (1 ∷ []) $ fsplit ! $
      use1 𝓛 (‵ (flft (a ∷ []) full_share)) (tokens_whole 𝓛 a) $
      move ! (1 ∷ []) $ use1 𝓛 (‵ (path C.code i a x name) ⊛ ‵ (path C.code i a x name)) (path_dup i a x name) $ split ! $ move ! (3 ∷ 0 ∷ 2 ∷ []) $
      use3 𝓛 (given (Has es i x) (‵ (chain C.code es name) ⊛ ‵ (flft (a ∷ []) full_share))) (sees es i a x name full_share) $ learn ! (λ has. split ! $
      move ! (1 ∷ []) $ lft_end ! tt $
      move ! (1 ∷ 2 ∷ 0 ∷ []) $ use3 𝓛 (‵ (chain C.code (slice_set es i None) name)) (ends es i a x name) $ now ! $ check ! has $ done !)

module _ {S : Type 0} (C : Coded S) (name i a : ℕ) (x : S) where
  pub path_laws : ShrLaws (said (entry_path C.code name i a x))
  path_laws = record {
    contraction = λ M 𝓤 𝓛 _. entry_path_dup C 𝓛 name i a x;
    mono = λ M 𝓤 𝓛 κ' κ. snd∗ 𝓤 (sem 𝓛 (before κ' κ)) (sem 𝓛
        (entry_path C.code name i a x));
  }

-- a new map
pub begins : {M : Type 1} {𝓤 : Ura M} (𝓛 : Logic 𝓤) → ent 𝓤 (emp 𝓤) (𝓛.H.⇛ (ex 𝓤 (λ (γ : ℕ). sem 𝓛 (blank_owns γ))))
unfolding blank_owns
begins 𝓛 = qed 𝓛 [] ∵ updating ! $ name_new ! tt gnil (λ γ. fjoin ! $ now ! $ show ! (λ (g : ℕ). sem 𝓛 (blank_owns g)) γ $ done !)
