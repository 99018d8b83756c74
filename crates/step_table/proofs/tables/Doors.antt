-- No half-done call shuts a door, and objects have four fields.
use Rattle.std.proofs.Common.{◌≡◌, ℕ, suc, ◌<◌, ◌≤◌, cond, ◌≢◌, List, [], ◌∷◌, length, sym, refl}
use Rattle.std.proofs.Common.{ap, subst, ⊎_elim, arith, get_or-set_other, get_or-set_same, ne_eqb}
use Rattle.step_table.proofs.Prelude
use Prelude.{AllWhole, AtomicStep, cases_eq, Claim, Clear, cond-false, cond_both, Count, ending}
use Prelude.{Expired, Finish, ghost_after_step, GhostState, history_after, Idle, IsLegal, Leave}
use Prelude.{Lock, Making, model_state, moved_to, Nothing, Object, object_of_block, OnCell}
use Prelude.{OnShelf, opening, Paying, Pending, pending, pending_after, Prepare, put_cases, Read}
use Prelude.{Share, ShutsNoDoor, spot, TableInvariant, used_up, View, view_in, WeakLeave}
use Prelude.{WeakShare, Write}
use Rattle.control_word.specs.declared.model.view.Pending.TheVariants.{Merging, Parting, Visiting}
use Rattle.control_word.specs.Views.{added, adds, total}
use Rattle.step_table.proofs.tables.CellAtomicSteps.{shuts_cell, whole_framed}
use Rattle.step_table.proofs.tables.ShelfAtomicSteps.{shelf_framed}

shuts_none : (v : GhostState) (d : ℕ) (x : AtomicStep) → ShutsNoDoor (pending_after v d x)
shuts_none v d (Prepare b) = tt
shuts_none v d (Write b j n) = tt
shuts_none v d (Claim b enabled null fields) = tt
shuts_none v d (Share b p q) = tt
shuts_none v d (Leave b p last) = tt
shuts_none v d (WeakShare b p) = tt
shuts_none v d (WeakLeave b p vacant) = tt
shuts_none v d (Lock b p got) = tt
shuts_none v d (Count k b p n) = tt
shuts_none v d (Expired k b p e) = tt
shuts_none v d (Read b p n) = tt
shuts_none v d (Clear b m) = tt
shuts_none v d (Finish b vacant) = tt
shuts_none v d (OnShelf b x) = tt
shuts_none v d (OnCell x) = shuts_cell (model_state v) x

-- what is so of each half-done call, and of the desk's after its atomic step
pub pending_all : (P : Pending Nothing → Type 0) (v : GhostState) (d : ℕ) (x : AtomicStep) → d < length v.views → P (pending_after v d x)
    → ((e : ℕ) → P (pending v e)) → (e : ℕ) → P (pending (ghost_after_step v d x) e)
pending_all P v d x lt new all e =
    ⊎_elim (λ (is : e ≡ d). subst (λ (q : ℕ). P (pending (ghost_after_step v d x) q)) (sym is)
    (subst P (ap (λ (w : View Nothing). w.pending) (sym (get_or-set_same v.views d _ used_up lt))) new))
    (λ (ne : e ≢ d). subst P (ap (λ (w : View Nothing). w.pending) (sym (get_or-set_other v.views d e _ used_up ne))) (all e)) (cases_eq e d)

pub doors_after : (v : GhostState) (d : ℕ) (x : AtomicStep) → d < length v.views → ((e : ℕ) → ShutsNoDoor (pending v e))
    → (e : ℕ) → ShutsNoDoor (pending (ghost_after_step v d x) e)
doors_after v d x lt none e = pending_all (λ p. ShutsNoDoor p) v d x lt (shuts_none v d x) none e

-- an object goes to another phase
moved_whole : (v : GhostState) (i : ℕ) (y : Object) (o : ℕ) → AllWhole (model_state v) → y.fields ≡ ((model_state v).object i).fields → 0 < o
    → o ≤ (model_state v).made
    → (o ≡ i) → length y.fields ≡ 4
moved_whole v i y o whole same some le is =
    subst (λ (l : List ℕ). length l ≡ 4) (sym same) (subst (λ (j : ℕ). length ((model_state v).object j).fields ≡ 4) is (whole o some le))

pub whole_after : (v : GhostState) (d : ℕ) (x : AtomicStep) → AllWhole (model_state v) → IsLegal (opening v.extent) (history_after v d x)
    → AllWhole (model_state (ghost_after_step v d x))
whole_after v d (Prepare b) whole legal = whole
whole_after v d (Write b j n) whole legal = whole
whole_after v d (Claim b enabled null fields) whole legal = λ o some le.
    put_cases (λ j (y : Object). o ≡ j → length y.fields ≡ 4) (model_state v).object (suc (model_state v).made) _ o (λ e t. legal.1.asks.1)
    (λ ne t. whole o some (omega arith)) refl
whole_after v d (Share b p q) whole legal = whole
whole_after v d (Leave b p last) whole legal = λ o some le.
    let i = object_of_block v b in
    let y = (model_state v).object i in
    put_cases (λ j (z : Object). o ≡ j → length z.fields ≡ 4) (model_state v).object i _ o
    (λ e t. moved_whole v i (cond last (moved_to (ending d) y) y) o whole
    (cond_both last (moved_to (ending d) y) y (λ (z : Object). z.fields ≡ y.fields) (λ s. refl) (λ s. refl)) some le e) (λ ne t. whole o some le) refl
whole_after v d (WeakShare b p) whole legal = whole
whole_after v d (WeakLeave b p vacant) whole legal = whole
whole_after v d (Lock b p got) whole legal = whole
whole_after v d (Count k b p n) whole legal = whole
whole_after v d (Expired k b p e) whole legal = whole
whole_after v d (Read b p n) whole legal = whole
whole_after v d (Clear b m) whole legal = λ o some le.
    put_cases (λ j (z : Object). o ≡ j → length z.fields ≡ 4) (model_state v).object (object_of_block v b) _ o
    (λ e t. moved_whole v (object_of_block v b) ((model_state v).object (object_of_block v b)) o whole refl some le e) (λ ne t. whole o some le) refl
whole_after v d (Finish b vacant) whole legal = λ o some le.
    put_cases (λ j (z : Object). o ≡ j → length z.fields ≡ 4) (model_state v).object (object_of_block v b) _ o
    (λ e t. moved_whole v (object_of_block v b) ((model_state v).object (object_of_block v b)) o whole refl some le e) (λ ne t. whole o some le) refl
whole_after v d (OnShelf b x) whole legal = subst AllWhole (sym (shelf_framed v d b x).2) whole
whole_after v d (OnCell x) whole legal = whole_framed v d x whole

pub none_in : (f : Pending Nothing → ℕ) (views : List (View Nothing)) → ((d : ℕ) → f (view_in views d).pending ≡ 0)
    → total (λ (w : View Nothing). f w.pending) views ≡ 0
none_in f [] none = refl
none_in f (w ∷ ws) none = let a : f w.pending ≡ 0 = none 0 in let i = none_in f ws (λ d. none (suc d)) in omega (arith, a, i)

adds_none : (p : Pending Nothing) (b : ℕ) → ShutsNoDoor p → adds p (spot b 2) ≡ 0
adds_none Idle b none = refl
adds_none (Making c l) b none = cond-false _ 1 0 (ne_eqb (spot b 2) (spot c.0 1) (λ e. omega arith))
adds_none (Paying k o p word funds loads) b none = refl
adds_none (Visiting o p word x) b none = absurd none
adds_none (Parting to) b none = absurd none
adds_none (Merging other x y) b none = absurd none

-- no door is shut
pub no_door : (v : GhostState) (b : ℕ) → TableInvariant v → added v.views (spot b 2) ≡ 0
no_door v b kept = none_in (λ p. adds p (spot b 2)) v.views (λ d. adds_none (pending v d) b (kept.doors d))
