-- What the members of an object hold that ends in a desk's hands stays, whatever other desks do.
use Rattle.std.proofs.Common.{◌≡◌, ℕ, suc, ◌≢◌, Some, None, sym, refl, ap, ◌∙◌, arith}
use Rattle.step_threads.proofs.Prelude
use Prelude.{AtomicStep, Bring, Claim, CompareSwap, cond_both, ending, Finish, Free}
use Prelude.{ghost_after_step, GhostState, GiveBack, live, Look, Member, model_state, moved_to}
use Prelude.{Object, object_of_block, OnCell, opening, Prepare, put_cases, shelf_framed, sound}
use Prelude.{State, TableInvariant, Take, TakeOut, Turn, unmade, WeakLeave, WeakShare, Write}
use Rattle.control_word.proofs.history.Cells.{open_live}
use Rattle.control_word.specs.State.{Phase, put}
use Rattle.step_table.specs.declared.cell_steps.cell_step.CellStep.{CellStep}
use Rattle.step_table.specs.declared.cell_steps.cell_step.CellStep.TheVariants.{Holds, Refill}
use Rattle.step_table.specs.declared.cell_steps.cell_step.CellStep.TheVariants.{Swap}
use Rattle.step_table.specs.declared.memory.ghost_history.AtomicStep.TheVariants.{Share, Leave}
use Rattle.step_table.specs.declared.memory.ghost_history.AtomicStep.TheVariants.{Lock, Count}
use Rattle.step_table.specs.declared.memory.ghost_history.AtomicStep.TheVariants.{Expired, Read}
use Rattle.step_table.specs.declared.memory.ghost_history.AtomicStep.TheVariants.{Clear, OnShelf}

pub phase_differs : (d e : ℕ) (p : Phase) → p ≡ ending d → p ≡ ending e → e ≡ d
phase_differs d e p a b = let k : ending e ≡ ending d = sym b ∙ a in cc

-- where an object changes that isn't this one, or keeps its members
other_put : (s : State) (i o m : ℕ) (x : Object) → (o ≡ i → x.member m ≡ (s.object o).member m)
    → (put s.object i x o).member m ≡ (s.object o).member m
other_put s i o m x here = put_cases (λ j (y : Object). y.member m ≡ (s.object j).member m) s.object i x o here (λ q. refl)

-- the object that another desk has an owner of, or ends, is another one
owned_else : (v : GhostState) (d o i : ℕ) → ((model_state v).object o).phase ≡ ending d → ((model_state v).object i).phase ≡ live → o ≡ i → ⊥
owned_else v d o i end alive q = let k : ending d ≡ live = sym end ∙ ap (λ (j : ℕ). ((model_state v).object j).phase) q ∙ alive in cc

ended_else : (v : GhostState) (d e o i : ℕ) → e ≢ d → ((model_state v).object o).phase ≡ ending d
    → ((model_state v).object i).phase ≡ ending e → o ≡ i → ⊥
ended_else v d e o i n end his q =
    n (phase_differs d e ((model_state v).object o).phase end (ap (λ (j : ℕ). ((model_state v).object j).phase) q ∙ his))

cell_member : (v : GhostState) (e d o m : ℕ) (x : CellStep) → e ≢ d → TableInvariant v → TableInvariant (ghost_after_step v e (OnCell x))
    → ((model_state v).object o).phase ≡ ending d
    → ((model_state (ghost_after_step v e (OnCell x))).object o).member m ≡ ((model_state v).object o).member m
cell_member v e d o m (Look c x None) n kept kept' end = refl
cell_member v e d o m (Look c x (Some y)) n kept kept' end = refl
cell_member v e d o m (Holds c x b) n kept kept' end = refl
cell_member v e d o m (Bring k b p f) n kept kept' end = refl
cell_member v e d o m (GiveBack k b f) n kept kept' end = refl
cell_member v e d o m (Take c x None) n kept kept' end = refl
cell_member v e d o m (Take c x (Some y)) n kept kept' end = refl
cell_member v e d o m (Turn k b) n kept kept' end = refl
cell_member v e d o m (Refill c t) n kept kept' end = refl
cell_member v e d o m (Swap (Free c) new x) n kept kept' end = refl
cell_member v e d o m (Swap (Member b i) new x) n kept kept' end =
    let alive = open_live (opening v.extent) (model_state v) e (object_of_block v b) i (sound (opening v.extent) v.history kept.stands.legal)
    kept'.stands.legal.1.asks.0 in
    other_put (model_state v) (object_of_block v b) o m _ (λ q. absurd (owned_else v d o (object_of_block v b) end alive q))
cell_member v e d o m (CompareSwap (Free c) x y) n kept kept' end = refl
cell_member v e d o m (CompareSwap (Member b i) x y) n kept kept' end =
    let alive = open_live (opening v.extent) (model_state v) e (object_of_block v b) i (sound (opening v.extent) v.history kept.stands.legal)
    kept'.stands.legal.1.asks.0 in
    other_put (model_state v) (object_of_block v b) o m _ (λ q. absurd (owned_else v d o (object_of_block v b) end alive q))
cell_member v e d o m (TakeOut b i x) n kept kept' end =
    other_put (model_state v) (object_of_block v b) o m _ (λ q. absurd (ended_else v d e o (object_of_block v b) n end kept'.stands.legal.1.asks.0 q))

pub member_kept : (v : GhostState) (e d o m : ℕ) (x : AtomicStep) → e ≢ d → TableInvariant v → TableInvariant (ghost_after_step v e x)
    → ((model_state v).object o).phase ≡ ending d
    → ((model_state (ghost_after_step v e x)).object o).member m ≡ ((model_state v).object o).member m
member_kept v e d o m (Prepare b) n kept kept' end = refl
member_kept v e d o m (Write b j i) n kept kept' end = refl
member_kept v e d o m (Claim b enabled null fields) n kept kept' end =
    let fine = sound (opening v.extent) v.history kept.stands.legal in
    other_put (model_state v) (suc (model_state v).made) o m _
    (λ q. absurd (let f = fine.fresh o (omega arith) in let k : ending d ≡ unmade = sym end ∙ f in cc))
member_kept v e d o m (Share b p q) n kept kept' end = refl
member_kept v e d o m (Leave b p last) n kept kept' end =
    let i = object_of_block v b in
    let y = (model_state v).object i in
    other_put (model_state v) i o m _
    (λ q. cond_both last (moved_to (ending e) y) y (λ (z : Object). z.member m ≡ ((model_state v).object o).member m)
    (λ t. ap (λ (j : ℕ). ((model_state v).object j).member m) (sym q)) (λ t. ap (λ (j : ℕ). ((model_state v).object j).member m) (sym q)))
member_kept v e d o m (WeakShare b p) n kept kept' end = refl
member_kept v e d o m (WeakLeave b p vacant) n kept kept' end = refl
member_kept v e d o m (Lock b p got) n kept kept' end = refl
member_kept v e d o m (Count k b p i) n kept kept' end = refl
member_kept v e d o m (Expired k b p x) n kept kept' end = refl
member_kept v e d o m (Read b p i) n kept kept' end = refl
member_kept v e d o m (Clear b i) n kept kept' end =
    other_put (model_state v) (object_of_block v b) o m _ (λ q. absurd (ended_else v d e o (object_of_block v b) n end kept'.stands.legal.1.asks.0 q))
member_kept v e d o m (Finish b vacant) n kept kept' end =
    other_put (model_state v) (object_of_block v b) o m _ (λ q. ap (λ (j : ℕ). ((model_state v).object j).member m) (sym q))
member_kept v e d o m (OnShelf b x) n kept kept' end =
    ap (λ (s : State). (s.object o).member m) (shelf_framed v e b x).2
member_kept v e d o m (OnCell x) n kept kept' end = cell_member v e d o m x n kept kept' end
