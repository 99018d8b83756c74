-- What other desks do changes nothing of what a desk has.
use Rattle.std.proofs.Common.{◌≡◌, ℕ, suc, ◌<◌, ◌≢◌, List, sym, refl, ap, ◌∙◌, subst, arith}
use Rattle.std.proofs.Common.{eqb-true}
use Rattle.step_threads.proofs.Prelude
use Prelude.{and_parts, AtomicStep, Claim, counted_live, Ending, ending, ending_busy, EndsAll}
use Prelude.{Finish, ghost_after_step, GhostState, in_store, kept_object, least, live, model_state}
use Prelude.{num, Object, object_of_block, OnCell, opening, owner_counted, PendingCall, Prepare}
use Prelude.{put_cases, same_atomic_step, same_stored, shelf_framed, sound, State, Stocks, Stored}
use Prelude.{stored, TableInvariant, unmade, WeakLeave, WeakShare, Write}
use Rattle.control_word.proofs.history.Kept.{Same}
use Rattle.control_word.specs.State.{common, stock, weak_number}
use Rattle.step_table.specs.declared.memory.ghost_history.AtomicStep.TheVariants.{Share, Leave}
use Rattle.step_table.specs.declared.memory.ghost_history.AtomicStep.TheVariants.{Lock, Count}
use Rattle.step_table.specs.declared.memory.ghost_history.AtomicStep.TheVariants.{Expired, Read}
use Rattle.step_table.specs.declared.memory.ghost_history.AtomicStep.TheVariants.{Clear, OnShelf}
use Rattle.step_threads.proofs.holding.Ends.{each_end}
use Rattle.step_threads.proofs.holding.Least.{least_part}
use Rattle.step_threads.proofs.holding.Members.{member_kept, phase_differs}
use Rattle.step_table.proofs.tables.CellAtomicSteps.{framed}
use Rattle.step_table.proofs.holding.Keeping.{num_part}

stores_stock : (s : State) (d b : ℕ) → in_store s d b ≡ num (same_stored (stored d b)) (stock s d)
stores_stock s d b = num_part (λ (x : Stored). x.desk) d (same_stored (stored d b)) s.stores (λ x t. sym (eqb-true _ _ (and_parts _ _ t).0))

-- another desk's atomic step leaves a store
pub stocks_others : (d : ℕ) (blocks : List ℕ) (room : ℕ) (pending_call : PendingCall) (v : GhostState) (e : ℕ) (x : AtomicStep) → e ≢ d → Stocks d blocks room
    pending_call v
    → Stocks d blocks room pending_call (ghost_after_step v e x)
stocks_others d blocks room pending_call v e x n stocks =
    let same = same_atomic_step v e d x n in
    record {
      stocked = λ b.
          stores_stock (model_state (ghost_after_step v e x)) d b ∙ ap (λ (l : List Stored). num (same_stored (stored d b)) l) same.in_stock
          ∙ sym (stores_stock (model_state v) d b)
          ∙ stocks.stocked b;
      roomy = stocks.roomy;
    }

-- an object that ends in a desk's hands goes on to end there
ends_on : (v : GhostState) (e d o : ℕ) (x : AtomicStep) → e ≢ d → TableInvariant v → TableInvariant (ghost_after_step v e x) → ((model_state v).object o).phase
    ≡ ending d
    → ((model_state (ghost_after_step v e x)).object o).phase ≡ ending d
ends_on v e d o (Prepare b) n kept kept' end = end
ends_on v e d o (Write b j m) n kept kept' end = end
ends_on v e d o (Claim b enabled null fields) n kept kept' end =
    let fine = sound (opening v.extent) v.history kept.stands.legal in
    put_cases (λ i (y : Object). i ≡ o → y.phase ≡ ending d) (model_state v).object (suc (model_state v).made) _ o
    (λ q t. absurd (let f = fine.fresh o (omega arith) in let k : ending d ≡ unmade = sym end ∙ f in cc)) (λ q t. end) refl
ends_on v e d o (Share b p q) n kept kept' end = end
ends_on v e d o (Leave b p last) n kept kept' end =
    let fine = sound (opening v.extent) v.history kept.stands.legal in
    let has = kept'.stands.legal.1.asks.0.0 in
    let alive = counted_live (opening v.extent) (model_state v) (object_of_block v b) fine (owner_counted (model_state v) e (object_of_block v b) p has) in
    put_cases (λ i (y : Object). i ≡ o → y.phase ≡ ending d) (model_state v).object (object_of_block v b) _ o
    (λ q t. absurd (let k : ending d ≡ live = sym end ∙ ap (λ (j : ℕ). ((model_state v).object j).phase) q ∙ alive in cc)) (λ q t. end) refl
ends_on v e d o (WeakShare b p) n kept kept' end = end
ends_on v e d o (WeakLeave b p vacant) n kept kept' end = end
ends_on v e d o (Lock b p got) n kept kept' end = end
ends_on v e d o (Count k b p m) n kept kept' end = end
ends_on v e d o (Expired k b p x) n kept kept' end = end
ends_on v e d o (Read b p m) n kept kept' end = end
ends_on v e d o (Clear b m) n kept kept' end =
    put_cases (λ i (y : Object). i ≡ o → y.phase ≡ ending d) (model_state v).object (object_of_block v b) _ o
    (λ q t. ap (λ (j : ℕ). ((model_state v).object j).phase) (sym q) ∙ end) (λ q t. end) refl
ends_on v e d o (Finish b vacant) n kept kept' end =
    let his = kept'.stands.legal.1.asks.0 in
    put_cases (λ i (y : Object). i ≡ o → y.phase ≡ ending d) (model_state v).object (object_of_block v b) _ o
    (λ q t. absurd (n (phase_differs d e ((model_state v).object o).phase end (ap (λ (j : ℕ). ((model_state v).object j).phase) q ∙ his))))
    (λ q t. end) refl
ends_on v e d o (OnShelf b x) n kept kept' end =
    ap (λ (s : State). (s.object o).phase) (shelf_framed v e b x).2 ∙ end
ends_on v e d o (OnCell x) n kept kept' end = (framed v e x).phase o ∙ end

-- the same store has the same least block
pub least_others : (d : ℕ) (s t : State) → Same s t d → least d t.stores ≡ least d s.stores
least_others d s t same = least_part d t.stores ∙ ap (least d) same.in_stock ∙ sym (least_part d s.stores)

-- another desk's atomic step leaves the endings
pub ends_others : (d : ℕ) (es : List Ending) (v : GhostState) (e : ℕ) (x : AtomicStep) → e ≢ d → TableInvariant v → TableInvariant (ghost_after_step v e x)
    → EndsAll d es v
    → EndsAll d es (ghost_after_step v e x)
ends_others d es v e x n kept kept' ends =
    record {
      each = each_end d v (ghost_after_step v e x) es
          (λ y is.
          let end = ends_on v e d (object_of_block v y.block) x n kept kept' is.ending in
          let busy : 0 < weak_number (model_state (ghost_after_step v e x)) (object_of_block v y.block) =
          let c : common ((model_state (ghost_after_step v e x)).object
          (object_of_block v y.block)).phase ≡ 1 = ap common end in omega arith in
          let o = kept_object v e y.block x kept kept' (ending_busy v d y.block is.ending) busy in
          record {
            ending = subst (λ (k : ℕ). ((model_state (ghost_after_step v e x)).object k).phase ≡ ending d) (sym o) end;
            within = is.within;
            cleared = λ m lt.
                ap (λ (k : ℕ). ((model_state (ghost_after_step v e x)).object k).member m) o
                ∙ member_kept v e d (object_of_block v y.block) m x n kept kept' is.ending
                ∙ is.cleared m lt;
          }) ends.each;
      once = ends.once;
    }
