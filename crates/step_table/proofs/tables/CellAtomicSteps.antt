-- Steps on cells and funds shut no door, and leave what objects are but for their members.
use Rattle.std.proofs.Common.{◌≡◌, ℕ, ◌≤◌, true, false, ◌≢◌, List, length, Some, None, Option, sym}
use Rattle.std.proofs.Common.{refl, ap, ◌∙◌, subst}
use Rattle.step_table.proofs.Prelude
use Prelude.{AllWhole, Block, Bring, cell_in, cell_pending, CellStep, clears, CompareSwap, Free}
use Prelude.{gets, ghost_after_step, GhostState, GiveBack, handle_as, handle_told, Holds, Kind}
use Prelude.{kind_in_state, kind_of_member, Look, model_state, Nothing, NumberedHandle, Object}
use Prelude.{object_of_block, OnCell, owing_funds, Place, put, put_cases, Refill, Same, same_after}
use Prelude.{ShutsNoDoor, State, still, Swap, swaps, Take, TakeOut, Turn}
use Rattle.control_word.specs.declared.model.event.Cell.{Cell as Named}
use Rattle.control_word.specs.declared.model.event.Cell.TheVariants.{Member}
use Rattle.control_word.specs.declared.model.event.Event.TheVariants as event

shuts_owing : (s : State) (k : Kind) (o : Option Block) (p : Option Place) (f l : ℕ) → ShutsNoDoor (owing_funds s k o p f l)
shuts_owing s k None p f l = tt
shuts_owing s k (Some b) p f l = tt

pub shuts_cell : (s : State) (x : CellStep) → ShutsNoDoor (cell_pending s x)
shuts_cell s (Look c x y) = tt
shuts_cell s (Holds c x b) = tt
shuts_cell s (Bring k b p f) = tt
shuts_cell s (GiveBack k b f) = tt
shuts_cell s (Take c x y) = shuts_owing s (kind_in_state s c) x.owned x.place 1 1
shuts_cell s (Turn k b) = tt
shuts_cell s (Refill c t) = tt
shuts_cell s (Swap c new x) = shuts_owing s (kind_in_state s c) x.owned x.place _ 0
shuts_cell s (CompareSwap c x y) = shuts_owing s (kind_in_state s c) x.owned x.place _ 0
shuts_cell s (TakeOut b m x) = shuts_owing s (kind_of_member 2 m) x.owned x.place _ 0

-- nothing but hands, cells and members differs
pub record IsFramed (s t : State) : Type 0 where
  pub made : t.made ≡ s.made
  pub allowance : t.allowance ≡ s.allowance
  pub block : (o : ℕ) → (t.object o).block ≡ (s.object o).block
  pub phase : (o : ℕ) → (t.object o).phase ≡ (s.object o).phase
  pub fields : (o : ℕ) → (t.object o).fields ≡ (s.object o).fields
  pub enabled : (o : ℕ) → (t.object o).enabled ≡ (s.object o).enabled

gets_framed : (d : ℕ) (h : NumberedHandle) (s : State) → IsFramed s (gets d h s)
gets_framed d h s = record { made = refl; allowance = refl; block = λ o. refl; phase = λ o. refl; fields = λ o. refl; enabled = λ o. refl }

-- an object with another member
member_put : {A : Type 0} (f : Object → A) (s : State) (i m : ℕ) (h : NumberedHandle) → ((x : Object) → f (record x { member = put x.member m h }) ≡ f x)
    → (o : ℕ) → f (put s.object i (record (s.object i) { member = put (s.object i).member m h }) o) ≡ f (s.object o)
member_put f s i m h same o =
    put_cases (λ j (x : Object). f x ≡ f (s.object o)) s.object i _ o (λ e. same (s.object i) ∙ ap (λ (n : ℕ). f (s.object n)) (sym e)) (λ ne. refl)

clears_framed : (d o m : ℕ) (h : NumberedHandle) (s : State) → IsFramed s (clears d o m h s)
clears_framed d o m h s =
    record {
      made = refl;
      allowance = refl;
      block = member_put (λ (x : Object). x.block) s o m _ (λ x. refl);
      phase = member_put (λ (x : Object). x.phase) s o m _ (λ x. refl);
      fields = member_put (λ (x : Object). x.fields) s o m _ (λ x. refl);
      enabled = member_put (λ (x : Object). x.enabled) s o m _ (λ x. refl);
    }

swaps_framed : (d : ℕ) (c : Named) (new old : NumberedHandle) (s : State) → IsFramed s (swaps d c new old s)
swaps_framed d (Free n) new old s = record { made = refl; allowance = refl; block = λ o. refl; phase = λ o. refl; fields = λ o. refl; enabled = λ o. refl }
swaps_framed d (Member o m) new old s =
    record {
      made = refl;
      allowance = refl;
      block = member_put (λ (x : Object). x.block) s o m new (λ x. refl);
      phase = member_put (λ (x : Object). x.phase) s o m new (λ x. refl);
      fields = member_put (λ (x : Object). x.fields) s o m new (λ x. refl);
      enabled = member_put (λ (x : Object). x.enabled) s o m new (λ x. refl);
    }

same_framed : (s : State) → IsFramed s s
same_framed s = record { made = refl; allowance = refl; block = λ o. refl; phase = λ o. refl; fields = λ o. refl; enabled = λ o. refl }

pub framed : (v : GhostState) (d : ℕ) (x : CellStep) → IsFramed (model_state v) (model_state (ghost_after_step v d (OnCell x)))
framed v d (Look c x None) = gets_framed d (handle_told (model_state v) c x) (model_state v)
framed v d (Look c x (Some y)) = gets_framed d (handle_told (model_state v) c x) (model_state v)
framed v d (Holds c x b) = same_framed (model_state v)
framed v d (Bring k b p f) = same_framed (model_state v)
framed v d (GiveBack k b f) = same_framed (model_state v)
framed v d (Take c x None) = gets_framed d (handle_told (model_state v) c x) (model_state v)
framed v d (Take c x (Some y)) = gets_framed d (handle_told (model_state v) c x) (model_state v)
framed v d (Turn k b) = same_framed (model_state v)
framed v d (Refill c t) = same_framed (model_state v)
framed v d (Swap c new x) = swaps_framed d (cell_in (model_state v) c) (handle_told (model_state v) c new) (handle_told (model_state v) c x) (model_state v)
framed v d (CompareSwap c x y) =
    swaps_framed d (cell_in (model_state v) c) (handle_told (model_state v) c y.new) (handle_told (model_state v) c x) (model_state v)
framed v d (TakeOut b m x) = clears_framed d (object_of_block v b) m (handle_as (model_state v) (kind_of_member 2 m) x) (model_state v)

pub whole_framed : (v : GhostState) (d : ℕ) (x : CellStep) → AllWhole (model_state v) → AllWhole (model_state (ghost_after_step v d (OnCell x)))
whole_framed v d x whole o some le =
    let f = framed v d x in
    subst (λ (l : List ℕ). length l ≡ 4) (sym (f.fields o)) (whole o some (subst (λ (n : ℕ). o ≤ n) f.made le))

-- another desk's hands and store stay
pub same_cell : (v : GhostState) (e d : ℕ) (x : CellStep) → e ≢ d → Same (model_state v) (model_state (ghost_after_step v e (OnCell x))) d
same_cell v e d (Look c x None) n =
    same_after {V = Nothing} (model_state v) d e (event.Load (cell_in (model_state v) c) (handle_told (model_state v) c x)) n (λ z. z)
same_cell v e d (Look c x (Some y)) n =
    same_after {V = Nothing} (model_state v) d e (event.Compare (cell_in (model_state v) c) (handle_told (model_state v) c y.expected)
    (handle_told (model_state v) c y.new)
    (handle_told (model_state v) c x) false y.weak) n (λ z. z)
same_cell v e d (Holds c x b) n = still (model_state v) d
same_cell v e d (Bring k b p f) n = still (model_state v) d
same_cell v e d (GiveBack k b f) n = still (model_state v) d
same_cell v e d (Take c x None) n =
    same_after {V = Nothing} (model_state v) d e (event.Load (cell_in (model_state v) c) (handle_told (model_state v) c x)) n (λ z. z)
same_cell v e d (Take c x (Some y)) n =
    same_after {V = Nothing} (model_state v) d e (event.Compare (cell_in (model_state v) c) (handle_told (model_state v) c y.expected)
    (handle_told (model_state v) c y.new)
    (handle_told (model_state v) c x) false y.weak) n (λ z. z)
same_cell v e d (Turn k b) n = still (model_state v) d
same_cell v e d (Refill c t) n = still (model_state v) d
same_cell v e d (Swap c new x) n =
    same_after {V = Nothing} (model_state v) d e (event.Swap (cell_in (model_state v) c) (handle_told (model_state v) c new)
    (handle_told (model_state v) c x)) n (λ z. z)
same_cell v e d (CompareSwap c x y) n =
    same_after {V = Nothing} (model_state v) d e (event.Compare (cell_in (model_state v) c) (handle_told (model_state v) c y.expected)
    (handle_told (model_state v) c y.new)
    (handle_told (model_state v) c x) true y.weak) n (λ z. z)
same_cell v e d (TakeOut b m x) n =
    same_after {V = Nothing} (model_state v) d e (event.ClearMember (object_of_block v b) m (handle_as (model_state v) (kind_of_member 2 m) x)) n (λ z. z)
