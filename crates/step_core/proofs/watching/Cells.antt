-- Steps on cells: where half of a cell's funds or more are taken, threads count that put them back.
use Rattle.std.proofs.Common.{◌≡◌, ℕ, suc, ◌+◌, ◌-◌, ◌*◌, ◌<◌, ◌≤◌, Bool, true, false, cond, ◌&&◌}
use Rattle.std.proofs.Common.{◌≢◌, List, length, ◌==◌, slice_index, slice_set, Some, None, Option}
use Rattle.std.proofs.Common.{sym, refl, ap, ◌∙◌, subst, inl, inr, ⊎_elim, arith, get_or-set_other}
use Rattle.std.proofs.Common.{get_or-set_same, ltb-false, eq-eqb, ne_eqb, eqb-true}
use Rattle.step_core.proofs.Prelude
use Prelude.{and_from, and_parts, AtomicStep, Block, cases_eq, cell_bits, CellWord, Checking}
use Prelude.{cond_both, Failing, false≢true, FrameView, Free, ghost_after, GhostState}
use Prelude.{handle_busy, is_drained, is_low, is_watching, IsCellOfShape, IsCellWord, IsSite}
use Prelude.{kind_in_state, Lacking, Member, model_state, more_taken, opening, PendingCall, Refill}
use Prelude.{RefillFits, Refilling, refills_on, Rest, same_Some, same_value, Saw, seen, seen_found}
use Prelude.{Shape, Site, site_place, Stage, Step, TableInvariant, there, Turning, within}
use Prelude.{word_of_cell}
use Rattle.step_table.specs.declared.memory.shelf.ShelfStep.{ShelfStep}
use Rattle.control_word.specs.Words.{shelf_spot}
use Rattle.std.specs.Prelude.{nat_lt}
use Rattle.step_table.specs.ShelfAtomicSteps.{bit_moved}
use Rattle.step_table.specs.declared.cell_steps.cell_step.CellStep.TheVariants as cell_step
use Rattle.step_table.specs.declared.memory.ghost_history.AtomicStep.TheVariants as atomic_step
use Rattle.step_core.proofs.watching.Blocks.{IsThere, StaysOff, bring_off, give_back_off, turn_off}
use Rattle.step_core.proofs.watching.Words.{Watch, bit, flag, more_told, refilled_told, same_told, taken_told}
use Rattle.control_word.specs.Limits.{one_taken}
use Rattle.control_word.specs.Packing.{taken_in, without_taken}

-- a cell of the shape has a place
pub somewhere : (z : Shape) (c : Site) → IsCellOfShape z c → IsSite c
somewhere z (Free n) is = tt
somewhere z (Member b m) is = (is.0, (let few = is.2 in omega (arith, few)))

in_words : (v : GhostState) (c : Site) → TableInvariant v → IsCellOfShape v.extent.shape c → site_place v.extent.shape.blocks c < length v.words
in_words v (Free n) kept lt = let s = kept.stands.shows.sized in omega (arith, s, lt)
in_words v (Member b m) kept is =
    let s = kept.stands.shows.sized in
    let from = is.0 in
    let high = is.1 in
    let few = is.2 in
    omega (arith, s, from, high, few)

-- a word of the shelf is none of a cell
shelf_apart : (v : GhostState) (c : Site) (b : ℕ) → IsCellOfShape v.extent.shape c → site_place v.extent.shape.blocks c ≢ shelf_spot (opening v.extent) b
shelf_apart v (Free n) b is e = omega (arith, is, e)
shelf_apart v (Member a m) b is e =
    let from = is.0 in
    let high = is.1 in
    let few = is.2 in
    omega (arith, from, high, few, e)

pub shelf_off : (v : GhostState) (d : ℕ) (x : ShelfStep) (b : Block) (c : Site) → IsCellOfShape v.extent.shape c
    → slice_index (ghost_after v d (Some (atomic_step.OnShelf b x))).words (site_place v.extent.shape.blocks c) ≡ word_of_cell v c
shelf_off v d x b c is =
    let p = site_place v.extent.shape.blocks c in
    let k = shelf_spot (opening v.extent) b.0 in
    let moved = slice_set v.words k (bit_moved x b.0 (slice_index v.words k)) in
    cond_both (nat_lt v.extent.shape.blocks b.0) v.words moved (λ (w : List ℕ). slice_index w p ≡ word_of_cell v c) (λ t. refl)
    (λ t. get_or-set_other v.words k p _ 0 (shelf_apart v c b.0 is))

-- one word is another, or none is: so it is for each cell of the shape
abbrev pub WatchesWord : GhostState → PendingCall → List ℕ → PendingCall → Type 0
WatchesWord v h words g =
    let z = v.extent.shape in
    (c : Site) → IsCellOfShape z c → Watch z.blocks (site_place z.blocks c) (word_of_cell v c) (slice_index words (site_place z.blocks c)) h g

abbrev pub Watches : GhostState → ℕ → PendingCall → Option AtomicStep → PendingCall → Type 0
Watches v d h x g = WatchesWord v h (ghost_after v d x).words g

-- the pending call has no funds of a cell
abbrev pub IsQuiet : GhostState → PendingCall → Type 0
IsQuiet v h = (p a : ℕ) → bit v.extent.shape.blocks p a h ≡ 0

pub still : (v : GhostState) (d : ℕ) (h : PendingCall) (x : Option AtomicStep) (g : PendingCall) → IsQuiet v h → StaysOff v d x → Watches v d h x g
still v d h x g quiet off c is =
    inl (off c (somewhere v.extent.shape c is), (let q = quiet (site_place v.extent.shape.blocks c) (word_of_cell v c) in omega (arith, q)))

-- the thread has the same funds to put back
pub going_on : (v : GhostState) (d : ℕ) (s r : Stage) (c : Site) (y : CellWord) (k : ℕ) (x : Option AtomicStep) → StaysOff v d x
    → Watches v d (Refill s c y k) x (Refill r c y k)
going_on v d s r c y k x off e is = inl (off e (somewhere v.extent.shape e is), omega arith)

elsewhere : (v : GhostState) (s : Stage) (c : Site) (x : CellWord) (k p a : ℕ) → p ≢ site_place v.extent.shape.blocks c
    → bit v.extent.shape.blocks p a (Refill s c x k) ≡ 0
elsewhere v s c x k p a ne =
    ap (λ (t : Bool). cond (t && is_low x && without_taken (cell_bits x) == without_taken a) 1 0)
    (ne_eqb (site_place v.extent.shape.blocks c) p (λ e. ne (sym e)))

-- one cell's word is another
module _ (v : GhostState) (c : Site) (word : ℕ) (h g : PendingCall) (kept : TableInvariant v)
    (here : Watch v.extent.shape.blocks (site_place v.extent.shape.blocks c) (word_of_cell v c) word h g)
    (else : (p a : ℕ) → p ≢ site_place v.extent.shape.blocks c → bit v.extent.shape.blocks p a h ≡ 0) where
  pub changed : WatchesWord v h (slice_set v.words (site_place v.extent.shape.blocks c) word) g
  changed e is =
      let z = v.extent.shape in
      let p = site_place z.blocks e in
      let q = site_place z.blocks c in
      let size : p < length v.words = in_words v e kept is in
      ⊎_elim
      (λ (t : p ≡ q).
      let b : slice_index (slice_set v.words p word) p ≡ word = get_or-set_same v.words p word 0 size in
      let w : Watch z.blocks p (word_of_cell v e) word h g = subst (λ (i : ℕ). Watch z.blocks i (slice_index v.words i) word h g) (sym t) here in
      subst (λ (i : ℕ). Watch z.blocks p (word_of_cell v e) (slice_index (slice_set v.words i word) p) h g) t
      (subst (λ (i : ℕ). Watch z.blocks p (word_of_cell v e) i h g) (sym b) w))
      (λ (ne : p ≢ q).
      inl (get_or-set_other v.words q p word 0 ne, (let o = else p (word_of_cell v e) ne in omega (arith, o)))) (cases_eq p q)

-- a value goes into the cell, of which no fund was taken
pub put_in : (v : GhostState) (d : ℕ) (c : Site) (x : CellWord) (h g : PendingCall) → TableInvariant v → IsQuiet v h → IsCellWord x → x.taken ≡ 0
    → WatchesWord v h (slice_set v.words (site_place v.extent.shape.blocks c) (cell_bits x)) g
put_in v d c x h g kept quiet valid none =
    changed v c (cell_bits x) h g kept (inr (inl (let t = taken_told x valid in omega (arith, t, none)))) (λ p a ne. quiet p a)

-- a fund is taken
pub taken : (v : GhostState) (c : Site) (x : CellWord) (k : ℕ) → TableInvariant v → IsCellWord x → word_of_cell v c ≡ cell_bits x
    → WatchesWord v (Saw x) (slice_set v.words (site_place v.extent.shape.blocks c) (word_of_cell v c + one_taken)) (Refill Turning c (more_taken x) k)
taken v c x k kept valid shows =
    changed v c (word_of_cell v c + one_taken) (Saw x) (Refill Turning c (more_taken x) k) kept (go (is_low (more_taken x)) refl) (λ p a ne. refl)
  where
    blocks : ℕ
    blocks = v.extent.shape.blocks

    go : (b : Bool) → is_low (more_taken x) ≡ b
        → Watch blocks (site_place blocks c) (word_of_cell v c) (word_of_cell v c + one_taken) (Saw x) (Refill Turning c (more_taken x) k)
    go true low =
        let same : cell_bits (more_taken x) ≡ word_of_cell v c + one_taken = more_told x ∙ ap (λ (n : ℕ). n + one_taken) (sym shows) in
        inr (inr (
          refl,
          refl,
          ap (λ (t : Bool). cond t 1 0)
              (and_from _ _ (and_from _ _ (eq-eqb (site_place blocks c) (site_place blocks c) refl) low)
              (eq-eqb (without_taken (cell_bits (more_taken x))) (without_taken (word_of_cell v c + one_taken)) (ap without_taken same))),
        ))
    go false high =
        let few : suc x.taken ≤ 127 = ltb-false 127 (suc x.taken) high in
        let m = taken_told (more_taken x) (record { owned = valid.owned; place = valid.place; taken = omega (arith, few) }) in
        let same : taken_in (word_of_cell v c + one_taken) ≡ suc x.taken = ap taken_in (ap (λ (n : ℕ). n + one_taken) shows ∙ sym (more_told x)) ∙ m in
        inr (inl (omega (arith, few, same)))

middle_false : (a b : Bool) → (a && false && b) ≡ false
middle_false true b = refl
middle_false false b = refl

pub last_false : (a : Bool) → (a && false) ≡ false
last_false true = refl
last_false false = refl

-- few funds are none to put back
few_quiet : (v : GhostState) (s : Stage) (c : Site) (x : CellWord) (k : ℕ) → is_low x ≡ false → IsQuiet v (Refill s c x k)
few_quiet v s c x k few p a =
    ap (λ (t : Bool). cond (site_place v.extent.shape.blocks c == p && t && without_taken (cell_bits x) == without_taken a) 1 0) few
    ∙ ap (λ (t : Bool). cond t 1 0) (middle_false (site_place v.extent.shape.blocks c == p) (without_taken (cell_bits x) == without_taken a))

-- the block of what is put back is one of the table
pub block_there : (v : GhostState) (d : ℕ) (s : Stage) (c : Site) (x : CellWord) → TableInvariant v → RefillFits d s c x v → (b : Block)
    → x.owned ≡ Some b → IsThere v b
block_there v d s c x kept fits b own =
    subst (IsThere v) (same_Some _ _ (sym fits.owned ∙ own))
    (there v fits.block kept (handle_busy v d (kind_in_state (model_state v) c) fits.block x.place kept fits.has)).1

module _ (v : GhostState) (d : ℕ) (c : Site) (x : CellWord) (k : ℕ) (w : FrameView) (kept : TableInvariant v) (seat : d < v.extent.actors) where
  -- the cell is looked at
  checked : RefillFits d Checking c x v → Watches v d (Refill Checking c x k) None (cond (is_drained x (seen v c)) (Refill Lacking c (seen v c) k) Rest)
  checked fits other is = ⊎_elim (λ (e : p ≡ q). at_cell e (is_drained x y) refl) away (cases_eq p q)
    where
      blocks : ℕ
      blocks = v.extent.shape.blocks

      p : ℕ
      p = site_place blocks other

      q : ℕ
      q = site_place blocks c

      y : CellWord
      y = seen v c

      here : ℕ
      here = word_of_cell v other

      away : p ≢ q → Watch blocks p here here (Refill Checking c x k) (cond (is_drained x y) (Refill Lacking c y k) Rest)
      away ne = inl (refl, (let o = elsewhere v Checking c x k p here ne in omega (arith, o)))

      shows : p ≡ q → here ≡ cell_bits y
      shows e = ap (slice_index v.words) e ∙ (seen_found v d c kept seat fits.opens).shows.bits

      valid : IsCellWord y
      valid = (seen_found v d c kept seat fits.opens).shows.valid

      differs : p ≡ q → same_value x y ≡ false → bit blocks p here (Refill Checking c x k) ≡ 0
      differs e ne = go (without_taken (cell_bits x) == without_taken here) refl
        where
          go : (b : Bool) → (without_taken (cell_bits x) == without_taken here) ≡ b → ◌≡◌ {A = ℕ} (cond (q == p && is_low x && b) 1 0) 0
          go false f = ap (λ (t : Bool). cond t 1 0) (last_false (q == p && is_low x))
          go true f =
              absurd (false≢true (sym ne ∙ same_told x y fits.valid valid (eqb-true _ _ f ∙ ap without_taken (shows e))))

      at_cell : p ≡ q → (b : Bool) → is_drained x y ≡ b → Watch blocks p here here (Refill Checking c x k) (cond b (Refill Lacking c y k) Rest)
      at_cell e true drained =
          let a = and_parts (same_value x y) (is_low y) drained in
          let one : bit blocks p here (Refill Lacking c y k) ≡ 1 =
          ap (λ (t : Bool). cond t 1 0) (and_from _ _ (and_from _ _ (eq-eqb q p (sym e)) a.1)
          (eq-eqb (without_taken (cell_bits y)) (without_taken here) (ap without_taken (sym (shows e))))) in
          let f = flag (is_watching blocks p here (Refill Checking c x k)) in
          inl (refl, omega (arith, one, f))
      at_cell e false not = by_value (same_value x y) refl
        where
          by_value : (b : Bool) → same_value x y ≡ b → Watch blocks p here here (Refill Checking c x k) Rest
          by_value false ne = let z = differs e ne in inl (refl, omega (arith, z))
          by_value true same =
              let high : is_low y ≡ false = ap (λ (t : Bool). t && is_low y) (sym same) ∙ not in
              let few : y.taken ≤ 127 = ltb-false 127 y.taken high in
              let t = taken_told y valid in
              let s = shows e in
              let r : taken_in here ≡ y.taken = ap taken_in s ∙ t in inr (inl (omega (arith, few, r)))

  -- the thread's refill goes on
  pub refilled : (s : Stage) → RefillFits d s c x v → (b : Block) → x.owned ≡ Some b
      → Watches v d (Refill s c x k) (refills_on v w s c x k b).atomic_step (refills_on v w s c x k b).pending_call
  refilled Turning fits b own =
      let t = turn_off v d (kind_in_state (model_state v) c) b (block_there v d Turning c x kept fits b own) in
      cond_both (is_low x) (Refill Checking c x k) Rest
      (λ (g : PendingCall). Watches v d (Refill Turning c x k) (Some (atomic_step.OnCell (cell_step.Turn (kind_in_state (model_state v) c) b))) g)
      (λ low. going_on v d Turning Checking c x k (Some (atomic_step.OnCell (cell_step.Turn (kind_in_state (model_state v) c) b))) t)
      (λ few. still v d (Refill Turning c x k) (Some (atomic_step.OnCell (cell_step.Turn (kind_in_state (model_state v) c) b))) Rest
      (few_quiet v Turning c x k few) t)
  refilled Checking fits b own = checked fits
  refilled Lacking fits b own =
      going_on v d Lacking Refilling c x k (Some (atomic_step.OnCell (cell_step.Bring (kind_in_state (model_state v) c) b x.place x.taken)))
      (bring_off v d (kind_in_state (model_state v) c) b x.place x.taken (block_there v d Lacking c x kept fits b own))
  refilled Refilling fits b own =
      cond_both (word_of_cell v c == cell_bits x) (within w k (Some (atomic_step.OnCell (cell_step.Refill c x.taken))) Rest)
      (within w k None (Refill Failing c x k))
      (λ (y : Step). Watches v d (Refill Refilling c x k) y.atomic_step y.pending_call)
      (λ e. changed v c (word_of_cell v c - one_taken * x.taken) (Refill Refilling c x k) Rest kept
      (inr (inl (
      let s = eqb-true _ _ e in
      let r : taken_in (word_of_cell v c - one_taken * x.taken) ≡ 0 = ap (λ (n : ℕ). taken_in (n - one_taken * x.taken)) s ∙ refilled_told x fits.valid in
      omega (arith, r)))) (λ p a ne. elsewhere v Refilling c x k p a ne))
      (λ e. going_on v d Refilling Failing c x k None (λ n valid. refl))
  refilled Failing fits b own =
      going_on v d Failing Checking c x k (Some (atomic_step.OnCell (cell_step.GiveBack (kind_in_state (model_state v) c) b x.taken)))
      (give_back_off v d (kind_in_state (model_state v) c) b x.taken (block_there v d Failing c x kept fits b own))
