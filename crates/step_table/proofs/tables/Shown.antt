-- What a word that was found tells of its cell.
use Rattle.std.proofs.Common.{◌≡◌, ℕ, ◌+◌, ◌*◌, ◌<◌, ◌≤◌, ◌∷◌, length, get_or, set, Some, None, Option}
use Rattle.std.proofs.Common.{sym, refl, ap, ◌∙◌, subst, arith}
use Rattle.step_table.proofs.Prelude
use Prelude.{Block, block_fits, block_number, blocks_of, cell_bits, cell_in, cell_of, cell_shown}
use Prelude.{CellWord, entry, Event, field_fits, GhostState, handle, handle_as, IsBusy, IsCellWord}
use Prelude.{IsKept, IsOpenTo, Kind, kind_in_state, me, Member, model_state, Nothing}
use Prelude.{object_of_block, opening, owing_funds, owned_fits, Paying, Pending, pending, Place}
use Prelude.{place_block, place_field, purse, same_Some, sees_as, shown, ShowsCell, Site}
use Prelude.{site_place, slot, sound, spot, Stands, TableInvariant, view_in, word_of_cell}
use Rattle.control_word.proofs.history.Clearing.{was_made}
use Rattle.control_word.proofs.packing.Cells.{same_cells}
use Rattle.control_word.specs.Limits.{cell_funds, one_taken}
use Rattle.control_word.proofs.words.Banks.{open_kept}
use Rattle.control_word.proofs.words.CellWords.{cell_inside}
use Rattle.control_word.proofs.words.Funds.{cell_busy, member_busy}
use Rattle.control_word.specs.declared.model.event.Cell.{Cell as Named}
use Rattle.control_word.specs.declared.model.event.Cell.TheVariants as named
use Rattle.control_word.specs.Packing.{IsPackedCell}
use Rattle.control_word.specs.Layout.{IsSite}
use Rattle.control_word.specs.Steps.{Adds}
use Rattle.control_word.specs.Words.{packed}
use Rattle.control_word.specs.declared.site.Site.TheVariants.{Free}
use Rattle.step_table.proofs.tables.Cells.{at_cell, decoded}
use Rattle.step_table.proofs.tables.Places.{event_by, there}
use Rattle.step_table.proofs.tables.Standing.{point, ready}

pub kept_cell : (v : GhostState) (d : ℕ) (c : Site) → TableInvariant v → IsOpenTo v d c → IsKept (model_state v) (cell_in (model_state v) c)
kept_cell v d c kept shut =
    open_kept (opening v.extent) (model_state v) d (cell_in (model_state v) c) (sound (opening v.extent) v.history kept.stands.legal) shut

-- where a cell's word lies
pub cell_there : (v : GhostState) (c : Site) → TableInvariant v → IsKept (model_state v) (cell_in (model_state v) c)
    → at_cell v (cell_in (model_state v) c) ≡ site_place v.extent.shape.blocks c
cell_there v (Free n) kept is = refl
cell_there v (Member b m) kept is = ap (λ (i : ℕ). spot i (7 + m)) (there v b kept is.1).0

pub somewhere : (v : GhostState) (c : Site) → TableInvariant v → IsKept (model_state v) (cell_in (model_state v) c) → IsSite c
somewhere v (Free n) kept is = tt
somewhere v (Member b m) kept is = ((there v b kept is.1).1.0, is.0)

pub word_inside : (v : GhostState) (d : ℕ) (c : Site) → TableInvariant v → d < v.extent.actors → IsKept (model_state v) (cell_in (model_state v) c)
    → site_place v.extent.shape.blocks c < length v.words
word_inside v d c kept lt is =
    let r = ready v d (pending v d) kept lt refl in
    subst (λ (i : ℕ). i < length v.words) (cell_there v c kept is)
    (cell_inside (opening v.extent) v.words v.views v.history kept.stands d (view_in v.views d) r.seated r.awake (cell_in (model_state v) c) is)

-- cells with one word are one
one_cell : (x y : CellWord) → IsCellWord x → IsCellWord y → cell_bits x ≡ cell_bits y → x ≡ y
one_cell x y hx hy e = same_cells x y hx hy e

-- the object that a cell holds is the latest of its block
latest_of : (v : GhostState) (c : Named) → TableInvariant v → IsKept (model_state v) c → (o : ℕ) → (cell_of (model_state v) c).object ≡ Some o
    → (model_state v).latest (blocks_of (model_state v) o) ≡ o
latest_of v c kept is o e = ((sound (opening v.extent) v.history kept.stands.legal).placed o (busy c is e)).0
  where
    busy : (d : Named) → IsKept (model_state v) d → (cell_of (model_state v) d).object ≡ Some o → IsBusy (model_state v) o
    busy (named.Free n) op q = cell_busy (opening v.extent) (model_state v) (sound (opening v.extent) v.history kept.stands.legal) n o op q
    busy (named.Member i m) op q =
        let fine = sound (opening v.extent) v.history kept.stands.legal in
        member_busy (opening v.extent) (model_state v) fine i m o (was_made (opening v.extent) (model_state v) i fine
        (λ u. let a = fine.unmade_free i u in let b = op.1 in omega arith)) op.0 q

handle_shown : (v : GhostState) (k : Kind) (o : Option ℕ) (p : Option Place) (t : ℕ)
    → ((i : ℕ) → o ≡ Some i → (model_state v).latest (blocks_of (model_state v) i) ≡ i)
    → handle_as (model_state v) k (shown (blocks_of (model_state v)) (handle k o p) t) ≡ handle k o p
handle_shown v k None p t last = refl
handle_shown v k (Some o) p t last = ap (λ (i : ℕ). handle k (Some i) p) (last o refl)

purse_shown : (v : GhostState) (k : Kind) (o : Option ℕ) (p : Option Place) (t f : ℕ)
    → ((i : ℕ) → o ≡ Some i → (model_state v).latest (blocks_of (model_state v) i) ≡ i)
    → ◌≡◌ {A = Pending Nothing} (purse (blocks_of (model_state v)) (handle k o p) f)
    (let x = shown (blocks_of (model_state v)) (handle k o p) t in owing_funds (model_state v) k x.owned x.place f 0)
purse_shown v k None p t f last = refl
purse_shown v k (Some o) p t f last =
    ap (λ (i : ℕ). Paying k i p (spot (blocks_of (model_state v) o) (slot k)) f 0) (sym (last o refl))

shown_there : (v : GhostState) (k : Kind) (o : Option ℕ) (p : Option Place) (t : ℕ)
    → ((i : ℕ) → o ≡ Some i → (model_state v).latest (blocks_of (model_state v) i) ≡ i) → (b : Block)
    → (shown (blocks_of (model_state v)) (handle k o p) t).owned ≡ Some b → blocks_of (model_state v) (object_of_block v b) ≡ b.0
shown_there v k None p t last b e = absurd (none_some e)
  where
    none_some : {y : Block} → None ≡ Some y → ⊥
    none_some q = cc
shown_there v k (Some o) p t last b e =
    let n : blocks_of (model_state v) o ≡ b.0 = same_number e in
    ap (λ (i : ℕ). blocks_of (model_state v) ((model_state v).latest i)) (sym n) ∙ ap (blocks_of (model_state v)) (last o refl) ∙ n
  where
    same_number : {i : ℕ} → ◌≡◌ {A = Option Block} (Some (record { 0 = i })) (Some b) → i ≡ b.0
    same_number q = ap (λ (x : Block). x.0) (same_Some _ _ q)

-- the value that a word tells, and what is owed for it when it comes out
pub record Found (v : GhostState) (c : Site) (x : CellWord) : Type 0 where
  pub shows : ShowsCell v c x
  pub bits : get_or v.words (at_cell v (cell_in (model_state v) c)) 0 ≡ packed (blocks_of (model_state v))
      (cell_of (model_state v) (cell_in (model_state v) c)) + one_taken * x.taken
  pub owed : (f : ℕ) → ◌≡◌ {A = Pending Nothing} (purse (blocks_of (model_state v)) (cell_of (model_state v) (cell_in (model_state v) c)) f)
      (owing_funds (model_state v) (kind_in_state (model_state v) c) x.owned x.place f 0)
  pub there : (b : Block) → x.owned ≡ Some b → blocks_of (model_state v) (object_of_block v b) ≡ b.0

pub found_in : (v : GhostState) (d : ℕ) (c : Site) (x : CellWord) → TableInvariant v → d < v.extent.actors → IsKept (model_state v) (cell_in (model_state v) c)
    → IsCellWord x
    → word_of_cell v c ≡ cell_bits x → Found v c x
found_in v d c x kept lt is valid bits =
    let s = model_state v in
    let e = cell_in s c in
    let code = decoded v d e kept lt is in
    let h = cell_of s e in
    let there = cell_there v c kept is in
    let same : x ≡ shown (blocks_of s) h code.taken =
    one_cell x _ valid code.valid (sym bits ∙ ap (λ (i : ℕ). get_or v.words i 0) (sym there) ∙ code.bits) in
    let last = latest_of v e kept is in
    record {
      shows =
          record {
            valid = valid;
            few = subst (λ (y : CellWord). y.taken ≤ cell_funds) (sym same) code.few;
            bits = bits;
            holds = ap (handle_as s (kind_in_state s c)) same ∙ subst (λ (k : Kind). handle_as s k (shown (blocks_of s) h code.taken) ≡ h) code.kind
                (handle_shown v h.kind h.object h.place code.taken last);
          };
      bits = code.bits ∙ sym (cell_shown (blocks_of s) h code.taken) ∙ ap (λ (y : CellWord). packed (blocks_of s) h + one_taken * y.taken) (sym same);
      owed = λ f.
          purse_shown v h.kind h.object h.place code.taken f last
          ∙ ap (λ (k : Kind). let y = shown (blocks_of s) h code.taken in owing_funds s k y.owned y.place f 0) code.kind
          ∙ ap (λ (y : CellWord). owing_funds s (kind_in_state s c) y.owned y.place f 0) (sym same);
      there = λ b q. shown_there v h.kind h.object h.place code.taken last b (sym (ap (λ (y : CellWord). y.owned) same) ∙ q);
    }

-- an event on a cell, as the atomic step says it
pub adds_by : (v : GhostState) (d i j n m : ℕ) (e f : Event Nothing) (p q : Pending Nothing) → TableInvariant v → d < v.extent.actors → i ≡ j
    → n ≡ m → e ≡ f → p ≡ q
    → Adds (point v d) i n e p
    → Stands (opening v.extent) (set v.words j m) (set v.views d (sees_as (view_in v.views d) q (entry d f ∷ v.history))) (entry d f ∷ v.history)
adds_by v d i j n m e f p q kept lt at to is owed adds =
    event_by v d (set v.words j m) q f kept lt
    (subst (λ (x : Pending Nothing). Stands (opening v.extent) (set v.words j m)
    (set v.views d (sees_as (view_in v.views d) x (entry (me (point v d)) f ∷ v.history))) (entry (me (point v d)) f ∷ v.history)) owed
    (subst (λ (x : Event Nothing). Stands (opening v.extent) (set v.words j m)
    (set v.views d (sees_as (view_in v.views d) p (entry (me (point v d)) x ∷ v.history))) (entry (me (point v d)) x ∷ v.history)) is
    (subst (λ (x : ℕ). Stands (opening v.extent) (set v.words j x)
    (set v.views d (sees_as (view_in v.views d) p (entry (me (point v d)) e ∷ v.history))) (entry (me (point v d)) e ∷ v.history)) to
    (subst (λ (x : ℕ). Stands (opening v.extent) (set v.words x n)
    (set v.views d (sees_as (view_in v.views d) p (entry (me (point v d)) e ∷ v.history))) (entry (me (point v d)) e ∷ v.history)) at adds))))

-- the word of a cell can be unpacked
pub cell_packed : (v : GhostState) (d : ℕ) (c : Site) (n : ℕ) → TableInvariant v → d < v.extent.actors → IsKept (model_state v) (cell_in (model_state v) c)
    → n ≡ word_of_cell v c
    → IsPackedCell n
cell_packed v d c n kept lt is e =
    let code = decoded v d (cell_in (model_state v) c) kept lt is in
    record { cell = _; valid = code.valid; bits = e ∙ ap (λ (i : ℕ). get_or v.words i 0) (sym (cell_there v c kept is)) ∙ code.bits }
