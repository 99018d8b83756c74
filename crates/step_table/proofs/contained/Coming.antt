-- What comes out of a cell, and into a slot.
use Rattle.std.proofs.Common.{◌≡◌, ℕ, ◌<◌, false, length, get_or, set, is_some, IfSome, Some, None}
use Rattle.std.proofs.Common.{Option, sym, refl, ap, ◌∙◌, subst, arith}
use Rattle.step_table.proofs.Prelude
use Prelude.{Block, blocks_of, cell_bits, cell_in, CellWord, Compared, ending, gets}
use Prelude.{ghost_after_step, GhostState, handle, handle_as, held_in, HoldsBag, IsCellWord}
use Prelude.{IsOpenTo, IsPlace, IsPointer, Kind, kind_in_state, kind_of_member, Look, Member}
use Prelude.{model_state, object_at, object_of_block, OnCell, Place, seen, shown, ShowsCell, Site}
use Prelude.{Slot, slot_by, slot_in, slot_of, slot_pointer, Slots, TableInvariant, Take, TakeOut}
use Prelude.{word_of_cell}
use Rattle.step_table.proofs.contained.Told.{shows_seen, shows_slot}
use Rattle.step_table.proofs.holding.Owning.{holds_empty, holds_look, holds_more}
use Rattle.step_table.proofs.tables.Cells.{decoded}
use Rattle.step_table.proofs.tables.Members.{member_kind}
use Rattle.step_table.proofs.tables.Places.{ending_busy}
use Rattle.step_table.proofs.tables.Shown.{Found, cell_there, found_in, kept_cell}

pub pointer_valid : (x : CellWord) → IsCellWord x → IsPointer x.place
pointer_valid x valid = go x.place valid.place
  where
    go : (p : Option Place) → IfSome p IsPlace → IsPointer p
    go None is = tt
    go (Some p) is = let a = is.0.0 in let b = is.0.1 in let f = is.1 in (omega (arith, a), b, omega (arith, f))

-- a value that a cell's word tells comes into a slot that had no object
pub holds_got : (d : ℕ) (slots : Slots) (v w : GhostState) (i : ℕ) (k : Kind) (x : CellWord) → HoldsBag d slots v
    → (model_state w).hands ≡ (gets d (handle_as (model_state v) k x) (model_state v)).hands → (model_state w).latest ≡ (model_state v).latest
    → IsPointer x.place → i < length slots → slot_pointer slots i ≡ None → HoldsBag d (set slots i (slot_in k x)) w
holds_got d slots v w i k x holds hands latest fine lt e = go x.owned hands
  where
    go : (o : Option Block) → (model_state w).hands ≡ (gets d (handle k (object_at (model_state v) o) x.place) (model_state v)).hands
        → HoldsBag d (set slots i (slot_by k o x.place)) w
    go None q = holds_look d (set slots i (slot_by k None x.place)) v w q latest (holds_empty d slots v i x.place holds lt e fine)
    go (Some b) q = holds_more d slots v w i (record { kind = k; block = b; place = x.place }) holds q latest fine lt e

module _ (d : ℕ) (slots : Slots) (v : GhostState) (i : ℕ) (c : Site) (x : CellWord) (holds : HoldsBag d slots v) (found : Found v c x)
    (lt : i < length slots) (e : slot_pointer slots i ≡ None) where
  came : (w : GhostState) → (model_state w).hands ≡ (gets d (handle_as (model_state v) (kind_in_state (model_state v) c) x) (model_state v)).hands
      → (model_state w).latest ≡ (model_state v).latest → HoldsBag d (set slots i (slot_of (model_state v) (held_in (model_state v) c))) w
  came w hands latest =
      subst (λ (y : Slot). HoldsBag d (set slots i y) w) (shows_slot v d c x found)
      (holds_got d slots v w i (kind_in_state (model_state v) c) x holds hands latest (pointer_valid x found.shows.valid) lt e)

  -- what was loaded, or compared and found to differ
  pub holds_taken : (y : Option Compared)
      → HoldsBag d (set slots i (slot_of (model_state v) (held_in (model_state v) c))) (ghost_after_step v d (OnCell (Take c x y)))
  holds_taken None = came (ghost_after_step v d (OnCell (Take c x None))) refl refl
  holds_taken (Some y) = came (ghost_after_step v d (OnCell (Take c x (Some y)))) refl refl

  pub holds_seen : (y : Option Compared)
      → HoldsBag d (set slots i (slot_of (model_state v) (held_in (model_state v) c))) (ghost_after_step v d (OnCell (Look c x y)))
  holds_seen None = came (ghost_after_step v d (OnCell (Look c x None))) refl refl
  holds_seen (Some y) = came (ghost_after_step v d (OnCell (Look c x (Some y)))) refl refl

  -- what was in a member
  pub holds_came : (b : Block) (m : ℕ) → c ≡ Member b m
      → HoldsBag d (set slots i (slot_of (model_state v) (held_in (model_state v) c))) (ghost_after_step v d (OnCell (TakeOut b m x)))
  holds_came b m is =
      came (ghost_after_step v d (OnCell (TakeOut b m x)))
      (ap (λ (k : Kind). (gets d (handle_as (model_state v) k x) (model_state v)).hands)
      (sym (ap (kind_in_state (model_state v)) is ∙ member_kind v m))) refl

pub holds_taken_out : (d : ℕ) (slots : Slots) (v : GhostState) (i : ℕ) (b : Block) (m : ℕ) (x : CellWord) → HoldsBag d slots v → Found v (Member b m) x
    → i < length slots → slot_pointer slots i ≡ None
    → HoldsBag d (set slots i (slot_of (model_state v) (held_in (model_state v) (Member b m)))) (ghost_after_step v d (OnCell (TakeOut b m x)))
holds_taken_out d slots v i b m x holds found lt e = holds_came d slots v i (Member b m) x holds found lt e b m refl

pub none_owned : (o : Option Block) → is_some o ≡ false → o ≡ None
none_owned None e = refl
none_owned (Some b) e = cc

-- a member without an object leaves the slots
pub holds_taken_bare : (d : ℕ) (slots : Slots) (v : GhostState) (b : Block) (m : ℕ) (x : CellWord) → HoldsBag d slots v → x.owned ≡ None
    → HoldsBag d slots (ghost_after_step v d (OnCell (TakeOut b m x)))
holds_taken_bare d slots v b m x holds none =
    holds_look d slots v (ghost_after_step v d (OnCell (TakeOut b m x)))
    (ap (λ (o : Option Block). (gets d (handle (kind_of_member 2 m) (object_at (model_state v) o) x.place) (model_state v)).hands) none) refl holds

-- what a word that was found tells, of a cell that is open and of a member of an ending object
pub open_found : (v : GhostState) (d : ℕ) (c : Site) (x : CellWord) → TableInvariant v → d < v.extent.actors → IsOpenTo v d c → IsCellWord x
    → word_of_cell v c ≡ cell_bits x → Found v c x
open_found v d c x kept lt way valid bits = found_in v d c x kept lt (kept_cell v d c kept way) valid bits

pub open_shown : (v : GhostState) (d : ℕ) (c : Site) (x : CellWord) → TableInvariant v → d < v.extent.actors → IsOpenTo v d c → ShowsCell v c x → Found v c x
open_shown v d c x kept lt way shows = open_found v d c x kept lt way shows.valid shows.bits

pub member_found : (v : GhostState) (d : ℕ) (b : Block) (m : ℕ) (x : CellWord) → TableInvariant v → d < v.extent.actors
    → ((model_state v).object (object_of_block v b)).phase ≡ ending d → m < 3 → ShowsCell v (Member b m) x → Found v (Member b m) x
member_found v d b m x kept lt end few shows = found_in v d (Member b m) x kept lt (omega (arith, few), ending_busy v d b end) shows.valid shows.bits

-- the slot that the code makes of it
pub comes : (v : GhostState) (d : ℕ) (c : Site) (x : CellWord) (k : Kind) (y : Slot) → Found v c x → k ≡ kind_in_state (model_state v) c
    → y ≡ slot_in k x
    → y ≡ slot_of (model_state v) (held_in (model_state v) c)
comes v d c x k y found kind is = is ∙ ap (λ (q : Kind). slot_in q x) kind ∙ shows_slot v d c x found

-- a cell shows what it holds
pub seen_found : (v : GhostState) (d : ℕ) (c : Site) → TableInvariant v → d < v.extent.actors → IsOpenTo v d c → Found v c (seen v c)
seen_found v d c kept lt way =
    let is = kept_cell v d c kept way in
    let code = decoded v d (cell_in (model_state v) c) kept lt is in
    let bits : word_of_cell v c ≡ cell_bits (shown (blocks_of (model_state v)) (held_in (model_state v) c) code.taken) =
    ap (λ (i : ℕ). get_or v.words i 0) (sym (cell_there v c kept is)) ∙ code.bits in
    let f = found_in v d c (shown (blocks_of (model_state v)) (held_in (model_state v) c) code.taken) kept lt is code.valid bits in
    subst (λ (x : CellWord). Found v c x) (shows_seen v d c (shown (blocks_of (model_state v)) (held_in (model_state v) c) code.taken) f) f
