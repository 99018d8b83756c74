-- What the word of a cell tells of a slot's value.
use Rattle.std.proofs.Common.{◌≡◌, ℕ, ◌/◌, ◌<◌, ◌≤◌, Bool, true, false, ◌&&◌, ◌≢◌, List, [], ◌∷◌}
use Rattle.std.proofs.Common.{IfSome, Some, None, Option, sym, refl, ap, ◌∙◌, subst, inl, inr}
use Rattle.std.proofs.Common.{⊎_elim, arith, eq-eqb, ne_eqb}
use Rattle.step_table.proofs.Prelude
use Prelude.{after, as_word, Block, block_number, block_of, block_of_value, blocks_of, cases_eq}
use Prelude.{cell_bits, CellWord, ClearMember, Compare, Empty, Entry, equivalent, Event, Extent}
use Prelude.{Free, Full, GhostState, Handle, handle, handle_as, handle_in_block, handle_told, Has}
use Prelude.{HasInHand, held, held_in, HoldsBag, InHand, is_of, IsBusy, IsCellWord, IsPlace}
use Prelude.{IsPointer, IsSlot, Join, Kind, kind_in_state, leads, Load, Make, model_state}
use Prelude.{named_handle, Nothing, NumberedHandle, object_at, object_of_block, Opening, opening}
use Prelude.{Owner, Place, place_block, place_field, place_of, pointer_of, same_Some, same_value}
use Prelude.{seen, Site, Slot, slot_by, slot_in, slot_of, slot_value, Slots, sound, Split, State}
use Prelude.{TableInvariant, Visit, Weak, word_of_cell}
use Rattle.control_word.specs.declared.model.event.Cell.TheVariants.{Member}
use Rattle.control_word.specs.declared.model.event.Event.TheVariants.{Shelve, Unshelve, Count}
use Rattle.control_word.specs.declared.model.event.Event.TheVariants.{Expired, Finish, Leave, Lock}
use Rattle.control_word.specs.declared.model.event.Event.TheVariants.{Read, Same, Share, Swap}
use Rattle.control_word.specs.declared.model.event.Event.TheVariants.{WeakLeave, WeakShare}
use Rattle.control_word.specs.Handles.{IsFormed, same_kind, same_number, same_place}
use Rattle.control_word.specs.Packing.{IsBlock}
use Rattle.control_word.specs.State.{kind_of_free}
use Rattle.control_word.specs.declared.site.Site.TheVariants as at
use Rattle.step_table.specs.Contents.{same_block}
use Rattle.step_table.proofs.holding.Owning.{slot_held}
use Rattle.step_table.proofs.tables.Members.{member_kind}
use Rattle.step_table.proofs.tables.Places.{handle_busy, there}
use Rattle.step_table.proofs.tables.Shown.{Found}
use Rattle.control_word.proofs.packing.Cells.{cell_taken_in}
use Rattle.control_word.specs.Packing.{taken_in}

-- the parts of a word are within their fields, and behind them is what was taken
taken_told : (x : CellWord) → IsCellWord x → taken_in (cell_bits x) ≡ x.taken
taken_told x valid = cell_taken_in x valid

-- the block of the object that a word tells is the word's
block_told : (s : State) (o : Option Block) → ((b : Block) → o ≡ Some b → blocks_of s (s.latest b.0) ≡ b.0)
    → block_of (blocks_of s) (object_at s o) ≡ o
block_told s None is = refl
block_told s (Some b) is = ap (λ (n : ℕ). Some (record { 0 = n })) (is b refl)

slot_told : (s : State) (k : Kind) (o : Option Block) (p : Option Place) → ((b : Block) → o ≡ Some b → blocks_of s (s.latest b.0) ≡ b.0)
    → slot_of s (handle k (object_at s o) p) ≡ slot_by k o p
slot_told s k None p is = refl
slot_told s k (Some b) p is = ap (λ (n : ℕ). Full (record { kind = k; block = record { 0 = n }; place = p })) (is b refl)

module _ (v : GhostState) (d : ℕ) (c : Site) (x : CellWord) (found : Found v c x) where
  -- what a cell shows is what was seen
  pub shows_seen : x ≡ seen v c
  shows_seen =
      let s = model_state v in
      let h = held_in s c in
      let shows = found.shows in
      let o : x.owned ≡ block_of (blocks_of s) h.object =
      sym (block_told s x.owned found.there) ∙ ap (λ (y : NumberedHandle). block_of (blocks_of s) y.object) shows.holds in
      let p : x.place ≡ h.place = ap (λ (y : NumberedHandle). y.place) shows.holds in
      let t : x.taken ≡ taken_in (word_of_cell v c) = sym (taken_told x shows.valid) ∙ ap taken_in (sym shows.bits) in
      λ j. record { owned = o j; place = p j; taken = t j }

  -- and comes into a slot so
  pub shows_slot : slot_in (kind_in_state (model_state v) c) x ≡ slot_of (model_state v) (held_in (model_state v) c)
  shows_slot =
      let s = model_state v in
      sym (slot_told s (kind_in_state s c) x.owned x.place found.there) ∙ ap (slot_of s) found.shows.holds

-- a slot's pointer that may go into a cell is of its kind
pub kind_is : (k : Kind) (x : Handle) → is_of k (Full x) ≡ true → x.kind ≡ k
kind_is k x is = go k x.kind refl is
  where
    go : (k q : Kind) → x.kind ≡ q → same_kind q k ≡ true → x.kind ≡ k
    go Owner Owner at e = at
    go Owner Weak at e = cc
    go Weak Owner at e = cc
    go Weak Weak at e = at

-- a slot's value, told by its word
pub word_told : (s : State) (k : Kind) (a : Slot) → is_of k a ≡ true → handle_as s k (as_word a) ≡ named_handle s k a
word_told s k (Empty p) is = refl
word_told s k (Full x) is = ap (λ (q : Kind). handle q (object_at s (Some x.block)) x.place) (sym (kind_is k x is))

busy_some : (v : GhostState) (b : Block) → TableInvariant v → IsBusy (model_state v) (object_of_block v b) → object_of_block v b ≢ 0
busy_some v b kept busy e =
    let fine = sound (opening v.extent) v.history kept.stands.legal in
    let z = fine.unmade_free 0 fine.none in
    let t : 0 < 0 = subst (λ n. 0 < n) z (subst (IsBusy (model_state v)) e busy) in omega arith

-- blocks are the same where their objects are, if one of these is there
same_object : (v : GhostState) (o q : Option Block) → TableInvariant v → ((b : Block) → q ≡ Some b → IsBusy (model_state v) (object_of_block v b))
    → same_number (object_at (model_state v) o) (object_at (model_state v) q) ≡ same_block o q
same_object v None None kept busy = refl
same_object v None (Some b) kept busy = refl
same_object v (Some a) None kept busy = refl
same_object v (Some a) (Some b) kept busy =
    let fine = sound (opening v.extent) v.history kept.stands.legal in
    ⊎_elim (λ (e : a.0 ≡ b.0). eq-eqb _ _ (ap (model_state v).latest e) ∙ sym (eq-eqb a.0 b.0 e))
    (λ (n : a.0 ≢ b.0). ne_eqb _ _ (λ e. n (sym (fine.latest_in a.0 (λ z. busy_some v b kept (busy b refl) (sym e ∙ z)))
    ∙ ap (blocks_of (model_state v)) e ∙ (there v b kept (busy b refl)).0)) ∙ sym (ne_eqb a.0 b.0 n)) (cases_eq a.0 b.0)

-- values are equivalent where they are the same, if the object of one of them is there
pub alike : (v : GhostState) (c : Site) (x y : CellWord) → TableInvariant v → ((b : Block) → y.owned ≡ Some b → IsBusy (model_state v) (object_of_block v b))
    → equivalent (handle_told (model_state v) c x) (handle_told (model_state v) c y) ≡ same_value x y
alike v c x y kept busy = ap (λ (t : Bool). t && same_place x.place y.place) (same_object v x.owned y.owned kept busy)

module _ (d : ℕ) (slots : Slots) (v : GhostState) (i : ℕ) (kept : TableInvariant v) (holds : HoldsBag d slots v) where
  -- the object of a slot's pointer is there
  pub slot_busy : (b : Block) → block_of_value (slot_value slots i) ≡ Some b → IsBusy (model_state v) (object_of_block v b)
  slot_busy b e = go (slot_value slots i) refl e
    where
      go : (a : Slot) → slot_value slots i ≡ a → block_of_value a ≡ Some b → IsBusy (model_state v) (object_of_block v b)
      go (Empty p) at e = cc
      go (Full x) at e =
          subst (λ (y : Block). IsBusy (model_state v) (object_of_block v y)) (same_Some _ _ e)
          (handle_busy v d x.kind x.block x.place kept (slot_held d slots v i x holds (ap pointer_of at)))

  -- its word is well formed
  pub word_valid : IsCellWord (as_word (slot_value slots i))
  word_valid =
      record {
        owned = go (block_of_value (slot_value slots i)) slot_busy;
        place = at_place (place_of (slot_value slots i)) (holds.formed i);
        taken = omega arith;
      }
    where
      go : (o : Option Block) → ((b : Block) → o ≡ Some b → IsBusy (model_state v) (object_of_block v b)) → IfSome o IsBlock
      go None busy = tt
      go (Some b) busy =
          let t = (there v b kept (busy b refl)).1 in let few = kept.proper.blocks in
          let low = t.0 in let high = t.1 in (omega (arith, low), omega (arith, high, few))

      at_place : (p : Option Place) → IsPointer p → IfSome p IsPlace
      at_place None is = tt
      at_place (Some p) is = let a = is.0 in let b = is.1 in let f = is.2 in ((omega (arith, a), b), omega (arith, f))

  -- the desk has it in hand
  pub in_hand : (c : Site) → is_of (kind_in_state (model_state v) c) (slot_value slots i) ≡ true → HasInHand v d c (as_word (slot_value slots i))
  in_hand c is = go (kind_in_state (model_state v) c) (slot_value slots i) refl (holds.formed i) is
    where
      bare : (k : Kind) (p : Option Place) → IsPointer p → is_of k (Empty p) ≡ true → IsFormed (handle k None p)
      bare Owner p formed is = (formed, tt)
      bare Weak None formed is = (formed, refl)
      bare Weak (Some p) formed is = cc

      go : (k : Kind) (a : Slot) → slot_value slots i ≡ a → IsSlot a → is_of k a ≡ true
          → InHand (model_state v) d k (handle_as (model_state v) k (as_word a))
      go k (Empty p) at formed is = (refl, inl (refl, bare k p formed is))
      go k (Full x) at formed is = (
        refl,
        inr (
          subst (λ (q : Kind). Has (held d (handle_in_block v q x.block x.place)) (model_state v).hands) (kind_is k x is)
              (slot_held d slots v i x holds (ap pointer_of at)),
          refl,
          refl,
        ),
      )

  -- what is compared is told by words
  pub alike_told : (c : Site) (x : CellWord) → is_of (kind_in_state (model_state v) c) (slot_value slots i) ≡ true
      → same_value x (as_word (slot_value slots i)) ≡ equivalent (handle_told (model_state v) c x)
      (named_handle (model_state v) (kind_in_state (model_state v) c) (slot_value slots i))
  alike_told c x is =
      sym (alike v c x (as_word (slot_value slots i)) kept slot_busy)
      ∙ ap (equivalent (handle_told (model_state v) c x)) (word_told (model_state v) (kind_in_state (model_state v) c) (slot_value slots i) is)

  pub alike_seen : (c : Site) (x : CellWord) → Found v c x → is_of (kind_in_state (model_state v) c) (slot_value slots i) ≡ true
      → same_value (seen v c) (as_word (slot_value slots i)) ≡ equivalent (held_in (model_state v) c)
      (named_handle (model_state v) (kind_in_state (model_state v) c) (slot_value slots i))
  alike_seen c x found is =
      ap (λ (y : CellWord). same_value y (as_word (slot_value slots i))) (sym (shows_seen v d c x found)) ∙ alike_told c x is
      ∙ ap (λ (h : NumberedHandle). equivalent h (named_handle (model_state v) (kind_in_state (model_state v) c) (slot_value slots i))) found.shows.holds

-- the number of shared cells never changes
shared_led : (z : Opening) (h : List (Entry Nothing)) → (leads z h).shared ≡ z.shared_cells
shared_led z [] = refl
shared_led z (e ∷ h) = shared_after (leads z h) e.desk e.event ∙ shared_led z h
  where
    shared_after : (s : State) (d : ℕ) (a : Event Nothing) → (after s d a).shared ≡ s.shared
    shared_after s d (Make b enabled null fields val) = refl
    shared_after s d (Share h p) = refl
    shared_after s d (Leave h last) = refl
    shared_after s d (Count h n) = refl
    shared_after s d (Expired h x) = refl
    shared_after s d (Read h n) = refl
    shared_after s d (Same c h x) = refl
    shared_after s d (WeakShare o p) = refl
    shared_after s d (WeakLeave h x) = refl
    shared_after s d (Lock h x) = refl
    shared_after s d (ClearMember o m h) = refl
    shared_after s d (Finish o x val) = refl
    shared_after s d (Load c x) = refl
    shared_after s d (Swap (Free c) x y) = refl
    shared_after s d (Swap (Member o m) x y) = refl
    shared_after s d (Compare (Free c) e x y true w) = refl
    shared_after s d (Compare (Member o m) e x y true w) = refl
    shared_after s d (Compare c e x y false w) = refl
    shared_after s d (Visit h x y) = refl
    shared_after s d (Split e amount x y) = refl
    shared_after s d (Join e) = refl
    shared_after s d (Shelve b) = refl
    shared_after s d (Unshelve b) = refl

pub shared_is : (v : GhostState) → (model_state v).shared ≡ v.extent.shape.shared_cells
shared_is v = shared_led (opening v.extent) v.history

-- so a cell is of the same kind after any atomic step
pub kind_stays : (v w : GhostState) (c : Site) → w.extent ≡ v.extent → kind_in_state (model_state w) c ≡ kind_in_state (model_state v) c
kind_stays v w (at.Free n) same =
    ap (λ (i : ℕ). kind_of_free i n) (shared_is w ∙ ap (λ (x : Extent). x.shape.shared_cells) same ∙ sym (shared_is v))
kind_stays v w (at.Member b m) same = member_kind w m ∙ sym (member_kind v m)
