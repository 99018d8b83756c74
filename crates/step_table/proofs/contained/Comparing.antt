-- Compares of a cell with slots' values, by words.
use Rattle.std.proofs.Common.{◌≡◌, ℕ, ◌<◌, Bool, true, false, cond, ◌||◌, ◌≢◌, length, set}
use Rattle.std.proofs.Common.{is_some, Some, None, refl, ap, ◌∙◌, subst, arith, length-set}
use Rattle.std.proofs.Common.{get_or-set_same, set-set}
use Rattle.step_table.proofs.Prelude.{as_word, CellWord, Compared, compared_in, Comparing}
use Rattle.step_table.proofs.Prelude.{differed, equivalent, ghost_after_step, GhostState}
use Rattle.step_table.proofs.Prelude.{handle_told, held_in, HoldsBag, Look, model_state, OnCell}
use Rattle.step_table.proofs.Prelude.{plain, pointer_of, same_value, Site, slot_of, slot_pointer}
use Rattle.step_table.proofs.Prelude.{slot_value, Slots, TableInvariant, Take}
use Rattle.step_table.proofs.contained.Coming.{holds_seen, holds_taken}
use Rattle.step_table.proofs.contained.Told.{alike, slot_busy}
use Rattle.step_table.proofs.holding.Owning.{holds_move}
use Rattle.step_table.proofs.tables.Shown.{Found}

-- nothing is done where either test says so, and else it is
pub left_first : {A : Type 0} (a b : Bool) (x y : A) → a ≡ true → x ≡ cond (a || b) x y
left_first true b x y e = refl
left_first false b x y e = cc

pub left_next : {A : Type 0} (a b : Bool) (x y : A) → b ≡ true → x ≡ cond (a || b) x y
left_next true b x y e = refl
left_next false true x y e = refl
left_next false false x y e = cc

pub done_if : {A : Type 0} (a b : Bool) (x y : A) → a ≡ false → b ≡ false → y ≡ cond (a || b) x y
done_if true b x y e f = cc
done_if false true x y e f = cc
done_if false false x y e f = refl

module _ (d : ℕ) (slots : Slots) (v : GhostState) (c : Site) (x : CellWord) (y : Comparing) (q : Compared) (kept : TableInvariant v)
    (holds : HoldsBag d slots v)
    (is : q ≡ compared_in slots y) where
  -- the word that was found tells what is expected, or not
  pub alike_in : equivalent (handle_told (model_state v) c x) (handle_told (model_state v) c q.expected) ≡ same_value x
      (as_word (slot_value slots y.expected))
  alike_in =
      ap (λ (p : Compared). equivalent (handle_told (model_state v) c x) (handle_told (model_state v) c p.expected)) is
      ∙ alike v c x (as_word (slot_value slots y.expected)) kept (slot_busy d slots v y.expected kept holds)

  pub looked_in : cond (is_some x.owned || equivalent (handle_told (model_state v) c x) (handle_told (model_state v) c q.expected)) v
      (ghost_after_step v d (OnCell (Look c x (Some q))))
      ≡ cond (is_some x.owned || same_value x (as_word (slot_value slots y.expected))) v
      (ghost_after_step v d (OnCell (Look c x (Some (compared_in slots y)))))
  looked_in =
      ap (λ (b : Bool). cond (is_some x.owned || b) v (ghost_after_step v d (OnCell (Look c x (Some q))))) alike_in
      ∙ ap (λ (p : Compared). cond (is_some x.owned || same_value x (as_word (slot_value slots y.expected))) v
      (ghost_after_step v d (OnCell (Look c x (Some p))))) is

module _ (d : ℕ) (slots : Slots) (v : GhostState) (i j : ℕ) (c : Site) (x : CellWord) (y : Compared) (holds : HoldsBag d slots v) (found : Found v c x)
    (li : i < length slots) (lj : j < length slots) (apart : i ≢ j) (e : slot_pointer slots j ≡ None) where
  -- the new value is aside, and its slot is empty
  abbrev aside : Slots
  aside = set (set slots j (slot_value slots i)) i plain

  holds_aside : HoldsBag d aside v
  holds_aside = holds_move d slots v i j holds li lj apart e

  inside : i < length aside
  inside = let a = length-set (set slots j (slot_value slots i)) i plain in let b = length-set slots j (slot_value slots i) in omega (arith, a, b, li)

  bare : slot_pointer aside i ≡ None
  bare = ap pointer_of (get_or-set_same (set slots j (slot_value slots i)) i plain plain (let b = length-set slots j (slot_value slots i) in
      omega (arith, b, li)))

  pub holds_differed : HoldsBag d (differed i j slots (slot_of (model_state v) (held_in (model_state v) c))) (ghost_after_step v d (OnCell (Take c x (Some y))))
  holds_differed =
      let w = ghost_after_step v d (OnCell (Take c x (Some y))) in
      subst (λ (l : Slots). HoldsBag d l w) (set-set (set slots j (slot_value slots i)) i plain (slot_of (model_state v) (held_in (model_state v) c)))
      (holds_taken d aside v i c x holds_aside found inside bare (Some y))

  pub holds_unlike : HoldsBag d (differed i j slots (slot_of (model_state v) (held_in (model_state v) c))) (ghost_after_step v d (OnCell (Look c x (Some y))))
  holds_unlike =
      let w = ghost_after_step v d (OnCell (Look c x (Some y))) in
      subst (λ (l : Slots). HoldsBag d l w) (set-set (set slots j (slot_value slots i)) i plain (slot_of (model_state v) (held_in (model_state v) c)))
      (holds_seen d aside v i c x holds_aside found inside bare (Some y))
