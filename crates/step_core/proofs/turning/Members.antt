-- What a member of an ending object is seen to hold.
use Rattle.std.proofs.Common.{◌≡◌, ℕ, ◌<◌, true, get_or, is_some, ◌==◌, Some, None, Option, sym}
use Rattle.std.proofs.Common.{refl, ap, ◌∙◌, subst, eqb-true}
use Rattle.step_core.proofs.Prelude.{Block, block_of, blocks_of, cell_bits, cell_in, CellWord}
use Rattle.step_core.proofs.Prelude.{empty, ending, Found, GhostState, handle_as, has_object}
use Rattle.step_core.proofs.Prelude.{held_in, Kind, kind_of_member, Member, model_state, NumberedHandle}
use Rattle.step_core.proofs.Prelude.{object_of_block, seen, TableInvariant, word_of_cell}
use Rattle.control_word.specs.Words.{shown}
use Rattle.step_table.proofs.contained.Told.{shows_seen}
use Rattle.step_table.proofs.tables.Cells.{decoded}
use Rattle.step_table.proofs.tables.Endings.{member_shows}
use Rattle.step_table.proofs.tables.Members.{member_kind}
use Rattle.step_table.proofs.tables.Shown.{cell_there, found_in}
use Rattle.step_table.proofs.tables.Swaps.{ending_cell}

module _ (v : GhostState) (d : ℕ) (b : Block) (m : ℕ) (kept : TableInvariant v) (lt : d < v.extent.actors)
    (end : ((model_state v).object (object_of_block v b)).phase ≡ ending d) (few : m < 3) where
  -- its word shows what it holds
  ending_seen : Found v (Member b m) (seen v (Member b m))
  ending_seen =
      let c = Member b m in
      let is = ending_cell v d b m end few in
      let code = decoded v d (cell_in (model_state v) c) kept lt is in
      let x = shown (blocks_of (model_state v)) (held_in (model_state v) c) code.taken in
      let bits : word_of_cell v c ≡ cell_bits x = ap (λ (i : ℕ). get_or v.words i 0) (sym (cell_there v c kept is)) ∙ code.bits in
      let f = found_in v d c x kept lt is code.valid bits in
      subst (λ (y : CellWord). Found v c y) (shows_seen v d c x f) f

  pub told_member : handle_as (model_state v) (kind_of_member 2 m) (seen v (Member b m)) ≡ ((model_state v).object (object_of_block v b)).member m
  told_member = ap (λ (k : Kind). handle_as (model_state v) k (seen v (Member b m))) (sym (member_kind v m)) ∙ ending_seen.shows.holds

  -- a word of 0 is that of an empty member
  pub zero_member : (word_of_cell v (Member b m) == 0) ≡ true → ((model_state v).object (object_of_block v b)).member m ≡ empty (kind_of_member 2 m)
  zero_member zero = (member_shows v d b m kept lt end few).0 (eqb-true _ _ zero)

some_block : (block : ℕ → ℕ) (o : Option ℕ) → is_some (block_of block o) ≡ is_some o
some_block block None = refl
some_block block (Some o) = refl

-- and it tells whether that has an object
pub seen_object : (v : GhostState) (b : Block) (m : ℕ)
    → has_object (((model_state v).object (object_of_block v b)).member m) ≡ is_some (seen v (Member b m)).owned
seen_object v b m = let x : NumberedHandle = ((model_state v).object (object_of_block v b)).member m in sym (some_block (blocks_of (model_state v)) x.object)
