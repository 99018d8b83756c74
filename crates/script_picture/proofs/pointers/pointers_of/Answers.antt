use Rattle.std.proofs.Common.{◌∙◌, ◌++◌, ℕ, List, ap, append_assoc}
use Rattle.std.specs.List.{flat_map}
use Rattle.run_picture.specs.declared.picture.Pointer.{Pointer}
use Rattle.step_core.specs.Worlds.{abstraction}
use Rattle.step_table.specs.GhostStates.{model_state}
use Rattle.step_threads.specs.Stocks.{from}
use Rattle.script_picture.specs.Pointers.{in_block, in_free, in_slot}
use Rattle.script_picture.proofs.pointers.pointers_of.Goals as goal

pub returns : goal.returns
returns c =
    let w = c.args.world.now in
    let s = model_state w.ghost_state in
    let slots = flat_map (in_slot (abstraction w) c.args.thread) (from 0 34) in
    let free = flat_map (in_free s) (from 0 256) in
    let blocks = flat_map (in_block s) (from 1 c.args.blocks) in
    c.in_ok-add_blocks.ensures
    ∙ ap (λ (l : List Pointer). l ++ blocks)
    (c.in_ok-add_free.ensures
    ∙ ap (λ (l : List Pointer). l ++ free)
    (c.in_ok-add_slots.ensures
    ∙ ap (λ (l : List Pointer). l ++ slots) c.new-pointers.ensures.items))
    ∙ append_assoc slots free blocks
    ∙ ap (λ (n : ℕ). slots ++ (free ++ flat_map (in_block s) (from 1 n))) c.requires.blocks
