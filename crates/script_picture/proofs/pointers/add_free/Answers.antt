use Rattle.std.proofs.Common.{◌≡◌, ◌∙◌, ◌++◌, ℕ, ap, arith}
use Rattle.std.specs.List.{flat_map}
use Rattle.control_word.proofs.history.Kept.{cells_led}
use Rattle.leak_report.proofs.MoreLemmas.{one_more}
use Rattle.leak_report.specs.Holders.{free_cells}
use Rattle.step_table.specs.GhostStates.{model_state}
use Rattle.step_table.specs.Openings.{opening}
use Rattle.step_threads.specs.Stocks.{from}
use Rattle.script_picture.specs.Pointers.{in_free}
use Rattle.script_picture.proofs.pointers.add_free.Goals as goal

pub add_cell-requires : goal.add_cell-requires
add_cell-requires c =
    let v = c.args.world.now.ghost_state in
    let cells : (model_state v).cells ≡ free_cells v.extent.shape =
    cells_led (opening v.extent) v.history in
    let all : free_cells v.extent.shape ≡ 256 = c.requires in
    omega (arith, cells, all)

pub loop-number-preserved : goal.loop-number-preserved
loop-number-preserved c =
    one_more (in_free (model_state c.args.world.now.ghost_state)) 0 c.loop-number.number
    c.loop-number.number c.args.pointers.now.items c.loop-number.pointers.items
    c.add_cell.new.pointers.items (omega arith) c.loop-number.invariant c.in_ok-add_cell.ensures

pub returns : goal.returns
returns c =
    let all : c.loop-number.number ≡ 256 = omega arith in
    c.loop-number.invariant
    ∙ ap (λ (n : ℕ). c.args.pointers.now.items
    ++ flat_map (in_free (model_state c.args.world.now.ghost_state)) (from 0 n)) all
