use Rattle.std.proofs.Common.{◌≡◌, ℕ, List, ◌++◌, sym, ap, ◌∙◌, subst}
use Rattle.leak_report.proofs.Prelude.{all_held, AllCounted, flat_map, from, held_by_block}
use Rattle.leak_report.proofs.Prelude.{held_by_free, Holding, model_state, opening}
use Rattle.control_word.proofs.history.Kept.{cells_led}
use Rattle.step_table.proofs.contained.Told.{shared_is}
use Rattle.leak_report.proofs.CountLemmas.{counted}
use Rattle.leak_report.proofs.held.holdings.Goals as goal

pub add_free-requires-clause-shared : goal.add_free-requires-clause-shared
add_free-requires-clause-shared c = c.requires.shared ∙ sym (shared_is c.args.world.now.ghost_state)

pub add_free-requires-clause-cells : goal.add_free-requires-clause-cells
add_free-requires-clause-cells c =
    let v = c.args.world.now.ghost_state in c.requires.cells ∙ sym (cells_led (opening v.extent) v.history)

pub add_blocks-requires-clause-shared : goal.add_blocks-requires-clause-shared
add_blocks-requires-clause-shared c = c.requires.shared ∙ sym (shared_is c.args.world.now.ghost_state)

pub returns-clause-held : goal.returns-clause-held
returns-clause-held c =
    let v = c.args.world.now.ghost_state in
    let s = model_state v in
    let cells : c.args.cells ≡ s.cells = c.requires.cells ∙ sym (cells_led (opening v.extent) v.history) in
    c.in_ok-add_blocks.ensures.held
    ∙ ap (λ (l : List Holding). l ++ flat_map (held_by_block s) (from 1 c.args.blocks))
    (c.in_ok-add_free.ensures.held
    ∙ ap (λ (l : List Holding). l ++ flat_map (held_by_free s) (from 0 c.args.cells)) c.new-holdings.ensures.items
    ∙ ap (λ (n : ℕ). flat_map (held_by_free s) (from 0 n)) cells)

pub returns-clause-counted : goal.returns-clause-counted
returns-clause-counted c =
    let v = c.args.world.now.ghost_state in
    subst (AllCounted c.args.blocks (model_state v)) (sym (returns-clause-held c))
    (subst (λ (n : ℕ). AllCounted n (model_state v) (all_held (model_state v) n)) (sym c.requires.blocks)
    (counted v c.assert_invariant_at_end.ensures.kept c.assert_invariant_at_end.ensures.hands))
