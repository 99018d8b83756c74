-- The words that many of this crate's proofs cite, passed on from one place. Declares nothing.
pub use Rattle.std.proofs.lemmas.Bool.{cases_eq, cond-false, cond-true, cond_both, false≢true}
pub use Rattle.std.proofs.lemmas.List.{get_or_read}
pub use Rattle.std.proofs.lemmas.Option.{same_Some}
pub use Rattle.std.specs.List.{filter}
pub use base.Logic.{ent, SProp}
pub use contract.Monad.{Fun}
pub use contract.Running.{tables}
pub use denote.Builtin.{RefOf}
pub use denote.Exit.{yes}
pub use denote.RattleType.{owns}
pub use denote.Signature.{types_at}
pub use denote.Steps.{nothing}
pub use denote.Triple.Clauses.{Clauses, closing, Ended}
pub use denote.Triple.Entry.{alive}
pub use denote.Triple.Spec.{Meets, triple_of}
pub use denote.Triple.Table.{entered}
pub use denote.Triple.Walked.{ends_at, Goes-dropped, says, stay_dropped, Stays, walk_Meets}
pub use denote.Triple.Walked.{walk_of}
pub use mir.Syntax.{Fn}
pub use mir.Val.{Val, vptr}
pub use prog.Memory.{Memory}
pub use prog.Routine.{Routine}
pub use prog.Wp.{Calls, Loops, Tables, WpFn}
pub use seplogic.Ra.Ura.{Ura}
pub use types.ByLocal.{alloc_all, free_all, look_at, pass_all, sets}
pub use types.Kit.{done, drop, feq_l, fjoin, fsplit, keep, move, prop, qed, raw, regoal, split}
pub use types.Kit.{suffices, !, ‵, ◌$◌, ◌∵◌, ◌⊛◌}
pub use types.Logic.{Logic}
pub use types.Part.{agg}
pub use types.Run.{enter, no_more, returns}
pub use Rattle.control_word.proofs.history.Allowances.{allowed}
pub use Rattle.control_word.proofs.history.Kept.{cells_led, has_same, Same, same_after, still}
pub use Rattle.control_word.proofs.history.Legal.{held_busy, sound}
pub use Rattle.control_word.proofs.history.Soundness.{IsBusy}
pub use Rattle.control_word.proofs.lists.Tallies.{held_self, held_true, num, num_cons, num_without}
pub use Rattle.control_word.proofs.lists.Tallies.{put_cases, put_other}
pub use Rattle.control_word.proofs.packing.Cells.{block_fits, field_fits, owned_fits}
pub use Rattle.control_word.proofs.steps.Clear.{clears'}
pub use Rattle.control_word.proofs.steps.Look.{look_event}
pub use Rattle.control_word.proofs.steps.Standing.{has_headroom}
pub use Rattle.control_word.proofs.words.Banks.{IsKept}
pub use Rattle.control_word.proofs.words.Counting.{bag_one}
pub use Rattle.control_word.proofs.words.Decoding.{cell_shown}
pub use Rattle.control_word.specs.Events.{after, cell_of, clears, gets, InHand, IsOpen, loses}
pub use Rattle.control_word.specs.Events.{moved_to, origin, swaps}
pub use Rattle.control_word.specs.Handles.{empty, equivalent, handle, has_object, IsPointer}
pub use Rattle.control_word.specs.Handles.{object_of, same_handle}
pub use Rattle.control_word.specs.Histories.{entry, IsLegal, leads, value}
pub use Rattle.control_word.specs.Layout.{site_place, spot, table_size}
pub use Rattle.control_word.specs.Packing.{block_number, cell_bits, funds_of, IsCellWord, IsPlace}
pub use Rattle.control_word.specs.Packing.{number_of, place_block, place_field}
pub use Rattle.control_word.specs.State.{bag_size, count, ending, Has, HasRoom, Held, held}
pub use Rattle.control_word.specs.State.{InShape, kind_of_member, Object, Opening, put, same_held}
pub use Rattle.control_word.specs.State.{State, stored, weak, without}
pub use Rattle.control_word.specs.Steps.{me, purse, Ready}
pub use Rattle.control_word.specs.Views.{Fits, fresh, owed, sees_as, Stands, used_up}
pub use Rattle.control_word.specs.Words.{block_of, blocks_of, counts_at, flags_of, shown, slot}
pub use Rattle.control_word.specs.declared.handle.Handle.{Handle}
pub use Rattle.control_word.specs.declared.model.event.Cell.{Cell}
pub use Rattle.control_word.specs.declared.model.event.Cell.TheVariants.{Free}
pub use Rattle.control_word.specs.declared.model.event.Entry.{Entry}
pub use Rattle.control_word.specs.declared.model.event.Event.{Event}
pub use Rattle.control_word.specs.declared.model.event.Event.TheVariants.{ClearMember, Compare}
pub use Rattle.control_word.specs.declared.model.event.Event.TheVariants.{Join, Load, Make, Split}
pub use Rattle.control_word.specs.declared.model.event.Event.TheVariants.{Visit}
pub use Rattle.control_word.specs.declared.model.handle.Kind.{Kind}
pub use Rattle.control_word.specs.declared.model.handle.Kind.TheVariants.{Owner, Weak}
pub use Rattle.control_word.specs.declared.model.handle.NumberedHandle.{NumberedHandle}
pub use Rattle.control_word.specs.declared.model.view.Pending.{Pending}
pub use Rattle.control_word.specs.declared.model.view.Pending.TheVariants.{Idle, Making, Paying}
pub use Rattle.control_word.specs.declared.model.view.View.{View}
pub use Rattle.control_word.specs.declared.packed.cell.CellWord.{CellWord}
pub use Rattle.control_word.specs.declared.place.Block.{Block}
pub use Rattle.control_word.specs.declared.place.Place.{Place}
pub use Rattle.control_word.specs.declared.site.Site.{Site}
pub use Rattle.control_word.specs.declared.site.Site.TheVariants.{Member}
pub use Rattle.step_table.specs.AtomicSteps.{as_owner, leave_as, on, this_as, told_number}
pub use Rattle.step_table.specs.CellAtomicSteps.{cell_in, cell_pending, handle_as, handle_told}
pub use Rattle.step_table.specs.CellAtomicSteps.{kind_in_state, object_at, owing_funds}
pub use Rattle.step_table.specs.Cells.{HasInHand, IsOpenTo, ShowsCell, word_of_cell}
pub use Rattle.step_table.specs.Contents.{as_word, block_of_value, compared_in, differed, held_in}
pub use Rattle.step_table.specs.Contents.{is_of, named_handle, owing_for, same_value, seen}
pub use Rattle.step_table.specs.Contents.{slot_by, slot_in, slot_of, slots_swapped}
pub use Rattle.step_table.specs.Filled.{padded}
pub use Rattle.step_table.specs.GhostStates.{AllWhole, event_of, ghost_after_step, GhostState}
pub use Rattle.step_table.specs.GhostStates.{handle_in_block, history_after, model_state, Nothing}
pub use Rattle.step_table.specs.GhostStates.{object_of_block, owner_in, pending, pending_after}
pub use Rattle.step_table.specs.GhostStates.{ShutsNoDoor, TableInvariant, view_in, views_after}
pub use Rattle.step_table.specs.GhostStates.{weak_in, words_after}
pub use Rattle.step_table.specs.Openings.{opening}
pub use Rattle.step_table.specs.Refills.{RefillFits}
pub use Rattle.step_table.specs.Registers.{HoldsBag, IsSlot, place_of, plain, pointer_of}
pub use Rattle.step_table.specs.Registers.{slot_has_object, slot_pointer, slot_value, Slots}
pub use Rattle.step_table.specs.Registers.{times_held}
pub use Rattle.step_table.specs.declared.cell_steps.cell_step.CellStep.{CellStep}
pub use Rattle.step_table.specs.declared.cell_steps.cell_step.CellStep.TheVariants.{Bring}
pub use Rattle.step_table.specs.declared.cell_steps.cell_step.CellStep.TheVariants.{CompareSwap}
pub use Rattle.step_table.specs.declared.cell_steps.cell_step.CellStep.TheVariants.{GiveBack}
pub use Rattle.step_table.specs.declared.cell_steps.cell_step.CellStep.TheVariants.{Holds, Look}
pub use Rattle.step_table.specs.declared.cell_steps.cell_step.CellStep.TheVariants.{Refill, Swap}
pub use Rattle.step_table.specs.declared.cell_steps.cell_step.CellStep.TheVariants.{Take, TakeOut}
pub use Rattle.step_table.specs.declared.cell_steps.cell_step.CellStep.TheVariants.{Turn}
pub use Rattle.step_table.specs.declared.cell_steps.cell_step.Compared.{Compared}
pub use Rattle.step_table.specs.declared.cell_steps.compares.Comparing.{Comparing}
pub use Rattle.step_table.specs.declared.cell_steps.refill.Stage.TheVariants.{Checking, Failing}
pub use Rattle.step_table.specs.declared.cell_steps.refill.Stage.TheVariants.{Lacking, Refilling}
pub use Rattle.step_table.specs.declared.cell_steps.refill.Stage.TheVariants.{Turning}
pub use Rattle.step_table.specs.declared.memory.extent.Extent.{Extent}
pub use Rattle.step_table.specs.declared.memory.ghost_history.AtomicStep.{AtomicStep}
pub use Rattle.step_table.specs.declared.memory.ghost_history.AtomicStep.TheVariants.{Claim, Clear}
pub use Rattle.step_table.specs.declared.memory.ghost_history.AtomicStep.TheVariants.{Count}
pub use Rattle.step_table.specs.declared.memory.ghost_history.AtomicStep.TheVariants.{Expired}
pub use Rattle.step_table.specs.declared.memory.ghost_history.AtomicStep.TheVariants.{Finish}
pub use Rattle.step_table.specs.declared.memory.ghost_history.AtomicStep.TheVariants.{Leave, Lock}
pub use Rattle.step_table.specs.declared.memory.ghost_history.AtomicStep.TheVariants.{OnCell}
pub use Rattle.step_table.specs.declared.memory.ghost_history.AtomicStep.TheVariants.{OnShelf}
pub use Rattle.step_table.specs.declared.memory.ghost_history.AtomicStep.TheVariants.{Prepare}
pub use Rattle.step_table.specs.declared.memory.ghost_history.AtomicStep.TheVariants.{Read, Share}
pub use Rattle.step_table.specs.declared.memory.ghost_history.AtomicStep.TheVariants.{WeakLeave}
pub use Rattle.step_table.specs.declared.memory.ghost_history.AtomicStep.TheVariants.{WeakShare}
pub use Rattle.step_table.specs.declared.memory.ghost_history.AtomicStep.TheVariants.{Write}
pub use Rattle.step_table.specs.declared.memory.shelf.ShelfStep.{ShelfStep}
pub use Rattle.step_table.specs.declared.memory.shelf.ShelfStep.TheVariants.{Miss, Shelve}
pub use Rattle.step_table.specs.declared.memory.shelf.ShelfStep.TheVariants.{Unshelve}
pub use Rattle.step_table.specs.declared.slots.slot.Slot.{Slot}
pub use Rattle.step_table.specs.declared.slots.slot.Slot.TheVariants.{Empty, Full}
