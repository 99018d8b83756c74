-- The words that many of this crate's proofs cite, passed on from one place. Declares nothing.
pub use Rattle.std.proofs.lemmas.Bool.{cond-false, cond-true, cond_both}
pub use Rattle.std.proofs.lemmas.List.{nil_from_length, reverse-append}
pub use Rattle.std.proofs.lemmas.Result.{IfErr-weaker, on_ok_weaker}
pub use Rattle.std.specs.List.Sorted.{IsPermutation}
pub use Rattle.control_block.specs.CellCalls.{cell_of_site, handle_in, HoldsHandle, IsOpenAt}
pub use Rattle.control_block.specs.CellCalls.{with_handle, without_handle}
pub use Rattle.control_block.specs.Desks.{allowance_of, bag_of, Belongs, DeskNow, DomainNow}
pub use Rattle.control_block.specs.Desks.{endings_of, held_of, IsFirstDesk, KeepsEndings}
pub use Rattle.control_block.specs.Desks.{object_in, state_of, stock_of}
pub use Rattle.control_block.specs.HandleLists.{IsHeldByDesk, with_held, without_held}
pub use Rattle.control_block.specs.Own.{IsSole}
pub use Rattle.control_block.specs.Parting.{as_listed, HoldsAll, IsTooMuch, JoinsWith, listed}
pub use Rattle.control_block.specs.Parting.{SplitsOff, without_all}
pub use Rattle.control_block.specs.Rule.{opening_of}
pub use Rattle.control_block.specs.Shelf.{shelved_of}
pub use Rattle.control_block.specs.SlotLists.{handles_in}
pub use Rattle.control_block.specs.declared.handles.Held.{Held}
pub use Rattle.control_block.specs.declared.handles.Held.TheVariants.{Owner, Weak}
pub use Rattle.control_block.specs.declared.handles.Shared.{Shared}
pub use Rattle.control_word.proofs.lists.Tallies.{handle_self}
pub use Rattle.control_word.specs.Handles.{empty, has_object, IsPointer, same_handle}
pub use Rattle.control_word.specs.Histories.{IsLegal, leads}
pub use Rattle.control_word.specs.State.{Has, Stored, without}
pub use Rattle.control_word.specs.Views.{total}
pub use Rattle.control_word.specs.declared.model.event.Entry.{Entry}
pub use Rattle.control_word.specs.declared.model.handle.Kind.{Kind}
pub use Rattle.control_word.specs.declared.model.handle.NumberedHandle.{NumberedHandle}
pub use Rattle.control_word.specs.declared.place.Block.{Block}
pub use Rattle.control_word.specs.declared.place.Place.{Place}
pub use Rattle.control_word.specs.declared.refusal.Refusal.{Refusal}
pub use Rattle.control_word.specs.declared.refusal.Refusal.TheVariants.{Limit, Memory, NotSole}
pub use Rattle.control_word.specs.declared.refusal.Refusal.TheVariants.{Null, Outside}
pub use Rattle.control_word.specs.declared.shape.Shape.{Shape}
pub use Rattle.shared_handle.proofs.Piles.{bears_kept}
pub use Rattle.shared_handle.specs.Calls.{SharesOwner}
pub use Rattle.shared_handle.specs.Piles.{Bears}
pub use Rattle.shared_handle.specs.declared.endings.Ending.{Ending}
pub use Rattle.shared_handle.specs.declared.pile.Pile.{Pile}
pub use Rattle.script_runner.specs.SlotCalls.{Assigns, Copies, Downgrades, IsBelow, IsCopy, IsHandleAt}
pub use Rattle.script_runner.specs.SlotCalls.{IsOwnerAt, IsWeakAt}
pub use Rattle.script_runner.specs.Cells.{IsAway, IsCellAtSite, IsInReach, IsKindAt, LoadsIntoSlot, WhyNoCell}
pub use Rattle.step_threads.specs.Programs.{kind_at}
pub use Rattle.script_runner.specs.Parting.{Absorbs, AbsorbsAll, IsNew}
pub use Rattle.script_runner.specs.Parting.{IsPartedInto, IsRefusedPart, WhyFewer}
pub use Rattle.script_runner.specs.Parts.{block_of_held, kind_of_held, place_of_held}
pub use Rattle.script_runner.specs.Programs.{CanClose}
pub use Rattle.script_runner.specs.Staffs.{EachDoes, HasShares, StaffsIn, WorkerRelation}
pub use Rattle.script_runner.specs.Tables.{AllVacant, FitsSlots, is_filled, IsAt, IsWhole, on_pile}
pub use Rattle.script_runner.specs.Tables.{Slot, slot_worth, TableNow}
pub use Rattle.script_runner.specs.This.{Aliases, SharesThis, SharesThisWeakly}
pub use Rattle.script_runner.specs.declared.table.staff.Share.{Share}
