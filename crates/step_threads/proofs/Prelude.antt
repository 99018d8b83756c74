-- The words that many of this crate's proofs cite, passed on from one place. Declares nothing.
pub use Rattle.std.proofs.lemmas.Bool.{and_parts, cases_eq, cases_lt, cond-false, cond-true}
pub use Rattle.std.proofs.lemmas.Bool.{cond_both, eqb-false, false≢true}
pub use Rattle.std.proofs.lemmas.Grind.{common_steps}
pub use Rattle.std.proofs.lemmas.List.Elements.{All-cons, All-head, All-tail}
pub use Rattle.std.proofs.lemmas.List.Sorted.{IsPermutation-reverse, sum_by_popped, sum_by_pushed}
pub use Rattle.std.proofs.lemmas.List.Sums.{sum_by-cons}
pub use Rattle.std.proofs.lemmas.Option.{same_Some}
pub use Rattle.std.specs.BinaryHeap.{heap_items}
pub use Rattle.std.specs.List.{All, AllByRecursion, filter}
pub use Rattle.std.specs.List.Sorted.{IsPermutation}
pub use Rattle.control_word.proofs.history.Legal.{sound}
pub use Rattle.control_word.proofs.history.Moving.{counted_live, owner_counted}
pub use Rattle.control_word.proofs.lists.Tallies.{num, num_cons, num_without, put_cases}
pub use Rattle.control_word.proofs.lists.Tallies.{stored_self, stored_true}
pub use Rattle.control_word.specs.Events.{moved_to}
pub use Rattle.control_word.specs.Handles.{empty}
pub use Rattle.control_word.specs.Packing.{cell_bits, IsCellWord}
pub use Rattle.control_word.specs.State.{ending, Has, held, kind_of_member, live, Object}
pub use Rattle.control_word.specs.State.{same_stored, State, Stored, stored, unmade}
pub use Rattle.control_word.specs.Views.{used_up}
pub use Rattle.control_word.specs.declared.handle.Handle.{Handle}
pub use Rattle.control_word.specs.declared.model.handle.Kind.{Kind}
pub use Rattle.control_word.specs.declared.model.handle.Kind.TheVariants.{Owner, Weak}
pub use Rattle.control_word.specs.declared.model.handle.NumberedHandle.{NumberedHandle}
pub use Rattle.control_word.specs.declared.model.view.Pending.{Pending}
pub use Rattle.control_word.specs.declared.model.view.Pending.TheVariants.{Idle}
pub use Rattle.control_word.specs.declared.model.view.View.{View}
pub use Rattle.control_word.specs.declared.packed.cell.CellWord.{CellWord}
pub use Rattle.control_word.specs.declared.place.Block.{Block}
pub use Rattle.control_word.specs.declared.place.Place.{Place}
pub use Rattle.control_word.specs.declared.site.Site.{Site}
pub use Rattle.control_word.specs.declared.site.Site.TheVariants.{Free, Member}
pub use Rattle.step_table.proofs.contained.Others.{holds_quiet}
pub use Rattle.step_table.proofs.contained.Refilling.{begins_refill, owes_after}
pub use Rattle.step_table.proofs.contained.Told.{kind_stays, shows_seen}
pub use Rattle.step_table.proofs.holding.Inside.{inside_held}
pub use Rattle.step_table.proofs.holding.Keeping.{kept_object, same_atomic_step}
pub use Rattle.step_table.proofs.tables.Places.{ending_busy, handle_busy, there}
pub use Rattle.step_table.proofs.tables.ShelfAtomicSteps.{shelf_framed}
pub use Rattle.step_table.specs.AtomicSteps.{alias, aliased, as_owner, as_weak, by_word, downgrade}
pub use Rattle.step_table.specs.AtomicSteps.{give, is_enabled, is_last, leave, leave_as, lock, on}
pub use Rattle.step_table.specs.AtomicSteps.{owner_word, share, share_as, tell, tell_expired}
pub use Rattle.step_table.specs.AtomicSteps.{this_as}
pub use Rattle.step_table.specs.CellAtomicSteps.{kind_in_state, owing_funds}
pub use Rattle.step_table.specs.Cells.{IsOpenTo, word_of_cell}
pub use Rattle.step_table.specs.Contents.{as_word, CanCompare, compared_in, differed, held_in}
pub use Rattle.step_table.specs.Contents.{is_of, owing_for, same_value, seen, slot_of}
pub use Rattle.step_table.specs.Contents.{slots_swapped}
pub use Rattle.step_table.specs.GhostStates.{event_of, ghost_after_step, GhostState, known_words}
pub use Rattle.step_table.specs.GhostStates.{model_state, Nothing, object_of_block, pending}
pub use Rattle.step_table.specs.GhostStates.{pending_after, TableInvariant}
pub use Rattle.step_table.specs.Openings.{opening}
pub use Rattle.step_table.specs.Refills.{is_low, more_taken}
pub use Rattle.step_table.specs.Registers.{filled, HoldsBag, inside, is_full, owner_slot, place_in}
pub use Rattle.step_table.specs.Registers.{plain, pointer_of, slot_pointer, slot_value, Slots}
pub use Rattle.step_table.specs.Registers.{weak_slot}
pub use Rattle.step_table.specs.declared.cell_steps.cell_step.CellStep.TheVariants.{Bring}
pub use Rattle.step_table.specs.declared.cell_steps.cell_step.CellStep.TheVariants.{CompareSwap}
pub use Rattle.step_table.specs.declared.cell_steps.cell_step.CellStep.TheVariants.{GiveBack, Look}
pub use Rattle.step_table.specs.declared.cell_steps.cell_step.CellStep.TheVariants.{Take, TakeOut}
pub use Rattle.step_table.specs.declared.cell_steps.cell_step.CellStep.TheVariants.{Turn}
pub use Rattle.step_table.specs.declared.cell_steps.cell_step.Compared.{Compared}
pub use Rattle.step_table.specs.declared.cell_steps.compares.Comparing.{Comparing}
pub use Rattle.step_table.specs.declared.cell_steps.refill.Stage.{Stage}
pub use Rattle.step_table.specs.declared.cell_steps.refill.Stage.TheVariants.{Checking, Failing}
pub use Rattle.step_table.specs.declared.cell_steps.refill.Stage.TheVariants.{Lacking, Refilling}
pub use Rattle.step_table.specs.declared.cell_steps.refill.Stage.TheVariants.{Turning}
pub use Rattle.step_table.specs.declared.memory.ended.Ended.{Ended}
pub use Rattle.step_table.specs.declared.memory.form.Form.{Form}
pub use Rattle.step_table.specs.declared.memory.ghost_history.AtomicStep.{AtomicStep}
pub use Rattle.step_table.specs.declared.memory.ghost_history.AtomicStep.TheVariants.{Claim}
pub use Rattle.step_table.specs.declared.memory.ghost_history.AtomicStep.TheVariants.{Finish}
pub use Rattle.step_table.specs.declared.memory.ghost_history.AtomicStep.TheVariants.{OnCell}
pub use Rattle.step_table.specs.declared.memory.ghost_history.AtomicStep.TheVariants.{Prepare}
pub use Rattle.step_table.specs.declared.memory.ghost_history.AtomicStep.TheVariants.{WeakLeave}
pub use Rattle.step_table.specs.declared.memory.ghost_history.AtomicStep.TheVariants.{WeakShare}
pub use Rattle.step_table.specs.declared.memory.ghost_history.AtomicStep.TheVariants.{Write}
pub use Rattle.step_table.specs.declared.slots.registers.Registers.{Registers}
pub use Rattle.step_table.specs.declared.slots.slot.Slot.{Slot}
pub use Rattle.step_table.specs.declared.slots.slot.Slot.TheVariants.{Empty, Full}
pub use Rattle.step_threads.specs.AbstractStates.{came, ended_by, remains_as, row_in, went}
pub use Rattle.step_threads.specs.Actors.{claimed, in_list, in_store, PendingCallFits, Stocks}
pub use Rattle.step_threads.specs.Actors.{wanted}
pub use Rattle.step_threads.specs.Acts.{clearing}
pub use Rattle.step_threads.specs.Endings.{ending_steps, endings_in_block, EndsAll, first_of}
pub use Rattle.step_threads.specs.Endings.{IsEndingAtStage, Stack, staged, staged_first}
pub use Rattle.step_threads.specs.Entries.{is_expected, least}
pub use Rattle.step_threads.specs.Frames.{cell_of_name, comparing, done_on, dropping, DropsInTime}
pub use Rattle.step_threads.specs.Frames.{fitting, frame_settled, frame_view, FrameReady}
pub use Rattle.step_threads.specs.Frames.{FrameStill, FrameView, Going, going, hand, HasCell, idle}
pub use Rattle.step_threads.specs.Frames.{is_there, IsCarried, IsNamed, IsReady, locked_pointer}
pub use Rattle.step_threads.specs.Frames.{MayComeNext, MayFollow, new_of, no_task, offered}
pub use Rattle.step_threads.specs.Frames.{on_going, other, placed, rest, taken_after, task_at}
pub use Rattle.step_threads.specs.Frames.{TasksMayCome, todo}
pub use Rattle.step_threads.specs.NextSteps.{atomic_step_is_event, first, frame_by, ghost_after}
pub use Rattle.step_threads.specs.NextSteps.{ghost_by, pending_call_by, step_at, stepped, waits}
pub use Rattle.step_threads.specs.NextSteps.{waits_on}
pub use Rattle.step_threads.specs.Passing.{HasGoneOn}
pub use Rattle.step_threads.specs.Programs.{IsIn, kind_at}
pub use Rattle.step_threads.specs.Rows.{ending_as, ending_by, Hands, may_go, outside, refusal}
pub use Rattle.step_threads.specs.Rows.{said_by_row, taking, with_end}
pub use Rattle.step_threads.specs.Steps.{brings, empties, fetches, gives_back, matches, missed}
pub use Rattle.step_threads.specs.Steps.{sends, silent, Step, step_of_act, takes, trying}
pub use Rattle.step_threads.specs.Steps.{with_endings, within}
pub use Rattle.step_threads.specs.Stocks.{from, numbers, StoreView}
pub use Rattle.step_threads.specs.Threads.{BeginsAct, EndsFit, FitsThread, HasStepped, IsLoaded}
pub use Rattle.step_threads.specs.Threads.{IsNext, IsSeenBy, IsStocked, IsStockedBy}
pub use Rattle.step_threads.specs.declared.ending.Ending.{Ending}
pub use Rattle.step_threads.specs.declared.frame.Frame.{Frame}
pub use Rattle.step_threads.specs.declared.pending_call.PendingCall.{PendingCall}
pub use Rattle.step_threads.specs.declared.pending_call.PendingCall.TheVariants.{Brought, Clearing}
pub use Rattle.step_threads.specs.declared.pending_call.PendingCall.TheVariants.{Giving, Locking}
pub use Rattle.step_threads.specs.declared.pending_call.PendingCall.TheVariants.{Making, Matched}
pub use Rattle.step_threads.specs.declared.pending_call.PendingCall.TheVariants.{Refill, Rest}
pub use Rattle.step_threads.specs.declared.pending_call.PendingCall.TheVariants.{Returning, Saw}
pub use Rattle.step_threads.specs.declared.programs.act.Act.{Act}
pub use Rattle.step_threads.specs.declared.programs.act.Act.TheVariants.{Alias, Ask, Clear}
pub use Rattle.step_threads.specs.declared.programs.act.Act.TheVariants.{Compare, Count, Downgrade}
pub use Rattle.step_threads.specs.declared.programs.act.Act.TheVariants.{Drop, Exchange, Expired}
pub use Rattle.step_threads.specs.declared.programs.act.Act.TheVariants.{FromThis, Holds, Leave}
pub use Rattle.step_threads.specs.declared.programs.act.Act.TheVariants.{Load, Lock, Make, Move}
pub use Rattle.step_threads.specs.declared.programs.act.Act.TheVariants.{Offer, OnShelf, Put, Read}
pub use Rattle.step_threads.specs.declared.programs.act.Act.TheVariants.{Share, Swap}
pub use Rattle.step_threads.specs.declared.programs.act.ShelfAct.TheVariants.{Shelve, Unshelve}
pub use Rattle.step_threads.specs.declared.programs.act.Task.{Task}
pub use Rattle.step_threads.specs.declared.programs.call.CellName.{CellName}
pub use Rattle.step_threads.specs.declared.said.Answer.{Answer}
pub use Rattle.step_threads.specs.declared.said.Said.{Said}
pub use Rattle.step_threads.specs.declared.said.Stepped.{Stepped}
pub use Rattle.step_threads.specs.declared.said.Stepped.TheVariants.{Event, Quiet, Waited}
pub use Rattle.step_threads.specs.declared.thread.Thread.{Thread}
