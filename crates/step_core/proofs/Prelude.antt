-- The words that many of this crate's proofs cite, passed on from one place. Declares nothing.
pub use Rattle.std.proofs.lemmas.Bool.{and_from, and_parts, cases_eq, cases_lt, cond-false}
pub use Rattle.std.proofs.lemmas.Bool.{cond-true, cond_both, eqb-false, false≢true}
pub use Rattle.std.proofs.lemmas.List.{get_or-map, get_or_past, length-map, map_push, set-get_or}
pub use Rattle.std.proofs.lemmas.List.{take_more}
pub use Rattle.std.proofs.lemmas.List.Elements.{All-append, All-cons, All-head, All-map, All-nil}
pub use Rattle.std.proofs.lemmas.List.Elements.{All-tail}
pub use Rattle.std.proofs.lemmas.List.Sums.{sum_by-cons, sum_by-set, sum_by-take-le}
pub use Rattle.std.proofs.lemmas.Option.{same_Some, slice_get_cases}
pub use Rattle.std.specs.List.{filter, list_any}
pub use Rattle.control_word.proofs.history.Clearing.{was_made}
pub use Rattle.control_word.proofs.history.Given.{given_over, over}
pub use Rattle.control_word.proofs.history.Legal.{sound}
pub use Rattle.control_word.proofs.history.Soundness.{IsBusy, OwnersFit, Sound}
pub use Rattle.control_word.proofs.lists.Tallies.{num, num_cons}
pub use Rattle.control_word.proofs.views.Resting.{rests_unkept}
pub use Rattle.control_word.specs.Events.{place_at}
pub use Rattle.control_word.specs.Handles.{empty, has_object, object_of, owner, weak_of}
pub use Rattle.control_word.specs.Histories.{ends_by, entry, given, IsLegal, leads}
pub use Rattle.control_word.specs.Layout.{IsSite, site_place, spot}
pub use Rattle.control_word.specs.Packing.{cell_bits, IsCellWord, number_of}
pub use Rattle.control_word.specs.State.{common, count, ending, gone, InShape, IsVacant}
pub use Rattle.control_word.specs.State.{kind_of_member, live, Object, Opening, Phase, put, State}
pub use Rattle.control_word.specs.State.{Stored, stored, unmade, weak, weak_number}
pub use Rattle.control_word.specs.Views.{added, owed, owes, used_up}
pub use Rattle.control_word.specs.Words.{block_of, blocks_of, slot}
pub use Rattle.control_word.specs.declared.handle.Handle.{Handle}
pub use Rattle.control_word.specs.declared.model.event.Entry.{Entry}
pub use Rattle.control_word.specs.declared.model.event.Event.{Event}
pub use Rattle.control_word.specs.declared.model.handle.Kind.{Kind}
pub use Rattle.control_word.specs.declared.model.handle.Kind.TheVariants.{Owner, Weak}
pub use Rattle.control_word.specs.declared.model.handle.NumberedHandle.{NumberedHandle}
pub use Rattle.control_word.specs.declared.model.view.Pending.{Pending}
pub use Rattle.control_word.specs.declared.model.view.Pending.TheVariants.{Idle}
pub use Rattle.control_word.specs.declared.model.view.View.{View}
pub use Rattle.control_word.specs.declared.packed.cell.CellWord.{CellWord}
pub use Rattle.control_word.specs.declared.packed.counts.Counts.{Counts}
pub use Rattle.control_word.specs.declared.place.Block.{Block}
pub use Rattle.control_word.specs.declared.place.Place.{Place}
pub use Rattle.control_word.specs.declared.shape.Shape.{Shape}
pub use Rattle.control_word.specs.declared.site.Site.{Site}
pub use Rattle.control_word.specs.declared.site.Site.TheVariants.{Free, Member}
pub use Rattle.step_table.proofs.contained.Coming.{seen_found}
pub use Rattle.step_table.proofs.contained.Telling.{look_tells}
pub use Rattle.step_table.proofs.tables.Places.{handle_busy, there}
pub use Rattle.step_table.proofs.tables.Shown.{Found}
pub use Rattle.step_table.specs.AtomicSteps.{alias, aliased, by_word, downgrade, exact, field_of}
pub use Rattle.step_table.specs.AtomicSteps.{give, handle_of, is_enabled, is_expired, is_last}
pub use Rattle.step_table.specs.AtomicSteps.{leave, leave_as, lock, on, owned, owner_word}
pub use Rattle.step_table.specs.AtomicSteps.{read_atomic_step, remains, share, share_as, tell}
pub use Rattle.step_table.specs.AtomicSteps.{tell_count, tell_expired, Telling}
pub use Rattle.step_table.specs.CellAtomicSteps.{cell_in, handle_as, handle_told, kind_in_state}
pub use Rattle.step_table.specs.CellAtomicSteps.{owing_funds}
pub use Rattle.step_table.specs.Cells.{IsOpenTo, word_of_cell}
pub use Rattle.step_table.specs.Contents.{as_word, compare_of, compared_in, held_in, is_of}
pub use Rattle.step_table.specs.Contents.{is_spent, load_of, owing_for, same_of, same_value, seen}
pub use Rattle.step_table.specs.Contents.{slot_of, swap_of}
pub use Rattle.step_table.specs.GhostStates.{event_added, event_of, ghost_after_step, GhostState}
pub use Rattle.step_table.specs.GhostStates.{known_words, model_state, Nothing, object_of_block}
pub use Rattle.step_table.specs.GhostStates.{pending, TableInvariant}
pub use Rattle.step_table.specs.Openings.{opening}
pub use Rattle.step_table.specs.Refills.{is_drained, is_low, more_taken, RefillFits}
pub use Rattle.step_table.specs.Registers.{full, HoldsBag, inside, is_full, owner_slot, place_in}
pub use Rattle.step_table.specs.Registers.{plain, pointer_of, slot_pointer, slot_value, Slots}
pub use Rattle.step_table.specs.Registers.{weak_slot}
pub use Rattle.step_table.specs.declared.cell_steps.cell_step.CellStep.TheVariants.{CompareSwap}
pub use Rattle.step_table.specs.declared.cell_steps.cell_step.CellStep.TheVariants.{Look, Take}
pub use Rattle.step_table.specs.declared.cell_steps.cell_step.Compared.{Compared}
pub use Rattle.step_table.specs.declared.cell_steps.refill.Stage.{Stage}
pub use Rattle.step_table.specs.declared.cell_steps.refill.Stage.TheVariants.{Checking, Failing}
pub use Rattle.step_table.specs.declared.cell_steps.refill.Stage.TheVariants.{Lacking, Refilling}
pub use Rattle.step_table.specs.declared.cell_steps.refill.Stage.TheVariants.{Turning}
pub use Rattle.step_table.specs.declared.memory.ended.Ended.{Ended}
pub use Rattle.step_table.specs.declared.memory.extent.Extent.{Extent}
pub use Rattle.step_table.specs.declared.memory.form.Form.{Form}
pub use Rattle.step_table.specs.declared.memory.ghost_history.AtomicStep.{AtomicStep}
pub use Rattle.step_table.specs.declared.memory.ghost_history.AtomicStep.TheVariants.{OnCell}
pub use Rattle.step_table.specs.declared.slots.slot.Slot.{Slot}
pub use Rattle.step_table.specs.declared.slots.slot.Slot.TheVariants.{Empty, Full}
pub use Rattle.step_threads.proofs.CellNames.{cell_open, goes_in}
pub use Rattle.step_threads.specs.AbstractStates.{AbstractState, came, ended_by, frame_of, next}
pub use Rattle.step_threads.specs.AbstractStates.{next_of, nowhere, remains_as, reply_in, rest_of}
pub use Rattle.step_threads.specs.AbstractStates.{rested, row_in, state_in, went}
pub use Rattle.step_threads.specs.Actors.{PendingCallFits, wanted}
pub use Rattle.step_threads.specs.Acts.{acts, clearing, numbered_tasks, tasks_from}
pub use Rattle.step_threads.specs.Endings.{endings_in_block, EndsAll, first_of, IsEndingAtStage}
pub use Rattle.step_threads.specs.Endings.{staged}
pub use Rattle.step_threads.specs.Entries.{History, holds_step, is_expected, least, lesser}
pub use Rattle.step_threads.specs.Frames.{cell_of_name, comparing, form_of, frame_settled}
pub use Rattle.step_threads.specs.Frames.{frame_view, FrameView, Going, going, hand, HasCell, idle}
pub use Rattle.step_threads.specs.Frames.{is_offered, is_there, IsReady, locked_pointer, new_of}
pub use Rattle.step_threads.specs.Frames.{offered, on_going, other, placed, slots_idle, taken_idle}
pub use Rattle.step_threads.specs.Frames.{task_at, TasksMayCome}
pub use Rattle.step_threads.specs.NextSteps.{answered, at_rest, atomic_step_is_event, begun}
pub use Rattle.step_threads.specs.NextSteps.{emptied, first, frame_by, ghost_after, ghost_by}
pub use Rattle.step_threads.specs.NextSteps.{given_step, made_on, matched, matched_on}
pub use Rattle.step_threads.specs.NextSteps.{pending_call_by, saw, saw_on, sent, step_at, stepped}
pub use Rattle.step_threads.specs.NextSteps.{tried, waits, waits_at, waits_on}
pub use Rattle.step_threads.specs.Programs.{AllHaveCells, Asked, asked_list, call_count, HasCells}
pub use Rattle.step_threads.specs.Programs.{IsApartFromCell, IsDeclared, IsIn, IsPart, IsWellNamed}
pub use Rattle.step_threads.specs.Programs.{kind_at, names_of, Part, part_of}
pub use Rattle.step_threads.specs.Rows.{ending_as, frame_after_act, full_answer, Got, holding}
pub use Rattle.step_threads.specs.Rows.{may_go, Reply, row, said_by_row, with_end}
pub use Rattle.step_threads.specs.Shelving.{shelf_block, shelf_step}
pub use Rattle.step_threads.specs.Steps.{asks, begins, brings, claims, empties, ends_on, fetches}
pub use Rattle.step_threads.specs.Steps.{gives_back, looks, matches, missed, prepares, refills_on}
pub use Rattle.step_threads.specs.Steps.{returns, sends, settles, silent, Step, step_of_act}
pub use Rattle.step_threads.specs.Steps.{step_of_compare, step_of_look, step_of_swap, takes, tries}
pub use Rattle.step_threads.specs.Steps.{trying, with_endings, within}
pub use Rattle.step_threads.specs.Threads.{FitsThread, HasStepped, IsClearingMember, IsMatchedBy}
pub use Rattle.step_threads.specs.Threads.{IsNext, IsSeenBy}
pub use Rattle.step_threads.specs.TraceLabels.{Ahead, ahead, ahead_of, AnAct, AnEnd, copies, copy}
pub use Rattle.step_threads.specs.TraceLabels.{DoesAhead, DoesNext, IsLeaveEvent, IsMakeEvent}
pub use Rattle.step_threads.specs.TraceLabels.{leaves_as, On, Over, put_on, spoken, TraceLabel}
pub use Rattle.step_threads.specs.TraceLabels.{Where}
pub use Rattle.step_threads.specs.Unwinding.{unwound, Wound}
pub use Rattle.step_threads.specs.declared.ending.Ending.{Ending}
pub use Rattle.step_threads.specs.declared.frame.Frame.{Frame}
pub use Rattle.step_threads.specs.declared.pending_call.PendingCall.{PendingCall}
pub use Rattle.step_threads.specs.declared.pending_call.PendingCall.TheVariants.{Brought, Clearing}
pub use Rattle.step_threads.specs.declared.pending_call.PendingCall.TheVariants.{Giving, Locking}
pub use Rattle.step_threads.specs.declared.pending_call.PendingCall.TheVariants.{Making, Matched}
pub use Rattle.step_threads.specs.declared.pending_call.PendingCall.TheVariants.{Refill, Rest}
pub use Rattle.step_threads.specs.declared.pending_call.PendingCall.TheVariants.{Returning, Saw}
pub use Rattle.step_threads.specs.declared.programs.act.Act.{Act}
pub use Rattle.step_threads.specs.declared.programs.act.Act.TheVariants.{Alias, Ask, Clear}
pub use Rattle.step_threads.specs.declared.programs.act.Act.TheVariants.{Compare, Count, Downgrade}
pub use Rattle.step_threads.specs.declared.programs.act.Act.TheVariants.{Drop, Exchange, Expired}
pub use Rattle.step_threads.specs.declared.programs.act.Act.TheVariants.{FromThis, Holds, Leave}
pub use Rattle.step_threads.specs.declared.programs.act.Act.TheVariants.{Load, Lock, Make, Move}
pub use Rattle.step_threads.specs.declared.programs.act.Act.TheVariants.{Offer, OnShelf, Put, Read}
pub use Rattle.step_threads.specs.declared.programs.act.Act.TheVariants.{Share, Swap}
pub use Rattle.step_threads.specs.declared.programs.act.ShelfAct.{ShelfAct}
pub use Rattle.step_threads.specs.declared.programs.act.ShelfAct.TheVariants.{Shelve, Unshelve}
pub use Rattle.step_threads.specs.declared.programs.act.Task.{Task}
pub use Rattle.step_threads.specs.declared.programs.call.Actor.{Actor}
pub use Rattle.step_threads.specs.declared.programs.call.Call.{Call}
pub use Rattle.step_threads.specs.declared.programs.call.CellName.{CellName}
pub use Rattle.step_threads.specs.declared.said.Answer.{Answer}
pub use Rattle.step_threads.specs.declared.said.Said.{Said}
pub use Rattle.step_threads.specs.declared.said.Stepped.{Stepped}
pub use Rattle.step_threads.specs.declared.said.Stepped.TheVariants.{Done, Quiet, Waited}
pub use Rattle.step_threads.specs.declared.said.Turned.{Turned}
pub use Rattle.step_threads.specs.declared.said.Turned.TheVariants.{Acted}
pub use Rattle.step_threads.specs.declared.thread.Thread.{Thread}
pub use Rattle.step_core.specs.Bounds.{alone, frame_steps, left_to_do, living, lock_word}
pub use Rattle.step_core.specs.Bounds.{most_steps, shows_next, shows_on, spare, steps_of}
pub use Rattle.step_core.specs.Bounds.{task_steps, weight}
pub use Rattle.step_core.specs.Following.{ActsNext, no_worth, PassesQuietly, Performs, said_by}
pub use Rattle.step_core.specs.Following.{spoken_by}
pub use Rattle.step_core.specs.Headline.{answer_by, LastLeft, statement_by, step_ended, Was}
pub use Rattle.step_core.specs.Runs.{AddsRun, call_under_way, CallsOn, is_calling, is_owing}
pub use Rattle.step_core.specs.Runs.{is_paying, IsRun, IsStepOf, MovesOn, NamesActor, NonePays}
pub use Rattle.step_core.specs.Runs.{RunInOrder, RunsToEnd, SettleInOrder, Settles}
pub use Rattle.step_core.specs.Showing.{ends_in, is_ending_in, is_load_on, is_make_in, loads_on}
pub use Rattle.step_core.specs.Showing.{makes_in}
pub use Rattle.step_core.specs.Starts.{first_frame, first_ghost, HasFields, no_slots}
pub use Rattle.step_core.specs.Told.{AllEndInThreads, is_prepared, IsTidy, LeavesAll, LeavesName}
pub use Rattle.step_core.specs.Told.{step_ends, step_makes, TotalsAreTold, world_state}
pub use Rattle.step_core.specs.Totals.{census_of, ended_in, is_last_leave, IsAtEnd, made_in}
pub use Rattle.step_core.specs.Turning.{FundsAreHeld, has_rest, HasBegun, is_acting, is_clearing}
pub use Rattle.step_core.specs.Turning.{is_ending, is_refilling, is_returning, IsAlone, IsInShape}
pub use Rattle.step_core.specs.Turning.{IsMatched, IsProperPendingCall, IsSeen, IsStill, IsSwap}
pub use Rattle.step_core.specs.Turning.{IsTried, IsUnderWay, NextActLocks, Plays, returned}
pub use Rattle.step_core.specs.Turning.{turned_by}
pub use Rattle.step_core.specs.Turns.{ActsNow, IsChosen, TurnIs}
pub use Rattle.step_core.specs.Watching.{is_watching, IsCellOfShape}
pub use Rattle.step_core.specs.WorldStates.{AllHold, AllRestIdle, is_event, IsOver, TakesStep}
pub use Rattle.step_core.specs.Worlds.{abstraction, Advances, AllFit, CountsAll, GoesTo}
pub use Rattle.step_core.specs.Worlds.{is_loading, pending_call_of, step_of, Steps, StepsBy}
pub use Rattle.step_core.specs.Worlds.{TakesWholeTurn, thread_frame, thread_pending}
pub use Rattle.step_core.specs.Worlds.{world_state_by, WorldState}
pub use Rattle.step_core.specs.declared.trace.TraceStep.{TraceStep}
