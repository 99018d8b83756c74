-- The words that many of this crate's proofs cite, passed on from one place. Declares nothing.
pub use Rattle.std.proofs.lemmas.Bool.{cond-false, cond-true, cond_both}
pub use Rattle.std.proofs.lemmas.List.{length-map, map_more, set-get_or, set_comm, take_more}
pub use Rattle.std.proofs.lemmas.List.Elements.{All-from_recursion, recursion_from_All}
pub use Rattle.std.proofs.lemmas.List.Sums.{sum_by-cons}
pub use Rattle.std.proofs.lemmas.Option.{slice_get_read, slice_get_within}
pub use Rattle.std.specs.Global.{Vec}
pub use Rattle.std.specs.List.{AllByRecursion, AllZip, flat_map}
pub use Rattle.atomic_table.specs.Seated.{TableId}
pub use Rattle.control_block.proofs.Bags.{shown_held}
pub use Rattle.control_block.proofs.Latest.{calls_keep_latest}
pub use Rattle.control_block.proofs.PartingLists.{has_map}
pub use Rattle.control_block.specs.CellCalls.{handle_in}
pub use Rattle.control_block.specs.Census.{CensusNow}
pub use Rattle.control_block.specs.Desks.{AddsEvent, allowance_of, bag_of, by_block, DeskNow}
pub use Rattle.control_block.specs.Desks.{DomainNow, HasHandle, IsEnding, latest_of, object_in}
pub use Rattle.control_block.specs.Desks.{on_latest, state_of}
pub use Rattle.control_block.specs.Own.{KeepsDesks}
pub use Rattle.control_block.specs.Rule.{opening_of}
pub use Rattle.control_block.specs.Standing.{Standing}
pub use Rattle.control_block.specs.declared.handles.Held.{Held}
pub use Rattle.control_block.specs.declared.handles.Held.TheVariants.{Owner, Weak}
pub use Rattle.control_block.specs.declared.handles.Shared.{Shared}
pub use Rattle.control_word.proofs.history.Endings.{stays_the_latest}
pub use Rattle.control_word.proofs.history.Given.{legal_seen, names_an_object}
pub use Rattle.control_word.proofs.history.Kept.{block_kept, same_kept, stays_as_made}
pub use Rattle.control_word.proofs.history.Legal.{sound}
pub use Rattle.control_word.proofs.lists.Parts.{has_part}
pub use Rattle.control_word.proofs.lists.Tallies.{put_same}
pub use Rattle.control_word.specs.Events.{after, Asks, place_at}
pub use Rattle.control_word.specs.Handles.{handle, has_object, IsPointer, owner, weak_of}
pub use Rattle.control_word.specs.Histories.{entry, IsLegal, leads}
pub use Rattle.control_word.specs.State.{bag, ending, Has, held, Object, Opening, State, unmade}
pub use Rattle.control_word.specs.Views.{NoneBy}
pub use Rattle.control_word.specs.Words.{blocks_of}
pub use Rattle.control_word.specs.declared.handle.Handle.{Handle}
pub use Rattle.control_word.specs.declared.model.event.Cell.TheVariants.{Free}
pub use Rattle.control_word.specs.declared.model.event.Entry.{Entry}
pub use Rattle.control_word.specs.declared.model.event.Event.{Event}
pub use Rattle.control_word.specs.declared.model.event.Event.TheVariants.{Compare, Join, Split}
pub use Rattle.control_word.specs.declared.model.event.Event.TheVariants.{Swap}
pub use Rattle.control_word.specs.declared.model.handle.Kind.{Kind}
pub use Rattle.control_word.specs.declared.model.handle.NumberedHandle.{NumberedHandle}
pub use Rattle.control_word.specs.declared.place.Block.{Block}
pub use Rattle.control_word.specs.declared.place.Place.{Place}
pub use Rattle.control_word.specs.declared.refusal.Refusal.{Refusal}
pub use Rattle.control_block.specs.Desks.{stock_of}
pub use Rattle.control_word.specs.declared.refusal.Refusal.TheVariants.{BadWeak, Full}
pub use Rattle.control_word.specs.declared.shape.Shape.{Shape}
pub use Rattle.control_word.specs.declared.site.Site.{Site}
pub use Rattle.script_runner.proofs.Filling.{fits_at}
pub use Rattle.script_runner.specs.SlotCalls.{Comes, Copies, IsBelow, IsCopy, IsHandleAt, IsOwner, IsOwnerAt}
pub use Rattle.script_runner.specs.SlotCalls.{IsWeak, IsWeakAt}
pub use Rattle.script_runner.specs.SlotCalls.{LeavesSlot, LetsGo, MovesSlot}
pub use Rattle.script_runner.specs.Cells.{ExchangesSlot, IsAway, IsCellAtSite, IsInReach, IsKindAt}
pub use Rattle.script_runner.specs.Cells.{LoadsIntoSlot, NamesCell}
pub use Rattle.script_runner.specs.Cells.{TellsSlotHeld, WhyNoCell}
pub use Rattle.script_runner.specs.Compares.{ComparesSlots}
pub use Rattle.script_runner.specs.Ends.{IsToEnd}
pub use Rattle.script_runner.specs.Handles.{EmptiesSlot, EmptiesSlotWeakly}
pub use Rattle.script_runner.specs.Pairs.{AreInOrder, PointAlike}
pub use Rattle.script_runner.specs.Parting.{AbsorbsAll, IsPartedInto}
pub use Rattle.script_runner.specs.Parts.{block_of_held, kind_of_held, place_of_held}
pub use Rattle.script_runner.specs.Tables.{AllVacant, FitsSlots, HasScriptMembers, IsAt, TableNow}
pub use Rattle.script_runner.specs.declared.table.ends.Remains.{Remains}
pub use Rattle.script_runner.specs.declared.table.staff.Share.{Share}
pub use Rattle.ownership_ledger.specs.Now.{ShareNow}
pub use Rattle.ownership_ledger.specs.declared.share.Totals.{Totals}
pub use Rattle.script_text.specs.Beginnings.{shape_for}
pub use Rattle.script_text.specs.Drafts.{ScriptView}
pub use Rattle.script_text.specs.Grammar.{ended, ReadsAs}
pub use Rattle.script_text.specs.Scripts.{HasTextCells, part_in, program_in}
pub use Rattle.shared_handle.specs.Calls.{counting, LeavesWeakly}
pub use Rattle.shared_handle.specs.Endings.{ClearsOf, IsClearing, IsGone, IsLeft, WhyNotThis, with_clear}
pub use Rattle.shared_handle.specs.Piles.{AllEnd, AreRounds, IsRound, Past, piled}
pub use Rattle.shared_handle.specs.declared.pile.Gone.{Gone}
pub use Rattle.shared_handle.specs.declared.pile.Round.{Round}
pub use Rattle.shared_handle.specs.declared.pile.Round.TheVariants.{Cleared, Settled}
pub use Rattle.step_table.specs.AtomicSteps.{aliased, as_owner, handle_of, is_enabled, on, owned}
pub use Rattle.step_table.specs.AtomicSteps.{remains, this_as}
pub use Rattle.step_table.specs.Contents.{is_of, slot_by, slot_of}
pub use Rattle.step_table.specs.Registers.{inside, is_full, owner_slot, place_in, plain}
pub use Rattle.step_table.specs.Registers.{pointer_of, slot_pointer, slot_value, Slots, weak_slot}
pub use Rattle.step_table.specs.declared.memory.ended.Ended.{Ended}
pub use Rattle.step_table.specs.declared.memory.field.Field.{Field}
pub use Rattle.step_table.specs.declared.memory.form.Form.{Form}
pub use Rattle.step_table.specs.declared.slots.slot.Slot.{Slot}
pub use Rattle.step_threads.specs.Acts.{acts, clearing, numbered_tasks, tasks_from}
pub use Rattle.step_threads.specs.Endings.{staged}
pub use Rattle.step_threads.specs.Frames.{cell_of_name, fitting, frame_settled, FrameView, hand}
pub use Rattle.step_threads.specs.Frames.{idle, is_there, offered, other, placed, slots_idle}
pub use Rattle.step_threads.specs.Frames.{taken_idle}
pub use Rattle.step_threads.specs.Interleavings.{first_frame, IsSplitOrJoin, Marked, no_slots}
pub use Rattle.step_threads.specs.Interleavings.{said_on}
pub use Rattle.step_threads.specs.Programs.{call_count, IsIn, IsPart, IsProgram, kind_at, Part}
pub use Rattle.step_threads.specs.Programs.{part_of}
pub use Rattle.step_threads.specs.Rows.{Came, Compared, Found, frame_after_act, Got, Hands, Left}
pub use Rattle.step_threads.specs.Rows.{may_go, outside, Plain, refusal, Reply, row, said_by_row}
pub use Rattle.step_threads.specs.Rows.{taking, Told, unless, with_end}
pub use Rattle.step_threads.specs.Steps.{silent}
pub use Rattle.step_threads.specs.TraceLabels.{Ahead, ahead, ahead_of, AnAct, AnEnd, copies, copy}
pub use Rattle.step_threads.specs.TraceLabels.{DoesAhead, DoesNext, GoesThrough, IsLeaveEvent}
pub use Rattle.step_threads.specs.TraceLabels.{IsLoadEvent, IsMakeEvent, IsSameEvent, IsSwapEvent}
pub use Rattle.step_threads.specs.TraceLabels.{lines, On, onto, Over, spoken, TraceLabel, Where}
pub use Rattle.step_threads.specs.declared.ending.Ending.{Ending}
pub use Rattle.step_threads.specs.declared.programs.act.Act.{Act}
pub use Rattle.step_threads.specs.declared.programs.act.Act.TheVariants.{Leave}
pub use Rattle.step_threads.specs.declared.programs.act.Question.{Question}
pub use Rattle.step_threads.specs.declared.programs.act.Task.{Task}
pub use Rattle.step_threads.specs.declared.programs.call.Actor.{Actor}
pub use Rattle.step_threads.specs.declared.programs.call.CellName.{CellName}
pub use Rattle.step_threads.specs.declared.programs.call.Name.{Name}
pub use Rattle.step_threads.specs.declared.said.Answer.{Answer}
pub use Rattle.step_threads.specs.declared.said.Said.{Said}
pub use Rattle.script_runner.specs.Assignments.{asked_by_all, asked_by_calls, HasAssignment}
pub use Rattle.script_runner.specs.Assignments.{IsAssignmentFor, IsNewShare, IsReadyFor}
pub use Rattle.script_runner.specs.Beginnings.{HasBegun, IsFitting}
pub use Rattle.script_runner.specs.Calls.{state_before_event}
pub use Rattle.script_runner.specs.CellCalls.{ByCompare, ByDiffering, IsOfName}
pub use Rattle.script_runner.specs.CellCalls.{RefusesCell}
pub use Rattle.script_runner.specs.Deals.{field_0, GoesOnWith, IsActed, IsCompared, IsDealt}
pub use Rattle.script_runner.specs.Deals.{IsEmptied, IsHandOfTable, IsOnward, IsPartlySettled}
pub use Rattle.script_runner.specs.Deals.{IsPassedOver, IsRoundTold, IsSettledBy, IsThird, IsTop}
pub use Rattle.script_runner.specs.Deals.{statement_says, thread_slots}
pub use Rattle.script_runner.specs.EndCalls.{IsFour, Piled, remains_ended, RoundSays}
pub use Rattle.script_runner.specs.EndCalls.{TakesThread}
pub use Rattle.script_runner.specs.Goings.{task}
pub use Rattle.script_runner.specs.Handling.{Changes, comparison_tasks, IsAlone, MayGoOn}
pub use Rattle.script_runner.specs.Handling.{MaySettle}
pub use Rattle.script_runner.specs.Kinds.{AllSuit, first_stance, HasKind, IsArranged, IsInHand}
pub use Rattle.script_runner.specs.Kinds.{IsName, IsReached, IsVacant, KeepsKinds, KeepsLimits}
pub use Rattle.script_runner.specs.Kinds.{kind_in, SetsKind, slot_kinds, Stance, stance_after}
pub use Rattle.script_runner.specs.Kinds.{Suits, TakesKind}
pub use Rattle.script_runner.specs.Logs.{TellsThread, told_line, trace_label}
pub use Rattle.script_runner.specs.Notes.{HasNoted, IsTooMuch, Notes, PlaysOn, Settles}
pub use Rattle.script_runner.specs.Notes.{SettlesPartly}
pub use Rattle.script_runner.specs.Reached.{IsReachable, nothing, SetsAside}
pub use Rattle.script_runner.specs.Reports.{HasAdded, IsReport}
pub use Rattle.script_runner.specs.Seats.{Acts, as_slot, Begun, Done, IsHand, IsQuiet, IsSeated}
pub use Rattle.script_runner.specs.Seats.{IsToldEnding, Leaving, shown_slots}
pub use Rattle.script_runner.specs.TableCalls.{MarksAct, null_form}
pub use Rattle.script_runner.specs.Teams.{AllAbove, AllBare, AllMarked, AllPlay, AreRising}
pub use Rattle.script_runner.specs.Teams.{desk_names, HasNoObject, IsInterleaved}
pub use Rattle.script_runner.specs.Telling.{closed_block_lines, report_lines, TellsReport}
pub use Rattle.script_runner.specs.Telling.{threads_lines}
pub use Rattle.script_runner.specs.Totals.{asked_in, count_ended_by, count_ended_in, count_made_in}
pub use Rattle.script_runner.specs.Totals.{ends, made_by, makes, objects_asked, refuses, told_in}
pub use Rattle.script_runner.specs.Unshelved.{IsNoShelf, IsSuited, IsUnshelved}
pub use Rattle.script_runner.specs.Works.{IsWorked}
pub use Rattle.script_runner.specs.declared.acts.act_result.ActResult.{ActResult}
pub use Rattle.script_runner.specs.declared.reports.report.Report.{Report}
pub use Rattle.script_runner.specs.declared.workers.assignment.Assignment.{Assignment}
pub use Rattle.script_runner.specs.declared.workers.log.Log.{Log}
pub use Rattle.script_runner.specs.declared.workers.worker.Worker.{Worker}
