-- The words that many of this crate's proofs cite, passed on from one place. Declares nothing.
pub use Rattle.std.proofs.lemmas.Bool.{cases_eq, cases_lt, cond_both}
pub use Rattle.std.proofs.lemmas.Bool.Decides.{nat_tests}
pub use Rattle.std.proofs.lemmas.Grind.{flat_map-append}
pub use Rattle.std.proofs.lemmas.List.{get_or_past, length-map, set-get_or, take_more, take_rest}
pub use Rattle.std.proofs.lemmas.List.Elements.{All-cons, All-get_or, All-head, All-nil, All-tail}
pub use Rattle.std.proofs.lemmas.Option.{same_Some}
pub use Rattle.std.specs.List.{flat_map, list_all, slice_split}
pub use Rattle.std.specs.Str.Parse.{digits_value}
pub use Rattle.control_word.specs.Handles.{has_object}
pub use Rattle.control_word.specs.Histories.{entry, leads}
pub use Rattle.control_word.specs.Layout.{IsWithinLimits}
pub use Rattle.control_word.specs.State.{Opening, State, weak}
pub use Rattle.control_word.specs.declared.handle.Handle.{Handle}
pub use Rattle.control_word.specs.declared.model.event.Event.{Event}
pub use Rattle.control_word.specs.declared.model.handle.Kind.{Kind}
pub use Rattle.control_word.specs.declared.model.handle.Kind.TheVariants.{Owner, Weak}
pub use Rattle.control_word.specs.declared.model.handle.NumberedHandle.{NumberedHandle}
pub use Rattle.control_word.specs.declared.place.Place.{Place}
pub use Rattle.control_word.specs.declared.shape.Shape.{Shape}
pub use Rattle.script_text.specs.Beginnings.{script_abstraction, script_shape, script_world_state}
pub use Rattle.script_text.specs.Beginnings.{shape_for}
pub use Rattle.script_text.specs.Drafts.{ScriptView}
pub use Rattle.script_text.specs.Faults.{faulty_line}
pub use Rattle.script_text.specs.Grammar.{ended}
pub use Rattle.script_text.specs.Scripts.{program_in}
pub use Rattle.script_text.specs.Traces.{in_order, IsTrace, Item, TakesTurn, TakeTurns}
pub use Rattle.script_text.specs.Words.{is_digit}
pub use Rattle.script_text.specs.declared.fault.Fault.{Fault}
pub use Rattle.script_text.specs.declared.fault.Fault.TheVariants.{BadTurn, Input, Output, Syntax}
pub use Rattle.step_core.proofs.Entries.{acted, giving}
pub use Rattle.step_core.specs.Following.{no_worth}
pub use Rattle.step_core.specs.Runs.{IsRun}
pub use Rattle.step_core.specs.Starts.{CanBegin, first_frame}
pub use Rattle.step_core.specs.Totals.{ended_in, IsAtEnd, made_in}
pub use Rattle.step_core.specs.Turns.{Always, IsChosen}
pub use Rattle.step_core.specs.Worlds.{abstraction, WorldState}
pub use Rattle.step_core.specs.declared.trace.TraceStep.{TraceStep}
pub use Rattle.step_table.specs.AtomicSteps.{exact, owned}
pub use Rattle.step_table.specs.Contents.{slot_of}
pub use Rattle.step_table.specs.GhostStates.{Nothing}
pub use Rattle.step_table.specs.Openings.{opening}
pub use Rattle.step_table.specs.Registers.{inside, is_full, owner_slot, place_in, plain}
pub use Rattle.step_table.specs.Registers.{slot_pointer, slot_value, Slots, weak_slot}
pub use Rattle.step_table.specs.declared.memory.form.Form.{Form}
pub use Rattle.step_table.specs.declared.slots.slot.Slot.{Slot}
pub use Rattle.step_threads.specs.AbstractStates.{AbstractState, frame_of, next, next_of, nowhere}
pub use Rattle.step_threads.specs.AbstractStates.{put_frame, reply_in, rest_of, rested_frame}
pub use Rattle.step_threads.specs.AbstractStates.{row_in, state_in, went}
pub use Rattle.step_threads.specs.Entries.{History, least}
pub use Rattle.step_threads.specs.Frames.{FrameView, hand, is_there, offered, other, placed}
pub use Rattle.step_threads.specs.Programs.{Part}
pub use Rattle.step_threads.specs.Rows.{Hands, may_go, row, said_by_row, with_end}
pub use Rattle.step_threads.specs.TraceLabels.{ahead, ahead_of, AnEnd, copies, DoesNext}
pub use Rattle.step_threads.specs.TraceLabels.{GoesThrough, leaves_as, onto, Over, put_on}
pub use Rattle.step_threads.specs.TraceLabels.{TraceLabel}
pub use Rattle.step_threads.specs.Unwinding.{history_clears, stops, unwinds_on, unwound, Wound}
pub use Rattle.step_threads.specs.declared.ending.Ending.{Ending}
pub use Rattle.step_threads.specs.declared.pending_call.PendingCall.{PendingCall}
pub use Rattle.step_threads.specs.declared.pending_call.PendingCall.TheVariants.{Rest}
pub use Rattle.step_threads.specs.declared.programs.act.Act.{Act}
pub use Rattle.step_threads.specs.declared.programs.act.Act.TheVariants.{Alias, Ask, Clear}
pub use Rattle.step_threads.specs.declared.programs.act.Act.TheVariants.{Compare, Count, Downgrade}
pub use Rattle.step_threads.specs.declared.programs.act.Act.TheVariants.{Drop, Exchange, Expired}
pub use Rattle.step_threads.specs.declared.programs.act.Act.TheVariants.{FromThis, Holds, Leave}
pub use Rattle.step_threads.specs.declared.programs.act.Act.TheVariants.{Load, Lock, Make, Move}
pub use Rattle.step_threads.specs.declared.programs.act.Act.TheVariants.{Offer, OnShelf, Put, Read}
pub use Rattle.step_threads.specs.declared.programs.act.Act.TheVariants.{Share, Swap}
pub use Rattle.step_threads.specs.declared.programs.act.ShelfAct.TheVariants.{Shelve, Unshelve}
pub use Rattle.step_threads.specs.declared.programs.act.Task.{Task}
pub use Rattle.step_threads.specs.declared.said.Answer.{Answer}
pub use Rattle.step_threads.specs.declared.said.Said.{Said}
pub use Rattle.text_lines.proofs.Ended.{ended-append}
pub use Rattle.script_stepper.specs.Ends.{IsRunOut}
pub use Rattle.script_stepper.specs.Lines.{census_lines, closing_lines, item_lines, said_lines}
pub use Rattle.script_stepper.specs.Running.{AllOver, AllRest, HasRun, heard, IsThread, parts_left}
pub use Rattle.script_stepper.specs.Running.{RunsAlone, turns_left, Waits}
pub use Rattle.script_stepper.specs.Runs.{IsFineText, IsTurnText}
pub use Rattle.script_stepper.specs.Sinks.{IsWritten}
pub use Rattle.script_stepper.specs.StepRuns.{IsStepText, step_lines}
pub use Rattle.script_stepper.specs.TurnLists.{is_comma, is_turn, turn_at, turns_from}
