-- The words that many of this crate's proofs cite, passed on from one place. Declares nothing.
pub use Rattle.std.proofs.lemmas.Bool.{and_parts, cases_eq, cases_lt, cond-false, cond-true}
pub use Rattle.std.proofs.lemmas.Bool.{cond_both, eqb-false}
pub use Rattle.std.proofs.lemmas.List.{length-map, map-append}
pub use Rattle.std.proofs.lemmas.List.Elements.{filter-append}
pub use Rattle.std.proofs.lemmas.List.Sorted.{length_permutation, sum_by-IsPermutation}
pub use Rattle.std.proofs.lemmas.List.Sums.{length-filter}
pub use Rattle.std.proofs.lemmas.Nat.Bits.{bit_at-lt}
pub use Rattle.std.specs.Int.{bit_at, bit_not, w64}
pub use Rattle.std.specs.List.{filter}
pub use Rattle.std.specs.List.Sorted.{IsPermutation}
pub use Rattle.std.specs.Ordering.{is_lt, nat_cmp}
pub use Rattle.std.specs.Slots.{slots_items}
pub use lib.ListN.{get_elem?, length-replicate}
pub use mathlib.Core.Option.{none, some, some-injective, some-ne-none}
pub use mathlib.Core.Path.{fun_ext}
pub use mir.Val.{bool_byte}
pub use prog.Atomic.{either}
pub use Rattle.atomic_table.proofs.Lists.{at_longer, at_map, at_set, at_snoc, set_again, set_else}
pub use Rattle.atomic_table.proofs.Lists.{set_here}
pub use Rattle.atomic_table.specs.Seated.{TableId}
pub use Rattle.atomic_table.specs.Table.{Act, Allows, carried_after, gives, keeps, opening}
pub use Rattle.atomic_table.specs.Table.{put_back, rest, Splits, step, stepped, takes, Valid}
pub use Rattle.control_word.proofs.history.Allowances.{allowed}
pub use Rattle.control_word.proofs.history.Formation.{are_formed, formed}
pub use Rattle.control_word.proofs.history.Given.{legal_seen, names_an_object}
pub use Rattle.control_word.proofs.history.Kept.{block_kept, cells_led, same_kept}
pub use Rattle.control_word.proofs.history.Legal.{held_busy, sound, written}
pub use Rattle.control_word.proofs.history.Moving.{counted_live, owner_counted}
pub use Rattle.control_word.proofs.history.Others.{held_made}
pub use Rattle.control_word.proofs.history.Sole.{alone, nothing_unseen}
pub use Rattle.control_word.proofs.history.Soundness.{IsBusy, Sound}
pub use Rattle.control_word.proofs.history.Values.{has_value}
pub use Rattle.control_word.proofs.lists.Parts.{has_part, part, part_has, part_mine, part_other}
pub use Rattle.control_word.proofs.lists.Sums.{num_length, num_none, num_passes, sum_at, sum_zero}
pub use Rattle.control_word.proofs.lists.Tallies.{handle_self, has_before, has_without, held_self}
pub use Rattle.control_word.proofs.lists.Tallies.{held_true, num, num_cons, num_has, num_map}
pub use Rattle.control_word.proofs.lists.Tallies.{num_without, put_cases, put_other, put_same}
pub use Rattle.control_word.proofs.lists.Tallies.{same_handle_true, same_number_true}
pub use Rattle.control_word.proofs.lists.Tallies.{same_place_true, stored_self, stored_true}
pub use Rattle.control_word.proofs.lists.Tallies.{tally_append}
pub use Rattle.control_word.proofs.packing.Cells.{block_fits, field_fits, owned_fits}
pub use Rattle.control_word.proofs.steps.Look.{load_is_write}
pub use Rattle.control_word.proofs.funded.Words.{has_headroom_funded}
pub use Rattle.control_word.proofs.words.Banks.{sum_all, sum_set}
pub use Rattle.control_word.proofs.words.Counting.{bag_one}
pub use Rattle.control_word.proofs.words.Decoding.{cell_shown}
pub use Rattle.control_word.proofs.words.Frames.{at_inside, total_set}
pub use Rattle.control_word.proofs.words.Funds.{cell_busy, member_busy, same_counts}
pub use Rattle.control_word.specs.Events.{after, Asks, cell_of, fills, gets, handed, Holds, InHand}
pub use Rattle.control_word.specs.Events.{IsOpen, loses, moved_to, new_object, place_at, renamed}
pub use Rattle.control_word.specs.Events.{splits_off}
pub use Rattle.control_word.specs.Handles.{empty, equivalent, handle, has_object, IsPointer}
pub use Rattle.control_word.specs.Handles.{object_of, owner, same_handle, same_kind, same_number}
pub use Rattle.control_word.specs.Handles.{same_place, weak_of}
pub use Rattle.control_word.specs.Histories.{entry, IsLegal, leads, value, valued}
pub use Rattle.control_word.specs.Laws.{how_often}
pub use Rattle.control_word.specs.Layout.{bit_of, cell_place, IsWithinLimits, site_place, spot}
pub use Rattle.control_word.specs.Packing.{cell_bits, IsCellWord, number_of}
pub use Rattle.control_word.specs.State.{all_stored, bag, bag_size, common, ending, gone, Has}
pub use Rattle.control_word.specs.State.{HasAll, HasRoom, Held, held, in_cells, InShape, IsActing}
pub use Rattle.control_word.specs.State.{IsVacant, kind_of_free, kind_of_member, live, Object}
pub use Rattle.control_word.specs.State.{on_shelf, Opening, passed, Phase, put, same_held}
pub use Rattle.control_word.specs.State.{same_stored, State, stock, Stored, stored, sum_below}
pub use Rattle.control_word.specs.State.{tally, unmade, weak_number, without}
pub use Rattle.control_word.specs.Steps.{cell_word, purse}
pub use Rattle.control_word.specs.HandFunds.{AddsFunded, drawn, ReadyFunded, short_of, StandsFunded}
pub use Rattle.control_word.specs.Views.{added, adds, comes, Fits, HasBoth, IsSecond, Knows}
pub use Rattle.control_word.specs.Views.{longer, more, Names, NoneBy, owed, owes, paid, pays}
pub use Rattle.control_word.specs.Views.{Seated, sees_as, StandsFor, total}
pub use Rattle.control_word.specs.Words.{block_of, blocks_of, counts_at, flags_of, owned_bits}
pub use Rattle.control_word.specs.Words.{shown, Shows, slot}
pub use Rattle.control_word.specs.declared.model.event.Cell.{Cell}
pub use Rattle.control_word.specs.declared.model.event.Cell.TheVariants.{Free, Member}
pub use Rattle.control_word.specs.declared.model.event.Entry.{Entry}
pub use Rattle.control_word.specs.declared.model.event.Event.{Event}
pub use Rattle.control_word.specs.declared.model.event.Event.TheVariants.{ClearMember, Compare}
pub use Rattle.control_word.specs.declared.model.event.Event.TheVariants.{Count, Expired, Finish}
pub use Rattle.control_word.specs.declared.model.event.Event.TheVariants.{Join, Leave, Load, Lock}
pub use Rattle.control_word.specs.declared.model.event.Event.TheVariants.{Make, Read, Same, Share}
pub use Rattle.control_word.specs.declared.model.event.Event.TheVariants.{Shelve, Split, Swap}
pub use Rattle.control_word.specs.declared.model.event.Event.TheVariants.{Unshelve, Visit}
pub use Rattle.control_word.specs.declared.model.event.Event.TheVariants.{WeakLeave, WeakShare}
pub use Rattle.control_word.specs.declared.model.handle.Kind.{Kind}
pub use Rattle.control_word.specs.declared.model.handle.Kind.TheVariants.{Owner, Weak}
pub use Rattle.control_word.specs.declared.model.handle.NumberedHandle.{NumberedHandle}
pub use Rattle.control_word.specs.declared.model.view.Pending.{Pending}
pub use Rattle.control_word.specs.declared.model.view.Pending.TheVariants.{Idle, Making, Merging}
pub use Rattle.control_word.specs.declared.model.view.Pending.TheVariants.{Parting, Paying}
pub use Rattle.control_word.specs.declared.model.view.Pending.TheVariants.{Visiting}
pub use Rattle.control_word.specs.declared.model.view.View.{View}
pub use Rattle.control_word.specs.declared.packed.cell.CellWord.{CellWord}
pub use Rattle.control_word.specs.declared.place.Block.{Block}
pub use Rattle.control_word.specs.declared.place.Place.{Place}
pub use Rattle.control_word.specs.declared.shape.Shape.{Shape}
pub use Rattle.control_block.specs.CellCalls.{handle_in, HoldsHandle, object_by, with_handle}
pub use Rattle.control_block.specs.CellCalls.{without_handle}
pub use Rattle.control_block.specs.CellRetries.{CameOut, IsAim, IsCounted}
pub use Rattle.control_block.specs.CellStepKinds.{debt, Gave, IsCellAt, IsWordOf, kind_in, Took}
pub use Rattle.control_block.specs.Census.{CensusNow, EndsNot, owners_in, TellsBlock}
pub use Rattle.control_block.specs.Clearing.{Lets}
pub use Rattle.control_block.specs.Desks.{AddsEvent, all_blocks, allowance_of, bag_of, Belongs}
pub use Rattle.control_block.specs.Desks.{by_block, DeskNow, DomainNow, endings_of, ends_with}
pub use Rattle.control_block.specs.Desks.{HasHandle, held_of, IsCleared, IsEnding, IsSameDesk}
pub use Rattle.control_block.specs.Desks.{Keeps, KeepsEndings, latest_of, many_ending, member_in}
pub use Rattle.control_block.specs.Desks.{object_in, on_latest, state_of, StaysEnding, stock_of}
pub use Rattle.control_block.specs.DoorStepKinds.{opened}
pub use Rattle.control_block.specs.FundStepKinds.{Owes, owing, settled}
pub use Rattle.control_block.specs.Handles.{IsProper}
pub use Rattle.control_block.specs.Holders.{block_holders, free_cell, free_holders, frees_in}
pub use Rattle.control_block.specs.Holders.{holders_of, if_holds, many_of, member_holders}
pub use Rattle.control_block.specs.Holders.{owned_at, TellsCells, TellsHolders}
pub use Rattle.control_block.specs.Inside.{desk_now, IsDesk, IsDeskWith, IsSized}
pub use Rattle.control_block.specs.Leaving.{block_out, freed, IsReleasedBy, LetGo, MayLeave}
pub use Rattle.control_block.specs.Leaving.{OutAndGone, shown_handle}
pub use Rattle.control_block.specs.LockStepKinds.{locked, sought_owner}
pub use Rattle.control_block.specs.ObservationStepKinds.{first_again, Observed, ObservedBoth}
pub use Rattle.control_block.specs.ObservationStepKinds.{second_again}
pub use Rattle.control_block.specs.Observations.{ShowsOneHistory}
pub use Rattle.control_block.specs.Own.{events_of, IsSole}
pub use Rattle.control_block.specs.Parting.{AreIn, as_listed, free_of, HoldsAll, in_history}
pub use Rattle.control_block.specs.Parting.{listed, Parted, SplitsOff, times, without_all}
pub use Rattle.control_block.specs.Rule.{IsBacked, IsOut, IsSlotOf, kept, opening_of, opens_with}
pub use Rattle.control_block.specs.Rule.{Ruled, seeing, until_gone, view_of}
pub use Rattle.control_block.specs.Shelf.{Shelved, Unshelved}
pub use Rattle.control_block.specs.ShelfStepKinds.{IsOff, IsShelfWord, IsSo, shelf_at, shelved}
pub use Rattle.control_block.specs.ShelfStepKinds.{unshelved}
pub use Rattle.control_block.specs.SlotLists.{handles_in}
pub use Rattle.control_block.specs.StepKinds.{Added, At, began, Ends, fetched, goes_on, grown}
pub use Rattle.control_block.specs.StepKinds.{HasRoomFor, HoldingInBlock, in_call, IsClear}
pub use Rattle.control_block.specs.StepKinds.{IsNearObject, IsPrepared, IsTold, joined, JoinsUp}
pub use Rattle.control_block.specs.StepKinds.{known, left, made, MayShareWeakly, MaySplit, Moved}
pub use Rattle.control_block.specs.StepKinds.{peeked, prepared, Rests, tells, wrote}
pub use Rattle.control_block.specs.declared.cell_calls.CellAt.{CellAt}
pub use Rattle.control_block.specs.declared.desk.Desk.TheInside.{Inside}
pub use Rattle.control_block.specs.declared.released.Released.{Released}
pub use Rattle.control_block.specs.declared.table.SeatView.{SeatView}
