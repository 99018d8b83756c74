-- The words that many of this crate's proofs cite, passed on from one place. Declares nothing.
pub use Rattle.std.proofs.lemmas.Bool.{cases_eq, cases_lt, cond-false, cond-true, cond_both, iff_false}
pub use Rattle.std.proofs.lemmas.List.{map-append}
pub use Rattle.std.proofs.lemmas.List.Elements.{All-append, All-cons, All-head, All-nil, All-tail}
pub use Rattle.std.proofs.lemmas.List.Elements.{All-weaker}
pub use Rattle.std.proofs.lemmas.Option.{same_Some}
pub use Rattle.atomic_cells.specs.Sites.{IsMember, IsOpenSite, shared_cell, SharedAt, weak_cell}
pub use Rattle.atomic_cells.specs.Sites.{WeakAt}
pub use Rattle.atomic_cells.specs.declared.sites.SharedSite.{SharedSite}
pub use Rattle.control_block.proofs.Bags.{shown_held}
pub use Rattle.control_block.proofs.Latest.{calls_keep_latest}
pub use Rattle.control_block.proofs.Own.{goes_by_call, goes_in_turn}
pub use Rattle.control_block.proofs.Sole.{comes_next}
pub use Rattle.control_block.specs.CellCalls.{handle_in, HoldsHandle, with_handle, without_handle}
pub use Rattle.control_block.specs.Desks.{AddsEvent, allowance_of, bag_of, Belongs, DeskNow}
pub use Rattle.control_block.specs.Desks.{DomainNow, endings_of, IsSameDesk, Keeps, KeepsEndings}
pub use Rattle.control_block.specs.Desks.{latest_of, on_latest, state_of}
pub use Rattle.control_block.specs.Own.{Does, Goes, IsSole, KeepsDesks, KeepsHeld, KeepsLatest}
pub use Rattle.control_block.specs.Rule.{opening_of}
pub use Rattle.control_block.specs.declared.handles.Shared.{Shared}
pub use Rattle.control_word.proofs.history.Cells.{InState, one_of}
pub use Rattle.control_word.proofs.history.Clearing.{was_made}
pub use Rattle.control_word.proofs.history.Given.{legal_seen}
pub use Rattle.control_word.proofs.history.Kept.{block_kept, cells_led}
pub use Rattle.control_word.proofs.history.Legal.{sound}
pub use Rattle.control_word.proofs.history.Moving.{counted_live}
pub use Rattle.control_word.proofs.history.Soundness.{OwnersFit, Sound}
pub use Rattle.control_word.proofs.lists.Parts.{has_part}
pub use Rattle.control_word.proofs.lists.Sums.{sum_ones}
pub use Rattle.control_word.proofs.lists.Tallies.{handle_self, put_again, put_cases, put_other}
pub use Rattle.control_word.proofs.lists.Tallies.{put_same, same_handle_true, tally_append}
pub use Rattle.control_word.proofs.lists.Tallies.{tally_here}
pub use Rattle.control_word.specs.Events.{after, Asks, cell_of, clears, finishes, Holds, leaves}
pub use Rattle.control_word.specs.Events.{moved_to, new_object, place_at, swaps, weak_leaves}
pub use Rattle.control_word.specs.Handles.{empty, equivalent, handle, object_of, owner}
pub use Rattle.control_word.specs.Handles.{same_handle, same_kind}
pub use Rattle.control_word.specs.Histories.{entry, IsLegal, leads, value}
pub use Rattle.control_word.specs.State.{bag, common, ending, gone, Has, Held, held, in_cells}
pub use Rattle.control_word.specs.State.{kind_of_member, live, members, Object, Opening, Phase}
pub use Rattle.control_word.specs.State.{put, same_held, State, sum_below, tally, unmade, upto}
pub use Rattle.control_word.specs.State.{without}
pub use Rattle.control_word.specs.declared.model.event.Cell.{Cell}
pub use Rattle.control_word.specs.declared.model.event.Cell.TheVariants.{Free, Member}
pub use Rattle.control_word.specs.declared.model.event.Entry.{Entry}
pub use Rattle.control_word.specs.declared.model.event.Event.{Event}
pub use Rattle.control_word.specs.declared.model.event.Event.TheVariants.{ClearMember, Compare}
pub use Rattle.control_word.specs.declared.model.event.Event.TheVariants.{Count, Expired, Finish}
pub use Rattle.control_word.specs.declared.model.event.Event.TheVariants.{Join, Leave, Load, Lock}
pub use Rattle.control_word.specs.declared.model.event.Event.TheVariants.{Make, Read, Same, Share}
pub use Rattle.control_word.specs.declared.model.event.Event.TheVariants.{Shelve, Split, Swap}
pub use Rattle.control_word.specs.declared.model.event.Event.TheVariants.{Unshelve, Visit}
pub use Rattle.control_word.specs.declared.model.event.Event.TheVariants.{WeakLeave, WeakShare}
pub use Rattle.control_word.specs.declared.model.handle.Kind.{Kind}
pub use Rattle.control_word.specs.declared.model.handle.Kind.TheVariants.{Owner, Weak}
pub use Rattle.control_word.specs.declared.model.handle.NumberedHandle.{NumberedHandle}
pub use Rattle.control_word.specs.declared.place.Block.{Block}
pub use Rattle.control_word.specs.declared.place.Place.{Place}
pub use Rattle.control_word.specs.declared.refusal.Refusal.{Refusal}
pub use Rattle.control_word.specs.declared.refusal.Refusal.TheVariants.{Null, Outside}
pub use Rattle.control_word.specs.declared.shape.Shape.{Shape}
pub use Rattle.shared_handle.proofs.Callers.{first_out}
pub use Rattle.shared_handle.proofs.Goings.{does_both, does_none, does_one, weak_does}
pub use Rattle.shared_handle.proofs.Piles.{carries_kept, same_both, same_desk}
pub use Rattle.shared_handle.specs.Calls.{counting, IsExpiry, IsOfThis, LeavesWeakly, Makes}
pub use Rattle.shared_handle.specs.Calls.{SharesOwner, SharesWeakly, weak_place}
pub use Rattle.shared_handle.specs.Endings.{ClearsMember, EndsInHand, IsClearing, IsGone, IsLeft}
pub use Rattle.shared_handle.specs.Endings.{IsUncleared, IsWithin, with_clear}
pub use Rattle.shared_handle.specs.Locks.{IsOwnerOf, LocksHandle}
pub use Rattle.shared_handle.specs.Piles.{AllEnd, AreRounds, Carries, ClearsTop, Drops}
pub use Rattle.shared_handle.specs.Piles.{FinishesTop, FoldsBack, gone_of, IsFinish, IsParting}
pub use Rattle.shared_handle.specs.Piles.{IsRound, next_member, Past, piled}
pub use Rattle.shared_handle.specs.declared.endings.Ending.{Ending}
pub use Rattle.shared_handle.specs.declared.endings.Left.{Left}
pub use Rattle.shared_handle.specs.declared.endings.Left.TheVariants.{Empty, Last, Others}
pub use Rattle.shared_handle.specs.declared.pile.Gone.{Gone}
pub use Rattle.shared_handle.specs.declared.pile.Pile.{Pile}
pub use Rattle.shared_handle.specs.declared.pile.Round.{Round}
pub use Rattle.shared_handle.specs.declared.pile.Round.TheVariants.{Cleared, Ended, Settled}
pub use Rattle.scene_structures.specs.Chains.{Chain, IsList, OwnsObject}
pub use Rattle.scene_structures.specs.Detaches.{CutsOut, Detaches, HeldSought, IsEnd, IsSought}
pub use Rattle.scene_structures.specs.Detaches.{LeavesParent, Meets, ReachesNode, Seeks, Unlinks}
pub use Rattle.scene_structures.specs.Detaches.{UnlinksIf}
pub use Rattle.scene_structures.specs.Hands.{HasHands, IsOpenBy, KeepsThese, Lists}
pub use Rattle.scene_structures.specs.Hands.{node_in, SameNode, stacked}
pub use Rattle.scene_structures.specs.Leaves.{after_all, KeepsBut}
pub use Rattle.scene_structures.specs.Observers.{Attaches, ups}
pub use Rattle.scene_structures.specs.Orders.{EndsInOrder}
pub use Rattle.scene_structures.specs.Others.{KeepsOthers}
pub use Rattle.scene_structures.specs.Parents.{IsParent, LocksUp, owner_of}
pub use Rattle.scene_structures.specs.Pops.{TakesNode}
pub use Rattle.scene_structures.specs.Prunes.{AreOwned, AsksExpired, ClearsFront, CutsAll, Finds}
pub use Rattle.scene_structures.specs.Prunes.{GoesOn, is_owned, IsPruned, PassesNode, Prunes}
pub use Rattle.scene_structures.specs.Prunes.{SameKept}
pub use Rattle.scene_structures.specs.Puts.{in_no_cell, PutsOnly}
pub use Rattle.scene_structures.specs.Scenes.{Adopts}
pub use Rattle.scene_structures.specs.Stacks.{Fills, FindsNone, IsEmptyList, IsPopped, Looks}
pub use Rattle.scene_structures.specs.Stacks.{NextOf, Pushes, Rises, Sees, StackNow}
pub use Rattle.scene_structures.specs.Teardowns.{AreOut, empty_slots, filled_values}
pub use Rattle.scene_structures.specs.Teardowns.{HasRoomForEnds, MakesRounds, MayStop, TearsDown}
pub use Rattle.scene_structures.specs.Teardowns.{top_value, values_ended, values_ended_by}
pub use Rattle.scene_structures.specs.Teardowns.{values_ended_in}
pub use Rattle.scene_structures.specs.Trees.{bare, IsTree, node, objects_in_order, Tree}
pub use Rattle.scene_structures.specs.Walks.{HasLooked, is_look, IsAsked, IsLooking, SeenNode}
pub use Rattle.scene_structures.specs.Walks.{TellsField, told_of, told_onto, Walks, WalksOver}
pub use Rattle.scene_structures.specs.Watches.{Watches, weak_of_owner}
pub use Rattle.scene_structures.specs.declared.lists.removals.Sought.{Sought}
pub use Rattle.scene_structures.specs.declared.lists.removals.Sought.TheVariants.{Cut, End, Other}
