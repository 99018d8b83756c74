-- The words that many of this crate's proofs cite, passed on from one place. Declares nothing.
pub use Rattle.std.proofs.lemmas.Bool.{cond-false, cond-true}
pub use Rattle.control_block.proofs.Endings.{still_ends}
pub use Rattle.control_block.specs.CellCalls.{HoldsHandle}
pub use Rattle.control_block.specs.Desks.{AddsEvent, bag_of, DeskNow, DomainNow, endings_of}
pub use Rattle.control_block.specs.Desks.{IsEnding, IsSameDesk, KeepsEndings, KeepsOtherEndings}
pub use Rattle.control_block.specs.Desks.{latest_of, object_in, on_latest, state_of}
pub use Rattle.control_block.specs.Own.{Does}
pub use Rattle.control_block.specs.Rule.{members_of, opening_of}
pub use Rattle.control_block.specs.Standing.{Standing}
pub use Rattle.control_block.specs.declared.handles.Shared.{Shared}
pub use Rattle.control_word.proofs.history.Legal.{sound}
pub use Rattle.control_word.proofs.lists.Tallies.{put_cases}
pub use Rattle.control_word.specs.Handles.{empty, handle, IsPointer}
pub use Rattle.control_word.specs.Histories.{IsLegal, leads}
pub use Rattle.control_word.specs.State.{ending, InShape, kind_of_member, Object, put, State}
pub use Rattle.control_word.specs.declared.model.event.Event.{Event}
pub use Rattle.control_word.specs.declared.model.event.Event.TheVariants.{ClearMember, Leave}
pub use Rattle.control_word.specs.declared.model.handle.Kind.{Kind}
pub use Rattle.control_word.specs.declared.model.handle.Kind.TheVariants.{Owner, Weak}
pub use Rattle.control_word.specs.declared.model.handle.NumberedHandle.{NumberedHandle}
pub use Rattle.control_word.specs.declared.place.Block.{Block}
pub use Rattle.control_word.specs.declared.place.Place.{Place}
pub use Rattle.control_word.specs.declared.shape.Shape.{Shape}
pub use Rattle.shared_handle.specs.Calls.{LeavesWeakly}
pub use Rattle.shared_handle.specs.Endings.{ClearsOf, ClearsWeakly, EndsInHand, IsAllClear, IsBeside}
pub use Rattle.shared_handle.specs.Endings.{IsClearing, IsLeft, IsOfShape, more_ending, with_clear}
pub use Rattle.shared_handle.specs.Locks.{HasOwner}
pub use Rattle.shared_handle.specs.Piles.{AllEnd, AreRounds, Carries, FoldsBack, gone_of}
pub use Rattle.shared_handle.specs.Piles.{IsParting, KeepsElsewhere, next_member, NotAmong, Past}
pub use Rattle.shared_handle.specs.Piles.{piled, Stacked, values_of}
pub use Rattle.shared_handle.specs.declared.endings.Ending.{Ending}
pub use Rattle.shared_handle.specs.declared.endings.Left.{Left}
pub use Rattle.shared_handle.specs.declared.endings.Left.TheVariants.{Empty, Last, Others}
pub use Rattle.shared_handle.specs.declared.pile.Pile.{Pile}
pub use Rattle.shared_handle.specs.declared.pile.Round.TheVariants.{Cleared, Ended}
