-- The words that many of this crate's proofs cite, passed on from one place. Declares nothing.
pub use Rattle.std.proofs.Math.Nat.{suc-mul}
pub use Rattle.std.proofs.lemmas.List.{length-map, map-append}
pub use Rattle.std.specs.Fn.{CalledAt}
pub use Rattle.atomic_cells.specs.Cells.{TellsHeld}
pub use Rattle.atomic_cells.specs.Sites.{shared_cell, weak_cell}
pub use Rattle.atomic_cells.specs.declared.compared.Compared.TheVariants.{Differs, Swapped}
pub use Rattle.control_block.proofs.HandleLists.{holds_each, holds_in_order, holds_less}
pub use Rattle.control_block.proofs.HandleLists.{holds_more}
pub use Rattle.control_block.specs.CellCalls.{handle_in, HoldsHandle, with_handle}
pub use Rattle.control_block.specs.Desks.{AddsEvent, allowance_of, bag_of, Belongs, DeskNow}
pub use Rattle.control_block.specs.Desks.{DomainNow, endings_of, HasHandle, held_of, Keeps}
pub use Rattle.control_block.specs.Desks.{latest_of, object_in, stock_of}
pub use Rattle.control_block.specs.HandleLists.{IsHeldByDesk, with_held, without_held}
pub use Rattle.control_block.specs.Own.{Goes, IsSole, KeepsDesks}
pub use Rattle.control_block.specs.Parting.{AreIn, HoldsAll, IsTooMuch, listed}
pub use Rattle.control_block.specs.Rule.{opening_of}
pub use Rattle.control_block.specs.Standing.{Standing}
pub use Rattle.control_block.specs.declared.handles.Held.{Held}
pub use Rattle.control_block.specs.declared.handles.Shared.{Shared}
pub use Rattle.control_word.proofs.history.Given.{legal_seen}
pub use Rattle.control_word.proofs.history.Kept.{same_kept}
pub use Rattle.control_word.specs.Events.{after}
pub use Rattle.control_word.specs.Handles.{handle, has_object}
pub use Rattle.control_word.specs.Histories.{entry, IsLegal, leads}
pub use Rattle.control_word.specs.State.{Has, Opening, State}
pub use Rattle.control_word.specs.declared.model.event.Cell.{Cell}
pub use Rattle.control_word.specs.declared.model.event.Entry.{Entry}
pub use Rattle.control_word.specs.declared.model.event.Event.{Event}
pub use Rattle.control_word.specs.declared.model.event.Event.TheVariants.{ClearMember, Join, Make}
pub use Rattle.control_word.specs.declared.model.event.Event.TheVariants.{Read, Split}
pub use Rattle.control_word.specs.declared.model.handle.Kind.{Kind}
pub use Rattle.control_word.specs.declared.model.handle.Kind.TheVariants.{Owner, Weak}
pub use Rattle.control_word.specs.declared.model.handle.NumberedHandle.{NumberedHandle}
pub use Rattle.control_word.specs.declared.place.Block.{Block}
pub use Rattle.control_word.specs.declared.place.Place.{Place}
pub use Rattle.control_word.specs.declared.refusal.Refusal.{Refusal}
pub use Rattle.control_word.specs.declared.refusal.Refusal.TheVariants.{BadWeak, Limit, Null}
pub use Rattle.control_word.specs.declared.refusal.Refused.{Refused}
pub use Rattle.control_word.specs.declared.shape.Shape.{Shape}
pub use Rattle.shared_handle.proofs.Piles.{bears_after, bears_kept}
pub use Rattle.shared_handle.specs.Calls.{counting, IsExpiry, IsUseCount, LeavesWeakly}
pub use Rattle.shared_handle.specs.Endings.{IsRead}
pub use Rattle.shared_handle.specs.Locks.{IsUpgrade}
pub use Rattle.shared_handle.specs.Piles.{Bears, Carries, Drops, KeepsElsewhere}
pub use Rattle.shared_handle.specs.Visits.{IsVisit}
pub use Rattle.shared_handle.specs.declared.endings.Ending.{Ending}
pub use Rattle.shared_handle.specs.declared.endings.Left.{Left}
pub use Rattle.shared_handle.specs.declared.pile.Gone.{Gone}
pub use Rattle.shared_handle.specs.declared.pile.Pile.{Pile}
pub use Rattle.pointers.specs.Beside.{Arrives, IsClaimed, IsHandleOf, IsWholeBeside, seen_by}
pub use Rattle.pointers.specs.Beside.{Stays}
pub use Rattle.pointers.specs.Blocks.{Fills, ShelvesAll}
pub use Rattle.pointers.specs.Known.{AllLive, AreOfOne, block_of, desk_at, fields_in, GoesOn}
pub use Rattle.pointers.specs.Known.{KeepsObject, known_now, Later, Lives, living, owned, place_of}
pub use Rattle.pointers.specs.Known.{pointed, Since}
pub use Rattle.pointers.specs.Leading.{AreTeams, Led, led_by, Stay}
pub use Rattle.pointers.specs.Lists.{WhyEnded}
pub use Rattle.pointers.specs.Objects.{IsField}
pub use Rattle.pointers.specs.Pools.{cells_from}
pub use Rattle.pointers.specs.Programs.{Answer, EachWorked, faults_from, IsOpened, Lends}
pub use Rattle.pointers.specs.Shares.{HasShares, IsPartedInto, JoinsAll}
pub use Rattle.pointers.specs.Staffs.{AreHired, Worked}
pub use Rattle.pointers.specs.Teams.{Fits}
pub use Rattle.pointers.specs.Whole.{domain_of, IsWhole}
pub use Rattle.pointers.specs.declared.fault.Fault.{Fault}
pub use Rattle.pointers.specs.declared.known.Known.{Known}
pub use Rattle.pointers.specs.declared.program.Failed.{Failed}
pub use Rattle.pointers.specs.declared.program.team.Team.{Team}
pub use Rattle.pointers.specs.declared.program.worker.Worker.{Worker}
