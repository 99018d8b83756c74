-- The words that many of this crate's proofs cite, passed on from one place. Declares nothing.
pub use Rattle.std.proofs.lemmas.Bool.{and_from, and_parts, cases_eq, cases_lt, cond-false}
pub use Rattle.std.proofs.lemmas.Bool.{cond-true, cond_both, eqb-false}
pub use Rattle.std.specs.Int.{bit_at}
pub use Rattle.std.specs.List.{filter}
pub use lib.ListN.{get_elem?}
pub use mathlib.Core.Option.{some, some-injective, some-ne-none}
pub use mathlib.Core.Path.{fun_ext}
pub use Rattle.atomic_table.proofs.Lists.{at_set, set_else, set_here}
pub use Rattle.control_word.specs.Events.{after, Asks, cell_of, changes, clears, fills, finishes}
pub use Rattle.control_word.specs.Events.{gets, handed, Holds, InHand, is_gone, IsOpen, joins_up}
pub use Rattle.control_word.specs.Events.{kind_of, leaves, loses, moved_to, new_object, origin}
pub use Rattle.control_word.specs.Events.{renamed, splits_off, swaps, weak_leaves}
pub use Rattle.control_word.specs.Handles.{empty, equivalent, handle, has_object, is_on, IsFormed}
pub use Rattle.control_word.specs.Handles.{IsPointer, object_of, owner, same_kind, same_number}
pub use Rattle.control_word.specs.Handles.{same_place, weak_of}
pub use Rattle.control_word.specs.Histories.{entry, IsLegal, leads, MayCome, value, valued, Values}
pub use Rattle.control_word.specs.Laws.{how_often, times_kept}
pub use Rattle.control_word.specs.Layout.{shelf_place, spot}
pub use Rattle.control_word.specs.Packing.{cell_bits, funds_of, IsBlock, IsCellWord, IsPlace}
pub use Rattle.control_word.specs.Packing.{number_of}
pub use Rattle.control_word.specs.State.{all_stored, bag, bag_size, common, ending, gone, handles}
pub use Rattle.control_word.specs.State.{Has, HasAll, HasRoom, Held, held, in_cells, InShape}
pub use Rattle.control_word.specs.State.{IsActing, IsOpening, IsVacant, kind_of_free}
pub use Rattle.control_word.specs.State.{kind_of_member, live, members, nobody, Object, on_shelf}
pub use Rattle.control_word.specs.State.{Opening, passed, Phase, put, same_held, same_stored}
pub use Rattle.control_word.specs.State.{start, State, stock, Stored, stored, sum_below, tally}
pub use Rattle.control_word.specs.State.{unmade, upto, weak_number, without}
pub use Rattle.control_word.specs.Steps.{Adds, cell_word, counts, me, Point, purse, Ready, state}
pub use Rattle.control_word.specs.Steps.{word}
pub use Rattle.control_word.specs.Views.{added, adds, Bare, Fits, IsSecond, Knows, more, Names}
pub use Rattle.control_word.specs.Views.{NoneBy, owed, owes, paid, pays, Seated, sees, sees_as}
pub use Rattle.control_word.specs.Views.{Stands, StandsFor, total}
pub use Rattle.control_word.specs.Words.{block_of, block_words, blocks_of, cell_at, cell_spot}
pub use Rattle.control_word.specs.Words.{counts_at, flags_of, member_funds, owned_bits, place_bits}
pub use Rattle.control_word.specs.Words.{Says, shelf_spot, shown, Shows, ShowsShelf, slot, worth}
pub use Rattle.control_word.specs.Worked.{four_blocks}
pub use Rattle.control_word.specs.declared.model.event.Cell.{Cell}
pub use Rattle.control_word.specs.declared.model.event.Cell.TheVariants.{Free, Member}
pub use Rattle.control_word.specs.declared.model.event.Entry.{Entry}
pub use Rattle.control_word.specs.declared.model.event.Event.{Event}
pub use Rattle.control_word.specs.declared.model.event.Event.TheVariants.{ClearMember, Compare}
pub use Rattle.control_word.specs.declared.model.event.Event.TheVariants.{Count, Expired, Finish}
pub use Rattle.control_word.specs.declared.model.event.Event.TheVariants.{Join, Leave, Load, Lock}
pub use Rattle.control_word.specs.declared.model.event.Event.TheVariants.{Make, Read, Same, Share}
pub use Rattle.control_word.specs.declared.model.event.Event.TheVariants.{Shelve, Split, Swap}
pub use Rattle.control_word.specs.declared.model.event.Event.TheVariants.{Unshelve, Visit}
pub use Rattle.control_word.specs.declared.model.event.Event.TheVariants.{WeakLeave, WeakShare}
pub use Rattle.control_word.specs.declared.model.handle.Kind.{Kind}
pub use Rattle.control_word.specs.declared.model.handle.Kind.TheVariants.{Owner, Weak}
pub use Rattle.control_word.specs.declared.model.handle.NumberedHandle.{NumberedHandle}
pub use Rattle.control_word.specs.declared.model.view.Pending.{Pending}
pub use Rattle.control_word.specs.declared.model.view.Pending.TheVariants.{Idle, Making, Merging}
pub use Rattle.control_word.specs.declared.model.view.Pending.TheVariants.{Parting, Paying}
pub use Rattle.control_word.specs.declared.model.view.Pending.TheVariants.{Visiting}
pub use Rattle.control_word.specs.declared.model.view.View.{View}
pub use Rattle.control_word.specs.declared.place.Block.{Block}
pub use Rattle.control_word.specs.declared.place.Place.{Place}
