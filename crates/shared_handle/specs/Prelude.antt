-- The words of this project that callers' clauses cite, passed on from one place: a caller imports them by one line.
-- Declares nothing.
pub use Rattle.control_word.specs.declared.model.handle.Kind.TheVariants.{Owner, Weak}
pub use Rattle.control_word.specs.declared.place.Block.{Block}
pub use Rattle.control_block.specs.Desks.{Belongs, IsSameDesk, allowance_of, bag_of, stock_of}
pub use Rattle.control_block.specs.CellCalls.{HoldsHandle, with_handle, without_handle}
pub use Rattle.shared_handle.specs.Endings.{EndsInHand}
