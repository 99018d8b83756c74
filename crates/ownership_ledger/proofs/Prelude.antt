-- The words of elsewhere that the proofs of this crate cite, passed on from one place. Declares nothing.
pub use Rattle.std.proofs.lemmas.List.Elements.{All-set, All-weaker}
pub use Rattle.atomic_table.specs.Table.{Allows, keeps, Me, step}
pub use lib.ListN.{get_elem?}
pub use mathlib.Core.Option.{none, some, some-injective}
pub use Rattle.ownership_ledger.specs.Now.{ShareNow, StandsForShares}
pub use Rattle.ownership_ledger.specs.Rule.{BookState, fresh_seat, IsNumber, joined_seat, KeptBook}
pub use Rattle.ownership_ledger.specs.Rule.{own_ended, own_made, seat_parts, seen_ended, seen_made}
pub use Rattle.ownership_ledger.specs.Rule.{totals_words}
pub use Rattle.ownership_ledger.specs.declared.share.Totals.{Totals}
pub use Rattle.ownership_ledger.specs.declared.share.View.{View}
