-- The words of elsewhere that this crate's definitions and clauses cite, passed on from one place. Declares nothing.
pub use Rattle.std.specs.List.{flat_map}
pub use Rattle.control_word.specs.State.{State}
pub use Rattle.control_word.specs.declared.packed.counts.Counts.{Counts}
pub use Rattle.owner_graph.specs.Drawing.{color_text, has_tie, style_text, tie_text}
pub use Rattle.owner_graph.specs.Fed.{marked}
pub use Rattle.owner_graph.specs.Findings.{AreFindings}
pub use Rattle.owner_graph.specs.Labels.{at}
pub use Rattle.owner_graph.specs.Owners.{IsAmong, IsKept}
pub use Rattle.owner_graph.specs.Rows.{held_in, held_on, row_at}
pub use Rattle.owner_graph.specs.Ties.{is_tie}
pub use Rattle.owner_graph.specs.Weakenings.{knot_ties}
pub use Rattle.owner_graph.specs.declared.findings.Findings.{Findings}
pub use Rattle.owner_graph.specs.declared.holding.Holding.{Holding}
pub use Rattle.script_stepper.specs.Lines.{totals_text}
pub use Rattle.script_text.specs.Canonical.{AddsLines}
pub use Rattle.script_text.specs.Cells.{member_text}
pub use Rattle.step_core.specs.Totals.{census_of, ended_in, IsAtEnd, made_in}
pub use Rattle.step_core.specs.Worlds.{abstraction}
pub use Rattle.step_threads.specs.AbstractStates.{AbstractState, state_in}
pub use Rattle.step_threads.specs.Stocks.{from}
