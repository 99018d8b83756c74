-- The words of elsewhere that the proofs of this crate cite, passed on from one place. Declares nothing.
pub use Rattle.std.specs.List.{filter, flat_map}
pub use Rattle.std.proofs.lemmas.Bool.{cases_eq, cond-false, cond-true}
pub use Rattle.std.proofs.lemmas.Grind.{flat_map-append}
pub use Rattle.std.proofs.lemmas.List.{map-append, take_more}
pub use Rattle.control_word.specs.Handles.{same_kind}
pub use Rattle.control_word.specs.State.{State, sum_below, tally, upto}
pub use Rattle.control_word.specs.declared.model.handle.Kind.{Kind}
pub use Rattle.control_word.specs.declared.model.handle.Kind.TheVariants.{Owner, Weak}
pub use Rattle.control_word.specs.declared.model.handle.NumberedHandle.{NumberedHandle}
pub use Rattle.control_word.specs.declared.packed.counts.Counts.{Counts}
pub use Rattle.control_word.proofs.lists.Tallies.{tally_append}
pub use Rattle.owner_graph.specs.Fed.{marked}
pub use Rattle.owner_graph.specs.Findings.{AreFindings}
pub use Rattle.owner_graph.specs.Labels.{at}
pub use Rattle.owner_graph.specs.Owners.{IsAmong}
pub use Rattle.owner_graph.specs.Rows.{held_in, held_on, row_at}
pub use Rattle.owner_graph.specs.Ties.{is_tie}
pub use Rattle.owner_graph.specs.declared.findings.Findings.{Findings}
pub use Rattle.owner_graph.specs.Drawing.{color_text, style_text, tie_text}
pub use Rattle.owner_graph.specs.declared.holding.Holding.{Holding}
pub use Rattle.owner_graph.proofs.Appends.{join, nil_right}
pub use Rattle.script_stepper.specs.Lines.{totals_text}
pub use Rattle.script_stepper.proofs.LineLemmas.{lines_on, lines_then}
pub use Rattle.script_text.specs.Grammar.{ended}
pub use Rattle.step_core.specs.Totals.{census_of, ended_in, made_in}
pub use Rattle.step_core.specs.Worlds.{abstraction}
pub use Rattle.step_table.specs.GhostStates.{model_state}
pub use Rattle.step_table.specs.Openings.{opening}
pub use Rattle.step_threads.specs.AbstractStates.{AbstractState, state_in}
pub use Rattle.step_threads.specs.Stocks.{from}
pub use Rattle.leak_report.specs.Colors.{colored, in_color}
pub use Rattle.leak_report.specs.Findings.{held_at, numbered, placed}
pub use Rattle.leak_report.specs.Graph.{all_nodes, color_at, edge_lines, head_lines}
pub use Rattle.leak_report.specs.Graph.{node_lines}
pub use Rattle.leak_report.specs.Holders.{AddsAmong, all_held, AllCounted, held_by_block}
pub use Rattle.leak_report.specs.Holders.{held_by_free}
pub use Rattle.leak_report.specs.Knots.{all_knots, cut_lines, knot_lines, owner_cell_text}
pub use Rattle.leak_report.specs.Knots.{tied_lines}
pub use Rattle.leak_report.specs.Lines.{holder_lines, left_lines, listing}
