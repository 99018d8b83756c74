-- The words of elsewhere that this crate's definitions and clauses cite, passed on from one place. Declares nothing.
pub use Rattle.std.specs.List.{flat_map, list_all}
pub use Rattle.std.specs.Str.{bytes_eq}
pub use Rattle.owner_graph.specs.Drawing.{color_text, has_tie, style_text, tie_text}
pub use Rattle.owner_graph.specs.Fed.{marked}
pub use Rattle.owner_graph.specs.Findings.{AreFindings, pairs_at}
pub use Rattle.owner_graph.specs.Labels.{at}
pub use Rattle.owner_graph.specs.Members.{homes}
pub use Rattle.owner_graph.specs.Rows.{held_in, held_on, row_at}
pub use Rattle.owner_graph.specs.Ties.{is_tie}
pub use Rattle.owner_graph.specs.declared.findings.Findings.{Findings}
pub use Rattle.owner_graph.specs.declared.holding.Holding.{Holding}
pub use Rattle.text_lines.specs.Lines.{AddsLines, ended}
pub use Rattle.text_lines.specs.Reading.{Gives}
