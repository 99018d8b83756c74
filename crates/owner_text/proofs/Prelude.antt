-- The words of elsewhere that the proofs of this crate cite, passed on from one place. Declares nothing.
pub use Rattle.std.specs.List.{flat_map}
pub use Rattle.std.proofs.lemmas.Bool.Decides.{nat_tests}
pub use Rattle.owner_graph.specs.declared.findings.Findings.{Findings}
pub use Rattle.owner_graph.specs.declared.holding.Holding.{Holding}
pub use Rattle.text_lines.specs.Lines.{ended}
pub use Rattle.owner_text.specs.Drafts.{Draft, draft_of, is_object}
pub use Rattle.owner_text.specs.Drawing.{edge_lines, node_lines, quoted_byte}
pub use Rattle.owner_text.specs.Labels.{find_label, labels_in, with_label}
pub use Rattle.owner_text.specs.Lines.{counted, cut_lines, handle_text, is_leaked, knot_lines}
pub use Rattle.owner_text.specs.Lines.{lines_to, member_text, object_lines, tie_text, vertices_of}
pub use Rattle.owner_text.specs.Lines.{weaken_text}
