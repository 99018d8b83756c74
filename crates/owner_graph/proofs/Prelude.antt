-- The words of elsewhere that the proofs of this crate cite, passed on from one place. Declares nothing.
pub use Rattle.std.proofs.lemmas.Bool.{and_parts, cases_eq, cases_lt, cond-false, cond-true}
pub use Rattle.std.proofs.lemmas.Bool.{eqb-true, false≢true, ltb-true}
pub use Rattle.std.proofs.lemmas.List.{append-nil, take_more}
pub use Rattle.std.proofs.lemmas.List.Elements.{All-cons, All-head, All-nil, All-push, All-tail}
pub use Rattle.std.specs.Global.{Vec}
pub use Rattle.std.specs.List.{filter, flat_map}
pub use Rattle.std.specs.Prelude.{All, slice_index_or, ◌≤◌}
pub use Rattle.owner_graph.specs.Edges.{MarksLed, back_edges, edge_of, owner_edges}
pub use Rattle.owner_graph.specs.Ends.{EndsWhenCut, EndsWithOwners, EndsWithout, is_weakened}
pub use Rattle.owner_graph.specs.Ends.{same_place, without}
pub use Rattle.owner_graph.specs.Ends.EndsWithOwners.{Ended}
pub use Rattle.owner_graph.specs.Fed.{HaveEnded, IsFed, marked, trues}
pub use Rattle.owner_graph.specs.Findings.{pairs_at}
pub use Rattle.owner_graph.specs.Knots.{IsLeast, KeepEachOther, KnotsAre}
pub use Rattle.owner_graph.specs.Labels.{AreInner, AreLow, AreRanked, InnerStep, at}
pub use Rattle.owner_graph.specs.Labels.InnerStep.{Down, Up, Within}
pub use Rattle.owner_graph.specs.Layers.{AllFed}
pub use Rattle.owner_graph.specs.Members.{homes}
pub use Rattle.owner_graph.specs.OneKnot.{Rises}
pub use Rattle.owner_graph.specs.Owners.{IsAmong, IsOwnerPath, OwnersLead, Owns}
pub use Rattle.owner_graph.specs.Paths.{AreWithin, HasRows, HasVertex, IsEdgeWithin, IsGraph}
pub use Rattle.owner_graph.specs.Paths.{IsPath, MarksReached, Rows, leading, targets}
pub use Rattle.owner_graph.specs.Rows.{handle_listed, held_in, held_on, row_at}
pub use Rattle.owner_graph.specs.Searches.{Marks, is_marked, mark, mark_all, marks_of}
pub use Rattle.owner_graph.specs.Ties.{AreCuts, IsTied, is_tie, ties_by}
pub use Rattle.owner_graph.specs.Ties.AreCuts.{NoTies}
pub use Rattle.owner_graph.specs.Weakenings.{AreThose, AreWeakenings, Suffices, knot_ties}
pub use Rattle.owner_graph.specs.Weakenings.{label_pair, labels_of, new_labels, pairs, twice}
pub use Rattle.owner_graph.specs.Weakenings.AreThose.{NoMore}
pub use Rattle.owner_graph.specs.declared.directed_graph.graph.Edge.{Edge}
pub use Rattle.owner_graph.specs.declared.holding.Holding.{Holding}
pub use Rattle.owner_graph.specs.declared.label_pairs.LabelPair.{LabelPair}
