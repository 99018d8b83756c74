use Rattle.std.proofs.Common.{◌≡◌, ◌++◌, take, string_bytes}
use Rattle.owner_text.proofs.Prelude.{draft_of, edge_lines, ended, flat_map}
use Rattle.owner_text.proofs.drawing.put_handles.Given as goal

abbrev pub invariant-loop-handle : goal.invariant-loop-handle
invariant-loop-handle l =
    string_bytes l.text ≡ string_bytes l.fn.text
    ++ ended (flat_map (edge_lines (draft_of l.draft) l.found) (take l.handle-index l.handles))
