use Rattle.std.proofs.Common.{◌≡◌, ◌++◌, map, take, string_bytes}
use Rattle.owner_text.proofs.Prelude.{ended, handle_text}
use Rattle.owner_text.proofs.lines.put_handles.Given as goal

abbrev pub invariant-loop-handle : goal.invariant-loop-handle
invariant-loop-handle l = string_bytes l.text ≡ string_bytes l.fn.text
    ++ ended (map (handle_text l.labels) (take l.handle-index l.handles))
