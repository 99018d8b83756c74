use Rattle.std.proofs.Common.{string_bytes}
use Rattle.owner_text.proofs.Prelude.{draft_of}
use Rattle.owner_text.proofs.TextLemmas.{graph_then}
use Rattle.owner_text.proofs.drawing.drawn.Goals as goal

pub returns : goal.returns
returns c =
    graph_then (draft_of c.args.draft.now) c.args.found.now c.args.vertices c.as_slice.result.now
    (string_bytes c.new-text.result)
    (string_bytes c.put_head.new.text) (string_bytes c.put_objects.new.text)
    (string_bytes c.put_handles.new.text) (string_bytes c.push_str.new.self)
    c.requires.vertices c.as_slice.ensures.value c.new-text.ensures.bytes c.in_ok-put_head.ensures
    c.in_ok-put_objects.ensures
    c.in_ok-put_handles.ensures c.in_ok-push_str.ensures.bytes
