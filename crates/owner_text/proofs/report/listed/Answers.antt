use Rattle.std.proofs.Common.{string_bytes, arith}
use Rattle.owner_text.proofs.Prelude.{draft_of}
use Rattle.owner_text.proofs.TextLemmas.{all_then}
use Rattle.owner_text.proofs.report.listed.Goals as goal

pub returns : goal.returns
returns c =
    let size = c.args.draft.now.handles.ok.0 in
    let len = c.len.ensures in
    all_then (draft_of c.args.draft.now) c.args.found.now c.args.vertices
    c.objects_in-objects.result c.len.result c.leaked_in-leaked.result
    (string_bytes c.new-text.result) (string_bytes c.put_objects.new.text)
    (string_bytes c.put_knots.new.text) (string_bytes c.put_totals.new.text)
    c.requires.vertices c.objects_in-objects.ensures (omega (arith, size, len))
    c.leaked_in-leaked.ensures c.new-text.ensures.bytes
    c.in_ok-put_objects.ensures c.in_ok-put_knots.ensures c.in_ok-put_totals.ensures
