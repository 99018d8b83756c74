use Rattle.std.proofs.Common.{string_bytes, sym, ◌∙◌}
use Rattle.owner_text.proofs.Prelude.{draft_of}
use Rattle.owner_text.proofs.TextLemmas.{none_put, object_then}
use Rattle.owner_text.proofs.listing.put_lines.Goals as goal

pub returns-then-not-is_object : goal.returns-then-not-is_object
returns-then-not-is_object c =
    none_put _ _ (string_bytes c.args.text.now) (sym c.is_object.ensures ∙ c.if-not-is_object.true)

pub returns : goal.returns
returns c =
    object_then (draft_of c.args.draft.now) c.args.found.now c.args.number c.is_kept.result
    c.stays.result c.status_word-status.result.now
    c.label_of.result.now c.handles_on.result.now (string_bytes c.args.text.now)
    (string_bytes c.put_object.new.text)
    (string_bytes c.put_handles.new.text) (sym c.is_object.ensures ∙ c.if-not-is_object.false)
    c.is_kept.ensures c.stays.ensures
    c.status_word-status.ensures c.label_of.ensures
    (c.handles_on.ensures ∙ c.requires c.args.number) c.in_ok-put_object.ensures
    c.in_ok-put_handles.ensures
