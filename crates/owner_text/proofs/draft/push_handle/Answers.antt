use Rattle.std.proofs.Common.{arith}
use Rattle.owner_text.proofs.Prelude.{draft_of, with_label}
use Rattle.owner_text.proofs.DraftLemmas.{handle_added}
use Rattle.owner_text.proofs.draft.push_handle.Goals as goal

pub returns : goal.returns
returns c =
    let size = c.args.draft.now.handles.ok.0 in
    let len = c.len-slot.ensures in
    handle_added (draft_of c.args.draft.now) c.args.ends.from c.args.ends.to c.args.ends.is_owner
    c.in_ok-label.label c.len-slot.result c.number.new.self
    (with_label c.args.label.now (draft_of c.args.draft.now).labels) c.push.new.self.items
    c.in_ok-label.ensures (omega (arith, size, len))
    c.in_ok-push.ensures.items
