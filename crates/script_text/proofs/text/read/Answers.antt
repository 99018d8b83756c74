use Rattle.script_text.proofs.Prelude.{draft_of}
use Rattle.script_text.proofs.Reaching.{reached, refused}
use Rattle.script_text.proofs.text.read.Goals as goal

pub returns-in-Ok : goal.returns-in-Ok
returns-in-Ok c =
    reached (draft_of c.empty_draft-draft.result) (draft_of c.read_lines.new.reader)
    c.args.bytes.now c.empty_draft-draft.ensures c.in-Ok.ensures.ok

pub returns-in-Err : goal.returns-in-Err
returns-in-Err c =
    refused (draft_of c.empty_draft-draft.result) c.in-Err.fault c.from.result c.args.bytes.now
    c.empty_draft-draft.ensures c.from.ensures
    c.in-Err.ensures.err
