use Rattle.std.proofs.Common.{subst}
use Rattle.owner_text.proofs.Prelude.{Draft, draft_of}
use Rattle.text_lines.specs.Grammar.{IsReadAs, Refuses}
use Rattle.owner_text.specs.Drafts.{after_line}
use Rattle.owner_text.specs.declared.fault.Cause.TheVariants.{UnfinishedLine}
use Rattle.owner_text.proofs.text.read.Goals as goal

pub returns-in-Ok-read_lines : goal.returns-in-Ok-read_lines
returns-in-Ok-read_lines c =
    subst (λ (first : Draft). IsReadAs after_line first c.args.bytes.now
    (draft_of c.read_lines.new.reader)) c.in-Ok.ensures
    c.in-Ok-read_lines.ensures.ok

pub returns-in-Err : goal.returns-in-Err
returns-in-Err c =
    subst (λ (first : Draft). Refuses after_line first UnfinishedLine c.in-Err.fault
    c.args.bytes.now) c.in-Ok.ensures
    c.in-Err.ensures.err
