use Rattle.std.proofs.Common.{map, Ok, rules}
use Rattle.script_text.proofs.Prelude.{Answers, draft_of, ReadsAs, section_of}
use Rattle.script_text.proofs.Bounds.{script_is}
use Rattle.script_text.proofs.OneReading.{reads_answer, faulty_answer}
use Rattle.script_text.proofs.text.parse.Goals as goal

pub invariant_of-result : goal.invariant_of-result
invariant_of-result c =
    rw c.in-Ok.ensures
    (script_is c.args.bytes.now (draft_of c.in_ok-draft.draft) c.in_ok-draft.ensures.0
    c.in_ok-draft.ensures.1)

pub returns-in_err-draft-clause-reads : goal.returns-in_err-draft-clause-reads
returns-in_err-draft-clause-reads c =
    let holds : Answers c.from_residual.result c.args.bytes.now = search rules in
    λ script h. reads_answer c.from_residual.result c.args.bytes.now script holds h

pub returns-in_err-draft-clause-faulty : goal.returns-in_err-draft-clause-faulty
returns-in_err-draft-clause-faulty c =
    let holds : Answers c.from_residual.result c.args.bytes.now = search rules in
    λ line cause h. faulty_answer c.from_residual.result c.args.bytes.now line cause holds h

pub returns-in-Ok-clause-reads : goal.returns-in-Ok-clause-reads
returns-in-Ok-clause-reads c =
    let holds : ReadsAs c.args.bytes.now
    (record {
      version = c.in_ok-draft.draft.version;
      threads = map section_of c.in-Ok.threads.items;
    }) = search rules in
    λ script h. reads_answer (Ok (record
    { version = c.in_ok-draft.draft.version; threads = map section_of c.in-Ok.threads.items }))
    c.args.bytes.now script holds h

pub returns-in-Ok-clause-faulty : goal.returns-in-Ok-clause-faulty
returns-in-Ok-clause-faulty c =
    let holds : ReadsAs c.args.bytes.now
    (record {
      version = c.in_ok-draft.draft.version;
      threads = map section_of c.in-Ok.threads.items;
    }) = search rules in
    λ line cause h. faulty_answer (Ok
    (record {
      version = c.in_ok-draft.draft.version;
      threads = map section_of c.in-Ok.threads.items;
    }))
    c.args.bytes.now line cause
    holds h
