use Rattle.std.proofs.Common.{String, length}
use Rattle.std.specs.Global.{Global}
use Rattle.std.specs.Prelude.{string_bytes}
use Rattle.script_picture.specs.Pictures.{IsLinesText, first_acts}
use Rattle.script_stepper.proofs.TurnBounds.{items_named}
use Rattle.script_picture.proofs.Pictures.{only_memory, told_of}
use Rattle.script_picture.proofs.lines.lines_text.Goals as goal

pub lines_of-requires : goal.lines_of-requires
lines_of-requires c =
    items_named c.threads.result (length c.in_ok-parsed.parsed.threads) c.args.turns.now
    c.in_ok-list.list.items c.as_slice.result.now
    c.threads.ensures.number c.as_slice.ensures.value c.in_ok-list.ensures

pub returns-clause-told : goal.returns-clause-told
returns-clause-told c =
    told_of c.lines_of.result (λ (d : String Global). IsLinesText first_acts) (λ (d : String Global). string_bytes d)
    c.args.script.now c.args.turns.now c.in_ok-parsed.parsed c.in_ok-list.list.items
    c.as_slice.result.now c.threads.result
    c.in_ok-parsed.ensures.holds c.threads.ensures.number c.as_slice.ensures.value
    c.in_ok-list.ensures c.lines_of.ensures.ok

pub returns-clause-refused : goal.returns-clause-refused
returns-clause-refused c =
    only_memory c.lines_of.result c.args.script.now c.args.turns.now
    c.lines_of.ensures.memory
