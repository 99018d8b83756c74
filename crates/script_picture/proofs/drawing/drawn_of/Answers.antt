use Rattle.std.proofs.Common.{Ok, length}
use Rattle.std.specs.Prelude.{string_bytes}
use Rattle.script_picture.specs.declared.drawing.Drawn.{Drawn}
use Rattle.script_picture.specs.Pictures.{IsPictureText}
use Rattle.script_stepper.proofs.TurnBounds.{items_named}
use Rattle.script_picture.proofs.Pictures.{only_memory, told_of}
use Rattle.script_picture.proofs.drawing.drawn_of.Goals as goal

pub run_drawn-requires : goal.run_drawn-requires
run_drawn-requires c =
    items_named c.threads.result (length c.in_ok-script.script.threads) c.args.order.turns.now
    c.in_ok-turns.turns.items c.as_slice.result.now
    c.threads.ensures.number c.as_slice.ensures.value c.in_ok-turns.ensures

pub returns-clause-told : goal.returns-clause-told
returns-clause-told c =
    told_of c.run_drawn.result (λ (d : Drawn). IsPictureText c.args.order.is_fine c.args.order.is_page c.args.order.part
    (Ok d.is_none)) (λ (d : Drawn). string_bytes d.text)
    c.args.order.script.now c.args.order.turns.now c.in_ok-script.script c.in_ok-turns.turns.items
    c.as_slice.result.now c.threads.result
    c.in_ok-script.ensures.holds c.threads.ensures.number c.as_slice.ensures.value
    c.in_ok-turns.ensures c.run_drawn.ensures.ok

pub returns-clause-refused : goal.returns-clause-refused
returns-clause-refused c =
    only_memory c.run_drawn.result c.args.order.script.now c.args.order.turns.now
    c.run_drawn.ensures.memory
