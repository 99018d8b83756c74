use Rattle.std.proofs.Common.{◌∙◌, List, ap, map}
use Rattle.step_threads.specs.Programs.{Part, part_of}
use Rattle.step_threads.specs.declared.programs.call.Actor.{Actor}
use Rattle.script_text.specs.Scripts.{program_in}
use Rattle.script_orders.specs.Tellings.{some_thread, tells_left}
use Rattle.script_orders.proofs.Telling.{left_tells, thread_may}
use Rattle.script_orders.proofs.tellings.can_tell.Goals as goal

pub returns-then-tells_left-clause-is : goal.returns-then-tells_left-clause-is
returns-then-tells_left-clause-is c =
    left_tells (tells_left c.args.line.now) (some_thread 1 (program_in c.args.script.now.threads) c.args.line.now)
    c.tells_left.result c.tells_left.ensures c.if-tells_left.true

pub returns-in-Ok-some_thread-clause-is : goal.returns-in-Ok-some_thread-clause-is
returns-in-Ok-some_thread-clause-is c =
    thread_may (tells_left c.args.line.now) (some_thread 1 (program_in c.args.script.now.threads) c.args.line.now)
    c.tells_left.result c.in-Ok-some_thread.can c.tells_left.ensures c.if-tells_left.false
    (c.in-Ok-some_thread.ensures
    ∙ ap (λ (actors : List Actor). some_thread 1 (map part_of actors) c.args.line.now) c.as_slice.ensures.value
    ∙ ap (λ (parts : List Part). some_thread 1 parts c.args.line.now) c.in-Ok.ensures.calls)
