use Rattle.std.proofs.Common.{◌≡◌, ◌++◌, take, string_bytes}
use Rattle.script_stepper.proofs.Prelude.{ended, flat_map, said_lines}
use Rattle.script_stepper.proofs.lines.put_lines.Given as goal

abbrev pub invariant-loop-act : goal.invariant-loop-act
invariant-loop-act l =
    string_bytes l.text ≡ string_bytes l.fn.text ++ ended (flat_map (said_lines l.thread) (take l.act-index l.said))
