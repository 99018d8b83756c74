use Rattle.std.proofs.Common.{◌≡◌, ◌++◌, map, take, string_bytes}
use Rattle.script_text.proofs.Prelude.{begun_lines, ended, flat_map, section_of}
use Rattle.script_text.proofs.canonical.put_others.Given as goal

abbrev pub invariant-loop-thread : goal.invariant-loop-thread
invariant-loop-thread l =
    string_bytes l.text ≡ string_bytes l.fn.text
    ++ flat_map (λ section. ended (begun_lines section))
    (map section_of (take l.thread-index l.threads))
