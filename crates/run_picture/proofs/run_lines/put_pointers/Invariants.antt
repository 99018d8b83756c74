use Rattle.std.proofs.Common.{◌≡◌, ◌++◌, take}
use Rattle.std.specs.Prelude.{string_bytes}
use Rattle.std.specs.List.{flat_map}
use Rattle.run_picture.specs.Pages.{pointer_line}
use Rattle.run_picture.proofs.run_lines.put_pointers.Given as goal

abbrev pub invariant-loop-pointer : goal.invariant-loop-pointer
invariant-loop-pointer l =
    string_bytes l.text ≡ string_bytes l.fn.text ++ flat_map pointer_line (take l.pointer-index l.pointers)
