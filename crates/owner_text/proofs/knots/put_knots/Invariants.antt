use Rattle.std.proofs.Common.{◌≡◌, ◌++◌, string_bytes}
use Rattle.owner_text.proofs.Prelude.{draft_of, ended, knot_lines, lines_to}
use Rattle.owner_text.proofs.knots.put_knots.Given as goal

abbrev pub invariant-loop-before : goal.invariant-loop-before
invariant-loop-before l = string_bytes l.text ≡ string_bytes l.fn.text
    ++ ended (lines_to (knot_lines (draft_of l.draft) l.found) l.before)
