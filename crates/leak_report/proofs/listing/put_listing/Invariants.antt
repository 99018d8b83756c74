use Rattle.std.proofs.Common.{◌≡◌, ◌++◌, string_bytes}
use Rattle.leak_report.proofs.Prelude.{abstraction, ended, listing, state_in}
use Rattle.leak_report.proofs.listing.put_listing.Given as goal

abbrev pub invariant-loop-before : goal.invariant-loop-before
invariant-loop-before l =
    string_bytes l.text ≡ string_bytes l.fn.text
    ++ ended (listing l.shared l.found.held.items l.found.findings.kept.items l.before (state_in (abstraction l.world)))
