-- The text of a report that is written, or the refusal in its place.
use Rattle.std.proofs.Common.{◌≡◌, ℕ, List, IfErr, Ok, Err, Option, Result, sym, refl, ap, subst}
use Rattle.std.proofs.Common.{inl, inr}
use Rattle.script_runner.proofs.Prelude.{CensusNow, DeskNow, DomainNow, ended, IsReport, Report}
use Rattle.script_runner.proofs.Prelude.{report_lines, ScriptView, Shape, TellsReport}
use Rattle.script_runner.specs.Programs.{IsClosed}
use Rattle.std.specs.Io.KnownBytes.{Appends}
use Rattle.script_text.specs.declared.fault.Cause.{Cause}
use Rattle.script_text.specs.declared.fault.Fault.{Fault}
use Rattle.script_text.specs.declared.fault.Fault.TheVariants.{Memory, Syntax, BadTurn, Output}
use Rattle.script_text.specs.declared.fault.Fault.TheVariants.{Input}
use Rattle.script_text.specs.Grammar.{Faulty, IsUnlessMemory}
use Rattle.script_stepper.specs.Runs.{Delivers, Writes}
use Rattle.script_stepper.specs.Sinks.{AppendsBeginning}
use Rattle.script_stepper.proofs.Answering.{not_both, same_fault}
use Rattle.script_runner.specs.Telling.{IsReportText}

-- a report's text, once the desk has closed the domain
pub report_text : (script : ScriptView) (report : Report) (domain : DomainNow) (desk : DeskNow ℕ) (census : CensusNow) (text : List ℕ)
    → IsReport script report domain desk → IsClosed desk domain.shape census → text ≡ ended (report_lines report census)
    → IsReportText script text
report_text script report domain desk census text is closed says =
    record {
      report = report;
      domain = domain;
      desk = desk;
      run = is;
      census = census;
      closed = subst (λ (s : Shape). IsClosed desk s census) is.run.of closed;
      says = says;
    }

-- a text that may be told is written
pub delivered : {A : Type 0} (told : Result (List ℕ) Fault → Type 0) (text taken : List ℕ) (r : Result A Fault) (old new : Option (List ℕ))
    → told (Ok text) → taken ≡ text → Writes taken r old new → IfErr r (λ fault. fault ≡ Output) → Delivers told r old new
delivered told text taken (Ok x) old new t is w e = (text, t, subst (λ (bytes : List ℕ). Appends old new bytes) is w)
delivered {A} told text taken (Err f) old new t is w e =
    let begun : AppendsBeginning old new taken = subst (λ (fault : Fault). Writes {A = A} taken (Err fault) old new) e w in
    subst (λ (fault : Fault). Delivers {A = A} told (Err fault) old new) (sym e)
    (text, t, subst (λ (bytes : List ℕ). AppendsBeginning old new bytes) is begun)

-- a faulty script is told of, want of memory aside
pub faulty_told : {A : Type 0} (bytes : List ℕ) (r : Result A Fault) (old new : Option (List ℕ)) (line : ℕ) (cause : Cause)
    → Delivers (TellsReport bytes) r old new → Faulty bytes line cause → IsUnlessMemory r (Err (Syntax line cause))
faulty_told bytes (Ok x) old new line cause h f = absurd (not_both bytes h.1.0 line cause h.1.1 f)
faulty_told bytes (Err Memory) old new line cause h f = inr refl
faulty_told {A} bytes (Err (Syntax l c)) old new line cause h f =
    let wrap : Fault → Result A Fault = λ e. Err e in inl (ap wrap (same_fault bytes l line c cause h.0 f))
faulty_told bytes (Err (BadTurn p)) old new line cause h f = absurd h.0
faulty_told bytes (Err Output) old new line cause h f = absurd (not_both bytes h.1.0 line cause h.1.1 f)
faulty_told bytes (Err Input) old new line cause h f = absurd h.0
