-- What the lines of a text come to, from the draft before the first one on.
use Rattle.std.proofs.Common.{◌≡◌, ℕ, List, [], subst}
use Rattle.script_text.proofs.Prelude.{after_line, Cause, Draft, Fault, new_draft, UnfinishedLine}
use Rattle.text_lines.specs.declared.fault.LineFault.{LineFault}
use Rattle.text_lines.specs.declared.fault.LineFault.TheVariants as line
use Rattle.text_lines.specs.Grammar.{IsReadAs, Refuses}
use Rattle.script_text.specs.Grammar as grammar
use Rattle.script_text.specs.Faults.{fault_of}

pub reached : (first d : Draft) (bytes : List ℕ) → first ≡ new_draft
    → IsReadAs after_line first bytes d
    → (number : ℕ) × grammar.BeginsWithDraft bytes d number []
reached first d bytes new h = subst (λ (e : Draft). IsReadAs after_line e bytes d) new h

refuses : (f : LineFault Cause) (bytes : List ℕ)
    → Refuses after_line new_draft UnfinishedLine f bytes
    → grammar.Refuses (fault_of f) bytes
refuses line.Memory bytes h = tt
refuses (line.Syntax number cause) bytes h = h

pub refused : (first : Draft) (f : LineFault Cause) (fault : Fault) (bytes : List ℕ)
    → first ≡ new_draft → fault ≡ fault_of f
    → Refuses after_line first UnfinishedLine f bytes → grammar.Refuses fault bytes
refused first f fault bytes new is h =
    rw is (refuses f bytes (subst (λ (e : Draft). Refuses after_line e UnfinishedLine f bytes) new
    h))
