-- The pieces of a fault's line make the line.
use Rattle.std.proofs.Common.{◌≡◌, ℕ, List, ◌++◌, codes, decimal, Option, Result, sym, ap, ◌∙◌}
use Rattle.std.proofs.Common.{subst, append_assoc}
use Rattle.script_stepper.proofs.Prelude.{BadTurn, Fault, faulty_line, IsWritten}
use Rattle.script_text.specs.Faults.{fault_line}

pub same_line : {A E : Type 0} (r : Result A E) (old new : Option (List ℕ)) (fault is : Fault) (text : List ℕ) → fault ≡ is → text ≡ fault_line is
    → IsWritten text r old new → IsWritten (fault_line fault) r old new
same_line r old new fault is text e t h =
    subst (λ (l : List ℕ). IsWritten l r old new) (t ∙ sym (ap fault_line e)) h

pub same_text : {A E : Type 0} (r : Result A E) (old new : Option (List ℕ)) (text line : List ℕ) → text ≡ line
    → IsWritten text r old new → IsWritten line r old new
same_text r old new text line e h = subst (λ (l : List ℕ). IsWritten l r old new) e h

pub turn_line : (position : ℕ) (digits : List ℕ) → digits ≡ decimal position
    → codes "refused 11: turn " ++ (digits ++ codes "\n") ≡ fault_line (BadTurn position)
turn_line position digits e = ap (λ (l : List ℕ). codes "refused 11: turn " ++ (l ++ codes "\n")) e

pub syntax_line : (line : ℕ) (digits words cause : List ℕ) → digits ≡ decimal line → words ≡ cause
    → (codes "refused 10: line " ++ digits) ++ (codes ": " ++ (words ++ codes "\n")) ≡ faulty_line line cause
syntax_line line digits words cause e w =
    ap (λ (l : List ℕ). (codes "refused 10: line " ++ l) ++ (codes ": " ++ (words ++ codes "\n"))) e
    ∙ ap (λ (l : List ℕ). (codes "refused 10: line " ++ decimal line) ++ (codes ": " ++ (l ++ codes "\n"))) w
    ∙ sym (append_assoc (codes "refused 10: line " ++ decimal line) (codes ": ") (cause ++ codes "\n"))
    ∙ sym (append_assoc ((codes "refused 10: line " ++ decimal line) ++ codes ": ") cause (codes "\n"))
