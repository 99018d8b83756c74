-- A text read line by line.
use Rattle.std.proofs.Common.{◌≡◌, ℕ, ◌+◌, ◌<◌, ◌≤◌, List, [], ◌∷◌, ◌++◌, length, Result, Ok}
use Rattle.std.proofs.Common.{inl, inr, refl, subst, sym, ap, ◌∙◌, arith}
use Rattle.std.proofs.Common.{append_assoc, length-append}
use Rattle.std.specs.List.{AllByRecursion}
use Rattle.text_lines.specs.declared.fault.LineFault.{LineFault}
use Rattle.text_lines.specs.declared.fault.LineFault.TheVariants as fault
use Rattle.text_lines.specs.Grammar.{BeginsWith, IsFaulty, IsFaultOf, Leads, Refuses}
use Rattle.text_lines.specs.Lines.{HasNoFeed, IsLineCut, ended}

ended-last : (lines : List (List ℕ)) (line more : List ℕ)
    → ended lines ++ (line ++ 10 ∷ more) ≡ ended (lines ++ line ∷ []) ++ more
ended-last [] line more = sym (append_assoc line (10 ∷ []) more)
ended-last (l ∷ lines) line more =
    append_assoc l (10 ∷ ended lines) (line ++ 10 ∷ more)
    ∙ ap (λ (t : List ℕ). l ++ 10 ∷ t) (ended-last lines line more)
    ∙ sym (append_assoc l (10 ∷ ended (lines ++ line ∷ [])) more)

pub clean-last : (lines : List (List ℕ)) (line : List ℕ) → AllByRecursion HasNoFeed lines
    → HasNoFeed line
    → AllByRecursion HasNoFeed (lines ++ line ∷ [])
clean-last [] line h k = (k, tt)
clean-last (l ∷ lines) line h k = (h.0, clean-last lines line h.1 k)

length-last : (lines : List (List ℕ)) (line : List ℕ)
    → length (lines ++ line ∷ []) ≡ length lines + 1
length-last lines line = length-append lines (line ∷ [])

fewer_lines : (lines : List (List ℕ)) → length lines ≤ length (ended lines)
fewer_lines [] = omega arith
fewer_lines (l ∷ lines) = omega (arith, fewer_lines lines, length-append l (10 ∷ ended lines))

-- a line that is cut off leaves fewer bytes
pub cut_shorter : (bytes line rest : List ℕ) → IsLineCut bytes line rest
    → length rest < length bytes
cut_shorter bytes line rest cut = omega (arith, ap length cut.text, length-append line (10 ∷ rest))

module _ {D C : Type 0} (after : D → List ℕ → Result D C) where
  pub Leads-last : (lines : List (List ℕ)) (line : List ℕ) (d e g : D) → Leads after d lines e
      → after e line ≡ Ok g
      → Leads after d (lines ++ line ∷ []) g
  Leads-last [] line d e g h k = (g, rw h k, refl)
  Leads-last (l ∷ lines) line d e g h k = (h.0, h.1, Leads-last lines line h.0 e g h.2 k)

  module _ (first : D) (bytes : List ℕ) where
    -- no line so far
    pub begins : BeginsWith after first bytes first 1 bytes
    begins = record { lines = []; text = refl; clean = tt; leads = refl; next = refl }

    -- one good line more
    pub begins_after : (d e : D) (n : ℕ) (rest line more : List ℕ)
        → BeginsWith after first bytes d n rest → IsLineCut rest line more
        → after d line ≡ Ok e → BeginsWith after first bytes e (n + 1) more
    begins_after d e n rest line more b cut good = record {
      lines = b.lines ++ line ∷ [];
      text =
          b.text ∙ ap (λ (t : List ℕ). ended b.lines ++ t) cut.text ∙ ended-last b.lines line more;
      clean = clean-last b.lines line b.clean cut.clean;
      leads = Leads-last b.lines line first d e b.leads good;
      next = omega (arith, b.next, length-last b.lines line);
    }

    -- there are fewer lines than bytes
    pub number_bound : (d : D) (n : ℕ) (rest : List ℕ) → BeginsWith after first bytes d n rest
        → n + length rest ≤ 1 + length bytes
    number_bound d n rest b =
        let all : length bytes ≡ length (ended b.lines) + length rest =
        ap length b.text ∙ length-append (ended b.lines) rest in
        omega (arith, all, b.next, fewer_lines b.lines)

    -- a line that is refused
    pub refused_line : (unfinished : C) (d : D) (n : ℕ) (rest line more : List ℕ) (f : LineFault C)
        → BeginsWith after first bytes d n rest
        → IsLineCut rest line more → IsFaultOf f n (after d line)
        → Refuses after first unfinished f bytes
    refused_line unfinished d n rest line more fault.Memory b cut h = tt
    refused_line unfinished d n rest line more (fault.Syntax number cause) b cut h =
        subst (λ (m : ℕ). IsFaulty after first unfinished bytes m cause) (sym h.0) (record {
          draft = d;
          rest = rest;
          begins = b;
          fault = inr (record { line = line; more = more; cut = cut; says = h.1 });
        })

    -- a rest that no line feed ends
    pub refused_rest : (unfinished : C) (d : D) (n : ℕ) (rest : List ℕ)
        → BeginsWith after first bytes d n rest → 0 < length rest
        → HasNoFeed rest → IsFaulty after first unfinished bytes n unfinished
    refused_rest unfinished d n rest b some clean =
        record {
          draft = d;
          rest = rest;
          begins = b;
          fault = inl (record { some = some; clean = clean; says = refl });
        }
