-- A grammar by lines: which text leads where, and which line of which text is faulty. It is given
-- by `after`, what the lines so far come to with a line more, or the first cause why that one is
-- faulty. All of it is own.
use Rattle.std.specs.Prelude.{◌≡◌, ℕ, ◌+◌, ◌<◌, ◌++◌, ◌⊎◌, List, [], ◌∷◌, length, Result, Ok, Err}
use Rattle.std.specs.List.{AllByRecursion}
use Rattle.text_lines.specs.declared.fault.LineFault.{LineFault}
use Rattle.text_lines.specs.declared.fault.LineFault.TheVariants as fault
use Rattle.text_lines.specs.Lines.{HasNoFeed, IsLineCut, ended}

-- each line is good after those before it, and together they lead from one draft to the other
abbrev pub Leads : {D C : Type 0} → (D → List ℕ → Result D C) → D → List (List ℕ) → D → Type 0
Leads after d [] e = d ≡ e
Leads {D} after d (line ∷ lines) e = (mid : D) × (after d line ≡ Ok mid) × Leads after mid lines e

-- the text begins with good lines that lead from the first draft to the other; the rest follows,
-- its first line with this number
pub record BeginsWith {D C : Type 0} (after : D → List ℕ → Result D C) (first : D) (bytes : List ℕ)
    (draft : D) (number : ℕ) (rest : List ℕ) : Type 0 where
  pub lines : List (List ℕ)
  pub text : bytes ≡ ended lines ++ rest
  pub clean : AllByRecursion HasNoFeed lines
  pub leads : Leads after first lines draft
  pub next : number ≡ 1 + length lines

-- the text is good lines that lead to the draft
abbrev pub IsReadAs : {D C : Type 0} → (D → List ℕ → Result D C) → D → List ℕ → D → Type 0
IsReadAs after first bytes draft = (number : ℕ) × BeginsWith after first bytes draft number []

-- a rest that no line feed ends, which is faulty for this cause
pub record IsUnfinished {C : Type 0} (unfinished : C) (rest : List ℕ) (cause : C) : Type 0 where
  pub some : 0 < length rest
  pub clean : HasNoFeed rest
  pub says : cause ≡ unfinished

-- a rest whose first line is faulty after the draft
pub record IsFaultyLine {D C : Type 0} (after : D → List ℕ → Result D C) (draft : D) (rest : List ℕ)
    (cause : C) : Type 0 where
  pub line : List ℕ
  pub more : List ℕ
  pub cut : IsLineCut rest line more
  pub says : after draft line ≡ Err cause

-- the line with this number is the first faulty one of the text
pub record IsFaulty {D C : Type 0} (after : D → List ℕ → Result D C) (first : D) (unfinished : C)
    (bytes : List ℕ) (number : ℕ) (cause : C) : Type 0 where
  pub draft : D
  pub rest : List ℕ
  pub begins : BeginsWith after first bytes draft number rest
  pub fault : IsUnfinished unfinished rest cause ⊎ IsFaultyLine after draft rest cause

-- a refusal of a text that is true of it: want of memory, or its first faulty line
abbrev pub Refuses : {D C : Type 0} → (D → List ℕ → Result D C) → D → C → LineFault C → List ℕ
    → Type 0
Refuses after first unfinished fault.Memory bytes = Unit {0}
Refuses after first unfinished (fault.Syntax line cause) bytes =
    IsFaulty after first unfinished bytes line cause

-- a refusal of the line with this number, by what the line leads to
abbrev pub IsFaultOf : {D C : Type 0} → LineFault C → ℕ → Result D C → Type 0
IsFaultOf fault.Memory number after = Unit {0}
IsFaultOf (fault.Syntax line cause) number after = (line ≡ number) × (after ≡ Err cause)
