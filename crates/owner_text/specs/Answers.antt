-- What is answered to the text of a graph. All of it is own.
use Rattle.std.specs.Prelude.{◌≡◌, ℕ, Bool, true, false, List, nat_lt}
use Rattle.owner_text.specs.Prelude.{AreFindings, ended, Findings}
use Rattle.owner_text.specs.Drafts.{Draft}
use Rattle.owner_text.specs.Drawing.{graph_lines}
use Rattle.owner_text.specs.Grammar.{ReadsAs}
use Rattle.owner_text.specs.Lines.{all_lines, leaked_in, vertices_of}

-- the lines of a report, or those of a drawing
abbrev pub report_lines : Bool → Draft → Findings → List (List ℕ)
report_lines false d f = all_lines d f
report_lines true d f = graph_lines d f

-- a text reads as a graph, this was found of it, and the other text tells it, or draws it; and
-- whether something leaks
pub record IsOwnersText (draws : Bool) (bytes : List ℕ) (leaks : Bool)
    (text : List ℕ) : Type 0 where
  pub draft : Draft
  pub reads : ReadsAs bytes draft
  pub findings : Findings
  pub found : AreFindings (vertices_of draft) draft.handles findings
  pub says : text ≡ ended (report_lines draws draft findings)
  pub leaks_is : leaks ≡ nat_lt 0 (leaked_in draft findings)
