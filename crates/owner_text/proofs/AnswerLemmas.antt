-- What is reported is so of the graph that the text spells.
use Rattle.std.proofs.Common.{◌≡◌, ℕ, Bool, List, nat_lt, subst}
use Rattle.owner_text.proofs.Prelude.{Draft, ended, Findings, vertices_of}
use Rattle.owner_graph.specs.Findings.{AreFindings}
use Rattle.owner_text.specs.Answers.{IsOwnersText, report_lines}
use Rattle.owner_text.specs.Grammar.{ReadsAs}
use Rattle.owner_text.specs.Lines.{leaked_in}

pub report_is : (draws : Bool) (bytes text : List ℕ) (leaks : Bool) (d : Draft) (n : ℕ) (f : Findings)
    → ReadsAs bytes d → n ≡ vertices_of d
    → AreFindings n d.handles f → text ≡ ended (report_lines draws d f)
    → leaks ≡ nat_lt 0 (leaked_in d f)
    → IsOwnersText draws bytes leaks text
report_is draws bytes text leaks d n f reads n_is found says leaks_is = record {
  draft = d;
  reads = reads;
  findings = f;
  found = subst (λ (m : ℕ). AreFindings m d.handles f) n_is found;
  says = says;
  leaks_is = leaks_is;
}
