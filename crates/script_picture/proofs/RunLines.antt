-- The lines of a run that was recorded.
use Rattle.std.proofs.Common.{◌≡◌, ℕ, List, false, sym, subst, ap}
use Rattle.run_picture.specs.declared.picture.Picture.{Picture}
use Rattle.run_picture.specs.declared.picture.Row.{Row}
use Rattle.run_picture.specs.Pages.{run_lines}
use Rattle.script_text.specs.Drafts.{ScriptView}
use Rattle.script_picture.specs.declared.part.Part.{Part}
use Rattle.script_picture.specs.Acts.{AreRows, acts_in}
use Rattle.script_picture.specs.Parts.{shown_part}
use Rattle.script_picture.specs.Pictures.{IsLinesText, IsRunRecorded, first_acts}

pub lines_told : (script : ScriptView) (turns : List ℕ) (part : Part) (acts : ℕ) (list : List Row) (text : List ℕ)
    → part ≡ record { first = 1; last = 4_294_967_295 }
    → IsRunRecorded false script turns (shown_part part) acts list
    → (picture : Picture) × (picture.rows.items ≡ list) × (text ≡ run_lines picture)
    → IsLinesText first_acts script turns text
lines_told script turns part acts list text is h shows =
    let first : shown_part part ≡ first_acts = ap shown_part is in
    record {
      seen = h.seen;
      says = h.says;
      picture = shows.0;
      are = subst (λ (p : Part). AreRows (acts_in p 1 h.seen) shows.0.rows.items) first
          (subst (AreRows (acts_in (shown_part part) 1 h.seen)) (sym shows.1) h.recorded.rows);
      lines = shows.2;
    }
