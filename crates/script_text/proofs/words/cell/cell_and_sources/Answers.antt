use Rattle.std.proofs.Common.{ℕ, List, [], Bor, rules}
use Rattle.script_text.proofs.ShapeLemmas.{three_of}
use Rattle.script_text.proofs.words.cell.cell_and_sources.Goals as goal

pub returns : goal.returns
returns c =
    let none : Bor (List ℕ) = record { ref_ptr = (0, 0); now = [] } in
    let words = three_of c.args.words.now none c.in-len3.len_at_least c.in-len3.len_below in
    rw words (search rules)
