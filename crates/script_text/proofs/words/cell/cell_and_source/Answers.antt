use Rattle.std.proofs.Common.{ℕ, List, [], Bor, rules}
use Rattle.script_text.proofs.ShapeLemmas.{pair_of}
use Rattle.script_text.proofs.words.cell.cell_and_source.Goals as goal

pub returns : goal.returns
returns c =
    let none : Bor (List ℕ) = record { ref_ptr = (0, 0); now = [] } in
    let words = pair_of c.args.words.now none c.in-len2.len_at_least c.in-len2.len_below in
    rw words (search rules)
