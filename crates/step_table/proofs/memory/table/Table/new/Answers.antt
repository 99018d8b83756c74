use Rattle.std.proofs.Common.{◌≡◌, List, [], replicate, sym, subst, rules}
use Rattle.step_table.proofs.Prelude.{Entry, Nothing, table_size, TableInvariant, View}
use Rattle.step_table.proofs.tables.Start.{kept_start}
use Rattle.step_table.proofs.memory.table.Table.new.Goals as goal

pub invariant_of-result : goal.invariant_of-result
invariant_of-result c =
    let x = c.args.extent.now in
    let e : c.in_ok-words.words ≡ replicate (table_size x.shape) 0 = search rules in
    subst (λ (h : List (Entry Nothing)). TableInvariant (record { extent = x; words = c.in_ok-words.words; views = c.start.result.views; history = h }))
    (sym c.start.ensures.0)
    (subst (λ (u : List (View Nothing)). TableInvariant (record { extent = x; words = c.in_ok-words.words; views = u; history = [] })) (sym c.start.ensures.1)
    (kept_start x c.in_ok-words.words c.requires e))
