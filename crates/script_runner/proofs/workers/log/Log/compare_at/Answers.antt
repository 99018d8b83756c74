use Rattle.std.proofs.Common.{◌+◌, drop, sym, subst}
use Rattle.script_runner.proofs.Prelude.{AllSuit, IsArranged, MayGoOn, PlaysOn}
use Rattle.script_runner.proofs.Comparisons as comparisons
use Rattle.script_runner.proofs.Suffixes.{suits_at}
use Rattle.script_runner.proofs.workers.log.Log.compare_at.Goals as goal

pub compare-requires-clause-suits : goal.compare-requires-clause-suits
compare-requires-clause-suits g c =
    let may = c.requires.going in
    let ks = c.args.kinds.now.items in
    record {
      stance = may.stance;
      arranged = subst (λ b. IsArranged ks may.stance c.args.hand b c.args.table.now) c.requires.taken may.arranged;
      suits = (suits_at ks c.args.tasks.now.items may.stance c.args.at _ c.requires.is may.suits).0;
    }

pub returns-clause-goes : goal.returns-clause-goes
returns-clause-goes g c =
    let may = c.requires.going in
    let ks = c.args.kinds.now.items in
    let xs = c.args.tasks.now.items in
    let tasks = comparisons.three_left ks may.stance xs c.args.at c.args.statement c.args.name c.args.cell c.args.weak c.requires.is may.suits in
    subst (λ l. PlaysOn c.args.hand c.args.table.now (drop c.args.at xs) c.args.self.now c.compare.new.table l c.compare.new.self)
    (comparisons.drop_more c.args.at c.compare.result xs)
    (subst (λ l. PlaysOn c.args.hand c.args.table.now l c.args.self.now c.compare.new.table (drop c.compare.result l) c.compare.new.self) (sym tasks)
    (c.compare.ensures.goes (drop (c.args.at + 3) xs)))

pub returns-clause-going : goal.returns-clause-going
returns-clause-going g c =
    let may = c.requires.going in
    let ks = c.args.kinds.now.items in
    let xs = c.args.tasks.now.items in
    let tasks = comparisons.three_left ks may.stance xs c.args.at c.args.statement c.args.name c.args.cell c.args.weak c.requires.is may.suits in
    subst (λ l. MayGoOn ks c.args.hand c.compare.new.self.taken c.compare.new.table l) (comparisons.drop_more c.args.at c.compare.result xs)
    (subst (λ l. MayGoOn ks c.args.hand c.compare.new.self.taken c.compare.new.table (drop c.compare.result l)) (sym tasks)
    (c.compare.ensures.going may.stance (subst (λ b. IsArranged ks may.stance c.args.hand b c.args.table.now) c.requires.taken may.arranged) (drop
    (c.args.at + 3) xs)
    (subst (λ l. AllSuit ks may.stance l) tasks may.suits)))
