use Rattle.std.proofs.Common.{List, sym, ◌∙◌, subst}
use Rattle.script_runner.proofs.TablePrelude.{Ending, on_pile, TableNow}
use Rattle.shared_handle.specs.Piles.{AreRounds}
use Rattle.script_runner.specs.Parting.{WindsUp}
use Rattle.script_runner.proofs.table.WorkerTable.into_desk.Goals as goal

pub returns-clause-wound : goal.returns-clause-wound
returns-clause-wound g c =
    let s = c.settle.ensures in
    subst (λ (t : TableNow g.row.V.Denot). WindsUp t c.settle.new.desk) c.self.view_is
    record {
      between = c.let_all_go.new.desk;
      pile = on_pile c.let_all_go.new.pile;
      handles = c.let_all_go.ensures.left;
      rounds = s.rounds.0;
      ends = subst (λ (xs : List (Ending g.row.V.Denot)). AreRounds c.let_all_go.new.desk (on_pile c.let_all_go.new.pile) s.rounds.0 c.settle.new.desk xs)
          s.none s.rounds.1;
      shape = s.desk.shape ∙ (c.let_all_go.ensures.bears.carries.belongs.shape ∙ sym c.self.invariant.bears.carries.belongs.shape);
      allowance = s.desk.allowance ∙ c.let_all_go.ensures.allowance;
    }
