use Rattle.std.proofs.Common.{◌+◌, length, sym, ◌∙◌, subst}
use Rattle.script_runner.proofs.Prelude.{first_stance, IsArranged}
use Rattle.script_runner.proofs.Naming.{allowance_same}
use Rattle.script_runner.proofs.Playing as playing
use Rattle.script_runner.proofs.workers.worker.WorkerWorkU64.work.Goals as goal

pub play-requires : goal.play-requires
play-requires g c =
    let s = c.args.self.now in
    let ks = s.kinds.items in
    let begun = c.begin.ensures in
    record {
      going = record {
        stance = first_stance ks;
        arranged = subst (λ b. IsArranged ks (first_stance ks) (length ks + 1) b c.begin.new.table) (sym c.requires.needs.1) begun.arranged;
        suits = s.suits;
        settled = begun.settled;
      };
    }

pub returns : goal.returns
returns g c =
    let s = c.args.self.now in
    let begun = c.begin.ensures in
    let played = c.play.ensures in (
      played.book,
      played.limits.1 ∙ allowance_same c.args.table.now.desk c.begin.new.table.desk begun.unmoved.0,
      playing.worked s.kinds.items s.tasks.items s.log c.play.new.log c.args.table.now c.begin.new.table c.play.new.table c.requires.needs.1
          begun played.goes played.going (c.assert_invariant-2.ensures.here.shape ∙ sym c.assert_invariant.ensures.here.shape),
    )
