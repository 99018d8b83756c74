use Rattle.std.proofs.Common.{refl, ◌∙◌, arith}
use Rattle.control_block.proofs.Shelving.{belongs_on, unshelved_none, unshelved_on, words_on}
use Rattle.control_block.proofs.desk.Desk.unshelve_among.Goals as goal

pub loop-word-init : goal.loop-word-init
loop-word-init g c =
    record {
      belongs = c.requires.domain;
      few = omega arith;
      passed = unshelved_none _;
      same = λ z. refl;
      cleared = λ sole lt b from below. absurd (omega (arith, from, below));
    }

pub loop-word-preserved : goal.loop-word-preserved
loop-word-preserved g c =
    let i = c.loop-word.invariant in let e = c.unshelve_from-taken.ensures in
    record {
      belongs = belongs_on _ _ _ e.unshelved.passes.same i.belongs;
      few = let m = e.most in let f = i.few in omega arith;
      passed = unshelved_on _ _ _ _ _ i.passed e.unshelved;
      same = λ z. e.same (omega (arith, z)) ∙ i.same (omega (arith, z));
      cleared = λ sole lt. words_on c.args.self.now c.loop-word.self c.unshelve_from-taken.new.self c.loop-word.taken c.unshelve_from-taken.result
          c.args.from c.loop-word.word i.passed e.unshelved sole (i.cleared sole (omega (arith, lt)))
          (e.cleared ((i.passed.clears sole).sole) (omega (arith, lt)));
    }
