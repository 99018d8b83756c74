use Rattle.std.proofs.Common.{◌+◌, sym, subst, arith}
use Rattle.control_block.proofs.Prelude.{Belongs, DeskNow, Shelved}
use Rattle.control_block.proofs.Shelving.{belongs_on, shelved_none, shelved_on}
use Rattle.control_block.proofs.desk.Desk.shelve.Goals as goal

pub loop-shelved-init : goal.loop-shelved-init
loop-shelved-init g c = record { belongs = c.requires.domain; few = omega arith; passed = shelved_none _ }

pub shelve_last-requires-clause-stock : goal.shelve_last-requires-clause-stock
shelve_last-requires-clause-stock g c =
    let s = c.loop-shelved.invariant.passed.stock in let t = c.loop-shelved-test.true in let m = c.min-most.ensures in
    let n = c.stock.ensures in omega arith

pub note_word-requires : goal.note_word-requires
note_word-requires g c =
    record { domain = belongs_on _ _ _ c.shelve_last.ensures.shelved.passes.same c.loop-shelved.invariant.belongs }

pub loop-shelved-preserved : goal.loop-shelved-preserved
loop-shelved-preserved g c =
    let i = c.loop-shelved.invariant in let e = c.shelve_last.ensures.shelved in let same = sym c.note_word.ensures.same in
    record {
      belongs = subst (λ (z : DeskNow g.row.V.Denot). Belongs z c.args.domain.now) same
          (belongs_on _ _ _ e.passes.same i.belongs);
      few = omega arith;
      passed = subst (λ (z : DeskNow g.row.V.Denot). Shelved (c.loop-shelved.shelved + 1) c.args.self.now z) same
          (shelved_on _ _ _ _ _ i.passed e);
    }

pub returns-clause-count : goal.returns-clause-count
returns-clause-count g c =
    let i = c.loop-shelved.invariant in let few = i.few in let t = c.loop-shelved-test.false in let m = c.min-most.ensures in
    let n = c.stock.ensures in omega arith

pub returns-clause-shelved : goal.returns-clause-shelved
returns-clause-shelved g c = c.loop-shelved.invariant.passed
