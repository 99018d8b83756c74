use Rattle.std.proofs.Common.{◌∙◌}
use Rattle.pointers.proofs.Prelude.{bears_after, bears_kept}
use Rattle.pointers.proofs.Blocks.{bears_here}
use Rattle.pointers.proofs.Later.{goes_by, goes_then}
use Rattle.pointers.proofs.context.Context.into_part.Goals as goal

pub returns-clause-goes : goal.returns-clause-goes
returns-clause-goes g c =
    let o = g.D.Domain.opened in let d = c.self.inside.desk in let m = c.settle.new.desk in let e = c.shelve.new.self in
    let p = c.settle.ensures.parting in let s = c.shelve.ensures.shelved.passes in
    goes_then o m e (goes_then o d m c.self.invariant.opened (goes_by d p.own m p.goes)) (goes_by m _ e s.goes)

pub returns-clause-allowance : goal.returns-clause-allowance
returns-clause-allowance g c =
    c.shelve.ensures.shelved.passes.same.allowance ∙ (c.settle.ensures.desk.allowance ∙ c.self.invariant.allowance)

pub returns-clause-bears : goal.returns-clause-bears
returns-clause-bears g c =
    let o = g.D.Domain.opened in let y = c.args.domain.now in let d = c.self.inside.desk in let m = c.settle.new.desk in let e = c.shelve.new.self in
    let p = c.self.inside.pile in let q = c.settle.new.self in let s = c.shelve.ensures.shelved.passes in
    bears_kept y m e q
    (bears_after y d m p q (bears_here o d y p c.requires c.self.invariant.bears) c.settle.ensures.carries c.settle.ensures.elsewhere)
    s.same.domain s.same.shape s.endings s.count
