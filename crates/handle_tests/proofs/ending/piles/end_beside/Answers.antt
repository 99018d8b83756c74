use Rattle.std.proofs.Common.{subst, sym}
use Rattle.shared_handle.specs.Piles.{NotAmong}
use Rattle.shared_handle.proofs.Callers.{ends_kept}
use Rattle.shared_handle.proofs.Piles.{carries_kept}
use Rattle.handle_tests.proofs.ending.piles.end_beside.Goals as goal

pub drop_shared-gone-requires-clause-carries : goal.drop_shared-gone-requires-clause-carries
drop_shared-gone-requires-clause-carries c =
    let e = c.in-Ok.ensures in
    carries_kept c.args.domain.now c.args.desk.now c.make.new.desk c.args.pile.now c.requires.carries e.desk.domain e.desk.shape e.endings

pub end_of-requires-clause-ends : goal.end_of-requires-clause-ends
end_of-requires-clause-ends c =
    let e = c.in-Ok.ensures in let d = c.make.new.desk in let x = c.args.ending in
    let w = carries_kept c.args.domain.now c.args.desk.now d c.args.pile.now c.requires.carries e.desk.domain e.desk.shape e.endings in
    let apart = subst (NotAmong x.block.0) (sym c.requires.empty) tt in
    (c.end_next-value.ensures.elsewhere.beside x
    (c.drop_shared-gone.ensures.elsewhere.beside x (ends_kept c.args.desk.now d x e.endings c.requires.ends, apart, w.ends))).0
