use Rattle.std.proofs.Common.{◌≡◌, subst, arith}
use Rattle.control_block.proofs.closings.AllHolders.{free_noted, none_noted}
use Rattle.control_block.specs.AllHolders.{Notes}
use Rattle.control_block.proofs.Prelude.{free_holders, frees_in}
use Rattle.control_block.proofs.census.Census.note_free.Goals as goal

pub loop-number-init : goal.loop-number-init
loop-number-init g c = (c.requires.each, none_noted c.args.self.now c.args.all.now.items)

pub loop-number-preserved : goal.loop-number-preserved
loop-number-preserved g c =
    let n = c.args.self.now in (
      c.in_ok-note.ensures.many,
      free_noted n c.loop-number.number c.free.result c.args.all.now.items c.loop-number.all.items
          c.note.new.all.items c.free.ensures c.loop-number.invariant.1 c.in_ok-note.ensures.told,
    )

pub returns-clause-told : goal.returns-clause-told
returns-clause-told g c =
    let n = c.args.self.now in let past = c.loop-number-test.false in let within = c.loop-number.auto.number-end in
    let e = c.frees-number-end.ensures in let is : c.loop-number.number ≡ frees_in n = omega (arith, past, within, e) in
    subst (λ k. Notes n (λ b. free_holders n b k) c.args.all.now.items c.loop-number.all.items) is c.loop-number.invariant.1
