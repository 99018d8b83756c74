use Rattle.std.proofs.Common.{◌≡◌, ap, subst, arith}
use Rattle.control_block.proofs.Prelude.{CensusNow}
use Rattle.control_block.proofs.closings.AllHolders.{block_noted, none_noted}
use Rattle.control_block.specs.AllHolders.{Notes}
use Rattle.control_block.proofs.Prelude.{member_holders}
use Rattle.control_block.proofs.census.Census.note_all_members.Goals as goal

pub loop-before-init : goal.loop-before-init
loop-before-init g c = (c.requires.each, none_noted c.args.self.now c.args.all.now.items)

pub loop-before-preserved : goal.loop-before-preserved
loop-before-preserved g c =
    let n = c.args.self.now in (
      c.in_ok-note_members.ensures.many,
      block_noted n c.loop-before.before c.numbered.result.0 c.args.all.now.items c.loop-before.all.items
          c.note_members.new.all.items c.numbered.ensures c.loop-before.invariant.1 c.in_ok-note_members.ensures.told,
    )

pub returns-clause-told : goal.returns-clause-told
returns-clause-told g c =
    let n = c.args.self.now in let past = c.loop-before-test.false in let within = c.loop-before.auto.before-end in
    let e = ap (λ (z : CensusNow). z.blocks) c.self.view_is in let is : c.loop-before.before ≡ n.blocks = omega (arith, past, within, e) in
    subst (λ k. Notes n (λ b. member_holders n b k) c.args.all.now.items c.loop-before.all.items) is c.loop-before.invariant.1
