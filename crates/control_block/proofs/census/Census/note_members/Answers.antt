use Rattle.std.proofs.Common.{◌≡◌, ap, subst, ◌∙◌, arith}
use Rattle.control_block.proofs.Prelude.{CensusNow}
use Rattle.control_block.proofs.closings.AllHolders.{member_noted, none_noted}
use Rattle.control_block.specs.AllHolders.{Notes}
use Rattle.control_block.specs.Holders.{some_members}
use Rattle.control_block.proofs.census.Census.note_members.Goals as goal

pub loop-member-init : goal.loop-member-init
loop-member-init g c = (c.requires.each, none_noted c.args.self.now c.args.all.now.items)

pub loop-member-preserved : goal.loop-member-preserved
loop-member-preserved g c =
    let n = c.args.self.now in (
      c.in_ok-note.ensures.many,
      member_noted n c.args.of.0 c.loop-member.member c.member.result c.args.all.now.items c.loop-member.all.items
          c.note.new.all.items c.member.ensures c.loop-member.invariant.1 c.in_ok-note.ensures.told,
    )

pub returns-clause-told : goal.returns-clause-told
returns-clause-told g c =
    let n = c.args.self.now in let past = c.loop-member-test.false in let within = c.loop-member.auto.member-end in
    let e : c.members-member-end.result ≡ n.members = c.members-member-end.ensures.within c.self.invariant.4
    ∙ ap (λ (z : CensusNow). z.members) c.self.view_is in let is : c.loop-member.member ≡ n.members = omega (arith, past, within, e) in
    subst (λ k. Notes n (λ b. some_members n b c.args.of.0 k) c.args.all.now.items c.loop-member.all.items) is c.loop-member.invariant.1
