use Rattle.std.proofs.Common.{string_bytes}
use Rattle.owner_text.proofs.Prelude.{member_text}
use Rattle.owner_text.proofs.LineLemmas.{bytes_on}
use Rattle.owner_text.proofs.knots.put_members.Goals as goal

pub loop-member-preserved : goal.loop-member-preserved
loop-member-preserved c =
    bytes_on (member_text) c.args.members.now c.loop-member.member-index _
    (string_bytes c.args.text.now)
    (string_bytes c.loop-member.text) (string_bytes c.put_member.new.text) c.loop-member-test.true
    c.loop-member.invariant c.in_ok-put_member.ensures
