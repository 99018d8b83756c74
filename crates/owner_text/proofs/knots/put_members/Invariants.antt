use Rattle.std.proofs.Common.{◌≡◌, ◌++◌, take, string_bytes}
use Rattle.owner_text.proofs.Prelude.{flat_map, member_text}
use Rattle.owner_text.proofs.knots.put_members.Given as goal

abbrev pub invariant-loop-member : goal.invariant-loop-member
invariant-loop-member l = string_bytes l.text ≡ string_bytes l.fn.text
    ++ (flat_map (member_text) (take l.member-index l.members))
