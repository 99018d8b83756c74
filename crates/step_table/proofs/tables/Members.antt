-- How many members the objects of a world have.
use Rattle.std.proofs.Common.{◌≡◌, ℕ, ap}
use Rattle.step_table.proofs.Prelude.{GhostState, kind_of_member, model_state, opening}
use Rattle.control_word.proofs.history.Kept.{members_led, owners_led}

-- three, of which the first two are owners, as when the world began
pub three_members : (v : GhostState) → ((model_state v).members ≡ 3) × ((model_state v).owners ≡ 2)
three_members v = (members_led (opening v.extent) v.history, owners_led (opening v.extent) v.history)

-- so a member's number tells its kind
pub member_kind : (v : GhostState) (m : ℕ) → kind_of_member (model_state v).owners m ≡ kind_of_member 2 m
member_kind v m = ap (λ (n : ℕ). kind_of_member n m) (three_members v).1
