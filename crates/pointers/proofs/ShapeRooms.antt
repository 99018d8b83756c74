-- A domain's blocks leave room for the funds of all handles.
use Rattle.std.proofs.Common.{◌≡◌, ℕ, ◌+◌, ◌-◌, ◌*◌, ◌/◌, ◌<◌, ◌≤◌, min, max, arith}
use Rattle.std.proofs.Math.Nat.{le-max_left, le-max_right, mul-div-le, mul-le-mul}
use Rattle.control_word.specs.Layout.{IsWithinLimits}
use Rattle.control_word.specs.Limits.{cell_funds, HasRoomForFunds, most_allowance, most_blocks}
use Rattle.control_word.specs.Limits.{most_free_cells, most_members, most_number, one_fund}
use Rattle.control_word.specs.declared.shape.Shape.{Shape}
use Rattle.pointers.specs.Teams.{most_of, other_handles}
use Rattle.pointers.specs.declared.program.not_run.Number.TheVariants.{Blocks}

-- members of all blocks fit, where those of an object's greater number do
members_fit : (b m most room : ℕ) → m ≤ most → b ≤ room / most → m * b ≤ room
members_fit b m most room le fit =
    let a = mul-le-mul le fit in let d = mul-div-le room most in omega (arith, a, d)

room_beside : (a m b c : ℕ) → 2 * a + c ≤ most_number → m * b ≤ most_number - (2 * a + c) → HasRoomForFunds a m b c
room_beside a m b c few fit = omega (arith, few, fit)

fewest : (a b c : ℕ) → a ≤ min b c → (a ≤ b) × (a ≤ c)
fewest a b c le = (omega (arith, le), omega (arith, le))

-- a shape whose other numbers are within their limits, with no more blocks than fit beside them
pub within_limits : (s : Shape) → 0 < s.blocks → 2 ≤ s.owners → 1 ≤ s.weaks → s.owners + s.weaks ≤ most_members
    → s.shared_cells + s.weak_cells ≤ most_free_cells → 0 < s.allowance → s.allowance ≤ most_allowance
    → s.blocks ≤ most_of s Blocks → IsWithinLimits s
within_limits s some_block owners weaks members cells some_handle allowance fit =
    let room = most_number - other_handles s in
    let most = max s.owners s.weaks in
    let each = fewest s.blocks most_blocks (room / most) fit in
    let few : other_handles s ≤ most_number = omega (arith, cells, allowance) in
    record {
      some_block = some_block;
      blocks = each.0;
      members = (owners, weaks, members);
      cells = cells;
      some_handle = some_handle;
      allowance = allowance;
      owners_room = room_beside s.allowance s.owners s.blocks (s.shared_cells + s.weak_cells) few
          (members_fit s.blocks s.owners most room (le-max_left s.owners s.weaks) each.1);
      weaks_room = room_beside s.allowance s.weaks s.blocks (s.shared_cells + s.weak_cells) few
          (members_fit s.blocks s.weaks most room (le-max_right s.owners s.weaks) each.1);
    }
