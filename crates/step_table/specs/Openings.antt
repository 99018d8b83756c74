-- How a world begins: each actor has a store of blocks and a share of the allowance. All of it is own.
use Rattle.std.specs.Prelude.{ℕ, ◌+◌, ◌-◌, ◌*◌, ◌/◌, ◌%◌, ◌≤◌, ◌==◌, false, cond, nat_lt}
use Rattle.control_word.specs.Limits.{most_allowance}
use Rattle.control_word.specs.State.{Opening}
use Rattle.step_table.specs.declared.memory.extent.Extent.{Extent}

-- each actor has the same number of blocks, in order; the rest goes to the last
abbrev pub each_stock : Extent → ℕ
each_stock x = x.shape.blocks / x.actors

abbrev pub holder_of : Extent → ℕ → ℕ
holder_of x b = cond (nat_lt (each_stock x * (x.actors - 1)) b) (x.actors - 1) ((b - 1) / each_stock x)

-- each actor may hold the same number of handles; the rest goes to the first
abbrev pub share_of : Extent → ℕ → ℕ
share_of x d = cond (nat_lt d x.actors)
    (x.shape.allowance / x.actors + cond (d == 0) (x.shape.allowance % x.actors) 0) 0

-- an object of a world has three members, of which two are owners; what ends leaves 0 in its block's counts
abbrev pub opening : Extent → Opening
opening x =
    record {
      blocks = x.shape.blocks;
      members = 3;
      owners = 2;
      shared_cells = x.shape.shared_cells;
      cells = x.shape.shared_cells + x.shape.weak_cells;
      allowance = x.shape.allowance;
      desks = x.actors;
      holder = holder_of x;
      share = share_of x;
      keeps_blocks = false;
    }

-- worlds have limits of their own: blocks, and free cells
abbrev pub world_blocks : ℕ
world_blocks = 65535

abbrev pub world_cells : ℕ
world_cells = 256

-- 1 to 64 actors, with an allowance of 40 handles each or more, over a table within the limits
pub record IsExtent (x : Extent) : Type 0 where
  pub some : 1 ≤ x.actors
  pub few : x.actors ≤ 64
  pub blocks : x.shape.blocks ≤ world_blocks
  pub cells : x.shape.shared_cells + x.shape.weak_cells ≤ world_cells
  pub allowance : x.shape.allowance ≤ most_allowance
  pub enough : 40 * x.actors ≤ x.shape.allowance
