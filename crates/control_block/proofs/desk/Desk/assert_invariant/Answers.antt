use Rattle.std.proofs.Common.{◌≡◌, ℕ, ◌+◌, ◌≤◌, min, length, subst, arith}
use Rattle.control_block.proofs.Prelude.{allowance_of, bag, bag_of, desk_now, DeskNow, endings_of}
use Rattle.control_block.proofs.Prelude.{length-map, state_of}
use Rattle.control_block.proofs.Bags.{seen_as}
use Rattle.control_block.proofs.EndingCounts.{few_ending}
use Rattle.control_block.specs.Standing.{Standing}
use Rattle.control_block.proofs.desk.Desk.assert_invariant.Goals as goal

pub returns : goal.returns
returns g c =
    let i = c.self.invariant in let d : DeskNow g.row.V.Denot = desk_now c.self.inside in
    let many : length (bag_of d) ≡ length (bag (state_of d) d.name) = length-map (bag (state_of d) d.name) (seen_as (state_of d)) in
    let ended : c.self.inside.endings ≡ endings_of d = i.ended in
    let room : d.held + min 1 (endings_of d) ≤ allowance_of d =
    subst (λ (n : ℕ). d.held + min 1 (endings_of d) ≤ n) i.allowed
    (subst (λ (n : ℕ). d.held + min 1 n ≤ c.self.inside.allowance) ended (omega (arith, i.within))) in
    let holding = i.holding in
    let s : Standing d = record {
      legal = i.legal;
      limits = i.limits;
      bag = omega (arith, many, holding);
      held = room;
      endings = few_ending d.shape.blocks (state_of d) d.name;
    } in
    subst (λ (x : DeskNow g.row.V.Denot). Standing x) c.self.view_is s
