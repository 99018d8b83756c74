-- The numbers of owners and of weak handles have bounds.
use Rattle.std.proofs.Common.{ℕ, ◌+◌, ◌≤◌, List, map, length, arith, ◌-◌, ◌*◌, ◌<◌}
use Rattle.control_word.proofs.Prelude.{Entry, handles, Held, IsLegal, IsOpening}
use Rattle.control_word.proofs.Prelude.{in_cells, Kind, leads, Opening, Owner, State}
use Rattle.control_word.proofs.Prelude.{tally, Weak}
use Rattle.std.proofs.lemmas.List.{length-map}
use Rattle.control_word.proofs.history.Allowances.{hands_few, opened}
use Rattle.control_word.proofs.history.Bounds.{common_one, in_cells_few, tally_length}
use Rattle.control_word.proofs.history.Formation.{formed}
use Rattle.control_word.proofs.history.Kept.{cells_led, members_led, owners_led}
use Rattle.control_word.proofs.history.Legal.{sound}
use Rattle.control_word.proofs.lists.Sums.{sum_at}
use Rattle.control_word.proofs.lists.Tallies.{tally_append}
use Rattle.control_word.specs.Laws.{NumbersFit}
use Rattle.control_word.specs.State.{count, weak}
use Rattle.std.proofs.Common.{subst}

-- the members of a kind
abbrev pub members_of : Opening → Kind → ℕ
members_of z Owner = z.owners
members_of z Weak = z.members - z.owners

-- the handles on an object are those in bags and in cells
hands_tally : (k : Kind) (q : ℕ) (s : State) → tally k q (handles s) ≤ length s.hands + tally k q (in_cells s)
hands_tally k q s =
    let l = map (λ (x : Held). x.handle) s.hands in
    let same = length-map s.hands (λ (x : Held). x.handle) in
    omega (arith, tally_append k q l (in_cells s), tally_length k q l)

count_few : (s : State) (q : ℕ) → count s q ≤ length s.hands + tally Owner q (in_cells s)
unfolding count
count_few s q = hands_tally Owner q s

weak_few : (s : State) (q : ℕ) → weak s q ≤ length s.hands + tally Weak q (in_cells s)
unfolding weak
weak_few s q = hands_tally Weak q s

-- some desk has an allowance
pub some_handle : (z : Opening) → IsOpening z → 0 < z.allowance
some_handle z proper =
    let first = proper.holders 0 in
    let some' : 0 < z.desks = omega arith in
    let share = proper.positive 0 some' in
    let among = sum_at z.desks 0 z.share some' in
    let all = proper.shares in omega arith

module _ {V : Type 0} where
  -- no more handles of a kind are in cells than free cells and members of that kind
  pub cells_room : (z : Opening) (h : List (Entry V)) → IsLegal z h → (k : Kind) (o : ℕ)
      → tally k o (in_cells (leads z h)) ≤ z.cells + members_of z k * z.blocks
  cells_room z h legal k o = go k
    where
      s : State
      s = leads z h

      t : (tally Owner o (in_cells (leads z h)) ≤ (leads z h).cells + (leads z h).owners * z.blocks)
          × (tally Weak o (in_cells (leads z h)) ≤ (leads z h).cells + ((leads z h).members - (leads z h).owners) * z.blocks)
      t = let l = owners_led z h in let m = members_led z h in let r = (opened z h legal).owners in
          let r0 = r.0 in let r1 = r.1 in
          in_cells_few z (leads z h) (sound z h legal) (formed z h legal) (omega arith) (omega arith) o

      go : (k : Kind) → tally k o (in_cells (leads z h)) ≤ z.cells + members_of z k * z.blocks
      go Owner = subst (λ n. tally Owner o (in_cells (leads z h)) ≤ z.cells + n * z.blocks) (owners_led z h)
          (let a = t.0 in let e = cells_led z h in omega arith)
      go Weak = subst (λ n. tally Weak o (in_cells (leads z h)) ≤ z.cells + n * z.blocks)
          (λ i. members_led z h i - owners_led z h i) (let a = t.1 in let e = cells_led z h in omega arith)

  -- as many owners as the allowance, the members and the free cells; as many weak handles, and the common one
  pub numbers_fit : NumbersFit V
  numbers_fit z h legal o =
      let s = leads z h in
      let proper = opened z h legal in
      let some' = some_handle z proper in
      let owners = proper.room.0 in let weaks = proper.room.1 in
      let hands = hands_few z h legal in
      let a = cells_room z h legal Owner o in let b = cells_room z h legal Weak o in
      let c = count_few s o in
      let w = weak_few s o in
      let one = common_one (s.object o).phase in (omega arith, omega arith, omega arith, omega arith)
