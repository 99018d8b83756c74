-- What the desk that closes tells of the handles of an object, in cells and in its own bag.
use Rattle.std.proofs.Common.{◌≡◌, ℕ, ◌+◌, ◌<◌, Bool, true, false, List, map, ◌==◌, Some, sym}
use Rattle.std.proofs.Common.{refl, ◌∙◌, subst, ⊎_elim, arith, eq-eqb}
use Rattle.control_block.proofs.Prelude
use Prelude.{allowed, alone, bag, blocks_of, by_block, cases_lt, cells_led, CensusNow, desk_now}
use Prelude.{Entry, formed, frees_in, handle, Has, Held, held, held_busy, holders_of, in_cells}
use Prelude.{Inside, IsBusy, IsDesk, IsLegal, Kind, known, leads, many_of, num_has, Opening}
use Prelude.{opening_of, Owner, sound, tally, tally_append, TellsCells, TellsHolders, Weak}
use Rattle.control_word.specs.State.{count, handles, weak}
use Rattle.control_block.proofs.CellWords.{shared_led}
use Rattle.control_block.proofs.closings.Holders.{in_all_cells, in_bag}
use Rattle.control_block.specs.Rule.{members_of}
use Rattle.control_word.proofs.history.Kept.{members_led, owners_led}

module _ {V : Type 0} where
  module _ (z : Opening) (h : List (Entry V)) (legal : IsLegal z h) (d : ℕ)
      (whole : (leads z h).allowance d ≡ z.allowance) where
    -- only the desk that has the whole allowance has handles
    hands_mine : (x : Held) → Has x (leads z h).hands → x.desk ≡ d
    hands_mine x has =
        let s = leads z h in let t = allowed z h legal in
        let some' = num_has (λ (y : Held). y.desk == x.desk) x s.hands has (eq-eqb x.desk x.desk refl) in
        let room = t.rooms x.desk in
        alone z h legal d x.desk whole (
          ⊎_elim (λ lt. lt) (λ le. absurd (let n = t.beyond x.desk le in omega arith)) (cases_lt x.desk s.names),
          go (s.joined x.desk) refl,
          omega arith,
        )
      where
        go : (t : Bool) → (leads z h).joined x.desk ≡ t → (leads z h).joined x.desk ≡ false
        go false e = e
        go true e =
            absurd (let some' = num_has (λ (y : Held). y.desk == x.desk) x (leads z h).hands has (eq-eqb x.desk x.desk refl) in
            let room = (allowed z h legal).rooms x.desk in let n = (allowed z h legal).spent x.desk e in omega arith)

    hands_busy : (x : Held) (q : ℕ) → Has x (leads z h).hands → x.handle.object ≡ Some q → IsBusy (leads z h) q
    hands_busy x q has e =
        let s = leads z h in
        held_busy z s x.desk q x.handle.kind x.handle.place (sound z h legal)
        (subst (λ o. Has (held x.desk (handle x.handle.kind o x.handle.place)) s.hands) e has)

    pub each_held : (k : Kind) (b : ℕ) (c : CensusNow) → 0 < b → TellsCells (leads z h) c
        → (c.blocks ≡ z.blocks) × (c.shared_cells ≡ (leads z h).shared) × (frees_in c ≡ (leads z h).cells)
        × (c.members ≡ (leads z h).members) × (c.owners ≡ (leads z h).owners)
        → tally k ((leads z h).latest b) (handles (leads z h))
        ≡ many_of k (holders_of c b)
        + tally k b (map (λ (x : Held). by_block (blocks_of (leads z h)) x.handle) (bag (leads z h) d))
    each_held k b c pos tells sized =
        let s = leads z h in let fine = sound z h legal in
        let hands = in_bag z s fine b k d s.hands hands_mine hands_busy in
        let cells = in_all_cells z s fine b k c (formed z h legal) tells pos sized in
        omega (arith, tally_append k (s.latest b) (map (λ (x : Held). x.handle) s.hands) (in_cells s))

  pub tells_holders : (d : Inside V) → IsDesk d
      → (known d.seat.me.0).allowance d.seat.me.0.view.name ≡ d.seat.me.0.shape.allowance
      → (b : ℕ) (c : CensusNow) → 0 < b → TellsCells (known d.seat.me.0) c
      → (c.blocks ≡ d.seat.me.0.shape.blocks) × (c.shared_cells ≡ d.seat.me.0.shape.shared_cells)
      × (frees_in c ≡ d.seat.me.0.shape.shared_cells + d.seat.me.0.shape.weak_cells)
      × (c.members ≡ members_of d.seat.me.0.shape) × (c.owners ≡ d.seat.me.0.shape.owners)
      → TellsHolders (desk_now d) b c
  unfolding count weak
  tells_holders d is whole b c pos tells sized =
      let v = d.seat.me.0 in let z = opening_of v.shape in let h = v.view.seen in
      let sized' : (c.blocks ≡ z.blocks) × (c.shared_cells ≡ (leads z h).shared) × (frees_in c ≡ (leads z h).cells)
      × (c.members ≡ (leads z h).members) × (c.owners ≡ (leads z h).owners) = (
        sized.0,
        sized.1 ∙ sym (shared_led z h),
        sized.2 ∙ sym (cells_led z h),
        sized.3 ∙ sym (members_led z h),
        sized.4 ∙ sym (owners_led z h),
      ) in
      record {
        owners = each_held z h is.legal v.view.name whole Owner b c pos tells sized';
        weaks = each_held z h is.legal v.view.name whole Weak b c pos tells sized';
      }
