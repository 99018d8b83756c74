-- A member of an ending object is cleared.
use Rattle.std.proofs.Common.{◌≡◌, ℕ, ◌+◌, ◌-◌, ◌<◌, false, List, ◌∷◌, set, refl, ap, subst, inl}
use Rattle.std.proofs.Common.{arith}
use Rattle.control_word.proofs.Prelude.{Adds, after, blocks_of, cell_word, ClearMember, common}
use Rattle.control_word.proofs.Prelude.{empty, ending, Entry, entry, get_elem?, HasRoom, Idle}
use Rattle.control_word.proofs.Prelude.{kind_of_member, leads, Member, Opening, purse, some, spot}
use Rattle.control_word.proofs.Prelude.{Stands, state, View}
use Rattle.control_word.proofs.history.Legal.{sound}
use Rattle.control_word.proofs.steps.Swap.{exchange_step}
use Rattle.control_word.proofs.words.CellWords.{cell_read}
use Rattle.control_word.proofs.words.Purses.{formed_empty}
use Rattle.control_word.specs.CellSteps.{Clears}
use Rattle.control_word.specs.Words.{packed}
use Rattle.control_word.specs.Limits.{cell_funds}

module _ {V : Type 0} where
  -- the desk that ends the object takes a member's value out
  pub clear_step : (z : Opening) (words : List ℕ) (views : List (View V)) (h : List (Entry V)) (stands : Stands z words views h)
      (i : ℕ) (v : View V) (at : get_elem? views i ≡ some v) (awake : v.spent ≡ false) (o m : ℕ)
      → ((leads z h).object o).phase ≡ ending v.name → m < (leads z h).members
      → v.pending ≡ Idle
      → let s = leads z h in let k = spot (s.object o).block (7 + m) in let old = (s.object o).member m in
      HasRoom (after {V = V} s v.name (ClearMember o m old)) v.name
      → let e = entry v.name (ClearMember o m old) in
      Stands z (set words k 0) (set views i (record v { pending = purse (blocks_of s) old (cell_funds - stands.taken k); seen = e ∷ h })) (e ∷ h)
  unfolding packed
  clear_step z words views h stands i v at awake o m end lt idle room =
      let s = leads z h in
      let one : common (s.object o).phase ≡ 1 = ap common end in
      exchange_step z words views h stands i v at awake (Member o m) (
        (let u = (sound z h stands.legal).few in omega arith),
        omega arith,
      ) (ClearMember o m ((s.object o).member m)) (empty (kind_of_member s.owners m)) tt (end, lt, refl) tt refl idle (
        refl,
        inl (
          refl,
          formed_empty (kind_of_member s.owners m),
        ),
      ) room

module _ {V : Type 0} where
  pub clears' : Clears V
  clears' at o m ready end lt room taken found =
      let s = state at in
      let one : common (s.object o).phase ≡ 1 = ap common end in
      let r = cell_read at.opening at.words at.views at.history ready.stands at.seat at.view ready.seated ready.awake (Member o m)
      ((let u = (sound at.opening at.history ready.stands.legal).few in omega arith), omega arith) in
      let old = (s.object o).member m in
      let e : ready.stands.taken (cell_word at (Member o m)) ≡ taken = omega arith in
      subst (λ t. Adds at (cell_word at (Member o m)) 0 (ClearMember o m old) (purse (blocks_of s) old (cell_funds - t))) e
      (clear_step at.opening at.words at.views at.history ready.stands at.seat at.view ready.seated ready.awake o m end lt ready.pending room)
