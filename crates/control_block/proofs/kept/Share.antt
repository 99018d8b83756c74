-- Share: one owner more, with its funds, is allowed.
use Rattle.std.proofs.Common.{◌≡◌, ℕ, ◌+◌, ◌*◌, ◌/◌, ◌%◌, ◌^◌, ◌<◌, ◌∷◌, map, get_or, set, Option, sym}
use Rattle.std.proofs.Common.{refl, ap, ◌∙◌, subst, arith}
use Rattle.control_block.proofs.Prelude.{Allows, At, entry, has_headroom_funded, HasRoomFor, held_busy}
use Rattle.control_block.proofs.Prelude.{HoldingInBlock, Idle, IsPointer, leads, none, opening_of}
use Rattle.control_block.proofs.Prelude.{Owner, owner, Place, Rests, Ruled, sees_as, Shape, Share}
use Rattle.control_block.proofs.Prelude.{sound, spot, StandsFunded, step, view_of}
use Rattle.control_word.proofs.funded.Counts as law
use Rattle.control_block.specs.StepKinds.{shared}
use Rattle.control_word.specs.Limits.{cell_funds}
use Rattle.control_block.proofs.Passage.{allows_event, held_there, plain, point, ready, still_room}

-- a handle with its funds fits into the word, as its halves have bounds
pub fits_one : (n : ℕ) → ((low high : ℕ) → n ≡ low + 4294967296 * high → low < 4294967296 → (low + 1 < 4294967296) × (high + cell_funds < 4294967296))
    → n + 1099511627777 < 18446744073709551616
fits_one n room = let t = room (n % 4294967296) (n / 4294967296) (omega arith) (omega arith) in let t0 = t.0 in let t1 = t.1 in omega arith

pub wraps : (n : ℕ) → n + 1099511627777 < 18446744073709551616 → (n + 1099511627777) % 2 ^ 64 ≡ n + 1099511627777
wraps n lt = omega arith

module _ {V : Type 0} where
  pub allows_share : (k : Shape) (slots id b o i : ℕ) (p q : Option Place) (me : At V) → Rests me → HoldingInBlock me.0 Owner o p b → IsPointer q
      → HasRoomFor me.0 → i ≡ spot b 0
      → Allows (Ruled k) slots id me i (λ n. (n + 1099511627777) % 2 ^ 64) (shared o p q (step slots i 1099511627777 0 none) me)
  allows_share k slots id b o i p q me rests holds fine more e =
      allows_event k slots id i me (λ n. (n + 1099511627777) % 2 ^ 64) (λ n. Share (owner o p) q) Idle rests.awake rests.empty
      (λ n. (plain (λ s d. refl) (λ s d. refl) (λ s f. refl)))
      (λ s r at small.
      let v = me.0 in let z = opening_of k in let views = map view_of s.views in
      let now = ready k s r id v at rests.awake Idle rests.idle in
      let mine = held_there k s r id v at rests.awake Owner o p b holds in
      let h = entry v.view.name (Share (owner o p) q) ∷ r.history in
      let busy = held_busy z (leads z r.history) v.view.name o Owner p (sound z r.history r.stands.stands.legal) mine.0 in
      let room = fits_one _ (has_headroom_funded (point k s r id v) Idle now Owner o busy).1 in
      subst (λ x. StandsFunded z (set s.words x ((get_or s.words x 0 + 1099511627777) % 2 ^ 64)) (set views id (sees_as v.view Idle h)) h) (ap (λ x. spot x
      0) mine.1 ∙ sym e)
      (subst (λ m. StandsFunded z (set s.words (spot ((leads z r.history).object o).block 0) m) (set views id (sees_as v.view Idle h)) h) (sym (wraps _ room))
      (law.shares_funded (point k s r id v) o p q now mine.0 fine (still_room k s r id v at rests.awake more))))
