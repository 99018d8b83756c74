-- Turn: the fund of a load under way becomes a handle in the number, and the others of its funds are brought.
use Rattle.std.proofs.Common.{◌≡◌, ℕ, ◌+◌, ◌-◌, ◌*◌, ◌%◌, ◌^◌, ◌<◌, map, get_or, set, Option, sym, ap, ◌∙◌, subst, arith}
use Rattle.control_word.specs.Limits.{cell_funds}
use Rattle.control_block.proofs.Prelude.{Allows, At, blocks_of, counts_at, has_headroom_funded, held_busy, Idle, Kind, leads, none, opening_of, Owes, owing}
use Rattle.control_block.proofs.Prelude.{Paying, Place, Ruled, sees_as, settled, Shape, slot, sound, spot, StandsFunded}
use Rattle.control_block.proofs.Prelude.{step, view_of}
use Rattle.control_word.proofs.funded.Purses as law
use Rattle.control_block.proofs.Passage.{point}
use Rattle.control_block.proofs.words.Still.{allows_move}
use Rattle.control_block.proofs.kept.TopUp.{owed_there}

turns_one : (n : ℕ) → n + 1099511627776 < 18446744073709551616 → (n + 1095216660481) % 2 ^ 64 ≡ n + 1095216660481
turns_one n lt = omega arith

turned : (n : ℕ) → n + 4294967296 * (cell_funds - 1) + 1 ≡ n + 1095216660481
turned n = omega arith

module _ {V : Type 0} where
  pub allows_turn : (k : Shape) (slots id b o i : ℕ) (m : Kind) (p : Option Place) (me : At V) → Owes (owing m o p b 1 1) me → i ≡ spot b (slot m)
      → Allows (Ruled k) slots id me i (λ n. (n + 1095216660481) % 2 ^ 64) (settled (step slots i 1095216660481 0 none) me)
  allows_turn k slots id b o i m p me owes e =
      allows_move k slots id i me (λ n. (n + 1095216660481) % 2 ^ 64) Idle owes.awake owes.empty record { single = λ d q. q; both = λ d seen. tt }
      (λ s r at small.
      let v = me.0 in let z = opening_of k in let views = map view_of s.views in let h = r.history in
      let mine = owed_there k s r id v at owes.awake m o p (spot b (slot m)) 1 1 owes.pending in
      let same = sym mine.1 ∙ sym e in
      let t = law.turns_funded (point k s r id v) m o p mine.3 in
      let after = sees_as v.view Idle h in
      let busy = held_busy z (leads z h) v.view.name o m p (sound z h r.stands.stands.legal) mine.0 in
      let room = (has_headroom_funded (point k s r id v) _ mine.3 m o busy).0 in
      subst (λ n. StandsFunded z (set s.words i n) (set views id after) h)
      (sym (turns_one (get_or s.words i 0) (subst (λ x. get_or s.words x 0 + 1099511627776 < 18446744073709551616) same room)))
      (subst (λ x. StandsFunded z (set s.words x (get_or s.words x 0 + 1095216660481)) (set views id after) h) same
      (subst (λ n. StandsFunded z (set s.words (counts_at (blocks_of (leads z h)) m o) n) (set views id after) h)
      (turned (get_or s.words (counts_at (blocks_of (leads z h)) m o) 0)) t)))
