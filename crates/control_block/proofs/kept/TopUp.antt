-- Top up: the funds that a handle in hand lacks are brought.
use Rattle.std.proofs.Common.{◌≡◌, ℕ, ◌+◌, ◌-◌, ◌*◌, ◌%◌, ◌^◌, ◌<◌, ◌≤◌, false, map, get_or, set}
use Rattle.std.proofs.Common.{Some, Option, sym, ap, ◌∙◌, subst, arith}
use Rattle.control_block.proofs.Prelude
use Prelude.{Allows, At, at_map, blocks_of, counts_at, Fits, get_elem?, handle, Has, has_headroom_funded, held, held_busy, Idle, sound}
use Prelude.{Kind, leads, none, opening_of, Owes, owing, Paying, Place, ReadyFunded, Ruled, SeatView}
use Prelude.{sees_as, settled, Shape, slot, some, spot, StandsFunded, step, value, view_of}
use Rattle.atomic_table.specs.Table as Table
use Rattle.control_word.proofs.funded.Purses as law
use Rattle.control_block.proofs.Passage.{point, ready}
use Rattle.control_block.proofs.words.Still.{allows_move}
use Rattle.control_word.specs.Limits.{cell_funds}

adds_funds : (n f : ℕ) → f ≤ cell_funds → n + 1099511627776 < 18446744073709551616
    → (n + f * 4294967296) % 2 ^ 64 ≡ n + 4294967296 * (cell_funds - (cell_funds - f))
adds_funds n f few room = omega arith

module _ {V : Type 0} where
  -- a desk that owes funds holds a handle, on whose count they are
  pub owed_there : (k : Shape) (s : Table.State (Option V) (SeatView V)) (r : Ruled k s) (id : ℕ) (v : SeatView V) → get_elem? s.views id ≡ some v
      → v.view.spent ≡ false → (m : Kind) (o : ℕ) (p : Option Place) (j f l : ℕ) → v.view.pending ≡ Paying m o p j f l
      → let t = leads (opening_of k) r.history in
      Has (held v.view.name (handle m (Some o) p)) t.hands × (j ≡ counts_at (blocks_of t) m o) × (f ≤ cell_funds)
      × ReadyFunded (point k s r id v) (Paying m o p (counts_at (blocks_of t) m o) f l)
  owed_there k s r id v at awake m o p j f l is =
      let z = opening_of k in let t = leads z r.history in
      let fits : Fits r.stands.bare t (value z r.history) v.view.name (Paying m o p j f l) =
      subst (Fits r.stands.bare t (value z r.history) v.view.name) is (r.stands.stands.team.seated id v.view (at_map view_of s.views id v at) awake).fits in
      (fits.0, fits.1, fits.4, ready k s r id v at awake _ (is ∙ ap (λ x. Paying m o p x f l) fits.1))

  pub allows_top_up : (k : Shape) (slots id b o i f : ℕ) (m : Kind) (p : Option Place) (me : At V) → f ≤ cell_funds → Owes (owing m o p b (cell_funds - f) 0) me
      → i ≡ spot b (slot m)
      → Allows (Ruled k) slots id me i (λ n. (n + f * 4294967296) % 2 ^ 64) (settled (step slots i (f * 4294967296) 0 none) me)
  allows_top_up k slots id b o i f m p me few owes e =
      allows_move k slots id i me (λ n. (n + f * 4294967296) % 2 ^ 64) Idle owes.awake owes.empty
      record { single = λ d q. q; both = λ d seen. tt }
      (λ s r at small.
      let v = me.0 in let z = opening_of k in let views = map view_of s.views in let h = r.history in
      let mine = owed_there k s r id v at owes.awake m o p (spot b (slot m)) (cell_funds - f) 0 owes.pending in
      let same = sym mine.1 ∙ sym e in
      let t = law.tops_up (point k s r id v) m o (cell_funds - f) p mine.3 in
      let after = sees_as v.view Idle h in
      let busy = held_busy z (leads z h) v.view.name o m p (sound z h r.stands.stands.legal) mine.0 in
      let room = (has_headroom_funded (point k s r id v) _ mine.3 m o busy).0 in
      subst (λ n. StandsFunded z (set s.words i n) (set views id after) h)
      (sym (adds_funds (get_or s.words i 0) f few (subst (λ x. get_or s.words x 0 + 1099511627776 < 18446744073709551616) same room)))
      (subst (λ x. StandsFunded z (set s.words x (get_or s.words x 0 + 4294967296 * (cell_funds - (cell_funds - f)))) (set views id after) h) same t))
