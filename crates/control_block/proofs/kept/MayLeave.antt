-- A desk that may leave, and what the laws say of its leave.
use Rattle.std.proofs.Common.{◌≡◌, ℕ, ◌+◌, ◌-◌, ◌*◌, ◌%◌, ◌^◌, ◌<◌, ◌≤◌, Bool, false, [], ◌∷◌, map}
use Rattle.std.proofs.Common.{get_or, set, ◌==◌, Some, None, Option, sym, refl, ap, ◌∙◌, subst, inl, inr}
use Rattle.std.proofs.Common.{arith, eq-eqb, ne_eqb}
use Rattle.std.proofs.lemmas.Bool.{cond-false, cond-true}
use Rattle.control_block.proofs.Prelude.{At, blocks_of, counts_at, entry, Event, get_elem?, handle}
use Rattle.control_block.proofs.Prelude.{Has, held, Idle, short_of, Kind, leads, Leave, MayLeave}
use Rattle.control_block.proofs.Prelude.{names_an_object, opening_of, Owner, owner, Paying, Place}
use Rattle.control_block.proofs.Prelude.{ReadyFunded, Ruled, SeatView, sees_as, Shape, slot, some, spot}
use Rattle.control_block.proofs.Prelude.{StandsFunded, view_of, Weak, weak_of, WeakLeave}
use Rattle.atomic_table.specs.Table as Table
use Rattle.control_word.proofs.funded.Counts.{leaves_funded, weak_leaves_funded}
use Rattle.control_word.specs.Limits.{cell_funds}
use Rattle.control_block.proofs.cells.CellTrades.{slot_low}
use Rattle.control_block.proofs.Passage.{held_there, point, ready}
use Rattle.control_block.proofs.kept.TopUp.{owed_there}

pub falls : (n a : ℕ) → a ≤ n → n < 18446744073709551616 → (n + (2 ^ 64 - a)) % 2 ^ 64 ≡ n - a
falls n a enough lt = omega arith

same_spot : (b c k : ℕ) → k < 16 → spot b k ≡ spot c k → 0 < b → 0 < c → b ≡ c
same_spot b c k low e hb hc = omega arith

module _ {V : Type 0} where
  pub may_awake : (me : At V) (k : Kind) (o : ℕ) (p : Option Place) (b f : ℕ) → MayLeave me k o p b f → me.0.view.spent ≡ false
  may_awake me k o p b f (inl m) = m.0.awake
  may_awake me k o p b f (inr m) = m.0.awake

  pub may_empty : (me : At V) (k : Kind) (o : ℕ) (p : Option Place) (b f : ℕ) → MayLeave me k o p b f → me.0.hand ≡ None
  may_empty me k o p b f (inl m) = m.0.empty
  may_empty me k o p b f (inr m) = m.0.empty

  pub may_none : (me : At V) (k : Kind) (o : ℕ) (p : Option Place) (b f : ℕ) → MayLeave me k o p b f → me.1 ≡ []
  may_none me k o p b f (inl m) = m.0.none
  may_none me k o p b f (inr m) = m.0.none

  -- the event of the leave; whether it was the last, or its block is vacant
  abbrev pub going : Kind → ℕ → Option Place → Bool → Event V
  going Owner o p last = Leave (owner o p) last
  going Weak o p vacant = WeakLeave (weak_of o p) vacant

  module _ (k : Shape) (s : Table.State (Option V) (SeatView V)) (r : Ruled k s) (id : ℕ) (me : At V) (at : get_elem? s.views id ≡ some me.0) (m : Kind)
      (o b f : ℕ) (p : Option Place) where
    abbrev after_by : ℕ → Bool → Type 0
    after_by n c =
        let i = spot b (slot m) in let h = entry me.0.view.name (going m o p c) ∷ r.history in
        StandsFunded (opening_of k) (set s.words i n) (set (map view_of s.views) id (sees_as me.0.view Idle h)) h

    abbrev IsLaw : ℕ → Type 0
    IsLaw q = let n = get_or s.words (spot b (slot m)) 0 in let a = 4294967296 * q + 1 in (a ≤ n) × after_by (n - a) (n == a)

    -- it has the handle
    pub may_have : 0 < b → MayLeave me m o p b f
        → Has (held me.0.view.name (handle m (Some o) p)) (leads (opening_of k) r.history).hands × (((leads (opening_of k) r.history).object o).block ≡ b)
    may_have pos (inl t) = held_there k s r id me.0 at t.0.awake m o p b t.1
    may_have pos (inr t) =
        let z = opening_of k in let q = owed_there k s r id me.0 at t.0.awake m o p (spot b (slot m)) f 0 t.0.pending in
        let n = names_an_object z r.history r.stands.stands.legal me.0.view.name m (handle m (Some o) p) (q.0, refl, refl) in
        (q.0, sym (same_spot b ((leads z r.history).object o).block (slot m) (slot_low m) q.1 pos n.3.0))

    -- the desk's handle has so many of its funds
    may_ready : 0 < b → (t : MayLeave me m o p b f) → let w = counts_at (blocks_of (leads (opening_of k) r.history)) m o in
        ReadyFunded (point k s r id me.0) (short_of m o p w f) × (f ≤ cell_funds) × (spot b (slot m) ≡ w)
    may_ready pos (inl t) =
        let mine = may_have pos (inl t) in let w = counts_at (blocks_of (leads (opening_of k) r.history)) m o in (
          ready k s r id me.0 at t.0.awake (short_of m o p w f) (t.0.idle
              ∙ sym (cond-true (f == cell_funds) Idle (Paying m o p w f 0) (eq-eqb f cell_funds t.2))),
          (let e = t.2 in omega arith),
          ap (λ x. spot x (slot m)) (sym mine.1),
        )
    may_ready pos (inr t) =
        let q = owed_there k s r id me.0 at t.0.awake m o p (spot b (slot m)) f 0 t.0.pending in
        let w = counts_at (blocks_of (leads (opening_of k) r.history)) m o in
        let few = t.1 in (
          ready k s r id me.0 at t.0.awake (short_of m o p w f)
              (q.3.pending ∙ sym (cond-false (f == cell_funds) Idle (Paying m o p w f 0) (ne_eqb f cell_funds (λ e. omega arith)))),
          q.2,
          q.1,
        )

    may_law : 0 < b → MayLeave me m o p b f → IsLaw f
    may_law pos t =
        let mine = may_have pos t in let now = may_ready pos t in
        subst (λ i. let n = get_or s.words i 0 in let a = 4294967296 * f + 1 in let h = entry me.0.view.name (going m o p (n == a)) ∷ r.history in
        (a ≤ n) × StandsFunded (opening_of k) (set s.words i (n - a)) (set (map view_of s.views) id (sees_as me.0.view Idle h)) h) (sym now.2)
        (leaving m now.0 mine.0 now.1)
      where
        leaving : (y : Kind) → (let w = counts_at (blocks_of (leads (opening_of k) r.history)) y o in ReadyFunded (point k s r id me.0) (short_of y o p w f))
            → Has (held me.0.view.name (handle y (Some o) p)) (leads (opening_of k) r.history).hands → f ≤ cell_funds
            → let i = counts_at (blocks_of (leads (opening_of k) r.history)) y o in let n = get_or s.words i 0 in let a = 4294967296 * f + 1 in
            let h = entry me.0.view.name (going y o p (n == a)) ∷ r.history in
            (a ≤ n) × StandsFunded (opening_of k) (set s.words i (n - a)) (set (map view_of s.views) id (sees_as me.0.view Idle h)) h
        leaving Owner now has few = leaves_funded (point k s r id me.0) o f p now has few
        leaving Weak now has few = weak_leaves_funded (point k s r id me.0) o f p now has few

    -- what the step makes of the words; the word was all that is taken from it, or not
    pub may_stand : (i a : ℕ) (c : Bool) → 0 < b → MayLeave me m o p b f → i ≡ spot b (slot m) → a ≡ f * 4294967296 + 1
        → get_or s.words i 0 < 18446744073709551616 → (get_or s.words i 0 == a) ≡ c
        → let h = entry me.0.view.name (going m o p c) ∷ r.history in
        StandsFunded (opening_of k) (set s.words i ((get_or s.words i 0 + (2 ^ 64 - a)) % 2 ^ 64)) (set (map view_of s.views) id (sees_as me.0.view Idle h)) h
    may_stand i a c pos may e amount small is =
        let law = may_law pos may in
        let all : 4294967296 * f + 1 ≡ a = omega arith in
        let now = subst (λ q. (q ≤ get_or s.words (spot b (slot m)) 0) × after_by (get_or s.words (spot b (slot m)) 0 - q)
        (get_or s.words (spot b (slot m)) 0 == q)) all law in
        let here = subst (λ x. let n = get_or s.words x 0 in let h = entry me.0.view.name (going m o p (n == a)) ∷ r.history in
        (a ≤ n) × StandsFunded (opening_of k) (set s.words x (n - a)) (set (map view_of s.views) id (sees_as me.0.view Idle h)) h) (sym e) now in
        subst (λ x. let h = entry me.0.view.name (going m o p c) ∷ r.history in
        StandsFunded (opening_of k) (set s.words i x) (set (map view_of s.views) id (sees_as me.0.view Idle h)) h) (sym (falls (get_or s.words i 0) a here.0
        small))
        (subst (λ y. let h = entry me.0.view.name (going m o p y) ∷ r.history in
        StandsFunded (opening_of k) (set s.words i (get_or s.words i 0 - a)) (set (map view_of s.views) id (sees_as me.0.view Idle h)) h) is here.1)
