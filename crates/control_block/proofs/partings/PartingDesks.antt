-- Desks by their fields, and the state at which an event of a desk came.
use Rattle.std.proofs.Common.{◌≡◌, ℕ, ◌+◌, ◌<◌, ◌≤◌, min, true, false, List, [], ◌++◌, length}
use Rattle.std.proofs.Common.{Some, None, vec_capacity, Option, sym, refl, ap, ◌∙◌, subst, ⊎_elim}
use Rattle.std.proofs.Common.{arith}
use Rattle.control_block.proofs.Prelude
use Prelude.{allowed, At, bag, bag_size, block_kept, blocks_of, by_block, cases_lt, Entry, filter}
use Prelude.{formed, handle, Has, has_object, Held, held, Idle, Inside, IsDesk, IsLegal, IsSized}
use Prelude.{IsWithinLimits, Kind, known, leads, many_ending, names_an_object, NoneBy, object_of}
use Prelude.{Opening, opening_of, part_has, Place, Rests, same_kept, same_stored, SeatView, Sound}
use Prelude.{sound, State, stock, stored, sum_at, times}
use Rattle.control_word.proofs.history.Kept.{Same}
use Rattle.control_word.proofs.history.Soundness.{Allowed}
use Rattle.control_block.proofs.partings.PartingStates.{StoredThere, stored_there}
use Rattle.control_word.specs.Limits.{most_allowance}

-- a handle goes to its block and back to the object last made there
to_block : (s : State) (k : Kind) (o : Option ℕ) (p : Option Place) → has_object (handle k o p) ≡ true
    → s.latest (blocks_of s (object_of (handle k o p))) ≡ object_of (handle k o p)
    → by_block s.latest (by_block (blocks_of s) (handle k o p)) ≡ handle k o p
to_block s k None p h e = absurd (cc)
to_block s k (Some o) p h e = λ i. handle k (Some (e i)) p

in_form : (k : Kind) (o : Option ℕ) (p : Option Place) → has_object (handle k o p) ≡ true → o ≡ Some (object_of (handle k o p))
in_form k None p h = absurd (cc)
in_form k (Some o) p h = refl

seen_alike : (f g : ℕ → ℕ) (k : Kind) (o : Option ℕ) (p : Option Place) → f (object_of (handle k o p)) ≡ g (object_of (handle k o p))
    → by_block f (handle k o p) ≡ by_block g (handle k o p)
seen_alike f g k None p e = refl
seen_alike f g k (Some o) p e = λ i. handle k (Some (e i)) p

module _ {V : Type 0} where
  -- a desk by its seat's view and its numbers
  pub desk_of : (d : Inside V) (u : SeatView V) → d.seat.me ≡ (u, []) → (u.view.spent ≡ false) × (u.view.pending ≡ Idle) × (u.hand ≡ None)
      → IsLegal (opening_of u.shape) u.view.seen → IsWithinLimits u.shape → IsSized d.seat.table_id u.shape
      → d.allowance ≡ (known u).allowance u.view.name → bag_size (known u) u.view.name ≤ d.held → d.held + min 1 d.endings ≤ d.allowance
      → ((b : ℕ) → times b d.store.items ≡ length (filter (same_stored (stored u.view.name b)) (known u).stores))
      → length d.store.items ≡ length (stock (known u) u.view.name) → u.shape.blocks ≤ vec_capacity d.store
      → d.endings ≡ many_ending u.shape.blocks (known u) u.view.name → IsDesk d
  desk_of d u me rests legal limits sized allowed holding within tallies many room ended =
      let e : u ≡ d.seat.me.0 = sym (ap (λ (m : At V). m.0) me) in
      record {
        rests = subst (λ (m : At V). Rests m) (sym me) record { awake = rests.0; idle = rests.1; empty = rests.2; none = refl };
        legal = subst (λ (y : SeatView V). IsLegal (opening_of y.shape) y.view.seen) e legal;
        limits = subst (λ (y : SeatView V). IsWithinLimits y.shape) e limits;
        sized = subst (λ (y : SeatView V). IsSized d.seat.table_id y.shape) e sized;
        allowed = allowed ∙ ap (λ (y : SeatView V). (known y).allowance y.view.name) e;
        holding = subst (λ (y : SeatView V). bag_size (known y) y.view.name ≤ d.held) e holding;
        ended = ended ∙ ap (λ (y : SeatView V). many_ending y.shape.blocks (known y) y.view.name) e;
        within = omega (arith, within);
        stored = λ b. tallies b ∙ ap (λ (y : SeatView V). length (filter (same_stored (stored y.view.name b)) (known y).stores)) e;
        many = many ∙ ap (λ (y : SeatView V). length (stock (known y) y.view.name)) e;
        room = subst (λ (y : SeatView V). y.shape.blocks ≤ vec_capacity d.store) e room;
      }

  -- what a desk with name n holds, by what it has seen
  module _ (v : SeatView V) (legal : IsLegal (opening_of v.shape) v.view.seen) (x : Held) (has : Has x (bag (known v) v.view.name)) where
    there : Has x (known v).hands × (x.desk ≡ v.view.name)
    there = part_has (λ (y : Held). y.desk) v.view.name x (known v).hands has

    full : has_object x.handle ≡ true
    full = ((formed (opening_of v.shape) v.view.seen legal).bags x there.0).1

    named : (object_of x.handle ≤ (known v).made) × ((known v).latest (blocks_of (known v) (object_of x.handle)) ≡ object_of x.handle)
    named =
        let mine : Has (held v.view.name x.handle) (known v).hands = subst (λ y. Has (held y x.handle) (known v).hands) there.1 there.0 in
        let n = names_an_object (opening_of v.shape) v.view.seen legal v.view.name x.handle.kind x.handle
        (mine, refl, in_form x.handle.kind x.handle.object x.handle.place full) in (n.1, n.2)

    pub shown_back : held v.view.name (by_block (known v).latest (by_block (blocks_of (known v)) x.handle)) ≡ x
    shown_back =
        let e = to_block (known v) x.handle.kind x.handle.object x.handle.place full named.1 in
        λ i. record { desk = sym there.1 i; handle = e i }

    -- a later state shows it in the same block
    pub shown_alike : (s : State) → ((o : ℕ) → o ≤ (known v).made → blocks_of s o ≡ blocks_of (known v) o)
        → by_block (blocks_of s) x.handle ≡ by_block (blocks_of (known v)) x.handle
    shown_alike s same =
        seen_alike (blocks_of s) (blocks_of (known v)) x.handle.kind x.handle.object x.handle.place (same (object_of x.handle) named.0)

  -- The state at which an event of desk n came, and what is true of every state. What the desk had seen is true there
  pub record Reached (v : SeatView V) (h : List (Entry V)) : Type 0 where
    pub legal : IsLegal (opening_of v.shape) h
    pub fine : Sound (opening_of v.shape) (leads (opening_of v.shape) h)
    pub allowed : Allowed (opening_of v.shape) (leads (opening_of v.shape) h)
    pub there : StoredThere (leads (opening_of v.shape) h)
    pub same : Same (known v) (leads (opening_of v.shape) h) v.view.name
    pub blocks : (o : ℕ) → o ≤ (known v).made → blocks_of (leads (opening_of v.shape) h) o ≡ blocks_of (known v) o

  pub reached : (v : SeatView V) (later : List (Entry V)) → NoneBy v.view.name later → IsLegal (opening_of v.shape) (later ++ v.view.seen)
      → Reached v (later ++ v.view.seen)
  reached v later quiet legal =
      let z = opening_of v.shape in let h = later ++ v.view.seen in
      record {
        legal = legal;
        fine = sound z h legal;
        allowed = allowed z h legal;
        there = stored_there z h legal;
        same = same_kept z later v.view.seen v.view.name quiet;
        blocks = λ o made. (block_kept z later v.view.seen o made).0;
      }

-- no desk has more than there is
pub allowance_within : (z : Opening) (s : State) (n : ℕ) → Allowed z s → s.allowance n ≤ z.allowance
allowance_within z s n al =
    let e = al.shares in
    ⊎_elim (λ (lt : n < s.names). let t = sum_at s.names n s.allowance lt in omega arith)
    (λ (le : s.names ≤ n). let t = al.beyond n le in omega arith) (cases_lt n s.names)

pub allowance_most : {V : Type 0} (d : Inside V) → IsDesk d → d.allowance ≤ most_allowance
allowance_most d h =
    let v = d.seat.me.0 in let z = opening_of v.shape in
    let t = allowance_within z (known v) v.view.name (allowed z v.view.seen h.legal) in
    let a = h.limits.allowance in let b = h.allowed in omega arith
