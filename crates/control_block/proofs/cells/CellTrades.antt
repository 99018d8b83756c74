-- What an event on a cell trades: it hands a handle out, and takes one in.
use Rattle.std.proofs.Common.{◌≡◌, ℕ, ◌+◌, ◌<◌, Bool, true, false, cond, List, ◌∷◌, ◌++◌, Some}
use Rattle.std.proofs.Common.{None, Option, sym, refl, ap, ◌∙◌, subst, inl, inr, arith}
use Rattle.control_block.proofs.Prelude
use Prelude.{Added, after, Block, block_kept, Cell, cell_place, ClearMember, Compare, cond_both}
use Prelude.{empty, entry, Event, Free, gets, handle, Has, has_object, has_part, Held, held}
use Prelude.{held_made, HoldingInBlock, Idle, InShape, IsCellAt, IsLegal, IsSized, Kind, kind_in}
use Prelude.{known, leads, legal_seen, Load, loses, Member, names_an_object, NumberedHandle}
use Prelude.{opening_of, Owner, part_has, Pending, Place, same_kept, SeatView, slot, sound, spot}
use Prelude.{State, Swap, TableId, Weak}
use Rattle.control_block.proofs.words.Hands.{fills_hands}
use Rattle.control_block.specs.Rule.{members_of}

pub slot_low : (k : Kind) → slot k < 16
slot_low Owner = omega arith
slot_low Weak = omega arith

module _ {V : Type 0} where
  -- the event hands a handle out, and takes this one in
  abbrev pub Trades : (NumberedHandle → Event V) → NumberedHandle → Type 0
  Trades e lost = (t : State) (n : ℕ) (h : NumberedHandle) → (after t n (e h)).hands ≡ (gets n h (loses n lost t)).hands

  -- a handle that came out is in the bag
  pub in_bag : (v w : SeatView V) (p : Pending V) (e : NumberedHandle → Event V) (lost h : NumberedHandle) (o : ℕ) → Trades e lost → Added v p None (e h) w
      → h.object ≡ Some o → Has (held v.view.name h) (known w).hands
  in_bag v w p e lost h o trades a is =
      let z = opening_of v.shape in let n = v.view.name in let t = leads z (a.between ++ v.view.seen) in let s = loses n lost t in
      let got : Has (held n h) (gets n h s).hands =
      subst (λ y. Has (held n (handle h.kind y h.place)) (gets n (handle h.kind y h.place) s).hands) (sym is) (inl refl) in
      subst (λ (u : SeatView V). Has (held n h) (known u).hands) (sym a.now) (subst (Has (held n h)) (sym (trades t n h)) got)

  -- so its block is one of the shape
  pub came_in_shape : (v w : SeatView V) (p : Pending V) (e : NumberedHandle → Event V) (lost h : NumberedHandle) (k : Kind) (o : ℕ) (b : Block)
      → Trades e lost → Added v p None (e h) w → h.kind ≡ k → h.object ≡ Some o → ((known w).object o).block ≡ b.0
      → InShape (opening_of v.shape) b.0
  came_in_shape v w p e lost h k o b trades a kind is there =
      let has = in_bag v w p e lost h o trades a is in
      let shape : w.shape ≡ v.shape = ap (λ (u : SeatView V). u.shape) a.now in
      let legal = subst (λ y. IsLegal (opening_of y) w.view.seen) (sym shape) a.legal in
      let has' = subst (λ y. Has (held v.view.name (handle k y h.place)) (known w).hands) is
      (subst (λ y. Has (held v.view.name (handle y h.object h.place)) (known w).hands) kind has) in
      let n = names_an_object (opening_of w.shape) w.view.seen legal v.view.name k (handle k (Some o) h.place) (has', refl, refl) in
      subst (λ y. InShape (opening_of y) b.0) shape (subst (InShape (opening_of w.shape)) there n.3)

  -- and the table's
  pub came_inside : (v w : SeatView V) (p : Pending V) (e : NumberedHandle → Event V) (lost h : NumberedHandle) (k : Kind) (o : ℕ) (b : Block) (id : TableId)
      → Trades e lost → Added v p None (e h) w → h.kind ≡ k → h.object ≡ Some o → ((known w).object o).block ≡ b.0 → IsSized id v.shape
      → (0 < b.0) × (spot b.0 (slot k) < id.words)
  came_inside v w p e lost h k o b id trades a kind is there sized =
      let inside = came_in_shape v w p e lost h k o b trades a kind is there in let l0 = inside.0 in let l1 = inside.1 in
      let low = slot_low k in let words = sized.words in (omega arith, omega arith)

  -- an event by which the desk loses no handle leaves it those that it has, in their blocks
  still_holding : (v w : SeatView V) (e : Event V) (k : Kind) (o : ℕ) (p : Option Place) (b : ℕ)
      → ((t : State) (n : ℕ) (x : Held) → Has x t.hands → Has x (after t n e).hands) → Added v Idle None e w
      → HoldingInBlock v k o p b → HoldingInBlock w k o p b
  still_holding v w e k o p b keeps a mine =
      let z = opening_of v.shape in let n = v.view.name in let l = a.between ++ v.view.seen in let t = leads z l in
      let legal = subst (IsLegal z) (ap (λ (u : SeatView V). u.view.seen) a.now) a.legal in
      let seen = legal_seen z a.between v.view.seen legal.0 in let s = same_kept z a.between v.view.seen n a.quiet in
      let x = held n (handle k (Some o) p) in
      let has : Has x t.hands = (part_has (λ (y : Held). y.desk) n x t.hands (subst (Has x) (sym s.in_bag)
      (has_part (λ (y : Held). y.desk) n x (known v).hands refl mine.has))).0 in
      subst (λ (u : SeatView V). HoldingInBlock u k o p b) (sym a.now)
      record {
        has = keeps t n x has;
        there = (block_kept z (entry n e ∷ a.between) v.view.seen o (held_made z (known v) n o k p (sound z v.view.seen seen) mine.has)).0 ∙ mine.there;
      }

  -- so a cell that is open to it stays so
  pub cell_still : (v w : SeatView V) (e : Event V) (c : Cell) (i : ℕ) (k : Kind)
      → ((t : State) (n : ℕ) (x : Held) → Has x t.hands → Has x (after t n e).hands)
      → Added v Idle None e w → IsCellAt v c i × (k ≡ kind_in v.shape c) → IsCellAt w c i × (k ≡ kind_in w.shape c)
  cell_still v w e c i k keeps a t = (there c t.0, t.1 ∙ ap (λ y. kind_in y c) (sym shape))
    where
      shape : w.shape ≡ v.shape
      shape = ap (λ (u : SeatView V). u.shape) a.now

      there : (d : Cell) → IsCellAt v d i → IsCellAt w d i
      there (Free n) at = subst (λ y. (n < y.shared_cells + y.weak_cells) × (i ≡ cell_place y.blocks n)) (sym shape) at
      there (Member o m) at = let q = at.1 in (subst (λ y. m < members_of y) (sym shape) at.0, (q.0, q.1, still_holding v w e Owner o q.0 q.1 keeps a q.2, q.3))

gets_keeps : (d : ℕ) (h : NumberedHandle) (s : State) (x : Held) → Has x s.hands → Has x (gets d h s).hands
gets_keeps d h s x has = cond_both (has_object h) (held d h ∷ s.hands) s.hands (Has x) (λ _. inr has) (λ _. has)

pub load_keeps : (V : Type 0) (c : Cell) (h : NumberedHandle) (t : State) (n : ℕ) (x : Held) → Has x t.hands → Has x (after {V = V} t n (Load c h)).hands
load_keeps V c h t n x has = gets_keeps n h t x has

pub differ_keeps : (V : Type 0) (c : Cell) (expected new h : NumberedHandle) (weak : Bool) (t : State) (n : ℕ) (x : Held)
    → Has x t.hands → Has x (after {V = V} t n (Compare c expected new h false weak)).hands
differ_keeps V c expected new h weak t n x has = gets_keeps n h t x has

pub load_trades : (V : Type 0) (c : Cell) (k : Kind) → Trades {V = V} (λ h. Load c h) (empty k)
load_trades V c k t n h = refl

pub swap_trades : (V : Type 0) (c : Cell) (new : NumberedHandle) → Trades {V = V} (λ h. Swap c new h) new
swap_trades V c new t n h = ap (λ (l : List Held). cond (has_object h) (held n h ∷ l) l) (fills_hands c new (loses n new t))

pub differ_trades : (V : Type 0) (c : Cell) (k : Kind) (expected new : NumberedHandle) (weak : Bool)
    → Trades {V = V} (λ h. Compare c expected new h false weak) (empty k)
differ_trades V c k expected new weak t n h = refl

pub compare_trades : (V : Type 0) (c : Cell) (expected new : NumberedHandle) (weak : Bool) → Trades {V = V} (λ h. Compare c expected new h true weak) new
compare_trades V c expected new weak t n h = ap (λ (l : List Held). cond (has_object h) (held n h ∷ l) l) (fills_hands c new (loses n new t))

pub clear_trades : (V : Type 0) (o m : ℕ) (k : Kind) → Trades {V = V} (λ h. ClearMember o m h) (empty k)
clear_trades V o m k t n h = refl
