-- Handles that go into a cell or come out of it: their words, their funds, and room for them.
use Rattle.std.proofs.Common.{◌≡◌, ℕ, suc, ◌≤◌, Bool, false, cond, [], ◌∷◌, length, ◌==◌, Some}
use Rattle.std.proofs.Common.{None, Option, sym, refl, ap, ◌∙◌, subst, inl, inr, ⊎_elim, arith}
use Rattle.control_block.proofs.Prelude
use Prelude.{allowed, bag_one, bag_size, Block, block_of, blocks_of, Cell, cond_both, debt, drawn, fills}
use Prelude.{filter, Free, get_elem?, gets, handle, has_object, HasRoom, HasRoomFor, Held, held}
use Prelude.{held_busy, held_self, held_true, Holds, InHand, IsBusy, Kind, known, leads, loses}
use Prelude.{Member, num_without, NumberedHandle, object_of, opening_of, Ruled, same_counts}
use Prelude.{same_held, SeatView, Shape, slot, some, sound, spot, State, without, written}
use Rattle.atomic_table.specs.Table as Table
use Rattle.control_word.specs.Events.{swaps}
use Rattle.control_block.proofs.Passage.{held_there, still_held, still_room}

no_object : (o : ℕ) (y : Option ℕ) → y ≡ Some o → y ≡ None → ⊥
no_object o y e n = some_none (sym e ∙ n)
  where
    some_none : {x : ℕ} → Some x ≡ None → ⊥
    some_none e = cc

pub same_number : (b c : ℕ) → ◌≡◌ {A = Option Block} (Some record { 0 = b }) (Some record { 0 = c }) → b ≡ c
same_number b c e = ap (λ (y : Option Block). first y) e
  where
    first : Option Block → ℕ
    first None = b
    first (Some x) = x.0

-- what a bag has after a handle came in
pub gets_most : (s : State) (d : ℕ) (h : NumberedHandle) → bag_size (gets d h s) d ≤ suc (bag_size s d)
gets_most s d h =
    cond_both (has_object h) (held d h ∷ s.hands) s.hands (λ l. length (filter (λ (x : Held). x.desk == d) l) ≤ suc (bag_size s d))
    (λ e. let a = bag_one d h s.hands in omega arith) (λ e. omega arith)

pub fills_hands : (c : Cell) (x : NumberedHandle) (s : State) → (fills c x s).hands ≡ s.hands
fills_hands (Free c) x s = refl
fills_hands (Member o m) x s = refl

pub fills_allowance : (c : Cell) (x : NumberedHandle) (s : State) → (fills c x s).allowance ≡ s.allowance
fills_allowance (Free c) x s = refl
fills_allowance (Member o m) x s = refl

pub fills_stores : (c : Cell) (x : NumberedHandle) (s : State) → (fills c x s).stores ≡ s.stores
fills_stores (Free c) x s = refl
fills_stores (Member o m) x s = refl

-- what goes in makes no desk's bag larger
swaps_most : (s : State) (d : ℕ) (c : Cell) (h old : NumberedHandle) → bag_size (swaps d c h old s) d ≤ suc (bag_size (loses d h s) d)
swaps_most s d c h old =
    let b = gets_most (fills c h (loses d h s)) d old in
    let q = ap (λ l. length (filter (λ (x : Held). x.desk == d) l)) (fills_hands c h (loses d h s)) in omega arith

module _ {V : Type 0} where
  -- what is owed for a handle that has so many of its funds
  pub debt_drawn : (block : ℕ → ℕ) (h : NumberedHandle) (f : ℕ) → ◌≡◌ (debt {V = V} h (block_of block h.object) f) (drawn block h f)
  debt_drawn block h f = go h.object refl
    where
      go : (o : Option ℕ) → h.object ≡ o → debt {V = V} h (block_of block h.object) f ≡ drawn block h f
      go None e = subst (λ y. debt {V = V} (handle h.kind y h.place) (block_of block y) f ≡ drawn block (handle h.kind y h.place) f) (sym e) refl
      go (Some o) e = subst (λ y. debt {V = V} (handle h.kind y h.place) (block_of block y) f ≡ drawn block (handle h.kind y h.place) f) (sym e) refl

  module _ (k : Shape) (s : Table.State (Option V) (SeatView V)) (r : Ruled k s) (id : ℕ) (v : SeatView V) (at : get_elem? s.views id ≡ some v)
      (awake : v.view.spent ≡ false) (m : Kind) (h : NumberedHandle) (hand : InHand (known v) v.view.name m h) where
    -- a handle in hand by what the desk has seen is in hand
    pub hand_there : (j : Kind) → j ≡ m → InHand (leads (opening_of k) r.history) v.view.name j h
    hand_there j e = (
      hand.0 ∙ sym e,
      ⊎_elim inl (λ (t : Holds (known v) v.view.name m h). inr (still_held k s r id v at awake (held v.view.name h) refl t.0, t.1 ∙ sym e, t.2)) hand.1,
    )

    -- and its object is in the block that the desk knows
    pub hand_object : (o : ℕ) → h.object ≡ Some o
        → IsBusy (leads (opening_of k) r.history) o × (((leads (opening_of k) r.history).object o).block ≡ ((known v).object o).block)
    hand_object o e =
        ⊎_elim (λ t. absurd (no_object o h.object e t.0))
        (λ (t : Holds (known v) v.view.name m h).
        let z = opening_of k in
        let it = written (known v).hands v.view.name m h t.0 t.1 t.2 in
        let n : object_of h ≡ o = ap (λ y. object_of (handle h.kind y h.place)) e in
        let has = subst (λ x. Rattle.control_word.specs.State.Has (held v.view.name (handle m (Some x) h.place)) (known v).hands) n it in
        let mine = held_there k s r id v at awake m o h.place ((known v).object o).block record { has = has; there = refl } in
        (held_busy z (leads z r.history) v.view.name o m h.place (sound z r.history r.stands.stands.legal) mine.0, mine.1)) hand.1

    pub hand_block : block_of (blocks_of (known v)) h.object ≡ block_of (blocks_of (leads (opening_of k) r.history)) h.object
    hand_block = go h.object refl
      where
        go : (o : Option ℕ) → h.object ≡ o → block_of (blocks_of (known v)) o ≡ block_of (blocks_of (leads (opening_of k) r.history)) o
        go None e = refl
        go (Some o) e = ap (λ b. Some record { 0 = b }) (sym (hand_object o e).1)

    -- an object that is counted, in the block of the handle's, is the handle's
    pub same_object : (q : Option ℕ) → ((o : ℕ) → q ≡ Some o → IsBusy (leads (opening_of k) r.history) o)
        → block_of (blocks_of (leads (opening_of k) r.history)) q ≡ block_of (blocks_of (leads (opening_of k) r.history)) h.object → q ≡ h.object
    same_object q busy e = go q h.object refl refl e
      where
        none_some : {b : Block} → None ≡ Some b → ⊥
        none_some e = cc

        go : (x y : Option ℕ) → q ≡ x → h.object ≡ y
            → block_of (blocks_of (leads (opening_of k) r.history)) x ≡ block_of (blocks_of (leads (opening_of k) r.history)) y → q ≡ h.object
        go None None a b c = a ∙ sym b
        go None (Some y) a b c = absurd (none_some c)
        go (Some x) None a b c = absurd (none_some (sym c))
        go (Some x) (Some y) a b c =
            let z = opening_of k in let t = leads z r.history in
            let one = same_counts z t (sound z r.history r.stands.stands.legal) m m x y (busy x a) (hand_object y b).0
            (ap (λ n. spot n (slot m)) (same_number _ _ c)) in
            a ∙ (ap Some one.1 ∙ sym b)

    -- a swap keeps to the allowance
    pub room_swapped : (old : NumberedHandle) (c : Cell) → (h.object ≡ None → HasRoomFor v)
        → HasRoom (swaps v.view.name c h old (leads (opening_of k) r.history)) v.view.name
    room_swapped old c more = go h.object refl
      where
        go : (o : Option ℕ) → h.object ≡ o → HasRoom (swaps v.view.name c h old (leads (opening_of k) r.history)) v.view.name
        go None e =
            let t = leads (opening_of k) r.history in let d = v.view.name in let a = still_room k s r id v at awake (more e) in
            let l : loses d h t ≡ t = ap (λ y. loses d (handle h.kind y h.place) t) e in
            let b = swaps_most t d c h old in let q = ap (λ y. bag_size y d) l in
            let f = ap (λ (g : ℕ → ℕ). g d) (fills_allowance c h (loses d h t)) in omega arith
        go (Some o) e =
            let t = leads (opening_of k) r.history in let d = v.view.name in let a = (allowed (opening_of k) r.history r.stands.stands.legal).rooms d in
            let b = swaps_most t d c h old in let f = ap (λ (g : ℕ → ℕ). g d) (fills_allowance c h (loses d h t)) in let p : Held
            → Bool = λ x. x.desk == d in
            let has : Rattle.control_word.specs.State.Has (held d h) t.hands =
            ⊎_elim (λ n. absurd (no_object o h.object e n.0)) (λ n. n.0) (hand_there m refl).1 in
            let l : bag_size (loses d h t) d ≡ length (filter p (without same_held (held d h) t.hands)) =
            ap (λ y. length (filter p (cond (has_object (handle h.kind y h.place)) (without same_held (held d h) t.hands) t.hands))) e in
            let w = num_without same_held held_true held_self p (held d h) t.hands has in let u = bag_one d h [] in omega arith
