-- What keeps vacant blocks in stores.
use Rattle.std.proofs.Common.{◌≡◌, ℕ, suc, ◌+◌, ◌<◌, ◌≤◌, Bool, true, false, cond, ◌&&◌, ◌≢◌, ◌⊎◌}
use Rattle.std.proofs.Common.{List, [], ◌∷◌, map, length, ◌==◌, Some, None, Option, sym, refl, ap}
use Rattle.std.proofs.Common.{◌∙◌, inl, inr, ⊎_elim, arith, eq-eqb, ne_eqb}
use Rattle.control_word.proofs.Prelude
use Prelude.{and_from, Block, cases_eq, Cell, cell_of, changes, clears, common, cond-false}
use Prelude.{cond-true, cond_both, empty, ending, eqb-false, filter, finishes, Free, gets, gone}
use Prelude.{handle, Has, HasAll, Held, held, how_often, in_cells, InHand, InShape, is_gone, is_on}
use Prelude.{IsVacant, joins_up, Kind, kind_of, kind_of_member, leaves, live, Member, members}
use Prelude.{more, moved_to, new_object, NumberedHandle, Object, object_of, on_shelf, Opening}
use Prelude.{Owner, Phase, Place, put, renamed, same_held, same_stored, splits_off, State, Stored}
use Prelude.{stored, swaps, tally, times_kept, unmade, Weak, weak_leaves, weak_number, without}
use Rattle.control_word.proofs.history.Cells.{InState, swap_weak}
use Rattle.control_word.proofs.history.Clearing.{gets_tally}
use Rattle.control_word.proofs.history.Making.{made_state, made_weak}
use Rattle.control_word.proofs.history.Moving.{counted_live, less_owners, less_weaks}
use Rattle.control_word.proofs.history.Moving.{owner_counted, weak_same}
use Rattle.control_word.proofs.history.Passing.{handed_common}
use Rattle.control_word.proofs.history.Soundness.{Sound}
use Rattle.control_word.proofs.lists.Sums.{num_passes}
use Rattle.control_word.proofs.lists.Tallies.{held_self, held_true, num, num_map, num_without}
use Rattle.control_word.proofs.lists.Tallies.{put_cases, put_other, put_same, stored_self}
use Rattle.control_word.proofs.lists.Tallies.{stored_true, tally_append}
use Rattle.control_word.specs.Handles.{IsBare}
use Rattle.control_word.specs.State.{weak}
use Rattle.control_word.specs.Limits.{most_members}

-- each vacant block is in a store or on the shelf
abbrev pub Kept : Opening → State → Type 0
Kept z s = (b : ℕ) → InShape z b → IsVacant s b → 0 < times_kept s b

-- no more blocks are vacant, and no fewer are stored
pub kept_still : (z : Opening) (s t : State) → Kept z s → ((b : ℕ) → times_kept s b ≤ times_kept t b)
    → ((q : ℕ) → (t.object q).block ≡ (s.object q).block)
    → ((q : ℕ) → weak_number t q ≡ 0 → weak_number s q ≡ 0) → Kept z t
kept_still z s t kept more block low b shape vacant =
    let a = kept b shape (λ q e. low q (vacant q (block q ∙ e))) in let c = more b in omega arith

pub stored_here : (d b : ℕ) (l : List Stored) → how_often b (stored d b ∷ l) ≡ suc (how_often b l)
stored_here d b l =
    let rest = filter (λ (x : Stored). x.block == b) l in
    ap length (cond-true (b == b) (stored d b ∷ rest) rest (eq-eqb b b refl))

pub stored_else : (d c b : ℕ) (l : List Stored) → b ≢ c → how_often b (stored d c ∷ l) ≡ how_often b l
stored_else d c b l ne =
    let rest = filter (λ (x : Stored). x.block == b) l in
    ap length (cond-false (c == b) (stored d c ∷ rest) rest (ne_eqb c b (λ e. ne (sym e))))

-- the block of o alone may have become vacant, and goes to a store
kept_freed : (z : Opening) (s t : State) (d o : ℕ) → Kept z s
    → t.stores ≡ stored d (s.object o).block ∷ s.stores
    → t.shelved ≡ s.shelved
    → ((q : ℕ) → (t.object q).block ≡ (s.object q).block)
    → ((q : ℕ) → q ≢ o → weak_number t q ≡ 0 → weak_number s q ≡ 0) → Kept z t
kept_freed z s t d o kept is same block low b shape vacant =
    let c = (s.object o).block in
    let n : how_often b t.stores ≡ how_often b (stored d c ∷ s.stores) = ap (how_often b) is in
    let m : on_shelf t b ≡ on_shelf s b = ap (λ (f : ℕ → Bool). cond (f b) 1 0) same in
    ⊎_elim
    (λ (e : b ≡ c).
    let a = ap (λ m. how_often m (stored d c ∷ s.stores)) e in
    let u = stored_here d c s.stores in omega arith)
    (λ (ne : b ≢ c).
    let u = stored_else d c b s.stores ne in
    let apart = λ (q : ℕ) (e : (s.object q).block ≡ b) (same : q ≡ o).
    ne (sym e ∙ ap (λ m. (s.object m).block) same) in
    let a = kept b shape (λ q e. low q (apart q e) (vacant q (block q ∙ e))) in omega arith)
    (cases_eq b c)

-- a handle of an object, written out
pub written_out : (h : NumberedHandle) (k : Kind) → h.kind ≡ k → h.object ≡ Some (object_of h)
    → h ≡ handle k (Some (object_of h)) h.place
written_out h k kind object = λ i. record { kind = kind i; object = object i; place = h.place }

-- stores, names and allowances don't count
weak_beside : (s : State) (l : List Held) (r : List Stored) (n : ℕ) (j : ℕ → Bool) (a : ℕ → ℕ) (q : ℕ)
    → let t : State = record s { hands = l; stores = r; names = n; joined = j; allowance = a } in
    weak t q ≡ weak (record s { hands = l }) q
unfolding weak
weak_beside s l r n j a q = refl

weak_gets : (s : State) (d : ℕ) (h : NumberedHandle) (q : ℕ) → weak (gets d h s) q ≡ tally Weak q (h ∷ []) + weak s q
unfolding weak
weak_gets s d h q = gets_tally Weak q d h s.hands (in_cells s)

weak_hands : (s : State) (l : List Held) (q : ℕ)
    → num (λ (x : Held). is_on Weak q x.handle) l ≡ num (λ (x : Held). is_on Weak q x.handle) s.hands
    → weak (record s { hands = l }) q ≡ weak s q
unfolding weak
weak_hands s l q e =
    let f = λ (x : Held). x.handle in
    omega (
      arith,
      tally_append Weak q (map f l) (in_cells s),
      tally_append Weak q (map f s.hands) (in_cells s),
      num_map (is_on Weak q) f l,
      num_map (is_on Weak q) f s.hands,
    )

-- only the hands change
pub kept_hands : (z : Opening) (s : State) (l : List Held) → Kept z s
    → ((q : ℕ) → weak s q ≤ weak (record s { hands = l }) q) → Kept z (record s { hands = l })
kept_hands z s l kept more =
    kept_still z s (record s { hands = l }) kept (λ b. omega arith) (λ q. refl)
    (λ q e. let t = more q in omega arith)

pub kept_load : (z : Opening) (s : State) (d : ℕ) (h : NumberedHandle) → Kept z s → Kept z (gets d h s)
kept_load z s d h kept = kept_hands z s (gets d h s).hands kept (λ q. let t = weak_gets s d h q in omega arith)

-- one object changes, and keeps its block and its common count
common_put : (s : State) (o q : ℕ) (x : Object) → common x.phase ≡ common (s.object o).phase
    → common (put s.object o x q).phase ≡ common (s.object q).phase
common_put s o q x e =
    put_cases (λ j y. common y.phase ≡ common (s.object j).phase) s.object o x q
    (λ t. e ∙ ap (λ m. common (s.object m).phase) (sym t)) (λ ne. refl)

block_put : (s : State) (o q : ℕ) (x : Object) → x.block ≡ (s.object o).block
    → (put s.object o x q).block ≡ (s.object q).block
block_put s o q x e =
    put_cases (λ j y. y.block ≡ (s.object j).block) s.object o x q
    (λ t. e ∙ ap (λ m. (s.object m).block) (sym t)) (λ ne. refl)

members_put : (s : State) (o q : ℕ) (x : Object) → members x ≡ members (s.object o)
    → members (put s.object o x q) ≡ members (s.object q)
members_put s o q x e =
    put_cases (λ j y. members y ≡ members (s.object j)) s.object o x q
    (λ t. e ∙ ap (λ m. members (s.object m)) (sym t)) (λ ne. refl)

pub kept_swap : (z : Opening) (s : State) (d : ℕ) (c : Cell) (new : NumberedHandle) → Kept z s → InState s c
    → InHand s d (kind_of s c) new → Kept z (swaps d c new (cell_of s c) s)
kept_swap z s d (Free c) new kept there hand =
    kept_still z s (swaps d (Free c) new (s.cell c) s) kept (λ b. omega arith) (λ q. refl)
    (λ q e. let t = swap_weak s d (Free c) new there hand q in omega arith)
kept_swap z s d (Member o m) new kept there hand =
    let x = record (s.object o) { member = put (s.object o).member m new } in
    kept_still z s (swaps d (Member o m) new ((s.object o).member m) s) kept (λ b. omega arith)
    (λ q. block_put s o q x refl)
    (λ q e.
    let t = swap_weak s d (Member o m) new there hand q in let u = common_put s o q x refl in omega arith)

-- an ending object's member goes as by a swap with an empty handle
pub kept_clear : (z : Opening) (s : State) (d o m : ℕ) → Kept z s → m < most_members → o < suc s.made
    → Kept z (clears d o m ((s.object o).member m) s)
kept_clear z s d o m kept lt made =
    kept_swap z s d (Member o m) (empty (kind_of_member s.owners m)) kept (lt, made)
    (refl, inl (refl, (tt, bare (kind_of_member s.owners m))))
  where
    bare : (k : Kind) → IsBare k None None
    bare Owner = tt
    bare Weak = refl

pub kept_make : (z : Opening) (s : State) (d b : ℕ) (enabled null : Bool) (fields : List ℕ) → Sound z s
    → Kept z s → Has (stored d b) s.stores → Kept z (made_state z s d b enabled null fields)
kept_make z s d b enabled null fields fine kept has c shape vacant =
    let x = new_object s.owners b enabled null fields in
    let t = made_state z s d b enabled null fields in
    let n = suc s.made in
    let new : t.object n ≡ x = put_same s.object n x n refl in
    ⊎_elim
    (λ (e : c ≡ b).
    let a = vacant n (ap (λ (y : Object). y.block) new ∙ sym e) in
    let u : common (t.object n).phase ≡ 1 = ap (λ (y : Object). common y.phase) new in absurd (omega arith))
    (λ (ne : c ≢ b).
    let low : (q : ℕ) → (s.object q).block ≡ c → weak_number s q ≡ 0 = λ q e.
    ⊎_elim (λ (same : q ≡ n). fine.unmade_free q (fine.fresh q (omega arith)))
    (λ (no : q ≢ n).
    let y : t.object q ≡ s.object q = put_other s.object n x q no in
    let v = vacant q (ap (λ (y : Object). y.block) y ∙ e) in
    let u : common (t.object q).phase ≡ common (s.object q).phase = ap (λ (y : Object). common y.phase) y in
    let w = made_weak z s d b enabled null fields q in omega arith) (cases_eq q n) in
    let a = kept c shape low in
    let u = num_without same_stored stored_true stored_self (λ x. x.block == c) (stored d b) s.stores has in
    let w = stored_else d b c [] ne in omega arith)
    (cases_eq c b)

pub kept_leave : (z : Opening) (s : State) (d o : ℕ) (p : Option Place) (last : Bool) → Sound z s → Kept z s
    → Has (held d (handle Owner (Some o) p)) s.hands
    → Kept z (leaves d (handle Owner (Some o) p) last s)
kept_leave z s d o p last fine kept has =
    let old = s.object o in
    let x = cond last (moved_to (ending d) old) old in
    let l = without same_held (held d (handle Owner (Some o) p)) s.hands in
    let alive = counted_live z s o fine (owner_counted s d o p has) in
    let there : common old.phase ≡ 1 = ap common alive in
    let y = moved_to (ending d) old in
    let phase = cond_both last y old (λ u. common u.phase ≡ common old.phase) (λ e. omega arith) (λ e. refl) in
    let block = cond_both last y old (λ u. u.block ≡ old.block) (λ e. refl) (λ e. refl) in
    let same = cond_both last y old (λ u. members u ≡ members old) (λ e. refl) (λ e. refl) in
    kept_still z s (leaves d (handle Owner (Some o) p) last s) kept (λ b. omega arith)
    (λ q. block_put s o q x block)
    (λ q e.
    let a = weak_same s l (put s.object o x) (λ j. members_put s o j x same) q in
    let b = (less_owners s d o p has q).2 in let c = common_put s o q x phase in omega arith)

gone_or_not : (p : Phase) → common p ≡ 0 → (p ≡ unmade) ⊎ (is_gone p ≡ true)
gone_or_not unmade e = inl refl
gone_or_not live e = absurd (omega arith)
gone_or_not gone e = inr refl
gone_or_not (ending d) e = absurd (omega arith)

pub kept_weak_leave : (z : Opening) (s : State) (d o : ℕ) (p : Option Place) (vacant : Bool) → Sound z s
    → Kept z s → Has (held d (handle Weak (Some o) p)) s.hands
    → vacant ≡ (weak s o == 1 && is_gone (s.object o).phase)
    → Kept z (weak_leaves d (handle Weak (Some o) p) vacant s)
kept_weak_leave z s d o p true fine kept has is =
    let l = without same_held (held d (handle Weak (Some o) p)) s.hands in
    kept_freed z s (weak_leaves d (handle Weak (Some o) p) true s) d o kept refl refl (λ q. refl)
    (λ q ne e.
    let a = weak_beside s l (stored d (s.object o).block ∷ s.stores) s.names s.joined s.allowance q in
    let b = (less_weaks s d o p has q).1 ne in omega arith)
kept_weak_leave z s d o p false fine kept has is =
    kept_still z s (weak_leaves d (handle Weak (Some o) p) false s) kept (λ b. omega arith) (λ q. refl)
    (λ q e. ⊎_elim (λ (same : q ≡ o). absurd (stays q same e))
    (λ (ne : q ≢ o). let b = (less_weaks s d o p has q).1 ne in omega arith) (cases_eq q o))
  where
    stays : (q : ℕ) → q ≡ o → weak_number (weak_leaves d (handle Weak (Some o) p) false s) q ≡ 0 → ⊥
    stays q same e =
        let a = (less_weaks s d o p has q).0 same in
        let b = ap (weak s) same in
        let c = ap (λ m. common (s.object m).phase) same in
        let one : weak s o ≡ 1 = omega arith in
        let none : common (s.object o).phase ≡ 0 = omega arith in
        ⊎_elim (λ u. let t = fine.unmade_free o u in omega arith)
        (λ u. let t : false ≡ true = is ∙ and_from _ _ (eq-eqb (weak s o) 1 one) u in cc)
        (gone_or_not (s.object o).phase none)

pub kept_finish : (z : Opening) (s : State) (d o : ℕ) (vacant : Bool) → Kept z s → vacant ≡ (weak s o == 0)
    → Kept z (finishes d o vacant s)
kept_finish z s d o vacant kept is = go vacant is
  where
    x : Object
    x = moved_to gone (s.object o)

    other : (q : ℕ) → q ≢ o
        → common (put s.object o (moved_to gone (s.object o)) q).phase ≡ common (s.object q).phase
    other q ne = ap (λ (y : Object). common y.phase) (put_other s.object o (moved_to gone (s.object o)) q ne)

    same : (q : ℕ) → weak (changes o (moved_to gone (s.object o)) s) q ≡ weak s q
    same q =
        weak_same s s.hands (put s.object o (moved_to gone (s.object o)))
        (λ j. members_put s o j (moved_to gone (s.object o)) refl) q

    go : (v : Bool) → v ≡ (weak s o == 0) → Kept z (finishes d o v s)
    go true e =
        kept_freed z s (finishes d o true s) d o kept refl refl (λ q. block_put s o q x refl)
        (λ q ne none.
        let r = stored d (s.object o).block ∷ s.stores in
        let a = weak_beside (changes o x s) s.hands r s.names s.joined s.allowance q in
        let b = same q in let c = other q ne in omega arith)
    go false e =
        kept_still z s (finishes d o false s) kept (λ b. omega arith) (λ q. block_put s o q x refl)
        (λ q none.
        let b = same q in
        ⊎_elim
        (λ (t : q ≡ o).
        let some' = eqb-false (weak s o) 0 (sym e) in let u = ap (weak s) t in absurd (some' (omega arith)))
        (λ (ne : q ≢ o). let c = other q ne in omega arith) (cases_eq q o))

pub kept_split : (z : Opening) (s : State) (d to n : ℕ) (hs : List NumberedHandle) (bs : List Block) → Kept z s
    → HasAll same_held (λ (h : NumberedHandle). held d h) hs s.hands
    → HasAll same_stored (λ (b : Block). stored d b.0) bs s.stores
    → Kept z (splits_off d to n hs bs s)
kept_split z s d to n hs bs kept hh hb =
    let t = splits_off d to n hs bs s in
    kept_still z s t kept
    (λ b.
    let p = λ (x : Stored). x.block == b in
    let was = λ (c : Block). stored d c.0 in
    let is = λ (c : Block). stored to c.0 in
    let a = num_passes same_stored stored_true stored_self was is p bs s.stores hb in
    omega (arith, num_map p was bs, num_map p is bs))
    (λ q. refl)
    (λ q e.
    let p = λ (x : Held). is_on Weak q x.handle in
    let was = λ (h : NumberedHandle). held d h in
    let is = λ (h : NumberedHandle). held to h in
    let a = num_passes same_held held_true held_self was is p hs s.hands hh in
    let same : num p t.hands ≡ num p s.hands = omega (arith, num_map p was hs, num_map p is hs) in
    let b = weak_beside s t.hands t.stores t.names t.joined t.allowance q in
    let c = weak_hands s t.hands q same in omega arith)

pub kept_join : (z : Opening) (s : State) (d other : ℕ) → Kept z s → Kept z (joins_up d other s)
kept_join z s d other kept =
    let t = joins_up d other s in
    kept_still z s t kept
    (λ b.
    let is = λ (x : Stored). stored (renamed other d x.desk) x.block in
    let u = num_map (λ (x : Stored). x.block == b) is s.stores in omega arith)
    (λ q. refl)
    (λ q e.
    let p = λ (x : Held). is_on Weak q x.handle in
    let same = num_map p (λ (x : Held). held (renamed other d x.desk) x.handle) s.hands in
    let a = weak_beside (record s { object = t.object }) t.hands t.stores t.names t.joined t.allowance q in
    let b = weak_same s t.hands t.object (λ j. refl) q in
    let c = weak_hands s t.hands q same in let u = handed_common other d (s.object q).phase in omega arith)
