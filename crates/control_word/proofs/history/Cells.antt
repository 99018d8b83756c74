-- Handles in cells, and what a change of a cell does to the counts.
use Rattle.std.proofs.Common.{◌≡◌, ℕ, zero, suc, ◌+◌, ◌<◌, ◌≤◌, false, ◌≢◌, List, [], ◌∷◌, ◌++◌}
use Rattle.std.proofs.Common.{map, Some, None, Option, sym, refl, ap, ◌∙◌, subst, ⊎_elim, arith}
use Rattle.control_word.proofs.Prelude
use Prelude.{cases_eq, Cell, cell_of, common, cond_both, empty, fills, Free, gets, handle, handles}
use Prelude.{Has, has_object, Held, held, in_cells, InHand, IsOpen, Kind, kind_of, kind_of_member}
use Prelude.{live, loses, Member, members, NumberedHandle, Object, object_of, Opening, Owner}
use Prelude.{Place, put, same_held, State, swaps, tally, unmade, upto, Weak, without}
use Rattle.control_word.proofs.history.Clearing.{gets_tally, no_object, was_made}
use Rattle.control_word.proofs.history.Moving.{counted_live, fits_same, owner_counted, sound_moves}
use Rattle.control_word.proofs.history.Moving.{sound_owner, sound_weak}
use Rattle.control_word.proofs.history.Soundness.{OwnersFit, Sound}
use Rattle.control_word.proofs.lists.Tallies.{put_cases, put_other, put_same, tally_append}
use Rattle.control_word.proofs.lists.Tallies.{tally_here, tally_without, upto_change}
use Rattle.control_word.specs.State.{count, weak}
use Rattle.control_word.specs.Limits.{most_members}

pub tally_upto : (k : Kind) (r n j : ℕ) (f : ℕ → List NumberedHandle) → j < n → tally k r (f j) ≤ tally k r (upto n f)
tally_upto k r zero j f lt = absurd (omega arith)
tally_upto k r (suc n) j f lt =
    ⊎_elim (λ (e : j ≡ n). let t = ap (λ x. tally k r (f x)) e in omega (arith, tally_append k r (f n) (upto n f)))
    (λ (ne : j ≢ n). let t = tally_upto k r n j f (omega arith) in omega (arith, tally_append k r (f n) (upto n f))) (cases_eq j n)

-- the handles in cells are counted, so their objects were made
pub member_counted : (k : Kind) (r : ℕ) (x : Object) (m : ℕ) → m < most_members → tally k r (x.member m ∷ []) ≤ tally k r (members x)
member_counted k r x m lt = tally_upto k r most_members m (λ j. x.member j ∷ []) lt

pub one_of : (k : Kind) (r : ℕ) (x : NumberedHandle) → x.kind ≡ k → x.object ≡ Some r → tally k r (x ∷ []) ≡ 1
one_of k r x kind object =
    subst (λ j. tally k r (handle j x.object x.place ∷ []) ≡ 1) (sym kind) (subst
    (λ n. tally k r (handle k n x.place ∷ []) ≡ 1) (sym object) (tally_here k r x.place []))

pub not_unmade : (z : Opening) (s : State) (r : ℕ) → Sound z s → (k : Kind) → 0 < tally k r (handles s) → (s.object r).phase ≢ unmade
unfolding count weak
not_unmade z s r sound Owner h e = let f : OwnersFit unmade (count s r) = subst (λ p. OwnersFit p (count s r)) e (sound.owners r) in
    let g : count s r ≡ 0 = f in omega arith
not_unmade z s r sound Weak h e = let f = sound.unmade_free r e in let g : weak s r ≡ 0 = omega arith in omega arith

module _ (z : Opening) (s : State) (sound : Sound z s) where
  pub in_cells_made : (r : ℕ) (k : Kind) → 0 < tally k r (in_cells s) → r < suc s.made
  in_cells_made r k h = was_made z s r sound (not_unmade z s r sound k (let t = tally_append k r (map (λ x. x.handle) s.hands) (in_cells s) in omega arith))

  pub cell_made : (c r : ℕ) → c < s.cells → (s.cell c).object ≡ Some r → r < suc s.made
  cell_made c r lt e =
      let k = (s.cell c).kind in
      let cells = upto s.cells (λ j. s.cell j ∷ []) in
      let rest = upto (suc s.made) (λ o. members (s.object o)) in
      let t = tally_upto k r s.cells c (λ j. s.cell j ∷ []) lt in let u = one_of k r (s.cell c) refl e in
      in_cells_made r k (let w = tally_append k r cells rest in omega arith)

  pub member_made : (q m r : ℕ) → q < suc s.made → m < most_members → ((s.object q).member m).object ≡ Some r → r < suc s.made
  member_made q m r lt le e =
      let x = (s.object q).member m in
      let k = x.kind in
      let cells = upto s.cells (λ j. s.cell j ∷ []) in
      let rest = upto (suc s.made) (λ o. members (s.object o)) in
      let t = tally_upto k r (suc s.made) q (λ o. members (s.object o)) lt in let u = one_of k r x refl e in
      let g = member_counted k r (s.object q) m le in
      in_cells_made r k (let w = tally_append k r cells rest in omega arith)

-- a handle that is counted may be had once more
pub sound_gets : (z : Opening) (s : State) (d : ℕ) (m : Kind) (n : Option ℕ) (p : Option Place) → Sound z s
    → ((k : Kind) (q : ℕ) → tally k q (handle m n p ∷ []) ≤ tally k q (handles s)) → Sound z (gets d (handle m n p) s)
unfolding count weak
sound_gets z s d m None p sound h = sound
sound_gets z s d Owner (Some o) p sound h =
    let t = h Owner o in let u = tally_here Owner o p [] in
    let c : 0 < count s o = omega arith in sound_owner z s d o p sound (counted_live z s o sound c)
sound_gets z s d Weak (Some o) p sound h =
    let t = h Weak o in let u = tally_here Weak o p [] in
    let c : 0 < weak s o = omega arith in sound_weak z s d o p sound (omega arith)

member_put : (x : Object) (m : ℕ) (h : NumberedHandle) → m < most_members → (k : Kind) (q : ℕ)
    → tally k q (members (record x { member = put x.member m h })) + tally k q (x.member m ∷ []) ≡ tally k q (members x) + tally k q (h ∷ [])
member_put x m h lt k q =
    let f : ℕ → List NumberedHandle = λ j. x.member j ∷ [] in
    let g : ℕ → List NumberedHandle = λ j. put x.member m h j ∷ [] in
    upto_change k q most_members m f g lt (λ i n. ap (λ (y : NumberedHandle). y ∷ []) (put_other x.member m h i n))
    ∙ ap (λ (y : NumberedHandle). tally k q (upto most_members f) + tally k q (y ∷ [])) (put_same x.member m h m refl)

-- the cell is one of those that are counted
abbrev pub InState : State → Cell → Type 0
InState s (Free c) = c < s.cells
InState s (Member o m) = (m < most_members) × (o < suc s.made)

cells_change : (s : State) (c : Cell) (x : NumberedHandle) → InState s c → (k : Kind) (q : ℕ)
    → tally k q (in_cells (fills c x s)) + tally k q (cell_of s c ∷ []) ≡ tally k q (in_cells s) + tally k q (x ∷ [])
cells_change s (Free c) x there k q =
    let f = λ (j : ℕ). s.cell j ∷ [] in
    let g = λ (j : ℕ). put s.cell c x j ∷ [] in
    let rest = upto (suc s.made) (λ o. members (s.object o)) in
    let t = upto_change k q s.cells c f g there (λ i n. ap (λ (h : NumberedHandle). h ∷ []) (put_other s.cell c x i n)) in
    let u = ap (λ (h : NumberedHandle). tally k q (h ∷ [])) (put_same s.cell c x c refl) in
    omega (arith, tally_append k q (upto s.cells g) rest, tally_append k q (upto s.cells f) rest)
cells_change s (Member o m) x there k q =
    let y = record (s.object o) { member = put (s.object o).member m x } in
    let f = λ (j : ℕ). members (s.object j) in
    let g = λ (j : ℕ). members (put s.object o y j) in
    let cells = upto s.cells (λ c. s.cell c ∷ []) in
    let t = upto_change k q (suc s.made) o f g there.1 (λ i n. ap members (put_other s.object o y i n)) in
    let u = ap (λ (z : Object). tally k q (members z)) (put_same s.object o y o refl) in
    let w = member_put (s.object o) m x there.0 k q in
    omega (arith, tally_append k q cells (upto (suc s.made) g), tally_append k q cells (upto (suc s.made) f))

none_there : (x : NumberedHandle) → x.object ≡ None → has_object x ≡ false
none_there x e = ap (λ n. has_object (handle x.kind n x.place)) e

-- a handle that goes into a cell is in no bag any more
loses_tally : (s : State) (d : ℕ) (m : Kind) (x : NumberedHandle) (r : List NumberedHandle) → InHand s d m x → (k : Kind) (q : ℕ)
    → tally k q (map (λ y. y.handle) s.hands ++ r) ≡ tally k q (x ∷ []) + tally k q (map (λ y. y.handle) (loses d x s).hands ++ r)
loses_tally s d m x r hand k q =
    cond_both (has_object x) (without same_held (held d x) s.hands) s.hands (λ l. tally k q (map
    (λ y. y.handle) s.hands ++ r) ≡ tally k q (x ∷ []) + tally k q (map (λ y. y.handle) l ++ r))
    (λ e. ⊎_elim (λ n. absurd (let t = none_there x n.0 in cc)) (λ h. tally_without k q (held d x) s.hands r h.0) hand.1)
    (λ e. let t = no_object k x.kind q x.object x.place e in omega arith)

-- a swap moves handles, and the counts stay
swap_tally : (s : State) (d : ℕ) (c : Cell) (new : NumberedHandle) → InState s c → InHand s d (kind_of s c) new → (k : Kind) (q : ℕ)
    → tally k q (handles (swaps d c new (cell_of s c) s)) ≡ tally k q (handles s)
swap_tally s d (Free c) new there hand k q =
    let old = s.cell c in
    let l = (loses d new s).hands in
    let r = in_cells (fills (Free c) new s) in
    omega (
      arith,
      gets_tally k q d old l r,
      loses_tally s d (kind_of s (Free c)) new r hand k q,
      cells_change s (Free c) new there k q,
      tally_append k q (map (λ (y : Held). y.handle) s.hands) r,
      tally_append k q (map (λ (y : Held). y.handle) s.hands) (in_cells s),
    )
swap_tally s d (Member o m) new there hand k q =
    let old = (s.object o).member m in
    let l = (loses d new s).hands in
    let r = in_cells (fills (Member o m) new s) in
    omega (
      arith,
      gets_tally k q d old l r,
      loses_tally s d (kind_of s (Member o m)) new r hand k q,
      cells_change s (Member o m) new there k q,
      tally_append k q (map (λ (y : Held). y.handle) s.hands) r,
      tally_append k q (map (λ (y : Held). y.handle) s.hands) (in_cells s),
    )

pub swap_count : (s : State) (d : ℕ) (c : Cell) (new : NumberedHandle) → InState s c → InHand s d (kind_of s c) new → (q : ℕ)
    → count (swaps d c new (cell_of s c) s) q ≡ count s q
unfolding count
swap_count s d c new there hand q = swap_tally s d c new there hand Owner q

pub swap_weak : (s : State) (d : ℕ) (c : Cell) (new : NumberedHandle) → InState s c → InHand s d (kind_of s c) new → (q : ℕ)
    → weak (swaps d c new (cell_of s c) s) q ≡ weak s q
unfolding weak
swap_weak s d c new there hand q = swap_tally s d c new there hand Weak q

-- a cell that is open is counted, and its object is live
pub open_live : (z : Opening) (s : State) (d o m : ℕ) → Sound z s → IsOpen s d (Member o m) → (s.object o).phase ≡ live
open_live z s d o m sound open' =
    let h = open'.1.0 in
    let has = open'.1.1 in
    let mine : Has (held d (handle Owner (Some (object_of h)) h.place)) s.hands =
    subst (λ n. Has (held d (handle Owner n h.place)) s.hands) has.2 (subst (λ j. Has (held d (handle j h.object h.place)) s.hands) has.1 has.0) in
    subst (λ n. (s.object n).phase ≡ live) open'.1.2 (counted_live z s (object_of h) sound (owner_counted s d (object_of h) h.place mine))

pub open_in : (z : Opening) (s : State) (d : ℕ) (c : Cell) → Sound z s → IsOpen s d c → InState s c
open_in z s d (Free c) sound open' = open'
open_in z s d (Member o m) sound open' = (
  (let t = open'.0 in let u = sound.few in omega arith),
  was_made z s o sound (λ u. let t = open_live z s d o m sound open' in cc),
)

pub cell_counted : (s : State) (c : Cell) → InState s c → (k : Kind) (q : ℕ) → tally k q (cell_of s c ∷ []) ≤ tally k q (handles s)
cell_counted s (Free c) there k q =
    let cells = upto s.cells (λ j. s.cell j ∷ []) in
    let rest = upto (suc s.made) (λ o. members (s.object o)) in
    omega (
      arith,
      tally_upto k q s.cells c (λ j. s.cell j ∷ []) there,
      tally_append k q cells rest,
      tally_append k q (map
          (λ (y : Held). y.handle) s.hands) (in_cells s),
    )
cell_counted s (Member o m) there k q =
    let cells = upto s.cells (λ j. s.cell j ∷ []) in
    let rest = upto (suc s.made) (λ o. members (s.object o)) in
    omega (
      arith,
      tally_upto k q (suc s.made) o
          (λ j. members (s.object j)) there.1,
      member_counted k q (s.object o) m there.0,
      tally_append k q cells rest,
      tally_append k q (map
          (λ (y : Held). y.handle) s.hands) (in_cells s),
    )

pub sound_load : (z : Opening) (s : State) (d : ℕ) (c : Cell) → Sound z s → IsOpen s d c → Sound z (gets d (cell_of s c) s)
sound_load z s d c sound open' =
    let x = cell_of s c in sound_gets z s d x.kind x.object x.place sound (cell_counted s c (open_in z s d c sound open'))

pub sound_swap : (z : Opening) (s : State) (d : ℕ) (c : Cell) (new : NumberedHandle) → Sound z s → IsOpen s d c → InHand s d (kind_of s c) new
    → Sound z (swaps d c new (cell_of s c) s)
sound_swap z s d (Free c) new sound open' hand =
    let t = swaps d (Free c) new (s.cell c) s in
    sound_moves z s t.hands s.object (put s.cell c new) sound (record {
      owners = λ q. fits_same _ _ _ (sound.owners q) (swap_count s d (Free c) new open' hand q);
      weaks = λ q busy. let e = swap_weak s d (Free c) new open' hand q in omega arith;
      block = λ q. refl;
      made = λ q. ((λ u. u), λ u. u);
      cleared = sound.cleared;
      unused = sound.unused;
    })
sound_swap z s d (Member o m) new sound open' hand =
    let t = swaps d (Member o m) new ((s.object o).member m) s in
    let there = open_in z s d (Member o m) sound open' in
    let alive = open_live z s d o m sound open' in
    let x = record (s.object o) { member = put (s.object o).member m new } in
    let f = put s.object o x in
    let phase : (q : ℕ) → (f q).phase ≡ (s.object q).phase = λ q. put_cases (λ j y. y.phase ≡ (s.object j).phase) s.object o x q (λ e. ap
    (λ n. (s.object n).phase) (sym e)) (λ n. refl) in
    sound_moves z s t.hands f s.cell sound (record {
      owners = λ q. subst (λ ph. OwnersFit ph (count t q)) (sym (phase q)) (fits_same _ _ _ (sound.owners q) (swap_count s d (Member o m) new there hand q));
      weaks = λ q busy. let e = swap_weak s d (Member o m) new there hand q in let u = ap common (phase q) in omega arith;
      block = λ q. put_cases (λ j y. y.block ≡ (s.object j).block) s.object o x q (λ e. ap (λ n. (s.object n).block) (sym e)) (λ n. refl);
      made = λ q. ((λ u. phase q ∙ u), λ u. sym (phase q) ∙ u);
      cleared = λ q i le. put_cases (λ j y. common y.phase ≡ 0 → y.member i ≡ empty (kind_of_member s.owners i)) s.object o x q
          (λ e u. let a : common (s.object o).phase ≡ 1 = ap common alive in absurd (omega arith)) (λ n. sound.cleared q i le);
      unused = λ q i le. put_cases (λ j y. y.member i ≡ empty (kind_of_member s.owners i)) s.object o x q
          (λ e. put_other (s.object o).member m new i (λ n. let t = open'.0 in omega arith) ∙ sound.unused o i le) (λ n. sound.unused q i le);
    })
