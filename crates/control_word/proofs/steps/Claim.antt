-- The claim: a new object in the prepared block.
use Rattle.std.proofs.Common.{◌≡◌, ℕ, zero, suc, ◌+◌, ◌*◌, ◌-◌, ◌<◌, ◌≤◌, Bool, false, cond, ◌≢◌, ◌⊎◌}
use Rattle.std.proofs.Common.{List, ◌∷◌, length, get_or, set, ◌==◌, slice_index, Some, None}
use Rattle.std.proofs.Common.{Option, sym, refl, ap, ◌∙◌, subst, inl, inr, ⊎_elim, arith, eq-eqb}
use Rattle.std.proofs.Common.{ne_eqb}
use Rattle.control_word.proofs.Prelude
use Prelude.{added, adds, bag_size, Block, block_words, blocks_of, cases_eq, cases_lt, cell_spot}
use Prelude.{common, cond-false, cond-true, empty, Entry, entry, Fits, flags_of, get_elem?, handle}
use Prelude.{Has, Idle, IsVacant, Kind, kind_of_member, leads, Make, Making, member_funds, more}
use Prelude.{new_object, NumberedHandle, Object, Opening, origin, owed, owes, owned_bits, Owner}
use Prelude.{pays, Place, place_bits, put, Says, sees, slot, some, spot, Stands, State, stored}
use Prelude.{value, View, weak_number, worth}
use Rattle.control_word.proofs.history.Cells.{cell_made, member_made}
use Rattle.control_word.proofs.history.Kept.{cells_led}
use Rattle.control_word.proofs.history.Legal.{sound}
use Rattle.control_word.proofs.history.Making.{made_count, made_state, made_weak, new_counts}
use Rattle.control_word.proofs.history.Moving.{counted_live, live_busy}
use Rattle.control_word.proofs.history.Others.{fits_after}
use Rattle.control_word.proofs.history.Soundness.{Sound}
use Rattle.control_word.proofs.lists.Tallies.{put_cases, put_other, put_same}
use Rattle.control_word.proofs.steps.Write.{added_high, made_more, others_none, vacant_free}
use Rattle.control_word.proofs.steps.Write.{words_mine}
use Rattle.control_word.proofs.views.Teams.{plain_step}
use Rattle.control_word.proofs.words.Banks.{sum_all}
use Rattle.control_word.proofs.words.Counting.{bag_one}
use Rattle.control_word.proofs.words.Frames.{shows_write, spot_apart}
use Rattle.control_word.proofs.words.Listed.{listed_at, listed_equal}
use Rattle.control_word.proofs.words.Members.{packed_empty}
use Rattle.control_word.specs.State.{count, weak}
use Rattle.control_word.specs.Steps.{Claims}
use Rattle.control_word.specs.Words.{bank, object_words, packed}
use Rattle.control_word.specs.Limits.{most_members, cell_funds, one_owned_high}
use Rattle.control_word.specs.Packing.{high_part, low_part}

owned_put : (f g : ℕ → ℕ) (n : Option ℕ) → ((r : ℕ) → n ≡ Some r → f r ≡ g r) → owned_bits f n ≡ owned_bits g n
owned_put f g None e = refl
owned_put f g (Some r) e = ap (λ n. low_part n + one_owned_high * high_part n) (e r refl)

packed_put : (f g : ℕ → ℕ) (x : NumberedHandle) → ((r : ℕ) → x.object ≡ Some r → f r ≡ g r) → packed f x ≡ packed g x
unfolding packed
packed_put f g x e = ap (λ n. n + place_bits x.place) (owned_put f g x.object e)

words_put : (f g : ℕ → ℕ) (x : Object) → ((m r : ℕ) → m < most_members → (x.member m).object ≡ Some r → f r ≡ g r)
    → object_words f x ≡ object_words g x
unfolding object_words
words_put f g x e =
    let t = listed_equal most_members (λ m. packed f (x.member m)) (λ m. packed g (x.member m))
    (λ m lt. packed_put f g (x.member m) (λ r u. e m r lt u)) in
    λ i. flags_of x.enabled x.null ∷ slice_index x.fields 0 ∷ slice_index x.fields 1 ∷ slice_index x.fields 2 ∷ slice_index x.fields 3
    ∷ t i

-- the words of an object with empty members
words_plain : (w : ℕ) (f : ℕ → ℕ) (x : Object) (j : ℕ) → 5 ≤ j → j < 14 → ((m : ℕ) → m < most_members → x.member m ≡ empty (kind_of_member w m))
    → get_or (object_words f x) j 0 ≡ 0
unfolding object_words
words_plain w f x zero le lt e = absurd (omega arith)
words_plain w f x (suc zero) le lt e = absurd (omega arith)
words_plain w f x (suc (suc zero)) le lt e = absurd (omega arith)
words_plain w f x (suc (suc (suc zero))) le lt e = absurd (omega arith)
words_plain w f x (suc (suc (suc (suc zero)))) le lt e = absurd (omega arith)
words_plain w f x (suc (suc (suc (suc (suc j))))) le lt e =
    listed_at most_members (λ m. packed f (x.member m)) j (omega arith)
    ∙ (ap (packed f) (e j (omega arith)) ∙ packed_empty f (kind_of_member w j))

words_new : (w : ℕ) (f : ℕ → ℕ) (b : ℕ) (enabled null : Bool) (fields : List ℕ) (j : ℕ) → j < 5
    → get_or (object_words f (new_object w b enabled null fields)) j 0 ≡ get_or (flags_of enabled null ∷ fields) j 0
unfolding object_words
words_new w f b enabled null fields zero lt = refl
words_new w f b enabled null fields (suc zero) lt = refl
words_new w f b enabled null fields (suc (suc zero)) lt = refl
words_new w f b enabled null fields (suc (suc (suc zero))) lt = refl
words_new w f b enabled null fields (suc (suc (suc (suc zero)))) lt = refl
words_new w f b enabled null fields (suc (suc (suc (suc (suc j))))) lt = absurd (omega arith)

-- the words of the blocks that a Make leaves alone
module _ (z : Opening) (s : State) (sound : Sound z s) (d b : ℕ) (mine : Has (stored d b) s.stores) (enabled null : Bool) (fields : List ℕ) where
  block_put : (r : ℕ) → r < suc s.made → (put s.object (suc s.made) (new_object s.owners b enabled null fields) r).block ≡ (s.object r).block
  block_put r lt = ap (λ (x : Object). x.block) (put_other s.object (suc s.made) (new_object s.owners b enabled null fields) r (λ e. omega arith))

  made_vacant : (c : ℕ) → c ≢ b → IsVacant s c → IsVacant (made_state z s d b enabled null fields) c
  made_vacant c n v q = put_cases (λ j y. y.block ≡ c
      → weak (made_state z s d b enabled null fields) j + common y.phase ≡ 0) s.object (suc s.made) (new_object s.owners b enabled null fields) q
      (λ e u. absurd (n (sym u))) (λ ne u. let t = made_weak z s d b enabled null fields q in let w = v q u in omega arith)

  made_words : (c j : ℕ) → c ≢ b → get_or (block_words (made_state z s d b enabled null fields) c) j 0 ≡ get_or (block_words s c) j 0
  made_words c j n =
      let t = made_state z s d b enabled null fields in
      let n' = suc s.made in
      let x = new_object s.owners b enabled null fields in
      let q = s.latest c in
      let low = sound.latest_made c in
      let e : t.latest c ≡ q = put_other s.latest b n' c n in
      let o : put s.object n' x q ≡ s.object q = put_other s.object n' x q (λ u. omega arith) in
      let w : weak_number t q ≡ weak_number s q = let a = made_weak z s d b enabled null fields q in
      let p = ap (λ (y : Object). common y.phase) o in omega arith in
      let k : count t q ≡ count s q = made_count z s d b enabled null fields q (λ u. omega arith) in
      let m : object_words (blocks_of t) (put s.object n' x q) ≡ object_words (blocks_of s) (s.object q) =
      ap (object_words (blocks_of t)) o
      ∙ words_put (blocks_of t) (blocks_of s) (s.object q) (λ m r le u. block_put r (member_made z s sound q m r (omega arith) le u)) in
      ap (λ (l : ℕ). get_or (count t l ∷ weak_number t l ∷ object_words (blocks_of t) (t.object l)) j 0) e ∙ (λ i. get_or (k i ∷ w i ∷ m i) j 0)

  -- the words of the block itself
  made_latest : put s.latest b (suc s.made) b ≡ suc s.made
  made_latest = put_same s.latest b (suc s.made) b refl

  made_object : put s.object (suc s.made) (new_object s.owners b enabled null fields) (put s.latest b (suc s.made) b)
      ≡ new_object s.owners b enabled null fields
  made_object = put_same s.object (suc s.made) (new_object s.owners b enabled null fields) (put s.latest b (suc s.made) b) made_latest

  -- before the Make all but its flags and fields say nothing
  vacant_words : (j : ℕ) → j < 16 → (j < 2) ⊎ (6 < j) → get_or (block_words s b) j 0 ≡ 0
  vacant_words j lt low = go j lt low
    where
      q : ℕ
      q = s.latest b

      none : weak_number s (s.latest b) ≡ 0
      none = ⊎_elim (λ (x : s.latest b ≡ 0). ap (weak_number s) x
          ∙ sound.unmade_free 0 sound.none) (λ x. (sound.stores d b mine).0 (s.latest b) (sound.latest_in b x)) (cases_eq (s.latest b) 0)

      owners : count s (s.latest b) ≡ 0
      owners = ⊎_elim (λ x. x) (λ (x : count s (s.latest b) ≢ 0). let m = none in
          let a = live_busy s (s.latest b) (counted_live z s (s.latest b) sound (omega arith)) in absurd (omega arith)) (cases_eq (count s (s.latest b)) 0)

      clear : (m : ℕ) → m < most_members → (s.object (s.latest b)).member m ≡ empty (kind_of_member s.owners m)
      clear m le = sound.cleared (s.latest b) m le (let a = none in omega arith)

      go : (j : ℕ) → j < 16 → (j < 2) ⊎ (6 < j) → get_or (block_words s b) j 0 ≡ 0
      go zero lt low = owners
      go (suc zero) lt low = none
      go (suc (suc j)) lt low = words_plain s.owners (blocks_of s) (s.object (s.latest b)) j (⊎_elim (λ a. absurd (omega arith))
          (λ a. omega arith) low) (omega arith) clear

  worth_put : (f g : ℕ → ℕ) (m : Kind) (n : Option ℕ) (p : Option Place) (t i : ℕ) → ((r : ℕ) → n ≡ Some r → f r ≡ g r)
      → worth f (handle m n p) t i ≡ worth g (handle m n p) t i
  worth_put f g m None p t i e = refl
  worth_put f g m (Some r) p t i e = ap (λ c. cond (i == spot c (slot m)) (cell_funds - t) 0) (e r refl)

  -- a new object has no funds in its cells
  bank_made : (taken : ℕ → ℕ) (i : ℕ) → bank z (made_state z s d b enabled null fields) taken i ≡ bank z s taken i
  unfolding bank
  bank_made taken i =
      let t = made_state z s d b enabled null fields in
      let x = new_object s.owners b enabled null fields in
      let n = suc s.made in
      let a = sum_all s.cells (λ c. worth (blocks_of s) (s.cell c) (taken (cell_spot z c)) i) (λ c. worth (blocks_of t) (s.cell c) (taken (cell_spot z c)) i)
      (λ c lt. let y = s.cell c in worth_put (blocks_of t) (blocks_of s) y.kind y.object y.place (taken (cell_spot z c)) i
      (λ r e. block_put r (cell_made z s sound c r lt e))) in
      let c = sum_all n (λ q. member_funds (blocks_of s) taken (s.object q) i) (λ q. member_funds (blocks_of t) taken (put s.object n x q) i)
      (λ q lt.
      let y = s.object q in
      let w = λ (m : ℕ) (le : m < most_members). let u = y.member m in worth_put (blocks_of t) (blocks_of s) u.kind u.object u.place (taken (spot y.block
      (7 + m))) i (λ r e. block_put r (member_made z s sound q m r lt le e)) in
      ap (λ u. member_funds (blocks_of t) taken u i) (put_other s.object n x q (λ e. omega arith))
      ∙ sum_all most_members (λ m. worth (blocks_of s) (y.member m) (taken (spot y.block (7 + m))) i)
      (λ m. worth (blocks_of t) (y.member m) (taken (spot y.block (7 + m))) i) w) in
      let none : member_funds (blocks_of t) taken (put s.object n x n) i ≡ 0 =
      ap (λ u. member_funds (blocks_of t) taken u i) (put_same s.object n x n refl) in
      omega arith

  own_words : (words : List ℕ) (u f v g : ℕ → ℕ) (known : List ℕ) → ((j : ℕ) → j < 5 → get_or words (spot b (2 + j)) 0 ≡ get_or known j 0)
      → known ≡ flags_of enabled null ∷ fields
      → ((k : ℕ) → k < 16 → (u (spot b k) ≡ 0) × (v (spot b k) ≡ 0)) → f (spot b 1) ≡ 1 → g (spot b 1) ≡ 0
      → ((k : ℕ) → k < 16 → k ≢ 1
      → (f (spot b k) ≡ 0) × (g (spot b k) ≡ 0))
      → (j : ℕ) → j < 16 → j ≢ 0 → Says z s u f b j (get_or words (spot b j) 0)
      → Says z (made_state z s d b enabled null fields) v g b j (get_or words (spot b j) 0)
  own_words words u f v g known fits is zeros one none rest zero lt n says = absurd (n refl)
  own_words words u f v g known fits is zeros one none rest (suc zero) lt n says =
      let zs = zeros 1 (omega arith) in let z0 = zs.0 in let z1 = zs.1 in
      let t = made_state z s d b enabled null fields in
      let x = new_object s.owners b enabled null fields in
      let c : common (put s.object (suc s.made) x (suc s.made)).phase ≡ 1 = ap
      (λ (y : Object). common y.phase) (put_same s.object (suc s.made) x (suc s.made) refl) in
      let l = ap (weak_number t) made_latest in
      let w = (new_counts z s d b enabled null fields sound).1 in
      ⊎_elim (λ a. inr (let kept = (a.3 refl).0 in omega arith)) (λ eq. inr (let vw = vacant_words 1 (omega arith) (inl (omega arith)) in omega arith)) says
  own_words words u f v g known fits is zeros one none rest (suc (suc j)) lt n says =
      let zs = zeros (suc (suc j)) lt in let z0 = zs.0 in let z1 = zs.1 in
      let t = made_state z s d b enabled null fields in
      let x = new_object s.owners b enabled null fields in
      let k = suc (suc j) in
      let r = rest k lt (λ e. omega arith) in
      let m = ap (λ (y : Object). get_or (object_words (blocks_of t) y) j 0) made_object in
      ⊎_elim
      (λ (low : j < 5).
      let e : 2 + j ≡ k = omega arith in
      let a : get_or words (spot b k) 0 ≡ get_or known j 0 = ap (λ y. get_or words (spot b y) 0) (sym e) ∙ fits j low in
      let c = ap (λ l. get_or l j 0) is in
      let q = words_new s.owners (blocks_of t) b enabled null fields j low in
      inr (let y = r.1 in omega arith))
      (λ (high : 5 ≤ j).
      ⊎_elim (λ l. absurd (let l1 = l.1 in omega arith))
      (λ eq. inr (let y0 = r.0 in let y1 = r.1 in let vw = vacant_words k lt (inr (omega arith)) in
      let q = words_plain s.owners (blocks_of t) x j high (omega arith) (λ i le. refl) in omega arith)) says)
      (cases_lt j 5)

module _ {V : Type 0} where
  module _ (z : Opening) (words : List ℕ) (views : List (View V)) (h : List (Entry V)) (stands : Stands z words views h)
      (i : ℕ) (v : View V) (at : get_elem? views i ≡ some v) (awake : v.spent ≡ false) where
    -- the claim: the owner word of the prepared block becomes 1
    pub claim_step : (b : Block) (known : List ℕ) (enabled null : Bool) (fields : List ℕ) (val : V) → length fields ≡ 4
        → bag_size (leads z h) v.name < (leads z h).allowance v.name → v.pending ≡ Making b known → known ≡ flags_of enabled null ∷ fields
        → let e = entry v.name (Make b enabled null fields val) in Stands z (set words (spot b.0 0) 1) (set views i (sees v (e ∷ h))) (e ∷ h)
    claim_step b known enabled null fields val four room busy is =
        let s = leads z h in
        let fine = sound z h stands.legal in
        let fits : Fits words s (value z h) v.name (Making b known) = subst (Fits words s (value z h) v.name) busy (stands.team.seated i v at awake).fits in
        let mine = fits.0 in
        let hb = (fine.stores v.name b.0 mine).1 in
        let e = entry v.name (Make b enabled null fields val) in
        let w = sees v (e ∷ h) in
        let t = made_state z s v.name b.0 enabled null fields in
        let x = new_object s.owners b.0 enabled null fields in
        let gone = made_more z words views h stands i v at awake Idle (e ∷ h) in
        let moved = λ (m : ℕ). gone m (λ x. ap (λ q. owes q x) busy) (λ x. ap (λ q. pays q x) busy) (λ x. refl) (λ x. refl) in
        let none : added (set views i w) (spot b.0 1) ≡ 0 = others_none z words views h stands i v at awake b.0 w mine refl in
        let at_b : (m : ℕ) → adds v.pending m ≡ cond (m == spot b.0 1) 1 0 = λ m. ap (λ q. adds q m) busy in
        let one : added views (spot b.0 1) ≡ 1 = let u = (moved (spot b.0 1)).2 in
        let q : adds {V = V} (Making b known) (spot b.0 1) ≡ 1 = cond-true _ 1 0 (eq-eqb (spot b.0 1) (spot b.0 1) refl) in
        let y = at_b (spot b.0 1) in omega arith in
        let same : (m : ℕ) → m ≢ spot b.0 1 → added views m ≡ added (set views i w) m =
        λ m n. let u = (moved m).2 in let q : adds {V = V} (Making b known) m ≡ 0 = cond-false _ 1 0 (ne_eqb m (spot b.0 1) n) in
        let y = at_b m in omega arith in
        let counts = new_counts z s v.name b.0 enabled null fields fine in
        let latest' = made_latest z s fine v.name b.0 mine enabled null fields in
        let object' = made_object z s fine v.name b.0 mine enabled null fields in
        let bank' = λ (m : ℕ). bank_made z s fine v.name b.0 mine enabled null fields stands.taken m in
        let free : (k : ℕ) → k < 16
        → (owed views (spot b.0 k) ≡ 0) × (owed (set views i w) (spot b.0 k) ≡ 0)
        × (more z s views stands.taken (spot b.0 k) ≡ added views (spot b.0 k))
        × (more z t (set views i w) stands.taken (spot b.0 k) ≡ added (set views i w) (spot b.0 k)) =
        λ k lt. let a = vacant_free z words views h stands i v at awake b.0 k mine lt in let a0 = a.0 in let a1 = a.1 in let x = moved (spot b.0 k) in
        let x0 = x.0 in let x1 = x.1 in let y = bank' (spot b.0 k) in (a0, omega arith, a1, omega arith) in
        plain_step z words (set words (spot b.0 0) 1) views h i v (Make b enabled null fields val) Idle stands.taken stands at awake tt tt
        (λ c. omega arith) (mine, four) tt
        (let y = bag_one v.name (handle Owner (Some (suc s.made)) (origin b.0 null)) s.hands in omega arith)
        (shows_write z words (owed views) (more z s views stands.taken) (owed (set views i w)) (more z t (set views i w) stands.taken) s t b.0 0 1 hb
        (omega arith) stands.shows
        (λ c j hc lt ne says. ⊎_elim
        (λ (u : c ≡ b.0).
        subst (λ y. Says z t (owed (set views i w)) (more z t (set views i w) stands.taken) y j (get_or words (spot y j) 0)) (sym u)
        (own_words z s fine v.name b.0 mine enabled null fields words (owed views) (more z s views stands.taken) (owed (set views i w)) (more z t
        (set views i w) stands.taken) known fits.1 is
        (λ k l. let f = free k l in (f.0, f.1))
        (let f = (free 1 (omega arith)).2 in omega arith) (let f = (free 1 (omega arith)).3 in omega arith)
        (λ k l m. let y = added_high z words views h stands i v at awake b.0 k mine l m in let f = free k l in let f2 = f.2 in let f3 = f.3 in
        let q = same (spot b.0 k) (λ q. omega arith) in (omega arith, omega arith))
        j lt (λ k. ne (u, k)) (subst (λ y. Says z s (owed views) (more z s views stands.taken) y j (get_or words (spot y j) 0)) u says)))
        (λ (n : c ≢ b.0). ⊎_elim (λ l. inl (l.0, l.1, made_vacant z s fine v.name b.0 mine enabled null fields c n l.2, l.3))
        (λ u. inr (let mw = made_words z s fine v.name b.0 mine enabled null fields c j n in
        let sa = same (spot c j) (λ e. n ((spot_apart c j b.0 1 hc.0 hb.0 lt (omega arith) e).0)) in let x = moved (spot c j) in
        let x0 = x.0 in let x1 = x.1 in
        let y = bank' (spot c j) in omega arith)) says)
        (cases_eq c b.0))
        (inr (let f = free 0 (omega arith) in let f1 = f.1 in let f3 = f.3 in
        let a = added_high z words views h stands i v at awake b.0 0 mine (omega arith) (λ q. omega arith) in let sa = same (spot b.0 0) (λ q. omega arith) in
        let c = counts.0 in let l = ap (count t) latest' in omega arith))
        (λ c n lt u. let p = packed_put (blocks_of s) (blocks_of t) (s.cell c)
        (λ r q. sym (block_put z s fine v.name b.0 mine enabled null fields r (cell_made z s fine c r (let y = cells_led z h in omega arith) q))) in
        let sa = same (cell_spot z c) (λ q. omega arith) in let x = moved (cell_spot z c) in let x1 = x.1 in let y = bank' (cell_spot z c) in omega arith)
        (λ c. refl))
        stands.most stands.blank
        (record {
          members = λ c m hc lt q. ⊎_elim
              (λ (u : c ≡ b.0). ap (λ y. stands.taken (spot y (7 + m))) u
              ∙ (vacant_free z words views h stands i v at awake b.0 (7 + m) mine (omega arith)).2)
              (λ (n : c ≢ b.0).
              let la : put s.latest b.0 (suc s.made) c ≡ s.latest c = put_other s.latest b.0 (suc s.made) c n in
              let low = fine.latest_made c in
              let ob = put_other s.object (suc s.made) x (s.latest c) (λ u. omega arith) in
              stands.bare.members c m hc lt
              (ap (λ (y : Object). (y.member m).object) (sym (ap (put s.object (suc s.made) x) la ∙ ob)) ∙ q)) (cases_eq c b.0);
          frees = stands.bare.frees;
        })
        tt
        (λ d q n f. fits_after z s words (set words (spot b.0 0) 1) (value z h) v.name (Make b enabled null fields val) fine d q (λ y. n (sym y))
        (λ u. u) (λ y u. absurd u) (words_mine z words views h stands i v at awake b.0 0 1 d mine (omega arith) n) f)

module _ {V : Type 0} where
  pub claims : Claims V
  claims at b enabled null fields v ready four more = claim_step at.opening at.words at.views at.history ready.stands at.seat at.view ready.seated
      ready.awake b (flags_of enabled null ∷ fields) enabled null fields v four more ready.pending refl
