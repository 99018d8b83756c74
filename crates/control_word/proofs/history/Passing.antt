-- Handing things from desk to desk keeps the counts.
use Rattle.std.proofs.Common.{◌≡◌, ℕ, suc, ◌+◌, ◌-◌, Bool, true, cond, List, [], ◌∷◌, ◌++◌, map}
use Rattle.std.proofs.Common.{length, ◌==◌, sym, refl, ap, ◌∙◌, arith, eq-eqb}
use Rattle.control_word.proofs.Prelude.{Block, common, ending, gone, handed, HasAll, Held, held}
use Rattle.control_word.proofs.Prelude.{how_often, in_cells, is_on, joins_up, Kind, live, moved_to}
use Rattle.control_word.proofs.Prelude.{NumberedHandle, Opening, Owner, passed, Phase, put}
use Rattle.control_word.proofs.Prelude.{renamed, same_held, same_stored, splits_off, State, Stored}
use Rattle.control_word.proofs.Prelude.{stored, tally, times_kept, unmade, Weak, without}
use Rattle.control_word.proofs.history.Moving.{count_same, fits_same, sound_hands, sound_moves}
use Rattle.control_word.proofs.history.Moving.{weak_same}
use Rattle.control_word.proofs.history.Soundness.{OwnersFit, Sound, kept_vacant}
use Rattle.control_word.proofs.lists.Tallies.{held_self, held_true, num, num_cons, num_has}
use Rattle.control_word.proofs.lists.Tallies.{num_map, num_without, one_cond, stored_self}
use Rattle.control_word.proofs.lists.Tallies.{stored_true, tally_append}
use Rattle.control_word.specs.State.{count, weak}

num_one : {A : Type 0} (p : A → Bool) (x y : A) → p x ≡ p y → num p (x ∷ []) ≡ num p (y ∷ [])
num_one p x y e = one_cond (p x) x y ∙ ap (λ b. length (cond b (y ∷ []) [])) e

pub num_passed : {A T : Type 0} (same : A → A → Bool) (truth : (x y : A) → same x y ≡ true → x ≡ y) (self : (x : A) → same x x ≡ true)
    (was is : T → A) (p : A → Bool) → ((t : T) → p (is t) ≡ p (was t)) → (ts : List T) (l : List A) → HasAll same was ts l
    → num p (passed same was is ts l) ≡ num p l
num_passed same truth self was is p e [] l h = refl
num_passed same truth self was is p e (t ∷ ts) l h =
    let r = num_passed same truth self was is p e ts (without same (was t) l) h.1 in
    omega (
      arith,
      num_cons p (is t) (passed same was is ts (without same (was t) l)),
      num_without same truth self p (was t) l h.0,
      num_one p (is t) (was t) (e t),
    )

-- the stores and the shelf may be told anew, with each block as often
pub sound_stores : (z : Opening) (s : State) (r : List Stored) (f : ℕ → Bool) (n : ℕ) (j : ℕ → Bool) (a : ℕ → ℕ) → Sound z s
    → ((c : ℕ) → how_often c r + cond (f c) 1 0 ≡ times_kept s c)
    → Sound z (record s { stores = r; shelved = f; names = n; joined = j; allowance = a })
unfolding count weak
sound_stores z s r f n j a sound same = record {
  owners = sound.owners;
  unmade_free = sound.unmade_free;
  fresh = sound.fresh;
  none = sound.none;
  placed = sound.placed;
  latest_made = sound.latest_made;
  latest_in = sound.latest_in;
  stores = λ e c h.
      let t = num_has (λ (x : Stored). x.block == c) (stored e c) r h (eq-eqb c c refl) in let u = same c in
      kept_vacant z s sound c (omega arith);
  shelf = λ c e. let t : ◌≡◌ {A = ℕ} (cond (f c) 1 0) 1 = ap (λ (y : Bool). cond y 1 0) e in let u = same c in kept_vacant z s sound c (omega arith);
  once = λ c. let t = same c in let u = sound.once c in omega arith;
  cleared = sound.cleared;
  few = sound.few;
  unused = sound.unused;
}

hands_tally : (k : Kind) (q : ℕ) (l m : List Held) (r : List NumberedHandle)
    → num (λ (x : Held). is_on k q x.handle) l ≡ num (λ (x : Held). is_on k q x.handle) m
    → tally k q (map (λ x. x.handle) l ++ r) ≡ tally k q (map (λ x. x.handle) m ++ r)
hands_tally k q l m r e =
    omega (
      arith,
      tally_append k q (map (λ (x : Held). x.handle) l) r,
      tally_append k q (map (λ (x : Held). x.handle) m) r,
      num_map (is_on k q)
          (λ (x : Held). x.handle) l,
      num_map (is_on k q) (λ (x : Held). x.handle) m,
    )

pub hands_count : (s : State) (l : List Held) (q : ℕ)
    → num (λ (x : Held). is_on Owner q x.handle) l ≡ num (λ (x : Held). is_on Owner q x.handle) s.hands → count (record s { hands = l }) q ≡ count s q
unfolding count
hands_count s l q e = hands_tally Owner q l s.hands (in_cells s) e

pub hands_weak : (s : State) (l : List Held) (q : ℕ) → num (λ (x : Held). is_on Weak q x.handle) l ≡ num (λ (x : Held). is_on Weak q x.handle) s.hands
    → weak (record s { hands = l }) q ≡ weak s q
unfolding weak
hands_weak s l q e = hands_tally Weak q l s.hands (in_cells s) e

pub sound_split : (z : Opening) (s : State) (d e amount : ℕ) (hs : List NumberedHandle) (bs : List Block) → Sound z s
    → HasAll same_held (λ (h : NumberedHandle). held d h) hs s.hands → HasAll same_stored (λ (b : Block). stored d b.0) bs s.stores
    → Sound z (splits_off d e amount hs bs s)
sound_split z s d e amount hs bs sound hh hb =
    let l = passed same_held (λ (h : NumberedHandle). held d h) (λ h. held e h) hs s.hands in
    let r = passed same_stored (λ (b : Block). stored d b.0) (λ b. stored e b.0) bs s.stores in
    let t : State = record s { hands = l } in
    let same : (k : Kind) (q : ℕ) → num (λ (x : Held). is_on k q x.handle) l ≡ num (λ (x : Held). is_on k q x.handle) s.hands =
    λ k q. num_passed same_held held_true held_self (λ (h : NumberedHandle). held d h) (λ h. held e h) (λ (x : Held). is_on k q x.handle)
    (λ u. refl) hs s.hands hh in
    sound_stores z t r s.shelved (suc s.names) s.joined (put (put s.allowance d (s.allowance d - amount)) e amount)
    (sound_hands z s l sound (λ q. fits_same _ _ _ (sound.owners q) (hands_count s l q (same Owner q)))
    (λ q busy. let u = hands_weak s l q (same Weak q) in omega arith))
    (λ c. let u = num_passed same_stored stored_true stored_self (λ (b : Block). stored d b.0) (λ b. stored e b.0)
    (λ (x : Stored). x.block == c) (λ u. refl) bs s.stores hb in omega arith)

handed_fits : (e d : ℕ) (p : Phase) (n : ℕ) → OwnersFit p n → OwnersFit (handed e d p) n
handed_fits e d unmade n f = f
handed_fits e d live n f = f
handed_fits e d gone n f = f
handed_fits e d (ending x) n f = f

pub handed_common : (e d : ℕ) (p : Phase) → common (handed e d p) ≡ common p
handed_common e d unmade = refl
handed_common e d live = refl
handed_common e d gone = refl
handed_common e d (ending x) = refl

handed_unmade : (e d : ℕ) (p : Phase) → handed e d p ≡ unmade → p ≡ unmade
handed_unmade e d unmade h = refl
handed_unmade e d live h = cc
handed_unmade e d gone h = cc
handed_unmade e d (ending x) h = cc

pub sound_join : (z : Opening) (s : State) (d e : ℕ) → Sound z s → Sound z (joins_up d e s)
sound_join z s d e sound =
    let l = map (λ (x : Held). held (renamed e d x.desk) x.handle) s.hands in
    let f = λ (o : ℕ). moved_to (handed e d (s.object o).phase) (s.object o) in
    let same : (k : Kind) (q : ℕ) → num (λ (x : Held). is_on k q x.handle) l ≡ num (λ (x : Held). is_on k q x.handle) s.hands =
    λ k q. num_map (λ (x : Held). is_on k q x.handle) (λ (x : Held). held (renamed e d x.desk) x.handle) s.hands in
    let t : State = record s { hands = l; object = f } in
    sound_stores z t (map (λ (x : Stored). stored (renamed e d x.desk) x.block) s.stores) s.shelved s.names _ _
    (sound_moves z s l f s.cell sound (record {
      owners = λ q. handed_fits e d (s.object q).phase _
          (fits_same _ _ _ (sound.owners q) (count_same s l f (λ q. refl) q ∙ hands_count s l q (same Owner q)));
      weaks = λ q busy. let u = weak_same s l f (λ q. refl) q in let w = hands_weak s l q (same Weak q) in
          let c = handed_common e d (s.object q).phase in omega arith;
      block = λ q. refl;
      made = λ q. ((λ u. ap (handed e d) u), handed_unmade e d (s.object q).phase);
      cleared = λ q m lt u. sound.cleared q m lt (sym (handed_common e d (s.object q).phase) ∙ u);
      unused = sound.unused;
    }))
    (λ c. let u = num_map (λ (x : Stored). x.block == c) (λ (x : Stored). stored (renamed e d x.desk) x.block) s.stores in omega arith)
