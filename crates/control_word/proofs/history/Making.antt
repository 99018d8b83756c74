-- A new object comes into a vacant block.
use Rattle.std.proofs.Common.{◌≡◌, ℕ, suc, ◌+◌, ◌<◌, ◌≤◌, Bool, true, cond, ◌≢◌, List, [], ◌∷◌}
use Rattle.std.proofs.Common.{◌++◌, map, ◌==◌, Some, sym, refl, ap, ◌∙◌, subst, inl, arith, eq-eqb}
use Rattle.control_word.proofs.Prelude.{common, empty, handle, handles, Has, held, InShape, Kind}
use Rattle.control_word.proofs.Prelude.{kind_of_member, members, new_object, NumberedHandle}
use Rattle.control_word.proofs.Prelude.{Object, on_shelf, Opening, origin, Owner, put, same_stored}
use Rattle.control_word.proofs.Prelude.{State, Stored, stored, tally, unmade, upto, Weak, without}
use Rattle.control_word.proofs.history.Moving.{fits_same}
use Rattle.control_word.proofs.history.Soundness.{IsBusy, OwnersFit, Sound}
use Rattle.control_word.proofs.lists.Tallies.{has_before, num_has, num_without, put_cases}
use Rattle.control_word.proofs.lists.Tallies.{put_other, put_same, stored_self, stored_true}
use Rattle.control_word.proofs.lists.Tallies.{tally_append, tally_cons, tally_here, tally_other}
use Rattle.control_word.proofs.lists.Tallies.{tally_upto_empty, upto_same}
use Rattle.control_word.specs.State.{count, weak}
use Rattle.control_word.specs.Limits.{most_members}

pub empty_counts : (k m : Kind) (o : ℕ) (l : List NumberedHandle) → tally k o (empty m ∷ l) ≡ tally k o l
empty_counts Owner Owner o l = refl
empty_counts Owner Weak o l = refl
empty_counts Weak Owner o l = refl
empty_counts Weak Weak o l = refl

-- empty members count nothing
pub empty_members : (w : ℕ) (k : Kind) (q : ℕ) → tally k q (upto most_members (λ m. empty (kind_of_member w m) ∷ [])) ≡ 0
empty_members w k q =
    tally_upto_empty k q most_members (λ m. empty (kind_of_member w m) ∷ []) (λ m lt. empty_counts k (kind_of_member w m) q [])

-- what a Make changes in the counts is its owner
make_tally : (s : State) (d b : ℕ) (enabled null : Bool) (fields : List ℕ) (k : Kind) (q : ℕ)
    → tally k q (handles (record s {
      hands = held d (handle Owner (Some (suc s.made))
          (origin b null)) ∷ s.hands;
      made = suc s.made;
      object = put s.object (suc s.made) (new_object s.owners b enabled null fields);
    }))
    ≡ tally k q (handle Owner (Some (suc s.made)) (origin b null) ∷ handles s)
make_tally s d b enabled null fields k q =
    let x = new_object s.owners b enabled null fields in
    let f = put s.object (suc s.made) x in
    let here : members (f (suc s.made)) ≡ members x = ap members (put_same s.object (suc s.made) x (suc s.made) refl) in
    let old = upto_same (suc s.made) (λ o. members (f o)) (λ o. members (s.object o)) (λ i h. ap members (put_other s.object (suc s.made) x i
    (λ e. omega arith))) in
    let cells = upto s.cells (λ c. s.cell c ∷ []) in
    let hands = map (λ y. y.handle) s.hands in
    let new = handle Owner (Some (suc s.made)) (origin b null) in
    let rest = upto (suc s.made) (λ o. members (s.object o)) in
    let p : handles (record s { hands = held d new ∷ s.hands; made = suc s.made; object = f }) ≡ new ∷ (hands ++ (cells ++ (members x ++ rest)))
    = λ i. new ∷ (hands ++ (cells ++ (here i ++ old i))) in
    let plain : tally k q (members x) ≡ 0 = empty_members s.owners k q in
    ap (tally k q) p
    ∙ omega (
      arith,
      tally_cons k q new (hands ++ (cells ++ (members x ++ rest))),
      tally_cons k q new (hands ++ (cells ++ rest)),
      tally_append k q hands (cells ++ (members x ++ rest)),
      tally_append k q hands (cells ++ rest),
      tally_append k q cells (members x ++ rest),
      tally_append k q cells rest,
      tally_append k q (members x) rest,
    )

module _ (z : Opening) (s : State) (d b : ℕ) (enabled null : Bool) (fields : List ℕ) where
  abbrev pub made_state : State
  made_state =
      record s {
        hands = held d (handle Owner (Some (suc s.made)) (origin b null)) ∷ s.hands;
        stores = without same_stored (stored d b) s.stores;
        made = suc s.made;
        object = put s.object (suc s.made) (new_object s.owners b enabled null fields);
        latest = put s.latest b (suc s.made);
      }

  pub made_count : (q : ℕ) → q ≢ suc s.made → count made_state q ≡ count s q
  unfolding count
  made_count q n = make_tally s d b enabled null fields Owner q ∙ tally_other Owner Owner q (suc s.made) (origin b null) (handles s) n

  pub made_one : count made_state (suc s.made) ≡ suc (count s (suc s.made))
  unfolding count
  made_one = make_tally s d b enabled null fields Owner (suc s.made) ∙ tally_here Owner (suc s.made) (origin b null) (handles s)

  pub made_weak : (q : ℕ) → weak made_state q ≡ weak s q
  unfolding weak
  made_weak q = make_tally s d b enabled null fields Weak q

  pub new_counts : Sound z s → (count made_state (suc s.made) ≡ 1) × (weak made_state (suc s.made) ≡ 0)
  new_counts sound =
      let u = sound.fresh (suc s.made) (omega arith) in
      let c : count s (suc s.made) ≡ 0 = subst (λ ph. OwnersFit ph (count s (suc s.made))) u (sound.owners (suc s.made)) in
      let w = sound.unmade_free (suc s.made) u in
      let v = made_weak (suc s.made) in
      (made_one ∙ ap suc c, omega arith)

  -- the block that was taken is in no store any more
  pub taken_once : Sound z s → Has (stored d b) s.stores → (e c : ℕ) → Has (stored e c) (without same_stored (stored d b) s.stores) → c ≢ b
  taken_once sound h e c there same =
      let t = num_without same_stored stored_true stored_self (λ x. x.block == b) (stored d b) s.stores h in
      let one : (b == b) ≡ true = eq-eqb b b refl in
      let u = num_has (λ (x : Stored). x.block == b) (stored d b) (stored d b ∷ []) (inl refl) one in
      let v = num_has (λ (x : Stored). x.block == b) (stored e c) (without same_stored (stored d b) s.stores) there (eq-eqb c b same) in
      let w = sound.once b in
      absurd (omega arith)

  pub sound_make : Sound z s → Has (stored d b) s.stores → Sound z made_state
  sound_make sound h =
      let n = suc s.made in
      let x = new_object s.owners b enabled null fields in
      let vacant = sound.stores d b h in
      let fresh_counts = new_counts sound in
      record {
        owners = λ q. put_cases (λ j y. OwnersFit y.phase (count made_state j)) s.object n x q (λ e. let t = ap (count made_state) e in
            let u = fresh_counts.0 in omega arith)
            (λ ne. fits_same _ _ _ (sound.owners q) (made_count q ne));
        unmade_free = λ q. put_cases (λ j y. y.phase ≡ unmade → weak made_state j + common y.phase ≡ 0) s.object n x q (λ e u. cc)
            (λ ne u. let t = made_weak q in let v = sound.unmade_free q u in omega arith);
        fresh = λ q lt. put_cases (λ j y. n < j → y.phase ≡ unmade) s.object n x q (λ e l. absurd (omega arith))
            (λ ne l. sound.fresh q (omega arith)) lt;
        none = put_cases (λ j y. j ≡ 0 → y.phase ≡ unmade) s.object n x 0 (λ e l. absurd (omega arith)) (λ ne l. sound.none) refl;
        placed = λ q. put_cases (λ j y. 0 < weak made_state j + common y.phase → (put s.latest b n y.block ≡ j) × InShape z y.block) s.object n x q
            (λ e busy. (put_same s.latest b n b refl ∙ sym e, vacant.1))
            (λ ne busy.
            let t = made_weak q in
            let old : IsBusy s q = omega arith in
            let p = sound.placed q old in
            (put_other s.latest b n (s.object q).block (λ e. let v = vacant.0 q e in omega arith) ∙ p.0, p.1));
        latest_made = λ c. put_cases (λ j y. y ≤ n) s.latest b n c (λ e. omega arith) (λ ne. let t = sound.latest_made c in omega arith);
        latest_in = λ c. put_cases (λ j y. y ≢ 0
            → (put s.object n x y).block ≡ j) s.latest b n c (λ e ne. ap (λ (y : Object). y.block) (put_same s.object n x n refl) ∙ sym e)
            (λ ne nz. let t = sound.latest_made c in ap (λ (y : Object). y.block) (put_other s.object n x (s.latest c) (λ e. omega arith))
            ∙ sound.latest_in c nz);
        stores = λ e c there.
            let p = sound.stores e c (has_before same_stored stored_true stored_self (stored e c) (stored d b) s.stores there) in
            let other = taken_once sound h e c there in (
              (λ q. put_cases (λ j y. y.block ≡ c → weak made_state j + common y.phase ≡ 0) s.object n x q (λ e2 u. absurd (other (sym u)))
                  (λ ne u. let t = made_weak q in let v = p.0 q u in omega arith)),
              p.1,
            );
        shelf = λ c there.
            let p = sound.shelf c there in
            let is : on_shelf s c ≡ 1 = ap (λ (y : Bool). cond y 1 0) there in
            let other : c ≢ b = λ e.
            let t = num_has (λ (y : Stored). y.block == c) (stored d b) s.stores h (eq-eqb b c (sym e)) in
            let u = sound.once c in absurd (omega arith) in (
              (λ q. put_cases (λ j y. y.block ≡ c → weak made_state j + common y.phase ≡ 0) s.object n x q (λ e2 u. absurd (other (sym u)))
                  (λ ne u. let t = made_weak q in let v = p.0 q u in omega arith)),
              p.1,
            );
        once = λ c. let t = num_without same_stored stored_true stored_self (λ x. x.block == c) (stored d b) s.stores h in
            let u = sound.once c in omega arith;
        cleared = λ q m lt. put_cases (λ j y. common y.phase ≡ 0
            → y.member m ≡ empty (kind_of_member s.owners m)) s.object n x q (λ e u. absurd (omega arith)) (λ ne u. sound.cleared q m lt u);
        few = sound.few;
        unused = λ q m le. put_cases (λ j y. y.member m ≡ empty (kind_of_member s.owners m)) s.object n x q (λ e. refl) (λ ne. sound.unused q m le);
      }
