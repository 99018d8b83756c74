-- A change of hands and objects, in their blocks, keeps a state sound.
use Rattle.std.proofs.Common.{◌≡◌, ℕ, zero, suc, ◌+◌, ◌<◌, ◌≤◌, ◌≢◌, List, [], ◌∷◌, ◌++◌, map}
use Rattle.std.proofs.Common.{length, ◌==◌, Some, Option, sym, refl, ap, ◌∙◌, subst, ⊎_elim, arith}
use Rattle.std.proofs.Common.{eqb-true}
use Rattle.control_word.proofs.Prelude
use Prelude.{cases_eq, common, cond_both, empty, ending, filter, gone, handle, handles, Has, Held}
use Prelude.{held, in_cells, InShape, IsVacant, kind_of_member, live, members, NumberedHandle}
use Prelude.{Object, on_shelf, Opening, Owner, Phase, Place, same_held, State, Stored, stored}
use Prelude.{tally, times_kept, unmade, upto, Weak, weak_number, without}
use Rattle.control_word.proofs.history.Soundness.{IsBusy, OwnersFit, Sound}
use Rattle.control_word.proofs.lists.Tallies.{tally_has, tally_here, tally_other, tally_without}
use Rattle.control_word.proofs.lists.Tallies.{upto_same}
use Rattle.control_word.specs.State.{count, weak}
use Rattle.control_word.specs.Limits.{most_members}

-- a change of the hands and of objects, in their blocks
pub record Moves (s : State) (hs : List Held) (f : ℕ → Object) (g : ℕ → NumberedHandle) : Type 0 where
  pub owners : (o : ℕ) → OwnersFit (f o).phase (count (record s { hands = hs; object = f; cell = g }) o)
  pub weaks : (o : ℕ) → 0 < weak_number (record s { hands = hs; object = f; cell = g }) o → 0 < weak_number s o
  pub block : (o : ℕ) → (f o).block ≡ (s.object o).block
  pub made : (o : ℕ) → ((s.object o).phase ≡ unmade → (f o).phase ≡ unmade) × ((f o).phase ≡ unmade → (s.object o).phase ≡ unmade)
  pub cleared : (o m : ℕ) → m < most_members → common (f o).phase ≡ 0 → (f o).member m ≡ empty (kind_of_member s.owners m)
  pub unused : (o m : ℕ) → s.members ≤ m → (f o).member m ≡ empty (kind_of_member s.owners m)

zero_from : (a b : ℕ) → (0 < a → 0 < b) → b ≡ 0 → a ≡ 0
zero_from a b f e = go a refl
  where
    go : (n : ℕ) → a ≡ n → n ≡ 0
    go zero p = refl
    go (suc n) p = absurd (let t = f (omega arith) in omega arith)

pub sound_moves : (z : Opening) (s : State) (hs : List Held) (f : ℕ → Object) (g : ℕ → NumberedHandle) → Sound z s → Moves s hs f g
    → Sound z (record s { hands = hs; object = f; cell = g })
sound_moves z s hs f g sound moves =
    let s' : State = record s { hands = hs; object = f; cell = g } in
    record {
      owners = moves.owners;
      unmade_free = λ o e. zero_from (weak_number s' o) (weak_number s o) (moves.weaks o) (sound.unmade_free o ((moves.made o).1 e));
      fresh = λ o h. (moves.made o).0 (sound.fresh o h);
      none = (moves.made 0).0 sound.none;
      placed = λ o busy. let p = sound.placed o (moves.weaks o busy) in let b = moves.block o in
          subst (λ (c : ℕ). (s.latest c ≡ o) × InShape z c) (sym b) p;
      latest_made = sound.latest_made;
      latest_in = λ b n. moves.block (s.latest b) ∙ sound.latest_in b n;
      stores = λ d b h. let p = sound.stores d b h in (
        (λ o e. zero_from (weak_number s' o) (weak_number s o) (moves.weaks o) (p.0 o (sym
            (moves.block o) ∙ e))),
        p.1,
      );
      shelf = λ b e. let p = sound.shelf b e in (
        (λ o e. zero_from (weak_number s' o) (weak_number s o) (moves.weaks o) (p.0 o (sym
            (moves.block o) ∙ e))),
        p.1,
      );
      once = sound.once;
      cleared = moves.cleared;
      few = sound.few;
      unused = moves.unused;
    }

-- the same where only the hands change
pub sound_hands : (z : Opening) (s : State) (hs : List Held) → Sound z s
    → ((o : ℕ) → OwnersFit (s.object o).phase (count (record s { hands = hs }) o))
    → ((o : ℕ) → 0 < weak_number (record s { hands = hs }) o → 0 < weak_number s o)
    → Sound z (record s { hands = hs })
sound_hands z s hs sound owners weaks =
    sound_moves z s hs s.object s.cell sound (record {
      owners = owners;
      weaks = weaks;
      block = λ o. refl;
      made = λ o. (
        (λ e. e),
        λ e. e,
      );
      cleared = sound.cleared;
      unused = sound.unused;
    })

-- a vacant block that no store has goes to a store
pub sound_vacates : (z : Opening) (s : State) (d b : ℕ) → Sound z s → IsVacant s b → InShape z b → times_kept s b ≡ 0
    → Sound z (record s { stores = stored d b ∷ s.stores })
unfolding count weak
sound_vacates z s d b sound vacant there absent = record {
  owners = sound.owners;
  unmade_free = sound.unmade_free;
  fresh = sound.fresh;
  none = sound.none;
  placed = sound.placed;
  latest_made = sound.latest_made;
  latest_in = sound.latest_in;
  stores = λ e c h. ⊎_elim (λ t. let q : b ≡ c = sym (ap (λ (u : Stored). u.block) t) in subst (λ n. IsVacant s n
      × InShape z n) q (vacant, there)) (λ t. sound.stores e c t) h;
  shelf = sound.shelf;
  once = λ c. cond_both (b == c) (stored d b ∷ filter (λ x. x.block == c) s.stores) (filter (λ x. x.block == c) s.stores)
      (λ l. length l + on_shelf s c ≤ 1)
      (λ e. let q : times_kept s c ≡ 0 = subst (λ n. times_kept s n ≡ 0) (eqb-true b c e) absent in omega arith)
      (λ e. sound.once c);
  cleared = sound.cleared;
  few = sound.few;
  unused = sound.unused;
}

-- the object of a handle that is held
pub owner_counted : (s : State) (d o : ℕ) (p : Option Place) → Has (held d (handle Owner (Some o) p)) s.hands → 0 < count s o
unfolding count
owner_counted s d o p h = tally_has Owner o (held d (handle Owner (Some o) p)) s.hands _ h (omega (arith, tally_here Owner o p []))

pub weak_counted : (s : State) (d o : ℕ) (p : Option Place) → Has (held d (handle Weak (Some o) p)) s.hands → 0 < weak s o
unfolding weak
weak_counted s d o p h = tally_has Weak o (held d (handle Weak (Some o) p)) s.hands _ h (omega (arith, tally_here Weak o p []))

fits_live : (p : Phase) (n : ℕ) → OwnersFit p n → 0 < n → p ≡ live
fits_live unmade n f h = absurd (omega arith)
fits_live live n f h = refl
fits_live gone n f h = absurd (omega arith)
fits_live (ending d) n f h = absurd (omega arith)

-- an object with an owner is live
pub counted_live : (z : Opening) (s : State) (o : ℕ) → Sound z s → 0 < count s o → (s.object o).phase ≡ live
counted_live z s o sound h = fits_live (s.object o).phase (count s o) (sound.owners o) h

pub live_busy : (s : State) (o : ℕ) → (s.object o).phase ≡ live → IsBusy s o
live_busy s o e = let c : common (s.object o).phase ≡ 1 = ap common e in omega arith

-- d gets one more handle of a busy object
pub more_owners : (s : State) (d o : ℕ) (p : Option Place) → (q : ℕ)
    → ((q ≡ o) → count (record s { hands = held d (handle Owner (Some o) p) ∷ s.hands }) q ≡ suc (count s q))
    × ((q ≢ o) → count (record s { hands = held d (handle Owner (Some o) p) ∷ s.hands }) q ≡ count s q)
unfolding count
more_owners s d o p q = (
  (λ e. subst (λ n. tally Owner q (handle Owner (Some n) p ∷ handles s) ≡ suc (tally Owner q (handles s))) e (tally_here Owner q p (handles s))),
  (λ n. tally_other Owner Owner q o p (handles s) n),
)

pub more_weaks : (s : State) (d o : ℕ) (p : Option Place) → (q : ℕ)
    → ((q ≡ o) → weak (record s { hands = held d (handle Weak (Some o) p) ∷ s.hands }) q ≡ suc (weak s q))
    × ((q ≢ o) → weak (record s { hands = held d (handle Weak (Some o) p) ∷ s.hands }) q ≡ weak s q)
unfolding weak
more_weaks s d o p q = (
  (λ e. subst (λ n. tally Weak q (handle Weak (Some n) p ∷ handles s) ≡ suc (tally Weak q (handles s))) e (tally_here Weak q p (handles s))),
  (λ n. tally_other Weak Weak q o p (handles s) n),
)

pub owner_no_weak : (s : State) (d : ℕ) (n : Option ℕ) (p : Option Place) (q : ℕ)
    → weak (record s { hands = held d (handle Owner n p) ∷ s.hands }) q ≡ weak s q
unfolding weak
owner_no_weak s d n p q = refl

pub weak_no_owner : (s : State) (d : ℕ) (n : Option ℕ) (p : Option Place) (q : ℕ)
    → count (record s { hands = held d (handle Weak n p) ∷ s.hands }) q ≡ count s q
unfolding count
weak_no_owner s d n p q = refl

pub fits_same : (p : Phase) (m n : ℕ) → OwnersFit p m → n ≡ m → OwnersFit p n
fits_same p m n f e = subst (OwnersFit p) (sym e) f

pub fits_from_live : (p : Phase) (n : ℕ) → p ≡ live → 0 < n → OwnersFit p n
fits_from_live p n e h = subst (λ q. OwnersFit q n) (sym e) h

-- one more owner of a live object
pub sound_owner : (z : Opening) (s : State) (d o : ℕ) (p : Option Place) → Sound z s → (s.object o).phase ≡ live
    → Sound z (record s { hands = held d (handle Owner (Some o) p) ∷ s.hands })
sound_owner z s d o p sound alive =
    let hs = held d (handle Owner (Some o) p) ∷ s.hands in
    sound_hands z s hs sound
    (λ q. ⊎_elim (λ e. fits_from_live _ _ (subst (λ n. (s.object n).phase ≡ live) (sym e) alive) (let t = (more_owners s d o p q).0 e in omega arith))
    (λ n. fits_same _ _ _ (sound.owners q) ((more_owners s d o p q).1 n)) (cases_eq q o))
    (λ q busy. let t = owner_no_weak s d (Some o) p q in omega arith)

-- one more weak handle of a busy object
pub sound_weak : (z : Opening) (s : State) (d o : ℕ) (p : Option Place) → Sound z s → IsBusy s o
    → Sound z (record s { hands = held d (handle Weak (Some o) p) ∷ s.hands })
sound_weak z s d o p sound busy =
    let hs = held d (handle Weak (Some o) p) ∷ s.hands in
    sound_hands z s hs sound
    (λ q. fits_same _ _ _ (sound.owners q) (weak_no_owner s d (Some o) p q))
    (λ q more. ⊎_elim (λ e. subst (IsBusy s) (sym e) busy) (λ n. let t = (more_weaks s d o p q).1 n in omega arith) (cases_eq q o))

-- the members of objects are counted alike where only phases change
module _ (s : State) (hs : List Held) (f : ℕ → Object) (same : (q : ℕ) → members (f q) ≡ members (s.object q)) where
  handles_same : handles (record s { hands = hs; object = f }) ≡ handles (record s { hands = hs })
  handles_same = ap (λ l. map (λ x. x.handle) hs ++ (upto s.cells (λ c. s.cell c ∷ []) ++ l)) (upto_same (suc s.made) (λ o. members (f o))
      (λ o. members (s.object o)) (λ i h. same i))

  pub count_same : (q : ℕ) → count (record s { hands = hs; object = f }) q ≡ count (record s { hands = hs }) q
  unfolding count
  count_same q = ap (tally Owner q) handles_same

  pub weak_same : (q : ℕ) → weak (record s { hands = hs; object = f }) q ≡ weak (record s { hands = hs }) q
  unfolding weak
  weak_same q = ap (tally Weak q) handles_same

-- one owner of o less
pub less_owners : (s : State) (d o : ℕ) (p : Option Place) → Has (held d (handle Owner (Some o) p)) s.hands → (q : ℕ)
    → ((q ≡ o) → count s q ≡ suc (count (record s { hands = without same_held (held d (handle Owner (Some o) p)) s.hands }) q))
    × ((q ≢ o) → count s q ≡ count (record s { hands = without same_held (held d (handle Owner (Some o) p)) s.hands }) q)
    × (weak s q ≡ weak (record s { hands = without same_held (held d (handle Owner (Some o) p)) s.hands }) q)
unfolding count weak
less_owners s d o p h q = (
  (λ e. let t = tally_without Owner q (held d (handle Owner (Some o) p)) s.hands (in_cells s) h in
      let u = subst (λ n. tally Owner q (handle Owner (Some n) p ∷ []) ≡ suc 0) e (tally_here Owner q p []) in omega (arith, t, u)),
  (λ n. let t = tally_without Owner q (held d (handle Owner (Some o) p)) s.hands (in_cells s) h in omega (arith, t, tally_other Owner Owner q o p [] n)),
  (let t = tally_without Weak q (held d (handle Owner (Some o) p)) s.hands (in_cells s) h in omega (arith, t)),
)

pub less_weaks : (s : State) (d o : ℕ) (p : Option Place) → Has (held d (handle Weak (Some o) p)) s.hands → (q : ℕ)
    → ((q ≡ o) → weak s q ≡ suc (weak (record s { hands = without same_held (held d (handle Weak (Some o) p)) s.hands }) q))
    × ((q ≢ o) → weak s q ≡ weak (record s { hands = without same_held (held d (handle Weak (Some o) p)) s.hands }) q)
    × (count s q ≡ count (record s { hands = without same_held (held d (handle Weak (Some o) p)) s.hands }) q)
unfolding count weak
less_weaks s d o p h q = (
  (λ e. let t = tally_without Weak q (held d (handle Weak (Some o) p)) s.hands (in_cells s) h in
      let u = subst (λ n. tally Weak q (handle Weak (Some n) p ∷ []) ≡ suc 0) e (tally_here Weak q p []) in omega (arith, t, u)),
  (λ n. let t = tally_without Weak q (held d (handle Weak (Some o) p)) s.hands (in_cells s) h in omega (arith, t, tally_other Weak Weak q o p [] n)),
  (let t = tally_without Owner q (held d (handle Weak (Some o) p)) s.hands (in_cells s) h in omega (arith, t)),
)
