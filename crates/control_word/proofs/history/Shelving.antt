-- A block that goes to the shelf, or from it to a store, is in one place before and after.
use Rattle.std.proofs.Common.{◌≡◌, ℕ, Bool, true, false, cond, ◌≢◌, List, [], ◌∷◌, ◌==◌, refl, ap}
use Rattle.std.proofs.Common.{◌∙◌, ⊎_elim, arith}
use Rattle.control_word.proofs.Prelude.{cases_eq, Has, how_often, on_shelf, Opening, same_stored}
use Rattle.control_word.proofs.Prelude.{State, Stored, stored, times_kept}
use Rattle.control_word.proofs.history.Keeping.{Kept, kept_still, stored_else, stored_here}
use Rattle.control_word.proofs.history.Passing.{sound_stores}
use Rattle.control_word.proofs.history.Soundness.{Sound}
use Rattle.control_word.proofs.lists.Tallies.{num_without, put_other, put_same, stored_self}
use Rattle.control_word.proofs.lists.Tallies.{stored_true}
use Rattle.control_word.specs.Events.{shelves, unshelves}
use Rattle.control_word.specs.State.{weak}

abbrev bit : Bool → ℕ
bit x = cond x 1 0

times_shelved : (z : Opening) (s : State) (d b : ℕ) → Sound z s → Has (stored d b) s.stores → (c : ℕ)
    → times_kept (shelves d b s) c ≡ times_kept s c
times_shelved z s d b sound has c =
    let r = num_without same_stored stored_true stored_self (λ x. x.block == c) (stored d b) s.stores has in
    let once = sound.once c in
    ⊎_elim
    (λ (e : c ≡ b).
    let one = ap (λ n. how_often n (stored d b ∷ [])) e ∙ stored_here d b [] in
    let on : on_shelf (shelves d b s) c ≡ 1 = ap bit (put_same s.shelved b true c e) in omega arith)
    (λ (ne : c ≢ b).
    let none = stored_else d b c [] ne in
    let on : on_shelf (shelves d b s) c ≡ on_shelf s c = ap bit (put_other s.shelved b true c ne) in omega arith)
    (cases_eq c b)

times_unshelved : (s : State) (d b : ℕ) → s.shelved b ≡ true → (c : ℕ)
    → times_kept (unshelves d b s) c ≡ times_kept s c
times_unshelved s d b is c =
    ⊎_elim
    (λ (e : c ≡ b).
    let one : how_often c (stored d b ∷ s.stores) ≡ how_often b (stored d b ∷ s.stores) =
    ap (λ n. how_often n (stored d b ∷ s.stores)) e in
    let here = stored_here d b s.stores in
    let same : how_often c s.stores ≡ how_often b s.stores = ap (λ n. how_often n s.stores) e in
    let was : on_shelf s c ≡ 1 = ap (on_shelf s) e ∙ ap bit is in
    let off : on_shelf (unshelves d b s) c ≡ 0 = ap bit (put_same s.shelved b false c e) in omega arith)
    (λ (ne : c ≢ b).
    let else' = stored_else d b c s.stores ne in
    let on : on_shelf (unshelves d b s) c ≡ on_shelf s c = ap bit (put_other s.shelved b false c ne) in omega arith)
    (cases_eq c b)

pub sound_shelved : (z : Opening) (s : State) (d b : ℕ) → Sound z s → Has (stored d b) s.stores → Sound z (shelves d b s)
sound_shelved z s d b sound has = sound_stores z s _ _ s.names s.joined s.allowance sound (times_shelved z s d b sound has)

pub sound_unshelved : (z : Opening) (s : State) (d b : ℕ) → Sound z s → s.shelved b ≡ true → Sound z (unshelves d b s)
sound_unshelved z s d b sound is = sound_stores z s _ _ s.names s.joined s.allowance sound (times_unshelved s d b is)

-- the counts are as they were
shelf_weak : (s : State) (r : List Stored) (f : ℕ → Bool) (q : ℕ) → weak (record s { stores = r; shelved = f }) q ≡ weak s q
unfolding weak
shelf_weak s r f q = refl

kept_moved : (z : Opening) (s : State) (r : List Stored) (f : ℕ → Bool) → Kept z s
    → ((c : ℕ) → times_kept (record s { stores = r; shelved = f }) c ≡ times_kept s c)
    → Kept z (record s { stores = r; shelved = f })
kept_moved z s r f kept same =
    kept_still z s (record s { stores = r; shelved = f }) kept (λ c. let t = same c in omega arith) (λ q. refl)
    (λ q e. let t = shelf_weak s r f q in omega arith)

pub kept_shelved : (z : Opening) (s : State) (d b : ℕ) → Sound z s → Kept z s → Has (stored d b) s.stores
    → Kept z (shelves d b s)
kept_shelved z s d b sound kept has = kept_moved z s _ _ kept (times_shelved z s d b sound has)

pub kept_unshelved : (z : Opening) (s : State) (d b : ℕ) → Kept z s → s.shelved b ≡ true → Kept z (unshelves d b s)
kept_unshelved z s d b kept is = kept_moved z s _ _ kept (times_unshelved s d b is)
