-- What a desk's half-done call has out on a count, and what the count's word says to that desk.
use Rattle.std.proofs.Common.{◌≡◌, ℕ, ◌+◌, ◌-◌, ◌*◌, ◌<◌, ◌≤◌, Bool, true, false, ◌≢◌, List, map}
use Rattle.std.proofs.Common.{get_or, set, ◌==◌, Some, Option, sym, refl, ap, ◌∙◌, inl, ⊎_elim}
use Rattle.std.proofs.Common.{arith, eq-eqb, ne_eqb}
use Rattle.control_word.proofs.Prelude
use Prelude.{added, adds, at_set, blocks_of, cases_eq, counts_at, Entry, get_elem?, handle}
use Prelude.{handles, Has, held, Idle, in_cells, Kind, leads, Opening, owed, owes, paid, Paying}
use Prelude.{pays, Pending, Place, same_held, sees, some, Stands, tally, View, without}
use Rattle.control_word.proofs.history.Cells.{one_of}
use Rattle.control_word.proofs.history.Legal.{held_busy, sound}
use Rattle.control_word.proofs.history.Soundness.{IsBusy}
use Rattle.control_word.proofs.lists.Tallies.{tally_append, tally_without}
use Rattle.control_word.proofs.words.Counting.{number, number_read, one_test, pays_handle}
use Rattle.control_word.proofs.words.Counting.{two_held}
use Rattle.control_word.proofs.words.Frames.{total_set}
use Rattle.control_word.proofs.words.Funds.{bank_few, total_some}
use Rattle.control_word.proofs.words.Payments.{cond_one, one_at, one_here, rest_paid}
use Rattle.control_word.specs.Words.{bank}
use Rattle.control_word.specs.Limits.{one_fund}

module _ {V : Type 0} where
  -- a call with so many funds out on word w, and with nothing else on any word
  pub record HasOut (p : Pending V) (w f : ℕ) : Type 0 where
    pub bare : (m : ℕ) → adds p m ≡ 0
    pub funds : (m : ℕ) → pays p m ≡ f * one_at w m
    pub loads : (m : ℕ) → owes p m ≡ 0

  pub idle_out : (p : Pending V) (w : ℕ) → p ≡ Idle → HasOut p w 0
  idle_out p w e = record {
    bare = λ m. ap (λ q. adds q m) e;
    funds = λ m. ap (λ q. pays q m) e ∙ omega arith;
    loads = λ m. ap (λ q. owes q m) e;
  }

  pub paying_out : (p : Pending V) (k : Kind) (o : ℕ) (q : Option Place) (w f : ℕ) → p ≡ Paying k o q w f 0 → HasOut p w f
  paying_out p k o q w f e = record {
    bare = λ m. ap (λ x. adds x m) e;
    funds = λ m. ap (λ x. pays x m) e ∙ cond_one w m f;
    loads = λ m. let a = ap (λ x. owes x m) e in let b = cond_one w m 0 in omega arith;
  }

-- the whole word is one handle and what was out, just where it is one without that
pub funds_test : (n a : ℕ) → a ≤ n → (n == a + 1) ≡ (n - a == 1)
funds_test n a le =
    ⊎_elim (λ (e : n ≡ a + 1). eq-eqb n (a + 1) e ∙ sym (eq-eqb (n - a) 1 (omega arith)))
    (λ (ne : n ≢ a + 1). ne_eqb n (a + 1) ne ∙ sym (ne_eqb (n - a) 1 (λ e. ne (omega arith)))) (cases_eq n (a + 1))

module _ {V : Type 0} where
  module _ (z : Opening) (words : List ℕ) (views : List (View V)) (h : List (Entry V)) (stands : Stands z words views h)
      (i : ℕ) (v : View V) (at : get_elem? views i ≡ some v) (awake : v.spent ≡ false) where
    -- a step after which the desk rests takes what it had out, and leaves what the others owe and pay
    pub settles : (w f : ℕ) → HasOut v.pending w f → (seen : List (Entry V)) (m : ℕ) → let u = sees v seen in
        (owed views m ≡ owed (set views i u) m) × (paid views m ≡ paid (set views i u) m + f * one_at w m) × (added views m ≡ added (set views i u) m)
    settles w f out seen m =
        let u = sees v seen in
        let a = total_set (λ (y : View V). owes y.pending m) views i v u at in let x = out.loads m in
        let b = total_set (λ (y : View V). pays y.pending m) views i v u at in let y = out.funds m in
        let c = total_set (λ (y : View V). adds y.pending m) views i v u at in let d = out.bare m in
        (omega arith, omega arith, omega arith)

    -- where a desk has the only handle of a kind, nobody else has funds on its word
    pub no_others_funds : (k : Kind) (o : ℕ) (p : Option Place) → Has (held v.name (handle k (Some o) p)) (leads z h).hands
        → tally k o (handles (leads z h)) ≡ 1
        → let j = counts_at (blocks_of (leads z h)) k o in paid (set views i (sees v h)) j + bank z (leads z h) stands.taken j ≡ 0
    no_others_funds k o p has only =
        let s = leads z h in
        let fine = sound z h stands.legal in
        let busy = held_busy z s v.name o k p fine has in
        let j = counts_at (blocks_of s) k o in
        let one = one_of k o (handle k (Some o) p) refl refl in
        let a = tally_without k o (held v.name (handle k (Some o) p)) s.hands (in_cells s) has in
        let b = tally_append k o (map (λ y. y.handle) (without same_held (held v.name (handle k (Some o) p)) s.hands)) (in_cells s) in
        let c = bank_few z s fine k o busy stands.taken in
        let d : paid (set views i (sees v h)) j ≡ 0 = ⊎_elim (λ e. e)
        (λ (n : paid (set views i (sees v h)) j ≢ 0).
        let t = total_some (λ (y : View V). pays y.pending j) (set views i (sees v h)) (omega arith) in
        ⊎_elim
        (λ (e : (t.0 ≡ i) × (sees v h ≡ t.1)). absurd (let x = ap (λ (y : View V). pays y.pending j) e.1 in let m = t.3 in omega arith))
        (λ (e : (t.0 ≢ i) × (get_elem? views t.0 ≡ some t.1)). absurd (another t.0 t.1 e.0 e.1 busy t.3)) (at_set views i t.0 (sees v h) t.1 t.2))
        (cases_eq (paid (set views i (sees v h)) j) 0) in
        omega arith
      where
        another : (q : ℕ) (u : View V) → q ≢ i → get_elem? views q ≡ some u → IsBusy (leads z h) o
            → 0 < pays u.pending (counts_at (blocks_of (leads z h)) k o) → ⊥
        another q u n e busy more = go u.spent refl
          where
            go : (b : Bool) → u.spent ≡ b → ⊥
            go true t = let a = ap (λ x. pays x (counts_at (blocks_of (leads z h)) k o)) (stands.team.rests q u e t) in omega arith
            go false t =
                let s = leads z h in
                let has' = pays_handle z words views h stands k o busy u.name u.pending (stands.team.seated q u e t).fits more in
                ⊎_elim (λ (same : u.name ≡ v.name). n (stands.team.names q i u v e at t awake v.name (inl same) (inl refl)))
                (λ ne. let m = two_held s k o u.name v.name has'.0 p ne has'.1 has in omega arith) (cases_eq u.name v.name)

    -- the desk's handle is the last of its number just where the whole word is 1 and what the desk has out
    pub last_test : (k : Kind) (o f : ℕ) (p : Option Place) → let s = leads z h in let w = counts_at (blocks_of s) k o in
        HasOut v.pending w f → Has (held v.name (handle k (Some o) p)) s.hands → 0 < number s k o → (number s k o ≡ 1 → tally k o (handles s) ≡ 1)
        → (one_fund * f + 1 ≤ get_or words w 0) × ((get_or words w 0 == one_fund * f + 1) ≡ (number s k o == 1))
    last_test k o f p out has some' alone =
        let s = leads z h in
        let w = counts_at (blocks_of s) k o in
        let busy = held_busy z s v.name o k p (sound z h stands.legal) has in
        let r = number_read z words views h stands k o busy in
        let t = settles w f out h w in let t0 = t.0 in let t1 = t.1 in
        let one : f * one_at w w ≡ f * 1 = ap (λ c. f * c) (one_here w w refl) in
        let l = rest_paid z words views h stands i v at awake Idle h w (omega arith) in
        let rest = paid (set views i (sees v h)) w + bank z s stands.taken w in
        let more : one_fund * f + 1 ≤ get_or words w 0 = omega arith in (
          more,
          funds_test (get_or words w 0) (one_fund * f) (omega arith)
              ∙ one_test (get_or words w 0 - one_fund * f) (owed (set views i (sees v h)) w) (number s k o) rest (omega arith) (omega arith) some'
              (λ e. no_others_funds k o p has (alone e)),
        )
