-- The funds and the number of a word stay in their halves.
use Rattle.std.proofs.Common.{◌≡◌, ℕ, ◌+◌, ◌-◌, ◌*◌, ◌<◌, ◌≤◌, Bool, true, false, ◌&&◌, ◌≢◌, List}
use Rattle.std.proofs.Common.{[], ◌∷◌, map, get_or, ◌==◌, Some, Option, sym, refl, ap, ◌∙◌, inl}
use Rattle.std.proofs.Common.{⊎_elim, arith, eq-eqb}
use Rattle.control_word.proofs.Prelude
use Prelude.{and_from, blocks_of, cases_eq, cases_lt, cond_both, counts_at, Entry, Fits, get_elem?}
use Prelude.{handle, handles, Held, held, Idle, in_cells, is_on, IsLegal, Kind, leads, Making}
use Prelude.{Merging, Opening, owed, owes, Owner, paid, Parting, Paying, pays, Pending, Place}
use Prelude.{some, some-injective, Stands, tally, total, value, View, Visiting, Weak, word}
use Rattle.control_word.proofs.history.Allowances.{allowed, opened}
use Rattle.control_word.proofs.history.Legal.{sound}
use Rattle.control_word.proofs.history.Numbers.{cells_room, members_of, numbers_fit, some_handle}
use Rattle.control_word.proofs.history.Soundness.{IsBusy}
use Rattle.control_word.proofs.lists.Tallies.{num_has, tally_append}
use Rattle.control_word.proofs.views.Names.{named, named_awake, names_sum, own, own_awake, own_sum}
use Rattle.control_word.proofs.words.Counting.{number, number_read, number_tally, owed_paid}
use Rattle.control_word.proofs.words.Counting.{owes_funds, pays_handle}
use Rattle.control_word.proofs.words.Frames.{total_none}
use Rattle.control_word.proofs.words.Funds.{bank_few, total_le}
use Rattle.control_word.specs.Words.{bank}
use Rattle.control_word.specs.Limits.{cell_funds, most_number, one_fund, HasRoomForFunds}
use Rattle.control_word.proofs.Prelude.{IsOpening}

-- the number that a word tells: its low half, or 1 where that is 0 and funds are there
pub relaxed : (n l m f : ℕ) (low high : ℕ) → n + l ≡ m + one_fund * f → l ≤ f → l ≤ m → m < one_fund → n ≡ low + one_fund * high
    → low < one_fund → (low ≡ m - l) × (high ≡ f)
relaxed n l m f low high e a b c d g =
    ⊎_elim (λ (t : high ≡ f). (omega arith, t)) (λ (t : high ≢ f). ⊎_elim (λ (u : high < f). absurd (omega arith))
    (λ u. absurd (omega arith)) (cases_lt high f)) (cases_eq high f)

-- the rule of the opening, for either kind
pub kind_room : (z : Opening) → IsOpening z → (k : Kind) → HasRoomForFunds z.allowance (members_of z k) z.blocks z.cells
kind_room z proper Owner = proper.room.0
kind_room z proper Weak = proper.room.1

module _ {V : Type 0} where
  pub number_room : (z : Opening) (h : List (Entry V)) → IsLegal z h → (k : Kind) (o : ℕ) → number (leads z h) k o ≤ most_number
  number_room z h legal Owner o = let t = numbers_fit z h legal o in let a = t.0 in let b = t.1 in omega arith
  number_room z h legal Weak o = let t = numbers_fit z h legal o in let a = t.2 in let b = t.3 in omega arith

  module _ (z : Opening) (words : List ℕ) (views : List (View V)) (h : List (Entry V)) (stands : Stands z words views h) where
    pays_few : (d : ℕ) (p : Pending V) (i : ℕ) → Fits words (leads z h) (value z h) d p → pays p i ≤ cell_funds
    pays_few d Idle i fits = omega arith
    pays_few d (Making b known) i fits = omega arith
    pays_few d (Visiting o p word w) i fits = omega arith
    pays_few d (Parting to) i fits = omega arith
    pays_few d (Merging other x y) i fits = omega arith
    pays_few d (Paying k o p word funds loads) i fits = let t = fits.4 in cond_both (i == word) funds 0 (λ n. n ≤ cell_funds) (λ e. t) (λ e. omega arith)

    same_names : (i j : ℕ) (v w : View V) → get_elem? views i ≡ some v → get_elem? views j ≡ some w → v.spent ≡ false → w.spent ≡ false
        → v.name ≡ w.name → i ≡ j
    same_names i j v w a b l m e = stands.team.names i j v w a b l m w.name (inl e) (inl refl)

    -- half-done calls have no more than 256 funds out for each desk, and each desk has an allowance
    pub paid_room : (i : ℕ) → paid views i ≤ cell_funds * z.allowance
    paid_room i =
        let s = leads z h in
        let fine = allowed z h stands.legal in
        let a = total_le (λ (v : View V). pays v.pending i) (λ (v : View V). cell_funds * named s.allowance s.names v) views (λ j v e. go j v e v.spent refl) in
        let b = total_times (named s.allowance s.names) views in
        let c = names_sum s.allowance s.names views same_names in
        let d = fine.shares in omega arith
      where
        total_times : (f : View V → ℕ) (l : List (View V)) → total (λ v. cell_funds * f v) l ≡ cell_funds * total f l
        total_times f [] = refl
        total_times f (x ∷ xs) = let t = total_times f xs in omega arith

        go : (j : ℕ) (v : View V) → get_elem? views j ≡ some v → (t : Bool) → v.spent ≡ t
            → pays v.pending i ≤ cell_funds * named (leads z h).allowance (leads z h).names v
        go j v e true t = let a = ap (λ p. pays p i) (stands.team.rests j v e t) in omega arith
        go j v e false t =
            let s = stands.team.seated j v e t in
            let act = s.acts v.name (inl refl) in
            let a = pays_few v.name v.pending i s.fits in let b = act.2 in
            let c = named_awake (leads z h).allowance (leads z h).names v t act.0 in omega arith

    -- the funds on a word, with 256 more, and the number, with one more, stay in their halves
    pub funds_room : (k : Kind) (o : ℕ) → IsBusy (leads z h) o → let i = counts_at (blocks_of (leads z h)) k o in
        (number (leads z h) k o + 1 < one_fund) × (paid views i + bank z (leads z h) stands.taken i + cell_funds < one_fund)
        × (get_or words i 0 + 1099511627776 < 18446744073709551616)
    funds_room k o busy =
        let s = leads z h in
        let i = counts_at (blocks_of s) k o in
        let n = number_room z h stands.legal k o in
        let p = paid_room i in
        let b = bank_few z s (sound z h stands.legal) k o busy stands.taken in
        let c = cells_room z h stands.legal k o in
        let r = number_read z words views h stands k o busy in
        let proper = opened z h stands.legal in
        let some' = some_handle z proper in
        let rule = kind_room z proper k in
        (omega arith, omega arith, omega arith)

    owes_one : (d : ℕ) (p : Pending V) (i : ℕ) → Fits words (leads z h) (value z h) d p → owes p i ≤ 1
    owes_one d Idle i fits = omega arith
    owes_one d (Making b known) i fits = omega arith
    owes_one d (Visiting o p word w) i fits = omega arith
    owes_one d (Parting to) i fits = omega arith
    owes_one d (Merging other x y) i fits = omega arith
    owes_one d (Paying k o p word funds loads) i fits = let t = fits.3 in cond_both (i == word) loads 0 (λ n. n ≤ 1) (λ e. t) (λ e. omega arith)

    -- the loads under way are no more than the handles in bags
    pub owed_few : (k : Kind) (o : ℕ) → IsBusy (leads z h) o → owed views (counts_at (blocks_of (leads z h)) k o) ≤ tally k o (handles (leads z h))
    owed_few k o busy =
        let s = leads z h in
        let i = counts_at (blocks_of s) k o in
        let a = total_le (λ (v : View V). owes v.pending i) (own k o s.hands) views (λ j v e. go j v e v.spent refl) in
        let b = own_sum k o s.hands views (same_names) in
        omega (arith, tally_append k o (map (λ (x : Held). x.handle) s.hands) (in_cells s))
      where
        go : (j : ℕ) (v : View V) → get_elem? views j ≡ some v → (t : Bool) → v.spent ≡ t
            → owes v.pending (counts_at (blocks_of (leads z h)) k o) ≤ own k o (leads z h).hands v
        go j v e true t = let a = ap (λ p. owes p (counts_at (blocks_of (leads z h)) k o)) (stands.team.rests j v e t) in omega arith
        go j v e false t =
            let s = leads z h in
            let i = counts_at (blocks_of s) k o in
            let fits = (stands.team.seated j v e t).fits in
            let one = owes_one v.name v.pending i fits in
            ⊎_elim (λ (q : owes v.pending i ≡ 0). omega arith)
            (λ (q : owes v.pending i ≢ 0).
            let f = owes_funds z words views h stands v.name v.pending i fits in
            let m = pays_handle z words views h stands k o busy v.name v.pending fits (omega arith) in
            let is : (v.name == v.name && is_on k o (handle k (Some o) m.0)) ≡ true = and_from _ _ (eq-eqb v.name v.name refl) (kind_is k o m.0) in
            let n = num_has (λ (x : Held). x.desk == v.name && is_on k o x.handle) (held v.name (handle k (Some o) m.0)) s.hands m.1 is in
            let a = own_awake k o s.hands v t in omega arith) (cases_eq (owes v.pending i) 0)
          where
            kind_is : (k : Kind) (o : ℕ) (p : Option Place) → is_on k o (handle k (Some o) p) ≡ true
            kind_is Owner o p = eq-eqb o o refl
            kind_is Weak o p = eq-eqb o o refl

    -- the halves of a word are its number and its funds
    pub halves : (k : Kind) (o : ℕ) → IsBusy (leads z h) o → (low high : ℕ) → let i = counts_at (blocks_of (leads z h)) k o in
        get_or words i 0 ≡ low + one_fund * high → low < one_fund
        → (low ≡ number (leads z h) k o - owed views i) × (high ≡ paid views i + bank z (leads z h) stands.taken i)
    halves k o busy low high e small =
        let s = leads z h in
        let i = counts_at (blocks_of s) k o in
        let r = number_read z words views h stands k o busy in
        let few = owed_few k o busy in
        let t = number_tally s k o in
        let u = (funds_room k o busy).0 in
        let l = owed_paid z words views h stands i in
        relaxed (get_or words i 0) (owed views i) (number s k o) (paid views i + bank z s stands.taken i) low high r (omega arith) (omega arith)
        (omega arith) e small

    -- where every other desk is joined, the low half is the number
    pub sole_exact : (i : ℕ) (v : View V) → get_elem? views i ≡ some v → v.pending ≡ Idle → ((j : ℕ) (u : View V) → get_elem? views j ≡ some u
        → u.spent ≡ false → j ≡ i)
        → (k : Kind) (o : ℕ) → IsBusy (leads z h) o → (low high : ℕ)
        → get_or words (counts_at (blocks_of (leads z h)) k o) 0 ≡ low + one_fund * high
        → low < one_fund → low ≡ number (leads z h) k o
    sole_exact i v at idle only k o busy low high is small =
        let w = counts_at (blocks_of (leads z h)) k o in
        let none = total_none (λ (u : View V). owes u.pending w) views (λ j u e. go j u e u.spent refl) in
        let t = (halves k o busy low high is small).0 in omega arith
      where
        go : (j : ℕ) (u : View V) → get_elem? views j ≡ some u → (t : Bool) → u.spent ≡ t
            → owes u.pending (counts_at (blocks_of (leads z h)) k o) ≡ 0
        go j u e true t = ap (λ p. owes p (counts_at (blocks_of (leads z h)) k o)) (stands.team.rests j u e t)
        go j u e false t =
            let q : some u ≡ some v = sym e ∙ (ap (get_elem? views) (only j u e t) ∙ at) in
            ap (λ (y : View V). owes y.pending (counts_at (blocks_of (leads z h)) k o)) (some-injective u v q)
            ∙ ap (λ p. owes p (counts_at (blocks_of (leads z h)) k o)) idle
