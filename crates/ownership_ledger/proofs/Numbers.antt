-- One of the book's numbers after the view of one seat has changed.
use Rattle.std.proofs.Common.{◌≡◌, ℕ, ◌+◌, ◌*◌, ◌%◌, ◌^◌, ◌<◌, ◌≤◌, List, [], ◌∷◌, set, All}
use Rattle.std.proofs.Common.{sum_by, arith}
use Rattle.ownership_ledger.proofs.Prelude.{All-set, All-weaker, get_elem?, IsNumber, joined_seat}
use Rattle.ownership_ledger.proofs.Prelude.{seat_parts, some, View}
use Rattle.std.proofs.lemmas.List.Elements.{All-head, All-tail}
use Rattle.std.proofs.lemmas.List.Sums.{sum_by-cons}
use Rattle.ownership_ledger.proofs.Views.{All-at, sum_by-at, sum_by-replaced}

module _ (own : View → ℕ) where
  -- what a share may add
  abbrev pub IsBounded : View → Type 0
  IsBounded v = own v ≤ 4294967295 * v.parts

  sum-bounded : (vs : List View) → All IsBounded vs → sum_by own vs ≤ 4294967295 * sum_by seat_parts vs
  sum-bounded [] h = omega arith
  sum-bounded (v ∷ vs) h =
      let first = All-head IsBounded v vs h in
      let others = sum-bounded vs (All-tail IsBounded v vs h) in
      omega (arith, sum_by-cons own v vs, sum_by-cons seat_parts v vs)

module _ (own seen : View → ℕ) (vs : List View) (n : ℕ) (r : IsNumber own seen vs n) where
  -- one more fits the word
  pub one_fits : (k : ℕ) → sum_by seat_parts vs ≡ k → k < 4294967296 → (n + 1) % 2 ^ 64 ≡ n + 1
  one_fits k whole few =
      let sum = r.sum in
      let most = sum-bounded own vs r.bounded in
      omega arith

  module _ (i : ℕ) (v : View) (at : get_elem? vs i ≡ some v) where
    bound : IsBounded own v
    bound = All-at (IsBounded own) vs i v at r.bounded

    pub seen-le : seen v ≤ n
    seen-le = All-at (λ u. seen u ≤ n) vs i v at r.seen_before

    pub own-le : own v ≤ n
    own-le = let sum = r.sum in omega (arith, sum_by-at own vs i v at)

    -- the seat has added what w has more than v, and the number is m
    pub changed : (m : ℕ) (w : View) → own w + n ≡ own v + m → n ≤ m → IsBounded own w → seen w ≤ m
        → IsNumber own seen (set vs i w) m
    changed m w adds grows bounded sees = record {
      sum = (let sum = r.sum in omega (arith, sum_by-replaced own vs i v w at));
      bounded = All-set (IsBounded own) vs i w bounded r.bounded;
      seen_before = All-set (λ u. seen u ≤ m) vs i w sees
          (All-weaker (λ u. seen u ≤ n) (λ u. seen u ≤ m) (λ u h. omega arith) vs r.seen_before);
    }

    pub added : (w : View) → own w ≡ own v + 1 → seen w ≡ n + 1 → w.parts ≡ 1 → own v < 4294967295
        → IsNumber own seen (set vs i w) (n + 1)
    added w adds sees one room =
        changed (n + 1) w (omega arith) (omega arith) (omega arith) (omega arith)

    pub looked : (w : View) → own w ≡ own v → seen w ≡ n → w.parts ≡ v.parts
        → IsNumber own seen (set vs i w) n
    looked w adds sees parts =
        let most = bound in
        changed n w (omega arith) (omega arith) (omega arith) (omega arith)

    pub untouched : (w : View) → own w ≡ own v → seen w ≡ seen v → w.parts ≡ v.parts
        → IsNumber own seen (set vs i w) n
    untouched w adds sees parts =
        let most = bound in
        let before = seen-le in
        changed n w (omega arith) (omega arith) (omega arith) (omega arith)

    -- who stands for all shares has added all that there is
    pub sole : (k : ℕ) → own joined_seat ≡ 0 → sum_by seat_parts vs ≡ k → v.parts ≡ k → n ≡ own v
    sole k zero_own whole all =
        let sum = r.sum in
        let bounded = All-set (IsBounded own) vs i joined_seat (omega arith) r.bounded in
        let others = sum-bounded own (set vs i joined_seat) bounded in
        omega (arith, sum_by-replaced own vs i v joined_seat at, sum_by-replaced seat_parts vs i v joined_seat at)
