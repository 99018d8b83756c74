-- The rule stays when a share is cut off, and when two seats are joined.
use Rattle.std.proofs.Common.{◌≡◌, ℕ, ◌+◌, ◌<◌, ◌≤◌, List, [], ◌∷◌, ◌++◌, set, refl, sym, ◌∙◌}
use Rattle.std.proofs.Common.{arith}
use Rattle.ownership_ledger.proofs.Prelude.{All-set, get_elem?, IsNumber, joined_seat, KeptBook}
use Rattle.ownership_ledger.proofs.Prelude.{own_ended, own_made, seat_parts, seen_ended, seen_made}
use Rattle.ownership_ledger.proofs.Prelude.{some, View}
use Rattle.std.proofs.lemmas.List.Elements.{All-push}
use Rattle.std.proofs.lemmas.List.Sums.{sum_by_push}
use Rattle.atomic_table.specs.Table.{Joins, Splits}
use Rattle.atomic_table.proofs.Lists.{set_else}
use Rattle.ownership_ledger.specs.Steps.{one_apart, seats_together, without_one}
use Rattle.ownership_ledger.proofs.Kept.{Knows, knows}
use Rattle.ownership_ledger.proofs.Numbers.{changed, IsBounded, seen-le}
use Rattle.ownership_ledger.proofs.Views.{All-at, sum_by-replaced}

module _ (own seen : View → ℕ) where
  -- a seat comes that has added and seen nothing
  number_push : (vs : List View) (n : ℕ) (w : View) → IsNumber own seen vs n → own w ≡ 0 → seen w ≡ 0
      → IsNumber own seen (vs ++ w ∷ []) n
  number_push vs n w r adds sees = record {
    sum = (let sum = r.sum in omega (arith, sum_by_push own vs w));
    bounded = All-push (IsBounded own) vs w r.bounded (omega arith);
    seen_before = All-push (λ u. seen u ≤ n) vs w r.seen_before (omega arith);
  }

module _ (own seen : View → ℕ) (vs : List View) (n : ℕ) (r : IsNumber own seen vs n) where
  -- x is left where v was, which had added nothing, and w comes
  number_cut : (id : ℕ) (v x w : View) → get_elem? vs id ≡ some v → own v ≡ 0
      → own x ≡ 0 → seen x ≡ seen v → own w ≡ 0 → seen w ≡ 0 → IsNumber own seen (set vs id x ++ w ∷ []) n
  number_cut id v x w at none adds sees adds' sees' =
      let before = seen-le own seen vs n r id v at in
      let left : IsNumber own seen (set vs id x) n =
      changed own seen vs n r id v at n x (omega arith) (omega arith) (omega arith) (omega arith) in
      number_push own seen (set vs id x) n w left adds' sees'

  -- the seat id, as b, takes in what the other has added
  number_joined : (id other : ℕ) (v w b : View) → get_elem? vs id ≡ some v → get_elem? vs other ≡ some w
      → get_elem? (set vs id b) other ≡ some w → own b ≡ own v + own w → seen b ≤ n
      → b.parts ≡ v.parts + w.parts → own joined_seat ≡ 0 → seen joined_seat ≡ 0
      → IsNumber own seen (set (set vs id b) other joined_seat) n
  number_joined id other v w b at at' still adds sees parts zero_own zero_seen =
      let bound = All-at (IsBounded own) vs id v at r.bounded in
      let bound' = All-at (IsBounded own) vs other w at' r.bounded in
      let first = sum_by-replaced own vs id v b at in
      let second = sum_by-replaced own (set vs id b) other w joined_seat still in
      let bounded = All-set (IsBounded own) vs id b (omega arith) r.bounded in
      let before = All-set (λ u. seen u ≤ n) vs id b sees r.seen_before in
      record {
        sum = (let sum = r.sum in omega arith);
        bounded = All-set (IsBounded own) (set vs id b) other joined_seat (omega arith) bounded;
        seen_before = All-set (λ u. seen u ≤ n) (set vs id b) other joined_seat (omega arith) before;
      }

pub cuts : (k id : ℕ) (v : View) → 1 < v.parts → v.own.made ≡ 0 → v.own.ended ≡ 0
    → Splits (KeptBook k) id v (without_one v) (one_apart v)
cuts k id v two made ended s r at =
    let t = r.totals in
    let x = without_one v in
    let w = one_apart v in
    let known = knows k id s r v at (omega arith) in
    let rest = All-set (Knows k) s.views id x (λ _. known) r.known in
    let left = sum_by-replaced seat_parts s.views id v x at in
    let both = sum_by_push seat_parts (set s.views id x) w in
    record {
      totals = t;
      words = r.words;
      made = number_cut own_made seen_made s.views t.made r.made id v x w at made made refl refl refl;
      ended = number_cut own_ended seen_ended s.views t.ended r.ended id v x w at ended ended refl refl refl;
      parts = (let whole = r.parts in omega arith);
      known = All-push (Knows k) (set s.views id x) w rest (λ _. known);
      few = r.few;
    }

pub joins : (k id other : ℕ) (v w : View) → 0 < v.parts → Joins (KeptBook k) id v other w (seats_together v w) joined_seat
joins k id other v w some_part s r at apart still =
    let t = r.totals in
    let b = seats_together v w in
    let at' = sym (set_else s.views id other b apart) ∙ still in
    let known = knows k id s r v at some_part in
    let made = seen-le own_made seen_made s.views t.made r.made id v at in
    let made' = seen-le own_made seen_made s.views t.made r.made other w at' in
    let ended = seen-le own_ended seen_ended s.views t.ended r.ended id v at in
    let ended' = seen-le own_ended seen_ended s.views t.ended r.ended other w at' in
    let first = sum_by-replaced seat_parts s.views id v b at in
    let second = sum_by-replaced seat_parts (set s.views id b) other w joined_seat still in
    record {
      totals = t;
      words = r.words;
      made = number_joined own_made seen_made s.views t.made r.made id other v w b at at' still
          refl (omega arith) refl refl refl;
      ended = number_joined own_ended seen_ended s.views t.ended r.ended id other v w b at at' still
          refl (omega arith) refl refl refl;
      parts = (let whole = r.parts in omega arith);
      known = All-set (Knows k) (set s.views id b) other joined_seat (λ none. absurd (omega arith))
          (All-set (Knows k) s.views id b (λ _. known) r.known);
      few = r.few;
    }
