-- The rule after a step of a seat, which stands for as many shares as before.
use Rattle.std.proofs.Common.{◌≡◌, ℕ, ◌<◌, List, set, ◌∙◌, arith}
use Rattle.ownership_ledger.proofs.Prelude.{All-set, BookState, get_elem?, IsNumber, KeptBook}
use Rattle.ownership_ledger.proofs.Prelude.{own_ended, own_made, seat_parts, seen_ended, seen_made}
use Rattle.ownership_ledger.proofs.Prelude.{some, Totals, totals_words, View}
use Rattle.ownership_ledger.proofs.Views.{All-at, sum_by-replaced}

abbrev pub Knows : ℕ → View → Type 0
Knows k v = 0 < v.parts → v.workers ≡ k

module _ (k id : ℕ) (s : BookState) (r : KeptBook k s) (v : View) (at : get_elem? s.views id ≡ some v) where
  pub knows : Knows k v
  knows = All-at (Knows k) s.views id v at r.known

  pub kept : (w : View) (t : Totals) (ws : List ℕ) → ws ≡ totals_words t
      → IsNumber own_made seen_made (set s.views id w) t.made
      → IsNumber own_ended seen_ended (set s.views id w) t.ended
      → w.parts ≡ v.parts → w.workers ≡ v.workers
      → KeptBook k record { words = ws; homes = s.homes; views = set s.views id w }
  kept w t ws words made ended parts workers = record {
    totals = t;
    words = words;
    made = made;
    ended = ended;
    parts = (let whole = r.parts in omega (arith, sum_by-replaced seat_parts s.views id v w at));
    known = All-set (Knows k) s.views id w (λ some_part. workers ∙ knows (omega arith)) r.known;
    few = r.few;
  }
