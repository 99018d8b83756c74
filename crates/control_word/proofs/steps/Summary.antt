-- A word of the shelf's summary becomes any number.
use Rattle.std.proofs.Common.{◌≡◌, ℕ, ◌+◌, ◌%◌, ◌<◌, false, ◌≢◌, List, set, ap, ◌∙◌, arith}
use Rattle.std.proofs.Common.{length-set, get_or-set_other}
use Rattle.control_word.proofs.Prelude
use Prelude.{bit_at, cell_spot, Entry, Fits, get_elem?, Idle, InShape, leads, Making, Merging, more}
use Prelude.{Opening, owed, Parting, Paying, Pending, sees, shelf_spot, Shows, ShowsShelf, some, spot}
use Prelude.{Stands, value, View, Visiting}
use Rattle.control_word.proofs.history.Legal.{sound}
use Rattle.control_word.proofs.views.Teams.{still_step}
use Rattle.control_word.proofs.words.Counting.{calm}
use Rattle.control_word.proofs.words.Frames.{spot_fits}
use Rattle.control_word.proofs.words.Payments.{shows_all}
use Rattle.control_word.specs.Layout.{summary_place}
use Rattle.control_word.specs.SummarySteps.{WritesSummary}

module _ {V : Type 0} where
  module _ (z : Opening) (words : List ℕ) (views : List (View V)) (h : List (Entry V)) (stands : Stands z words views h)
      (i : ℕ) (v : View V) (at : get_elem? views i ≡ some v) (awake : v.spent ≡ false) (idle : v.pending ≡ Idle) (j n : ℕ) where
    abbrev there : ℕ
    there = summary_place z.blocks z.cells j

    -- the write leaves the other words
    apart : (c k : ℕ) → InShape z c → k < 16 → spot c k ≢ there
    apart c k hc lt e = let l = spot_fits z c k hc lt in omega arith

    known : (d : ℕ) (q : Pending V) → Fits words (leads z h) (value z h) d q → Fits (set words there n) (leads z h) (value z h) d q
    known d Idle f = tt
    known d (Making c l) f = (
      f.0,
      λ k lt. get_or-set_other words there (spot c.0 (2 + k)) n 0
          (apart c.0 (2 + k) ((sound z h stands.legal).stores d c.0 f.0).1 (omega arith)) ∙ f.1 k lt,
    )
    known d (Paying m o p w x y) f = f
    known d (Visiting o p w x) f = f
    known d (Parting to) f = tt
    known d (Merging other mine others) f = tt

    shelf : ShowsShelf z (set words there n) (leads z h)
    shelf b low =
        ap (λ m. bit_at m (b % 64)) (get_or-set_other words there (shelf_spot z b) n 0 (λ e. omega arith))
        ∙ stands.shows.shelf b low

    shows : let s = leads z h in let w = sees v h in
        Shows z (set words there n) (owed (set views i w)) (more z s (set views i w) stands.taken) s
    shows =
        let s = leads z h in
        let k = there in
        let w = sees v h in
        shows_all z words (set words k n) (owed views) (more z s views stands.taken) (owed (set views i w))
        (more z s (set views i w) stands.taken) s s (length-set words k n) stands.shows (λ b vacant. vacant)
        (λ y hy vacant one. get_or-set_other words k (spot y 1) n 0 (apart y 1 hy (omega arith)) ∙ one)
        (λ c l hc lt. let m = spot c l in let q = calm z words views h stands i v at awake idle h m in
        let q0 = q.0 in let q1 = q.1 in let q2 = q.2 in let a = get_or-set_other words k m n 0 (apart c l hc lt) in omega arith)
        (λ c lt. let m = cell_spot z c in let q = calm z words views h stands i v at awake idle h m in
        let q0 = q.0 in let q1 = q.1 in let q2 = q.2 in let a = get_or-set_other words k m n 0 (λ e. omega arith) in
        omega arith)
        shelf

    write_step : Stands z (set words there n) (set views i (sees v h)) h
    write_step =
        still_step z words (set words there n) views h i v Idle stands.taken stands at awake tt (λ c. omega arith) shows
        stands.most stands.blank stands.bare tt (λ d q ne f. known d q f)

  pub writes_summary : WritesSummary V Stands
  writes_summary at j n ready =
      write_step at.opening at.words at.views at.history ready.stands at.seat at.view ready.seated ready.awake ready.pending j n
