-- Steps on cells, where each handle in hand has its funds: what goes in brings them along, what comes out keeps what it has.
use Rattle.std.proofs.Common.{◌≡◌, ℕ, ◌+◌, ◌-◌, ◌*◌, ◌<◌, ◌≤◌, true, false, ◌⊎◌, List, ◌∷◌, length, get_or}
use Rattle.std.proofs.Common.{set, Some, None, Option, sym, refl, ap, ◌∙◌, subst, inl, inr, ⊎_elim, arith}
use Rattle.control_word.proofs.Prelude
use Prelude.{blocks_of, Cell, cell_bits, cell_of, cell_word, ClearMember, common, Compare, counts}
use Prelude.{ending, Entry, entry, Event, handle, Idle, InHand, IsCellWord, IsOpen, Kind, kind_of, leads, Load, shown}
use Prelude.{me, Member, NumberedHandle, Paying, Pending, Place, Point, purse, sees_as, Stands, state}
use Prelude.{Swap, value, View, word, worth}
use Rattle.control_word.proofs.funded.Apart.{cells_apart, set_again}
use Rattle.control_word.proofs.funded.Events.{hand_clears, hand_swaps, put_blocks}
use Rattle.control_word.proofs.funded.Next.{bare_ready, bared, beside, IsApart, lacking_set, plain_word}
use Rattle.control_word.proofs.funded.Purses.{come_out, into, purse_lacks, turned, turned_ready}
use Rattle.control_word.proofs.history.Legal.{sound}
use Rattle.control_word.proofs.history.Soundness.{Sound}
use Rattle.control_word.proofs.steps.Clear.{clears'}
use Rattle.control_word.proofs.steps.CompareSwap.{compare_swaps}
use Rattle.control_word.proofs.steps.Standing.{cells_show, kept_show}
use Rattle.control_word.proofs.steps.Swap.{swaps'}
use Rattle.control_word.proofs.steps.Take.{takes}
use Rattle.control_word.proofs.words.Banks.{IsKept, open_kept}
use Rattle.control_word.proofs.words.CellWords.{cell_inside}
use Rattle.control_word.specs.CellSteps.{CellsShow, Takes}
use Rattle.control_word.specs.HandFunds.{drawn, hand_funds, lacks, StandsFunded}
use Rattle.control_word.specs.Limits.{cell_funds, one_taken}
use Rattle.control_word.specs.Packing.{taken_in}
use Rattle.control_word.specs.Steps.{ReadyBy}
use Rattle.control_word.specs.FundedSteps.{ClearsFunded, CompareSwapsFunded, SwapsFunded}
use Rattle.control_word.specs.Words.{packed}

module _ {V : Type 0} where
  module _ (at : Point V) (p : Pending V) (ready : ReadyBy StandsFunded at p) (c : Cell) (kept : IsKept (state at) c) where
    fine' : Sound at.opening (state at)
    fine' = sound at.opening at.history ready.stands.stands.legal

    pub apart : IsApart (state at) (cell_word at c)
    apart = cells_apart at.opening (state at) fine' c kept

    -- a cell's word has no funds of handles in hand
    pub cell_same : word at (cell_word at c) ≡ get_or ready.stands.bare (cell_word at c) 0
    cell_same = plain_word at.opening at.words at.views at.history ready.stands (cell_word at c) apart

    pub cell_in : cell_word at c < length (ready.stands.bare)
    cell_in = cell_inside at.opening ready.stands.bare at.views at.history ready.stands.stands at.seat at.view ready.seated ready.awake c kept

    -- a step on it
    on_cell : (n : ℕ) (q : Pending V) (h : List (Entry V))
        → Stands at.opening (set ready.stands.bare (cell_word at c) n) (set at.views at.seat (sees_as at.view q h)) h
        → ((i : ℕ) → lacks q i + hand_funds (state at) i ≡ lacks p i + hand_funds (leads at.opening h) i)
        → StandsFunded at.opening (set at.words (cell_word at c) n) (set at.views at.seat (sees_as at.view q h)) h
    on_cell n q h stands same =
        beside at.opening at.words at.views at.history ready.stands (cell_word at c) n (set at.views at.seat (sees_as at.view q h)) h stands cell_in apart
        (λ i. let x = lacking_set at.views at.seat at.view q h i ready.seated in let y = ap (λ c. lacks c i) ready.pending in let z = same i in omega arith)

  pub open_cell : (at : Point V) (p : Pending V) (c : Cell) → ReadyBy StandsFunded at p → IsOpen (state at) (me at) c → IsKept (state at) c
  open_cell at p c ready open' = open_kept at.opening (state at) (me at) c (sound at.opening at.history ready.stands.stands.legal) open'

  -- the word of a free cell, or of a member of an object that is there or is ending
  pub kept_show_funded : (at : Point V) (p : Pending V) (c : Cell) → ReadyBy StandsFunded at p → IsKept (state at) c
      → (taken : ℕ) × (let x = shown (blocks_of (state at)) (cell_of (state at) c) taken in
      (word at (cell_word at c) ≡ cell_bits x) × IsCellWord x × (taken ≤ cell_funds))
      × ((cell_of (state at) c).object ≡ None → taken ≡ 0)
  kept_show_funded at p c ready kept =
      let t = kept_show (bared at ready.stands) p c (bare_ready at p ready) kept in
      (t.0, (cell_same at p ready c kept ∙ t.1.0, t.1.1, t.1.2), t.2)

  pub cells_show_funded : CellsShow V StandsFunded
  cells_show_funded at p c ready open' =
      let t = cells_show (bared at ready.stands) p c (bare_ready at p ready) open' in
      (t.0, (cell_same at p ready c (open_cell at p c ready open') ∙ t.1.0, t.1.1, t.1.2), t.2)

  -- what was loaded is in hand, and lacks its funds
  loaded : (at : Point V) (k : Kind) (o : ℕ) (p : Option Place) (f l i : ℕ) → let i' = counts at k o in
      lacks {V = V} (Paying k o p i' f l) i + hand_funds (state at) i ≡ lacks {V = V} Idle i + (worth (blocks_of (state at)) (handle k (Some o) p) 0 i +
      hand_funds (state at) i)
  loaded at k o p f l i = omega arith

  pub takes_funded : Takes V StandsFunded
  takes_funded at c k o p ready is room left =
      let i = cell_word at c in
      let same = λ (kept : IsKept (state at) c). cell_same at Idle ready c kept in
      let law = λ (kept : IsKept (state at) c). takes (bared at ready.stands) c k o p (bare_ready at Idle ready) is room
      (subst (λ w. taken_in w < cell_funds) (same kept) left) in (
        λ open'.
            let kept = open_cell at Idle c ready open' in
            on_cell at Idle ready c kept (word at i + one_taken) (Paying k o p (counts at k o) 1 1) (entry (me at) (Load c (handle k (Some o) p)) ∷ at.history)
            (subst (λ w. Stands at.opening (set ready.stands.bare i (w + one_taken)) (set at.views at.seat (sees_as at.view (Paying k o p (counts at k o) 1 1)
            (entry (me at) (Load c (handle k (Some o) p)) ∷ at.history))) (entry (me at) (Load c (handle k (Some o) p)) ∷ at.history)) (sym (same kept))
            ((law kept).0 open'))
            (λ j. loaded at k o p 1 1 j),
        λ expected new weak' asks.
            let kept = open_cell at Idle c ready asks.0 in
            let e = Compare c expected new (handle k (Some o) p) false weak' in
            on_cell at Idle ready c kept (word at i + one_taken) (Paying k o p (counts at k o) 1 1) (entry (me at) e ∷ at.history)
            (subst (λ w. Stands at.opening (set ready.stands.bare i (w + one_taken)) (set at.views at.seat (sees_as at.view (Paying k o p (counts at k o) 1 1)
            (entry (me at) e ∷ at.history))) (entry (me at) e ∷ at.history)) (sym (same kept))
            ((law kept).1 expected new weak' asks))
            (λ j. loaded at k o p 1 1 j),
      )

  -- a cell gets a new value with its funds, and the old one comes out with its own
  module _ (at : Point V) (ready : ReadyBy StandsFunded at Idle) (c : Cell) (new : NumberedHandle) (hand : InHand (state at) (me at) (kind_of (state at) c) new)
      (kept : IsKept (state at) c) (taken : ℕ) (found : word at (cell_word at c) ≡ packed (blocks_of (state at)) (cell_of (state at) c) + one_taken * taken)
    where
      going : Pending V
      going = purse (blocks_of (state at)) new cell_funds

      at1 : Point V
      at1 = turned at going

      ready1 : ReadyBy StandsFunded (turned at (purse (blocks_of (state at)) new cell_funds)) (purse (blocks_of (state at)) new cell_funds)
      ready1 = turned_ready at Idle (purse (blocks_of (state at)) new cell_funds) ready
          (into at ready new.kind new.object new.place (⊎_elim (λ t. inl t.0) (λ t. inr t.0) hand.1))

      found1 : get_or ready1.stands.bare (cell_word at c) 0 ≡ packed (blocks_of (state at)) (cell_of (state at) c) + one_taken * taken
      found1 = sym (cell_same (turned at (purse (blocks_of (state at)) new cell_funds)) (purse (blocks_of (state at)) new cell_funds) ready1 c kept) ∙ found

      traded : (e : Event V) → let s = state at in let old = cell_of s c in let h = entry (me at) e ∷ at.history in
          leads at.opening h ≡ Prelude.swaps (me at) c new old s
          → Stands at.opening (set ready1.stands.bare (cell_word at c) (packed (blocks_of s) new))
          (set (set at.views at.seat (sees_as at.view (purse (blocks_of s) new cell_funds) at.history)) at.seat (sees_as at.view (purse (blocks_of s) old
          (cell_funds - taken)) h)) h
          → StandsFunded at.opening (set at.words (cell_word at c) (packed (blocks_of s) new))
          (set at.views at.seat (sees_as at.view (drawn (blocks_of s) old (cell_funds - taken)) h)) h
      traded e same' law =
          let s = state at in let old = cell_of s c in let h = entry (me at) e ∷ at.history in
          let p = purse (blocks_of s) new cell_funds in let q = purse (blocks_of s) old (cell_funds - taken) in
          let st = on_cell (turned at p) p ready1 c kept (packed (blocks_of s) new) q h law
          (λ i. let a = hand_swaps s (me at) c new old i (kind_of s c) hand in
          let b = purse_lacks V (blocks_of s) new cell_funds i in let d = purse_lacks V (blocks_of s) old (cell_funds - taken) i in
          let g = ap (λ t. hand_funds t i) same' in omega arith) in
          come_out at ready.seated ready.awake (set at.words (cell_word at c) (packed (blocks_of s) new)) h (blocks_of s)
          (sym (Rattle.control_word.proofs.words.Members.swap_blocks s (me at) c new old)
          ∙ ap blocks_of (sym same')) old.kind old.object old.place (cell_funds - taken)
          (subst (λ (us : List (View V)). StandsFunded at.opening (set at.words (cell_word at c) (packed (blocks_of s) new)) us h)
          (set_again at.views at.seat (sees_as at.view p at.history) (sees_as at.view q h)) st)

  pub swaps_funded : SwapsFunded V
  swaps_funded at c new ready asks room taken found =
      let kept = open_cell at Idle c ready asks.0 in
      let p = purse (blocks_of (state at)) new cell_funds in
      let r = ready1 at ready c new asks.1 kept taken found in
      traded at ready c new asks.1 kept taken found (Swap c new (cell_of (state at) c)) refl
      (swaps' (bared (turned at p) r.stands) c new (bare_ready (turned at p) p r) asks room taken (found1 at ready c new asks.1 kept taken found))

  pub compare_swaps_funded : CompareSwapsFunded V
  compare_swaps_funded at c expected new weak' ready same' asks room taken found =
      let kept = open_cell at Idle c ready asks.0 in
      let p = purse (blocks_of (state at)) new cell_funds in
      let r = ready1 at ready c new asks.2 kept taken found in
      traded at ready c new asks.2 kept taken found (Compare c expected new (cell_of (state at) c) true weak') refl
      (compare_swaps (bared (turned at p) r.stands) c expected new weak' (bare_ready (turned at p) p r) same' asks room taken
      (found1 at ready c new asks.2 kept taken found))

  pub clears_funded : ClearsFunded V
  clears_funded at o m ready end lt room taken found =
      let s = state at in let old = (s.object o).member m in
      let one : common (s.object o).phase ≡ 1 = ap common end in
      let fine = sound at.opening at.history ready.stands.stands.legal in
      let kept : IsKept s (Member o m) = ((let u = fine.few in omega arith), omega arith) in
      let h = entry (me at) (ClearMember o m old) ∷ at.history in
      let q = purse (blocks_of s) old (cell_funds - taken) in
      let law = clears' (bared at ready.stands) o m (bare_ready at Idle ready) end lt room taken (sym (cell_same at Idle ready (Member o m) kept) ∙ found) in
      let st = on_cell at Idle ready (Member o m) kept 0 q h law
      (λ i. let a = hand_clears s (me at) o m old i in let d = purse_lacks V (blocks_of s) old (cell_funds - taken) i in omega arith) in
      let x = s.object o in
      come_out at ready.seated ready.awake (set at.words (cell_word at (Member o m)) 0) h (blocks_of s)
      (sym (put_blocks s o (record x { member = Prelude.put x.member m (Prelude.empty (Prelude.kind_of_member s.owners m)) }) refl))
      old.kind old.object old.place (cell_funds - taken) st
