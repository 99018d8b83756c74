-- The other words of a table, where each handle in hand has its funds: doors, the shelf and its summary, and all words at the start.
use Rattle.std.proofs.Common.{◌≡◌, ℕ, zero, suc, ◌+◌, ◌-◌, ◌*◌, ◌/◌, ◌%◌, ◌<◌, ◌≤◌, false, true, ◌≢◌, ◌⊎◌, List, [], ◌∷◌, length, get_or, set, Some, None}
use Rattle.std.proofs.Common.{Option}
use Rattle.std.proofs.Common.{map, replicate, sym, refl, ap, ◌∙◌, subst, ⊎_elim, arith}
use Rattle.std.proofs.lemmas.List.{length-map}
use Rattle.control_word.proofs.Prelude
use Prelude.{bit_at, Block, blocks_of, cases_eq, cases_lt, counts, counts_at, Entry, entry, Fits, handles, Held, Idle, in_cells, IsOpening, Kind, leads, me}
use Prelude.{number_of, Opening, owned_bits, owner, Owner}
use Prelude.{Pending, Place, Point, sees_as, shelf_place, shelf_spot, Shelve, some, spot, Stands, start, state, State, tally, Unshelve, value, View, Visit}
use Prelude.{Visiting, Weak, weak_number, word}
use Rattle.control_word.proofs.funded.Apart.{behind_apart, body_apart}
use Rattle.control_word.proofs.funded.Counts.{calm, inside}
use Rattle.control_word.proofs.funded.Hands.{hand_counts, lacking_few, paid_lacking}
use Rattle.control_word.proofs.funded.Next.{bare_ready, bared, beside, IsApart, lacking_set, plain_word, told}
use Rattle.control_word.proofs.history.Allowances.{hands_few, opened}
use Rattle.control_word.proofs.history.Bounds.{tally_length}
use Rattle.control_word.proofs.history.Legal.{held_busy, sound}
use Rattle.control_word.proofs.history.Numbers.{cells_room, members_of, some_handle}
use Rattle.control_word.proofs.history.Soundness.{IsBusy}
use Rattle.control_word.proofs.lists.Tallies.{tally_append}
use Rattle.control_word.proofs.steps.Open.{opens'}
use Rattle.control_word.proofs.steps.Shelf.{shelf_shows, shelves', unshelves'}
use Rattle.control_word.proofs.steps.Shut.{shuts}
use Rattle.control_word.proofs.steps.Standing.{begins, has_headroom}
use Rattle.control_word.proofs.steps.Summary.{writes_summary}
use Rattle.control_word.proofs.words.Counting.{paid_held}
use Rattle.control_word.proofs.words.Frames.{spot_fits}
use Rattle.control_word.proofs.words.Funds.{bank_few, slot_low}
use Rattle.control_word.proofs.words.Rooms.{halves, kind_room}
use Rattle.control_word.specs.HandFunds.{hand_funds, lacking, lacks, StandsFunded}
use Rattle.control_word.specs.Layout.{bit_of, shelf_words, summary_place}
use Rattle.std.specs.Prelude.{bit_and, bit_or}
use Rattle.std.specs.Int.{bit_not, w64}
use Rattle.control_word.specs.Limits.{cell_funds, one_fund, HasRoomForFunds}
use Rattle.control_word.specs.Steps.{Begins, HasHeadroom, Opens, ReadyBy, ShelfShows, Shelves, Shuts, Unshelves}
use Rattle.control_word.specs.SummarySteps.{WritesSummary}
use Rattle.control_word.specs.Views.{fresh, paid}
use Rattle.control_word.specs.Words.{bank}

set_beyond : (l : List ℕ) (k n : ℕ) → length l ≤ k → set l k n ≡ l
set_beyond [] k n le = refl
set_beyond (x ∷ xs) zero n le = absurd (omega arith)
set_beyond (x ∷ xs) (suc k) n le = ap (λ l. x ∷ l) (set_beyond xs k n (omega arith))

zero_read : (m i : ℕ) → ◌≡◌ {A = ℕ} (get_or (replicate m 0) i 0) 0
zero_read zero i = refl
zero_read (suc m) zero = refl
zero_read (suc m) (suc i) = zero_read m i

module _ (V : Type 0) where
  fresh_lacks : (d n i : ℕ) → lacking (fresh {V = V} d n) i ≡ 0
  fresh_lacks d zero i = refl
  fresh_lacks d (suc n) i = let t = fresh_lacks (suc d) n i in omega arith

module _ {V : Type 0} where
  -- the door of an object's visit
  door_apart : (at : Point V) (p : Pending V) (ready : ReadyBy StandsFunded at p) (o : ℕ) → IsBusy (state at) o
      → IsApart (state at) (spot (blocks_of (state at) o) 2)
  door_apart at p ready o busy =
      let fine = sound at.opening at.history ready.stands.stands.legal in
      body_apart at.opening (state at) fine ((state at).object o).block 2 (fine.placed o busy).1.0 (omega arith) (omega arith)

  door_in : (at : Point V) (p : Pending V) (ready : ReadyBy StandsFunded at p) (o : ℕ) → IsBusy (state at) o
      → spot (blocks_of (state at) o) 2 < length (ready.stands.bare)
  door_in at p ready o busy =
      let fine = sound at.opening at.history ready.stands.stands.legal in
      let u = spot_fits at.opening ((state at).object o).block 2 (fine.placed o busy).1 (omega arith) in let t = ready.stands.stands.shows.sized in omega arith

  pub shuts_funded : Shuts V StandsFunded
  shuts_funded at o p v ready holds is =
      let busy = held_busy at.opening (state at) (me at) o Owner p (sound at.opening at.history ready.stands.stands.legal) holds in
      let k = spot (blocks_of (state at) o) 2 in
      let law = shuts (bared at ready.stands) o p v (bare_ready at Idle ready) holds is in
      let same = plain_word at.opening at.words at.views at.history ready.stands k (door_apart at Idle ready o busy) in
      let q : Pending V = Visiting o p k v in let law0 = law.0 in (
        omega arith,
        λ low. beside at.opening at.words at.views at.history ready.stands k (word at k + 4) (set at.views at.seat (sees_as at.view q at.history)) at.history
            (subst (λ w. Stands at.opening (set ready.stands.bare k (w + 4)) (set at.views at.seat (sees_as at.view q at.history)) at.history) (sym same)
            (law.1 (omega arith)))
            (door_in at Idle ready o busy) (door_apart at Idle ready o busy)
            (λ i. let x = lacking_set at.views at.seat at.view q at.history i ready.seated in let y = ap (λ c. lacks c i) ready.pending in omega arith),
      )

  pub opens_funded : Opens V StandsFunded
  opens_funded at o p was becomes ready =
      let k = spot (blocks_of (state at) o) 2 in
      let q : Pending V = Visiting o p k was in
      let is = ready.stands.stands in
      let fits : Fits ready.stands.bare (state at) (value at.opening at.history) (me at) q =
      subst (Fits ready.stands.bare (state at) (value at.opening at.history) (me at)) ready.pending (is.team.seated at.seat at.view ready.seated
      ready.awake).fits in
      let busy = held_busy at.opening (state at) (me at) o Owner p (sound at.opening at.history is.legal) fits.0 in
      let law = opens' (bared at ready.stands) o p was becomes (bare_ready at q ready) in
      let same = plain_word at.opening at.words at.views at.history ready.stands k (door_apart at q ready o busy) in
      let h = entry (me at) (Visit (owner o p) was becomes) ∷ at.history in let law0 = law.0 in (
        omega arith,
        beside at.opening at.words at.views at.history ready.stands k (word at k - 4) (set at.views at.seat (sees_as at.view Idle h)) h
            (subst (λ w. Stands at.opening (set ready.stands.bare k (w - 4)) (set at.views at.seat (sees_as at.view Idle h)) h) (sym same) law.1)
            (door_in at q ready o busy) (door_apart at q ready o busy)
            (λ i. let x = lacking_set at.views at.seat at.view Idle h i ready.seated in let y = ap (λ c. lacks c i) ready.pending in omega arith),
      )

  -- a word behind the blocks
  module _ (at : Point V) (p : Pending V) (ready : ReadyBy StandsFunded at p) where
    behind : (k : ℕ) → 16 * at.opening.blocks ≤ k → IsApart (state at) k
    behind k le = behind_apart at.opening (state at) (sound at.opening at.history ready.stands.stands.legal) k le

    behind_same : (k : ℕ) → 16 * at.opening.blocks ≤ k → word at k ≡ get_or ready.stands.bare k 0
    behind_same k le = plain_word at.opening at.words at.views at.history ready.stands k (behind k le)

  -- a write of one, by a desk that rests
  writes_behind : (at : Point V) (ready : ReadyBy StandsFunded at Idle) (k n : ℕ) (h : List (Entry V)) → 16 * at.opening.blocks ≤ k
      → ((i : ℕ) → hand_funds (leads at.opening h) i ≡ hand_funds (state at) i)
      → Stands at.opening (set ready.stands.bare k n) (set at.views at.seat (sees_as at.view Idle h)) h
      → StandsFunded at.opening (set at.words k n) (set at.views at.seat (sees_as at.view Idle h)) h
  writes_behind at ready k n h le hands law =
      let us = set at.views at.seat (sees_as at.view Idle h) in
      let lack = λ (i : ℕ). calm at ready h i in
      ⊎_elim
      (λ (lt : k < length (ready.stands.bare)).
      beside at.opening at.words at.views at.history ready.stands k n us h law lt (behind at Idle ready k le)
      (λ i. let a = lack i in let b = hands i in omega arith))
      (λ (ge : length (ready.stands.bare) ≤ k).
      let size = ready.stands.sized in
      subst (λ (l : List ℕ). StandsFunded at.opening l us h) (sym (set_beyond at.words k n (omega arith)))
      (told at.opening at.words at.views at.history ready.stands us h
      (subst (λ (l : List ℕ). Stands at.opening l us h) (set_beyond ready.stands.bare k n ge) law) (λ i. let a = lack i in let b = hands i in omega arith)))
      (cases_lt k (length (ready.stands.bare)))

  pub shelf_shows_funded : ShelfShows V StandsFunded
  shelf_shows_funded at p b ready low =
      ap (λ w. bit_at w (b % 64)) (behind_same at p ready (shelf_spot at.opening b) (omega arith))
      ∙ shelf_shows (bared at ready.stands) p b (bare_ready at p ready) low

  pub shelves_funded : Shelves V StandsFunded
  shelves_funded at b ready mine =
      let k = shelf_spot at.opening b.0 in
      let h = entry (me at) (Shelve b) ∷ at.history in
      let same = behind_same at Idle ready k (omega arith) in
      writes_behind at ready k (bit_or (word at k) (bit_of b.0)) h (omega arith) (λ i. refl)
      (subst (λ w. Stands at.opening (set ready.stands.bare k (bit_or w (bit_of b.0))) (set at.views at.seat (sees_as at.view Idle h)) h) (sym same)
      (shelves' (bared at ready.stands) b (bare_ready at Idle ready) mine))

  pub unshelves_funded : Unshelves V StandsFunded
  unshelves_funded at b ready low =
      let k = shelf_spot at.opening b.0 in
      let h = entry (me at) (Unshelve b) ∷ at.history in
      let same = behind_same at Idle ready k (omega arith) in
      let law = unshelves' (bared at ready.stands) b (bare_ready at Idle ready) low in
      let n = λ (w : ℕ). bit_and w (bit_not w64 (bit_of b.0)) in (
        λ found. writes_behind at ready k (n (word at k)) h (omega arith) (λ i. refl)
            (subst (λ w. Stands at.opening (set ready.stands.bare k (n w)) (set at.views at.seat (sees_as at.view Idle h)) h) (sym same)
            (law.0 (ap (λ w. bit_at w (b.0 % 64)) (sym same) ∙ found))),
        λ found. writes_behind at ready k (n (word at k)) at.history (omega arith) (λ i. refl)
            (subst (λ w. Stands at.opening (set ready.stands.bare k (n w)) (set at.views at.seat (sees_as at.view Idle at.history)) at.history) (sym same)
            (law.1 (ap (λ w. bit_at w (b.0 % 64)) (sym same) ∙ found))),
      )

  pub writes_summary_funded : WritesSummary V StandsFunded
  writes_summary_funded at j n ready =
      writes_behind at ready (summary_place at.opening.blocks at.opening.cells j) n at.history (omega arith) (λ i. refl)
      (writes_summary (bared at ready.stands) j n (bare_ready at Idle ready))

  pub begins_funded : Begins V StandsFunded
  begins_funded z proper = record {
    bare = replicate (Rattle.control_word.specs.Layout.all_words z.blocks z.cells) 0;
    stands = begins z proper;
    sized = refl;
    funded = λ i. let a = fresh_lacks V 0 z.desks i in omega arith;
  }

  -- a count's word is the number and all funds, but those that are lacking
  pub has_headroom_funded : HasHeadroom V StandsFunded
  has_headroom_funded at p ready k o busy =
      let z = at.opening in let h = at.history in let s = state at in
      let is = ready.stands in let st = is.stands in
      let fine = sound z h st.legal in
      let j = counts at k o in let w = word at j in let b = get_or is.bare j 0 in
      let low' = b % one_fund in let high' = b / one_fund in
      let halves' = halves z is.bare at.views h st k o busy low' high' (omega arith) (omega arith) in
      let high_is = halves'.1 in
      let base = has_headroom (bared at is) p (bare_ready at p ready) k o busy in
      let base1 = base.1 low' high' (omega arith) (omega arith) in
      let low_few = base1.0 in
      let paid' = paid_lacking z is.bare at.views h st j in
      let lack = lacking_few z is.bare at.views h st k o busy in
      let cells = bank_few z s fine k o busy st.taken in
      let room = cells_room z h st.legal k o in
      let hands = hand_counts z s fine k o busy in
      let few = tally_length k o (map (λ (x : Held). x.handle) s.hands) in
      let held' = hands_few z h st.legal in
      let len = length-map s.hands (λ (x : Held). x.handle) in
      let proper = opened z h st.legal in
      let some' = some_handle z proper in
      let rule = kind_room z proper k in
      let f = is.funded j in
      let top : hand_funds s j + high' + cell_funds < one_fund + lacking at.views j = omega arith in (
        omega arith,
        λ low high e small. (omega arith, omega arith),
      )
