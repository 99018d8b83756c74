-- The counts of a block, with the loads under way and without what a make has added, are exactly the handles on what is
-- in it, also while an object ends.
use Rattle.std.proofs.Common.{◌≡◌, ℕ, zero, suc, ◌+◌, ◌-◌, ◌/◌, ◌<◌, ◌≤◌, Bool, true, false, cond}
use Rattle.std.proofs.Common.{◌||◌, ◌≢◌, ◌⊎◌, List, [], ◌∷◌, map, length, get_or, nat_lt, ◌==◌}
use Rattle.std.proofs.Common.{slice_get, slice_index, Some, None, All, Option, sym, refl, ap, ◌∙◌}
use Rattle.std.proofs.Common.{subst, inl, inr, ⊎_elim, arith, lt-ltb, eq-eqb, ne_eqb, eqb-true}
use Rattle.step_core.proofs.Prelude
use Prelude.{added, All-head, All-tail, AllFit, blocks_of, cases_eq, cases_lt, census_of, common}
use Prelude.{cond-false, cond-true, count, Counts, Ending, ending, endings_in_block, ends_in}
use Prelude.{FrameView, GhostState, gone, InShape, is_ending_in, IsBusy, IsEndingAtStage, Kind}
use Prelude.{length-map, list_any, live, loads_on, makes_in, model_state, nowhere, number_of}
use Prelude.{Opening, opening, owed, Owner, OwnersFit, Phase, slot, Sound, sound, spot, State}
use Prelude.{TableInvariant, there, Thread, thread_frame, thread_pending, TotalsAreTold, unmade}
use Prelude.{Weak, weak, weak_number, world_state, WorldState}
use Rattle.control_word.proofs.words.Counting.{more_counts, number, number_tally}
use Rattle.control_word.proofs.words.Rooms.{halves, number_room, owed_few}
use Rattle.control_word.specs.Limits.{most_number}
use Rattle.control_word.specs.Words.{counts_at}
use Rattle.step_threads.proofs.holding.Ends.{one_more}
use Rattle.step_core.specs.Showing.{counts_by}
use Rattle.step_core.proofs.telling.UnderWay.{added_few, added_makes, added_none, owed_loads}
use Rattle.step_core.proofs.telling.UnderWay.{owed_none}

-- ---- a block's two numbers, with what calls under way owe them

module _ (v : GhostState) (threads : List Thread) (b : ℕ) (fit : AllFit v threads) (kept : TableInvariant v)
    (size : length threads ≡ v.extent.actors) (inside : InShape (opening v.extent) b) where
  -- where the block has an object with handles
  word_busy : (k : Kind) → let s = model_state v in IsBusy s (s.latest b)
      → number_of (slice_index v.words (spot b (slot k))) + owed v.views (spot b (slot k)) ≡ number s k (s.latest b) + added v.views (spot b (slot k))
  word_busy k busy =
      let s = model_state v in
      let o = s.latest b in
      let i = counts_at (blocks_of s) k o in
      let w = get_or v.words i 0 in
      let x = halves (opening v.extent) v.words v.views v.history kept.stands k o busy (number_of w) (w / 4294967296) (omega arith) (omega arith) in
      let low = x.0 in
      let few = owed_few (opening v.extent) v.words v.views v.history kept.stands k o busy in
      let t = number_tally s k o in
      let m = more_counts (opening v.extent) v.words v.views v.history kept.stands k o busy in
      subst (λ (c : ℕ). number_of (get_or v.words (spot c (slot k)) 0) + owed v.views (spot c (slot k)) ≡ number s k o + added v.views (spot c (slot k)))
      (there v (record { 0 = b }) kept busy).0 (omega (arith, low, few, t, m))

  -- where it is vacant: an object may be on its way into it
  word_rest : (k : Kind) → let s = model_state v in (IsBusy s (s.latest b) → ⊥)
      → number_of (slice_index v.words (spot b (slot k))) + owed v.views (spot b (slot k)) ≡ number s k (s.latest b) + added v.views (spot b (slot k))
  word_rest Owner rest =
      let none = added_none v threads b fit kept size inside.0 in
      let owes = owed_none v threads b fit kept size inside.0 Owner rest in
      let room = number_room (opening v.extent) v.history kept.stands.legal Owner ((model_state v).latest b) in
      let u = kept.stands.blank b 0 inside (omega arith) in
      ⊎_elim (λ l. absurd (let l0 = l.0 in omega arith)) (λ e. omega (arith, e, none, owes, room, u)) (kept.stands.shows.blocks b 0 inside (omega arith))
  word_rest Weak rest =
      let few = added_few v threads b fit kept size inside.0 in
      let owes = owed_none v threads b fit kept size inside.0 Weak rest in
      let room = number_room (opening v.extent) v.history kept.stands.legal Weak ((model_state v).latest b) in
      let u = kept.stands.blank b 1 inside (omega arith) in
      ⊎_elim (λ l. absurd (none_kept (l.3 refl).1)) (λ e. omega (arith, e, few, owes, room, u)) (kept.stands.shows.blocks b 1 inside (omega arith))
    where
      none_kept : false ≡ true → ⊥
      none_kept e = cc

  word_is : (k : Kind) → let s = model_state v in
      number_of (slice_index v.words (spot b (slot k))) + owed v.views (spot b (slot k)) ≡ number s k (s.latest b) + added v.views (spot b (slot k))
  word_is k =
      let s = model_state v in
      ⊎_elim (λ (e : 0 < weak_number s (s.latest b)). word_busy k e) (λ (n : weak_number s (s.latest b) ≤ 0). word_rest k (λ busy. omega (arith, busy, n)))
      (cases_lt 0 (weak_number s (s.latest b)))

  -- the owners and the weak handles are those in the numbers and those of loads under way
  pub owners_are : number_of (slice_index v.words (spot b 0)) + loads_on (model_state v) b Owner (map thread_pending threads)
      ≡ count (model_state v) ((model_state v).latest b)
  owners_are =
      let e = word_is Owner in
      let owes = owed_loads v threads b fit kept size inside.0 Owner in
      let none = added_none v threads b fit kept size inside.0 in omega (arith, e, owes, none)

  pub weaks_are : number_of (slice_index v.words (spot b 1)) + loads_on (model_state v) b Weak (map thread_pending threads)
      ≡ weak_number (model_state v) ((model_state v).latest b) + makes_in b (map thread_pending threads)
  weaks_are =
      let e = word_is Weak in
      let owes = owed_loads v threads b fit kept size inside.0 Weak in
      let makes = added_makes v threads b fit kept size inside.0 in omega (arith, e, owes, makes)

  -- they stay within a count's range
  pub owners_few : count (model_state v) ((model_state v).latest b) ≤ most_number
  owners_few = number_room (opening v.extent) v.history kept.stands.legal Owner ((model_state v).latest b)

  pub weaks_few : weak_number (model_state v) ((model_state v).latest b) + makes_in b (map thread_pending threads) ≤ most_number + 64
  weaks_few =
      let room = number_room (opening v.extent) v.history kept.stands.legal Weak ((model_state v).latest b) in
      let few = added_few v threads b fit kept size inside.0 in
      let makes = added_makes v threads b fit kept size inside.0 in omega (arith, room, few, makes)

-- ---- objects that end

either : (x y : Bool) → (x || y) ≡ true → (x ≡ true) ⊎ (y ≡ true)
either true y e = inl refl
either false y e = inr e

left_is : (x y : Bool) → x ≡ true → (x || y) ≡ true
left_is x y e = ap (λ (z : Bool). z || y) e

right_is : (x y : Bool) → y ≡ true → (x || y) ≡ true
right_is true y e = refl
right_is false y e = e

some_in : (b : ℕ) (es : List Ending) → 0 < endings_in_block b es → is_ending_in b es ≡ true
some_in b [] h = absurd (omega (arith, h))
some_in b (x ∷ es) h =
    let m = one_more b x es in
    ⊎_elim (λ (e : x.block.0 ≡ b). left_is (x.block.0 == b) (is_ending_in b es) (eq-eqb x.block.0 b e))
    (λ (n : x.block.0 ≢ b). right_is (x.block.0 == b) (is_ending_in b es) (some_in b es (let z = apart x.block.0 n in omega (arith, m, h, z))))
    (cases_eq x.block.0 b)
  where
    apart : (k : ℕ) → k ≢ b → ◌≡◌ {A = ℕ} (cond (k == b) 1 0) 0
    apart k n = cond-false (k == b) 1 0 (ne_eqb k b n)

some_ends : (b : ℕ) (ws : List FrameView) (d : ℕ) → 0 < endings_in_block b (get_or ws d nowhere).endings → ends_in b ws ≡ true
some_ends b [] d h = absurd (omega (arith, h))
some_ends b (w ∷ ws) zero h = left_is (is_ending_in b w.endings) (ends_in b ws) (some_in b w.endings h)
some_ends b (w ∷ ws) (suc d) h = right_is (is_ending_in b w.endings) (ends_in b ws) (some_ends b ws d h)

-- the threads whose endings are some of a block's
ends_at : (b : ℕ) (threads : List Thread) → ends_in b (map thread_frame threads) ≡ true
    → (d : ℕ) × (t : Thread) × (slice_get threads d ≡ Some t) × (is_ending_in b t.frame.endings.list ≡ true)
ends_at b [] e = cc
ends_at b (t ∷ ts) e =
    ⊎_elim (λ (here : is_ending_in b t.frame.endings.list ≡ true). (0, t, refl, here))
    (λ (there : ends_in b (map thread_frame ts) ≡ true). let r = ends_at b ts there in (suc r.0, r.1, r.2, r.3))
    (either (is_ending_in b t.frame.endings.list) (ends_in b (map thread_frame ts)) e)

-- endings of threads are those of their frames
pub ends_map : (b : ℕ) (threads : List Thread) → list_any (λ (t : Thread). is_ending_in b t.frame.endings.list) threads ≡ ends_in b (map thread_frame threads)
ends_map b [] = refl
ends_map b (t ∷ ts) = ap (λ (x : Bool). is_ending_in b t.frame.endings.list || x) (ends_map b ts)

phase_at : (d : ℕ) (v : GhostState) (b : ℕ) (es : List Ending) → All (λ (e : Ending). IsEndingAtStage d e v) es → is_ending_in b es ≡ true
    → ((model_state v).object ((model_state v).latest b)).phase ≡ ending d
phase_at d v b [] all e = cc
phase_at d v b (x ∷ es) all e =
    ⊎_elim
    (λ (here : (x.block.0 == b) ≡ true).
    subst (λ (k : ℕ). ((model_state v).object ((model_state v).latest k)).phase ≡ ending d) (eqb-true x.block.0 b here)
    (All-head (λ (e : Ending). IsEndingAtStage d e v) x es all).ending)
    (λ (there : is_ending_in b es ≡ true). phase_at d v b es (All-tail (λ (e : Ending). IsEndingAtStage d e v) x es all) there)
    (either (x.block.0 == b) (is_ending_in b es) e)

-- an object that ends is the one in its block
in_block : (z : Opening) (s : State) (b d : ℕ) → Sound z s → (s.object (s.latest b)).phase ≡ ending d → (s.object (s.latest b)).block ≡ b
in_block z s b d fine p =
    fine.latest_in b
    (λ q. let u : unmade ≡ ending d = sym fine.none ∙ ap (λ (o : ℕ). (s.object o).phase) (sym q) ∙ p in first_unmade u)
  where
    first_unmade : unmade ≡ ending d → ⊥
    first_unmade e = cc

not_unmade : (d : ℕ) → unmade ≡ ending d → ⊥
not_unmade d e = cc

not_gone : (d : ℕ) → gone ≡ ending d → ⊥
not_gone d e = cc

nobody : (n : ℕ) → n ≡ 0 → ◌≡◌ {A = ℕ} (cond (nat_lt 0 n || false) 1 0) 0
nobody n e = ap (λ (k : ℕ). cond (nat_lt 0 k || false) 1 0) e

-- owners have one weak handle in common while there are some, or the object ends
shared : (p : Phase) (n : ℕ) (ends : Bool) → OwnersFit p n → ((d : ℕ) → p ≡ ending d → ends ≡ true) → (ends ≡ true → (d : ℕ) × (p ≡ ending d))
    → ◌≡◌ {A = ℕ} (cond (nat_lt 0 n || ends) 1 0) (common p)
shared unmade n true fit all some' = absurd (let r = some' refl in not_unmade r.0 r.1)
shared unmade n false fit all some' = nobody n fit
shared live n ends fit all some' = cond-true (nat_lt 0 n || ends) 1 0 (left_is (nat_lt 0 n) ends (lt-ltb 0 n fit))
shared gone n true fit all some' = absurd (let r = some' refl in not_gone r.0 r.1)
shared gone n false fit all some' = nobody n fit
shared (ending d) n ends fit all some' = cond-true (nat_lt 0 n || ends) 1 0 (right_is (nat_lt 0 n) ends (all d refl))

-- ---- what is told

abbrev told_as : ℕ → ℕ → Option Counts
told_as owners weaks = Some (record { owners = owners; weaks = weaks })

module _ (v : GhostState) (threads : List Thread) (m e b : ℕ) (fit : AllFit v threads) (told : TotalsAreTold (world_state v threads) m e)
    (kept : TableInvariant v) (inside : InShape (opening v.extent) b) where
  fine : Sound (opening v.extent) (model_state v)
  fine = sound (opening v.extent) v.history kept.stands.legal

  pub all_seated : length threads ≡ v.extent.actors
  all_seated = sym (length-map threads thread_frame) ∙ told.threads

  ends_told : (d : ℕ) → ((model_state v).object ((model_state v).latest b)).phase ≡ ending d → ends_in b (map thread_frame threads) ≡ true
  ends_told d p =
      some_ends b (map thread_frame threads) d
      (subst (λ (k : ℕ). 0 < endings_in_block k (get_or (map thread_frame threads) d nowhere).endings) (in_block (opening v.extent) (model_state v) b d fine p)
      (told.endings ((model_state v).latest b) d p))

  told_ends : ends_in b (map thread_frame threads) ≡ true → (d : ℕ) × (((model_state v).object ((model_state v).latest b)).phase ≡ ending d)
  told_ends h =
      let r = ends_at b threads h in
      (r.0, phase_at r.0 v b r.1.frame.endings.list (fit.each r.0 r.1 r.2).endings.all.each r.3)

  common_is : ◌≡◌ {A = ℕ} (cond (nat_lt 0 (count (model_state v) ((model_state v).latest b)) || ends_in b (map thread_frame threads)) 1 0)
      (common ((model_state v).object ((model_state v).latest b)).phase)
  common_is =
      let s = model_state v in
      let o = s.latest b in
      shared (s.object o).phase (count s o) (ends_in b (map thread_frame threads)) (fine.owners o) ends_told told_ends

  counts_are : (owners number : ℕ) (ends : Bool)
      → owners ≡ number_of (slice_index v.words (spot b 0)) + loads_on (model_state v) b Owner (map thread_pending threads)
      → number ≡ number_of (slice_index v.words (spot b 1)) + loads_on (model_state v) b Weak (map thread_pending threads)
      - makes_in b (map thread_pending threads)
      → ends ≡ ends_in b (map thread_frame threads)
      → counts_by owners number ends ≡ census_of (model_state v) b
  counts_are owners number ends read read' is =
      let s = model_state v in
      let o = s.latest b in
      let weaks = weaks_are v threads b fit kept all_seated inside in
      let p : owners ≡ count s o = read ∙ owners_are v threads b fit kept all_seated inside in
      let q : number ≡ weak s o + common (s.object o).phase = omega (arith, read', weaks) in
      let t : ◌≡◌ {A = ℕ} (cond (nat_lt 0 owners || ends) 1 0) (common (s.object o).phase) =
      ap (λ (n : ℕ). cond (nat_lt 0 n || ends) 1 0) p
      ∙ ap (λ (x : Bool). cond (nat_lt 0 (count s o) || x) 1 0) is ∙ common_is in
      let w : number - cond (nat_lt 0 owners || ends) 1 0 ≡ weak s o = omega (arith, q, t) in
      ap (λ (n : ℕ). cond (n == 0) None (told_as owners (number - cond (nat_lt 0 owners || ends) 1 0))) q
      ∙ ap (λ (n : ℕ). cond (weak_number s o == 0) None (told_as owners n)) w ∙ ap (λ (n : ℕ). cond (weak_number s o == 0) None (told_as n (weak s o))) p

-- the same of what is seen of a world
pub record Shown (u : WorldState) (v : GhostState) (threads : List Thread) (m e b : ℕ) : Type 0 where
  pub is : world_state v threads ≡ u
  pub fit : AllFit v threads
  pub told : TotalsAreTold (world_state v threads) m e
  pub kept : TableInvariant v
  pub some : 0 < b
  pub within : b ≤ u.ghost_state.extent.shape.blocks

-- what is said of a block in the table is said of the world's block
seen_block : (P : WorldState → Type 0) (u : WorldState) (v : GhostState) (threads : List Thread) (m e b : ℕ) → Shown u v threads m e b
    → (InShape (opening v.extent) b → P (world_state v threads)) → P u
seen_block P u v threads m e b shown here =
    subst P shown.is (here (shown.some, subst (λ (x : WorldState). b ≤ x.ghost_state.extent.shape.blocks) (sym shown.is) shown.within))

abbrev owners_at : WorldState → ℕ → ℕ
owners_at u b = number_of (slice_index u.ghost_state.words (spot b 0)) + loads_on (model_state u.ghost_state) b Owner u.pending_calls

abbrev weaks_at : WorldState → ℕ → ℕ
weaks_at u b = number_of (slice_index u.ghost_state.words (spot b 1)) + loads_on (model_state u.ghost_state) b Weak u.pending_calls

pub counts_now : (u : WorldState) (v : GhostState) (threads : List Thread) (m e b owners number : ℕ) (ends : Bool) (r : Option Counts)
    → Shown u v threads m e b → owners ≡ owners_at u b → number ≡ weaks_at u b - makes_in b u.pending_calls → ends ≡ ends_in b u.frame_views
    → r ≡ counts_by owners number ends → r ≡ census_of (model_state u.ghost_state) b
counts_now u v threads m e b owners number ends r shown read read' is answer =
    answer
    ∙ seen_block (λ (x : WorldState). owners ≡ owners_at x b → number ≡ weaks_at x b - makes_in b x.pending_calls → ends ≡ ends_in b x.frame_views
    → counts_by owners number ends ≡ census_of (model_state x.ghost_state) b) u v threads m e b shown
    (λ inside. counts_are v threads m e b shown.fit shown.told shown.kept inside owners number ends) read read' is

-- the sums are within range
pub few_now : (u : WorldState) (v : GhostState) (threads : List Thread) (m e b : ℕ) → Shown u v threads m e b
    → (length u.pending_calls ≤ 64) × (owners_at u b < 4294967296) × (weaks_at u b < 4294967296)
few_now u v threads m e b shown =
    seen_block (λ (x : WorldState). (length x.pending_calls ≤ 64) × (owners_at x b < 4294967296) × (weaks_at x b < 4294967296)) u v threads m e b shown
    (λ inside.
    let size = all_seated v threads m e b shown.fit shown.told shown.kept inside in
    let many = length-map threads thread_pending in
    let most = shown.kept.proper.few in
    let owners = owners_are v threads b shown.fit shown.kept size inside in
    let weaks = weaks_are v threads b shown.fit shown.kept size inside in
    let few = owners_few v threads b shown.fit shown.kept size inside in
    let few' = weaks_few v threads b shown.fit shown.kept size inside in
    (omega (arith, many, most, size), omega (arith, owners, few), omega (arith, weaks, few')))
