-- Loads of cells without an object, and refills.
use Rattle.std.proofs.Common.{◌≡◌, ℕ, ◌+◌, ◌-◌, ◌*◌, ◌<◌, Bool, true, false, cond, ◌||◌, ◌≢◌, List}
use Rattle.std.proofs.Common.{◌∷◌, get_or, set, is_some, Some, None, Option, sym, refl, ap, ◌∙◌}
use Rattle.std.proofs.Common.{subst, inl, arith}
use Rattle.step_table.proofs.Prelude
use Prelude.{AtomicStep, Block, blocks_of, cell_bits, cell_in, cell_of, CellWord, Compared}
use Prelude.{counts_at, Entry, entry, equivalent, Extent, false≢true, ghost_after_step, GhostState}
use Prelude.{handle, handle_told, HasInHand, history_after, Idle, InHand, IsCellWord, IsOpen}
use Prelude.{IsOpenTo, kind_in_state, Look, model_state, Nothing, NumberedHandle, object_at}
use Prelude.{object_of_block, OnCell, opening, owing_funds, Paying, pending, Place, Refill}
use Prelude.{sees_as, ShowsCell, Site, slot, spot, Stands, TableInvariant, View, view_in}
use Prelude.{views_after, word_of_cell, words_after}
use Rattle.control_word.proofs.steps.Look.{differs_empty, loads_empty}
use Rattle.control_word.proofs.steps.Refill.{refills}
use Rattle.control_word.specs.declared.model.event.Event.TheVariants as event
use Rattle.control_word.specs.Words.{packed}
use Rattle.step_table.proofs.tables.Places.{event_by, named as own}
use Rattle.step_table.proofs.tables.Shown.{cell_there, found_in, kept_cell}
use Rattle.step_table.proofs.tables.Standing.{kept_after, point, ready, ghost_as}

pub kept_look : (v : GhostState) (d : ℕ) (c : Site) (x : CellWord) → TableInvariant v → d < v.extent.actors → pending v d ≡ Idle → IsOpenTo v d c
    → ShowsCell v c x
    → is_some x.owned ≡ false → TableInvariant (ghost_after_step v d (OnCell (Look c x None)))
kept_look v d c x kept lt idle way shows none = go x.owned refl
  where
    go : (o : Option Block) → x.owned ≡ o → TableInvariant (ghost_after_step v d (OnCell (Look c x None)))
    go (Some b) e = absurd (clash (sym (ap is_some e) ∙ none))
      where
        clash : true ≡ false → ⊥
        clash q = cc
    go None e =
        let s = model_state v in
        let n = cell_in s c in
        let k = kind_in_state s c in
        let m = own v d kept lt in
        let told : handle_told s c x ≡ handle k None x.place = ap (λ (q : Option Block). handle k (object_at s q) x.place) e in
        let law = loads_empty (point v d) n k x.place (ready v d Idle kept lt idle) (subst (λ (i : ℕ). IsOpen s i n) (sym m) way)
        (sym told ∙ shows.holds) in
        kept_after v d (OnCell (Look c x None)) kept lt
        (subst (λ y. Stands (opening v.extent) v.words (set v.views d (sees_as (view_in v.views d) Idle (entry d (event.Load n y) ∷ v.history)))
        (entry d (event.Load n y) ∷ v.history)) (sym told)
        (event_by v d v.words Idle (event.Load n (handle k None x.place)) kept lt law))

pub kept_refill : (v : GhostState) (d : ℕ) (c : Site) (x : CellWord) (p : Option Place) → TableInvariant v → d < v.extent.actors → IsOpenTo v d c
    → x.owned ≢ None → IsCellWord x → word_of_cell v c ≡ cell_bits x
    → pending v d ≡ owing_funds (model_state v) (kind_in_state (model_state v) c) x.owned p x.taken 0
    → TableInvariant (ghost_after_step v d (OnCell (Refill c x.taken)))
kept_refill v d c x p kept lt way some valid bits owes = go x.owned refl
  where
    go : (o : Option Block) → x.owned ≡ o → TableInvariant (ghost_after_step v d (OnCell (Refill c x.taken)))
    go None e = absurd (some e)
    go (Some b) e =
        let s = model_state v in
        let n = cell_in s c in
        let k = kind_in_state s c in
        let o = object_of_block v b in
        let is = kept_cell v d c kept way in
        let f = found_in v d c x kept lt is valid bits in
        let m = own v d kept lt in
        let there = cell_there v c kept is in
        let told : handle_told s c x ≡ handle k (Some o) x.place = ap (λ (q : Option Block). handle k (object_at s q) x.place) e in
        let same : handle k (Some o) x.place ≡ cell_of s n = sym told ∙ f.shows.holds in
        let owed : pending v d ≡ Paying k o p (counts_at (blocks_of s) k o) x.taken 0 =
        owes ∙ ap (λ (q : Option Block). owing_funds s k q p x.taken 0) e ∙ ap (λ (i : ℕ). Paying k o p (spot i (slot k)) x.taken 0)
        (sym (f.there b e)) in
        let law =
        refills (point v d) n k o x.taken p x.place (ready v d _ kept lt owed) (subst (λ (i : ℕ). IsOpen s i n) (sym m) way) same
        (f.bits ∙ ap (λ y. packed (blocks_of s) y + 17179869184 * x.taken) (sym same)) in
        kept_after v d (OnCell (Refill c x.taken)) kept lt
        (subst (λ (i : ℕ). Stands (opening v.extent) (set v.words i (get_or v.words i 0 - 17179869184 * x.taken))
        (set v.views d (sees_as (view_in v.views d) Idle v.history)) v.history) there law)

-- the word with none taken is the word less what was taken
pub refilled : (x : CellWord) (n w : ℕ) → n ≡ cell_bits (record x { taken = 0 }) → w ≡ cell_bits x → n ≡ w - 17179869184 * x.taken
refilled x n w e f = omega (arith, e, f)

pub kept_look_differing : (v : GhostState) (d : ℕ) (c : Site) (x : CellWord) (y : Compared) → TableInvariant v → d < v.extent.actors
    → pending v d ≡ Idle → IsOpenTo v d c
    → HasInHand v d c y.expected → HasInHand v d c y.new → ShowsCell v c x → x.owned ≡ None
    → equivalent (handle_told (model_state v) c x) (handle_told (model_state v) c y.expected) ≡ false
    → TableInvariant (ghost_after_step v d (OnCell (Look c x (Some y))))
kept_look_differing v d c x y kept lt idle way wanted hand shows e other =
    let s = model_state v in
    let n = cell_in s c in
    let k = kind_in_state s c in
    let m = own v d kept lt in
    let w = handle_told s c y.expected in
    let h = handle_told s c y.new in
    let told : handle_told s c x ≡ handle k None x.place = ap (λ (q : Option Block). handle k (object_at s q) x.place) e in
    let same : handle k None x.place ≡ cell_of s n = sym told ∙ shows.holds in
    let differs : equivalent (handle k None x.place) w ≡ false = ap (λ (q : NumberedHandle). equivalent q w) (sym told) ∙ other in
    let law = differs_empty (point v d) n k x.place w h y.weak (ready v d Idle kept lt idle) same (
      subst (λ (i : ℕ). IsOpen s i n) (sym m) way,
      subst (λ (i : ℕ). InHand s i k w) (sym m) wanted,
      subst (λ (i : ℕ). InHand s i k h) (sym m) hand,
      same,
      inl (sym differs),
    ) in
    kept_after v d (OnCell (Look c x (Some y))) kept lt
    (subst (λ q. Stands (opening v.extent) v.words
    (set v.views d (sees_as (view_in v.views d) Idle (entry d (event.Compare n w h q false y.weak) ∷ v.history)))
    (entry d (event.Compare n w h q false y.weak) ∷ v.history)) (sym told)
    (event_by v d v.words Idle (event.Compare n w h (handle k None x.place) false y.weak) kept lt law))

pub left_same : {A : Type 0} (full same : Bool) (x y : A) → same ≡ true → x ≡ cond (full || same) x y
left_same true same x y e = refl
left_same false true x y e = refl
left_same false false x y e = absurd (false≢true e)

pub left_none : {A : Type 0} (full same : Bool) (x y : A) → full ≡ false → same ≡ false → y ≡ cond (full || same) x y
left_none false false x y e f = refl
left_none true same x y e f = absurd (false≢true (sym e))
left_none false true x y e f = absurd (false≢true (sym f))

no_owned : (o : Option Block) → is_some o ≡ false → o ≡ None
no_owned None e = refl
no_owned (Some b) e = absurd (false≢true (sym e))

pub is_bare : (x : CellWord) → is_some x.owned ≡ false → x.owned ≡ None
is_bare x e = no_owned x.owned e

-- the table as the code leaves it, whole
pub ghost_here : (v : GhostState) (d : ℕ) (x : AtomicStep) (extent : Extent) (words : List ℕ) (history : List (Entry Nothing)) (views : List (View Nothing))
    → extent ≡ v.extent → words ≡ words_after v x → (history ≡ history_after v d x) × (views ≡ views_after v d x)
    → ◌≡◌ {A = GhostState} (record { extent = extent; words = words; views = views; history = history }) (ghost_after_step v d x)
ghost_here v d x extent words history views at same past =
    ap (λ (e : Extent). record { extent = e; words = words; views = views; history = history }) at ∙ ghost_as v d x words history views same past
