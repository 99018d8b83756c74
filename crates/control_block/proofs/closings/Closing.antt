-- What the words are once a sole desk closes its domain.
use Rattle.std.proofs.Common.{◌≡◌, ℕ, zero, suc, ◌+◌, ◌-◌, ◌/◌, ◌%◌, Bool, true, false, true≢false, cond, ◌≢◌, ◌⊎◌, ◌↔◌, inl, inr, List, []}
use Rattle.std.proofs.Common.{◌∷◌, map, ◌^◌, not, bit_and, ◌==◌, slice_index, sym, refl, ap, ◌∙◌, subst, ⊎_elim}
use Rattle.std.proofs.Common.{arith, eq-eqb, eqb-true, ne_eqb}
use Rattle.control_block.proofs.Prelude
use Prelude.{alone, at_map, bit_at, bit_at-lt, cases_eq, CensusNow, common, cond-false, cond-true, cond_both, ending, EndsNot}
use Prelude.{Entry, get_elem?, gone, Idle, InShape, IsLegal, IsVacant, known, leads, live}
use Prelude.{many_ending, number_of, Opening, opening_of, owners_in, Phase, Ruled, SeatView, Shape}
use Prelude.{shelf_at, some, some-injective, some-ne-none, Sound, spot, State, stock, TellsBlock, unmade, View}
use Prelude.{view_of, weak_number}
use Rattle.atomic_table.specs.Table as Table
use Rattle.control_word.proofs.history.Endings.{ends_in_hands}
use Rattle.control_word.proofs.history.Soundness.{OwnersFit}
use Rattle.control_word.proofs.packing.Bits.{bit_tells}
use Rattle.control_word.proofs.history.Stores.{shelf_has_all}
use Rattle.control_block.specs.Census.{is_free}
use Rattle.control_block.proofs.Passage.{point, ready}
use Rattle.control_word.proofs.funded.Resting.{rests_exactly_funded, sole_has_seen_all_funded}
use Rattle.control_word.proofs.funded.Words.{shelf_shows_funded}
use Rattle.control_word.specs.State.{count, weak}
use Rattle.control_word.specs.Views.{NamesBlock}
use Rattle.control_block.proofs.EndingCounts.{some_ending}
use Rattle.control_block.proofs.kept.Look as looks

pub index_at : (l : List ℕ) (i x : ℕ) → get_elem? l i ≡ some x → x ≡ slice_index l i
index_at [] i x e = absurd (some-ne-none x (sym e))
index_at (y ∷ ys) zero x e = sym (some-injective y x e)
index_at (y ∷ ys) (suc i) x e = index_at ys i x e

-- a block is vacant where its latest object has no weak number
pub vacant_by_latest : (z : Opening) (s : State) (b : ℕ) → Sound z s → weak_number s (s.latest b) ≡ 0 → IsVacant s b
vacant_by_latest z s b fine none o here = go (weak_number s o) refl
  where
    go : (n : ℕ) → weak_number s o ≡ n → weak_number s o ≡ 0
    go zero e = e
    go (suc n) e =
        let p = (fine.placed o (omega arith)).0 in
        let q : s.latest b ≡ o = ap s.latest (sym here) ∙ p in ap (weak_number s) (sym q) ∙ none

module _ {V : Type 0} where
  module _ (k : Shape) (s : Table.State (Rattle.std.specs.Prelude.Option V) (SeatView V)) (r : Ruled k s) (id : ℕ) (v : SeatView V)
      (at : get_elem? s.views id ≡ some v)
      (awake : v.view.spent ≡ false) (idle : v.view.pending ≡ Idle) (whole : (known v).allowance v.view.name ≡ v.shape.allowance) where
    same_shape : v.shape ≡ k
    same_shape = r.shapes id v at awake

    pub all_seen : known v ≡ leads (opening_of k) r.history
    all_seen =
        let w = subst (λ y. (leads (opening_of y) v.view.seen).allowance v.view.name ≡ y.allowance) same_shape whole in
        let e = sole_has_seen_all_funded (opening_of k) s.words (map view_of s.views) r.history r.stands id v.view
        (at_map view_of s.views id v at) awake w in
        λ i. leads (opening_of (same_shape i)) (e i)

    -- no call is half done
    pub all_idle : (j : ℕ) (u : View V) → get_elem? (map view_of s.views) j ≡ some u → u.pending ≡ Idle
    all_idle j u there = go u.spent refl
      where
        go : (t : Bool) → u.spent ≡ t → u.pending ≡ Idle
        go true t = r.stands.stands.team.rests j u there t
        go false t =
            let w = subst (λ y. (leads (opening_of y) v.view.seen).allowance v.view.name ≡ y.allowance) same_shape whole in
            let whole' : (leads (opening_of k) r.history).allowance v.view.name ≡ k.allowance = ap
            (λ (y : State). y.allowance v.view.name) (sym all_seen) ∙ (whole ∙ ap (λ y. y.allowance) same_shape) in
            let same = looks.alone (opening_of k) s.words (map view_of s.views) r.history r.stands id v.view
            (at_map view_of s.views id v at) awake whole' j u there t in
            let e = some-injective u v.view (sym there ∙ (ap (get_elem? (map view_of s.views)) same ∙ at_map view_of s.views id v at)) in
            ap (λ (y : View V). y.pending) e ∙ idle

    nobody_names : (b j : ℕ) (u : View V) → get_elem? (map view_of s.views) j ≡ some u → NamesBlock (leads (opening_of k) r.history) u.pending b → ⊥
    nobody_names b j u there names = subst (λ p. NamesBlock (leads (opening_of k) r.history) p b) (all_idle j u there) names

    -- the counts of a block of which no object is ending
    pub exact_counts : (b : ℕ) → InShape (opening_of k) b
        → ((o d : ℕ) → ((known v).object o).block ≡ b → ((known v).object o).phase ≡ ending d → ⊥)
        → (number_of (slice_index s.words (spot b 0)) ≡ count (known v) ((known v).latest b))
        × ((number_of (slice_index s.words (spot b 1)) ≡ weak (known v) ((known v).latest b) + common ((known v).object ((known v).latest b)).phase)
        ⊎ IsVacant (known v) b)
    exact_counts b inside still =
        subst (λ (y : State). (number_of (slice_index s.words (spot b 0)) ≡ count y (y.latest b))
        × ((number_of (slice_index s.words (spot b 1)) ≡ weak y (y.latest b) + common (y.object (y.latest b)).phase) ⊎ IsVacant y b)) (sym all_seen)
        (let t = rests_exactly_funded (opening_of k) s.words (map view_of s.views) r.history r.stands b inside record {
          still = subst (λ (y : State). (o d : ℕ) → (y.object o).block ≡ b → (y.object o).phase ≡ ending d → ⊥) all_seen still;
          unnamed = nobody_names b;
        } in (t.0, ⊎_elim inl (λ kept. inr kept.0) t.1))

    -- the shelf has just the vacant blocks, where the desk's store is empty
    pub told_free : stock (known v) v.view.name ≡ [] → (b : ℕ) → InShape (opening_of k) b
        → (bit_at (slice_index s.words (shelf_at k (b / 64))) (b % 64) ≡ 1) ↔ IsVacant (known v) b
    told_free none b inside =
        let z = opening_of k in
        let law = shelf_has_all z r.history r.stands.stands.legal v.view.name
        (ap (λ (y : State). y.allowance v.view.name) (sym all_seen) ∙ (whole ∙ ap (λ y. y.allowance) same_shape))
        (ap (λ (y : State). stock y v.view.name) (sym all_seen) ∙ none) b inside in
        let bit = shelf_shows_funded (point k s r id v) v.view.pending b (ready k s r id v at awake v.view.pending refl) (let i = inside.1 in omega arith) in
        subst (λ (y : State). (bit_at (slice_index s.words (shelf_at k (b / 64))) (b % 64) ≡ 1) ↔ IsVacant y b) (sym all_seen)
        (λ e. law.0 (sym bit ∙ e), λ vacant. bit ∙ law.1 vacant)

  -- where nothing ends with a sole desk, nothing ends at all
  pub nothing_ends : (z : Opening) (h : List (Entry V)) → IsLegal z h → (n : ℕ) → (leads z h).allowance n ≡ z.allowance
      → many_ending z.blocks (leads z h) n ≡ 0 → (b : ℕ) → InShape z b → EndsNot (leads z h) b
  nothing_ends z h legal n whole none b inside o d here ends =
      let s = leads z h in let in_hands = ends_in_hands z h legal o d ends in
      let mine = alone z h legal n d whole in_hands.0 in let last : s.latest b ≡ o = ap s.latest (sym here) ∙ in_hands.3 in
      let some' = some_ending z.blocks s n b inside.0 inside.1 (ap (λ q. (s.object q).phase) last ∙ (ends ∙ ap ending mine)) in omega arith

one_live : (p : Phase) (n : ℕ) → OwnersFit p n → ((d : ℕ) → p ≡ ending d → ⊥) → ◌≡◌ {A = ℕ} (cond (n == 0) 0 1) (common p)
one_live unmade n fit not = cond-true (n == 0) 0 1 (eq-eqb n 0 fit)
one_live live n fit not = cond-false (n == 0) 0 1 (ne_eqb n 0 (λ e. omega arith))
one_live gone n fit not = cond-true (n == 0) 0 1 (eq-eqb n 0 fit)
one_live (ending d) n fit not = absurd (not d refl)

-- the counts of the words are those of the state
pub tells_of : (z : Opening) (t : State) (b : ℕ) (c : CensusNow) → Sound z t → EndsNot t b → owners_in c b ≡ count t (t.latest b)
    → (number_of (slice_index c.words (spot b 1)) ≡ weak t (t.latest b) + common (t.object (t.latest b)).phase) ⊎ IsVacant t b
    → (is_free c b ≡ true ↔ IsVacant t b) → TellsBlock t b c
tells_of z t b c fine still owners number free =
    let o = t.latest b in
    let here : (t.object o).phase ≢ unmade → (t.object o).block ≡ b = λ n. fine.latest_in b (λ e. n (ap (λ x. (t.object x).phase) e ∙ fine.none)) in
    let not : (d : ℕ) → (t.object o).phase ≡ ending d → ⊥ = λ d e. still o d (here (λ u. ends_unmade d (sym e ∙ u))) e in
    let one = ap (λ (n : ℕ). cond (n == 0) 0 1) owners ∙ one_live (t.object o).phase (count t o) (fine.owners o) not in
    let none : IsVacant t b → weak_number t o ≡ 0 = λ v. ⊎_elim
    (λ (e : o ≡ 0). ap (weak_number t) e ∙ fine.unmade_free 0 fine.none)
    (λ (n : o ≢ 0). v o (fine.latest_in b n)) (cases_eq o 0) in
    record {
      owners = owners;
      weaks = cond_both (is_free c b) 0 (number_of (slice_index c.words (spot b 1)) - cond (owners_in c b == 0) 0 1) (λ n. n ≡ weak t o)
          (λ e. let w = none (free.0 e) in omega arith)
          (λ e. ⊎_elim (λ n. let one' = one in omega arith) (λ v. absurd (true≢false (sym (free.1 v) ∙ e))) number);
      vacant = free;
    }
  where
    ends_unmade : (d : ℕ) → ending d ≡ unmade → ⊥
    ends_unmade d e = cc

pub one_less : (o n : ℕ) → o ≢ 0 → n - 1 ≡ n - cond (o == 0) 0 1
one_less o n ne = let e = cond-false {A = ℕ} (o == 0) 0 1 (ne_eqb o 0 ne) in omega arith

pub none_less : (o n : ℕ) → o ≡ 0 → n ≡ n - cond (o == 0) 0 1
none_less o n e = let e = cond-true {A = ℕ} (o == 0) 0 1 (eq-eqb o 0 e) in omega arith

-- what a test of a block's bit tells
pub bit_read : (n m j a : ℕ) → n ≡ m → a ≡ 2 ^ j → not (bit_and n a == 0) ≡ (bit_at m j == 1)
bit_read n m j a same is =
    let here : not (bit_and n a == 0) ≡ not (bit_and m (2 ^ j) == 0) = λ i. not (bit_and (same i) (is i) == 0) in
    ⊎_elim
    (λ (one : bit_at m j ≡ 1). here ∙ (bit_tells m j true one ∙ sym (eq-eqb (bit_at m j) 1 one)))
    (λ (ne : bit_at m j ≢ 1).
    let low = bit_at-lt m j in here ∙ (bit_tells m j false (omega arith) ∙ sym (ne_eqb (bit_at m j) 1 ne)))
    (cases_eq (bit_at m j) 1)

-- what the words tell of the shelf, the census tells
pub free_by : (k z : Shape) (l m : List ℕ) (b : ℕ) (t : State) → k ≡ z → l ≡ m
    → (bit_at (slice_index l (shelf_at k (b / 64))) (b % 64) ≡ 1) ↔ IsVacant t b
    → ((bit_at (slice_index m (shelf_at z (b / 64))) (b % 64) == 1) ≡ true) ↔ IsVacant t b
free_by k z l m b t shape words told =
    let same : bit_at (slice_index l (shelf_at k (b / 64))) (b % 64) ≡ bit_at (slice_index m (shelf_at z (b / 64))) (b % 64) =
    λ i. bit_at (slice_index (words i) (shelf_at (shape i) (b / 64))) (b % 64) in
    (λ e. told.0 (same ∙ eqb-true (bit_at (slice_index m (shelf_at z (b / 64))) (b % 64)) 1 e), λ v. eq-eqb _ 1 (sym same ∙ told.1 v))
