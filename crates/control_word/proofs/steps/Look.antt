-- Looks: loads that change nothing, and may be an event.
use Rattle.std.proofs.Common.{◌≡◌, ℕ, ◌+◌, ◌-◌, ◌*◌, ◌<◌, ◌≤◌, Bool, false, cond, not, ◌≢◌, List}
use Rattle.std.proofs.Common.{◌∷◌, get_or, set, ◌==◌, slice_index, Some, None, Option, sym, refl}
use Rattle.std.proofs.Common.{ap, ◌∙◌, subst, inl, ⊎_elim, arith, eq-eqb, ne_eqb}
use Rattle.control_word.proofs.Prelude
use Prelude.{after, Asks, bag_size, Bare, blocks_of, cases_eq, Cell, cell_of, Compare, cond-false}
use Prelude.{cond-true, Count, counts_at, Entry, entry, equivalent, Event, Expired, Fits, fun_ext}
use Prelude.{funds_of, get_elem?, handle, Has, held, Idle, InHand, IsOpen, Kind, kind_of, leads}
use Prelude.{Load, Lock, me, more, number_of, NumberedHandle, Opening, owed, Owner, owner, paid}
use Prelude.{Place, Read, sees, Shows, slot, some, spot, Stands, state, value, valued, Values}
use Prelude.{View, Weak, weak_of, word}
use Rattle.std.proofs.lemmas.List.{set-get_or}
use Rattle.control_word.proofs.history.Allowances.{allowed}
use Rattle.control_word.proofs.history.Legal.{held_busy, sound}
use Rattle.control_word.proofs.history.Others.{IsPlain}
use Rattle.control_word.proofs.history.Soundness.{IsBusy}
use Rattle.control_word.proofs.lists.Tallies.{differs}
use Rattle.control_word.proofs.views.Teams.{plain_step, still_step}
use Rattle.control_word.proofs.views.Resting.{sole_owes}
use Rattle.control_word.proofs.words.Body.{body_more, body_read, words_field}
use Rattle.control_word.proofs.words.Counting.{calm, funds_mean, number, number_tally, some_word}
use Rattle.control_word.proofs.words.Counting.{word_some}
use Rattle.control_word.proofs.words.Rooms.{halves}
use Rattle.control_word.specs.Laws.{CountsExactly}
use Rattle.control_word.specs.State.{HasWhole, count}
use Rattle.control_word.specs.Steps.{LooksOn, Reads, Tells, TellsCount, TellsExpired}
use Rattle.control_word.specs.CellSteps.{DiffersEmpty, LoadsEmpty}
use Rattle.control_word.specs.Words.{bank, object_words}
use Rattle.control_word.specs.Limits.{one_fund}

module _ {V : Type 0} where
  module _ (z : Opening) (words : List ℕ) (views : List (View V)) (h : List (Entry V)) (stands : Stands z words views h)
      (i : ℕ) (v : View V) (at : get_elem? views i ≡ some v) (awake : v.spent ≡ false) (idle : v.pending ≡ Idle) (o : ℕ) (p : Option Place) where
    -- a load that makes an event and changes nothing
    pub look_event : (a : Event V) → IsPlain a → Asks (leads z h) v.name a → Values (value z h) a → valued (leads z h) a (value z h) ≡ value z h
        → after (leads z h) v.name a ≡ leads z h
        → Stands z words (set views i (sees v (entry v.name a ∷ h))) (entry v.name a ∷ h)
    look_event a plain asks vals stay same =
        let s = leads z h in
        let w = sees v (entry v.name a ∷ h) in
        let quiet = calm z words views h stands i v at awake idle (entry v.name a ∷ h) in
        let u : owed views ≡ owed (set views i w) = fun_ext (λ m. (quiet m).0) in
        let g : ◌≡◌ {A = ℕ → ℕ} (more z s views stands.taken) (more z s (set views i w) stands.taken) =
        fun_ext (λ m. let q = quiet m in let x = q.0 in
        let y = q.1 in let c = q.2 in omega arith) in
        plain_step z words words views h i v a Idle stands.taken stands at awake plain tt (λ c. omega arith) asks vals
        (subst (λ t. bag_size t v.name ≤ t.allowance v.name) (sym same) ((allowed z h stands.legal).rooms v.name))
        (subst (λ t. Shows z words (owed (set views i w)) (more z t (set views i w) stands.taken) t) (sym same)
        (subst (λ (y : ℕ → ℕ). Shows z words y (more z s (set views i w) stands.taken) s) u (subst (λ (y : ℕ
        → ℕ). Shows z words (owed views) y s) g stands.shows)))
        stands.most stands.blank (subst (λ t. Bare z t stands.taken) (sym same) stands.bare) tt
        (λ d q n f. subst (λ t. Fits words t (valued s a (value z h)) d q) (sym same) (subst (λ (w : ℕ → Option V). Fits words s w d q) (sym stay) f))

    zero_test : (k : Kind) → IsBusy (leads z h) o → (get_or words (spot ((leads z h).object o).block (slot k)) 0 == 0) ≡ (number (leads z h) k o == 0)
    zero_test k busy =
        let s = leads z h in
        let n = get_or words (spot (s.object o).block (slot k)) 0 in
        ⊎_elim (λ (e : number s k o ≡ 0). eq-eqb n 0 (⊎_elim (λ (t : n ≡ 0). t)
        (λ (t : n ≢ 0). let u = some_word z words views h stands k o busy (omega arith) in absurd (omega arith)) (cases_eq n 0))
        ∙ sym (eq-eqb (number s k o) 0 e))
        (λ (e : number s k o ≢ 0). ne_eqb n 0 (λ t. let u = word_some z words views h stands k o busy (omega arith) in omega arith)
        ∙ sym (ne_eqb (number s k o) 0 e)) (cases_eq (number s k o) 0)

    -- expired where the whole owner word is 0
    pub expired_step : Has (held v.name (weak_of o p)) (leads z h).hands
        → let e = entry v.name (Expired (weak_of o p) (get_or words (spot ((leads z h).object o).block 0) 0 == 0)) in Stands z words (set views i
        (sees v (e ∷ h))) (e ∷ h)
    expired_step holds =
        let busy = held_busy z (leads z h) v.name o Weak p (sound z h stands.legal) holds in
        look_event (Expired (weak_of o p) _) tt ((holds, refl, refl), zero_test Owner busy) tt refl refl

    -- a lock that finds 0 is empty
    pub lock_empty_step : Has (held v.name (weak_of o p)) (leads z h).hands → get_or words (spot ((leads z h).object o).block 0) 0 ≡ 0
        → let e = entry v.name (Lock (weak_of o p) false) in Stands z words (set views i (sees v (e ∷ h))) (e ∷ h)
    lock_empty_step holds none =
        let busy = held_busy z (leads z h) v.name o Weak p (sound z h stands.legal) holds in
        look_event (Lock (weak_of o p) false) tt ((holds, refl, refl), ap not (sym (sym (zero_test Owner busy) ∙ eq-eqb _ 0 none))) tt refl refl

    -- a number that fits what the count may be told as
    pub count_as_step : (k : Kind) (n : ℕ) → Has (held v.name (handle k (Some o) p)) (leads z h).hands
        → (n ≡ 0 → get_or words (spot ((leads z h).object o).block 0) 0 ≡ 0)
        → (get_or words (spot ((leads z h).object o).block 0) 0 ≡ 0 → n ≡ 0)
        → n ≤ count (leads z h) o → (HasWhole (leads z h) v.name → n ≡ count (leads z h) o)
        → let e = entry v.name (Count (handle k (Some o) p) n) in Stands z words (set views i (sees v (e ∷ h))) (e ∷ h)
    count_as_step k n holds to from low whole =
        let s = leads z h in
        let busy = held_busy z s v.name o k p (sound z h stands.legal) holds in
        let w = get_or words (spot (s.object o).block 0) 0 in
        let same : (n == 0) ≡ (w == 0) = ⊎_elim (λ (e : n ≡ 0). eq-eqb n 0 e ∙ sym (eq-eqb w 0 (to e))) (λ (ne : n ≢ 0). ne_eqb n 0 ne
        ∙ sym (ne_eqb w 0 (λ t. ne (from t)))) (cases_eq n 0) in
        look_event (Count (handle k (Some o) p) n) tt ((holds, refl, refl), same ∙ zero_test Owner busy, low, whole) tt refl refl

  -- a load that makes no event: the desk has seen what happened so far
  pub look_step : (z : Opening) (words : List ℕ) (views : List (View V)) (h : List (Entry V)) (i : ℕ) (v : View V)
      → Stands z words views h → get_elem? views i ≡ some v → v.spent ≡ false → v.pending ≡ Idle → Stands z words (set views i (sees v h)) h
  look_step z words views h i v stands at awake idle =
      let s = leads z h in
      let w = sees v h in
      let quiet = calm z words views h stands i v at awake idle h in
      let u : owed views ≡ owed (set views i w) = fun_ext (λ m. (quiet m).0) in
      let g : ◌≡◌ {A = ℕ → ℕ} (more z s views stands.taken) (more z s (set views i w) stands.taken) =
      fun_ext (λ m. let q = quiet m in let x = q.0 in
      let y = q.1 in let c = q.2 in omega arith) in
      still_step z words words views h i v Idle stands.taken stands at awake tt (λ c. omega arith)
      (subst (λ (y : ℕ → ℕ). Shows z words y (more z s (set views i w) stands.taken) s) u (subst (λ (y : ℕ
      → ℕ). Shows z words (owed views) y s) g stands.shows))
      stands.most stands.blank stands.bare tt (λ d q n f. f)

-- writing back what was read changes nothing
pub load_is_write : (words : List ℕ) (k : ℕ) → set words k (get_or words k 0) ≡ words
load_is_write words k = set-get_or words k 0

module _ {V : Type 0} where
  module _ (z : Opening) (words : List ℕ) (views : List (View V)) (h : List (Entry V)) (stands : Stands z words views h) where
    -- exactly the owners where no load of the object is under way
    count_exact : (o low high : ℕ) → IsBusy (leads z h) o
        → let i = counts_at (blocks_of (leads z h)) Owner o in
        get_or words i 0 ≡ low + one_fund * high → low < one_fund → owed views i ≡ 0
        → cond (low == 0) (cond (high == 0) 0 1) low ≡ count (leads z h) o
    count_exact o low high busy is small none =
        let s = leads z h in
        let i = counts_at (blocks_of s) Owner o in
        let t = halves z words views h stands Owner o busy low high is small in let t0 = t.0 in
        let f : paid views i + bank z s stands.taken i ≡ high = sym t.1 in
        ⊎_elim
        (λ (a : low ≡ 0).
        let none' : number s Owner o ≡ 0 = omega arith in
        let no : high ≡ 0 = ⊎_elim (λ (q : high ≡ 0). q) (λ (q : high ≢ 0).
        let m = funds_mean z words views h stands Owner o busy (omega arith) in
        let u = number_tally s Owner o in absurd (omega arith)) (cases_eq high 0) in
        let c0 : cond (low == 0) (cond (high == 0) 0 1) low ≡ cond (high == 0) 0 1 =
        cond-true (low == 0) (cond (high == 0) 0 1) low (eq-eqb low 0 a) in
        let c1 : ◌≡◌ {A = ℕ} (cond (high == 0) 0 1) 0 = cond-true (high == 0) 0 1 (eq-eqb high 0 no) in omega arith)
        (λ (a : low ≢ 0). let c = cond-false (low == 0) (cond (high == 0) 0 1) low (ne_eqb low 0 a) in omega arith)
        (cases_eq low 0)

    -- Count: the low half, or 1 where that is 0 and funds are there
    pub count_step : (i : ℕ) (v : View V) → get_elem? views i ≡ some v → v.spent ≡ false → v.pending ≡ Idle
        → (k : Kind) (o : ℕ) (p : Option Place) (low high : ℕ)
        → Has (held v.name (handle k (Some o) p)) (leads z h).hands
        → get_or words (spot ((leads z h).object o).block 0) 0 ≡ low + one_fund * high → low < one_fund
        → let n = cond (low == 0) (cond (high == 0) 0 1) low in
        let e = entry v.name (Count (handle k (Some o) p) n) in Stands z words (set views i (sees v (e ∷ h))) (e ∷ h)
    count_step i v at awake idle k o p low high holds is small =
        let s = leads z h in
        let busy = held_busy z s v.name o k p (sound z h stands.legal) holds in
        let t = halves z words views h stands Owner o busy low high is small in
        let t0 = t.0 in
        let n = cond (low == 0) (cond (high == 0) 0 1) low in
        let c : (low ≡ 0 → high ≡ 0 → n ≡ 0) × (low ≡ 0 → high ≢ 0 → n ≡ 1) × (low ≢ 0 → n ≡ low) = (
          (λ a b. cond-true (low == 0) _ low (eq-eqb low 0 a) ∙ cond-true (high == 0) 0 1 (eq-eqb high 0 b)),
          (λ a b. cond-true (low == 0) _ low (eq-eqb low 0 a) ∙ cond-false (high == 0) 0 1 (ne_eqb high 0 b)),
          (λ a. cond-false (low == 0) _ low (ne_eqb low 0 a)),
        ) in
        let w = get_or words (spot (s.object o).block 0) 0 in
        let shares = (allowed z h stands.legal).shares in
        let whole : HasWhole s v.name → n ≡ count s o = λ all.
        count_exact o low high busy is small
        (sole_owes z words views h stands i v at awake idle (omega arith) (spot (s.object o).block 0)) in
        ⊎_elim
        (λ (a : low ≡ 0). ⊎_elim
        (λ (b : high ≡ 0). let m = c.0 a b in
        count_as_step z words views h stands i v at awake idle o p k n holds (λ q. omega arith) (λ q. m) (omega arith) whole)
        (λ (b : high ≢ 0). let m = c.1 a b in
        let x = some_word z words views h stands Owner o busy (omega arith) in count_as_step z words views h stands i v at awake idle o p k n holds
        (λ q. absurd (omega arith)) (λ q. absurd (omega arith)) (omega arith) whole) (cases_eq high 0))
        (λ (a : low ≢ 0). let m = c.2 a in count_as_step z words views h stands i v at awake idle o p k n holds (λ q. absurd (omega arith))
        (λ q. absurd (omega arith)) (omega arith) whole) (cases_eq low 0)

  pub counts_exactly : CountsExactly V Stands
  counts_exactly z words views h stands o busy none =
      let i = counts_at (blocks_of (leads z h)) Owner o in
      let word = get_or words i 0 in
      count_exact z words views h stands o (number_of word) (funds_of word) busy (omega arith) (omega arith) none

module _ {V : Type 0} where
  module _ (z : Opening) (words : List ℕ) (views : List (View V)) (h : List (Entry V)) (stands : Stands z words views h)
      (i : ℕ) (v : View V) (at : get_elem? views i ≡ some v) (awake : v.spent ≡ false) (idle : v.pending ≡ Idle) where
    -- Read: a field of the owned object
    pub read_step : (o : ℕ) (p : Place) → Has (held v.name (owner o (Some p))) (leads z h).hands
        → p.block.0 ≡ ((leads z h).object o).block → p.field < 4
        → let e = entry v.name (Read (owner o (Some p)) (get_or words (spot ((leads z h).object o).block (3 + p.field)) 0)) in
        Stands z words (set views i (sees v (e ∷ h))) (e ∷ h)
    read_step o p holds inside low =
        let s = leads z h in
        let busy = held_busy z s v.name o Owner (Some p) (sound z h stands.legal) holds in
        let b = (s.object o).block in
        let r = body_read z words views h stands o (3 + p.field) busy (omega arith) (omega arith) in
        let none = (body_more z words views h stands b (3 + p.field) ((sound z h stands.legal).placed o busy).1 (omega arith) (omega arith)).2 (omega arith) in
        let f = words_field (blocks_of s) (s.object o) p.field low in
        let e : 3 + p.field - 2 ≡ 1 + p.field = omega arith in
        let g = ap (λ j. get_or (object_words (blocks_of s) (s.object o)) j 0) e in
        let is : get_or words (spot b (3 + p.field)) 0 ≡ slice_index (s.object o).fields p.field = omega arith in
        look_event z words views h stands i v at awake idle o (Some p) (Read (owner o (Some p)) (get_or words (spot b (3 + p.field)) 0)) tt (
          (
            holds,
            refl,
            refl,
          ),
          (p, refl, inside, is),
        ) tt refl refl

    -- a look at a cell without an object
    pub load_empty_step : (c : Cell) (k : Kind) (p : Option Place) → IsOpen (leads z h) v.name c → handle k None p ≡ cell_of (leads z h) c
        → let e = entry v.name (Load c (handle k None p)) in Stands z words (set views i (sees v (e ∷ h))) (e ∷ h)
    load_empty_step c k p open' is = look_event z words views h stands i v at awake idle 0 None (Load c (handle k None p)) tt (open', is) tt refl refl

    pub differs_empty_step : (c : Cell) (k : Kind) (p : Option Place) (expected new : NumberedHandle) (weak' : Bool) → IsOpen (leads z h) v.name c
        → handle k None p ≡ cell_of (leads z h) c
        → InHand (leads z h) v.name (kind_of (leads z h) c) expected → InHand (leads z h) v.name (kind_of (leads z h) c) new
        → false ≡ equivalent (handle k None p) expected
        → let e = entry v.name (Compare c expected new (handle k None p) false weak') in Stands z words (set views i (sees v (e ∷ h))) (e ∷ h)
    differs_empty_step c k p expected new weak' open' is he hn differs =
        look_event z words views h stands i v at awake idle 0 None (Compare c expected new (handle k None p) false weak') tt (
          open',
          he,
          hn,
          is,
          inl differs,
        ) tt refl refl

module _ {V : Type 0} where
  pub tells_count : TellsCount V Stands
  tells_count at k o p low high ready holds is small =
      let busy = held_busy at.opening (state at) (me at) o k p (sound at.opening at.history ready.stands.legal) holds in (
        count_step at.opening at.words at.views at.history ready.stands at.seat at.view ready.seated ready.awake
            ready.pending k o p low high holds is small,
        count_exact at.opening at.words at.views at.history ready.stands o low high busy is small,
      )

  pub tells_expired : TellsExpired V Stands
  tells_expired at o p ready holds = expired_step at.opening at.words at.views at.history ready.stands at.seat at.view ready.seated ready.awake
      ready.pending o p holds

  pub reads : Reads V Stands
  reads at o p ready holds inside low =
      subst (λ b. Tells at (Read (owner o (Some p)) (word at (spot b (3 + p.field)))) Idle) (sym inside)
      (read_step at.opening at.words at.views at.history ready.stands at.seat at.view ready.seated ready.awake ready.pending o p holds inside low)

  pub looks_on : LooksOn V Stands
  looks_on at ready = look_step at.opening at.words at.views at.history at.seat at.view ready.stands ready.seated ready.awake ready.pending

  pub loads_empty : LoadsEmpty V Stands
  loads_empty at c k p ready open' is = load_empty_step at.opening at.words at.views at.history ready.stands at.seat at.view ready.seated ready.awake
      ready.pending c k p open' is

  pub differs_empty : DiffersEmpty V Stands
  differs_empty at c k p expected new weak' ready is asks = look_event at.opening at.words at.views at.history ready.stands at.seat at.view ready.seated
      ready.awake ready.pending 0 None (Compare c expected new (handle k None p) false weak') tt asks tt refl refl
