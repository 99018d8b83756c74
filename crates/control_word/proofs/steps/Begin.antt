-- A make begins: the weak word of an own vacant block is written, or found to be 1 already.
use Rattle.std.proofs.Common.{◌≡◌, ℕ, ◌+◌, true, cond, ◌≢◌, ◌⊎◌, false}
use Rattle.std.proofs.Common.{List, get_or, set, ◌==◌, sym, refl, ap}
use Rattle.std.proofs.Common.{◌∙◌, subst, inl, inr, ⊎_elim, arith, length-set, get_or-set_other}
use Rattle.std.proofs.Common.{ne_eqb}
use Rattle.std.proofs.lemmas.List.{set-get_or}
use Rattle.control_word.proofs.Prelude
use Prelude.{added, adds, Block, cases_eq, cell_spot, cond-false, Entry, get_elem?, Has, Idle, leads, Making}
use Prelude.{more, Opening, owed, owes, paid, pays, some, spot, Stands, stored, View, weak_number}
use Rattle.control_word.proofs.history.Legal.{sound}
use Rattle.control_word.proofs.steps.Write.{fits_mine, known_at, made_more, others_none, vacant_free}
use Rattle.control_word.proofs.views.Teams.{still_step}
use Rattle.control_word.proofs.words.Frames.{shelf_kept, spot_apart, spot_fits}
use Rattle.control_word.proofs.words.Payments.{read_set, shows_all}
use Rattle.control_word.specs.Steps.{FindsWeakWord, WritesWeakWord, known_of}

module _ {V : Type 0} where
  module _ (z : Opening) (words : List ℕ) (views : List (View V)) (h : List (Entry V)) (stands : Stands z words views h)
      (i : ℕ) (v : View V) (at : get_elem? views i ≡ some v) (awake : v.spent ≡ false) where
    -- the weak word of an own vacant block is 1 where the block was kept, and else 0
    own_weak_word : (b : ℕ) → v.pending ≡ Idle → Has (stored v.name b) (leads z h).stores
        → ((get_or words (spot b 1) 0 ≡ 1) × (z.keeps_blocks ≡ true)) ⊎ (get_or words (spot b 1) 0 ≡ 0)
    own_weak_word b idle mine =
        let s = leads z h in
        let fine = sound z h stands.legal in
        let k = spot b 1 in
        let vacant = (fine.stores v.name b mine).0 in
        let back = (made_more z words views h stands i v at awake Idle h k (λ x. ap (λ q. owes q x) idle) (λ x. ap (λ q. pays q x) idle)
        (λ x. refl) (λ x. refl)).2 in
        let none = others_none z words views h stands i v at awake b (record v { pending = Idle; seen = h }) mine refl in
        let free = vacant_free z words views h stands i v at awake b 1 mine (omega arith) in
        let f0 = free.0 in let f1 = free.1 in
        let e : weak_number s (s.latest b) ≡ 0 = ⊎_elim (λ (x : s.latest b ≡ 0). ap (weak_number s) x
        ∙ fine.unmade_free 0 fine.none) (λ x. vacant (s.latest b) (fine.latest_in b x)) (cases_eq (s.latest b) 0) in
        let i0 = ap (λ q. adds q k) idle in
        ⊎_elim (λ l. inl (l.3 refl)) (λ t. inr (omega arith)) (stands.shows.blocks b 1 (fine.stores v.name b mine).1 (omega arith))

    -- a make that begins adds 1 to the weak word, and to no other
    begun : (b : Block) → v.pending ≡ Idle → (m : ℕ) → let w : View V = record v { pending = Making b (known_of words b.0); seen = h } in
        (owed (set views i w) m ≡ owed views m) × (paid (set views i w) m ≡ paid views m)
        × (added (set views i w) m ≡ added views m + cond (m == spot b.0 1) 1 0)
    begun b idle m =
        let t = made_more z words views h stands i v at awake (Making b (known_of words b.0)) h m
        (λ x. ap (λ q. owes q x) idle) (λ x. ap (λ q. pays q x) idle) (λ x. refl) (λ x. refl) in
        let a = ap (λ q. adds q m) idle in let t2 = t.2 in (t.0, t.1, omega arith)

    -- the weak word of an own vacant block becomes 1, and its flags and fields are known
    prepare_step : (b : Block) → v.pending ≡ Idle → Has (stored v.name b.0) (leads z h).stores → get_or words (spot b.0 1) 0 ≡ 0
        → Stands z (set words (spot b.0 1) 1) (set views i (record v { pending = Making b (known_of words b.0); seen = h })) h
    prepare_step b idle mine was =
        let s = leads z h in
        let fine = sound z h stands.legal in
        let hb = (fine.stores v.name b.0 mine).1 in
        let p = Making b (known_of words b.0) in
        let w : View V = record v { pending = p; seen = h } in
        let k = spot b.0 1 in
        let moved = begun b idle in
        let read = λ (m : ℕ). read_set words k 1 m (let l = spot_fits z b.0 1 hb (omega arith) in
        let t = stands.shows.sized in omega arith) 0 1 (omega arith) in
        still_step z words (set words k 1) views h i v p stands.taken stands at awake tt
        (λ c. let q : ◌≡◌ {A = ℕ} (cond (spot c 2 == spot b.0 1) 1 0) 0 = cond-false _ 1 0 (ne_eqb (spot c 2) (spot b.0 1) (λ e. omega arith)) in
        omega arith)
        (shows_all z words (set words k 1) (owed views) (more z s views stands.taken) (owed (set views i w)) (more z s (set views i w) stands.taken) s s
        (length-set words k 1) stands.shows (λ c y. y)
        (λ c hc vacant one. get_or-set_other words k (spot c 1) 1 0 (λ e. let same = ap (λ m. get_or words m 0) e in omega arith) ∙ one)
        (λ c j hc hj. let m = spot c j in let r = read m in let x = moved m in let x0 = x.0 in let x1 = x.1 in let x2 = x.2 in omega arith)
        (λ c hc. let m = cell_spot z c in let r = read m in let x = moved m in let x0 = x.0 in let x1 = x.1 in let x2 = x.2 in omega arith)
        (shelf_kept z words s k 1 (let l = spot_fits z b.0 1 hb (omega arith) in omega arith) stands.shows.shelf))
        stands.most stands.blank stands.bare
        (mine, λ j lt. get_or-set_other words k (spot b.0 (2 + j)) 1 0 (λ e. omega arith) ∙ known_at words b.0 j lt)
        (λ d q n f. fits_mine z words views h stands i v at awake b.0 1 1 d q mine (omega arith) n f)

    -- the weak word of an own vacant block is found to be 1, and its flags and fields are known
    find_step : (b : Block) → v.pending ≡ Idle → Has (stored v.name b.0) (leads z h).stores → get_or words (spot b.0 1) 0 ≡ 1
        → Stands z words (set views i (record v { pending = Making b (known_of words b.0); seen = h })) h
    find_step b idle mine found =
        let s = leads z h in
        let p = Making b (known_of words b.0) in
        let w : View V = record v { pending = p; seen = h } in
        let moved = begun b idle in
        let kept : z.keeps_blocks ≡ true = ⊎_elim (λ l. l.1) (λ e. absurd (omega arith)) (own_weak_word b.0 idle mine) in
        let hb = ((sound z h stands.legal).stores v.name b.0 mine).1 in
        let vacant = ((sound z h stands.legal).stores v.name b.0 mine).0 in
        still_step z words words views h i v p stands.taken stands at awake tt
        (λ c. let q : ◌≡◌ {A = ℕ} (cond (spot c 2 == spot b.0 1) 1 0) 0 = cond-false _ 1 0 (ne_eqb (spot c 2) (spot b.0 1) (λ e. omega arith)) in
        omega arith)
        (record {
          sized = stands.shows.sized;
          blocks = λ c j hc hj. ⊎_elim
              (λ (e : spot c j ≡ spot b.0 1). let t = spot_apart c j b.0 1 hc.0 hb.0 hj (omega arith) e in
              inl (omega (arith, t.1), omega (arith, t.1), λ q r. vacant q (r ∙ t.0), λ l. (ap (λ m. get_or words m 0) e ∙ found, kept)))
              (λ (n : spot c j ≢ spot b.0 1). ⊎_elim (λ l. inl l) (λ e. inr (let x = moved (spot c j) in let x0 = x.0 in let x1 = x.1 in
              let x2 = x.2 in let q : ◌≡◌ {A = ℕ} (cond (spot c j == spot b.0 1) 1 0) 0 = cond-false _ 1 0 (ne_eqb (spot c j) (spot b.0 1) n) in
              omega arith))
              (stands.shows.blocks c j hc hj))
              (cases_eq (spot c j) (spot b.0 1));
          free = λ c hc. let m = cell_spot z c in let e = stands.shows.free c hc in
              let x = moved m in let x0 = x.0 in let x1 = x.1 in let x2 = x.2 in
              let q : ◌≡◌ {A = ℕ} (cond (m == spot b.0 1) 1 0) 0 = cond-false _ 1 0 (ne_eqb m (spot b.0 1)
              (λ u. let l = spot_fits z b.0 1 hb (omega arith) in omega arith)) in
              omega arith;
          shelf = stands.shows.shelf;
        })
        stands.most stands.blank stands.bare (mine, λ j lt. known_at words b.0 j lt) (λ d q n f. f)

    -- whatever the weak word was
    begin_step : (b : Block) → v.pending ≡ Idle → Has (stored v.name b.0) (leads z h).stores
        → Stands z (set words (spot b.0 1) 1) (set views i (record v { pending = Making b (known_of words b.0); seen = h })) h
    begin_step b idle mine =
        ⊎_elim
        (λ l. subst (λ (ws : List ℕ). Stands z ws (set views i (record v { pending = Making b (known_of words b.0); seen = h })) h)
        (sym (ap (set words (spot b.0 1)) (sym l.0) ∙ set-get_or words (spot b.0 1) 0)) (find_step b idle mine l.0))
        (λ e. prepare_step b idle mine e)
        (own_weak_word b.0 idle mine)

module _ {V : Type 0} where
  pub writes_weak_word : WritesWeakWord V Stands
  writes_weak_word at ready b mine = begin_step at.opening at.words at.views at.history ready.stands at.seat at.view ready.seated ready.awake b
      ready.pending mine

  pub finds_weak_word : FindsWeakWord V Stands
  finds_weak_word at ready b mine found = find_step at.opening at.words at.views at.history ready.stands at.seat at.view ready.seated ready.awake b
      ready.pending mine found
