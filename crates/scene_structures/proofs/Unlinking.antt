-- What an object that is unlinked on a sole desk holds then, and what a list keeps meanwhile.
use Rattle.std.proofs.Common.{◌≡◌, ℕ, zero, suc, ◌<◌, Bool, true, false, cond, not, ◌⊎◌, List, []}
use Rattle.std.proofs.Common.{◌∷◌, ◌++◌, ◌==◌, Some, None, Option, sym, refl, ap, ◌∙◌, subst, inl}
use Rattle.std.proofs.Common.{inr, arith}
use Rattle.scene_structures.proofs.Prelude
use Prelude.{All-append, All-cons, All-nil, Cell, cell_of, cond-false, cond-true, DeskNow, Does}
use Prelude.{does_both, empty, entry, Fills, Free, Has, in_no_cell, InState, is_owned, IsLegal}
use Prelude.{IsList, IsSole, KeepsBut, leads, Member, NextOf, NumberedHandle, opening_of, Owner}
use Prelude.{owner, owner_of, Place, PutsOnly, same_Some, sound, State, state_of, Swap, Unlinks}
use Prelude.{was_made, Weak}
use Rattle.control_word.specs.State.{count}
use Rattle.scene_structures.specs.Leaves.{IsLiveCell}
use Rattle.scene_structures.proofs.Alone.{all_wider, hangs_puts, held_on, hung_up, list_on}
use Rattle.scene_structures.proofs.Attached.{apart_up}
use Rattle.scene_structures.proofs.Grows.{in_front}
use Rattle.scene_structures.proofs.Heads.{IsHead, Lives, cell_held, cell_put, in_later}
use Rattle.scene_structures.proofs.Rows.{partings_put}
use Rattle.scene_structures.proofs.Sole.{keep_all, legal_is, state_is}
use Rattle.scene_structures.proofs.Sought.{Stood, apart_next, list_stays, lived, stood_on}

-- what owner a lock gives
pub owner_none : (s : State) (h : NumberedHandle) → is_owned s h ≡ false → (owner_of s h).object ≡ None
owner_none s h is = ap (λ (x : NumberedHandle). x.object) (sym (go h.object is))
  where
    at_none : (n : ℕ) (q : Option Place) (b : Bool) → (count s n == 0) ≡ b → not b ≡ false
        → empty Owner ≡ cond (count s n == 0) (empty Owner) (owner n q)
    at_none n q true e t = sym (cond-true (count s n == 0) (empty Owner) (owner n q) e)
    at_none n q false e t = absurd (cc t)

    go : (x : Option ℕ) → elim x [ None ↦ false | Some o ↦ not (count s o == 0) ] ≡ false
        → empty Owner ≡ elim x [ None ↦ empty Owner | Some o ↦ cond (count s o == 0) (empty Owner) (owner o h.place) ]
    go None e = refl
    go (Some o) e = at_none o h.place (count s o == 0) refl e

pub owner_some : (s : State) (h : NumberedHandle) (p : ℕ) → h.object ≡ Some p → is_owned s h ≡ true → (owner_of s h).object ≡ Some p
owner_some s h p is owned = ap (λ (x : NumberedHandle). x.object) (sym (go h.object is owned))
  where
    at_some : (n : ℕ) (q : Option Place) (b : Bool) → (count s n == 0) ≡ b → not b ≡ true
        → owner n q ≡ cond (count s n == 0) (empty Owner) (owner n q)
    at_some n q false e t = sym (cond-false (count s n == 0) (empty Owner) (owner n q) e)
    at_some n q true e t = absurd (cc t)

    go : (x : Option ℕ) → x ≡ Some p → elim x [ None ↦ false | Some o ↦ not (count s o == 0) ] ≡ true
        → owner p h.place ≡ elim x [ None ↦ empty Owner | Some o ↦ cond (count s o == 0) (empty Owner) (owner o h.place) ]
    go None e t = absurd (cc t)
    go (Some o) e t = ap (λ n. owner n h.place) (sym (same_Some _ _ e)) ∙ at_some o h.place (count s o == 0) refl t

pub counts : (s : State) (h : NumberedHandle) (p : ℕ) → h.object ≡ Some p → is_owned s h ≡ true → 0 < count s p
counts s h p is owned = go h.object is owned
  where
    some_left : (n : ℕ) → not (n == 0) ≡ true → 0 < n
    some_left zero t = absurd (let e : false ≡ true = t in cc)
    some_left (suc n) t = omega arith

    go : (x : Option ℕ) → x ≡ Some p → elim x [ None ↦ false | Some o ↦ not (count s o == 0) ] ≡ true → 0 < count s p
    go None e t = absurd (cc t)
    go (Some o) e t = subst (λ n. 0 < count s n) (same_Some _ _ e) (some_left (count s o) t)

pub head_of : (p : ℕ) → IsHead (Member p 0)
head_of p j k = let t : Member p 0 ≡ Member j 1 = k in absurd (cc t)

abbrev pub anywhere : Cell → Type 0
anywhere k = Unit {0}

pub lives_there : (s : State) (k : Cell) → IsLiveCell s k → Lives s k
lives_there s (Free n) there = tt
lives_there s (Member o m) there = there.1

module _ {V : Type 0} where
  pub in_there : (d : DeskNow V) (k : Cell) → IsLegal (opening_of d.shape) d.seen → IsLiveCell (state_of d) k → InState (state_of d) k
  in_there d (Free n) legal there = there
  in_there d (Member o m) legal there = (
    (let t = there.0 in let u = (sound (opening_of d.shape) d.seen legal).few in omega (arith, t, u)),
    was_made (opening_of d.shape) (state_of d) o
        (sound (opening_of d.shape) d.seen legal) (λ e. let t = there.1 in cc),
  )

  pub keeps_but : (at : Cell → Type 0) (d e : DeskNow V) → Does (PutsOnly at) d e → IsLegal (opening_of d.shape) d.seen → IsSole d
      → KeepsBut at d e
  keeps_but at d e does legal sole k not there later =
      held_on at d e does legal sole k not (in_there d k legal there) (lives_there (state_of e) k later)

  pub wider : (at bt : Cell → Type 0) (d e : DeskNow V) → ((k : Cell) → at k → bt k) → Does (PutsOnly at) d e → Does (PutsOnly bt) d e
  wider at bt d e f does = record { own = does.own; goes = does.goes; all = all_wider at bt f does.own does.all }

  pub none_wider : (bt : Cell → Type 0) (d e : DeskNow V) → Does (PutsOnly in_no_cell) d e → Does (PutsOnly bt) d e
  none_wider bt d e does = wider in_no_cell bt d e (λ k p. absurd p) does

  pub fills_puts : (d e : DeskNow V) (o : ℕ) (below : NumberedHandle) → Fills d o below e → Does (PutsOnly (NextOf o)) d e
  fills_puts d e o below f =
      let at = NextOf o in let y = Swap (Member o 1) below f.was in
      record {
        own = f.between ++ y ∷ [];
        goes = f.goes;
        all = All-append (PutsOnly at) f.between (y ∷ []) (partings_put at f.between f.leaves)
            (All-cons (PutsOnly at) y [] refl (All-nil (PutsOnly at)));
      }

  -- what the object's `next` holds when this has gone into it
  pub filled : (d e : DeskNow V) (o : ℕ) (below : NumberedHandle) → Fills d o below e → Stood (Member o 1) d → Lives (state_of e) (Member o 1)
      → cell_of (state_of e) (Member o 1) ≡ below
  unfolding fills_puts
  filled d e o below f st lives =
      let puts = fills_puts d e o below f in let c = Member o 1 in let y = Swap c below f.was in
      let z = opening_of d.shape in let n = d.name in
      let keep = keep_all (NextOf o) puts.own puts.all in
      let state = state_is d e puts.own f.goes keep st.legal st.sole in
      let split = in_front n f.between (y ∷ []) d.seen in
      let A = entry n y ∷ d.seen in
      let legal' = subst (IsLegal z) split (legal_is d e puts.own f.goes keep st.legal st.sole) in
      let lives' = subst (λ l. Lives (leads z l) c) split (subst (λ (t : State). Lives t c) state lives) in
      ap (λ (t : State). cell_of t c) state
      ∙ (ap (λ l. cell_of (leads z l) c) split
      ∙ (cell_held z n in_no_cell f.between A c legal' (partings_put in_no_cell f.between f.leaves) (λ e'. e')
      (in_later z (entry n y ∷ []) d.seen c st.there) lives'
      ∙ cell_put (leads z d.seen) n c below f.was))

  -- what was put where when the object was unlinked
  pub unlinks_does : (d e : DeskNow V) (o : ℕ) → Unlinks d o e → Does (PutsOnly (λ k. (k ≡ Member o 1) ⊎ (k ≡ Member o 2))) d e
  unlinks_does d e o u =
      let at = λ (k : Cell). (k ≡ Member o 1) ⊎ (k ≡ Member o 2) in
      does_both (PutsOnly at) d u.began e (none_wider at d u.began u.begins)
      (does_both (PutsOnly at) u.began u.orphan e
      (wider (λ k. k ≡ Member o 2) at u.began u.orphan (λ k p. inr p) (hangs_puts u.began u.orphan o (empty Weak) u.watches))
      (wider (NextOf o) at u.orphan e (λ k p. inl p) (fills_puts u.orphan e o (empty Owner) u.fills)))

  pub record Unlinked (c : Cell) (os : List ℕ) (o : ℕ) (e : DeskNow V) : Type 0 where
    pub list : IsList (state_of e) c os
    pub next : ((state_of e).object o).member 1 ≡ empty Owner
    pub up : ((state_of e).object o).member 2 ≡ empty Weak

  pub unlinked_list : (p o : ℕ) (os : List ℕ) (d e : DeskNow V) → Unlinks d o e → Stood (Member p 0) d → Stood (Member o 1) d → Stood (Member o 2) d
      → Lives (state_of e) (Member p 0) → Lives (state_of e) (Member o 1) → (Has o os → ⊥) → IsList (state_of d) (Member p 0) os
      → Unlinked (Member p 0) os o e
  unlinked_list p o os d e u st st_n st_u lives lives_o not list =
      let c = Member p 0 in let n = Member o 1 in let w = Member o 2 in
      let b = u.began in let g = u.orphan in
      let at_up = λ (k : Cell). k ≡ Member o 2 in
      let does_b = u.begins in
      let does_g = hangs_puts b g o (empty Weak) u.watches in
      let does_e = fills_puts g e o (empty Owner) u.fills in
      let st_b = stood_on in_no_cell c d b does_b st in
      let st_g = stood_on at_up c b g does_g st_b in
      let up_b = stood_on in_no_cell w d b does_b st_u in
      let up_g = stood_on at_up w b g does_g up_b in
      let next_b = stood_on in_no_cell n d b does_b st_n in
      let next_g = stood_on at_up n b g does_g next_b in
      let lives_g = lived (NextOf o) c g e does_e st_g lives in
      let lives_b = lived at_up c b g does_g st_b lives_g in
      let up_lives : Lives (state_of g) w = lived (NextOf o) w g e does_e up_g lives_o in
      let list_b = list_stays c os d b does_b st lives_b list in
      let list_g = list_on at_up b g does_g st_b.legal st_b.sole c os (λ k. let t : Member p 0 ≡ Member o 2 = k in absurd (cc t))
      (apart_up o os) st_b.there lives_g list_b in
      record {
        list = list_on (NextOf o) g e does_e st_g.legal st_g.sole c os (λ k. head_of p o k) (apart_next o os not) st_g.there lives list_g;
        next = filled g e o (empty Owner) u.fills next_g lives_o;
        up = held_on (NextOf o) g e does_e up_g.legal up_g.sole w (λ k. let t : Member o 2 ≡ Member o 1 = k in absurd (cc t)) up_g.there lives_o
            ∙ hung_up b g o (empty Weak) u.watches up_b.legal up_b.sole up_b.there up_lives;
      }
