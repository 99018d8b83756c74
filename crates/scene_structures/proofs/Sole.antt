-- What the own events of a push and of a pop come to on a sole desk.
use Rattle.std.proofs.Common.{◌≡◌, ℕ, suc, ◌<◌, ◌≤◌, true, false, List, [], ◌∷◌, ◌++◌, map, Some}
use Rattle.std.proofs.Common.{None, All, Option, sym, refl, ap, ◌∙◌, subst, arith}
use Rattle.scene_structures.proofs.Prelude
use Prelude.{All-append, All-cons, All-nil, All-weaker, bag_of, Block, Cell, cells_led, Compare}
use Prelude.{DeskNow, Entry, entry, Event, FindsNone, Free, Goes, goes_by_call, goes_in_turn}
use Prelude.{handle, handle_in, in_no_cell, IsEmptyList, IsLegal, IsList, IsPopped, IsSole}
use Prelude.{KeepsDesks, latest_of, leads, Lists, live, Load, Make, Member, NextOf, node_in}
use Prelude.{NumberedHandle, opening_of, Owner, owner, OwnsObject, Place, place_at}
use Prelude.{Pushes, put_same, PutsOnly, Shape, Shared, shown_held, sound, State, state_of, Swap}
use Prelude.{TakesNode}
use Rattle.control_block.proofs.Endings.{owner_lives}
use Rattle.control_block.proofs.Sole.{come_in_a_row}
use Rattle.scene_structures.specs.Stacks.{IsPushed}
use Rattle.scene_structures.proofs.Frames.{AllLive, Apart, chain_live, frames}
use Rattle.scene_structures.proofs.Grows.{apart_nowhere, risen}
use Rattle.scene_structures.proofs.Looks.{looks_does, sees_none}
use Rattle.scene_structures.proofs.Rows.{partings_put, puts_keep}
use Rattle.scene_structures.proofs.Shrinks.{none_found, taken}

-- a new object is none of a list
pub fresh_apart : (s : State) (os : List ℕ) → AllLive s os → Apart (NextOf (suc s.made)) os
fresh_apart s [] all = tt
fresh_apart s (o ∷ os) all =
    (λ e. let t : Member o 1 ≡ Member (suc s.made) 1 = e in let n : o ≡ suc s.made = cc in let le = all.1 in absurd (omega arith), fresh_apart s os all.2)

module _ {V : Type 0} where
  pub keep_all : (at : Cell → Type 0) (xs : List (Event V)) → All (PutsOnly at) xs → All KeepsDesks xs
  keep_all at xs all = All-weaker (PutsOnly at) KeepsDesks (puts_keep at) xs all

  state_now : (d e : DeskNow V) (l : List (Entry V)) → e.shape ≡ d.shape → e.seen ≡ l → state_of e ≡ leads (opening_of d.shape) l
  state_now d e l shape seen = λ i. leads (opening_of (shape i)) (seen i)

  -- a whole call on a sole desk
  module _ (d e : DeskNow V) (own : List (Event V)) (goes : Goes d own e) (keep : All KeepsDesks own) (legal : IsLegal (opening_of d.shape) d.seen)
      (sole : IsSole d) where
    pub seen_is : e.seen ≡ map (entry d.name) own ++ d.seen
    seen_is = (come_in_a_row d own e goes keep legal sole).0

    pub state_is : state_of e ≡ leads (opening_of d.shape) (map (entry d.name) own ++ d.seen)
    state_is = state_now d e (map (entry d.name) own ++ d.seen) goes.same.1 seen_is

    pub legal_is : IsLegal (opening_of d.shape) (map (entry d.name) own ++ d.seen)
    legal_is = subst (IsLegal (opening_of d.shape)) seen_is (goes.legal legal)

    pub sole_is : IsSole e
    sole_is = (come_in_a_row d own e goes keep legal sole).1

  -- push
  pub pushed_list : (d e : DeskNow V) (m : ℕ) (fields : List ℕ) (x : V) → Pushes d (Free m) fields x e
      → IsLegal (opening_of d.shape) d.seen → IsSole d
      → m < (opening_of d.shape).cells → IsPushed d (Free m) e
  pushed_list d e m fields x pushes legal sole lt os list =
      let z = opening_of d.shape in let n = d.name in
      let made = pushes.made in let r = pushes.rises in let b = pushes.block in
      let make = Make b false false fields x in
      let q : Place = record { block = record { 0 = b.0 }; field = 0 } in
      let o = suc (state_of d).made in
      let goes_m = goes_by_call d make made pushes.makes in
      let keep_m = All-cons KeepsDesks make [] tt (All-nil KeepsDesks) in
      let state_m = state_is d made (make ∷ []) goes_m keep_m legal sole in
      let latest : latest_of made b.0 ≡ o = ap (λ (s : State). s.latest b.0) state_m ∙ put_same (state_of d).latest b.0 o b.0 refl in
      let node = owner (latest_of made b.0) (place_at b.0) in
      let row = r.after ++ Compare (Free m) r.below node r.old true r.weak ∷ (r.between ++ Swap (Member (latest_of made b.0) 1) r.below r.was ∷ r.before) in
      let x' = Compare (Free m) r.below (owner o (Some q)) r.old true r.weak in let y' = Swap (Member o 1) r.below r.was in
      let row' = r.after ++ x' ∷ (r.between ++ y' ∷ r.before) in
      let same : row ≡ row' = ap (λ k. r.after ++ Compare (Free m) r.below (owner k (Some q)) r.old true r.weak ∷
      (r.between ++ Swap (Member k 1) r.below r.was ∷ r.before)) latest in
      let goes : Goes d (row' ++ make ∷ []) e = goes_in_turn d (make ∷ []) made row' e goes_m (subst (λ l. Goes made l e) same r.goes) in
      let early : All (PutsOnly (NextOf o)) r.before = subst (λ k. All (PutsOnly (NextOf k)) r.before) latest r.early in
      let at = NextOf o in
      let keep_row : All KeepsDesks row' =
      All-append KeepsDesks r.after (x' ∷ (r.between ++ y' ∷ r.before)) (keep_all at r.after (partings_put at r.after r.late))
      (All-cons KeepsDesks x' (r.between ++ y' ∷ r.before) tt
      (All-append KeepsDesks r.between (y' ∷ r.before) (keep_all at r.between (partings_put at r.between r.leaves))
      (All-cons KeepsDesks y' r.before tt (keep_all at r.before early)))) in
      let keep = All-append KeepsDesks row' (make ∷ []) keep_row keep_m in
      let state_e = state_is d e (row' ++ make ∷ []) goes keep legal sole in
      let legal_e = legal_is d e (row' ++ make ∷ []) goes keep legal sole in
      let split = Rattle.scene_structures.proofs.Grows.in_front n row' (make ∷ []) d.seen in
      let M = entry n make ∷ d.seen in
      let legal_me : IsLegal z (map (entry n) row' ++ M) = subst (IsLegal z) split legal_e in
      let legal_m = legal_is d made (make ∷ []) goes_m keep_m legal sole in
      let s = state_of d in
      let lives = chain_live z s (Free m) os (sound z d.seen legal) (let t = cells_led z d.seen in omega arith) list in
      let list_m = frames z n in_no_cell (make ∷ []) d.seen m os legal_m (All-cons (PutsOnly in_no_cell) make [] tt (All-nil (PutsOnly in_no_cell))) lt
      (λ k. k) (apart_nowhere os) list in
      let block : q.block.0 ≡ ((leads z M).object o).block = sym (ap (λ (y : Rattle.control_word.specs.State.Object). y.block)
      (put_same s.object o _ o refl)) in
      let le : o ≤ (leads z M).made = omega arith in
      let cells = cells_led z M in
      let done = risen z n o (Free m) q r.below r.was r.old r.weak r.before r.between r.after M os legal_me early r.leaves r.late (λ j e. cc e)
      (omega arith) tt (fresh_apart s os lives) le block list_m in
      subst (λ (t : State). IsList t (Free m) (o ∷ os)) (sym state_e) (subst (λ l. IsList (leads z l) (Free m) (o ∷ os)) (sym split) done)

  -- what an owner in hand is on lives
  pub held_live : (e : DeskNow V) (h : Shared) (o : ℕ) (q : Place) → IsLegal (opening_of e.shape) e.seen → Lists h.block h.place (bag_of e)
      → node_in e h ≡ owner o (Some q) → ((state_of e).object o).phase ≡ live
  held_live e h o q legal lists node = go h.block h.place lists node
    where
      go : (b : Option Block) (p : Option Place) → Lists b p (bag_of e) → handle_in e Owner b p ≡ owner o (Some q)
          → ((state_of e).object o).phase ≡ live
      go None p lists same = absurd (let t : None ≡ Some o = ap (λ (k : NumberedHandle). k.object) same in cc)
      go (Some b) p lists same =
          let z = opening_of e.shape in let k = handle Owner (Some (latest_of e b.0)) p in
          let there = shown_held z e.seen e.name Owner p b.0 legal lists in
          let object : Some (latest_of e b.0) ≡ Some o = ap (λ (k : NumberedHandle). k.object) same in
          let number : latest_of e b.0 ≡ o = cc in
          subst (λ j. ((state_of e).object j).phase ≡ live) number
          (owner_lives z (state_of e) e.name k (sound z e.seen legal) (there.0, refl, refl))

  -- pop, of a node that is in hand in the end
  pub popped_list : (d e : DeskNow V) (m : ℕ) (h : Shared) → TakesNode d (Free m) h e → IsLegal (opening_of d.shape) d.seen → IsSole d
      → m < (opening_of d.shape).cells → Lists h.block h.place (bag_of e) → IsPopped d (Free m) h e
  popped_list d e m h node legal sole lt lists os list =
      let z = opening_of d.shape in let n = d.name in let t = node.takes in
      let o = node.object in let q = node.place in
      let x = Compare (Free m) (owner o (Some q)) t.below t.old true t.weak in let y = Load (Member o 1) t.below in
      let own = t.after ++ x ∷ (y ∷ t.before) in
      let keep : All KeepsDesks own =
      All-append KeepsDesks t.after (x ∷ (y ∷ t.before)) (keep_all in_no_cell t.after (partings_put in_no_cell t.after t.late))
      (All-cons KeepsDesks x (y ∷ t.before) tt (All-cons KeepsDesks y t.before tt (keep_all in_no_cell t.before t.early))) in
      let state = state_is d e own t.goes keep legal sole in
      let legal_e = legal_is d e own t.goes keep legal sole in
      let H = map (entry n) own ++ d.seen in
      let legal_now = subst (λ (k : Shape). IsLegal (opening_of k) e.seen) (sym t.goes.same.1) (t.goes.legal legal) in
      let lives = subst (λ (s : State). (s.object o).phase ≡ live) state (held_live e h o q legal_now lists node.node) in
      let done = taken z n o m q t.below t.old t.weak t.before t.after d.seen os legal_e t.early t.late lt lives list in (
        o,
        done.0,
        done.1,
        subst (λ (s : State). IsList s (Free m) done.0) (sym state) done.2,
        subst (λ (s : State). OwnsObject s (node_in e h) o) (sym state) (subst (λ (k : NumberedHandle). OwnsObject (leads z H) k o) (sym node.node) done.3),
        subst (λ (s : State). (s.object o).member 1 ≡ s.cell m) (sym state) done.4,
      )

  -- pop, where none was found
  pub bare_list : (d e : DeskNow V) (m : ℕ) → FindsNone d (Free m) e → IsLegal (opening_of d.shape) d.seen → IsSole d
      → m < (opening_of d.shape).cells → IsEmptyList d (Free m) e
  bare_list d e m none legal sole lt os list =
      let z = opening_of d.shape in let n = d.name in let l = none.looks in
      let does = looks_does d e (Free m) none.found l in
      let own = l.look ∷ l.before in
      let keep_at = All-cons KeepsDesks l.look l.before (puts_keep in_no_cell l.look (sees_none (Free m) (node_in l.at none.found) l.look l.sees))
      (keep_all in_no_cell l.before l.early) in
      let state_at = state_is d l.at own l.looks keep_at legal sole in
      let legal_at = legal_is d l.at own l.looks keep_at legal sole in
      let found = node_in l.at none.found in
      let is = none_found z n m found l.look l.before d.seen os legal_at l.sees l.early lt
      (λ o owns. none.none o (subst (λ (s : State). OwnsObject s found o) (sym state_at) owns)) list in
      let keep = keep_all in_no_cell does.own does.all in
      let state_e = state_is d e does.own does.goes keep legal sole in
      let still = frames z n in_no_cell does.own d.seen m [] (legal_is d e does.own does.goes keep legal sole) does.all lt (λ k. k) tt
      (subst (λ k. IsList (state_of d) (Free m) k) is list) in
      (is, subst (λ (s : State). IsList s (Free m) []) (sym state_e) still)
