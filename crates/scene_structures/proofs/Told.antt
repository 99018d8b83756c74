-- What a walk tells on a sole desk.
use Rattle.std.proofs.Common.{◌≡◌, ℕ, ◌<◌, Bool, true, false, not, List, [], ◌∷◌, ◌++◌, map, ◌==◌}
use Rattle.std.proofs.Common.{slice_index, Some, None, All, filter, Option, sym, refl, ap, ◌∙◌}
use Rattle.std.proofs.Common.{subst, ⊎_elim, arith}
use Rattle.scene_structures.proofs.Prelude
use Prelude.{All-cons, All-head, All-nil, All-tail, bag, bag_of, block_kept, cell_of, cells_led}
use Prelude.{Chain, cond-false, cond-true, cond_both, DeskNow, Entry, entry, Event, Free, handle}
use Prelude.{HasLooked, in_no_cell, is_look, IsAsked, IsLegal, IsList, IsSole, KeepsEndings, Kind}
use Prelude.{leads, Load, Lock, Member, NumberedHandle, Opening, opening_of, owner, Place}
use Prelude.{place_at, Read, same_Some, SeenNode, sound, State, state_of, told_of, told_onto}
use Prelude.{Walks, WalksOver}
use Rattle.control_word.specs.State.{count}
use Rattle.scene_structures.specs.Walks.{IsToldList, told_at, told_by}
use Rattle.scene_structures.proofs.Frames.{AllLive, chain_live, frames}
use Rattle.scene_structures.proofs.Grows.{apart_nowhere}
use Rattle.scene_structures.proofs.Sole.{legal_is, state_is}
use Rattle.scene_structures.proofs.Still.{IsTrueIn, all_puts, all_true, looking_keep, none_lost}
use Rattle.scene_structures.proofs.Still.{none_used}
use Rattle.scene_structures.proofs.Walks.{looked_both, looked_call, looked_then}

turned : (b : Bool) → false ≡ not b → b ≡ true
turned true e = refl
turned false e = absurd (let k : false ≡ true = e in cc)

turned_back : (b : Bool) → true ≡ not b → b ≡ false
turned_back true e = absurd (let k : true ≡ false = e in cc)
turned_back false e = refl

field_first : (b : ℕ) (p : Place) → place_at b ≡ Some p → p.field ≡ 0
field_first b p e = ap (λ (q : Place). q.field) (sym (same_Some _ _ e))

module _ {V : Type 0} where
  module _ (z : Opening) (d : ℕ) (seen : List (Entry V)) where
    abbrev True : Event V → Type 0
    True = IsTrueIn z d seen

    true_looks : (own : List (Event V)) → All True own → All True (filter is_look own)
    true_looks [] all = All-nil True
    true_looks (x ∷ own) all =
        let rest = true_looks own (All-tail True x own all) in
        cond_both (is_look x) (x ∷ filter is_look own) (filter is_look own) (λ l. All True l)
        (λ e. All-cons True x (filter is_look own) (All-head True x own all) rest) (λ e. rest)

    both_true : (xs ys : List (Event V)) → All True (xs ++ ys) → All True xs × All True ys
    both_true [] ys all = (All-nil True, all)
    both_true (x ∷ xs) ys all =
        let r = both_true xs ys (All-tail True x (xs ++ ys) all) in (All-cons True x xs (All-head True x (xs ++ ys) all) r.0, r.1)

    -- what was asked of an `up` is what its subject tells
    asked_told : (k : Kind) (n : Option ℕ) (p : Option Place) (told : Option ℕ) (asked : List (Event V)) → IsAsked (handle k n p) told asked
        → All True asked → (before : List ℕ) → told_at (leads z seen) n before ≡ told_onto told before
    asked_told k None p None asked is all before = refl
    asked_told k None p (Some x) asked is all before =
        let l = subst (All True) is.1 all in
        let lock = All-head True (Lock (handle k None p) true) [] (All-tail True _ (Lock (handle k None p) true ∷ []) l) in
        absurd (let e : None ≡ Some 0 = lock.0 in cc)
    asked_told k (Some o) p None asked is all before =
        let lock = All-head True (Lock (handle k (Some o) p) false) [] (subst (All True) is all) in
        let zero : (count (leads z seen) o == 0) ≡ true = turned (count (leads z seen) o == 0) lock.1 in
        cond-true (count (leads z seen) o == 0) before (slice_index ((leads z seen).object o).fields 0 ∷ before) zero
    asked_told k (Some o) p (Some x) asked is all before =
        let read = Read (owner o (place_at is.0)) x in let h = Lock (handle k (Some o) p) true in
        let l = subst (All True) is.1 all in
        let lock = All-head True h [] (All-tail True read (h ∷ []) l) in
        let field = All-head True read (h ∷ []) l in
        let some' : (count (leads z seen) o == 0) ≡ false = turned_back (count (leads z seen) o == 0) lock.1 in
        let first : field.0.field ≡ 0 = field_first is.0 field.0 field.1 in
        cond-false (count (leads z seen) o == 0) before (slice_index ((leads z seen).object o).fields 0 ∷ before) some'
        ∙ ap (λ y. y ∷ before) (sym (field.2 ∙ ap (slice_index ((leads z seen).object o).fields) first))

    -- the nodes that were visited are the first of the list
    walk_told : (h : NumberedHandle) (stops : List SeenNode) (end : NumberedHandle) (looks : List (Event V)) → Walks h stops end looks → All True looks
        → (os : List ℕ)
        → Chain (leads z seen) h os → AllLive (leads z seen) os
        → (rest : List ℕ) × Chain (leads z seen) end rest × AllLive (leads z seen) rest
        × (told_by (leads z seen) [] os ≡ told_by (leads z seen) (told_of stops) rest)
    walk_told h [] end looks walks all os chain lives = (os, subst (λ k. Chain (leads z seen) k os) (sym walks.0) chain, lives, refl)
    walk_told h (t ∷ stops) end looks (at, before, here, walks, node, is, goes_on, are) all os chain lives =
        let parts = both_true here before (subst (All True) are all) in
        let r = walk_told h stops at before walks parts.1 os chain lives in
        next r.0 r.1 r.2 r.3 (subst (All True) is.are parts.0)
      where
        next : (rest : List ℕ) → Chain (leads z seen) at rest → AllLive (leads z seen) rest
            → told_by (leads z seen) [] os ≡ told_by (leads z seen) (told_of stops) rest
            → All True (Load (Member t.object 1) t.next ∷ (is.asked ++ Load (Member t.object 2) t.up ∷ []))
            → (rest : List ℕ) × Chain (leads z seen) end rest × AllLive (leads z seen) rest
            × (told_by (leads z seen) [] os ≡ told_by (leads z seen) (told_of (t ∷ stops)) rest)
        next [] none' lives' same true' = absurd (let e : None ≡ Some t.object = sym none' ∙ node in cc)
        next (o ∷ rest) chain' lives' same true' =
            let s = leads z seen in let up = Load (Member t.object 2) t.up in let load = Load (Member t.object 1) t.next in
            let number : Some o ≡ Some t.object = sym (ap (λ (k : NumberedHandle). k.object) chain'.0.1) ∙ node in
            let same_o : o ≡ t.object = same_Some _ _ number in
            let loaded = All-head True load (is.asked ++ up ∷ []) true' in
            let parts = both_true is.asked (up ∷ []) (All-tail True load (is.asked ++ up ∷ []) true') in
            let held' : t.up ≡ (s.object o).member 2 = All-head True up [] parts.1 ∙ ap (λ j. (s.object j).member 2) (sym same_o) in
            let on : end ≡ (s.object o).member 1 = goes_on ∙ (loaded ∙ ap (λ j. (s.object j).member 1) (sym same_o)) in
            let told : told_at s ((s.object o).member 2).object (told_of stops) ≡ told_onto t.told (told_of stops) =
            ap (λ (k : NumberedHandle). told_at s k.object (told_of stops)) (sym held')
            ∙ asked_told t.up.kind t.up.object t.up.place t.told is.asked is.asks parts.0 (told_of stops) in (
              rest,
              subst (λ k. Chain s k rest) (sym on) chain'.1,
              lives'.2,
              same ∙ ap (λ l. told_by s l rest) told,
            )

  -- each, on a sole desk
  pub told_list : (d e : DeskNow V) (m : ℕ) (told : List ℕ) → WalksOver d (Free m) told e → IsLegal (opening_of d.shape) d.seen → IsSole d
      → m < (opening_of d.shape).cells → KeepsEndings d e → bag_of e ≡ bag_of d → IsToldList d (Free m) told e
  told_list d e m told over legal sole lt keeps bag os list =
      let z = opening_of d.shape in let n = d.name in let s = state_of d in let w = over.walks in
      let look = Load (Free m) over.first in let looks = w.looks ++ look ∷ [] in
      let at : HasLooked d looks w.at = looked_both d over.loaded w.at (look ∷ []) w.looks (looked_call d over.loaded look over.loads tt) w.looked in
      let end : HasLooked d looks e = looked_then d w.at e looks at w.leaves in
      let keep = looking_keep end.own end.quiet in
      let state = state_is d e end.own end.goes keep legal sole in
      let legal_e = legal_is d e end.own end.goes keep legal sole in
      let never = ⊎_elim (none_lost d e end.own end.goes end.quiet legal sole bag) (none_used d e end.own end.goes end.quiet legal sole bag keeps) in
      let truths = all_true z n d.seen end.own legal legal_e end.quiet never in
      let true' = subst (All (IsTrueIn z n d.seen)) end.are (true_looks z n d.seen end.own truths) in
      let parts = both_true z n d.seen w.looks (look ∷ []) true' in
      let first : over.first ≡ cell_of s (Free m) = All-head (IsTrueIn z n d.seen) look [] parts.1 in
      let lives = chain_live z s (Free m) os (sound z d.seen legal) (let t = cells_led z d.seen in omega arith) list in
      let r = walk_told z n d.seen over.first w.stops w.end w.looks w.walks parts.0 os (subst (λ k. Chain s k os) (sym first) list) lives in
      let kept = frames z n in_no_cell end.own d.seen m os legal_e (all_puts end.own end.quiet) lt (λ k. k) (apart_nowhere os) list in
      (subst (λ (t : State). IsList t (Free m) os) (sym state) kept, w.tells ∙ done at r.0 r.1 r.2 r.3)
    where
      done : HasLooked d (over.walks.looks ++ Load (Free m) over.first ∷ []) over.walks.at → (rest : List ℕ) → Chain (state_of d) over.walks.end rest
          → AllLive (state_of d) rest → told_by (state_of d) [] os ≡ told_by (state_of d) (told_of over.walks.stops) rest
          → told_of over.walks.stops ≡ told_by (state_of d) [] os
      done at [] chain lives same = sym same
      done at (o ∷ rest) chain lives same =
          let w = over.walks in
          let state = state_is d w.at at.own at.goes (looking_keep at.own at.quiet) legal sole in
          let block = (block_kept (opening_of d.shape) (map (entry d.name) at.own) d.seen o lives.1).0 in
          let q = chain.0.0 in
          absurd (w.none o (q, chain.0.1, chain.0.2 ∙ sym (ap (λ (t : State). (t.object o).block) state ∙ block)))
