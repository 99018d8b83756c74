-- A child that was added on a sole desk.
use Rattle.std.proofs.Common.{◌≡◌, ℕ, suc, ◌≤◌, false, List, [], ◌∷◌, Some, sym, refl, ap, ◌∙◌}
use Rattle.std.proofs.Common.{subst, ⊎_elim, arith}
use Rattle.scene_structures.proofs.Prelude
use Prelude.{Adopts, All-cons, All-nil, bag_of, Cell, DeskNow, does_one, goes_by_call, handle_in}
use Prelude.{in_no_cell, InState, IsLegal, IsSole, IsWithin, KeepsDesks, latest_of, Lists, Make}
use Prelude.{Member, node_in, Object, object_of, opening_of, Owner, owner, Place, place_at}
use Prelude.{put_same, PutsOnly, Rises, Shared, sound, State, state_of, was_made, Watches}
use Prelude.{weak_of_owner}
use Rattle.scene_structures.specs.Scenes.{IsAdopted}
use Rattle.scene_structures.proofs.Attached.{apart_up}
use Rattle.scene_structures.proofs.Alone.{block_on, grown, hangs_puts, held_on, hung_up, in_on}
use Rattle.scene_structures.proofs.Alone.{legal_on, list_on, lives_on, rises_puts, sole_on}
use Rattle.scene_structures.proofs.Frames.{chain_live}
use Rattle.scene_structures.proofs.Grows.{apart_nowhere}
use Rattle.scene_structures.proofs.Sole.{fresh_apart, held_live, state_is}
use Rattle.scene_structures.proofs.Looks.{owner_within}

module _ {V : Type 0} where
  pub adopted : (d e : DeskNow V) (parent child : Shared) (fields : List ℕ) (x : V) (a : Adopts d parent fields x child e)
      → IsLegal (opening_of d.shape) d.seen
      → IsSole d → IsWithin parent.block parent.place → Lists parent.block parent.place (bag_of d) → Lists parent.block parent.place (bag_of e)
      → Lists child.block child.place (bag_of e) → node_in e parent ≡ node_in d parent → node_in e child ≡ node_in a.made child
      → IsAdopted d parent e
  adopted d e parent child fields x a legal sole (pq, points, within) lists_d lists_e lists_c parent_e child_e =
      let m = a.made in let n = a.hung in let b = a.block in let make = Make b false false fields x in
      let p = object_of (node_in d parent) in let c = Member p 0 in let o = suc (state_of d).made in let u = Member o 2 in
      let up = weak_of_owner d parent in
      let q : Place = record { block = record { 0 = b.0 }; field = 0 } in
      let does_m = does_one (PutsOnly in_no_cell) d m make a.makes tt in
      let legal_m = legal_on in_no_cell d m does_m legal sole in let sole_m = sole_on in_no_cell d m does_m legal sole in
      let state_m = state_is d m (make ∷ []) (goes_by_call d make m a.makes) (All-cons KeepsDesks make [] tt (All-nil KeepsDesks)) legal sole in
      let latest : latest_of m b.0 ≡ o = ap (λ (s : State). s.latest b.0) state_m ∙ put_same (state_of d).latest b.0 o b.0 refl in
      let watches : Watches m o up n = subst (λ k. Watches m k up n) latest a.watches in
      let rises : Rises n c (owner o (Some q)) e = subst (λ k. Rises n c (owner k (place_at b.0)) e) latest a.rises in
      let at_n = λ (k : Cell). k ≡ Member o 2 in
      let does_n = hangs_puts m n o up watches in
      let legal_n = legal_on at_n m n does_n legal_m sole_m in let sole_n = sole_on at_n m n does_n legal_m sole_m in
      let does_e = rises_puts n e c (owner o (Some q)) rises in
      let legal_e = legal_on _ n e does_e legal_n sole_n in
      let parent_d : node_in d parent ≡ owner p (Some pq) = owner_within d parent pq points within
      ∙ ap (λ k. owner k (Some pq)) (sym (ap object_of (owner_within d parent pq points within))) in
      let child_is : node_in e child ≡ owner o (Some q) =
      child_e ∙ ((λ i. handle_in m Owner (a.is.0 i) (a.is.1 i)) ∙ ap (λ k. owner k (Some q)) latest) in
      let lives = held_live e parent p pq legal_e lists_e (parent_e ∙ parent_d) in
      let alive = held_live e child o q legal_e lists_c child_is in
      let lives_d = held_live d parent p pq legal lists_d parent_d in
      let there : InState (state_of d) c =
      (omega arith, was_made (opening_of d.shape) (state_of d) p (sound (opening_of d.shape) d.seen legal) (λ k. let t = lives_d in cc)) in
      let made_m : o ≤ (state_of m).made = (let t = ap (λ (s : State). s.made) state_m in omega arith) in
      let u_m : InState (state_of m) u = (omega arith, omega arith) in
      let u_n = in_on at_n m n does_n legal_m sole_m u u_m in
      let c_m = in_on in_no_cell d m does_m legal sole c there in
      let c_n = in_on at_n m n does_n legal_m sole_m c c_m in
      let c_lives_n = lives_on _ n e does_e legal_n sole_n c c_n lives in
      let c_lives_m = lives_on at_n m n does_n legal_m sole_m c c_m c_lives_n in
      let u_lives_n = lives_on _ n e does_e legal_n sole_n u u_n alive in
      let made_n : o ≤ (state_of n).made = (let t = u_n.1 in omega arith) in
      let block_m : b.0 ≡ ((state_of m).object o).block =
      sym (ap (λ (s : State). (s.object o).block) state_m ∙ ap (λ (y : Object). y.block) (put_same (state_of d).object o _ o refl)) in
      let block : b.0 ≡ ((state_of n).object o).block = block_m ∙ sym (block_on at_n m n does_n legal_m sole_m o made_m) in (
        λ os list.
            let listed = chain_live (opening_of d.shape) (state_of d) c os (sound (opening_of d.shape) d.seen legal) there list in
            let list_m = list_on in_no_cell d m does_m legal sole c os (λ k. k) (apart_nowhere os) there c_lives_m list in
            let list_n = list_on at_n m n does_n legal_m sole_m c os (λ k. let t : Member p 0 ≡ Member o 2 = k in absurd (cc t))
            (apart_up o os) c_m c_lives_n list_m in
            grown n e c o q os rises legal_n sole_n (λ j k. let t : Member p 0 ≡ Member j 1 = k in absurd (cc t)) c_n lives
            (fresh_apart (state_of d) os listed) made_n block list_n,
        held_on _ n e does_e legal_n sole_n u
            (λ k. ⊎_elim (λ (t : Member o 2 ≡ Member o 1). absurd (cc t)) (λ (t : Member o 2 ≡ Member p 0). absurd (cc t)) k) u_n alive
            ∙ hung_up m n o up watches legal_m sole_m u_m u_lives_n,
      )
