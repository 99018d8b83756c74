-- Owners of two desks are two, so nobody visits an object whose last owner leaves.
use Rattle.std.proofs.Common.{◌≡◌, ℕ, ◌<◌, true, false, ◌≢◌, [], ◌==◌, Some, None, Option, sym}
use Rattle.std.proofs.Common.{refl, ap, ◌∙◌, subst, inl, arith, eqb-true}
use Rattle.control_block.proofs.Prelude
use Prelude.{at_map, get_elem?, handle, Has, has_without, Held, held, held_self, held_true}
use Prelude.{in_cells, IsSlotOf, leads, names_an_object, opening_of, Owner, Place, Ruled}
use Prelude.{same_held, SeatView, Shape, some, some-injective, State, view_of, without}
use Rattle.atomic_table.specs.Table as Table
use Rattle.control_word.proofs.lists.Tallies.{tally_has, tally_here, tally_without}
use Rattle.control_word.specs.State.{count}
use Rattle.control_block.proofs.words.Slots.{Visits}

pub two_owners : (s : State) (d e o : ℕ) (p q : Option Place) → d ≢ e → Has (held d (handle Owner (Some o) p)) s.hands
    → Has (held e (handle Owner (Some o) q)) s.hands → 1 < count s o
unfolding count
two_owners s d e o p q apart mine his =
    let x = held d (handle Owner (Some o) p) in
    let rest = has_without same_held held_true held_self (held e (handle Owner (Some o) q)) x s.hands his (λ y. apart (sym (ap (λ (z : Held). z.desk) y))) in
    let one = tally_has Owner o (held e (handle Owner (Some o) q)) (without same_held x s.hands) (in_cells s) rest (omega (arith, tally_here Owner o q [])) in
    let two = tally_without Owner o x s.hands (in_cells s) mine in let here = tally_here Owner o p [] in omega arith

module _ {V : Type 0} where
  -- where the last owner leaves nobody visits
  pub unvisited : (k : Shape) (s : Table.State (Option V) (SeatView V)) (r : Ruled k s) (id : ℕ) (v : SeatView V) → get_elem? s.views id ≡ some v
      → v.view.spent ≡ false → v.hand ≡ None → (o b : ℕ) (p : Option Place) → let t = leads (opening_of k) r.history in
      Has (held v.view.name (handle Owner (Some o) p)) t.hands → t.latest b ≡ o → true ≡ (count t o == 1)
      → (j : ℕ) (u : SeatView V) → get_elem? s.views j ≡ some u → u.view.spent ≡ false → IsSlotOf u.hand b
      → Visits t u.view.name b u.view.pending → ⊥
  unvisited k s r id v at awake free o b p mine last one j u there un out m =
      let z = opening_of k in let t = leads z r.history in
      let name = names_an_object z r.history r.stands.stands.legal u.view.name Owner (handle Owner (Some m.object) m.place) (m.has, refl, refl) in
      let same : m.object ≡ o = sym name.2 ∙ (ap t.latest m.there ∙ last) in
      let his = subst (λ q. Has (held u.view.name (handle Owner (Some q) m.place)) t.hands) same m.has in
      let other : j ≢ id = λ q. subst (λ c. IsSlotOf c b) free (subst (λ (y : SeatView V). IsSlotOf y.hand b) (some-injective u v (sym there
      ∙ (ap (get_elem? s.views) q ∙ at))) out) in
      let apart : v.view.name ≢ u.view.name = λ q. other (r.stands.stands.team.names j id u.view v.view (at_map view_of s.views j u there)
      (at_map view_of s.views id v at) un awake u.view.name (inl refl) (inl q)) in
      let two = two_owners t v.view.name u.view.name o p m.place apart mine his in let e = eqb-true (count t o) 1 (sym one) in omega arith
