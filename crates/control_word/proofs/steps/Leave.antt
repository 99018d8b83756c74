-- Leave: one owner less, the last where the whole word was 1.
use Rattle.std.proofs.Common.{◌≡◌, ℕ, ◌+◌, ◌-◌, ◌*◌, ◌≤◌, false, cond, List, ◌∷◌, get_or, set}
use Rattle.std.proofs.Common.{◌==◌, Option, sym, refl, ap, ◌∙◌, ⊎_elim, arith}
use Rattle.control_word.proofs.Prelude.{common, cond_both, counts, ending, Entry, entry, get_elem?}
use Rattle.control_word.proofs.Prelude.{Has, held, leads, Leave, members, moved_to, Opening, Owner}
use Rattle.control_word.proofs.Prelude.{owner, Place, put, same_held, sees, some, spot, Stands}
use Rattle.control_word.proofs.Prelude.{unmade, View, without}
use Rattle.control_word.proofs.history.Allowances.{allowed}
use Rattle.control_word.proofs.history.Legal.{sound}
use Rattle.control_word.proofs.history.Moving.{count_same, counted_live, less_owners, live_busy}
use Rattle.control_word.proofs.history.Moving.{owner_counted, weak_same}
use Rattle.control_word.proofs.lists.Tallies.{put_cases}
use Rattle.control_word.proofs.words.Changes.{settled_step}
use Rattle.control_word.proofs.words.Counting.{bag_fewer}
use Rattle.control_word.proofs.words.Debts.{HasOut, idle_out, last_test}
use Rattle.control_word.specs.State.{count}
use Rattle.control_word.specs.Steps.{Leaves}
use Rattle.control_word.specs.Limits.{one_fund}

module _ {V : Type 0} where
  -- One owner less, and with it the funds that the desk had out on its count. It was the last just where the whole word was that
  pub settled_leave : (z : Opening) (words : List ℕ) (views : List (View V)) (h : List (Entry V)) (stands : Stands z words views h)
      (i : ℕ) (v : View V) (at : get_elem? views i ≡ some v) (awake : v.spent ≡ false) (o u : ℕ) (p : Option Place)
      → let k = spot ((leads z h).object o).block 0 in HasOut v.pending k u → Has (held v.name (owner o p)) (leads z h).hands
      → let a = one_fund * u + 1 in let e = entry v.name (Leave (owner o p) (get_or words k 0 == a)) in
      (a ≤ get_or words k 0) × Stands z (set words k (get_or words k 0 - a)) (set views i (sees v (e ∷ h))) (e ∷ h)
  unfolding count
  settled_leave z words views h stands i v at awake o u p out holds =
      let s = leads z h in
      let d = v.name in
      let fine = sound z h stands.legal in
      let there = owner_counted s d o p holds in
      let alive = counted_live z s o fine there in
      let busy = live_busy s o alive in
      let b = (s.object o).block in
      let a = one_fund * u + 1 in
      let last = get_or words (spot b 0) 0 == a in
      let x = s.object o in
      let y = cond last (moved_to (ending d) x) x in
      let hs = without same_held (held d (owner o p)) s.hands in
      let f = put s.object o y in
      let test = last_test z words views h stands i v at awake Owner o u p out holds there (λ e. e) in
      let enough = test.0 in
      let members' : (q : ℕ) → members (f q) ≡ members (s.object q) =
      λ q. put_cases (λ j t. members t ≡ members (s.object j)) s.object o y q (λ e. cond_both last (moved_to (ending d) x) x
      (λ t. members t ≡ members (s.object q)) (λ t. ap (λ n. members (s.object n)) (sym e))
      (λ t. ap (λ n. members (s.object n)) (sym e))) (λ n. refl) in
      let still : (q : ℕ) → moved_to unmade (f q) ≡ moved_to unmade (s.object q) =
      λ q. put_cases (λ j t. moved_to unmade t ≡ moved_to unmade (s.object j)) s.object o y q
      (λ e. cond_both last (moved_to (ending d) x) x (λ t. moved_to unmade t ≡ moved_to unmade (s.object q)) (λ t. ap
      (λ n. moved_to unmade (s.object n)) (sym e)) (λ t. ap (λ n. moved_to unmade (s.object n)) (sym e))) (λ n. refl) in
      let common' : (q : ℕ) → common (f q).phase ≡ common (s.object q).phase =
      λ q. put_cases (λ j t. common t.phase ≡ common (s.object j).phase) s.object o y q
      (λ e. let l : common (s.object q).phase ≡ 1 = ap (λ n. common (s.object n).phase) e
      ∙ ap common alive in cond_both last (moved_to (ending d) x) x (λ t. common t.phase ≡ common (s.object q).phase) (λ t. sym l) (λ t. ap
      (λ n. common (s.object n).phase) (sym e))) (λ n. refl) in (
        enough,
        settled_step z words views h stands i v at awake (Leave (owner o p) last) hs f Owner o (get_or words (spot b 0) 0 - a) u tt out
            ((holds, refl, refl), test.1) tt busy refl
            (λ q t. count_same s hs f members' q ∙ sym ((less_owners s d o p holds q).1 (⊎_elim (λ n. absurd (n refl)) (λ n. n) t)))
            (λ q t. let a = weak_same s hs f members' q in let c = (less_owners s d o p holds q).2 in let m = common' q in omega arith)
            still
            (let t = (less_owners s d o p holds o).0 refl in let c = count_same s hs f members' o in omega arith)
            (let t = bag_fewer d (owner o p) s.hands holds in let w = (allowed z h stands.legal).rooms v.name in omega arith),
      )

  pub leaves' : Leaves V
  leaves' at o p ready holds = settled_leave at.opening at.words at.views at.history ready.stands at.seat at.view ready.seated ready.awake o 0 p
      (idle_out at.view.pending (counts at Owner o) ready.pending) holds
