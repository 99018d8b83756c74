-- An object that lives still when handles have left holds in `next` what it held.
use Rattle.std.proofs.Common.{◌≡◌, ℕ, cond, List, [], ◌∷◌, ◌++◌, map, All, refl, ap, ◌∙◌, arith}
use Rattle.scene_structures.proofs.Prelude.{after, All-head, All-tail, ClearMember, cond_both}
use Rattle.scene_structures.proofs.Prelude.{empty, ending, Entry, entry, Event, Finish, gone}
use Rattle.scene_structures.proofs.Prelude.{in_no_cell, IsLegal, IsParting, kind_of_member, leads}
use Rattle.scene_structures.proofs.Prelude.{Leave, live, moved_to, Object, object_of, Opening, put}
use Rattle.scene_structures.proofs.Prelude.{put_cases, sound, State, was_made, WeakLeave}
use Rattle.scene_structures.proofs.Frames.{Keeps, keeps_after}
use Rattle.scene_structures.proofs.Rows.{parting_puts}

module _ {V : Type 0} where
  -- what lives after a parting lived before it
  pub phase_back : (s : State) (d o : ℕ) (x : Event V) → IsParting x → ((after s d x).object o).phase ≡ live → (s.object o).phase ≡ live
  phase_back s d o (Leave h last) p =
      let q = object_of h in let y = s.object q in
      put_cases (λ j (u : Object). u.phase ≡ live → (s.object j).phase ≡ live) s.object q (cond last (moved_to (ending d) y) y) o
      (λ e. cond_both last (moved_to (ending d) y) y (λ (u : Object). u.phase ≡ live → (s.object o).phase ≡ live)
      (λ t l. absurd (let k : ending d ≡ live = l in cc)) (λ t l. ap (λ j. (s.object j).phase) e ∙ l)) (λ n l. l)
  phase_back s d o (WeakLeave h v) p = λ l. l
  phase_back s d o (ClearMember q m h) p =
      let y = s.object q in
      put_cases (λ j (u : Object). u.phase ≡ live → (s.object j).phase ≡ live) s.object q
      (record y { member = put y.member m (empty (kind_of_member s.owners m)) }) o
      (λ e l. ap (λ j. (s.object j).phase) e ∙ l) (λ n l. l)
  phase_back s d o (Finish q v x) p =
      put_cases (λ j (u : Object). u.phase ≡ live → (s.object j).phase ≡ live) s.object q (moved_to gone (s.object q)) o
      (λ e l. absurd (let k : gone ≡ live = l in cc)) (λ n l. l)
  phase_back s d o x p = absurd p

  -- over partings an object that lives in the end has kept its `next`, and lived all along
  pub keeps_run : (z : Opening) (d o : ℕ) (xs : List (Event V)) (seen : List (Entry V)) → IsLegal z (map (entry d) xs ++ seen) → All IsParting xs
      → ((leads z (map (entry d) xs ++ seen)).object o).phase ≡ live → Keeps (leads z seen) (leads z (map (entry d) xs ++ seen)) o
  keeps_run z d o [] seen legal all lives = record { block = refl; next = refl }
  keeps_run z d o (x ∷ xs) seen legal all lives =
      let h = map (entry d) xs ++ seen in let s = leads z h in
      let first = All-head IsParting x xs all in
      let before = phase_back s d o x first lives in
      let made = was_made z s o (sound z h legal.0) (λ e. let t = before in cc) in
      let t = keeps_run z d o xs seen legal.0 (All-tail IsParting x xs all) before in
      let k = keeps_after s d x in_no_cell o legal.1.asks (parting_puts in_no_cell x first) (λ n. n) before (omega arith) in
      record { block = k.block ∙ t.block; next = k.next ∙ t.next }
