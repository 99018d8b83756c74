-- A member that is put nowhere holds what it held, while its object lives.
use Rattle.std.proofs.Common.{◌≡◌, ℕ, ◌≤◌, List, [], ◌∷◌, ◌++◌, map, All, refl, ◌∙◌}
use Rattle.scene_structures.proofs.Prelude.{All-head, All-tail, block_kept, Cell, Entry, entry}
use Rattle.scene_structures.proofs.Prelude.{Event, IsLegal, leads, live, Member, Opening, PutsOnly}
use Rattle.scene_structures.proofs.Prelude.{ups}
use Rattle.scene_structures.proofs.Frames.{AllLive}
use Rattle.scene_structures.proofs.Heads.{live_before, member_after}

module _ {V : Type 0} where
  -- over own events
  pub member_run : (z : Opening) (d : ℕ) (at : Cell → Type 0) (own : List (Event V)) (seen : List (Entry V)) (o k : ℕ)
      → IsLegal z (map (entry d) own ++ seen) → All (PutsOnly at) own → (at (Member o k) → ⊥) → o ≤ (leads z seen).made
      → ((leads z (map (entry d) own ++ seen)).object o).phase ≡ live
      → (((leads z (map (entry d) own ++ seen)).object o).member k ≡ ((leads z seen).object o).member k) × (((leads z seen).object o).phase ≡ live)
  member_run z d at [] seen o k legal puts not made lives = (refl, lives)
  member_run z d at (x ∷ own) seen o k legal puts not made lives =
      let h = map (entry d) own ++ seen in let s = leads z h in
      let first = All-head (PutsOnly at) x own puts in
      let there = (block_kept z (map (entry d) own) seen o made).1 in
      let before = live_before s d o x at first there lives in
      let rest = member_run z d at own seen o k legal.0 (All-tail (PutsOnly at) x own puts) not made before in
      (member_after s d o k x at legal.1.asks first not there before ∙ rest.0, rest.1)

  -- and what the `up` of listed nodes hold
  pub ups_run : (z : Opening) (d : ℕ) (at : Cell → Type 0) (own : List (Event V)) (seen : List (Entry V)) (os : List ℕ)
      → IsLegal z (map (entry d) own ++ seen) → All (PutsOnly at) own → ((o : ℕ) → o ≤ (leads z seen).made → at (Member o 2) → ⊥)
      → AllLive (leads z seen) os → AllLive (leads z (map (entry d) own ++ seen)) os
      → ups (leads z (map (entry d) own ++ seen)) os ≡ ups (leads z seen) os
  ups_run z d at own seen [] legal puts not was is = refl
  ups_run z d at own seen (o ∷ os) legal puts not was is =
      let one = (member_run z d at own seen o 2 legal puts (not o was.1) was.1 is.0).0 in
      let rest = ups_run z d at own seen os legal puts not was.2 is.2 in
      λ i. one i ∷ rest i
