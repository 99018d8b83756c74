-- What stays of a list that stands in any cell, and of the cell.
use Rattle.std.proofs.Common.{◌≡◌, ℕ, suc, ◌≤◌, true, false, cond, List, [], ◌∷◌, ◌++◌, map, All}
use Rattle.std.proofs.Common.{sym, refl, ap, ◌∙◌, subst, arith}
use Rattle.scene_structures.proofs.Prelude
use Prelude.{after, All-head, All-tail, Asks, block_kept, Cell, cell_of, cells_led, Chain}
use Prelude.{ClearMember, Compare, cond_both, Count, ending, Entry, entry, Event, Expired, Finish}
use Prelude.{Free, gone, InState, IsLegal, IsList, Join, leads, Leave, live, Load, Lock, Make}
use Prelude.{Member, moved_to, new_object, NumberedHandle, Object, object_of, Opening, put}
use Prelude.{put_cases, put_other, put_same, PutsOnly, Read, Same, Share, Shelve, sound, Split}
use Prelude.{State, Swap, swaps, Unshelve, Visit, WeakLeave, WeakShare}
use Rattle.scene_structures.proofs.Frames.{Apart, all_kept, cell_after, chain_kept, chain_live}
use Rattle.scene_structures.proofs.Lives.{phase_back}

-- the object of a member lives
abbrev pub Lives : State → Cell → Type 0
Lives s (Free n) = Unit {0}
Lives s (Member o m) = (s.object o).phase ≡ live

-- the cell is the `next` of no object
abbrev pub IsHead : Cell → Type 0
IsHead c = (o : ℕ) → c ≡ Member o 1 → ⊥

-- what a swap puts in
pub cell_put : (s : State) (d : ℕ) (c : Cell) (new old : NumberedHandle) → cell_of (swaps d c new old s) c ≡ new
cell_put s d (Free n) new old = put_same s.cell n new n refl
cell_put s d (Member o k) new old =
    ap (λ (u : Object). u.member k) (put_same s.object o (record (s.object o) { member = put (s.object o).member k new }) o refl)
    ∙ put_same (s.object o).member k new k refl

module _ {V : Type 0} where
  -- what lives after an event lived before it
  pub live_before : (s : State) (d o : ℕ) (x : Event V) (at : Cell → Type 0) → PutsOnly at x → o ≤ s.made → ((after s d x).object o).phase ≡ live
      → (s.object o).phase ≡ live
  live_before s d o (Make b enabled null fields value) at p made =
      put_cases (λ j (u : Object). u.phase ≡ live → (s.object j).phase ≡ live) s.object (suc s.made) (new_object s.owners b.0 enabled null fields) o
      (λ e. absurd (omega arith)) (λ n l. l)
  live_before s d o (Swap (Member q m) new old) at p made =
      put_cases (λ j (u : Object). u.phase ≡ live → (s.object j).phase ≡ live) s.object q
      (record (s.object q) { member = put (s.object q).member m new }) o (λ e l. ap (λ j. (s.object j).phase) e ∙ l) (λ n l. l)
  live_before s d o (Compare (Member q m) ex new h true w) at p made =
      put_cases (λ j (u : Object). u.phase ≡ live → (s.object j).phase ≡ live) s.object q
      (record (s.object q) { member = put (s.object q).member m new }) o (λ e l. ap (λ j. (s.object j).phase) e ∙ l) (λ n l. l)
  live_before s d o (Leave h last) at p made = phase_back {V = V} s d o (Leave h last) tt
  live_before s d o (WeakLeave h v) at p made = λ l. l
  live_before s d o (ClearMember q m h) at p made = phase_back {V = V} s d o (ClearMember q m h) tt
  live_before s d o (Finish q v y) at p made = phase_back {V = V} s d o (Finish q v y) tt
  live_before s d o (Swap (Free c) new old) at p made = λ l. l
  live_before s d o (Compare (Free c) ex new h true w) at p made = λ l. l
  live_before s d o (Compare c ex new h false w) at p made = λ l. l
  live_before s d o (Split to n hs bs) at p made = absurd p
  live_before s d o (Join other) at p made = absurd p
  live_before s d o (Share h q) at p made = λ l. l
  live_before s d o (Count h n) at p made = λ l. l
  live_before s d o (Expired h y) at p made = λ l. l
  live_before s d o (Read h n) at p made = λ l. l
  live_before s d o (Same c h so) at p made = λ l. l
  live_before s d o (WeakShare q y) at p made = λ l. l
  live_before s d o (Lock h got) at p made = λ l. l
  live_before s d o (Load c got) at p made = λ l. l
  live_before s d o (Visit h y w) at p made = λ l. l
  live_before s d o (Shelve c) at p made = λ l. l
  live_before s d o (Unshelve c) at p made = λ l. l

  -- a member that is put nowhere stays, while its object lives
  pub member_after : (s : State) (d o k : ℕ) (x : Event V) (at : Cell → Type 0) → Asks s d x → PutsOnly at x
      → (at (Member o k) → ⊥) → o ≤ s.made
      → (s.object o).phase ≡ live → ((after s d x).object o).member k ≡ (s.object o).member k
  member_after s d o k (Make b enabled null fields value) at asks p not made lives =
      ap (λ (u : Object). u.member k) (put_other s.object (suc s.made) (new_object s.owners b.0 enabled null fields) o (λ e. omega arith))
  member_after s d o k (Leave h last) at asks p not made lives =
      let q = object_of h in let y = s.object q in
      put_cases (λ j (u : Object). u.member k ≡ (s.object j).member k) s.object q (cond last (moved_to (ending d) y) y) o
      (λ e. cond_both last (moved_to (ending d) y) y (λ (u : Object). u.member k ≡ (s.object o).member k)
      (λ t. ap (λ j. (s.object j).member k) (sym e)) (λ t. ap (λ j. (s.object j).member k) (sym e))) (λ n. refl)
  member_after s d o k (ClearMember q m h) at asks p not made lives =
      ap (λ (u : Object). u.member k)
      (put_other s.object q _ o (λ e. let t : live ≡ ending d = sym lives ∙ (ap (λ j. (s.object j).phase) e ∙ asks.0) in absurd (cc t)))
  member_after s d o k (Finish q v y) at asks p not made lives =
      put_cases (λ j (u : Object). u.member k ≡ (s.object j).member k) s.object q (moved_to gone (s.object q)) o
      (λ e. ap (λ j. (s.object j).member k) (sym e)) (λ n. refl)
  member_after s d o k (Swap (Member q m) new old) at asks p not made lives =
      put_cases (λ j (u : Object). u.member k ≡ (s.object j).member k) s.object q
      (record (s.object q) { member = put (s.object q).member m new }) o
      (λ e. put_other (s.object q).member m new k (λ i. not (subst (λ j. at (Member j k)) (sym e) (subst (λ j. at (Member q j)) (sym i) p)))
      ∙ ap (λ j. (s.object j).member k) (sym e)) (λ n. refl)
  member_after s d o k (Compare (Member q m) ex new h true w) at asks p not made lives =
      put_cases (λ j (u : Object). u.member k ≡ (s.object j).member k) s.object q
      (record (s.object q) { member = put (s.object q).member m new }) o
      (λ e. put_other (s.object q).member m new k (λ i. not (subst (λ j. at (Member j k)) (sym e) (subst (λ j. at (Member q j)) (sym i) p)))
      ∙ ap (λ j. (s.object j).member k) (sym e)) (λ n. refl)
  member_after s d o k (Swap (Free c) new old) at asks p not made lives = refl
  member_after s d o k (Compare (Free c) ex new h true w) at asks p not made lives = refl
  member_after s d o k (Compare c ex new h false w) at asks p not made lives = refl
  member_after s d o k (WeakLeave h v) at asks p not made lives = refl
  member_after s d o k (Split to n hs bs) at asks p not made lives = absurd p
  member_after s d o k (Join other) at asks p not made lives = absurd p
  member_after s d o k (Share h q) at asks p not made lives = refl
  member_after s d o k (Count h n) at asks p not made lives = refl
  member_after s d o k (Expired h y) at asks p not made lives = refl
  member_after s d o k (Read h n) at asks p not made lives = refl
  member_after s d o k (Same c h so) at asks p not made lives = refl
  member_after s d o k (WeakShare q y) at asks p not made lives = refl
  member_after s d o k (Lock h got) at asks p not made lives = refl
  member_after s d o k (Load c got) at asks p not made lives = refl
  member_after s d o k (Visit h y w) at asks p not made lives = refl
  member_after s d o k (Shelve c) at asks p not made lives = refl
  member_after s d o k (Unshelve c) at asks p not made lives = refl

  pub cell_stays : (s : State) (d : ℕ) (x : Event V) (at : Cell → Type 0) (c : Cell) → Asks s d x → PutsOnly at x → (at c → ⊥)
      → InState s c → Lives s c
      → cell_of (after s d x) c ≡ cell_of s c
  cell_stays s d x at (Free n) asks p not there lives = cell_after s d x at n p not
  cell_stays s d x at (Member o k) asks p not there lives = member_after s d o k x at asks p not (let t = there.1 in omega arith) lives

  pub in_later : (z : Opening) (later seen : List (Entry V)) (c : Cell) → InState (leads z seen) c → InState (leads z (later ++ seen)) c
  in_later z later seen (Free n) there = let a = cells_led z seen in let b = cells_led z (later ++ seen) in omega arith
  in_later z later seen (Member o m) there =
      let t = there.1 in let k = (block_kept z later seen o (omega arith)).1 in (there.0, omega arith)

  lives_before : (s : State) (d : ℕ) (x : Event V) (at : Cell → Type 0) (c : Cell) → PutsOnly at x → InState s c → Lives (after s d x) c → Lives s c
  lives_before s d x at (Free n) p there lives = tt
  lives_before s d x at (Member o m) p there lives = live_before s d o x at p (let t = there.1 in omega arith) lives

  pub lives_run : (z : Opening) (d : ℕ) (at : Cell → Type 0) (own : List (Event V)) (seen : List (Entry V)) (c : Cell) → All (PutsOnly at) own
      → InState (leads z seen) c → Lives (leads z (map (entry d) own ++ seen)) c → Lives (leads z seen) c
  lives_run z d at [] seen c puts there lives = lives
  lives_run z d at (x ∷ own) seen c puts there lives =
      let h = map (entry d) own ++ seen in
      lives_run z d at own seen c (All-tail (PutsOnly at) x own puts) there
      (lives_before (leads z h) d x at c (All-head (PutsOnly at) x own puts) (in_later z (map (entry d) own) seen c there) lives)

  -- over events that put nothing into the cell it holds what it held
  pub cell_held : (z : Opening) (d : ℕ) (at : Cell → Type 0) (own : List (Event V)) (seen : List (Entry V)) (c : Cell)
      → IsLegal z (map (entry d) own ++ seen) → All (PutsOnly at) own → (at c → ⊥) → InState (leads z seen) c
      → Lives (leads z (map (entry d) own ++ seen)) c → cell_of (leads z (map (entry d) own ++ seen)) c ≡ cell_of (leads z seen) c
  cell_held z d at [] seen c legal puts not there lives = refl
  cell_held z d at (x ∷ own) seen c legal puts not there lives =
      let h = map (entry d) own ++ seen in let s = leads z h in
      let first = All-head (PutsOnly at) x own puts in
      let in_s = in_later z (map (entry d) own) seen c there in
      let lives_s = lives_before s d x at c first in_s lives in
      cell_stays s d x at c legal.1.asks first not in_s lives_s
      ∙ cell_held z d at own seen c legal.0 (All-tail (PutsOnly at) x own puts) not there lives_s

  -- the list in a cell stays over events that put nothing into the cell, nor into the `next` of what it lists
  pub frames_at : (z : Opening) (d : ℕ) (at : Cell → Type 0) (own : List (Event V)) (seen : List (Entry V)) (c : Cell) (os : List ℕ)
      → IsLegal z (map (entry d) own ++ seen) → All (PutsOnly at) own → InState (leads z seen) c → Lives (leads z (map (entry d) own ++ seen)) c
      → (at c → ⊥) → Apart at os → IsList (leads z seen) c os → IsList (leads z (map (entry d) own ++ seen)) c os
  frames_at z d at [] seen c os legal puts there lives not apart list = list
  frames_at z d at (x ∷ own) seen c os legal puts there lives not apart list =
      let h = map (entry d) own ++ seen in let s = leads z h in
      let first = All-head (PutsOnly at) x own puts in
      let in_s = in_later z (map (entry d) own) seen c there in
      let lives_s = lives_before s d x at c first in_s lives in
      let was = frames_at z d at own seen c os legal.0 (All-tail (PutsOnly at) x own puts) there lives_s not apart list in
      let all = chain_live z s c os (sound z h legal.0) in_s was in
      subst (λ (y : NumberedHandle). Chain (after s d x) y os) (sym (cell_stays s d x at c legal.1.asks first not in_s lives_s))
      (chain_kept s (after s d x) (cell_of s c) os (all_kept s d x at os legal.1.asks first apart all) was)
