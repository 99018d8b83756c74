-- What stays of a chain when a desk's own events put nothing into it.
use Rattle.std.proofs.Common.{◌≡◌, ℕ, suc, ◌<◌, ◌≤◌, true, false, cond, List, [], ◌∷◌, ◌++◌, map}
use Rattle.std.proofs.Common.{Some, All, sym, refl, ap, ◌∙◌, subst, arith}
use Rattle.scene_structures.proofs.Prelude
use Prelude.{after, All-head, All-tail, Asks, Cell, cell_of, cells_led, Chain, ClearMember}
use Prelude.{Compare, cond_both, Count, empty, ending, Entry, entry, Event, Expired, Finish, Free}
use Prelude.{gone, InState, IsLegal, IsList, Join, kind_of_member, leads, Leave, live, Load, Lock}
use Prelude.{Make, Member, moved_to, new_object, NumberedHandle, Object, object_of, one_of}
use Prelude.{Opening, Owner, OwnersFit, Phase, put, put_cases, put_other, PutsOnly, Read, Same}
use Prelude.{Share, Shelve, Sound, sound, Split, State, Swap, unmade, Unshelve, Visit, was_made}
use Prelude.{WeakLeave, WeakShare}
use Rattle.control_word.proofs.history.Cells.{cell_counted}
use Rattle.control_word.specs.State.{count}

-- the object is in the block that it was in, and holds in `next` what it held
pub record Keeps (s t : State) (o : ℕ) : Type 0 where
  pub block : (t.object o).block ≡ (s.object o).block
  pub next : (t.object o).member 1 ≡ (s.object o).member 1

abbrev pub AllKept : State → State → List ℕ → Type 0
AllKept s t [] = Unit {0}
AllKept s t (o ∷ os) = Keeps s t o × AllKept s t os

pub chain_kept : (s t : State) (h : NumberedHandle) (os : List ℕ) → AllKept s t os → Chain s h os → Chain t h os
chain_kept s t h [] all chain = chain
chain_kept s t h (o ∷ os) all chain = (
  (chain.0.0, chain.0.1, chain.0.2 ∙ sym all.0.block),
  subst (λ (x : NumberedHandle). Chain t x os) (sym all.0.next) (chain_kept s t ((s.object o).member 1) os all.1 chain.1),
)

-- none of them is named by the cells
abbrev pub Apart : (Cell → Type 0) → List ℕ → Type 0
Apart at [] = Unit {0}
Apart at (o ∷ os) = (at (Member o 1) → ⊥) × Apart at os

-- they are there, and none of them ends
abbrev pub AllLive : State → List ℕ → Type 0
AllLive s [] = Unit {0}
AllLive s (o ∷ os) = ((s.object o).phase ≡ live) × (o ≤ s.made) × AllLive s os

pub live_if : (p : Phase) (n : ℕ) → OwnersFit p n → 0 < n → p ≡ live
live_if unmade n fit some' = absurd (omega arith)
live_if live n fit some' = refl
live_if gone n fit some' = absurd (omega arith)
live_if (ending d) n fit some' = absurd (omega arith)

owned_live : (z : Opening) (s : State) (c : Cell) (o : ℕ) → Sound z s → InState s c → (cell_of s c).kind ≡ Owner → (cell_of s c).object ≡ Some o
    → (s.object o).phase ≡ live
unfolding count
owned_live z s c o sound there kind object =
    let a = cell_counted s c there Owner o in let b = one_of Owner o (cell_of s c) kind object in
    live_if (s.object o).phase (count s o) (sound.owners o) (omega arith)

-- what a cell's chain lists, is there and lives
pub chain_live : (z : Opening) (s : State) (c : Cell) (os : List ℕ) → Sound z s → InState s c → IsList s c os → AllLive s os
chain_live z s c [] sound there chain = tt
chain_live z s c (o ∷ os) sound there chain =
    let is = chain.0.1 in
    let lives = owned_live z s c o sound there (ap (λ (h : NumberedHandle). h.kind) is) (ap (λ (h : NumberedHandle). h.object) is) in
    let made = was_made z s o sound (λ e. let t = lives in cc) in
    (lives, omega arith, chain_live z s (Member o 1) os sound (omega arith, made) chain.1)

-- what is so of a changed object, and of the others
same_at : (s : State) (q o : ℕ) (x : Object) → (o ≡ q → (x.block ≡ (s.object q).block) × (x.member 1 ≡ (s.object q).member 1))
    → ((put s.object q x o).block ≡ (s.object o).block) × ((put s.object q x o).member 1 ≡ (s.object o).member 1)
same_at s q o x here =
    put_cases (λ j (y : Object). (y.block ≡ (s.object j).block) × (y.member 1 ≡ (s.object j).member 1)) s.object q x o
    (λ e. let t = here e in (t.0 ∙ ap (λ j. (s.object j).block) (sym e), t.1 ∙ ap (λ j. (s.object j).member 1) (sym e))) (λ n. (refl, refl))

abbrev Stays : Object → Object → Type 0
Stays x y = (y.block ≡ x.block) × (y.member 1 ≡ x.member 1)

kept_at : (s t : State) (o : ℕ) → Stays (s.object o) (t.object o) → Keeps s t o
kept_at s t o x = record { block = x.0; next = x.1 }

put_in : (at : Cell → Type 0) (q m o : ℕ) (h : NumberedHandle) (f : ℕ → NumberedHandle) → at (Member q m) → (at (Member o 1) → ⊥)
    → o ≡ q → put f m h 1 ≡ f 1
put_in at q m o h f p not e = put_other f m h 1 (λ k. not (subst (λ j. at (Member j 1)) (sym e) (subst (λ j. at (Member q j)) (sym k) p)))

module _ {V : Type 0} where
  -- an object that lives keeps its place in a chain, where nothing is put into its `next`
  pub keeps_after : (s : State) (d : ℕ) (x : Event V) (at : Cell → Type 0) (o : ℕ) → Asks s d x → PutsOnly at x → (at (Member o 1) → ⊥)
      → (s.object o).phase ≡ live → o ≤ s.made → Keeps s (after s d x) o
  keeps_after s d (Make b enabled null fields value) at o asks p not lives made =
      kept_at s _ o (same_at s (suc s.made) o (new_object s.owners b.0 enabled null fields) (λ e. absurd (omega arith)))
  keeps_after s d (Leave h last) at o asks p not lives made =
      let q = object_of h in let x = s.object q in
      kept_at s _ o (same_at s q o (cond last (moved_to (ending d) x) x)
      (λ e. cond_both last (moved_to (ending d) x) x (Stays x) (λ u. (refl, refl)) (λ u. (refl, refl))))
  keeps_after s d (ClearMember q m h) at o asks p not lives made =
      let x = s.object q in
      kept_at s _ o (same_at s q o (record x { member = put x.member m (empty (kind_of_member s.owners m)) })
      (λ e. absurd (let u = sym lives ∙ (ap (λ j. (s.object j).phase) e ∙ asks.0) in cc)))
  keeps_after s d (Finish q v y) at o asks p not lives made = kept_at s _ o (same_at s q o (moved_to gone (s.object q)) (λ e. (refl, refl)))
  keeps_after s d (Swap (Member q m) new old) at o asks p not lives made =
      let x = s.object q in kept_at s _ o (same_at s q o (record x { member = put x.member m new }) (λ e. (refl, put_in at q m o new x.member p not e)))
  keeps_after s d (Compare (Member q m) ex new h true w) at o asks p not lives made =
      let x = s.object q in kept_at s _ o (same_at s q o (record x { member = put x.member m new }) (λ e. (refl, put_in at q m o new x.member p not e)))
  keeps_after s d (Swap (Free c) new old) at o asks p not lives made = record { block = refl; next = refl }
  keeps_after s d (Compare (Free c) ex new h true w) at o asks p not lives made = record { block = refl; next = refl }
  keeps_after s d (Compare c ex new h false w) at o asks p not lives made = record { block = refl; next = refl }
  keeps_after s d (Split to n hs bs) at o asks p not lives made = absurd p
  keeps_after s d (Join other) at o asks p not lives made = absurd p
  keeps_after s d (Share h q) at o asks p not lives made = record { block = refl; next = refl }
  keeps_after s d (Count h n) at o asks p not lives made = record { block = refl; next = refl }
  keeps_after s d (Expired h y) at o asks p not lives made = record { block = refl; next = refl }
  keeps_after s d (Read h n) at o asks p not lives made = record { block = refl; next = refl }
  keeps_after s d (Same c h so) at o asks p not lives made = record { block = refl; next = refl }
  keeps_after s d (WeakShare q y) at o asks p not lives made = record { block = refl; next = refl }
  keeps_after s d (WeakLeave h v) at o asks p not lives made = record { block = refl; next = refl }
  keeps_after s d (Lock h got) at o asks p not lives made = record { block = refl; next = refl }
  keeps_after s d (Load c got) at o asks p not lives made = record { block = refl; next = refl }
  keeps_after s d (Visit h y w) at o asks p not lives made = record { block = refl; next = refl }
  keeps_after s d (Shelve c) at o asks p not lives made = record { block = refl; next = refl }
  keeps_after s d (Unshelve c) at o asks p not lives made = record { block = refl; next = refl }

  pub cell_after : (s : State) (d : ℕ) (x : Event V) (at : Cell → Type 0) (n : ℕ) → PutsOnly at x → (at (Free n) → ⊥)
      → (after s d x).cell n ≡ s.cell n
  cell_after s d (Swap (Free c) new old) at n p not = put_other s.cell c new n (λ e. not (subst (λ j. at (Free j)) (sym e) p))
  cell_after s d (Compare (Free c) ex new h true w) at n p not = put_other s.cell c new n (λ e. not (subst (λ j. at (Free j)) (sym e) p))
  cell_after s d (Swap (Member q m) new old) at n p not = refl
  cell_after s d (Compare (Member q m) ex new h true w) at n p not = refl
  cell_after s d (Compare c ex new h false w) at n p not = refl
  cell_after s d (Make b enabled null fields value) at n p not = refl
  cell_after s d (Leave h last) at n p not = refl
  cell_after s d (ClearMember q m h) at n p not = refl
  cell_after s d (Finish q v y) at n p not = refl
  cell_after s d (Split to k hs bs) at n p not = absurd p
  cell_after s d (Join other) at n p not = absurd p
  cell_after s d (Share h q) at n p not = refl
  cell_after s d (Count h k) at n p not = refl
  cell_after s d (Expired h y) at n p not = refl
  cell_after s d (Read h k) at n p not = refl
  cell_after s d (Same c h so) at n p not = refl
  cell_after s d (WeakShare q y) at n p not = refl
  cell_after s d (WeakLeave h v) at n p not = refl
  cell_after s d (Lock h got) at n p not = refl
  cell_after s d (Load c got) at n p not = refl
  cell_after s d (Visit h y w) at n p not = refl
  cell_after s d (Shelve c) at n p not = refl
  cell_after s d (Unshelve c) at n p not = refl

  pub all_kept : (s : State) (d : ℕ) (x : Event V) (at : Cell → Type 0) (os : List ℕ) → Asks s d x → PutsOnly at x → Apart at os → AllLive s os
      → AllKept s (after s d x) os
  all_kept s d x at [] asks p apart lives = tt
  all_kept s d x at (o ∷ os) asks p apart lives = (keeps_after s d x at o asks p apart.0 lives.0 lives.1, all_kept s d x at os asks p apart.1 lives.2)

  -- over events that put nothing into the cell it holds what it held
  pub cell_run : (z : Opening) (d : ℕ) (at : Cell → Type 0) (own : List (Event V)) (seen : List (Entry V)) (n : ℕ)
      → All (PutsOnly at) own → (at (Free n) → ⊥) → (leads z (map (entry d) own ++ seen)).cell n ≡ (leads z seen).cell n
  cell_run z d at [] seen n puts not = refl
  cell_run z d at (x ∷ own) seen n puts not =
      let h = map (entry d) own ++ seen in
      cell_after (leads z h) d x at n (All-head (PutsOnly at) x own puts) not
      ∙ cell_run z d at own seen n (All-tail (PutsOnly at) x own puts) not

  -- the list in a free cell stays over events that put nothing into the cell, nor into the `next` of what it lists
  pub frames : (z : Opening) (d : ℕ) (at : Cell → Type 0) (own : List (Event V)) (seen : List (Entry V)) (n : ℕ) (os : List ℕ)
      → IsLegal z (map (entry d) own ++ seen) → All (PutsOnly at) own → n < z.cells → (at (Free n) → ⊥) → Apart at os
      → IsList (leads z seen) (Free n) os → IsList (leads z (map (entry d) own ++ seen)) (Free n) os
  frames z d at [] seen n os legal puts lt not apart list = list
  frames z d at (x ∷ own) seen n os legal puts lt not apart list =
      let h = map (entry d) own ++ seen in let s = leads z h in
      let first = All-head (PutsOnly at) x own puts in
      let was = frames z d at own seen n os legal.0 (All-tail (PutsOnly at) x own puts) lt not apart list in
      let cells = cells_led z h in
      let lives = chain_live z s (Free n) os (sound z h legal.0) (omega arith) was in
      subst (λ (y : NumberedHandle). Chain (after s d x) y os) (sym (cell_after s d x at n first not))
      (chain_kept s (after s d x) (s.cell n) os (all_kept s d x at os legal.1.asks first apart lives) was)
