-- Events that change one number, after which their desk rests.
use Rattle.std.proofs.Common.{◌≡◌, ℕ, suc, ◌+◌, ◌*◌, ◌<◌, ◌≤◌, false, ◌≢◌, ◌⊎◌, List, ◌∷◌, get_or}
use Rattle.std.proofs.Common.{set, Some, Option, sym, refl, ap, ◌∙◌, subst, inl, inr, ⊎_elim, arith}
use Rattle.control_word.proofs.Prelude
use Prelude.{after, Asks, bag_size, Bare, block_words, blocks_of, common, counts, counts_at, Entry}
use Prelude.{entry, Event, get_elem?, Held, held, Idle, Kind, leads, live, more, moved_to, Object}
use Prelude.{Opening, owed, Owner, owner, Place, sees, Shows, slot, some, spot, Stands, State}
use Prelude.{Stored, unmade, value, Values, View, Weak, weak_number}
use Rattle.control_word.proofs.history.Kept.{still}
use Rattle.control_word.proofs.history.Legal.{sound}
use Rattle.control_word.proofs.history.Moving.{live_busy, more_owners, owner_no_weak}
use Rattle.control_word.proofs.history.Others.{IsPlain}
use Rattle.control_word.proofs.history.Soundness.{IsBusy}
use Rattle.control_word.proofs.views.Teams.{plain_step}
use Rattle.control_word.proofs.words.Counting.{bag_one, fits_low, more_counts, number, number_read}
use Rattle.control_word.proofs.words.Debts.{HasOut, idle_out, settles}
use Rattle.control_word.proofs.words.Frames.{shows_number, shows_stores}
use Rattle.control_word.proofs.words.Funds.{bank_still, slot_low}
use Rattle.control_word.proofs.words.Payments.{one_at, one_else, one_here}
use Rattle.control_word.specs.State.{count}
use Rattle.control_word.specs.Words.{bank, IsLoose}
use Rattle.control_word.specs.Limits.{one_fund}

module _ {V : Type 0} where
  stores_shows : (z : Opening) (ws : List ℕ) (us taken : ℕ → ℕ) (vs : List (View V)) (t : State) (r : List Stored)
      → Shows z ws us (more z t vs taken) t
      → Shows z ws us (more z (record t { stores = r }) vs taken) (record t { stores = r })
  unfolding bank
  stores_shows z ws us taken vs t r shows = shows_stores z ws us (more z t vs taken) t r shows

  module _ (z : Opening) (words : List ℕ) (views : List (View V)) (h : List (Entry V)) (stands : Stands z words views h)
      (i : ℕ) (v : View V) (at : get_elem? views i ≡ some v) (awake : v.spent ≡ false) where
    -- an event of a desk that rests afterwards, which changes hands and phases, and the number of one busy object; the funds that
    -- the desk had out on its count go by the same step. The word has the new number, unless the block is left vacant and kept
    pub settled_as : (a : Event V) (hs : List Held) (f : ℕ → Object) (r : List Stored) (k : Kind) (o n u : ℕ) → IsPlain a
        → HasOut v.pending (counts_at (blocks_of (leads z h)) k o) u → Asks (leads z h) v.name a
        → Values (value z h) a
        → IsBusy (leads z h) o
        → let s = leads z h in let s' : State = record s { hands = hs; object = f } in after s v.name a ≡ record s' { stores = r }
        → ((q : ℕ) → (slot k ≢ 0) ⊎ (q ≢ o) → count s' q ≡ count s q)
        → ((q : ℕ) → (slot k ≢ 1) ⊎ (q ≢ o) → weak_number s' q ≡ weak_number s q)
        → ((q : ℕ) → moved_to unmade (f q) ≡ moved_to unmade (s.object q))
        → (n + number s k o + one_fund * u ≡ get_or words (counts_at (blocks_of s) k o) 0 + number s' k o)
        ⊎ IsLoose z s' (s.object o).block (slot k) n
        → bag_size s' v.name ≤ s.allowance v.name
        → Stands z (set words (counts_at (blocks_of s) k o) n) (set views i (sees v (entry v.name a ∷ h))) (entry v.name a ∷ h)
    settled_as a hs f r k o n u plain out asks vals busy same counts weaks still leaves room =
        let s = leads z h in
        let fine = sound z h stands.legal in
        let s' : State = record s { hands = hs; object = f } in
        let w = sees v (entry v.name a ∷ h) in
        let b = (s.object o).block in
        let j = counts_at (blocks_of s) k o in
        let place = fine.placed o busy in
        let quiet = settles z words views h stands i v at awake j u out (entry v.name a ∷ h) in
        let bank' : (m : ℕ) → bank z s' stands.taken m ≡ bank z s stands.taken m = λ m. bank_still z s hs f stands.taken m still in
        let more' : (m : ℕ) → more z s views stands.taken m ≡ more z s' (set views i w) stands.taken m + one_fund * (u * one_at j m) =
        λ m. let q = quiet m in let c = bank' m in let x = q.1 in let y = q.2 in omega arith in
        let read = number_read z words views h stands k o busy in
        let counted = more_counts z words views h stands k o busy in
        let g : get_or (block_words s' b) (slot k) 0 ≡ number s' k o = says k in
        let x = more' j in
        let one : u * one_at j j ≡ u * 1 = ap (λ c. u * c) (one_here j j refl) in
        let y = (quiet j).0 in
        plain_step z words (set words (spot b (slot k)) n) views h i v a Idle stands.taken stands at awake plain tt (λ c. omega arith) asks vals
        (subst (λ t. bag_size t v.name ≤ t.allowance v.name) (sym same) room)
        (subst (λ t. Shows z (set words (spot b (slot k)) n) (owed (set views i w)) (more z t (set views i w) stands.taken) t) (sym same)
        (stores_shows z (set words (spot b (slot k)) n) (owed (set views i w)) stands.taken (set views i w) s' r (shows_number z s hs f o
        (slot k) fine busy counts weaks still words (owed views) (more z s views stands.taken) (owed (set views i w)) (more z s'
        (set views i w) stands.taken) n (slot_low k) stands.shows
        (λ m ne. (quiet m).0)
        (λ m ne. let q = more' m in let none : u * one_at j m ≡ u * 0 = ap (λ c. u * c) (one_else j m ne) in omega arith)
        (⊎_elim (λ e. inr (omega arith)) (λ l. inl l) leaves))))
        stands.most stands.blank
        (subst (λ t. Bare z t stands.taken) (sym same) (record {
          members = λ c m hc lt e. stands.bare.members c m hc lt (ap (λ (x : Object). (x.member m).object) (sym (still (s.latest c))) ∙ e);
          frees = stands.bare.frees;
        })) tt
        (λ d q ne t. fits_low z s words (value z h) b (slot k) n v.name a fine place.1 (slot_low k) plain d q ne t)
      where
        says : (m : Kind) → get_or (block_words (record (leads z h) { hands = hs; object = f }) ((leads z h).object o).block) (slot m) 0 ≡ number
            (record (leads z h) { hands = hs; object = f }) m o
        says Owner = ap (count (record (leads z h) { hands = hs; object = f })) ((sound z h stands.legal).placed o busy).0
        says Weak = ap (weak_number (record (leads z h) { hands = hs; object = f })) ((sound z h stands.legal).placed o busy).0

    -- the same where the word has the new number
    pub settled_stores : (a : Event V) (hs : List Held) (f : ℕ → Object) (r : List Stored) (k : Kind) (o n u : ℕ) → IsPlain a
        → HasOut v.pending (counts_at (blocks_of (leads z h)) k o) u → Asks (leads z h) v.name a
        → Values (value z h) a
        → IsBusy (leads z h) o
        → let s = leads z h in let s' : State = record s { hands = hs; object = f } in after s v.name a ≡ record s' { stores = r }
        → ((q : ℕ) → (slot k ≢ 0) ⊎ (q ≢ o) → count s' q ≡ count s q)
        → ((q : ℕ) → (slot k ≢ 1) ⊎ (q ≢ o) → weak_number s' q ≡ weak_number s q)
        → ((q : ℕ) → moved_to unmade (f q) ≡ moved_to unmade (s.object q))
        → n + number s k o + one_fund * u ≡ get_or words (counts_at (blocks_of s) k o) 0 + number s' k o
        → bag_size s' v.name ≤ s.allowance v.name
        → Stands z (set words (counts_at (blocks_of s) k o) n) (set views i (sees v (entry v.name a ∷ h))) (entry v.name a ∷ h)
    settled_stores a hs f r k o n u plain out asks vals busy same counts weaks still e room = settled_as a hs f r k o n u plain out asks vals busy
        same counts weaks still (inl e) room

    -- the same where no block becomes vacant
    pub settled_step : (a : Event V) (hs : List Held) (f : ℕ → Object) (k : Kind) (o n u : ℕ) → IsPlain a
        → HasOut v.pending (counts_at (blocks_of (leads z h)) k o) u → Asks (leads z h) v.name a → Values (value z h) a
        → IsBusy (leads z h) o
        → let s = leads z h in let s' : State = record s { hands = hs; object = f } in after s v.name a ≡ s'
        → ((q : ℕ) → (slot k ≢ 0) ⊎ (q ≢ o) → count s' q ≡ count s q)
        → ((q : ℕ) → (slot k ≢ 1) ⊎ (q ≢ o) → weak_number s' q ≡ weak_number s q)
        → ((q : ℕ) → moved_to unmade (f q) ≡ moved_to unmade (s.object q))
        → n + number s k o + one_fund * u ≡ get_or words (counts_at (blocks_of s) k o) 0 + number s' k o
        → bag_size s' v.name ≤ s.allowance v.name
        → Stands z (set words (counts_at (blocks_of s) k o) n) (set views i (sees v (entry v.name a ∷ h))) (entry v.name a ∷ h)
    settled_step a hs f k o n u plain out asks vals busy same counts weaks still e room = settled_stores a hs f
        (leads z h).stores k o n u plain out asks vals busy same counts weaks still e room

module _ {V : Type 0} where
  module _ (z : Opening) (words : List ℕ) (views : List (View V)) (h : List (Entry V)) (stands : Stands z words views h)
      (i : ℕ) (v : View V) (at : get_elem? views i ≡ some v) (awake : v.spent ≡ false) (idle : v.pending ≡ Idle) (o : ℕ) (p : Option Place) where
    -- one more owner of a live object
    pub gain_step : (q : Option Place) (a : Event V) → IsPlain a → ((leads z h).object o).phase ≡ live → Asks (leads z h) v.name a
        → Values (value z h) a
        → bag_size (leads z h) v.name < (leads z h).allowance v.name
        → after (leads z h) v.name a ≡ record (leads z h) { hands = held v.name (owner o q) ∷ (leads z h).hands }
        → let k = spot ((leads z h).object o).block 0 in Stands z (set words k (suc (get_or words k 0))) (set views i (sees v (entry v.name a ∷ h)))
        (entry v.name a ∷ h)
    gain_step q a plain alive asks vals more same =
        let s = leads z h in
        let hs = held v.name (owner o q) ∷ s.hands in
        settled_step z words views h stands i v at awake a hs s.object Owner o (suc (get_or words (spot (s.object o).block 0) 0)) 0 plain
        (idle_out v.pending (spot (s.object o).block 0) idle) asks vals (live_busy s o alive) same
        (λ r t. (more_owners s v.name o q r).1 (⊎_elim (λ n. absurd (n refl)) (λ n. n) t)) (λ r t. ap
        (λ m. m + common (s.object r).phase) (owner_no_weak s v.name (Some o) q r)) (λ r. refl)
        (let u = (more_owners s v.name o q o).0 refl in omega arith)
        (let t = bag_one v.name (owner o q) s.hands in omega arith)
