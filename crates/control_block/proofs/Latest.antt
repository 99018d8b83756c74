-- A block in which a desk has a handle isn't used again.
use Rattle.std.proofs.Common.{◌≡◌, ℕ, suc, true, false, List, ◌∷◌, ◌++◌, Some, Option, sym, refl}
use Rattle.std.proofs.Common.{ap, ◌∙◌, subst, inl}
use Rattle.control_block.proofs.Prelude
use Prelude.{after, Asks, block_kept, ClearMember, Compare, Count, Entry, entry, Event, Expired}
use Prelude.{Finish, Free, handle, Has, held, IsLegal, IsVacant, Join, Kind, Knows, leads, Leave}
use Prelude.{legal_seen, Load, Lock, Make, Member, names_an_object, NoneBy, Opening, opening_of}
use Prelude.{Place, put_other, Read, Same, same_kept, Shape, Share, Shelve, sound, Split, Swap}
use Prelude.{Unshelve, Visit, WeakLeave, WeakShare}
use Rattle.control_word.proofs.history.Endings.{stays_the_latest}
use Rattle.control_word.proofs.history.Kept.{has_same}
use Rattle.control_word.specs.Laws.{IsInHands}
use Rattle.control_block.proofs.Bags.{shown, shown_held}
use Rattle.control_block.specs.Laws.{CallsKeepLatest, JoinsKeepLatest}

module _ {V : Type 0} where
  -- an event of any desk leaves what is latest in a block where some desk has a handle
  latest_after : (z : Opening) (h : List (Entry V)) (n d : ℕ) (x : Event V) (k : Kind) (o b : ℕ) (p : Option Place) → IsLegal z h
      → Asks (leads z h) d x → Has (held n (handle k (Some o) p)) (leads z h).hands → ((leads z h).object o).block ≡ b
      → (after (leads z h) d x).latest b ≡ (leads z h).latest b
  latest_after z h n d (Make c enabled null fields val) k o b p legal asks has there =
      let s = leads z h in
      let named = names_an_object z h legal n k (handle k (Some o) p) (has, refl, refl) in
      put_other s.latest c.0 (suc s.made) b (λ e. named.4 (subst (IsVacant s) (sym (there ∙ e)) ((sound z h legal).stores d c.0 asks.0).0))
  latest_after z h n d (Swap (Free c) new old) k o b p legal asks has there = refl
  latest_after z h n d (Swap (Member q m) new old) k o b p legal asks has there = refl
  latest_after z h n d (Compare (Free c) ex new y true w) k o b p legal asks has there = refl
  latest_after z h n d (Compare (Member q m) ex new y true w) k o b p legal asks has there = refl
  latest_after z h n d (Compare c ex new y false w) k o b p legal asks has there = refl
  latest_after z h n d (Leave y last) k o b p legal asks has there = refl
  latest_after z h n d (ClearMember q m y) k o b p legal asks has there = refl
  latest_after z h n d (Finish q v y) k o b p legal asks has there = refl
  latest_after z h n d (Split to a hs bs) k o b p legal asks has there = refl
  latest_after z h n d (Join other) k o b p legal asks has there = refl
  latest_after z h n d (Share y q) k o b p legal asks has there = refl
  latest_after z h n d (Count y c) k o b p legal asks has there = refl
  latest_after z h n d (Expired y c) k o b p legal asks has there = refl
  latest_after z h n d (Read y c) k o b p legal asks has there = refl
  latest_after z h n d (Same c y so) k o b p legal asks has there = refl
  latest_after z h n d (WeakShare q y) k o b p legal asks has there = refl
  latest_after z h n d (WeakLeave y v) k o b p legal asks has there = refl
  latest_after z h n d (Lock y got) k o b p legal asks has there = refl
  latest_after z h n d (Load c got) k o b p legal asks has there = refl
  latest_after z h n d (Visit y c w) k o b p legal asks has there = refl
  latest_after z h n d (Shelve c) k o b p legal asks has there = refl
  latest_after z h n d (Unshelve c) k o b p legal asks has there = refl

  -- after others' events, and then one of any desk
  latest_kept : (z : Opening) (later seen : List (Entry V)) (n d : ℕ) (x : Event V) (k : Kind) (p : Option Place) (b : ℕ)
      → IsLegal z (entry d x ∷ (later ++ seen)) → NoneBy n later → Has (handle k (Some b) p) (shown (leads z seen) n)
      → (leads z (entry d x ∷ (later ++ seen))).latest b ≡ (leads z seen).latest b
  latest_kept z later seen n d x k p b legal quiet has =
      let h = later ++ seen in
      let before = legal_seen z later seen legal.0 in
      let s = leads z seen in let t = leads z h in let o = s.latest b in
      let mine = shown_held z seen n k p b before has in
      let there = has_same s t n (handle k (Some o) p) (same_kept z later seen n quiet) mine.0 in
      let was = (names_an_object z seen before n k (handle k (Some o) p) (mine.0, refl, refl)).1 in
      let in_hands : IsInHands s n o = inl (k, handle k (Some o) p, (mine.0, refl, refl), refl) in
      let latest = (stays_the_latest z later seen legal.0 n quiet o in_hands).1 in
      latest_after z h n d x k o b p legal.0 legal.1.asks there ((block_kept z later seen o was).0 ∙ mine.1) ∙ (ap t.latest (sym mine.1) ∙ latest)

  pub calls_keep_latest : CallsKeepLatest V
  calls_keep_latest d x e adds k p b has =
      let z = opening_of d.shape in
      ap (λ (k : Shape). (leads (opening_of k) e.seen).latest b) adds.same.1
      ∙ (ap (λ l. (leads z l).latest b) adds.seen
      ∙ latest_kept z adds.between d.seen d.name d.name x k p b (subst (IsLegal z) adds.seen adds.legal) adds.quiet has)

  pub joins_keep_latest : JoinsKeepLatest V
  joins_keep_latest d other e shape joins =
      let z = opening_of d.shape in
      let now : (b : ℕ) → (leads (opening_of e.shape) e.seen).latest b ≡ (leads z (entry d.name (Join other.name) ∷ joins.before)).latest b =
      λ b. ap (λ (k : Shape). (leads (opening_of k) e.seen).latest b) joins.same.1 ∙ ap (λ l. (leads z l).latest b) joins.seen in
      let legal = subst (IsLegal z) joins.seen joins.legal in
      let kept : (n : ℕ) (seen : List (Entry V)) → Knows n joins.before seen → (k : Kind) (p : Option Place) (b : ℕ)
      → Has (handle k (Some b) p) (shown (leads z seen) n)
      → (leads z (entry d.name (Join other.name) ∷ joins.before)).latest b ≡ (leads z seen).latest b =
      λ n seen knows k p b has.
      ap (λ l. (leads z (entry d.name (Join other.name) ∷ l)).latest b) knows.1
      ∙ latest_kept z knows.0 seen n d.name (Join other.name) k p b
      (subst (λ l. IsLegal z (entry d.name (Join other.name) ∷ l)) knows.1 legal) knows.2 has in (
        λ k p b has. now b ∙ kept d.name d.seen joins.mine k p b has,
        λ k p b has.
            let has' = subst (λ (y : Shape). Has (handle k (Some b) p) (shown (leads (opening_of y) other.seen) other.name)) shape has in
            now b ∙ (kept other.name other.seen joins.others k p b has' ∙ ap (λ (y : Shape). (leads (opening_of y) other.seen).latest b) (sym shape)),
      )
