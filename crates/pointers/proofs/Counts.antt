-- How many owners an object has that no other desk shares.
use Rattle.std.proofs.Common.{◌≡◌, ℕ, zero, suc, ◌<◌, ◌≤◌, ◌==◌, Bool, false, List, ◌∷◌, ◌++◌, Option, None, Some}
use Rattle.std.proofs.Common.{refl, sym, ap, subst, ◌∙◌, arith, eq-eqb, eqb-true}
use Rattle.control_word.specs.Events.{Asks}
use Rattle.control_word.specs.Histories.{IsLegal, entry, leads}
use Rattle.control_word.specs.State.{State, count}
use Rattle.control_word.specs.Handles.{handle}
use Rattle.control_word.specs.declared.model.event.Entry.{Entry}
use Rattle.control_word.specs.declared.model.event.Event.{Event}
use Rattle.control_word.specs.declared.model.event.Event.TheVariants.{Count, Make, Share}
use Rattle.control_word.specs.declared.model.handle.Kind.TheVariants.{Owner}
use Rattle.control_word.specs.declared.place.Block.{Block}
use Rattle.control_word.specs.declared.place.Place.{Place}
use Rattle.control_word.specs.declared.shape.Shape.{Shape}
use Rattle.control_word.proofs.history.Legal.{sound}
use Rattle.control_word.proofs.history.Making.{new_counts}
use Rattle.control_word.proofs.history.Moving.{more_owners, owner_counted}
use Rattle.control_word.proofs.lists.Tallies.{put_same}
use Rattle.control_block.specs.Desks.{AddsEvent, DeskNow, latest_of, on_latest, state_of}
use Rattle.control_block.specs.Rule.{opening_of}
use Rattle.shared_handle.specs.Calls.{Makes, SharesOwner}
use Rattle.shared_handle.specs.Locks.{HasOwner}
use Rattle.pointers.proofs.Later.{by_event}
use Rattle.pointers.specs.Counts.{CountsTwo}
use Rattle.pointers.specs.Objects.{IsCounted}
use Rattle.pointers.specs.HandCalls.{MakesNow, SharesNow}
use Rattle.pointers.specs.Known.{owned, pointed}
use Rattle.pointers.specs.declared.known.Known.{Known}

not_zero : (n m : ℕ) → (n == 0) ≡ (m == 0) → 0 < m → 0 < n
not_zero zero m same more = let e : m ≡ 0 = eqb-true m 0 (sym same ∙ eq-eqb 0 0 refl) in absurd (omega arith)
not_zero (suc n) m same more = omega arith

module _ {V : Type 0} where
  -- the state after the desk's newest event
  now_by : (d e : DeskNow V) (x : Event V) (a : AddsEvent d x e) → state_of e ≡ leads (opening_of d.shape) (entry d.name x ∷ (a.between ++ d.seen))
  now_by d e x a =
      ap (λ (k : Shape). leads (opening_of k) e.seen) a.same.1 ∙ ap (λ (l : List (Entry V)). leads (opening_of d.shape) l) a.seen

  -- what the newest event asked
  asked : (d e : DeskNow V) (x : Event V) (a : AddsEvent d x e) → Asks (leads (opening_of d.shape) (a.between ++ d.seen)) d.name x
  asked d e x a = (subst (IsLegal (opening_of d.shape)) a.seen a.legal).1.asks

  -- a new object has one owner
  one_made : (d e : DeskNow V) (b : Block) (enabled : Bool) (fields : List ℕ) (x : V) → AddsEvent d (Make b enabled false fields x) e
      → count (state_of e) (latest_of e b.0) ≡ 1
  one_made d e b enabled fields x a =
      let z = opening_of d.shape in let s = leads z (a.between ++ d.seen) in
      let legal = (subst (IsLegal z) a.seen a.legal).0 in
      let o = put_same s.latest b.0 (suc s.made) b.0 refl in
      ap (λ (t : State). count t (t.latest b.0)) (now_by d e _ a)
      ∙ (ap (λ (q : ℕ). count (leads z (entry d.name (Make b enabled false fields x) ∷ (a.between ++ d.seen))) q) o
      ∙ (new_counts z s d.name b.0 enabled false fields (sound z (a.between ++ d.seen) legal)).0)

  -- a share makes one more
  one_more : (d e : DeskNow V) (o : ℕ) (p q : Option Place) (a : AddsEvent d (Share (handle Owner (Some o) p) q) e)
      → count (state_of e) o ≡ suc (count (leads (opening_of d.shape) (a.between ++ d.seen)) o)
  one_more d e o p q a =
      ap (λ (t : State). count t o) (now_by d e _ a) ∙ (more_owners (leads (opening_of d.shape) (a.between ++ d.seen)) d.name o q o).0 refl

  two : (d m s e : DeskNow V) (fields : List ℕ) (x : V) (a c : Known V) (n : ℕ) (b : Block) → owned a ≡ Some b → MakesNow d false fields x a m
      → count (state_of m) (latest_of m b.0) ≡ 1 → latest_of s b.0 ≡ latest_of m b.0
      → AddsEvent m (Share (on_latest m Owner (pointed a) b.0) (pointed c)) s → AddsEvent s (Count (on_latest s Owner (pointed a) b.0) n) e
      → CountsTwo d fields x a c n e
  two d m s e fields x a c n b of makes one latest shares counts =
      let asks = asked s e _ counts in
      let here = leads (opening_of s.shape) (counts.between ++ s.seen) in
      record {
        block = b;
        of = of;
        first = m;
        makes = makes;
        second = s;
        shares = shares;
        counts = counts;
        some = not_zero n (count here (latest_of s b.0)) asks.1 (owner_counted here s.name (latest_of s b.0) (pointed a) asks.0.0);
        most = λ before after.
            let more : count (state_of s) (latest_of m b.0) ≡ suc (count (leads (opening_of m.shape) (shares.between ++ m.seen)) (latest_of m b.0))
            = one_more m s (latest_of m b.0) (pointed a) (pointed c) shares in
            let there : count (state_of s) (latest_of s b.0) ≡ count (state_of s) (latest_of m b.0) = ap (count (state_of s)) latest in
            let few : n ≤ count here (latest_of s b.0) = asks.2 in
            omega (arith, before, after, more, there, few, one);
      }

  pub counts_two : (d m s e : DeskNow V) (fields : List ℕ) (x : V) (a c : Known V) (n : ℕ) → MakesNow d false fields x a m
      → ((owned a ≡ None → ⊥) → HasOwner m (owned a)) → SharesNow m a c s → IsCounted s Owner (owned a) (pointed a) n e
      → CountsTwo d fields x a c n e
  counts_two d m s e fields x a c n makes has shares counts = go (owned a) refl makes.2 has shares.0 counts
    where
      go : (b : Option Block) → owned a ≡ b → Makes makes.0 false false fields x b (pointed a) m → ((b ≡ None → ⊥) → HasOwner m b)
          → SharesOwner m b (pointed a) (pointed c) s → IsCounted s Owner b (pointed a) n e → CountsTwo d fields x a c n e
      go None at made has shares counts = absurd made
      go (Some b) at made has shares counts =
          let mine = has (λ e. absurd (cc e)) in
          let latest = (by_event m _ s shares).latest Owner mine.0 b.0 mine.1 in
          two d m s e fields x a c n b at makes (one_made makes.0 m b false fields x made.1) latest shares counts
