-- Which names desks have.
use Rattle.std.proofs.Common.{◌≡◌, ℕ, ◌<◌, ◌≤◌, true, false, List, [], ◌∷◌, ◌++◌, refl, ◌∙◌, subst}
use Rattle.std.proofs.Common.{arith}
use Rattle.control_word.proofs.Prelude
use Prelude.{after, Asks, ClearMember, Compare, Count, Entry, Event, Expired, Finish, Free}
use Prelude.{IsLegal, Join, leads, Leave, Load, Lock, Make, Member, Names, Opening, Read, Same}
use Prelude.{Share, Shelve, Split, State, Swap, Unshelve, Visit, WeakLeave, WeakShare}
use Rattle.control_word.proofs.history.Kept.{same_after, same_kept}
use Rattle.control_word.specs.Laws.{JoinedIsQuiet, UnnamedIsQuiet}

module _ {V : Type 0} where
  -- a desk that an event names is one of those that there are then
  named_low : (s : State) (e d : ℕ) (a : Event V) → Asks s e a → Names a d → d < (after s e a).names
  named_low s e d (Make b enabled null fields val) asks n = absurd n
  named_low s e d (Share y p) asks n = absurd n
  named_low s e d (Leave y last) asks n = absurd n
  named_low s e d (Count y c) asks n = absurd n
  named_low s e d (Expired y c) asks n = absurd n
  named_low s e d (Read y c) asks n = absurd n
  named_low s e d (Same c h so) asks n = absurd n
  named_low s e d (WeakShare o p) asks n = absurd n
  named_low s e d (WeakLeave y v) asks n = absurd n
  named_low s e d (Lock y g) asks n = absurd n
  named_low s e d (Load c y) asks n = absurd n
  named_low s e d (Swap c y w) asks n = absurd n
  named_low s e d (Compare c u y w b k) asks n = absurd n
  named_low s e d (ClearMember o m y) asks n = absurd n
  named_low s e d (Finish o v val) asks n = absurd n
  named_low s e d (Visit y c w) asks n = absurd n
  named_low s e d (Split to amount hs bs) asks n = let t = asks.0 in let u : to ≡ d = n in omega arith
  named_low s e d (Join other) asks n = let t = asks.1.0 in let u : other ≡ d = n in omega arith
  named_low s e d (Shelve b) asks n = absurd n
  named_low s e d (Unshelve b) asks n = absurd n

  names_grow : (s : State) (e : ℕ) (a : Event V) → s.names ≤ (after s e a).names
  names_grow s e (Make b enabled null fields val) = omega arith
  names_grow s e (Share y p) = omega arith
  names_grow s e (Leave y last) = omega arith
  names_grow s e (Count y c) = omega arith
  names_grow s e (Expired y c) = omega arith
  names_grow s e (Read y c) = omega arith
  names_grow s e (Same c h so) = omega arith
  names_grow s e (WeakShare o p) = omega arith
  names_grow s e (WeakLeave y v) = omega arith
  names_grow s e (Lock y g) = omega arith
  names_grow s e (Load c y) = omega arith
  names_grow s e (Swap (Free c) y w) = omega arith
  names_grow s e (Swap (Member o m) y w) = omega arith
  names_grow s e (Compare (Free c) u y w true k) = omega arith
  names_grow s e (Compare (Member o m) u y w true k) = omega arith
  names_grow s e (Compare c u y w false k) = omega arith
  names_grow s e (ClearMember o m y) = omega arith
  names_grow s e (Finish o v val) = omega arith
  names_grow s e (Visit y c w) = omega arith
  names_grow s e (Split to amount hs bs) = omega arith
  names_grow s e (Join other) = omega arith
  names_grow s e (Shelve b) = omega arith
  names_grow s e (Unshelve b) = omega arith

  -- no desk is joined that is not there yet
  pub unknown_free : (z : Opening) (h : List (Entry V)) → IsLegal z h → (d : ℕ) → (leads z h).names ≤ d → (leads z h).joined d ≡ false
  unknown_free z [] legal d le = refl
  unknown_free z (e ∷ h) legal d le =
      let s = leads z h in
      let grow = names_grow s e.desk e.event in
      let low = legal.1.acting.0 in
      let same = same_after s d e.desk e.event (λ q. omega arith) (λ n. let t = named_low s e.desk d e.event legal.1.asks n in omega arith) in
      same.is_joined ∙ unknown_free z h legal.0 d (omega arith)

  -- a name that isn't given yet has made no event
  pub unnamed_is_quiet : UnnamedIsQuiet V
  unnamed_is_quiet z [] legal d le = tt
  unnamed_is_quiet z (e ∷ h) legal d le =
      let s = leads z h in
      let grow = names_grow s e.desk e.event in
      let low = legal.1.acting.0 in (
        (λ q. omega arith),
        (λ n. let t = named_low s e.desk d e.event legal.1.asks n in omega arith),
        unnamed_is_quiet z h legal.0 d (omega arith),
      )

  -- an event names no desk that is joined
  named_free : (z : Opening) (h : List (Entry V)) → IsLegal z h → (e d : ℕ) (a : Event V) → Asks (leads z h) e a
      → Names a d → (leads z h).joined d ≡ false
  named_free z h legal e d (Make b enabled null fields val) asks n = absurd n
  named_free z h legal e d (Share y p) asks n = absurd n
  named_free z h legal e d (Leave y last) asks n = absurd n
  named_free z h legal e d (Count y c) asks n = absurd n
  named_free z h legal e d (Expired y c) asks n = absurd n
  named_free z h legal e d (Read y c) asks n = absurd n
  named_free z h legal e d (Same c y so) asks n = absurd n
  named_free z h legal e d (WeakShare o p) asks n = absurd n
  named_free z h legal e d (WeakLeave y v) asks n = absurd n
  named_free z h legal e d (Lock y g) asks n = absurd n
  named_free z h legal e d (Load c y) asks n = absurd n
  named_free z h legal e d (Swap c y w) asks n = absurd n
  named_free z h legal e d (Compare c u y w b k) asks n = absurd n
  named_free z h legal e d (ClearMember o m y) asks n = absurd n
  named_free z h legal e d (Finish o v val) asks n = absurd n
  named_free z h legal e d (Visit y c w) asks n = absurd n
  named_free z h legal e d (Split to amount hs bs) asks n =
      let to_is = asks.0 in let is : to ≡ d = n in unknown_free z h legal d (omega arith)
  named_free z h legal e d (Join other) asks n = subst (λ j. (leads z h).joined j ≡ false) n asks.1.1
  named_free z h legal e d (Shelve b) asks n = absurd n
  named_free z h legal e d (Unshelve b) asks n = absurd n

  -- a desk that was joined makes no later event
  pub joined_is_quiet : JoinedIsQuiet V
  joined_is_quiet z [] seen legal d joined = tt
  joined_is_quiet z (e ∷ later) seen legal d joined =
      let s = leads z (later ++ seen) in
      let quiet = joined_is_quiet z later seen legal.0 d joined in
      let still = (same_kept z later seen d quiet).is_joined ∙ joined in (
        (λ q. let free = subst (λ j. s.joined j ≡ false) q legal.1.acting.1 in cc),
        (λ n. let free = named_free z (later ++ seen) legal.0 e.desk d e.event legal.1.asks n in cc),
        quiet,
      )
