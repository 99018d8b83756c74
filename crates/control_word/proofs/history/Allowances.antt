-- The allowances of desks are the whole together, and no desk holds more than its own.
use Rattle.std.proofs.Common.{◌≡◌, ℕ, suc, ◌+◌, ◌-◌, ◌<◌, ◌≤◌, true, false, ◌≢◌, List, [], ◌∷◌}
use Rattle.std.proofs.Common.{length, ◌==◌, Some, sym, refl, ap, ◌∙◌, subst, ⊎_elim, arith, eq-eqb}
use Rattle.control_word.proofs.Prelude
use Prelude.{after, Asks, bag_size, Block, cases_eq, cases_lt, ClearMember, Compare, cond_both}
use Prelude.{Count, Entry, Event, Expired, Finish, Free, handle, Has, HasAll, HasRoom, Held, held}
use Prelude.{IsActing, IsLegal, IsOpening, Join, joins_up, leads, Leave, Load, Lock, Make, Member}
use Prelude.{NumberedHandle, Object, Opening, origin, Owner, put, Read, Same, same_held, Share}
use Prelude.{Shelve, Split, splits_off, State, Stored, Swap, Unshelve, Visit, Weak, WeakLeave}
use Prelude.{WeakShare}
use Rattle.control_word.proofs.history.BagSizes.{bag_others, bags_all, gets_others, join_bag}
use Rattle.control_word.proofs.history.BagSizes.{loses_others, split_bag, swaps_others}
use Rattle.control_word.proofs.history.Soundness.{Allowed}
use Rattle.control_word.proofs.lists.Sums.{num_fewer, sum_le, sum_put}
use Rattle.control_word.proofs.lists.Tallies.{num, num_has, put_cases, put_other, put_same}
use Rattle.control_word.specs.Laws.{AllowancesAddUp}

-- where only d's bag grows, within its allowance, all stays allowed
allowed_still : (z : Opening) (s : State) (d : ℕ) (l : List Held) (r : List Stored) (n : ℕ)
    (f : ℕ → Object) (last : ℕ → ℕ) (g : ℕ → NumberedHandle) → Allowed z s
    → num (λ x. x.desk == d) l ≤ s.allowance d → ((q : ℕ) → q ≢ d → num (λ x. x.desk == q) l ≤ bag_size s q)
    → Allowed z (record s { hands = l; stores = r; made = n; object = f; latest = last; cell = g })
allowed_still z s d l r n f last g allowed here else = record {
  rooms = λ q. ⊎_elim (λ (e : q ≡ d). subst (λ j. num (λ x. x.desk == j) l ≤ s.allowance j) (sym e) here)
      (λ (ne : q ≢ d). let a = else q ne in let b = allowed.rooms q in omega arith) (cases_eq q d);
  shares = allowed.shares;
  beyond = allowed.beyond;
  spent = allowed.spent;
  acts = allowed.acts;
}

-- only desks that there are have been joined
abbrev JoinedThere : State → Type 0
JoinedThere s = (q : ℕ) → s.joined q ≡ true → q < s.names

allowed_split : (z : Opening) (s : State) (d to n : ℕ) (hs : List NumberedHandle) (bs : List Block) → Allowed z s
    → JoinedThere s → IsActing s d → to ≡ s.names → 0 < n → n < s.allowance d → length hs ≤ n
    → HasAll same_held (λ (h : NumberedHandle). held d h) hs s.hands → HasRoom (splits_off d to n hs bs s) d
    → Allowed z (splits_off d to n hs bs s)
allowed_split z s d to n hs bs allowed there acting is some' less few has room =
    let t = splits_off d to n hs bs s in
    let lower = put s.allowance d (s.allowance d - n) in
    let other : d ≢ to = λ e. omega arith in
    let at_to : t.allowance to ≡ n = put_same lower to n to refl in
    let at_d : t.allowance d ≡ s.allowance d - n =
    put_other lower to n d other ∙ put_same s.allowance d (s.allowance d - n) d refl in
    let old : (q : ℕ) → q ≢ d → q ≢ to → t.allowance q ≡ s.allowance q =
    λ q a b. put_other lower to n q b ∙ put_other s.allowance d (s.allowance d - n) q a in
    record {
      rooms = λ q.
          ⊎_elim
          (λ (e : q ≡ to).
          let a = (split_bag d to to hs s.hands has).0 in
          let b = allowed.rooms to in
          let c = allowed.beyond to (omega arith) in
          subst (λ j. bag_size t j ≤ t.allowance j) (sym e) (omega arith))
          (λ (ne : q ≢ to).
          ⊎_elim (λ (e : q ≡ d). subst (λ j. bag_size t j ≤ t.allowance j) (sym e) room)
          (λ (no : q ≢ d).
          let a = (split_bag d to q hs s.hands has).1 ne in
          let b = allowed.rooms q in
          let c = old q no ne in omega arith)
          (cases_eq q d))
          (cases_eq q to);
      shares =
          let a = (sum_put s.names d (s.allowance d - n) s.allowance).0 acting.0 in
          let b = (sum_put s.names to n lower).1 (omega arith) in
          let c = allowed.shares in
          let e : t.allowance s.names ≡ n = ap t.allowance (sym is) ∙ at_to in omega arith;
      beyond = λ q le. old q (λ e. omega arith) (λ e. omega arith) ∙ allowed.beyond q (omega arith);
      spent = λ q j. let u = there q j in let c = allowed.spent q j in
          ⊎_elim (λ (e : q ≡ d). let w = ap s.allowance e in absurd (omega arith))
          (λ (no : q ≢ d). old q no (λ e. omega arith) ∙ c) (cases_eq q d);
      acts = λ q lt j.
          ⊎_elim (λ (e : q ≡ to). let a = ap t.allowance e in omega arith)
          (λ (ne : q ≢ to). ⊎_elim (λ (e : q ≡ d). let a = ap t.allowance e in omega arith)
          (λ (no : q ≢ d). let a = old q no ne in let b = allowed.acts q (omega arith) j in omega arith)
          (cases_eq q d))
          (cases_eq q to);
    }

allowed_join : (z : Opening) (s : State) (d other : ℕ) → Allowed z s → IsActing s d → other ≢ d
    → IsActing s other → HasRoom (joins_up d other s) d → Allowed z (joins_up d other s)
allowed_join z s d other allowed acting ne there room =
    let t = joins_up d other s in
    let both = s.allowance d + s.allowance other in
    let higher = put s.allowance d both in
    let at_other : t.allowance other ≡ 0 = put_same higher other 0 other refl in
    let at_d : t.allowance d ≡ both =
    put_other higher other 0 d (λ e. ne (sym e)) ∙ put_same s.allowance d both d refl in
    let old : (q : ℕ) → q ≢ d → q ≢ other → t.allowance q ≡ s.allowance q =
    λ q a b. put_other higher other 0 q b ∙ put_other s.allowance d both q a in
    record {
      rooms = λ q.
          ⊎_elim (λ (e : q ≡ d). subst (λ j. bag_size t j ≤ t.allowance j) (sym e) room)
          (λ (no : q ≢ d).
          ⊎_elim
          (λ (e : q ≡ other).
          let a = (join_bag other d other s.hands).0 ne in
          subst (λ j. bag_size t j ≤ t.allowance j) (sym e) (omega arith))
          (λ (nt : q ≢ other).
          let a = (join_bag other d q s.hands).1 no in
          let b = allowed.rooms q in
          let c = old q no nt in omega arith)
          (cases_eq q other))
          (cases_eq q d);
      shares =
          let a = (sum_put s.names d both s.allowance).0 acting.0 in
          let b = (sum_put s.names other 0 higher).0 there.0 in
          let c = allowed.shares in
          let e = put_other s.allowance d both other ne in omega arith;
      beyond = λ q le. old q (λ e. omega arith) (λ e. omega arith) ∙ allowed.beyond q le;
      spent = λ q j.
          ⊎_elim (λ (e : q ≡ other). ap t.allowance e ∙ at_other)
          (λ (nt : q ≢ other).
          let k : s.joined q ≡ true = sym (put_other s.joined other true q nt) ∙ j in
          ⊎_elim (λ (e : q ≡ d). absurd (let a = sym (acting.1) ∙ (ap s.joined (sym e) ∙ k) in cc))
          (λ (no : q ≢ d). old q no nt ∙ allowed.spent q k) (cases_eq q d))
          (cases_eq q other);
      acts = λ q lt j.
          ⊎_elim (λ (e : q ≡ other). absurd (let a = sym (put_same s.joined other true q e) ∙ j in cc))
          (λ (nt : q ≢ other).
          let k : s.joined q ≡ false = sym (put_other s.joined other true q nt) ∙ j in
          ⊎_elim
          (λ (e : q ≡ d). let a = ap t.allowance e in let b = allowed.acts d acting.0 acting.1 in omega arith)
          (λ (no : q ≢ d). let a = old q no nt in let b = allowed.acts q lt k in omega arith) (cases_eq q d))
          (cases_eq q other);
    }

module _ {V : Type 0} where
  there_after : (s : State) (d : ℕ) (a : Event V) → Asks s d a → JoinedThere s → JoinedThere (after s d a)
  there_after s d (Split to n hs bs) asks there = λ q j. let t = there q j in omega arith
  there_after s d (Join other) asks there =
      λ q. put_cases (λ j y. y ≡ true → j < s.names) s.joined other true q
      (λ e u. let t = asks.1.0 in omega arith) (λ n u. there q u)
  there_after s d (Swap (Free c) x y) asks there = there
  there_after s d (Swap (Member o m) x y) asks there = there
  there_after s d (Compare (Free c) e x y true w) asks there = there
  there_after s d (Compare (Member o m) e x y true w) asks there = there
  there_after s d a asks there = there

  allowed_after : (z : Opening) (s : State) (d : ℕ) (a : Event V) → Allowed z s → JoinedThere s → IsActing s d
      → Asks s d a → HasRoom (after s d a) d → Allowed z (after s d a)
  allowed_after z s d (Make b enabled null fields val) al there act asks room =
      allowed_still z s d _ _ _ _ _ _ al room
      (λ q ne.
      let t = bag_others q d (handle Owner (Some (suc s.made)) (origin b.0 null)) s.hands ne in omega arith)
  allowed_after z s d (Share h p) al there act asks room =
      allowed_still z s d _ _ _ _ _ _ al room
      (λ q ne. let t = bag_others q d (handle Owner h.object p) s.hands ne in omega arith)
  allowed_after z s d (Leave h last) al there act asks room =
      allowed_still z s d _ _ _ _ _ _ al room
      (λ q ne. num_fewer same_held (λ x. x.desk == q) (held d h) s.hands)
  allowed_after z s d (Count h n) al there act asks room = al
  allowed_after z s d (Expired h x) al there act asks room = al
  allowed_after z s d (Read h n) al there act asks room = al
  allowed_after z s d (Same c h so) al there act asks room = al
  allowed_after z s d (WeakShare o p) al there act asks room =
      allowed_still z s d _ _ _ _ _ _ al room
      (λ q ne. let t = bag_others q d (handle Weak (Some o) p) s.hands ne in omega arith)
  allowed_after z s d (WeakLeave h x) al there act asks room =
      allowed_still z s d _ _ _ _ _ _ al room (λ q ne. loses_others s q d h)
  allowed_after z s d (Lock h x) al there act asks room =
      allowed_still z s d _ _ _ _ _ _ al room
      (λ q ne. cond_both x (held d (handle Owner h.object h.place) ∷ s.hands) s.hands
      (λ l. num (λ x. x.desk == q) l ≤ bag_size s q)
      (λ e. let t = bag_others q d (handle Owner h.object h.place) s.hands ne in omega arith)
      (λ e. omega arith))
  allowed_after z s d (ClearMember o m h) al there act asks room =
      allowed_still z s d _ _ _ _ _ _ al room (λ q ne. gets_others s q d h ne)
  allowed_after z s d (Finish o x val) al there act asks room =
      allowed_still z s d _ _ _ _ _ _ al room (λ q ne. omega arith)
  allowed_after z s d (Load c x) al there act asks room =
      allowed_still z s d _ _ _ _ _ _ al room (λ q ne. gets_others s q d x ne)
  allowed_after z s d (Swap (Free c) x y) al there act asks room =
      allowed_still z s d _ _ _ _ _ _ al room (λ q ne. swaps_others s q d (Free c) x y ne)
  allowed_after z s d (Swap (Member o m) x y) al there act asks room =
      allowed_still z s d _ _ _ _ _ _ al room (λ q ne. swaps_others s q d (Member o m) x y ne)
  allowed_after z s d (Compare (Free c) e x y true w) al there act asks room =
      allowed_still z s d _ _ _ _ _ _ al room (λ q ne. swaps_others s q d (Free c) x y ne)
  allowed_after z s d (Compare (Member o m) e x y true w) al there act asks room =
      allowed_still z s d _ _ _ _ _ _ al room (λ q ne. swaps_others s q d (Member o m) x y ne)
  allowed_after z s d (Compare c e x y false w) al there act asks room =
      allowed_still z s d _ _ _ _ _ _ al room (λ q ne. gets_others s q d y ne)
  allowed_after z s d (Visit h x y) al there act asks room = al
  allowed_after z s d (Split to n hs bs) al there act asks room =
      allowed_split z s d to n hs bs al there act asks.0 asks.1 asks.2 asks.3 asks.4 room
  allowed_after z s d (Join other) al there act asks room = allowed_join z s d other al act asks.0 asks.1 room
  allowed_after z s d (Shelve b) al there act asks room =
      record { rooms = al.rooms; shares = al.shares; beyond = al.beyond; spent = al.spent; acts = al.acts }
  allowed_after z s d (Unshelve b) al there act asks room =
      record { rooms = al.rooms; shares = al.shares; beyond = al.beyond; spent = al.spent; acts = al.acts }

  joined_there : (z : Opening) (h : List (Entry V)) → IsLegal z h → JoinedThere (leads z h)
  joined_there z [] legal = λ q e. cc
  joined_there z (e ∷ h) legal = there_after (leads z h) e.desk e.event legal.1.asks (joined_there z h legal.0)

  pub allowed : (z : Opening) (h : List (Entry V)) → IsLegal z h → Allowed z (leads z h)
  allowed z [] legal = record {
    rooms = λ d. omega arith;
    shares = legal.shares;
    beyond = legal.beyond;
    spent = λ d e. absurd cc;
    acts = λ d lt e. legal.positive d lt;
  }
  allowed z (e ∷ h) legal =
      let next = legal.1 in
      allowed_after z (leads z h) e.desk e.event (allowed z h legal.0)
      (joined_there z h legal.0) next.acting next.asks next.room

  pub opened : (z : Opening) (h : List (Entry V)) → IsLegal z h → IsOpening z
  opened z [] legal = legal
  opened z (e ∷ h) legal = opened z h legal.0

  pub allowances_add_up : AllowancesAddUp V
  allowances_add_up z h legal = let t = allowed z h legal in (t.shares, t.acts, t.rooms)

  -- each hand is of a desk that there is
  hands_there : (z : Opening) (h : List (Entry V)) → IsLegal z h → (x : Held) → Has x (leads z h).hands
      → x.desk < (leads z h).names
  hands_there z h legal x has =
      let s = leads z h in
      let t = allowed z h legal in
      ⊎_elim (λ lt. lt)
      (λ le.
      let a = t.beyond x.desk le in
      let b = t.rooms x.desk in
      let c = num_has (λ (y : Held). y.desk == x.desk) x s.hands has (eq-eqb x.desk x.desk refl) in
      absurd (omega arith))
      (cases_lt x.desk s.names)

  pub hands_few : (z : Opening) (h : List (Entry V)) → IsLegal z h → length (leads z h).hands ≤ z.allowance
  hands_few z h legal =
      let s = leads z h in
      let t = allowed z h legal in
      let a = bags_all s.names s.hands (hands_there z h legal) in
      let b = sum_le s.names (bag_size s) s.allowance t.rooms in
      let c = t.shares in omega arith
