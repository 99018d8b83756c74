-- A history has nothing but what its threads do, and the splits and joins of the desk that lent them their tables.
use Rattle.std.proofs.Common.{◌≡◌, ℕ, ◌<◌, ◌≤◌, true, false, ◌⊎◌, List, [], ◌∷◌, ◌==◌, sym, refl}
use Rattle.std.proofs.Common.{ap, ◌∙◌, subst, inl, inr, arith, eq-eqb}
use Rattle.script_runner.proofs.Prelude
use Prelude.{AbsorbsAll, after, All-from_recursion, AllBare, AllByRecursion, AllMarked, AllVacant}
use Prelude.{Asks, cond-true, cond_both, desk_names, DeskNow, Entry, Event, Form, Free, Has}
use Prelude.{HasNoObject, IsLegal, IsPartedInto, IsSplitOrJoin, KeepsDesks, leads, Opening}
use Prelude.{opening_of, Part, Said, State, TableNow}
use Rattle.std.proofs.lemmas.Bool.{cases_lt}
use Rattle.control_block.proofs.Own.{joins_add, splits_add}
use Rattle.control_block.specs.Own.{events_of, own_of}
use Rattle.control_word.specs.declared.model.event.Cell.TheVariants.{Member}
use Rattle.control_word.specs.declared.model.event.Event.TheVariants as event
use Rattle.script_runner.specs.Tables as table
use Rattle.script_runner.proofs.Summing.{KeepsAt, marked_keeps}
use Rattle.script_runner.proofs.Teams.{quiet_wound, teams_play}
use Rattle.script_runner.specs.Teams.{IsSplitOff, SplitsOffTo, TeamsInterleave}

vacant_bare : (ss : List table.Slot) → AllVacant ss → AllBare ss
vacant_bare [] none = tt
vacant_bare (s ∷ ss) none = (subst HasNoObject (sym none.0) tt, vacant_bare ss none.1)

module _ {V : Type 0} where
  -- a desk of one of these names is split off, or some desk joined
  abbrev Lends : List ℕ → Event V → Type 0
  Lends ns (event.Split to n hs bs) = Has to ns
  Lends ns (event.Join other) = Unit {0}
  Lends ns _ = ⊥

  abbrev AllLend : List ℕ → List (Event V) → Type 0
  AllLend ns [] = Unit {0}
  AllLend ns (e ∷ es) = Lends ns e × AllLend ns es

  -- the desk did nothing else
  abbrev Lending : List ℕ → DeskNow V → Type 0
  Lending ns d = AllLend ns (own_of d)

  parted : (ns : List ℕ) (d e : DeskNow V) (a k : ℕ) (ts : List (TableNow V)) → IsPartedInto d a k ts e
      → ((n : ℕ) → Has n (desk_names ts) → Has n ns) → Lending ns d → Lending ns e
  parted ns d e a k [] is among lends = subst (Lending ns) (sym is) lends
  parted ns d e a k (t ∷ ts) is among lends =
      parted ns is.0 e a k ts is.2 (λ n has. among n (inr has))
      (subst (AllLend ns) (sym (splits_add d a k [] is.0 t.desk is.1).0) (among t.desk.name (inl refl), lends))

  parted_name : (d e : DeskNow V) (a k : ℕ) (ts : List (TableNow V)) → IsPartedInto d a k ts e → e.name ≡ d.name
  parted_name d e a k [] is = ap (λ (x : DeskNow V). x.name) is
  parted_name d e a k (t ∷ ts) is = parted_name is.0 e a k ts is.2 ∙ is.1.event.same.2

  absorbed_name : (t u : TableNow V) (xs : List (TableNow V)) → AbsorbsAll t xs u → u.desk.name ≡ t.desk.name
  absorbed_name t u [] is = ap (λ (x : TableNow V). x.desk.name) is
  absorbed_name t u (x ∷ xs) all = all.2.desks.same.2 ∙ absorbed_name t all.0 xs all.1

  absorbed : (ns : List ℕ) (t u : TableNow V) (xs : List (TableNow V)) → AbsorbsAll t xs u → Lending ns t.desk
      → Lending ns u.desk × (u.slots ≡ t.slots) × (u.endings ≡ t.endings)
  absorbed ns t u [] is lends =
      (subst (λ (x : TableNow V). Lending ns x.desk) (sym is) lends, ap (λ (x : TableNow V). x.slots) is, ap (λ (x : TableNow V). x.endings) is)
  absorbed ns t u (x ∷ xs) all lends =
      let m = all.0 in
      let y = absorbed ns t m xs all.1 lends in
      let j = all.2 in (
        subst (AllLend ns) (sym (joins_add m.desk j.bare u.desk j.desks).0) (tt, y.0),
        j.rest.0 ∙ y.1,
        j.rest.1 ∙ y.2,
      )

  -- desks of these names were split off
  abbrev HasSplit : ℕ → List (Event V) → Type 0
  HasSplit n [] = ⊥
  HasSplit n (e ∷ es) = SplitsOffTo n e ⊎ HasSplit n es

  abbrev AllSplit : List ℕ → List (Event V) → Type 0
  AllSplit [] es = Unit {0}
  AllSplit (n ∷ ns) es = HasSplit n es × AllSplit ns es

  split_before : (ns : List ℕ) (e : Event V) (es : List (Event V)) → AllSplit ns es → AllSplit ns (e ∷ es)
  split_before [] e es all = tt
  split_before (n ∷ ns) e es all = (inr all.0, split_before ns e es all.1)

  split_parted : (ns : List ℕ) (d e : DeskNow V) (a k : ℕ) (ts : List (TableNow V)) → IsPartedInto d a k ts e
      → AllSplit ns (own_of d) → AllSplit ns (own_of e) × AllSplit (desk_names ts) (own_of e)
  split_parted ns d e a k [] is all = (subst (λ (x : DeskNow V). AllSplit ns (own_of x)) (sym is) all, tt)
  split_parted ns d e a k (t ∷ ts) is all =
      let adds = (splits_add d a k [] is.0 t.desk is.1).0 in
      let more : AllSplit (t.desk.name ∷ ns) (own_of is.0) = (
        subst (HasSplit t.desk.name) (sym adds) (inl refl),
        subst (AllSplit ns) (sym adds) (split_before ns _ (own_of d) all),
      ) in
      let y = split_parted (t.desk.name ∷ ns) is.0 e a k ts is.2 more in
      (y.0.1, (y.0.0, y.1))

  split_absorbed : (ns : List ℕ) (t u : TableNow V) (xs : List (TableNow V)) → AbsorbsAll t xs u
      → AllSplit ns (own_of t.desk) → AllSplit ns (own_of u.desk)
  split_absorbed ns t u [] is all = subst (λ (x : TableNow V). AllSplit ns (own_of x.desk)) (sym is) all
  split_absorbed ns t u (x ∷ xs) is all =
      let j = is.2 in
      subst (AllSplit ns) (sym (joins_add is.0.desk j.bare u.desk j.desks).0)
      (split_before ns _ (own_of is.0.desk) (split_absorbed ns t is.0 xs is.1 all))

  split_in : (n k : ℕ) (h : List (Entry V)) → HasSplit k (events_of n h) → IsSplitOff h k
  split_in n k [] = λ has. has
  split_in n k (e ∷ h) =
      let next : HasSplit k (events_of n h) → IsSplitOff h k = split_in n k h in
      cond_both (e.desk == n) (e.event ∷ events_of n h) (events_of n h) (λ l. HasSplit k l → IsSplitOff (e ∷ h) k)
      (λ is. here next) (λ is has. inr (next has))
    where
      here : (HasSplit k (events_of n h) → IsSplitOff h k) → HasSplit k (e.event ∷ events_of n h) → IsSplitOff (e ∷ h) k
      here next (inl splits) = inl splits
      here next (inr has) = inr (next has)

  all_split : (n : ℕ) (ns : List ℕ) (h : List (Entry V)) → AllSplit ns (events_of n h)
      → AllByRecursion (IsSplitOff h) ns
  all_split n [] h all = tt
  all_split n (k ∷ ns) h all = (split_in n k h all.0, all_split n ns h all.1)

  -- an event of desk 0 is a split or a join
  lent : (ns : List ℕ) (e : Entry V) (h : List (Entry V)) → e.desk ≡ 0 → AllLend ns (events_of 0 (e ∷ h)) → Lends ns e.event
  lent ns e h is lends =
      (subst (AllLend ns) (cond-true (e.desk == 0) (e.event ∷ events_of 0 h) (events_of 0 h) (eq-eqb e.desk 0 is)) lends).0

  lent_before : (ns : List ℕ) (e : Entry V) (h : List (Entry V)) → AllLend ns (events_of 0 (e ∷ h)) → AllLend ns (events_of 0 h)
  lent_before ns e h =
      cond_both (e.desk == 0) (e.event ∷ events_of 0 h) (events_of 0 h) (λ l. AllLend ns l → AllLend ns (events_of 0 h))
      (λ is lends. lends.1) (λ is lends. lends)

  lends_parts : (ns : List ℕ) (v : Event V) → Lends ns v → IsSplitOrJoin v
  lends_parts ns (event.Split to n hs bs) lends = tt
  lends_parts ns (event.Join other) lends = tt
  lends_parts ns (event.Make b enabled null fields val) lends = absurd lends
  lends_parts ns (event.Share y p) lends = absurd lends
  lends_parts ns (event.Leave y last) lends = absurd lends
  lends_parts ns (event.Count y c) lends = absurd lends
  lends_parts ns (event.Expired y c) lends = absurd lends
  lends_parts ns (event.Read y c) lends = absurd lends
  lends_parts ns (event.Same c y so) lends = absurd lends
  lends_parts ns (event.WeakShare o p) lends = absurd lends
  lends_parts ns (event.WeakLeave y v) lends = absurd lends
  lends_parts ns (event.Lock y g) lends = absurd lends
  lends_parts ns (event.Load c y) lends = absurd lends
  lends_parts ns (event.Swap c y w) lends = absurd lends
  lends_parts ns (event.Compare c u y w b k) lends = absurd lends
  lends_parts ns (event.ClearMember o m y) lends = absurd lends
  lends_parts ns (event.Finish o v val) lends = absurd lends
  lends_parts ns (event.Visit y c w) lends = absurd lends
  lends_parts ns (event.Shelve b) lends = absurd lends
  lends_parts ns (event.Unshelve b) lends = absurd lends

  -- what these names did are no splits and joins
  abbrev Keep : List ℕ → List (Entry V) → Type 0
  Keep ns [] = Unit {0}
  Keep ns (e ∷ h) = (Has e.desk ns → KeepsDesks e.event) × Keep ns h

  -- a desk that is there after an event was there before, or was split off by it
  abbrev Names : Event V → ℕ → Type 0
  Names (event.Split to n hs bs) x = x ≡ to
  Names _ x = ⊥

  named : (s : State) (d x : ℕ) (v : Event V) → Asks s d v → x < (after s d v).names → (x < s.names) ⊎ Names v x
  named s d x (event.Make b enabled null fields val) asks lt = inl lt
  named s d x (event.Share y p) asks lt = inl lt
  named s d x (event.Leave y last) asks lt = inl lt
  named s d x (event.Count y c) asks lt = inl lt
  named s d x (event.Expired y c) asks lt = inl lt
  named s d x (event.Read y c) asks lt = inl lt
  named s d x (event.Same c y so) asks lt = inl lt
  named s d x (event.WeakShare o p) asks lt = inl lt
  named s d x (event.WeakLeave y v) asks lt = inl lt
  named s d x (event.Lock y g) asks lt = inl lt
  named s d x (event.Load c y) asks lt = inl lt
  named s d x (event.Swap (Free c) y w) asks lt = inl lt
  named s d x (event.Swap (Member o m) y w) asks lt = inl lt
  named s d x (event.Compare (Free c) u y w true k) asks lt = inl lt
  named s d x (event.Compare (Member o m) u y w true k) asks lt = inl lt
  named s d x (event.Compare c u y w false k) asks lt = inl lt
  named s d x (event.ClearMember o m y) asks lt = inl lt
  named s d x (event.Finish o v val) asks lt = inl lt
  named s d x (event.Visit y c w) asks lt = inl lt
  named s d x (event.Shelve b) asks lt = inl lt
  named s d x (event.Unshelve b) asks lt = inl lt
  named s d x (event.Split to amount hs bs) asks lt = go (cases_lt x s.names)
    where
      go : (x < s.names) ⊎ (s.names ≤ x) → (x < s.names) ⊎ (x ≡ to)
      go (inl low) = inl low
      go (inr high) = let t = asks.0 in inr (omega (arith, t, high, lt))
  named s d x (event.Join other) asks lt = inl lt

  abbrev Other : List ℕ → Entry V → Type 0
  Other ns e = Has e.desk ns ⊎ IsSplitOrJoin e.event

  module _ (z : Opening) (first : z.desks ≡ 1) (ns : List ℕ) where
    -- each desk is the first one, or one of these names; and all else are splits and joins
    nobody_else : (h : List (Entry V)) → IsLegal z h → AllLend ns (events_of 0 h) → Keep ns h
        → ((x : ℕ) → x < (leads z h).names → (x ≡ 0) ⊎ Has x ns) × AllByRecursion (Other ns) h
    nobody_else [] legal lends keep = (λ x lt. inl (omega (arith, first, lt)), tt)
    nobody_else (e ∷ h) legal lends keep =
        let s = leads z h in
        let ih = nobody_else h legal.0 (lent_before ns e h lends) keep.1 in
        let who = ih.0 e.desk legal.1.acting.0 in
        (λ x lt. there ih.0 x who (named s e.desk x e.event legal.1.asks lt), (which who, ih.1))
      where
        which : (e.desk ≡ 0) ⊎ Has e.desk ns → Other ns e
        which (inl is) = inr (lends_parts ns e.event (lent ns e h is lends))
        which (inr has) = inl has

        new : (x : ℕ) (v : Event V) → Lends ns v ⊎ KeepsDesks v → Names v x → Has x ns
        new x (event.Split to n hs bs) (inl has) is = subst (λ y. Has y ns) (sym is) has
        new x (event.Split to n hs bs) (inr keeps) is = absurd keeps
        new x (event.Join other) how is = absurd is
        new x (event.Make b enabled null fields val) how is = absurd is
        new x (event.Share y p) how is = absurd is
        new x (event.Leave y last) how is = absurd is
        new x (event.Count y c) how is = absurd is
        new x (event.Expired y c) how is = absurd is
        new x (event.Read y c) how is = absurd is
        new x (event.Same c y so) how is = absurd is
        new x (event.WeakShare o p) how is = absurd is
        new x (event.WeakLeave y v) how is = absurd is
        new x (event.Lock y g) how is = absurd is
        new x (event.Load c y) how is = absurd is
        new x (event.Swap c y w) how is = absurd is
        new x (event.Compare c u y w b k) how is = absurd is
        new x (event.ClearMember o m y) how is = absurd is
        new x (event.Finish o v val) how is = absurd is
        new x (event.Visit y c w) how is = absurd is
        new x (event.Shelve b) how is = absurd is
        new x (event.Unshelve b) how is = absurd is

        how : (e.desk ≡ 0) ⊎ Has e.desk ns → Lends ns e.event ⊎ KeepsDesks e.event
        how (inl is) = inl (lent ns e h is lends)
        how (inr has) = inr (keep.0 has)

        there : ((y : ℕ) → y < (leads z h).names → (y ≡ 0) ⊎ Has y ns) → (x : ℕ) → (e.desk ≡ 0) ⊎ Has e.desk ns
            → (x < (leads z h).names) ⊎ Names e.event x → (x ≡ 0) ⊎ Has x ns
        there before x who (inl low) = before x low
        there before x who (inr is) = inr (new x e.event (how who) is)

  keep_none : (h : List (Entry V)) → Keep [] h
  keep_none [] = tt
  keep_none (e ∷ h) = (λ no. absurd no, keep_none h)

  keep_more : (n : ℕ) (ns : List ℕ) (h : List (Entry V)) → KeepsAt n h → Keep ns h → Keep (n ∷ ns) h
  keep_more n ns [] a b = tt
  keep_more n ns (e ∷ h) a b = (which, keep_more n ns h a.1 b.1)
    where
      which : (e.desk ≡ n) ⊎ Has e.desk ns → KeepsDesks e.event
      which (inl is) = a.0 is
      which (inr has) = b.0 has

  kept : (worth : Form → V) (z : Opening) (h : List (Entry V)) (ns : List ℕ) (ps : List Part) (ls : List (List Said))
      → AllMarked worth z h ns ps ls → Keep ns h
  kept worth z h [] [] [] all = keep_none h
  kept worth z h (n ∷ ns) (p ∷ ps) (l ∷ ls) all =
      keep_more n ns h (marked_keeps worth z h n p l all.0) (kept worth z h ns ps ls all.1)
  kept worth z h [] [] (l ∷ ls) all = absurd all
  kept worth z h [] (p ∷ ps) ls all = absurd all
  kept worth z h (n ∷ ns) [] ls all = absurd all
  kept worth z h (n ∷ ns) (p ∷ ps) [] all = absurd all

  pub teams_interleave : TeamsInterleave V
  teams_interleave worth parts lines domain slots t u between last lent left a k begins new parts_are all absorbs winds legal =
      let z = opening_of t.desk.shape in
      let ns = desk_names lent in
      let team = teams_play worth parts lines t u between last lent left a k parts_are all absorbs winds in
      let none : Lending ns t.desk =
      subst (λ (h : List (Entry V)). AllLend ns (events_of t.desk.name h)) (sym begins.seen) tt in
      let part = parted ns t.desk between a k lent parts_are (λ n has. has) none in
      let back = absorbed ns (record t { desk = between }) u left absorbs part in
      let quiet = quiet_wound u last (subst AllBare (sym back.1) (vacant_bare t.slots new.0)) (back.2 ∙ new.2) winds in
      let name : u.desk.name ≡ 0 =
      absorbed_name (record t { desk = between }) u left absorbs ∙ (parted_name t.desk between a k lent parts_are ∙ begins.name) in
      let mine : AllLend ns (events_of 0 last.seen) =
      subst (λ (h : List (Entry V)). AllLend ns (events_of 0 h)) (sym quiet.seen)
      (subst (λ n. AllLend ns (events_of n u.desk.seen)) name back.0) in
      let apart = (split_parted [] t.desk between a k lent parts_are tt).1 in
      let split : AllSplit ns (events_of 0 last.seen) =
      subst (λ (h : List (Entry V)). AllSplit ns (events_of 0 h)) (sym quiet.seen)
      (subst (λ n. AllSplit ns (events_of n u.desk.seen)) name
      (split_absorbed ns (record t { desk = between }) u left absorbs apart)) in
      record {
        legal = legal;
        names = ns;
        rising = team.1;
        split = All-from_recursion (IsSplitOff last.seen) ns (all_split 0 ns last.seen split);
        each = team.0;
        others = All-from_recursion (Other ns) last.seen
            (nobody_else z refl ns last.seen legal mine (kept worth z last.seen ns parts lines team.0)).1;
      }
