-- What the two desks of a split and of a join have of a state, before and after.
use Rattle.std.proofs.Common.{◌≡◌, ℕ, zero, suc, ◌+◌, ◌<◌, ◌≤◌, Bool, true, false, cond, ◌&&◌, ◌≢◌}
use Rattle.std.proofs.Common.{◌⊎◌, List, [], ◌∷◌, map, length, ◌==◌, sym, refl, ap, ◌∙◌, inl, inr}
use Rattle.std.proofs.Common.{⊎_elim, arith, eq-eqb, ne_eqb, eqb-true}
use Rattle.control_block.proofs.Prelude
use Prelude.{after, all_stored, Asks, Block, cases_eq, ClearMember, Compare, cond-false, cond-true}
use Prelude.{cond_both, Count, Entry, Event, Expired, filter, Finish, Free, fun_ext, Has}
use Prelude.{has_before, HasAll, IsActing, IsLegal, Join, leads, Leave, Load, Lock, Make, Member}
use Prelude.{num, num_cons, num_map, num_none, num_passes, num_without, Opening, passed, Read}
use Prelude.{renamed, Same, same_stored, Share, Shelve, Split, State, Stored, stored, stored_self}
use Prelude.{stored_true, Swap, times, Unshelve, Visit, WeakLeave, WeakShare, without}

-- Each stored block is with a desk that there is
abbrev pub StoredThere : State → Type 0
StoredThere s = (x : Stored) → Has x s.stores → x.desk < s.names

one_more : (v : Bool) (d b : ℕ) (l : List Stored) (x : Stored) → Has x (cond v (stored d b ∷ l) l) → (x.desk ≡ d) ⊎ Has x l
one_more true d b l x (inl e) = inl (ap (λ (y : Stored). y.desk) e)
one_more true d b l x (inr h) = inr h
one_more false d b l x h = inr h

has_passed : (d to : ℕ) (bs : List Block) (l : List Stored) (x : Stored)
    → Has x (passed same_stored (λ (b : Block). stored d b.0) (λ b. stored to b.0) bs l) → (x.desk ≡ to) ⊎ Has x l
has_passed d to [] l x h = inr h
has_passed d to (b ∷ bs) l x (inl e) = inl (ap (λ (y : Stored). y.desk) e)
has_passed d to (b ∷ bs) l x (inr h) =
    ⊎_elim inl (λ (t : Has x (without same_stored (stored d b.0) l)). inr (has_before same_stored stored_true stored_self x (stored d b.0) l t))
    (has_passed d to bs (without same_stored (stored d b.0) l) x h)

has_renamed : (other d : ℕ) (l : List Stored) (x : Stored) → Has x (map (λ (y : Stored). stored (renamed other d y.desk) y.block) l)
    → (x.desk ≡ d) ⊎ ((y : Stored) × Has y l × (x.desk ≡ y.desk))
has_renamed other d [] x h = absurd h
has_renamed other d (y ∷ l) x (inl e) =
    ⊎_elim (λ (q : y.desk ≡ other). inl (ap (λ (u : Stored). u.desk) e ∙ cond-true (y.desk == other) d y.desk (eq-eqb y.desk other q)))
    (λ (n : y.desk ≢ other). inr (y, inl refl, ap (λ (u : Stored). u.desk) e ∙ cond-false (y.desk == other) d y.desk (ne_eqb y.desk other n)))
    (cases_eq y.desk other)
has_renamed other d (y ∷ l) x (inr h) =
    ⊎_elim inl (λ (t : (u : Stored) × Has u l × (x.desk ≡ u.desk)). inr (t.0, inr t.1, t.2)) (has_renamed other d l x h)

vacated_there : (s : State) (d b : ℕ) (v : Bool) → IsActing s d → StoredThere s → (x : Stored)
    → Has x (cond v (stored d b ∷ s.stores) s.stores) → x.desk < s.names
vacated_there s d b v acts there x h =
    ⊎_elim (λ (e : x.desk ≡ d). let a = acts.0 in omega arith) (λ (t : Has x s.stores). there x t) (one_more v d b s.stores x h)

there_first : (z : Opening) (n : ℕ) → ((b : ℕ) → z.holder b < z.desks) → (x : Stored) → Has x (all_stored z.holder n) → x.desk < z.desks
there_first z zero low x h = absurd h
there_first z (suc n) low x (inl e) = let a = low (suc n) in let b = ap (λ (y : Stored). y.desk) e in omega arith
there_first z (suc n) low x (inr h) = there_first z n low x h

module _ {V : Type 0} where
  there_after : (s : State) (d : ℕ) (e : Event V) → IsActing s d → Asks s d e → StoredThere s → StoredThere (after s d e)
  there_after s d (Make b enabled null fields val) acts asks there = λ x h.
      there x (has_before same_stored stored_true stored_self x (stored d b.0) s.stores h)
  there_after s d (Share y p) acts asks there = there
  there_after s d (Leave y last) acts asks there = there
  there_after s d (Count y c) acts asks there = there
  there_after s d (Expired y c) acts asks there = there
  there_after s d (Read y c) acts asks there = there
  there_after s d (Same c h so) acts asks there = there
  there_after s d (WeakShare o p) acts asks there = there
  there_after s d (WeakLeave y v) acts asks there =
      vacated_there s d (s.object (Rattle.control_word.specs.Handles.object_of y)).block v acts there
  there_after s d (Lock y g) acts asks there = there
  there_after s d (Load c y) acts asks there = there
  there_after s d (Swap (Free c) y w) acts asks there = there
  there_after s d (Swap (Member o m) y w) acts asks there = there
  there_after s d (Compare (Free c) u y w true k) acts asks there = there
  there_after s d (Compare (Member o m) u y w true k) acts asks there = there
  there_after s d (Compare c u y w false k) acts asks there = there
  there_after s d (ClearMember o m y) acts asks there = there
  there_after s d (Finish o v val) acts asks there = vacated_there s d (s.object o).block v acts there
  there_after s d (Visit y c w) acts asks there = there
  there_after s d (Split to n hs bs) acts asks there = λ x h.
      ⊎_elim (λ (e : x.desk ≡ to). let a = asks.0 in omega arith) (λ (t : Has x s.stores). let a = there x t in omega arith)
      (has_passed d to bs s.stores x h)
  there_after s d (Join other) acts asks there = λ x h.
      ⊎_elim (λ (e : x.desk ≡ d). let a = acts.0 in omega arith)
      (λ (t : (y : Stored) × Has y s.stores × (x.desk ≡ y.desk)). let a = there t.0 t.1 in let b = t.2 in omega arith)
      (has_renamed other d s.stores x h)
  there_after s d (Shelve b) acts asks there = λ x h.
      there x (has_before same_stored stored_true stored_self x (stored d b.0) s.stores h)
  there_after s d (Unshelve b) acts asks there = vacated_there s d b.0 true acts there

  pub stored_there : (z : Opening) (h : List (Entry V)) → IsLegal z h → StoredThere (leads z h)
  stored_there z [] legal = there_first z z.blocks legal.holders
  stored_there z (e ∷ h) legal = there_after (leads z h) e.desk e.event legal.1.acting legal.1.asks (stored_there z h legal.0)

-- a name that no desk has yet has no blocks
pub none_stored : (s : State) (to : ℕ) → StoredThere s → s.names ≤ to → (l : List Stored) → ((x : Stored) → Has x l → Has x s.stores)
    → filter (λ (x : Stored). x.desk == to) l ≡ []
none_stored s to there le [] sub = refl
none_stored s to there le (x ∷ l) sub =
    let apart : x.desk ≢ to = λ e. let a = there x (sub x (inl refl)) in omega arith in
    let rest = filter (λ (y : Stored). y.desk == to) l in
    cond-false (x.desk == to) (x ∷ rest) rest (ne_eqb x.desk to apart) ∙ none_stored s to there le l (λ y h. sub y (inr h))

same_ways : (a b : ℕ) → (a == b) ≡ (b == a)
same_ways a b =
    ⊎_elim (λ (e : a ≡ b). eq-eqb a b e ∙ sym (eq-eqb b a (sym e)))
    (λ (n : a ≢ b). ne_eqb a b n ∙ sym (ne_eqb b a (λ e. n (sym e)))) (cases_eq a b)

-- how often a desk's store has a block of a list
pub times_stored : (d b : ℕ) (bs : List Block) → length (filter (λ (c : Block). same_stored (stored d b) (stored d c.0)) bs) ≡ times b bs
times_stored d b bs =
    ap (λ (p : Block → Bool). length (filter p bs)) (fun_ext (λ (c : Block). (λ i. eq-eqb d d refl i && (b == c.0)) ∙ same_ways b c.0))

times_else : (d e b : ℕ) (bs : List Block) → d ≢ e → length (filter (λ (c : Block). same_stored (stored d b) (stored e c.0)) bs) ≡ 0
times_else d e b bs n = num_none (λ (c : Block). same_stored (stored d b) (stored e c.0)) bs (λ c i. ne_eqb d e n i && (b == c.0))

-- the blocks of a list are in a store that has each as often
pub all_stored_of : (d : ℕ) (bs : List Block) (l : List Stored) → ((b : ℕ) → times b bs ≤ num (same_stored (stored d b)) l)
    → HasAll same_stored (λ (b : Block). stored d b.0) bs l
all_stored_of d [] l le = tt
all_stored_of d (c ∷ bs) l le =
    let here : Has (stored d c.0) l = found l (let a = le c.0 in
    let b = ap length (cond-true (c.0 == c.0) (c ∷ filter (λ (x : Block). x.0 == c.0) bs)
    (filter (λ (x : Block). x.0 == c.0) bs) (eq-eqb c.0 c.0 refl)) in omega arith) in (
      here,
      all_stored_of d bs (without same_stored (stored d c.0) l) (λ b.
          let a = le b in let p = num_cons (λ (x : Block). x.0 == b) c bs in
          let q = num_without same_stored stored_true stored_self (same_stored (stored d b)) (stored d c.0) l here in
          let r = times_stored d b (c ∷ []) in let u = num_map (same_stored (stored d b)) (λ (x : Block). stored d x.0) (c ∷ []) in omega arith),
    )
  where
    found : (m : List Stored) → 0 < num (same_stored (stored d c.0)) m → Has (stored d c.0) m
    found [] lt = absurd (omega arith)
    found (x ∷ m) lt =
        cond_both (same_stored (stored d c.0) x) (x ∷ filter (same_stored (stored d c.0)) m) (filter (same_stored (stored d c.0)) m)
        (λ r. 0 < length r → Has (stored d c.0) (x ∷ m)) (λ e q. inl (stored_true (stored d c.0) x e)) (λ e q. inr (found m q)) lt

-- the tallies of the two stores after a split
pub tallies_split : (d to b : ℕ) (bs : List Block) (l : List Stored) → d ≢ to → HasAll same_stored (λ (c : Block). stored d c.0) bs l
    → let m = passed same_stored (λ (c : Block). stored d c.0) (λ c. stored to c.0) bs l in
    (num (same_stored (stored d b)) m + times b bs ≡ num (same_stored (stored d b)) l)
    × (num (same_stored (stored to b)) m ≡ times b bs + num (same_stored (stored to b)) l)
tallies_split d to b bs l apart all =
    let was = λ (c : Block). stored d c.0 in let is = λ (c : Block). stored to c.0 in
    let one = num_passes same_stored stored_true stored_self was is (same_stored (stored d b)) bs l all in
    let two = num_passes same_stored stored_true stored_self was is (same_stored (stored to b)) bs l all in
    let a = num_map (same_stored (stored d b)) was bs in let a' = times_stored d b bs in
    let p = num_map (same_stored (stored d b)) is bs in let p' = times_else d to b bs apart in
    let e = num_map (same_stored (stored to b)) was bs in let e' = times_else to d b bs (λ q. apart (sym q)) in
    let f = num_map (same_stored (stored to b)) is bs in let f' = times_stored to b bs in (omega arith, omega arith)

-- what passes one test in the part that passes another, which it does anyway
num_part : {A : Type 0} (p q : A → Bool) → ((x : A) → p x ≡ true → q x ≡ true) → (l : List A) → num p (filter q l) ≡ num p l
num_part p q also [] = refl
num_part p q also (x ∷ l) =
    let t = num_part p q also l in let a = num_cons p x l in
    cond_both (q x) (x ∷ filter q l) (filter q l) (λ r. num p r ≡ num p (x ∷ l)) (λ e. let b = num_cons p x (filter q l) in omega arith)
    (λ e. cond_both (p x) (x ∷ filter p l) (filter p l) (λ r. num p (filter q l) ≡ length r)
    (λ s. absurd (let u = sym (also x s) ∙ e in cc)) (λ s. t))

-- a desk's blocks are told by its part
pub own_tally : (d b : ℕ) (l : List Stored)
    → num (same_stored (stored d b)) (filter (λ (x : Stored). x.desk == d) l) ≡ num (same_stored (stored d b)) l
own_tally d b l =
    num_part (same_stored (stored d b)) (λ (x : Stored). x.desk == d)
    (λ x e. eq-eqb x.desk d (sym (ap (λ (y : Stored). y.desk) (stored_true (stored d b) x e)))) l

pub times_has : (b : ℕ) (l : List Block) → 0 < times b l → Has record { 0 = b } l
times_has b [] lt = absurd (omega arith)
times_has b (c ∷ l) lt =
    cond_both (c.0 == b) (c ∷ filter (λ (x : Block). x.0 == b) l) (filter (λ (x : Block). x.0 == b) l)
    (λ r. 0 < length r → Has record { 0 = b } (c ∷ l))
    (λ e q. inl (λ i. record { 0 = sym (eqb-true c.0 b e) i })) (λ e q. inr (times_has b l q)) lt

pub stored_from : (d : ℕ) (bs : List Block) (x : Stored) → Has x (map (λ (b : Block). stored d b.0) bs) → Has record { 0 = x.block } bs
stored_from d [] x h = absurd h
stored_from d (b ∷ bs) x (inl e) = inl (λ i. record { 0 = (ap (λ (y : Stored). y.block) e) i })
stored_from d (b ∷ bs) x (inr h) = inr (stored_from d bs x h)
