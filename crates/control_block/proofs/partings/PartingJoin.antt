-- What the desk of a join has.
use Rattle.std.proofs.Common.{◌≡◌, ℕ, suc, ◌+◌, ◌≤◌, Bool, ◌≢◌, List, ◌∷◌, ◌++◌, map, length, ◌==◌}
use Rattle.std.proofs.Common.{sym, refl, ap, ◌∙◌, subst, append_assoc, arith, length-append}
use Rattle.control_block.proofs.Prelude
use Prelude.{allowed, bag, bag_of, bag_size, Belongs, blocks_of, by_block, cond_both, desk_now}
use Prelude.{DeskNow, DomainNow, ending, ends_with, Entry, entry, filter, handed, Held, held}
use Prelude.{Inside, IsDesk, IsLegal, IsPermutation, Join, JoinsUp, known, Knows, leads}
use Prelude.{length-map, length_permutation, many_ending, map-append, num, NumberedHandle}
use Prelude.{opening_of, put, put_other, put_same, renamed, same_stored, SeatView, Shape, sound}
use Prelude.{State, stock, Stored, stored, sum_below, value}
use Rattle.std.proofs.lemmas.List.Sorted.{IsPermutation-map}
use Rattle.control_word.proofs.history.Kept.{Same}
use Rattle.control_word.specs.Events.{joins_up}
use Rattle.control_block.proofs.words.Seats.{none_by}
use Rattle.control_block.proofs.EndingCounts.{few_ending, handed_count, same_count}
use Rattle.control_block.proofs.Endings.{still_ends}
use Rattle.control_block.proofs.partings.PartingDesks.{allowance_within, reached, shown_alike}
use Rattle.control_block.proofs.PartingLists.{map_same, map_twice}
use Rattle.control_block.proofs.partings.PartingMerge.{both_parts, filter_map, is_either}
use Rattle.control_block.proofs.partings.PartingMerge.{tallies_join}
use Rattle.control_block.proofs.partings.PartingStates.{own_tally}
use Rattle.control_block.proofs.words.Stores.{stock_few}
use Rattle.control_word.specs.Limits.{most_allowance, most_blocks}

module _ {V : Type 0} where
  -- two desks of a domain have its shape
  pub same_shapes : (a b y x : DeskNow V) (k : DomainNow) → a ≡ y → b ≡ x → Belongs y k × Belongs x k → b.shape ≡ a.shape
  same_shapes a b y x k is was here =
      ap (λ (z : DeskNow V). z.shape) was ∙ ((here.1.shape ∙ sym here.0.shape) ∙ sym (ap (λ (z : DeskNow V). z.shape) is))

  -- What one of the two has in the state to which the history before the join led
  pub record Side (x : SeatView V) (k : Shape) (h : List (Entry V)) : Type 0 where
    pub same : Same (known x) (leads (opening_of k) h) x.view.name
    pub count : many_ending x.shape.blocks (leads (opening_of k) h) x.view.name ≡ many_ending x.shape.blocks (known x) x.view.name
    pub blocks : (o : ℕ) → o ≤ (known x).made → blocks_of (leads (opening_of k) h) o ≡ blocks_of (known x) o
    pub ends : (b : ℕ) → ((known x).object ((known x).latest b)).phase ≡ ending x.view.name
        → ((leads (opening_of k) h).latest b ≡ (known x).latest b)
        × (((leads (opening_of k) h).object ((known x).latest b)).phase ≡ ending x.view.name)
        × (value (opening_of k) h ((known x).latest b) ≡ value (opening_of x.shape) x.view.seen ((known x).latest b))
        × ((m : ℕ) → ((leads (opening_of k) h).object ((known x).latest b)).member m ≡ ((known x).object ((known x).latest b)).member m)

  pub side : (x : SeatView V) (k : Shape) (h : List (Entry V)) → x.shape ≡ k → Knows x.view.name h x.view.seen → IsLegal (opening_of k) h → Side x k h
  side x k h shape knows legal =
      subst (λ c. IsLegal (opening_of c) h → Side x c h) shape
      (λ l. subst (λ s. Side x x.shape s) (sym knows.1) (go knows.0 (subst (IsLegal (opening_of x.shape)) knows.1 l) knows.2)) legal
    where
      go : (later : List (Entry V)) → IsLegal (opening_of x.shape) (later ++ x.view.seen)
          → Rattle.control_word.specs.Views.NoneBy x.view.name later → Side x x.shape (later ++ x.view.seen)
      go later l quiet =
          let r = reached x later quiet l in
          record {
            same = r.same;
            count = same_count (opening_of x.shape) later x.view.seen x.view.name l quiet;
            blocks = r.blocks;
            ends = λ b e.
                let t = still_ends (opening_of x.shape) later x.view.seen b x.view.name l quiet e in (t.latest, t.object.phase ∙ e, t.value, t.object.member);
          }

  module _ (d o : Inside V) (h : IsDesk d) (i : IsDesk o) (shapes : o.seat.me.0.shape ≡ d.seat.me.0.shape) (u : SeatView V)
      (j : JoinsUp d.seat.me.0 o.seat.me.0 u) where
    abbrev pub v : SeatView V
    v = d.seat.me.0

    abbrev pub w : SeatView V
    w = o.seat.me.0

    abbrev pub n : ℕ
    n = v.view.name

    abbrev pub m : ℕ
    m = w.view.name

    abbrev pub before : List (Entry V)
    before = j.between ++ j.front

    abbrev pub then : State
    then = leads (opening_of v.shape) before

    pub seen : u.view.seen ≡ entry n (Join m) ∷ before
    seen = ap (λ (y : SeatView V). y.view.seen) j.now

    pub shape : u.shape ≡ v.shape
    shape = ap (λ (y : SeatView V). y.shape) j.now

    pub name : u.view.name ≡ n
    name = ap (λ (y : SeatView V). y.view.name) j.now

    pub legal : IsLegal (opening_of v.shape) (entry n (Join m) ∷ before)
    legal = subst (IsLegal (opening_of v.shape)) seen j.legal

    pub mine : Knows n before v.view.seen
    mine = (
      j.between ++ j.mine.0,
      ap (λ l. j.between ++ l) j.mine.1 ∙ sym (append_assoc j.between j.mine.0 v.view.seen),
      none_by n j.between j.mine.0 j.quiet.0 j.mine.2,
    )

    pub others : Knows m before w.view.seen
    others = (
      j.between ++ j.others.0,
      ap (λ l. j.between ++ l) j.others.1 ∙ sym (append_assoc j.between j.others.0 w.view.seen),
      none_by m j.between j.others.0 j.quiet.1 j.others.2,
    )

    pub one : Side v v.shape before
    one = side v v.shape before refl mine legal.0

    pub two : Side w v.shape before
    two = side w v.shape before shapes others legal.0

    pub apart : m ≢ n
    apart = legal.1.asks.0

    pub now : known u ≡ joins_up n m then
    now = λ k. leads (opening_of (shape k)) (seen k)

    -- what ended with either ends with the one
    pub endings_after : many_ending u.shape.blocks (known u) n ≡ d.endings + o.endings
    endings_after =
        let a : many_ending u.shape.blocks (known u) n ≡ sum_below v.shape.blocks (λ q. ends_with n (handed m n (then.object (then.latest (suc q))).phase)) =
        λ k. many_ending (shape k).blocks (now k) n in
        let b = handed_count v.shape.blocks then n m apart in
        let c : many_ending v.shape.blocks then m ≡ o.endings =
        subst (λ (y : Shape). many_ending y.blocks then m ≡ o.endings) shapes (two.count ∙ sym i.ended) in
        let e : many_ending v.shape.blocks then n ≡ d.endings = one.count ∙ sym h.ended in
        omega arith

    pub endings_few : d.endings + o.endings ≤ most_blocks
    endings_few = let t = few_ending u.shape.blocks (known u) n in let e = endings_after in let a = h.limits.blocks in
        let s = ap (λ (y : Shape). y.blocks) shape in omega arith

    pub allowance_after : (known u).allowance n ≡ (known v).allowance n + (known w).allowance m
    allowance_after =
        ap (λ (s : State). s.allowance n) now
        ∙ (put_other (put then.allowance n (then.allowance n + then.allowance m)) m 0 n (λ e. apart (sym e))
        ∙ (put_same then.allowance n (then.allowance n + then.allowance m) n refl ∙ (λ k. one.same.may_hold k + two.same.may_hold k)))

    -- allowances together are no more than there is
    pub allowance_few : d.allowance + o.allowance ≤ most_allowance
    allowance_few =
        let t = allowance_within (opening_of v.shape) (known u) n (allowed_now) in let a = h.limits.allowance in let e = allowance_after in
        let x = h.allowed in let y = i.allowed in omega arith
      where
        allowed_now : Rattle.control_word.proofs.history.Soundness.Allowed (opening_of v.shape) (known u)
        allowed_now = subst (Rattle.control_word.proofs.history.Soundness.Allowed (opening_of v.shape)) (sym now)
            (allowed (opening_of v.shape) (entry n (Join m) ∷ before) legal)

    -- the things of the two
    bag_after : bag (known u) n
        ≡ map (λ (x : Held). held (renamed m n x.desk) x.handle) (filter (is_either m n apart (λ (x : Held). x.desk)) then.hands)
    bag_after =
        ap (λ (s : State). bag s n) now
        ∙ filter_map (λ (x : Held). x.desk == n) (λ (x : Held). held (renamed m n x.desk) x.handle) then.hands

    stock_after : stock (known u) n
        ≡ map (λ (x : Stored). stored (renamed m n x.desk) x.block) (filter (is_either m n apart (λ (x : Stored). x.desk)) then.stores)
    stock_after =
        ap (λ (s : State). stock s n) now
        ∙ filter_map (λ (x : Stored). x.desk == n) (λ (x : Stored). stored (renamed m n x.desk) x.block) then.stores

    pub stock_sum : length (stock (known u) n) ≡ length (stock (known v) n) + length (stock (known w) m)
    stock_sum =
        let p = both_parts m n apart (λ (x : Stored). x.desk) then.stores in
        let a = ap length stock_after in
        let b = length-map (filter (is_either m n apart (λ (x : Stored). x.desk)) then.stores)
        (λ (x : Stored). stored (renamed m n x.desk) x.block) in
        let e = length_permutation (stock then n ++ stock then m) (filter (is_either m n apart (λ (x : Stored). x.desk)) then.stores) p in
        let c = length-append (stock then n) (stock then m) in
        let x = ap length one.same.in_stock in let y = ap length two.same.in_stock in omega arith

    pub bag_sum : bag_size (known u) n ≡ bag_size (known v) n + bag_size (known w) m
    bag_sum =
        let p = both_parts m n apart (λ (x : Held). x.desk) then.hands in
        let a = ap length bag_after in
        let b = length-map (filter (is_either m n apart (λ (x : Held). x.desk)) then.hands) (λ (x : Held). held (renamed m n x.desk) x.handle) in
        let e = length_permutation (bag then n ++ bag then m) (filter (is_either m n apart (λ (x : Held). x.desk)) then.hands) p in
        let c = length-append (bag then n) (bag then m) in let x = ap length one.same.in_bag in let y = ap length two.same.in_bag in omega arith

    pub stock_most : length (stock (known u) n) ≤ v.shape.blocks
    stock_most =
        stock_few (opening_of v.shape) (known u) n
        (subst (Rattle.control_word.proofs.history.Soundness.Sound (opening_of v.shape)) (sym now)
        (sound (opening_of v.shape) (entry n (Join m) ∷ before) legal))

    pub tally_sum : (b : ℕ) → num (same_stored (stored n b)) (known u).stores
        ≡ num (same_stored (stored n b)) (known v).stores + num (same_stored (stored m b)) (known w).stores
    tally_sum b =
        let t = tallies_join m n apart b then.stores in let e = ap (λ (s : State). num (same_stored (stored n b)) s.stores) now in
        let x = own_tally n b then.stores in let x' = own_tally n b (known v).stores in
        let p = ap (num (same_stored (stored n b))) one.same.in_stock in
        let y = own_tally m b then.stores in let y' = own_tally m b (known w).stores in
        let q = ap (num (same_stored (stored m b))) two.same.in_stock in
        omega arith

    -- all handles are in the blocks in which the two knew them
    abbrev shows : Held → NumberedHandle
    shows x = by_block (blocks_of (known u)) x.handle

    still_in : (s : SeatView V) → Side s v.shape before → (q : ℕ) → q ≤ (known s).made → blocks_of (known u) q ≡ blocks_of (known s) q
    still_in s sd q made = ap (λ (y : State). blocks_of y q) now ∙ sd.blocks q made

    mine_shown : map shows (bag then n) ≡ bag_of (desk_now d)
    mine_shown =
        ap (map shows) one.same.in_bag
        ∙ map_same shows (λ (x : Held). by_block (blocks_of (known v)) x.handle) (bag (known v) n)
        (λ x has. shown_alike v h.legal x has (known u) (still_in v one))

    others_shown : map shows (bag then m) ≡ bag_of (desk_now o)
    others_shown =
        ap (map shows) two.same.in_bag
        ∙ map_same shows (λ (x : Held). by_block (blocks_of (known w)) x.handle) (bag (known w) m)
        (λ x has. shown_alike w i.legal x has (known u) (still_in w two))

    pub bag_shown : IsPermutation (bag_of (desk_now d) ++ bag_of (desk_now o)) (map shows (bag (known u) n))
    bag_shown =
        let f = λ (x : Held). held (renamed m n x.desk) x.handle in let all = filter (is_either m n apart (λ (x : Held). x.desk)) then.hands in
        let p = IsPermutation-map shows (bag then n ++ bag then m) all (both_parts m n apart (λ (x : Held). x.desk) then.hands) in
        let left : map shows (bag then n ++ bag then m) ≡ bag_of (desk_now d) ++ bag_of (desk_now o) =
        map-append shows (bag then n) (bag then m) ∙ (λ k. mine_shown k ++ others_shown k) in
        let right : map shows all ≡ map shows (bag (known u) n) = sym (ap (map shows) bag_after ∙ map_twice f shows all) in
        subst (λ (y : List NumberedHandle × List NumberedHandle). IsPermutation y.0 y.1) (λ k. (left k, right k)) p

    -- what ends with either ends with the one
    pub ends_after : (s : SeatView V) → Side s v.shape before → handed m n (ending s.view.name) ≡ ending n → (b : ℕ)
        → ((known s).object ((known s).latest b)).phase ≡ ending s.view.name
        → (((known u).object ((known u).latest b)).phase ≡ ending n)
        × (value (opening_of u.shape) u.view.seen ((known u).latest b) ≡ value (opening_of s.shape) s.view.seen ((known s).latest b))
        × ((m : ℕ) → ((known u).object ((known u).latest b)).member m ≡ ((known s).object ((known s).latest b)).member m)
    ends_after s sd to b e =
        let t = sd.ends b e in (
          ap (λ (y : State). (y.object (y.latest b)).phase) now
              ∙ (ap (λ q. handed m n (then.object q).phase) t.0 ∙ (ap (handed m n) t.1 ∙ to)),
          (λ k. value (opening_of (shape k)) (seen k) ((now k).latest b)) ∙ (ap (value (opening_of v.shape) before) t.0 ∙ t.2),
          λ q. ap (λ (y : State). (y.object (y.latest b)).member q) now ∙ (ap (λ j. (then.object j).member q) t.0 ∙ t.3 q),
        )

    -- a name that is told anew
    pub own_name : handed m n (ending n) ≡ ending n
    own_name = ap ending (cond_both (n == m) n n (λ x. x ≡ n) (λ _. refl) (λ _. refl))

    pub other_name : handed m n (ending m) ≡ ending n
    other_name = ap ending (Rattle.std.proofs.lemmas.Bool.cond-true (m == m) n m (Rattle.std.proofs.Common.eq-eqb m m refl))
