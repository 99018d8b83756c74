-- What the two desks of a split have.
use Rattle.std.proofs.Common.{◌≡◌, ℕ, ◌+◌, ◌-◌, ◌<◌, ◌≤◌, min, max, ◌≢◌, List, [], ◌∷◌, ◌++◌, map}
use Rattle.std.proofs.Common.{length, ◌==◌, sym, refl, ap, ◌∙◌, subst, arith}
use Rattle.control_block.proofs.Prelude
use Prelude.{as_listed, bag, bag_of, bag_size, Block, blocks_of, by_block, desk_now, Entry, entry}
use Prelude.{filter, free_of, Has, has_object, HasAll, Held, held, held_of, held_self, held_true}
use Prelude.{HoldsAll, in_history, Inside, IsDesk, IsLegal, known, leads, length-map, listed}
use Prelude.{many_ending, MaySplit, num, num_length, NumberedHandle, opening_of, Parted, put_other}
use Prelude.{put_same, same_held, same_stored, SeatView, Split, splits_off, State, stock, Stored}
use Prelude.{stored, stored_self, stored_true, times, without_all}
use Rattle.std.proofs.Math.Nat.{le-max_left, le-max_right}
use Rattle.control_block.specs.declared.handles.Held.{Held as HeldValue}
use Rattle.control_block.proofs.EndingCounts.{same_count}
use Rattle.control_block.proofs.closings.EndingNames.{none_named}
use Rattle.control_block.proofs.partings.Parts.{all_from, all_to}
use Rattle.control_block.proofs.partings.PartingDesks.{Reached, reached, shown_back}
use Rattle.control_block.proofs.PartingLists.{all_back, all_map, length_less, less_all, less_map}
use Rattle.control_block.proofs.PartingLists.{part_given, part_got}
use Rattle.control_block.proofs.partings.PartingStates.{all_stored_of, none_stored, own_tally}
use Rattle.control_block.proofs.partings.PartingStates.{tallies_split}

no_length : {A : Type 0} (l : List A) → length l ≡ 0 → l ≡ []
no_length [] e = refl
no_length (x ∷ l) e = absurd (omega arith)

append_none : {A : Type 0} (l m : List A) → m ≡ [] → l ++ m ≡ l
append_none [] m e = e
append_none (x ∷ l) m e = ap (λ r. x ∷ r) (append_none l m e)

-- the list has no more handles with an object than handles
pub few_listed : (hs : List HeldValue) → length (listed hs) ≤ length hs
few_listed hs = let a = num_length has_object (map as_listed hs) in let b = length-map hs as_listed in omega arith

module _ {V : Type 0} (d : Inside V) (h : IsDesk d) (hs : List HeldValue) (holds : HoldsAll (desk_now d) hs) where
  abbrev pub v : SeatView V
  v = d.seat.me.0

  abbrev pub n : ℕ
  n = v.view.name

  -- how the desk sees what it holds, and back
  abbrev pub shows : Held → NumberedHandle
  shows x = by_block (blocks_of (known v)) x.handle

  abbrev pub back : NumberedHandle → Held
  back x = held n (by_block (known v).latest x)

  pub tells : (x : Held) → Has x (bag (known v) n) → back (shows x) ≡ x
  tells x has = shown_back v h.legal x has

  pub gone : HasAll same_held back (listed hs) (bag (known v) n)
      × (map shows (less_all same_held back (listed hs) (bag (known v) n)) ≡ without_all (listed hs) (bag_of (desk_now d)))
  gone = all_back same_held held_true held_self shows back (listed hs) (bag (known v) n) tells holds.objects

  -- no more are given than the desk holds
  pub sizes : (length (listed hs) ≤ bag_size (known v) n) × (length hs ≤ d.held) × (length hs + bag_size (known v) n ≤ d.held + length (listed hs))
  sizes =
      let a = length_less same_held held_true held_self back (listed hs) (bag (known v) n) gone.0 in
      let b = length-map (bag (known v) n) shows in let c = holds.empty in let f = few_listed hs in let e = h.holding in
      (omega arith, omega arith, omega arith)

  abbrev pub handles : List NumberedHandle
  handles = in_history (known v) hs

  pub many_handles : length handles ≡ length (listed hs)
  many_handles = length-map (listed hs) (by_block (known v).latest)

  pub all_held : HasAll same_held (λ (x : NumberedHandle). held n x) handles (bag (known v) n)
  all_held = all_map same_held held_true held_self (by_block (known v).latest) (λ (x : NumberedHandle). held n x) (listed hs) (bag (known v) n) gone.0

  pub may_split : (a keep : ℕ) (bs : List Block) → 0 < a → length hs ≤ a → a ≤ d.allowance - keep → 1 ≤ keep → d.held - length hs ≤ keep
      → ((b : ℕ) → times b bs ≤ times b d.store.items) → MaySplit v a handles bs
  may_split a keep bs more few fits one stay blocks =
      let s = sizes in let m = many_handles in let f = few_listed hs in let own = h.allowed in
      record {
        some_given = more;
        few = omega arith;
        less = omega arith;
        fits = omega arith;
        handles = all_from (λ (x : Held). x.desk) n same_held held_true (λ (x : NumberedHandle). held n x) handles (known v).hands (λ x. refl) all_held;
        blocks = all_stored_of n bs (known v).stores (λ b. let t = blocks b in let u = h.stored b in omega arith);
      }

  module _ (a : ℕ) (bs : List Block) (w u : SeatView V) (p : Parted v a handles bs w u) where
    -- the history before the event, and where it led
    abbrev pub before : List (Entry V)
    before = p.event.between ++ v.view.seen

    abbrev pub then : State
    then = leads (opening_of v.shape) before

    pub seen : w.view.seen ≡ entry n (Split p.to a handles bs) ∷ before
    seen = ap (λ (y : SeatView V). y.view.seen) p.event.now

    pub shape : w.shape ≡ v.shape
    shape = ap (λ (y : SeatView V). y.shape) p.event.now

    pub name : w.view.name ≡ n
    name = ap (λ (y : SeatView V). y.view.name) p.event.now

    pub legal : IsLegal (opening_of v.shape) (entry n (Split p.to a handles bs) ∷ before)
    legal = subst (IsLegal (opening_of v.shape)) seen p.event.legal

    pub at : Reached v before
    at = reached v p.event.between p.event.quiet legal.0

    pub now : known w ≡ splits_off n p.to a handles bs then
    now = λ i. leads (opening_of (shape i)) (seen i)

    pub apart : n ≢ p.to
    apart e = let x = legal.1.acting.0 in let y = legal.1.asks.0 in omega arith

    -- nobody had the new name
    pub named : (known v).names ≤ p.to
    named = let x = legal.1.asks.0 in let y = at.same.known in omega arith

    bag_new : filter (λ (x : Held). x.desk == p.to) then.hands ≡ []
    bag_new =
        let x = legal.1.asks.0 in let y = at.allowed.beyond p.to (omega arith) in let r = at.allowed.rooms p.to in
        no_length (bag then p.to) (omega arith)

    stock_new : filter (λ (x : Stored). x.desk == p.to) then.stores ≡ []
    stock_new = let x = legal.1.asks.0 in none_stored then p.to at.there (omega arith) then.stores (λ x has. has)

    pub bag_left : bag (known w) n ≡ less_all same_held back (listed hs) (bag (known v) n)
    bag_left =
        ap (λ (s : State). bag s n) now
        ∙ (part_given same_held held_true held_self (λ (x : NumberedHandle). held n x) (λ x. held p.to x) (λ (x : Held). x.desk) n handles then.hands
        (λ x. refl) (λ x e. apart (sym e))
        ∙ (ap (less_all same_held (λ (x : NumberedHandle). held n x) handles) at.same.in_bag
        ∙ less_map same_held held_true held_self (by_block (known v).latest) (λ (x : NumberedHandle). held n x) (listed hs) (bag (known v) n)))

    pub bag_given : bag (known w) p.to ≡ map (λ (x : NumberedHandle). held p.to x) handles
    bag_given =
        ap (λ (s : State). bag s p.to) now
        ∙ (part_got same_held held_true held_self (λ (x : NumberedHandle). held n x) (λ x. held p.to x) (λ (x : Held). x.desk) p.to handles then.hands
        (λ x e. apart e) (λ x. refl)
        ∙ append_none (map (λ (x : NumberedHandle). held p.to x) handles) (filter (λ (x : Held). x.desk == p.to) then.hands) bag_new)

    pub stock_left : stock (known w) n ≡ less_all same_stored (λ (b : Block). stored n b.0) bs (stock (known v) n)
    stock_left =
        ap (λ (s : State). stock s n) now
        ∙ (part_given same_stored stored_true stored_self (λ (b : Block). stored n b.0) (λ b. stored p.to b.0) (λ (x : Stored). x.desk) n bs
        then.stores (λ x. refl) (λ x e. apart (sym e))
        ∙ ap (less_all same_stored (λ (b : Block). stored n b.0) bs) at.same.in_stock)

    pub stock_given : stock (known w) p.to ≡ map (λ (b : Block). stored p.to b.0) bs
    stock_given =
        ap (λ (s : State). stock s p.to) now
        ∙ (part_got same_stored stored_true stored_self (λ (b : Block). stored n b.0) (λ b. stored p.to b.0) (λ (x : Stored). x.desk) p.to bs
        then.stores (λ x e. apart e) (λ x. refl)
        ∙ append_none (map (λ (b : Block). stored p.to b.0) bs) (filter (λ (x : Stored). x.desk == p.to) then.stores) stock_new)

    -- what ends with the desk ends there still, and nothing with the new one
    pub ending_left : d.endings ≡ many_ending w.shape.blocks (known w) n
    ending_left =
        h.ended ∙ sym ((λ i. many_ending (shape i).blocks (now i) n)
        ∙ same_count (opening_of v.shape) p.event.between v.view.seen n legal.0 p.event.quiet)

    pub ending_given : many_ending w.shape.blocks (known w) p.to ≡ 0
    ending_given =
        (λ i. many_ending (shape i).blocks (now i) p.to)
        ∙ none_named (opening_of v.shape) before v.shape.blocks p.to legal.0 (let t = legal.1.asks.0 in omega arith)

    pub allowance_left : (known w).allowance n ≡ (known v).allowance n - a
    allowance_left =
        ap (λ (s : State). s.allowance n) now
        ∙ (put_other (Rattle.control_word.specs.State.put then.allowance n (then.allowance n - a)) p.to a n apart
        ∙ (put_same then.allowance n (then.allowance n - a) n refl ∙ ap (λ x. x - a) at.same.may_hold))

    pub allowance_given : (known w).allowance p.to ≡ a
    allowance_given =
        ap (λ (s : State). s.allowance p.to) now
        ∙ put_same (Rattle.control_word.specs.State.put then.allowance n (then.allowance n - a)) p.to a p.to refl

    -- how often each of the two stores has a block
    pub blocks_there : HasAll same_stored (λ (b : Block). stored n b.0) bs (stock (known v) n)
    blocks_there =
        subst (HasAll same_stored (λ (b : Block). stored n b.0) bs) at.same.in_stock
        (all_to (λ (x : Stored). x.desk) n same_stored stored_true (λ (b : Block). stored n b.0) bs then.stores (λ b. refl) legal.1.asks.5)

    pub tally_left : (b : ℕ) → num (same_stored (stored n b)) (known w).stores + times b bs ≡ num (same_stored (stored n b)) (known v).stores
    tally_left b =
        let t = (tallies_split n p.to b bs then.stores apart legal.1.asks.5).0 in
        let e = ap (λ (s : State). num (same_stored (stored n b)) s.stores) now in
        let x = own_tally n b then.stores in let y = own_tally n b (known v).stores in
        let q = ap (num (same_stored (stored n b))) at.same.in_stock in omega arith

    pub tally_given : (b : ℕ) → num (same_stored (stored p.to b)) (known w).stores ≡ times b bs
    tally_given b =
        let t = (tallies_split n p.to b bs then.stores apart legal.1.asks.5).1 in
        let e = ap (λ (s : State). num (same_stored (stored p.to b)) s.stores) now in
        let x = own_tally p.to b then.stores in let q = ap (num (same_stored (stored p.to b))) stock_new in omega arith

-- what the handles that stay need of the allowance
pub record Keeps {V : Type 0} (d : Inside V) (a n : ℕ) : Type 0 where
  pub kept : ℕ
  pub some : 1 ≤ kept
  pub handles : d.held - n ≤ kept
  pub given : a ≤ d.allowance - kept
  pub within : d.held - n + min 1 d.endings ≤ d.allowance - a

pub keeps : {V : Type 0} (d : Inside V) → IsDesk d → (a n : ℕ) → 0 < a → n ≤ d.held → a ≤ free_of (desk_now d) n → Keeps d a n
keeps d h a n some few free =
    let e = h.ended in let w = h.allowed in
    let k = max 1 (d.held + min 1 d.endings - n) in
    let same : max 1 (held_of (desk_now d) - n) ≡ k = ap (λ x. max 1 (d.held + min 1 x - n)) (sym e) in
    let l = le-max_left 1 (d.held + min 1 d.endings - n) in let r = le-max_right 1 (d.held + min 1 d.endings - n) in
    let f : a ≤ d.allowance - k = omega (arith, free, w, same) in
    record { kept = k; some = l; handles = omega (arith, r); given = f; within = omega (arith, r, l, f, some, few) }
