-- A desk's store after a block is taken from it, or comes to it.
use Rattle.std.proofs.Common.{◌≡◌, ℕ, ◌+◌, ◌<◌, Bool, true, false, cond, ◌&&◌, ◌≢◌, List, [], ◌∷◌}
use Rattle.std.proofs.Common.{◌++◌, length, ◌==◌, vec_capacity, sym, refl, ap, ◌∙◌, inl, inr}
use Rattle.std.proofs.Common.{⊎_elim, arith, length-append, eq-eqb, ne_eqb}
use Rattle.control_block.proofs.Prelude.{after, Block, cases_eq, cond-false, cond-true, cond_both}
use Rattle.control_block.proofs.Prelude.{Event, filter, filter-append, Has, Inside, IsDeskWith}
use Rattle.control_block.proofs.Prelude.{known, num_without, opening_of, same_stored, SeatView}
use Rattle.control_block.proofs.Prelude.{sound, spot, State, stock, Stored, stored, stored_self}
use Rattle.control_block.proofs.Prelude.{stored_true, TableId, without}
use Rattle.control_word.proofs.history.Kept.{Same}
use Rattle.control_block.proofs.desks.DeskSteps.{Came, pushed, same_tally}
use Rattle.control_block.proofs.words.Stores.{stock_few}

has_num : (x : Stored) (l : List Stored) → 0 < length (filter (same_stored x) l) → Has x l
has_num x [] n = absurd (omega arith)
has_num x (y ∷ l) n =
    cond_both (same_stored x y) (y ∷ filter (same_stored x) l) (filter (same_stored x) l) (λ r. 0 < length r → Has x (y ∷ l))
    (λ e m. inl (stored_true x y e)) (λ e m. inr (has_num x l m)) n

-- how often block q stands in a store of one block
one_block : (n q : ℕ) (b : Block) → length (filter (λ (c : Block). c.0 == q) (b ∷ [])) ≡ length
    (filter (same_stored (stored n q)) (stored n b.0 ∷ []))
one_block n q b =
    ⊎_elim
    (λ (m : b.0 ≡ q). ap length (cond-true (b.0 == q) (b ∷ []) [] (eq-eqb b.0 q m))
    ∙ sym (ap length (cond-true (same_stored (stored n q) (stored n b.0)) (stored n b.0 ∷ []) [] (λ i. eq-eqb n n refl i && eq-eqb q b.0 (sym m) i))))
    (λ (m : b.0 ≢ q). ap length (cond-false (b.0 == q) (b ∷ []) [] (ne_eqb b.0 q m))
    ∙ sym (ap length (cond-false (same_stored (stored n q) (stored n b.0)) (stored n b.0 ∷ []) []
    (λ i. eq-eqb n n refl i && ne_eqb q b.0 (λ z. m (sym z)) i))))
    (cases_eq b.0 q)

module _ {V : Type 0} {n' : ℕ} (d : Inside V) (h : IsDeskWith n' d) where
  -- the last block of the store is the desk's
  pub last_stored : (items : List Block) (b : Block) → d.store.items ≡ items ++ b ∷ [] → Has (stored d.seat.me.0.view.name b.0)
      (known d.seat.me.0).stores
  last_stored items b is =
      let n = d.seat.me.0.view.name in let p : Block → Bool = λ c. c.0 == b.0 in
      let a = ap length (ap (filter p) is ∙ filter-append p items (b ∷ [])) ∙ length-append (filter p items) (filter p (b ∷ [])) in
      let one = ap length (cond-true (b.0 == b.0) (b ∷ []) [] (eq-eqb b.0 b.0 refl)) in
      has_num (stored n b.0) (known d.seat.me.0).stores (omega (arith, h.stored b.0))

  -- a block that is taken
  pub popped : (s : State) (items : List Block) (b : Block) → Same (known d.seat.me.0) s d.seat.me.0.view.name
      → d.store.items ≡ items ++ b ∷ [] → Has (stored d.seat.me.0.view.name b.0) s.stores
      → let l = without same_stored (stored d.seat.me.0.view.name b.0) s.stores in
      ((q : ℕ) → length (filter (λ (x : Block). x.0 == q) items) ≡ length (filter (same_stored (stored d.seat.me.0.view.name q)) l))
      × (length items ≡ length (filter (λ (x : Stored). x.desk == d.seat.me.0.view.name) l))
  popped s items b same is has =
      let n = d.seat.me.0.view.name in (
        λ q.
            let p : Block → Bool = λ x. x.0 == q in
            let a = ap length (ap (filter p) is ∙ filter-append p items (b ∷ [])) ∙ length-append (filter p items) (filter p (b ∷ [])) in
            let t = same_tally n q (known d.seat.me.0) s same.in_stock in let u = h.stored q in let one = one_block n q b in
            let m = num_without same_stored stored_true stored_self (same_stored (stored n q)) (stored n b.0) s.stores has in omega arith,
        let a = ap length is ∙ length-append items (b ∷ []) in let u = h.many in let t = ap length same.in_stock in
            let m = num_without same_stored stored_true stored_self (λ (x : Stored). x.desk == n) (stored n b.0) s.stores has in
            let one = ap length (cond-true (n == n) (stored n b.0 ∷ []) [] (eq-eqb n n refl)) in omega arith,
      )

  -- a block that is put back where it is vacant
  pub put_back : (s : State) (items : List Block) (b : Block) (vacant : Bool) → Same (known d.seat.me.0) s d.seat.me.0.view.name
      → items ≡ d.store.items ++ cond vacant (b ∷ []) []
      → (l : List Stored) → l ≡ cond vacant (stored d.seat.me.0.view.name b.0 ∷ s.stores) s.stores
      → ((q : ℕ) → length (filter (λ (x : Block). x.0 == q) items) ≡ length (filter (same_stored (stored d.seat.me.0.view.name q)) l))
      × (length items ≡ length (filter (λ (x : Stored). x.desk == d.seat.me.0.view.name) l))
  put_back s items b true same is l ls = pushed d h s items b same is l ls
  put_back s items b false same is l ls =
      let n = d.seat.me.0.view.name in (
        λ q.
            let p : Block → Bool = λ x. x.0 == q in
            let a = ap length (ap (filter p) is ∙ filter-append p d.store.items []) ∙ length-append (filter p d.store.items) (filter p []) in
            let t = same_tally n q (known d.seat.me.0) s same.in_stock in let u = h.stored q in
            let e = ap (λ y. length (filter (same_stored (stored n q)) y)) ls in omega arith,
        let a = ap length is ∙ length-append d.store.items [] in let u = h.many in let t = ap length same.in_stock in
            let e = ap (λ z. length (filter (λ (x : Stored). x.desk == n) z)) ls in omega arith,
      )

  module _ (w : SeatView V) (e : Event V) (c : Came d.seat.me.0 e w) (b : ℕ) (vacant : Bool)
      (stores : (after c.state d.seat.me.0.view.name e).stores ≡ cond vacant (stored d.seat.me.0.view.name b ∷ c.state.stores) c.state.stores) where
    -- the number of vacant blocks after it
    pub stock_grows : length (stock (known w) w.view.name) ≡ length (stock (known d.seat.me.0) d.seat.me.0.view.name) + cond vacant 1 0
    stock_grows =
        let n = d.seat.me.0.view.name in
        let a : length (stock (known w) w.view.name) ≡ length
        (filter (λ (x : Stored). x.desk == n) (cond vacant (stored n b ∷ c.state.stores) c.state.stores)) =
        (λ i. length (stock (c.now i) (c.name i))) ∙ ap (λ l. length (filter (λ (x : Stored). x.desk == n) l)) stores in
        a ∙ (go vacant ∙ ap (λ k. k + cond vacant 1 0) (ap length c.same.in_stock))
      where
        go : (v : Bool) → length (filter (λ (x : Stored). x.desk == d.seat.me.0.view.name)
            (cond v (stored d.seat.me.0.view.name b ∷ c.state.stores) c.state.stores))
            ≡ length (stock c.state d.seat.me.0.view.name) + cond v 1 0
        go true =
            let n = d.seat.me.0.view.name in let rest = filter (λ (x : Stored). x.desk == n) c.state.stores in
            let y = ap length (cond-true (n == n) (stored n b ∷ rest) rest (eq-eqb n n refl)) in omega arith
        go false = omega arith

    -- there is room for a block that became vacant
    pub room_back : vacant ≡ true → length d.store.items < vec_capacity d.store
    room_back is =
        let one : ◌≡◌ {A = ℕ} (cond vacant 1 0) 1 = ap (λ (y : Bool). cond y 1 0) is in
        let few = stock_few (opening_of w.shape) (known w) w.view.name (sound (opening_of w.shape) w.view.seen c.legal) in
        let same : w.shape.blocks ≡ d.seat.me.0.shape.blocks = ap (λ (y : Rattle.control_word.specs.declared.shape.Shape.Shape). y.blocks) c.shape in
        let more = stock_grows in omega (arith, h.many, h.room)

  -- the number of vacant blocks after one was taken
  pub stock_shrinks : (w : SeatView V) (e : Event V) (c : Came d.seat.me.0 e w) (b : ℕ)
      → (after c.state d.seat.me.0.view.name e).stores ≡ without same_stored (stored d.seat.me.0.view.name b) c.state.stores
      → Has (stored d.seat.me.0.view.name b) c.state.stores
      → length (stock (known w) w.view.name) + 1 ≡ length (stock (known d.seat.me.0) d.seat.me.0.view.name)
  stock_shrinks w e c b stores has =
      let n = d.seat.me.0.view.name in
      let a : length (stock (known w) w.view.name) ≡ length (filter (λ (x : Stored). x.desk == n) (without same_stored (stored n b) c.state.stores)) =
      (λ i. length (stock (c.now i) (c.name i))) ∙ ap (λ l. length (filter (λ (x : Stored). x.desk == n) l)) stores in
      let m = num_without same_stored stored_true stored_self (λ (x : Stored). x.desk == n) (stored n b) c.state.stores has in
      let one = ap length (cond-true (n == n) (stored n b ∷ []) [] (eq-eqb n n refl)) in let t = ap length c.same.in_stock in omega arith

  -- the words of a stored block are the table's
  pub stored_word : (id : TableId) (b : ℕ) → d.seat.table_id ≡ id → Has (stored d.seat.me.0.view.name b) (known d.seat.me.0).stores
      → (0 < b) × (spot b 9 < id.words)
  stored_word id b table has =
      let v = d.seat.me.0 in let z = opening_of v.shape in
      let inside = ((sound z v.view.seen h.legal).stores v.view.name b has).1 in let words = ap (λ y. y.words) (sym table) ∙ h.sized.words in
      let l0 = inside.0 in let l1 = inside.1 in (omega arith, omega arith)
