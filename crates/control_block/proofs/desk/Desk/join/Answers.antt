use Rattle.std.proofs.Common.{◌≡◌, ℕ, ◌+◌, ◌≤◌, List, ◌++◌, length, vec_capacity, sym, ap, ◌∙◌}
use Rattle.std.proofs.Common.{subst, arith, length-append}
use Rattle.control_block.proofs.Prelude
use Prelude.{allowance_of, bag, bag_of, bag_size, blocks_of, by_block, DeskNow, endings_of, filter}
use Prelude.{Held, IsEnding, IsLegal, IsPermutation, IsSized, IsWithinLimits, known, many_ending}
use Prelude.{member_in, NumberedHandle, opening_of, same_stored, SeatView, Shape, stock, stock_of}
use Prelude.{stored, TableId, times}
use Rattle.control_block.specs.Parting.{JoinsWith}
use Rattle.control_block.proofs.partings.PartingDesks.{desk_of}
use Rattle.control_block.proofs.partings.PartingCounts.{both_in}
use Rattle.control_block.proofs.partings.PartingJoin as joining
use Rattle.control_block.proofs.partings.PartingOrder.{times_append}
use Rattle.control_block.proofs.desk.Desk.join.Goals as goal

pub append_all-requires : goal.append_all-requires
append_all-requires g c =
    let d = c.self.inside in let o = c.other.inside in let h = c.self.invariant in let k = c.other.invariant in
    let shapes = joining.same_shapes _ _ _ _ _ c.self.view_is c.other.view_is c.requires.domain in
    let u = c.join.new.seat.me.0 in let j = c.join.ensures.event in
    let few = joining.stock_most d o h k shapes u j in let sum = joining.stock_sum d o h k shapes u j in
    omega (arith, h.room, h.many, k.many, ap length c.as_slice.ensures.value)

pub overflow_add-self : goal.overflow_add-self
overflow_add-self g c =
    let shapes = joining.same_shapes _ _ _ _ _ c.self.view_is c.other.view_is c.requires.domain in
    let u = c.join.new.seat.me.0 in let j = c.join.ensures.event in
    let few = joining.allowance_few c.self.inside c.other.inside c.self.invariant c.other.invariant shapes u j in omega arith

pub overflow_add-self-2 : goal.overflow_add-self-2
overflow_add-self-2 g c =
    let shapes = joining.same_shapes _ _ _ _ _ c.self.view_is c.other.view_is c.requires.domain in
    let u = c.join.new.seat.me.0 in let j = c.join.ensures.event in
    let few = joining.allowance_few c.self.inside c.other.inside c.self.invariant c.other.invariant shapes u j in
    omega (arith, c.self.invariant.within, c.other.invariant.within)

pub overflow_add-self-3 : goal.overflow_add-self-3
overflow_add-self-3 g c =
    let shapes = joining.same_shapes _ _ _ _ _ c.self.view_is c.other.view_is c.requires.domain in
    let u = c.join.new.seat.me.0 in let j = c.join.ensures.event in
    let few = joining.endings_few c.self.inside c.other.inside c.self.invariant c.other.invariant shapes u j in omega arith

pub returns-clause-count : goal.returns-clause-count
returns-clause-count g c =
    let d = c.self.inside in let o = c.other.inside in let h = c.self.invariant in let k = c.other.invariant in
    let shapes = joining.same_shapes _ _ _ _ _ c.self.view_is c.other.view_is c.requires.domain in
    let u = c.join.new.seat.me.0 in let j = c.join.ensures.event in
    ap (many_ending u.shape.blocks (known u)) (joining.name d o h k shapes u j) ∙ (joining.endings_after d o h k shapes u j
    ∙ ((λ i. h.ended i + k.ended i) ∙ (λ i. endings_of (c.self.view_is i) + endings_of (c.other.view_is i))))

pub invariant_of-self : goal.invariant_of-self
invariant_of-self g c =
    let d = c.self.inside in let o = c.other.inside in let h = c.self.invariant in let k = c.other.invariant in
    let shapes = joining.same_shapes _ _ _ _ _ c.self.view_is c.other.view_is c.requires.domain in
    let u = c.join.new.seat.me.0 in let j = c.join.ensures.event in let n = d.seat.me.0.view.name in
    let shape = joining.shape d o h k shapes u j in let name = joining.name d o h k shapes u j in
    let allowance = joining.allowance_after d o h k shapes u j in let bags = joining.bag_sum d o h k shapes u j in
    let stocks = joining.stock_sum d o h k shapes u j in
    let items = c.append_all.ensures.0 ∙ ap (λ l. d.store.items ++ l) c.as_slice.ensures.value in
    desk_of _ u (λ i. (u, c.join.ensures.seat.2 i)) (
      ap (λ (y : SeatView _). y.view.spent) j.now ∙ h.rests.awake,
      ap (λ (y : SeatView _). y.view.pending) j.now,
      ap (λ (y : SeatView _). y.hand) j.now,
    )
    (subst (λ (y : Shape). IsLegal (opening_of y) u.view.seen) (sym shape) j.legal)
    (subst IsWithinLimits (sym shape) h.limits)
    (subst (λ (y : TableId × Shape). IsSized y.0 y.1) (λ i. (sym c.join.ensures.seat.0 i, sym shape i)) h.sized)
    (subst (λ y. d.allowance + o.allowance ≡ (known u).allowance y) (sym name) (omega (arith, h.allowed, k.allowed)))
    (subst (λ y. bag_size (known u) y ≤ d.held + o.held) (sym name) (omega (arith, h.holding, k.holding)))
    (omega (arith, h.within, k.within))
    (λ b. subst (λ y. times b c.append_all.new.store.items ≡ length (filter (same_stored (stored y b)) (known u).stores)) (sym name)
    (let a = ap (times b) items ∙ times_append b d.store.items o.store.items in let t = joining.tally_sum d o h k shapes u j b in
    let x = h.stored b in let y = k.stored b in omega arith))
    (subst (λ y. length c.append_all.new.store.items ≡ length (stock (known u) y)) (sym name)
    (let a = ap length items ∙ length-append d.store.items o.store.items in omega (arith, h.many, k.many)))
    (subst (λ (y : Shape). y.blocks ≤ vec_capacity c.append_all.new.store) (sym shape) (omega (arith, h.room, c.append_all.ensures.1)))
    (subst (λ y. d.endings + o.endings ≡ many_ending u.shape.blocks (known u) y) (sym name) (sym (joining.endings_after d o h k shapes u j)))

pub returns-clause-event : goal.returns-clause-event
returns-clause-event g c =
    let d = c.self.inside in let o = c.other.inside in let h = c.self.invariant in let k = c.other.invariant in
    let shapes = joining.same_shapes _ _ _ _ _ c.self.view_is c.other.view_is c.requires.domain in
    let u = c.join.new.seat.me.0 in let j = c.join.ensures.event in
    let e : DeskNow g.row.V.Denot = record {
      domain = c.join.new.seat.table_id;
      shape = u.shape;
      name = u.view.name;
      seen = u.view.seen;
      held = d.held + o.held;
    } in
    subst (λ (y : DeskNow g.row.V.Denot × DeskNow g.row.V.Denot). JoinsWith y.0 y.1 e) (λ i. (c.self.view_is i, c.other.view_is i)) record {
      same = (c.join.ensures.seat.0, joining.shape d o h k shapes u j, joining.name d o h k shapes u j);
      before = j.between ++ j.front;
      seen = joining.seen d o h k shapes u j;
      mine = joining.mine d o h k shapes u j;
      others = joining.others d o h k shapes u j;
      legal = j.legal;
    }

pub returns-clause-allowance : goal.returns-clause-allowance
returns-clause-allowance g c =
    let d = c.self.inside in let o = c.other.inside in let h = c.self.invariant in let k = c.other.invariant in
    let shapes = joining.same_shapes _ _ _ _ _ c.self.view_is c.other.view_is c.requires.domain in
    let u = c.join.new.seat.me.0 in let j = c.join.ensures.event in
    ap (λ y. (known u).allowance y) (joining.name d o h k shapes u j) ∙ (joining.allowance_after d o h k shapes u j
    ∙ (λ i. allowance_of (c.self.view_is i) + allowance_of (c.other.view_is i)))

pub returns-clause-stock : goal.returns-clause-stock
returns-clause-stock g c =
    let d = c.self.inside in let o = c.other.inside in let h = c.self.invariant in let k = c.other.invariant in
    let shapes = joining.same_shapes _ _ _ _ _ c.self.view_is c.other.view_is c.requires.domain in
    let u = c.join.new.seat.me.0 in let j = c.join.ensures.event in
    ap (λ y. length (stock (known u) y)) (joining.name d o h k shapes u j) ∙ (joining.stock_sum d o h k shapes u j
    ∙ (λ i. length (stock_of (c.self.view_is i)) + length (stock_of (c.other.view_is i))))

pub returns-clause-bag : goal.returns-clause-bag
returns-clause-bag g c =
    let d = c.self.inside in let o = c.other.inside in let h = c.self.invariant in let k = c.other.invariant in
    let shapes = joining.same_shapes _ _ _ _ _ c.self.view_is c.other.view_is c.requires.domain in
    let u = c.join.new.seat.me.0 in let j = c.join.ensures.event in
    let shown : ℕ → List NumberedHandle = λ y. Rattle.std.proofs.Common.map (λ (x : Held). by_block (blocks_of (known u)) x.handle) (bag (known u) y) in
    subst (λ (y : List NumberedHandle × List NumberedHandle). IsPermutation y.0 y.1)
    (λ i. (bag_of (c.self.view_is i) ++ bag_of (c.other.view_is i), ap shown (sym (joining.name d o h k shapes u j)) i))
    (joining.bag_shown d o h k shapes u j)

pub returns-clause-handles : goal.returns-clause-handles
returns-clause-handles g c = λ hs ks one two.
    both_in hs ks (bag_of c.args.self.now) (bag_of c.args.other) _ (returns-clause-bag g c) one two

pub returns-clause-endings : goal.returns-clause-endings
returns-clause-endings g c =
    let d = c.self.inside in let o = c.other.inside in let h = c.self.invariant in let k = c.other.invariant in
    let shapes = joining.same_shapes _ _ _ _ _ c.self.view_is c.other.view_is c.requires.domain in
    let u = c.join.new.seat.me.0 in let j = c.join.ensures.event in let name = joining.name d o h k shapes u j in (
      (λ b x e.
          let is = subst (λ (y : DeskNow g.row.V.Denot). IsEnding y b x) (sym c.self.view_is) e in
          let t = joining.ends_after d o h k shapes u j d.seat.me.0 (joining.one d o h k shapes u j)
          (joining.own_name d o h k shapes u j) b is.phase in
          record {
            ends = record { phase = t.0 ∙ ap Rattle.control_word.specs.State.ending (sym name); kept = t.1 ∙ is.kept };
            shape = joining.shape d o h k shapes u j ∙ ap (λ (y : DeskNow g.row.V.Denot). y.shape) c.self.view_is;
            members = λ m. t.2 m ∙ ap (λ (y : DeskNow g.row.V.Denot). member_in y b m) c.self.view_is;
          }),
      (λ b x e.
          let is = subst (λ (y : DeskNow g.row.V.Denot). IsEnding y b x) (sym c.other.view_is) e in
          let t = joining.ends_after d o h k shapes u j o.seat.me.0 (joining.two d o h k shapes u j)
          (joining.other_name d o h k shapes u j) b is.phase in
          record {
            ends = record { phase = t.0 ∙ ap Rattle.control_word.specs.State.ending (sym name); kept = t.1 ∙ is.kept };
            shape = joining.shape d o h k shapes u j ∙ (sym shapes ∙ ap (λ (y : DeskNow g.row.V.Denot). y.shape) c.other.view_is);
            members = λ m. t.2 m ∙ ap (λ (y : DeskNow g.row.V.Denot). member_in y b m) c.other.view_is;
          }),
    )
