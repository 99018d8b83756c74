use Rattle.std.proofs.Common.{◌≡◌, ℕ, ◌+◌, ◌<◌, ◌≤◌, min, cond, IfSome, None, sym, refl, ap, ◌∙◌}
use Rattle.std.proofs.Common.{subst, arith}
use Rattle.control_block.proofs.Prelude.{bag_of, bag_size, Compare, DeskNow, handle_in}
use Rattle.control_block.proofs.Prelude.{HoldingInBlock, InHand, IsProper, IsWordOf, known}
use Rattle.control_block.proofs.Prelude.{NumberedHandle, object_of, site_place, with_handle}
use Rattle.control_word.proofs.lists.Tallies.{same_kind_true}
use Rattle.control_block.proofs.cells.CellChoices.{bag_of_choice, counted_of, few_of, fits_of}
use Rattle.control_block.proofs.cells.CellChoices.{within_of}
use Rattle.control_block.proofs.cells.CellDesks.{fits, in_seat, lost_counted, lost_hand}
use Rattle.control_block.proofs.cells.CellDesks.{lost_holding, lost_shows, lost_word, one, one_few}
use Rattle.control_block.proofs.cells.CellOutcomes.{Came, bag_then, compared, desk_then, event_of}
use Rattle.control_block.proofs.cells.CellOutcomes.{has_here, holds_it, is_proper, keeps_else}
use Rattle.control_block.proofs.cells.CellOutcomes.{size_now}
use Rattle.control_block.proofs.cells.CellSites.{aim_of, word_there}
use Rattle.control_block.proofs.desks.DeskBags.{not_full, not_limit, room_left}
use Rattle.control_block.proofs.calls.compares.compare.Goals as goal

pub site_word-word-requires : goal.site_word-word-requires
site_word-word-requires g c =
    let r = c.requires in
    (word_there c.desk.inside c.desk.invariant c.args.offer.new.kind (site_place c.domain.inside.shape.blocks c.args.site) c.args.desk.now
    c.domain.inside.table.shared.table_id c.domain.inside.shape c.args.site c.desk.view_is
    (ap (λ z. z.domain) c.desk.view_is ∙ (r.domain.table ∙ sym (ap (λ z. z.id) c.domain.view_is)))
    (ap (λ z. z.shape) c.desk.view_is ∙ (r.domain.shape ∙ sym (ap (λ z. z.shape) c.domain.view_is))) r.cell.0 refl).0

pub compare-swapped-requires-clause-aim : goal.compare-swapped-requires-clause-aim
compare-swapped-requires-clause-aim g c =
    let r = c.requires in let d = c.desk.inside in let h = c.desk.invariant in let k = c.args.offer.new.kind in let y = c.args.desk.now in
    let id = c.domain.inside.table.shared.table_id in let z = c.domain.inside.shape in let site = c.args.site in
    let table = ap (λ z. z.domain) c.desk.view_is ∙ (r.domain.table ∙ sym (ap (λ z. z.id) c.domain.view_is)) in
    let shape = ap (λ z. z.shape) c.desk.view_is ∙ (r.domain.shape ∙ sym (ap (λ z. z.shape) c.domain.view_is)) in
    aim_of d h k c.site_word-word.result y id z site g.A.CellArgs.cell c.desk.view_is table shape r.cell.0 r.cell.1 c.site_word-word.ensures

pub compare-swapped-requires-clause-expected : goal.compare-swapped-requires-clause-expected
compare-swapped-requires-clause-expected g c =
    let r = c.requires in let d = c.desk.inside in let h = c.desk.invariant in let v = d.seat.me.0 in let k = c.args.offer.new.kind in
    let b = c.args.offer.new.word.block in let p = c.args.offer.new.word.place in let y = c.args.desk.now in let lost = g.A.CellArgs.new in
    let new_is : lost ≡ in_seat v k b p = r.new ∙ ap (λ (z : DeskNow g.row.V.Denot). handle_in z k b p) (sym c.desk.view_is) in
    let there = g.A.CellArgs.expected in let q = c.args.offer.expected.word.block in let o = c.args.offer.expected.word.place in
    let there_is : there ≡ in_seat v k q o = r.expected ∙ ap (λ (z : DeskNow g.row.V.Denot). handle_in z k q o) (sym c.desk.view_is) in
    subst (λ (z : NumberedHandle). IsWordOf v z record { owned = q; place = o; taken = 0 }) (sym there_is) (lost_shows d y k o h c.desk.view_is q r.holds.0)

pub compare-swapped-requires-clause-offer : goal.compare-swapped-requires-clause-offer
compare-swapped-requires-clause-offer g c =
    let r = c.requires in let d = c.desk.inside in let h = c.desk.invariant in let v = d.seat.me.0 in let k = c.args.offer.new.kind in
    let b = c.args.offer.new.word.block in let p = c.args.offer.new.word.place in let y = c.args.desk.now in let lost = g.A.CellArgs.new in
    let new_is : lost ≡ in_seat v k b p = r.new ∙ ap (λ (z : DeskNow g.row.V.Denot). handle_in z k b p) (sym c.desk.view_is) in
    let there = g.A.CellArgs.expected in let q = c.args.offer.expected.word.block in let o = c.args.offer.expected.word.place in
    let there_is : there ≡ in_seat v k q o = r.expected ∙ ap (λ (z : DeskNow g.row.V.Denot). handle_in z k q o) (sym c.desk.view_is) in
    let table = ap (λ z. z.domain) c.desk.view_is ∙ (r.domain.table ∙ sym (ap (λ z. z.id) c.domain.view_is)) in
    record {
      valid = lost_word d y k p h c.desk.view_is b r.holds.1 c.args.offer.new.proper;
      taken = refl;
      shows = subst (λ (z : NumberedHandle). IsWordOf v z record { owned = b; place = p; taken = 0 }) (sym new_is)
          (lost_shows d y k p h c.desk.view_is b r.holds.1);
      expected_hand = subst (λ (z : NumberedHandle). InHand (known v) v.view.name k z) (sym there_is)
          (lost_hand d y k o h c.desk.view_is q r.holds.0
          (subst (λ z. IsProper z q o) (same_kind_true c.args.offer.expected.kind k c.args.offer.alike) c.args.offer.expected.proper));
      new_hand = subst (λ (z : NumberedHandle). InHand (known v) v.view.name k z) (sym new_is)
          (lost_hand d y k p h c.desk.view_is b r.holds.1 c.args.offer.new.proper);
      holds = subst (λ (z : NumberedHandle). IfSome b (λ a. HoldingInBlock v z.kind (object_of z) z.place a.0)) (sym new_is)
          (lost_holding d y k p h c.desk.view_is b r.holds.1);
      count = lost_counted d y k p h c.desk.view_is b c.domain.inside.table.shared.table_id table r.holds.1;
      room = room_left d h (not_full d y _ h c.desk.view_is c.if-is_full.ensures refl);
    }

module _ (g : _) (c : goal.After-result-1 g) where
  came : let a = g.A.CellArgs in let new = c.args.offer.new in let r = c.compare-swapped.result in
      Came c.desk.inside c.compare-swapped.new.seat.me.0 a.cell (λ z. Compare a.cell a.expected a.new z r.0 a.weak) new.kind r.1 (cond r.0 new.word.block None)
      (cond r.0 new.word.place None)
  came =
      compared _ c.desk.invariant _ _ _ _ _ _ _ _ c.desk.view_is c.requires.new c.requires.holds.1 _ _ _ c.compare-swapped.ensures.compared.out

pub invariant_of-desk : goal.invariant_of-desk
invariant_of-desk g c =
    let d = c.desk.inside in let h = c.desk.invariant in let t = c.compare-swapped.ensures in let s = c.compare-swapped.result.0 in
    let x = c.compare-swapped.result.1 in let new = c.args.offer.new in let w = c.compare-swapped.new.seat.me.0 in
    let fit = fits d new.kind new.word.place new.word.block h
    (has_here d c.args.desk.now new.kind new.word.block new.word.place c.desk.view_is c.requires.holds.1) in
    let more = counted_of s c.from.result c.from.ensures in
    desk_then _ h (came g c) t.table t.compared.rests.none refl refl refl
    (λ size. subst (λ (q : ℕ). bag_size (known w) w.view.name ≤ (d.held + q)) (sym more)
    (fits_of s new.word.block x.owned _ _ d.held size fit h.holding (one_few x.owned)))
    (let l = within_of s d.held (min 1 d.endings) d.allowance (omega (arith, h.within))
    (not_full d c.args.desk.now _ h c.desk.view_is c.if-is_full.ensures refl) in omega (arith, more))

pub returns-clause-event : goal.returns-clause-event
returns-clause-event g c = rw c.handle.ensures (event_of c.desk.invariant (came g c) _ _ _ c.desk.view_is c.compare-swapped.ensures.table)

pub returns-clause-bag : goal.returns-clause-bag
returns-clause-bag g c =
    let new = c.args.offer.new in let s = c.compare-swapped.result.0 in let x = c.compare-swapped.result.1 in
    rw c.handle.ensures
    (bag_then c.desk.invariant (came g c) _ c.desk.view_is
    ∙ ap (with_handle new.kind x.owned x.place) (bag_of_choice s new.kind new.word.block new.word.place (bag_of c.args.desk.now)))

pub returns-clause-holds : goal.returns-clause-holds
returns-clause-holds g c =
    let d = c.desk.inside in let h = c.desk.invariant in let s = c.compare-swapped.result.0 in let x = c.compare-swapped.result.1 in
    let new = c.args.offer.new in let w = c.compare-swapped.new.seat.me.0 in
    let fit = fits d new.kind new.word.place new.word.block h
    (has_here d c.args.desk.now new.kind new.word.block new.word.place c.desk.view_is c.requires.holds.1) in
    rw c.handle.ensures (holds_it h (came g c) c.compare-swapped.new.seat.table_id (d.held + c.from.result)
    (λ none. subst (λ q. bag_size (known w) w.view.name < d.held + q) (sym (counted_of s c.from.result c.from.ensures))
    (few_of s new.word.block x.owned _ _ d.held (size_now h (came g c)) fit h.holding (ap one none))))

pub invariant_of-result : goal.invariant_of-result
invariant_of-result g c =
    record {
      proper = rw c.handle.ensures
          (is_proper c.desk.invariant (compared _ c.desk.invariant _ g.A.CellArgs.cell _ _ _ _ _ _ c.desk.view_is c.requires.new c.requires.holds.1
          _ _ _ c.compare-swapped.ensures.compared.out));
    }

pub returns-clause-keeps : goal.returns-clause-keeps
returns-clause-keeps g c = keeps_else c.desk.invariant (came g c) _ _ _ c.desk.view_is c.compare-swapped.ensures.table

pub returns-then-is_full-clause-limit : goal.returns-then-is_full-clause-limit
returns-then-is_full-clause-limit g c = (λ _. c.is_full.ensures.0 c.if-is_full.true, λ _. refl)

pub returns-then-is_full-clause-refused : goal.returns-then-is_full-clause-refused
returns-then-is_full-clause-refused g c = (refl, refl)

pub returns-then-is_full-clause-event : goal.returns-then-is_full-clause-event
returns-then-is_full-clause-event g c = tt

pub returns-then-is_full-clause-bag : goal.returns-then-is_full-clause-bag
returns-then-is_full-clause-bag g c = tt

pub returns-then-is_full-clause-held : goal.returns-then-is_full-clause-held
returns-then-is_full-clause-held g c = tt

pub returns-then-is_full-clause-holds : goal.returns-then-is_full-clause-holds
returns-then-is_full-clause-holds g c = tt

pub returns-then-is_full-clause-kind : goal.returns-then-is_full-clause-kind
returns-then-is_full-clause-kind g c = tt

pub returns-then-is_full-clause-keeps : goal.returns-then-is_full-clause-keeps
returns-then-is_full-clause-keeps g c = tt

pub returns-clause-limit : goal.returns-clause-limit
returns-clause-limit g c = not_limit c.args.desk.now c.is_full.result c.is_full.ensures c.if-is_full.false

pub returns-clause-refused : goal.returns-clause-refused
returns-clause-refused g c = tt

pub returns-clause-kind : goal.returns-clause-kind
returns-clause-kind g c = refl
