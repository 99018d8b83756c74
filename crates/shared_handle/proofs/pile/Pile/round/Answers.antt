use Rattle.std.proofs.Common.{◌≡◌, [], ◌∷◌, ◌++◌, None, sym, refl, ap, ◌∙◌, subst}
use Rattle.shared_handle.proofs.Prelude.{AllEnd, Ending, IsParting, next_member, piled}
use Rattle.shared_handle.proofs.Goings.{clearing_does, does_one}
use Rattle.shared_handle.proofs.PiledEndings.{all_last, popped}
use Rattle.shared_handle.proofs.Piles.{back_elsewhere, clear_all, finished, finished_elsewhere}
use Rattle.shared_handle.proofs.Piles.{from_top, next_left}
use Rattle.shared_handle.proofs.Tops.{taken, top_back, top_of_pile, top_room}
use Rattle.shared_handle.proofs.pile.Pile.round.Goals as goal

pub finish-requires-clause-ends : goal.finish-requires-clause-ends
finish-requires-clause-ends g c =
    let o = top_of_pile c.args.self.now c.in-Some.top.now (c.in-Some.ensures.variant.0 refl) c.in-Some.ensures.value in
    let t = taken _ _ _ _ _ o c.take_last-top.ensures.items in
    (popped c.args.domain.now c.args.desk.now c.args.self.now record { endings = c.take_last-top.new.self } c.take_last-top.result
    c.requires.carries t.0 c.take_last-top.ensures.capacity).ends

pub finish-requires-clause-clear : goal.finish-requires-clause-clear
finish-requires-clause-clear g c =
    let o = top_of_pile c.args.self.now c.in-Some.top.now (c.in-Some.ensures.variant.0 refl) c.in-Some.ensures.value in
    let t = taken _ _ _ _ _ o c.take_last-top.ensures.items in
    clear_all c.take_last-top.result
    (popped c.args.domain.now c.args.desk.now c.args.self.now record { endings = c.take_last-top.new.self } c.take_last-top.result
    c.requires.carries t.0 c.take_last-top.ensures.capacity).ends.few
    (subst (λ (x : Ending g.row.V.Denot). next_member x ≡ None) t.1 (sym c.in_default-next_member.ensures))

pub returns-in_default-next_member-clause-carries : goal.returns-in_default-next_member-clause-carries
returns-in_default-next_member-clause-carries g c =
    let o = top_of_pile c.args.self.now c.in-Some.top.now (c.in-Some.ensures.variant.0 refl) c.in-Some.ensures.value in
    let t = taken _ _ _ _ _ o c.take_last-top.ensures.items in let e = c.finish.ensures in
    finished c.args.domain.now c.args.desk.now c.finish.new.desk record { endings = c.take_last-top.new.self } c.take_last-top.result
    (popped c.args.domain.now c.args.desk.now c.args.self.now record { endings = c.take_last-top.new.self } c.take_last-top.result
    c.requires.carries t.0 c.take_last-top.ensures.capacity)
    e.endings e.desk

pub returns-in_default-next_member-clause-elsewhere : goal.returns-in_default-next_member-clause-elsewhere
returns-in_default-next_member-clause-elsewhere g c =
    let o = top_of_pile c.args.self.now c.in-Some.top.now (c.in-Some.ensures.variant.0 refl) c.in-Some.ensures.value in
    let t = taken _ _ _ _ _ o c.take_last-top.ensures.items in let e = c.finish.ensures in
    let xs = c.take_last-top.new.self.items in let x = c.take_last-top.result in
    from_top c.args.desk.now c.finish.new.desk x xs c.args.self.now.endings.items xs t.0
    (finished_elsewhere c.args.desk.now c.finish.new.desk x xs e.endings e.count)

pub returns-in_default-next_member-clause-round : goal.returns-in_default-next_member-clause-round
returns-in_default-next_member-clause-round g c =
    let o = top_of_pile c.args.self.now c.in-Some.top.now (c.in-Some.ensures.variant.0 refl) c.in-Some.ensures.value in
    let t = taken _ _ _ _ _ o c.take_last-top.ensures.items in let e = c.finish.ensures in
    record {
      top = c.take_last-top.result;
      were = t.0;
      finish = record {
        clear = clear_all c.take_last-top.result
            (popped c.args.domain.now c.args.desk.now c.args.self.now record { endings = c.take_last-top.new.self } c.take_last-top.result
            c.requires.carries t.0 c.take_last-top.ensures.capacity).ends.few
            (subst (λ (x : Ending g.row.V.Denot). next_member x ≡ None) t.1 (sym c.in_default-next_member.ensures));
        value = e.value.0;
        vacant = e.event.0;
        event = e.event.1;
        stock = e.event.2;
      };
      bag = e.bag;
    }

pub returns-in_default-next_member-clause-parting : goal.returns-in_default-next_member-clause-parting
returns-in_default-next_member-clause-parting g c = does_one IsParting c.args.desk.now c.finish.new.desk _ c.finish.ensures.event.1 tt

pub clear_next-left-requires-clause-ends : goal.clear_next-left-requires-clause-ends
clear_next-left-requires-clause-ends g c =
    let o = top_of_pile c.args.self.now c.in-Some.top.now (c.in-Some.ensures.variant.0 refl) c.in-Some.ensures.value in
    (all_last c.args.desk.now o.below c.in-Some.top.now (subst (AllEnd c.args.desk.now) o.are c.requires.carries.ends)).1

pub clear_next-left-requires-clause-some : goal.clear_next-left-requires-clause-some
clear_next-left-requires-clause-some g c = (next_left c.in-Some.top.now c.in-Some-next_member.member (sym c.in-Some-next_member.ensures)).1

pub put-requires : goal.put-requires
put-requires g c = record {
  room = (let o = top_of_pile c.args.self.now c.in-Some.top.now (c.in-Some.ensures.variant.0 refl) c.in-Some.ensures.value in
      let t = c.clear_next-left in let e = t.ensures in
      top_room c.args.domain.now c.args.desk.now t.new.desk o.below _ c.in-Some.top.now t.new.self t.result _
      c.requires.carries.belongs (subst (AllEnd c.args.desk.now) o.are c.requires.carries.ends) c.requires.carries.room
      e.clears e.endings e.beside e.object.0 e.ends e.desk.shape c.assert_invariant.ensures (o.set t.new.self));
}

pub returns-clause-carries : goal.returns-clause-carries
returns-clause-carries g c =
    let o = top_of_pile c.args.self.now c.in-Some.top.now (c.in-Some.ensures.variant.0 refl) c.in-Some.ensures.value in
    let t = c.clear_next-left in let e = t.ensures in
    top_back c.args.domain.now c.args.desk.now t.new.desk c.put.new.self o.below c.in-Some.top.now t.new.self t.result _
    c.requires.carries.belongs (subst (AllEnd c.args.desk.now) o.are c.requires.carries.ends) c.requires.carries.room
    e.clears e.endings e.beside e.object.0 e.ends e.desk
    (c.put.ensures.endings ∙ ap (λ l. piled l t.result) (o.set t.new.self)) c.put.ensures.room

pub returns-clause-elsewhere : goal.returns-clause-elsewhere
returns-clause-elsewhere g c =
    let o = top_of_pile c.args.self.now c.in-Some.top.now (c.in-Some.ensures.variant.0 refl) c.in-Some.ensures.value in
    let t = c.clear_next-left in let e = t.ensures in
    back_elsewhere c.args.desk.now t.new.desk c.in-Some.top.now t.new.self t.result
    o.below c.args.self.now.endings.items c.put.new.self.endings.items o.are
    e.clears e.endings e.count e.beside e.object.0 e.ends
    (c.put.ensures.endings ∙ ap (λ l. piled l t.result) (o.set t.new.self))

pub returns-clause-round : goal.returns-clause-round
returns-clause-round g c =
    let o = top_of_pile c.args.self.now c.in-Some.top.now (c.in-Some.ensures.variant.0 refl) c.in-Some.ensures.value in
    let t = c.clear_next-left in
    record {
      below = o.below;
      top = c.in-Some.top.now;
      were = o.are;
      next = sym c.in-Some-next_member.ensures;
      left = t.result;
      clears = t.ensures.clears;
      told = c.put.ensures.told;
      are = c.put.ensures.endings ∙ (ap (λ l. piled l t.result) (o.set t.new.self)
          ∙ ap (λ (y : Ending g.row.V.Denot). piled (o.below ++ y ∷ []) t.result) t.ensures.noted);
      bag = t.ensures.bag;
    }

pub returns-clause-parting : goal.returns-clause-parting
returns-clause-parting g c =
    let t = c.clear_next-left in
    clearing_does c.args.desk.now t.new.desk c.in-Some.top.now t.result t.ensures.clears
