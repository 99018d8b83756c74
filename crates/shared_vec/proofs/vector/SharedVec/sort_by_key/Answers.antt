use Rattle.shared_vec.proofs.Sorts.{order_below, sorts}
use Rattle.shared_vec.proofs.vector.SharedVec.sort_by_key.Goals as goal

pub arrange-requires-clause-below : goal.arrange-requires-clause-below
arrange-requires-clause-below g c =
    order_below g.D.Domain.opened g.E.Shown.shows g.F.FnMut c.args.self.now.place c.args.f c.in-Ok.order.items
    c.sort_unstable.new.self.items c.deref.result.now c.in-Ok.ensures.keys c.sort_unstable.ensures.permutation
    c.deref.ensures.value

pub returns-clause-sorted : goal.returns-clause-sorted
returns-clause-sorted g c =
    sorts g.D.Domain.opened g.E.Shown.shows g.F.FnMut g.K.Ord.cmp c.args.self.now.place c.args.f c.in-Ok.order.items
    c.sort_unstable.new.self.items c.deref.result.now c.arrange.result c.in-Ok.ensures.keys
    c.sort_unstable.ensures.permutation c.sort_unstable.ensures.sorted c.deref.ensures.value c.arrange.ensures.done
