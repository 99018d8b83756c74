use Rattle.std.proofs.Common.{◌≡◌, ◌-◌, ◌++◌, length, take, drop, ap, ◌∙◌, subst, arith, rules}
use Rattle.control_block.proofs.Prelude.{Block, Has, is_lt, nat_cmp, times}
use Rattle.std.proofs.lemmas.Cmp.{nat_cmp_total}
use Rattle.std.proofs.lemmas.List.Sorted.{IsStrictWeakOrder-flip, answers_always, ranks_by}
use Rattle.std.proofs.lemmas.List.Sorted.{sorted_far}
use Rattle.control_block.proofs.partings.PartingOrder.{far, tail_is, times_cut, times_permutation}
use Rattle.control_block.proofs.parting.split.pass_least.Goals as goal

pub returns-clause-same : goal.returns-clause-same
returns-clause-same c = λ b.
    let items = c.sort_unstable_by.new.self.items in let left = c.len.result - c.args.count in
    let to : c.append_all.new.store.items ≡ drop left items =
    c.append_all.ensures.0 ∙ (ap (λ l. l ++ take (length c.as_slice.result.now - left) (drop left c.as_slice.result.now)) c.requires.room.0
    ∙ tail_is c.as_slice.result.now items left c.as_slice.ensures.value) in
    let cut = times_cut b left items in let same = times_permutation b c.args.store.now.items items c.sort_unstable_by.ensures.permutation in
    let one = ap (times b) to in let two = ap (times b) c.truncate.ensures.items in omega arith

pub returns-clause-least : goal.returns-clause-least
returns-clause-least c = λ b d hb hd.
    let items = c.sort_unstable_by.new.self.items in let left = c.len.result - c.args.count in
    let to : c.append_all.new.store.items ≡ drop left items =
    c.append_all.ensures.0 ∙ (ap (λ l. l ++ take (length c.as_slice.result.now - left) (drop left c.as_slice.result.now)) c.requires.room.0
    ∙ tail_is c.as_slice.result.now items left c.as_slice.ensures.value) in
    let order = IsStrictWeakOrder-flip _ (ranks_by nat_cmp_total (λ (x : Block). x.0)) in
    let sorted = c.sort_unstable_by.ensures.sorted (λ (x y : Block). is_lt (nat_cmp y.0 x.0)) order
    (answers_always _ _ _ (λ f a r f' h. let e : r ≡ nat_cmp a.1.0.now.0 a.0.now.0 = search rules in ap is_lt e)) in
    far left items (λ i j e le lt. sorted_far (λ (x y : Block). is_lt (nat_cmp y.0 x.0)) order items sorted i j e le lt) b d
    (subst (Has b) to hb) (subst (Has d) c.truncate.ensures.items hd)
