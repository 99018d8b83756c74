use Rattle.std.proofs.Common.{◌≡◌, ◌<◌, ◌++◌, IfSome, vec_len, vec_capacity, sym, ap, ◌∙◌, subst}
use Rattle.std.proofs.Common.{append-nil}
use Rattle.control_block.proofs.Prelude.{freed}
use Rattle.control_block.proofs.calls.leaves.put_by_out.Goals as goal

pub put_by-requires : goal.put_by-requires
put_by-requires c =
    record {
      room = λ is. subst (λ q. IfSome q (λ _. vec_len c.args.store.now < vec_capacity c.args.store.now)) (sym c.in-Some.ensures.owned) (c.requires.room is);
    }

pub returns-in_default-clause-items : goal.returns-in_default-clause-items
returns-in_default-clause-items c =
    let l = c.args.store.now.items in subst (λ q. l ≡ l ++ freed q c.args.vacant) (sym (sym c.owned.ensures.owned ∙ c.in_default.is)) (sym (append-nil l))

pub returns-clause-items : goal.returns-clause-items
returns-clause-items c = c.put_by.ensures.items ∙ ap (λ q. c.args.store.now.items ++ freed q c.args.vacant) (sym (sym c.in-Some.ensures.owned))
