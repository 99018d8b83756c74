use Rattle.std.proofs.Common.{rules, ◌≡◌, Err, inl}
use Rattle.pointers.proofs.Values.{fault_as}
use Rattle.shared_trie.specs.Sweeps.{WhyNotRetained}
use Rattle.shared_trie.proofs.Sweeps.{sifts_changed, sifts_out}
use Rattle.shared_trie.proofs.sweep.sift.Goals as goal

pub returns-in_err-keeps-clause-refused : goal.returns-in_err-keeps-clause-refused
returns-in_err-keeps-clause-refused g c =
    let from = c.from_residual-in_err-keeps.ensures in
    let same : c.from_residual-in_err-keeps.result ≡ Err c.in_err-keeps.field-0.0 = search (from, rules) in
    fault_as _ _ (WhyNotRetained g.K.Keep.judges) same
    (inl (c.args.keep.now, c.in_ok-its_key.its_key, c.in-Some.entry, c.keeps.new.self, c.in_err-keeps.ensures))

pub returns-in-Some-2-clause-sifted : goal.returns-in-Some-2-clause-sifted
returns-in-Some-2-clause-sifted g c =
    sifts_out g.K.Keep.judges g.D.Domain.opened c.args.key c.args.end.level c.number_at.result c.args.end.node
    c.owner.result c.args.end.held c.in-Some.entry c.in-Some-2.field-0 c.args.keep.now c.in_ok-its_key.its_key
    c.in_ok-keeps.field-0 c.keeps.new.self c.in_ok-take.field-0 c.in-Some.is c.in_ok-its_key.ensures.key
    c.in_ok-keeps.ensures c.if-branch.false c.number_at.ensures c.owner.ensures c.in_ok-take.ensures.done c.in-Some-2.is

pub returns-clause-sifted : goal.returns-clause-sifted
returns-clause-sifted g c =
    sifts_changed g.K.Keep.judges g.D.Domain.opened c.args.key c.args.end.level c.number_at.result c.args.end.node
    c.owner.result c.args.end.held c.in-Some.entry c.args.keep.now c.in_ok-its_key.its_key c.in_ok-keeps.field-0
    c.keeps.new.self c.in_ok-take.field-0 c.in-Some.is c.in_ok-its_key.ensures.key c.in_ok-keeps.ensures
    c.if-branch.false c.number_at.ensures c.owner.ensures c.in_ok-take.ensures.done c.in-None.is
