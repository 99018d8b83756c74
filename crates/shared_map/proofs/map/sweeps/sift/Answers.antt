use Rattle.std.proofs.Common.{rules, ◌≡◌, Err, inl}
use Rattle.pointers.proofs.Values.{fault_as}
use Rattle.shared_map.specs.Sweeps.{WhyNotRetained}
use Rattle.shared_map.proofs.Sweeps.{sifts_kept, sifts_taken}
use Rattle.shared_map.proofs.map.sweeps.sift.Goals as goal

pub returns-then-branch-clause-sifted : goal.returns-then-branch-clause-sifted
returns-then-branch-clause-sifted g c =
    sifts_kept g.K.Keep.judges g.D.Domain.opened c.args.entry.now c.args.keep.now c.in_ok-held.field-0 c.in-Some.held
    c.in_ok-key-in-Some.key c.in_ok-keeps-in-Some.field-0 c.keeps.new.self c.in_ok-held.ensures.done c.in-Some.is
    c.in_ok-key-in-Some.ensures.key c.in_ok-keeps-in-Some.ensures c.if-branch.true

pub returns-else-branch-clause-sifted : goal.returns-else-branch-clause-sifted
returns-else-branch-clause-sifted g c =
    sifts_taken g.K.Keep.judges g.D.Domain.opened c.args.entry.now c.args.keep.now c.in_ok-held.field-0 c.in-Some.held
    c.in_ok-key-in-Some.key c.in_ok-keeps-in-Some.field-0 c.keeps.new.self c.take.result c.in_ok-held.ensures.done
    c.in-Some.is c.in_ok-key-in-Some.ensures.key c.in_ok-keeps-in-Some.ensures c.if-branch.false c.take.ensures.done

pub returns-in_err-keeps-in-Some-clause-refused : goal.returns-in_err-keeps-in-Some-clause-refused
returns-in_err-keeps-in-Some-clause-refused g c =
    let from = c.from_residual-in_err-keeps-in-Some.ensures in
    let same : c.from_residual-in_err-keeps-in-Some.result ≡ Err c.in_err-keeps-in-Some.field-0.0 = search (from, rules) in
    fault_as _ _ (WhyNotRetained g.K.Keep.judges) same (inl (
      c.args.keep.now,
      c.in_ok-key-in-Some.key,
      c.in-Some.held,
      c.keeps.new.self,
      c.in_err-keeps-in-Some.ensures,
    ))
