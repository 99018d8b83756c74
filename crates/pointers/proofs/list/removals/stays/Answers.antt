use Rattle.std.proofs.Common.{refl}
use Rattle.std.specs.Fn.{CalledAt}
use Rattle.pointers.proofs.Sifts.{judged, not_judged}
use Rattle.pointers.proofs.list.removals.stays.Goals as goal

pub returns-in-Some-clause-judged : goal.returns-in-Some-clause-judged
returns-in-Some-clause-judged g c =
    let called : CalledAt g.F.FnMut c.args.keep.now c.in-Some.element c.keep.result c.keep.new.self =
    record { shown = _; shows = refl; called = c.keep.ensures } in
    judged g.E.Element.copied g.E.Element.refused g.F.FnMut c.args.node.now c.args.keep.now c.keep.new.self
    c.in_ok-element.field-0 c.in-Some.element c.keep.result c.in_ok-element.ensures.copied c.in-Some.is called

pub returns-in-Some-clause-refused : goal.returns-in-Some-clause-refused
returns-in-Some-clause-refused g c =
    let called : CalledAt g.F.FnMut c.args.keep.now c.in-Some.element c.keep.result c.keep.new.self =
    record { shown = _; shows = refl; called = c.keep.ensures } in
    not_judged g.E.Element.copied g.E.Element.refused g.F.FnMut c.args.node.now c.args.keep.now c.keep.new.self
    c.in_ok-element.field-0 c.in-Some.element c.keep.result c.in_ok-element.ensures.copied c.in-Some.is called
