use Rattle.std.proofs.Common.{inl}
use Rattle.control_word.specs.declared.model.handle.Kind.TheVariants.{Owner}
use Rattle.pointers.proofs.Handles.{errs_map}
use Rattle.shared_trie.proofs.Reasons.{not_done}
use Rattle.shared_trie.proofs.Sinking.{sinks}
use Rattle.shared_trie.proofs.slot.sink.Goals as goal

pub returns-clause-sunk : goal.returns-clause-sunk
returns-clause-sunk g c =
    sinks g.D.Domain.opened c.args.place.now c.owner.result c.args.entry c.in_ok-new.new c.in_ok-share.field-0
    c.in_ok-key.key c.args.level c.number_at.result c.compare_exchange_strong.new.expected
    c.compare_exchange_strong.new.desired c.compare_exchange_strong.result c.in_ok-key.ensures.key
    c.in_ok-new.ensures.new c.in_ok-share.ensures.one c.in_ok-share.ensures.place c.number_at.ensures
    c.owner.ensures c.in_ok-store.ensures.stored c.compare_exchange_strong.ensures.compared

pub returns-clause-refused : goal.returns-clause-refused
returns-clause-refused g c =
    errs_map _ _ c.compare_exchange_strong.result
    (λ why not. inl (not_done g.D.Domain.opened Owner c.args.place.now _ why not))
    c.compare_exchange_strong.ensures.refused
