use Rattle.std.proofs.Common.{◌≡◌, ◌+◌, sym, ap, ◌∙◌, subst}
use Rattle.script_runner.proofs.Prelude.{aliased, IsOwnerAt, IsPointer, place_in, thread_slots}
use Rattle.script_runner.specs.SlotCalls as calls
use Rattle.script_runner.specs.This as this
use Rattle.script_runner.proofs.Acting as law
use Rattle.script_runner.proofs.Granting as granting
use Rattle.script_runner.proofs.Refusals.{owner_there}
use Rattle.script_runner.proofs.acts.takes.alias.Goals as goal

pub place-place-requires : goal.place-place-requires
place-place-requires g c =
    let t = c.args.table.now in subst (IsOwnerAt t.slots) (sym c.from.ensures) (owner_there t.slots c.args.of c.requires.kind.1)

pub alias-requires-clause-of : goal.alias-requires-clause-of
alias-requires-clause-of g c =
    let t = c.args.table.now in subst (IsOwnerAt t.slots) (sym c.from-2.ensures) (owner_there t.slots c.args.name c.requires.kind.0)

pub alias-requires-clause-place : goal.alias-requires-clause-place
alias-requires-clause-place g c =
    let t = c.args.table.now in
    subst IsPointer (sym c.aliased.ensures)
    (granting.alias_in c.args.field c.place-place.result
    (granting.points_in (c.args.hand + 1) c.args.hand c.args.of t c.place-place.result c.requires.hand
    (subst (λ j. calls.PointsTo t j c.place-place.result) c.from.ensures c.place-place.ensures)))

pub returns : goal.returns
returns g c =
    let t = c.args.table.now in let u = c.alias.new.self in let place = aliased c.args.field (place_in (thread_slots c.args.hand t) c.args.of) in
    let told : c.aliased.result ≡ place =
    c.aliased.ensures ∙ ap (λ p. aliased c.args.field p)
    (law.alias_told c.args.hand c.args.of t c.place-place.result c.requires.name.1
    (subst (λ j. calls.PointsTo t j c.place-place.result) c.from.ensures c.place-place.ensures)) in
    let did : this.Aliases t c.args.name place c.args.hand u =
    subst (λ j. this.Aliases t j place c.args.hand u) c.from-2.ensures
    (subst (λ p. this.Aliases t c.from-2.result p c.args.hand u) told c.alias.ensures) in
    record {
      acts = law.aliases c.args.hand c.args.name t u c.requires.hand c.requires.name.0 c.args.of c.args.field did;
      kinds = granting.owner_kind _ t u c.args.hand did.copy;
    }
