use Rattle.std.proofs.Common.{sym, ap, ◌∙◌}
use Rattle.step_threads.proofs.Prelude.{Act}
use Rattle.step_threads.specs.declared.programs.statement.Tail.TheVariants.{Nothing, Named, Into}
use Rattle.step_threads.specs.declared.programs.statement.Tail.TheVariants.{IntoAs, Times}
use Rattle.step_threads.specs.Acts.{acts, with_tail}
use Rattle.step_threads.proofs.programs.statement.parts.Goals as goal

pub returns-in-Make : goal.returns-in-Make
returns-in-Make c = ap acts c.in-Make.is ∙ ap (λ (a : Act). with_tail a (Named c.in-Make.target)) (sym c.make.ensures)

pub returns-in-Lock : goal.returns-in-Lock
returns-in-Lock c = ap acts c.in-Lock.is ∙ ap (λ (a : Act). with_tail a (Named c.in-Lock.target)) (sym c.lock.ensures)

pub returns-in-Upgrade : goal.returns-in-Upgrade
returns-in-Upgrade c = ap acts c.in-Upgrade.is ∙ ap (λ (a : Act). with_tail a (Named c.in-Upgrade.target)) (sym c.lock-in-Upgrade.ensures)

pub returns-in-MakeThis : goal.returns-in-MakeThis
returns-in-MakeThis c = ap acts c.in-MakeThis.is ∙ ap (λ (a : Act). with_tail a (Named c.in-MakeThis.target)) (sym c.make-in-MakeThis.ensures)

pub returns-in-Null : goal.returns-in-Null
returns-in-Null c = ap acts c.in-Null.is ∙ ap (λ (a : Act). with_tail a (Named c.in-Null.target)) (sym c.make-in-Null.ensures)

pub returns-in-This : goal.returns-in-This
returns-in-This c = ap acts c.in-This.is ∙ ap (λ (a : Act). with_tail a (Named c.in-This.target)) (sym c.from_this.ensures)

pub returns-in-WeakThis : goal.returns-in-WeakThis
returns-in-WeakThis c = ap acts c.in-WeakThis.is ∙ ap (λ (a : Act). with_tail a (Named c.in-WeakThis.target)) (sym c.from_this-in-WeakThis.ensures)

pub returns-in-Shelve : goal.returns-in-Shelve
returns-in-Shelve c = ap acts c.in-Shelve.is ∙ ap (λ (a : Act). with_tail a (Times c.in-Shelve.count)) (sym c.on_shelf.ensures)

pub returns-in-Unshelve : goal.returns-in-Unshelve
returns-in-Unshelve c = ap acts c.in-Unshelve.is ∙ ap (λ (a : Act). with_tail a (Nothing)) (sym c.on_shelf-in-Unshelve.ensures)

pub returns-in-Alias : goal.returns-in-Alias
returns-in-Alias c = ap acts c.in-Alias.is ∙ ap (λ (a : Act). with_tail a (Named c.in-Alias.target)) (sym c.alias.ensures)

pub returns-in-AliasNull : goal.returns-in-AliasNull
returns-in-AliasNull c = ap acts c.in-AliasNull.is ∙ ap (λ (a : Act). with_tail a (Named c.in-AliasNull.target)) (sym c.alias-in-AliasNull.ensures)

pub returns-in-Place : goal.returns-in-Place
returns-in-Place c = ap acts c.in-Place.is ∙ ap (λ (a : Act). with_tail a (Nothing)) (sym c.place.ensures)

pub returns-in-Same : goal.returns-in-Same
returns-in-Same c = ap acts c.in-Same.is ∙ ap (λ (a : Act). with_tail a (Nothing)) (sym c.same.ensures)

pub returns-in-Store : goal.returns-in-Store
returns-in-Store c = ap acts c.in-Store.is ∙ ap (λ (a : Act). with_tail a (Into c.in-Store.cell)) (sym c.offer.ensures)

pub returns-in-Compare : goal.returns-in-Compare
returns-in-Compare c = ap acts c.in-Compare.is ∙ ap (λ (a : Act). with_tail a (IntoAs c.in-Compare.cell c.in-Compare.name c.in-Compare.weak)) (sym
    c.offer-in-Compare.ensures)

pub returns-in-Weak : goal.returns-in-Weak
returns-in-Weak c = ap acts c.in-Weak.is

pub returns-in-Expired : goal.returns-in-Expired
returns-in-Expired c = ap acts c.in-Expired.is

pub returns-in-Read : goal.returns-in-Read
returns-in-Read c = ap acts c.in-Read.is

pub returns-in-Holds : goal.returns-in-Holds
returns-in-Holds c = ap acts c.in-Holds.is

pub returns-in-Move : goal.returns-in-Move
returns-in-Move c = ap acts c.in-Move.is

pub returns-in-Load : goal.returns-in-Load
returns-in-Load c = ap acts c.in-Load.is
