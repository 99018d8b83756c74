use Rattle.std.proofs.Common.{◌≡◌, ◌<◌, length, slice_get, Some, None, sym, refl, ◌∙◌, subst}
use Rattle.script_runner.proofs.TablePrelude.{TableNow}
use Rattle.script_runner.specs.SlotCalls.{Resets}
use Rattle.script_runner.proofs.Compared.{put_same}
use Rattle.script_runner.proofs.Filling.{fits_at}
use Rattle.script_runner.proofs.Wholes.{fits_left, seen, whole_same}
use Rattle.script_runner.proofs.table.WorkerTable.reset.Goals as goal

pub empty_out-requires : goal.empty_out-requires
empty_out-requires g c = subst (λ (t : TableNow g.row.V.Denot). c.args.at < length t.slots) (sym c.self.view_is) c.requires

pub let_go-requires-clause-held : goal.let_go-requires-clause-held
let_go-requires-clause-held g c =
    let s = c.self.inside in fits_at s.desk s.slots.items c.args.at c.in-Some.handle c.self.invariant.fits c.in-Some.ensures.0

pub invariant_of-self-in-Some : goal.invariant_of-self-in-Some
invariant_of-self-in-Some g c =
    let w = c.self.invariant in let t = c.in-Some.ensures in let e = c.let_go.ensures in
    record {
      home = w.home;
      bears = e.bears;
      fits = fits_left c.self.inside.desk c.let_go.new.desk c.self.inside.slots.items c.empty_out.new.slots.items c.args.at c.in-Some.handle
          w.fits t.0 t.1 e.bag e.held;
    }

pub invariant_of-self : goal.invariant_of-self
invariant_of-self g c =
    let s = c.self.inside in let t = c.in-None.ensures in
    whole_same _ s.domain.now s.desk s.desk s.slots.items c.empty_out.new.slots.items s.pile s.pile c.self.invariant refl
    (t.1 ∙ put_same s.slots.items c.args.at None t.0) refl

pub returns-in-None-clause-vacant : goal.returns-in-None-clause-vacant
returns-in-None-clause-vacant g c =
    let s = c.self.inside in let t = c.in-None.ensures in (
      subst (λ (u : TableNow g.row.V.Denot). slice_get u.slots c.args.at ≡ Some None) c.self.view_is t.0,
      (λ i. seen s.desk ((t.1 ∙ put_same s.slots.items c.args.at None t.0) i) s.pile) ∙ c.self.view_is,
    )

pub returns-in-Some-clause-left : goal.returns-in-Some-clause-left
returns-in-Some-clause-left g c =
    let t = c.in-Some.ensures in
    subst (λ (u : TableNow g.row.V.Denot). Resets u c.args.at c.let_go.result (seen c.let_go.new.desk c.empty_out.new.slots.items c.let_go.new.pile))
    c.self.view_is
    record { of = c.in-Some.handle; was = t.0; leaves = c.let_go.ensures.left; slots = t.1 }
