use Rattle.std.proofs.Common.{◌≡◌, length, IfSome, Option, sym, subst, inl, inr}
use Rattle.script_runner.proofs.TablePrelude.{HasShares, IfErr-weaker, IsRefusedPart, Memory, Refusal}
use Rattle.script_runner.proofs.TablePrelude.{Shape, StaffsIn}
use Rattle.script_runner.proofs.Manning.{not_shape, opened, part_shape, part_sole, staffs_in}
use Rattle.script_runner.proofs.Needing.{same_needs}
use Rattle.script_runner.proofs.Regained.{never_parted, sole_again}
use Rattle.script_runner.proofs.Sharing.{first_shares}
use Rattle.script_runner.proofs.table.staff.run_workers_open.Goals as goal

-- what the workers did, or why none has
worked : (g : _) (c : goal.After-keep_sole g)
    → StaffsIn g.W.Work.does c.in_ok-domain.domain c.args.share c.args.workers.now.items c.staff_in-desk.new.workers.items c.staff_in-desk.result.0
worked g c =
    staffs_in g.W.Work.does c.in_ok-domain.domain c.args.share c.args.workers.now.items c.staff_in-desk.new.workers.items
    (length c.in_ok-domain.part.slots.items) c.staff_in-desk.result.1 c.staff_in-desk.result.0 c.in-None.is c.in_ok-domain.ensures.many
    c.staff_in-desk.ensures

refused : (g : _) (c : goal.After-drop g) → IsRefusedPart c.in-Some.why × (c.staff_in-desk.new.workers.items ≡ c.args.workers.now.items)
refused g c =
    let same = c.staff_in-desk.new.workers.items ≡ c.args.workers.now.items in
    subst (λ (o : Option Refusal). IfSome o (λ w. IsRefusedPart w × same)) c.in-Some.is c.staff_in-desk.ensures.done.1

pub staff_in-desk-requires-clause-needs : goal.staff_in-desk-requires-clause-needs
staff_in-desk-requires-clause-needs g c κs within =
    same_needs g.W.Work.needs c.args.shape c.in_ok-domain.domain.shape c.args.share c.args.workers.now.items c.in_ok-domain.ensures.of c.requires.needs

pub returns-in-None-clause-sole : goal.returns-in-None-clause-sole
returns-in-None-clause-sole g c = λ keeps.
    let had = c.args.workers.now.items in let has = c.staff_in-desk.new.workers.items in let last = c.staff_in-desk.result.0 in
    never_parted last c.keep_sole.result (sole_again g.W.Work.does keeps c.in_ok-domain.domain c.args.share had has last (worked g c))
    c.keep_sole.ensures.refused

pub returns-in-None-clause-works : goal.returns-in-None-clause-works
returns-in-None-clause-works g c =
    opened g.W.Work.does c.keep_sole.result c.in_ok-domain.domain c.args.shape c.args.share c.args.workers.now.items
    c.staff_in-desk.new.workers.items c.staff_in-desk.result.0 c.in_ok-domain.ensures.of c.staff_in-desk.ensures.here (worked g c)
    c.keep_sole.ensures.kept c.keep_sole.ensures.sole

pub returns-in-None-clause-shape : goal.returns-in-None-clause-shape
returns-in-None-clause-shape g c =
    IfErr-weaker c.keep_sole.result _ _ (λ why p. not_shape c.args.shape why p.0 c.in_ok-domain.ensures.within) c.keep_sole.ensures.refused

pub returns-in-None-clause-refused : goal.returns-in-None-clause-refused
returns-in-None-clause-refused g c = IfErr-weaker c.keep_sole.result _ _ (λ why p. inr (inl p.0)) c.keep_sole.ensures.refused

pub returns-in-None-clause-shared : goal.returns-in-None-clause-shared
returns-in-None-clause-shared g c = λ has. IfErr-weaker c.keep_sole.result _ _ (λ why p. inr (inl p.0)) c.keep_sole.ensures.refused

pub returns-in-None-clause-kept : goal.returns-in-None-clause-kept
returns-in-None-clause-kept g c = IfErr-weaker c.keep_sole.result _ _ (λ why p. inl p.0) c.keep_sole.ensures.refused

pub returns-in-None-clause-parted : goal.returns-in-None-clause-parted
returns-in-None-clause-parted g c =
    IfErr-weaker c.keep_sole.result _ _
    (λ why p _. record {
      domain = c.in_ok-domain.domain;
      of = c.in_ok-domain.ensures.of;
      last = c.staff_in-desk.result.0;
      works = worked g c;
      parted = p.1;
    }) c.keep_sole.ensures.refused

pub returns-in-Some-clause-shape : goal.returns-in-Some-clause-shape
returns-in-Some-clause-shape g c = part_shape c.args.shape c.in-Some.why (refused g c).0 c.in_ok-domain.ensures.within

pub returns-in-Some-clause-refused : goal.returns-in-Some-clause-refused
returns-in-Some-clause-refused g c = inr (inr (refused g c).0)

pub returns-in-Some-clause-sole : goal.returns-in-Some-clause-sole
returns-in-Some-clause-sole g c = λ keeps is. part_sole c.in-Some.why (refused g c).0 is

pub returns-in-Some-clause-kept : goal.returns-in-Some-clause-kept
returns-in-Some-clause-kept g c = inr (refused g c).1

pub returns-in-Some-clause-parted : goal.returns-in-Some-clause-parted
returns-in-Some-clause-parted g c = λ is. absurd (part_sole c.in-Some.why (refused g c).0 is)

pub returns-in-Some-clause-shared : goal.returns-in-Some-clause-shared
returns-in-Some-clause-shared g c = λ has.
    let s = c.staff_in-desk.ensures in let n = length c.args.workers.now.items in
    let can = first_shares c.in_ok-domain.domain s.first.desk c.args.share n s.begins
    (subst (λ (z : Shape). HasShares z c.args.share n) (sym c.in_ok-domain.ensures.of) has) in
    inr (inr (subst (λ (o : Option Refusal). IfSome o (λ why. why ≡ Memory)) c.in-Some.is (s.done.2 can)))
