use Rattle.std.proofs.Common.{[], ◌++◌, length, sym, refl, ap, ◌∙◌, inl, inr, append-nil, arith}
use Rattle.std.proofs.Common.{length-append}
use Rattle.pointers.proofs.Leading.{lends_few}
use Rattle.pointers.proofs.program.teams.Teams.work.Goals as goal

pub note_all-requires : goal.note_all-requires
note_all-requires g c =
    let few = lends_few (g.P.Program.answers c.args.program.now) c.args.team c.args.self.now.desk c.lend.new.desk c.in-Some.failed.items
    c.in-Some.ensures.lends in
    let room = c.requires.room in let is = ap length c.as_slice.ensures.value in omega (arith, few, room, is)

pub returns-in-Some-clause-works : goal.returns-in-Some-clause-works
returns-in-Some-clause-works g c = (
  c.in-Some.failed.items,
  inl (refl, c.in-Some.ensures.lends),
  c.note_all.ensures.0 ∙ ap (λ l. c.args.self.now.failed.items ++ l) c.as_slice.ensures.value,
)

pub returns-in-None-clause-works : goal.returns-in-None-clause-works
returns-in-None-clause-works g c = ([], inr (refl, refl, c.in-None.ensures.back), sym (append-nil c.args.self.now.failed.items))

pub returns-in-Some-clause-set : goal.returns-in-Some-clause-set
returns-in-Some-clause-set g c =
    record {
      here = c.lend.ensures.here;
      room = (let few = lends_few (g.P.Program.answers c.args.program.now) c.args.team c.args.self.now.desk c.lend.new.desk c.in-Some.failed.items
          c.in-Some.ensures.lends in
          let is = ap length c.as_slice.ensures.value in let all = ap length c.note_all.ensures.0 in
          let sum = length-append c.args.self.now.failed.items c.as_slice.result.now in let cap = c.note_all.ensures.1 in let room = c.requires.room in
          omega (arith, few, is, all, sum, cap, room));
    }
