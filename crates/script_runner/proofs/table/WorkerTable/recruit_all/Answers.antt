use Rattle.std.proofs.Common.{List, [], ◌∷◌, sym, ◌∙◌, subst, arith}
use Rattle.script_runner.proofs.TablePrelude.{IsNew, IsPartedInto, TableNow}
use Rattle.std.proofs.lemmas.List.Elements.{All-append, All-cons, All-nil}
use Rattle.std.specs.List.{All}
use Rattle.script_runner.proofs.Crews.{parted_more}
use Rattle.script_runner.proofs.table.WorkerTable.recruit_all.Goals as goal

pub loop-alloc-preserved : goal.loop-alloc-preserved
loop-alloc-preserved g c =
    let i = c.loop-alloc.invariant in let r = c.in-Ok.ensures in let p = c.push_reserved.ensures in
    let ts = c.loop-alloc.tables.items in let t = c.in-Ok.table in let is = IsNew {V = g.row.V.Denot} c.args.share.slots in (
      subst (λ (l : List (TableNow g.row.V.Denot)). IsPartedInto c.args.self.now.desk c.args.share.allowance c.args.share.blocks l c.recruit.new.self.desk)
          (sym p.items)
          (parted_more c.args.self.now.desk c.loop-alloc.self.desk c.recruit.new.self.desk c.args.share.allowance c.args.share.blocks ts t i.0 r.parts),
      subst (All is) (sym p.items) (All-append is ts (t ∷ []) i.1 (All-cons is t [] r.new (All-nil is))),
      r.rest.0 ∙ i.2,
      r.rest.1 ∙ i.3,
      (let a = i.4 in let b = p.capacity in omega arith),
      (let a = c.push_reserved.new.self.ok.0 in let b = c.loop-alloc.tables.ok.0 in let d = p.len in omega arith),
    )
