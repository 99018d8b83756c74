-- Where each worker leaves its table the allowance that it had, the last desk has the whole one again.
use Rattle.std.proofs.Common.{◌≡◌, ℕ, ◌+◌, List, [], ◌∷◌, IfErr, Ok, Err, Result, sym, refl, ap}
use Rattle.std.proofs.Common.{◌∙◌, arith}
use Rattle.script_runner.proofs.TablePrelude.{AbsorbsAll, allowance_of, DeskNow, DomainNow, EachDoes}
use Rattle.script_runner.proofs.TablePrelude.{IsPartedInto, IsSole, NotSole, Refusal, Shape, Share}
use Rattle.script_runner.proofs.TablePrelude.{StaffsIn, TableNow, WorkerRelation}
use Rattle.script_runner.proofs.Sharing.{first_whole}
use Rattle.script_runner.specs.Staffs.{KeepsAllowance}

module _ {V : Type 0} where
  -- what these tables have of the allowance together
  abbrev allowances : List (TableNow V) → ℕ
  allowances [] = 0
  allowances (t ∷ ts) = allowance_of t.desk + allowances ts

  lent_out : (d e : DeskNow V) (a k : ℕ) (ts : List (TableNow V)) → IsPartedInto d a k ts e
      → (allowance_of e + allowances ts ≡ allowance_of d) × (e.shape ≡ d.shape)
  lent_out d e a k [] is =
      let x = ap (λ (y : DeskNow V). allowance_of y) is in (omega (arith, x), ap (λ (y : DeskNow V). y.shape) is)
  lent_out d e a k (t ∷ ts) is =
      let s = is.1 in let rest = lent_out is.0 e a k ts is.2 in
      let x = s.allowance.0 in let y = s.allowance.1 in let z = rest.0 in
      (omega (arith, x, y, z), rest.1 ∙ s.event.same.1)

  come_back : (t u : TableNow V) (ts : List (TableNow V)) → AbsorbsAll t ts u
      → (allowance_of u.desk ≡ allowance_of t.desk + allowances ts) × (u.desk.shape ≡ t.desk.shape)
  come_back t u [] is =
      let x = ap (λ (y : TableNow V). allowance_of y.desk) is in (omega (arith, x), ap (λ (y : TableNow V). y.desk.shape) is)
  come_back t u (x ∷ xs) all =
      let rest = come_back t all.0 xs all.1 in let y = all.2.allowance in let z = rest.0 in
      (omega (arith, y, z), all.2.desks.same.1 ∙ rest.1)

  -- a desk that is sole isn't refused for that
  pub never_parted : {X : Type 0} (d : DeskNow V) (r : Result X Refusal) → IsSole d
      → IfErr r (λ why. (why ≡ NotSole) × (IsSole d → ⊥)) → IfErr r (λ why. why ≡ NotSole → ⊥)
  never_parted d (Ok x) sole refused = tt
  never_parted d (Err why) sole refused = λ is. refused.1 sole

module _ {V W : Type 0} (does : WorkerRelation V W) (keeps : KeepsAllowance does) where
  all_kept : (had : List W) (lent : List (TableNow V)) (has : List W) (left : List (TableNow V))
      → EachDoes does had lent has left → allowances left ≡ allowances lent
  all_kept [] [] [] [] each = refl
  all_kept (w ∷ ws) (t ∷ ts) (x ∷ xs) (u ∷ us) each =
      let y = keeps w x t u each.0 in let z = all_kept ws ts xs us each.1 in omega (arith, y, z)
  all_kept [] [] [] (u ∷ us) each = absurd each
  all_kept [] [] (x ∷ xs) left each = absurd each
  all_kept [] (t ∷ ts) has left each = absurd each
  all_kept (w ∷ ws) [] has left each = absurd each
  all_kept (w ∷ ws) (t ∷ ts) [] left each = absurd each
  all_kept (w ∷ ws) (t ∷ ts) (x ∷ xs) [] each = absurd each

  pub sole_again : (domain : DomainNow) (share : Share) (had has : List W) (last : DeskNow V)
      → StaffsIn does domain share had has last → IsSole last
  sole_again domain share had has last works =
      let s = works.out.staffs in let first = works.first.desk in let t = record works.first { desk = s.between } in
      let lent = lent_out first s.between share.allowance share.blocks s.lent s.parts in
      let back = come_back t works.out.after s.left s.absorbs in
      let whole = first_whole domain first works.begins in
      let up : allowance_of last ≡ allowance_of works.out.after.desk = works.out.winds_up.allowance in
      let came = back.0 in let kept = all_kept had s.lent has s.left s.each in let went = lent.0 in
      let all : allowance_of last ≡ domain.shape.allowance = omega (arith, whole, up, came, kept, went) in
      all ∙ ap (λ (k : Shape). k.allowance) (sym (works.out.winds_up.shape ∙ (back.1 ∙ (lent.1 ∙ works.begins.shape))))
