use Rattle.std.proofs.Common.{◌∙◌, ◌&&◌, ℕ, Option, ap₂, codes}
use Rattle.std.specs.Prelude.{is_some, nat_lt}
use Rattle.clap.specs.Words.{Text}
use Rattle.sptr.proofs.Programs.{count_given_in, given_in, no_clash}
use Rattle.sptr.proofs.command.has_conflict.Goals as goal

pub returns-in-Some : goal.returns-in-Some
returns-in-Some c =
    let m = c.args.matches.now in
    c.wants_both.ensures
    ∙ ap₂ (λ (n : ℕ) (o : Option Text). nat_lt 0 n && is_some o)
    (count_given_in m _ c.in-Some.ensures.rows (codes "page")) (given_in m _ c.in-Some.ensures.rows (codes "find"))

pub returns-in-None : goal.returns-in-None
returns-in-None c = no_clash c.args.matches.now c.in-None.ensures.name
