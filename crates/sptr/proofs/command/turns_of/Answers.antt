use Rattle.std.proofs.Common.{◌≡◌, ap, codes, option_map, Option, Some, None, [], refl, ◌∙◌}
use Rattle.std.specs.Prelude.{unwrap_or}
use Rattle.std.specs.Borrow.{Bor}
use Rattle.clap.specs.Words.{Text, first_of, found_of, rows_of}
use Rattle.clap.proofs.WalkLemmas.{first_value-rows}
use Rattle.sptr.specs.CommandLine.{list_or_line}
use Rattle.sptr.proofs.command.turns_of.Goals as goal

unwrapped : (o : Option (Bor Text)) (d : Bor Text)
    → (unwrap_or o d).now ≡ unwrap_or (option_map (λ s. s.now) o) d.now
unwrapped None d = refl
unwrapped (Some s) d = refl

pub returns-in-Some : goal.returns-in-Some
returns-in-Some c =
    let rows = rows_of (found_of c.args.given.now) in
    c.as_bytes.ensures.value
    ∙ ap (λ (o : Option Text). list_or_line o (first_of (codes "find") rows))
    (c.in-Some.ensures ∙ first_value-rows (found_of c.args.given.now) (codes "turns"))

pub returns-in-None : goal.returns-in-None
returns-in-None c =
    let found = found_of c.args.given.now in
    c.as_bytes-in-None.ensures.value ∙ ap (λ (s : Bor Text). s.now) c.unwrap_or.ensures
    ∙ unwrapped c.get_str-in-None.result _
    ∙ ap (λ (o : Option Text). unwrap_or o [])
    (c.get_str-in-None.ensures ∙ first_value-rows found (codes "find"))
    ∙ ap (λ (o : Option Text). list_or_line o (first_of (codes "find") (rows_of found)))
    (c.in-None.ensures ∙ first_value-rows found (codes "turns"))
