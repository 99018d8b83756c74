use Rattle.std.proofs.Common.{ap, refl, ◌∙◌}
use Rattle.leak_report.proofs.Prelude.{abstraction, census_of, state_in}
use Rattle.leak_report.proofs.ColorLemmas.{colored_none, colored_then}
use Rattle.leak_report.proofs.color.add_colored.Goals as goal

pub returns-in_ok-push-in-Some : goal.returns-in_ok-push-in-Some
returns-in_ok-push-in-Some c =
    let found = c.args.found.now in
    colored_then (state_in (abstraction c.args.world.now)) found.findings found.held.items c.args.number _ _
    c.args.blocks.now.items c.push.new.self.items
    (c.in-Some.ensures.counts ∙ ap (census_of (state_in (abstraction c.args.world.now))) (c.numbered.ensures ∙ c.from.ensures))
    refl c.color_of-color.ensures c.in_ok-push-in-Some.ensures.items

pub returns-in-None : goal.returns-in-None
returns-in-None c =
    let found = c.args.found.now in
    colored_none (state_in (abstraction c.args.world.now)) found.findings found.held.items c.args.number
    c.args.blocks.now.items
    (c.in-None.ensures.counts ∙ ap (census_of (state_in (abstraction c.args.world.now))) (c.numbered.ensures ∙ c.from.ensures))
