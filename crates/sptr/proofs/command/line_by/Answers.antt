use Rattle.std.proofs.Common.{ap, ap₂, codes, sym}
use Rattle.std.specs.Prelude.{is_some}
use Rattle.sptr.specs.CommandLine.{list_or_line}
use Rattle.sptr.proofs.Programs.{asks_by_name, asks_without, is_given_in, none_given, turns_given_in}
use Rattle.sptr.proofs.command.line_by.Goals as goal

pub returns-in-Some-clause-asks : goal.returns-in-Some-clause-asks
returns-in-Some-clause-asks c words is faultless =
    let met = c.in-Some in
    asks_by_name words c.args.matches.now met.name.now _ is faultless met.ensures.name
    met.ensures.rows c.asked_by_name.result
    c.asked_by_name.ensures

pub returns-in-Some-clause-turns : goal.returns-in-Some-clause-turns
returns-in-Some-clause-turns c =
    turns_given_in c.args.matches.now _ c.in-Some.ensures.rows _ c.turns_of.ensures

pub returns-in-Some-clause-text : goal.returns-in-Some-clause-text
returns-in-Some-clause-text c =
    is_given_in c.args.matches.now _ c.in-Some.ensures.rows _ _ c.word_of.ensures

pub returns-in-Some-clause-list : goal.returns-in-Some-clause-list
returns-in-Some-clause-list c =
    is_given_in c.args.matches.now _ c.in-Some.ensures.rows _ _ c.word_of-in-Some.ensures

pub returns-in-None-clause-asks : goal.returns-in-None-clause-asks
returns-in-None-clause-asks c words is faultless =
    asks_without words c.args.matches.now is faultless c.in-None.ensures.name

pub returns-in-None-clause-turns : goal.returns-in-None-clause-turns
returns-in-None-clause-turns c =
    let none = none_given c.args.matches.now c.in-None.ensures.name in
    sym (ap₂ list_or_line (none (codes "turns")) (none (codes "find")))

pub returns-in-None-clause-text : goal.returns-in-None-clause-text
returns-in-None-clause-text c =
    sym (ap is_some (none_given c.args.matches.now c.in-None.ensures.name _))

pub returns-in-None-clause-list : goal.returns-in-None-clause-list
returns-in-None-clause-list c =
    sym (ap is_some (none_given c.args.matches.now c.in-None.ensures.name _))
