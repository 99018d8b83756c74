use Rattle.std.proofs.Common.{Ok, codes}
use Rattle.clap.specs.Words.{App, with_subcommand}
use Rattle.sptr.proofs.Lines.{next_added}
use Rattle.sptr.specs.CommandLine.{bare, draw_line, left_line, orders_line, owners_line, program}
use Rattle.sptr.specs.CommandLine.{script_line, turns_line}
use Rattle.sptr.proofs.commands.command.Goals as goal

pub returns : goal.returns
unfolding program bare
returns c =
    let check = script_line (codes "check") in
    let convert = script_line (codes "convert") in
    let step = turns_line (codes "step") in
    let fine = turns_line (codes "fine") in
    let run = script_line (codes "run") in
    let one : App = with_subcommand bare check in
    let two : App = with_subcommand one convert in
    let three : App = with_subcommand two step in
    let four : App = with_subcommand three fine in
    let five : App = with_subcommand four run in
    let six : App = with_subcommand five left_line in
    let seven : App = with_subcommand six draw_line in
    let eight : App = with_subcommand seven owners_line in
    let a =
    next_added (Ok c.bare_program.result) c.script_command.result c.with_command-program.result
    bare check c.bare_program.ensures
    c.script_command.ensures.shape c.script_command.ensures.local c.with_command-program.ensures in
    let b =
    next_added c.with_command-program.result c.script_command-2.result
    c.with_command-program-2.result one convert a
    c.script_command-2.ensures.shape c.script_command-2.ensures.local
    c.with_command-program-2.ensures in
    let d =
    next_added c.with_command-program-2.result c.turns_command.result
    c.with_command-program-3.result two step b
    c.turns_command.ensures.shape c.turns_command.ensures.local c.with_command-program-3.ensures in
    let e =
    next_added c.with_command-program-3.result c.turns_command-2.result
    c.with_command-program-4.result three fine d
    c.turns_command-2.ensures.shape c.turns_command-2.ensures.local
    c.with_command-program-4.ensures in
    let f =
    next_added c.with_command-program-4.result c.script_command-3.result
    c.with_command-program-5.result four run e
    c.script_command-3.ensures.shape c.script_command-3.ensures.local
    c.with_command-program-5.ensures in
    let g =
    next_added c.with_command-program-5.result c.left_command.result
    c.with_command-program-6.result five left_line f
    c.left_command.ensures.shape c.left_command.ensures.local c.with_command-program-6.ensures in
    let h =
    next_added c.with_command-program-6.result c.draw_command.result
    c.with_command-program-7.result six draw_line g
    c.draw_command.ensures.shape c.draw_command.ensures.local c.with_command-program-7.ensures in
    let i =
    next_added c.with_command-program-7.result c.owners_command.result
    c.with_command-program-8.result seven owners_line h
    c.owners_command.ensures.shape c.owners_command.ensures.local c.with_command-program-8.ensures in
    next_added c.with_command-program-8.result c.orders_command.result c.with_command.result eight
    orders_line i
    c.orders_command.ensures.shape c.orders_command.ensures.local c.with_command.ensures
