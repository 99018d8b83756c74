-- What a proof unfolds to compute what `clap` makes of words that are written out.
use Rattle.std.specs.Prelude.{⊤}
use Rattle.clap.proofs.OnLiterals.{clap_on_literals}
use Rattle.sptr.specs.CommandLine.{draw_line, file_word, flag_rule, left_line, option_rule, orders_line}
use Rattle.sptr.specs.CommandLine.{owners_line, program, script_line, turns_line}

unfoldable pub lines : ⊤
unfolding script_line turns_line left_line draw_line owners_line orders_line file_word option_rule flag_rule
lines = tt

unfoldable pub sptr_on_literals : ⊤
unfolding program lines clap_on_literals
sptr_on_literals = tt
