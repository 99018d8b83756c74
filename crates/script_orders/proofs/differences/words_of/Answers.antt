use Rattle.std.proofs.Common.{[], string_bytes}
use Rattle.script_orders.proofs.Differing.{words_more}
use Rattle.script_orders.proofs.differences.words_of.Goals as goal

pub loop-statement-init : goal.loop-statement-init
loop-statement-init c = ([], c.new-words.ensures.bytes)

pub loop-statement-preserved : goal.loop-statement-preserved
loop-statement-preserved c =
    words_more (string_bytes c.loop-statement.words) (string_bytes c.put_difference.new.text) c.difference_of.result
    c.loop-statement.invariant c.in_ok-put_difference.ensures
