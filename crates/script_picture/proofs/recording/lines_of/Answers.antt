use Rattle.std.proofs.Common.{List, ap}
use Rattle.std.specs.Global.{Global}
use Rattle.std.specs.Prelude.{String, map}
use Rattle.script_picture.specs.Acts.{bytes_of}
use Rattle.script_picture.proofs.Rows.{both_lines, few_answered, few_over}
use Rattle.script_picture.proofs.recording.lines_of.Goals as goal

pub add_line-requires : goal.add_line-requires
add_line-requires c = few_answered c.args.thread c.args.said.statement c.args.said.answer

pub add_line-requires-2 : goal.add_line-requires-2
add_line-requires-2 c = few_over c.args.thread c.args.said.statement c.args.said.ended

pub returns : goal.returns
returns c =
    both_lines c.args.thread c.args.said (map bytes_of c.new-lines.result.items)
    (map bytes_of c.add_line.new.lines.items)
    (map bytes_of c.add_line-2.new.lines.items)
    (ap (λ (l : List (String Global)). map bytes_of l) c.new-lines.ensures.items)
    c.in_ok-add_line.ensures c.in_ok-add_line-2.ensures
