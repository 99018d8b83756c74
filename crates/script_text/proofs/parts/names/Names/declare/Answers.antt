use Rattle.std.proofs.Common.{◌≡◌, None, arith, rules}
use Rattle.script_text.proofs.Prelude.{find_name, names_in}
use Rattle.script_text.proofs.NameLemmas.{declared_new}
use Rattle.script_text.proofs.parts.names.Names.declare.Goals as goal

pub returns : goal.returns
returns c =
    let none : find_name c.args.name.now (names_in c.self.inside.table.entries) ≡ None =
    rw (c.self.view_is) (search rules) in
    rw (← c.self.view_is)
    (declared_new c.self.inside.table.entries c.insert.new.self.entries c.in_ok-name.name
    c.args.kind
    c.args.name.now c.len-number.result
    (search rules) none (search rules) (omega arith) (search rules))
