use Rattle.script_runner.proofs.table.closing.close_sole.Goals as goal

pub returns : goal.returns
returns g c =
    let can = c.requires.can in
    let k = c.in-Ok.ensures in record { by = can; blocks = k.census.sized; tells = k.whole can.bare.2 }
