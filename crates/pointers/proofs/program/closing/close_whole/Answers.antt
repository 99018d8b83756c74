use Rattle.pointers.proofs.program.closing.close_whole.Goals as goal

pub returns : goal.returns
returns g c =
    let r = c.requires in let k = c.in-Ok.ensures in
    record {
      of = r.here.shape;
      sole = r.sole;
      none = r.none;
      blocks = k.census.sized;
      tells = k.whole r.none;
      cells = k.cells;
      holders = k.holders;
    }
