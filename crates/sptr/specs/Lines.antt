-- The lines that commands answer (own).
use Rattle.std.specs.Prelude.{ℕ, List, [], ◌∷◌, ◌++◌, codes, decimal}

abbrev pub ok_line : ℕ → ℕ → List ℕ
ok_line threads statements = codes "ok threads " ++ decimal threads ++ codes " statements "
    ++ decimal statements ++ 10 ∷ []

-- the line where no orders are told
abbrev pub limit_line : List ℕ
limit_line = codes "refused 4: limit: 1000000 states are seen at most, or N with --most N\n"

-- the line where the script can't tell the line that is to be found
abbrev pub no_line : List ℕ
no_line = codes "refused 14: line: no statement of the script can tell it\n"

-- the line where no picture is drawn
abbrev pub picture_line : List ℕ
picture_line =
    codes "refused 4: limit: a picture has up to 2000 acts; --from N --to M draw acts N to M\n"
