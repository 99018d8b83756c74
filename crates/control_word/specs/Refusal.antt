-- What a refusal is called (own).
use Rattle.std.specs.Prelude.{ℕ, List, codes}
use Rattle.control_word.specs.declared.refusal.Refusal.{Refusal}
use Rattle.control_word.specs.declared.refusal.Refusal.TheVariants.{Memory, Shape, Full, Limit, BadWeak}
use Rattle.control_word.specs.declared.refusal.Refusal.TheVariants.{Null, Outside, NotEnabled, NotSole}

-- its number in scripts and messages
abbrev pub refusal_number : Refusal → ℕ
refusal_number Memory = 1
refusal_number Shape = 2
refusal_number Full = 3
refusal_number Limit = 4
refusal_number BadWeak = 5
refusal_number Null = 6
refusal_number Outside = 7
refusal_number NotEnabled = 8
refusal_number NotSole = 9

-- its word in messages
abbrev pub refusal_text : Refusal → List ℕ
refusal_text Memory = codes "memory"
refusal_text Shape = codes "shape"
refusal_text Full = codes "full"
refusal_text Limit = codes "limit"
refusal_text BadWeak = codes "bad weak"
refusal_text Null = codes "null"
refusal_text Outside = codes "outside"
refusal_text NotEnabled = codes "not enabled"
refusal_text NotSole = codes "not sole"
