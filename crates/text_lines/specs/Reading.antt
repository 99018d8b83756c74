-- What a reader of lines answers, against the value or the first cause that its grammar gives. All
-- of it is own.
use Rattle.std.specs.Prelude.{◌≡◌, Result, Ok, Err}
use Rattle.text_lines.specs.declared.fault.Stop.{Stop}
use Rattle.text_lines.specs.declared.fault.Stop.TheVariants as stop

infixl 10 ◌>>=◌
-- the first cause, or what comes of the value
abbrev pub ◌>>=◌ : {A B C : Type 0} → Result A C → (A → Result B C) → Result B C
(Ok x) >>= f = f x
(Err e) >>= f = Err e

-- want of memory aside, the cause is the one that the grammar gives
abbrev pub Fails : {Y C : Type 0} → Stop C → Result Y C → Type 0
Fails stop.Memory read = Unit {0}
Fails (stop.Cause c) read = read ≡ Err c

-- want of memory aside, the answer is the one that the grammar gives, seen by the view
abbrev pub Gives : {X Y C : Type 0} → (X → Y) → Result X (Stop C) → Result Y C → Type 0
Gives view (Ok x) read = read ≡ Ok (view x)
Gives view (Err e) read = Fails e read
