-- What was read of a statement on a cell is read again from its canonical words.
use Rattle.std.proofs.Common.{◌≡◌, ℕ, ◌^◌, ◌<◌, Bool, true, false, cond, eqb, ltb, List, [], ◌∷◌}
use Rattle.std.proofs.Common.{◌++◌, Some, None, Ok, Err, decimal, Option, Result, refl, ap, subst}
use Rattle.std.proofs.Common.{arith, lit<, ltb-true, lt-ltb}
use Rattle.script_text.proofs.Prelude.{AllByRecursion, as_in, BadCell, Cause, cell_text, CellName}
use Rattle.script_text.proofs.Prelude.{digits_decimal, HasTextCells, is_digit, is_name, IsDeclared}
use Rattle.script_text.proofs.Prelude.{IsIn, kind_at, kinds_in, list_all, member_text, Name}
use Rattle.script_text.proofs.Prelude.{name_text, NameList, number_at, numerals, Owner, Shape}
use Rattle.script_text.proofs.Prelude.{split_dot, through, ◌>>=◌}
use Rattle.step_threads.specs.declared.programs.call.CellName.TheVariants as free
use Rattle.script_text.specs.Words.{cell_number_at, cell_of_kind, free_cell_at, numbered_cell}
use Rattle.script_text.specs.Names.{source_at}
use Rattle.script_text.specs.Cells.{cell_of_word, cell_by, member_at, member_number_at}
use Rattle.script_text.proofs.CellWords.{digit_dot, dotted_tidy, member_again, member_below}
use Rattle.script_text.proofs.CellWords.{name_cut, uncut}
use Rattle.script_text.proofs.TidyWords.{IsTidy, both_true, is_tidy_byte}
use Rattle.script_text.proofs.ReadNames.{Entry, Grows, IsDeclared-Entry, both_give, given}
use Rattle.script_text.proofs.ReadNames.{grows_by_none, if_given, name_text-Entry, same_given}
use Rattle.script_text.proofs.ReadNames.{source_is}
use Rattle.script_text.proofs.ReadNumbers.{decimal_reads, decimal_tidy}
use Rattle.script_text.proofs.Reversible.{grown_entry, still}

-- a free cell that texts name, or one of an object's three members
abbrev pub IsTextCell : CellName → Type 0
IsTextCell (free.Shared n) = n < 128
IsTextCell (free.Weak n) = n < 128
IsTextCell (free.Member k m) = m < 3

-- the name before the dot, if there is one, was read from some word
abbrev IsNamed : NameList → CellName → Type 0
IsNamed names (free.Shared n) = Unit {0}
IsNamed names (free.Weak n) = Unit {0}
IsNamed names (free.Member k m) = (word : List ℕ) × (source_at names Owner word ≡ Ok k)

-- a cell that was read
pub record IsCell (names : NameList) (c : CellName) : Type 0 where
  pub text : IsTextCell c
  pub named : IsNamed names c

-- ---- what was read

below_by : (r : Result ℕ Cause) (n : ℕ) → numbered_cell r ≡ Ok n → n < 128
below_by (Ok m) n h =
    let g = if_given (ltb m 128) BadCell m n h in
    let below : m < 128 = ltb-true m 128 g.0 in subst (λ (k : ℕ). k < 128) g.1 below
below_by (Err c) n h = absurd cc

number_below : (word : List ℕ) (n : ℕ) → cell_number_at word ≡ Ok n → n < 128
unfolding cell_number_at
number_below word n h = below_by (number_at word) n h

kind_is : (names : NameList) (kind : ℕ → CellName) (number : List ℕ) (c : CellName)
    → ((n : ℕ) → n < 128 → IsCell names (kind n))
    → cell_of_kind kind number ≡ Ok c → IsCell names c
kind_is names kind number c each h =
    let b = both_give (cell_number_at number) (λ n. given (kind n)) c h in
    subst (IsCell names) (same_given (kind b.value) c b.second)
    (each b.value (number_below number b.value b.first))

letter_is : (names : NameList) (s w : Bool) (number : List ℕ) (c : CellName)
    → cond s (cell_of_kind free.Shared number)
    (cond w (cell_of_kind free.Weak number) (Err BadCell)) ≡ Ok c → IsCell names c
letter_is names true w number c h =
    kind_is names free.Shared number c (λ n below. record { text = below; named = tt }) h
letter_is names false true number c h =
    kind_is names free.Weak number c (λ n below. record { text = below; named = tt }) h
letter_is names false false number c h = absurd cc

free_is : (names : NameList) (word : List ℕ) (c : CellName) → free_cell_at word ≡ Ok c
    → IsCell names c
unfolding free_cell_at
free_is names [] c h = absurd cc
free_is names (letter ∷ number) c h = letter_is names (eqb letter 115) (eqb letter 119) number c h

abbrev member : Name → ℕ → CellName
member k m = free.Member k m

passes : (b : Bool) (r : Result CellName Cause) (c : CellName) → cond b r (Err BadCell) ≡ Ok c
    → r ≡ Ok c
passes true r c h = h
passes false r c h = absurd cc

member_is : (names : NameList) (name word : List ℕ) (c : CellName)
    → member_at names name word ≡ Ok c → IsCell names c
unfolding member_at
member_is names name word c h =
    let formed =
    passes (is_name name) (member_number_at word >>= λ m. source_at names Owner name
    >>= λ k. given (member k m)) c h in
    let a = both_give (member_number_at word)
    (λ m. source_at names Owner name >>= λ k. given (member k m)) c formed in
    let b = both_give (source_at names Owner name) (λ k. given (member k a.value)) c a.second in
    let is : IsCell names (member b.value a.value) =
    record { text = member_below word a.value a.first; named = (name, b.first) } in
    subst (IsCell names) (same_given (member b.value a.value) c b.second) is

by_is : (names : NameList) (word : List ℕ) (parts : Option (List ℕ × List ℕ)) (c : CellName)
    → cell_by names word parts ≡ Ok c
    → IsCell names c
by_is names word None c h = free_is names word c h
by_is names word (Some parts) c h = member_is names parts.0 parts.1 c h

pub cell_is : (names : NameList) (word : List ℕ) (c : CellName) → cell_of_word names word ≡ Ok c
    → IsCell names c
unfolding cell_of_word
cell_is names word c h = by_is names word (split_dot word) c h

-- ---- and is read again

fits_64 : (n : ℕ) → n < 128 → n < 2 ^ 64
fits_64 n h = let most : 128 < 2 ^ 64 = lit< tt in omega (arith, h, most)

number_again : (n : ℕ) → n < 128 → cell_number_at (decimal n) ≡ Ok n
unfolding cell_number_at
number_again n h =
    let below : ltb n 128 ≡ true = lt-ltb n 128 h in rw (decimal_reads n (fits_64 n h), below) refl

number_uncut : (n : ℕ) → n < 128 → split_dot (decimal n) ≡ None
number_uncut n h = uncut is_digit digit_dot (decimal n) (digits_decimal numerals n (fits_64 n h))

dotted_again : (names : NameList) (word : List ℕ) (k : Name) (m : ℕ) → is_name word ≡ true → m < 3
    → source_at names Owner word ≡ Ok k
    → cell_of_word names (word ++ 46 ∷ member_text m) ≡ Ok (member k m)
unfolding cell_of_word member_at
dotted_again names word k m name below source =
    rw (name_cut word (member_text m) name, name, member_again m below, source) refl

pub cell_again : (names : NameList) (c : CellName) → IsCell names c
    → cell_of_word names (cell_text names c) ≡ Ok c
unfolding cell_of_word free_cell_at
cell_again names (free.Shared n) h = rw (number_uncut n h.text, number_again n h.text) refl
cell_again names (free.Weak n) h = rw (number_uncut n h.text, number_again n h.text) refl
cell_again names (free.Member k m) h =
    let word : List ℕ = h.named.0 in
    let s = source_is names Owner word k h.named.1 in
    let text : name_text names k ≡ word = name_text-Entry names k word Owner s.entry in
    rw text (dotted_again names word k m s.name_ok h.text h.named.1)

pub cell_tidy : (names : NameList) (c : CellName) → IsCell names c → IsTidy (cell_text names c)
cell_tidy names (free.Shared n) h = (
  omega arith,
  both_true (is_tidy_byte 115) (list_all is_tidy_byte (decimal n)) refl
      (decimal_tidy n (fits_64 n h.text)).1,
)
cell_tidy names (free.Weak n) h = (
  omega arith,
  both_true (is_tidy_byte 119) (list_all is_tidy_byte (decimal n)) refl
      (decimal_tidy n (fits_64 n h.text)).1,
)
cell_tidy names (free.Member k m) h =
    let word : List ℕ = h.named.0 in
    let s = source_is names Owner word k h.named.1 in
    let text : name_text names k ≡ word = name_text-Entry names k word Owner s.entry in
    rw text (dotted_tidy word m s.name_ok h.text)

-- ---- also among more names

-- the name before the dot, if there is one, is in the names
abbrev pub HasEntry : NameList → CellName → Type 0
HasEntry names (free.Shared n) = Unit {0}
HasEntry names (free.Weak n) = Unit {0}
HasEntry names (free.Member k m) = (word : List ℕ) × Entry names k word Owner

pub cell_entry : (names new : NameList) (c : CellName) → Grows names new → IsCell names c
    → HasEntry new c
cell_entry names new (free.Shared n) g h = tt
cell_entry names new (free.Weak n) g h = tt
cell_entry names new (free.Member k m) g h =
    let word : List ℕ = h.named.0 in
    (word, grown_entry names new k word Owner g (source_is names Owner word k h.named.1).entry)

pub cell_still : (names more : NameList) (c : CellName) → HasEntry names c
    → cell_text (names ++ more) c ≡ cell_text names c
cell_still names more (free.Shared n) e = refl
cell_still names more (free.Weak n) e = refl
cell_still names more (free.Member k m) e =
    ap (λ (u : List ℕ). u ++ 46 ∷ member_text m) (still names more k e.0 Owner e.1)

pub cell_grown : (names new : NameList) (c : CellName) → Grows names new → IsCell names c
    → cell_text new c ≡ cell_text names c
cell_grown names new c g h =
    rw g.grown (cell_still names g.more c (cell_entry names names c (grows_by_none names) h))

-- ---- the names that it asks for

pub through_named : (names : NameList) (c : CellName) → HasEntry names c
    → AllByRecursion (IsDeclared (kinds_in names)) (through c)
through_named names (free.Shared n) e = tt
through_named names (free.Weak n) e = tt
through_named names (free.Member k m) e = (IsDeclared-Entry names k e.0 Owner e.1, tt)

pub as_kind : (names : NameList) (c : CellName) (name : Name) (word : List ℕ)
    → Entry names name word (kind_at c)
    → IsDeclared (kinds_in names) (as_in c name)
as_kind names c name word e = IsDeclared-Entry names name word (kind_at c) e

-- a shape with 128 cells of each kind has it
pub text_cell_in : (shape : Shape) → HasTextCells shape → (c : CellName) → IsTextCell c
    → IsIn shape c
text_cell_in shape has (free.Shared n) h = omega (arith, h, has.0)
text_cell_in shape has (free.Weak n) h = omega (arith, h, has.1)
text_cell_in shape has (free.Member k m) h = h
