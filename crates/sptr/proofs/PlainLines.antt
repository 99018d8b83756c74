-- Lines in the manner of the program's page ask for what they say, and have no fault.
use Rattle.std.proofs.Common.{◌≡◌, ◌∙◌, ℕ, Bool, true, false, refl, sym, List, [], ◌∷◌, ◌++◌, None}
use Rattle.std.proofs.Common.{Some, codes, subst}
use Rattle.std.specs.Str.{bytes_eq}
use Rattle.clap.specs.Words.{Text, fault_of}
use Rattle.clap.specs.Lexer.{long_of, short_of}
use Rattle.clap.specs.declared.error.kind.ErrorKind.TheVariants as kind
use Rattle.sptr.proofs.OnLiterals.{sptr_on_literals}
use Rattle.sptr.specs.CommandLine.{AsksFor, AsksPlainly, IsLine, dot_words, draws_given}
use Rattle.sptr.specs.CommandLine.{IsOrdersLine, faults_of, finds_given, most_given, names_list}
use Rattle.sptr.specs.CommandLine.{names_text, page_given}
use Rattle.sptr.specs.CommandLine.{program, turns_given}
use Rattle.sptr.specs.Parts.{most_states}
use Rattle.sptr.specs.declared.command.Asked.{Asked}
use Rattle.sptr.specs.declared.command.Asked.TheVariants.{Check, Convert, Draw, Fine, Left, Orders}
use Rattle.sptr.specs.declared.command.Asked.TheVariants.{OrdersPage, Owners, Run, Step}
use Rattle.sptr.proofs.PlainDraws.{draw_asked}
use Rattle.sptr.proofs.PlainTurns.{IsFor, with_turns}

check_alone : (name : Text) → IsFor (codes "check") [] (name ∷ codes "check" ∷ [])
unfolding sptr_on_literals
check_alone name = (refl, refl, refl, (refl, refl))

convert_alone : (name : Text) → IsFor (codes "convert") [] (name ∷ codes "convert" ∷ [])
unfolding sptr_on_literals
convert_alone name = (refl, refl, refl, (refl, refl))

run_alone : (name : Text) → IsFor (codes "run") [] (name ∷ codes "run" ∷ [])
unfolding sptr_on_literals
run_alone name = (refl, refl, refl, (refl, refl))

step_alone : (name : Text) → IsFor (codes "step") [] (name ∷ codes "step" ∷ [])
unfolding sptr_on_literals
step_alone name = (refl, refl, refl, (refl, refl))

step_joined : (name list : Text)
    → IsFor (codes "step") list (name ∷ codes "step" ∷ (codes "--turns=" ++ list) ∷ [])
unfolding sptr_on_literals
step_joined name list = (refl, refl, refl, (refl, refl))

step_apart : (name list : Text) → bytes_eq list (45 ∷ 45 ∷ []) ≡ false → long_of list ≡ None
    → short_of list ≡ None
    → IsFor (codes "step") list (name ∷ codes "step" ∷ codes "--turns" ∷ list ∷ [])
unfolding sptr_on_literals
step_apart name list dashes long short = (
  rw (dashes, long, short) refl,
  refl,
  rw (dashes, long, short) refl,
  (rw (dashes, long, short) refl, rw (dashes, long, short) refl),
)

fine_alone : (name : Text) → IsFor (codes "fine") [] (name ∷ codes "fine" ∷ [])
unfolding sptr_on_literals
fine_alone name = (refl, refl, refl, (refl, refl))

fine_joined : (name list : Text)
    → IsFor (codes "fine") list (name ∷ codes "fine" ∷ (codes "--turns=" ++ list) ∷ [])
unfolding sptr_on_literals
fine_joined name list = (refl, refl, refl, (refl, refl))

fine_apart : (name list : Text) → bytes_eq list (45 ∷ 45 ∷ []) ≡ false → long_of list ≡ None
    → short_of list ≡ None
    → IsFor (codes "fine") list (name ∷ codes "fine" ∷ codes "--turns" ∷ list ∷ [])
unfolding sptr_on_literals
fine_apart name list dashes long short = (
  rw (dashes, long, short) refl,
  refl,
  rw (dashes, long, short) refl,
  (rw (dashes, long, short) refl, rw (dashes, long, short) refl),
)

abbrev IsForLeft : Bool → Text → List Text → Type 0
IsForLeft draws list words = IsFor (codes "left") list words × (draws_given words ≡ draws)

left_alone : (name : Text) → IsForLeft false [] (name ∷ codes "left" ∷ [])
unfolding sptr_on_literals
left_alone name = ((refl, refl, refl, (refl, refl)), refl)

left_joined : (name list : Text)
    → IsForLeft false list (name ∷ codes "left" ∷ (codes "--turns=" ++ list) ∷ [])
unfolding sptr_on_literals
left_joined name list = ((refl, refl, refl, (refl, refl)), refl)

left_apart : (name list : Text) → bytes_eq list (45 ∷ 45 ∷ []) ≡ false → long_of list ≡ None
    → short_of list ≡ None
    → IsForLeft false list (name ∷ codes "left" ∷ codes "--turns" ∷ list ∷ [])
unfolding sptr_on_literals
left_apart name list dashes long short = (
  (
    rw (dashes, long, short) refl,
    refl,
    rw (dashes, long, short) refl,
    (rw (dashes, long, short) refl, rw (dashes, long, short) refl),
  ),
  rw (dashes, long, short) refl,
)

drawn_alone : (name : Text) → IsForLeft true [] (name ∷ codes "left" ∷ codes "--dot" ∷ [])
unfolding sptr_on_literals
drawn_alone name = ((refl, refl, refl, (refl, refl)), refl)

drawn_joined : (name list : Text)
    → IsForLeft true list (name ∷ codes "left" ∷ codes "--dot" ∷ (codes "--turns=" ++ list) ∷ [])
unfolding sptr_on_literals
drawn_joined name list = ((refl, refl, refl, (refl, refl)), refl)

drawn_apart : (name list : Text) → bytes_eq list (45 ∷ 45 ∷ []) ≡ false → long_of list ≡ None
    → short_of list ≡ None
    → IsForLeft true list (name ∷ codes "left" ∷ codes "--dot" ∷ codes "--turns" ∷ list ∷ [])
unfolding sptr_on_literals
drawn_apart name list dashes long short = (
  (
    rw (dashes, long, short) refl,
    refl,
    rw (dashes, long, short) refl,
    (rw (dashes, long, short) refl, rw (dashes, long, short) refl),
  ),
  rw (dashes, long, short) refl,
)

owners_alone : (name : Text) → IsFor (codes "owners") [] (name ∷ codes "owners" ∷ [])
    × (draws_given (name ∷ codes "owners" ∷ []) ≡ false)
unfolding sptr_on_literals
owners_alone name = ((refl, refl, refl, (refl, refl)), refl)

owners_drawn : (name : Text)
    → IsFor (codes "owners") [] (name ∷ codes "owners" ∷ codes "--dot" ∷ [])
    × (draws_given (name ∷ codes "owners" ∷ codes "--dot" ∷ []) ≡ true)
unfolding sptr_on_literals
owners_drawn name = ((refl, refl, refl, (refl, refl)), refl)

abbrev IsForOwners : Bool → List Text → Type 0
IsForOwners draws words = IsFor (codes "owners") [] words × (draws_given words ≡ draws)

owners_asked : (draws : Bool) (name : Text) (words : List Text)
    → words ≡ name ∷ codes "owners" ∷ dot_words draws → IsForOwners draws words
owners_asked false name words is = subst (IsForOwners false) (sym is) (owners_alone name)
owners_asked true name words is = subst (IsForOwners true) (sym is) (owners_drawn name)

-- the line has no fault, and asks for orders, or for a line of them
record IsForOrders (finds : Bool) (line : Text) (words : List Text) : Type 0 where
  plain : IsFor (codes "orders") line words
  page_is : page_given words ≡ false
  finds_is : finds_given words ≡ finds
  most_is : most_given words ≡ Some most_states

orders_alone : (name : Text) → IsForOrders false [] (name ∷ codes "orders" ∷ [])
unfolding sptr_on_literals
orders_alone name =
    record { plain = (refl, refl, refl, (refl, refl)); page_is = refl; finds_is = refl; most_is = refl }

orders_joined : (name line : Text)
    → IsForOrders true line (name ∷ codes "orders" ∷ (codes "--find=" ++ line) ∷ [])
unfolding sptr_on_literals
orders_joined name line =
    record { plain = (refl, refl, refl, (refl, refl)); page_is = refl; finds_is = refl; most_is = refl }

orders_asked : (finds : Bool) (name line : Text) (words : List Text)
    → IsOrdersLine finds name line words → IsForOrders finds line words
orders_asked false name line words h =
    subst (λ l. IsForOrders false l words) (sym h.1)
    (subst (IsForOrders false []) (sym h.0) (orders_alone name))
orders_asked true name line words is =
    subst (IsForOrders true line) (sym is) (orders_joined name line)

-- the line has no fault, and asks for a page of orders
record IsForOrdersPage (words : List Text) : Type 0 where
  plain : IsFor (codes "orders") [] words
  page_is : page_given words ≡ true
  most_is : most_given words ≡ Some most_states

orders_page_alone : (name : Text) → IsForOrdersPage (name ∷ codes "orders" ∷ codes "--page" ∷ [])
unfolding sptr_on_literals
orders_page_alone name =
    record { plain = (refl, refl, refl, (refl, refl)); page_is = refl; most_is = refl }

pub help_asked : (name : Text) → fault_of program (name ∷ codes "--help" ∷ [])
    ≡ kind.DisplayHelp ∷ []
unfolding sptr_on_literals
help_asked name = refl

pub version_asked : (name : Text)
    → fault_of program (name ∷ codes "--version" ∷ []) ≡ kind.DisplayVersion ∷ []
unfolding sptr_on_literals
version_asked name = refl

pub no_command : (name : Text) → fault_of program (name ∷ []) ≡ kind.MissingSubcommand ∷ []
unfolding sptr_on_literals
no_command name = refl

left_with_turns : (draws : Bool) (name list : Text) (words : List Text)
    → IsLine (codes "left") (dot_words draws) name list words
    → IsForLeft draws list words
left_with_turns false =
    with_turns (codes "left") [] (IsForLeft false) left_alone left_joined left_apart
left_with_turns true =
    with_turns (codes "left") (codes "--dot" ∷ []) (IsForLeft true) drawn_alone drawn_joined
    drawn_apart

-- the words have no fault, ask for this with this list of turns, and name no file
pub record IsPlain (words : List Text) (asked : Asked) (list : List ℕ) : Type 0 where
  pub faultless : faults_of words ≡ []
  pub asks : AsksFor words asked
  pub turns : turns_given words ≡ list
  pub no_text : names_text words ≡ false
  pub no_list : names_list words ≡ false

plain_for : (words : List Text) (command : Text) (asked : Asked) (list : List ℕ)
    → IsFor command list words → AsksFor words asked → IsPlain words asked list
plain_for words command asked list is asks = record {
  faultless = is.0;
  asks = asks;
  turns = is.2;
  no_text = is.3.0;
  no_list = is.3.1;
}

module _ (words : List Text) (list : List ℕ) (command : Text)
    (alone : (name : Text) → IsFor command [] (name ∷ command ∷ [])) where
  alone_for : (name : Text) → words ≡ name ∷ command ∷ [] → list ≡ [] → IsFor command list words
  alone_for name is none =
      subst (λ l. IsFor command l words) (sym none)
      (subst (λ ws. IsFor command [] ws) (sym is) (alone name))

pub plainly_asks : (words : List Text) (asked : Asked) (list : List ℕ)
    → AsksPlainly words asked list → IsPlain words asked list
plainly_asks words Check list h =
    let found = alone_for words list (codes "check") check_alone h.0 h.1 h.2 in
    plain_for words (codes "check") Check list found found.1
plainly_asks words Convert list h =
    let found = alone_for words list (codes "convert") convert_alone h.0 h.1 h.2 in
    plain_for words (codes "convert") Convert list found found.1
plainly_asks words Step list h =
    let found =
    with_turns (codes "step") [] (IsFor (codes "step")) step_alone step_joined step_apart h.0
    list words h.1 in
    plain_for words (codes "step") Step list found found.1
plainly_asks words Fine list h =
    let found =
    with_turns (codes "fine") [] (IsFor (codes "fine")) fine_alone fine_joined fine_apart h.0
    list words h.1 in
    plain_for words (codes "fine") Fine list found found.1
plainly_asks words Run list h =
    let found = alone_for words list (codes "run") run_alone h.0 h.1 h.2 in
    plain_for words (codes "run") Run list found found.1
plainly_asks words (Left draws) list h =
    let found = left_with_turns draws h.0 list words h.1 in
    plain_for words (codes "left") (Left draws) list found.0 (found.0.1, sym found.1)
plainly_asks words (Draw is_fine is_page part) list h =
    let found = draw_asked words is_fine is_page part h.0 list h.1 in
    plain_for words (codes "draw") (Draw is_fine is_page part) list found.line
    (found.line.1, sym found.fine, sym found.page, sym found.part_is)
plainly_asks words (Owners draws) list h =
    let found = owners_asked draws h.0 words h.1 in
    plain_for words (codes "owners") (Owners draws) list
    (subst (λ l. IsFor (codes "owners") l words) (sym h.2) found.0) (found.0.1, sym found.1)
plainly_asks words (Orders finds most) list h =
    let found = orders_asked finds h.0 list words h.1 in
    plain_for words (codes "orders") (Orders finds most) list found.plain
    (found.plain.1, found.page_is, sym found.finds_is, h.2 ∙ sym found.most_is)
plainly_asks words (OrdersPage most) list h =
    let found = subst IsForOrdersPage (sym h.1) (orders_page_alone h.0) in
    plain_for words (codes "orders") (OrdersPage most) list
    (subst (λ l. IsFor (codes "orders") l words) (sym h.2) found.plain)
    (found.plain.1, found.page_is, h.3 ∙ sym found.most_is)
