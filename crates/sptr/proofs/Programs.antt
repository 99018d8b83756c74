-- The program's command line is one of which `clap` tells the matches.
use Rattle.std.proofs.Common.{◌≡◌, ◌≢◌, ◌∙◌, ◌&&◌, ℕ, true, false, refl, sym, ap, ap₂, List, [], ◌∷◌, Option}
use Rattle.std.proofs.Common.{Some, None, codes, inl, inr, option_map}
use Rattle.std.specs.Prelude.{Bool, Box, is_some, nat_lt, option_and_then}
use Rattle.std.specs.Borrow.{Bor}
use Rattle.std.specs.Box.{box_value}
use Rattle.std.proofs.lemmas.Option.{same_Some}
use Rattle.clap.specs.Words.{Row, Shape, Text, count_of, fault_of, first_of, is_simple}
use Rattle.clap.specs.Words.{is_simple_and_free, built, subcommand_name_of, subcommand_of}
use Rattle.clap.specs.Words.{subcommand_rows, subcommand_rows_of}
use Rattle.clap.specs.Simple.{argument_words, built_leaf, help_shape, inherited, marked_built}
use Rattle.clap.specs.Simple.{with_leaf_noted}
use Rattle.clap.specs.declared.parser.matches.ArgMatches.{ArgMatches}
use Rattle.clap.specs.declared.parser.matches.ArgMatches.TheViews.{out-ArgMatches, out-SubCommand}
use Rattle.clap.specs.declared.parser.matches.SubCommand.{SubCommand}
use Rattle.sptr.proofs.OnLiterals.{lines, sptr_on_literals}
use Rattle.sptr.proofs.Walks.{enters_own}
use Rattle.script_picture.specs.declared.part.Part.{Part}
use Rattle.sptr.specs.CommandLine.{AsksFor, IsAskedBy, command_named, count_in, draw_line}
use Rattle.sptr.specs.CommandLine.{finds_given, finds_on_page, left_line, list_or_line, most_given, orders_line}
use Rattle.sptr.specs.CommandLine.{owners_line, page_given, part_given, program, script_line}
use Rattle.sptr.specs.CommandLine.{turns_in, turns_line, word_in}
use Rattle.sptr.specs.Parts.{most_named, part_named}
use Rattle.sptr.specs.declared.command.Asked.{Asked}
use Rattle.sptr.specs.declared.command.Asked.TheVariants.{Check, Convert, Draw, Fine, Left, Orders}
use Rattle.sptr.specs.declared.command.Asked.TheVariants.{OrdersPage, Owners, Run, Step}

pub program_is_simple : is_simple program ≡ true
unfolding sptr_on_literals
program_is_simple = refl

pub program_is_free : is_simple_and_free program ≡ true
unfolding sptr_on_literals
program_is_free = refl

abbrev built_line : Shape → Shape
built_line line = built_leaf (inherited (with_leaf_noted (marked_built program.top)) line)

-- words with no fault that name no other command name `check`
pub only_check : (words : List Text) → fault_of program words ≡ []
    → command_named words ≢ Some (codes "convert") → command_named words ≢ Some (codes "step")
    → command_named words ≢ Some (codes "fine") → command_named words ≢ Some (codes "run")
    → command_named words ≢ Some (codes "left") → command_named words ≢ Some (codes "draw")
    → command_named words ≢ Some (codes "owners") → command_named words ≢ Some (codes "orders")
    → command_named words ≡ Some (codes "check")
unfolding program lines
only_check words e not_convert not_step not_fine not_run not_left not_draw not_owners not_orders =
    let found = enters_own (built program) (argument_words program words)
    (built_line (script_line (codes "check")) ∷ built_line (script_line (codes "convert"))
    ∷ built_line (turns_line (codes "step")) ∷ built_line (turns_line (codes "fine"))
    ∷ built_line (script_line (codes "run")) ∷ built_line left_line ∷ built_line draw_line
    ∷ built_line owners_line ∷ built_line orders_line ∷ [])
    (built_leaf help_shape) refl refl refl refl refl e in
    elim found.2 [
      | inl is ↦ found.1 ∙ ap Some is
      | inr first ↦ elim first [
        | inl is ↦ absurd (not_convert (found.1 ∙ ap Some is))
        | inr second ↦ elim second [
          | inl is ↦ absurd (not_step (found.1 ∙ ap Some is))
          | inr third ↦ elim third [
            | inl is ↦ absurd (not_fine (found.1 ∙ ap Some is))
            | inr fourth ↦ elim fourth [
              | inl is ↦ absurd (not_run (found.1 ∙ ap Some is))
              | inr fifth ↦ elim fifth [
                | inl is ↦ absurd (not_left (found.1 ∙ ap Some is))
                | inr sixth ↦ elim sixth [
                  | inl is ↦ absurd (not_draw (found.1 ∙ ap Some is))
                  | inr seventh ↦ elim seventh [
                    | inl is ↦ absurd (not_owners (found.1 ∙ ap Some is))
                    | inr eighth ↦ elim eighth [
                      | inl is ↦ absurd (not_orders (found.1 ∙ ap Some is))
                      | inr none ↦ absurd none
                    ]
                  ]
                ]
              ]
            ]
          ]
        ]
      ]
    ]

module _ {Z : Type 0} where
  pub name_in_rows : (o : Option (Box SubCommand Z))
      → option_map (λ b. (out-SubCommand (box_value b)).name.now) o
      ≡ option_map (λ p. p.0) (subcommand_rows o)
  name_in_rows None = refl
  name_in_rows (Some b) = refl

both_parts : (o : Option (Text × List Row)) (name : Text) (rows : List Row)
    → Some name ≡ option_map (λ p. p.0) o
    → Some rows ≡ option_map (λ p. p.1) o → o ≡ Some (name, rows)
both_parts None name rows n r = absurd (some_none name n)
  where
    some_none : (x : Text) → Some x ≡ None → ⊥
    some_none x e = cc
both_parts (Some p) name rows n r =
    ap₂ (λ x y. Some (x, y)) (same_Some _ _ (sym n)) (same_Some _ _ (sym r))

-- what a subcommand that was met asks for, with its rows, is what the words ask for
module _ (words : List Text) (m : ArgMatches) (name : Text) (rows : List Row)
    (is : subcommand_rows_of m ≡ subcommand_of program words)
    (faultless : fault_of program words ≡ []) (n : Some name ≡ subcommand_name_of m)
    (r : Some rows ≡ option_map (λ p. p.1) (subcommand_rows_of m)) where
  found : subcommand_of program words ≡ Some (name, rows)
  found =
      sym is ∙ both_parts (subcommand_rows_of m) name rows
      (n ∙ name_in_rows (out-ArgMatches m).subcommand) r

  named : command_named words ≡ Some name
  named = ap (option_map (λ (p : Text × List Row). p.0)) found

  named_as : (command : Text) → name ≡ command → command_named words ≡ Some command
  named_as command is_command = named ∙ ap Some is_command

  not_named : (command : Text) → name ≢ command → command_named words ≢ Some command
  not_named command not e = not (same_Some _ _ (sym named ∙ e))

  flag_found : (id : Text) (has : Bool) → has ≡ nat_lt 0 (count_of id rows)
      → has ≡ nat_lt 0 (count_in id (subcommand_of program words))
  flag_found id has given =
      given ∙ sym (ap (λ (o : Option (Text × List Row)). nat_lt 0 (count_in id o)) found)

  page_found : (has : Bool) → nat_lt 0 (count_of (codes "page") rows) ≡ has → page_given words ≡ has
  page_found has given = sym (flag_found (codes "page") has (sym given))

  part_found : (part : Option Part)
      → part ≡ part_named (first_of (codes "from") rows) (first_of (codes "to") rows)
      → part ≡ part_given words
  part_found part given =
      given ∙ sym (ap (λ (o : Option (Text × List Row)).
      part_named (word_in (codes "from") o) (word_in (codes "to") o)) found)

  finds_found : (finds : Bool) → finds ≡ is_some (first_of (codes "find") rows)
      → finds ≡ finds_given words
  finds_found finds given =
      given ∙ sym (ap (λ (o : Option (Text × List Row)). is_some (word_in (codes "find") o)) found)

  most_found : (most : Option ℕ) → most ≡ most_named (first_of (codes "most") rows)
      → most ≡ most_given words
  most_found most given =
      given ∙ sym (ap (λ (o : Option (Text × List Row)). most_named (word_in (codes "most") o)) found)

  pub asks_by_name : (a : Asked) → IsAskedBy name rows a → AsksFor words a
  asks_by_name Check h =
      only_check words faultless (not_named _ h.0) (not_named _ h.1) (not_named _ h.2)
      (not_named _ h.3) (not_named _ h.4) (not_named _ h.5) (not_named _ h.6) (not_named _ h.7)
  asks_by_name Convert h = named_as _ h
  asks_by_name Step h = named_as _ h
  asks_by_name Fine h = named_as _ h
  asks_by_name Run h = named_as _ h
  asks_by_name (Left draws) h = (named_as _ h.0, flag_found (codes "dot") draws h.1)
  asks_by_name (Draw is_fine is_page part) h =
      (named_as _ h.0, flag_found (codes "fine") is_fine h.1, flag_found (codes "page") is_page h.2, part_found part h.3)
  asks_by_name (Owners draws) h = (named_as _ h.0, flag_found (codes "dot") draws h.1)
  asks_by_name (Orders finds most) h =
      (named_as _ h.0, page_found false h.1, finds_found finds h.2, most_found most h.3)
  asks_by_name (OrdersPage most) h = (named_as _ h.0, page_found true h.1, most_found most h.2)

-- where none was met the words would name none
pub asks_without : (words : List Text) (m : ArgMatches)
    → subcommand_rows_of m ≡ subcommand_of program words → fault_of program words ≡ []
    → None ≡ subcommand_name_of m → AsksFor words Check
asks_without words m is faultless n =
    only_check words faultless (none _) (none _) (none _) (none _) (none _) (none _) (none _)
    (none _)
  where
    none : (command : Text) → command_named words ≢ Some command
    none command e =
        not_some (n ∙ name_in_rows (out-ArgMatches m).subcommand
        ∙ ap (option_map (λ (p : Text × List Row). p.0)) is ∙ e)
      where
        not_some : None ≡ Some command → ⊥
        not_some x = cc

-- ---- what a subcommand that was met was given

module _ (m : ArgMatches) (rows : List Row)
    (r : Some rows ≡ option_map (λ p. p.1) (subcommand_rows_of m)) where
  pub given_in : (id : Text) → first_of id rows ≡ word_in id (subcommand_rows_of m)
  given_in id = go (subcommand_rows_of m) r
    where
      go : (o : Option (Text × List Row)) → Some rows ≡ option_map (λ p. p.1) o
          → first_of id rows ≡ word_in id o
      go None e = absurd (some_none e)
        where
          some_none : Some rows ≡ None → ⊥
          some_none x = cc
      go (Some p) e = ap (first_of id) (same_Some _ _ e)

  pub count_given_in : (id : Text) → count_of id rows ≡ count_in id (subcommand_rows_of m)
  count_given_in id = go (subcommand_rows_of m) r
    where
      go : (o : Option (Text × List Row)) → Some rows ≡ option_map (λ p. p.1) o
          → count_of id rows ≡ count_in id o
      go None e = absurd (some_none e)
        where
          some_none : Some rows ≡ None → ⊥
          some_none x = cc
      go (Some p) e = ap (count_of id) (same_Some _ _ e)

  pub is_given_in : (id : Text) (has : Bool) → has ≡ is_some (first_of id rows)
      → has ≡ is_some (word_in id (subcommand_rows_of m))
  is_given_in id has e = e ∙ ap is_some (given_in id)

  pub turns_given_in : (list : Text)
      → list ≡ list_or_line (first_of (codes "turns") rows) (first_of (codes "find") rows)
      → list ≡ turns_in (subcommand_rows_of m)
  turns_given_in list e = e ∙ ap₂ list_or_line (given_in (codes "turns")) (given_in (codes "find"))

-- where none was met none was given anything
pub none_given : (m : ArgMatches) → None ≡ subcommand_name_of m → (id : Text)
    → word_in id (subcommand_rows_of m) ≡ None
none_given m n id =
    go (out-ArgMatches m).subcommand (n ∙ name_in_rows (out-ArgMatches m).subcommand)
  where
    go : {Z : Type 0} (o : Option (Box SubCommand Z))
        → None ≡ option_map (λ p. p.0) (subcommand_rows o)
        → word_in id (subcommand_rows o) ≡ None
    go None e = refl
    go (Some b) e = absurd (none_some e)
      where
        none_some : {X : Type 0} {x : X} → None ≡ Some x → ⊥
        none_some x = cc

-- nor a line and a page
pub no_clash : (m : ArgMatches) → None ≡ subcommand_name_of m → false ≡ finds_on_page (subcommand_rows_of m)
no_clash m n =
    let pages : Bool = nat_lt 0 (count_in (codes "page") (subcommand_rows_of m)) in
    never pages ∙ ap (λ (o : Option Text). pages && is_some o) (sym (none_given m n (codes "find")))
  where
    never : (b : Bool) → false ≡ (b && false)
    never true = refl
    never false = refl

pub is_some_text : (o : Option (Bor Text)) → is_some o ≡ is_some (option_map (λ s. s.now) o)
is_some_text None = refl
is_some_text (Some s) = refl
