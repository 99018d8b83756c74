-- What is asked for plainly is answered.
use Rattle.std.proofs.Common.{◌≡◌, ◌⊎◌, ◌∙◌, ℕ, Bool, true, false, refl, sym, ap, ap₂, subst, List}
use Rattle.std.proofs.Common.{[], ◌∷◌, Option, Some, None, Err, Result, codes, inl, inr}
use Rattle.std.specs.Str.{bytes_eq}
use Rattle.clap.specs.Words.{IsAmong, Kinds, Text, fault_of}
use Rattle.clap.specs.declared.error.kind.ErrorKind.{ErrorKind}
use Rattle.clap.specs.declared.error.kind.ErrorKind.TheVariants as kind
use Rattle.script_picture.specs.declared.part.Part.{Part}
use Rattle.script_text.specs.declared.fault.Fault.{Fault}
use Rattle.script_text.specs.declared.fault.Fault.TheVariants.{Memory}
use Rattle.script_stepper.specs.Runs.{Delivers}
use Rattle.sptr.specs.CommandLine.{AsksFor, AsksHelp, AsksPlainly, AsksVersion, NamesNoCommand}
use Rattle.sptr.specs.CommandLine.{command_named, draws_given, faults_of, fine_given, names_list, names_text}
use Rattle.sptr.specs.CommandLine.{finds_given, most_given, page_given, part_given, program, turns_given}
use Rattle.sptr.specs.Serving.{AnswersCommand, IsAnswered, IsMistaken, IsReason, IsShownText}
use Rattle.sptr.specs.Serving.{IsReported, IsSilent, IsTurnedAway, Report, Serves}
use Rattle.script_text.specs.Faults.{fault_line}
use Rattle.sptr.specs.Sources.{OfBytes, known_unless}
use Rattle.sptr.specs.declared.answers.Outcome.{Outcome}
use Rattle.sptr.specs.declared.command.Asked.{Asked}
use Rattle.sptr.specs.declared.command.Asked.TheVariants.{Check, Convert, Draw, Fine, Left, Orders}
use Rattle.sptr.specs.declared.command.Asked.TheVariants.{OrdersPage, Owners, Run, Step}
use Rattle.std.proofs.lemmas.Option.{same_Some}
use Rattle.sptr.proofs.Conflicts.{first_stays}
use Rattle.sptr.proofs.PlainLines.{help_asked, no_command, plainly_asks, version_asked}

none_one : (one : ErrorKind) → one ∷ [] ≡ [] → ⊥
none_one one e = cc

missing_help : kind.MissingSubcommand ≡ kind.DisplayHelp → ⊥
missing_help e = cc

missing_version : kind.MissingSubcommand ≡ kind.DisplayVersion → ⊥
missing_version e = cc

missing_memory : kind.MissingSubcommand ≡ kind.OutOfMemory → ⊥
missing_memory e = cc

pick : Bool → Asked → Asked → Asked
pick true a b = a
pick false a b = b

-- what `orders` asks for, where a page is asked for or not
orders_as : Bool → List Text → Asked
orders_as true words = OrdersPage (most_given words)
orders_as false words = Orders (finds_given words) (most_given words)

-- what the command with a name asks for
asked_as : Text → List Text → Asked
asked_as name words =
    pick (bytes_eq name (codes "check")) Check
    (pick (bytes_eq name (codes "convert")) Convert
    (pick (bytes_eq name (codes "step")) Step
    (pick (bytes_eq name (codes "fine")) Fine
    (pick (bytes_eq name (codes "run")) Run
    (pick (bytes_eq name (codes "left")) (Left (draws_given words))
    (pick (bytes_eq name (codes "draw")) (Draw (fine_given words) (page_given words) (part_given words))
    (pick (bytes_eq name (codes "owners")) (Owners (draws_given words))
    (orders_as (page_given words) words))))))))

-- what words ask for goes by the name of their command
name_of : Asked → Text
name_of Check = codes "check"
name_of Convert = codes "convert"
name_of Step = codes "step"
name_of Fine = codes "fine"
name_of Run = codes "run"
name_of (Left draws) = codes "left"
name_of (Draw is_fine is_page part) = codes "draw"
name_of (Owners draws) = codes "owners"
name_of (Orders finds most) = codes "orders"
name_of (OrdersPage most) = codes "orders"

named : (words : List Text) (a : Asked) → AsksFor words a → command_named words ≡ Some (name_of a)
unfolding name_of
named words Check x = x
named words Convert x = x
named words Step x = x
named words Fine x = x
named words Run x = x
named words (Left draws) x = x.0
named words (Draw is_fine is_page part) x = x.0
named words (Owners draws) x = x.0
named words (Orders finds most) x = x.0
named words (OrdersPage most) x = x.0

by_name : (words : List Text) (a : Asked) → AsksFor words a → a ≡ asked_as (name_of a) words
unfolding asked_as pick name_of orders_as
by_name words Check x = refl
by_name words Convert x = refl
by_name words Step x = refl
by_name words Fine x = refl
by_name words Run x = refl
by_name words (Left draws) x = ap Left x.1
by_name words (Draw is_fine is_page part) x =
    ap (λ (f : Bool). Draw f is_page part) x.1
    ∙ ap₂ (λ (g : Bool) (p : Option Part). Draw (fine_given words) g p) x.2 x.3
by_name words (Owners draws) x = ap Owners x.1
by_name words (Orders finds most) x =
    ap₂ Orders x.2 x.3 ∙ ap (λ (is_page : Bool). orders_as is_page words) (sym x.1)
by_name words (OrdersPage most) x =
    ap OrdersPage x.2 ∙ ap (λ (is_page : Bool). orders_as is_page words) (sym x.1)

-- words ask for one thing
same_asked : (words : List Text) (a b : Asked) → AsksFor words a → AsksFor words b → a ≡ b
same_asked words a b x y =
    by_name words a x
    ∙ ap (λ name. asked_as name words)
    (same_Some _ _ (sym (named words a x) ∙ named words b y))
    ∙ sym (by_name words b y)

module _ (words : List Text) (input : Option (List ℕ)) (status : ℕ) (old new : Option (List ℕ))
    (has_failed : Bool) (faults : Report) where
  abbrev Answered : Asked → Option (List ℕ) → Option (List ℕ) → Type 0
  Answered asked list known = IsAnswered asked list known status old new has_failed faults

  pub answered_plainly : (a b : Asked) (given list : List ℕ) (has_list has_text : Bool)
      → given ≡ turns_given words → has_list ≡ names_list words → has_text ≡ names_text words
      → AsksFor words a → AsksPlainly words b list
      → IsAnswered a (known_unless has_list (Some given)) (known_unless has_text input) status old
      new has_failed faults
      → IsAnswered b (Some list) input status old new has_failed faults
  answered_plainly a b given list has_list has_text turns lists texts x y h =
      let plain = plainly_asks words b list y in
      subst (λ (c : Asked). Answered c (Some list) input)
      (same_asked words a b x plain.asks)
      (subst (λ (l : List ℕ). Answered a (Some l) input) (turns ∙ plain.turns)
      (subst (λ (has : Bool). Answered a (known_unless has (Some given)) input)
      (lists ∙ plain.no_list)
      (subst (λ (has : Bool). Answered a (known_unless has_list (Some given))
      (known_unless has input)) (texts ∙ plain.no_text) h)))

  nothing : (input : Option (List ℕ)) (told : List ℕ → Result (List ℕ) Fault → Type 0) → new ≡ old
      → OfBytes input (λ bytes. Delivers {A = Outcome} (told bytes) (Err Memory) old new)
  nothing None told e = ([], e)
  nothing (Some bytes) told e = e

  no_kind : (reason : ErrorKind) (kinds : Kinds) → kinds ≡ []
      → (reason ≡ kind.OutOfMemory) ⊎ IsAmong reason kinds → reason ≡ kind.OutOfMemory
  no_kind reason kinds none (inl is) = is
  no_kind reason kinds none (inr among) = absurd (subst (IsAmong reason) none among)

  pub turned_plainly : (reason : ErrorKind) (b : Asked) (list : List ℕ) → IsReason words reason
      → AsksPlainly words b list
      → IsTurnedAway reason status old new has_failed faults
      → IsAnswered b (Some list) input status old new has_failed faults
  turned_plainly reason b list r y h =
      let m =
      h.memory (no_kind reason (faults_of words) (plainly_asks words b list y).faultless r) in
      record {
        answer = Err Memory;
        delivers = nothing input (AnswersCommand b list (Err Memory)) m.1.0;
        finds = tt;
        says = m.0;
        fails = m.1.1;
        reports = m.2;
      }

memory_help : kind.OutOfMemory ≡ kind.DisplayHelp → ⊥
memory_help e = cc

memory_version : kind.OutOfMemory ≡ kind.DisplayVersion → ⊥
memory_version e = cc

-- where there was no memory for the words, some words are turned away for want of it
pub unread : (input : Option (List ℕ)) (status : ℕ) (old new : Option (List ℕ)) (has_failed : Bool)
    (faults : Report) → status ≡ 1 → IsSilent old new has_failed
    → IsReported (fault_line Memory) faults
    → (words : List Text) × Serves words input status old new has_failed faults
unread input status old new has_failed faults one silent reports = (
  [],
  inr (
    kind.OutOfMemory,
    inl refl,
    record {
      help = λ e. absurd (memory_help e);
      version = λ e. absurd (memory_version e);
      memory = λ e. (one, silent, reports);
      mistake = λ a b not. absurd (not refl);
    },
  ),
)

module _ (words : List Text) where
  only_kind : (reason one : ErrorKind) → faults_of words ≡ one ∷ [] → IsReason words reason
      → (reason ≡ kind.OutOfMemory) ⊎ (reason ≡ one)
  only_kind reason one e (inl is) = inl is
  only_kind reason one e (inr among) = elim (subst (IsAmong reason) e among) [
    | inl is ↦ inr is
    | inr none ↦ absurd none
  ]

  first_fault : (one : ErrorKind) → fault_of program words ≡ one ∷ [] → faults_of words ≡ one ∷ []
  first_fault one is = first_stays (fault_of program words) _ one is

  help_fault : AsksHelp words → faults_of words ≡ kind.DisplayHelp ∷ []
  help_fault h = first_fault kind.DisplayHelp (ap (fault_of program) h.1 ∙ help_asked h.0)

  version_fault : AsksVersion words → faults_of words ≡ kind.DisplayVersion ∷ []
  version_fault h = first_fault kind.DisplayVersion (ap (fault_of program) h.1 ∙ version_asked h.0)

  command_fault : NamesNoCommand words → faults_of words ≡ kind.MissingSubcommand ∷ []
  command_fault h = first_fault kind.MissingSubcommand (ap (fault_of program) h.1 ∙ no_command h.0)

  pub not_helped : {A : Type 0} → AsksHelp words → faults_of words ≡ [] → A
  not_helped h e = absurd (none_one kind.DisplayHelp (sym (help_fault h) ∙ e))

  pub not_told : {A : Type 0} → AsksVersion words → faults_of words ≡ [] → A
  not_told h e = absurd (none_one kind.DisplayVersion (sym (version_fault h) ∙ e))

  pub not_mistaken : {A : Type 0} → NamesNoCommand words → faults_of words ≡ [] → A
  not_mistaken h e = absurd (none_one kind.MissingSubcommand (sym (command_fault h) ∙ e))

module _ (words : List Text) (status : ℕ) (old new : Option (List ℕ)) (has_failed : Bool)
    (faults : Report) where
  pub helped_plainly : (reason : ErrorKind) → IsReason words reason → AsksHelp words
      → IsTurnedAway reason status old new has_failed faults
      → IsShownText status old new has_failed faults
  helped_plainly reason r y h =
      elim (only_kind words reason kind.DisplayHelp (help_fault words y) r) [
        | inl is ↦
            let m = h.memory is in
            record {
              text = [];
              answer = Err Memory;
              writes = m.1.0;
              says = m.0;
              fails = m.1.1;
              reports = m.2;
            }
        | inr is ↦ h.help is
      ]

  pub told_plainly : (reason : ErrorKind) → IsReason words reason → AsksVersion words
      → IsTurnedAway reason status old new has_failed faults
      → IsShownText status old new has_failed faults
  told_plainly reason r y h =
      elim (only_kind words reason kind.DisplayVersion (version_fault words y) r) [
        | inl is ↦
            let m = h.memory is in
            record {
              text = [];
              answer = Err Memory;
              writes = m.1.0;
              says = m.0;
              fails = m.1.1;
              reports = m.2;
            }
        | inr is ↦ h.version is
      ]

  pub mistaken_plainly : (reason : ErrorKind) → IsReason words reason → NamesNoCommand words
      → IsTurnedAway reason status old new has_failed faults
      → IsMistaken status old new has_failed faults
  mistaken_plainly reason r y h =
      elim (only_kind words reason kind.MissingSubcommand (command_fault words y) r) [
        | inl is ↦
            let m = h.memory is in
            (inr (m.0, m.2), m.1)
        | inr is ↦
            let m =
            h.mistake (λ e. missing_help (sym is ∙ e)) (λ e. missing_version (sym is ∙ e))
            (λ e. missing_memory (sym is ∙ e)) in
            (inl m.0, m.1)
      ]
