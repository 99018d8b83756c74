-- A text that was taken, and then a flush.
use Rattle.std.proofs.Common.{◌≡◌, ℕ, Bool, List, [], Option, Result, Ok, Err, sym}
use Rattle.std.proofs.Common.{◌∙◌, ap, refl, subst}
use Rattle.std.specs.Prelude.{IfErr}
use Rattle.std.specs.Io.KnownBytes.{Appends, Keeps}
use Rattle.std.proofs.lemmas.List.{append-nil}
use Rattle.script_text.specs.declared.fault.Fault.{Fault}
use Rattle.script_text.specs.declared.fault.Fault.TheVariants.{Output}
use Rattle.script_stepper.specs.Runs.{Delivers, TellsRun}
use Rattle.script_stepper.specs.Sinks.{AppendsBeginning}
use Rattle.script_stepper.proofs.Writing.{Appends-kept, Appends-then}
use Rattle.leak_report.specs.Left.{IsLeftText}
use Rattle.leak_report.proofs.ReportLemmas.{forgotten as left_forgotten}
use Rattle.script_orders.specs.declared.orders.Answer.{Answer}
use Rattle.script_orders.specs.declared.orders.Answer.TheVariants as orders
use Rattle.sptr.specs.OutcomePages.{TellsPage}
use Rattle.script_orders.specs.Orders.{TellsOrders}
use Rattle.script_picture.proofs.Pictures.{forgotten as picture_forgotten}
use Rattle.script_picture.specs.Pictures.{IsPictureText}
use Rattle.script_picture.specs.declared.part.Part.{Part}
use Rattle.sptr.specs.Outcomes.{orders_answer, orders_outcome}
use Rattle.sptr.specs.declared.answers.Outcome.{Outcome}

kept_after : (a b c : Option (List ℕ)) (text : List ℕ) → Appends a b text → Keeps b c
    → Appends a c text
kept_after a b c text h k =
    subst (Appends a c) (append-nil text) (Appends-then a b c text [] h (Appends-kept b c k))

all_of : (a c : Option (List ℕ)) (text : List ℕ) → Appends a c text → AppendsBeginning a c text
all_of a c text h = record { front = text; rest = []; text = sym (append-nil text); took = h }

pub delivers_flushed : {A : Type 0} (told : Result (List ℕ) Fault → Type 0) (r : Result A Fault)
    (a b c : Option (List ℕ))
    → (text : List ℕ) × told (Ok text) × Appends a b text
    → Keeps b c → IfErr r (λ fault. fault ≡ Output) → Delivers told r a c
delivers_flushed told (Ok x) a b c h k e = (h.0, h.1, kept_after a b c h.0 h.2 k)
delivers_flushed {A} told (Err f) a b c h k e =
    subst (λ (g : Fault). Delivers {A = A} told (Err g) a c) (sym e)
    (h.0, h.1, all_of a c h.0 (kept_after a b c h.0 h.2 k))

-- what was answered is forgotten where the flush fails
unflushed : {A : Type 0} (told : Result A Fault → Result (List ℕ) Fault → Type 0) (x : A)
    (fault : Fault) (a b c : Option (List ℕ))
    → ((text : List ℕ) → told (Ok x) (Ok text) → told (Err Output) (Ok text))
    → (text : List ℕ) × told (Ok x) (Ok text) × Appends a b text
    → Keeps b c → fault ≡ Output → Delivers {A = A} (told (Err fault)) (Err fault) a c
unflushed {A} told x fault a b c forget h k e =
    subst (λ (f : Fault). Delivers {A = A} (told (Err f)) (Err f) a c) (sym e)
    (h.0, forget h.0 h.1, all_of a c h.0 (kept_after a b c h.0 h.2 k))

pub left_unflushed : (draws : Bool) (bytes list : List ℕ) (leaks : Bool) (fault : Fault)
    (a b c : Option (List ℕ))
    → (text : List ℕ) × TellsRun (IsLeftText draws (Ok leaks)) bytes list (Ok text)
    × Appends a b text
    → Keeps b c → fault ≡ Output
    → Delivers {A = Bool} (TellsRun (IsLeftText draws (Err fault)) bytes list) (Err fault) a c
left_unflushed draws bytes list leaks fault a b c =
    unflushed (λ answer. TellsRun (IsLeftText draws answer) bytes list) leaks fault a b c
    (λ text h. left_forgotten draws leaks Output bytes list text h)

-- what comes of an answer on orders is of that answer
answer_back : (answer : Answer) → orders_answer (Ok (orders_outcome answer)) ≡ Ok answer
answer_back orders.Told = refl
answer_back orders.Found = refl
answer_back orders.TooMany = refl
answer_back orders.CannotTell = refl

module _ (line : Option (List ℕ)) (bytes : List ℕ) (answer : Answer) (a b c : Option (List ℕ))
    (h : (text : List ℕ) × TellsOrders line (Ok answer) bytes (Ok text) × Appends a b text)
    (k : Keeps b c) where
  pub orders_flushed : (outcome : Outcome) → outcome ≡ orders_outcome answer
      → Delivers {A = Outcome} (TellsOrders line (orders_answer (Ok outcome)) bytes) (Ok outcome) a c
  orders_flushed outcome is = (
    h.0,
    subst (λ (r : Result Answer Fault). TellsOrders line r bytes (Ok h.0))
        (sym (ap (λ (o : Outcome). orders_answer (Ok o)) is ∙ answer_back answer)) h.1,
    kept_after a b c h.0 h.2 k,
  )

  pub orders_unflushed : (fault : Fault) → fault ≡ Output
      → Delivers {A = Outcome} (TellsOrders line (orders_answer (Err fault)) bytes) (Err fault) a c
  orders_unflushed fault e =
      subst (λ (f : Fault).
      Delivers {A = Outcome} (TellsOrders line (orders_answer (Err f)) bytes) (Err f) a c) (sym e)
      (h.0, (answer, h.1), all_of a c h.0 (kept_after a b c h.0 h.2 k))

pub page_unflushed : (bytes : List ℕ) (none : Bool) (fault : Fault) (a b c : Option (List ℕ))
    → (text : List ℕ) × TellsPage (Ok none) bytes (Ok text) × Appends a b text
    → Keeps b c → fault ≡ Output → Delivers {A = Bool} (TellsPage (Err fault) bytes) (Err fault) a c
page_unflushed bytes none fault a b c =
    unflushed (λ answer. TellsPage answer bytes) none fault a b c (λ text h. (none, h))

pub picture_unflushed : (is_fine is_page : Bool) (part : Part) (bytes list : List ℕ) (more : Bool)
    (fault : Fault) (a b c : Option (List ℕ))
    → (text : List ℕ) × TellsRun (IsPictureText is_fine is_page part (Ok more)) bytes list (Ok text)
    × Appends a b text
    → Keeps b c → fault ≡ Output
    → Delivers {A = Bool} (TellsRun (IsPictureText is_fine is_page part (Err fault)) bytes list) (Err fault)
    a c
picture_unflushed is_fine is_page part bytes list more fault a b c =
    unflushed (λ answer. TellsRun (IsPictureText is_fine is_page part answer) bytes list) more fault a b c
    (λ text h. picture_forgotten is_fine is_page more part Output bytes list text h)
