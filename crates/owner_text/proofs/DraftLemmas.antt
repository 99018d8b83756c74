-- A graph with an object or a handle more.
use Rattle.std.proofs.Common.{◌≡◌, ℕ, zero, suc, ◌+◌, ◌-◌, ◌<◌, Bool, List, [], ◌∷◌, ◌++◌, length}
use Rattle.std.proofs.Common.{replicate, slice_set, Ok, Result, refl, sym, ap, ◌∙◌, arith}
use Rattle.std.proofs.Common.{length-append}
use Rattle.owner_text.proofs.Prelude.{Draft, Holding}
use Rattle.owner_text.specs.Drafts.{with_handle, with_object, with_room}
use Rattle.owner_text.specs.declared.fault.Cause.{Cause}

abbrev pub good : Draft → Result Draft Cause
good d = Ok d

abbrev pub numbered : ℕ → List (List ℕ) → ℕ × List (List ℕ)
numbered n labels = (n, labels)

abbrev pub labelled : ℕ × List (List ℕ) → Result (ℕ × List (List ℕ)) Cause
labelled found = Ok found

length_replicate : (k : ℕ) → length {A = ℕ} (replicate k 0) ≡ k
length_replicate zero = refl
length_replicate (suc k) = ap suc (length_replicate k)

-- there is room for the object
pub has_room : (a b : List ℕ) (number : ℕ) → b ≡ with_room a number → number < length b
has_room a b number is =
    let e = ap (length {A = ℕ}) is in
    let s = length-append a (replicate (number + 1 - length a) 0) in
    let r = length_replicate (number + 1 - length a) in
    omega (arith, e, s, r)

pub object_added : (d : Draft) (number n : ℕ) (labels : List (List ℕ)) (found : ℕ × List (List ℕ))
    (room objects : List ℕ)
    → labelled found ≡ labelled (numbered n labels) → room ≡ with_room d.objects number
    → objects ≡ slice_set room number (n + 1)
    → good (with_object d number found)
    ≡ good (record { objects = objects; labels = labels; handles = d.handles })
object_added d number n labels found room objects e is set =
    let same : found ≡ numbered n labels = cc in
    let all : slice_set (with_room d.objects number) number (n + 1) ≡ objects =
    ap (λ (x : List ℕ). slice_set x number (n + 1)) (sym is) ∙ sym set in
    ap (λ (p : ℕ × List (List ℕ)). good (with_object d number p)) same
    ∙ ap (λ (os : List ℕ). good (record { objects = os; labels = labels; handles = d.handles })) all

pub handle_added : (d : Draft) (from to : ℕ) (owner : Bool) (n slot : ℕ) (labels : List (List ℕ))
    (found : ℕ × List (List ℕ))
    (handles : List Holding) → labelled found ≡ labelled (numbered n labels)
    → slot ≡ length d.handles
    → handles ≡ d.handles ++ record {
      from = from;
      to = to;
      slot = slot;
      label = n;
      is_owner = owner;
    } ∷ []
    → good (with_handle d from to owner found)
    ≡ good (record { objects = d.objects; labels = labels; handles = handles })
handle_added d from to owner n slot labels found handles e at_ push =
    let same : found ≡ numbered n labels = cc in
    let hold : ℕ → List Holding = λ s. d.handles
    ++ record { from = from; to = to; slot = s; label = n; is_owner = owner } ∷ [] in
    ap (λ (p : ℕ × List (List ℕ)). good (with_handle d from to owner p)) same
    ∙ ap (λ (hs : List Holding). good
    (record { objects = d.objects; labels = labels; handles = hs }))
    (ap hold (sym at_) ∙ sym push)
