-- Texts that go on.
use Rattle.std.proofs.Common.{◌≡◌, ℕ, ◌++◌, List, [], append_assoc, sym, ap, ◌∙◌}
use Rattle.std.proofs.lemmas.List.{append-nil}
use Rattle.script_picture.specs.Acts.{GoesOnWith}

pub goes_none : (old : List ℕ) → GoesOnWith [] old old
goes_none old = ([], sym (append-nil old))

-- with more behind it
pub goes_then : (begun old mid new more : List ℕ) → GoesOnWith begun old mid → new ≡ mid ++ more
    → GoesOnWith begun old new
goes_then begun old mid new more h e = (
  h.0 ++ more,
  e
      ∙ ap (λ (t : List ℕ). t ++ more) h.1
      ∙ append_assoc old (begun ++ h.0) more
      ∙ ap (λ (t : List ℕ). old ++ t) (append_assoc begun h.0 more),
)

pub goes_both : (begun old mid new : List ℕ) → GoesOnWith begun old mid → GoesOnWith [] mid new
    → GoesOnWith begun old new
goes_both begun old mid new h k = goes_then begun old mid new k.0 h k.1

pub goes_by : (old new more : List ℕ) → new ≡ old ++ more → GoesOnWith [] old new
goes_by old new more e = (more, e)

-- behind what it was to begin with
pub goes_after : (begun old mid new : List ℕ) → mid ≡ old ++ begun → GoesOnWith [] mid new
    → GoesOnWith begun old new
goes_after begun old mid new e h =
    (h.0, h.1 ∙ ap (λ (t : List ℕ). t ++ h.0) e ∙ append_assoc old begun h.0)

-- behind a blank
pub goes_on : (old mid new blank : List ℕ) → mid ≡ old ++ blank → GoesOnWith [] mid new
    → GoesOnWith [] old new
goes_on old mid new blank e h = (
  blank ++ h.0,
  h.1 ∙ ap (λ (t : List ℕ). t ++ h.0) e ∙ append_assoc old blank h.0,
)

pub goes_first : (begun old new : List ℕ) → old ≡ [] → GoesOnWith begun old new
    → GoesOnWith begun [] new
goes_first begun old new e h = (h.0, h.1 ∙ ap (λ (t : List ℕ). t ++ (begun ++ h.0)) e)
