-- Faults of words that the program finds itself.
use Rattle.std.proofs.Common.{◌≡◌, Bool, true, false, inl, inr, [], ◌∷◌, ap, ap₂}
use Rattle.std.specs.Prelude.{if◌then◌else◌}
use Rattle.clap.specs.Kinds.{HasKind, Kinds, or_else}
use Rattle.clap.specs.declared.error.Error.{Error}
use Rattle.clap.specs.declared.error.kind.ErrorKind.{ErrorKind}
use Rattle.clap.specs.declared.error.kind.ErrorKind.TheVariants.{ArgumentConflict}

-- what is a fault of words stays one
pub still_has : (kinds more : Kinds) (e : Error) → HasKind kinds e → HasKind (or_else kinds more) e
still_has [] more e (inl memory) = inl memory
still_has [] more e (inr none) = absurd none
still_has (k ∷ ks) more e h = h

abbrev with_clash : Kinds → Bool → Kinds
with_clash kinds clash = or_else kinds (if clash then ArgumentConflict ∷ [] else [])

-- where there is none, there is none, or just that
pub faultless : (kinds : Kinds) (clash : Bool) → kinds ≡ [] → clash ≡ false
    → or_else kinds (if clash then ArgumentConflict ∷ [] else []) ≡ []
faultless kinds clash empty is_false = ap₂ with_clash empty is_false

pub conflicting : (kinds : Kinds) (clash : Bool) → kinds ≡ [] → clash ≡ true
    → or_else kinds (if clash then ArgumentConflict ∷ [] else []) ≡ ArgumentConflict ∷ []
conflicting kinds clash empty is_true = ap₂ with_clash empty is_true

-- the first one stays
pub first_stays : (kinds more : Kinds) (one : ErrorKind) → kinds ≡ one ∷ [] → or_else kinds more ≡ one ∷ []
first_stays kinds more one is = ap (λ (ks : Kinds). or_else ks more) is
