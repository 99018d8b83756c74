-- Handles, and how they are compared.
use Rattle.std.specs.Prelude.{◌≡◌, ℕ, ◌<◌, ◌≤◌, Bool, true, false, ◌&&◌, ◌==◌, nat_lt, Option}
use Rattle.std.specs.Prelude.{Some, None}
use Rattle.control_word.specs.declared.model.handle.NumberedHandle.{NumberedHandle}
use Rattle.control_word.specs.declared.place.Place.{Place}
use Rattle.control_word.specs.declared.model.handle.Kind.{Kind}
use Rattle.control_word.specs.declared.model.handle.Kind.TheVariants.{Owner, Weak}
use Rattle.control_word.specs.Limits.{most_blocks}

abbrev pub handle : Kind → Option ℕ → Option Place → NumberedHandle
handle k o p = record { kind = k; object = o; place = p }

abbrev pub owner : ℕ → Option Place → NumberedHandle
owner o p = handle Owner (Some o) p

abbrev pub weak_of : ℕ → Option Place → NumberedHandle
weak_of o p = handle Weak (Some o) p

-- a default handle: no object and a null place ([util.smartptr.shared.const], [util.smartptr.weak.const])
abbrev pub empty : Kind → NumberedHandle
empty k = handle k None None

-- the object's number, or 0
abbrev pub object_of : NumberedHandle → ℕ
object_of h = elim (h.object) [ None ↦ 0 | Some o ↦ o ]

abbrev pub has_object : NumberedHandle → Bool
has_object h = elim (h.object) [ None ↦ false | Some o ↦ true ]

-- null, or one of the four fields of a block (own)
abbrev pub IsPointer : Option Place → Type 0
IsPointer None = Unit {0}
IsPointer (Some p) = (1 ≤ p.block.0) × (p.block.0 ≤ most_blocks) × (p.field < 4)

-- an empty weak handle has a null place (own)
abbrev pub IsBare : Kind → Option ℕ → Option Place → Type 0
IsBare Weak None p = p ≡ None
IsBare _ _ _ = Unit {0}

abbrev pub IsFormed : NumberedHandle → Type 0
IsFormed h = IsPointer h.place × IsBare h.kind h.object h.place

abbrev pub same_kind : Kind → Kind → Bool
same_kind Owner Owner = true
same_kind Owner Weak = false
same_kind Weak Owner = false
same_kind Weak Weak = true

abbrev pub same_number : Option ℕ → Option ℕ → Bool
same_number None None = true
same_number None (Some y) = false
same_number (Some x) None = false
same_number (Some x) (Some y) = x == y

abbrev pub same_place : Option Place → Option Place → Bool
same_place None None = true
same_place None (Some y) = false
same_place (Some x) None = false
same_place (Some x) (Some y) = x.block.0 == y.block.0 && x.field == y.field

-- the same place, and the same object or both none: what compare_exchange compares ([util.smartptr.atomic.shared])
abbrev pub equivalent : NumberedHandle → NumberedHandle → Bool
equivalent a b = same_number a.object b.object && same_place a.place b.place

abbrev pub same_handle : NumberedHandle → NumberedHandle → Bool
same_handle a b = same_kind a.kind b.kind && equivalent a b

-- the handle is of this kind, and of this object
abbrev pub is_on : Kind → ℕ → NumberedHandle → Bool
is_on k o h = same_kind k h.kind && same_number (Some o) h.object

-- owner order goes by the objects' blocks, empty first, whatever the kinds ([util.smartptr.shared.obs]; by block: own)
abbrev pub rank : (ℕ → ℕ) → NumberedHandle → ℕ
rank block h = elim (h.object) [ None ↦ 0 | Some o ↦ block o ]

abbrev pub owner_before : (ℕ → ℕ) → NumberedHandle → NumberedHandle → Bool
owner_before block a b = nat_lt (rank block a) (rank block b)
