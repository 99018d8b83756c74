-- What a desk has still is on the object that it was on.
use Rattle.std.proofs.Common.{◌≡◌, ℕ, List, [], ◌∷◌, map, Some, None, Option, refl, ap, ◌∙◌, subst}
use Rattle.std.proofs.Common.{inl, inr, ⊎_elim}
use Rattle.scene_structures.proofs.Prelude.{bag_of, Block, calls_keep_latest, cond_both, DeskNow}
use Rattle.scene_structures.proofs.Prelude.{Empty, handle, Has, IsLeft, KeepsHeld, KeepsLatest}
use Rattle.scene_structures.proofs.Prelude.{Kind, Last, latest_of, leads, LeavesWeakly, Left}
use Rattle.scene_structures.proofs.Prelude.{NumberedHandle, opening_of, Others, Place, same_handle}
use Rattle.scene_structures.proofs.Prelude.{Shape, with_handle, without, without_handle}
use Rattle.control_block.specs.Desks.{HasHandle}

pub has_mapped : {A B : Type 0} (f : A → B) (x : A) (l : List A) → Has x l → Has (f x) (map f l)
has_mapped f x [] h = absurd h
has_mapped f x (y ∷ l) h = ⊎_elim (λ e. inl (ap f e)) (λ t. inr (has_mapped f x l t)) h

has_before : (x h : NumberedHandle) (l : List NumberedHandle) → Has x (without same_handle h l) → Has x l
has_before x h [] has = absurd has
has_before x h (y ∷ l) has =
    cond_both (same_handle h y) l (y ∷ without same_handle h l) (λ r. Has x r → Has x (y ∷ l)) (λ e t. inr t)
    (λ e t. ⊎_elim inl (λ u. inr (has_before x h l u)) t) has

-- what is left of a bag was in it
pub has_all : (k : Kind) (b : Option Block) (p : Option Place) (x : NumberedHandle) (l : List NumberedHandle) → Has x (without_handle k b p l) → Has x l
has_all k None p x l has = has
has_all k (Some b) p x l has = has_before x (handle k (Some b.0) p) l has

pub has_over : (k : Kind) (b : Option Block) (p : Option Place) (x : NumberedHandle) (l : List NumberedHandle) → Has x l → Has x (with_handle k b p l)
has_over k None p x l has = has
has_over k (Some b) p x l has = inr has

module _ {V : Type 0} where
  -- over no event
  pub latest_none : (d e : DeskNow V) → e.shape ≡ d.shape → e.seen ≡ d.seen → (b : ℕ) → latest_of e b ≡ latest_of d b
  latest_none d e shape seen b =
      ap (λ (y : Shape). (leads (opening_of y) e.seen).latest b) shape ∙ ap (λ l. (leads (opening_of d.shape) l).latest b) seen

  -- an owner that left
  pub left_latest : (d e : DeskNow V) (b : Option Block) (p : Option Place) (left : Left V) → IsLeft d b p left e → KeepsLatest d e
  left_latest d e b p Empty is = λ k q c has. latest_none d e (ap (λ (u : DeskNow V). u.shape) is.1) (ap (λ (u : DeskNow V). u.seen) is.1) c
  left_latest d e b p Others is = calls_keep_latest d _ e is.2
  left_latest d e b p (Last x) is = calls_keep_latest d _ e is.1

  pub weak_latest : (d e : DeskNow V) (b : Option Block) (p : Option Place) (v : _) → LeavesWeakly d b p v e → KeepsLatest d e
  weak_latest d e None p v is = λ k q c has. latest_none d e (ap (λ (u : DeskNow V). u.shape) is.0) (ap (λ (u : DeskNow V). u.seen) is.0) c
  weak_latest d e (Some b) p v is = calls_keep_latest d _ e is

  -- what it has in the end, it had
  pub keeps_held : (d e : DeskNow V) → ((k : Kind) (p : Option Place) (b : ℕ) → HasHandle e k p b → HasHandle d k p b)
      → KeepsLatest d e → KeepsHeld d e
  keeps_held d e had keeps k p b has = keeps k p b (had k p b has)

  pub keeps_same : (d e : DeskNow V) → bag_of e ≡ bag_of d → KeepsLatest d e → KeepsHeld d e
  keeps_same d e bag keeps = keeps_held d e (λ k p b has. subst (Has (handle k (Some b) p)) bag has) keeps

  pub keeps_rest : (d e : DeskNow V) (k : Kind) (b : Option Block) (p : Option Place) → bag_of e ≡ without_handle k b p (bag_of d) → KeepsLatest d e
      → KeepsHeld d e
  keeps_rest d e k b p bag keeps = keeps_held d e (λ j q c has. has_all k b p _ (bag_of d) (subst (Has (handle j (Some c) q)) bag has)) keeps

  pub held_both : (d e f : DeskNow V) → bag_of f ≡ bag_of e → KeepsHeld d e → KeepsHeld e f → KeepsHeld d f
  held_both d e f bag one two k p b has = two k p b has ∙ one k p b (subst (Has (handle k (Some b) p)) bag has)

  pub held_here : (d : DeskNow V) → KeepsHeld d d
  held_here d k p b has = refl
