-- The field that a handle points at is the one that its object was made with.
use Rattle.std.proofs.Common.{◌≡◌, ℕ, List, ◌++◌, IfOk, slice_index, Some, None, Ok, Err, Option}
use Rattle.std.proofs.Common.{Result, sym, refl, ap, ◌∙◌, subst, append_assoc}
use Rattle.pointers.proofs.Prelude.{AddsEvent, Block, desk_at, DeskNow, Entry, fields_in, IsField}
use Rattle.pointers.proofs.Prelude.{IsLegal, IsRead, KeepsObject, Known, leads, legal_seen, Lives}
use Rattle.pointers.proofs.Prelude.{object_in, Opening, opening_of, owned, Owner, Place, pointed}
use Rattle.pointers.proofs.Prelude.{Read, Refusal, Shape}
use Rattle.control_word.proofs.history.Kept.{stays_as_made}
use Rattle.control_word.proofs.history.Legal.{sound}
use Rattle.control_block.specs.Desks.{on_latest}
use Rattle.pointers.specs.Known.{fields}

abbrev IsPlace : Place → Option Place → Type 0
IsPlace p None = ⊥
IsPlace p (Some r) = p ≡ r

pub some_field : (p r : Place) → Some p ≡ Some r → p.field ≡ r.field
some_field p r same = ap (λ (x : Place). x.field) (subst (IsPlace p) same refl)

module _ {V : Type 0} where
  field_kept : (z : Opening) (more seen : List (Entry V)) (b : ℕ) → IsLegal z (more ++ seen)
      → let o = (leads z seen).latest b in ((leads z (more ++ seen)).object o).fields ≡ ((leads z seen).object o).fields
  field_kept z more seen b legal =
      (stays_as_made z more seen ((leads z seen).latest b) ((sound z seen (legal_seen z more seen legal)).latest_made b)).1

  -- what lives is of an object with the fields that it had
  pub fields_kept : (o d : DeskNow V) (c : Known V) → Lives o c d → IsLegal (opening_of o.shape) d.seen
      → fields_in (record o { seen = d.seen }) (owned c) ≡ fields o c
  fields_kept o d c lives legal = go (owned c) lives.object
    where
      go : (b : Option Block) → KeepsObject b (desk_at o c) d → fields_in (record o { seen = d.seen }) b ≡ fields_in (desk_at o c) b
      go None kept = refl
      go (Some b) kept =
          let z = opening_of o.shape in let later = lives.goes.later in let seen = lives.goes.seen in
          let here : (leads z d.seen).latest b.0 ≡ (leads z c.seen).latest b.0 =
          ap (λ (k : Shape). (leads (opening_of k) d.seen).latest b.0) (sym lives.goes.same.1) ∙ kept in
          (λ i. ((leads z (seen i)).object (here i)).fields) ∙ field_kept z later c.seen b.0 (subst (IsLegal z) seen legal)

  abbrev fields_at : Shape → List (Entry V) → ℕ → List ℕ
  fields_at k h b = let s = leads (opening_of k) h in (s.object (s.latest b)).fields

  field_made : (o d e : DeskNow V) (c : Known V) (q : Place) (n : ℕ) → Lives o c d → owned c ≡ Some q.block
      → AddsEvent d (Read (on_latest d Owner (Some q) q.block.0) n) e → n ≡ slice_index (fields o c) q.field
  field_made o d e c q n lives owns adds =
      let z = opening_of d.shape in let h = adds.between ++ d.seen in let was = adds.between ++ lives.goes.later in
      let all = subst (IsLegal z) adds.seen adds.legal in
      let told = all.1.asks.1 in
      let at : q.field ≡ told.0.field = some_field q told.0 told.1 in
      let parts : h ≡ was ++ c.seen = ap (λ (l : List (Entry V)). adds.between ++ l) lives.goes.seen ∙ sym
      (append_assoc adds.between lives.goes.later c.seen) in
      let kept : KeepsObject (Some q.block) (desk_at o c) d = subst (λ (x : Option Block). KeepsObject x (desk_at o c) d) owns lives.object in
      let here : (leads z d.seen).latest q.block.0 ≡ (leads z c.seen).latest q.block.0 =
      kept ∙ ap (λ (k : Shape). (leads (opening_of k) c.seen).latest q.block.0) (sym lives.goes.same.1) in
      let made : ((leads z h).object ((leads z d.seen).latest q.block.0)).fields ≡ (object_in (desk_at o c) q.block.0).fields =
      (λ i. ((leads z (parts i)).object (here i)).fields)
      ∙ (field_kept z was c.seen q.block.0 (subst (IsLegal z) parts all.0)
      ∙ ap (λ (k : Shape). fields_at k c.seen q.block.0) lives.goes.same.1) in
      told.3 ∙ (λ i. slice_index ((made ∙ ap (fields_in (desk_at o c)) (sym owns)) i) (sym at i))

  pub field_read : (o d e : DeskNow V) (c : Known V) (r : Result ℕ Refusal) → Lives o c d → IsRead d (owned c) (pointed c) r e → IfOk r (IsField o c)
  field_read o d e c (Ok n) lives is = (is.0, is.1, is.2, field_made o d e c is.0 n lives is.2 is.3)
  field_read o d e c (Err why) lives is = tt
