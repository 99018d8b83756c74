-- What acts add to rows.
use Rattle.std.proofs.Common.{◌≡◌, ℕ, ◌+◌, ◌<◌, ◌≤◌, ◌++◌, ◌&&◌, Bool, true, false, List, [], ◌∷◌}
use Rattle.std.proofs.Common.{append_assoc, subst, sym, ◌∙◌}
use Rattle.std.proofs.lemmas.List.{append-nil}
use Rattle.std.specs.Prelude.{nat_le}
use Rattle.std.proofs.lemmas.Bool.{leb-true}
use Rattle.run_picture.specs.declared.picture.Row.{Row}
use Rattle.script_picture.specs.declared.part.Part.{Part}
use Rattle.script_picture.specs.declared.recording.Rows.{Rows}
use Rattle.script_picture.specs.Acts.{IsRow, Seen}
use Rattle.script_picture.specs.Parts.{is_in}
use Rattle.script_picture.specs.Recording.{Adds, IsRecorded, RowsAre}
use Rattle.script_picture.proofs.Rows.{behind, inside, outside}
use Rattle.std.proofs.Common.{refl}

pub adds_none : (r : Rows) → Adds [] r r
adds_none r = record {
  part = refl;
  blocks = refl;
  adds = λ seen h. subst (RowsAre r) (sym (append-nil seen)) h;
}

pub adds_then : (xs ys : List Seen) (r m r' : Rows) → Adds xs r m → Adds ys m r'
    → Adds (xs ++ ys) r r'
adds_then xs ys r m r' p q = record {
  part = q.part ∙ p.part;
  blocks = q.blocks ∙ p.blocks;
  adds =
      λ seen h. subst (RowsAre r') (append_assoc seen xs ys)
      (q.adds (seen ++ xs) (p.adds seen h));
}

recorded_as : (part part' : Part) (acts acts' : ℕ) (list list' : List Row) (seen : List Seen)
    → part' ≡ part → acts' ≡ acts → list' ≡ list
    → IsRecorded part acts list seen → IsRecorded part' acts' list' seen
recorded_as part part' acts acts' list list' seen p a l h =
    subst (λ (x : Part). IsRecorded x acts' list' seen) (sym p)
    (subst (λ (n : ℕ). IsRecorded part n list' seen) (sym a)
    (subst (λ (rows : List Row). IsRecorded part acts rows seen) (sym l) h))

-- ---- an act

pub adds_behind : (r : Rows) (x : Seen) → r.part.last < r.acts → Adds (x ∷ []) r r
adds_behind r x lt = record {
  part = refl;
  blocks = refl;
  adds = λ seen h. behind r.part r.acts r.list.items seen x lt h;
}

pub adds_outside : (r r' : Rows) (x : Seen) → r.acts ≤ r.part.last
    → is_in r.part (r.acts + 1) ≡ false → r'.part ≡ r.part
    → r'.source.blocks ≡ r.source.blocks → r'.acts ≡ r.acts + 1 → r'.list.items ≡ r.list.items
    → Adds (x ∷ []) r r'
adds_outside r r' x le out part blocks acts list = record {
  part = part;
  blocks = blocks;
  adds = λ seen h.
      recorded_as r.part r'.part (r.acts + 1) r'.acts r.list.items r'.list.items (seen ++ x ∷ [])
      part acts list
      (outside r.part r.acts r.list.items seen x le out h);
}

pub adds_inside : (r r' : Rows) (x : Seen) (row : Row) → r.acts ≤ r.part.last
    → is_in r.part (r.acts + 1) ≡ true → IsRow (r.acts + 1, x) row
    → r'.part ≡ r.part → r'.source.blocks ≡ r.source.blocks → r'.acts ≡ r.acts + 1
    → r'.list.items ≡ r.list.items ++ row ∷ []
    → Adds (x ∷ []) r r'
adds_inside r r' x row le is one part blocks acts list = record {
  part = part;
  blocks = blocks;
  adds = λ seen h.
      recorded_as r.part r'.part (r.acts + 1) r'.acts (r.list.items ++ row ∷ []) r'.list.items
      (seen ++ x ∷ []) part acts list
      (inside r.part r.acts r.list.items seen x row le is one h);
}

-- an act of a part isn't behind it
pub within : (part : Part) (n : ℕ) → is_in part n ≡ true → n ≤ part.last
within part n e = leb-true n part.last (second (nat_le part.first n) (nat_le n part.last) e)
  where
    second : (a b : Bool) → (a && b) ≡ true → b ≡ true
    second true b e = e
    second false b e = absurd cc
