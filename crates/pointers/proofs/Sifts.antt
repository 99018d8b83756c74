-- A `retain` goes on by one node.
use Rattle.std.proofs.Common.{◌≡◌, ◌⊎◌, refl, sym, subst, ap, inl, inr, arith}
use Rattle.std.specs.Prelude.{IfErr, IfOk, ℕ, ◌+◌, Bool, true, false, Result, Ok, Err, min}
use Rattle.std.specs.Prelude.{List, [], ◌∷◌, ◌++◌, Option, None, Some}
use Rattle.std.specs.Fn.{CalledAt, Mut}
use denote.Ref.{Bor}
use Rattle.pointers.proofs.Prelude.{DeskNow, Fault, Known}
use Rattle.pointers.proofs.ListSteps.{place_on, refused_node}
use Rattle.pointers.specs.ListChanges.{IsPlaceOf}
use Rattle.pointers.specs.ListRemovals.{IsSifted, IsUnlinked, Judges, Retains, Sifted, Sifts, WhyNotRetained}
use Rattle.pointers.specs.ListRemovals.{next_if, number_if, outs}
use Rattle.pointers.specs.Lists.{Leads, behind}
use Rattle.pointers.specs.Sites.{Site}

outs_on : {E : Type 0} → (xs : List (Sifted E)) (x : Sifted E) → outs (xs ++ (x ∷ [])) ≡ outs xs + number_if x.out
outs_on [] x = omega arith
outs_on (y ∷ ys) x = let h = outs_on ys x in omega (arith, h)

module _ {V E F : Type 0} (Copied : Known V → Option E → Type 0) (Refused : Known V → Fault → Type 0)
    (g : Mut F (Bor E × Unit {0}) (Result Bool Fault)) where
  -- what f answered of a node's element
  pub judged : (c : Known V) (f h : F) (x : Option E) (e : E) (r : Result Bool Fault) → Copied c x → x ≡ Some e
      → CalledAt g f e r h → IfOk r (λ (stays : Bool). (y : Option E) × Judges Copied g f c y (Ok stays) h)
  judged c f h x e (Ok stays) copied has called = (Some e, (subst (Copied c) has copied, called))
  judged c f h x e (Err why) copied has called = tt

  pub not_judged : (c : Known V) (f h : F) (x : Option E) (e : E) (r : Result Bool Fault) → Copied c x → x ≡ Some e
      → CalledAt g f e r h
      → IfErr r (λ (why : Fault). Refused c why ⊎ ((y : Option E) × Judges Copied g f c y (Err why) h))
  not_judged c f h x e (Ok stays) copied has called = tt
  not_judged c f h x e (Err why) copied has called = inr (Some e, (subst (Copied c) has copied, called))

module _ {V E F : Type 0} (o : DeskNow V) (Copied : Known V → Option E → Type 0)
    (Refused : Known V → Fault → Type 0) (g : Mut F (Bor E × Unit {0}) (Result Bool Fault)) where
  sifts_on : (l s t : Site V) (f m h : F) (xs : List (Sifted E)) (x : Sifted E) (c : Known V)
      → Sifts o Copied Refused g l s f xs t m → Leads o t (Some c) → Judges Copied g m c x.element (Ok x.kept) h
      → IsSifted o l c x.kept x.out → Sifts o Copied Refused g l s f (xs ++ (x ∷ [])) (next_if x.kept c t) h
  sifts_on l s t f m h [] x c (here, same) leads judges out = (
    c,
    h,
    subst (λ (y : Site V). Leads o y (Some c)) (sym here) leads,
    subst (λ (y : F). Judges Copied g y c x.element (Ok x.kept) h) (sym same) judges,
    out,
    (ap (next_if x.kept c) here, refl),
  )
  sifts_on l s t f m h (y ∷ ys) x c (d, k, first, told, gone, rest) leads judges out =
      (d, k, first, told, gone, sifts_on l (next_if y.kept d s) t k m h ys x c rest leads judges out)

  place_if : (l s : Site V) (c : Known V) (kept : Bool) → IsPlaceOf o l s → Leads o s (Some c)
      → IsPlaceOf o l (next_if kept c s)
  place_if l s c true place leads = place_on o l s (Some c) c place leads refl
  place_if l s c false place leads = place

  place_sifted : (l s t : Site V) (f h : F) (xs : List (Sifted E)) → IsPlaceOf o l s
      → Sifts o Copied Refused g l s f xs t h → IsPlaceOf o l t
  place_sifted l s t f h [] place (here, same) = subst (IsPlaceOf o l) here place
  place_sifted l s t f h (x ∷ xs) place (c, m, leads, told, gone, rest) =
      place_sifted l (next_if x.kept c s) t m h xs (place_if l s c x.kept place leads) rest

  -- what was done up to the node that stayed last, and how many went out
  pub record SiftedTo (s : Site V) (f : F) (before : Option (Known V)) (m : F) (n : ℕ) : Type 0 where
    pub elements : List (Sifted E)
    pub sifts : Sifts o Copied Refused g s s f elements (behind before s) m
    pub many : n ≡ min (outs elements) 18446744073709551615

  pub sifted_none : (s : Site V) (f : F) → SiftedTo s f None f 0
  sifted_none s f = record { elements = []; sifts = (refl, refl); many = refl }

  pub sifted_place : (s : Site V) (f : F) (b : Option (Known V)) (m : F) (n : ℕ) → SiftedTo s f b m n
      → IsPlaceOf o s (behind b s)
  sifted_place s f b m n sifted = place_sifted s s (behind b s) f m sifted.elements (inl refl) sifted.sifts

  pub sifted_ends : (s : Site V) (f : F) (b r : Option (Known V)) (m : F) (n : ℕ) → SiftedTo s f b m n
      → Leads o (behind b s) r → r ≡ None → Retains o Copied Refused g s f n
  sifted_ends s f b r m n sifted leads none = record {
    elements = sifted.elements;
    at = behind b s;
    last = m;
    sifts = sifted.sifts;
    ends = subst (λ (y : Option (Known V)). Leads o (behind b s) y) none leads;
    many = sifted.many;
  }

  -- a node's element could not be taken, or f answered a fault of it
  pub sifted_fails : (s : Site V) (f : F) (b r : Option (Known V)) (m h : F) (n : ℕ) (c : Known V) (why : Fault)
      → SiftedTo s f b m n → Leads o (behind b s) r → r ≡ Some c
      → Refused c why ⊎ ((x : Option E) × Judges Copied g m c x (Err why) h) → WhyNotRetained o Copied Refused g s f why
  sifted_fails s f b r m h n c why sifted leads some (inl refused) =
      inr (refused_node o Refused s (behind b s) r c why (sifted_place s f b m n sifted) leads some (inl refused))
  sifted_fails s f b r m h n c why sifted leads some (inr (x, judges)) = inl (record {
    elements = sifted.elements;
    at = behind b s;
    before = m;
    sifts = sifted.sifts;
    node = c;
    leads = subst (λ (y : Option (Known V)). Leads o (behind b s) y) some leads;
    element = x;
    after = h;
    judged = judges;
  })

  sifted_on : (s : Site V) (f : F) (b r : Option (Known V)) (m h : F) (n : ℕ) (c : Known V) (x : Sifted E)
      → (sifted : SiftedTo s f b m n) → Leads o (behind b s) r → r ≡ Some c → Judges Copied g m c x.element (Ok x.kept) h
      → IsSifted o s c x.kept x.out → Sifts o Copied Refused g s s f (sifted.elements ++ (x ∷ [])) (next_if x.kept c (behind b s)) h
  sifted_on s f b r m h n c x sifted leads some judges gone =
      sifts_on s s (behind b s) f m h sifted.elements x c sifted.sifts
      (subst (λ (y : Option (Known V)). Leads o (behind b s) y) some leads) judges gone

  pub sifted_kept : (s : Site V) (f : F) (b r : Option (Known V)) (m h : F) (n : ℕ) (c : Known V) (stays : Bool)
      → SiftedTo s f b m n → Leads o (behind b s) r → r ≡ Some c
      → (x : Option E) × Judges Copied g m c x (Ok stays) h → stays ≡ true → SiftedTo s f (Some c) h n
  sifted_kept s f b r m h n c false sifted leads some (x, judges) is = absurd (cc is)
  sifted_kept s f b r m h n c true sifted leads some (x, judges) is =
      let y : Sifted E = record { element = x; kept = true; out = false } in
      let k = outs_on sifted.elements y in
      let many = sifted.many in
      record {
        elements = sifted.elements ++ (y ∷ []);
        sifts = sifted_on s f b r m h n c y sifted leads some judges refl;
        many = omega (arith, many, k);
      }

  pub sifted_out : (s : Site V) (f : F) (b r : Option (Known V)) (m h : F) (n p : ℕ) (c : Known V) (stays out : Bool)
      → SiftedTo s f b m n → Leads o (behind b s) r → r ≡ Some c
      → (x : Option E) × Judges Copied g m c x (Ok stays) h → stays ≡ false → IsUnlinked o s c out
      → p ≡ min (n + number_if out) 18446744073709551615 → SiftedTo s f b h p
  sifted_out s f b r m h n p c true out sifted leads some (x, judges) is gone more = absurd (cc is)
  sifted_out s f b r m h n p c false out sifted leads some (x, judges) is gone more =
      let y : Sifted E = record { element = x; kept = false; out = out } in
      let k = outs_on sifted.elements y in
      let many = sifted.many in
      record {
        elements = sifted.elements ++ (y ∷ []);
        sifts = sifted_on s f b r m h n c y sifted leads some judges gone;
        many = omega (arith, many, k, more);
      }

  pub sifted_gone : (s : Site V) (f : F) (b r : Option (Known V)) (m h : F) (n p : ℕ) (c : Known V) (stays out : Bool)
      → SiftedTo s f b m n → Leads o (behind b s) r → r ≡ Some c
      → (x : Option E) × Judges Copied g m c x (Ok stays) h → stays ≡ false → IsUnlinked o s c out → out ≡ true
      → p ≡ min (n + 1) 18446744073709551615 → SiftedTo s f b h p
  sifted_gone s f b r m h n p c stays out sifted leads some judges is gone did more =
      sifted_out s f b r m h n p c stays true sifted leads some judges is (subst (IsUnlinked o s c) did gone) more

  pub sifted_missing : (s : Site V) (f : F) (b r : Option (Known V)) (m h : F) (n : ℕ) (c : Known V) (stays out : Bool)
      → SiftedTo s f b m n → Leads o (behind b s) r → r ≡ Some c
      → (x : Option E) × Judges Copied g m c x (Ok stays) h → stays ≡ false → IsUnlinked o s c out → out ≡ false
      → SiftedTo s f b h n
  sifted_missing s f b r m h n c stays out sifted leads some judges is gone did =
      let many = sifted.many in
      sifted_out s f b r m h n n c stays false sifted leads some judges is (subst (IsUnlinked o s c) did gone)
      (omega (arith, many))
