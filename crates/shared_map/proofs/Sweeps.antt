-- A walk over a map goes on by one entry, and by one bucket.
use Rattle.std.proofs.Common.{◌≡◌, ◌∙◌, ◌<◌, ◌≤◌, ◌+◌, ◌++◌, ℕ, Bool, false, true, refl, sym, subst, ap, arith, min}
use Rattle.std.proofs.Common.{List, [], ◌∷◌, Option, None, Some, Result, Ok, Err, length, drop, get_or, append_assoc}
use Rattle.std.proofs.Common.{append-nil, inr, IfOk}
use Rattle.std.proofs.Math.ListN.{set, drop_of_length-le}
use Rattle.std.proofs.lemmas.List.{drop_more, drop-set-lt}
use Rattle.std.specs.Int.{from_bool}
use Rattle.control_block.specs.Desks.{DeskNow}
use Rattle.pointers.specs.ListRemovals.{number_if}
use Rattle.pointers.specs.Lists.{Leads, next_of}
use Rattle.pointers.specs.Objects.{IsField}
use Rattle.pointers.specs.declared.fault.Fault.{Fault}
use Rattle.pointers.specs.declared.known.Known.{Known}
use Rattle.shared_map.specs.Sweeps.{Counts, CountsMap, HasOwner, HasWeak, IsExpired, Passes, Prunes, Sifts, Sweeps}
use Rattle.shared_map.specs.Sweeps.{SweepsAll, SweepsTo, TakesOwner, TakesWeak, outs}

outs_on : (xs : List Bool) (out : Bool) → outs (xs ++ (out ∷ [])) ≡ outs xs + number_if out
outs_on [] out = omega arith
outs_on (x ∷ xs) out = let h = outs_on xs out in omega (arith, h)

number_is : (b : Bool) → from_bool b ≡ number_if b
number_is true = refl
number_is false = refl

module _ {V S : Type 0} (o : DeskNow V) (Does : Known V → S → Bool → S → Type 0) where
  passes_on : (at : Option (Known V)) (s : S) (xs : List Bool) (end : Option (Known V)) (t : S) (e : Known V)
      (out : Bool) (h : S) (next : Option (Known V)) → Passes o Does at s xs end t → end ≡ Some e → Does e t out h
      → Leads o (next_of e) next → Passes o Does at s (xs ++ (out ∷ [])) next h
  passes_on at s [] end t e out h next (here, same) is does leads =
      (e, h, next, here ∙ is, subst (λ (y : S). Does e y out h) (sym same) does, leads, (refl, refl))
  passes_on at s (x ∷ xs) end t e out h next (c, m, n, at-is, did, led, rest) is does leads =
      (c, m, n, at-is, did, led, passes_on n m xs end t e out h next rest is does leads)

module _ {V B S : Type 0} (o : DeskNow V) (Start : B → Option (Known V) → Type 0)
    (Does : Known V → S → Bool → S → Type 0) where
  -- what was done in a bucket, up to an entry
  pub record Swept (b : B) (s : S) (at : Option (Known V)) (m : S) (n : ℕ) : Type 0 where
    pub first : Option (Known V)
    pub starts : Start b first
    pub xs : List Bool
    pub passes : Passes o Does first s xs at m
    pub many : n ≡ min (outs xs) 18446744073709551615

  pub swept_none : (b : B) (s : S) (first : Option (Known V)) → Start b first → Swept b s first s 0
  swept_none b s first starts =
      record { first = first; starts = starts; xs = []; passes = (refl, refl); many = refl }

  pub swept_on : (b : B) (s : S) (at : Option (Known V)) (m : S) (n : ℕ) (e : Known V) (out : Bool) (h : S)
      (next : Option (Known V)) (one p : ℕ) → Swept b s at m n → at ≡ Some e → Does e m out h → Leads o (next_of e) next
      → one ≡ from_bool out → p ≡ min (n + one) 18446744073709551615 → Swept b s next h p
  swept_on b s at m n e out h next one p swept is does leads one-is p-is =
      let many = swept.many in
      let more = outs_on swept.xs out in
      let same = number_is out in
      record {
        first = swept.first;
        starts = swept.starts;
        xs = swept.xs ++ (out ∷ []);
        passes = passes_on o Does swept.first s swept.xs at m e out h next swept.passes is does leads;
        many = omega (arith, many, more, same, one-is, p-is);
      }

  pub swept_ends : (b : B) (s : S) (at : Option (Known V)) (m : S) (n : ℕ) → Swept b s at m n → at ≡ None
      → SweepsTo o Start Does b s m n
  swept_ends b s at m n swept none = (
    swept.xs,
    (
      swept.first,
      swept.starts,
      subst (λ (y : Option (Known V)). Passes o Does swept.first s swept.xs y m) none swept.passes,
    ),
    swept.many,
  )

  sweeps_on : (bs : List B) (s : S) (n : ℕ) (t : S) (b : B) (xs : List Bool) (h : S)
      → SweepsAll o Start Does bs s n t → Sweeps o Start Does b t xs h
      → SweepsAll o Start Does (bs ++ (b ∷ [])) s (n + outs xs) h
  sweeps_on [] s n t b xs h (zero, same) sweeps =
      (xs, h, 0, subst (λ (y : S). Sweeps o Start Does b y xs h) (sym same) sweeps, (refl, refl), omega (arith, zero))
  sweeps_on (c ∷ bs) s n t b xs h (ys, m, rest, first, others, is) sweeps =
      (ys, m, rest + outs xs, first, sweeps_on bs m rest t b xs h others sweeps, omega (arith, is))

  counts_on : (bs : List B) (b : B) (s m h : S) (n k p : ℕ) → Counts o Start Does bs s m n
      → SweepsTo o Start Does b m h k → p ≡ min (n + k) 18446744073709551615
      → Counts o Start Does (bs ++ (b ∷ [])) s h p
  counts_on bs b s m h n k p (many, sweeps, n-is) (xs, one, k-is) p-is =
      (many + outs xs, sweeps_on bs s many m b xs h sweeps one, omega (arith, n-is, k-is, p-is))

  -- the last bucket of a map comes after the others
  pub counts_map : (xs bs : List B) (b : B) (s m h : S) (n k p : ℕ) → xs ≡ bs → Counts o Start Does xs s m n
      → SweepsTo o Start Does b m h k → p ≡ min (n + k) 18446744073709551615 → CountsMap o Start Does bs b s h p
  counts_map xs bs b s m h n k p same counts sweeps more =
      counts_on bs b s m h n k p (subst (λ (y : List B). Counts o Start Does y s m n) same counts) sweeps more

  -- what was done up to a bucket, and those from there on are as they were
  pub record SweptTo (bs items : List B) (i : ℕ) (s : S) (n : ℕ) (m : S) : Type 0 where
    pub done : List B
    pub all : bs ≡ done ++ drop i items
    pub counts : Counts o Start Does done s m n

  pub to_none : (bs : List B) (s : S) → SweptTo bs bs 0 s 0 s
  to_none bs s = record { done = []; all = refl; counts = (0, (refl, refl), refl) }

  pub to_on : (bs items : List B) (i : ℕ) (s : S) (n : ℕ) (m : S) (d new : B) (h : S) (k p : ℕ)
      → SweptTo bs items i s n m → i < length items → SweepsTo o Start Does (get_or items i d) m h k
      → p ≡ min (n + k) 18446744073709551615 → SweptTo bs (set items i new) (i + 1) s p h
  to_on bs items i s n m d new h k p to below sweeps more =
      let b : B = get_or items i d in
      let head : drop i items ≡ b ∷ drop (i + 1) items = drop_more items i d below in
      let over : i < i + 1 = omega arith in
      let tail : drop (i + 1) (set items i new) ≡ drop (i + 1) items = drop-set-lt (i + 1) items i new over in
      let all : bs ≡ (to.done ++ (b ∷ [])) ++ drop (i + 1) (set items i new)
      = to.all ∙ ap (λ (y : List B). to.done ++ y) head
      ∙ sym (append_assoc to.done (b ∷ []) (drop (i + 1) items))
      ∙ ap (λ (y : List B). (to.done ++ (b ∷ [])) ++ y) (sym tail) in
      record {
        done = to.done ++ (b ∷ []);
        all = all;
        counts = counts_on to.done b s m h n k p to.counts sweeps more;
      }

  pub to_ends : (bs items : List B) (i : ℕ) (s : S) (n : ℕ) (m : S) → SweptTo bs items i s n m → length items ≤ i
      → Counts o Start Does bs s m n
  to_ends bs items i s n m to over =
      let none : drop i items ≡ [] = drop_of_length-le items over in
      let all : bs ≡ to.done = to.all ∙ ap (λ (y : List B). to.done ++ y) none ∙ append-nil to.done in
      subst (λ (y : List B). Counts o Start Does y s m n) (sym all) to.counts

module _ {V : Type 0} (o : DeskNow V) where
  pub prunes_not : (e : Known V) (w : Option (Known V)) (expired : Bool) → HasWeak o e w → IsExpired o w expired
      → expired ≡ false → Prunes o e false
  prunes_not e w expired has looked is = record {
    weak = w;
    held = has;
    expired = false;
    looked = subst (λ (y : Bool). IsExpired o w y) is looked;
    leaves = refl;
  }

  pub prunes_taken : (e : Known V) (w : Option (Known V)) (expired : Bool) (r : Result Bool Fault) → HasWeak o e w
      → IsExpired o w expired → expired ≡ true → IfOk r (TakesWeak o e w) → IfOk r (Prunes o e)
  prunes_taken e w expired (Err why) has looked is takes = tt
  prunes_taken e w expired (Ok out) has looked is takes = record {
    weak = w;
    held = has;
    expired = true;
    looked = subst (λ (y : Bool). IsExpired o w y) is looked;
    leaves = takes;
  }

module _ {V K : Type 0} (Judges : K → ℕ → Known V → Result Bool Fault → K → Type 0) (o : DeskNow V) where
  pub sifts_kept : (e : Known V) (k : K) (held : Option (Known V)) (c : Known V) (key : ℕ) (kept : Bool) (h : K)
      → HasOwner o e held → held ≡ Some c → IsField o e key → Judges k key c (Ok kept) h → kept ≡ true
      → Sifts Judges o e k false h
  sifts_kept e k held c key kept h has some field judged is = inr (record {
    owner = c;
    held = subst (HasOwner o e) some has;
    key = key;
    field = field;
    kept = true;
    judged = subst (λ (y : Bool). Judges k key c (Ok y) h) is judged;
    leaves = refl;
  })

  pub sifts_taken : (e : Known V) (k : K) (held : Option (Known V)) (c : Known V) (key : ℕ) (kept : Bool) (h : K)
      (r : Result Bool Fault) → HasOwner o e held → held ≡ Some c → IsField o e key → Judges k key c (Ok kept) h
      → kept ≡ false → IfOk r (TakesOwner o e c) → IfOk r (λ (out : Bool). Sifts Judges o e k out h)
  sifts_taken e k held c key kept h (Err why) has some field judged is takes = tt
  sifts_taken e k held c key kept h (Ok out) has some field judged is takes = inr (record {
    owner = c;
    held = subst (HasOwner o e) some has;
    key = key;
    field = field;
    kept = false;
    judged = subst (λ (y : Bool). Judges k key c (Ok y) h) is judged;
    leaves = takes;
  })
