-- The end of a vector, and what a compare at it says.
use Rattle.std.proofs.Common.{◌≡◌, ◌∙◌, ◌⊎◌, ◌+◌, ◌-◌, ◌<◌, ◌≤◌, ◌/◌, ◌%◌, ℕ, suc, zero, refl, sym, ap, subst, arith}
use Rattle.std.proofs.Common.{add-one, inl, inr}
use Rattle.std.proofs.Common.{Bool, false, true, Option, None, Some}
use Rattle.control_word.specs.declared.model.handle.Kind.TheVariants.{Owner}
use Rattle.control_block.specs.Desks.{DeskNow}
use Rattle.pointers.specs.SiteCalls.{Compared, Exchanged, LookedFor}
use Rattle.pointers.specs.Sites.{Site, member_site}
use Rattle.pointers.specs.declared.known.Known.{Known}
use Rattle.shared_vec.proofs.Ways.{same_leaf}
use Rattle.shared_vec.specs.Vectors.{Empties, IsBehind, IsEmpty, IsEnd, IsLeaf, Pops, Pushes, PutsIn, ReplacesIn}
use Rattle.shared_vec.specs.Vectors.{number_at, slot_at, Truncates}

on_by_one : (n i : ℕ) → (n ≡ i) ⊎ (suc n ≤ i) → (suc n ≡ suc i) ⊎ (suc (suc n) ≤ suc i)
on_by_one n i (inl same) = inl (ap suc same)
on_by_one n i (inr over) = inr (omega (arith, over))

pub here_or_on : (n i : ℕ) → n ≤ i → (n ≡ i) ⊎ (suc n ≤ i)
here_or_on zero zero most = inl refl
here_or_on zero (suc i) most = inr (omega arith)
here_or_on (suc n) zero most = absurd (omega (arith, most))
here_or_on (suc n) (suc i) most = on_by_one n i (here_or_on n i (omega (arith, most)))

module _ {V : Type 0} (o : DeskNow V) where
  -- what is desired after a compare comes back, or has gone in
  pub puts_in : (s : Site V) (old hoped n n' : Option (Known V)) (new : Known V) (b : Bool) → n ≡ Some new
      → Compared o Owner s false old n b hoped n' → PutsIn o s old new n'
  puts_in s old hoped n n' new true is (finds, same, gone) =
      subst (PutsIn o s old new) (sym gone) (
        hoped,
        subst (λ (y : Option (Known V)). Compared o Owner s false old y true hoped None) is (finds, same, refl),
      )
  puts_in s old hoped n n' new false is (finds, stays) =
      subst (PutsIn o s old new) (sym (stays ∙ is)) refl

  pub replaced : (s : Site V) (old n new : Known V) (r : Option (Known V)) → PutsIn o s (Some old) n r → r ≡ None
      → n ≡ new → ReplacesIn o s new None
  replaced s old n new r puts gone same =
      (old, subst (λ (y : Known V). PutsIn o s (Some old) y None) same (subst (PutsIn o s (Some old) n) gone puts))

  pub behind_next : (s : Site V) (i : ℕ) → IsEmpty o s i false → IsBehind o s (i + 1)
  behind_next s i is = subst (IsBehind o s) (sym (add-one i)) is

  behind_in : (s : Site V) (n : ℕ) (leaf : Known V) → 0 < n % 8 → IsLeaf o s n (Some leaf)
      → LookedFor o Owner (slot_at (n - 1) leaf) None false → IsBehind o s n
  behind_in s zero leaf over way looked = tt
  behind_in s (suc i) leaf over way looked =
      let same : suc i / 8 ≡ i / 8 = omega (arith, over) in
      let before : suc i - 1 ≡ i = omega arith in (
        Some leaf,
        same_leaf o s (suc i) i (Some leaf) same way,
        subst (λ (y : ℕ). LookedFor o Owner (slot_at y leaf) None false) before looked,
      )

  -- the element just before an index, in the leaf of both
  pub behind_at : (s : Site V) (n m : ℕ) (leaf : Known V) (got : Option (Known V)) (at : Site V) (empty : Bool)
      → 0 < n % 8 → IsLeaf o s n got → got ≡ Some leaf → m ≡ number_at (n - 1) 0 → at ≡ member_site leaf m
      → LookedFor o Owner at None empty → empty ≡ false → IsBehind o s n
  behind_at s n m leaf got at empty over way some number there looked full =
      let full-there : LookedFor o Owner at None false = subst (LookedFor o Owner at None) full looked in
      let in-leaf : LookedFor o Owner (member_site leaf m) None false
      = subst (λ (y : Site V). LookedFor o Owner y None false) there full-there in
      behind_in s n leaf over (subst (IsLeaf o s n) some way)
      (subst (λ (y : ℕ). LookedFor o Owner (member_site leaf y) None false) number in-leaf)

  -- where the end is: an element is just before `low`, and none at `high`
  pub record Between (s : Site V) (low high middle : ℕ) : Type 0 where
    pub behind : IsBehind o s low
    pub empty : IsEmpty o s high true
    pub most : low ≤ high
    pub from : low ≤ middle
    pub below : low < high → middle < high

  pub between_begins : (s : Site V) (high middle : ℕ) → IsEmpty o s high true → middle ≡ high - 1
      → Between s 0 high middle
  between_begins s high middle empty is = record {
    behind = tt;
    empty = empty;
    most = omega arith;
    from = omega arith;
    below = λ over. omega (arith, over, is);
  }

  pub between_up : (s : Site V) (low high middle low' high' : ℕ) (empty : Bool) → Between s low high middle
      → low < high → IsEmpty o s middle empty → empty ≡ false → low' ≡ middle + 1 → high' ≡ high
      → Between s low' high' (low' + (high' - low') / 2)
  between_up s low high middle low' high' empty b over told full low-is high-is =
      let below : middle < high = b.below over in
      let there : IsEmpty o s middle false = subst (IsEmpty o s middle) full told in
      record {
        behind = subst (IsBehind o s) (sym low-is) (behind_next s middle there);
        empty = subst (λ (y : ℕ). IsEmpty o s y true) (sym high-is) b.empty;
        most = omega (arith, below, low-is, high-is);
        from = omega arith;
        below = λ more. omega (arith, more);
      }

  pub between_down : (s : Site V) (low high middle low' high' : ℕ) (empty : Bool) → Between s low high middle
      → IsEmpty o s middle empty → empty ≡ true → low' ≡ low → high' ≡ middle
      → Between s low' high' (low' + (high' - low') / 2)
  between_down s low high middle low' high' empty b told none low-is high-is =
      let from : low ≤ middle = b.from in
      let here : IsEmpty o s middle true = subst (IsEmpty o s middle) none told in
      record {
        behind = subst (IsBehind o s) (sym low-is) b.behind;
        empty = subst (λ (y : ℕ). IsEmpty o s y true) (sym high-is) here;
        most = omega (arith, from, low-is, high-is);
        from = omega arith;
        below = λ more. omega (arith, more);
      }

  pub between_ends : (s : Site V) (low high middle : ℕ) → Between s low high middle → high ≤ low → IsEnd o s low
  between_ends s low high middle b over =
      let most = b.most in
      let same : high ≡ low = omega (arith, most, over) in
      (b.behind, subst (λ (y : ℕ). IsEmpty o s y true) same b.empty)

  pub leaf_of : (s t : Site V) (n : ℕ) (leaf : Option (Known V)) → t ≡ s → IsLeaf o t n leaf → IsLeaf o s n leaf
  leaf_of s t n leaf same is = subst (λ (y : Site V). IsLeaf o y n leaf) same is

  pub pops_none : (s t : Site V) (n : ℕ) → t ≡ s → IsEnd o t n → n ≡ 0 → Pops o s None
  pops_none s t n same (behind, empty) is =
      subst (λ (y : Site V). IsEmpty o y 0 true) same (subst (λ (y : ℕ). IsEmpty o t y true) is empty)

  pops_here : (s : Site V) (n i : ℕ) (leaf r : Known V) → IsEnd o s n → n ≡ suc i → IsLeaf o s i (Some leaf)
      → Exchanged o Owner (slot_at i leaf) None (Some r) → Pops o s (Some r)
  pops_here s n i leaf r (behind, empty) is way out =
      (i, leaf, subst (λ (y : ℕ). IsEmpty o s y true) is empty, way, out)

  -- what came out of a place, by the index of its leaf
  out_of : (i m : ℕ) (leaf r : Known V) (at : Site V) (out : Option (Known V)) → m ≡ number_at i 0
      → at ≡ member_site leaf m → Exchanged o Owner at None out → out ≡ Some r
      → Exchanged o Owner (slot_at i leaf) None (Some r)
  out_of i m leaf r at out number there came is =
      let at-leaf : Exchanged o Owner (member_site leaf m) None out
      = subst (λ (y : Site V). Exchanged o Owner y None out) there came in
      let at-slot : Exchanged o Owner (slot_at i leaf) None out
      = subst (λ (y : ℕ). Exchanged o Owner (member_site leaf y) None out) number at-leaf in
      subst (Exchanged o Owner (slot_at i leaf) None) is at-slot

  pub pops : (s t u : Site V) (n i m : ℕ) (leaf r : Known V) (got : Option (Known V)) (at : Site V)
      (out : Option (Known V)) → t ≡ s → u ≡ t → IsEnd o t n → n ≡ suc i → IsLeaf o u i got → got ≡ Some leaf
      → m ≡ number_at i 0 → at ≡ member_site leaf m → Exchanged o Owner at None out → out ≡ Some r
      → Pops o s (Some r)
  pops s t u n i m leaf r got at out same stays end last way some number there came is =
      let in-leaf : IsLeaf o u i (Some leaf) = subst (IsLeaf o u i) some way in
      let here : IsLeaf o s i (Some leaf) = leaf_of s u i (Some leaf) (stays ∙ same) in-leaf in
      pops_here s n i leaf r (subst (λ (y : Site V). IsEnd o y n) same end) last here
      (out_of i m leaf r at out number there came is)

  pushes_here : (s : Site V) (n : ℕ) (leaf new : Known V) → IsBehind o s n → IsLeaf o s n (Some leaf)
      → PutsIn o (slot_at n leaf) None new None → Pushes o s new n
  pushes_here s n leaf new behind way puts = (leaf, behind, way, puts)

  -- what went into a place, by the index of its leaf
  puts_at : (i m : ℕ) (leaf brought new : Known V) (at : Site V) (r : Option (Known V)) → m ≡ number_at i 0
      → at ≡ member_site leaf m → PutsIn o at None brought r → r ≡ None → brought ≡ new
      → PutsIn o (slot_at i leaf) None new None
  puts_at i m leaf brought new at r number there puts gone same =
      let gone-in : PutsIn o at None brought None = subst (PutsIn o at None brought) gone puts in
      let new-in : PutsIn o at None new None = subst (λ (y : Known V). PutsIn o at None y None) same gone-in in
      let in-leaf : PutsIn o (member_site leaf m) None new None
      = subst (λ (y : Site V). PutsIn o y None new None) there new-in in
      subst (λ (y : ℕ). PutsIn o (member_site leaf y) None new None) number in-leaf

  pub pushes : (s t : Site V) (n m : ℕ) (leaf brought new : Known V) (at : Site V) (r : Option (Known V)) → t ≡ s
      → IsBehind o t n → IsLeaf o t n (Some leaf) → m ≡ number_at n 0 → at ≡ member_site leaf m
      → PutsIn o at None brought r → r ≡ None → brought ≡ new → Pushes o s new n
  pushes s t n m leaf brought new at r stays behind way number there puts gone same =
      pushes_here s n leaf new (subst (λ (y : Site V). IsBehind o y n) stays behind)
      (leaf_of s t n (Some leaf) stays way) (puts_at n m leaf brought new at r number there puts gone same)

  -- what was let go so far
  pub truncates_none : (s : Site V) (n : ℕ) → IsEnd o s n → Truncates o s n
  truncates_none s n is = (n, is, λ i from below. absurd (omega (arith, from, below)))

  empties_at : (s : Site V) (n m i : ℕ) → ((j : ℕ) → suc n ≤ j → j < m → Empties o s j) → Empties o s n → i < m
      → (n ≡ i) ⊎ (suc n ≤ i) → Empties o s i
  empties_at s n m i rest here below (inl same) = subst (Empties o s) same here
  empties_at s n m i rest here below (inr over) = rest i over below

  pub truncates_on : (s t : Site V) (n before : ℕ) → t ≡ s → Truncates o s n → 0 < n → before ≡ n - 1
      → Empties o t before → Truncates o s before
  truncates_on s t n before same (m, is, rest) over one gone =
      let here : Empties o s before = subst (λ (y : Site V). Empties o y before) same gone in
      let next : n ≡ suc before = omega (arith, over, one) in
      let left : (j : ℕ) → suc before ≤ j → j < m → Empties o s j
      = subst (λ (y : ℕ). (j : ℕ) → y ≤ j → j < m → Empties o s j) next rest in
      (m, is, λ i from below. empties_at s before m i left here below (here_or_on before i from))

  pub truncates_ends : (s : Site V) (n length : ℕ) → Truncates o s n → n ≤ length → Truncates o s length
  truncates_ends s n length (m, is, rest) most =
      (m, is, λ i from below. rest i (omega (arith, most, from)) below)
