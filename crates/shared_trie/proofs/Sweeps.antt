-- A walk over a trie goes on by one place.
use Rattle.std.proofs.Common.{◌≡◌, ◌∙◌, ◌<◌, ◌≤◌, ◌+◌, ◌++◌, ◌^◌, ℕ, Bool, false, true, refl, sym, subst, ap, arith, min}
use Rattle.std.proofs.Common.{List, [], ◌∷◌, Option, None, Some, Result, Ok, SomeIff}
use Rattle.control_block.specs.Desks.{DeskNow}
use Rattle.pointers.specs.Objects.{IsField}
use Rattle.pointers.specs.Sites.{Site, member_site}
use Rattle.pointers.specs.declared.fault.Fault.{Fault}
use Rattle.pointers.specs.declared.known.Known.{Known}
use Rattle.shared_trie.proofs.Steps.{at_member}
use Rattle.shared_trie.specs.Places.{key_at}
use Rattle.shared_trie.specs.Sweeps.{Leaves, Retains, Sifts, Walks, outs, place_after}
use Rattle.shared_trie.specs.Tries.{Ends, Takes, member_at, number_at}
use Rattle.shared_trie.specs.declared.sweep.Sifted.{Sifted}
use Rattle.shared_trie.specs.declared.sweep.Sifted.TheVariants.{Changed, Out, Stays}

outs_on : (xs : List Sifted) (s : Sifted) → outs (xs ++ (s ∷ [])) ≡ outs xs + outs (s ∷ [])
outs_on [] s = omega arith
outs_on (Stays ∷ xs) s = outs_on xs s
outs_on (Changed ∷ xs) s = outs_on xs s
outs_on (Out ∷ xs) s = let h = outs_on xs s in omega (arith, h)

not_below : (x y : ℕ) → (x < y → ⊥) → y ≤ x
not_below x y not = omega arith

module _ {V K : Type 0} (Judges : K → ℕ → Known V → Result Bool Fault → K → Type 0) (o : DeskNow V) where
  walks_on : (root : Known V) (place : ℕ) (k : K) (xs : List Sifted) (end : ℕ) (m : K) (node : Known V) (l : ℕ)
      (held : Option (Known V)) (s : Sifted) (h : K) → Walks Judges o root place k xs end m
      → Ends o root (key_at end) node l held → Sifts Judges o (member_at (key_at end) l node) held m s h
      → Walks Judges o root place k (xs ++ (s ∷ [])) (place_after end l s) h
  walks_on root place k [] end m node l held s h (here, same) ends sifts = (
    node,
    l,
    held,
    h,
    subst (λ (y : ℕ). Ends o root (key_at y) node l held) (sym here) ends,
    subst (λ (y : ℕ). Sifts Judges o (member_at (key_at y) l node) held k s h) (sym here)
        (subst (λ (y : K). Sifts Judges o (member_at (key_at end) l node) held y s h) (sym same) sifts),
    (ap (λ (y : ℕ). place_after y l s) here, refl),
  )
  walks_on root place k (x ∷ xs) end m node l held s h (n, a, b, c, ended, sifted, rest) ends sifts = (
    n,
    a,
    b,
    c,
    ended,
    sifted,
    walks_on root (place_after place a x) c xs end m node l held s h rest ends sifts,
  )

  pub sifts_out : (key l m : ℕ) (node : Known V) (at : Site V) (held : Option (Known V)) (c r : Known V) (k : K)
      (own : ℕ) (kept : Bool) (h : K) (got : Option (Known V)) → held ≡ Some c → IsField o c own
      → Judges k own c (Ok kept) h → kept ≡ false → m ≡ number_at key l → at ≡ member_site node m → Takes o at c got
      → got ≡ Some r → Sifts Judges o (member_at key l node) held k Out h
  sifts_out key l m node at held c r k own kept h None some field judged is number there takes out = absurd (cc out)
  sifts_out key l m node at held c r k own kept h (Some x) some field judged is number there (one, (after, it)) out =
      subst (λ (y : Option (Known V)). Sifts Judges o (member_at key l node) y k Out h) (sym some) (
        (own, field, subst (λ (y : Bool). Judges k own c (Ok y) h) is judged),
        at_member (λ (y : Site V). Leaves o y c true) key l m node at number there (after, None, it),
      )

  pub sifts_changed : (key l m : ℕ) (node : Known V) (at : Site V) (held : Option (Known V)) (c : Known V) (k : K)
      (own : ℕ) (kept : Bool) (h : K) (got : Option (Known V)) → held ≡ Some c → IsField o c own
      → Judges k own c (Ok kept) h → kept ≡ false → m ≡ number_at key l → at ≡ member_site node m → Takes o at c got
      → got ≡ None → Sifts Judges o (member_at key l node) held k Changed h
  sifts_changed key l m node at held c k own kept h (Some x) some field judged is number there takes out =
      absurd (cc out)
  sifts_changed key l m node at held c k own kept h None some field judged is number there (hoped, after, it) out =
      subst (λ (y : Option (Known V)). Sifts Judges o (member_at key l node) y k Changed h) (sym some) (
        (own, field, subst (λ (y : Bool). Judges k own c (Ok y) h) is judged),
        at_member (λ (y : Site V). Leaves o y c false) key l m node at number there (hoped, after, it),
      )

  -- what was done up to a place
  pub record Swept (root : Known V) (k : K) (place : ℕ) (m : K) (n : ℕ) : Type 0 where
    pub xs : List Sifted
    pub walks : Walks Judges o root 0 k xs place m
    pub many : n ≡ min (outs xs) 18446744073709551615

  swept_on : (root : Known V) (k : K) (place : ℕ) (m : K) (n : ℕ) (node : Known V) (l : ℕ) (held : Option (Known V))
      (s : Sifted) (h : K) (one p key : ℕ) → Swept root k place m n → key ≡ key_at place → Ends o root key node l held
      → Sifts Judges o (member_at key l node) held m s h → one ≡ outs (s ∷ [])
      → p ≡ min (n + one) 18446744073709551615 → Swept root k (place_after place l s) h p
  swept_on root k place m n node l held s h one p key swept key-is ends sifts number more =
      let many = swept.many in
      let also = outs_on swept.xs s in
      let ended = subst (λ (y : ℕ). Ends o root y node l held) key-is ends in
      let sifted = subst (λ (y : ℕ). Sifts Judges o (member_at y l node) held m s h) key-is sifts in
      record {
        xs = swept.xs ++ (s ∷ []);
        walks = walks_on root 0 k swept.xs place m node l held s h swept.walks ended sifted;
        many = omega (arith, many, also, number, more);
      }

  pub goes_on : (root : Known V) (k : K) (place : ℕ) (m : K) (n : ℕ) (node : Known V) (l : ℕ)
      (held : Option (Known V)) (s : Sifted) (h : K) (one p key next : ℕ) (r : Option ℕ) → Swept root k place m n
      → key ≡ key_at place → Ends o root key node l held → Sifts Judges o (member_at key l node) held m s h
      → one ≡ outs (s ∷ []) → p ≡ min (n + one) 18446744073709551615 → r ≡ Some next
      → SomeIff r (place_after place l s < 2 ^ 64) (place_after place l s) → Swept root k next h p
  goes_on root k place m n node l held s h one p key next None swept key-is ends sifts number more is over =
      absurd (cc is)
  goes_on root k place m n node l held s h one p key next (Some x) swept key-is ends sifts number more is (below, same) =
      let x-is : x ≡ next = cc is in
      subst (λ (y : ℕ). Swept root k y h p) (sym same ∙ x-is)
      (swept_on root k place m n node l held s h one p key swept key-is ends sifts number more)

  pub is_over : (root : Known V) (k : K) (place : ℕ) (m : K) (n : ℕ) (node : Known V) (l : ℕ)
      (held : Option (Known V)) (s : Sifted) (h : K) (one p key : ℕ) (r : Option ℕ) → Swept root k place m n
      → key ≡ key_at place → Ends o root key node l held → Sifts Judges o (member_at key l node) held m s h
      → one ≡ outs (s ∷ []) → p ≡ min (n + one) 18446744073709551615 → r ≡ None
      → SomeIff r (place_after place l s < 2 ^ 64) (place_after place l s) → Retains Judges o root k h p
  is_over root k place m n node l held s h one p key (Some x) swept key-is ends sifts number more is below =
      absurd (cc is)
  is_over root k place m n node l held s h one p key None swept key-is ends sifts number more is over =
      let all = swept_on root k place m n node l held s h one p key swept key-is ends sifts number more in
      let behind = place_after place l s in
      (all.xs, behind, all.walks, not_below behind (2 ^ 64) over, all.many)
