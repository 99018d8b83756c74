-- What the steps at the end of a way say of the trie.
use Rattle.std.proofs.Common.{◌≡◌, ◌≢◌, ◌∙◌, ℕ, refl, sym, subst, true, false, Option, None, Some}
use Rattle.control_word.specs.declared.model.handle.Kind.TheVariants.{Owner}
use Rattle.control_block.specs.Desks.{DeskNow}
use Rattle.pointers.specs.Objects.{IsField}
use Rattle.pointers.specs.SiteCalls.{Compared}
use Rattle.pointers.specs.Sites.{Site, member_site}
use Rattle.pointers.specs.declared.known.Known.{Known}
use Rattle.shared_trie.specs.Tries.{Ends, Gets, IsOf, Puts, PutsIfAbsent, Removes, Swaps, Takes, member_at, number_at}
use Rattle.shared_trie.specs.declared.slot.Swapped.{Swapped}
use Rattle.shared_trie.specs.declared.slot.Swapped.TheVariants.{Back, Out}

-- a key's place, by the member of its node
pub at_member : {V : Type 0} (P : Site V → Type 0) (key l m : ℕ) (node : Known V) (at : Site V) → m ≡ number_at key l
    → at ≡ member_site node m → P at → P (member_at key l node)
at_member P key l m node at number there is =
    subst (λ (y : ℕ). P (member_site node y)) number (subst P there is)

module _ {V : Type 0} (o : DeskNow V) where
  -- what was held where a way ends is what a get answers
  pub finds_none : (root : Known V) (key : ℕ) (node : Known V) (l : ℕ) (held : Option (Known V))
      → Ends o root key node l held → held ≡ None → Gets o root key None
  finds_none root key node l held e none = (node, l, None, subst (Ends o root key node l) none e, tt)

  pub finds : (root : Known V) (key k : ℕ) (node : Known V) (l : ℕ) (held : Option (Known V)) (c : Known V)
      → Ends o root key node l held → held ≡ Some c → IsField o c k → k ≡ key → Gets o root key (Some c)
  finds root key k node l held c e some field same =
      (node, l, Some c, subst (Ends o root key node l) some e, (refl, subst (IsField o c) same field))

  pub finds_other : (root : Known V) (key k : ℕ) (node : Known V) (l : ℕ) (held : Option (Known V)) (c : Known V)
      → Ends o root key node l held → held ≡ Some c → IsField o c k → k ≢ key → Gets o root key None
  finds_other root key k node l held c e some field other =
      (node, l, Some c, subst (Ends o root key node l) some e, (k, field, other))

  pub removes : (root : Known V) (key k m : ℕ) (node : Known V) (l : ℕ) (held : Option (Known V)) (c r : Known V)
      (at : Site V) (got : Option (Known V)) → Ends o root key node l held → IsField o c k → k ≡ key
      → m ≡ number_at key l → at ≡ member_site node m → Takes o at c got → got ≡ Some r → Removes o root key (Some r)
  removes root key k m node l held c r at None e field same number there takes is = absurd (cc is)
  removes root key k m node l held c r at (Some x) e field same number there (one, (after, it)) is =
      let x-is : x ≡ r = cc is in
      let r-is : c ≡ r = sym one ∙ x-is in (
        node,
        l,
        after,
        e.leads,
        subst (λ (y : Known V). IsField o y key) r-is (subst (IsField o c) same field),
        at_member (λ (y : Site V). Compared o Owner y false (Some r) None true after None) key l m node at number there
            (subst (λ (y : Known V). Compared o Owner at false (Some y) None true after None) r-is it),
      )

  pub puts : (root : Known V) (key m : ℕ) (node : Known V) (l : ℕ) (held : Option (Known V)) (n new : Known V)
      (at : Site V) (got : Swapped (Known V)) (r : Option (Known V)) → Ends o root key node l held → IsOf o key held
      → n ≡ new → m ≡ number_at key l → at ≡ member_site node m → Swaps o at held n got → got ≡ Out r
      → Puts o root key new r
  puts root key m node l held n new at (Back b) r e of same number there swaps is = absurd (cc is)
  puts root key m node l held n new at (Out x) r e of same number there (old, (after, it)) is =
      let x-is : x ≡ r = cc is in
      let r-is : held ≡ r = sym old ∙ x-is in (
        node,
        l,
        after,
        e.leads,
        subst (IsOf o key) r-is of,
        at_member (λ (y : Site V). Compared o Owner y false r (Some new) true after None) key l m node at number there
            (subst (λ (y : Known V). Compared o Owner at false r (Some y) true after None) same
            (subst (λ (y : Option (Known V)). Compared o Owner at false y (Some n) true after None) r-is it)),
      )

  pub puts_if_absent : (root : Known V) (key m : ℕ) (node : Known V) (l : ℕ) (held : Option (Known V)) (n new : Known V)
      (at : Site V) (got : Swapped (Known V)) (r : Option (Known V)) → Ends o root key node l held → n ≡ new
      → m ≡ number_at key l → at ≡ member_site node m → Swaps o at None n got → got ≡ Out r
      → PutsIfAbsent o root key new None
  puts_if_absent root key m node l held n new at (Back b) r e same number there swaps is = absurd (cc is)
  puts_if_absent root key m node l held n new at (Out x) r e same number there (old, (after, it)) is = (
    node,
    l,
    after,
    e.leads,
    tt,
    at_member (λ (y : Site V). Compared o Owner y false None (Some new) true after None) key l m node at number there
        (subst (λ (y : Known V). Compared o Owner at false None (Some y) true after None) same it),
  )

  pub is_there : (root : Known V) (key : ℕ) (node : Known V) (l : ℕ) (held : Option (Known V)) (there n new : Known V)
      → Ends o root key node l held → IsOf o key held → held ≡ Some there → n ≡ new
      → PutsIfAbsent o root key new (Some (record { there = there; back = n }))
  is_there root key node l held there n new e of some same =
      (same, finds root key key node l held there e some (subst (IsOf o key) some of) refl)
