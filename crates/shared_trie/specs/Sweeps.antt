-- What a walk over a whole trie says (own): `retain`. It goes over the places of keys in the order of what they are
-- spread to, from one way's end to the next.
use Rattle.std.specs.Prelude.{◌≡◌, ◌⊎◌, ◌+◌, ◌^◌, ◌≤◌, ℕ, Bool, false, true, min}
use Rattle.std.specs.Prelude.{List, [], ◌∷◌, Option, None, Some, Result, Ok, Err}
use Rattle.control_word.specs.declared.model.handle.Kind.TheVariants.{Owner}
use Rattle.control_block.specs.Desks.{DeskNow}
use Rattle.pointers.specs.Objects.{IsField}
use Rattle.pointers.specs.SiteCalls.{Compared}
use Rattle.pointers.specs.Sites.{Site}
use Rattle.pointers.specs.declared.fault.Fault.{Fault}
use Rattle.pointers.specs.declared.known.Known.{Known}
use Rattle.shared_trie.specs.Places.{key_at, place_behind}
use Rattle.shared_trie.specs.Refusals.{WhyNotFound}
use Rattle.shared_trie.specs.Tries.{Ends, member_at}
use Rattle.shared_trie.specs.declared.sweep.Sifted.{Sifted}
use Rattle.shared_trie.specs.declared.sweep.Sifted.TheVariants.{Changed, Out, Stays}

-- where the walk goes on: at the same place if the entry was there no more
abbrev pub place_after : ℕ → ℕ → Sifted → ℕ
place_after place l Changed = place
place_after place l Out = place_behind place l
place_after place l Stays = place_behind place l

-- how many entries came out
abbrev pub outs : List Sifted → ℕ
outs [] = 0
outs (Stays ∷ rest) = outs rest
outs (Changed ∷ rest) = outs rest
outs (Out ∷ rest) = 1 + outs rest

module _ {V : Type 0} (o : DeskNow V) where
  -- one compare was to take the entry out
  abbrev pub Leaves : Site V → Known V → Bool → Type 0
  Leaves at c out = (hoped : Option (Known V)) × (after : Option (Known V))
      × Compared o Owner at false (Some c) None out hoped after

module _ {V K : Type 0} (Judges : K → ℕ → Known V → Result Bool Fault → K → Type 0) (o : DeskNow V) where
  -- the keeper answered that of an entry, with its key
  abbrev pub Judged : Known V → K → Bool → K → Type 0
  Judged c k kept h = (key : ℕ) × IsField o c key × Judges k key c (Ok kept) h

  -- what came of what a member held: an entry that is kept stays, and one that isn't came out, or was there no more
  abbrev pub Sifts : Site V → Option (Known V) → K → Sifted → K → Type 0
  Sifts at None k Stays h = k ≡ h
  Sifts at (Some c) k Stays h = Judged c k true h
  Sifts at (Some c) k Out h = Judged c k false h × Leaves o at c true
  Sifts at (Some c) k Changed h = Judged c k false h × Leaves o at c false
  Sifts at None k _ h = ⊥

  -- from one place to another: where the way to each ended, and what came of that
  abbrev pub Walks : Known V → ℕ → K → List Sifted → ℕ → K → Type 0
  Walks root place k [] end h = (place ≡ end) × (k ≡ h)
  Walks root place k (s ∷ rest) end h = (node : Known V) × (l : ℕ) × (held : Option (Known V)) × (m : K)
      × Ends o root (key_at place) node l held × Sifts (member_at (key_at place) l node) held k s m
      × Walks root (place_after place l s) m rest end h

  -- from the first place to the last, and so many entries came out, as a number of a machine
  abbrev pub Retains : Known V → K → K → ℕ → Type 0
  Retains root k h n = (xs : List Sifted) × (end : ℕ) × Walks root 0 k xs end h × (2 ^ 64 ≤ end)
      × (n ≡ min (outs xs) 18446744073709551615)

module _ {V K : Type 0} (Judges : K → ℕ → Known V → Result Bool Fault → K → Type 0) where
  -- why a `retain` ended by a fault: the keeper answered it, or a call on the trie was refused
  abbrev pub WhyNotRetained : Fault → Type 0
  WhyNotRetained why =
      ((k : K) × (key : ℕ) × (c : Known V) × (h : K) × Judges k key c (Err why) h) ⊎ WhyNotFound why
