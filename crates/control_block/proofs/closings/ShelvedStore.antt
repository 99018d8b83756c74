-- What a census says of a desk that has shelved its store, it says of the desk as it was before.
use Rattle.std.proofs.Common.{◌≡◌, ℕ, ◌+◌, Bool, true, All, List, [], ◌∷◌, ◌++◌, map, length, sym, refl, ap, ◌∙◌}
use Rattle.std.proofs.Common.{subst, arith}
use Rattle.control_block.proofs.Prelude
use Prelude.{Block, CensusNow, DeskNow, EndsNot, entry, Entry, holders_of, IsLegal, IsSole, latest_of, leads, many_of, Opening}
use Prelude.{opening_of, Owner, put, same_stored, Shelve, Shelved, State, state_of, stock_of, stored, Stored, tally, TellsBlock}
use Prelude.{TellsCells, TellsHolders, Weak, without}
use Rattle.std.proofs.lemmas.List.Elements.{All-cons, All-nil}
use Rattle.control_word.specs.Events.{shelves}
use Rattle.control_word.specs.State.{count, weak}
use Rattle.control_block.specs.Own.{KeepsDesks}
use Rattle.control_block.proofs.Sole.{come_in_a_row}

-- where stores and the shelf alone are others
module _ (s : State) (r : List Stored) (g : ℕ → Bool) where
  abbrev elsewhere : State
  elsewhere = record s { stores = r; shelved = g }

  block_before : (b : ℕ) (c : CensusNow) → TellsBlock elsewhere b c → TellsBlock s b c
  unfolding count weak
  block_before b c t = record { owners = t.owners; weaks = t.weaks; vacant = t.vacant }

  cells_before : (c : CensusNow) → TellsCells elsewhere c → TellsCells s c
  cells_before c t = record { frees = t.frees; members = t.members }

  counts_before : (q : ℕ) → (count elsewhere q ≡ count s q) × (weak elsewhere q ≡ weak s q)
  unfolding count weak
  counts_before q = (refl, refl)

module _ {V : Type 0} where
  -- blocks that go to the shelf change stores and the shelf alone
  row : (z : Opening) (n : ℕ) (bs : List Block) (h : List (Entry V))
      → (r : List Stored) × (g : ℕ → Bool) × (leads z (map (entry n) (map Shelve bs) ++ h) ≡ record (leads z h) { stores = r; shelved = g })
  row z n [] h = ((leads z h).stores, (leads z h).shelved, refl)
  row z n (b ∷ bs) h =
      let t = row z n bs h in (without same_stored (stored n b.0) t.0, put t.1 b.0 true, ap (λ (s : State). shelves n b.0 s) t.2)

  no_desks : (bs : List Block) → All (KeepsDesks {V = V}) (map Shelve bs)
  no_desks [] = All-nil KeepsDesks
  no_desks (b ∷ bs) = All-cons KeepsDesks (Shelve b) (map Shelve bs) tt (no_desks bs)

  module _ (n : ℕ) (d f : DeskNow V) (t : Shelved n d f) (legal : IsLegal (opening_of d.shape) d.seen) (sole : IsSole d) where
    others : (r : List Stored) × (g : ℕ → Bool) × (state_of f ≡ record (state_of d) { stores = r; shelved = g })
    others =
        let p = t.passes in
        let e = (come_in_a_row d (map Shelve p.blocks) f p.goes (no_desks p.blocks) legal sole).0 in
        let q = row (opening_of d.shape) d.name p.blocks d.seen in
        (q.0, q.1, (λ i. leads (opening_of (p.same.shape i)) (e i)) ∙ q.2)

    pub sole_still : IsSole f
    sole_still = (come_in_a_row d (map Shelve t.passes.blocks) f t.passes.goes (no_desks t.passes.blocks) legal sole).1

    pub ends_before : (b : ℕ) → EndsNot (state_of d) b → EndsNot (state_of f) b
    ends_before b still = subst (λ (s : State). EndsNot s b) (sym others.2) still

    pub block_told : (b : ℕ) (c : CensusNow) → TellsBlock (state_of f) b c → TellsBlock (state_of d) b c
    block_told b c told = block_before (state_of d) others.0 others.1 b c (subst (λ (s : State). TellsBlock s b c) others.2 told)

    pub cells_told : (c : CensusNow) → TellsCells (state_of f) c → TellsCells (state_of d) c
    cells_told c told = cells_before (state_of d) others.0 others.1 c (subst (λ (s : State). TellsCells s c) others.2 told)

    pub holders_told : (b : ℕ) (c : CensusNow) → TellsHolders f b c → TellsHolders d b c
    holders_told b c told =
        let o : (count (state_of f) (latest_of f b) ≡ count (state_of d) (latest_of d b))
        × (weak (state_of f) (latest_of f b) ≡ weak (state_of d) (latest_of d b)) = (
          ap (λ (s : State). count s (s.latest b)) others.2 ∙ (counts_before (state_of d) others.0 others.1 (latest_of d b)).0,
          ap (λ (s : State). weak s (s.latest b)) others.2 ∙ (counts_before (state_of d) others.0 others.1 (latest_of d b)).1,
        ) in
        record {
          owners = sym o.0 ∙ (told.owners ∙ ap (λ l. many_of Owner (holders_of c b) + tally Owner b l) t.passes.bag);
          weaks = sym o.1 ∙ (told.weaks ∙ ap (λ l. many_of Weak (holders_of c b) + tally Weak b l) t.passes.bag);
        }

  -- a store of which all went is empty
  pub nothing_left : (n : ℕ) (d f : DeskNow V) → Shelved n d f → n ≡ length (stock_of d) → stock_of f ≡ []
  nothing_left n d f t all = go (stock_of f) (let s = t.stock in omega arith)
    where
      go : (l : List Stored) → length l ≡ 0 → l ≡ []
      go [] e = refl
      go (x ∷ l) e = absurd (omega arith)
