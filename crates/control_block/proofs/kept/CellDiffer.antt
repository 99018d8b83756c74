-- A look at a cell that is a compare which differs, of a cell without an object.
use Rattle.std.proofs.Common.{◌≡◌, ℕ, Bool, true, false, ◌≢◌, ◌∷◌, get_or, set, Some, None, Option}
use Rattle.std.proofs.Common.{sym, refl, ap, ◌∙◌, inl}
use Rattle.control_block.proofs.Prelude.{Allows, At, Block, block_of, blocks_of, Cell, cell_of}
use Rattle.control_block.proofs.Prelude.{CellWord, Compare, entry, equivalent, Event, get_elem?}
use Rattle.control_block.proofs.Prelude.{handle, Idle, InHand, IsCellAt, kind_in, known, leads}
use Rattle.control_block.proofs.Prelude.{none, NumberedHandle, opening_of, Rests, Ruled, SeatView}
use Rattle.control_block.proofs.Prelude.{seeing, Shape, shown, some, step}
use Rattle.atomic_table.specs.Table as Table
use Rattle.control_word.proofs.funded.Looks as law
use Rattle.control_block.specs.CellStepKinds.{as_differed, differed_empty}
use Rattle.control_block.proofs.CellWords.{Decoded, Opened, is_open}
use Rattle.control_block.proofs.words.Hands.{hand_there}
use Rattle.control_block.proofs.Passage.{adds, plain, point, quiet_next, ready}
use Rattle.control_block.proofs.words.Still.{unmoved}
use Rattle.control_block.proofs.kept.CellLook.{allows_cell_look, is_held, shows_one}
use Rattle.control_block.proofs.kept.Look.{looked}

not_both : (b : Bool) → b ≡ true → b ≡ false → ⊥
not_both b t f = true_false (sym t ∙ f)
  where
    true_false : true ≡ false → ⊥
    true_false e = cc

module _ {V : Type 0} where
  pub allows_differ_empty : (k : Shape) (slots id i : ℕ) (c : Cell) (expected new : NumberedHandle) (weak' : Bool) (me : At V) → Rests me → IsCellAt me.0 c i
      → InHand (known me.0) me.0.view.name (kind_in me.0.shape c) expected → InHand (known me.0) me.0.view.name (kind_in me.0.shape c) new
      → Allows (Ruled k) slots id me i (λ n. n) (differed_empty c expected new weak' (step slots i 0 0 none) me)
  allows_differ_empty k slots id i c expected new weak' me rests cell he hn =
      allows_cell_look k slots id i c me (as_differed c expected new weak' me) rests.awake cell (λ s r at is d. go s r at is d _ refl _ refl)
    where
      go : (s : Table.State (Option V) (SeatView V)) (r : Ruled k s) (at : get_elem? s.views id ≡ some me.0) (is : Opened k s r id me.0 at rests.awake c i)
          (d : Decoded k s r id me.0 at rests.awake c i is) (q : Option ℕ) → (cell_of (leads (opening_of k) r.history) c).object ≡ q
          → (b : Bool) → equivalent (handle (kind_in me.0.shape c) None (cell_of (leads (opening_of k) r.history) c).place) expected ≡ b
          → let t = leads (opening_of k) r.history in
          (w : SeatView V) × Ruled k record { words = set s.words i (get_or s.words i 0); homes = s.homes; views = set s.views id w }
          × as_differed c expected new weak' me (shown (blocks_of t) (cell_of t c) d.taken) (w, me.1)
      go s r at is d (Some o) e b same =
          let t = leads (opening_of k) r.history in let no = shows_one (blocks_of t) (cell_of t c) o d.taken e in
          (me.0, unmoved k s id i me.0 r at, (is_held k s r id me.0 at rests.awake c d.taken, λ n f. absurd (no n), λ n f. absurd (no n), λ _. refl))
      go s r at is d None e true same =
          let t = leads (opening_of k) r.history in (
            me.0,
            unmoved k s id i me.0 r at,
            (
              is_held k s r id me.0 at rests.awake c d.taken,
              λ n f. absurd (not_both _ same f),
              λ n f. refl,
              λ n. absurd (n (ap (block_of (blocks_of t)) e)),
            ),
          )
      go s r at is d None e false same =
          let v = me.0 in let z = opening_of k in let t = leads z r.history in let old = cell_of t c in let kk = kind_in v.shape c in
          let h = handle kk None old.place in
          let it : h ≡ old = λ j. record { kind = sym d.kind j; object = sym e j; place = old.place } in
          let ev : Event V = Compare c expected new h false weak' in let hist = entry v.view.name ev ∷ r.history in
          let told = law.differs_empty_funded (point k s r id v) c kk old.place expected new weak' (ready k s r id v at rests.awake Idle rests.idle) it (
            is_open k s r id v at rests.awake c i cell,
            hand_there k s r id v at rests.awake kk expected he _ is.kind,
            hand_there k s r id v at rests.awake kk new hn _ is.kind,
            it,
            inl (sym same),
          ) in (
            seeing v Idle None hist,
            quiet_next k s r id v (set s.words i (get_or s.words i 0)) ev Idle at rests.awake rests.empty
                (plain (λ u q. refl) (λ u q. refl) (λ u f. refl)) (looked z s.words i _ hist told),
            (
              is_held k s r id v at rests.awake c d.taken,
              λ _ _. (adds k s r id v at rests.awake Idle None ev told.stands.legal, refl),
              λ n f. absurd (not_both _ f same),
              λ n. absurd (n (ap (block_of (blocks_of t)) e)),
            ),
          )

  -- the slots in hand stay as they are
  pub slots_differed : (x : CellWord) (m m' : At V) (A : Type 0) (b : Bool) → (x.owned ≡ None → b ≡ false → A × (m'.1 ≡ m.1))
      → (x.owned ≡ None → b ≡ true → m' ≡ m)
      → (x.owned ≢ None → m' ≡ m) → m'.1 ≡ m.1
  slots_differed x m m' A b bare alike some' = go x.owned b refl refl
    where
      some_none : {b : Block} → Some b ≡ None → ⊥
      some_none e = cc

      go : (o : Option Block) (f : Bool) → x.owned ≡ o → b ≡ f → m'.1 ≡ m.1
      go None false e g = (bare e g).1
      go None true e g = ap (λ (y : At V). y.1) (alike e g)
      go (Some b) f e g = ap (λ (y : At V). y.1) (some' (λ n. some_none (sym e ∙ n)))
