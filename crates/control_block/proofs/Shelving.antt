-- Blocks that go between a desk's store and the shelf.
use Rattle.std.proofs.Common.{◌≡◌, ℕ, suc, ◌+◌, ◌-◌, ◌/◌, ◌%◌, ◌^◌, ◌<◌, ◌≤◌, min, Bool, true}
use Rattle.std.proofs.Common.{false, cond, ◌≢◌, [], ◌∷◌, ◌++◌, map, bit_and, Some, None, sym, refl}
use Rattle.std.proofs.Common.{ap, ◌∙◌, subst, ⊎_elim, arith, length-append}
use Rattle.control_block.proofs.Prelude
use Prelude.{Added, AddsEvent, after, allowance_of, Belongs, bit_at, bit_at-lt, bit_not, bit_of}
use Prelude.{Block, cases_eq, cases_lt, desk_now, DeskNow, DomainNow, Event, handle, Has, Idle}
use Prelude.{Inside, IsDeskWith, IsLegal, IsSameDesk, IsSo, IsSole, KeepsEndings, known, leads}
use Prelude.{map-append, nothing_unseen, on_shelf, opening_of, put, put_other, put_same, SeatView}
use Prelude.{Shape, shelf_at, Shelve, Shelved, sound, State, state_of, sum_all, sum_below}
use Prelude.{sum_zero, TableId, Unshelve, Unshelved, value, w64}
use Rattle.std.proofs.lemmas.Nat.{and_le_l}
use Rattle.std.proofs.lemmas.Nat.Bits.{bit_at-pow_other, bit_at-pow_same, bit_at_and, bit_at_not}
use Rattle.std.proofs.Math.Pow.{pow-lt}
use Rattle.control_word.proofs.lists.Sums.{sum_put}
use Rattle.control_word.specs.Events.{unshelves}
use Rattle.control_block.specs.Shelf.{ClearsShelf, Passes, shelved_of}
use Rattle.control_block.proofs.desks.DeskBags.{IsCalm, adds_of, bag_stays, before, ends_still}
use Rattle.control_block.proofs.desks.DeskBags.{legal_now, now_of, quiet_spares, same_desk}
use Rattle.control_block.proofs.desks.DeskSteps.{came, ending_same}
use Rattle.control_block.proofs.Latest.{calls_keep_latest}
use Rattle.control_block.proofs.Own.{goes_by_call, goes_by_none, goes_in_turn}
use Rattle.control_block.proofs.Sole.{comes_next}
use Rattle.control_word.specs.Layout.{shelf_words}
use Rattle.control_block.specs.ShelfStepKinds.{HasBlocks, IsShelfWord}
use Rattle.control_word.proofs.history.Soundness.{on_is}

bit_left : (n j i : ℕ) → j < 64 → i < 64 → i ≢ j → bit_at (bit_and n (bit_not w64 (2 ^ j))) i ≡ bit_at n i
bit_left n j i lt low ne =
    let a = bit_at_and n (bit_not w64 (2 ^ j)) i in let b = bit_at_not w64 (2 ^ j) i (pow-lt lt) low in
    let c = bit_at-pow_other j i ne in let d = bit_at-lt n i in omega arith

-- a number with a bit cleared that it had is less
pub fewer_bits : (n j a : ℕ) → j < 64 → a ≡ 2 ^ j → bit_at n j ≡ 1 → bit_and n (bit_not w64 a) < n
fewer_bits n j a lt is one =
    let le = and_le_l n (bit_not w64 a) in
    ⊎_elim (λ l. l)
    (λ (ge : n ≤ bit_and n (bit_not w64 a)).
    let same : bit_and n (bit_not w64 a) ≡ n = omega arith in
    let x = bit_at_and n (bit_not w64 (2 ^ j)) j in let y = bit_at_not w64 (2 ^ j) j (pow-lt lt) lt in
    let z = bit_at-pow_same j in
    let here : bit_at (bit_and n (bit_not w64 (2 ^ j))) j ≡ 1 =
    ap (λ q. bit_at (bit_and n (bit_not w64 q)) j) (sym is) ∙ (ap (λ q. bit_at q j) same ∙ one) in
    absurd (omega arith))
    (cases_lt (bit_and n (bit_not w64 a)) n)

pub not_one : (b : Bool) → mir.Val.bool_byte b ≡ 0 → b ≡ false
not_one true e = absurd (omega (arith, e))
not_one false e = refl

-- fewer bits of a word are of fewer blocks
pub blocks_left : (blocks j n a : ℕ) → HasBlocks blocks j n → HasBlocks blocks j (bit_and n (bit_not w64 a))
blocks_left blocks j n a has b at one =
    has b at (let t = bit_at_and n (bit_not w64 a) (b % 64) in let u = bit_at-lt n (b % 64) in omega (arith, t, u, one))

module _ {V : Type 0} where
  endings_on : (d m f : DeskNow V) → KeepsEndings d m → KeepsEndings m f → KeepsEndings d f
  endings_on d m f a c b x ends =
      let p = a b x ends in let q = c b x p.ends in record { ends = q.ends; shape = q.shape ∙ p.shape; members = λ k. q.members k ∙ p.members k }

  still_same : (d : DeskNow V) → IsSameDesk d d
  still_same d = record { domain = refl; shape = refl; name = refl; allowance = refl }

  passes_none : (e : Block → Event V) (d : DeskNow V) → Passes e 0 d d
  passes_none e d =
      record {
        blocks = [];
        many = refl;
        goes = goes_by_none d;
        same = still_same d;
        bag = refl;
        held = refl;
        latest = λ k p b has. refl;
        endings = λ b x ends. record { ends = ends; shape = refl; members = λ k. refl };
        count = refl;
      }

  passes_on : (e : Block → Event V) (n k : ℕ) (d m f : DeskNow V) → Passes e n d m → Passes e k m f → Passes e (n + k) d f
  passes_on e n k d m f a b =
      record {
        blocks = b.blocks ++ a.blocks;
        many = let l = length-append b.blocks a.blocks in let x = a.many in let y = b.many in omega arith;
        goes = subst (λ l. Rattle.control_block.specs.Own.Goes d l f) (sym (map-append e b.blocks a.blocks))
            (goes_in_turn d (map e a.blocks) m (map e b.blocks) f a.goes b.goes);
        same = record {
          domain = b.same.domain ∙ a.same.domain;
          shape = b.same.shape ∙ a.same.shape;
          name = b.same.name ∙ a.same.name;
          allowance = b.same.allowance ∙ a.same.allowance;
        };
        bag = b.bag ∙ a.bag;
        held = b.held ∙ a.held;
        latest = λ q p c has. b.latest q p c (subst (Has (handle q (Some c) p)) (sym a.bag) has) ∙ a.latest q p c has;
        endings = endings_on d m f a.endings b.endings;
        count = b.count ∙ a.count;
      }

  pub shelved_none : (d : DeskNow V) → Shelved 0 d d
  shelved_none d = record { passes = passes_none Shelve d; stock = omega arith }

  pub shelved_on : (n k : ℕ) (d m f : DeskNow V) → Shelved n d m → Shelved k m f → Shelved (n + k) d f
  shelved_on n k d m f a b =
      record { passes = passes_on Shelve n k d m f a.passes b.passes; stock = let x = a.stock in let y = b.stock in omega arith }

  pub unshelved_none : (d : DeskNow V) → Unshelved 0 d d
  unshelved_none d =
      record {
        passes = passes_none Unshelve d;
        stock = omega arith;
        clears = λ sole. record { sole = sole; fewer = omega arith; none_new = λ b. omega arith };
      }

  pub unshelved_on : (n k : ℕ) (d m f : DeskNow V) → Unshelved n d m → Unshelved k m f → Unshelved (n + k) d f
  unshelved_on n k d m f a b =
      record {
        passes = passes_on Unshelve n k d m f a.passes b.passes;
        stock = let x = a.stock in let y = b.stock in omega arith;
        clears = λ sole.
            let p = a.clears sole in let q = b.clears p.sole in
            record {
              sole = q.sole;
              fewer = let x = p.fewer in let y = q.fewer in omega arith;
              none_new = λ c. let x = p.none_new c in let y = q.none_new c in omega arith;
            };
      }

  -- one block by one event
  module _ {n' : ℕ} (d : Inside V) (w : SeatView V) (x : Block → Event V) (b : Block) (h : IsDeskWith n' d)
      (a : Added d.seat.me.0 Idle None (x b) w) (calm : IsCalm (x b))
      (hands : (s : State) (n : ℕ) → (after s n (x b)).hands ≡ s.hands)
      (allowances : (s : State) (n : ℕ) → (after s n (x b)).allowance ≡ s.allowance) where
    pub passed_one : (id : TableId) → id ≡ d.seat.table_id → (y : DeskNow V) → desk_now d ≡ y → Passes x 1 y (now_of id w d.held)
    passed_one id table y is =
        let v = d.seat.me.0 in let z = opening_of v.shape in let n = v.view.name in
        let hist = before d w (x b) h a in let now = legal_now d w (x b) h a in
        let one : Passes x 1 (desk_now d) (now_of id w d.held) = record {
          blocks = b ∷ [];
          many = refl;
          goes = goes_by_call (desk_now d) (x b) (now_of id w d.held) (adds_of d (desk_now d) w id d.held (λ _. x b) refl table a);
          same = same_desk d w (x b) h a id d.held (desk_now d) refl table allowances;
          bag = bag_stays d w (x b) h a (hands (leads z hist) n);
          held = refl;
          latest = calls_keep_latest (desk_now d) (x b) (now_of id w d.held) (adds_of d (desk_now d) w id d.held (λ _. x b) refl table a);
          endings = λ c y ends. ends_still d w (x b) h a id d.held c y (desk_now d) refl
              (λ p. quiet_spares z (leads z hist) (value z hist) n (x b) c calm (sound z hist now.0) now.1.asks p) ends;
          count = ending_same v w (x b) (came v w Idle None (x b) a) calm.quiet;
        } in
        subst (λ (q : DeskNow V). Passes x 1 q (now_of id w d.held)) is one

  -- on a sole desk the shelf has just the one block less
  module _ (d f : DeskNow V) (b : Block) (adds : AddsEvent d (Unshelve b) f) (whole : IsSole d) where
    next : f.seen ≡ Rattle.control_word.specs.Histories.entry d.name (Unshelve b) ∷ d.seen
    next = comes_next d (Unshelve b) f adds whole

    legal : IsLegal (opening_of d.shape) (Rattle.control_word.specs.Histories.entry d.name (Unshelve b) ∷ d.seen)
    legal = subst (IsLegal (opening_of d.shape)) next adds.legal

    now : state_of f ≡ unshelves d.name b.0 (state_of d)
    now i = leads (opening_of (adds.same.1 i)) (next i)

    pub off_now : on_shelf (state_of f) b.0 ≡ 0
    off_now = ap (λ (s : State). on_shelf s b.0) now ∙ ap (λ (x : Bool). cond x 1 0) (put_same (state_of d).shelved b.0 false b.0 refl)

    others_still : (c : ℕ) → c ≢ b.0 → on_shelf (state_of f) c ≡ on_shelf (state_of d) c
    others_still c ne =
        ap (λ (s : State). on_shelf s c) now ∙ ap (λ (x : Bool). cond x 1 0) (put_other (state_of d).shelved b.0 false c ne)

    pub clears_one : allowance_of f ≡ allowance_of d → ClearsShelf 1 d f
    clears_one same =
        let s = state_of d in let k = d.shape.blocks in
        let fine = sound (opening_of d.shape) d.seen legal.0 in
        let inside = (fine.shelf b.0 legal.1.asks).1 in
        let low = inside.0 in let high = inside.1 in
        let g : ℕ → ℕ = λ j. on_shelf s (suc j) in
        let i = b.0 - 1 in
        let back : suc i ≡ b.0 = omega arith in
        let was : g i ≡ 1 = ap (on_shelf s) back ∙ ap (λ (x : Bool). cond x 1 0) legal.1.asks in
        let sums = (sum_put k i 0 g).0 (omega arith) in
        let each = sum_all k (put g i 0) (λ j. on_shelf (state_of f) (suc j)) (λ j lt.
        ⊎_elim
        (λ (e : j ≡ i). ap (λ q. on_shelf (state_of f) (suc q)) e ∙ (ap (on_shelf (state_of f)) back ∙ (off_now ∙ sym (put_same g i 0 j e))))
        (λ (n : j ≢ i). others_still (suc j) (λ e. n (omega arith)) ∙ sym (put_other g i 0 j n))
        (cases_eq j i)) in
        let total : sum_below k (λ j. on_shelf (state_of f) (suc j)) + 1 ≡ sum_below k g = omega arith in
        record {
          sole = same ∙ (whole ∙ ap (λ (y : Shape). y.allowance) (sym adds.same.1));
          fewer = ap (λ (y : Shape). sum_below y.blocks (λ j. on_shelf (state_of f) (suc j)) + 1) adds.same.1 ∙ total;
          none_new = λ c. ⊎_elim
              (λ (e : c ≡ b.0). let o = ap (on_shelf (state_of f)) e ∙ off_now in omega arith)
              (λ (n : c ≢ b.0). let o = others_still c n in omega arith) (cases_eq c b.0);
        }

  -- what a sole desk is told is so by what it has seen
  pub so_sole : (v : SeatView V) (is : State → Type 0) → IsSo v is → (known v).allowance v.view.name ≡ v.shape.allowance → is (known v)
  so_sole v is t whole =
      subst (λ l. is (leads (opening_of v.shape) (l ++ v.view.seen)))
      (nothing_unseen (opening_of v.shape) t.between v.view.seen t.legal v.view.name t.quiet whole) t.so

  -- a word that was told has bits of the domain's blocks alone
  pub blocks_of_word : (v : SeatView V) (j n : ℕ) → IsSo v (IsShelfWord j n) → HasBlocks v.shape.blocks j n
  blocks_of_word v j n t b at one =
      let z = opening_of v.shape in let h = t.between ++ v.view.seen in
      let on = t.so b at in
      ((sound z h t.legal).shelf b (on_is ((leads z h).shelved b) (omega (arith, on, one)))).1

  -- the shelf's words are the table's
  pub shelf_inside : {n' : ℕ} (d : Inside V) (id : TableId) (k : Shape) (i j : ℕ) → IsDeskWith n' d → d.seat.table_id ≡ id
      → d.seat.me.0.shape ≡ k → i ≡ shelf_at k j → j < shelf_words k.blocks → (i ≡ shelf_at d.seat.me.0.shape j) × (i < id.words)
  shelf_inside d id k i j h table shape e low =
      let words = ap (λ (y : TableId). y.words) (sym table) ∙ h.sized.words in
      let long = ap (λ (y : Shape). shelf_words y.blocks) shape in
      let here : i ≡ shelf_at d.seat.me.0.shape j = e ∙ ap (λ y. shelf_at y j) (sym shape) in (here, omega arith)

  -- what a sole desk knows of a word, after a step for the block of one of its bits
  pub bits_on : (m f : DeskNow V) (word bits a r : ℕ) (b : Block) → a ≡ bit_of b.0 → b.0 / 64 ≡ word → Unshelved r m f
      → IsSole m → on_shelf (state_of f) b.0 ≡ 0
      → ((c : ℕ) → c / 64 ≡ word → bit_at bits (c % 64) ≡ 0 → on_shelf (state_of m) c ≡ 0)
      → (c : ℕ) → c / 64 ≡ word → bit_at (bit_and bits (bit_not w64 a)) (c % 64) ≡ 0 → on_shelf (state_of f) c ≡ 0
  bits_on m f word bits a r b is at u sole off rest c here zero =
      ⊎_elim
      (λ (e : c ≡ b.0). ap (on_shelf (state_of f)) e ∙ off)
      (λ (ne : c ≢ b.0).
      let apart : c % 64 ≢ b.0 % 64 = λ q. ne (omega arith) in
      let same = bit_left bits (b.0 % 64) (c % 64) (omega arith) (omega arith) apart in
      let was = rest c here (sym same ∙ (ap (λ y. bit_at (bit_and bits (bit_not w64 y)) (c % 64)) (sym is) ∙ zero)) in
      let t = (u.clears sole).none_new c in omega arith)
      (cases_eq c b.0)

  pub belongs_on : (d f : DeskNow V) (e : DomainNow) → IsSameDesk d f → Belongs d e → Belongs f e
  belongs_on d f e same b = record { table = same.domain ∙ b.table; shape = same.shape ∙ b.shape }

  -- and of the words passed, after one more
  pub words_on : (d m f : DeskNow V) (n k from word : ℕ) → Unshelved n d m → Unshelved k m f → IsSole d
      → ((b : ℕ) → from ≤ b / 64 → b / 64 < word → on_shelf (state_of m) b ≡ 0)
      → ((b : ℕ) → b / 64 ≡ word → on_shelf (state_of f) b ≡ 0)
      → (b : ℕ) → from ≤ b / 64 → b / 64 < word + 1 → on_shelf (state_of f) b ≡ 0
  words_on d m f n k from word a u sole before here b from' below =
      ⊎_elim
      (λ (e : b / 64 ≡ word). here b e)
      (λ (ne : b / 64 ≢ word).
      let was = before b from' (omega arith) in let t = (u.clears (a.clears sole).sole).none_new b in omega arith)
      (cases_eq (b / 64) word)

  -- over all words, a sole desk gets as many as it asks for, or all that there are
  pub all_shelved : (d m f : DeskNow V) (n k count words first : ℕ) → Unshelved n d m → Unshelved k m f → IsSole d
      → words ≡ shelf_words d.shape.blocks → n ≤ count → k ≤ count - n
      → (n < count → (b : ℕ) → first ≤ b / 64 → b / 64 < words → on_shelf (state_of m) b ≡ 0)
      → (k < count - n → (b : ℕ) → 0 ≤ b / 64 → b / 64 < first → on_shelf (state_of f) b ≡ 0)
      → n + k ≡ min count (shelved_of d)
  all_shelved d m f n k count words first a u sole all few some' front back =
      let t = unshelved_on n k d m f a u in
      let fewer = (t.clears sole).fewer in
      let same = ap (λ (y : Shape). y.blocks) t.passes.same.shape in
      ⊎_elim
      (λ (lt : n + k < count).
      let none : shelved_of f ≡ 0 = sum_zero f.shape.blocks (λ j. on_shelf (state_of f) (suc j)) (λ j low.
      ⊎_elim
      (λ (q : suc j / 64 < first). back (omega arith) (suc j) (omega arith) q)
      (λ (q : first ≤ suc j / 64).
      let z = front (omega arith) (suc j) q (omega arith) in
      let l = (u.clears (a.clears sole).sole).none_new (suc j) in omega arith)
      (cases_lt (suc j / 64) first)) in
      omega arith)
      (λ (ge : count ≤ n + k). omega arith)
      (cases_lt (n + k) count)
