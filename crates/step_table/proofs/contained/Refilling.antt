-- A desk's own steps on cells: what is out after them, and how a refill goes on.
use Rattle.std.proofs.Common.{◌≡◌, ℕ, ◌-◌, ◌<◌, List, ◌∷◌, Some, None, Option, sym, refl, ap, ◌∙◌}
use Rattle.std.proofs.Common.{subst, inl, inr, arith, get_or-set_same}
use Rattle.step_table.proofs.Prelude
use Prelude.{Block, Bring, cell_in, cell_pending, CellStep, CellWord, Checking, Compared}
use Prelude.{CompareSwap, cond_both, Failing, gets, ghost_after_step, GhostState, GiveBack, handle}
use Prelude.{handle_in_block, handle_told, Has, has_object, Held, held, Holds, IsCellWord, IsOpen}
use Prelude.{IsOpenTo, Kind, kind_in_state, kind_of_member, Lacking, Look, Member, model_state}
use Prelude.{Nothing, NumberedHandle, object_at, OnCell, owing_funds, Paying, Pending, pending}
use Prelude.{Place, Refill, RefillFits, Refilling, same_Some, Site, slot, spot, State, Swap}
use Prelude.{TableInvariant, Take, TakeOut, Turn, Turning, used_up, View}
use Rattle.control_word.specs.declared.site.Site.TheVariants.{Free}
use Rattle.step_table.specs.Refills.{more_taken}
use Rattle.step_table.proofs.contained.Going.{swap_latest}
use Rattle.step_table.proofs.contained.Told.{kind_stays}

-- no object comes into a block
cell_latest : (v : GhostState) (d : ℕ) (x : CellStep) → (model_state (ghost_after_step v d (OnCell x))).latest ≡ (model_state v).latest
cell_latest v d (Look c x None) = refl
cell_latest v d (Look c x (Some y)) = refl
cell_latest v d (Holds c x b) = refl
cell_latest v d (Bring k b p f) = refl
cell_latest v d (GiveBack k b f) = refl
cell_latest v d (Take c x None) = refl
cell_latest v d (Take c x (Some y)) = refl
cell_latest v d (Turn k b) = refl
cell_latest v d (Refill c t) = refl
cell_latest v d (Swap c new x) = swap_latest d (cell_in (model_state v) c) (handle_told (model_state v) c new) (handle_told (model_state v) c x) (model_state v)
cell_latest v d (CompareSwap c x y) =
    swap_latest d (cell_in (model_state v) c) (handle_told (model_state v) c y.new) (handle_told (model_state v) c x) (model_state v)
cell_latest v d (TakeOut b m x) = refl

same_owing : (s t : State) (k : Kind) (o : Option Block) (p : Option Place) (f l : ℕ) → t.latest ≡ s.latest
    → ◌≡◌ {A = Pending Nothing} (owing_funds s k o p f l) (owing_funds t k o p f l)
same_owing s t k None p f l latest = refl
same_owing s t k (Some b) p f l latest = ap (λ (g : ℕ → ℕ). Paying k (g b.0) p (spot b.0 (slot k)) f l) (sym latest)

owing_at : (v w : GhostState) (c : Site) (o : Option Block) (p : Option Place) (f l : ℕ) → w.extent ≡ v.extent
    → (model_state w).latest ≡ (model_state v).latest
    → ◌≡◌ {A = Pending Nothing} (owing_funds (model_state v) (kind_in_state (model_state v) c) o p f l)
    (owing_funds (model_state w) (kind_in_state (model_state w) c) o p f l)
owing_at v w c o p f l same latest =
    same_owing (model_state v) (model_state w) (kind_in_state (model_state v) c) o p f l latest ∙ ap (λ (k : Kind). owing_funds (model_state w) k o p f l)
    (sym (kind_stays v w c same))

-- what is out after a step of its own, as the state tells it that the step leaves
pub owes_after : (v : GhostState) (d : ℕ) (x : CellStep) → TableInvariant v → d < v.extent.actors
    → pending (ghost_after_step v d (OnCell x)) d ≡ cell_pending (model_state (ghost_after_step v d (OnCell x))) x
owes_after v d x kept lt =
    ap (λ (w : View Nothing). w.pending) (get_or-set_same v.views d _ used_up (let s = kept.seats.size in omega (arith, s, lt))) ∙ go x
  where
    go : (x : CellStep) → ◌≡◌ {A = Pending Nothing} (cell_pending (model_state v) x) (cell_pending (model_state (ghost_after_step v d (OnCell x))) x)
    go (Look c x y) = refl
    go (Holds c x b) = refl
    go (Bring k b p f) = refl
    go (GiveBack k b f) = refl
    go (Take c x y) = let w = ghost_after_step v d (OnCell (Take c x y)) in owing_at v w c x.owned x.place 1 1 refl (cell_latest v d (Take c x y))
    go (Turn k b) = refl
    go (Refill c t) = refl
    go (Swap c new x) = let w = ghost_after_step v d (OnCell (Swap c new x)) in
        owing_at v w c x.owned x.place (256 - x.taken) 0 refl (cell_latest v d (Swap c new x))
    go (CompareSwap c x y) =
        let w = ghost_after_step v d (OnCell (CompareSwap c x y)) in owing_at v w c x.owned x.place (256 - x.taken) 0 refl (cell_latest v d (CompareSwap c x y))
    go (TakeOut b m x) = same_owing (model_state v) (model_state (ghost_after_step v d (OnCell (TakeOut b m x)))) (kind_of_member 2 m) x.owned x.place
        (256 - x.taken) 0 refl

kind_got : (s : State) (d : ℕ) (h : NumberedHandle) (c : Site) → kind_in_state (gets d h s) c ≡ kind_in_state s c
kind_got s d h (Free n) = refl
kind_got s d h (Member b m) = refl

-- what was loaded is in the bag
has_got : (s : State) (d : ℕ) (k : Kind) (o : Option Block) (p : Option Place) (b : Block) → o ≡ Some b
    → Has (held d (handle k (object_at s (Some b)) p)) (gets d (handle k (object_at s o) p) s).hands
has_got s d k o p b is =
    subst (λ (q : Option Block). Has (held d (handle k (object_at s (Some b)) p)) (gets d (handle k (object_at s q) p) s).hands) (sym is) (inl refl)

-- one more handle in the bag shuts no cell
open_got : (s : State) (d : ℕ) (h : NumberedHandle) (c : Site) → IsOpen s d (cell_in s c) → IsOpen (gets d h s) d (cell_in (gets d h s) c)
open_got s d h (Free n) way = way
open_got s d h (Member b m) way =
    let y = way.1.0 in let hold = way.1.1 in (
      way.0,
      (
        y,
        (
          cond_both (has_object h) (held d h ∷ s.hands) s.hands (λ (l : List Held). Has (held d y) l) (λ t. inr hold.0) (λ t. hold.0),
          hold.1,
          hold.2,
        ),
        way.1.2,
      ),
    )

module _ (d : ℕ) (v : GhostState) (kept : TableInvariant v) (lt : d < v.extent.actors) where
  -- a fund is taken
  pub begins_refill : (c : Site) (x : CellWord) (y : Option Compared) (b : Block) → IsOpenTo v d c → IsCellWord x → x.owned ≡ Some b → x.taken < 256
      → RefillFits d Turning c (more_taken x) (ghost_after_step v d (OnCell (Take c x y)))
  begins_refill c x y b way valid some few = go y
    where
      got : (w : GhostState) → model_state w ≡ gets d (handle_told (model_state v) c x) (model_state v) → w.extent ≡ v.extent
          → pending w d ≡ owing_funds (model_state w) (kind_in_state (model_state w) c) x.owned x.place 1 1 → RefillFits d Turning c (more_taken x) w
      got w is same owes =
          let s = model_state v in
          let t = gets d (handle_told s c x) s in
          record {
            valid = record { owned = valid.owned; place = valid.place; taken = omega (arith, few) };
            few = omega (arith, few);
            block = b;
            owned = some;
            opens = subst (λ (u : State). IsOpen u d (cell_in u c)) (sym is) (open_got s d (handle_told s c x) c way);
            has = subst (λ (u : State). Has (held d (handle (kind_in_state u c) (Some (u.latest b.0)) x.place)) u.hands) (sym is)
                (subst (λ (k : Kind). Has (held d (handle k (Some (s.latest b.0)) x.place)) t.hands) (sym (kind_got s d (handle_told s c x) c))
                (has_got s d (kind_in_state s c) x.owned x.place b some));
            pays = owes ∙ ap (λ (o : Option Block). owing_funds (model_state w) (kind_in_state (model_state w) c) o x.place 1 1) some;
          }

      go : (y : Option Compared) → RefillFits d Turning c (more_taken x) (ghost_after_step v d (OnCell (Take c x y)))
      go None = got (ghost_after_step v d (OnCell (Take c x None))) refl refl (owes_after v d (Take c x None) kept lt)
      go (Some q) = got (ghost_after_step v d (OnCell (Take c x (Some q)))) refl refl (owes_after v d (Take c x (Some q)) kept lt)

  -- the fund is turned
  pub turns_fund : (c : Site) (x : CellWord) (b : Block) → RefillFits d Turning c x v
      → RefillFits d Checking c x (ghost_after_step v d (OnCell (Turn (kind_in_state (model_state v) c) b)))
  turns_fund c x b fits =
      record {
        valid = fits.valid;
        few = fits.few;
        block = fits.block;
        owned = fits.owned;
        opens = fits.opens;
        has = fits.has;
        pays = owes_after v d (Turn (kind_in_state (model_state v) c) b) kept lt;
      }

  -- as many funds are brought as were taken
  pub brings_funds : (c : Site) (x : CellWord) (b : Block) → RefillFits d Lacking c x v → x.owned ≡ Some b
      → RefillFits d Refilling c x (ghost_after_step v d (OnCell (Bring (kind_in_state (model_state v) c) b x.place x.taken)))
  brings_funds c x b fits some =
      record {
        valid = fits.valid;
        few = fits.few;
        block = b;
        owned = some;
        opens = fits.opens;
        has = subst (λ (q : Block). Has (held d (handle_in_block v (kind_in_state (model_state v) c) q x.place)) (model_state v).hands)
            (same_Some _ _ (sym fits.owned ∙ some)) fits.has;
        pays = owes_after v d (Bring (kind_in_state (model_state v) c) b x.place x.taken) kept lt;
      }

  -- the funds are given back
  pub gives_back : (c : Site) (x : CellWord) (b : Block) → RefillFits d Failing c x v
      → RefillFits d Checking c x (ghost_after_step v d (OnCell (GiveBack (kind_in_state (model_state v) c) b x.taken)))
  gives_back c x b fits =
      record {
        valid = fits.valid;
        few = fits.few;
        block = fits.block;
        owned = fits.owned;
        opens = fits.opens;
        has = fits.has;
        pays = owes_after v d (GiveBack (kind_in_state (model_state v) c) b x.taken) kept lt;
      }

module _ (d : ℕ) (v : GhostState) where
  -- the cell shows something else
  pub misses_cell : (c : Site) (x : CellWord) → RefillFits d Refilling c x v → RefillFits d Failing c x v
  misses_cell c x fits = record {
    valid = fits.valid;
    few = fits.few;
    block = fits.block;
    owned = fits.owned;
    opens = fits.opens;
    has = fits.has;
    pays = fits.pays;
  }
