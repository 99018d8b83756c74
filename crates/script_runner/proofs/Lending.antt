-- Each worker of a script gets a table that fits its thread, so that a run is refused for want of memory alone.
use Rattle.std.proofs.Common.{◌≡◌, ℕ, ◌*◌, ◌/◌, ◌≤◌, ◌⊎◌, ◌↔◌, List, [], ◌∷◌, IfErr, Ok, Err}
use Rattle.std.proofs.Common.{Result, sym, ap, subst, inl, inr, arith}
use Rattle.script_runner.proofs.Prelude.{All-from_recursion, AllByRecursion, AllZip, Assignment}
use Rattle.script_runner.proofs.Prelude.{HasAssignment, HasScriptMembers, HasTextCells, IsFitting, Refusal, Shape}
use Rattle.script_runner.proofs.Prelude.{shape_for, Share, TableId, TableNow, Worker}
use Rattle.control_word.specs.Layout.{IsWithinLimits}
use Rattle.control_word.specs.declared.refusal.Refusal.TheVariants as refusal
use Rattle.script_stepper.proofs.Beginning.{few_blocks, shape_fits}
use Rattle.script_runner.specs.Parting.{IsNew}
use Rattle.script_runner.specs.Staffs.{HasShares, IsLent, MeetsNeeds}
use Rattle.script_runner.proofs.Assigning.{Needs}

-- a table that is lent fits, in a domain with the cells that texts name and objects with a script's members
fits : (shape : Shape) (share : Share) (t : TableNow ℕ) → share.slots ≡ 36 → 36 ≤ share.allowance → HasTextCells shape → HasScriptMembers shape
    → IsLent shape share t → IsFitting t
fits shape share t slots enough cells members lent =
    record {
      new = subst (λ (n : ℕ). IsNew n t) slots lent.new;
      room = let has = lent.allowance in omega (arith, has, enough);
      cells = subst HasTextCells (sym lent.of) cells;
      members = subst HasScriptMembers (sym lent.of) members;
    }

module _ {G : Type 0} where
  need : (book : TableId) (shape : Shape) (share : Share) (rs : List Assignment) (ws : List (Worker G)) → share.slots ≡ 36 → 36 ≤ share.allowance
      → HasTextCells shape → HasScriptMembers shape → AllZip (HasAssignment book) rs ws
      → AllByRecursion (λ (w : Worker G). (t : TableNow ℕ) → IsLent shape share t → Needs w t) ws
  need book shape share [] [] slots enough cells members has = tt
  need book shape share (r ∷ rs) (w ∷ ws) slots enough cells members has =
      (λ t lent. (fits shape share t slots enough cells members lent, has.0.taken), need book shape share rs ws slots enough cells members has.1)
  need book shape share [] (w ∷ ws) slots enough cells members has = absurd has
  need book shape share (r ∷ rs) [] slots enough cells members has = absurd has

  -- so each worker that has an assignment has what it needs
  pub all_need : (book : TableId) (shape : Shape) (share : Share) (rs : List Assignment) (ws : List (Worker G)) → share.slots ≡ 36
      → 36 ≤ share.allowance → HasTextCells shape → HasScriptMembers shape → AllZip (HasAssignment book) rs ws → MeetsNeeds Needs shape share ws
  all_need book shape share rs ws slots enough cells members has =
      All-from_recursion (λ (w : Worker G). (t : TableNow ℕ) → IsLent shape share t → Needs w t) ws
      (need book shape share rs ws slots enough cells members has)

-- a script's domain has an allowance and blocks for each of its threads
pub has_shares : (shape : Shape) (share : Share) (blocks threads n : ℕ)
    → shape ≡ record (shape_for blocks threads) { allowance = 65536 * threads } → share.allowance ≡ 65535
    → share.blocks ≡ blocks / threads → n ≡ threads → 1 ≤ threads → HasShares shape share n
has_shares shape share blocks threads n is allowance each many some =
    let all = ap {B = ℕ} (λ (z : Shape). z.allowance) is in
    let own = ap {B = ℕ} (λ (z : Shape). z.blocks) is in
    let need = ap {B = ℕ} (λ k. k * share.blocks) many in
    let part = ap {B = ℕ} (λ k. threads * k) each in
    let taken = ap {B = ℕ} (λ k. n * k) allowance in
    (omega (arith, allowance), omega (arith, all, taken, many, some), omega (arith, own, need, part))

-- it is within the limits
pub workers_fit : (blocks threads : ℕ) → 64 ≤ blocks → blocks ≤ 65535 → 1 ≤ threads → threads ≤ 64
    → IsWithinLimits (record (shape_for blocks threads) { allowance = 65536 * threads })
workers_fit blocks threads least most some many =
    let fits = shape_fits blocks threads least most some many in
    let few = few_blocks blocks threads most in
    record {
      some_block = fits.some_block;
      blocks = fits.blocks;
      members = fits.members;
      cells = fits.cells;
      some_handle = omega (arith, some);
      allowance = omega (arith, many);
      owners_room = omega (arith, few, many);
      weaks_room = omega (arith, few, many);
    }

-- so a run is refused for want of memory alone, where the shape is within the limits and no worker keeps an allowance
pub only_memory : {A P : Type 0} (r : Result A Refusal) → P → IfErr r (λ why. why ≡ refusal.Shape ↔ (P → ⊥))
    → IfErr r (λ why. (why ≡ refusal.Shape) ⊎ ((why ≡ refusal.NotSole) ⊎ (why ≡ refusal.Memory)))
    → IfErr r (λ why. why ≡ refusal.NotSole → ⊥) → IfErr r (λ why. why ≡ refusal.Memory)
only_memory (Ok x) within shape named sole = tt
only_memory (Err why) within shape (inl is) sole = absurd (shape.0 is within)
only_memory (Err why) within shape (inr (inl is)) sole = absurd (sole is)
only_memory (Err why) within shape (inr (inr is)) sole = is
