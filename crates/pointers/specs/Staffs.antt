-- What is said of workers: those that are hired, and what each did.
use Rattle.std.specs.Prelude.{◌≡◌, ℕ, suc, List, [], ◌∷◌}
use Rattle.control_block.specs.Desks.{DomainNow}
use Rattle.shared_handle.specs.Piles.{Bears}
use Rattle.pointers.specs.Programs.{Answer, HasWorked}
use Rattle.pointers.specs.declared.program.worker.Worker.{Worker}

module _ {V P : Type 0} where
  -- a worker of this number is to do this program
  pub record IsHired (domain : DomainNow) (p : P) (n : ℕ) (w : Worker V P) : Type 0 where
    pub here : w.post.domain.now ≡ domain
    pub program : w.post.program.now ≡ p
    pub number : w.post.number ≡ n
    pub bears : Bears domain w.part.desk w.part.pile

  -- these are, by their numbers from this one on
  abbrev pub AreHired : DomainNow → P → ℕ → List (Worker V P) → Type 0
  AreHired y p n [] = Unit {0}
  AreHired y p n (w ∷ ws) = IsHired y p n w × AreHired y p (suc n) ws

  -- a worker worked, and this is what it became: nothing is left to end with its desk
  pub record Worked (answers : P → ℕ → Answer) (w x : Worker V P) : Type 0 where
    pub worked : HasWorked (answers w.post.program.now w.post.number) w.part.desk x.done x.part.desk
    pub bears : Bears w.post.domain.now x.part.desk x.part.pile
    pub settled : x.part.pile.endings.items ≡ []
