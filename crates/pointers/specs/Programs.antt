-- What is said of programs whose workers have desks.
use Rattle.std.specs.Prelude.{◌≡◌, ℕ, suc, ◌+◌, List, [], ◌∷◌, length, Result, Ok, Err}
use Rattle.control_word.specs.declared.shape.Shape.{Shape}
use Rattle.control_block.specs.Census.{CensusNow, HasBlock, TellsAll}
use Rattle.control_block.specs.Desks.{DeskNow, DomainNow, IsFirstDesk, allowance_of, endings_of, state_of, stock_of}
use Rattle.control_block.specs.Holders.{TellsCells, TellsHolders}
use Rattle.control_block.specs.Own.{IsSole}
use Rattle.control_block.specs.Shelf.{Shelved}
use Rattle.pointers.specs.Known.{GoesOn}
use Rattle.pointers.specs.Shares.{IsPartedInto, JoinsAll}
use Rattle.pointers.specs.declared.fault.Fault.{Fault}
use Rattle.pointers.specs.declared.program.Failed.{Failed}
use Rattle.pointers.specs.declared.program.team.Team.{Team}

-- the desk that a brand tells of before one is picked for it
abbrev pub no_desk : {V : Type 0} → DeskNow V
no_desk = record {
  domain = record { words = 0; slots = 0; views_name = 0; atom = 0; block = 0; offset = 0; slot_names = [] };
  shape = record { blocks = 0; owners = 0; weaks = 0; shared_cells = 0; weak_cells = 0; allowance = 0 };
  name = 0;
  seen = [];
  held = 0;
}

-- what is said of a worker's answer
abbrev pub Answer : Type 1
Answer = Result (Unit {0}) Fault → Type 0

abbrev pub any_answer : Answer
any_answer r = Unit {0}

module _ {V : Type 0} where
  -- a worker answered so, and its desk went on to this one, which has no vacant block: they are on the shelf
  pub record HasWorked (answers : Answer) (d : DeskNow V) (r : Result (Unit {0}) Fault) (e : DeskNow V) : Type 0 where
    pub answered : answers r
    pub goes : GoesOn d e
    pub allowance : allowance_of e ≡ allowance_of d
    pub bare : length (stock_of e) ≡ 0

  -- so it was of each worker from this number on
  abbrev pub EachWorked : (ℕ → Answer) → ℕ → List (DeskNow V) → List (Result (Unit {0}) Fault) → List (DeskNow V)
      → Type 0
  EachWorked answers n [] [] [] = Unit {0}
  EachWorked answers n (t ∷ ts) (r ∷ rs) (u ∷ us) = HasWorked (answers n) t r u × EachWorked answers (suc n) ts rs us
  EachWorked answers n _ _ _ = ⊥

-- the faults among answers, with the workers' numbers from this one on
abbrev pub faults_from : ℕ → List (Result (Unit {0}) Fault) → List Failed
faults_from n [] = []
faults_from n (Ok done ∷ rs) = faults_from (suc n) rs
faults_from n (Err why ∷ rs) = record { worker = n; why = why } ∷ faults_from (suc n) rs

module _ {V : Type 0} where
  -- a new domain's first desk, which has put its vacant blocks on the shelf
  pub record IsOpened (shape : Shape) (domain : DomainNow) (d : DeskNow V) : Type 0 where
    pub of : domain.shape ≡ shape
    pub first : DeskNow V
    pub begins : IsFirstDesk domain first
    pub blocks : ℕ
    pub shelves : Shelved blocks first d

  -- each worker of a team worked once, with a part of the desk, which got all back; these are the faults that their
  -- work ended with
  pub record Lends (answers : ℕ → Answer) (team : Team) (d : DeskNow V) (failed : List Failed) (e : DeskNow V) : Type 0
    where
      pub lent : List (DeskNow V)
      pub many : length lent ≡ team.workers
      pub between : DeskNow V
      pub parts : IsPartedInto d (team.pointers + 2) lent between
      pub answered : List (Result (Unit {0}) Fault)
      pub left : List (DeskNow V)
      pub each : EachWorked answers 0 lent answered left
      pub joins : JoinsAll between left e
      pub faults : failed ≡ faults_from 0 answered

  -- a desk with the whole allowance, with nothing left to end, closed its domain. The census tells of all blocks, what
  -- each cell holds, and that each handle that counts is in a cell, or was left with the desk
  pub record IsClosed (last : DeskNow V) (shape : Shape) (c : CensusNow) : Type 0 where
    pub of : last.shape ≡ shape
    pub sole : IsSole last
    pub none : endings_of last ≡ 0
    pub blocks : c.blocks ≡ shape.blocks
    pub tells : TellsAll (state_of last) shape.blocks c
    pub cells : TellsCells (state_of last) c
    pub holders : (b : ℕ) → HasBlock c b → TellsHolders last b c

module _ (V : Type 0) where
  -- in a new domain the workers of a team worked with parts of the first desk, and that closed the domain
  pub record Runs (answers : ℕ → Answer) (shape : Shape) (team : Team) (failed : List Failed) (c : CensusNow) : Type 0
    where
      pub domain : DomainNow
      pub first : DeskNow V
      pub opened : IsOpened shape domain first
      pub last : DeskNow V
      pub lends : Lends answers team first failed last
      pub closed : IsClosed last shape c
