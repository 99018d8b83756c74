-- What goes between a desk's store and the shelf.
use Rattle.std.specs.Prelude.{◌≡◌, ℕ, suc, ◌+◌, ◌≤◌, List, map, length}
use Rattle.control_word.specs.declared.model.event.Event.{Event}
use Rattle.control_word.specs.declared.model.event.Event.TheVariants.{Shelve, Unshelve}
use Rattle.control_word.specs.declared.place.Block.{Block}
use Rattle.control_word.specs.State.{on_shelf, sum_below}
use Rattle.control_block.specs.Desks.{DeskNow, IsSameDesk, KeepsEndings, bag_of, endings_of, state_of, stock_of}
use Rattle.control_block.specs.Own.{Goes, IsSole, KeepsLatest}

module _ {V : Type 0} where
  -- n blocks went one way, each by an event of the desk's own, and what else it has is as it was, of the same objects
  pub record Passes (e : Block → Event V) (n : ℕ) (d f : DeskNow V) : Type 0 where
    pub blocks : List Block
    pub many : length blocks ≡ n
    pub goes : Goes d (map e blocks) f
    pub same : IsSameDesk d f
    pub bag : bag_of f ≡ bag_of d
    pub held : f.held ≡ d.held
    pub latest : KeepsLatest d f
    pub endings : KeepsEndings d f
    pub count : endings_of f ≡ endings_of d

  -- n blocks of its store went to the shelf
  pub record Shelved (n : ℕ) (d f : DeskNow V) : Type 0 where
    pub passes : Passes Shelve n d f
    pub stock : length (stock_of f) + n ≡ length (stock_of d)

  -- how many blocks are on the shelf, as far as the desk has seen
  abbrev pub shelved_of : DeskNow V → ℕ
  shelved_of d = sum_below d.shape.blocks (λ j. on_shelf (state_of d) (suc j))

  -- a sole desk's shelf has n blocks fewer, and none that it hadn't
  pub record ClearsShelf (n : ℕ) (d f : DeskNow V) : Type 0 where
    pub sole : IsSole f
    pub fewer : shelved_of f + n ≡ shelved_of d
    pub none_new : (b : ℕ) → on_shelf (state_of f) b ≤ on_shelf (state_of d) b

  -- n blocks of the shelf came to its store
  pub record Unshelved (n : ℕ) (d f : DeskNow V) : Type 0 where
    pub passes : Passes Unshelve n d f
    pub stock : length (stock_of f) ≡ length (stock_of d) + n
    pub clears : IsSole d → ClearsShelf n d f
