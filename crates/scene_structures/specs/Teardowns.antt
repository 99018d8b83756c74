-- What a teardown says (own): which objects end, in which order, and what comes out of them.
use Rattle.std.specs.Prelude.{◌≡◌, ◌⊎◌, ℕ, suc, ◌+◌, ◌*◌, ◌<◌, length, List, [], ◌∷◌, ◌++◌}
use Rattle.std.specs.Prelude.{Option, None, Some, vec_capacity}
use Rattle.control_block.specs.Desks.{DeskNow}
use Rattle.control_block.specs.Rule.{members_of}
use Rattle.control_block.specs.declared.handles.Shared.{Shared}
use Rattle.control_word.specs.declared.shape.Shape.{Shape}
use Rattle.shared_handle.specs.Piles.{AreRounds, Drops, Past}
use Rattle.shared_handle.specs.declared.endings.Ending.{Ending}
use Rattle.shared_handle.specs.declared.pile.Gone.{Gone}
use Rattle.shared_handle.specs.declared.pile.Gone.TheVariants as gone
use Rattle.shared_handle.specs.declared.pile.Round.{Round}
use Rattle.shared_handle.specs.declared.pile.Round.TheVariants as round
use Rattle.scene_structures.specs.declared.tree.ended.Ended.{Ended}

-- which slots are empty, counted from a number on
abbrev pub empty_slots : {A : Type 0} → ℕ → List (Option A) → List ℕ
empty_slots n [] = []
empty_slots n (Some x ∷ ss) = empty_slots (suc n) ss
empty_slots n (None ∷ ss) = n ∷ empty_slots (suc n) ss

-- so many objects may be told of
pub record HasRoomForEnds {V : Type 0} (n : ℕ) (e : Ended V) : Type 0 where
  pub slots : vec_capacity e.slots ≡ n
  pub vacant : vec_capacity e.vacant ≡ n
  pub values : vec_capacity e.values ≡ n
  pub none : e.values.items ≡ []

-- what the slots have
abbrev pub filled_values : {A : Type 0} → List (Option A) → List A
filled_values [] = []
filled_values (Some x ∷ ss) = x ∷ filled_values ss
filled_values (None ∷ ss) = filled_values ss

-- the rounds in which each block's object is emptied member by member and finished
abbrev pub most_rounds : Shape → ℕ
most_rounds z = (members_of z + 1) * z.blocks

module _ {V : Type 0} where
  -- the value of what lies on top
  abbrev pub top_value : List (Ending V) → List V
  top_value [] = []
  top_value (x ∷ []) = x.value ∷ []
  top_value (x ∷ (y ∷ zs)) = top_value (y ∷ zs)

  -- the value of what ended when an owner left, which is on top then
  abbrev pub values_ended_by : Gone → List (Ending V) → List V
  values_ended_by gone.Last zs = top_value zs
  values_ended_by gone.Empty zs = []
  values_ended_by gone.Others zs = []

  abbrev pub values_ended_in : Round V → List (Ending V) → List V
  values_ended_in (round.Cleared m g) zs = values_ended_by g zs
  values_ended_in (round.Ended v) zs = []
  values_ended_in round.Settled zs = []

  -- the values of all that ended in rounds that left this pile, behind these, in the order in which it ended
  abbrev pub values_ended : List (Past V) → List (Ending V) → List V → List V
  values_ended [] zs us = us
  values_ended (r ∷ rs) zs us = values_ended rs r.pile us ++ values_ended_in r.round zs

  -- of objects that ended in this order, those have come out that have a value in their slot, and the others lie on the
  -- pile
  abbrev pub AreOut : List (Option V) → List (Ending V) → List V → Type 0
  AreOut [] zs vs = (zs ≡ []) × (vs ≡ [])
  AreOut (Some v ∷ ss) zs vs = (us : List V) × (vs ≡ v ∷ us) × AreOut ss zs us
  AreOut (None ∷ ss) zs vs =
      (z : Ending V) × (ws : List (Ending V)) × (us : List V) × (zs ≡ z ∷ ws)
      × (vs ≡ z.value ∷ us) × AreOut ss ws us

  -- rounds go on till all has come out; but no more are made than these, and none when more objects have ended than
  -- there are blocks
  abbrev pub MayStop : Shape → List (Past V) → List (Ending V) → List (Option V) → Type 0
  MayStop z rs rest slots = (rest ≡ []) ⊎ ((length rs ≡ most_rounds z) ⊎ (z.blocks < length slots))

  -- each of the rounds was made while something lay above these
  abbrev pub IsAbove : List (Ending V) → List (Past V) → Type 0
  IsAbove xs [] = Unit {0}
  IsAbove xs (r ∷ rs) =
      IsAbove xs rs × ((zs : List (Ending V)) × (x : Ending V) × (r.pile ≡ xs ++ (zs ++ x ∷ [])))

  -- what a round makes of the slots: one more where an object ended, and the last empty one has a value where that came
  -- out
  abbrev pub RoundStepsBy : Round V → List (Option V) → List (Option V) → Type 0
  RoundStepsBy round.Settled ss ts = ts ≡ ss
  RoundStepsBy (round.Cleared m gone.Last) ss ts = ts ≡ ss ++ None ∷ []
  RoundStepsBy (round.Cleared m gone.Empty) ss ts = ts ≡ ss
  RoundStepsBy (round.Cleared m gone.Others) ss ts = ts ≡ ss
  RoundStepsBy (round.Ended v) ss ts = (zs : List (Ending V)) (x : Ending V) (vs : List V) → v ≡ x.value
      → AreOut ss (zs ++ x ∷ []) vs → AreOut ts zs vs

  -- so many rounds were made; and what lay above any lower part of the pile has come out, or lies there still
  pub record MakesRounds (d : DeskNow V) (ys : List (Ending V)) (ss : List (Option V)) (n : ℕ) (e : DeskNow V)
      (qs : List (Ending V)) (ts : List (Option V))
      : Type 0 where
    pub rounds : List (Past V)
    pub are : AreRounds d ys rounds e qs
    pub many : length rounds ≡ n
    pub out : (base zs : List (Ending V)) (vs : List V) → ys ≡ base ++ zs → AreOut ss zs vs
        → (ws : List (Ending V)) × (qs ≡ base ++ ws) × AreOut ts ws (values_ended rounds qs vs)
        × IsAbove base rounds

  -- and they may stop
  pub record RunsDown (z : Shape) (d : DeskNow V) (ys : List (Ending V)) (ss : List (Option V))
      (e : DeskNow V) (qs : List (Ending V))
      (ts : List (Option V)) : Type 0 where
    pub rounds : List (Past V)
    pub are : AreRounds d ys rounds e qs
    pub out : (base zs : List (Ending V)) (vs : List V) → ys ≡ base ++ zs → AreOut ss zs vs
        → (ws : List (Ending V)) × (qs ≡ base ++ ws) × AreOut ts ws (values_ended rounds qs vs)
        × IsAbove base rounds × MayStop z rounds ws ts

  -- The root left, and in rounds of the pile ended what ends by that, and nothing that lay on it before. The values
  -- came out in the order in which their objects ended; what has not come out lies above what lay on the pile
  pub record TearsDown (z : Shape) (d : DeskNow V) (xs : List (Ending V)) (root : Shared)
      (values : List V) (e : DeskNow V)
      (ys : List (Ending V)) : Type 0 where
    pub gone : Gone
    pub released : DeskNow V
    pub pile : List (Ending V)
    pub drops : Drops d xs root.block root.place gone released pile
    pub rounds : List (Past V)
    pub are : AreRounds released pile rounds e ys
    pub above : IsAbove xs rounds
    pub rest : List (Ending V)
    pub left : ys ≡ xs ++ rest
    pub slots : List (Option V)
    pub order : AreOut slots rest (values_ended rounds ys (values_ended_by gone pile))
    pub out : values ≡ filled_values slots
    pub whole : rest ≡ [] → values ≡ values_ended rounds ys (values_ended_by gone pile)
    pub stops : MayStop z rounds rest slots
