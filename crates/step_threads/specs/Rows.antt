-- What a thread has, says and ends by an act, from what the act is replied. All of it is own.
use Rattle.std.specs.Prelude.{ℕ, Bool, true, false, not, cond, ◌&&◌, List, ◌∷◌, slice_set}
use Rattle.std.specs.Prelude.{Option, Some, None, option_map}
use Rattle.control_word.specs.declared.model.handle.Kind.{Kind}
use Rattle.control_word.specs.declared.model.handle.Kind.TheVariants.{Owner, Weak}
use Rattle.control_word.specs.declared.place.Block.{Block}
use Rattle.control_word.specs.declared.place.Place.{Place}
use Rattle.control_word.specs.declared.refusal.Refusal.TheVariants as refused
use Rattle.control_word.specs.Events.{origin}
use Rattle.control_word.specs.Handles.{same_place}
use Rattle.step_table.specs.declared.memory.field.Field.{Field}
use Rattle.step_table.specs.declared.memory.ended.Ended.{Ended}
use Rattle.control_word.specs.declared.handle.Handle.{Handle}
use Rattle.step_table.specs.declared.slots.slot.Slot.{Slot}
use Rattle.step_table.specs.declared.slots.slot.Slot.TheVariants.{Full, Empty}
use Rattle.step_table.specs.Contents.{differed, is_of, slots_swapped}
use Rattle.step_table.specs.AtomicSteps.{aliased, as_owner, as_weak, at_place, this_as}
use Rattle.step_table.specs.Registers.{Slots, filled, inside, is_full, place_in, plain, slot_pointer, slot_value}
use Rattle.step_table.specs.Registers.{owner_slot, weak_slot}
use Rattle.step_threads.specs.declared.programs.act.Act.{Act}
use Rattle.step_threads.specs.declared.programs.act.Act.TheVariants.{Make, Share, Downgrade, Lock, Put, Leave, Clear}
use Rattle.step_threads.specs.declared.programs.act.Act.TheVariants.{Count}
use Rattle.step_threads.specs.declared.programs.act.Act.TheVariants.{Expired, Read, FromThis, Alias, Move, Ask, Offer}
use Rattle.step_threads.specs.declared.programs.act.Act.TheVariants.{Swap}
use Rattle.step_threads.specs.declared.programs.act.Act.TheVariants.{Exchange, Load, Compare, Holds, Drop}
use Rattle.step_threads.specs.declared.programs.act.Question.{Question}
use Rattle.step_threads.specs.declared.programs.act.Question.TheVariants as question
use Rattle.step_threads.specs.declared.programs.act.Task.{Task}
use Rattle.step_threads.specs.declared.programs.call.CellName.{CellName}
use Rattle.step_threads.specs.declared.programs.call.CellName.TheVariants.{Member}
use Rattle.step_threads.specs.declared.ending.Ending.{Ending}
use Rattle.step_threads.specs.declared.said.Answer.{Answer}
use Rattle.step_threads.specs.declared.said.Answer.TheVariants as answer
use Rattle.step_threads.specs.declared.said.Said.{Said}
use Rattle.step_threads.specs.Frames.{FrameView, fitting, hand, is_there, other, slot_passed, placed, frame_settled}
use Rattle.step_threads.specs.Programs.{kind_at}

-- What an act is replied: nothing; the block of a make, if there was one; whether it is so; a number; what came out of
-- a cell; whether a cell was swapped, and what it held; whether a pointer was the last, and what its object left
pub data Reply : Type 0 where
  Plain : Reply
  Found : Option ℕ → Reply
  Got : Bool → Reply
  Told : ℕ → Reply
  Came : Slot → Reply
  Compared : Bool → Slot → Reply
  Left : Bool → Option Ended → Reply

-- what a thread has in its slots, and whether something is in hand
abbrev pub Hands : Type 0
Hands = Slots × Bool

-- a new object's owner is in hand, or the rest of the statement is passed over
abbrev pub holding : Slots → Bool → Option ℕ → Hands
holding slots null None = (slots, false)
holding slots null (Some b) = (
  slice_set slots (hand slots)
      (Full (record { kind = Owner; block = record { 0 = b }; place = origin b null })),
  true,
)

-- what was found is in hand; where nothing was and it must be, the rest of the statement is passed over
abbrev pub taking : Slots → Bool → Option Handle → Hands
taking slots must None = (slots, not must)
taking slots must (Some x) = (slice_set slots (hand slots) (Full x), true)

-- an alias with this place: an owner, or an empty pointer, has it
abbrev pub alias_of : Option Place → Option Handle → Slot
alias_of p None = Empty p
alias_of p (Some x) = Full (at_place p x)

abbrev pub alias_in : Slots → ℕ → ℕ → Option Field → Slot
alias_in slots k j field = alias_of (aliased field (place_in slots j)) (owner_slot (slot_pointer slots k))

-- what was in hand is in the cell, and what comes out is to be dropped; or what was in hand is, and what the cell holds
-- is taken
abbrev pub compared : Slots → Slot → Bool → Hands
compared slots x true = (slots_swapped (hand slots) (other slots) slots x, false)
compared slots x false = (differed (hand slots) (other slots) slots x, true)

abbrev pub full_answer : Option ℕ → Option Answer
full_answer None = Some (answer.Refused refused.Full)
full_answer (Some b) = None

-- a lock says whether it gave an owner; one that must is refused where it did not ([util.smartptr.shared.const],
-- bad_weak_ptr)
abbrev pub lock_answer : Bool → Bool → Answer
lock_answer false got = answer.Locked got
lock_answer true true = answer.Upgraded
lock_answer true false = answer.Refused refused.BadWeak

-- why there is no field and no object to ask: the place is null, or isn't in the object (own)
abbrev pub outside : Option Place → Answer
outside None = answer.Refused refused.Null
outside (Some p) = answer.Refused refused.Outside

-- an act on a member of no object is refused, by where the name points
abbrev pub refusal : Slots → CellName → Option Answer
refusal slots (Member k m) = cond (is_there slots (Member k m)) None (Some (outside (place_in slots k.0)))
refusal slots _ = None

-- an act on a cell answers this, where it isn't refused
abbrev pub unless : Option Answer → Answer → Option Answer
unless None a = Some a
unless (Some r) a = Some r

-- what a thread has in its slots after an act, whether something is in hand, the block whose object is to end, if any;
-- and what the act answers, and tells of an object that ends
pub record Row : Type 0 where
  pub slots : Slots
  pub taken : Bool
  pub ending : Option Block
  pub answer : Option Answer
  pub ended : Option Ended

abbrev pub having : Hands → Option Answer → Row
having x a = record { slots = x.0; taken = x.1; ending = None; answer = a; ended = None }

-- an object is to end where its last owner left
abbrev pub ending_as : Kind → Handle → Option Block
ending_as Owner x = Some x.block
ending_as Weak x = None

abbrev pub ending_by : Bool → Option Handle → Option Block
ending_by last None = None
ending_by last (Some x) = cond last (ending_as x.kind x) None

abbrev pub leaving : Hands → Option Handle → Bool → Option Ended → Row
leaving h x last e = record { slots = h.0; taken = h.1; ending = ending_by last x; answer = None; ended = e }

-- what the pointers of names tell; what comes before is replied
abbrev pub asked : Slots → Question → Bool → Answer
asked slots (question.Place k) b = answer.Place (place_in slots k)
asked slots (question.Same i j) b = answer.Same (same_place (place_in slots i) (place_in slots j))
asked slots (question.Before i j) b = answer.Before b

-- why an object gives no pointer to itself: it isn't enabled, or there is none to ask
abbrev pub not_given : Slots → ℕ → Answer
not_given slots k = cond (is_full (inside (slot_pointer slots k))) (answer.Refused refused.NotEnabled)
    (outside (place_in slots k))

-- the cell is there, and the value of slot k may go into it
abbrev pub may_go : Slots → CellName → ℕ → Bool
may_go slots c k = is_there slots c && is_of (kind_at c) (slot_value slots k)

-- each act, by its reply
abbrev pub row : Act → Slots → Bool → Reply → Row
row (Make form) l taken (Found b) = having (holding l form.null b) (full_answer b)
row (Share k) l taken Plain = having (slice_set l (hand l) (slot_value l k), true) None
row (Put k) l taken (Left last e) = leaving (placed k (slice_set l k plain), false) (slot_pointer l k) last e
row (Leave k) l taken (Left last e) = leaving (slice_set l k plain, taken) (slot_pointer l k) last e
row (Clear k) l taken (Left last e) = leaving (slice_set l k plain, taken) (slot_pointer l k) last e
row Drop l taken (Left last e) = leaving (slice_set l (other l) plain, taken) (slot_pointer l (other l)) last e
row (Count k) l taken (Told n) = having (l, taken) (Some (answer.Count n))
row (Downgrade k) l taken Plain =
    having (slice_set l (hand l) (filled (option_map as_weak (slot_pointer l k))), true) None
row (Lock k must) l taken (Got got) =
    having (taking l must (cond got (option_map as_owner (weak_slot (slot_pointer l k))) None))
    (Some (lock_answer must got))
row (Expired k) l taken (Got b) = having (l, taken) (Some (answer.Expired b))
row (Read k) l taken (Told n) =
    having (l, taken) (Some (cond (is_full (inside (slot_pointer l k))) (answer.Read n) (outside (place_in l k))))
row (FromThis k kind) l taken (Got got) =
    having (taking l true (option_map (this_as kind) (cond got (inside (slot_pointer l k)) None)))
    (cond got None (Some (not_given l k)))
row (Alias k j field) l taken Plain = having (slice_set l (hand l) (alias_in l k j field), true) None
row (Move k) l taken Plain = having (slot_passed k (hand l) l, true) None
row (Ask q) l taken (Got b) = having (l, taken) (Some (asked l q b))
row (Offer k c) l taken Plain =
    having (cond (is_there l c) (slice_set l (hand l) (fitting (kind_at c) (slot_value l k)), true)
    (l, taken)) (refusal l c)
row (Swap c) l taken (Came x) = having (cond (may_go l c (hand l)) (slots_swapped (hand l) (other l) l x) l, false) None
row (Exchange k c) l taken (Came x) = having (cond (may_go l c k) (slice_set l k x) l, taken) (refusal l c)
row (Load c) l taken (Came x) = having (cond (is_there l c) (slice_set l (hand l) x, true) (l, taken)) (refusal l c)
row (Compare k c weak) l taken (Compared swaps x) = having (compared l x swaps) (Some (answer.Compared swaps))
row (Holds k c) l taken (Got b) = having (l, taken) (unless (refusal l c) (answer.Holds b))
row _ l taken _ = having (l, taken) None

-- the end of an object begins before the ends that are under way
abbrev pub with_end : ℕ → Option Block → List Ending → List Ending
with_end k None es = es
with_end k (Some b) es = record { block = b; stage = 0; statement = k } ∷ es

-- where a thread is after an act of statement k, with these tasks after it, and what the act says
abbrev pub frame_after_act : FrameView → ℕ → List Task → Row → FrameView
frame_after_act w k ts y = frame_settled y.slots y.taken (with_end k y.ending w.endings) ts

abbrev pub said_by_row : ℕ → Row → Said
said_by_row k y = record { statement = k; answer = y.answer; ended = y.ended }
