-- Workers that were ready for their threads, and what came of them.
use Rattle.std.proofs.Common.{◌≡◌, ℕ, ◌+◌, ◌<◌, ◌≤◌, false, List, [], ◌∷◌, ◌++◌, map, reverse}
use Rattle.std.proofs.Common.{length, get_or, take, vec_capacity, All, sym, refl, ap, ◌∙◌, subst}
use Rattle.std.proofs.Common.{append_assoc, arith, length-append}
use Rattle.script_runner.proofs.Prelude.{Actor, AllByRecursion, allowance_of, AllPlay, AllZip}
use Rattle.script_runner.proofs.Prelude.{asked_in, Assignment, field_0, HasAssignment}
use Rattle.script_runner.proofs.Prelude.{IsAssignmentFor, IsFitting, IsPart, IsProgram, IsReadyFor}
use Rattle.script_runner.proofs.Prelude.{IsSuited, IsWorked, Kind, map_more, Notes, Part, part_of}
use Rattle.script_runner.proofs.Prelude.{Said, TableId, TableNow, Task, tasks_from, Vec, Worker}
use Rattle.std.proofs.lemmas.List.{reverse-append}
use Rattle.std.proofs.lemmas.Slice.Zip.{all_zipped_more}
use Rattle.script_runner.specs.Staffs.{EachDoes}
use Rattle.step_core.proofs.Programs.{all_mapped}
use Rattle.step_threads.specs.declared.programs.call.Call.{Call}

pub same_many : {X Y : Type 0} (R : X → Y → Type 0) (xs : List X) (ys : List Y) → AllZip R xs ys → length ys ≡ length xs
same_many R [] [] all = refl
same_many R (x ∷ xs) (y ∷ ys) all = let ih = same_many R xs ys all.1 in omega (arith, ih)
same_many R [] (y ∷ ys) all = absurd all
same_many R (x ∷ xs) [] all = absurd all

-- an actor's names are few
pub few_names : (actors : List Actor) (i : ℕ) (a : Actor) → IsProgram (map part_of actors) → i < length actors → a ≡ get_or actors i a
    → length a.kinds.items ≤ 32
few_names actors i a program lt is =
    subst (λ (x : Actor). length x.kinds.items ≤ 32) (sym is) (all_mapped IsPart part_of actors program.each i a lt).few

-- and its tasks suit them
pub suited_names : (actors : List Actor) (i : ℕ) (a : Actor) → All IsSuited (map part_of actors) → i < length actors → a ≡ get_or actors i a
    → IsSuited (part_of a)
suited_names actors i a suits lt is =
    subst (λ (x : Actor). IsSuited (part_of x)) (sym is) (all_mapped IsSuited part_of actors suits i a lt)

-- one off a list and one more on another take no more room
pub same_room : {X Y : Type 0} (ws more : List X) (w : X) (ls told : List Y) (l : Y) (room : ℕ) → ws ≡ more ++ w ∷ [] → told ≡ ls ++ l ∷ []
    → length ws + length ls ≤ room → length more + length told ≤ room
same_room ws more w ls told l room popped pushed fits =
    let a = ap length popped in
    let b = length-append more (w ∷ []) in
    let c = ap length pushed in
    let d = length-append ls (l ∷ []) in omega (arith, a, b, c, d, fits)

pub tasks_for : (calls given : List Call) (n names : ℕ) (tasks : List Task) → tasks ≡ tasks_from 1 given n → given ≡ calls → n ≡ names
    → tasks ≡ tasks_from 1 calls names
tasks_for calls given n names tasks is same many =
    is ∙ ap (λ (l : List Call). tasks_from 1 l n) same ∙ ap (λ (k : ℕ). tasks_from 1 calls k) many

-- an assignment for one thread more
pub assignment_then : (objects : ℕ) (actors : List Actor) (i : ℕ) (a : Actor) (rs more : List Assignment) (r : Assignment) → i < length actors
    → a ≡ get_or actors i a → more ≡ rs ++ r ∷ [] → AllZip (IsAssignmentFor objects) (map part_of (take i actors)) rs
    → IsAssignmentFor objects (part_of a) r → AllZip (IsAssignmentFor objects) (map part_of (take (i + 1) actors)) more
assignment_then objects actors i a rs more r lt is next all here =
    let ps = map part_of (take i actors) in
    let on : map part_of (take (i + 1) actors) ≡ ps ++ part_of a ∷ [] =
    map_more part_of actors i a lt ∙ ap (λ (x : Actor). ps ++ part_of x ∷ []) (sym is) in
    subst (λ (l : List Assignment). AllZip (IsAssignmentFor objects) (map part_of (take (i + 1) actors)) l) (sym next)
    (subst (λ (l : List Part). AllZip (IsAssignmentFor objects) l (rs ++ r ∷ [])) (sym on)
    (all_zipped_more (IsAssignmentFor objects) ps rs (part_of a) r all here))

-- the last of a list goes behind another, which is turned round
pub zip_turned : {X Y : Type 0} (R : X → Y → Type 0) (x : X) (done : List X) (ys more : List Y) (y : Y) → more ≡ ys ++ y ∷ []
    → R x y → AllZip R done (reverse ys) → AllZip R (x ∷ done) (reverse more)
zip_turned R x done ys more y next here all = subst (AllZip R (x ∷ done)) (sym (ap reverse next ∙ reverse-append ys (y ∷ []))) (here, all)

pub gone_then : {X : Type 0} (all xs more done : List X) (x : X) → all ≡ xs ++ done → xs ≡ more ++ x ∷ [] → all ≡ more ++ x ∷ done
gone_then all xs more done x is popped = is ∙ (ap (λ l. l ++ done) popped ∙ append_assoc more (x ∷ []) done)

no_lines : (l : List Said) → length l ≡ 0 → l ≡ []
no_lines [] none = refl
no_lines (x ∷ l) none = absurd cc

module _ {G : Type 0} where
  -- a worker of a thread's assignment is ready for it
  ready : (objects : ℕ) (p : Part) (r : Assignment) (w : Worker G) (book : TableId) → IsAssignmentFor objects p r → HasAssignment book r w
      → IsReadyFor objects p w
  ready objects p r w book is has = record {
    tasks = (is.0.0 ∙ sym (ap (λ (v : Vec Kind). v.items) has.kinds), ap (λ (v : Vec Task). v.items) has.tasks ∙ is.0.1);
    said = ap (λ (v : Vec Said). v.items) has.said ∙ no_lines r.said.items r.silent;
    memory =
        let long = ap (λ (v : Vec Task). length v.items) has.tasks in
        let room = ap {B = ℕ} (λ (v : Vec Said). vec_capacity v) has.said in let fits = is.1 in omega (arith, long, room, fits);
    on = has.on;
    own = has.share.1;
  }

  pub all_ready : (objects : ℕ) (book : TableId) (ps : List Part) (rs : List Assignment) (ws : List (Worker G))
      → AllZip (IsAssignmentFor objects) ps rs → AllZip (HasAssignment book) rs ws → AllZip (IsReadyFor objects) ps ws
  all_ready objects book [] [] [] is has = tt
  all_ready objects book (p ∷ ps) (r ∷ rs) (w ∷ ws) is has =
      (ready objects p r w book is.0 has.0, all_ready objects book ps rs ws is.1 has.1)
  all_ready objects book [] (r ∷ rs) ws is has = absurd is
  all_ready objects book (p ∷ ps) [] ws is has = absurd is
  all_ready objects book [] [] (w ∷ ws) is has = absurd has
  all_ready objects book (p ∷ ps) (r ∷ rs) [] is has = absurd has

  -- each has a share of the book, and keeps it
  abbrev pub AllShare : TableId → List (Worker G) → Type 0
  AllShare book ws = AllByRecursion (λ (w : Worker G). w.log.share.book ≡ book) ws

  pub all_share : (book : TableId) (rs : List Assignment) (ws : List (Worker G)) → AllZip (HasAssignment book) rs ws → AllShare book ws
  all_share book [] [] has = tt
  all_share book (r ∷ rs) (w ∷ ws) has = (has.0.share.0, all_share book rs ws has.1)
  all_share book [] (w ∷ ws) has = absurd has
  all_share book (r ∷ rs) [] has = absurd has

  -- what a worker needs of its table
  abbrev pub Needs : Worker G → TableNow ℕ → Type 0
  Needs w t = IsFitting t × (w.log.taken ≡ false)

  -- what comes of a worker's work
  abbrev pub Does : Worker G → TableNow ℕ → Worker G → TableNow ℕ → Type 0
  Does w t x u =
      (x.log.share.book ≡ w.log.share.book)
      × (allowance_of u.desk ≡ allowance_of t.desk)
      × IsWorked w.kinds.items w.tasks.items w.log t x.log u

  -- each noted these lines
  abbrev pub AllNote : List (Worker G) → List (Worker G) → List (List Said) → Type 0
  AllNote [] [] [] = Unit {0}
  AllNote (w ∷ ws) (x ∷ xs) (l ∷ ls) = Notes w.log x.log (asked_in w.tasks.items) l × AllNote ws xs ls
  AllNote _ _ _ = ⊥

  -- they played their threads, with lines that they noted
  pub record HavePlayed (ps : List Part) (ws : List (Worker G)) (ts : List (TableNow ℕ)) (xs : List (Worker G)) (us : List (TableNow ℕ)) : Type 0 where
    pub lines : List (List Said)
    pub play : AllPlay field_0 ps ts us lines
    pub note : AllNote ws xs lines

  pub all_play : (objects : ℕ) (ps : List Part) (ws : List (Worker G)) (ts : List (TableNow ℕ)) (xs : List (Worker G)) (us : List (TableNow ℕ))
      → AllZip (IsReadyFor objects) ps ws → EachDoes Does ws ts xs us → HavePlayed ps ws ts xs us
  all_play objects [] [] [] [] [] ready each = record { lines = []; play = tt; note = tt }
  all_play objects (p ∷ ps) (w ∷ ws) (t ∷ ts) (x ∷ xs) (u ∷ us) ready each =
      let r = ready.0 in
      let here = each.0.2 p r.tasks in
      let ih = all_play objects ps ws ts xs us ready.1 each.1 in
      record { lines = here.lines ∷ ih.lines; play = (here.plays, ih.play); note = (here.notes, ih.note) }
  all_play objects [] (w ∷ ws) ts xs us ready each = absurd ready
  all_play objects (p ∷ ps) [] ts xs us ready each = absurd ready
  all_play objects [] [] (t ∷ ts) xs us ready each = absurd each
  all_play objects [] [] [] (x ∷ xs) us ready each = absurd each
  all_play objects [] [] [] [] (u ∷ us) ready each = absurd each
  all_play objects (p ∷ ps) (w ∷ ws) [] xs us ready each = absurd each
  all_play objects (p ∷ ps) (w ∷ ws) (t ∷ ts) [] us ready each = absurd each
  all_play objects (p ∷ ps) (w ∷ ws) (t ∷ ts) (x ∷ xs) [] ready each = absurd each

  -- each worker has its table, and its lines
  pub as_many : (ws : List (Worker G)) (ts : List (TableNow ℕ)) (xs : List (Worker G)) (us : List (TableNow ℕ)) → EachDoes Does ws ts xs us
      → (length ts ≡ length ws) × (length us ≡ length ws) × (length xs ≡ length ws)
  as_many [] [] [] [] each = (refl, refl, refl)
  as_many (w ∷ ws) (t ∷ ts) (x ∷ xs) (u ∷ us) each =
      let ih = as_many ws ts xs us each.1 in
      let a = ih.0 in let b = ih.1 in let c = ih.2 in (omega (arith, a), omega (arith, b), omega (arith, c))
  as_many [] (t ∷ ts) xs us each = absurd each
  as_many [] [] (x ∷ xs) us each = absurd each
  as_many [] [] [] (u ∷ us) each = absurd each
  as_many (w ∷ ws) [] xs us each = absurd each
  as_many (w ∷ ws) (t ∷ ts) [] us each = absurd each
  as_many (w ∷ ws) (t ∷ ts) (x ∷ xs) [] each = absurd each

  pub still_share : (book : TableId) (ws : List (Worker G)) (ts : List (TableNow ℕ)) (xs : List (Worker G)) (us : List (TableNow ℕ))
      → EachDoes Does ws ts xs us → AllShare book ws → AllShare book xs
  still_share book [] [] [] [] each all = tt
  still_share book (w ∷ ws) (t ∷ ts) (x ∷ xs) (u ∷ us) each all =
      (each.0.0 ∙ all.0, still_share book ws ts xs us each.1 all.1)
  still_share book [] (t ∷ ts) xs us each all = absurd each
  still_share book [] [] (x ∷ xs) us each all = absurd each
  still_share book [] [] [] (u ∷ us) each all = absurd each
  still_share book (w ∷ ws) [] xs us each all = absurd each
  still_share book (w ∷ ws) (t ∷ ts) [] us each all = absurd each
  still_share book (w ∷ ws) (t ∷ ts) (x ∷ xs) [] each all = absurd each
