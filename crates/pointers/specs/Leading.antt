-- What is said of programs whose first thread leads.
use Rattle.std.specs.Prelude.{◌≡◌, ◌⊎◌, ℕ, ◌+◌, ◌-◌, ◌<◌, ◌^◌, length, min, vec_capacity}
use Rattle.std.specs.Prelude.{List, [], ◌∷◌, ◌++◌, Option, None, Some, Result, Ok, Err}
use Rattle.control_word.specs.declared.refusal.Refusal.{Refusal}
use Rattle.control_word.specs.declared.refusal.Refusal.TheVariants as refusal
use Rattle.control_word.specs.declared.shape.Shape.{Shape}
use Rattle.control_block.specs.Census.{CensusNow}
use Rattle.control_block.specs.Desks.{Belongs, DeskNow, DomainNow, allowance_of, endings_of, stock_of}
use Rattle.control_block.specs.Parting.{SplitsOff}
use Rattle.pointers.specs.Known.{GoesOn}
use Rattle.pointers.specs.Programs.{Answer, IsClosed, IsOpened, Lends}
use Rattle.pointers.specs.Shares.{GivesBack, HasShares, Joins}
use Rattle.pointers.specs.declared.fault.Fault.{Fault}
use Rattle.pointers.specs.declared.fault.Fault.TheVariants.{Memory, Refused}
use Rattle.pointers.specs.declared.fault.call.Call.TheVariants as calls
use Rattle.pointers.specs.declared.known.Known.{Known}
use Rattle.pointers.specs.declared.program.Failed.{Failed}
use Rattle.pointers.specs.declared.program.leader.Manned.{Manned}
use Rattle.pointers.specs.declared.program.team.Team.{Team}
use Rattle.pointers.specs.declared.program.teams.Teams.{Teams}

-- what a call of lead does to a leader, told how the team before was manned, and to the pointers that it kept, and what
-- it answers
abbrev pub Lead : Type 0 → Type 0 → Type 1
Lead P V = P → Option Manned → List (Known V) → Result (Option Team) Fault → P → List (Known V) → Type 0

-- nothing is said of it
abbrev pub any_lead : {P V : Type 0} → Lead P V
any_lead p before kept r q kept' = Unit {0}

-- the reason that came first
abbrev pub first_of : Option Refusal → Option Refusal → Option Refusal
first_of None why = why
first_of (Some first) why = Some first

-- the leader's own fault, if there is one, as of the worker with the greatest number
abbrev pub leaders : Option Fault → List Failed
leaders None = []
leaders (Some why) = record { worker = 2 ^ 64 - 1; why = why } ∷ []

-- where a leader is before a call: what it is, what it is told, the pointers that it kept, the desk that gives its
-- teams parts, and of all teams before, how many workers worked, why one didn't, and the faults that their work ended
-- with
pub record Led (P V : Type 0) : Type 0 where
  pub leader : P
  pub before : Option Manned
  pub kept : List (Known V)
  pub desk : DeskNow V
  pub workers : ℕ
  pub fewer : Option Refusal
  pub failed : List Failed

module _ {V : Type 0} where
  -- a team worked, all of it; or none, since memory or a thread was refused for one, and its parts came back
  abbrev pub TeamWorks : (ℕ → Answer) → Team → DeskNow V → Manned → List Failed → DeskNow V → Type 0
  TeamWorks answers team d manned failed e =
      ((manned ≡ record { workers = team.workers; fewer = None }) × Lends answers team d failed e)
      ⊎ ((manned ≡ record { workers = 0; fewer = Some refusal.Memory }) × (failed ≡ [])
      × GivesBack d (team.pointers + 2) e)

  -- why a team isn't started: the desk has no parts for it, or memory is refused for its faults
  abbrev pub WhyNoTeam : DeskNow V → Team → Fault → Type 0
  WhyNoTeam d team why =
      ((why ≡ Refused calls.Team refusal.Limit) × (HasShares d (team.pointers + 2) team.workers → ⊥))
      ⊎ ((why ≡ Memory) × HasShares d (team.pointers + 2) team.workers)

  -- a leader's desk went on to this one, with nothing left to end and no vacant block
  pub record IsLeft (d e : DeskNow V) : Type 0 where
    pub goes : GoesOn d e
    pub allowance : allowance_of e ≡ allowance_of d
    pub settled : endings_of e ≡ 0
    pub bare : length (stock_of e) ≡ 0

  -- there is room for the leader's fault, and the desk is one of the domain's
  pub record AreSet (t : Teams V) : Type 0 where
    pub here : Belongs t.desk t.domain.now
    pub room : length t.failed.items < vec_capacity t.failed

  -- no team was started
  pub record IsAsBefore (t u : Teams V) : Type 0 where
    pub before : u.before ≡ t.before
    pub desk : u.desk ≡ t.desk
    pub workers : u.workers ≡ t.workers
    pub fewer : u.fewer ≡ t.fewer
    pub failed : u.failed.items ≡ t.failed.items

  -- teams came and went
  pub record Stay (t u : Teams V) : Type 0 where
    pub domain : u.domain.now ≡ t.domain.now
    pub allowance : allowance_of u.desk ≡ allowance_of t.desk
    pub endings : endings_of u.desk ≡ endings_of t.desk

  -- a team was started
  pub record HasStarted (answers : ℕ → Answer) (team : Team) (t u : Teams V) : Type 0 where
    pub manned : Manned
    pub faults : List Failed
    pub room : HasShares t.desk (team.pointers + 2) team.workers
    pub works : TeamWorks answers team t.desk manned faults u.desk
    pub told : u.before ≡ Some manned
    pub workers : u.workers ≡ min (t.workers + manned.workers) (2 ^ 64 - 1)
    pub fewer : u.fewer ≡ first_of t.fewer manned.fewer
    pub failed : u.failed.items ≡ t.failed.items ++ faults

  -- the team that was answered was started
  abbrev pub Follows : (ℕ → Answer) → Option Team → Teams V → Teams V → Type 0
  Follows answers None t u = ⊥
  Follows answers (Some team) t u = HasStarted answers team t u

  -- none was: none was answered, or one that isn't started
  abbrev pub IsOver : DeskNow V → Option Team → Option Fault → Type 0
  IsOver d None None = Unit {0}
  IsOver d None (Some why) = ⊥
  IsOver d (Some team) None = ⊥
  IsOver d (Some team) (Some why) = WhyNoTeam d team why

  module _ {P : Type 0} where
    abbrev pub led_with : P → List (Known V) → Teams V → Led P V
    led_with p kept t =
        record {
          leader = p;
          before = t.before;
          kept = kept;
          desk = t.desk;
          workers = t.workers;
          fewer = t.fewer;
          failed = t.failed.items;
        }

    -- it keeps nothing yet, or any more
    abbrev pub led_by : P → Teams V → Led P V
    led_by p t = led_with p [] t

    -- a call started a team, which worked
    pub record Starts (leads : Lead P V) (answers : P → ℕ → Answer) (l m : Led P V) : Type 0 where
      pub team : Team
      pub manned : Manned
      pub faults : List Failed
      pub call : leads l.leader l.before l.kept (Ok (Some team)) m.leader m.kept
      pub room : HasShares l.desk (team.pointers + 2) team.workers
      pub works : TeamWorks (answers m.leader) team l.desk manned faults m.desk
      pub told : m.before ≡ Some manned
      pub workers : m.workers ≡ min (l.workers + manned.workers) (2 ^ 64 - 1)
      pub fewer : m.fewer ≡ first_of l.fewer manned.fewer
      pub failed : m.failed ≡ l.failed ++ faults

    -- teams worked one after another, the newest first
    abbrev pub AreTeams : Lead P V → (P → ℕ → Answer) → Led P V → List (Led P V) → Led P V → Type 0
    AreTeams leads answers l [] m = m ≡ l
    AreTeams leads answers l (x ∷ xs) m = AreTeams leads answers l xs x × Starts leads answers x m

    -- a call started none: there is no more to do, or it answered a fault, or a team that isn't started
    abbrev pub Ends : Lead P V → Led P V → P → List (Known V) → Option Fault → Type 0
    Ends leads l q kept None = leads l.leader l.before l.kept (Ok None) q kept
    Ends leads l q kept (Some why) =
        leads l.leader l.before l.kept (Err why) q kept
        ⊎ ((team : Team) × leads l.leader l.before l.kept (Ok (Some team)) q kept × WhyNoTeam l.desk team why)

    -- a leader started teams, until a call started none; then all was so, but that what it kept let go
    pub record LeadsOn (leads : Lead P V) (answers : P → ℕ → Answer) (l m : Led P V) (fault : Option Fault) : Type 0
      where
        pub past : List (Led P V)
        pub last : Led P V
        pub teams : AreTeams leads answers l past last
        pub kept : List (Known V)
        pub over : Ends leads last m.leader kept fault
        pub left : record last { leader = m.leader; kept = [] } ≡ m

    -- a leader led at a desk with so many handles, a part of the one that gave its teams theirs and joined it then
    pub record LedAt (leads : Lead P V) (answers : P → ℕ → Answer) (handles : ℕ) (l m : Led P V) (fault : Option Fault)
        : Type 0 where
      pub rest : DeskNow V
      pub own : DeskNow V
      pub parts : SplitsOff l.desk handles 0 [] rest own
      pub last : DeskNow V
      pub led : LeadsOn leads answers (record l { desk = rest }) (record m { desk = last }) fault
      pub left : DeskNow V
      pub leaves : IsLeft own left
      pub joins : Joins last left m.desk

module _ (V : Type 0) {P : Type 0} where
  -- in a new domain a leader led at a desk with so many handles, and the first desk closed the domain
  pub record Leads (leads : Lead P V) (answers : P → ℕ → Answer) (shape : Shape) (handles : ℕ) (p : P) (m : Led P V)
      (fault : Option Fault) (c : CensusNow) : Type 0 where
    pub domain : DomainNow
    pub first : DeskNow V
    pub opened : IsOpened shape domain first
    pub led : LedAt leads answers handles (record {
      leader = p;
      before = None;
      kept = [];
      desk = first;
      workers = 0;
      fewer = None;
      failed = [];
    }) m fault
    pub closed : IsClosed m.desk shape c
