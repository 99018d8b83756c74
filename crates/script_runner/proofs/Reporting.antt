-- What workers of a script leave is the script's report.
use Rattle.std.proofs.Common.{◌≡◌, ℕ, ◌*◌, ◌/◌, ◌≤◌, ◌⊎◌, List, [], ◌∷◌, map, length, IfOk, IfErr}
use Rattle.std.proofs.Common.{Ok, Err, All, sum_by, Result, sym, refl, ap, ◌∙◌, subst, inl, inr}
use Rattle.std.proofs.Common.{arith}
use Rattle.script_runner.proofs.Prelude
use Prelude.{All-from_recursion, AllByRecursion, AllZip, asked_by_all, Assignment, DeskNow}
use Prelude.{DomainNow, Entry, field_0, Has, HasAdded, HasAssignment, IsInterleaved, IsLegal}
use Prelude.{IsReadyFor, IsReport, IsSplitOrJoin, length-map, opening_of, part_in, program_in}
use Prelude.{recursion_from_All, Refusal, Report, Said, ScriptView, Shape, shape_for, Share}
use Prelude.{ShareNow, sum_by-cons, TableId, Totals, Vec, Worker}
use Rattle.control_word.specs.declared.refusal.Refusal.TheVariants.{NotSole}
use Rattle.script_runner.specs.Staffs.{StaffsOpen}
use Rattle.script_runner.proofs.Assigning.{AllShare, Does, all_play, all_share, as_many, same_many}
use Rattle.script_runner.proofs.Assigning.{still_share}
use Rattle.script_runner.proofs.Rooms.{all_added, all_say_few}
use Rattle.script_runner.proofs.Summing.{all_ended, all_made, sum_ended, sum_made}
use Rattle.script_runner.proofs.Weaving.{teams_interleave}
use Rattle.script_runner.specs.Reports.{HadWorkers, IsCounted, domain_shape, share_for}
use Rattle.script_text.specs.Versions.{blocks_in}

-- the shape of a script's domain
pub in_shape : (script : ScriptView) (blocks threads : ℕ) (shape : Shape)
    → shape ≡ record (shape_for blocks threads) { allowance = 65536 * threads } → blocks ≡ blocks_in script.version
    → threads ≡ length script.threads → shape ≡ domain_shape script
in_shape script blocks threads shape is all many =
    is
    ∙ ap {B = Shape} (λ (n : ℕ). record (shape_for n threads) { allowance = 65536 * threads }) all
    ∙ ap {B = Shape} (λ (n : ℕ). record (shape_for (blocks_in script.version) n) { allowance = 65536 * n }) many

-- the share that each of a script's workers gets
pub as_share : (script : ScriptView) (share : Share) (blocks threads : ℕ)
    → share ≡ record { slots = 36; allowance = 65535; blocks = blocks / threads } → blocks ≡ blocks_in script.version
    → threads ≡ length script.threads → share ≡ share_for script
as_share script share blocks threads is all many =
    is
    ∙ ap {B = Share} (λ (n : ℕ). record { slots = 36; allowance = 65535; blocks = n / threads }) all
    ∙ ap {B = Share} (λ (n : ℕ). record { slots = 36; allowance = 65535; blocks = blocks_in script.version / n }) many

-- the workers, by how many they are and by their share
workers_had : (domain : DomainNow) (desk : DeskNow ℕ) (share own : Share) (n k : ℕ) → share ≡ own → n ≡ k
    → HadWorkers domain share n desk → HadWorkers domain own k desk
workers_had domain desk share own n k is all had =
    subst (λ (j : ℕ). HadWorkers domain own j desk) all (subst (λ (x : Share). HadWorkers domain x n desk) is had)

module _ {G : Type 0} where
  -- what those said is told of so many threads
  line_count : (objects : ℕ) (script : ScriptView) (had has : List (Worker G)) → length has ≡ length had
      → AllZip (IsReadyFor objects) (program_in script.threads) had
      → length (map (λ (v : Vec Said). v.items) (map (λ (w : Worker G). w.log.said) has)) ≡ length script.threads
  line_count objects script had has many ready =
      length-map (map (λ (w : Worker G). w.log.said) has) (λ (v : Vec Said). v.items)
      ∙ (length-map has (λ (w : Worker G). w.log.said)
      ∙ (many ∙ (same_many (IsReadyFor objects) (program_in script.threads) had ready ∙ length-map script.threads part_in)))

  -- as many workers are left, each with a share of its book, also where they are refused
  pub record AreStill (book : TableId) (had has : List (Worker G)) : Type 0 where
    pub many : length has ≡ length had
    pub share : AllShare book has

  pub still : (book : TableId) (shape : Shape) (share : Share) (had has : List (Worker G)) (r : Result (DomainNow × DeskNow ℕ) Refusal)
      → AllShare book had
      → IfOk r (λ x. StaffsOpen Does shape share had has x.0 x.1) → IfErr r (λ why. (why ≡ NotSole) ⊎ (has ≡ had))
      → IfErr r (λ why. why ≡ NotSole → ⊥) → AreStill book had has
  still book shape share had has (Ok x) all works kept sole =
      let st = works.works.out.staffs in
      record { many = (as_many had st.lent has st.left st.each).2; share = still_share book had st.lent has st.left st.each all }
  still book shape share had has (Err why) all works (inl not) sole = absurd (sole not)
  still book shape share had has (Err why) all works (inr same) sole =
      subst (AreStill book had) (sym same) (record { many = refl; share = all })

  -- and so are their shares
  pub shares_still : (book : TableId) (xs : List (Worker G)) (ss : List ShareNow) → ss ≡ map (λ (w : Worker G). w.log.share) xs
      → AllShare book xs → All (λ (s : ShareNow). s.book ≡ book) ss
  shares_still book xs ss is all =
      subst (All (λ (s : ShareNow). s.book ≡ book)) (sym is)
      (All-from_recursion (λ (s : ShareNow). s.book ≡ book) (map (λ (w : Worker G). w.log.share) xs) (go xs all))
    where
      go : (xs : List (Worker G)) → AllShare book xs
          → AllByRecursion (λ (s : ShareNow). s.book ≡ book) (map (λ (w : Worker G). w.log.share) xs)
      go [] all = tt
      go (x ∷ xs) all = (all.0, go xs all.1)

  -- so much is left where each had an assignment, and a share of the book
  module _ (book : TableId) (assignments : List Assignment) (shape : Shape) (share : Share) (had has : List (Worker G))
      (r : Result (DomainNow × DeskNow ℕ) Refusal)
      (each : AllZip (HasAssignment book) assignments had) (works : IfOk r (λ x. StaffsOpen Does shape share had has x.0 x.1))
      (kept : IfErr r (λ why. (why ≡ NotSole) ⊎ (has ≡ had))) (sole : IfErr r (λ why. why ≡ NotSole → ⊥))
    where
      pub workers_left : length has ≡ length assignments
      workers_left =
          (still book shape share had has r (all_share book assignments had each) works kept sole).many
          ∙ same_many (HasAssignment book) assignments had each

      pub shares_left : (ss : List ShareNow) → ss ≡ map (λ (w : Worker G). w.log.share) has
          → All (λ (s : ShareNow). s.book ≡ book) ss × (length ss ≡ length assignments)
      shares_left ss is = (
        shares_still book has ss is (still book shape share had has r (all_share book assignments had each) works kept sole).share,
        ap length is ∙ (length-map has (λ (w : Worker G). w.log.share) ∙ workers_left),
      )

  -- the workers were ready for their threads
  performed : (script : ScriptView) (domain : DomainNow) (desk : DeskNow ℕ) (shape : Shape) (share : Share) (had has : List (Worker G))
      → shape ≡ domain_shape script → asked_by_all (program_in script.threads) ≤ 65536
      → AllZip (IsReadyFor (asked_by_all (program_in script.threads))) (program_in script.threads) had
      → StaffsOpen Does shape share had has domain desk → share ≡ share_for script
      → IsCounted script (map (λ (v : Vec Said). v.items) (map (λ (w : Worker G). w.log.said) has)) domain desk
      (map (λ (w : Worker G). w.log.share) has)
  performed script domain desk given share had has same few ready works is =
      let shape = domain_shape script in
      let s = subst (λ (k : Shape). StaffsOpen Does k share had has domain desk) same works in
      let st = s.works.out.staffs in
      let first = s.works.first in
      let ps = program_in script.threads in
      let objects = asked_by_all ps in
      let all : length had ≡ length script.threads = same_many (IsReadyFor objects) ps had ready ∙ length-map script.threads part_in in
      let many = as_many had st.lent has st.left st.each in
      let at : first.desk.shape ≡ shape = s.works.begins.shape ∙ s.of in
      let played = all_play objects ps had st.lent has st.left ready st.each in
      let ls = played.lines in
      let legal = subst (λ (k : Shape). IsLegal (opening_of k) desk.seen) (sym at) s.can_close.legal in
      let woven : IsInterleaved field_0 (opening_of shape) desk.seen ps ls =
      subst (λ (k : Shape). IsInterleaved field_0 (opening_of k) desk.seen ps ls) at
      (teams_interleave {V = ℕ} field_0 ps ls domain share.slots first s.works.out.after st.between desk st.lent st.left share.allowance
      share.blocks s.works.begins s.works.new st.parts played.play st.absorbs s.works.out.winds_up legal) in
      let have = all_added (opening_of shape) desk.seen objects few woven.names ps had has ls ready played.note woven.each
      (all_say_few (opening_of shape) desk.seen ps ls woven) in
      subst (λ (l : List (List Said)). IsCounted script l domain desk (map (λ (w : Worker G). w.log.share) has)) (sym have.said) (record {
        run = record {
          many = ap length (sym have.said) ∙ line_count objects script had has many.2 ready;
          of = s.of;
          here = s.here;
          can_close = s.can_close;
          works = workers_had domain desk share (share_for script) (length had) (length script.threads) is all (record {
            first = first;
            begins = s.works.begins;
            new = s.works.new;
            lent = st.lent;
            many = many.0;
            between = st.between;
            parts = st.parts;
            each_new = st.new;
            left = st.left;
            all = many.1;
            after = s.works.out.after;
            absorbs = st.absorbs;
            winds_up = s.works.out.winds_up;
          });
          interleaved = woven;
        };
        added = have.added;
      })

  -- so what the workers leave, with their lines and shares, is a run of the script
  pub performed_as : (script : ScriptView) (shape : Shape) (share : Share) (had has : List (Worker G))
      (r : Result (DomainNow × DeskNow ℕ) Refusal) (lines : List (Vec Said)) (shares : List ShareNow)
      → shape ≡ domain_shape script → asked_by_all (program_in script.threads) ≤ 65536
      → AllZip (IsReadyFor (asked_by_all (program_in script.threads))) (program_in script.threads) had
      → IfOk r (λ x. StaffsOpen Does shape share had has x.0 x.1) → share ≡ share_for script
      → lines ≡ map (λ (w : Worker G). w.log.said) has → shares ≡ map (λ (w : Worker G). w.log.share) has
      → IfOk r (λ x. IsCounted script (map (λ (v : Vec Said). v.items) lines) x.0 x.1 shares)
  performed_as script shape share had has (Err why) lines shares same few ready works is said added = tt
  performed_as script shape share had has (Ok x) lines shares same few ready works is said added =
      subst (λ (l : List (Vec Said)). IsCounted script (map (λ (v : Vec Said). v.items) l) x.0 x.1 shares) (sym said)
      (subst (IsCounted script (map (λ (v : Vec Said). v.items) (map (λ (w : Worker G). w.log.said) has)) x.0 x.1) (sym added)
      (performed script x.0 x.1 shape share had has same few ready works is))

-- the sums of what was added to shares are what all names make and end
sum_shares : (h : List (Entry ℕ)) (ns : List ℕ) (ss : List ShareNow) → AllZip (HasAdded h) ns ss
    → (sum_by (λ (s : ShareNow). s.own.made) ss ≡ all_made ns h) × (sum_by (λ (s : ShareNow). s.own.ended) ss ≡ all_ended ns h)
sum_shares h [] [] all = (refl, refl)
sum_shares h (n ∷ ns) (s ∷ ss) all =
    let ih = sum_shares h ns ss all.1 in
    let made = ih.0 in
    let ended = ih.1 in
    let a = all.0.0 in
    let b = all.0.1 in
    let p = sum_by-cons (λ (s : ShareNow). s.own.made) s ss in
    let q = sum_by-cons (λ (s : ShareNow). s.own.ended) s ss in (omega (arith, made, a, p), omega (arith, ended, b, q))
sum_shares h [] (s ∷ ss) all = absurd all
sum_shares h (n ∷ ns) [] all = absurd all

-- the totals are the sums of what was added to these shares
pub record IsGathered (shares : List ShareNow) (t : Totals) : Type 0 where
  pub made : t.made ≡ sum_by (λ (s : ShareNow). s.own.made) shares
  pub ended : t.ended ≡ sum_by (λ (s : ShareNow). s.own.ended) shares

-- what workers did, with the totals of their book, is a report
pub reported : (script : ScriptView) (report : Report) (domain : DomainNow) (desk : DeskNow ℕ) (shares : List ShareNow)
    → IsCounted script (map (λ (v : Vec Said). v.items) report.lines.items) domain desk shares → IsGathered shares report.totals
    → IsReport script report domain desk
reported script report domain desk shares counted sums =
    let woven = counted.run.interleaved in
    let h = desk.seen in
    let others = recursion_from_All (λ (e : Entry ℕ). Has e.desk woven.names ⊎ IsSplitOrJoin e.event) h woven.others in
    let own = sum_shares h woven.names shares counted.added in
    record {
      run = counted.run;
      made = sums.made ∙ (own.0 ∙ sum_made woven.names h woven.rising others);
      ended = sums.ended ∙ (own.1 ∙ sum_ended woven.names h woven.rising others);
    }
