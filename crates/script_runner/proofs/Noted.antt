-- What a worker notes, one after the other.
use Rattle.std.proofs.Common.{◌≡◌, ℕ, ◌+◌, Bool, true, false, ◌⊎◌, List, [], ◌++◌, length, None}
use Rattle.std.proofs.Common.{vec_capacity, Option, sym, refl, ap, ◌∙◌, subst, inl, inr}
use Rattle.std.proofs.Common.{append_assoc, append-nil, arith, length-append}
use Rattle.script_runner.proofs.Prelude.{Answer, Ended, HasNoted, HasScriptMembers, IsHandOfTable, IsPartlySettled}
use Rattle.script_runner.proofs.Prelude.{IsRound, IsRoundTold, IsTooMuch, Log, Notes, Round, Said}
use Rattle.script_runner.proofs.Prelude.{Settles, SettlesPartly, ShareNow, TableNow, told_in}
use Rattle.script_runner.proofs.Prelude.{told_line, Vec}
use Rattle.script_runner.proofs.Settles as settles
use Rattle.script_runner.proofs.Stepping as steps
use Rattle.script_runner.proofs.Summing.{refused_append, told_append}

-- nothing was noted
pub nothing : (w x : Log) → x.full ≡ w.full → x.said ≡ w.said → x.share.own ≡ w.share.own → Notes w x 0 []
nothing w x same said own =
    record {
      memory = ap vec_capacity said;
      kept = λ e. record {
        on = sym same ∙ e;
        said = ap (λ v. v.items) said ∙ sym (append-nil w.said.items);
        made = let made = ap (λ t. t.made) own in omega (arith, made);
        ended = let ended = ap (λ t. t.ended) own in omega (arith, ended);
      };
      full = λ e. inl (sym same ∙ e);
    }

module _ (w x y : Log) (a b : ℕ) (l m : List Said) (n : Notes w x a l) (o : Notes x y b m) where
  -- what was too much before is so with more
  more : IsTooMuch w a l → IsTooMuch w (a + b) (l ++ m)
  more (inl much) = let long = length-append l m in inl (omega (arith, much, long))
  more (inr much) = let told = told_append l m in inr (omega (arith, much, told))

  -- and what was too much after as well
  after : HasNoted w x a l → IsTooMuch x b m → IsTooMuch w (a + b) (l ++ m)
  after h (inl much) =
      let long = length-append l m in
      let had = ap length h.said ∙ length-append w.said.items l in
      let memory = n.memory in inl (omega (arith, much, long, had, memory))
  after h (inr much) =
      let told = told_append l m in
      let before = w.numbers in
      let now = x.numbers in
      let made = h.made in
      let ended = h.ended in inr (omega (arith, much, told, before, now, made, ended))

  kept_then : y.full ≡ false → HasNoted w y (a + b) (l ++ m)
  kept_then e =
      let p = o.kept e in
      let h = n.kept p.on in
      let r = refused_append l m in
      let t = told_append l m in
      let made = h.made in let more_made = p.made in let ended = h.ended in let more_ended = p.ended in
      record {
        on = h.on;
        said = p.said ∙ (ap (λ s. s ++ m) h.said ∙ append_assoc w.said.items l m);
        made = omega (arith, r, made, more_made);
        ended = omega (arith, t, ended, more_ended);
      }

  full_then : (x.full ≡ true) ⊎ IsTooMuch x b m → (w.full ≡ true) ⊎ IsTooMuch w (a + b) (l ++ m)
  full_then (inl e) = steps.or_then (n.full e) more
  full_then (inr much) = go x.full refl
    where
      go : (f : Bool) → x.full ≡ f → (w.full ≡ true) ⊎ IsTooMuch w (a + b) (l ++ m)
      go true e = steps.or_then (n.full e) more
      go false e = inr (after (n.kept e) much)

  -- what is noted, and then more
  pub noted_then : Notes w y (a + b) (l ++ m)
  noted_then = record { memory = o.memory ∙ n.memory; kept = kept_then; full = λ e. full_then (o.full e) }

-- a log that differs in what nothing is noted of
module _ (v w x : Log) (a : ℕ) (l : List Said) (n : Notes v x a l) (full : v.full ≡ w.full) (said : v.said ≡ w.said) (share : v.share ≡ w.share)
    (room : v.room ≡ w.room) where
  as_much : (v.full ≡ true) ⊎ IsTooMuch v a l → (w.full ≡ true) ⊎ IsTooMuch w a l
  as_much (inl e) = inl (sym full ∙ e)
  as_much (inr (inl much)) =
      let memory = ap {B = ℕ} (λ (s : Vec Said). vec_capacity s) said in
      let long = ap {B = ℕ} (λ (s : Vec Said). length s.items) said in inr (inl (omega (arith, much, memory, long)))
  as_much (inr (inr much)) = let r = room in inr (inr (omega (arith, much, r)))

  pub noted_from : Notes w x a l
  noted_from = record {
    memory = n.memory ∙ ap (λ (s : Vec Said). vec_capacity s) said;
    kept = λ e. let h = n.kept e in record {
      on = sym full ∙ h.on;
      said = h.said ∙ ap (λ (s : Vec Said). s.items ++ l) said;
      made = h.made ∙ ap (λ (s : ShareNow). s.own.made + a) share;
      ended = h.ended ∙ ap (λ (s : ShareNow). s.own.ended + told_in l) share;
    };
    full = λ e. as_much (n.full e);
  }

abbrev pub line_of : ℕ → Option Answer → Option Ended → Said
line_of k a e = record { statement = k; answer = a; ended = e }

module _ (hand k : ℕ) (t : TableNow ℕ) (w : Log) where
  -- nothing has ended
  pub none_settled : SettlesPartly hand k t w t w
  none_settled = record {
    lines = [];
    goes = λ log. subst (λ l. IsPartlySettled hand k w.taken t log t l) (sym (append-nil log)) (settles.no_round hand k t w.taken log);
    notes = nothing w w refl refl refl;
  }

  -- a round
  pub round_noted : (u : TableNow ℕ) (x : Log) → HasScriptMembers t.desk.shape → IsHandOfTable hand t false → u.slots ≡ t.slots → (round : Round ℕ)
      → IsRound t.desk t.endings round u.desk u.endings → (e : Option Ended) → IsRoundTold u round e
      → Notes w x 0 (told_line (line_of k None e)) → SettlesPartly hand k t w u x
  round_noted u x script seated slots round is e told notes = record {
    lines = told_line (line_of k None e);
    goes = λ log. settles.round_on hand k t u w.taken script seated slots round is e told log (log ++ told_line (line_of k None e)) refl;
    notes = notes;
  }

  -- and more of it
  pub settled_then : (v u : TableNow ℕ) (x y : Log) → SettlesPartly hand k t w v x → SettlesPartly hand k v x u y → x.taken ≡ w.taken
      → SettlesPartly hand k t w u y
  settled_then v u x y a b same = record {
    lines = a.lines ++ b.lines;
    goes = λ log.
        subst (λ l. IsPartlySettled hand k w.taken t log u l) (append_assoc log a.lines b.lines)
        (settles.rounds_then hand k t v u w.taken log (log ++ a.lines) ((log ++ a.lines) ++ b.lines) (a.goes log)
        (subst (λ q. IsPartlySettled hand k q v (log ++ a.lines) u ((log ++ a.lines) ++ b.lines)) same (b.goes (log ++ a.lines))));
    notes = noted_then w x y 0 0 a.lines b.lines a.notes b.notes;
  }

  -- all of it has ended
  pub all_settled : (u : TableNow ℕ) (x : Log) → SettlesPartly hand k t w u x → u.endings ≡ [] → Settles hand k t w u x
  all_settled u x a none = record {
    lines = a.lines;
    goes = λ log. settles.all_ended hand k t u w.taken log (log ++ a.lines) (a.goes log) none;
    notes = a.notes;
  }
