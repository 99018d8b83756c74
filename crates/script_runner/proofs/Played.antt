-- How a thread goes on by its acts, and its worker notes what it says.
use Rattle.std.proofs.Common.{◌≡◌, ℕ, ◌+◌, ◌-◌, ◌≤◌, Bool, true, false, List, [], ◌∷◌, ◌++◌}
use Rattle.std.proofs.Common.{IfSome, IfNone, Some, None, Option, sym, refl, subst, append_assoc}
use Rattle.std.proofs.Common.{append-nil, arith}
use Rattle.script_runner.proofs.Prelude
use Prelude.{Act, ActResult, CellName, Ended, field_0, frame_settled, GoesOnWith, IsCompared}
use Prelude.{IsDealt, IsTop, Log, Notes, objects_asked, PlaysOn, refuses, Said, Settles}
use Prelude.{statement_says, TableNow, Task, task, TellsThread, thread_slots, told_line}
use Rattle.script_runner.proofs.Noted.{line_of, noted_then, nothing}
use Rattle.script_runner.proofs.Stepping as steps
use Rattle.step_threads.specs.declared.programs.act.Act.TheVariants as act
use Rattle.step_threads.specs.declared.said.Answer.TheVariants as answer

-- a thread that is where it was
pub none_played : (hand : ℕ) (t : TableNow ℕ) (todo : List Task) (w : Log) → PlaysOn hand t todo w t todo w
none_played hand t todo w =
    record {
      lines = [];
      asked = 0;
      goes = λ log. subst (λ l. GoesOnWith hand t w.taken todo log t w.taken todo l) (sym (append-nil log)) (λ part n tells. tells);
      asks = omega arith;
      notes = nothing w w refl refl refl;
    }

-- and that goes further
pub played_then : (hand : ℕ) (t v u : TableNow ℕ) (todo rest last : List Task) (w x y : Log) → PlaysOn hand t todo w v rest x
    → PlaysOn hand v rest x u last y → PlaysOn hand t todo w u last y
played_then hand t v u todo rest last w x y a b =
    record {
      lines = a.lines ++ b.lines;
      asked = a.asked + b.asked;
      goes = λ log part n tells.
          subst (λ l. TellsThread field_0 part n u.desk (frame_settled (thread_slots hand u) y.taken [] last) l) (append_assoc log a.lines b.lines)
          (b.goes (log ++ a.lines) part n (a.goes log part n tells));
      asks = let p = a.asks in let q = b.asks in omega (arith, p, q);
      notes = noted_then w x y a.asked b.asked a.lines b.lines a.notes b.notes;
    }

module _ (hand k : ℕ) (t t' v : TableNow ℕ) (same : t' ≡ t) (none : t'.endings ≡ []) where
  -- an act, and what ends by it
  pub act_played : (u : TableNow ℕ) (a : Act) (x : ActResult) (w m n y : Log) → IsDealt hand t' w.taken a x v → refuses x.answer ≤ objects_asked a
      → Notes w m (objects_asked a - refuses x.answer) [] → Notes m n (refuses x.answer) (told_line (statement_says k x))
      → Settles hand k v n u y → n.taken ≡ x.taken → y.taken ≡ n.taken
      → (todo : List Task) → PlaysOn hand t (task k a ∷ todo) w u todo y
  act_played u a x w m n y is few made said ends takes still todo =
      let told = told_line (statement_says k x) in
      let r = refuses x.answer in
      let o = objects_asked a in
      let all : o - r + r + 0 ≡ o = omega (arith, few) in
      record {
        lines = told ++ ends.lines;
        asked = o;
        goes = λ log.
            subst (λ l. GoesOnWith hand t w.taken (task k a ∷ todo) log u y.taken todo l) (append_assoc log told ends.lines)
            (steps.act_settled hand k t t' v same none u w.taken a x log (log ++ told) ((log ++ told) ++ ends.lines) n.taken y.taken is takes refl
            still (ends.goes (log ++ told)) todo);
        asks = refl;
        notes = subst (λ q. Notes w y q (told ++ ends.lines)) all
            (noted_then w n y (o - r + r) 0 told ends.lines (noted_then w m n (o - r) r [] told made said) ends.notes);
      }

  module _ (u q : TableNow ℕ) (i : ℕ) (c : CellName) (weak : Bool) (e : Option Ended) (bare : IfNone e (v.endings ≡ []))
      (some : IfSome e (IsTop v)) (then : q ≡ v) (w n y : Log) (swapped : Bool) (full : w.taken ≡ true)
      (is : IsCompared hand t' i c weak swapped v) (empty : n.taken ≡ false)
      (notes : Notes w n 0 (told_line (line_of k (Some (answer.Compared swapped)) None) ++ told_line (line_of k None e)))
      (ends : Settles hand k q n u y) (still : y.taken ≡ n.taken) where
    abbrev told : List Said
    told = told_line (line_of k (Some (answer.Compared swapped)) None) ++ told_line (line_of k None e)

    -- a comparison by which what was in hand went in
    pub swapped_played : swapped ≡ true → (todo : List Task)
        → PlaysOn hand t (task k (act.Compare i c weak) ∷ task k (act.Put i) ∷ task k act.Drop ∷ todo) w u todo y
    swapped_played so todo =
        let ts = task k (act.Compare i c weak) ∷ task k (act.Put i) ∷ task k act.Drop ∷ todo in
        record {
          lines = told ++ ends.lines;
          asked = 0;
          goes = λ log.
              subst (λ b. GoesOnWith hand t b ts log u y.taken todo (log ++ (told ++ ends.lines))) (sym full)
              (subst (λ l. GoesOnWith hand t true ts log u y.taken todo l) (append_assoc log told ends.lines)
              (steps.swapped_settled hand k t t' v same none u q i c weak e bare some then log (log ++ told) ((log ++ told) ++ ends.lines)
              n.taken y.taken swapped is empty refl still (ends.goes (log ++ told)) so todo));
          asks = omega arith;
          notes = noted_then w n y 0 0 told ends.lines notes ends.notes;
        }

    -- and one by which the name got what the cell held
    pub differs_played : swapped ≡ false → (todo : List Task)
        → PlaysOn hand t (task k (act.Compare i c weak) ∷ task k (act.Put i) ∷ todo) w u todo y
    differs_played so todo =
        let ts = task k (act.Compare i c weak) ∷ task k (act.Put i) ∷ todo in
        record {
          lines = told ++ ends.lines;
          asked = 0;
          goes = λ log.
              subst (λ b. GoesOnWith hand t b ts log u y.taken todo (log ++ (told ++ ends.lines))) (sym full)
              (subst (λ l. GoesOnWith hand t true ts log u y.taken todo l) (append_assoc log told ends.lines)
              (steps.differs_settled hand k t t' v same none u q i c weak e bare some then log (log ++ told) ((log ++ told) ++ ends.lines)
              n.taken y.taken swapped is empty refl still (ends.goes (log ++ told)) so todo));
          asks = omega arith;
          notes = noted_then w n y 0 0 told ends.lines notes ends.notes;
        }
