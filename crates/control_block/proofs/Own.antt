-- What the records of calls add to a desk's own events.
use Rattle.std.proofs.Common.{◌≡◌, ℕ, true, ◌≢◌, List, [], ◌∷◌, ◌++◌, ◌==◌, sym, refl, ap, ◌∙◌}
use Rattle.std.proofs.Common.{subst, append_assoc, arith, eq-eqb, ne_eqb}
use Rattle.control_block.proofs.Prelude.{cond-false, cond-true, cond_both, Entry, entry, Event}
use Rattle.control_block.proofs.Prelude.{events_of, in_history, IsLegal, Join, Knows, leads}
use Rattle.control_block.proofs.Prelude.{NoneBy, opening_of, same_kept, Shape, Split, state_of}
use Rattle.control_word.proofs.history.Names.{joined_is_quiet, unnamed_is_quiet}
use Rattle.control_block.specs.Laws.{CallsAdd, GoesAdd, GoesByCall, GoesByJoin, GoesByNone}
use Rattle.control_block.specs.Laws.{GoesInTurn, JoinedRest, JoinsAdd, SplitsAdd}
use Rattle.control_block.specs.Own.{own_of}

module _ {V : Type 0} where
  -- the newest event is the name's own, or another's
  own_first : (n d : ℕ) (x : Event V) (h : List (Entry V)) → d ≡ n → events_of n (entry d x ∷ h) ≡ x ∷ events_of n h
  own_first n d x h e = cond-true (d == n) (x ∷ events_of n h) (events_of n h) (eq-eqb d n e)

  others_first : (n : ℕ) (e : Entry V) (h : List (Entry V)) → e.desk ≢ n → events_of n (e ∷ h) ≡ events_of n h
  others_first n e h ne = cond-false (e.desk == n) (e.event ∷ events_of n h) (events_of n h) (ne_eqb e.desk n ne)

  events_append : (n : ℕ) (later seen : List (Entry V)) → events_of n (later ++ seen) ≡ events_of n later ++ events_of n seen
  events_append n [] seen = refl
  events_append n (x ∷ later) seen =
      let ih = events_append n later seen in
      cond_both (x.desk == n) (x.event ∷ events_of n later) (events_of n later) (λ l. events_of n (x ∷ (later ++ seen)) ≡ l ++ events_of n seen)
      (λ e. cond-true (x.desk == n) (x.event ∷ events_of n (later ++ seen)) (events_of n (later ++ seen)) e ∙ ap (λ l. x.event ∷ l) ih)
      (λ e. cond-false (x.desk == n) (x.event ∷ events_of n (later ++ seen)) (events_of n (later ++ seen)) e ∙ ih)

  -- events of others are passed over
  quiet_none : (n : ℕ) (later : List (Entry V)) → NoneBy n later → events_of n later ≡ []
  quiet_none n [] none = refl
  quiet_none n (e ∷ later) none = others_first n e later none.0 ∙ quiet_none n later none.2

  none_by : (n : ℕ) (later seen : List (Entry V)) → NoneBy n later → events_of n (later ++ seen) ≡ events_of n seen
  none_by n later seen none = events_append n later seen ∙ ap (λ l. l ++ events_of n seen) (quiet_none n later none)

  -- what a desk knows has all its own
  own_known : (n : ℕ) (history seen : List (Entry V)) → Knows n history seen → events_of n history ≡ events_of n seen
  own_known n history seen knows = ap (events_of n) knows.1 ∙ none_by n knows.0 seen knows.2

  pub goes_by_none : GoesByNone V
  goes_by_none d = record { same = (refl, refl, refl); later = []; seen = refl; mine = refl; legal = λ l. l }

  pub goes_by_call : GoesByCall V
  goes_by_call d x e adds =
      record {
        same = adds.same;
        later = entry d.name x ∷ adds.between;
        seen = adds.seen;
        mine = own_first d.name d.name x adds.between refl ∙ ap (λ l. x ∷ l) (quiet_none d.name adds.between adds.quiet);
        legal = λ l. adds.legal;
      }

  pub goes_by_join : GoesByJoin V
  goes_by_join d other e joins =
      let x = Join other.name in
      record {
        same = joins.same;
        later = entry d.name x ∷ joins.mine.0;
        seen = joins.seen ∙ ap (λ l. entry d.name x ∷ l) joins.mine.1;
        mine = own_first d.name d.name x joins.mine.0 refl ∙ ap (λ l. x ∷ l) (quiet_none d.name joins.mine.0 joins.mine.2);
        legal = λ l. joins.legal;
      }

  pub goes_in_turn : GoesInTurn V
  goes_in_turn d xs e ys f a b =
      record {
        same = (b.same.0 ∙ a.same.0, b.same.1 ∙ a.same.1, b.same.2 ∙ a.same.2);
        later = b.later ++ a.later;
        seen = b.seen ∙ (ap (λ l. b.later ++ l) a.seen ∙ sym (append_assoc b.later a.later d.seen));
        mine = events_append d.name b.later a.later
            ∙ (ap (λ l. l ++ events_of d.name a.later) (ap (λ n. events_of n b.later) (sym a.same.2) ∙ b.mine) ∙ ap (λ l. ys ++ l) a.mine);
        legal = λ l. subst (λ (k : Shape). IsLegal (opening_of k) f.seen) a.same.1
            (b.legal (subst (λ (k : Shape). IsLegal (opening_of k) e.seen) (sym a.same.1) (a.legal l)));
      }

  pub goes_add : GoesAdd V
  goes_add d own e goes =
      ap (λ n. events_of n e.seen) goes.same.2
      ∙ (ap (events_of d.name) goes.seen ∙ (events_append d.name goes.later d.seen ∙ ap (λ l. l ++ own_of d) goes.mine))

  pub calls_add : CallsAdd V
  calls_add d x e adds = goes_add d (x ∷ []) e (goes_by_call d x e adds)

  pub joined_rest : JoinedRest V
  joined_rest d own e n goes legal joined =
      let z = opening_of d.shape in
      let quiet = joined_is_quiet z goes.later d.seen (subst (IsLegal z) goes.seen (goes.legal legal)) n joined in (
        ap (events_of n) goes.seen ∙ none_by n goes.later d.seen quiet,
        ap (λ (k : Shape). (leads (opening_of k) e.seen).joined n) goes.same.1
            ∙ (ap (λ l. (leads z l).joined n) goes.seen ∙ ((same_kept z goes.later d.seen n quiet).is_joined ∙ joined)),
      )

  pub splits_add : SplitsAdd V
  splits_add d a k hs e new splits =
      let x = Split new.name a (in_history (state_of d) hs) splits.blocks in
      let adds = splits.event in
      let z = opening_of d.shape in
      let legal = subst (IsLegal z) adds.seen adds.legal in
      let to = legal.1.asks.0 in
      let low = legal.1.acting.0 in (
        calls_add d x e adds,
        ap (events_of new.name) (splits.beside.2 ∙ adds.seen)
            ∙ (others_first new.name (entry d.name x) (adds.between ++ d.seen) (λ q. omega arith)
            ∙ quiet_none new.name (adds.between ++ d.seen) (unnamed_is_quiet z (adds.between ++ d.seen) legal.0 new.name (omega arith))),
      )

  pub joins_add : JoinsAdd V
  joins_add d other e joins =
      let z = opening_of d.shape in
      let legal = subst (IsLegal z) joins.seen joins.legal in
      let s = leads z joins.before in (
        goes_add d (Join other.name ∷ []) e (goes_by_join d other e joins),
        ap (events_of other.name) joins.seen
            ∙ (others_first other.name (entry d.name (Join other.name)) joins.before (λ q. legal.1.asks.0 (sym q))
            ∙ own_known other.name joins.before other.seen joins.others),
        ap (λ (k : Shape). (leads (opening_of k) e.seen).joined other.name) joins.same.1
            ∙ (ap (λ h. (leads z h).joined other.name) joins.seen
            ∙ cond-true (other.name == other.name) true (s.joined other.name) (eq-eqb other.name other.name refl)),
      )
