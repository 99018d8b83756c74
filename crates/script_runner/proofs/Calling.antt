-- Which calls of a desk are which acts of a thread.
use Rattle.std.proofs.Common.{◌≡◌, ℕ, Bool, true, false, cond, ◌==◌, Some, None, Option}
use Rattle.std.proofs.Common.{option_map, sym, refl, ap, ◌∙◌, subst, inl, eq-eqb}
use Rattle.script_runner.proofs.Prelude
use Prelude.{Act, AddsEvent, aliased, cond-true, copies, copy, DeskNow, Ended, Event, Form, Handle}
use Prelude.{handle, handle_of, HasHandle, inside, is_enabled, IsLeaveEvent, IsLegal, IsMakeEvent}
use Prelude.{Kind, latest_of, Left, legal_seen, names_an_object, Object, object_in, On, on_latest}
use Prelude.{opening_of, owned, owner, owner_slot, Place, place_at, place_in, remains, shown_held}
use Prelude.{slot_pointer, Slots, State, stays_as_made, stays_the_latest, weak_of, weak_slot}
use Rattle.control_word.specs.declared.model.event.Event.TheVariants as event
use Rattle.control_word.specs.declared.model.handle.Kind.TheVariants.{Owner, Weak}
use Rattle.step_table.specs.declared.memory.ended.Ended.TheVariants as ended
use Rattle.step_threads.specs.declared.programs.act.Act.TheVariants as act
use Rattle.script_runner.specs.Calls as calls

-- an owner that points into its own object is inside
pub is_inside : (l : Slots) (i : ℕ) (q : Place) → slot_pointer l i ≡ Some (calls.pointer Owner q.block (Some q))
    → inside (slot_pointer l i) ≡ Some (calls.pointer Owner q.block (Some q))
is_inside l i q at =
    ap inside at
    ∙ cond-true (q.block.0 == q.block.0) (Some (calls.pointer Owner q.block (Some q))) None (eq-eqb q.block.0 q.block.0 refl)

pub same_remains : (x y : Object) → x.fields ≡ y.fields → x.null ≡ y.null → remains x ≡ remains y
same_remains x y f m = ap (λ u. cond u ended.Null (ended.Fields x.fields)) m ∙ ap (λ u. cond y.null ended.Null (ended.Fields u)) f

module _ {V : Type 0} where
  -- what is latest in a block where the desk has a handle, when its event comes
  pub held_latest : (d e : DeskNow V) (v : Event V) (adds : AddsEvent d v e) (k : Kind) (p : Option Place) (b : ℕ) → HasHandle d k p b
      → (calls.state_before_event V adds).latest b ≡ latest_of d b
  held_latest d e v adds k p b has =
      let z = opening_of d.shape in
      let legal = (subst (IsLegal z) adds.seen adds.legal).0 in
      let old = legal_seen z adds.between d.seen legal in
      let o = latest_of d b in
      let mine = shown_held z d.seen d.name k p b old has in
      ap (calls.state_before_event V adds).latest (sym mine.1)
      ∙ (stays_the_latest z adds.between d.seen legal d.name adds.quiet o (inl (k, handle k (Some o) p, (mine.0, refl, refl), refl))).1

  -- what the object was made with, when the desk's event comes
  pub same_object : (d e : DeskNow V) (v : Event V) (adds : AddsEvent d v e) (k : Kind) (p : Option Place) (b : ℕ) → HasHandle d k p b
      → let s = calls.state_before_event V adds in let x = s.object (s.latest b) in let y = object_in d b in
      (x.fields ≡ y.fields) × (x.enabled ≡ y.enabled) × (x.null ≡ y.null)
  same_object d e v adds k p b has =
      let z = opening_of d.shape in
      let s = calls.state_before_event V adds in
      let legal = (subst (IsLegal z) adds.seen adds.legal).0 in
      let old = legal_seen z adds.between d.seen legal in
      let o = latest_of d b in
      let mine = shown_held z d.seen d.name k p b old has in
      let was = (names_an_object z d.seen old d.name k (handle k (Some o) p) (mine.0, refl, refl)).1 in
      let t = stays_as_made z adds.between d.seen o was in
      let l = held_latest d e v adds k p b has in
      (ap (λ q. (s.object q).fields) l ∙ t.1, ap (λ q. (s.object q).enabled) l ∙ t.2, ap (λ q. (s.object q).null) l ∙ t.3)

  pub made : calls.Made V
  made worth n d e l form b adds = refl

  pub copied : calls.Copied V
  copied worth n d e l i b p is adds =
      let s = calls.state_before_event V adds in
      let o = held_latest d e _ adds Owner p b.0 is.has in
      subst (λ (x : Option Handle). Some (event.Share (on_latest d Owner p b.0) p) ≡ option_map (copy {V = V} s) x) (sym is.at)
      (ap (λ q. Some (event.Share (handle Owner (Some q) p) p)) (sym o))

  pub copied_weakly : calls.CopiedWeakly V
  copied_weakly worth n d e l i b p is adds =
      let s = calls.state_before_event V adds in
      let o = held_latest d e _ adds Weak p b.0 is.has in
      subst (λ (x : Option Handle). Some (event.WeakShare (latest_of d b.0) p) ≡ option_map (copy {V = V} s) x) (sym is.at)
      (ap (λ q. Some (event.WeakShare q p)) (sym o))

  pub downgraded : calls.Downgraded V
  downgraded worth n d e l i b p is adds =
      let s = calls.state_before_event V adds in
      let o = held_latest d e _ adds Owner p b.0 is.has in
      subst (λ (x : Option Handle). Some (event.WeakShare (latest_of d b.0) p) ≡ option_map (λ (y : Handle). copies {V = V} s Weak y.place y) x)
      (sym is.at)
      (ap (λ q. Some (event.WeakShare q p)) (sym o))

  pub aliased_to : calls.Aliased V
  aliased_to worth n d e l i j field b p is adds =
      let s = calls.state_before_event V adds in
      let r = aliased field (place_in l j) in
      let o = held_latest d e _ adds Owner p b.0 is.has in
      subst (λ (x : Option Handle). Some (event.Share (on_latest d Owner p b.0) r) ≡ option_map (copies {V = V} s Owner r) (owner_slot x)) (sym is.at)
      (ap (λ q. Some (event.Share (handle Owner (Some q) p) r)) (sym o))

  pub locked : calls.Locked V
  locked worth n d e l i must got b p is adds =
      let s = calls.state_before_event V adds in
      let v : Event V = event.Lock (on_latest d Weak p b.0) got in
      let o = held_latest d e v adds Weak p b.0 is.has in
      subst (λ (x : Option Handle). On (λ y. Some v ≡ Some (event.Lock (weak_of (owned s y) y.place) got))
      ((got ≡ false) × (Some v ≡ None)) (weak_slot x))
      (sym is.at) (ap (λ q. Some (event.Lock (handle Weak (Some q) p) got)) (sym o))

  pub counted : calls.Counted V
  counted worth n d e l i owners k b p is adds =
      let s = calls.state_before_event V adds in
      let v : Event V = event.Count (on_latest d k p b.0) owners in
      let o = held_latest d e v adds k p b.0 is.has in
      subst (λ (x : Option Handle). On (λ y. Some v ≡ Some (event.Count (handle_of s y) owners)) ((owners ≡ 0) × (Some v ≡ None)) x)
      (sym is.at) (ap (λ q. Some (event.Count (handle k (Some q) p) owners)) (sym o))

  pub expired : calls.Expired V
  expired worth n d e l i so b p is adds =
      let s = calls.state_before_event V adds in
      let v : Event V = event.Expired (on_latest d Weak p b.0) so in
      let o = held_latest d e v adds Weak p b.0 is.has in
      subst (λ (x : Option Handle). On (λ y. Some v ≡ Some (event.Expired (handle_of s y) so)) ((so ≡ true) × (Some v ≡ None)) x)
      (sym is.at) (ap (λ q. Some (event.Expired (handle Weak (Some q) p) so)) (sym o))

  pub read : calls.Read V
  read worth n d e l i field q is adds =
      let s = calls.state_before_event V adds in
      let v : Event V = event.Read (on_latest d Owner (Some q) q.block.0) field in
      let o = held_latest d e v adds Owner (Some q) q.block.0 is.has in
      subst (λ (x : Option Handle). On (λ y. Some v ≡ Some (event.Read (owner (owned s y) y.place) field)) (Some v ≡ None) x)
      (sym (is_inside l i q is.at)) (ap (λ t. Some (event.Read (handle Owner (Some t) (Some q)) field)) (sym o))

  abbrev GivesAs : State → Kind → Event V → Handle → Type 0
  GivesAs s k v x = (true ≡ is_enabled s x) × (Some v ≡ cond true (Some (copies s k (place_at x.block.0) x)) None)

  pub given_this : calls.GivenThis V
  given_this worth n d e l i q is on adds =
      let s = calls.state_before_event V adds in
      let v : Event V = event.Share (on_latest d Owner (Some q) q.block.0) (place_at q.block.0) in
      let o = held_latest d e v adds Owner (Some q) q.block.0 is.has in
      let same = same_object d e v adds Owner (Some q) q.block.0 is.has in
      subst (λ (x : Option Handle). On (GivesAs s Owner v) ((true ≡ false) × (Some v ≡ None)) x)
      (sym (is_inside l i q is.at))
      (sym (same.1 ∙ on), ap (λ t. Some (event.Share (handle Owner (Some t) (Some q)) (place_at q.block.0))) (sym o))

  pub given_weak_this : calls.GivenWeakThis V
  given_weak_this worth n d e l i q is on adds =
      let s = calls.state_before_event V adds in
      let v : Event V = event.WeakShare (latest_of d q.block.0) (place_at q.block.0) in
      let o = held_latest d e v adds Owner (Some q) q.block.0 is.has in
      let same = same_object d e v adds Owner (Some q) q.block.0 is.has in
      subst (λ (x : Option Handle). On (GivesAs s Weak v) ((true ≡ false) × (Some v ≡ None)) x)
      (sym (is_inside l i q is.at))
      (sym (same.1 ∙ on), ap (λ t. Some (event.WeakShare t (place_at q.block.0))) (sym o))

  -- what leaves by a slot's pointer is what the acts that leave the slot make
  pub by_slot : (worth : Form → V) (s : State) (n : ℕ) (l : Slots) (a : Act) (i : ℕ) (last : Bool) (left : Option Ended) (v : Option (Event V))
      → calls.IsLeaveOf a l i → IsLeaveEvent s (slot_pointer l i) last left v → IsMakeEvent worth s n l a (Left last left) v
  by_slot worth s n l (act.Put k) i last left v at leaves = subst (λ j. IsLeaveEvent s (slot_pointer l j) last left v) at leaves
  by_slot worth s n l (act.Leave k) i last left v at leaves = subst (λ j. IsLeaveEvent s (slot_pointer l j) last left v) at leaves
  by_slot worth s n l (act.Clear k) i last left v at leaves = subst (λ j. IsLeaveEvent s (slot_pointer l j) last left v) at leaves
  by_slot worth s n l act.Drop i last left v at leaves = subst (λ j. IsLeaveEvent s (slot_pointer l j) last left v) at leaves
  by_slot worth s n l (act.Make form) i last left v at leaves = absurd at
  by_slot worth s n l (act.Share k) i last left v at leaves = absurd at
  by_slot worth s n l (act.Alias k j field) i last left v at leaves = absurd at
  by_slot worth s n l (act.Move k) i last left v at leaves = absurd at
  by_slot worth s n l (act.Downgrade k) i last left v at leaves = absurd at
  by_slot worth s n l (act.Lock k must) i last left v at leaves = absurd at
  by_slot worth s n l (act.Count k) i last left v at leaves = absurd at
  by_slot worth s n l (act.Expired k) i last left v at leaves = absurd at
  by_slot worth s n l (act.Read k) i last left v at leaves = absurd at
  by_slot worth s n l (act.FromThis k kind) i last left v at leaves = absurd at
  by_slot worth s n l (act.Ask q) i last left v at leaves = absurd at
  by_slot worth s n l (act.Offer k c) i last left v at leaves = absurd at
  by_slot worth s n l (act.Swap c) i last left v at leaves = absurd at
  by_slot worth s n l (act.Exchange k c) i last left v at leaves = absurd at
  by_slot worth s n l (act.Holds k c) i last left v at leaves = absurd at
  by_slot worth s n l (act.Load c) i last left v at leaves = absurd at
  by_slot worth s n l (act.Compare k c weak) i last left v at leaves = absurd at
  by_slot worth s n l (act.OnShelf x) i last left v at leaves = absurd at

  pub gone : calls.Gone V
  gone worth n d e l a i last b p at is adds =
      let s = calls.state_before_event V adds in
      let v : Event V = event.Leave (on_latest d Owner p b.0) last in
      let o = held_latest d e v adds Owner p b.0 is.has in
      let same = same_object d e v adds Owner p b.0 is.has in
      let left = cond last (Some (remains (object_in d b.0))) None in
      by_slot worth s n l a i last left (Some v) at
      (subst (λ (x : Option Handle). IsLeaveEvent s x last left (Some v)) (sym is.at) (
        ap (λ q. Some (event.Leave (handle Owner (Some q) p) last)) (sym o),
        ap (λ (r : Ended). cond last (Some r) None) (sym (same_remains (s.object (s.latest b.0)) (object_in d b.0) same.0 same.2)),
      ))

  pub gone_weakly : calls.GoneWeakly V
  gone_weakly worth n d e l a i vacant b p at is adds =
      let s = calls.state_before_event V adds in
      let v : Event V = event.WeakLeave (on_latest d Weak p b.0) vacant in
      let o = held_latest d e v adds Weak p b.0 is.has in
      by_slot worth s n l a i vacant None (Some v) at
      (subst (λ (x : Option Handle). IsLeaveEvent s x vacant None (Some v)) (sym is.at)
      (ap (λ q. Some (event.WeakLeave (handle Weak (Some q) p) vacant)) (sym o), no_more vacant))
    where
      no_more : (b : Bool) → ◌≡◌ {A = Option Ended} None (cond b None None)
      no_more true = refl
      no_more false = refl
