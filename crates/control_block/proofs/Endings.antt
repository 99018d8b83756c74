-- An object that ends in a desk's hands stays as it is, whatever the others do.
use Rattle.std.proofs.Common.{◌≡◌, ℕ, suc, ◌<◌, true, false, ◌≢◌, List, [], ◌∷◌, ◌++◌, Option, sym}
use Rattle.std.proofs.Common.{refl, ap, ◌∙◌, subst, arith}
use Rattle.control_block.proofs.Prelude
use Prelude.{after, Asks, Cell, ClearMember, common, Compare, cond-false, Count, counted_live}
use Prelude.{ending, Entry, Event, Expired, fills, Finish, Free, gone, handed, Holds, IsLegal}
use Prelude.{IsOpen, Join, leads, Leave, live, Load, Lock, Make, Member, moved_to, Names}
use Prelude.{new_object, NoneBy, NumberedHandle, Object, object_of, Opening, Owner, owner_counted}
use Prelude.{Phase, put, put_cases, put_other, Read, Same, Share, Shelve, Sound, sound, Split}
use Prelude.{State, Swap, unmade, Unshelve, value, valued, Visit, weak_number, WeakLeave}
use Prelude.{WeakShare, written}
use Rattle.control_word.proofs.history.Others.{valued_else}

-- one object for another, but for its number
pub record Alike (x y : Object) : Type 0 where
  pub phase : y.phase ≡ x.phase
  pub enabled : y.enabled ≡ x.enabled
  pub null : y.null ≡ x.null
  pub fields : y.fields ≡ x.fields
  pub block : y.block ≡ x.block
  pub member : (m : ℕ) → y.member m ≡ x.member m

pub alike : (x : Object) → Alike x x
alike x = record { phase = refl; enabled = refl; null = refl; fields = refl; block = refl; member = λ m. refl }

alike_both : (x y w : Object) → Alike x y → Alike y w → Alike x w
alike_both x y w a b =
    record {
      phase = b.phase ∙ a.phase;
      enabled = b.enabled ∙ a.enabled;
      null = b.null ∙ a.null;
      fields = b.fields ∙ a.fields;
      block = b.block
          ∙ a.block;
      member = λ m. b.member m ∙ a.member m;
    }

alike_is : (x y : Object) → y ≡ x → Alike x y
alike_is x y e = subst (λ w. Alike x w) (sym e) (alike x)

-- a handle that goes into a cell moves no object
pub fills_phase : (s : State) (c : Cell) (h : NumberedHandle) (o : ℕ) → ((fills c h s).object o).phase ≡ (s.object o).phase
fills_phase s (Free c) h o = refl
fills_phase s (Member q m) h o =
    put_cases (λ i x. x.phase ≡ (s.object i).phase) s.object q (record (s.object q) { member = put (s.object q).member m h }) o
    (λ e. ap (λ i. (s.object i).phase) (sym e)) (λ n. refl)

pub fills_block : (s : State) (c : Cell) (h : NumberedHandle) (o : ℕ) → ((fills c h s).object o).block ≡ (s.object o).block
fills_block s (Free c) h o = refl
fills_block s (Member q m) h o =
    put_cases (λ i x. x.block ≡ (s.object i).block) s.object q (record (s.object q) { member = put (s.object q).member m h }) o
    (λ e. ap (λ i. (s.object i).block) (sym e)) (λ n. refl)

pub fills_latest : (s : State) (c : Cell) (h : NumberedHandle) → (fills c h s).latest ≡ s.latest
fills_latest s (Free c) h = refl
fills_latest s (Member q m) h = refl

ends_live : (d : ℕ) → ending d ≡ live → ⊥
ends_live d e = cc

pub ends_unmade : (d : ℕ) → ending d ≡ unmade → ⊥
ends_unmade d e = cc

ends_same : (d e : ℕ) → ending d ≡ ending e → d ≡ e
ends_same d e q = cc

handed_other : (other e d : ℕ) (p : Phase) → p ≡ ending d → other ≢ d → handed other e p ≡ p
handed_other other e d p is n =
    subst (λ q. handed other e q ≡ q) (sym is) (ap ending (cond-false _ e d (Rattle.std.proofs.Common.ne_eqb d other (λ q. n (sym q)))))

pub owner_lives : (z : Opening) (s : State) (d : ℕ) (h : NumberedHandle) → Sound z s → Holds s d Owner h → (s.object (object_of h)).phase ≡ live
owner_lives z s d h fine holds =
    counted_live z s (object_of h) fine (owner_counted s d (object_of h) h.place (written s.hands d Owner h holds.0 holds.1 holds.2))

-- what is left of the ending in block b to desk d
pub record Stays (s t : State) (b : ℕ) : Type 0 where
  pub latest : t.latest b ≡ s.latest b
  pub object : Alike (s.object (s.latest b)) (t.object (s.latest b))

module _ (z : Opening) (s : State) (b d : ℕ) (fine : Sound z s) (ends : (s.object (s.latest b)).phase ≡ ending d) where
  pub not_live : (h : NumberedHandle) (c : ℕ) → Holds s c Owner h → s.latest b ≢ object_of h
  not_live h c holds q = ends_live d (sym ends ∙ (ap (λ o. (s.object o).phase) q ∙ owner_lives z s c h fine holds))

  -- a member that is open is that of another object
  pub not_filled : (e q c : ℕ) (x : NumberedHandle) → IsOpen s e (Member q c) → Alike (s.object (s.latest b)) ((fills (Member q c) x s).object (s.latest b))
  not_filled e q c x open' =
      let u = s.object q in
      alike_is _ _ (put_other s.object q (record u { member = put u.member c x }) (s.latest b)
      (λ i. not_live open'.1.0 e open'.1.1 (i ∙ sym open'.1.2)))

  pub ends_busy : 0 < weak_number s (s.latest b)
  ends_busy = let t : common (s.object (s.latest b)).phase ≡ 1 = ap common ends in omega arith

  pub ends_here : (s.object (s.latest b)).block ≡ b
  ends_here = fine.latest_in b (λ q. ends_unmade d (sym ends ∙ (ap (λ o. (s.object o).phase) q ∙ fine.none)))

module _ {V : Type 0} where
  module _ (z : Opening) (s : State) (b d e : ℕ) (fine : Sound z s) (ends : (s.object (s.latest b)).phase ≡ ending d) where
    pub stays_after : (a : Event V) → Asks s e a → e ≢ d → (Names a d → ⊥) → Stays s (after s e a) b
    stays_after (Make c enabled null fields val) asks n m =
        let apart : b ≢ c.0 = λ q. let v = (fine.stores e c.0 asks.0).0 (s.latest b) (ends_here z s b d fine ends ∙ q) in
        let w = ends_busy z s b d fine ends in omega arith in
        record {
          latest = put_other s.latest c.0 (suc s.made) b apart;
          object = alike_is _ _ (put_other s.object (suc s.made) (new_object s.owners c.0 enabled null fields) (s.latest b)
              (λ q. let t = fine.latest_made b in omega arith));
        }
    stays_after (Share h p) asks n m = record { latest = refl; object = alike (s.object (s.latest b)) }
    stays_after (Leave h last) asks n m =
        record { latest = refl; object = alike_is _ _ (put_other s.object (object_of h) _ (s.latest b) (not_live z s b d fine ends h e asks.0)) }
    stays_after (Count h c) asks n m = record { latest = refl; object = alike (s.object (s.latest b)) }
    stays_after (Expired h c) asks n m = record { latest = refl; object = alike (s.object (s.latest b)) }
    stays_after (Read h c) asks n m = record { latest = refl; object = alike (s.object (s.latest b)) }
    stays_after (Same c h so) asks n m = record { latest = refl; object = alike (s.object (s.latest b)) }
    stays_after (WeakShare o p) asks n m = record { latest = refl; object = alike (s.object (s.latest b)) }
    stays_after (WeakLeave h c) asks n m = record { latest = refl; object = alike (s.object (s.latest b)) }
    stays_after (Lock h c) asks n m = record { latest = refl; object = alike (s.object (s.latest b)) }
    stays_after (Load c x) asks n m = record { latest = refl; object = alike (s.object (s.latest b)) }
    stays_after (Swap (Free c) x y) asks n m = record { latest = refl; object = alike (s.object (s.latest b)) }
    stays_after (Swap (Member q c) x y) asks n m = record { latest = refl; object = not_filled z s b d fine ends e q c x asks.0 }
    stays_after (Compare (Free c) g x y true w) asks n m = record { latest = refl; object = alike (s.object (s.latest b)) }
    stays_after (Compare (Member q c) g x y true w) asks n m = record { latest = refl; object = not_filled z s b d fine ends e q c x asks.0 }
    stays_after (Compare c g x y false w) asks n m = record { latest = refl; object = alike (s.object (s.latest b)) }
    stays_after (ClearMember o c h) asks n m =
        record {
          latest = refl;
          object = alike_is _ _ (put_other s.object o _ (s.latest b)
              (λ q. n (ends_same e d (sym asks.0 ∙ (ap (λ (i : ℕ). (s.object i).phase) (sym q) ∙ ends)))));
        }
    stays_after (Finish o c val) asks n m =
        record {
          latest = refl;
          object = alike_is _ _ (put_other s.object o (moved_to gone (s.object o)) (s.latest b)
              (λ q. n (ends_same e d (sym asks.0 ∙ (ap (λ (i : ℕ). (s.object i).phase) (sym q) ∙ ends)))));
        }
    stays_after (Visit h c val) asks n m = record { latest = refl; object = alike (s.object (s.latest b)) }
    stays_after (Split to amount hs bs) asks n m = record { latest = refl; object = alike (s.object (s.latest b)) }
    stays_after (Join other) asks n m =
        record {
          latest = refl;
          object = record {
            phase = handed_other other e d (s.object
                (s.latest b)).phase ends m;
            enabled = refl;
            null = refl;
            fields = refl;
            block = refl;
            member = λ q. refl;
          };
        }
    stays_after (Shelve c) asks n m = record { latest = refl; object = alike (s.object (s.latest b)) }
    stays_after (Unshelve c) asks n m = record { latest = refl; object = alike (s.object (s.latest b)) }

    not_visited : (a : Event V) → Asks s e a → Rattle.control_word.proofs.history.Others.Visits a (s.latest b) → ⊥
    not_visited (Make c enabled null fields val) asks v = v
    not_visited (Share h p) asks v = v
    not_visited (Leave h last) asks v = v
    not_visited (Count h c) asks v = v
    not_visited (Expired h c) asks v = v
    not_visited (Read h c) asks v = v
    not_visited (Same c h so) asks v = v
    not_visited (WeakShare o p) asks v = v
    not_visited (WeakLeave h c) asks v = v
    not_visited (Lock h c) asks v = v
    not_visited (Load c x) asks v = v
    not_visited (Swap c x y) asks v = v
    not_visited (Compare c g x y r w) asks v = v
    not_visited (ClearMember o c h) asks v = v
    not_visited (Finish o c val) asks v = v
    not_visited (Visit h c val) asks v = not_live z s b d fine ends h e asks (sym v)
    not_visited (Split to amount hs bs) asks v = v
    not_visited (Join other) asks v = v
    not_visited (Shelve c) asks v = v
    not_visited (Unshelve c) asks v = v

    pub value_after : (a : Event V) (f : ℕ → Option V) → Asks s e a → valued s a f (s.latest b) ≡ f (s.latest b)
    value_after a f asks = valued_else s a f (s.latest b) (fine.latest_made b) (not_visited a asks)

  -- and so over all that others did
  pub record StillEnds (z : Opening) (later seen : List (Entry V)) (b d : ℕ) : Type 0 where
    pub latest : (leads z (later ++ seen)).latest b ≡ (leads z seen).latest b
    pub object : Alike ((leads z seen).object ((leads z seen).latest b)) ((leads z (later ++ seen)).object ((leads z seen).latest b))
    pub value : value z (later ++ seen) ((leads z seen).latest b) ≡ value z seen ((leads z seen).latest b)

  pub still_ends : (z : Opening) (later seen : List (Entry V)) (b d : ℕ) → IsLegal z (later ++ seen) → NoneBy d later
      → ((leads z seen).object ((leads z seen).latest b)).phase ≡ ending d → StillEnds z later seen b d
  still_ends z [] seen b d legal none ends = record { latest = refl; object = alike _; value = refl }
  still_ends z (e ∷ later) seen b d legal none ends =
      let t = still_ends z later seen b d legal.0 none.2 ends in let s = leads z (later ++ seen) in let s₀ = leads z seen in
      let fine = sound z (later ++ seen) legal.0 in
      let now : (s.object (s.latest b)).phase ≡ ending d = ap (λ o. (s.object o).phase) t.latest ∙ (t.object.phase ∙ ends) in
      let a = stays_after z s b d e.desk fine now e.event legal.1.asks none.0 none.1 in
      record {
        latest = a.latest ∙ t.latest;
        object = alike_both _ (s.object (s₀.latest b)) _ t.object (subst
            (λ o. Alike (s.object o) ((after s e.desk e.event).object o)) t.latest a.object);
        value = subst (λ o. valued s e.event (value z (later ++ seen)) o ≡ value z (later ++ seen) o) t.latest
            (value_after z s b d e.desk fine now e.event (value z (later ++ seen)) legal.1.asks) ∙ t.value;
      }
