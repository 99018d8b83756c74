-- Ways down a vector.
use Rattle.std.proofs.Common.{◌≡◌, ◌<◌, ◌≤◌, ◌-◌, ◌/◌, ◌%◌, ◌^◌, ℕ, suc, zero, refl, inl, inr, arith, subst}
use Rattle.std.proofs.Common.{Option, None, Some, Result, Ok, Err, IfOk}
use Rattle.control_word.specs.declared.model.handle.Kind.TheVariants.{Owner}
use Rattle.control_block.specs.Desks.{DeskNow}
use Rattle.pointers.specs.SiteCalls.{Loaded}
use Rattle.pointers.specs.Sites.{Site, member_site}
use Rattle.pointers.specs.declared.fault.Fault.{Fault}
use Rattle.pointers.specs.declared.known.Known.{Known}
use Rattle.shared_vec.proofs.Numbers.{one_leaf}
use Rattle.shared_vec.specs.Vectors.{Descends, IsLeaf, IsLevel, LeadsTo, member_at, number_at}

module _ {V : Type 0} (o : DeskNow V) where
  -- what a load of a node's member gave, by the index's number
  pub loaded_at : (i l m : ℕ) (node : Known V) (at : Site V) (found got : Option (Known V)) → m ≡ number_at i l
      → at ≡ member_site node m → Loaded o Owner at found → found ≡ got → Loaded o Owner (member_at i l node) got
  loaded_at i l m node at found got number there loads is =
      subst (λ (y : ℕ). Loaded o Owner (member_site node y) got) number
      (subst (λ (y : Site V). Loaded o Owner y got) there (subst (λ (y : Option (Known V)). Loaded o Owner at y) is loads))

  -- a step down
  pub descends_on : (i l : ℕ) (node : Known V) (below leaf : Option (Known V)) → 0 < l
      → Loaded o Owner (member_at i l node) below → Descends o i (l - 1) below leaf → Descends o i l (Some node) leaf
  descends_on i zero node below leaf over loads rest = absurd (omega (arith, over))
  descends_on i (suc l) node below leaf over loads rest =
      let same : suc l - 1 ≡ l = omega arith in
      (below, loads, subst (λ (y : ℕ). Descends o i y below leaf) same rest)

  -- from a node at level n one came down to this one at level l
  pub record Way (i n : ℕ) (top : Known V) (l : ℕ) (node : Known V) : Type 0 where
    pub most : l ≤ 21
    pub way : (leaf : Option (Known V)) → Descends o i l (Some node) leaf → Descends o i n (Some top) leaf

  pub way_begins : (i n : ℕ) (top : Known V) → n ≤ 21 → Way i n top n top
  way_begins i n top most = record { most = most; way = λ leaf d. d }

  pub way_on : (i n : ℕ) (top : Known V) (l : ℕ) (node below : Known V) → Way i n top l node → 0 < l
      → Loaded o Owner (member_at i l node) (Some below) → Way i n top (l - 1) below
  way_on i n top l node below w over loads = record {
    most = let most = w.most in omega (arith, most);
    way = λ leaf d. w.way leaf (descends_on i l node (Some below) leaf over loads d);
  }

  none_below : (i l : ℕ) → Descends o i l None None
  none_below i zero = refl
  none_below i (suc l) = refl

  pub way_stops : (i n : ℕ) (top : Known V) (l : ℕ) (node : Known V) → Way i n top l node → 0 < l
      → Loaded o Owner (member_at i l node) None → Descends o i n (Some top) None
  way_stops i n top l node w over loads = w.way None (descends_on i l node None None over loads (none_below i (l - 1)))

  pub way_ends : (i n : ℕ) (top : Known V) (l : ℕ) (node : Known V) → Way i n top l node → l ≤ 0
      → Descends o i n (Some top) (Some node)
  way_ends i n top zero node w over = w.way (Some node) refl
  way_ends i n top (suc l) node w over = absurd (omega (arith, over))

  -- a leaf below the root of a place
  pub leads : (s : Site V) (i l : ℕ) (root : Known V) (r : Result (Option (Known V)) Fault) → Loaded o Owner s (Some root)
      → IsLevel o root l → i / 8 ^ l < 8 → IfOk r (Descends o i l (Some root)) → IfOk r (IsLeaf o s i)
  leads s i l root (Ok leaf) loads level under d = (Some root, loads, (l, level, inr (under, d)))
  leads s i l root (Err why) loads level under d = tt

  pub leads_beyond : (s : Site V) (i l : ℕ) (root : Known V) → Loaded o Owner s (Some root) → IsLevel o root l
      → 8 ≤ i / 8 ^ l → IsLeaf o s i None
  leads_beyond s i l root loads level over = (Some root, loads, (l, level, inl (over, refl)))

  pub leads_new : (s : Site V) (i l : ℕ) (root : Known V) (r : Result (Known V) Fault) → Loaded o Owner s (Some root)
      → IsLevel o root l → i / 8 ^ l < 8 → IfOk r (λ leaf. Descends o i l (Some root) (Some leaf))
      → IfOk r (λ leaf. IsLeaf o s i (Some leaf))
  leads_new s i l root (Ok leaf) loads level under d = (Some root, loads, (l, level, inr (under, d)))
  leads_new s i l root (Err why) loads level under d = tt

  -- indexes of one leaf have one way
  same_way : (i j : ℕ) → i / 8 ≡ j / 8 → (l : ℕ) (node leaf : Option (Known V)) → Descends o i l node leaf
      → Descends o j l node leaf
  same_way i j same zero None leaf d = d
  same_way i j same (suc l) None leaf d = d
  same_way i j same zero (Some node) leaf d = d
  same_way i j same (suc l) (Some node) leaf (below, loads, d) = (
    below,
    subst (λ (x : ℕ). Loaded o Owner (member_site node (x % 8)) below) (one_leaf i j l same) loads,
    same_way i j same l below leaf d,
  )

  same_lead : (i j : ℕ) → i / 8 ≡ j / 8 → (l : ℕ) (root : Known V) (leaf : Option (Known V)) → LeadsTo o i l root leaf
      → LeadsTo o j l root leaf
  same_lead i j same zero root leaf (inl (over, none)) = inl (omega (arith, same, over), none)
  same_lead i j same zero root leaf (inr (under, d)) = inr (omega (arith, same, under), d)
  same_lead i j same (suc l) root leaf (inl (over, none)) =
      inl (subst (λ (x : ℕ). 8 ≤ x) (one_leaf i j l same) over, none)
  same_lead i j same (suc l) root leaf (inr (under, d)) =
      inr (subst (λ (x : ℕ). x < 8) (one_leaf i j l same) under, same_way i j same (suc l) (Some root) leaf d)

  pub same_leaf : (s : Site V) (i j : ℕ) (leaf : Option (Known V)) → i / 8 ≡ j / 8 → IsLeaf o s i leaf → IsLeaf o s j leaf
  same_leaf s i j leaf same (None, loads, is) = (None, loads, is)
  same_leaf s i j leaf same (Some root, loads, (l, level, lead)) =
      (Some root, loads, (l, level, same_lead i j same l root leaf lead))
