-- A node goes out of a list, and the search for it goes on by one.
use Rattle.std.proofs.Common.{◌≡◌, ◌↔◌, refl, subst, inl, inr}
use Rattle.std.specs.Prelude.{List, [], ◌∷◌, ◌++◌, All, Bool, true, false, IfSome, IsTrue, Option, None, Some}
use Rattle.std.proofs.lemmas.List.Elements.{All-nil, All-push}
use Rattle.pointers.proofs.Prelude.{DeskNow, Known, owned}
use Rattle.pointers.proofs.ListSteps.{passes_on}
use Rattle.pointers.proofs.Walks.{walks_on}
use Rattle.pointers.specs.ListChanges.{Comes, IsPlaceOf, Passes, Swaps, Tells}
use Rattle.pointers.specs.ListRemovals.{Differs, GoesOut, HasNot, IsFound, IsMissing, IsNotBehind, IsOther}
use Rattle.pointers.specs.ListRemovals.{IsThatNode, TakesOut}
use Rattle.pointers.specs.Lists.{Leads, Walks, behind, next_of}
use Rattle.pointers.specs.Sites.{Site}

module _ {V : Type 0} (o : DeskNow V) where
  -- a node went out of a place by a swap, or by a store
  pub goes_out_by_swap : (s at : Site V) (node held : Known V) (rest : Option (Known V)) → IsPlaceOf o s at
      → owned held ≡ owned node → Leads o (next_of node) rest → Swaps o at (Some held) rest → GoesOut o s node
  goes_out_by_swap s at node held rest place same next swaps =
      record { at = at; place = place; held = held; same = same; rest = rest; next = next; out = inl swaps }

  pub goes_out_by_store : (s at : Site V) (node : Known V) (got rest : Option (Known V)) → IsPlaceOf o s at
      → IsThatNode got node → Leads o at got → Leads o (next_of node) rest → Comes o at rest → GoesOut o s node
  goes_out_by_store s at node None rest place is leads next comes = absurd is
  goes_out_by_store s at node (Some held) rest place is leads next comes = record {
    at = at;
    place = place;
    held = held;
    same = is;
    rest = rest;
    next = next;
    out = inr (leads, comes);
  }

  pub is_not_that : (is : Bool) (got : Option (Known V)) (node : Known V) → IsTrue is ↔ IsThatNode got node → is ≡ false
      → IfSome got (IsOther node)
  is_not_that is None node if not = tt
  is_not_that is (Some c) node if not = λ same. let yes : is ≡ true = if.1 same in absurd (cc (yes, not))

  -- from the node that was found on, those up to this one are others than the node
  abbrev pub Seeks : Known V → Option (Known V) → Option (Known V) → Type 0
  Seeks node None None = Unit {0}
  Seeks node None (Some b) = ⊥
  Seeks node (Some c) None = IsNotBehind o node c
  Seeks node (Some c) (Some b) =
      (cs : List (Known V)) × Passes o (next_of c) cs (next_of b) × All (IsOther node) cs

  pub seeks_from : (node : Known V) (from : Option (Known V)) → Seeks node from from
  seeks_from node None = tt
  seeks_from node (Some c) = ([], refl, All-nil (IsOther node))

  pub seeks_on : (node : Known V) (from : Option (Known V)) (b : Known V) (got : Option (Known V))
      → Seeks node from (Some b) → Leads o (next_of b) got → IfSome got (IsOther node) → Seeks node from got
  seeks_on node None b got seeks leads not = absurd seeks
  seeks_on node (Some c) b None (cs, walk, others) leads not = (cs, next_of b, walk, leads, others)
  seeks_on node (Some c) b (Some d) (cs, walk, others) leads not =
      (cs ++ (d ∷ []), passes_on o (next_of c) (next_of b) cs d walk leads, All-push (IsOther node) cs d others not)

  pub seeks_place : (s : Site V) (node : Known V) (from : Option (Known V)) (b : Known V) → Tells o s from
      → Seeks node from (Some b) → IsPlaceOf o s (next_of b)
  seeks_place s node None b told seeks = absurd seeks
  seeks_place s node (Some c) b told (cs, walk, others) = inr (c, told, (cs, walk))

  pub seeks_ends : (s : Site V) (node : Known V) (from : Option (Known V)) → Tells o s from → Seeks node from None
      → IsMissing o s node
  seeks_ends s node None told seeks = (None, told, tt)
  seeks_ends s node (Some c) told seeks = (Some c, told, seeks)

module _ {V E : Type 0} (o : DeskNow V) (Copied : Known V → Option E → Type 0) where
  walked : (s t : Site V) (xs : List (Option E)) → Walks o Copied s xs t → (cs : List (Known V)) × Passes o s cs t
  walked s t [] same = ([], same)
  walked s t (x ∷ xs) (c, leads, copied, walk) =
      let rest = walked (next_of c) t xs walk in (c ∷ rest.0, (leads, rest.1))

  pub place_walked : (s t : Site V) (xs : List (Option E)) → Walks o Copied s xs t → IsPlaceOf o s t
  place_walked s t [] same = inl same
  place_walked s t (x ∷ xs) (c, leads, copied, walk) = inr (c, inl leads, walked (next_of c) t xs walk)

module _ {V E : Type 0} (o : DeskNow V) (Copied : Known V → Option E → Type 0) (Same : E → E → Type 0) where
  -- none of the elements up to the node that was passed last is the same as that
  pub record Searched (s : Site V) (e : E) (before : Option (Known V)) : Type 0 where
    pub elements : List (Option E)
    pub walk : Walks o Copied s elements (behind before s)
    pub others : All (Differs Same e) elements

  pub searched_none : (s : Site V) (e : E) → Searched s e None
  searched_none s e = record { elements = []; walk = refl; others = All-nil (Differs Same e) }

  pub searched_place : (s : Site V) (e : E) (b : Option (Known V)) → Searched s e b → IsPlaceOf o s (behind b s)
  searched_place s e b searched = place_walked o Copied s (behind b s) searched.elements searched.walk

  pub searched_on : (s : Site V) (e : E) (b r : Option (Known V)) (c : Known V) (found : Bool) → Searched s e b
      → Leads o (behind b s) r → r ≡ Some c → IsFound Copied Same c e found → found ≡ false → Searched s e (Some c)
  searched_on s e b r c true searched leads some found is = absurd (cc is)
  searched_on s e b r c false searched leads some (x, copied, differs) is = record {
    elements = searched.elements ++ (x ∷ []);
    walk = walks_on o Copied s (behind b s) searched.elements x c searched.walk
        (subst (λ (y : Option (Known V)). Leads o (behind b s) y) some leads) copied;
    others = All-push (Differs Same e) searched.elements x searched.others differs;
  }

  pub searched_ends : (s : Site V) (e : E) (b r : Option (Known V)) → Searched s e b → Leads o (behind b s) r → r ≡ None
      → HasNot o Copied Same s e
  searched_ends s e b r searched leads none = record {
    elements = searched.elements;
    at = behind b s;
    walk = searched.walk;
    ends = subst (λ (y : Option (Known V)). Leads o (behind b s) y) none leads;
    others = searched.others;
  }

  pub searched_finds : (s : Site V) (e : E) (b r : Option (Known V)) (c : Known V) (found : Bool) → Searched s e b
      → Leads o (behind b s) r → r ≡ Some c → IsFound Copied Same c e found → found ≡ true → GoesOut o s c
      → TakesOut o Copied Same s e
  searched_finds s e b r c false searched leads some found is out = absurd (cc is)
  searched_finds s e b r c true searched leads some found is out = record {
    before = searched.elements;
    at = behind b s;
    walk = searched.walk;
    others = searched.others;
    node = c;
    leads = subst (λ (y : Option (Known V)). Leads o (behind b s) y) some leads;
    found = found;
    out = out;
  }
