-- Calls on a structure go on by one node.
use Rattle.std.proofs.Common.{◌≡◌, ◌⊎◌, refl, sym, subst, inl, inr}
use Rattle.std.proofs.lemmas.List.Elements.{All-nil, All-push}
use Rattle.std.specs.Prelude.{All, Bool, true, false, IfOk, IfSome, IsTrue, List, [], ◌∷◌, ◌++◌, IsSomeAnd}
use Rattle.std.specs.Prelude.{Option, None, Some, Result, Ok, Err, OnOk}
use Rattle.control_word.specs.declared.model.handle.Kind.TheVariants.{Owner, Weak}
use Rattle.control_block.specs.Desks.{DeskNow}
use Rattle.pointers.proofs.ListSteps.{passes_on, place_passed, refused_at, refused_first, swaps_of}
use Rattle.pointers.specs.Compares.{ComparedAt}
use Rattle.pointers.specs.Faults.{WhyNoMore}
use Rattle.pointers.specs.Known.{owned}
use Rattle.pointers.specs.ListChanges.{Comes, Follows, IsPlaceOf, IsRefusedAt, Passes, Swaps}
use Rattle.pointers.specs.ListRemovals.{IsOther}
use Rattle.pointers.specs.Lists.{Leads, behind, next_of}
use Rattle.pointers.specs.Places.{WhyNotDoneAt, cell_at}
use Rattle.pointers.specs.SiteCalls.{Stored}
use Rattle.pointers.specs.Sites.{Site, member_site, owner_of}
use Rattle.pointers.specs.declared.fault.Fault.{Fault}
use Rattle.pointers.specs.declared.fault.call.Call.{Call}
use Rattle.pointers.specs.declared.fault.call.Call.TheVariants.{Share}
use Rattle.pointers.specs.declared.known.Known.{Known}
use Rattle.pointer_structures.specs.Refusals.{IsUpRefused}
use Rattle.pointer_structures.specs.Stacks.{GoesFirst, Pops, WhyNotPushed}
use Rattle.pointer_structures.specs.Trees.{Detaches, LeavesChildren, HasParent, IsChildRefused, IsNoChild, Unlinks, first_of}
use Rattle.pointer_structures.specs.Watches.{ComesUp}

module _ {V : Type 0} (o : DeskNow V) where
  -- what was expected by a compare that swapped
  pub kept_of : (s : Site V) (weak : Bool) (hoped new hoped' new' : Option (Known V)) (r : Result Bool Fault)
      → IfOk r (λ (b : Bool). ComparedAt o (owner_of s) (cell_at o Owner s) Owner weak hoped new b hoped' new')
      → IfOk r (λ (b : Bool). IsTrue b → hoped' ≡ hoped)
  kept_of s weak hoped new hoped' new' (Ok true) is = λ did. is.1
  kept_of s weak hoped new hoped' new' (Ok false) is = λ did. absurd (cc did)
  kept_of s weak hoped new hoped' new' (Err why) is = tt

  pub goes_first : (s : Site V) (node : Known V) (new first : Option (Known V)) (done : Bool) → new ≡ Some node
      → IfSome new (λ (n : Known V). Follows o n first) → (IsTrue done → Swaps o s first new) → done ≡ true
      → GoesFirst o s node
  goes_first s node new first done is follows swaps did = record {
    first = first;
    follows = subst (λ (n : Option (Known V)). IfSome n (λ (n : Known V). Follows o n first)) is follows;
    comes = subst (Swaps o s first) is (swaps did);
  }

  -- a call on the `next` of the node, or for an owner more of the first one, was refused
  pub follow_refused : (s : Site V) (node : Known V) (new first : Option (Known V)) (why : Fault) → new ≡ Some node
      → Leads o s first
      → IsSomeAnd new (λ (n : Known V). IsRefusedAt o (next_of n) why)
      ⊎ IsSomeAnd first (λ (f : Known V). WhyNoMore o (Some f) Share why) → WhyNotPushed o s node why
  follow_refused s node new first why is leads (inl not) =
      inl (subst (λ (n : Option (Known V)). IsSomeAnd n (λ (m : Known V). IsRefusedAt o (next_of m) why)) is not)
  follow_refused s node new None why is leads (inr not) = absurd not
  follow_refused s node new (Some f) why is leads (inr not) =
      inr (refused_first o (λ d w. ⊥) s (Some f) f why leads refl (inr not))

  pub takes_top : (s : Site V) (top kept below : Option (Known V)) (node : Known V) (done : Bool) → Leads o s top
      → top ≡ Some node → kept ≡ Some node → Leads o (next_of node) below → (IsTrue done → Swaps o s (Some node) below)
      → done ≡ true → Pops o s kept
  takes_top s top kept below node done leads some is next swaps did = subst (Pops o s) (sym is) (record {
    leads = subst (Leads o s) some leads;
    below = below;
    next = next;
    out = swaps did;
  })

  pub child_first : (s : Site V) (parent child : Known V) → s ≡ first_of parent → GoesFirst o s child
      → GoesFirst o (first_of parent) child
  child_first s parent child same goes = subst (λ (y : Site V). GoesFirst o y child) same goes

  pub child_refused : (s : Site V) (parent child : Known V) (why : Fault) → s ≡ first_of parent
      → WhyNotPushed o s child why → WhyNotPushed o (first_of parent) child why
  child_refused s parent child why same not = subst (λ (y : Site V). WhyNotPushed o y child why) same not

  -- a compare on a member of a node, that put there what another one's `next` owned
  pub unlinks : (s at : Site V) (child node : Known V) (rest hoped new : Option (Known V)) (r : Result Bool Fault)
      → s ≡ at → Leads o (next_of node) rest
      → IfOk r (λ (b : Bool). ComparedAt o (owner_of at) (cell_at o Owner at) Owner false (Some child) rest b hoped new)
      → IfOk r (λ (b : Bool). IsTrue b → Unlinks o s child node)
  unlinks s at child node rest hoped new (Err why) here leads is = tt
  unlinks s at child node rest hoped new (Ok b) here leads is = λ did.
      let swaps : Swaps o at (Some child) rest = swaps_of o at false (Some child) rest hoped new (Ok b) is did in
      (rest, leads, subst (λ (y : Site V). Swaps o y (Some child) rest) (sym here) swaps)

  -- a refused call on a member of a node
  pub refused_in : (s at : Site V) (call : Call) (why : Fault) → s ≡ at → WhyNotDoneAt o Owner at call why → IsRefusedAt o s why
  refused_in s at call why here not = subst (λ (y : Site V). IsRefusedAt o y why) (sym here) (call, not)

  -- the children up to the one that was passed last, none of which is the node
  pub record Passed (parent node : Known V) (before : Option (Known V)) : Type 0 where
    pub children : List (Known V)
    pub passes : Passes o (first_of parent) children (behind before (first_of parent))
    pub others : All (IsOther node) children

  pub passed_none : (parent node : Known V) → Passed parent node None
  passed_none parent node = record { children = []; passes = refl; others = All-nil (IsOther node) }

  passed_place : (parent node : Known V) (before : Option (Known V)) → Passed parent node before
      → IsPlaceOf o (first_of parent) (behind before (first_of parent))
  passed_place parent node before passed =
      place_passed o (first_of parent) (behind before (first_of parent)) passed.children passed.passes

  pub passed_on : (parent node : Known V) (before got : Option (Known V)) (c : Known V) → Passed parent node before
      → Leads o (behind before (first_of parent)) got → got ≡ Some c → (¬ (owned c ≡ owned node))
      → Passed parent node (Some c)
  passed_on parent node before got c passed leads some not = record {
    children = passed.children ++ (c ∷ []);
    passes = passes_on o (first_of parent) (behind before (first_of parent)) passed.children c passed.passes
        (subst (Leads o (behind before (first_of parent))) some leads);
    others = All-push (IsOther node) passed.children c passed.others not;
  }

  pub passed_ends : (parent node : Known V) (before got : Option (Known V)) → Passed parent node before
      → Leads o (behind before (first_of parent)) got → got ≡ None → IsNoChild o parent node
  passed_ends parent node before got passed leads none = record {
    children = passed.children;
    at = behind before (first_of parent);
    passes = passed.passes;
    ends = subst (Leads o (behind before (first_of parent))) none leads;
    others = passed.others;
  }

  -- the node is out, where it was unlinked behind those that were passed
  pub passed_out : (parent node child : Known V) (before : Option (Known V)) (r : Result Bool Fault)
      → Passed parent node before → owned child ≡ owned node
      → IfOk r (λ (b : Bool). IsTrue b → Unlinks o (behind before (first_of parent)) child node)
      → IfOk r (λ (b : Bool). IsTrue b → LeavesChildren o parent node ⊎ IsNoChild o parent node)
  passed_out parent node child before (Err why) passed same is = tt
  passed_out parent node child before (Ok b) passed same is = λ did. inl (record {
    at = behind before (first_of parent);
    place = passed_place parent node before passed;
    held = child;
    same = same;
    out = is did;
  })

  pub passed_refused : (parent node : Known V) (before : Option (Known V)) (why : Fault) → Passed parent node before
      → IsRefusedAt o (behind before (first_of parent)) why → IsChildRefused o parent node why
  passed_refused parent node before why passed not =
      inr (refused_at o (λ d w. ⊥) (first_of parent) (behind before (first_of parent)) why
      (passed_place parent node before passed) not)

  pub unlink_refused : (parent node : Known V) (before : Option (Known V)) (why : Fault) → Passed parent node before
      → IsRefusedAt o (next_of node) why ⊎ IsRefusedAt o (behind before (first_of parent)) why
      → IsChildRefused o parent node why
  unlink_refused parent node before why passed (inl not) = inl not
  unlink_refused parent node before why passed (inr not) = passed_refused parent node before why passed not

  -- a pointer came into `up` of a node, or none
  pub comes_up : (node : Known V) (at : Site V) (up : Option (Known V)) → at ≡ member_site node 0 → Stored o Weak at up
      → ComesUp o node up
  comes_up node at up there is = subst (λ (y : Site V). Stored o Weak y up) there is

  pub up_refused : (node : Known V) (at : Site V) (call : Call) (why : Fault) → at ≡ member_site node 0
      → WhyNotDoneAt o Weak at call why → IsUpRefused o node why
  up_refused node at call why there not = (call, subst (λ (y : Site V). WhyNotDoneAt o Weak y call why) there not)

  pub leaves : {A : Type 0} (node parent : Known V) (up : Option (Known V)) (at : Site V) (r : Result A Fault) → HasParent o node up
      → up ≡ Some parent → LeavesChildren o parent node ⊎ IsNoChild o parent node → Comes o (next_of node) None
      → at ≡ member_site node 0 → OnOk r (Stored o Weak at None) → OnOk r (Detaches o node)
  leaves node parent up at (Err why) has some out next there is = tt
  leaves node parent up at (Ok done) has some out next there is = inl (record {
    parent = parent;
    has = subst (HasParent o node) some has;
    out = out;
    next = next;
    up = comes_up node at None there is;
  })
