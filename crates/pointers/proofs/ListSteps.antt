-- Calls that change a list go on by one node.
use Rattle.std.proofs.Common.{◌≡◌, ◌⊎◌, refl, sym, subst, ap, inl, inr, ◌∙◌, arith}
use Rattle.std.specs.Prelude.{IfErr, IfOk, IfSome, IsFalse, IsSomeAnd, IsTrue, OnOk, ℕ, ◌+◌, Bool, true, false, min}
use Rattle.std.specs.Prelude.{List, [], ◌∷◌, ◌++◌, Option, None, Some, is_some, Result, Ok, Err}
use Rattle.pointers.proofs.Prelude.{DeskNow, Fault, Known, Owner}
use Rattle.pointers.proofs.Walks.{walks_on}
use Rattle.pointers.specs.Compares.{ComparedAt}
use Rattle.pointers.specs.Faults.{WhyNoMore}
use Rattle.pointers.specs.ListChanges.{Appends, Comes, Follows, Heads, IsLast, IsListRefused, IsNode}
use Rattle.pointers.specs.ListChanges.{IsNodeRefused, IsPlaceOf, IsRefusedAt, Passes, Pops, Swaps}
use Rattle.pointers.specs.ListChanges.{Tells, WhyNotPushed}
use Rattle.pointers.specs.Lists.{IsBrokenOff, Leads, Walks, WhyNotLed, behind, next_of}
use Rattle.pointers.specs.Places.{cell_at}
use Rattle.pointers.specs.Sites.{Site, owner_of}
use Rattle.pointers.specs.Lists.{somes}
use Rattle.pointers.specs.Objects.{MakesPlain}
use Rattle.pointers.specs.declared.fault.call.Call.TheVariants.{Share}

-- a result that is this fault
pub fault_is : {A : Type 0} (P : Fault → Type 0) (r : Result A Fault) (why : Fault) → P why → r ≡ Err why → IfErr r P
fault_is P r why is same = subst (λ x. IfErr x P) (sym same) is

-- what is so where a result is one, and what follows of that
pub on_ok : {A : Type 0} (r : Result A Fault) (P Q : Type 0) → (P → Q) → OnOk r P → OnOk r Q
on_ok (Ok a) P Q then is = then is
on_ok (Err why) P Q then is = tt

module _ {V : Type 0} (o : DeskNow V) where
  pub passes_on : (s t : Site V) (cs : List (Known V)) (c : Known V) → Passes o s cs t → Leads o t (Some c)
      → Passes o s (cs ++ (c ∷ [])) (next_of c)
  passes_on s t [] c same leads = (subst (λ (y : Site V). Leads o y (Some c)) (sym same) leads, refl)
  passes_on s t (d ∷ cs) c (first, walk) leads = (first, passes_on (next_of d) t cs c walk leads)

  -- the nodes up to the one that was passed last
  pub record Passed (s : Site V) (before : Option (Known V)) : Type 0 where
    pub nodes : List (Known V)
    pub walk : Passes o s nodes (behind before s)

  pub passed_none : (s : Site V) → Passed s None
  passed_none s = record { nodes = []; walk = refl }

  pub passed_on : (s : Site V) (b r : Option (Known V)) (c : Known V) → Passed s b → Leads o (behind b s) r → r ≡ Some c
      → Passed s (Some c)
  passed_on s b r c passed leads some = record {
    nodes = passed.nodes ++ (c ∷ []);
    walk = passes_on s (behind b s) passed.nodes c passed.walk
        (subst (λ (y : Option (Known V)). Leads o (behind b s) y) some leads);
  }

  pub passed_ends : (s : Site V) (b r : Option (Known V)) → Passed s b → Leads o (behind b s) r → r ≡ None → IsLast o s b
  passed_ends s b r passed leads none = (
    passed.nodes,
    passed.walk,
    subst (λ (y : Option (Known V)). Leads o (behind b s) y) none leads,
  )

module _ {V : Type 0} (o : DeskNow V) where
  pub place_on : (s t : Site V) (r : Option (Known V)) (c : Known V) → IsPlaceOf o s t → Leads o t r → r ≡ Some c
      → IsPlaceOf o s (next_of c)
  place_on s t r c (inl same) leads some =
      let here : Leads o t (Some c) = subst (Leads o t) some leads in
      inr (c, inl (subst (λ (y : Site V). Leads o y (Some c)) (sym same) here), ([], refl))
  place_on s t r c (inr (d, told, (cs, walk))) leads some =
      inr (d, told, (cs ++ (c ∷ []), passes_on o (next_of d) t cs c walk (subst (Leads o t) some leads)))

  pub place_passed : (s t : Site V) (cs : List (Known V)) → Passes o s cs t → IsPlaceOf o s t
  place_passed s t [] same = inl same
  place_passed s t (c ∷ cs) (leads, walk) = inr (c, inl leads, (cs, walk))

module _ {V : Type 0} (o : DeskNow V) (Refused : Known V → Fault → Type 0) where
  -- what a refused call on a place or a node is of the list
  pub refused_at : (s t : Site V) (why : Fault) → IsPlaceOf o s t → IsRefusedAt o t why → IsListRefused o Refused s why
  refused_at s t why place not = (t, place, inl not)

  pub refused_node : (s t : Site V) (r : Option (Known V)) (c : Known V) (why : Fault) → IsPlaceOf o s t → Leads o t r
      → r ≡ Some c → IsNodeRefused o Refused c why → IsListRefused o Refused s why
  refused_node s t r c why place leads some not = (t, place, inr (c, subst (Leads o t) some leads, not))

  pub refused_here : (s : Site V) (why : Fault) → IsRefusedAt o s why → IsListRefused o Refused s why
  refused_here s why not = refused_at s s why (inl refl) not

  pub refused_behind : (s : Site V) (before : Option (Known V)) (why : Fault) → Passed o s before
      → WhyNotLed o (behind before s) why → IsListRefused o Refused s why
  refused_behind s before why passed not =
      refused_at s (behind before s) why (place_passed o s (behind before s) passed.nodes passed.walk) (_, not)

  pub refused_first : (s : Site V) (r : Option (Known V)) (c : Known V) (why : Fault) → Leads o s r → r ≡ Some c
      → IsNodeRefused o Refused c why → IsListRefused o Refused s why
  refused_first s r c why leads some not = refused_node s s r c why (inl refl) leads some not

  pub refused_second : (s : Site V) (r : Option (Known V)) (c : Known V) (why : Fault) → Leads o s r → r ≡ Some c
      → IsRefusedAt o (next_of c) why → IsListRefused o Refused s why
  refused_second s r c why leads some not = refused_at s (next_of c) why (place_on o s s r c (inl refl) leads some) not

  pub refused_last : (s : Site V) (got : Option (Known V)) (last : Known V) (why : Fault) → IsLast o s got
      → got ≡ Some last → IsRefusedAt o (next_of last) why → IsListRefused o Refused s why
  refused_last s got last why (cs, walk, ends) some not =
      let here : Passes o s cs (next_of last) = subst (λ (y : Option (Known V)). Passes o s cs (behind y s)) some walk in
      refused_at s (next_of last) why (place_passed o s (next_of last) cs here) not

  -- what a refused call on a new node or on the first one is of a push
  pub refused_follow : (s : Site V) (x : V) (c : Known V) (new first : Option (Known V)) (why : Fault)
      → MakesPlain o x c → new ≡ Some c → Leads o s first
      → IsSomeAnd new (λ (n : Known V). IsRefusedAt o (next_of n) why)
      ⊎ IsSomeAnd first (λ (f : Known V). WhyNoMore o (Some f) Share why) → WhyNotPushed o Refused s x why
  refused_follow s x c new first why made is leads (inl not) = inl (inr (
    c,
    made,
    inr (subst (λ (n : Option (Known V)). IsSomeAnd n (λ (m : Known V). IsRefusedAt o (next_of m) why)) is not),
  ))
  refused_follow s x c new None why made is leads (inr not) = absurd not
  refused_follow s x c new (Some f) why made is leads (inr not) = inr (refused_first s (Some f) f why leads refl (inr not))

module _ {V E : Type 0} (o : DeskNow V) (GoesIn : Known V → E → Type 0) where
  pub appends_behind : (s : Site V) (e : E) (x : V) (c : Known V) (new got : Option (Known V)) (last : Known V) → IsNode o GoesIn e x c
      → new ≡ Some c → IsLast o s got → got ≡ Some last → Comes o (next_of last) new → Appends o GoesIn s e x
  appends_behind s e x c new got last made is (cs, walk, ends) some comes = record {
    node = c;
    made = made;
    before = cs;
    at = next_of last;
    walk = subst (λ (y : Option (Known V)). Passes o s cs (behind y s)) some walk;
    last = subst (λ (y : Option (Known V)). Leads o (behind y s) None) some ends;
    comes = inl (subst (Comes o (next_of last)) is comes);
  }

  pub appends_first : (s : Site V) (e : E) (x : V) (c : Known V) (new got : Option (Known V)) → IsNode o GoesIn e x c
      → new ≡ Some c → IsLast o s got → got ≡ None → Swaps o s None new → Appends o GoesIn s e x
  appends_first s e x c new got made is (cs, walk, ends) none swaps = record {
    node = c;
    made = made;
    before = cs;
    at = s;
    walk = subst (λ (y : Option (Known V)). Passes o s cs (behind y s)) none walk;
    last = subst (λ (y : Option (Known V)). Leads o (behind y s) None) none ends;
    comes = inr (subst (Swaps o s None) is swaps);
  }

  -- a new node came first, before what the place held
  pub heads : (s : Site V) (e : E) (x : V) (c : Known V) (new first : Option (Known V)) (done : Bool) → IsNode o GoesIn e x c → new ≡ Some c
      → IfSome new (λ (n : Known V). Follows o n first) → (IsTrue done → Swaps o s first new) → done ≡ true → Heads o GoesIn s e x
  heads s e x c new first done made is follows swaps did = record {
    node = c;
    made = made;
    first = first;
    follows = subst (λ (n : Option (Known V)). IfSome n (λ (n : Known V). Follows o n first)) is follows;
    comes = subst (Swaps o s first) is (swaps did);
  }

module _ {V E : Type 0} (o : DeskNow V) (Copied : Known V → Option E → Type 0) where
  -- the first node went out
  pub takes_first : (s : Site V) (r : Option (Known V)) (c : Known V) (x : Option E) (rest : Option (Known V)) (done : Bool) → Leads o s r
      → r ≡ Some c → Copied c x → Leads o (next_of c) rest → (IsTrue done → Swaps o s (Some c) rest) → done ≡ true → Pops o Copied s x
  takes_first s r c x rest done leads some copied next swaps did = inl (record {
    node = c;
    leads = subst (Leads o s) some leads;
    copied = copied;
    rest = rest;
    next = next;
    out = swaps did;
  })

  pub takes_none : (s : Site V) (r : Option (Known V)) → Leads o s r → r ≡ None → Pops o Copied s None
  takes_none s r leads none = inr (subst (Leads o s) none leads, refl)

module _ {V : Type 0} (o : DeskNow V) where
  -- what a compare says of a swap
  pub swaps_of : (s : Site V) (weak : Bool) (hoped new hoped' new' : Option (Known V)) (r : Result Bool Fault)
      → IfOk r (λ (b : Bool). ComparedAt o (owner_of s) (cell_at o Owner s) Owner weak hoped new b hoped' new')
      → IfOk r (λ (b : Bool). IsTrue b → Swaps o s hoped new)
  swaps_of s weak hoped new hoped' new' (Ok true) is = λ did. (weak, is.0)
  swaps_of s weak hoped new hoped' new' (Ok false) is = λ did. absurd (cc did)
  swaps_of s weak hoped new hoped' new' (Err why) is = tt

  pub stays_of : (s : Site V) (weak : Bool) (hoped new hoped' new' : Option (Known V)) (r : Result Bool Fault)
      → IfOk r (λ (b : Bool). ComparedAt o (owner_of s) (cell_at o Owner s) Owner weak hoped new b hoped' new')
      → IfOk r (λ (b : Bool). IsFalse b → new' ≡ new)
  stays_of s weak hoped new hoped' new' (Ok true) is = λ did. absurd (cc did)
  stays_of s weak hoped new hoped' new' (Ok false) is = λ did. is.1
  stays_of s weak hoped new hoped' new' (Err why) is = tt

  pub told_by : (s : Site V) (weak : Bool) (hoped new hoped' new' : Option (Known V)) (r : Result Bool Fault)
      → IfOk r (λ (b : Bool). ComparedAt o (owner_of s) (cell_at o Owner s) Owner weak hoped new b hoped' new')
      → IfOk r (λ (b : Bool). IsFalse b → Tells o s hoped')
  told_by s weak hoped new hoped' new' (Ok true) is = λ did. absurd (cc did)
  told_by s weak hoped new hoped' new' (Ok false) is = λ did. inr (weak, hoped, new, is.0)
  told_by s weak hoped new hoped' new' (Err why) is = tt

module _ {E : Type 0} where
  somes_some : (xs : List (Option E)) (e : E) → somes (xs ++ (Some e ∷ [])) ≡ somes xs + 1
  somes_some [] e = refl
  somes_some (None ∷ xs) e = somes_some xs e
  somes_some (Some x ∷ xs) e = let h = somes_some xs e in omega (arith, h)

  somes_none : (xs : List (Option E)) → somes (xs ++ (None ∷ [])) ≡ somes xs
  somes_none [] = refl
  somes_none (None ∷ xs) = somes_none xs
  somes_none (Some x ∷ xs) = ap (λ n. 1 + n) (somes_none xs)

module _ {V E : Type 0} (o : DeskNow V) (Copied : Known V → Option E → Type 0) where
  -- how many elements there are up to the node that was passed last
  pub record Counted (s : Site V) (before : Option (Known V)) (n : ℕ) : Type 0 where
    pub elements : List (Option E)
    pub walk : Walks o Copied s elements (behind before s)
    pub many : n ≡ min (somes elements) 18446744073709551615

  pub counted_none : (s : Site V) → Counted s None 0
  counted_none s = record { elements = []; walk = refl; many = refl }

  pub counted_on : (s : Site V) (b r : Option (Known V)) (c : Known V) (e : E) (n m : ℕ) → Counted s b n → Leads o (behind b s) r
      → r ≡ Some c → Copied c (Some e) → m ≡ min (n + 1) 18446744073709551615 → Counted s (Some c) m
  counted_on s b r c e n m counted leads some copied more = record {
    elements = counted.elements ++ (Some e ∷ []);
    walk = walks_on o Copied s (behind b s) counted.elements (Some e) c counted.walk
        (subst (λ (y : Option (Known V)). Leads o (behind b s) y) some leads) copied;
    many = let h = counted.many in let k = somes_some counted.elements e in omega (arith, h, k, more);
  }

  pub counted_past : (s : Site V) (b r : Option (Known V)) (c : Known V) (n : ℕ) → Counted s b n → Leads o (behind b s) r
      → r ≡ Some c → Copied c None → Counted s (Some c) n
  counted_past s b r c n counted leads some copied = record {
    elements = counted.elements ++ (None ∷ []);
    walk = walks_on o Copied s (behind b s) counted.elements None c counted.walk
        (subst (λ (y : Option (Known V)). Leads o (behind b s) y) some leads) copied;
    many = counted.many ∙ ap (λ k. min k 18446744073709551615) (sym (somes_none counted.elements));
  }

  pub counted_some : (s : Site V) (b r : Option (Known V)) (c : Known V) (x : Option E) (n m : ℕ) → Counted s b n → Leads o (behind b s) r
      → r ≡ Some c → Copied c x → is_some x ≡ true → m ≡ min (n + 1) 18446744073709551615 → Counted s (Some c) m
  counted_some s b r c None n m counted leads some copied has more = absurd (cc has)
  counted_some s b r c (Some e) n m counted leads some copied has more = counted_on s b r c e n m counted leads some copied more

  pub counted_none_there : (s : Site V) (b r : Option (Known V)) (c : Known V) (x : Option E) (n : ℕ) → Counted s b n → Leads o (behind b s) r
      → r ≡ Some c → Copied c x → is_some x ≡ false → Counted s (Some c) n
  counted_none_there s b r c None n counted leads some copied has = counted_past s b r c n counted leads some copied
  counted_none_there s b r c (Some e) n counted leads some copied has = absurd (cc has)

  pub counted_refused : (Refused : Known V → Fault → Type 0) (s : Site V) (b r : Option (Known V)) (c : Known V) (n : ℕ) (why : Fault)
      → Counted s b n → Leads o (behind b s) r → r ≡ Some c → Refused c why → IsBrokenOff o Copied Refused s why
  counted_refused Refused s b r c n why counted leads some refused = (
    counted.elements,
    (behind b s, counted.walk, inr (c, subst (λ (y : Option (Known V)). Leads o (behind b s) y) some leads, refused)),
  )
