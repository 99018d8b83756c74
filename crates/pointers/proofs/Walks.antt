-- A walk goes on by one node.
use Rattle.std.proofs.Common.{◌≡◌, List, [], ◌∷◌, ◌++◌, Some, None, Ok, Err, Option, Result}
use Rattle.std.proofs.Common.{sym, refl, subst, inl, inr, Bor}
use Rattle.pointers.proofs.Prelude.{CalledAt, DeskNow, Fault, Known, WhyEnded}
use Rattle.std.specs.Fn.{Mut}
use Rattle.pointers.specs.Lists.{Answers, Ends, Leads, Stops, Walks, WhyNotLed, behind}
use Rattle.pointers.specs.Sites.{Site}
use Rattle.pointers.specs.Lists.{next_of}

module _ {V E : Type 0} (o : DeskNow V) (Copied : Known V → Option E → Type 0) where
  pub walks_on : (s t : Site V) (xs : List (Option E)) (x : Option E) (c : Known V)
      → Walks o Copied s xs t → Leads o t (Some c) → Copied c x
      → Walks o Copied s (xs ++ (x ∷ [])) (next_of c)
  walks_on s t [] x c same leads copied =
      (c, subst (λ (y : Site V). Leads o y (Some c)) (sym same) leads, copied, refl)
  walks_on s t (y ∷ ys) x c (d, first, has, walk) leads copied =
      (d, first, has, walks_on (next_of d) t ys x c walk leads copied)

module _ {E F A : Type 0} (g : Mut F (Bor E × Unit {0}) (Result A Fault)) where
  pub answers_on : (a : A) (f m h : F) (xs : List (Option E)) (e : E)
      → Answers g a f xs m → CalledAt g m e (Ok a) h → Answers g a f (xs ++ (Some e ∷ [])) h
  answers_on a f m h [] e same called =
      (h, subst (λ (y : F). CalledAt g y e (Ok a) h) (sym same) called, refl)
  answers_on a f m h (None ∷ xs) e answers called = answers_on a f m h xs e answers called
  answers_on a f m h (Some x ∷ xs) e (k, first, answers) called =
      (k, first, answers_on a k m h xs e answers called)

  pub answers_same : (a : A) (f m : F) (xs : List (Option E))
      → Answers g a f xs m → Answers g a f (xs ++ (None ∷ [])) m
  answers_same a f m [] same = same
  answers_same a f m (None ∷ xs) answers = answers_same a f m xs answers
  answers_same a f m (Some x ∷ xs) (k, first, answers) = (k, first, answers_same a k m xs answers)

module _ {V E F A : Type 0} (o : DeskNow V) (Copied : Known V → Option E → Type 0)
    (Refused : Known V → Fault → Type 0) (g : Mut F (Bor E × Unit {0}) (Result A Fault)) where
  -- f was called at each element up to the node that was passed last, and answered this each time
  pub record Reached (s : Site V) (a : A) (f : F) (before : Option (Known V)) (m : F) : Type 0 where
    pub elements : List (Option E)
    pub walk : Walks o Copied s elements (behind before s)
    pub called : Answers g a f elements m

  pub reached_none : (s : Site V) (a : A) (f : F) → Reached s a f None f
  reached_none s a f = record { elements = []; walk = refl; called = refl }

  pub reached_ends : (s : Site V) (a : A) (f m : F) (b r : Option (Known V))
      → Reached s a f b m → Leads o (behind b s) r → r ≡ None → Ends o Copied Refused g s a f
  reached_ends s a f m b r reached leads none = record {
    elements = reached.elements;
    list = (behind b s, reached.walk, subst (λ (x : Option (Known V)). Leads o (behind b s) x) none leads);
    last = m;
    called = reached.called;
  }

  pub reached_stops : (s : Site V) (a : A) (f m h : F) (b r : Option (Known V)) (c : Known V) (x : Option E) (e : E)
      (answer : Result A Fault) → Reached s a f b m → Leads o (behind b s) r → r ≡ Some c → Copied c x → x ≡ Some e
      → CalledAt g m e answer h → Stops o Copied Refused g s a f answer e
  reached_stops s a f m h b r c x e answer reached leads some copied has called = record {
    elements = reached.elements;
    at = behind b s;
    walk = reached.walk;
    before = m;
    called = reached.called;
    node = c;
    leads = subst (λ (y : Option (Known V)). Leads o (behind b s) y) some leads;
    copied = subst (λ (y : Option E). Copied c y) has copied;
    after = h;
    told = called;
  }

  pub reached_fails : (s : Site V) (a : A) (f m h : F) (b r : Option (Known V)) (c : Known V) (x : Option E) (e : E)
      (why : Fault) → Reached s a f b m → Leads o (behind b s) r → r ≡ Some c → Copied c x → x ≡ Some e
      → CalledAt g m e (Err why) h → WhyEnded o Copied Refused g s a f why
  reached_fails s a f m h b r c x e why reached leads some copied has called =
      inr (e, reached_stops s a f m h b r c x e (Err why) reached leads some copied has called)

  pub reached_unled : (s : Site V) (a : A) (f m : F) (b : Option (Known V)) (why : Fault)
      → Reached s a f b m → WhyNotLed o (behind b s) why → WhyEnded o Copied Refused g s a f why
  reached_unled s a f m b why reached unled = inl (record {
    elements = reached.elements;
    broken = (behind b s, reached.walk, inl unled);
    before = m;
    called = reached.called;
  })

  pub reached_refused : (s : Site V) (a : A) (f m : F) (b r : Option (Known V)) (c : Known V) (why : Fault)
      → Reached s a f b m → Leads o (behind b s) r → r ≡ Some c → Refused c why
      → WhyEnded o Copied Refused g s a f why
  reached_refused s a f m b r c why reached leads some refused = inl (record {
    elements = reached.elements;
    broken = (behind b s, reached.walk, inr (c, subst (λ (y : Option (Known V)). Leads o (behind b s) y) some leads, refused));
    before = m;
    called = reached.called;
  })

  pub reached_on : (s : Site V) (a : A) (f m h : F) (b r : Option (Known V)) (c : Known V) (x : Option E) (e : E)
      → Reached s a f b m → Leads o (behind b s) r → r ≡ Some c → Copied c x → x ≡ Some e
      → CalledAt g m e (Ok a) h → Reached s a f (Some c) h
  reached_on s a f m h b r c x e reached leads some copied has called = record {
    elements = reached.elements ++ (Some e ∷ []);
    walk = walks_on o Copied s (behind b s) reached.elements (Some e) c reached.walk
        (subst (λ (y : Option (Known V)). Leads o (behind b s) y) some leads)
        (subst (λ (y : Option E). Copied c y) has copied);
    called = answers_on g a f m h reached.elements e reached.called called;
  }

  pub reached_past : (s : Site V) (a : A) (f m : F) (b r : Option (Known V)) (c : Known V) (x : Option E)
      → Reached s a f b m → Leads o (behind b s) r → r ≡ Some c → Copied c x → x ≡ None
      → Reached s a f (Some c) m
  reached_past s a f m b r c x reached leads some copied has = record {
    elements = reached.elements ++ (None ∷ []);
    walk = walks_on o Copied s (behind b s) reached.elements None c reached.walk
        (subst (λ (y : Option (Known V)). Leads o (behind b s) y) some leads)
        (subst (λ (y : Option E). Copied c y) has copied);
    called = answers_same g a f m reached.elements reached.called;
  }
