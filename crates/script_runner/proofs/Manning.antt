-- Workers and tables that are put together and taken apart from the ends of their lists, and what each worker did.
use Rattle.std.proofs.Common.{◌≡◌, ℕ, suc, ◌<◌, ◌↔◌, List, [], ◌∷◌, ◌++◌, map, reverse, length}
use Rattle.std.proofs.Common.{IfNone, IfOk, slice_index_or, None, Ok, Err, All, Option, Result}
use Rattle.std.proofs.Common.{sym, refl, ap, ◌∙◌, subst, inl, inr, append_assoc, append-nil, arith}
use Rattle.script_runner.proofs.TablePrelude.{AbsorbsAll, Belongs, CanClose, DeskNow, DomainNow}
use Rattle.script_runner.proofs.TablePrelude.{EachDoes, IsNew, IsPartedInto, IsRefusedPart, NotSole}
use Rattle.script_runner.proofs.TablePrelude.{Refusal, reverse-append, Shape, Share, StaffsIn, TableNow}
use Rattle.script_runner.proofs.TablePrelude.{WorkerRelation}
use Rattle.std.specs.List.{AllZip}
use Rattle.std.proofs.lemmas.List.{length-map, length-reverse, map-append}
use Rattle.std.proofs.lemmas.List.Elements.{AllZip-push, length_all_zip}
use Rattle.control_word.specs.Layout.{IsWithinLimits}
use Rattle.control_word.specs.declared.refusal.Refusal.TheVariants as refusal
use Rattle.script_runner.specs.Staffs.{Staffs, StaffsOpen, StaffsOrNot}
use Rattle.script_runner.specs.Openings.{GoesOn}

-- a list from its end
turned : {X B : Type 0} (f : X → B) (xs : List X) (x : X) → reverse (map f (xs ++ x ∷ [])) ≡ f x ∷ reverse (map f xs)
turned f xs x = ap reverse (map-append f xs (x ∷ [])) ∙ reverse-append (map f xs) (f x ∷ [])

-- the last of what is left is put behind what was
pub put : {X B : Type 0} (f : X → B) (all now rest : List B) (xs ys : List X) (x : X) → all ≡ now ++ reverse (map f xs)
    → now ≡ rest ++ f x ∷ [] → ys ≡ xs ++ x ∷ []
    → all ≡ rest ++ reverse (map f ys)
put f all now rest xs ys x is last more =
    is
    ∙ (ap (λ l. l ++ reverse (map f xs)) last
    ∙ (append_assoc rest (f x ∷ []) (reverse (map f xs))
    ∙ ap (λ l. rest ++ l) (sym (ap (λ l. reverse (map f l)) more ∙ turned f xs x))))

-- the last of what is there goes behind what went
pub gone : {X B : Type 0} (f : X → B) (all went now : List B) (xs ys : List X) (x : X) → all ≡ went ++ reverse (map f xs)
    → xs ≡ ys ++ x ∷ [] → now ≡ went ++ f x ∷ []
    → all ≡ now ++ reverse (map f ys)
gone f all went now xs ys x is last more =
    is
    ∙ (ap (λ l. went ++ l) (ap (λ l. reverse (map f l)) last ∙ turned f ys x)
    ∙ (sym (append_assoc went (f x ∷ []) (reverse (map f ys)))
    ∙ ap (λ l. l ++ reverse (map f ys)) (sym more)))

-- where nothing has gone yet, and where nothing is left
pub from_none : {X B : Type 0} (f : X → B) (none : List B) (xs : List X) → none ≡ [] → reverse (map f xs) ≡ none ++ reverse (map f xs)
from_none f none xs is = ap (λ l. l ++ reverse (map f xs)) (sym is)

pub all_put : {X B : Type 0} (f : X → B) (all now : List B) (xs : List X) → all ≡ now ++ reverse (map f xs) → now ≡ [] → all ≡ reverse (map f xs)
all_put f all now xs is none = is ∙ ap (λ l. l ++ reverse (map f xs)) none

pub all_back : {X B : Type 0} (f : X → B) (all now : List B) (xs : List X) → all ≡ now ++ reverse (map f xs) → xs ≡ [] → now ≡ all
all_back f all now xs is none = sym (is ∙ (ap (λ l. now ++ reverse (map f l)) none ∙ append-nil now))

-- two lists whose places are so
pub zipped : {X : Type 0} (R : X → X → Type 0) (xs ys : List X) → length ys ≡ length xs
    → ((i : ℕ) (d : X) → i < length xs → R (slice_index_or xs i d) (slice_index_or ys i d)) → AllZip R xs ys
zipped R [] [] e h = tt
zipped R [] (y ∷ ys) e h = let no : ⊥ = omega (arith, e) in absurd no
zipped R (x ∷ xs) [] e h = let no : ⊥ = omega (arith, e) in absurd no
zipped R (x ∷ xs) (y ∷ ys) e h =
    (h 0 x (omega arith), zipped R xs ys (omega (arith, e)) (λ i d lt. h (suc i) d (omega (arith, lt))))

reversed : {X : Type 0} (x : X) (xs : List X) → reverse (x ∷ xs) ≡ reverse xs ++ x ∷ []
reversed x xs = reverse-append (x ∷ []) xs

zip_reversed : {X : Type 0} (R : X → X → Type 0) (xs ys : List X) → AllZip R xs ys → AllZip R (reverse xs) (reverse ys)
zip_reversed R [] [] h = tt
zip_reversed R [] (y ∷ ys) h = absurd h
zip_reversed R (x ∷ xs) [] h = absurd h
zip_reversed R (x ∷ xs) (y ∷ ys) h =
    subst (λ l. AllZip R l (reverse (y ∷ ys))) (sym (reversed x xs))
    (subst (λ l. AllZip R (reverse xs ++ x ∷ []) l) (sym (reversed y ys))
    (AllZip-push R (reverse xs) (reverse ys) x y (zip_reversed R xs ys h.1) h.0))

map_reversed : {X B : Type 0} (f : X → B) (xs : List X) → map f (reverse xs) ≡ reverse (map f xs)
map_reversed f [] = refl
map_reversed f (x ∷ xs) =
    ap (map f) (reversed x xs)
    ∙ (map-append f (reverse xs) (x ∷ [])
    ∙ (ap (λ l. l ++ f x ∷ []) (map_reversed f xs) ∙ sym (reversed (f x) (map f xs))))

-- as many come back as were put together
pub as_many : {X B : Type 0} (R : X → X → Type 0) (f : X → B) (all : List B) (posts after : List X) → all ≡ reverse (map f posts)
    → AllZip R posts after → length after ≡ length all
as_many R f all posts after is zip =
    sym (length_all_zip R posts after zip) ∙ (sym (length-reverse (map f posts) ∙ length-map posts f) ∙ ap length (sym is))

module _ {V W X : Type 0} (worker : X → W) (table : X → TableNow V) (does : WorkerRelation V W) where
  each_of : (xs ys : List X) → AllZip (λ p q. does (worker p) (table p) (worker q) (table q)) xs ys
      → EachDoes does (map worker xs) (map table xs) (map worker ys) (map table ys)
  each_of [] [] h = tt
  each_of [] (y ∷ ys) h = absurd h
  each_of (x ∷ xs) [] h = absurd h
  each_of (x ∷ xs) (y ∷ ys) h = (h.0, each_of xs ys h.1)

  -- all of them worked, each at its post
  pub each_worked : (had has : List W) (lent left : List (TableNow V)) (posts after : List X) → lent ≡ reverse (map table posts)
      → had ≡ reverse (map worker posts) → left ≡ reverse (map table after) → has ≡ reverse (map worker after)
      → AllZip (λ p q. does (worker p) (table p) (worker q) (table q)) posts after → EachDoes does had lent has left
  each_worked had has lent left posts after a b c d all =
      let each = each_of (reverse posts) (reverse after)
      (zip_reversed (λ p q. does (worker p) (table p) (worker q) (table q)) posts after all) in
      subst (λ l. EachDoes does l lent has left) (map_reversed worker posts ∙ sym b)
      (subst (λ l. EachDoes does (map worker (reverse posts)) l has left) (map_reversed table posts ∙ sym a)
      (subst (λ l. EachDoes does (map worker (reverse posts)) (map table (reverse posts)) l left) (map_reversed worker after ∙ sym d)
      (subst (λ l. EachDoes does (map worker (reverse posts)) (map table (reverse posts)) (map worker (reverse after)) l)
      (map_reversed table after ∙ sym c) each)))

module _ {V W : Type 0} (does : WorkerRelation V W) where
  -- and their tables were absorbed
  pub staffed : (t x u : TableNow V) (share : Share) (had has : List W) (lent left : List (TableNow V))
      → IsPartedInto t.desk share.allowance share.blocks lent x.desk → All (IsNew share.slots) lent
      → (x.slots ≡ t.slots) × (x.endings ≡ t.endings) → EachDoes does had lent has left → AbsorbsAll x left u → Staffs does t share had has u
  staffed t x u share had has lent left parts new rest each absorbs =
      let is : x ≡ record t { desk = x.desk } = λ i. record { desk = x.desk; slots = rest.0 i; endings = rest.1 i } in
      record {
        lent = lent;
        between = x.desk;
        parts = parts;
        new = new;
        left = left;
        each = each;
        absorbs = subst (λ (y : TableNow V). AbsorbsAll y left u) is absorbs;
      }

  -- what the workers did where none was refused
  pub staffs_in : (domain : DomainNow) (share : Share) (had has : List W) (n : ℕ) (refused : Option Refusal) (last : DeskNow V) → refused ≡ None
      → n ≡ share.slots → GoesOn (λ t u. StaffsOrNot does share had t refused has u) domain n last → StaffsIn does domain share had has last
  staffs_in domain share had has n refused last is many g =
      let staffs = subst (λ (o : Option Refusal). IfNone o (Staffs does g.first share had has g.after)) is g.done.0 in
      record {
        first = g.first;
        begins = g.begins;
        new = subst (λ (k : ℕ). IsNew k g.first) many g.new;
        out = record { after = g.after; staffs = staffs; winds_up = g.winds_up };
      }

  -- the desk that had all closes its domain, or may
  pub opened : (r : Result (DomainNow × DeskNow V) Refusal) (domain : DomainNow) (shape : Shape) (share : Share) (had has : List W) (last : DeskNow V)
      → domain.shape ≡ shape → Belongs last domain → StaffsIn does domain share had has last → IfOk r (λ x. x ≡ (domain, last))
      → IfOk r (λ _. CanClose last domain.shape) → IfOk r (λ x. StaffsOpen does shape share had has x.0 x.1)
  opened (Ok x) domain shape share had has last of here works is can =
      subst (λ (y : DomainNow × DeskNow V). StaffsOpen does shape share had has y.0 y.1) (sym is)
      (record { of = of; here = here; works = works; can_close = subst (λ (s : Shape). CanClose last s) of can })
  opened (Err why) domain shape share had has last of here works is can = tt

-- a desk that isn't sole is refused so, whatever the shape
pub not_shape : (shape : Shape) (why : Refusal) → why ≡ NotSole → IsWithinLimits shape → why ≡ refusal.Shape ↔ (IsWithinLimits shape → ⊥)
not_shape shape why is within = (λ e. absurd (cc (is, e)), λ no. absurd (no within))

-- a desk that gave no such part
pub part_sole : (why : Refusal) → IsRefusedPart why → why ≡ NotSole → ⊥
part_sole why (inl e) is = absurd (cc (e, is))
part_sole why (inr (inl e)) is = absurd (cc (e, is))
part_sole why (inr (inr e)) is = absurd (cc (e, is))

pub part_shape : (shape : Shape) (why : Refusal) → IsRefusedPart why → IsWithinLimits shape → why ≡ refusal.Shape ↔ (IsWithinLimits shape → ⊥)
part_shape shape why (inl e) within = (λ is. absurd (cc (e, is)), λ no. absurd (no within))
part_shape shape why (inr (inl e)) within = (λ is. absurd (cc (e, is)), λ no. absurd (no within))
part_shape shape why (inr (inr e)) within = (λ is. absurd (cc (e, is)), λ no. absurd (no within))

module _ {V W : Type 0} (does : WorkerRelation V W) where
  -- as many tables come back as were lent
  pub each_many : (had : List W) (lent : List (TableNow V)) (has : List W) (left : List (TableNow V)) → EachDoes does had lent has left
      → length left ≡ length lent
  each_many [] [] [] [] h = refl
  each_many [] [] [] (u ∷ us) h = absurd h
  each_many [] [] (x ∷ xs) [] h = absurd h
  each_many [] [] (x ∷ xs) (u ∷ us) h = absurd h
  each_many [] (t ∷ ts) [] [] h = absurd h
  each_many [] (t ∷ ts) [] (u ∷ us) h = absurd h
  each_many [] (t ∷ ts) (x ∷ xs) [] h = absurd h
  each_many [] (t ∷ ts) (x ∷ xs) (u ∷ us) h = absurd h
  each_many (w ∷ ws) [] [] [] h = absurd h
  each_many (w ∷ ws) [] [] (u ∷ us) h = absurd h
  each_many (w ∷ ws) [] (x ∷ xs) [] h = absurd h
  each_many (w ∷ ws) [] (x ∷ xs) (u ∷ us) h = absurd h
  each_many (w ∷ ws) (t ∷ ts) [] [] h = absurd h
  each_many (w ∷ ws) (t ∷ ts) [] (u ∷ us) h = absurd h
  each_many (w ∷ ws) (t ∷ ts) (x ∷ xs) [] h = absurd h
  each_many (w ∷ ws) (t ∷ ts) (x ∷ xs) (u ∷ us) h = ap suc (each_many ws ts xs us h.1)
