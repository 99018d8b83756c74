-- Writes one after the other.
use Rattle.std.proofs.Common.{◌≡◌, ℕ, ◌-◌, List, [], ◌++◌, length, take, drop, OnOk, OnErr, Some}
use Rattle.std.proofs.Common.{None, Ok, Err, Option, Result, sym, ap, ◌∙◌, append_assoc}
use Rattle.std.proofs.Common.{append-nil, take-append-drop}
use Rattle.script_stepper.proofs.Prelude.{IsWritten, take_rest}
use Rattle.std.specs.Io.KnownBytes.{Appends, Keeps}
use Rattle.script_stepper.specs.Sinks.{AppendsBeginning}

-- what was taken so far, and what is left
pub record Progress (old new : Option (List ℕ)) (bs rest : List ℕ) : Type 0 where
  pub front : List ℕ
  pub text : bs ≡ front ++ rest
  pub took : Appends old new front

pub Appends-then : (a b c : Option (List ℕ)) (xs ys : List ℕ) → Appends a b xs → Appends b c ys → Appends a c (xs ++ ys)
Appends-then None b c xs ys h k = tt
Appends-then (Some xa) None c xs ys h k = absurd h
Appends-then (Some xa) (Some bs) None xs ys h k = absurd k
Appends-then (Some xa) (Some bs) (Some cs) xs ys h k = k ∙ ap (λ (l : List ℕ). l ++ ys) h ∙ append_assoc xa xs ys

pub Appends-kept : (a b : Option (List ℕ)) → Keeps a b → Appends a b []
Appends-kept None b h = tt
Appends-kept (Some xa) None h = absurd h
Appends-kept (Some xa) (Some bs) h = h ∙ sym (append-nil xa)

-- a piece of what is left
pub more : (a b c : Option (List ℕ)) (bs rest : List ℕ) (n : ℕ) → Progress a b bs rest → Appends b c (take n rest) → Progress a c bs (drop n rest)
more a b c bs rest n p h = record {
  front = p.front ++ take n rest;
  text = p.text ∙ ap (λ (l : List ℕ). p.front ++ l) (sym (take-append-drop n rest)) ∙ sym (append_assoc p.front (take n rest) (drop n rest));
  took = Appends-then a b c p.front (take n rest) p.took h;
}

pub more_rest : (a b c : Option (List ℕ)) (bs rest : List ℕ) (n : ℕ) → Progress a b bs rest → Appends b c (take n rest)
    → Progress a c bs (take (length rest - n) (drop n rest))
more_rest a b c bs rest n p h = rw (take_rest rest n) (more a b c bs rest n p h)

-- a beginning of the first part is one of the whole
pub begun : (a b : Option (List ℕ)) (xs ys : List ℕ) → AppendsBeginning a b xs → AppendsBeginning a b (xs ++ ys)
begun a b xs ys k = record {
  front = k.front;
  rest = k.rest ++ ys;
  text = ap (λ (l : List ℕ). l ++ ys) k.text ∙ append_assoc k.front k.rest ys;
  took = k.took;
}

-- a part that was written in full, and then another
pub written_then : {A E : Type 0} (a b c : Option (List ℕ)) (xs ys : List ℕ) (r : Result A E) → Appends a b xs → IsWritten ys r b c
    → IsWritten (xs ++ ys) r a c
written_then a b c xs ys (Ok x) h k = Appends-then a b c xs ys h k
written_then a b c xs ys (Err e) h k = record {
  front = xs ++ k.front;
  rest = k.rest;
  text = ap (λ (l : List ℕ). xs ++ l) k.text ∙ sym (append_assoc xs k.front k.rest);
  took = Appends-then a b c xs k.front h k.took;
}

pub written_by : {A E : Type 0} (r : Result A E) (a b : Option (List ℕ)) (xs : List ℕ) → OnOk r (Appends a b xs) → OnErr r (AppendsBeginning a b xs)
    → IsWritten xs r a b
written_by (Ok x) a b xs h k = h
written_by (Err e) a b xs h k = k
