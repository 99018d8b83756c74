-- A script and its turns have one trace.
use Rattle.std.proofs.Common.{◌≡◌, ℕ, zero, suc, ◌+◌, ◌-◌, ◌<◌, ◌≤◌, ◌≢◌, List, [], ◌∷◌, ◌++◌}
use Rattle.std.proofs.Common.{length, replicate, None, sym, refl, ap, ◌∙◌, subst, arith}
use Rattle.script_stepper.proofs.Prelude.{AbstractState, ended, frame_of, heard, in_order, IsTrace}
use Rattle.script_stepper.proofs.Prelude.{IsTurnText, Item, next}
use Rattle.script_stepper.proofs.Plays.{items_told, play, plays, said}
use Rattle.script_stepper.proofs.Takings.{turns_are}
use Rattle.script_stepper.specs.Lines.{run_lines}
use Rattle.script_stepper.proofs.TraceLemmas.{idle_plays, idle_told, play_other, plays-append}
use Rattle.script_stepper.proofs.TraceLemmas.{told-append}

abbrev AllDone : AbstractState → Type 0
AllDone c = (d : ℕ) → next (frame_of c d) ≡ None

-- a thread that runs alone to its end comes to one end only
alone_once : (n m t : ℕ) (c : AbstractState) → next (frame_of (plays (replicate n t) c) (t - 1)) ≡ None
    → next (frame_of (plays (replicate m t) c) (t - 1)) ≡ None
    → (plays (replicate n t) c ≡ plays (replicate m t) c) × (items_told (replicate n t) c ≡ items_told (replicate m t) c)
alone_once zero m t c p q = (sym (idle_plays m t c p), sym (idle_told m t c p))
alone_once (suc n) zero t c p q = (idle_plays (suc n) t c q, idle_told (suc n) t c q)
alone_once (suc n) (suc m) t c p q =
    let r = alone_once n m t (play (t - 1) c) p q in
    (r.0, ap (λ (l : List Item). heard t (said (t - 1) c) ++ l) r.1)

-- turns of one thread leave the others where they are
others_stay : (n t d : ℕ) (c : AbstractState) → d ≢ t - 1 → frame_of (plays (replicate n t) c) d ≡ frame_of c d
others_stay zero t d c ne = refl
others_stay (suc n) t d c ne = others_stay n t d (play (t - 1) c) ne ∙ play_other (t - 1) d c ne

earlier_stay : (ns : List ℕ) (t d : ℕ) (c : AbstractState) → d + 1 < t → frame_of (plays (in_order t ns) c) d ≡ frame_of c d
earlier_stay [] t d c lt = refl
earlier_stay (n ∷ ns) t d c lt =
    ap (λ (s : AbstractState). frame_of s d) (plays-append (replicate n t) (in_order (t + 1) ns) c)
    ∙ earlier_stay ns (t + 1) d (plays (replicate n t) c) (omega (arith, lt))
    ∙ others_stay n t d c (omega (arith, lt))

-- a thread is at its end after its own turns, where it is after those of all
done_before : (ns : List ℕ) (t : ℕ) (a : AbstractState) → 1 ≤ t → AllDone (plays (in_order (t + 1) ns) a) → next (frame_of a (t - 1)) ≡ None
done_before ns t a some done = ap next (sym (earlier_stay ns (t + 1) (t - 1) a (omega (arith, some)))) ∙ done (t - 1)

none_cons : (n : ℕ) (ns : List ℕ) → length (n ∷ ns) ≡ 0 → ⊥
none_cons n ns e = omega (arith, e)

one_order : (ns ms : List ℕ) (t : ℕ) (c : AbstractState) → 1 ≤ t → length ns ≡ length ms → AllDone (plays (in_order t ns) c)
    → AllDone (plays (in_order t ms) c)
    → (plays (in_order t ns) c ≡ plays (in_order t ms) c) × (items_told (in_order t ns) c ≡ items_told (in_order t ms) c)
one_order [] [] t c some same p q = (refl, refl)
one_order [] (m ∷ ms) t c some same p q = absurd (none_cons m ms (sym same))
one_order (n ∷ ns) [] t c some same p q = absurd (none_cons n ns same)
one_order (n ∷ ns) (m ∷ ms) t c some same p q =
    let a = plays (replicate n t) c in
    let b = plays (replicate m t) c in
    let first = plays-append (replicate n t) (in_order (t + 1) ns) c in
    let second = plays-append (replicate m t) (in_order (t + 1) ms) c in
    let p' : AllDone (plays (in_order (t + 1) ns) a) = subst AllDone first p in
    let q' : AllDone (plays (in_order (t + 1) ms) b) = subst AllDone second q in
    let r = alone_once n m t c (done_before ns t a some p') (done_before ms t b some q') in
    let k =
    one_order ns ms (t + 1) a (omega (arith, some)) (omega (arith, same)) p'
    (subst (λ (s : AbstractState). AllDone (plays (in_order (t + 1) ms) s)) (sym r.0) q') in (
      first ∙ k.0 ∙ ap (plays (in_order (t + 1) ms)) r.0 ∙ sym second,
      told-append (replicate n t) (in_order (t + 1) ns) c
          ∙ ap (λ (l : List Item). items_told (replicate n t) c ++ l) k.1
          ∙ ap (λ (l : List Item). l ++ items_told (in_order (t + 1) ms) a) r.1
          ∙ ap (λ (s : AbstractState). items_told (replicate m t) c ++ items_told (in_order (t + 1) ms) s) r.0
          ∙ sym (told-append (replicate m t) (in_order (t + 1) ms) c),
    )

pub one_trace : (turns : List ℕ) (c : AbstractState) (i j : List Item) (l k : AbstractState) → IsTrace turns c i l → IsTrace turns c j k → (i ≡ j) × (l ≡ k)
one_trace turns c i j l k p q =
    let m = plays turns c in
    let ps = turns_are (turns ++ in_order 1 p.more) c i l p.takes in
    let qs = turns_are (turns ++ in_order 1 q.more) c j k q.takes in
    let pe = ps.1 ∙ plays-append turns (in_order 1 p.more) c in
    let qe = qs.1 ∙ plays-append turns (in_order 1 q.more) c in
    let r = one_order p.more q.more 1 m (omega arith) (p.each ∙ sym q.each) (subst AllDone pe p.over) (subst AllDone qe q.over) in (
      ps.0 ∙ told-append turns (in_order 1 p.more) c ∙ ap (λ (x : List Item). items_told turns c ++ x) r.1
          ∙ sym (told-append turns (in_order 1 q.more) c) ∙ sym qs.0,
      pe ∙ r.0 ∙ sym qe,
    )

-- and one text
pub one_turn_text : (turns : List ℕ) (c : AbstractState) (text other : List ℕ) → IsTurnText turns c text → IsTurnText turns c other → text ≡ other
one_turn_text turns c text other p q =
    let r = one_trace turns c p.items q.items p.last q.last p.trace q.trace in
    p.says ∙ ap (λ (i : List Item). ended (run_lines i p.last)) r.0 ∙ ap (λ (l : AbstractState). ended (run_lines q.items l)) r.1 ∙ sym q.says
