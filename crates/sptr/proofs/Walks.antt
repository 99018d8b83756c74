-- A walk over words with no fault enters one of the commands that the program names itself.
use Rattle.std.proofs.Common.{◌≡◌, ◌≢◌, ◌∙◌, ◌⊎◌, ◌&&◌, ◌||◌, ℕ, Bool, true, false, not, refl, sym}
use Rattle.std.proofs.Common.{ap, subst, List, [], ◌∷◌, ◌++◌, Option, Some, None, codes, inl, inr}
use Rattle.std.proofs.Common.{option_map, true≢false}
use Rattle.std.specs.Prelude.{if◌then◌else◌, find, fold, is_some, option_and_then}
use Rattle.std.specs.List.{list_any}
use Rattle.std.specs.Str.{bytes_eq}
use Rattle.std.proofs.lemmas.Slice.Eq.{bytes_eq-Decides}
use Rattle.clap.specs.Words.{App, Kinds, Row, Rule, Shape, Text}
use Rattle.clap.specs.Lexer.{long_of, short_of}
use Rattle.clap.specs.Kinds.{check_kinds, or_else}
use Rattle.clap.specs.Walk.{Held, Names, Outcome, Step, Waiting, Walk, after_flag, after_step}
use Rattle.clap.specs.Walk.{answers_to, arg_by_index, done, finished, idle, long_or_other, next}
use Rattle.clap.specs.Walk.{nothing_held, option, plain, plain_word, positional, refused, settled}
use Rattle.clap.specs.Walk.{short_or_plain, stop_after, subcommand, subcommand_met}
use Rattle.clap.specs.Walk.{subcommand_or_other, to_positional, trailing, value, waits, walk}
use Rattle.clap.specs.Walk.{walk_from, walked, walked_from, word_met}
use Rattle.clap.specs.Simple.{entered, label_of, names_of, rows_at}
use Rattle.clap.specs.Facts.{explicit_source}
use Rattle.clap.specs.Takes.{is_given}
use Rattle.clap.specs.Faults.{built_fault, check_fault, defaults_fault, entered_fault, other_fault}
use Rattle.clap.specs.Faults.{settle_fault, turn_fault, walk_fault, word_fault}
use Rattle.clap.specs.declared.error.kind.ErrorKind.{ErrorKind}

abbrev IsOwn : Option (Text × List Text) → Type 0
IsOwn None = Unit {0}
IsOwn (Some p) = p.0 ≢ codes "help"

abbrev IsOwnName : Option Text → Type 0
IsOwnName None = Unit {0}
IsOwnName (Some name) = name ≢ codes "help"

abbrev IsOwnStep : Step → Type 0
IsOwnStep (next waiting) = Unit {0}
IsOwnStep (trailing position) = Unit {0}
IsOwnStep (subcommand name) = name ≢ codes "help"
IsOwnStep value = Unit {0}

cons_none : {X : Type 0} (x : X) (xs : List X) → x ∷ xs ≡ [] → ⊥
cons_none x xs e = cc

first_none : (a b : Kinds) → or_else a b ≡ [] → a ≡ []
first_none [] b e = refl
first_none (k ∷ ks) b e = absurd (cons_none k ks e)

then_none : (a b : Kinds) → or_else a b ≡ [] → b ≡ []
then_none [] b e = e
then_none (k ∷ ks) b e = absurd (cons_none k ks e)

-- ---- a word that is no fault does not enter `help`

no_help : (b d : Bool) (k l : ErrorKind) → d ≡ false → (if b && not d then k ∷ l ∷ [] else []) ≡ []
    → b ≡ false
no_help false d k l e f = refl
no_help true true k l e f = absurd (true≢false e)
no_help true false k l e f = absurd (cons_none k _ f)

own_name : (s : Shape) (n : Option Text) (word : Text) (h : Held)
    → s.disable_help_subcommand ≡ false → other_fault s n word h ≡ [] → IsOwnName n
own_name s None word h d e = tt
own_name s (Some name) word h d e = λ is.
    true≢false (sym ((bytes_eq-Decides name (codes "help")).1 is)
    ∙ no_help (bytes_eq name (codes "help")) s.disable_help_subcommand _ _ d e)

own_plain : (c : List Rule) (w : Waiting) (word : Text) (h : Held)
    → IsOwnStep (plain_word c w word h).1
own_plain c idle word h = tt
own_plain c (option id) word h = tt
own_plain c positional word h = tt

own_flag : (c : List Rule) (w : Waiting) (word : Text) (h : Held) (o : Outcome)
    → IsOwnStep (after_flag c w word h o).1
own_flag c w word h done = tt
own_flag c w word h (waits id) = tt
own_flag c w word h plain = own_plain c w word h
own_flag c w word h refused = own_plain c w word h

own_short : (c : List Rule) (w : Waiting) (word : Text) (flags : Option Text) (h : Held)
    → IsOwnStep (short_or_plain c w word flags h).1
own_short c w word None h = own_plain c w word h
own_short c w word (Some flags) h = own_flag c w word _ _

own_long : (c : List Rule) (w : Waiting) (word : Text) (p : Option (Text × Option Text)) (h : Held)
    → IsOwnStep (long_or_other c w word p h).1
own_long c w word None h = own_short c w word (short_of word) h
own_long c w word (Some p) h = own_flag c w word _ _

own_dashes : (c : List Rule) (w : Waiting) (position : ℕ) (word : Text) (h : Held) (b : Bool)
    → IsOwnStep (if b then (h, trailing position) else long_or_other c w word (long_of word) h).1
own_dashes c w position word h true = tt
own_dashes c w position word h false = own_long c w word (long_of word) h

own_met : (c : List Rule) (n : Option Text) (w : Waiting) (position : ℕ) (word : Text) (h : Held)
    → IsOwnName n
    → IsOwnStep (subcommand_or_other c n w position word h).1
own_met c None w position word h own = own_dashes c w position word h _
own_met c (Some name) w position word h own = own

own_word : (s : Shape) (names : Names) (t : Bool) (w : Waiting) (position : ℕ) (word : Text)
    (h : Held) → s.disable_help_subcommand ≡ false
    → word_fault s names t w word h ≡ [] → IsOwnStep (word_met s.rules names t w position word h).1
own_word s names true w position word h d e = tt
own_word s names false w position word h d e =
    own_met s.rules _ w position word h (own_name s (subcommand_met names w word) word h d e)

-- ---- the walk

own_value : (c : List Rule) (a : Option Rule) (word : Text) (w : Walk) (h : Held) → IsOwn w.stopped
    → IsOwn (to_positional c a word w h).stopped
own_value c None word w h own = own
own_value c (Some a) word w h own = tt

own_after : (c : List Rule) (word : Text) (w : Walk) (h : Held) (step : Step) → IsOwnStep step
    → IsOwn w.stopped
    → IsOwn (after_step c word w h step).stopped
own_after c word w h (next waiting) here own = own
own_after c word w h (trailing position) here own = own
own_after c word w h (subcommand name) here own = here
own_after c word w h value here own = own_value c (arg_by_index c w.position) word w h own

own_from : (s : Shape) (names : Names) (stop : Option (Text × List Text)) (w : Walk) (word : Text)
    (later : Kinds) → s.disable_help_subcommand ≡ false
    → IsOwn stop → IsOwn w.stopped → (if is_some stop then [] else or_else
    (word_fault s names w.is_trailing w.waiting word w.held) later) ≡ []
    → IsOwn (walked_from s.rules names stop w word).stopped
own_from s names (Some p) w word later d here own e = here
own_from s names None w word later d here own e =
    own_after s.rules word w _ _ (own_word s names w.is_trailing w.waiting w.position word w.held d
    (first_none _ later e)) own

own_walked : (s : Shape) (names : Names) (w : Walk) (word : Text)
    → s.disable_help_subcommand ≡ false → IsOwn w.stopped
    → turn_fault s names w word ≡ [] → IsOwn (walked s.rules names w word).stopped
unfolding walked
own_walked s names w word d own e = own_from s names w.stopped w word _ d own own e

own_walk : (s : Shape) (names : Names) (words : List Text) (w : Walk)
    → s.disable_help_subcommand ≡ false → IsOwn w.stopped
    → walk_fault s names w words ≡ [] → IsOwn (fold (walked s.rules names) w words).stopped
unfolding walk_fault
own_walk s names [] w d own e = own
own_walk s names (word ∷ rest) w d own e =
    own_walk s names rest (walked s.rules names w word) d
    (own_walked s names w word d own (first_none (turn_fault s names w word) _ e))
    (then_none (turn_fault s names w word) _ e)

-- ---- the command that is entered

abbrev pub IsNameOf : Text → List Shape → Type 0
IsNameOf name [] = ⊥
IsNameOf name (s ∷ ss) = (name ≡ s.name) ⊎ IsNameOf name ss

abbrev pub Enters : Option (Text × List Row) → List Shape → Type 0
Enters found shapes =
    (name : Text) × (option_map (λ p. p.0) found ≡ Some name) × IsNameOf name shapes

abbrev rows_found : List Shape → Text → List Text → Option (Text × List Row)
rows_found shapes name words =
    option_map (λ s. rows_at s words) (find (λ s. answers_to name (label_of s)) shapes)

help_missed : (h : Shape) (name : Text) → h.name ≡ codes "help" → h.aliases ≡ []
    → name ≢ codes "help" → answers_to name (label_of h) ≡ false
help_missed h name is none own = rw (is, none) (go (bytes_eq (codes "help") name) refl)
  where
    go : (b : Bool) → bytes_eq (codes "help") name ≡ b → (b || false) ≡ false
    go false e = refl
    go true e = absurd (own (sym ((bytes_eq-Decides (codes "help") name).0 e)))

found_named : (shapes : List Shape) (h : Shape) (name : Text) (words : List Text)
    → h.name ≡ codes "help" → h.aliases ≡ [] → name ≢ codes "help"
    → is_some (rows_found (shapes ++ h ∷ []) name words) ≡ true
    → Enters (rows_found (shapes ++ h ∷ []) name words) shapes
found_named [] h name words is none own e = absurd (true≢false (sym e
    ∙ ap (λ b. is_some (option_map (λ (s : Shape). rows_at s words) (if b then Some h else None)))
    (help_missed h name is none own)))
found_named (s ∷ ss) h name words is none own e =
    go (answers_to name (label_of s)) (λ k. found_named ss h name words is none own k) e
  where
    go : (b : Bool) → (is_some (rows_found (ss ++ h ∷ []) name words) ≡ true
        → Enters (rows_found (ss ++ h ∷ []) name words) ss)
        → is_some (option_map (λ (t : Shape). rows_at t words)
        (if b then Some s else find (λ t. answers_to name (label_of t)) (ss ++ h ∷ []))) ≡ true
        → Enters (option_map (λ (t : Shape). rows_at t words)
        (if b then Some s else find (λ t. answers_to name (label_of t)) (ss ++ h ∷ []))) (s ∷ ss)
    go true later k = (s.name, refl, inl refl)
    go false later k =
        let r = later k in
        (r.0, r.1, inr r.2)

entered_named : (shapes : List Shape) (h : Shape) (stop : Option (Text × List Text))
    → h.name ≡ codes "help" → h.aliases ≡ [] → IsOwn stop
    → is_some (option_and_then (λ (p : Text × List Text). rows_found (shapes ++ h ∷ []) p.0 p.1)
    stop) ≡ true
    → Enters (option_and_then (λ (p : Text × List Text). rows_found (shapes ++ h ∷ []) p.0 p.1)
    stop) shapes
entered_named shapes h None is none own e = absurd (true≢false (sym e))
entered_named shapes h (Some p) is none own e = found_named shapes h p.0 p.1 is none own e

has_subcommand : (given has wants argument : Bool) → wants ≡ true
    → check_kinds (not has && given) (not has && wants) argument ≡ [] → has ≡ true
has_subcommand given true wants argument is e = refl
has_subcommand true false wants argument is e = absurd (cons_none _ _ e)
has_subcommand false false true argument is e = absurd (cons_none _ _ e)
has_subcommand false false false argument is e = absurd (true≢false (sym is))

walked_and_checked : (walked below settled defaults checked : Kinds)
    → or_else walked (or_else below (or_else settled (or_else defaults checked))) ≡ []
    → (walked ≡ []) × (checked ≡ [])
walked_and_checked walked below settled defaults checked e =
    let after_walk : or_else below (or_else settled (or_else defaults checked)) ≡ [] =
    then_none walked _ e in
    let after_below : or_else settled (or_else defaults checked) ≡ [] =
    then_none below _ after_walk in
    let after_settled : or_else defaults checked ≡ [] = then_none settled _ after_below in
    (first_none walked _ e, then_none defaults checked after_settled)

abbrev entered_in : Option (Text × List Text) → List Shape → Option (Text × List Row)
entered_in stop shapes = option_and_then (λ (p : Text × List Text). rows_found shapes p.0 p.1) stop

-- a built command that wants one of these commands, and has `help` beside them, enters one of them
-- where there is no fault
pub enters_own : (a : App) (words : List Text) (shapes : List Shape) (h : Shape)
    → a.top.disable_help_subcommand ≡ false
    → a.top.subcommand_required ≡ true
    → a.subs ≡ shapes ++ h ∷ [] → h.name ≡ codes "help" → h.aliases ≡ []
    → built_fault a nothing_held words ≡ []
    → Enters (entered a (stop_after a.top.rules (names_of a) words)) shapes
enters_own a words shapes h d wants subs is none e =
    let stop = stop_after a.top.rules (names_of a) words in
    let end = (walk a.top.rules (names_of a) nothing_held words).held in
    let rows = finished a.top.rules end in
    let has = is_some (entered a stop) in
    let parts =
    walked_and_checked (walk_fault a.top (names_of a) (walk_from nothing_held) words)
    (entered_fault a stop)
    (settle_fault a.top.rules a.top.args_override_self end)
    (defaults_fault (settled a.top.rules end).rows a.top.rules) (check_fault a.top rows has) e in
    let own : IsOwn stop =
    own_walk a.top (names_of a) words (walk_from nothing_held) d tt parts.0 in
    let met : has ≡ true =
    has_subcommand (a.top.arg_required_else_help
    && not (list_any (λ r. explicit_source r.source) rows)) has a.top.subcommand_required
    (not (a.top.subcommand_negates_reqs && has)
    && list_any (λ r. r.required && not (is_given r.id rows)) a.top.rules) wants parts.1 in
    subst (λ (xs : List Shape). Enters (entered_in stop xs) shapes) (sym subs)
    (entered_named shapes h stop is none own (subst
    (λ (xs : List Shape). is_some (entered_in stop xs) ≡ true) subs met))
