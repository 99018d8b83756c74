-- Lines that may give a list of turns.
use Rattle.std.proofs.Common.{◌≡◌, ◌≢◌, ◌==◌, Bool, true, false, refl, sym, ap, List, [], ◌∷◌, ◌++◌}
use Rattle.std.proofs.Common.{Some, None, codes, inl, inr, subst, eqb-true}
use Rattle.std.specs.Prelude.{slice_get}
use Rattle.std.specs.Str.{bytes_eq}
use Rattle.clap.specs.Words.{Text}
use Rattle.clap.specs.Lexer.{long_of, short_of}
use Rattle.sptr.specs.CommandLine.{IsJoinedLine, IsLine, command_named, faults_of, names_list}
use Rattle.sptr.specs.CommandLine.{names_text, turns_given}

abbrev pub IsFor : Text → Text → List Text → Type 0
IsFor command list words =
    (faults_of words ≡ []) × (command_named words ≡ Some command)
    × (turns_given words ≡ list)
    × ((names_text words ≡ false) × (names_list words ≡ false))

no_dashes : (list : Text) → slice_get list 0 ≢ Some 45
    → (bytes_eq list (45 ∷ 45 ∷ []) ≡ false) × (long_of list ≡ None)
    × (short_of list ≡ None)
no_dashes [] h = (refl, refl, refl)
no_dashes (b ∷ bs) h = go (b == 45) refl
  where
    go : (t : Bool) → (b == 45) ≡ t
        → (bytes_eq (b ∷ bs) (45 ∷ 45 ∷ []) ≡ false) × (long_of (b ∷ bs) ≡ None)
        × (short_of (b ∷ bs) ≡ None)
    go true e = absurd (h (ap Some (eqb-true b 45 e)))
    go false e = (rw e refl, rw e refl, rw e refl)

module _ (command : Text) (options : List Text) (Is : Text → List Text → Type 0)
    (alone : (name : Text) → Is [] (name ∷ command ∷ options))
    (joined : (name list : Text)
    → Is list (name ∷ command ∷ options ++ (codes "--turns=" ++ list) ∷ [])) where
  -- what holds of the two joined lines of a command holds of each of them
  pub with_joined : (name list : Text) (words : List Text)
      → IsJoinedLine command options name list words → Is list words
  with_joined name list words (inl h) =
      subst (λ ws. Is list ws) (sym h.0) (subst (λ l. Is l (name ∷ command ∷ options)) (sym h.1)
      (alone name))
  with_joined name list words (inr is) = subst (λ ws. Is list ws) (sym is) (joined name list)

  -- and what also holds of the third, of each of its plain lines
  module _ (apart : (name list : Text) → bytes_eq list (45 ∷ 45 ∷ []) ≡ false
      → long_of list ≡ None → short_of list ≡ None
      → Is list (name ∷ command ∷ options ++ codes "--turns" ∷ list ∷ [])) where
    pub with_turns : (name list : Text) (words : List Text)
        → IsLine command options name list words → Is list words
    with_turns name list words (inl h) = with_joined name list words h
    with_turns name list words (inr h) =
        let n = no_dashes list h.1 in
        subst (λ ws. Is list ws) (sym h.0) (apart name list n.0 n.1 n.2)
