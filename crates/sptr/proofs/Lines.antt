-- A command that is made piece by piece.
use Rattle.std.proofs.Common.{◌≡◌, ◌∙◌, ap, ap₂, false, subst, [], ◌∷◌, ◌++◌, Result, Ok}
use Rattle.std.specs.Prelude.{IfOk}
use Rattle.std.proofs.lemmas.Result.{IfOk-weaker}
use Rattle.sptr.specs.CommandLine.{AddsCommand}
use Rattle.clap.specs.Words.{App, Rule, Shape, app_of, shape_of, with_rule, with_subcommand}
use Rattle.clap.specs.declared.builder.command.Command.{Command}
use Rattle.clap.specs.declared.builder.command.Command.TheViews.{out-Command}
use Rattle.std.specs.declared.alloc.AllocError.{AllocError}

abbrev pub with_argument : Shape → Rule → Shape
with_argument s r = record s { rules = s.rules ++ r ∷ [] }

pub argument_added : (old new : Command) (added : Rule) (line : Shape) (rule : Rule)
    → app_of new ≡ with_rule (app_of old) added
    → shape_of old ≡ line → added ≡ rule → shape_of new ≡ with_argument line rule
argument_added old new added line rule e is same =
    ap (λ (a : App). a.top) e ∙ ap₂ with_argument is same

pub command_added : (program command : Result Command AllocError) (p c : Command) (new : App)
    → program ≡ Ok p → command ≡ Ok c
    → ((out-Command c).has_globals ≡ false → new ≡ with_subcommand (app_of p) (shape_of c))
    → (app : App) (line : Shape)
    → IfOk program (λ d. app_of d ≡ app) → IfOk command (λ d. shape_of d ≡ line)
    → IfOk command (λ d. (out-Command d).has_globals ≡ false) → new ≡ with_subcommand app line
command_added program command p c new was_program was h app line above is local =
    h (subst (λ (r : Result Command AllocError). IfOk r (λ d. (out-Command d).has_globals ≡ false))
    was local)
    ∙ ap₂ with_subcommand (subst (λ (r : Result Command AllocError). IfOk r (λ d. app_of d ≡ app))
    was_program above)
    (subst (λ (r : Result Command AllocError). IfOk r (λ d. shape_of d ≡ line)) was is)

pub next_added : (old command new : Result Command AllocError) (app : App) (line : Shape)
    → IfOk old (λ c. app_of c ≡ app)
    → IfOk command (λ c. shape_of c ≡ line)
    → IfOk command (λ c. (out-Command c).has_globals ≡ false)
    → IfOk new (λ r. AddsCommand old command r)
    → IfOk new (λ r. app_of r ≡ with_subcommand app line)
next_added old command new app line above is local h =
    IfOk-weaker new _ _ (λ r k. k app line above is local) h
