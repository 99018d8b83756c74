-- Lines that a script can tell, and what is answered of them.
use Rattle.std.proofs.Common.{◌≡◌, ◌||◌, ℕ, Bool, true, false, List, [], Some, Result, Ok, Err, refl, subst, sym}
use Rattle.std.specs.Prelude.{IfOk}
use Rattle.script_text.specs.Drafts.{ScriptView}
use Rattle.script_text.specs.Grammar.{ReadsAs}
use Rattle.script_text.specs.declared.fault.Fault.{Fault}
use Rattle.script_orders.specs.Orders.{IsAnswerText, IsSoughtText}
use Rattle.script_orders.specs.Tellings.{CanTell, can_tell}
use Rattle.script_orders.specs.declared.answers.Reply.{Reply}
use Rattle.script_orders.specs.declared.orders.Answer.{Answer}
use Rattle.script_orders.specs.declared.orders.Answer.TheVariants.{CannotTell, Found, Told, TooMany}

pub can_by : (bytes line : List ℕ) (script : ScriptView) (r : Result Bool Fault) → ReadsAs bytes script
    → IfOk r (λ can. can ≡ can_tell script line) → IfOk r (λ can. CanTell bytes line can)
can_by bytes line script (Ok can) reads is =
    record { script = script; reads = reads; is = let e : can_tell script line ≡ can = cc in e }
can_by bytes line script (Err fault) reads is = tt

answer_told : (bytes line text : List ℕ) (answer : Answer) → CanTell bytes line true
    → IsSoughtText line answer bytes text → IsAnswerText (Some line) answer bytes text
answer_told bytes line text Told can h = (can, h)
answer_told bytes line text Found can h = (can, h)
answer_told bytes line text TooMany can h = h
answer_told bytes line text CannotTell can h = absurd h

-- what is told of a line that the script can tell
pub sought_told : (bytes line : List ℕ) (can : Bool) (r : Result Reply Fault) → CanTell bytes line can → can ≡ true
    → IfOk r (λ reply. IsSoughtText line reply.answer bytes reply.text.items)
    → IfOk r (λ reply. IsAnswerText (Some line) reply.answer bytes reply.text.items)
sought_told bytes line true (Ok reply) can is h = answer_told bytes line reply.text.items reply.answer can h
sought_told bytes line true (Err fault) can is h = tt
sought_told bytes line false r can is h = absurd cc

-- nothing is told of another one
pub not_told : (bytes line : List ℕ) (can : Bool) (reply : Reply) → CanTell bytes line can → can ≡ false
    → reply.answer ≡ CannotTell → reply.text.items ≡ []
    → IsAnswerText (Some line) reply.answer bytes reply.text.items
not_told bytes line false reply can is answer none =
    let P : Answer → Type 0 = λ a. IsAnswerText (Some line) a bytes reply.text.items in
    subst P (sym answer) (can, none)
not_told bytes line true reply can is answer none = absurd cc

-- a line of what is left, and one of a thread
pub left_tells : (left thread is : Bool) → is ≡ left → is ≡ true → true ≡ (left || thread)
left_tells true thread is same told = refl
left_tells false thread is same told = absurd cc

pub thread_may : (left thread is can : Bool) → is ≡ left → is ≡ false → can ≡ thread → can ≡ (left || thread)
thread_may true thread is can same other h = absurd cc
thread_may false thread is can same other h = h
