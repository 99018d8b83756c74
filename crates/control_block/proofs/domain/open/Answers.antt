use Rattle.std.proofs.Common.{◌≡◌, ℕ, length, replicate, None, sym, refl, ap, ◌∙◌, subst, inl, inr}
use Rattle.std.proofs.Common.{true≢false, arith, rules}
use Rattle.control_block.proofs.Prelude.{length-replicate, opening, opens_with, Ruled}
use Rattle.std.proofs.lemmas.Grind.{common_steps}
use Rattle.control_block.proofs.words.Opening.{opens, first_desk}
use Rattle.control_block.proofs.domain.open.Goals as goal

pub new-requires-2 : goal.new-requires-2
new-requires-2 g c =
    let e : c.in_ok-words.words.items ≡ replicate c.table_words.result 0 = first_of (search rules, grind (arith, common_steps)) in
    subst (λ l. Ruled c.args.shape (opening c.as_slice.result.now l (opens_with c.args.shape)))
    (sym (c.in_ok-slots.ensures ∙ c.in_ok-new.ensures.count))
    (opens c.args.shape (c.if-not-is_within_limits.ensures.0 refl) _
    (c.as_slice.ensures.value ∙ (e ∙ ap (λ (n : ℕ). replicate n 0) c.table_words.ensures)))

pub invariant_of-desk : goal.invariant_of-desk
invariant_of-desk g c =
    let e : c.in_ok-words.words.items ≡ replicate c.table_words.result 0 = first_of (search rules, grind (arith, common_steps)) in
    let t = c.in-Ok.ensures.ok in
    let slots = ap length (c.in_ok-slots.ensures ∙ c.in_ok-new.ensures.count) ∙ length-replicate _ None in
    let words = ap length (c.as_slice.ensures.value ∙ e) ∙ (length-replicate c.table_words.result 0 ∙ c.table_words.ensures) in
    first_desk _ c.args.shape (c.if-not-is_within_limits.ensures.0 refl) t.4
    record { words = ap (λ x. x.words) t.2 ∙ (t.0 ∙ words); slots = ap (λ x. x.slots) t.2 ∙ (t.1 ∙ slots) } refl refl refl
    c.in_ok-store.ensures.0 c.in_ok-store.ensures.1

pub returns-then-not-is_within_limits-clause-refused : goal.returns-then-not-is_within_limits-clause-refused
returns-then-not-is_within_limits-clause-refused g c = inr refl

pub returns-then-not-is_within_limits-clause-shape : goal.returns-then-not-is_within_limits-clause-shape
returns-then-not-is_within_limits-clause-shape g c =
    (λ _ w. true≢false (sym (c.is_within_limits.ensures.1 w) ∙ c.if-not-is_within_limits.true), λ _. refl)

pub returns-in-Err-clause-refused : goal.returns-in-Err-clause-refused
returns-in-Err-clause-refused g c = inl refl

pub returns-in-Err-clause-shape : goal.returns-in-Err-clause-shape
returns-in-Err-clause-shape g c = (λ e. absurd (cc e), λ n. absurd (n (c.if-not-is_within_limits.ensures.0 refl)))

pub returns-clause-refused : goal.returns-clause-refused
returns-clause-refused g c = tt

pub returns-clause-shape : goal.returns-clause-shape
returns-clause-shape g c = tt

pub returns-clause-within : goal.returns-clause-within
returns-clause-within g c = c.if-not-is_within_limits.ensures.0 refl

pub returns-then-not-is_within_limits-clause-begins : goal.returns-then-not-is_within_limits-clause-begins
returns-then-not-is_within_limits-clause-begins g c = tt

pub returns-then-not-is_within_limits-clause-within : goal.returns-then-not-is_within_limits-clause-within
returns-then-not-is_within_limits-clause-within g c = tt

pub returns-in-Err-clause-begins : goal.returns-in-Err-clause-begins
returns-in-Err-clause-begins g c = tt

pub returns-in-Err-clause-within : goal.returns-in-Err-clause-within
returns-in-Err-clause-within g c = tt
