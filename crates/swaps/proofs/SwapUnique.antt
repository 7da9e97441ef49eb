-- No second result: for each public call on bit-swaps, two results that meet its promise are equal.
use mathlib.Core.Path.{◌≡◌, sym, ap, ◌∙◌}
use mathlib.Core.List.{List}
use Prim.Native.Nat.{ℕ}
use Rattle.std.specs.Prelude.{Result, Ok, Err, Option}
use Rattle.words.specs.declared.Word.{Word}
use Rattle.words.specs.Words.{place_bit}
use Rattle.words.specs.Halves.{num, halves}
use Rattle.rules.specs.declared.Rule.{Rule as Held}
use Rattle.rules.specs.Rule.{rule_of, held}
use Rattle.rules.specs.declared.Wire.{Wire}
use Rattle.rules.specs.declared.Hit.{Hit}
use Rattle.rules.specs.declared.Refusal.{Refusal}
use Rattle.swaps.specs.declared.swaps.Swap.{Swap}
use Rattle.swaps.specs.declared.swaps.Swapped.{Swapped}
use Rattle.rules.specs.Replies.{Reply, looked_reply, refusal_reply}
use Rattle.rules.specs.Checks.{widest}
use Rattle.rules.specs.Calls.{looked_up}
use Rattle.swaps.specs.Swaps.{moved, moved_rule, inverse}
use Rattle.swaps.specs.SwapCalls.{SwapGiven, check_swap, check_swap_rule, check_swap_header, check_swaps, inverted, joined}
use Rattle.rules.proofs.ReplyLaws.{gives-refuses, one-refusal, one-looked}

-- ---- one answer behind the same checks

pub one-swap-given : {A : Type 0} (check : Reply) (x : A) (a b : Result A Refusal) → SwapGiven check x a → SwapGiven check x b → a ≡ b
one-swap-given check x (Ok y) (Ok z) p q = ap Ok (p.1 ∙ sym q.1)
one-swap-given check x (Ok y) (Err z) p q = absurd (gives-refuses (p.0 ∙ sym q))
one-swap-given check x (Err y) (Ok z) p q = absurd (gives-refuses (q.0 ∙ sym p))
one-swap-given check x (Err y) (Err z) p q = ap Err (one-refusal y z (p ∙ sym q))

-- ---- one result for each call

-- `apply_rule`
pub apply-rule-once : (s : Swap) (r : Held) (a b : Result Held Refusal)
    → SwapGiven (check_swap_rule widest s (rule_of r)) (held (moved_rule s.width s.places (rule_of r))) a
    → SwapGiven (check_swap_rule widest s (rule_of r)) (held (moved_rule s.width s.places (rule_of r))) b → a ≡ b
apply-rule-once s r a b p q = one-swap-given _ _ a b p q

-- `apply`
pub apply-once : (s : Swap) (h : Wire) (a b : Result Swapped Refusal)
    → SwapGiven (check_swap_header widest s (num h.0)) (record { 0 = halves (moved s.width s.places (num h.0)) }) a
    → SwapGiven (check_swap_header widest s (num h.0)) (record { 0 = halves (moved s.width s.places (num h.0)) }) b → a ≡ b
apply-once s h a b p q = one-swap-given _ _ a b p q

-- `undo`
pub undo-once : (s : Swap) (h : Swapped) (a b : Result Wire Refusal)
    → SwapGiven (check_swap_header widest s (num h.0)) (record { 0 = halves (moved s.width (inverse widest s.width s.places) (num h.0)) }) a
    → SwapGiven (check_swap_header widest s (num h.0)) (record { 0 = halves (moved s.width (inverse widest s.width s.places) (num h.0)) }) b → a ≡ b
undo-once s h a b p q = one-swap-given _ _ a b p q

-- `invert`
pub invert-once : (s : Swap) (a b : Result Swap Refusal) → SwapGiven (check_swap widest s) (inverted widest s) a → SwapGiven (check_swap widest s) (inverted widest s) b → a ≡ b
invert-once s a b p q = one-swap-given _ _ a b p q

-- `compose`
pub compose-once : (s t : Swap) (a b : Result Swap Refusal) → SwapGiven (check_swaps widest s t) (joined widest s t) a → SwapGiven (check_swaps widest s t) (joined widest s t) b → a ≡ b
compose-once s t a b p q = one-swap-given _ _ a b p q

-- `lookup_swapped`
pub lookup-swapped-once : (w : ℕ) (cs vs ds : List ℕ) (h : Swapped) (a b : Result (Option Hit) Refusal)
    → looked_reply a ≡ looked_up w cs vs ds (num h.0) → looked_reply b ≡ looked_up w cs vs ds (num h.0) → a ≡ b
lookup-swapped-once w cs vs ds h a b p q = one-looked a b (p ∙ sym q)

-- `place_bit`
pub place-bit-once : (w : ℕ) (x : Word) (p : ℕ) (a b : ℕ) → a ≡ place_bit w (num x) p → b ≡ place_bit w (num x) p → a ≡ b
place-bit-once w x p a b q r = q ∙ sym r

-- a swap that is refused: whatever swap the call would have given, its one answer is the refusal
pub refused-swap-once : (check : Reply) (s : Swap) (x : Refusal) (a b : Result Swap Refusal) → check ≡ refusal_reply x → SwapGiven check s a → SwapGiven check s b
    → (a ≡ Err x) × (b ≡ Err x)
refused-swap-once check s x a b e p q =
    (one-swap-given check s a (Err x) p (sym e), one-swap-given check s b (Err x) q (sym e))

-- such answers are equal
pub refused-swaps-equal : (x : Refusal) (a b : Result Swap Refusal) → a ≡ Err x → b ≡ Err x → a ≡ b
refused-swaps-equal x a b p q = p ∙ sym q
