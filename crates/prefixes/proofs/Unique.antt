-- The promise of the prefix bit-swap leaves no second result: two results that both meet it are equal.
use mathlib.Core.Path.{◌≡◌}
use mathlib.Core.List.{List}
use Prim.Native.Nat.{ℕ}
use Rattle.std.specs.Prelude.{Result}
use Rattle.rules.specs.declared.Refusal.{Refusal}
use Rattle.swaps.specs.declared.swaps.Swap.{Swap}
use Rattle.rules.specs.Slices.{rules_of}
use Rattle.rules.specs.Checks.{widest}
use Rattle.swaps.specs.SwapCalls.{SwapGiven}
use Rattle.prefixes.specs.Prefix.{check_prefix, prefix_swap}
use Rattle.swaps.proofs.SwapUnique.{one-swap-given}

-- `prefix_swap`
pub prefix-swap-once : (w : ℕ) (cs vs ds : List ℕ) (a b : Result Swap Refusal)
    → SwapGiven (check_prefix w cs vs ds) (prefix_swap widest w (rules_of cs vs ds)) a
    → SwapGiven (check_prefix w cs vs ds) (prefix_swap widest w (rules_of cs vs ds)) b → a ≡ b
prefix-swap-once w cs vs ds a b p q = one-swap-given _ _ a b p q
