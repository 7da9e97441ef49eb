-- What the call `needed_at` owes its user, read off its own promise (request 12).
use Prim.Native.Nat.{ℕ}
use mathlib.Core.Path.{◌≡◌, sym, ap, ap₂, ◌∙◌}
use mathlib.Core.Logic.{⊎_elim}
use mathlib.Core.List.{List, [], ◌∷◌}
use Rattle.words.specs.Halves.{word, num, halves}
use Rattle.words.specs.Slices.{halves_of}
use Rattle.words.proofs.WordLaws.{num-halves}
use Rattle.rules.specs.Rule.{Rule}
use Rattle.rules.specs.Slices.{rules_of}
use Rattle.rules.specs.Replies.{Gives}
use Rattle.rules.specs.Calls.{check_list}
use Rattle.rules.specs.declared.Wire.{Wire}
use Rattle.rules.proofs.ReplyLaws.{two-values, two_none, then-second}
use Rattle.std.specs.Prelude.{Option, Some, None, Result, Ok}
use Rattle.rules.specs.declared.Refusal.{Refusal}
use Rattle.compare.specs.Needed.{lowest_change, DoesNothing, LowestChange, needed_reply, needed_at}
use Rattle.compare.proofs.NeededLaws.{nothing-exactly, lowest-exactly, none-or-one}

-- no header and one header, as the values of a reply
pub given-none : (l : List ℕ) → l ≡ [] → Gives (halves_of l) ≡ Gives []
unfolding halves_of
given-none l e = ap (λ (x : List ℕ). Gives (halves_of x)) e

pub given-one : (l : List ℕ) (h : ℕ) → l ≡ h ∷ [] → Gives (halves_of l) ≡ Gives ((halves h).low ∷ (halves h).high ∷ [])
unfolding halves_of
given-one l h e = ap (λ (x : List ℕ). Gives (halves_of x)) e

-- An answer that tells the lowest header of a list.
module _ (w : ℕ) (rs : List Rule) (k : ℕ) (r : Result (Option Wire) Refusal) (told : needed_reply r ≡ Gives (halves_of (lowest_change w rs k))) where
  pub at-lowest : (h : Wire) → r ≡ Ok (Some h) → lowest_change w rs k ≡ num h.0 ∷ []
  at-lowest h e =
      let t = sym (ap needed_reply e) ∙ told in
      ⊎_elim (λ n. absurd (two_none (t ∙ given-none _ n)))
      (λ p.
      let q = two-values (t ∙ given-one _ p.0 p.1) in
      p.1 ∙ ap (λ (x : ℕ). x ∷ []) (sym (ap₂ (λ (a b : ℕ). num (word a b)) q.0 q.1 ∙ num-halves p.0)))
      (none-or-one w rs k)

  pub nowhere-lowest : r ≡ Ok None → lowest_change w rs k ≡ []
  nowhere-lowest e =
      ⊎_elim (λ n. n) (λ p. absurd (two_none (sym (sym (ap needed_reply e) ∙ told ∙ given-one _ p.0 p.1)))) (none-or-one w rs k)

module _ (w : ℕ) (cs vs ds : List ℕ) (k : ℕ) (r : Result (Option Wire) Refusal) (promise : needed_reply r ≡ needed_at w cs vs ds k) where
  found : {ns : List ℕ} → needed_reply r ≡ Gives ns → needed_reply r ≡ Gives (halves_of (lowest_change w (rules_of cs vs ds) k))
  unfolding needed_at
  found {ns} e = e ∙ sym (then-second (check_list w 1 cs vs ds) _ ns (sym promise ∙ e))

  -- A header is told: it is the lowest that gets another answer when the rule at that position is taken from the list.
  pub told-needed : (h : Wire) → r ≡ Ok (Some h) → LowestChange w (rules_of cs vs ds) k (num h.0)
  told-needed h e = (lowest-exactly w (rules_of cs vs ds) k (num h.0)).0 (at-lowest w (rules_of cs vs ds) k r (found (ap needed_reply e)) h e)

  -- Nowhere: every header of the width gets the same answer without the rule.
  pub told-nowhere : r ≡ Ok None → DoesNothing w (rules_of cs vs ds) k
  told-nowhere e = (nothing-exactly w (rules_of cs vs ds) k).0 (nowhere-lowest w (rules_of cs vs ds) k r (found (ap needed_reply e)) e)
