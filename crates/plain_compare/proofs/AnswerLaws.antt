-- Laws of a lookup in a list that has passed its checks: it is never refused, and what it finds is what the list answers.
use Prim.Native.Nat.{ℕ, ◌^◌, ◌<◌}
use mathlib.Core.Path.{◌≡◌, refl, sym, ap, ◌∙◌}
use mathlib.Core.List.{List}
use mathlib.Core.Bool.{Bool, true, false}
use lib.ListN.{length}
use lib.Dec.{ltb}
use Rattle.words.specs.declared.Word.{Word}
use Rattle.words.specs.Halves.{num, halves}
use Rattle.words.proofs.WordLaws.{holds}
use Rattle.rules.specs.declared.Refusal.{Refusal}
use Rattle.rules.specs.declared.Hit.{Hit}
use Rattle.std.specs.Prelude.{Option, Some, None, Result, Ok, Err, is_ok, MatchOption}
use Rattle.rules.specs.Rules.{no_match, answer, position}
use Rattle.rules.specs.Slices.{rules_of}
use Rattle.rules.specs.Replies.{Gives, passed, looked_reply}
use Rattle.rules.specs.Checks.{Sound}
use Rattle.rules.specs.Calls.{check_list, looked_up, gives_if}
use Rattle.rules.proofs.ReplyLaws.{gives-refuses}
use Rattle.rules.proofs.CheckLaws.{sound-list}
use Rattle.rules.proofs.HitLaws.{misses-first}
use Rattle.rules.proofs.AnswerLaws.{looked-found, hit-told, miss-exactly}

-- what gives values or none is no refusal
given : (t : Bool) (r : Result (Option Hit) Refusal) (xs ys : List ℕ) → looked_reply r ≡ gives_if t (Gives xs) (Gives ys) → is_ok r ≡ true
given t (Ok o) xs ys e = refl
given true (Err x) xs ys e = absurd (gives-refuses (sym e))
given false (Err x) xs ys e = absurd (gives-refuses (sym e))

module _ (w : ℕ) (cs vs ds : List ℕ) (h : ℕ) (S : Sound w cs vs ds) (l : h < 2 ^ w) {x : Word} (e : x ≡ halves h)
    (looked : Result (Option Hit) Refusal) (p : looked_reply looked ≡ looked_up w cs vs ds (num x)) where
  told : looked_up w cs vs ds h ≡ looked_reply looked
  told = sym (p ∙ ap (looked_up w cs vs ds) (holds e))

  fine : check_list w 1 cs vs ds ≡ passed
  fine = sound-list w 1 cs vs ds S

  pub never-refused : is_ok looked ≡ true
  never-refused = given (ltb (position (rules_of cs vs ds) h) (length (rules_of cs vs ds))) looked _ _ (sym told ∙ looked-found w cs vs ds h fine l)

  pub answer-told : (o : Option Hit) (a : ℕ) → looked ≡ Ok o → MatchOption o (a ≡ no_match) (λ k. a ≡ k.decision) → a ≡ answer (rules_of cs vs ds) h
  answer-told (Some k) a q m = m ∙ sym (hit-told w cs vs ds h k.number k.decision (told ∙ ap looked_reply q)).4
  answer-told None a q m = m ∙ sym (misses-first (rules_of cs vs ds) h no_match ((miss-exactly w cs vs ds h fine l).0 (told ∙ ap looked_reply q)))
