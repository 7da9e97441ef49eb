-- Each call's promise leaves no second result: two results that both meet it are equal, and so are the lent slices afterwards.
use mathlib.Core.Path.{◌≡◌, sym, ◌∙◌}
use mathlib.Core.List.{List, [], ◌∷◌}
use Prim.Native.Nat.{ℕ}
use Rattle.std.specs.Prelude.{Result}
use Rattle.rules.specs.declared.Refusal.{Refusal}
use Rattle.rules.specs.Replies.{Gives, verdict_reply, number_reply}
use Rattle.rules.proofs.ReplyLaws.{one-reply, one-verdict, one-number, two-values}
use Rattle.image.specs.declared.Listed.{Listed}
use Rattle.image.specs.Replies.{listed_reply}
use Rattle.image.specs.Calls.{format_reply, width_reply, count_reply, entry_reply, id_check, body_of, ReadOut}

-- ---- one answer for each reply

one_listing : (x y : Listed) → Gives (x.id ∷ x.rules ∷ []) ≡ Gives (y.id ∷ y.rules ∷ []) → x ≡ y
one_listing x y e = let p = two-values e in λ j. record { id = p.0 j; rules = p.1 j }

pub one-listed : (x y : Result Listed Refusal) → listed_reply x ≡ listed_reply y → x ≡ y
one-listed x y e = one-reply (λ l. l.id ∷ l.rules ∷ []) one_listing x y e

-- ---- the calls

module _ (b : List ℕ) where
  -- format
  pub format-once : (x y : Result ℕ Refusal) → number_reply x ≡ format_reply b → number_reply y ≡ format_reply b → x ≡ y
  format-once x y p q = one-number x y (p ∙ sym q)

  -- width
  pub width-once : (x y : Result ℕ Refusal) → number_reply x ≡ width_reply b → number_reply y ≡ width_reply b → x ≡ y
  width-once x y p q = one-number x y (p ∙ sym q)

  -- count
  pub count-once : (x y : Result ℕ Refusal) → number_reply x ≡ count_reply b → number_reply y ≡ count_reply b → x ≡ y
  count-once x y p q = one-number x y (p ∙ sym q)

  -- entry
  pub entry-once : (k : ℕ) (x y : Result Listed Refusal) → listed_reply x ≡ entry_reply b k → listed_reply y ≡ entry_reply b k → x ≡ y
  entry-once k x y p q = one-listed x y (p ∙ sym q)

  -- body_refusal
  pub body-refusal-once : (id : ℕ) (x y : Result (Unit {0}) Refusal) → verdict_reply x ≡ id_check b id → verdict_reply y ≡ id_check b id → x ≡ y
  body-refusal-once id x y p q = one-verdict x y (p ∙ sym q)

  -- body
  pub body-once : (id : ℕ) (x y : List ℕ) → x ≡ body_of b id → y ≡ body_of b id → x ≡ y
  body-once id x y p q = p ∙ sym q

  -- read
  pub read-once : (id : ℕ) (cs vs ds : List ℕ) (x y : Result ℕ Refusal) (cs₁ vs₁ ds₁ cs₂ vs₂ ds₂ : List ℕ)
      → ReadOut b id cs vs ds x cs₁ vs₁ ds₁ → ReadOut b id cs vs ds y cs₂ vs₂ ds₂ → (x ≡ y) × (cs₁ ≡ cs₂) × (vs₁ ≡ vs₂) × (ds₁ ≡ ds₂)
  read-once id cs vs ds x y cs₁ vs₁ ds₁ cs₂ vs₂ ds₂ p q =
      (one-number x y (p.answer ∙ sym q.answer), p.cares ∙ sym q.cares, p.values ∙ sym q.values, p.decisions ∙ sym q.decisions)
