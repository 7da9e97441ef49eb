-- Laws of text that is put into a slice.
use mathlib.Core.Path.{◌≡◌, refl, sym, ap, ◌∙◌}
use mathlib.Core.List.{List, [], ◌∷◌, ◌++◌, append_assoc}
use Prim.Native.Nat.{ℕ, suc, ◌+◌, ◌≤◌, ◌<◌}
use native.Mathlib.Omega.{arith}
use native.Mathlib.Numerals.{add-one}
use lib.Dec.{ltb}
use lib.ListN.{length, get_or, take, drop, set}
use lib.Seq.{drop-cons, set_at, take_at}
use borrow.Author.Tests.{ltb-true, ltb-false}
use Rattle.words.proofs.Tests.{split}
use Rattle.rules.specs.Replies.{Reply, unless_refused}
use Rattle.rules.proofs.CheckLaws.{room-yes, room-no}
use Rattle.std.specs.Prelude.{Option, Some, None}
use Rattle.std.proofs.lemmas.Option.{none-some, same_Some}
use Rattle.text.specs.Put.{fitting, count_of, over_start, Put}

-- ---- byte by byte

-- one byte more, after those that stand at the start
pub put_next : (front : List ℕ) (k b : ℕ) (old now : List ℕ) → length front ≡ k → k < length old → now ≡ front ++ drop k old
    → set now k b ≡ (front ++ (b ∷ [])) ++ drop (k + 1) old
put_next front k b old now e h f =
    ap (λ (l : List ℕ). set l k b) (f ∙ ap (λ (l : List ℕ). front ++ l) (drop-cons old k 0 h))
    ∙ set_at front (get_or old k 0) (drop (suc k) old) b k e
    ∙ sym (append_assoc front (b ∷ []) (drop (suc k) old))
    ∙ ap (λ (n : ℕ). (front ++ (b ∷ [])) ++ drop n old) (sym (add-one k))

-- ---- the whole text, or nothing

module _ (bytes old : List ℕ) where
  fits : length bytes ≤ length old → fitting (length old) (Some bytes) ≡ Some bytes
  unfolding fitting
  fits h = ap (λ (k : Reply). unless_refused k (Some bytes) None) (room-yes _ _ h)

  too_long : length old < length bytes → fitting (length old) (Some bytes) ≡ None
  unfolding fitting
  too_long h = ap (λ (k : Reply). unless_refused k (Some bytes) None) (room-no _ _ h)

  -- a text that there is room for is put whole
  pub put_all : (n : ℕ) (new : List ℕ) → n ≡ length bytes → n ≤ length old → new ≡ bytes ++ drop n old → Put (Some bytes) old (Some n) new
  put_all n new f h e =
      let g : fitting (length old) (Some bytes) ≡ Some bytes = fits (omega arith) in
      record {
        size = ap Some f ∙ ap count_of (sym g);
        text = e ∙ ap (λ (k : ℕ). bytes ++ drop k old) f ∙ ap (λ (t : Option (List ℕ)). over_start t old) (sym g);
      }

  -- one that is too long changes nothing
  pub put-short : length old < length bytes → Put (Some bytes) old None old
  put-short h =
      let g = sym (too_long h) in
      record { size = ap count_of g; text = ap (λ (t : Option (List ℕ)). over_start t old) g }

  -- where bytes are put, the whole text stands at the start
  pub put_whole : (n : ℕ) (new : List ℕ) → Put (Some bytes) old (Some n) new → take n new ≡ bytes
  put_whole n new p =
      split (ltb (length old) (length bytes))
      (λ t. absurd (none-some n (sym (p.size ∙ ap count_of (too_long (ltb-true _ _ t))))))
      (λ t.
      let g : fitting (length old) (Some bytes) ≡ Some bytes = fits (ltb-false _ _ t) in
      let e : n ≡ length bytes = same_Some _ _ (p.size ∙ ap count_of g) in
      ap (take n) (p.text ∙ ap (λ (t : Option (List ℕ)). over_start t old) g) ∙ take_at bytes (drop (length bytes) old) n (sym e))

-- where there is no text, nothing changes
pub put-none : (old : List ℕ) → Put None old None old
unfolding fitting
put-none old = record { size = refl; text = refl }
