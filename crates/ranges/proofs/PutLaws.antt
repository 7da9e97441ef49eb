-- Laws of writing: how far two slices hold the prefixes of a range, from none of them to all.
use mathlib.Core.Path.{◌≡◌, refl, sym, ap, ap₂, ◌∙◌}
use mathlib.Core.List.{List, [], ◌∷◌, ◌++◌, map, map-append, append-nil, append_assoc}
use Prim.Native.Nat.{ℕ, suc, ◌+◌, ◌^◌, ◌≤◌, ◌<◌}
use native.Mathlib.Omega.{arith}
use lib.ListN.{length, drop, set, length-append, length-map}
use lib.Seq.{drop-cons, set_at, append_snoc}
use Rattle.ranges.specs.Prefixes.{Prefix, prefix, care_word, value_word}
use Rattle.ranges.specs.Ranges.{covering}
use Rattle.ranges.specs.Calls.{words_put}
use Rattle.ranges.specs.Inner.{Widest, PrefixesPut}
use Rattle.ranges.proofs.CoverLaws.{cover-none}
use Rattle.ranges.proofs.StepLaws.{widest-first}

-- ---- one slice

put-none : (f : Prefix → ℕ) (old : List ℕ) → old ≡ words_put f [] old
unfolding words_put
put-none f old = refl

put-more : (f : Prefix → ℕ) (ps : List Prefix) (p : Prefix) (old : List ℕ) (n : ℕ) → length ps ≡ n → n < length old
    → set (words_put f ps old) n (f p) ≡ words_put f (ps ++ (p ∷ [])) old
unfolding words_put
put-more f ps p old n e h =
    let long : length (map f ps) ≡ n = length-map ps f ∙ e in
    let next : length (ps ++ (p ∷ [])) ≡ suc (length ps) = length-append ps (p ∷ []) ∙ omega arith in
    ap (λ (xs : List ℕ). set (map f ps ++ xs) n (f p)) (drop-cons old (length ps) 0 (omega arith))
    ∙ set_at (map f ps) _ (drop (suc (length ps)) old) (f p) n long
    ∙ sym (append_snoc (map f ps) (f p) (drop (suc (length ps)) old))
    ∙ ap₂ (λ (xs : List ℕ) (m : ℕ). xs ++ drop m old) (sym (map-append f ps (p ∷ []))) (sym next)

-- ---- both slices

-- The prefixes of the numbers below `at` are written, n of them; those of the rest are not.
pub record Putting (b low end : ℕ) (cs vs : List ℕ) (at n : ℕ) (cs' vs' : List ℕ) : Type 0 where
  done : List Prefix
  all : covering b low end ≡ done ++ covering b at end
  size : length done ≡ n
  cares : cs' ≡ words_put (care_word b) done cs
  values : vs' ≡ words_put value_word done vs

pub putting-none : (b low end : ℕ) (cs vs : List ℕ) → Putting b low end cs vs low 0 cs vs
putting-none b low end cs vs = record { done = []; all = refl; size = refl; cares = put-none (care_word b) cs; values = put-none value_word vs }

module _ (b low end : ℕ) (cs vs : List ℕ) (at n : ℕ) (cs' vs' : List ℕ) (x : Putting b low end cs vs at n cs' vs') where
  -- all of them are as many as are written, and those of the rest
  pub putting-count : length (covering b low end) ≡ n + length (covering b at end)
  putting-count = ap length x.all ∙ length-append x.done (covering b at end) ∙ ap (λ (m : ℕ). m + length (covering b at end)) x.size

  pub putting-more : (k size care : ℕ) → end ≤ 2 ^ b → Widest at end k → size ≡ 2 ^ k → care ≡ care_word b (prefix k at) → n < length cs → n < length vs
      → Putting b low end cs vs (at + size) (n + 1) (set cs' n care) (set vs' n at)
  putting-more k size care h w z e p q =
      record {
        done = x.done ++ (prefix k at ∷ []);
        all = x.all ∙ ap (λ (ps : List Prefix). x.done ++ ps) (widest-first b at end k h w) ∙ sym (append_assoc x.done (prefix k at ∷ []) (covering b (at + 2 ^ k) end)) ∙ ap (λ (y : ℕ). x.done ++ (prefix k at ∷ []) ++ covering b (at + y) end) (sym z);
        size = length-append x.done (prefix k at ∷ []) ∙ ap (λ (m : ℕ). m + 1) x.size;
        cares = ap₂ (λ (l : List ℕ) (a : ℕ). set l n a) x.cares e ∙ put-more (care_word b) x.done (prefix k at) cs n x.size p;
        values = ap (λ (l : List ℕ). set l n at) x.values ∙ put-more value_word x.done (prefix k at) vs n x.size q;
      }

  pub putting-done : end ≤ at → PrefixesPut b low end cs vs cs' vs' n
  putting-done h =
      let e : covering b low end ≡ x.done = x.all ∙ ap (λ (ps : List Prefix). x.done ++ ps) (cover-none b at end h) ∙ append-nil x.done in
      record {
        count = sym x.size ∙ sym (ap length e);
        cares = x.cares ∙ ap (λ (ps : List Prefix). words_put (care_word b) ps cs) (sym e);
        values = x.values ∙ ap (λ (ps : List Prefix). words_put value_word ps vs) (sym e);
      }
