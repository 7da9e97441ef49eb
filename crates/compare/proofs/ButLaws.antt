-- Laws of the set of all rules but one: it answers as the list without that rule.
use Prim.Native.Nat.{ℕ, zero, suc, ◌+◌, ◌-◌, ◌*◌, ◌/◌, ◌%◌, ◌^◌, ◌<◌}
use mathlib.Core.Path.{◌≡◌, refl, sym, ap, ap₂, ◌∙◌}
use mathlib.Core.List.{List, [], ◌∷◌}
use mathlib.Core.Bool.{Bool, not, cond, ◌&&◌}
use native.Mathlib.Omega.{arith}
use native.Mathlib.Nat.{le_refl}
use native.Mathlib.Decide.{ℕ_discrete}
use lib.ListN.{length, get_or, set, length-set, get_or-replicate}
use lib.Seq.{get_or-set_same, get_or-set_other}
use lib.Dec.{eqb}
use lib.Bits.{bit_and}
use borrow.Author.Tests.{eq-eqb, ne_eqb}
use Rattle.words.specs.Words.{bit, without as less}
use Rattle.words.specs.Slices.{words_of}
use Rattle.words.proofs.BitLaws.{and_pow, bit-without, bit-power, power-other}
use Rattle.rules.specs.Rules.{matches, first}
use Rattle.rules.specs.Lists.{except}
use Rattle.rules.specs.Slices.{zipped, rules_of}
use Rattle.rules.proofs.ZipLaws.{Equal}
use Rattle.compare.specs.EngineSets.{Ready, set_word, member, hit, first_from, answer_of}
use Rattle.compare.specs.Search.{AllBut}
use Rattle.compare.proofs.EngineFirst.{rest_end, rest-same}
use Rattle.compare.proofs.EngineMembers.{word_in, power}
use Rattle.compare.proofs.EngineRules.{answer-rest}
use Rattle.compare.proofs.EngineWhole.{all, one_place, fits, first_tail, choose-cond, list-first}

-- ---- the set

-- all bits of a word but bit t
abbrev most : ℕ → ℕ
most t = 18446744073709551615 - 1 * 2 ^ t % 18446744073709551616

most-bit : (t s : ℕ) → t < 64 → s < 64 → bit (most t) s ≡ 1 - bit (2 ^ t) s
unfolding less
most-bit t s l l' =
    let a : bit_and 18446744073709551615 (2 ^ t) ≡ 2 ^ t = and_pow 18446744073709551615 t ∙ ap (λ (x : ℕ). x * 2 ^ t) (one_place t l) ∙ omega arith in
    ap (λ (x : ℕ). bit x s) (ap (λ (x : ℕ). 18446744073709551615 - x) (power t l ∙ sym a))
    ∙ bit-without 18446744073709551615 (2 ^ t) s
    ∙ ap (λ (x : ℕ). x - bit (2 ^ t) s) (one_place s l')

module _ (i : ℕ) (few : i < 1024) where
  abbrev but : List ℕ
  but = set all (i / 64 + 1) (most (i % 64))

  word-here : (j : ℕ) → j / 64 ≡ i / 64 → set_word but (j / 64) ≡ most (i % 64)
  word-here j e =
      word_in but (j / 64) (ap (λ (x : ℕ). bit x (j / 64)) (get_or-set_other all (i / 64 + 1) 0 (most (i % 64)) 0 (λ q. omega arith)) ∙ one_place (j / 64) (omega arith))
      ∙ ap (λ (x : ℕ). get_or but (x + 1) 0) e
      ∙ get_or-set_same all (i / 64 + 1) (most (i % 64)) 0 (omega arith)

  word-there : (j : ℕ) → j < 1024 → (j / 64 ≡ i / 64 → ⊥) → set_word but (j / 64) ≡ 18446744073709551615
  word-there j l n =
      word_in but (j / 64) (ap (λ (x : ℕ). bit x (j / 64)) (get_or-set_other all (i / 64 + 1) 0 (most (i % 64)) 0 (λ q. omega arith)) ∙ one_place (j / 64) (omega arith))
      ∙ get_or-set_other all (i / 64 + 1) (j / 64 + 1) (most (i % 64)) 0 (λ q. n (omega arith))
      ∙ get_or-replicate 17 (j / 64 + 1) 18446744073709551615 0 (omega arith)

  but-member : (j : ℕ) → j < 1024 → member but j ≡ not (eqb j i)
  unfolding member
  but-member j l = go (ℕ_discrete (j / 64) (i / 64)) (ℕ_discrete (j % 64) (i % 64))
    where
      go : Dec (j / 64 ≡ i / 64) → Dec (j % 64 ≡ i % 64) → eqb (bit (set_word but (j / 64)) (j % 64)) 1 ≡ not (eqb j i)
      go (yes e) (yes q) =
          ap (λ (x : ℕ). eqb x 1) (ap (λ (x : ℕ). bit x (j % 64)) (word-here j e) ∙ most-bit (i % 64) (j % 64) (omega arith) (omega arith) ∙ ap (λ (x : ℕ). 1 - bit (2 ^ (i % 64)) x) q ∙ ap (λ (x : ℕ). 1 - x) (bit-power (i % 64)))
          ∙ ap not (sym (eq-eqb j i (omega arith)))
      go (yes e) (no n) =
          ap (λ (x : ℕ). eqb x 1) (ap (λ (x : ℕ). bit x (j % 64)) (word-here j e) ∙ most-bit (i % 64) (j % 64) (omega arith) (omega arith) ∙ ap (λ (x : ℕ). 1 - x) (power-other (i % 64) (j % 64) n))
          ∙ ap not (sym (ne_eqb j i (λ q. n (omega arith))))
      go (no n) d =
          ap (λ (x : ℕ). eqb x 1) (ap (λ (x : ℕ). bit x (j % 64)) (word-there j l n) ∙ one_place (j % 64) (omega arith))
          ∙ ap not (sym (ne_eqb j i (λ q. n (omega arith))))

  -- what taking a rule out of play leaves
  pub all_but : (live : List ℕ) → live ≡ all → AllBut (set live (i / 64 + 1) (most (i % 64))) i
  all_but live e = rw e (record { sized = length-set all (i / 64 + 1) (most (i % 64)); others = but-member })

-- ---- what it answers

-- rule j matches h and is not rule i
abbrev fits-but : List ℕ → List ℕ → ℕ → ℕ → ℕ → Bool
fits-but cs vs h i j = not (eqb j i) && fits cs vs h j

eqb-suc : (j i : ℕ) → eqb (suc j) (suc i) ≡ eqb j i
eqb-suc j i = go (ℕ_discrete j i)
  where
    go : Dec (j ≡ i) → eqb (suc j) (suc i) ≡ eqb j i
    go (yes e) = eq-eqb (suc j) (suc i) (ap suc e) ∙ sym (eq-eqb j i e)
    go (no n) = ne_eqb (suc j) (suc i) (λ e. n (omega arith)) ∙ sym (ne_eqb j i n)

first-like : (f g : ℕ → Bool) → ((j : ℕ) → f j ≡ g j) → (ds : List ℕ) (miss k i : ℕ) → first_from f ds miss k i ≡ first_from g ds miss k i
unfolding first_from
first-like f g e ds miss zero i = refl
first-like f g e ds miss (suc k) i = ap₂ (λ (b : Bool) (x : ℕ). cond b (get_or ds i 0) x) (e i) (first-like f g e ds miss k (suc i))

list-but : (cs vs ds : List ℕ) (miss h i : ℕ) → Equal cs vs ds → first (except i (zipped cs vs ds)) h miss ≡ first_from (fits-but cs vs h i) ds miss (length cs) 0
unfolding zipped first first_from matches
list-but [] vs ds miss h i l = refl
list-but (c ∷ cs) [] ds miss h i l = absurd (omega arith)
list-but (c ∷ cs) (v ∷ vs) [] miss h i l = absurd (omega arith)
list-but (c ∷ cs) (v ∷ vs) (d ∷ ds) miss h zero l =
    list-first cs vs ds miss h (record { values = omega arith; decisions = omega arith })
    ∙ first-like (fits cs vs h) (λ (j : ℕ). fits-but (c ∷ cs) (v ∷ vs) h 0 (suc j)) (λ j. ap (λ (b : Bool). not b && fits cs vs h j) (sym (ne_eqb (suc j) 0 (λ e. omega arith)))) ds miss (length cs) 0
    ∙ sym (first_tail (fits-but (c ∷ cs) (v ∷ vs) h 0) d ds miss (length cs) 0)
list-but (c ∷ cs) (v ∷ vs) (d ∷ ds) miss h (suc i) l =
    choose-cond (eqb (bit_and h c) v) d _ (first_from (fits-but (c ∷ cs) (v ∷ vs) h (suc i)) (d ∷ ds) miss (length cs) 1)
    (list-but cs vs ds miss h i (record { values = omega arith; decisions = omega arith })
    ∙ first-like (fits-but cs vs h i) (λ (j : ℕ). fits-but (c ∷ cs) (v ∷ vs) h (suc i) (suc j)) (λ j. ap (λ (b : Bool). not b && fits cs vs h j) (sym (eqb-suc j i))) ds miss (length cs) 0
    ∙ sym (first_tail (fits-but (c ∷ cs) (v ∷ vs) h (suc i)) d ds miss (length cs) 0))
    ∙ ap (λ (b : Bool). cond (not b && eqb (bit_and h c) v) d (first_from (fits-but (c ∷ cs) (v ∷ vs) h (suc i)) (d ∷ ds) miss (length cs) 1)) (sym (ne_eqb 0 (suc i) (λ e. omega arith)))

but-hit : (cs vs live : List ℕ) (h i j : ℕ) → AllBut live i → j < 1024 → hit cs vs live h j ≡ fits-but cs vs h i j
unfolding hit
but-hit cs vs live h i j B l = rw (B.others j l)

pub whole_but : (cs vs ds live : List ℕ) (miss h i : ℕ) → Ready (words_of cs) (words_of vs) ds → AllBut live i
    → answer_of (words_of cs) (words_of vs) ds live miss h ≡ first (except i (rules_of cs vs ds)) h miss
whole_but cs vs ds live miss h i R B =
    answer-rest (words_of cs) (words_of vs) ds live miss h
    ∙ rest-same (hit (words_of cs) (words_of vs) live h) (fits-but (words_of cs) (words_of vs) h i) ds miss (length (words_of cs)) (length (words_of cs)) (le_refl (length (words_of cs)))
    (λ j u. but-hit (words_of cs) (words_of vs) live h i j B (omega (arith, R.few)))
    (rest_end _ ds miss (length (words_of cs)) (length (words_of cs)) (le_refl (length (words_of cs))) ∙ sym (rest_end _ ds miss (length (words_of cs)) (length (words_of cs)) (le_refl (length (words_of cs)))))
    ∙ ap (λ (x : ℕ). first_from (fits-but (words_of cs) (words_of vs) h i) ds miss x 0) (omega arith)
    ∙ sym (list-but (words_of cs) (words_of vs) ds miss h i (record { values = R.values; decisions = R.decisions }))
