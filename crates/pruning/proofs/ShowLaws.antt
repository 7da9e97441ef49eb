-- Laws of the headers put beside the rules, and of the rules put into the result slices, one after the other.
use Prim.Native.Nat.{ℕ, zero, suc, ◌+◌, ◌-◌, ◌*◌, ◌/◌, ◌≤◌, ◌<◌}
use mathlib.Core.Path.{◌≡◌, refl, sym, ap, ap₂, ◌∙◌}
use mathlib.Core.List.{List, [], ◌∷◌, ◌++◌, append_assoc}
use native.Mathlib.Omega.{arith}
use native.Mathlib.Numerals.{add-one}
use lib.ListN.{length, take, drop, set, replicate, take-append-drop, length-append, length-drop}
use lib.Seq.{set_split, take_at, drop_at, drop-append-add, drop-drop, length-take-le}
use Rattle.words.specs.declared.Word.{Word}
use Rattle.words.specs.Halves.{num}
use Rattle.words.specs.Slices.{words_of, halves_of, with_word}
use Rattle.words.proofs.SliceLaws.{Machine, words-length, words-with, with-length, halves-words}
use Rattle.rules.specs.Rule.{Rule}
use Rattle.rules.specs.Slices.{rules_of, padded, Lent}
use Rattle.rules.proofs.ZipLaws.{ap₃}
use Rattle.rules.proofs.SliceLaws.{rules-length, rules-take, rules-append}
use Rattle.rules.proofs.PaddedLaws.{halves-filled}
use Rattle.pruning.specs.Prune.{needed_header, headers_from, needed_headers}
use Rattle.pruning.specs.Inner.{Shown, Copied}
use Rattle.pruning.proofs.Theorems.{headers-length, headers-more}
use Rattle.pruning.proofs.AskLaws.{shown-past}

-- ---- headers

-- one more number at the seam
seam : (xs old l : List ℕ) (k y : ℕ) → length xs ≡ k → k < length old → l ≡ xs ++ drop k old → set l k y ≡ (xs ++ (y ∷ [])) ++ drop (k + 1) old
seam xs old l k y e h q =
    let n : k < length l = omega (arith, ap length q, length-append xs (drop k old), length-drop k old) in
    set_split l k y n
    ∙ ap₂ (λ (a b : List ℕ). a ++ y ∷ b) (ap (take k) q ∙ take_at xs (drop k old) k e) (ap (drop (suc k)) q ∙ later)
    ∙ sym (append_assoc xs (y ∷ []) (drop (k + 1) old))
  where
    later : drop (suc k) (xs ++ drop k old) ≡ drop (k + 1) old
    later =
        let s : suc k ≡ length xs + 1 = omega arith in
        ap (λ (m : ℕ). drop m (xs ++ drop k old)) s ∙ drop-append-add xs (drop k old) 1 ∙ drop-drop 1 k old

module _ (w : ℕ) (rs : List Rule) (hs : List ℕ) where
  pub shown-start : Shown w rs 0 hs hs
  unfolding headers_from
  shown-start = (refl, refl)

  pub shown-more : (l l' : List ℕ) (k : ℕ) (x : Word) → k < length hs / 2 → num x ≡ needed_header w rs k → l' ≡ with_word l k x → Shown w rs k hs l → Shown w rs (k + 1) hs l'
  shown-more l l' k x h e q S = (
    ap length q ∙ with-length l k x ∙ S.0,
    ap words_of q ∙ words-with l k x
        ∙ seam (headers_from w rs k 0) (words_of hs) (words_of l) k (num x) (headers-length w rs k 0) (omega (arith, words-length hs)) S.1
        ∙ ap (λ (a : List ℕ). a ++ drop (k + 1) (words_of hs))
        (ap (λ (y : ℕ). headers_from w rs k 0 ++ (y ∷ [])) (e ∙ ap (needed_header w rs) (let z : k ≡ 0 + k = omega arith in z)) ∙ sym (headers-more w rs k 0) ∙ ap (λ (n : ℕ). headers_from w rs n 0) (sym (add-one k))),
  )

-- ---- rules

-- the rules from place n on
rules-rest : (n m : ℕ) (c v d : List ℕ) → m ≡ n * 2 → Lent c v d → n ≤ length d → rules_of (drop m c) (drop m v) (drop n d) ≡ drop n (rules_of c v d)
rules-rest n m c v d e l h =
    let a = length-take-le m c (omega (arith, l.decisions)) in
    let b = length-take-le m v (omega (arith, l.decisions, l.values)) in
    let t = length-take-le n d h in
    let long : length (rules_of (take m c) (take m v) (take n d)) ≡ n = ap length (rules-take n m c v d e) ∙ length-take-le n (rules_of c v d) (omega (arith, rules-length c v d l)) in
    sym (drop_at (rules_of (take m c) (take m v) (take n d)) (rules_of (drop m c) (drop m v) (drop n d)) n long)
    ∙ ap (drop n) (sym (rules-append (take m c) (take m v) (take n d) (drop m c) (drop m v) (drop n d) (record { values = b ∙ sym a; decisions = omega arith }))
    ∙ ap₃ rules_of (take-append-drop m c) (take-append-drop m v) (take-append-drop n d))

-- three slices of which the first places hold a list
pub copied : (cs vs ds ocs ovs ods a b d : List ℕ) → Lent cs vs ds → Lent ocs ovs ods → length ds ≤ length ods → a ≡ cs → b ≡ vs → d ≡ ds
    → Copied (rules_of cs vs ds) (rules_of ocs ovs ods) (a ++ drop (length cs) ocs) (b ++ drop (length vs) ovs) (d ++ drop (length ds) ods)
copied cs vs ds ocs ovs ods a b d l o h p q r = rw (p, q, r) (record {
  lent = record {
    values = simp (length-append, length-drop) (omega (arith, l.values, l.decisions, o.values, o.decisions));
    decisions = simp (length-append, length-drop) (omega (arith, l.values, l.decisions, o.values, o.decisions));
  };
  rules = rules-append cs vs ds _ _ _ l ∙ ap (λ (x : List Rule). rules_of cs vs ds ++ x)
      (ap (λ (n : ℕ). rules_of (drop (length cs) ocs) (drop n ovs) (drop (length ds) ods)) l.values
      ∙ rules-rest (length ds) (length cs) ocs ovs ods (sym l.decisions) o h
      ∙ ap (λ (n : ℕ). drop n (rules_of ocs ovs ods)) (sym (rules-length cs vs ds l)));
})

-- ---- the slice of headers

-- headers of so many rules and so many more
headers-join : (w : ℕ) (rs : List Rule) (a b k : ℕ) → headers_from w rs (a + b) k ≡ headers_from w rs a k ++ headers_from w rs b (k + a)
unfolding headers_from
headers-join w rs zero b k = ap₂ (headers_from w rs) (let e : 0 + b ≡ b = omega arith in e) (let e : k ≡ k + 0 = omega arith in e)
headers-join w rs (suc a) b k =
    ap (λ (n : ℕ). headers_from w rs n k) (let e : suc a + b ≡ suc (a + b) = omega arith in e)
    ∙ ap (λ (hs : List ℕ). needed_header w rs k ∷ hs) (headers-join w rs a b (suc k) ∙ ap (λ (n : ℕ). headers_from w rs a (suc k) ++ headers_from w rs b n) (omega arith))

-- past the last rule they are zeros
headers-zeros : (w : ℕ) (rs : List Rule) (n k : ℕ) → length rs ≤ k → headers_from w rs n k ≡ replicate n 0
unfolding headers_from
headers-zeros w rs zero k l = refl
headers-zeros w rs (suc n) k l = ap₂ (λ (x : ℕ) (xs : List ℕ). x ∷ xs) (sym (shown-past w rs k l)) (headers-zeros w rs n (suc k) (omega arith))

headers-filled : (w : ℕ) (rs : List Rule) (n : ℕ) → length rs ≤ n → headers_from w rs n 0 ≡ needed_headers w rs ++ replicate (n - length rs) 0
headers-filled w rs n l =
    ap (λ (m : ℕ). headers_from w rs m 0) (let e : n ≡ length rs + (n - length rs) = omega arith in e)
    ∙ headers-join w rs (length rs) (n - length rs) 0
    ∙ ap (λ (xs : List ℕ). needed_headers w rs ++ xs) (headers-zeros w rs (n - length rs) (0 + length rs) (omega arith))

pub headers-padded : (w : ℕ) (rs : List Rule) (n : ℕ) (hs hs' : List ℕ) → length rs ≤ n → (m : ℕ) → length hs ≡ m * 2 → Shown w rs n hs hs' → Machine hs → Machine hs'
    → hs' ≡ padded (n * 2) (halves_of (needed_headers w rs)) hs
unfolding padded
headers-padded w rs n hs hs' l m even S f f' =
    sym (halves-words hs' (omega (arith, S.0)) f')
    ∙ halves-filled n (n * 2) (words_of hs') (needed_headers w rs) (words_of hs) refl filled-up
    ∙ ap (padded (n * 2) (halves_of (needed_headers w rs))) (halves-words hs (omega arith) f)
  where
    filled-up : words_of hs' ≡ padded n (needed_headers w rs) (words_of hs)
    filled-up =
        S.1 ∙ ap (λ (x : List ℕ). x ++ drop n (words_of hs)) (headers-filled w rs n l)
        ∙ append_assoc (needed_headers w rs) (replicate (n - length rs) 0) (drop n (words_of hs))
        ∙ ap (λ (k : ℕ). needed_headers w rs ++ (replicate (n - k) 0 ++ drop n (words_of hs))) (sym (headers-length w rs (length rs) 0))
