-- The search for a crossing pair: what it finds, and the steps of the code that makes it.
use mathlib.Core.Path.{◌≡◌, refl, sym, ap, ◌∙◌, subst}
use mathlib.Core.Logic.{◌⊎◌, inl, inr, ⊎_elim, ◌≢◌}
use mathlib.Core.List.{List}
use mathlib.Core.Bool.{Bool, true, false, not}
use Prim.Native.Nat.{ℕ, zero, suc, ◌+◌, ◌-◌, ◌≤◌, ◌<◌}
use native.Mathlib.Numerals.{add-one}
use native.Mathlib.Omega.{arith}
use lib.Dec.{eqb}
use Rattle.std.specs.Prelude.{Result, IsErrAnd}
use Rattle.rules.specs.Rule.{Rule}
use Rattle.rules.specs.declared.Refusal.{Refusal}
use Rattle.rules.specs.Rules.{crosses}
use Rattle.rules.specs.Slices.{rule_at}
use Rattle.rules.specs.Replies.{Reply, Gives, Refuses, passed, need, ◌then◌, refusal_reply, verdict_reply}
use Rattle.prefixes.specs.Prefix.{crosses_with, crosses_among}
use Rattle.words.proofs.Tests.{split, eqb_yes, no_eqb}
use Rattle.rules.proofs.ReplyLaws.{passed-up, then_next, then-refuses, gives-refuses, need-yes, need-no}

-- ---- replies

-- a reply gives values or refuses
either : (a : Reply) → ((ns : List ℕ) × (a ≡ Gives ns)) ⊎ ((n : ℕ) × (l : ℕ) × (r : ℕ) × (a ≡ Refuses n l r))
either (Gives ns) = inl (ns, refl)
either (Refuses n l r) = inr (n, l, r, refl)

-- the first of two replies of which the second is reached
then-gives : (a b : Reply) {ns : List ℕ} → a ≡ Gives ns → (a then b) ≡ b
then-gives a b e = ap (λ (x : Reply). x then b) e

module _ (rs : List Rule) where
  -- The two rules, counted from 0, cross.
  abbrev pub meet : (i j : ℕ) → Bool
  meet i j = crosses (rule_at rs i) (rule_at rs j)

  with-suc : (j i : ℕ) → crosses_with rs j (suc i) ≡ (crosses_with rs j i then need (not (meet i j)) 8 (suc i) (suc j))
  unfolding crosses_with
  with-suc j i = refl

  pub with-zero : (j : ℕ) → crosses_with rs j 0 ≡ passed
  unfolding crosses_with
  with-zero j = refl

  with-miss : (j i : ℕ) {ns : List ℕ} → crosses_with rs j i ≡ Gives ns → meet i j ≡ false → crosses_with rs j (suc i) ≡ passed
  with-miss j i z e = with-suc j i ∙ then-gives _ _ z ∙ need-yes _ 8 (suc i) (suc j) (ap not e)

  with-hit : (j i : ℕ) {ns : List ℕ} → crosses_with rs j i ≡ Gives ns → meet i j ≡ true → crosses_with rs j (suc i) ≡ Refuses 8 (suc i) (suc j)
  with-hit j i z e = with-suc j i ∙ then-gives _ _ z ∙ need-no _ 8 (suc i) (suc j) (ap not e)

  with-keep : (j i : ℕ) {n a b : ℕ} → crosses_with rs j i ≡ Refuses n a b → crosses_with rs j (suc i) ≡ Refuses n a b
  with-keep j i e = with-suc j i ∙ then-refuses _ _ e

  -- a refusal stays
  with-stays : (j i k : ℕ) {n a b : ℕ} → crosses_with rs j i ≡ Refuses n a b → crosses_with rs j (k + i) ≡ Refuses n a b
  with-stays j i zero e = ap (crosses_with rs j) (let z : 0 + i ≡ i = omega arith in z) ∙ e
  with-stays j i (suc k) e =
      ap (crosses_with rs j) (let z : suc k + i ≡ suc (k + i) = omega arith in z) ∙ with-keep j (k + i) (with-stays j i k e)

  pub with-no : (j i : ℕ) → crosses_with rs j i ≡ passed → meet i j ≡ false → crosses_with rs j (i + 1) ≡ passed
  with-no j i z e = ap (crosses_with rs j) (add-one i) ∙ with-miss j i z e

  pub with-yes : (j i : ℕ) → i < j → crosses_with rs j i ≡ passed → meet i j ≡ true → Refuses 8 (i + 1) (j + 1) ≡ crosses_with rs j j
  with-yes j i l z e =
      ap (λ (k : ℕ). Refuses 8 k (j + 1)) (add-one i) ∙ ap (Refuses 8 (suc i)) (add-one j)
      ∙ sym (ap (crosses_with rs j) (let q : j ≡ (j - suc i) + suc i = omega arith in q) ∙ with-stays j (suc i) (j - suc i) (with-hit j i z e))

  among-suc : (j : ℕ) → crosses_among rs (suc j) ≡ (crosses_among rs j then crosses_with rs j j)
  unfolding crosses_among
  among-suc j = refl

  pub among-zero : crosses_among rs 0 ≡ passed
  unfolding crosses_among
  among-zero = refl

  among-keep : (j : ℕ) {n a b : ℕ} → crosses_among rs j ≡ Refuses n a b → crosses_among rs (suc j) ≡ Refuses n a b
  among-keep j e = among-suc j ∙ then-refuses _ _ e

  among-stays : (j k : ℕ) {n a b : ℕ} → crosses_among rs j ≡ Refuses n a b → crosses_among rs (k + j) ≡ Refuses n a b
  among-stays j zero e = ap (crosses_among rs) (let z : 0 + j ≡ j = omega arith in z) ∙ e
  among-stays j (suc k) e =
      ap (crosses_among rs) (let z : suc k + j ≡ suc (k + j) = omega arith in z) ∙ among-keep (k + j) (among-stays j k e)

  pub among-no : (j : ℕ) → crosses_among rs j ≡ passed → passed ≡ crosses_with rs j j → crosses_among rs (j + 1) ≡ passed
  among-no j z e = ap (crosses_among rs) (add-one j) ∙ among-suc j ∙ then_next _ _ z ∙ sym e

  pub among-yes : (k j : ℕ) (v : Result (Unit {0}) Refusal) (x : Refusal) → j < k → crosses_among rs j ≡ passed → IsErrAnd v (λ y. y ≡ x)
      → refusal_reply x ≡ crosses_with rs j j → verdict_reply v ≡ crosses_among rs k
  among-yes k j v x l z f e =
      passed-up _ v x f
      ∙ sym (ap (crosses_among rs) (let q : k ≡ (k - suc j) + suc j = omega arith in q)
      ∙ among-stays (suc j) (k - suc j) (among-suc j ∙ then_next _ _ z ∙ sym e))

  -- ---- what the search finds

  -- nothing is refused: rule j crosses none of the first k
  with_none : (j k : ℕ) {ns : List ℕ} → crosses_with rs j k ≡ Gives ns → (i : ℕ) → i < k → meet i j ≡ false
  with_none j zero z i l = absurd (let f : ⊥ = omega arith in f)
  with_none j (suc k) {ns} z i l =
      ⊎_elim
      (λ o.
      split (meet k j) (λ y. absurd (gives-refuses (sym z ∙ with-hit j k o.1 y)))
      (λ y. split (eqb i k) (λ v. rw (eqb_yes i k v) y) (λ v. let n : i ≢ k = no_eqb i k v in with_none j k {ns = o.0} o.1 i (omega arith))))
      (λ o. absurd (gives-refuses (sym z ∙ with-keep j k o.3)))
      (either (crosses_with rs j k))

  -- nothing is refused: no two of the first k rules cross
  pub none-cross : (k : ℕ) {ns : List ℕ} → crosses_among rs k ≡ Gives ns → (i j : ℕ) → i < j → j < k → meet i j ≡ false
  none-cross zero z i j l m = absurd (let f : ⊥ = omega arith in f)
  none-cross (suc k) {ns} z i j l m =
      ⊎_elim
      (λ o.
      split (eqb j k)
      (λ v.
      let e : j ≡ k = eqb_yes j k v in
      subst (λ (n : ℕ). meet i n ≡ false) (sym e) (with_none k k (sym (then-gives _ _ o.1) ∙ sym (among-suc k) ∙ z) i (omega arith)))
      (λ v. let n : j ≢ k = no_eqb j k v in none-cross k {ns = o.0} o.1 i j l (omega arith)))
      (λ o. absurd (gives-refuses (sym z ∙ among-keep k o.3)))
      (either (crosses_among rs k))

  -- The pair of rules i < j, counted from 0, that crosses, with least j, then least i.
  pub record FirstCrossing (i j k : ℕ) : Type 0 where
    pub before : i < j
    pub inside : j < k
    pub cross : meet i j ≡ true
    pub least : (a b : ℕ) → a < b → b < j → meet a b ≡ false
    pub lower : (a : ℕ) → a < i → meet a j ≡ false

  -- What a refusal of rule j names: the first of the first k rules that crosses it.
  record With (j k n a b i : ℕ) : Type 0 where
    pub number : n ≡ 8
    pub list : a ≡ suc i
    pub rule : b ≡ suc j
    pub below : i < k
    pub cross : meet i j ≡ true
    pub lower : (m : ℕ) → m < i → meet m j ≡ false

  with_found : (j k : ℕ) {n a b : ℕ} → crosses_with rs j k ≡ Refuses n a b → (i : ℕ) × With j k n a b i
  with_found j zero e = absurd (gives-refuses (sym (with-zero j) ∙ e))
  with_found j (suc k) {n} {a} {b} e =
      ⊎_elim
      (λ o.
      split (meet k j)
      (λ y.
      let h : Refuses 8 (suc k) (suc j) ≡ Refuses n a b = sym (with-hit j k o.1 y) ∙ e in
      let p : n ≡ 8 = cc in
      let q : a ≡ suc k = cc in
      let r : b ≡ suc j = cc in
      (k, record { number = p; list = q; rule = r; below = omega arith; cross = y; lower = with_none j k o.1 }))
      (λ y. absurd (gives-refuses (sym (with-miss j k o.1 y) ∙ e))))
      (λ o.
      let h : Refuses o.0 o.1 o.2 ≡ Refuses n a b = sym (with-keep j k o.3) ∙ e in
      let r = with_found j k (o.3 ∙ h) in
      let w = r.1 in
      (r.0, record { number = w.number; list = w.list; rule = w.rule; below = omega (arith, w.below); cross = w.cross; lower = w.lower }))
      (either (crosses_with rs j k))

  -- what is refused is the first crossing pair
  pub found-cross : (k : ℕ) {n a b : ℕ} → crosses_among rs k ≡ Refuses n a b
      → (i : ℕ) × (j : ℕ) × ((n ≡ 8) × (a ≡ suc i) × (b ≡ suc j)) × FirstCrossing i j k
  found-cross zero e = absurd (gives-refuses (sym among-zero ∙ e))
  found-cross (suc k) {n} {a} {b} e =
      ⊎_elim
      (λ o.
      let r = with_found k k (sym (then-gives _ _ o.1) ∙ sym (among-suc k) ∙ e) in
      let w = r.1 in
      let d : r.0 < k = w.below in
      (r.0, k, (w.number, w.list, w.rule), record { before = d; inside = omega arith; cross = w.cross; least = λ x y l m. none-cross k o.1 x y l m; lower = w.lower }))
      (λ o.
      let h : Refuses o.0 o.1 o.2 ≡ Refuses n a b = sym (among-keep k o.3) ∙ e in
      let r = found-cross k (o.3 ∙ h) in
      let p = r.3 in
      (r.0, r.1, r.2, record { before = p.before; inside = omega (arith, p.inside); cross = p.cross; least = p.least; lower = p.lower }))
      (either (crosses_among rs k))

  -- no two cross: nothing is refused
  pub cross-free : (k : ℕ) → ((i j : ℕ) → i < j → j < k → meet i j ≡ false) → crosses_among rs k ≡ passed
  cross-free zero f = among-zero
  cross-free (suc k) f =
      among-suc k ∙ then_next _ _ (cross-free k (λ i j l m. f i j l (omega arith))) ∙ go k (omega arith)
    where
      go : (i : ℕ) → i ≤ k → crosses_with rs k i ≡ passed
      go zero l = with-zero k
      go (suc i) l = with-miss k i (go i (omega arith)) (f i k (omega arith) (omega arith))
