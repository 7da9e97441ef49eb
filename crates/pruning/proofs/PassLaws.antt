-- Laws of the pass in place: one rule kept or taken out, and one step after another.
use Prim.Native.Nat.{ℕ, ◌+◌, ◌-◌, ◌≤◌, ◌<◌}
use mathlib.Core.Path.{◌≡◌, sym, ap, ◌∙◌, subst}
use mathlib.Core.List.{List, ◌∷◌, ◌++◌, append_assoc}
use mathlib.Core.Bool.{Bool, true, false}
use native.Mathlib.Omega.{arith}
use native.Mathlib.Numerals.{add-one}
use lib.ListN.{length, take, drop, replicate, take-append-drop, replicate-append-replicate}
use lib.Seq.{drop_at, length-take-le}
use Rattle.rules.specs.Rule.{Rule}
use Rattle.rules.specs.Rules.{Valid}
use Rattle.rules.specs.Lists.{All, except}
use Rattle.rules.specs.Slices.{rules_of, blank, blanks}
use Rattle.removal.specs.Removal.{taken_out, Removed}
use Rattle.rules.proofs.SliceLaws.{rules-length, kept-lent}
use Rattle.removal.proofs.RemoveLaws.{except-length, except-all, taken-out-front, removed-rules, removed-kept}
use Rattle.pruning.specs.Prune.{needless, pass_down, prune}
use Rattle.pruning.specs.Inner.{Holds, Passing}
use Rattle.pruning.proofs.Theorems.{pass-keep, pass-drop}
use Rattle.pruning.proofs.AskLaws.{first-rules}

-- ---- one rule

module _ (w : ℕ) (cs vs ds : List ℕ) (left k : ℕ) (H : Holds w cs vs ds left) (some : k < left) where
  abbrev rs : List Rule
  rs = take left (rules_of cs vs ds)

  no-blanks : (l : List Rule) → l ≡ blanks (left - left) ++ l
  unfolding blanks
  no-blanks l = ap (λ (n : ℕ). replicate n blank ++ l) (let e : 0 ≡ left - left = omega arith in e)

  -- it is kept
  pub kept-one : {t : Bool} → t ≡ needless w rs k → t ≡ false → Passing w (rules_of cs vs ds) left (k + 1) cs vs ds left k
  kept-one e f = record {
    holds = H;
    ahead = omega arith;
    fewer = omega arith;
    same = sym (ap (λ (n : ℕ). pass_down w n rs) (add-one k) ∙ pass-keep w rs k (sym e ∙ f));
    rest = no-blanks (drop left (rules_of cs vs ds));
  }

  -- it is taken out
  module _ (cs' vs' ds' : List ℕ) (D : Removed cs vs ds k left cs' vs' ds') where
    fits : left ≤ length (rules_of cs vs ds)
    fits = omega (arith, H.inside, rules-length cs vs ds H.lent)

    new : rules_of cs' vs' ds' ≡ taken_out k left (rules_of cs vs ds)
    new = removed-rules cs vs ds k left cs' vs' ds' H.lent some H.inside D

    front : take (left - 1) (rules_of cs' vs' ds') ≡ except k rs
    front = ap (take (left - 1)) new ∙ taken-out-front k left (rules_of cs vs ds) some fits

    back : drop (left - 1) (rules_of cs' vs' ds') ≡ blanks (left - (left - 1)) ++ drop left (rules_of cs vs ds)
    unfolding taken_out blanks
    back =
        ap (drop (left - 1)) new
        ∙ drop_at (except k rs) (blank ∷ drop left (rules_of cs vs ds)) (left - 1) (let f = except-length k rs (omega (arith, first-rules w cs vs ds left H)) in omega (arith, f, first-rules w cs vs ds left H))
        ∙ ap (λ (n : ℕ). replicate n blank ++ drop left (rules_of cs vs ds)) (let e : 1 ≡ left - (left - 1) = omega arith in e)

    pub dropped-one : {t : Bool} → t ≡ needless w rs k → t ≡ true → Passing w (rules_of cs vs ds) left (k + 1) cs' vs' ds' (left - 1) k
    dropped-one e f =
        let K = removed-kept cs vs ds k left cs' vs' ds' D in record {
          holds = record {
            width = H.width;
            lent = kept-lent cs vs ds cs' vs' ds' K H.lent;
            inside = omega (arith, H.inside, K.decisions);
            few = omega (arith, H.few);
            valid = subst (All (Valid w)) (sym front) (except-all (Valid w) k rs H.valid);
          };
          ahead = omega arith;
          fewer = omega arith;
          same = ap (pass_down w k) front ∙ sym (ap (λ (n : ℕ). pass_down w n rs) (add-one k) ∙ pass-drop w rs k (sym e ∙ f));
          rest = back;
        }

-- ---- rule after rule

blanks-add : (m n : ℕ) (l : List Rule) → blanks m ++ (blanks n ++ l) ≡ blanks (m + n) ++ l
unfolding blanks
blanks-add m n l = sym (append_assoc (replicate m blank) (replicate n blank) l) ∙ ap (λ (x : List Rule). x ++ l) (replicate-append-replicate m n blank)

module _ (w : ℕ) (old : List Rule) (count : ℕ) where
  pub pass-start : (cs vs ds : List ℕ) → old ≡ rules_of cs vs ds → Holds w cs vs ds count → Passing w old count count cs vs ds count count
  unfolding blanks
  pass-start cs vs ds e H = record {
    holds = H;
    ahead = omega arith;
    fewer = omega arith;
    same = ap (λ (l : List Rule). pass_down w count (take count l)) (sym e);
    rest = ap (drop count) (sym e) ∙ ap (λ (n : ℕ). replicate n blank ++ drop count old) (let z : 0 ≡ count - count = omega arith in z);
  }

  pub pass-more : (cs vs ds cs' vs' ds' : List ℕ) (left left' j k : ℕ) → j ≡ k + 1 → Passing w old count count cs vs ds left j
      → Passing w (rules_of cs vs ds) left (k + 1) cs' vs' ds' left' k → Passing w old count count cs' vs' ds' left' k
  pass-more cs vs ds cs' vs' ds' left left' j k e P Q = record {
    holds = Q.holds;
    ahead = Q.ahead;
    fewer = omega (arith, Q.fewer, P.fewer);
    same = Q.same ∙ ap (λ (n : ℕ). pass_down w n (take left (rules_of cs vs ds))) (sym e) ∙ P.same;
    rest =
        Q.rest ∙ ap (λ (l : List Rule). blanks (left - left') ++ l) P.rest ∙ blanks-add (left - left') (count - left) (drop count old)
        ∙ ap (λ (n : ℕ). blanks n ++ drop count old) (omega (arith, Q.fewer, P.fewer));
  }

  -- the whole pass
  pub pass-rules : (cs vs ds : List ℕ) (left : ℕ) → count ≤ length old → Passing w old count count cs vs ds left 0
      → (take left (rules_of cs vs ds) ≡ prune w (take count old))
      × (rules_of cs vs ds ≡ prune w (take count old) ++ (blanks (count - left) ++ drop count old))
  unfolding prune pass_down
  pass-rules cs vs ds left l P =
      let e : take left (rules_of cs vs ds) ≡ prune w (take count old) = P.same ∙ ap (λ (n : ℕ). pass_down w n (take count old)) (sym (length-take-le count old l)) in
      (e, sym (take-append-drop left (rules_of cs vs ds)) ∙ ap (λ (x : List Rule). x ++ drop left (rules_of cs vs ds)) e ∙ ap (λ (x : List Rule). prune w (take count old) ++ x) P.rest)
