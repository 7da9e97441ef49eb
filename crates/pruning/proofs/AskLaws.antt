-- Laws of the list of the first so many rules of three slices, and of what the engine answers about it.
use Prim.Native.Nat.{ℕ, ◌*◌, ◌≤◌}
use mathlib.Core.Path.{◌≡◌, refl, sym, ap, ◌∙◌, subst}
use mathlib.Core.List.{List, [], ◌∷◌}
use mathlib.Core.Bool.{Bool, true, false, not, false≢true}
use native.Mathlib.Omega.{arith}
use lib.ListN.{length, take, get_or}
use lib.Seq.{length-take-le}
use Rattle.words.specs.declared.Word.{Word}
use Rattle.words.specs.Halves.{num, halves}
use Rattle.words.proofs.WordLaws.{holds}
use Rattle.words.specs.Slices.{halves_of}
use Rattle.rules.specs.Rule.{Rule}
use Rattle.rules.specs.Rules.{Valid}
use Rattle.rules.specs.Lists.{All}
use Rattle.rules.specs.Slices.{rules_of}
use Rattle.rules.specs.Replies.{Gives, reply}
use Rattle.rules.specs.Checks.{Sound}
use Rattle.rules.specs.declared.Refusal.{Refusal}
use Rattle.rules.specs.declared.Wire.{Wire}
use Rattle.rules.proofs.ReplyLaws.{then_next, gives-refuses}
use Rattle.rules.proofs.SliceLaws.{rules-take, rules-length}
use Rattle.rules.proofs.CheckLaws.{sound-list}
use Rattle.std.specs.Prelude.{Option, Some, None, Result, Ok, Err, is_some, is_ok, MatchOption}
use Rattle.compare.specs.Calls.{header_values}
use Rattle.compare.specs.Needed.{lowest_change, needed_reply, needed_at}
use Rattle.compare.proofs.NeededLaws.{past-nothing}
use Rattle.compare.proofs.NeededDemands.{at-lowest, nowhere-lowest}
use Rattle.pruning.specs.Prune.{needless, needed_header}
use Rattle.pruning.specs.Inner.{Holds}
use Rattle.pruning.proofs.Theorems.{none-needless, one-needed, one-shown}

given-ok : {A : Type 0} (values : A → List ℕ) (r : Result A Refusal) {ns : List ℕ} → reply values r ≡ Gives ns → is_ok r ≡ true
given-ok values (Ok x) e = refl
given-ok values (Err x) e = absurd (gives-refuses (sym e))

-- ---- the first rules

module _ (w : ℕ) (cs vs ds : List ℕ) (n : ℕ) (H : Holds w cs vs ds n) where
  pub cut-cares : (m : ℕ) → m ≡ n * 2 → length (take m cs) ≡ m
  cut-cares m e = length-take-le m cs (omega (arith, H.inside, H.lent.decisions))

  pub cut-values : (m : ℕ) → m ≡ n * 2 → length (take m vs) ≡ m
  cut-values m e = length-take-le m vs (omega (arith, H.inside, H.lent.decisions, H.lent.values))

  pub cut-decisions : length (take n ds) ≡ n
  cut-decisions = length-take-le n ds H.inside

  pub first-rules : length (take n (rules_of cs vs ds)) ≡ n
  first-rules = length-take-le n (rules_of cs vs ds) (omega (arith, H.inside, rules-length cs vs ds H.lent))

  -- they pass a list's checks
  holds-sound : Sound w (take (n * 2) cs) (take (n * 2) vs) (take n ds)
  holds-sound = record {
    width = H.width;
    lent = record { values = cut-values (n * 2) refl ∙ sym (cut-cares (n * 2) refl); decisions = ap (λ (x : ℕ). x * 2) cut-decisions ∙ sym (cut-cares (n * 2) refl) };
    few = omega (arith, cut-decisions, H.few);
    valid = subst (All (Valid w)) (sym (rules-take n (n * 2) cs vs ds refl)) H.valid;
  }

  -- so the question about them is answered
  module _ (k : ℕ) (r : Result (Option Wire) Refusal) (promise : needed_reply r ≡ needed_at w (take (n * 2) cs) (take (n * 2) vs) (take n ds) k) where
    answer-told : needed_reply r ≡ Gives (halves_of (lowest_change w (take n (rules_of cs vs ds)) k))
    unfolding needed_at
    answer-told =
        promise ∙ then_next _ _ (sound-list w 1 (take (n * 2) cs) (take (n * 2) vs) (take n ds) holds-sound)
        ∙ ap (λ (rs : List Rule). Gives (halves_of (lowest_change w rs k))) (rules-take n (n * 2) cs vs ds refl)

    pub never-refused : is_ok r ≡ true
    never-refused = given-ok header_values r answer-told

    pub asked : (o : Option Wire) → r ≡ Ok o → header_values o ≡ halves_of (lowest_change w (take n (rules_of cs vs ds)) k)
    asked o e = let t : Gives (header_values o) ≡ Gives (halves_of (lowest_change w (take n (rules_of cs vs ds)) k)) = sym (ap needed_reply e) ∙ answer-told in cc

-- ---- what the answer tells

module _ (w : ℕ) (rs : List Rule) (k : ℕ) where
  told-none : header_values None ≡ halves_of (lowest_change w rs k) → lowest_change w rs k ≡ []
  told-none t = nowhere-lowest w rs k (Ok None) (ap Gives t) refl

  told-some : (h : Wire) → header_values (Some h) ≡ halves_of (lowest_change w rs k) → lowest_change w rs k ≡ num h.0 ∷ []
  told-some h t = at-lowest w rs k (Ok (Some h)) (ap Gives t) h refl

  pub needless-told : (o : Option Wire) (b : Bool) → header_values o ≡ halves_of (lowest_change w rs k) → is_some o ≡ not b → b ≡ needless w rs k
  needless-told (Some h) true t e = absurd (false≢true (sym e))
  needless-told (Some h) false t e = sym (one-needed w rs k (num h.0) (told-some h t))
  needless-told None true t e = sym (none-needless w rs k (told-none t))
  needless-told None false t e = absurd (false≢true e)

  -- the header, or 0 where there is none
  pub shown-told : (o : Option Wire) (x none : Word) → header_values o ≡ halves_of (lowest_change w rs k) → none ≡ halves 0 → MatchOption o (x ≡ none) (λ h. x ≡ h.0)
      → num x ≡ needed_header w rs k
  shown-told (Some h) x none t z e = ap num e ∙ sym (one-shown w rs k (num h.0) (told-some h t))
  shown-told None x none t z e = holds (e ∙ z) ∙ sym (ap (λ (hs : List ℕ). get_or hs 0 0) (told-none t))

  -- past the last rule there is no header
  pub shown-past : length rs ≤ k → 0 ≡ needed_header w rs k
  shown-past l = sym (ap (λ (hs : List ℕ). get_or hs 0 0) (past-nothing w rs k l))
