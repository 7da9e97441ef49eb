-- What the call `accept` owes its user (request 13), read off its own promise: a candidate is accepted exactly when it may stand in for its
-- source; the header of 28 is the lowest on which the lookups of the two lists differ, and the two answers are theirs; beside every other
-- answer nothing stands.
use Prim.Native.Nat.{ℕ, ◌^◌, ◌≤◌, ◌<◌}
use mathlib.Core.Path.{◌≡◌, refl, sym, ap, ap₂, ◌∙◌, subst}
use mathlib.Core.Logic.{◌≢◌, ◌↔◌, ⊎_elim}
use mathlib.Core.List.{List, [], ◌∷◌}
use native.Mathlib.Omega.{arith}
use lib.ListN.{length}
use lib.Dec.{leb}
use borrow.Author.Tests.{leb-true, leb-false}
use Rattle.words.proofs.Tests.{split}
use Rattle.words.specs.Halves.{word, num, halves}
use Rattle.words.proofs.WordLaws.{num-halves}
use Rattle.rules.specs.declared.Refusal.{Refusal}
use Rattle.rules.specs.declared.Reason.{Reason}
use Rattle.rules.specs.declared.Wire.{Wire}
use Rattle.std.specs.Prelude.{Result, Ok, Err}
use Rattle.rules.specs.Rules.{answer}
use Rattle.rules.specs.Slices.{rules_of}
use Rattle.rules.specs.Replies.{Reply, Gives, Refuses, passed, ◌then◌, number_of, refusal_reply, unless_refused}
use Rattle.rules.specs.Checks.{Sound}
use Rattle.rules.specs.Calls.{check_list, looked_up, decided, answered}
use Rattle.rules.proofs.ReplyLaws.{then_next, then-refuses, then-second, need-passed, gives-refuses, one-refusal, bare-need, bare-then, Bare}
use Rattle.rules.proofs.CheckLaws.{list-sound, list-given, sound-list}
use Rattle.rules.proofs.AnswerLaws.{answered-once, looked-answered, decide-alike-within, decide-differently}
use Rattle.compare.specs.Differing.{LowestDifference}
use Rattle.compare.proofs.DifferLaws.{alike-exactly, difference-exactly, none-or-one, difference-lowest}
use Rattle.acceptance.specs.declared.Rejection.{Rejection}
use Rattle.acceptance.specs.Rejections.{refusal_of, accepted_reply, beside_values, header_told}
use Rattle.acceptance.specs.Accepting.{Acceptable, longer_check, candidate_check, alike_check, of_lowest, lowest_unlike, accept_reply, beside, AcceptDone}
use Rattle.acceptance.proofs.CallLaws.{longer-no, longer-yes, both-sound}
use Rattle.acceptance.proofs.NumberLaws.{list-number, candidate-number}

one_number : {n l r m k s : ℕ} → Refuses n l r ≡ Refuses m k s → n ≡ m
one_number e = cc

pub nothing : {n : ℕ} {ns : List ℕ} → [] ≡ n ∷ ns → ⊥
nothing e = cc

pub four-values : {a b c d i j k l : ℕ} → a ∷ b ∷ c ∷ d ∷ [] ≡ i ∷ j ∷ k ∷ l ∷ [] → (a ≡ i) × (b ≡ j) × (c ≡ k) × (d ≡ l)
four-values e = (cc, cc, cc, cc)

-- refusal 27, at no place
abbrev pub longer : Refusal
longer = record { reason = Reason.Longer; list = 0; rule = 0 }

-- ---- the checks of two lists

module _ (w : ℕ) (sc sv sd cc cv cd : List ℕ) where
  bare-candidate : Bare (candidate_check w sc sv sd cc cv cd)
  unfolding candidate_check longer_check
  bare-candidate = bare-then (check_list w 1 sc sv sd) _ (bare-then (check_list w 2 cc cv cd) _ (bare-need (leb (length cd) (length sd)) 27 0 0))

  -- Both lists are valid and the candidate has no more rules: that is passed, and only that.
  pub candidate-exactly : (candidate_check w sc sv sd cc cv cd ≡ passed) ↔ (Sound w sc sv sd × Sound w cc cv cd × (length cd ≤ length sd))
  unfolding candidate_check longer_check
  candidate-exactly = (
    λ e.
        let B = both-sound w sc sv sd cc cv cd e in
        let n = then-second (check_list w 2 cc cv cd) _ _ (then-second (check_list w 1 sc sv sd) _ _ e) in
        (B.0, B.1, leb-true (length cd) (length sd) (need-passed _ 27 0 0 n)),
    λ a.
        then_next _ _ (sound-list w 1 sc sv sd a.0)
        ∙ then_next _ _ (sound-list w 2 cc cv cd a.1)
        ∙ longer-yes (length sd) (length cd) a.2,
  )

  -- The same of 27, the last of these checks.
  longer-candidate : Sound w sc sv sd → Sound w cc cv cd → length sd < length cd → candidate_check w sc sv sd cc cv cd ≡ Refuses 27 0 0
  unfolding candidate_check
  longer-candidate S T l =
      then_next _ _ (sound-list w 1 sc sv sd S) ∙ then_next _ _ (sound-list w 2 cc cv cd T) ∙ longer-no (length sd) (length cd) l

  candidate-longer : {n l r : ℕ} → n ≡ 27 → candidate_check w sc sv sd cc cv cd ≡ Refuses n l r → Sound w sc sv sd × Sound w cc cv cd × (length sd < length cd)
  unfolding candidate_check longer_check
  candidate-longer {n} {l} {r} e c = go (check_list w 1 sc sv sd) (check_list w 2 cc cv cd) refl refl
    where
      passes : check_list w 1 sc sv sd ≡ passed → check_list w 2 cc cv cd ≡ passed → length cd ≤ length sd → candidate_check w sc sv sd cc cv cd ≡ passed
      passes p q m = candidate-exactly.1 (list-sound w 1 sc sv sd p, list-sound w 2 cc cv cd q, m)

      first : {m k i : ℕ} → check_list w 1 sc sv sd ≡ Refuses m k i → candidate_check w sc sv sd cc cv cd ≡ Refuses m k i
      first p = then-refuses (check_list w 1 sc sv sd) (check_list w 2 cc cv cd then longer_check (length sd) (length cd)) p

      second : {m k i : ℕ} → check_list w 1 sc sv sd ≡ passed → check_list w 2 cc cv cd ≡ Refuses m k i → candidate_check w sc sv sd cc cv cd ≡ Refuses m k i
      second p q =
          then_next (check_list w 1 sc sv sd) (check_list w 2 cc cv cd then longer_check (length sd) (length cd)) p
          ∙ then-refuses (check_list w 2 cc cv cd) (longer_check (length sd) (length cd)) q

      last : check_list w 1 sc sv sd ≡ passed → check_list w 2 cc cv cd ≡ passed → Sound w sc sv sd × Sound w cc cv cd × (length sd < length cd)
      last p q = (list-sound w 1 sc sv sd p, list-sound w 2 cc cv cd q, split (leb (length cd) (length sd)) (λ y. absurd (gives-refuses (sym (passes p q (leb-true (length cd) (length sd) y)) ∙ c))) (λ m. leb-false (length cd) (length sd) m))

      go : (a b : Reply) → check_list w 1 sc sv sd ≡ a → check_list w 2 cc cv cd ≡ b → Sound w sc sv sd × Sound w cc cv cd × (length sd < length cd)
      go (Refuses m k i) b p q = absurd (let z : m ≡ n = one_number (sym (first p) ∙ c) in let y : ⊥ = omega (arith, list-number w 1 sc sv sd p) in y)
      go (Gives ns) (Refuses m k i) p q = absurd (let z : m ≡ n = one_number (sym (second (list-given w 1 sc sv sd p) q) ∙ c) in let y : ⊥ = omega (arith, list-number w 2 cc cv cd q) in y)
      go (Gives ns) (Gives ms) p q = last (list-given w 1 sc sv sd p) (list-given w 2 cc cv cd q)

  -- the values of the lowest header, where all is passed before it
  beside_at : (values : ℕ → List ℕ) (h : ℕ) → candidate_check w sc sv sd cc cv cd ≡ passed → lowest_unlike w sc sv sd cc cv cd ≡ h ∷ []
      → beside values w sc sv sd cc cv cd ≡ values h
  unfolding beside
  beside_at values h c e =
      ap (λ (x : Reply). unless_refused x (of_lowest values (lowest_unlike w sc sv sd cc cv cd)) []) c ∙ ap (of_lowest values) e

  beside_none : (values : ℕ → List ℕ) → lowest_unlike w sc sv sd cc cv cd ≡ [] → beside values w sc sv sd cc cv cd ≡ []
  unfolding beside
  beside_none values e = ap (λ (l : List ℕ). unless_refused (candidate_check w sc sv sd cc cv cd) (of_lowest values l) []) e ∙ go (candidate_check w sc sv sd cc cv cd)
    where
      go : (x : Reply) → ◌≡◌ {A = List ℕ} (unless_refused x [] []) []
      go (Gives ns) = refl
      go (Refuses n l r) = refl

  beside-refused : (values : ℕ → List ℕ) {n l r : ℕ} → candidate_check w sc sv sd cc cv cd ≡ Refuses n l r → beside values w sc sv sd cc cv cd ≡ []
  unfolding beside
  beside-refused values c = ap (λ (x : Reply). unless_refused x (of_lowest values (lowest_unlike w sc sv sd cc cv cd)) []) c

  reply-at : (h : ℕ) → candidate_check w sc sv sd cc cv cd ≡ passed → lowest_unlike w sc sv sd cc cv cd ≡ h ∷ [] → accept_reply w sc sv sd cc cv cd ≡ Refuses 28 0 0
  unfolding accept_reply
  reply-at h c e = then_next _ _ c ∙ ap alike_check e

  reply-none : candidate_check w sc sv sd cc cv cd ≡ passed → lowest_unlike w sc sv sd cc cv cd ≡ [] → accept_reply w sc sv sd cc cv cd ≡ passed
  unfolding accept_reply
  reply-none c e = then_next _ _ c ∙ ap alike_check e

  reply-refused : {n l r : ℕ} → candidate_check w sc sv sd cc cv cd ≡ Refuses n l r → accept_reply w sc sv sd cc cv cd ≡ Refuses n l r
  unfolding accept_reply
  reply-refused c = then-refuses _ _ c

  -- The three ways that it can go: refused before any header, alike on every header, or unlike from a lowest header on.
  three : {C : Type 0} → ((n l r : ℕ) → candidate_check w sc sv sd cc cv cd ≡ Refuses n l r → C)
      → (candidate_check w sc sv sd cc cv cd ≡ passed → lowest_unlike w sc sv sd cc cv cd ≡ [] → C)
      → ((h : ℕ) → candidate_check w sc sv sd cc cv cd ≡ passed → lowest_unlike w sc sv sd cc cv cd ≡ h ∷ [] → C) → C
  unfolding lowest_unlike
  three {C} refused none one = go (candidate_check w sc sv sd cc cv cd) refl
    where
      go : (x : Reply) → candidate_check w sc sv sd cc cv cd ≡ x → C
      go (Refuses n l r) c = refused n l r c
      go (Gives ns) c =
          let p = bare-candidate ns c in
          ⊎_elim (none p) (λ t. one t.0 p t.1) (none-or-one w (answer (rules_of sc sv sd)) (answer (rules_of cc cv cd)))

-- ---- answers by what they tell

-- accepted is passed, and only that
accepted-passed : (r : Result (Unit {0}) Rejection) → accepted_reply r ≡ passed → r ≡ Ok tt
accepted-passed (Ok x) e = refl
accepted-passed (Err x) e = absurd (gives-refuses (sym e))

-- a refusal of another number than 28 is that of a check
refused-alone : (r : Result (Unit {0}) Rejection) (x : Refusal) → number_of x.reason ≢ 28 → accepted_reply r ≡ refusal_reply x → r ≡ Err (Rejection.Refused x)
refused-alone (Ok y) x n e = absurd (gives-refuses e)
refused-alone (Err (Rejection.Refused y)) x n e = ap (λ (z : Refusal). Err (Rejection.Refused z)) (one-refusal y x e)
refused-alone (Err (Rejection.Differs h s c)) x n e = absurd (n (sym (one_number e)))

-- where something stands beside the reply, that is a header with two answers
something : (r : Result (Unit {0}) Rejection) {n : ℕ} {ns : List ℕ} → beside_values r ≡ n ∷ ns → (h : Wire) × (s : ℕ) × (c : ℕ) × (r ≡ Err (Rejection.Differs h s c))
something (Ok x) e = absurd (nothing e)
something (Err (Rejection.Refused x)) e = absurd (nothing e)
something (Err (Rejection.Differs h s c)) e = (h, s, c, refl)

-- ---- the call

module _ (w : ℕ) (sc sv sd cc cv cd : List ℕ) (r : Result (Unit {0}) Rejection) (D : AcceptDone w sc sv sd cc cv cd r) where
  said : (v : Result (Unit {0}) Rejection) → r ≡ v → accept_reply w sc sv sd cc cv cd ≡ accepted_reply v
  said v e = sym D.reply ∙ ap accepted_reply e

  -- A candidate is accepted exactly when both lists are valid, it has no more rules than the source, and every header gets the same answer
  -- from both.
  pub accepted-exactly : (r ≡ Ok tt) ↔ Acceptable w sc sv sd cc cv cd
  unfolding lowest_unlike
  accepted-exactly = (there, back)
    where
      there : r ≡ Ok tt → Acceptable w sc sv sd cc cv cd
      there e =
          three w sc sv sd cc cv cd (λ n l i c. absurd (gives-refuses (sym (said (Ok tt) e) ∙ reply-refused w sc sv sd cc cv cd c)))
          (λ c none.
          let a = (candidate-exactly w sc sv sd cc cv cd).0 c in
          record {
            source_list = a.0;
            candidate_list = a.1;
            no_longer = a.2;
            alike = (alike-exactly w (answer (rules_of sc sv sd)) (answer (rules_of cc cv cd))).0 none;
          })
          (λ h c one. absurd (gives-refuses (sym (said (Ok tt) e) ∙ reply-at w sc sv sd cc cv cd h c one)))

      back : Acceptable w sc sv sd cc cv cd → r ≡ Ok tt
      back A =
          accepted-passed r
          (D.reply
          ∙ reply-none w sc sv sd cc cv cd ((candidate-exactly w sc sv sd cc cv cd).1 (A.source_list, A.candidate_list, A.no_longer))
          ((alike-exactly w (answer (rules_of sc sv sd)) (answer (rules_of cc cv cd))).1 A.alike))

  -- The lookups of an accepted candidate decide as those of its source: the same decision, no match where there is none, and the same
  -- refusal where the header is no header of the width.
  pub accepted-lookup : r ≡ Ok tt → (h : ℕ) → decided (looked_up w cc cv cd h) ≡ decided (looked_up w sc sv sd h)
  accepted-lookup e h =
      let A = accepted-exactly.0 e in
      decide-alike-within w cc cv cd sc sv sd h (sound-list w 1 cc cv cd A.candidate_list) (sound-list w 1 sc sv sd A.source_list) (λ l. sym (A.alike h l))

  -- It is enough that the lookups decide alike: two lists that pass their checks, the candidate with no more rules.
  pub lookups-accepted : check_list w 1 sc sv sd ≡ passed → check_list w 1 cc cv cd ≡ passed → length cd ≤ length sd
      → ((h : ℕ) → decided (looked_up w cc cv cd h) ≡ decided (looked_up w sc sv sd h)) → r ≡ Ok tt
  lookups-accepted p q l alike =
      accepted-exactly.1 (record {
        source_list = list-sound w 1 sc sv sd p;
        candidate_list = list-sound w 1 cc cv cd q;
        no_longer = l;
        alike = λ h m. answered-once _ _ (sym (looked-answered w sc sv sd h p m) ∙ sym (alike h) ∙ looked-answered w cc cv cd h q m);
      })

  -- ---- refusal 27

  -- It is given exactly where both lists are valid and the candidate has more rules, whatever the lists answer.
  pub longer-exactly : (r ≡ Err (Rejection.Refused longer)) ↔ (Sound w sc sv sd × Sound w cc cv cd × (length sd < length cd))
  longer-exactly = (there, back)
    where
      there : r ≡ Err (Rejection.Refused longer) → Sound w sc sv sd × Sound w cc cv cd × (length sd < length cd)
      there e =
          three w sc sv sd cc cv cd (λ n l i c. candidate-longer w sc sv sd cc cv cd (one_number (sym (reply-refused w sc sv sd cc cv cd c) ∙ said _ e)) c)
          (λ c none. absurd (gives-refuses (sym (reply-none w sc sv sd cc cv cd c none) ∙ said _ e)))
          (λ h c one. absurd (let z : ◌≡◌ {A = ℕ} 28 27 = one_number (sym (reply-at w sc sv sd cc cv cd h c one) ∙ said _ e) in let y : ⊥ = omega arith in y))

      back : Sound w sc sv sd × Sound w cc cv cd × (length sd < length cd) → r ≡ Err (Rejection.Refused longer)
      back a =
          refused-alone r longer (λ z. let y : ◌≡◌ {A = ℕ} 27 28 = z in let x : ⊥ = omega arith in x)
          (D.reply ∙ reply-refused w sc sv sd cc cv cd (longer-candidate w sc sv sd cc cv cd a.0 a.1 a.2))

  -- ---- refusal 28

  -- It always comes with a header and two answers.
  pub unlike-named : (x : Rejection) → r ≡ Err x → number_of (refusal_of x).reason ≡ 28 → (h : Wire) × (s : ℕ) × (c : ℕ) × (r ≡ Err (Rejection.Differs h s c))
  unlike-named x e n =
      three w sc sv sd cc cv cd
      (λ m l i c.
      let q : m ≡ number_of (refusal_of x).reason = one_number (sym (reply-refused w sc sv sd cc cv cd c) ∙ said (Err x) e) in
      absurd (let z : ⊥ = omega (arith, candidate-number w sc sv sd cc cv cd c) in z))
      (λ c none. absurd (gives-refuses (sym (reply-none w sc sv sd cc cv cd c none) ∙ said (Err x) e)))
      (λ h c one. something r (D.told ∙ beside_at w sc sv sd cc cv cd _ h c one))

  module _ (x : Wire) (s c : ℕ) (e : r ≡ Err (Rejection.Differs x s c)) where
    stands : beside (header_told (answer (rules_of sc sv sd)) (answer (rules_of cc cv cd))) w sc sv sd cc cv cd ≡ x.0.low ∷ x.0.high ∷ s ∷ c ∷ []
    stands = sym D.told ∙ ap beside_values e

    -- there is a lowest header, and it stands beside the refusal
    unlike : (h : ℕ) × (candidate_check w sc sv sd cc cv cd ≡ passed) × (lowest_unlike w sc sv sd cc cv cd ≡ h ∷ [])
    unlike =
        three w sc sv sd cc cv cd
        (λ m l i c. absurd (nothing (sym (beside-refused w sc sv sd cc cv cd _ c) ∙ stands)))
        (λ c none. absurd (nothing (sym (beside_none w sc sv sd cc cv cd _ none) ∙ stands)))
        (λ h c one. (h, c, one))

    values : (x.0.low ≡ (halves unlike.0).low) × (x.0.high ≡ (halves unlike.0).high) × (s ≡ answer (rules_of sc sv sd) unlike.0) × (c ≡ answer (rules_of cc cv cd) unlike.0)
    values = four-values (sym stands ∙ beside_at w sc sv sd cc cv cd _ unlike.0 unlike.1 unlike.2)

    named : num x.0 ≡ unlike.0
    named = ap₂ (λ (a b : ℕ). num (word a b)) values.0 values.1 ∙ num-halves unlike.0

    -- Both lists are valid, and the candidate has no more rules.
    pub unlike-lists : Sound w sc sv sd × Sound w cc cv cd × (length cd ≤ length sd)
    unlike-lists = (candidate-exactly w sc sv sd cc cv cd).0 unlike.1

    -- The header is the lowest of the width on which the two lists answer differently.
    pub unlike-header : LowestDifference w (answer (rules_of sc sv sd)) (answer (rules_of cc cv cd)) (num x.0)
    unfolding lowest_unlike
    unlike-header =
        subst (LowestDifference w (answer (rules_of sc sv sd)) (answer (rules_of cc cv cd))) (sym named)
        ((difference-exactly w (answer (rules_of sc sv sd)) (answer (rules_of cc cv cd)) unlike.0).0 unlike.2)

    -- The two answers are theirs.
    pub unlike-answers : (s ≡ answer (rules_of sc sv sd) (num x.0)) × (c ≡ answer (rules_of cc cv cd) (num x.0))
    unlike-answers = (values.2 ∙ sym (ap (answer (rules_of sc sv sd)) named), values.3 ∙ sym (ap (answer (rules_of cc cv cd)) named))

    source-passes : check_list w 1 sc sv sd ≡ passed
    source-passes = sound-list w 1 sc sv sd unlike-lists.0

    candidate-passes : check_list w 1 cc cv cd ≡ passed
    candidate-passes = sound-list w 1 cc cv cd unlike-lists.1

    -- The same told by lookups: looked up in the two lists the header gets the two answers, and they are not the same.
    pub unlike-looked : (decided (looked_up w sc sv sd (num x.0)) ≡ answered s)
        × (decided (looked_up w cc cv cd (num x.0)) ≡ answered c)
        × (decided (looked_up w sc sv sd (num x.0)) ≢ decided (looked_up w cc cv cd (num x.0)))
    unlike-looked =
        let l = unlike-header.below in (
          looked-answered w sc sv sd _ source-passes l ∙ sym (ap answered unlike-answers.0),
          looked-answered w cc cv cd _ candidate-passes l ∙ sym (ap answered unlike-answers.1),
          (decide-differently w sc sv sd cc cv cd _ source-passes candidate-passes).1 (l, unlike-header.differ),
        )

    -- Every lower header is decided alike.
    pub alike-below : (h : ℕ) → h < num x.0 → decided (looked_up w sc sv sd h) ≡ decided (looked_up w cc cv cd h)
    alike-below h l = decide-alike-within w sc sv sd cc cv cd h source-passes candidate-passes (λ m. unlike-header.lowest h l)

  -- Two valid lists, no longer, and some header of the width that gets another answer: that is refused 28.
  pub unlike-refused : Sound w sc sv sd → Sound w cc cv cd → length cd ≤ length sd
      → (h : ℕ) → h < 2 ^ w → answer (rules_of sc sv sd) h ≢ answer (rules_of cc cv cd) h
      → (x : Wire) × (s : ℕ) × (c : ℕ) × (r ≡ Err (Rejection.Differs x s c))
  unfolding lowest_unlike
  unlike-refused S T l h m d =
      let x = difference-lowest w (answer (rules_of sc sv sd)) (answer (rules_of cc cv cd)) h m d in
      something r
      (D.told
      ∙ beside_at w sc sv sd cc cv cd _ x.0 ((candidate-exactly w sc sv sd cc cv cd).1 (S, T, l))
      ((difference-exactly w (answer (rules_of sc sv sd)) (answer (rules_of cc cv cd)) x.0).1 x.1))

  -- ---- every other answer

  -- Nothing stands beside it.
  pub nothing-beside : accepted_reply r ≢ Refuses 28 0 0 → beside_values r ≡ []
  nothing-beside n =
      three w sc sv sd cc cv cd
      (λ m l i c. D.told ∙ beside-refused w sc sv sd cc cv cd _ c)
      (λ c none. D.told ∙ beside_none w sc sv sd cc cv cd _ none)
      (λ h c one. absurd (n (D.reply ∙ reply-at w sc sv sd cc cv cd h c one)))
