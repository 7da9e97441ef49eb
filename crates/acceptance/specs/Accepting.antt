-- Accepting a candidate list for a source list, whoever made it (request 13): what the call replies, and what stands beside the reply.
use Rattle.std.specs.Prelude.{ℕ, ◌≤◌, ◌≡◌, List, [], ◌∷◌, leb, length, Result}
use Rattle.rules.specs.declared.RuleList.{RuleList}
use Rattle.rules.specs.Rules.{answer}
use Rattle.rules.specs.Slices.{rules_of}
use Rattle.rules.specs.Replies.{Reply, Refuses, passed, need, ◌then◌, unless_refused}
use Rattle.rules.specs.Checks.{Sound}
use Rattle.rules.specs.Calls.{check_list}
use Rattle.compare.specs.Differing.{lowest_difference, AlikeEverywhere}
use Rattle.acceptance.specs.declared.Rejection.{Rejection}
use Rattle.acceptance.specs.Rejections.{accepted_reply, beside_values, header_told}

-- What a candidate has to be: both lists are valid at the width, it has no more rules than the source, and every header gets the same answer
-- from both, a plain one as a lookup gives it. That it is accepted exactly then is the theorem `accepted-exactly`.
pub record Acceptable (w : ℕ) (sc sv sd cc cv cd : List ℕ) : Type 0 where
  pub source_list : Sound w sc sv sd
  pub candidate_list : Sound w cc cv cd
  pub no_longer : length cd ≤ length sd
  pub alike : AlikeEverywhere w (answer (rules_of sc sv sd)) (answer (rules_of cc cv cd))

-- Refusal 27: the candidate has more rules than the source.
unfoldable pub longer_check : (source candidate : ℕ) → Reply
longer_check n m = need (leb m n) 27 0 0

-- What is tested before any header: 1, and 2 to 5 of the source, which is list 1; 2 to 5 of the candidate, list 2; then 27.
unfoldable pub candidate_check : (w : ℕ) → (sc sv sd cc cv cd : List ℕ) → Reply
candidate_check w sc sv sd cc cv cd =
    check_list w 1 sc sv sd
    then check_list w 2 cc cv cd
    then longer_check (length sd) (length cd)

-- Refusal 28, by the lowest header on which the answers differ: there is one.
abbrev pub alike_check : List ℕ → Reply
alike_check [] = passed
alike_check (h ∷ hs) = Refuses 28 0 0

-- Values of that header; none where there is no such header.
abbrev pub of_lowest : (values : ℕ → List ℕ) → List ℕ → List ℕ
of_lowest values [] = []
of_lowest values (h ∷ hs) = values h

-- The lowest header of the width that gets another answer from the candidate than from the source.
unfoldable pub lowest_unlike : (w : ℕ) → (sc sv sd cc cv cd : List ℕ) → List ℕ
lowest_unlike w sc sv sd cc cv cd = lowest_difference w (answer (rules_of sc sv sd)) (answer (rules_of cc cv cd))

-- What the call replies: accepted where all is passed.
unfoldable pub accept_reply : (w : ℕ) → (sc sv sd cc cv cd : List ℕ) → Reply
accept_reply w sc sv sd cc cv cd = candidate_check w sc sv sd cc cv cd then alike_check (lowest_unlike w sc sv sd cc cv cd)

-- What stands beside the reply: values of that header beside 28, and none in every other case.
unfoldable pub beside : (values : ℕ → List ℕ) → (w : ℕ) → (sc sv sd cc cv cd : List ℕ) → List ℕ
beside values w sc sv sd cc cv cd =
    unless_refused (candidate_check w sc sv sd cc cv cd) (of_lowest values (lowest_unlike w sc sv sd cc cv cd)) []

-- The promise of `accept`: the reply, and beside it the header with what source and candidate answer to it.
pub record AcceptDone (w : ℕ) (sc sv sd cc cv cd : List ℕ) (r : Result (Unit {0}) Rejection) : Type 0 where
  pub reply : accepted_reply r ≡ accept_reply w sc sv sd cc cv cd
  pub told : beside_values r ≡ beside (header_told (answer (rules_of sc sv sd)) (answer (rules_of cc cv cd))) w sc sv sd cc cv cd

-- ---- the same of two lists as they are lent

abbrev pub candidate_check_in : (w : ℕ) → (source candidate : RuleList) → Reply
candidate_check_in w s c = candidate_check w s.care.now s.value.now s.decision.now c.care.now c.value.now c.decision.now

abbrev pub AcceptDoneIn : (w : ℕ) → (source candidate : RuleList) → Result (Unit {0}) Rejection → Type 0
AcceptDoneIn w s c r = AcceptDone w s.care.now s.value.now s.decision.now c.care.now c.value.now c.decision.now r
