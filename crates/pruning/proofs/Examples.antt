-- Small lists pruned by computation: what is left, and the header shown beside each rule that is. A list is written with the patterns of its
-- rules; the numbers after `rule` are care, value and decision.
use mathlib.Core.Path.{◌≡◌, refl}
use mathlib.Core.List.{List, [], ◌∷◌}
use Rattle.rules.specs.Rule.{Rule}
use Rattle.rules.specs.Rules.{rule, matches, first}
use Rattle.compare.specs.Needed.{changes, lowest_from, lowest_change}
use Rattle.pruning.specs.Prune.{needless, pass_down, prune, needed_header, headers_from, needed_headers}

-- ---- a narrow rule above a wide one

-- 00*→1, 0**→1
abbrev narrow : List Rule
narrow = rule 6 0 1 ∷ rule 4 0 1 ∷ []

-- The first goes: the second decides the same for its two headers.
pub narrow-dropped : prune 3 narrow ≡ rule 4 0 1 ∷ []
unfolding prune pass_down needless lowest_change lowest_from changes first matches
narrow-dropped = refl

-- In the list as it was the second is needed from header 2 on, since the first decides for 0 and 1; with the first gone it is needed at 0
-- already. The header shown is that of the pruned list.
pub wide-before : needed_header 3 narrow 1 ≡ 2
unfolding lowest_change lowest_from changes first matches
wide-before = refl

pub wide-after : needed_headers 3 (prune 3 narrow) ≡ 0 ∷ []
unfolding headers_from prune pass_down needless lowest_change lowest_from changes first matches
wide-after = refl

-- 00*→1, *01→2, 0**→1
abbrev crossed : List Rule
crossed = rule 6 0 1 ∷ rule 3 1 2 ∷ rule 4 0 1 ∷ []

-- All stay: a rule with another decision stands between, and crosses the first; without the first it would decide for header 1.
pub crossed-kept : prune 3 crossed ≡ crossed
unfolding prune pass_down needless lowest_change lowest_from changes first matches
crossed-kept = refl

-- Of the second it is only header 5, which is 101, that shows that it is needed: 001 is decided before it.
pub crossed-headers : needed_headers 3 (prune 3 crossed) ≡ 1 ∷ 5 ∷ 2 ∷ []
unfolding headers_from prune pass_down needless lowest_change lowest_from changes first matches
crossed-headers = refl

-- ---- which of several goes

-- 0*→1, 1*→2, 0*→1
abbrev twice : List Rule
twice = rule 2 0 1 ∷ rule 2 2 2 ∷ rule 2 0 1 ∷ []

-- Of two equal rules the later one goes, since the pass starts from the end; then the earlier one is needed.
pub twice-later : prune 2 twice ≡ rule 2 0 1 ∷ rule 2 2 2 ∷ []
unfolding prune pass_down needless lowest_change lowest_from changes first matches
twice-later = refl

pub twice-headers : needed_headers 2 (prune 2 twice) ≡ 0 ∷ 2 ∷ []
unfolding headers_from prune pass_down needless lowest_change lowest_from changes first matches
twice-headers = refl

-- 0*→1, 0*→2, **→1
abbrev shielding : List Rule
shielding = rule 2 0 1 ∷ rule 2 0 2 ∷ rule 0 0 1 ∷ []

-- The first two go, in one pass: the second is never hit, and the first is needed only to keep headers from it. A pass from the first rule
-- to the last would come to the first while the second is still there, and keep it.
pub shielding-dropped : prune 2 shielding ≡ rule 0 0 1 ∷ []
unfolding prune pass_down needless lowest_change lowest_from changes first matches
shielding-dropped = refl

pub shielding-before : lowest_change 2 shielding 0 ≡ 0 ∷ []
unfolding lowest_change lowest_from changes first matches
shielding-before = refl

pub shielding-headers : needed_headers 2 (prune 2 shielding) ≡ 0 ∷ []
unfolding headers_from prune pass_down needless lowest_change lowest_from changes first matches
shielding-headers = refl

-- 0*→1, 1*→2, *1→3
abbrev together : List Rule
together = rule 2 0 1 ∷ rule 2 2 2 ∷ rule 1 1 3 ∷ []

-- The last goes: neither of the two before it covers it, but together they do, so that no header ever hits it.
pub together-covered : prune 2 together ≡ rule 2 0 1 ∷ rule 2 2 2 ∷ []
unfolding prune pass_down needless lowest_change lowest_from changes first matches
together-covered = refl

pub together-none : lowest_change 2 together 2 ≡ []
unfolding lowest_change lowest_from changes first matches
together-none = refl

pub together-headers : needed_headers 2 (prune 2 together) ≡ 0 ∷ 2 ∷ []
unfolding headers_from prune pass_down needless lowest_change lowest_from changes first matches
together-headers = refl

-- 00→1, 01→1, 10→1, 11→1, **→1
abbrev parts : List Rule
parts = rule 3 0 1 ∷ rule 3 1 1 ∷ rule 3 2 1 ∷ rule 3 3 1 ∷ rule 0 0 1 ∷ []

-- What is left has no rule that does nothing, and is still not the shortest list that answers so: that would be the last rule alone, which
-- goes first, since the four before it cover it.
pub parts-kept : prune 2 parts ≡ rule 3 0 1 ∷ rule 3 1 1 ∷ rule 3 2 1 ∷ rule 3 3 1 ∷ []
unfolding prune pass_down needless lowest_change lowest_from changes first matches
parts-kept = refl

pub parts-headers : needed_headers 2 (prune 2 parts) ≡ 0 ∷ 1 ∷ 2 ∷ 3 ∷ []
unfolding headers_from prune pass_down needless lowest_change lowest_from changes first matches
parts-headers = refl

-- ---- the shortest lists

-- The empty list has no rule to drop, and no header to show.
pub no-rule-kept : prune 3 [] ≡ []
unfolding prune pass_down
no-rule-kept = refl

pub no-rule-headers : needed_headers 3 (prune 3 []) ≡ []
unfolding headers_from prune pass_down
no-rule-headers = refl

-- One rule, 1*→7: without it the headers that match it, 2 and 3, have no match.
pub one-rule-kept : prune 2 (rule 2 2 7 ∷ []) ≡ rule 2 2 7 ∷ []
unfolding prune pass_down needless lowest_change lowest_from changes first matches
one-rule-kept = refl

pub one-rule-headers : needed_headers 2 (prune 2 (rule 2 2 7 ∷ [])) ≡ 2 ∷ []
unfolding headers_from prune pass_down needless lowest_change lowest_from changes first matches
one-rule-headers = refl

-- A rule with decision 65,535, which no list that is checked has, answers as a miss does, and goes: so that a list keeps a rule is said of
-- valid rules only (`prune-keeps-some`).
pub no-decision-dropped : prune 2 (rule 2 2 65535 ∷ []) ≡ []
unfolding prune pass_down needless lowest_change lowest_from changes first matches
no-decision-dropped = refl
