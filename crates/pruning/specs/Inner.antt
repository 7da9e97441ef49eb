-- What the private functions promise each other; no promise of a public call cites this file.
use Rattle.std.specs.Prelude.{ℕ, ◌-◌, ◌≤◌, ◌≡◌, List, ◌++◌, length, take, drop}
use Rattle.words.specs.Slices.{words_of}
use Rattle.rules.specs.Rule.{Rule}
use Rattle.rules.specs.Rules.{Valid}
use Rattle.rules.specs.Lists.{All}
use Rattle.rules.specs.Replies.{passed}
use Rattle.rules.specs.Checks.{width_check}
use Rattle.rules.specs.Slices.{rules_of, blanks, Lent}
use Rattle.rules.specs.declared.RuleList.{RuleList}
use Rattle.pruning.specs.declared.Tally.{Tally}
use Rattle.pruning.specs.Prune.{pass_down, prune, headers_from}

-- Three slices that belong together, of which the first `count` rules would pass a list's checks.
pub record Holds (w : ℕ) (cs vs ds : List ℕ) (count : ℕ) : Type 0 where
  pub width : width_check w ≡ passed
  pub lent : Lent cs vs ds
  pub inside : count ≤ length ds
  pub few : count ≤ 1024
  pub valid : All (Valid w) (take count (rules_of cs vs ds))

-- The same of slices as they are lent.
abbrev pub HoldsIn : ℕ → RuleList → (count : ℕ) → Type 0
HoldsIn w x count = Holds w x.care.now x.value.now x.decision.now count

-- Of the first `count` rules of `old` those at the positions from k up to n were gone through: `left` of them are left, and what the
-- slices hold goes on to what the whole pass down from n makes of `old`. Rules of zeros stand in the places that became free.
pub record Passing (w : ℕ) (old : List Rule) (count n : ℕ) (cs vs ds : List ℕ) (left k : ℕ) : Type 0 where
  pub holds : Holds w cs vs ds left
  pub ahead : k ≤ left
  pub fewer : left ≤ count
  pub same : pass_down w k (take left (rules_of cs vs ds)) ≡ pass_down w n (take count old)
  pub rest : drop left (rules_of cs vs ds) ≡ blanks (count - left) ++ drop count old

-- The list `rs` stands in the first places, and from there on what stood there.
pub record Copied (rs old : List Rule) (cs vs ds : List ℕ) : Type 0 where
  pub lent : Lent cs vs ds
  pub rules : rules_of cs vs ds ≡ rs ++ drop (length rs) old

-- In the first n places of a slice of headers stand those that the rules of a list are needed at, and from there on what stood there.
abbrev pub Shown : (w : ℕ) → List Rule → (n : ℕ) → (hs hs' : List ℕ) → Type 0
Shown w rs n hs hs' = (length hs' ≡ length hs) × (words_of hs' ≡ headers_from w rs n 0 ++ drop n (words_of hs))

-- What the whole leaves: the pruned list, rules of zeros up to the number of rules, then what stood there; the headers beside it; and the
-- counts.
pub record Left (w : ℕ) (rs old : List Rule) (hs : List ℕ) (l : List Rule) (hs' : List ℕ) (t : Tally) : Type 0 where
  pub rules : l ≡ prune w rs ++ (blanks (length rs - length (prune w rs)) ++ drop (length rs) old)
  pub headers : Shown w (prune w rs) (length rs) hs hs'
  pub entries : t.kept ≡ length (prune w rs)
  pub gone : t.dropped ≡ length rs - length (prune w rs)
