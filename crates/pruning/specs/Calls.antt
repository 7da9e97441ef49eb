-- What pruning replies, and what it leaves in the slices lent for results (request 12; 01, Refusal numbers).
use Rattle.std.specs.Prelude.{ℕ, ◌*◌, ◌≡◌, List, [], ◌∷◌, length, eqb, Result}
use Rattle.words.specs.Slices.{halves_of}
use Rattle.rules.specs.Slices.{rules_of, cares_of, values_of, decisions_of, padded}
use Rattle.rules.specs.declared.Refusal.{Refusal}
use Rattle.rules.specs.declared.RuleList.{RuleList}
use Rattle.rules.specs.Replies.{Reply, Gives, need, ◌then◌, reply, unless_refused}
use Rattle.rules.specs.Checks.{lengths_check, room_check}
use Rattle.rules.specs.Calls.{check_list}
use Rattle.pruning.specs.declared.Tally.{Tally}
use Rattle.pruning.specs.Prune.{prune, kept, dropped, needed_headers}

-- Two values: entries kept, rules dropped.
abbrev pub tally_values : Tally → List ℕ
tally_values t = t.kept ∷ t.dropped ∷ []

abbrev pub pruned_reply : Result Tally Refusal → Reply
pruned_reply r = reply tally_values r

-- Refusal 2: the slice of headers has not two numbers to each place of the decisions.
unfoldable pub headers_check : (headers decisions : List ℕ) → Reply
headers_check hs ds = need (eqb (length hs) (length ds * 2)) 2 0 0

-- The four result slices: 2 where they are not equally long, then 7, one place for each of n rules.
unfoldable pub results_check : (n : ℕ) → (out_cares out_values out_decisions headers : List ℕ) → Reply
results_check n ocs ovs ods hs = lengths_check ocs ovs ods then headers_check hs ods then room_check n (length ods)

-- The same of three slices as they are lent.
abbrev pub results_in : (n : ℕ) → RuleList → (headers : List ℕ) → Reply
results_in n x hs = results_check n x.care.now x.value.now x.decision.now hs

-- The list's checks, then those of the result slices; else the two counts.
unfoldable pub prune_reply : ℕ → (cares values decisions out_cares out_values out_decisions headers : List ℕ) → Reply
prune_reply w cs vs ds ocs ovs ods hs =
    check_list w 1 cs vs ds
    then results_check (length ds) ocs ovs ods hs
    then Gives (kept w (rules_of cs vs ds) ∷ dropped w (rules_of cs vs ds) ∷ [])

-- What `prune` promises: its reply, and what stands in each result slice afterwards.
pub record PruneDone (w : ℕ) (cs vs ds ocs ovs ods hs ocs' ovs' ods' hs' : List ℕ) (answer : Result Tally Refusal) : Type 0 where
  pub reply : pruned_reply answer ≡ prune_reply w cs vs ds ocs ovs ods hs
  pub cares : ocs'
      ≡ unless_refused (prune_reply w cs vs ds ocs ovs ods hs)
      (padded (length cs) (cares_of (prune w (rules_of cs vs ds))) ocs) ocs
  pub values : ovs'
      ≡ unless_refused (prune_reply w cs vs ds ocs ovs ods hs)
      (padded (length vs) (values_of (prune w (rules_of cs vs ds))) ovs) ovs
  pub decisions : ods'
      ≡ unless_refused (prune_reply w cs vs ds ocs ovs ods hs)
      (padded (length ds) (decisions_of (prune w (rules_of cs vs ds))) ods) ods
  pub headers : hs'
      ≡ unless_refused (prune_reply w cs vs ds ocs ovs ods hs)
      (padded (length ds * 2) (halves_of (needed_headers w (prune w (rules_of cs vs ds)))) hs) hs

-- The same of a list as it is lent.
abbrev pub PruneDoneIn : (w : ℕ) → RuleList → (ocs ovs ods hs ocs' ovs' ods' hs' : List ℕ) → Result Tally Refusal → Type 0
PruneDoneIn w x ocs ovs ods hs ocs' ovs' ods' hs' answer = PruneDone w x.care.now x.value.now x.decision.now ocs ovs ods hs ocs' ovs' ods' hs' answer
