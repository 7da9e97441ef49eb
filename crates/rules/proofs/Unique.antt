-- No second result: for each public call, two results that meet its promise are equal.
use mathlib.Core.Path.{◌≡◌, sym, ◌∙◌}
use mathlib.Core.List.{List}
use Prim.Native.Nat.{ℕ}
use Rattle.rules.specs.declared.Rule.{Rule as Held}
use Rattle.rules.specs.Rule.{Rule, held}
use Rattle.words.specs.declared.Word.{Word}
use Rattle.words.specs.Halves.{num}
use Rattle.rules.specs.declared.Wire.{Wire}
use Rattle.std.specs.Prelude.{Option, Result, length}
use Rattle.rules.specs.declared.Reason.{Reason}
use Rattle.rules.specs.declared.Refusal.{Refusal}
use Rattle.rules.specs.declared.Hit.{Hit}
use Rattle.rules.specs.Slices.{rules_of, rule_at, Placed}
use Rattle.rules.specs.Replies.{◌then◌, Refuses, number_of, verdict_reply, looked_reply}
use Rattle.rules.specs.Checks.{width_check, lengths_check, header_check, room_check}
use Rattle.rules.specs.Calls.{check_rule, check_list, looked_up}
use Rattle.rules.proofs.ReplyLaws.{one-verdict, one-looked, one-reason}

-- two things that equal a third
both : {A : Type 0} {a b c : A} → a ≡ c → b ≡ c → a ≡ b
both p q = p ∙ sym q

-- `refused`
pub refused-once : (n l i : ℕ) (a b : Result (Unit {0}) Refusal) → verdict_reply a ≡ Refuses n l i → verdict_reply b ≡ Refuses n l i → a ≡ b
refused-once n l i a b p q = one-verdict a b (both p q)

-- `check_width`
pub check-width-once : (w : ℕ) (a b : Result (Unit {0}) Refusal) → verdict_reply a ≡ width_check w → verdict_reply b ≡ width_check w → a ≡ b
check-width-once w a b p q = one-verdict a b (both p q)

-- `check_header`
pub check-header-once : (w : ℕ) (h : Word) (a b : Result (Unit {0}) Refusal) → verdict_reply a ≡ header_check w (num h) → verdict_reply b ≡ header_check w (num h) → a ≡ b
check-header-once w h a b p q = one-verdict a b (both p q)

-- `check_room`
pub check-room-once : (n m : ℕ) (a b : Result (Unit {0}) Refusal) → verdict_reply a ≡ room_check n m → verdict_reply b ≡ room_check n m → a ≡ b
check-room-once n m a b p q = one-verdict a b (both p q)

-- `check_results`
pub check-results-once : (n : ℕ) (cs vs ds : List ℕ) (a b : Result (Unit {0}) Refusal) → verdict_reply a ≡ (lengths_check cs vs ds then room_check n (length ds))
    → verdict_reply b ≡ (lengths_check cs vs ds then room_check n (length ds)) → a ≡ b
check-results-once n cs vs ds a b p q = one-verdict a b (both p q)

-- `check_rule`
pub check-rule-once : (w l i : ℕ) (r : Rule) (a b : Result (Unit {0}) Refusal) → verdict_reply a ≡ check_rule w l i r → verdict_reply b ≡ check_rule w l i r → a ≡ b
check-rule-once w l i r a b p q = one-verdict a b (both p q)

-- `check_list_as`, and `check_list`, for which the list's number is 1
pub check-list-once : (w l : ℕ) (cs vs ds : List ℕ) (a b : Result (Unit {0}) Refusal) → verdict_reply a ≡ check_list w l cs vs ds
    → verdict_reply b ≡ check_list w l cs vs ds → a ≡ b
check-list-once w l cs vs ds a b p q = one-verdict a b (both p q)

-- `lookup_number`: the number that its word holds
pub lookup-number-once : (w : ℕ) (cs vs ds : List ℕ) (h : Word) (a b : Result (Option Hit) Refusal) → looked_reply a ≡ looked_up w cs vs ds (num h)
    → looked_reply b ≡ looked_up w cs vs ds (num h) → a ≡ b
lookup-number-once w cs vs ds h a b p q = one-looked a b (both p q)

-- `lookup`: the number of its header
pub lookup-once : (w : ℕ) (cs vs ds : List ℕ) (h : Wire) (a b : Result (Option Hit) Refusal) → looked_reply a ≡ looked_up w cs vs ds (num h.0)
    → looked_reply b ≡ looked_up w cs vs ds (num h.0) → a ≡ b
lookup-once w cs vs ds h a b p q = one-looked a b (both p q)

-- `rule_at`
pub rule-at-once : (cs vs ds : List ℕ) (i : ℕ) (a b : Held) → a ≡ held (rule_at (rules_of cs vs ds) i) → b ≡ held (rule_at (rules_of cs vs ds) i) → a ≡ b
rule-at-once cs vs ds i a b p q = both p q

-- `put_rule`: what the three slices hold afterwards
pub put-rule-once : (cs vs ds : List ℕ) (i : ℕ) (r : Held) (c v d c' v' d' : List ℕ) → Placed cs vs ds i r c v d → Placed cs vs ds i r c' v' d'
    → (c ≡ c') × (v ≡ v') × (d ≡ d')
put-rule-once cs vs ds i r c v d c' v' d' p q =
    (both p.cares q.cares, both p.values q.values, both p.decisions q.decisions)

-- `Reason::number`
pub number-once : (x : Reason) (a b : ℕ) → a ≡ number_of x → b ≡ number_of x → a ≡ b
number-once x a b p q = both p q

-- `Reason::from`
pub reason-once : (n : ℕ) (a b : Reason) → number_of a ≡ n → number_of b ≡ n → a ≡ b
reason-once n a b p q = one-reason a b (both p q)
