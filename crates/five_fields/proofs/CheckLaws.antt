-- Laws of the checks of five-field rules: each refusal in turn, and what a list that passed is.
use mathlib.Core.Path.{◌≡◌, refl, sym, ap, ◌∙◌}
use mathlib.Core.Logic.{◌↔◌, ◌≢◌}
use mathlib.Core.List.{List, [], ◌∷◌}
use mathlib.Core.Bool.{Bool, true, false, ◌&&◌}
use Prim.Native.Nat.{ℕ, ◌+◌, ◌-◌, ◌^◌, ◌≤◌, ◌<◌}
use native.Mathlib.Omega.{arith}
use lib.Dec.{eqb, leb, ltb}
use borrow.Author.Tests.{leb-true, ltb-true, le-leb, lt-ltb}
use Rattle.words.proofs.Tests.{and-true, true-and, eqb_yes, yes_eqb, no_eqb, split as by}
use Rattle.rules.specs.declared.Refusal.{Refusal}
use Rattle.rules.specs.Rules.{no_match}
use Rattle.rules.specs.Lists.{All}
use Rattle.std.specs.Prelude.{Result, IsErrAnd}
use Rattle.std.specs.List.{list_all}
use Rattle.rules.specs.Replies.{Reply, passed, need, ◌then◌, refusal_reply, verdict_reply}
use Rattle.rules.specs.Checks.{size_check}
use Rattle.rules.proofs.ReplyLaws.{then_next, then-second, need-yes, need-passed, need-then, stop-up, Bare, bare-first, bare-need, bare-then}
use Rattle.ranges.specs.Prefixes.{prefix, PrefixIn}
use Rattle.ranges.specs.Calls.{is_range}
use Rattle.five_fields.specs.FiveFieldRule.{FiveFieldRule}
use Rattle.five_numbers.specs.Fields.{address_bits, port_bits, protocol_bits}
use Rattle.five_fields.specs.FiveFieldRules.{any_protocol, is_prefix, fields_fit, ports_fit}
use Rattle.five_fields.specs.Slices.{Slices, rows, each, alike, rule_at, rules_from, rules_in}
use Rattle.five_fields.specs.Expansion.{address_prefix, protocol_prefix}
use Rattle.five_fields.specs.Inner.{Bounded}
use Rattle.five_fields.specs.Calls.{five_field_check, five_fields_check, rules_check}
use Rattle.five_fields.proofs.ListLaws.{rules-next, rules-none, rules-at}

-- ---- one rule

-- What a range of ports that passes is.
pub record PortRange (low high : ℕ) : Type 0 where
  pub upward : low ≤ high
  pub within : high < 2 ^ port_bits

pub port-range : (low high : ℕ) → is_range port_bits low high ≡ true → PortRange low high
port-range low high e = let t = and-true (leb low high) (ltb high (2 ^ port_bits)) e in record { upward = leb-true _ _ t.0; within = ltb-true _ _ t.1 }

pub range-port : (low high : ℕ) → PortRange low high → is_range port_bits low high ≡ true
range-port low high r = true-and (le-leb low high r.upward) (lt-ltb high (2 ^ port_bits) r.within)

-- What a rule that passes its checks is: each field is a prefix or a range, and it has a decision.
pub record Good (r : FiveFieldRule) : Type 0 where
  pub source : PrefixIn address_bits (address_prefix r.source r.source_length)
  pub source_short : r.source_length ≤ address_bits
  pub destination : PrefixIn address_bits (address_prefix r.destination r.destination_length)
  pub destination_short : r.destination_length ≤ address_bits
  pub protocol : r.protocol ≤ any_protocol
  pub source_ports : PortRange r.source_low r.source_high
  pub destination_ports : PortRange r.destination_low r.destination_high
  pub decides : r.decision < no_match

address-good : (a k : ℕ) → is_prefix a k ≡ true → (k ≤ address_bits) × PrefixIn address_bits (address_prefix a k)
unfolding is_prefix
address-good a k e =
    let t = and-true (leb k address_bits) _ e in
    let u = and-true (ltb a (2 ^ address_bits)) _ t.1 in
    (leb-true _ _ t.0, record { fits = omega arith; within = ltb-true _ _ u.0; clear = eqb_yes _ _ u.1 })

good-address : (a k : ℕ) → k ≤ address_bits → PrefixIn address_bits (address_prefix a k) → is_prefix a k ≡ true
unfolding is_prefix
good-address a k h p = true-and (le-leb _ _ h) (true-and (lt-ltb _ _ p.within) (yes_eqb _ _ p.clear))

-- any protocol is a prefix of its field, and so is one that is not any
pub any-prefix : PrefixIn protocol_bits (prefix protocol_bits 0)
any-prefix = record { fits = omega arith; within = omega arith; clear = refl }

pub one-prefix : (p : ℕ) → p ≤ any_protocol → eqb p any_protocol ≡ false → PrefixIn protocol_bits (prefix 0 p)
one-prefix p h e =
    let d : p ≢ any_protocol = no_eqb p any_protocol e in
    record { fits = omega arith; within = omega arith; clear = omega arith }

-- so the protocol of a rule that passes is one
pub protocol-prefix : (p : ℕ) → p ≤ any_protocol → PrefixIn protocol_bits (protocol_prefix p)
protocol-prefix p h = by (eqb p any_protocol) (λ e. rw e any-prefix) (λ e. rw e (one-prefix p h e))

module _ (i : ℕ) (r : FiveFieldRule) where
  pub check-decision : fields_fit r ≡ true → ports_fit r ≡ true → {a : Reply} → need (ltb r.decision no_match) 5 1 i ≡ a → five_field_check i r ≡ a
  unfolding five_field_check
  check-decision e f g = then_next _ _ (need-yes _ 23 1 i e) ∙ then_next _ _ (need-yes _ 20 1 i f) ∙ g

  -- both ranges of ports of a rule are such
  pub ports-both : ports_fit r ≡ true → (is_range port_bits r.source_low r.source_high ≡ true) × (is_range port_bits r.destination_low r.destination_high ≡ true)
  unfolding ports_fit
  ports-both e = and-true (is_range port_bits r.source_low r.source_high) _ e

  pub rule-good : five_field_check i r ≡ passed → Good r
  unfolding five_field_check fields_fit ports_fit
  rule-good e =
      let f = and-true (is_prefix r.source r.source_length) _ (need-then _ 23 1 i _ [] e) in
      let g = and-true (is_prefix r.destination r.destination_length) (leb r.protocol any_protocol) f.1 in
      let rest = then-second (need (fields_fit r) 23 1 i) _ [] e in
      let p = and-true (is_range port_bits r.source_low r.source_high) _ (need-then _ 20 1 i _ [] rest) in
      let a = address-good _ _ f.0 in
      let b = address-good _ _ g.0 in
      record {
        source = a.1;
        source_short = a.0;
        destination = b.1;
        destination_short = b.0;
        protocol = leb-true _ _ g.1;
        source_ports = port-range _ _ p.0;
        destination_ports = port-range _ _ p.1;
        decides = ltb-true _ _ (need-passed _ 5 1 i (then-second (need (ports_fit r) 20 1 i) _ [] rest));
      }

  pub good-fields : Good r → fields_fit r ≡ true
  unfolding fields_fit
  good-fields g = true-and (good-address _ _ g.source_short g.source) (true-and (good-address _ _ g.destination_short g.destination) (le-leb _ _ g.protocol))

  pub good-ports : Good r → ports_fit r ≡ true
  unfolding ports_fit
  good-ports g = true-and (range-port _ _ g.source_ports) (range-port _ _ g.destination_ports)

  -- the words of its entries can be made
  pub fields-bounded : fields_fit r ≡ true → Bounded r
  unfolding fields_fit
  fields-bounded e =
      let f = and-true (is_prefix r.source r.source_length) _ e in
      let g = and-true (is_prefix r.destination r.destination_length) (leb r.protocol any_protocol) f.1 in
      record { source = (address-good _ _ f.0).0; destination = (address-good _ _ g.0).0; protocol = leb-true _ _ g.1 }

  pub good-rule : Good r → five_field_check i r ≡ passed
  good-rule g = check-decision (good-fields g) (good-ports g) (need-yes _ 5 1 i (lt-ltb _ _ g.decides))

  pub bare-rule : Bare (five_field_check i r)
  unfolding five_field_check
  bare-rule =
      bare-then (need (fields_fit r) 23 1 i) _ (bare-then (need (ports_fit r) 20 1 i) _ (bare-need (ltb r.decision no_match) 5 1 i))

-- ---- the rules, one after the other

pub rules-good : (i : ℕ) (rs : List FiveFieldRule) → five_fields_check i rs ≡ passed → All Good rs
unfolding five_fields_check
rules-good i [] e = tt
rules-good i (r ∷ rs) e =
    (rule-good i r (bare-first (five_field_check i r) _ (bare-rule i r) [] e), rules-good (i + 1) rs (then-second (five_field_check i r) _ [] e))

pub good-rules : (i : ℕ) (rs : List FiveFieldRule) → All Good rs → five_fields_check i rs ≡ passed
unfolding five_fields_check
good-rules i [] a = refl
good-rules i (r ∷ rs) a = then_next _ _ (good-rule i r a.0) ∙ good-rules (i + 1) rs a.1

bare-rules : (i : ℕ) (rs : List FiveFieldRule) → Bare (five_fields_check i rs)
unfolding five_fields_check
bare-rules i [] ns e = refl
bare-rules i (r ∷ rs) ns e = bare-then (five_field_check i r) _ (bare-rules (i + 1) rs) ns e

-- the loop: the rules from position i on are left
module _ (s : Slices) (i n : ℕ) where
  left-next : i < n → five_fields_check (i + 1) (rules_from s i (n - i)) ≡ (five_field_check (i + 1) (rule_at s i) then five_fields_check (i + 1 + 1) (rules_from s (i + 1) (n - (i + 1))))
  unfolding five_fields_check
  left-next h = ap (five_fields_check (i + 1)) (rules-next s i n h)

  pub left-pass : i < n → passed ≡ five_field_check (i + 1) (rule_at s i)
      → five_fields_check (i + 1) (rules_from s i (n - i)) ≡ five_fields_check (i + 1 + 1) (rules_from s (i + 1) (n - (i + 1)))
  left-pass h e = left-next h ∙ then_next _ _ (sym e)

  pub left-stop : (r : Result (Unit {0}) Refusal) (x : Refusal) → i < n → IsErrAnd r (λ y. y ≡ x) → refusal_reply x ≡ five_field_check (i + 1) (rule_at s i)
      → verdict_reply r ≡ five_fields_check (i + 1) (rules_from s i (n - i))
  left-stop r x h e f = stop-up _ r _ _ x e f ∙ sym (left-next h)

  pub left_end : n ≤ i → five_fields_check (i + 1) (rules_from s i (n - i)) ≡ passed
  unfolding five_fields_check
  left_end h = ap (five_fields_check (i + 1)) (rules-none s i n h)

-- ---- the ten slices

-- std's test of all, which the code makes
pub each_all : (n : ℕ) (ms : List ℕ) → list_all (λ m. eqb m n) ms ≡ each n ms
each_all n [] = refl
each_all n (m ∷ ms) = ap (λ (t : Bool). eqb m n && t) (each_all n ms)

module _ (s : Slices) where
  -- checks give no values
  pub bare-slices : Bare (rules_check s)
  unfolding rules_check
  bare-slices = bare-then (need (alike s) 2 0 0) _ (bare-then (size_check 1 (rows s)) _ (bare-rules 1 (rules_in s)))

  -- What ten slices that pass are: equally long, at most 1,024 rules, and each rule good.
  pub record Sound : Type 0 where
    pub lengths : alike s ≡ true
    pub few : rows s ≤ 1024
    pub good : All Good (rules_in s)

  pub rules-sound : rules_check s ≡ passed → Sound
  unfolding rules_check size_check
  rules-sound e =
      let rest = then-second (need (alike s) 2 0 0) _ [] e in
      record {
        lengths = need-then _ 2 0 0 _ [] e;
        few = leb-true _ _ (need-then _ 3 1 0 _ [] rest);
        good = rules-good 1 (rules_in s) (then-second (size_check 1 (rows s)) _ [] rest);
      }

  pub sound-rules : Sound → rules_check s ≡ passed
  unfolding rules_check size_check
  sound-rules t =
      then_next _ _ (need-yes _ 2 0 0 t.lengths) ∙ then_next _ _ (need-yes _ 3 1 0 (le-leb _ _ t.few)) ∙ good-rules 1 (rules_in s) t.good

  -- Exactly these pass.
  pub rules-exactly : (rules_check s ≡ passed) ↔ Sound
  rules-exactly = (rules-sound, sound-rules)

  pub good-at : Sound → (i : ℕ) → i < rows s → Good (rule_at s i)
  good-at t i h = rules-at Good s 0 (rows s) t.good i (omega arith) (omega arith)
