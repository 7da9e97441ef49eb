-- Laws of how many entries rules become.
use mathlib.Core.Path.{◌≡◌, refl, sym, ap, ◌∙◌, subst}
use mathlib.Core.List.{List, ◌∷◌, map, flat_map}
use mathlib.Core.Bool.{true}
use Prim.Native.Nat.{ℕ, ◌+◌, ◌*◌, ◌-◌, ◌≤◌, ◌<◌}
use native.Mathlib.Omega.{arith}
use native.Mathlib.Nat.{mul-le-mul_right}
use lib.ListN.{length, length-append, length-map}
use Rattle.rules.specs.declared.Refusal.{Refusal}
use Rattle.std.specs.Prelude.{Result, Ok, Err, IsOk}
use Rattle.rules.specs.Lists.{All}
use Rattle.rules.specs.Replies.{Gives, passed, reply, number_reply}
use Rattle.rules.proofs.ReplyLaws.{then_next, gives-refuses}
use Rattle.ranges.specs.Prefixes.{Prefix}
use Rattle.ranges.specs.Ranges.{range_prefixes}
use Rattle.ranges.specs.Calls.{is_range, check_range, prefix_count_reply, PrefixesDone}
use Rattle.ranges.proofs.CallLaws.{ranged-passes}
use Rattle.ranges.proofs.Theorems.{range-at-most, count-told, room-enough, prefixes-written}
use Rattle.five_fields.specs.FiveFieldRule.{FiveFieldRule}
use Rattle.five_numbers.specs.Fields.{port_bits}
use Rattle.five_fields.specs.Slices.{Slices, rows, rule_at, rules_from, rules_in}
use Rattle.five_fields.specs.Expansion.{entry, source_prefixes, destination_prefixes, expansion, expanded}
use Rattle.five_fields.specs.Inner.{PortWords}
use Rattle.five_fields.specs.Calls.{rules_check}
use Rattle.five_fields.proofs.ListLaws.{flat-length, flat-most, rules-next, rules-none, rules-count}
use Rattle.five_fields.proofs.CheckLaws.{PortRange, port-range, Good, rules-sound}

-- ---- an answer

-- a call whose reply gives values is not refused
pub given-ok : {A : Type 0} (values : A → List ℕ) (r : Result A Refusal) {ns : List ℕ} → reply values r ≡ Gives ns → IsOk r
given-ok values (Ok x) e = refl
given-ok values (Err x) e = absurd (gives-refuses (sym e))

-- ---- a range of ports

-- a range of ports passes the check of a range
pub ports-pass : (low high : ℕ) → PortRange low high → check_range port_bits low high ≡ passed
ports-pass low high r = ranged-passes port_bits low high (record { some = omega arith; few = omega arith; upward = r.upward; within = r.within })

-- and has at most 30 prefixes
pub ports-few : (low high : ℕ) → PortRange low high → length (range_prefixes port_bits low high) ≤ 30
ports-few low high r = omega (arith, range-at-most port_bits low high r.within)

-- so `range_prefix_count` answers for it
pub ports-answered : (low high : ℕ) (r : Result ℕ Refusal) → number_reply r ≡ prefix_count_reply port_bits low high → is_range port_bits low high ≡ true → IsOk r
unfolding prefix_count_reply
ports-answered low high r e g = given-ok _ r (e ∙ then_next _ _ (ports-pass low high (port-range low high g)))

-- how many they are
pub ports-counted : (low high n : ℕ) {r : Result ℕ Refusal} → number_reply r ≡ prefix_count_reply port_bits low high → r ≡ Ok n → n ≡ length (range_prefixes port_bits low high)
ports-counted low high n e f = (count-told port_bits low high n (sym (ap number_reply f) ∙ e)).1

-- and so does `range_prefixes`, with 30 places
module _ (low high : ℕ) (cs vs cs' vs' : List ℕ) (r : Result ℕ Refusal) (d : PrefixesDone port_bits low high cs vs cs' vs' r) where
  pub ports-written : is_range port_bits low high ≡ true → 30 ≤ length cs → length cs ≡ length vs → IsOk r
  ports-written g h e = given-ok _ r (d.reply ∙ room-enough port_bits low high cs vs (ports-pass low high (port-range low high g)) e (omega arith))

  pub ports-put : (n : ℕ) → r ≡ Ok n → PortWords low high n cs' vs'
  ports-put n f =
      let w = prefixes-written port_bits low high cs vs cs' vs' n (subst (λ (x : Result ℕ Refusal). PrefixesDone port_bits low high cs vs cs' vs' x) f d) in
      record { count = w.count; cares = w.cares; values = w.values }

-- ---- a rule

-- A rule becomes an entry for each pair of port prefixes.
pub expansion-count : (r : FiveFieldRule) → length (expansion r) ≡ length (source_prefixes r) * length (destination_prefixes r)
unfolding expansion
expansion-count r = flat-length (λ (s : Prefix). map (entry r s) (destination_prefixes r)) (length (destination_prefixes r)) (λ s. length-map (destination_prefixes r) (entry r s)) (source_prefixes r)

pub pairs-most : (m n : ℕ) → m ≤ 30 → n ≤ 30 → m * n ≤ 900
pairs-most m n p q = let a : m * n ≤ 30 * n = mul-le-mul_right n p in omega arith

-- These are at most 900.
pub expansion-most : (r : FiveFieldRule) → Good r → length (expansion r) ≤ 900
expansion-most r g =
    omega (arith, expansion-count r, pairs-most (length (source_prefixes r)) (length (destination_prefixes r)) (ports-few _ _ g.source_ports) (ports-few _ _ g.destination_ports))

-- ---- a list

pub expanded-cons : (r : FiveFieldRule) (rs : List FiveFieldRule) → length (expanded (r ∷ rs)) ≡ length (expansion r) + length (expanded rs)
unfolding expanded flat_map
expanded-cons r rs = length-append (expansion r) (flat_map expansion rs)

-- good rules become at most 900 entries each
pub expanded-most : (rs : List FiveFieldRule) → All Good rs → length (expanded rs) ≤ length rs * 900
unfolding expanded
expanded-most rs a = flat-most expansion Good 900 expansion-most rs a

-- so the rules of ten slices that pass become at most 1,024 times 900
pub sound-most : (s : Slices) → rules_check s ≡ passed → length (expanded (rules_in s)) ≤ 921600
sound-most s e =
    let t = rules-sound s e in
    omega (arith, t.few, expanded-most (rules_in s) t.good, rules-count s 0 (rows s))

-- the loop: the rules from position i on are left to count
pub left-count : (s : Slices) (i n : ℕ) → i < n
    → length (expanded (rules_from s i (n - i))) ≡ length (expansion (rule_at s i)) + length (expanded (rules_from s (i + 1) (n - (i + 1))))
left-count s i n h = ap (λ (rs : List FiveFieldRule). length (expanded rs)) (rules-next s i n h) ∙ expanded-cons _ _

pub left-none : (s : Slices) (i n : ℕ) → n ≤ i → length (expanded (rules_from s i (n - i))) ≡ 0
unfolding expanded flat_map
left-none s i n h = ap (λ (rs : List FiveFieldRule). length (expanded rs)) (rules-none s i n h)
