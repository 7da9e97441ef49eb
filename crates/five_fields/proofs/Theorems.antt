-- The theorems of five-field rules: what a header gets from the ternary list, and the calls together.
use mathlib.Core.Path.{◌≡◌, sym, ap, ◌∙◌}
use mathlib.Core.List.{List, [], ◌∷◌, map}
use mathlib.Core.Bool.{true}
use Prim.Native.Nat.{ℕ, ◌*◌, ◌^◌, ◌≤◌, ◌<◌}
use native.Mathlib.Omega.{arith}
use lib.ListN.{length, take, drop, length-map}
use lib.Seq.{take_at, drop_at}
use Rattle.words.specs.Halves.{num}
use Rattle.words.specs.Slices.{halves_of}
use Rattle.words.proofs.SliceLaws.{halves-length}
use Rattle.rules.specs.Rule.{Rule}
use Rattle.rules.specs.declared.Wire.{Wire}
use Rattle.rules.specs.Rules.{answer, Valid}
use Rattle.rules.specs.Lists.{All}
use Rattle.rules.specs.Slices.{rules_of, care_of, value_of, decision_of, cares_of, values_of, decisions_of, filled}
use Rattle.std.specs.Prelude.{Ok}
use Rattle.rules.specs.Replies.{Gives, Refuses, passed, number_reply}
use Rattle.rules.specs.Calls.{check_list, looked_up, decided, answered}
use Rattle.rules.proofs.ReplyLaws.{then_next, then-refuses, then-assoc, then-second, one_value, bare-first, same-given}
use Rattle.rules.proofs.ZipLaws.{ap₃}
use Rattle.rules.proofs.CheckLaws.{sound-list, width-inside, results_fine, results-seven}
use Rattle.rules.proofs.SliceLaws.{rules-columns}
use Rattle.rules.proofs.AnswerLaws.{looked-answered}
use Rattle.five_numbers.specs.Numbers.{Numbers}
use Rattle.five_numbers.specs.Fields.{header_bits, header_of, in_fields, numbers_of}
use Rattle.five_fields.specs.FiveFieldRules.{decides}
use Rattle.five_fields.specs.Slices.{Slices, rules_in}
use Rattle.five_fields.specs.Expansion.{expanded}
use Rattle.five_fields.specs.Calls.{rules_check, source_check, count_reply, expand_check, expand_reply, ExpandDone}
use Rattle.five_numbers.specs.Calls.{built_reply, header_reply}
use Rattle.five_numbers.proofs.Theorems.{header-fits, header-numbers, header-told}
use Rattle.five_numbers.proofs.FieldLaws.{in-fields}
use Rattle.five_fields.proofs.CheckLaws.{rules-sound}
use Rattle.five_fields.proofs.MatchLaws.{expanded-first, expanded-all}
use Rattle.five_fields.proofs.CallLaws.{counted, bare-source, source-rules, entry_count}

-- ---- what a header gets

module _ (s : Slices) (passes : rules_check s ≡ passed) where
  -- The header of five numbers gets from the ternary list the decision of the first five-field rule that the numbers satisfy, or no match
  -- where they satisfy none.
  pub expanded-answers : (n : Numbers) → in_fields n ≡ true → answer (expanded (rules_in s)) (header_of n) ≡ decides (rules_in s) n
  expanded-answers n e = expanded-first (rules_in s) (rules-sound s passes).good n (in-fields n e)

  -- So does every header of 104 places, by the five numbers that it is made of.
  pub every-header : (h : ℕ) → h < 2 ^ header_bits → answer (expanded (rules_in s)) h ≡ decides (rules_in s) (numbers_of h)
  every-header h l =
      let x = header-numbers h l in
      ap (answer (expanded (rules_in s))) (sym x.theirs) ∙ expanded-answers (numbers_of h) x.inside

  -- Each entry is a rule of 104 places.
  pub expanded-valid : All (Valid header_bits) (expanded (rules_in s))
  expanded-valid = expanded-all (rules_in s) (rules-sound s passes).good

-- ---- what an answered call leaves

filled-front : (ns was : List ℕ) (k : ℕ) → length ns ≡ k → take k (filled ns was) ≡ ns
filled-front ns was k e = take_at ns (drop (length ns) was) k e

filled-back : (ns was : List ℕ) (k : ℕ) → length ns ≡ k → drop k (filled ns was) ≡ drop k was
filled-back ns was k e = drop_at ns (drop (length ns) was) k e ∙ ap (λ (j : ℕ). drop j was) e

-- The first places of the result slices hold the entries, as many as the call says, and the later places what they had.
pub record EntriesWritten (s : Slices) (cs vs ds cs' vs' ds' : List ℕ) (n : ℕ) : Type 0 where
  pub passes : rules_check s ≡ passed
  pub count : n ≡ length (expanded (rules_in s))
  pub few : n ≤ 1024
  pub cares : take (n * 2) cs' ≡ cares_of (expanded (rules_in s))
  pub values : take (n * 2) vs' ≡ values_of (expanded (rules_in s))
  pub decisions : take n ds' ≡ decisions_of (expanded (rules_in s))
  pub cares-after : drop (n * 2) cs' ≡ drop (n * 2) cs
  pub values-after : drop (n * 2) vs' ≡ drop (n * 2) vs
  pub decisions-after : drop n ds' ≡ drop n ds

module _ (s : Slices) (cs vs ds cs' vs' ds' : List ℕ) (n : ℕ) (d : ExpandDone s cs vs ds cs' vs' ds' (Ok n)) where
  abbrev pub all : List Rule
  all = expanded (rules_in s)

  told : expand_reply s cs vs ds ≡ Gives (n ∷ [])
  told = sym d.reply

  source : (source_check s ≡ passed) × (n ≡ length all)
  unfolding expand_reply expand_check
  source = (
    bare-first (source_check s) _ (bare-source s) (n ∷ []) (sym (then-assoc (source_check s) _ _) ∙ told),
    sym (one_value (then-second (expand_check s cs vs ds) _ (n ∷ []) told)),
  )

  pub entries-written : EntriesWritten s cs vs ds cs' vs' ds' n
  entries-written =
      record {
        passes = (source-rules s source.0).0;
        count = source.1;
        few = omega (arith, source.1, (source-rules s source.0).1);
        cares = ap (take (n * 2)) c ∙ filled-front (cares_of all) cs (n * 2) (twice care_of);
        values = ap (take (n * 2)) v ∙ filled-front (values_of all) vs (n * 2) (twice value_of);
        decisions = ap (take n) e ∙ filled-front (decisions_of all) ds n once;
        cares-after = ap (drop (n * 2)) c ∙ filled-back (cares_of all) cs (n * 2) (twice care_of);
        values-after = ap (drop (n * 2)) v ∙ filled-back (values_of all) vs (n * 2) (twice value_of);
        decisions-after = ap (drop n) e ∙ filled-back (decisions_of all) ds n once;
      }
    where
      c : cs' ≡ filled (cares_of all) cs
      c = d.cares ∙ sym (same-given _ _ (filled (cares_of all) cs) cs told)

      v : vs' ≡ filled (values_of all) vs
      v = d.values ∙ sym (same-given _ _ (filled (values_of all) vs) vs told)

      e : ds' ≡ filled (decisions_of all) ds
      e = d.decisions ∙ sym (same-given _ _ (filled (decisions_of all) ds) ds told)

      once : length (decisions_of all) ≡ n
      once = length-map all decision_of ∙ sym source.1

      twice : (f : Rule → ℕ) → length (halves_of (map f all)) ≡ n * 2
      twice f = halves-length (map f all) ∙ ap (λ (k : ℕ). k * 2) (length-map all f ∙ sym source.1)

  -- The rules in the first places are the ternary list.
  pub entries-rules : rules_of (take (n * 2) cs') (take (n * 2) vs') (take n ds') ≡ all
  entries-rules = let w = entries-written in ap₃ rules_of w.cares w.values w.decisions ∙ rules-columns all

  -- They are refused by no call on lists: as any list of width 104, with as many places as the call says, they pass.
  pub entries-pass : (l : ℕ) → check_list header_bits l (take (n * 2) cs') (take (n * 2) vs') (take n ds') ≡ passed
  entries-pass l =
      let w = entries-written in
      sound-list header_bits l _ _ _ (record {
        width = width-inside header_bits (omega arith) (omega arith);
        lent = record { values = long value_of w.values ∙ sym (long care_of w.cares); decisions = ap (λ (k : ℕ). k * 2) (short w.decisions) ∙ sym (long care_of w.cares) };
        few = omega (arith, short w.decisions, w.few);
        valid = rw entries-rules (expanded-valid s w.passes);
      })
    where
      long : (f : Rule → ℕ) {l : List ℕ} → l ≡ halves_of (map f all) → length l ≡ n * 2
      long f e = ap length e ∙ halves-length (map f all) ∙ ap (λ (k : ℕ). k * 2) (length-map all f ∙ sym source.1)

      short : {l : List ℕ} → l ≡ decisions_of all → length l ≡ n
      short e = ap length e ∙ length-map all decision_of ∙ sym source.1

  -- Looked up there, the header of five numbers gets the decision of the first five-field rule that they satisfy, or no match.
  pub entries-lookup : (five : Numbers) → in_fields five ≡ true
      → decided (looked_up header_bits (take (n * 2) cs') (take (n * 2) vs') (take n ds') (header_of five)) ≡ answered (decides (rules_in s) five)
  entries-lookup five e =
      looked-answered header_bits _ _ _ (header_of five) (entries-pass 1) (header-fits five e)
      ∙ ap (λ (rs : List Rule). answered (answer rs (header_of five))) entries-rules
      ∙ ap answered (expanded-answers s entries-written.passes five e)

  -- So does every header of 104 places, by the five numbers that it is made of.
  pub entries-every-header : (h : ℕ) → h < 2 ^ header_bits
      → decided (looked_up header_bits (take (n * 2) cs') (take (n * 2) vs') (take n ds') h) ≡ answered (decides (rules_in s) (numbers_of h))
  entries-every-header h l =
      let x = header-numbers h l in
      ap (λ (k : ℕ). decided (looked_up header_bits (take (n * 2) cs') (take (n * 2) vs') (take n ds') k)) (sym x.theirs) ∙ entries-lookup (numbers_of h) x.inside

  -- And what `header` gives for five numbers gets what the five-field rules decide for them.
  pub entries-header : (five : Numbers) (x : Wire) → built_reply (Ok x) ≡ header_reply five
      → decided (looked_up header_bits (take (n * 2) cs') (take (n * 2) vs') (take n ds') (num x.0)) ≡ answered (decides (rules_in s) five)
  entries-header five x e =
      let h = header-told five x e in
      ap (λ (k : ℕ). decided (looked_up header_bits (take (n * 2) cs') (take (n * 2) vs') (take n ds') k)) h.1 ∙ entries-lookup five h.0

-- ---- the number first, and then the entries

-- With so many places in result slices that belong together `expand` answers the number that `expansion_count` gives.
pub entries-answered : (s : Slices) (n : ℕ) (cs vs ds : List ℕ) → number_reply (Ok n) ≡ count_reply s
    → length cs ≡ length vs → length cs ≡ length ds * 2 → n ≤ length ds → expand_reply s cs vs ds ≡ Gives (n ∷ [])
unfolding expand_reply expand_check
entries-answered s n cs vs ds e p q h =
    let c = counted s n e in
    then_next _ _ (then_next _ _ c.0 ∙ results_fine (entry_count s) cs vs ds p q (omega (arith, h, c.1))) ∙ ap (λ (k : ℕ). Gives (k ∷ [])) (sym c.1)

-- With fewer it is refused 7.
pub entries-refused : (s : Slices) (n : ℕ) (cs vs ds : List ℕ) → number_reply (Ok n) ≡ count_reply s
    → length cs ≡ length vs → length cs ≡ length ds * 2 → length ds < n → expand_reply s cs vs ds ≡ Refuses 7 0 0
unfolding expand_reply expand_check
entries-refused s n cs vs ds e p q h =
    let c = counted s n e in
    then-refuses _ _ (then_next _ _ c.0 ∙ results-seven (entry_count s) cs vs ds p q (omega (arith, h, c.1)))
