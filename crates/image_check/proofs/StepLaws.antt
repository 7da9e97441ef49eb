-- One turn of each loop that checks an image: what is checked of the first rule or entry, and then of those after it.
use mathlib.Core.Path.{◌≡◌, sym, ap, ◌∙◌}
use mathlib.Core.List.{List, [], ◌∷◌}
use Prim.Native.Nat.{ℕ, zero, suc, ◌+◌, ◌-◌, ◌*◌, ◌≤◌, ◌<◌}
use native.Mathlib.Nat.{not-suc-le-zero}
use native.Mathlib.Omega.{arith}
use lib.ListN.{length, drop}
use lib.Seq.{drop-drop}
use borrow.Author.Tests.{eqb-true}
use lib.Dec.{eqb}
use Rattle.rules.specs.declared.Rule.{Rule as Held}
use Rattle.rules.specs.Rule.{Rule, held, rule_of}
use Rattle.rules.specs.Replies.{Reply, passed, need, ◌then◌}
use Rattle.rules.specs.Checks.{widest, rule_check, rules_check}
use Rattle.rules.specs.Calls.{check_rule}
use Rattle.rules.proofs.ReplyLaws.{need-passed, then_next, then-second}
use Rattle.rules.proofs.CheckLaws.{width-inside}
use Rattle.rules.proofs.SliceLaws.{told}
use Rattle.image_form.specs.Formats.{rule_size}
use Rattle.image_form.specs.declared.Entry.{Entry}
use Rattle.image_form.specs.Images.{rule_in, rules_in, entry_in, entries_in, lists_in, total, format_in, count_in, width_in, entries_of, lists_of}
use Rattle.image_check.specs.Checks.{entry_check, entries_check, lists_check, contents_check, bodies_check}
use Rattle.image_form.specs.Parts.{rule_from}
use Rattle.image_form.proofs.FormatLaws.{times-less}
use Rattle.image_form.proofs.PartLaws.{rule-got}
use Rattle.image_check.proofs.HeadLaws.{entry-facts}

less_one : (n : ℕ) → suc n - 1 ≡ n
less_one n = omega arith

pub entries-step : (n : ℕ) (s : List ℕ) → 0 < n → entries_in n s ≡ entry_in s ∷ entries_in (n - 1) (drop 8 s)
unfolding entries_in
entries-step zero s h = absurd (not-suc-le-zero h)
entries-step (suc n) s h = ap (λ (k : ℕ). entry_in s ∷ entries_in k (drop 8 s)) (sym (less_one n))

-- a rule of a good width is checked as in a list
pub in-width : (w l i : ℕ) (r : Rule) → 1 ≤ w → w ≤ widest → check_rule w l i r ≡ rule_check w l i r
unfolding check_rule
in-width w l i r p q = then_next _ _ (width-inside w p q)

-- ---- one of `count` rules from byte `from` on, and those after it

module _ (fmt w l count from i : ℕ) (b : List ℕ) where
  -- those from rule number i on, counted from 0
  abbrev pub rules_left : Reply
  rules_left = rules_check w l (i + 1) (rules_in fmt (count - i) (drop (from + rule_size fmt * i) b))

  module _ (rule : ℕ) (e : rule ≡ rule_size fmt) (fits : from + rule_size fmt * count ≤ length b) (lt : i < count) where
    -- `r` is the rule that was read
    pub rules-turn : 1 ≤ w → w ≤ widest → (r : Held) → r ≡ held (rule_from fmt (from + rule * i) b)
        → rules_left ≡ (check_rule w l (i + 1) (rule_of r) then rules_check w l (i + 1 + 1) (rules_in fmt (count - (i + 1)) (drop (from + rule_size fmt * (i + 1)) b)))
    unfolding rules_check rules_in
    rules-turn p q r x =
        let z : ℕ = rule_size fmt in
        let at : ℕ = from + z * i in
        let n : ℕ = count - (i + 1) in
        let here : from + rule * i ≡ at = ap (λ (k : ℕ). from + k * i) e in
        let next : at + z ≡ from + z * (i + 1) = omega arith in
        let is : rule_of r ≡ rule_in fmt (drop at b) =
        told (rule-got at b fmt r (x ∙ ap (λ (k : ℕ). held (rule_from fmt k b)) here) (omega (arith, times-less z count i lt))) in
        ap (λ (k : ℕ). rules_check w l (i + 1) (rules_in fmt k (drop at b))) (let one : count - i ≡ suc n = omega arith in one)
        ∙ (λ j. rule_check w l (i + 1) (sym is j) then rules_check w l (i + 1 + 1) (rules_in fmt n ((drop-drop z at b ∙ ap (λ (k : ℕ). drop k b) next) j)))
        ∙ ap (λ (c : Reply). c then rules_check w l (i + 1 + 1) (rules_in fmt n (drop (from + z * (i + 1)) b))) (sym (in-width w l (i + 1) (rule_of r) p q))

  pub rules-end : count ≤ i → rules_left ≡ passed
  unfolding rules_check rules_in
  rules-end h = ap (λ (k : ℕ). rules_check w l (i + 1) (rules_in fmt k (drop (from + rule_size fmt * i) b))) (let e : count - i ≡ 0 = omega arith in e)

-- ---- contents entry number k of `lists`, counted from 0, which is `e`, and those after it

module _ (b : List ℕ) (lists k : ℕ) where
  -- the entries from it on
  abbrev pub entries_left : List Entry
  entries_left = entries_in (lists - k) (drop (4 + 8 * k) b)

  abbrev pub entries_after : List Entry
  entries_after = entries_in (lists - (k + 1)) (drop (4 + 8 * (k + 1)) b)

  module _ (lt : k < lists) (e : Entry) (is : e ≡ entry_in (drop (4 + 8 * k) b)) where
    pub entries-split : entries_left ≡ e ∷ entries_after
    unfolding entries_in
    entries-split =
        let next : 4 + 8 * k + 8 ≡ 4 + 8 * (k + 1) = omega arith in
        ap (λ (n : ℕ). entries_in n (drop (4 + 8 * k) b)) (let one : lists - k ≡ suc (lists - (k + 1)) = omega arith in one)
        ∙ (λ j. sym is j ∷ entries_in (lists - (k + 1)) ((drop-drop 8 (4 + 8 * k) b ∙ ap (λ (n : ℕ). drop n b) next) j))

    -- what is left from it on, counted in bytes
    pub size_step : (fmt : ℕ) → rule_size fmt * total entries_left ≡ rule_size fmt * e.count + rule_size fmt * total entries_after
    unfolding total
    size_step fmt =
        let spread : rule_size fmt * (e.count + total entries_after) ≡ rule_size fmt * e.count + rule_size fmt * total entries_after = omega arith in
        ap (λ (es : List Entry). rule_size fmt * total es) entries-split ∙ spread

    module _ (fmt step : ℕ) (s : step ≡ rule_size fmt * e.count) where
      pub entries-turn : (size next least : ℕ) → entries_check fmt size next least (k + 1) entries_left
          ≡ (entry_check fmt size next least (k + 1) e then entries_check fmt size (next + step) (e.id + 1) (k + 1 + 1) entries_after)
      unfolding entries_check
      entries-turn size next least =
          ap (entries_check fmt size next least (k + 1)) entries-split
          ∙ ap (λ (n : ℕ). entry_check fmt size next least (k + 1) e then entries_check fmt size (next + n) (e.id + 1) (k + 1 + 1) entries_after) (sym s)

      pub lists-turn : (w from : ℕ) → lists_check w (k + 1) (lists_in fmt entries_left (drop from b))
          ≡ (rules_check w (k + 1) 1 (rules_in fmt e.count (drop from b)) then lists_check w (k + 1 + 1) (lists_in fmt entries_after (drop (from + step) b)))
      unfolding lists_check lists_in
      lists-turn w from =
          ap (λ (es : List Entry). lists_check w (k + 1) (lists_in fmt es (drop from b))) entries-split
          ∙ ap (λ (t : List ℕ). rules_check w (k + 1) 1 (rules_in fmt e.count (drop from b)) then lists_check w (k + 1 + 1) (lists_in fmt entries_after t))
          (drop-drop (rule_size fmt * e.count) from b ∙ ap (λ (n : ℕ). drop (from + n) b) (sym s))

  -- where no entry is left
  module _ (h : lists ≤ k) where
    pub entries-none : entries_left ≡ []
    unfolding entries_in
    entries-none = ap (λ (n : ℕ). entries_in n (drop (4 + 8 * k) b)) (let e : lists - k ≡ 0 = omega arith in e)

    pub entries-end : (fmt size next least : ℕ) → entries_check fmt size next least (k + 1) entries_left ≡ need (eqb next size) 10 0 0
    unfolding entries_check
    entries-end fmt size next least = ap (entries_check fmt size next least (k + 1)) entries-none

    pub lists-end : (fmt w from : ℕ) → lists_check w (k + 1) (lists_in fmt entries_left (drop from b)) ≡ passed
    unfolding lists_check lists_in
    lists-end fmt w from = ap (λ (es : List Entry). lists_check w (k + 1) (lists_in fmt es (drop from b))) entries-none

-- the body of an entry that passed is within the image
pub next_fits : (fmt size next least l : ℕ) (e : Entry) → passed ≡ entry_check fmt size next least l e → next + rule_size fmt * e.count ≤ size
next_fits fmt size next least l e p = (entry-facts fmt size next least l e (sym p)).within

pub contents-start : (b : List ℕ) (n m : ℕ) → n ≡ count_in b → m ≡ count_in b
    → contents_check b ≡ entries_check (format_in b) (length b) (4 + 8 * n) 0 1 (entries_in m (drop 4 b))
unfolding contents_check entries_of
contents-start b n m e f = λ j. entries_check (format_in b) (length b) (4 + 8 * sym e j) 0 1 (entries_in (sym f j) (drop 4 b))

-- what fine contents add up to
pub entries-total : (fmt size next least l : ℕ) (es : List Entry) → entries_check fmt size next least l es ≡ passed → next + rule_size fmt * total es ≡ size
unfolding entries_check total
entries-total fmt size next least l [] f = omega (arith, eqb-true next size (need-passed (eqb next size) 10 0 0 f))
entries-total fmt size next least l (e ∷ es) f =
    omega (arith, entries-total fmt size (next + rule_size fmt * e.count) (e.id + 1) (l + 1) es (then-second (entry_check fmt size next least l e) _ [] f))

pub contents-total : (b : List ℕ) → contents_check b ≡ passed → 4 + 8 * count_in b + rule_size (format_in b) * total (entries_of b) ≡ length b
unfolding contents_check
contents-total b f = entries-total (format_in b) (length b) (4 + 8 * count_in b) 0 1 (entries_of b) f

pub bodies-start : (b : List ℕ) (w n m : ℕ) → w ≡ width_in b → n ≡ count_in b → m ≡ count_in b
    → bodies_check b ≡ lists_check w 1 (lists_in (format_in b) (entries_in m (drop 4 b)) (drop (4 + 8 * n) b))
unfolding bodies_check lists_of entries_of
bodies-start b w n m p q r = λ j. lists_check (sym p j) 1 (lists_in (format_in b) (entries_in (sym r j) (drop 4 b)) (drop (4 + 8 * sym q j) b))

pub total-start : (b : List ℕ) (n m : ℕ) → n ≡ count_in b → m ≡ count_in b → 4 + 8 * count_in b + rule_size (format_in b) * total (entries_of b) ≡ length b
    → 4 + 8 * n + rule_size (format_in b) * total (entries_in m (drop 4 b)) ≡ length b
unfolding entries_of
total-start b n m e f h = (λ j. 4 + 8 * e j + rule_size (format_in b) * total (entries_in (f j) (drop 4 b))) ∙ h
