-- Laws of the calls: what a count says, and from what the inner functions leave to what is promised.
use mathlib.Core.Path.{◌≡◌, sym, ap, ◌∙◌}
use mathlib.Core.Logic.{◌↔◌}
use mathlib.Core.List.{List, [], ◌∷◌}
use Prim.Native.Nat.{ℕ, ◌≤◌}
use lib.Dec.{leb}
use lib.ListN.{length}
use borrow.Author.Tests.{leb-true, le-leb}
use Rattle.std.specs.Prelude.{Ok}
use Rattle.rules.specs.Replies.{Gives, passed, ◌then◌}
use Rattle.rules.specs.Checks.{size_check, lengths_check, room_check}
use Rattle.rules.proofs.ReplyLaws.{then_next, then-second, one_value, bare-first, Bare, bare-then, bare-need, need-yes, need-passed, same-given}
use Rattle.five_fields.specs.Slices.{Slices, rules_in}
use Rattle.five_fields.specs.Expansion.{expanded}
use Rattle.five_fields.specs.Calls.{rules_check, source_check, count_reply, expand_check, expand_reply, ExpandDone}
use Rattle.five_fields.proofs.CheckLaws.{Sound, rules-sound, sound-rules, bare-slices}
use Rattle.five_fields.proofs.PutLaws.{Laid}

-- ---- what a count says

module _ (s : Slices) where
  abbrev pub entry_count : ℕ
  entry_count = length (expanded (rules_in s))

  -- checks give no values
  pub bare-source : Bare (source_check s)
  unfolding source_check size_check
  bare-source = bare-then (rules_check s) _ (bare-need (leb entry_count 1024) 3 1 0)

  -- what rules that pass are, and how many entries they become
  pub source-rules : source_check s ≡ passed → (rules_check s ≡ passed) × (entry_count ≤ 1024)
  unfolding source_check size_check
  source-rules e =
      (bare-first (rules_check s) _ (bare-slices s) [] e, leb-true _ _ (need-passed _ 3 1 0 (then-second (rules_check s) _ [] e)))

  pub rules-source : rules_check s ≡ passed → entry_count ≤ 1024 → source_check s ≡ passed
  unfolding source_check size_check
  rules-source e h = then_next _ _ e ∙ need-yes _ 3 1 0 (le-leb entry_count 1024 h)

  -- Exactly those pass that are sound and become at most 1,024 entries.
  pub source-exactly : (source_check s ≡ passed) ↔ (Sound s × (entry_count ≤ 1024))
  source-exactly = ((λ e. let p = source-rules e in (rules-sound s p.0, p.1)), (λ x. rules-source (sound-rules s x.0) x.1))

  -- What `expansion_count` answers is the number of entries, of rules that pass.
  pub counted : (n : ℕ) → Gives (n ∷ []) ≡ count_reply s → (source_check s ≡ passed) × (n ≡ entry_count)
  unfolding count_reply
  counted n e = (bare-first (source_check s) _ bare-source (n ∷ []) (sym e), sym (one_value (then-second (source_check s) _ (n ∷ []) (sym e))))

  -- the rules are good, and there are so many entries
  pub counted_ready : (n : ℕ) → Gives (n ∷ []) ≡ count_reply s → (rules_check s ≡ passed) × (n ≡ entry_count)
  counted_ready n e = let c = counted n e in ((source-rules c.0).0, c.1)

-- ---- the call that writes

module _ (s : Slices) (cs vs ds : List ℕ) where
  module _ (n : ℕ) (asked : Gives (n ∷ []) ≡ count_reply s) where
    count : (source_check s ≡ passed) × (n ≡ entry_count s)
    count = counted s n asked

    rest : expand_check s cs vs ds ≡ (lengths_check cs vs ds then room_check n (length ds))
    unfolding expand_check
    rest = then_next _ _ count.0 ∙ ap (λ (k : ℕ). lengths_check cs vs ds then room_check k (length ds)) (sym count.1)

    -- the entries
    pub expand-given : (cs' vs' ds' : List ℕ) → (lengths_check cs vs ds then room_check n (length ds)) ≡ passed → Laid (expanded (rules_in s)) cs vs ds cs' vs' ds'
        → ExpandDone s cs vs ds cs' vs' ds' (Ok n)
    unfolding expand_reply
    expand-given cs' vs' ds' e l =
        let all = then_next _ (Gives (entry_count s ∷ [])) (rest ∙ e) in
        record {
          reply = ap (λ (k : ℕ). Gives (k ∷ [])) count.1 ∙ sym all;
          cares = l.cares ∙ same-given _ _ _ cs all;
          values = l.values ∙ same-given _ _ _ vs all;
          decisions = l.decisions ∙ same-given _ _ _ ds all;
        }
