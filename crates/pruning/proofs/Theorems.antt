-- What request 12 says of dropping rules that do nothing, proved of the definitions for every width and list.
use mathlib.Core.Path.{◌≡◌, refl, sym, ap, ◌∙◌, subst}
use mathlib.Core.Logic.{◌↔◌, ⊎_elim}
use mathlib.Core.List.Sublistᴰ
use mathlib.Core.List.{List, [], ◌∷◌, ◌++◌}
use mathlib.Core.Bool.{Bool, true, false}
use Prim.Native.Nat.{ℕ, zero, suc, ◌+◌, ◌^◌, ◌≤◌, ◌<◌}
use native.Mathlib.Omega.{arith}
use lib.Dec.{eqb}
use lib.ListN.{length, get_or}
use borrow.Author.Tests.{eqb-true, eqb-false}
use Rattle.words.proofs.Tests.{split, true-false}
use Rattle.rules.specs.Rule.{Rule}
use Rattle.rules.specs.Rules.{answer, no_match, Valid}
use Rattle.rules.specs.Slices.{rules_of, Lent}
use Rattle.rules.specs.Lists.{All, except}
use Rattle.rules.specs.Found.{Hits}
use Rattle.rules.specs.Replies.{passed}
use Rattle.rules.specs.Checks.{Sound}
use Rattle.rules.specs.Calls.{check_list, looked_up, decided}
use Rattle.rules.proofs.RuleLaws.{decides-some, own_value, own-header}
use Rattle.removal.proofs.RemoveLaws.{except-all}
use Rattle.rules.proofs.SliceLaws.{rules-length}
use Rattle.rules.proofs.CheckLaws.{sound-list}
use Rattle.rules.proofs.AnswerLaws.{decide-alike-within}
use Rattle.compare.specs.Needed.{lowest_change, DoesNothing, LowestChange}
use Rattle.pruning.specs.Prune.{needless, drop_if, pass_down, prune, kept, dropped, needed_header, headers_from, needed_headers, InOrder}
use Rattle.compare.proofs.ExceptLaws.{change-later}
use Rattle.pruning.proofs.OrderLaws.{except-after, except-in-order, in-order-length}
use Rattle.compare.proofs.NeededLaws.{nothing-exactly, lowest-exactly, none-or-one, change-lowest, change-first}

-- ---- one step of the pass

no-entry : (xs : List ℕ) → length xs ≡ 0 → xs ≡ []
no-entry [] e = refl
no-entry (x ∷ xs) e = absurd (omega arith)

module _ (w : ℕ) (rs : List Rule) (k : ℕ) where
  -- the test by what the search for the lowest header finds
  pub none-needless : lowest_change w rs k ≡ [] → needless w rs k ≡ true
  unfolding needless
  none-needless e = ap (λ (hs : List ℕ). eqb (length hs) 0) e

  pub one-needed : (h : ℕ) → lowest_change w rs k ≡ h ∷ [] → needless w rs k ≡ false
  unfolding needless
  one-needed h e = ap (λ (hs : List ℕ). eqb (length hs) 0) e

  pub one-shown : (h : ℕ) → lowest_change w rs k ≡ h ∷ [] → needed_header w rs k ≡ h
  one-shown h e = ap (λ (hs : List ℕ). get_or hs 0 0) e

  -- A rule is dropped exactly where it does nothing.
  pub removed-exactly : (needless w rs k ≡ true) ↔ DoesNothing w rs k
  unfolding needless
  removed-exactly = (
    λ e. (nothing-exactly w rs k).0 (no-entry (lowest_change w rs k) (eqb-true (length (lowest_change w rs k)) 0 e)),
    λ d. none-needless ((nothing-exactly w rs k).1 d),
  )

  -- It is kept exactly where it is needed, and then there is a lowest header that shows it.
  pub kept-exactly : (needless w rs k ≡ false) ↔ ((h : ℕ) × LowestChange w rs k h)
  kept-exactly = (
    λ e.
        ⊎_elim (λ m. absurd (true-false (none-needless m) e)) (λ t. (t.0, (lowest-exactly w rs k t.0).0 t.1)) (none-or-one w rs k),
    λ t. one-needed t.0 ((lowest-exactly w rs k t.0).1 t.1),
  )

  -- The pass over so many rules keeps the last of them, or drops it, and goes on with the others.
  pub pass-keep : needless w rs k ≡ false → pass_down w (suc k) rs ≡ pass_down w k rs
  unfolding pass_down
  pass-keep e = ap (λ (t : Bool). pass_down w k (drop_if t k rs)) e

  pub pass-drop : needless w rs k ≡ true → pass_down w (suc k) rs ≡ pass_down w k (except k rs)
  unfolding pass_down
  pass-drop e = ap (λ (t : Bool). pass_down w k (drop_if t k rs)) e

-- ---- what a pass keeps

-- what holds of a list, and still holds when a rule that does nothing is taken out, holds after the pass
pass-keeps : (w : ℕ) (P : List Rule → Type 0) → ((xs : List Rule) (k : ℕ) → needless w xs k ≡ true → P xs → P (except k xs))
    → (n : ℕ) (rs : List Rule) → P rs → P (pass_down w n rs)
unfolding pass_down
pass-keeps w P f zero rs p = p
pass-keeps w P f (suc k) rs p = pass-keeps w P f k (drop_if (needless w rs k) k rs) (step (needless w rs k) refl)
  where
    step : (t : Bool) → needless w rs k ≡ t → P (drop_if t k rs)
    step true e = f rs k e p
    step false e = p

prune-keeps : (w : ℕ) (P : List Rule → Type 0) → ((xs : List Rule) (k : ℕ) → needless w xs k ≡ true → P xs → P (except k xs))
    → (rs : List Rule) → P rs → P (prune w rs)
unfolding prune
prune-keeps w P f rs p = pass-keeps w P f (length rs) rs p

module _ (w : ℕ) (rs : List Rule) where
  -- Pruning keeps the answer to every header of the width, misses included (request 12).
  pub prune-keeps-answers : (h : ℕ) → h < 2 ^ w → answer (prune w rs) h ≡ answer rs h
  prune-keeps-answers h l =
      prune-keeps w (λ (xs : List Rule). answer xs h ≡ answer rs h) (λ xs k e p. (removed-exactly w xs k).0 e h l ∙ p) rs refl

  -- What is left are rules of the list, in their order (request 12).
  pub prune-in-order : InOrder (prune w rs) rs
  prune-in-order =
      prune-keeps w (λ (xs : List Rule). InOrder xs rs) (λ xs k e p. Sublistᴰ.trans (except-in-order xs k) p) rs (Sublistᴰ.refl rs)

  -- Pruning makes no list longer.
  pub prune-never-longer : length (prune w rs) ≤ length rs
  prune-never-longer = in-order-length prune-in-order

  -- The two counts account for every rule of the list.
  pub prune-counts : kept w rs + dropped w rs ≡ length rs
  prune-counts = omega (arith, prune-never-longer)

  -- What holds of each rule of the list holds of each that is left: each is valid where all were.
  pub prune-valid : (P : Rule → Type 0) → All P rs → All P (prune w rs)
  prune-valid P a = prune-keeps w (All P) (λ xs k e p. except-all P k xs p) rs a

-- ---- every rule that is left is needed

-- A rule is needed: at some header of the width the answer is another one without it.
abbrev Needed : (w : ℕ) → List Rule → (k : ℕ) → Type 0
Needed w rs k = (h : ℕ) × LowestChange w rs k h

-- Every rule from position n on is needed.
abbrev NeededFrom : (w : ℕ) → List Rule → (n : ℕ) → Type 0
NeededFrom w rs n = (i : ℕ) → n ≤ i → i < length rs → Needed w rs i

module _ (w : ℕ) (rs : List Rule) (k : ℕ) (a : NeededFrom w rs (suc k)) where
  -- a rule that is kept is one more
  needed-keep : needless w rs k ≡ false → NeededFrom w rs k
  needed-keep e i l m =
      split (eqb i k) (λ t. subst (Needed w rs) (sym (eqb-true i k t)) ((kept-exactly w rs k).0 e))
      (λ t. let d = eqb-false i k t in a i (omega arith) m)

  -- when one is dropped, those behind it come one position nearer and are needed as before
  needed-drop : NeededFrom w (except k rs) k
  needed-drop i l m =
      let u : suc i < length rs = except-after rs k i l m in
      let t = a (suc i) (omega arith) u in
      change-lowest w (except k rs) i t.0 t.1.below (change-later rs k i t.0 no_match l t.1.differ)

-- the invariant of the pass: when it has come down to position n, every rule from there on is needed in the list as it then stands
pass-needed : (w n : ℕ) (rs : List Rule) → NeededFrom w rs n → NeededFrom w (pass_down w n rs) 0
unfolding pass_down
pass-needed w zero rs a = a
pass-needed w (suc k) rs a = pass-needed w k (drop_if (needless w rs k) k rs) (step (needless w rs k) refl)
  where
    step : (t : Bool) → needless w rs k ≡ t → NeededFrom w (drop_if t k rs) k
    step true e = needed-drop w rs k a
    step false e = needed-keep w rs k a e

prune-needed : (w : ℕ) (rs : List Rule) → NeededFrom w (prune w rs) 0
unfolding prune
prune-needed w rs = pass-needed w (length rs) rs (λ i l m. absurd (omega arith))

-- the header shown beside a rule that is needed is the lowest at which it is
needed-shown : (w : ℕ) (rs : List Rule) (k : ℕ) → Needed w rs k → LowestChange w rs k (needed_header w rs k)
needed-shown w rs k t = subst (LowestChange w rs k) (sym (one-shown w rs k t.0 ((lowest-exactly w rs k t.0).1 t.1))) t.1

module _ (w : ℕ) (rs : List Rule) (k : ℕ) (l : k < length (prune w rs)) where
  -- Each rule of the pruned list is needed: there is a lowest header of the width whose answer is another one without it (request 12).
  pub every-rule-needed : (h : ℕ) × LowestChange w (prune w rs) k h
  every-rule-needed = prune-needed w rs k (omega arith) l

  -- So no rule of it does nothing.
  pub none-does-nothing : DoesNothing w (prune w rs) k → ⊥
  none-does-nothing d = every-rule-needed.1.differ (d every-rule-needed.0 every-rule-needed.1.below)

  -- The header shown beside a rule is that one (request 12).
  pub header-shown : LowestChange w (prune w rs) k (needed_header w (prune w rs) k)
  header-shown = needed-shown w (prune w rs) k every-rule-needed

  -- It hits the rule: it matches this rule of the pruned list, and none before.
  pub header-hits : Hits (prune w rs) (needed_header w (prune w rs) k) k
  header-hits = change-first (prune w rs) k _ header-shown.differ

-- ---- once is enough

-- a rule that is needed is kept, so where all are the pass changes nothing
pass_same : (w n : ℕ) (rs : List Rule) → n ≤ length rs → NeededFrom w rs 0 → pass_down w n rs ≡ rs
unfolding pass_down
pass_same w zero rs l a = refl
pass_same w (suc k) rs l a =
    pass-keep w rs k ((kept-exactly w rs k).1 (a k (omega arith) l)) ∙ pass_same w k rs (omega arith) a

-- A list is left as it is exactly where every rule of it is needed.
pub left-exactly : (w : ℕ) (rs : List Rule) → (prune w rs ≡ rs) ↔ ((k : ℕ) → k < length rs → (h : ℕ) × LowestChange w rs k h)
unfolding prune
left-exactly w rs = (
  λ e. subst (λ (xs : List Rule). (k : ℕ) → k < length xs → (h : ℕ) × LowestChange w xs k h) e (every-rule-needed w rs),
  λ a. pass_same w (length rs) rs (omega arith) (λ i l m. a i m),
)

-- Pruning a pruned list changes nothing.
pub prune-again : (w : ℕ) (rs : List Rule) → prune w (prune w rs) ≡ prune w rs
prune-again w rs = (left-exactly w (prune w rs)).1 (every-rule-needed w rs)

-- ---- a list that has a rule

-- Pruning keeps at least one rule of a list of valid rules that has one, as request 07 asks of every list of an image.
pub prune-keeps-some : (w : ℕ) (rs : List Rule) → All (Valid w) rs → 1 ≤ length rs → 1 ≤ length (prune w rs)
prune-keeps-some w [] v k = absurd (omega arith)
prune-keeps-some w (r ∷ rs) v k =
    decides-some (prune w (r ∷ rs)) r.value
    (omega (arith, prune-keeps-answers w (r ∷ rs) r.value (own-header w r v.0), own_value w r rs v.0))

-- ---- slices that hold the pruned list

-- Slices that hold the pruned list of a list that passed its checks pass the same checks: it can be looked up, woven, compared and pruned
-- again.
pub pruned-list-passes : (w l : ℕ) (cs vs ds ocs ovs ods : List ℕ) → Sound w cs vs ds → Lent ocs ovs ods
    → rules_of ocs ovs ods ≡ prune w (rules_of cs vs ds) → check_list w l ocs ovs ods ≡ passed
pruned-list-passes w l cs vs ds ocs ovs ods s o e =
    sound-list w l ocs ovs ods
    (record {
      width = s.width;
      lent = o;
      few = omega (arith, s.few, rules-length cs vs ds s.lent, rules-length ocs ovs ods o, ap length e, prune-never-longer w (rules_of cs vs ds));
      valid = subst (All (Valid w)) (sym e) (prune-valid w (rules_of cs vs ds) (Valid w) s.valid);
    })

-- Looking a header up in them decides as in the list that was pruned: the same decision, no match where there is none, and the same refusal
-- where the header is no header of the width.
pub pruned-list-lookup : (w h : ℕ) (cs vs ds ocs ovs ods : List ℕ) → Sound w cs vs ds → Lent ocs ovs ods
    → rules_of ocs ovs ods ≡ prune w (rules_of cs vs ds) → decided (looked_up w ocs ovs ods h) ≡ decided (looked_up w cs vs ds h)
pruned-list-lookup w h cs vs ds ocs ovs ods s o e =
    decide-alike-within w ocs ovs ods cs vs ds h (pruned-list-passes w 1 cs vs ds ocs ovs ods s o e) (sound-list w 1 cs vs ds s)
    (λ l. ap (λ (rs : List Rule). answer rs h) e ∙ prune-keeps-answers w (rules_of cs vs ds) h l)

-- ---- the headers shown

module _ (w : ℕ) (rs : List Rule) where
  -- There are as many as are asked for.
  pub headers-length : (n k : ℕ) → length (headers_from w rs n k) ≡ n
  unfolding headers_from
  headers-length zero k = refl
  headers-length (suc n) k = ap suc (headers-length n (suc k))

  -- One more stands at the end.
  pub headers-more : (n k : ℕ) → headers_from w rs (suc n) k ≡ headers_from w rs n k ++ (needed_header w rs (k + n) ∷ [])
  unfolding headers_from
  headers-more zero k = ap (λ (i : ℕ). needed_header w rs i ∷ []) (omega arith)
  headers-more (suc n) k =
      ap (λ (hs : List ℕ). needed_header w rs k ∷ hs)
      (headers-more n (suc k) ∙ ap (λ (i : ℕ). headers_from w rs n (suc k) ++ (needed_header w rs i ∷ [])) (omega arith))

  -- Each is that of its rule.
  pub headers-at : (n k i : ℕ) → i < n → get_or (headers_from w rs n k) i 0 ≡ needed_header w rs (k + i)
  unfolding headers_from
  headers-at zero k i l = absurd (omega arith)
  headers-at (suc n) k zero l = ap (needed_header w rs) (omega arith)
  headers-at (suc n) k (suc i) l = headers-at n (suc k) i (omega arith) ∙ ap (needed_header w rs) (omega arith)

-- The headers told of a pruned list: beside each rule the lowest at which it is needed (request 12).
pub headers-shown : (w : ℕ) (rs : List Rule) (k : ℕ) → k < length (prune w rs) → LowestChange w (prune w rs) k (get_or (needed_headers w (prune w rs)) k 0)
headers-shown w rs k l =
    subst (LowestChange w (prune w rs) k) (sym (headers-at w (prune w rs) (length (prune w rs)) 0 k l ∙ ap (needed_header w (prune w rs)) (omega arith)))
    (header-shown w rs k l)
