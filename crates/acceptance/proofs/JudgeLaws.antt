-- A comparison with one result place, from header 0 on: what its answer and its places say of the lowest difference.
use Prim.Native.Nat.{ℕ}
use mathlib.Core.Path.{◌≡◌, refl, sym, ap, ◌∙◌, subst}
use mathlib.Core.List.{List, [], ◌∷◌, ◌++◌}
use mathlib.Core.Bool.{true}
use native.Mathlib.Omega.{arith}
use lib.ListN.{length, get_or, drop}
use lib.Pow.{pow_pos}
use Rattle.words.specs.declared.Word.{Word}
use Rattle.words.specs.Halves.{halves}
use Rattle.words.specs.Slices.{words_of, halves_of}
use Rattle.words.proofs.WordLaws.{num-halves}
use Rattle.std.specs.Prelude.{None, Result, Ok, Err, is_ok}
use Rattle.rules.specs.declared.Refusal.{Refusal}
use Rattle.rules.specs.Replies.{Reply, Gives, passed, reply}
use Rattle.rules.proofs.ReplyLaws.{gives-refuses}
use Rattle.rules.proofs.ZipLaws.{ap₃}
use Rattle.rules.specs.Rules.{answer}
use Rattle.rules.specs.Slices.{rules_of}
use Rattle.rules.specs.Checks.{Sound}
use Rattle.compare_check.specs.Checks.{compare_check}
use Rattle.compare_check.proofs.OrderLaws.{default-absent, valid-not-refused, check-without}
use Rattle.compare.specs.declared.Compared.{Compared}
use Rattle.compare.specs.Runs.{Run, differences, portion}
use Rattle.compare.specs.Differing.{lowest_difference}
use Rattle.compare.specs.Calls.{header_values, PortionDone, Comparison}
use Rattle.acceptance.specs.declared.Rejection.{Rejection}
use Rattle.acceptance.specs.Rejections.{accepted_reply, beside_values, header_told}
use Rattle.acceptance.specs.Accepting.{alike_check, of_lowest}
use Rattle.acceptance.specs.Inner.{Judged}
use Rattle.acceptance.proofs.FirstLaws.{no_run, first_run}

-- two valid lists, one place: the comparison is not refused
checks-passed : (w : ℕ) (sc sv sd cc cv cd : List ℕ) (start a b c d : ℕ) → Sound w sc sv sd → Sound w cc cv cd → start ≡ 0 → a ≡ 2 → b ≡ 2 → c ≡ 1 → d ≡ 1
    → compare_check w sc sv sd cc cv cd start a b c d ≡ passed
checks-passed w sc sv sd cc cv cd start a b c d S T z p q s t =
    check-without w sc sv sd cc cv cd start a b c d
    ∙ valid-not-refused w sc sv sd None cc cv cd None start a b c d S T
    (default-absent 1 None refl) (default-absent 2 None refl)
    (omega (arith, pow_pos w)) (omega arith) (omega arith) (omega arith) (omega arith)

-- the first word of a slice that a word was written into
first_word : (n : ℕ) (rest : List ℕ) → get_or (words_of (halves_of (n ∷ []) ++ rest)) 0 0 ≡ n
unfolding words_of halves_of
first_word n rest = num-halves n

-- what gives values is no refusal
given-ok : {A : Type 0} (values : A → List ℕ) (r : Result A Refusal) {ns : List ℕ} → reply values r ≡ Gives ns → is_ok r ≡ true
given-ok values (Ok x) e = refl
given-ok values (Err x) e = absurd (gives-refuses (sym e))

-- an answer by the lowest difference that there is
judged-by : (w : ℕ) (f g : ℕ → ℕ) (lowest : List ℕ) → lowest_difference w f g ≡ lowest → (v : Result (Unit {0}) Rejection)
    → accepted_reply v ≡ alike_check lowest → beside_values v ≡ of_lowest (header_told f g) lowest → Judged w f g v
judged-by w f g lowest e v p q = record {
  reply = p ∙ sym (ap alike_check e);
  told = q ∙ sym (ap (of_lowest (header_told f g)) e);
}

module _ (w : ℕ) (f g : ℕ → ℕ) (first last old new first' last' old' new' : List ℕ) (r : Compared)
    (C : PortionDone passed (differences w f g 0) first last old new first' last' old' new' (Ok r)) (one : length old ≡ 1) where
  counted : r.count ≡ length (portion 1 (differences w f g 0))
  counted = rw one at C.count

  -- nothing is listed
  fine : r.count ≡ 0 → Judged w f g (Ok tt)
  fine z = go (differences w f g 0) refl
    where
      go : (ds : List Run) → differences w f g 0 ≡ ds → Judged w f g (Ok tt)
      go [] e = judged-by w f g [] (no_run w f g e) (Ok tt) refl refl
      go (x ∷ xs) e =
          let k : length (portion 1 (differences w f g 0)) ≡ 1 = ap (λ (ds : List Run). length (portion 1 ds)) e in
          absurd (let y : ⊥ = omega (arith, counted, k) in y)

  -- a run is listed, and the answer is its start and its two answers
  unlike : (r.count ≡ 0 → ⊥) → (h : Word) → h ≡ halves (get_or (words_of first') 0 0)
      → Judged w f g (Err (Rejection.Differs (record { 0 = h }) (get_or old' 0 0) (get_or new' 0 0)))
  unlike n h p = go (differences w f g 0) refl
    where
      go : (ds : List Run) → differences w f g 0 ≡ ds → Judged w f g (Err (Rejection.Differs (record { 0 = h }) (get_or old' 0 0) (get_or new' 0 0)))
      go [] e = absurd (n (counted ∙ ap (λ (ds : List Run). length (portion 1 ds)) e))
      go (x ∷ xs) e =
          let q = first_run w f g x xs e in
          let a : get_or (words_of first') 0 0 ≡ x.first =
          ap (λ (l : List ℕ). get_or (words_of l) 0 0) (rw (one, e) at C.firsts) ∙ first_word x.first (drop 2 first) in
          let b : get_or old' 0 0 ≡ x.old = ap (λ (l : List ℕ). get_or l 0 0) (rw (one, e) at C.olds) in
          let d : get_or new' 0 0 ≡ x.new = ap (λ (l : List ℕ). get_or l 0 0) (rw (one, e) at C.news) in
          judged-by w f g (x.first ∷ []) q.0 (Err (Rejection.Differs (record { 0 = h }) (get_or old' 0 0) (get_or new' 0 0))) refl
          (ap₃ (λ (y : Word) (s c : ℕ). y.low ∷ y.high ∷ s ∷ c ∷ []) (p ∙ ap halves a) (b ∙ q.1) (d ∙ q.2))

-- ---- the call that compares

module _ (w : ℕ) (sc sv sd cc cv cd : List ℕ) (S : Sound w sc sv sd) (T : Sound w cc cv cd) (start : ℕ) (zero : start ≡ 0)
    (first last old new first' last' old' new' : List ℕ) (p : length first ≡ 2) (q : length last ≡ 2) (s : length old ≡ 1) (t : length new ≡ 1)
    (r : Result Compared Refusal) (C : Comparison w sc sv sd cc cv cd start first last old new first' last' old' new' r) where
  done : PortionDone passed (differences w (answer (rules_of sc sv sd)) (answer (rules_of cc cv cd)) 0) first last old new first' last' old' new' r
  done =
      subst (λ (h : ℕ). PortionDone passed (differences w (answer (rules_of sc sv sd)) (answer (rules_of cc cv cd)) h) first last old new first' last' old' new' r) zero
      (subst (λ (x : Reply). PortionDone x (differences w (answer (rules_of sc sv sd)) (answer (rules_of cc cv cd)) start) first last old new first' last' old' new' r)
      (checks-passed w sc sv sd cc cv cd start _ _ _ _ S T zero p q s t) C)

  pub never-refused : is_ok r ≡ true
  never-refused = given-ok (λ c. header_values c.next) r done.reply

  module _ (k : Compared) (e : r ≡ Ok k) where
    pub judged-fine : k.count ≡ 0 → Judged w (answer (rules_of sc sv sd)) (answer (rules_of cc cv cd)) (Ok tt)
    judged-fine = fine w _ _ first last old new first' last' old' new' k (rw e at done) s

    pub judged-unlike : (k.count ≡ 0 → ⊥) → (h : Word) → h ≡ halves (get_or (words_of first') 0 0)
        → Judged w (answer (rules_of sc sv sd)) (answer (rules_of cc cv cd)) (Err (Rejection.Differs (record { 0 = h }) (get_or old' 0 0) (get_or new' 0 0)))
    judged-unlike = unlike w _ _ first last old new first' last' old' new' k (rw e at done) s
