-- What a call of a comparison owes its user, told by what its result slices hold (demand 3): theorems about every call that leaves a
-- portion of the differences of an old answer f and a new answer g.
use Prim.Native.Nat.{ℕ, zero, suc, ◌+◌, ◌^◌, ◌≤◌, ◌<◌}
use mathlib.Core.Path.{◌≡◌, refl, sym, ap, ap₂, ◌∙◌, subst}
use mathlib.Core.Logic.{◌≢◌, ◌↔◌}
use mathlib.Core.List.Memᴰ
use mathlib.Core.List.{List, [], ◌∷◌, ◌++◌, map, zip, zip_with, Memᴰ}
use lib.ListN.{length, take, drop, take-append-drop}
use lib.Seq.{take-add, take_all}
use Rattle.words.specs.declared.Word.{Word}
use Rattle.words.specs.Halves.{num}
use Rattle.words.specs.Slices.{words_of, halves_of}
use Rattle.words.proofs.WordLaws.{num-halves}
use Rattle.words.proofs.SliceLaws.{words-halves}
use Rattle.rules.specs.declared.Wire.{Wire}
use Rattle.rules.specs.declared.Refusal.{Refusal}
use Rattle.rules.specs.Replies.{Reply, Gives, Refuses, passed, ◌then◌, unless_refused}
use Rattle.std.specs.Prelude.{Option, Some, None, Result, Ok, Err}
use Rattle.rules.proofs.ReplyLaws.{gives-refuses, two_none, first_gives}
use Rattle.rules.proofs.ZipLaws.{ap₃}
use Rattle.compare.specs.declared.Compared.{Compared}
use Rattle.compare.specs.Runs.{Run, run, differences, portion, ending}
use Rattle.compare.specs.Demand.{IsRun, Rising, Stands, listed_runs}
use Rattle.compare.specs.Calls.{header_values, ending_reply, Finished, More, counted, written, halved, PortionDone}
use Rattle.compare.proofs.RunLaws.{rising-one, finished-when}
use Rattle.compare.proofs.DoneLaws.{nothing-halved}
use Rattle.compare.proofs.Demands.{runs-rise, runs-longest, finished-when-nothing-left, more-uses-every-place, more-continues, more-joins}

-- ---- runs that were written are read back

-- Slices that begin with the numbers of some runs hold these runs first.
written_read : (rs : List Run) (first last old new : List ℕ)
    → listed_runs (length rs) (halves_of (map (λ (x : Run). x.first) rs) ++ first) (halves_of (map (λ (x : Run). x.last) rs) ++ last)
    (map (λ (x : Run). x.old) rs ++ old) (map (λ (x : Run). x.new) rs ++ new)
    ≡ rs
unfolding listed_runs zip zip_with words_of halves_of
written_read [] first last old new = refl
written_read (r ∷ rs) first last old new =
    ap₃ (λ (h z : ℕ) (k : List Run). run h z r.old r.new ∷ k) (num-halves r.first) (num-halves r.last) (written_read rs first last old new)

-- ---- the first runs of a list

-- A run of the first ones is a run of the list.
mem-take : (n : ℕ) (rs : List Run) (x : Run) → Memᴰ x (take n rs) → Memᴰ x rs
mem-take n rs x m = subst (λ (k : List Run). Memᴰ x k) (take-append-drop n rs) (Memᴰ.append_left (drop n rs) m)

-- Where a list rises, its first runs do.
rising-take : (n : ℕ) (rs : List Run) → Rising rs → Rising (take n rs)
rising-take zero rs R = tt
rising-take (suc n) [] R = tt
rising-take (suc n) (r ∷ rs) R = ((λ x m. R.0 x (mem-take n rs x m)), rising-take n rs R.1)

-- ---- the ending

finished-reply : (r : Result Compared Refusal) → Finished r → ending_reply r ≡ passed
finished-reply (Ok c) e = ap (λ (n : Option Wire). Gives (header_values n)) e
finished-reply (Err x) e = absurd e

more-reply : (r : Result Compared Refusal) (h : Wire) → More r h → ending_reply r ≡ Gives (h.0.low ∷ h.0.high ∷ [])
more-reply (Ok c) h e = ap (λ (n : Option Wire). Gives (header_values n)) e
more-reply (Err x) h e = absurd e

only-finished : (r : Result Compared Refusal) → ending_reply r ≡ passed → Finished r
only-finished (Ok c) e = go c.next e
  where
    go : (n : Option Wire) → Gives (header_values n) ≡ passed → n ≡ None
    go None p = refl
    go (Some h) p = absurd (two_none p)
only-finished (Err x) e = absurd (gives-refuses (sym e))

values : {xs ys : List ℕ} → Gives xs ≡ Gives ys → xs ≡ ys
values {xs} {ys} e = cc

-- what the halves of the header that an ending names say of it
no-numbers : Gives (halves_of []) ≡ passed
unfolding halves_of
no-numbers = refl

no_header : {ns : List ℕ} → halves_of ns ≡ [] → ns ≡ []
unfolding words_of
no_header {ns} e = sym (words-halves ns) ∙ ap words_of e

one-header : (x : Word) {ns : List ℕ} → halves_of ns ≡ (x.low ∷ x.high ∷ []) → ns ≡ (num x ∷ [])
unfolding words_of
one-header x {ns} e = sym (words-halves ns) ∙ ap words_of e

-- ---- one call

module _ (check : Reply) (w : ℕ) (f g : ℕ → ℕ) (start : ℕ) (first last old new first' last' old' new' : List ℕ) (r : Result Compared Refusal)
    (C : PortionDone check (differences w f g start) first last old new first' last' old' new' r) where
  -- A call with a refusal writes nothing, and its count is 0.
  pub refused-writes-nothing : (x : Refusal) → r ≡ Err x
      → (first' ≡ first) × (last' ≡ last) × (old' ≡ old) × (new' ≡ new) × (counted r ≡ 0)
  refused-writes-nothing x e = go check refl
    where
      go : (y : Reply) → check ≡ y → (first' ≡ first) × (last' ≡ last) × (old' ≡ old) × (new' ≡ new) × (counted r ≡ 0)
      go (Gives ns) p =
          absurd (gives-refuses (sym (ap (λ (y : Reply). y then Gives (halves_of (ending (length old) (differences w f g start)))) p) ∙ sym C.reply ∙ ap ending_reply e))
      go (Refuses n l i) p = ((rw p at C.firsts) ∙ sym (nothing-halved (λ (x : Run). x.first) first), (rw p at C.lasts) ∙ sym (nothing-halved (λ (x : Run). x.last) last), rw p at C.olds, rw p at C.news, rw p at C.count)

  -- A call that is refused lists nothing.
  pub refused-lists-nothing : (x : Refusal) → r ≡ Err x → listed_runs (counted r) first' last' old' new' ≡ []
  unfolding listed_runs
  refused-lists-nothing x e = ap (λ (n : ℕ). listed_runs n first' last' old' new') (refused-writes-nothing x e).4

  -- A call whose ending is not a refusal has passed its checks.
  ended : {ns : List ℕ} → ending_reply r ≡ Gives ns → (ms : List ℕ) × (check ≡ Gives ms)
  ended e = first_gives check _ (sym C.reply ∙ e)

  -- So has a call that finished.
  pub finished-passes : Finished r → (ns : List ℕ) × (check ≡ Gives ns)
  finished-passes e = ended (finished-reply r e)

  -- And one that says more.
  pub more-passes : (k : Wire) → More r k → (ns : List ℕ) × (check ≡ Gives ns)
  more-passes k e = ended (more-reply r k e)

  -- What is read from the slices: a portion of the runs, and nothing after a refusal.
  read : listed_runs (counted r) first' last' old' new' ≡ unless_refused check (portion (length old) (differences w f g start)) []
  read =
      rw (C.count, C.firsts, C.lasts, C.olds, C.news) (written_read (unless_refused check (portion (length old) (differences w f g start)) []) _ _ _ _)

  -- A call lists some runs only where it is not refused, and they are runs of differences.
  pub listed-passes : (x : Run) → Memᴰ x (listed_runs (counted r) first' last' old' new')
      → ((ns : List ℕ) × (check ≡ Gives ns)) × Memᴰ x (differences w f g start)
  listed-passes x m = go check refl (rw read at m)
    where
      go : (y : Reply) → check ≡ y → Memᴰ x (unless_refused y (portion (length old) (differences w f g start)) [])
          → ((ns : List ℕ) × (check ≡ Gives ns)) × Memᴰ x (differences w f g start)
      go (Gives ns) p k = ((ns, p), mem-take (length old) _ x k)
      go (Refuses n l i) p k = absurd (Memᴰ.not-nil k)

  -- The listed runs rise: each ends before every later one starts.
  pub listed-rise : Rising (listed_runs (counted r) first' last' old' new')
  listed-rise = rw read (go check)
    where
      go : (y : Reply) → Rising (unless_refused y (portion (length old) (differences w f g start)) [])
      go (Gives ns) = rising-take (length old) _ (runs-rise w f g start)
      go (Refuses n l i) = tt

  -- A header stands in one listed run only.
  pub listed-once : (h : ℕ) (x y : Run) → Memᴰ x (listed_runs (counted r) first' last' old' new') → Memᴰ y (listed_runs (counted r) first' last' old' new')
      → x.first ≤ h → h ≤ x.last → y.first ≤ h → h ≤ y.last → x ≡ y
  listed-once = rising-one (listed_runs (counted r) first' last' old' new') listed-rise

  -- Each listed run is as long as it can be.
  pub listed-longest : (x : Run) → Memᴰ x (listed_runs (counted r) first' last' old' new') → IsRun f g start (2 ^ w) x
  listed-longest x m = runs-longest w f g start x (listed-passes x m).1

  module _ {ns : List ℕ} (fine : check ≡ Gives ns) where
    said : ending_reply r ≡ Gives (halves_of (ending (length old) (differences w f g start)))
    said = C.reply ∙ ap (λ (y : Reply). y then Gives (halves_of (ending (length old) (differences w f g start)))) fine

    -- A call that is not refused lists as many of the runs of differences as it has places for, the first ones.
    pub listed-portion : listed_runs (counted r) first' last' old' new' ≡ portion (length old) (differences w f g start)
    listed-portion = rw fine at read

    -- With room for every run it finishes, counts them all, and each slice begins with their numbers.
    pub whole-list : length (differences w f g start) ≤ length old
        → Finished r
        × (counted r ≡ length (differences w f g start))
        × (first' ≡ halved (λ (x : Run). x.first) (differences w f g start) first)
        × (last' ≡ halved (λ (x : Run). x.last) (differences w f g start) last)
        × (old' ≡ written (λ (x : Run). x.old) (differences w f g start) old)
        × (new' ≡ written (λ (x : Run). x.new) (differences w f g start) new)
    whole-list l =
        let all : portion (length old) (differences w f g start) ≡ differences w f g start = take_all (length old) (differences w f g start) l in (
          only-finished r (said ∙ ap (λ (ns : List ℕ). Gives (halves_of ns)) (finished-when (length old) (differences w f g start) l) ∙ no-numbers),
          (rw fine at C.count) ∙ ap length all,
          (rw fine at C.firsts) ∙ ap (λ (rs : List Run). halved (λ (x : Run). x.first) rs first) all,
          (rw fine at C.lasts) ∙ ap (λ (rs : List Run). halved (λ (x : Run). x.last) rs last) all,
          (rw fine at C.olds) ∙ ap (λ (rs : List Run). written (λ (x : Run). x.old) rs old) all,
          (rw fine at C.news) ∙ ap (λ (rs : List Run). written (λ (x : Run). x.new) rs new) all,
        )

    -- A call that is not refused finishes exactly when every difference at or after the start is listed.
    pub call-finishes : Finished r
        ↔ ((h : ℕ) → start ≤ h → h < 2 ^ w → f h ≢ g h → Stands h (portion (length old) (differences w f g start)))
    call-finishes =
        let F = finished-when-nothing-left w f g start (length old) in
        ((λ e. F.0 (no_header (values (sym said ∙ finished-reply r e)))), (λ s. only-finished r (said ∙ ap (λ (ns : List ℕ). Gives (halves_of ns)) (F.1 s) ∙ no-numbers)))

    module _ (h : Wire) (e : More r h) where
      -- The header that more names starts the first run that is left.
      pub call-names : ending (length old) (differences w f g start) ≡ (num h.0 ∷ [])
      call-names = one-header h.0 (values (sym said ∙ more-reply r h e))

      -- A call that says more used every place.
      pub call-uses-every-place : counted r ≡ length old
      call-uses-every-place = (rw fine at C.count) ∙ more-uses-every-place w f g start (length old) (num h.0) call-names

      -- The call from the header that it names has the rest of the list before it.
      pub call-continues : differences w f g start ≡ portion (length old) (differences w f g start) ++ differences w f g (num h.0)
      call-continues = more-joins w f g start (length old) (num h.0) call-names

-- ---- two calls

-- What a call that says more lists, and after it what the call from the header that it names lists, is what one call with the places
-- of both lists.
pub portions-join : (check : Reply) (w : ℕ) (f g : ℕ → ℕ) (start : ℕ)
    (first last old new first' last' old' new' : List ℕ) (r : Result Compared Refusal) (k : Wire)
    (check₂ : Reply) (first₂ last₂ old₂ new₂ first₂' last₂' old₂' new₂' : List ℕ) (s : Result Compared Refusal) {ns : List ℕ}
    → PortionDone check (differences w f g start) first last old new first' last' old' new' r
    → More r k
    → PortionDone check₂ (differences w f g (num k.0)) first₂ last₂ old₂ new₂ first₂' last₂' old₂' new₂' s
    → check₂ ≡ Gives ns
    → listed_runs (counted r) first' last' old' new' ++ listed_runs (counted s) first₂' last₂' old₂' new₂'
    ≡ portion (length old + length old₂) (differences w f g start)
portions-join check w f g start first last old new first' last' old' new' r k check₂ first₂ last₂ old₂ new₂ first₂' last₂' old₂' new₂' s C e C₂ fine₂ =
    let fine = (more-passes check w f g start first last old new first' last' old' new' r C k e).1 in
    let left = more-continues w f g start (length old) (num k.0) (call-names check w f g start first last old new first' last' old' new' r C fine k e) in
    ap₂ (λ (xs ys : List Run). xs ++ ys)
    (listed-portion check w f g start first last old new first' last' old' new' r C fine)
    (listed-portion check₂ w f g (num k.0) first₂ last₂ old₂ new₂ first₂' last₂' old₂' new₂' s C₂ fine₂
    ∙ ap (portion (length old₂)) (sym left))
    ∙ sym (take-add (length old) (length old₂) (differences w f g start))
