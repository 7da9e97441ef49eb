-- Laws of the walk: how far it is, one law for each way that it goes on, and what it leaves.
use Prim.Native.Nat.{ℕ, ◌+◌, ◌≤◌, ◌<◌}
use mathlib.Core.Path.{◌≡◌, refl, sym, ap, ◌∙◌}
use mathlib.Core.List.{List, [], ◌∷◌}
use native.Mathlib.Omega.{arith}
use lib.ListN.{length}
use Rattle.words.specs.declared.Word.{Word}
use Rattle.words.specs.Halves.{halves}
use Rattle.words.specs.Slices.{halves_of}
use Rattle.words.proofs.SliceLaws.{Machine}
use Rattle.rules.specs.Replies.{Gives, passed}
use Rattle.compare.specs.declared.Compared.{Compared}
use Rattle.compare.specs.Calls.{header_values}
use Rattle.compare.specs.Sweep.{Room, Listing, Stopped, RunsPut}
use Rattle.compare.proofs.SweepRuns.{runs-gap}
use Rattle.compare.proofs.SweepLaws.{listing-same, listing_start, Slices, all_listed, places-used}
use Rattle.std.specs.Prelude.{Option, Some, None}
use Rattle.plain_compare.specs.Walk.{Passed, Passes}

-- The walk is at header h: the runs of the headers before it are listed, in `count` places, and the slices are as long as they were. Those of
-- headers hold machine words.
pub record Walking (f g : ℕ → ℕ) (top start h : ℕ) (first last old new first' last' old' new' : List ℕ) (count : ℕ) : Type 0 where
  pub from : start ≤ h
  pub upto : h ≤ top
  pub first_long : length first' ≡ length first
  pub last_long : length last' ≡ length last
  pub old_long : length old' ≡ length old
  pub new_long : length new' ≡ length new
  pub first-is : Machine first'
  pub last-is : Machine last'
  pub listing : Listing f g start h first last old new first' last' old' new' count

module _ (f g : ℕ → ℕ) (top start : ℕ) (first last old new : List ℕ) where
  pub walk_start : start ≤ top → Room first last old new → Machine first → Machine last
      → Walking f g top start start first last old new first last old new 0
  walk_start l R F L = record {
    from = omega arith;
    upto = l;
    first_long = refl;
    last_long = refl;
    old_long = refl;
    new_long = refl;
    first-is = F;
    last-is = L;
    listing = listing-same f g start 0 first last old new first last old new 0 (listing_start f g top start first last old new R) start
        (runs-gap f g 0 start (omega arith) start (λ k p q s. absurd (let z : ⊥ = omega arith in z)));
  }

  module _ (h : ℕ) (first' last' old' new' : List ℕ) (count : ℕ) (W : Walking f g top start h first last old new first' last' old' new' count) where
    -- what the next header asks of the slices
    pub walk-room : Room first' last' old' new'
    walk-room =
        let R = W.listing.room in
        record {
          lasts = W.last_long ∙ R.lasts ∙ sym W.first_long;
          olds = omega (arith, W.old_long, R.olds, W.first_long);
          news = omega (arith, W.new_long, R.news, W.first_long);
        }

    pub walk-few : count ≤ length old'
    walk-few = omega (arith, W.listing.few, W.old_long)

    -- the walk goes on
    pub walk-on : (first'' last'' old'' new'' : List ℕ) (r : Option ℕ) (n : ℕ) → h < top
        → length first'' ≡ length first' → length last'' ≡ length last' → length old'' ≡ length old' → length new'' ≡ length new'
        → Machine first'' → Machine last'' → Passes f g h first' last' old' new' first'' last'' old'' new'' count r → r ≡ Some n
        → Walking f g top start (h + 1) first last old new first'' last'' old'' new'' n
    unfolding Passed
    walk-on first'' last'' old'' new'' r n l a b c d F L P e = record {
      from = omega (arith, W.from);
      upto = omega arith;
      first_long = a ∙ W.first_long;
      last_long = b ∙ W.last_long;
      old_long = c ∙ W.old_long;
      new_long = d ∙ W.new_long;
      first-is = F;
      last-is = L;
      listing = rw e at (P start first last old new W.from W.listing);
    }

    module _ (was-first : Machine first) (was-last : Machine last) where
      -- all headers are walked
      pub walk_end : top ≤ h → (r : Compared) → r.count ≡ count → Gives (header_values r.next) ≡ passed
          → RunsPut f g top start first last old new first' last' old' new' r
      walk_end l r c p =
          let M : Slices f g top start first last old new first' last' =
          record { room = W.listing.room; firsts = W.first_long; lasts = W.last_long; first-was = was-first; last-was = was-last; first-is = W.first-is; last-is = W.last-is } in
          let e : h ≡ top = omega (arith, W.upto) in
          all_listed f g top start first last old new first' last' old' new' M r count (rw e at W.listing) c p

      -- all places are used
      pub walk_more : (first'' last'' old'' new'' : List ℕ) (noted : Option ℕ) → h < top → length first'' ≡ length first' → length last'' ≡ length last'
          → Machine first'' → Machine last'' → Passes f g h first' last' old' new' first'' last'' old'' new'' count noted → noted ≡ None
          → (x : Word) → x ≡ halves h → (r : Compared) → r.count ≡ count → Gives (header_values r.next) ≡ Gives (x.low ∷ x.high ∷ [])
          → RunsPut f g top start first last old new first'' last'' old'' new'' r
      unfolding Passed halves_of
      walk_more first'' last'' old'' new'' noted l a b F L P q x e r c p =
          let M : Slices f g top start first last old new first'' last'' =
          record { room = W.listing.room; firsts = a ∙ W.first_long; lasts = b ∙ W.last_long; first-was = was-first; last-was = was-last; first-is = F; last-is = L } in
          let S : Stopped f g start (h + 1) first last old new first'' last'' old'' new'' h = rw q at (P start first last old new W.from W.listing) in
          places-used f g top start first last old new first'' last'' old'' new'' M r h (h + 1) l S
          (c ∙ sym W.listing.sized ∙ S.listing.sized) (p ∙ ap (λ (y : Word). Gives (y.low ∷ y.high ∷ [])) e)
