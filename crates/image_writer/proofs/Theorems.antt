-- What holds of written images: written and read back, in either format, read and written again.
use mathlib.Core.Path.{◌≡◌, refl, sym, ap, ap₂, ◌∙◌}
use mathlib.Core.List.{List, [], ◌∷◌}
use mathlib.Core.Bool.{true}
use Prim.Native.Nat.{ℕ, ◌≤◌, ◌<◌}
use native.Mathlib.Omega.{arith}
use lib.ListN.{length}
use Rattle.rules.specs.Slices.{decision_of, cares_of, values_of, decisions_of, filled}
use Rattle.rules.specs.Lists.{All}
use Rattle.rules.specs.Replies.{Reply, Gives, passed, unless_refused}
use Rattle.rules.proofs.ReplyLaws.{then_next}
use Rattle.rules.proofs.SliceLaws.{rules-columns}
use Rattle.std.specs.Prelude.{Ok}
use Rattle.image_form.specs.Formats.{known, most_places}
use Rattle.image_form.specs.Images.{Named, format_in, width_in, lists_of, bytes_of}
use Rattle.image_check.specs.Checks.{image_check}
use Rattle.image.specs.Places.{list_with}
use Rattle.image.proofs.BackLaws.{AreBytes, read-write}
use Rattle.image.proofs.Theorems.{rules_named, list-named}
use Rattle.image_writer.specs.Writing.{lists_from, given, image_length, write_check, write_reply, Written}
use Rattle.image_writer.proofs.WriteLaws.{write-facts, facts-write}
use Rattle.image_writer.proofs.AgainLaws.{Carried, carried-passes, carried-back}
use Rattle.image_writer.proofs.CarryLaws.{facts-carried, image-carried, ids-fit, names_of, counts_of, joined, cut-joined, length-names, length-joined, length-column, carried-writes}

-- ids as they are lent: two bytes each
abbrev pub AreIds : List ℕ → Type 0
AreIds ids = All (λ (i : ℕ). i < 65536) ids

-- ---- written, and read back

module _ (fmt w : ℕ) (ids ns cs vs ds : List ℕ) (room : ℕ) (a : AreIds ids) (f : write_check fmt w ids ns cs vs ds room ≡ passed) where
  carried : Carried fmt w (given ids ns cs vs ds)
  carried = facts-carried fmt w ids ns cs vs ds room a (write-facts fmt w ids ns cs vs ds room [] f)

  -- Every image that the writer makes is accepted.
  pub written-accepted : image_check (bytes_of fmt w (given ids ns cs vs ds)) ≡ passed
  written-accepted = carried-passes fmt w (given ids ns cs vs ds) carried

  -- What was written has the format that was given.
  pub written-format : format_in (bytes_of fmt w (given ids ns cs vs ds)) ≡ fmt
  unfolding bytes_of
  written-format = refl

  -- What was written has the width that was given.
  pub written-width : width_in (bytes_of fmt w (given ids ns cs vs ds)) ≡ w
  unfolding bytes_of
  written-width = refl

  -- What was written has the lists that were given, with their ids, in order.
  pub written-lists : lists_of (bytes_of fmt w (given ids ns cs vs ds)) ≡ given ids ns cs vs ds
  written-lists = carried-back fmt w (given ids ns cs vs ds) carried

-- Reading a list of a written image out gives the rules that were given for its id.
pub written_read : (fmt w : ℕ) (ids ns cs vs ds : List ℕ) (room id : ℕ) → AreIds ids → write_check fmt w ids ns cs vs ds room ≡ passed
    → list_with (bytes_of fmt w (given ids ns cs vs ds)) id ≡ rules_named id (given ids ns cs vs ds)
written_read fmt w ids ns cs vs ds room id a f =
    list-named (bytes_of fmt w (given ids ns cs vs ds)) id ∙ ap (rules_named id) (written-lists fmt w ids ns cs vs ds room a f)

-- ---- the two formats

-- Lists of a width that both formats have: what is read out of the image in the one format and out of that in the other is the
-- same.
pub both-formats : (f g w : ℕ) (ids ns cs vs ds : List ℕ) (room more : ℕ) → AreIds ids → write_check f w ids ns cs vs ds room ≡ passed
    → write_check g w ids ns cs vs ds more ≡ passed → lists_of (bytes_of f w (given ids ns cs vs ds)) ≡ lists_of (bytes_of g w (given ids ns cs vs ds))
both-formats f g w ids ns cs vs ds room more a p q = written-lists f w ids ns cs vs ds room a p ∙ sym (written-lists g w ids ns cs vs ds more a q)

-- Lists that the writer takes in one format it takes in another that has the width, where that image is not too long and there is
-- room for it.
pub other_format : (f g w : ℕ) (ids ns cs vs ds : List ℕ) (room more : ℕ) → write_check f w ids ns cs vs ds room ≡ passed → known g ≡ true → w ≤ most_places g
    → image_length g (length ids) (length ds) ≤ 65536 → image_length g (length ids) (length ds) ≤ more → write_check g w ids ns cs vs ds more ≡ passed
other_format f g w ids ns cs vs ds room more p k h small fits =
    let e = write-facts f w ids ns cs vs ds room [] p in
    let s = e.shape in
    facts-write g w ids ns cs vs ds more
    (record {
      shape = record { format = k; least = s.least; most = h; paired = s.paired; lent = s.lent; sums = s.sums; some = s.some; few = s.few };
      names = e.names;
      rules = e.rules;
      small = small;
      fits = fits;
    })

-- ---- read, and written again

-- Writing the width and the lists that were read from an accepted image, in its own format, gives its bytes.
pub read-written : (b : List ℕ) → AreBytes b → image_check b ≡ passed → bytes_of (format_in b) (width_in b) (lists_of b) ≡ b
read-written b h f = read-write b h f

-- The call that does so gives the image's length, and the lent bytes start with the image.
pub rewritten : (b out : List ℕ) → AreBytes b → image_check b ≡ passed → length b ≤ length out
    → Written (format_in b) (width_in b) (names_of (lists_of b)) (counts_of (lists_of b)) (cares_of (joined (lists_of b))) (values_of (joined (lists_of b))) (decisions_of (joined (lists_of b))) out
    (Ok (length b)) (filled b out)
unfolding write_reply
rewritten b out h f room =
    let ls : List Named = lists_of b in
    let ids : List ℕ = names_of ls in
    let ns : List ℕ = counts_of ls in
    let cs : List ℕ = cares_of (joined ls) in
    let vs : List ℕ = values_of (joined ls) in
    let ds : List ℕ = decisions_of (joined ls) in
    let k = image-carried b (ids-fit b h) f in
    let size : image_length (format_in b) (length ids) (length ds) ≡ length b =
    ap₂ (image_length (format_in b)) (length-names ls) (length-column decision_of (joined ls) ∙ length-joined ls) ∙ k.1 in
    let c : write_check (format_in b) (width_in b) ids ns cs vs ds (length out) ≡ passed = carried-writes (format_in b) (width_in b) ls (length out) k.0 (omega (arith, k.1)) in
    let e : write_reply (format_in b) (width_in b) ids ns cs vs ds out ≡ Gives (length b ∷ []) = then_next _ _ c ∙ ap (λ (n : ℕ). Gives (n ∷ [])) size in
    let same : given ids ns cs vs ds ≡ ls = ap (lists_from ids ns) (rules-columns (joined ls)) ∙ cut-joined ls in
    record {
      answer = sym e;
      bytes = sym (ap (λ (u : Reply). unless_refused u (filled (bytes_of (format_in b) (width_in b) (given ids ns cs vs ds)) out) out) e
          ∙ ap (λ (l : List Named). filled (bytes_of (format_in b) (width_in b) l) out) same ∙ ap (λ (x : List ℕ). filled x out) (read-write b h f));
    }
