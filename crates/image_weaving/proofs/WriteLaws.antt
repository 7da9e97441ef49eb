-- The squeezed lists of an accepted image, written: what the writer answers and leaves is the squeezed image.
use mathlib.Core.Path.{◌≡◌, refl, sym, ap, ap₂, ◌∙◌}
use mathlib.Core.List.{List, [], ◌∷◌}
use Prim.Native.Nat.{ℕ, ◌*◌, ◌≤◌}
use native.Mathlib.Omega.{arith}
use lib.ListN.{length, take}
use lib.Seq.{length-take-le, take_all}
use borrow.Author.Tests.{le-leb}
use Rattle.rules.specs.declared.Refusal.{Refusal}
use Rattle.std.specs.Prelude.{Result, IsErrAnd}
use Rattle.rules.specs.Rule.{Rule}
use Rattle.rules.specs.Slices.{rules_of, Lent, cares_of, values_of, decisions_of, filled}
use Rattle.rules.specs.Replies.{Reply, Gives, passed, ◌then◌, refusal_reply, unless_refused}
use Rattle.rules.specs.Checks.{room_check}
use Rattle.rules.proofs.ReplyLaws.{then_next, then-stop, stop-up, same-refused, need-yes}
use Rattle.rules.proofs.SliceLaws.{rules-length}
use Rattle.image_form.specs.Images.{Named, format_in, width_in, count_in, lists_of, bytes_of}
use Rattle.image_check.specs.Checks.{lists_check, image_check}
use Rattle.image.proofs.BackLaws.{length-lists_of}
use Rattle.image.proofs.SeekLaws.{image-facts}
use Rattle.image_writer.specs.Writing.{sum_of, given, image_length, names_check, shape_check, write_check, write_reply, Written}
use Rattle.image_writer.proofs.AgainLaws.{Carried, all_rules, length-bytes_of}
use Rattle.image_writer.proofs.CarryLaws.{names_of, counts_of, joined, carried-writes}
use Rattle.image_writer.proofs.ListLaws.{cut-back}
use Rattle.image_writer.proofs.GivenLaws.{Shape, shape-passes}
use Rattle.image_writer.proofs.WriteLaws.{write-facts, length-image}
use Rattle.image_weaving.specs.declared.Squeeze.{Squeeze}
use Rattle.image_weaving.specs.Squeezing.{squeezed_lists, squeezed_bytes, squeeze_image_reply, ImageSqueezed}
use Rattle.image_weaving.specs.Parts.{RoomForAll, ListsSqueezed}
use Rattle.image_weaving.proofs.SqueezedLaws.{length-squeezed, squeezed-carried}
use Rattle.image_weaving.proofs.NextLaws.{accepted-carried, accepted-few}

pub some_bytes : (b : List ℕ) → image_check b ≡ passed → 4 ≤ length b
some_bytes b f = (image-facts b [] f).head.least

-- the image is refused
pub image-refused : (z : Squeeze) (b out : List ℕ) (r : Result ℕ Refusal) (x : Refusal) → IsErrAnd r (λ y. y ≡ x) → refusal_reply x ≡ image_check b → ImageSqueezed z b out r out
unfolding squeeze_image_reply
image-refused z b out r x up p =
    record { answer = stop-up _ r _ _ x up p; bytes = same-refused (squeeze_image_reply z b out) x _ out (then-stop (image_check b) _ x (sym p)) }

-- all lists are squeezed
module _ (z : Squeeze) (b : List ℕ) (n : ℕ) (ids ns cs vs ds : List ℕ) (U : ListsSqueezed z b (count_in b) n ids ns cs vs ds × RoomForAll b ids ns cs vs ds) where
  ready : RoomForAll b ids ns cs vs ds
  ready = U.1

  done : ListsSqueezed z b (count_in b) n ids ns cs vs ds
  done = U.0

  module _ (k : ℕ) (same : k ≡ count_in b) where
    pub room-ids : k ≤ length ids
    room-ids = omega (arith, ready.ids, accepted-few b ready.bytes ready.accepted)

    pub room-counts : k ≤ length ns
    room-counts = omega (arith, ready.counts, accepted-few b ready.bytes ready.accepted)

    pub long-ids : k ≡ length (take k ids)
    long-ids = sym (length-take-le k ids room-ids)

    pub long-counts : k ≡ length (take k ns)
    long-counts = sym (length-take-le k ns room-counts)

  pub room-cares : n * 2 ≤ length cs
  room-cares = omega (arith, ready.cares, done.fits)

  pub room-values : n * 2 ≤ length vs
  room-values = omega (arith, ready.values, done.fits)

  pub room-decisions : n ≤ length ds
  room-decisions = omega (arith, ready.decisions, done.fits)

  pub long-cares : n * 2 ≡ length (take (n * 2) cs)
  long-cares = sym (length-take-le (n * 2) cs room-cares)

  pub long-values : n * 2 ≡ length (take (n * 2) vs)
  long-values = sym (length-take-le (n * 2) vs room-values)

  pub long-decisions : n ≡ length (take n ds)
  long-decisions = sym (length-take-le n ds room-decisions)

  abbrev lists : List Named
  lists = squeezed_lists z (width_in b) (lists_of b)

  lists-carried : Carried (format_in b) (width_in b) lists
  lists-carried = squeezed-carried z (format_in b) (width_in b) (lists_of b) (accepted-carried b ready.bytes ready.accepted)

  abbrev is : List ℕ
  is = take (count_in b) ids

  abbrev ms : List ℕ
  ms = take (count_in b) ns

  abbrev c : List ℕ
  c = take (n * 2) cs

  abbrev v : List ℕ
  v = take (n * 2) vs

  abbrev d : List ℕ
  d = take n ds

  ids-are : length is ≡ count_in b
  ids-are = sym (long-ids (count_in b) refl)

  counts-are : length ms ≡ length is
  counts-are = sym (long-counts (count_in b) refl) ∙ sym ids-are

  lent : Lent c v d
  lent = record { values = sym long-values ∙ long-cares; decisions = ap (λ (k : ℕ). k * 2) (sym long-decisions) ∙ long-cares }

  sums : sum_of ms ≡ length d
  sums = done.sums ∙ long-decisions

  -- the writer is given the squeezed lists
  given-lists : given is ms c v d ≡ lists
  given-lists = done.lists ∙ ap (squeezed_lists z (width_in b)) (take_all (count_in b) (lists_of b) (omega (arith, length-lists_of b)))

  shape : Shape (format_in b) (width_in b) is ms c v d
  shape =
      let k = lists-carried in
      let l = length-squeezed z (width_in b) (lists_of b) in
      record {
        format = k.format;
        least = k.low;
        most = k.high;
        paired = counts-are;
        lent = lent;
        sums = sums;
        some = omega (arith, k.some, ids-are, l, length-lists_of b);
        few = omega (arith, k.few, ids-are, l, length-lists_of b);
      }

  back : (names_of (given is ms c v d) ≡ is) × (counts_of (given is ms c v d) ≡ ms) × (joined (given is ms c v d) ≡ rules_of c v d)
  back = cut-back is ms (rules_of c v d) counts-are (sums ∙ sym (rules-length c v d lent))

  names-pass : names_check 1 0 is ms ≡ passed
  names-pass =
      let size : ℕ = image_length (format_in b) (length lists) (all_rules lists) in
      let rs : List Rule = joined lists in
      let w = write-facts (format_in b) (width_in b) (names_of lists) (counts_of lists) (cares_of rs) (values_of rs) (decisions_of rs) size []
      (carried-writes (format_in b) (width_in b) lists size lists-carried (omega arith)) in
      ap₂ (names_check 1 0) (sym back.0 ∙ ap names_of given-lists) (sym back.1 ∙ ap counts_of given-lists) ∙ w.names

  rules-pass : lists_check (width_in b) 1 (given is ms c v d) ≡ passed
  rules-pass = ap (lists_check (width_in b) 1) given-lists ∙ lists-carried.rules

  size_is : image_length (format_in b) (length is) (length d) ≡ length (squeezed_bytes z b)
  unfolding squeezed_bytes
  size_is =
      sym (length-image (format_in b) (width_in b) is ms c v d shape) ∙ ap (λ (l : List Named). length (bytes_of (format_in b) (width_in b) l)) given-lists

  small : image_length (format_in b) (length is) (length d) ≤ 65536
  unfolding squeezed_bytes
  small = omega (arith, size_is, length-bytes_of (format_in b) (width_in b) lists lists-carried, lists-carried.size)

  -- its answer is that of squeezing the image
  reply-same : (out : List ℕ) → write_reply (format_in b) (width_in b) is ms c v d out ≡ squeeze_image_reply z b out
  unfolding write_reply write_check squeeze_image_reply
  reply-same out =
      ap (λ (u : Reply). u then Gives (image_length (format_in b) (length is) (length d) ∷ []))
      (then_next (shape_check (format_in b) (width_in b) is ms c v d) _ (shape-passes (format_in b) (width_in b) is ms c v d shape)
      ∙ then_next _ _ names-pass
      ∙ then_next _ _ rules-pass
      ∙ then_next _ _ (need-yes _ 10 0 0 (le-leb (image_length (format_in b) (length is) (length d)) 65536 small)))
      ∙ ap (λ (k : ℕ). room_check k (length out) then Gives (k ∷ [])) size_is
      ∙ sym (then_next (image_check b) _ ready.accepted)

  written : (out out' : List ℕ) (o : Result ℕ Refusal) → Written (format_in b) (width_in b) is ms c v d out o out' → ImageSqueezed z b out o out'
  unfolding squeezed_bytes
  written out out' o W =
      record {
        answer = W.answer ∙ reply-same out;
        bytes = W.bytes ∙ (λ j. unless_refused (reply-same out j) (filled (bytes_of (format_in b) (width_in b) (given-lists j)) out) out);
      }

  pub all-written : (out out' : List ℕ) (o : Result ℕ Refusal) (w k : ℕ) → w ≡ width_in b → k ≡ count_in b
      → Written (format_in b) w (take k ids) (take k ns) c v d out o out' → ImageSqueezed z b out o out'
  all-written out out' o w k q s W = written out out' o (rw (q, s) at W)
