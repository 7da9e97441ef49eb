-- What squeezing the lists of an image replies, by weaving or by pruning, and what the lent bytes hold afterwards (01, Weaving; Image;
-- Refusal numbers; request 12).
use Rattle.std.specs.Prelude.{◌≡◌, ℕ, List, [], ◌∷◌, length, Result}
use Rattle.rules.specs.Rule.{Rule}
use Rattle.rules.specs.Slices.{filled}
use Rattle.rules.specs.declared.Refusal.{Refusal}
use Rattle.rules.specs.Replies.{Reply, Gives, ◌then◌, unless_refused, number_reply}
use Rattle.rules.specs.Checks.{room_check}
use Rattle.weaving.specs.Weave.{weave}
use Rattle.pruning.specs.Prune.{prune}
use Rattle.image_form.specs.Images.{Named, named, format_in, width_in, lists_of, bytes_of}
use Rattle.image_check.specs.Checks.{image_check}
use Rattle.image_weaving.specs.declared.Squeeze.{Squeeze}

-- A list squeezed: woven (01, Weaving), or pruned (request 12).
abbrev pub squeezed : Squeeze → (w : ℕ) → List Rule → List Rule
squeezed Squeeze.Weave w rs = weave w rs
squeezed Squeeze.Prune w rs = prune w rs

-- Each list with its id, and its rules squeezed.
unfoldable pub squeezed_lists : Squeeze → (w : ℕ) → List Named → List Named
squeezed_lists z w [] = []
squeezed_lists z w (l ∷ ls) = named l.id (squeezed z w l.rules) ∷ squeezed_lists z w ls

-- The bytes of the squeezed image: its format, its width and its ids are those of the image.
unfoldable pub squeezed_bytes : Squeeze → List ℕ → List ℕ
squeezed_bytes z bs = bytes_of (format_in bs) (width_in bs) (squeezed_lists z (width_in bs) (lists_of bs))

-- The image's refusals, then 7: there is room for the squeezed image; else its length.
unfoldable pub squeeze_image_reply : Squeeze → (bs out : List ℕ) → Reply
squeeze_image_reply z bs out =
    image_check bs
    then room_check (length (squeezed_bytes z bs)) (length out)
    then Gives (length (squeezed_bytes z bs) ∷ [])

-- The answer, and the lent bytes afterwards: the squeezed image from the first byte on, and later bytes as they were.
pub record ImageSqueezed (z : Squeeze) (bs out : List ℕ) (r : Result ℕ Refusal) (out' : List ℕ) : Type 0 where
  pub answer : number_reply r ≡ squeeze_image_reply z bs out
  pub bytes : out' ≡ unless_refused (squeeze_image_reply z bs out) (filled (squeezed_bytes z bs) out) out
