-- The two ways to squeeze an image, weaving and pruning, each by its name; and what weaving one list counts (01, Weaving; request 12).
use Rattle.std.specs.Prelude.{ℕ, List, [], ◌∷◌, Result}
use Rattle.rules.specs.declared.Refusal.{Refusal}
use Rattle.rules.specs.Replies.{Reply, Gives, ◌then◌}
use Rattle.weaving.specs.Weave.{kept, dropped, merges}
use Rattle.image_form.specs.Images.{Named, width_in}
use Rattle.image.specs.Places.{list_with}
use Rattle.image.specs.Calls.{id_check}
use Rattle.image_weaving.specs.declared.Squeeze.{Squeeze}
use Rattle.image_weaving.specs.Squeezing.{squeezed_lists, squeezed_bytes, squeeze_image_reply, ImageSqueezed}

-- ---- weaving

-- Each list with its id, and its rules woven.
abbrev pub woven_lists : (w : ℕ) → List Named → List Named
woven_lists = squeezed_lists Squeeze.Weave

-- The bytes of the woven image.
abbrev pub woven_bytes : List ℕ → List ℕ
woven_bytes = squeezed_bytes Squeeze.Weave

-- What `weave_image` replies.
abbrev pub weave_image_reply : (bs out : List ℕ) → Reply
weave_image_reply = squeeze_image_reply Squeeze.Weave

-- What `weave_image` promises.
abbrev pub ImageWoven : (bs out : List ℕ) → Result ℕ Refusal → (out' : List ℕ) → Type 0
ImageWoven = ImageSqueezed Squeeze.Weave

-- What weaving the list with an id counts: the image's refusals and 15; else entries kept, rules dropped and merges made.
unfoldable pub tally_reply : (bs : List ℕ) → (id : ℕ) → Reply
tally_reply bs id =
    id_check bs id
    then Gives (kept (width_in bs) (list_with bs id) ∷ dropped (list_with bs id) ∷ merges (width_in bs) (list_with bs id) ∷ [])

-- ---- pruning

-- Each list with its id, and its rules pruned.
abbrev pub pruned_lists : (w : ℕ) → List Named → List Named
pruned_lists = squeezed_lists Squeeze.Prune

-- The bytes of the pruned image.
abbrev pub pruned_bytes : List ℕ → List ℕ
pruned_bytes = squeezed_bytes Squeeze.Prune

-- What `prune_image` replies.
abbrev pub prune_image_reply : (bs out : List ℕ) → Reply
prune_image_reply = squeeze_image_reply Squeeze.Prune

-- What `prune_image` promises.
abbrev pub ImagePruned : (bs out : List ℕ) → Result ℕ Refusal → (out' : List ℕ) → Type 0
ImagePruned = ImageSqueezed Squeeze.Prune
