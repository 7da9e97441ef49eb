use native.Mathlib.Omega.{arith}
use Rattle.image_weaving.proofs.WriteLaws.{some_bytes, room-ids, room-counts, long-ids, long-counts, all-written}
use Rattle.image_weaving.proofs.images.squeeze_accepted.Goals as goal

pub bounds-image-0 : goal.bounds-image-0
bounds-image-0 c = omega (arith, some_bytes _ c.requires)

pub slice_bounds-ids-end : goal.slice_bounds-ids-end
slice_bounds-ids-end c = room-ids _ _ _ _ _ _ _ _ c.squeeze_lists-n.ensures _ c.byte_at-lists.ensures.0

pub slice_bounds-write-end : goal.slice_bounds-write-end
slice_bounds-write-end c = long-ids _ _ _ _ _ _ _ _ c.squeeze_lists-n.ensures _ c.byte_at-lists.ensures.0

pub slice_bounds-counts-end : goal.slice_bounds-counts-end
slice_bounds-counts-end c = room-counts _ _ _ _ _ _ _ _ c.squeeze_lists-n.ensures _ c.byte_at-lists.ensures.0

pub slice_bounds-write-end-2 : goal.slice_bounds-write-end-2
slice_bounds-write-end-2 c = long-counts _ _ _ _ _ _ _ _ c.squeeze_lists-n.ensures _ c.byte_at-lists.ensures.0

pub returns : goal.returns
returns c = all-written _ _ _ _ _ _ _ _ c.squeeze_lists-n.ensures _ _ _ _ _ c.byte_at.ensures.0 c.byte_at-lists.ensures.0 c.write.ensures
