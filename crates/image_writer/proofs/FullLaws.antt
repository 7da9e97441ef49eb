-- What refusal 24 turns away from the writer, and that it turns away nothing else: the writer takes exactly what its checks without 24 take
-- where no count is 0; and where none is, it refuses as they do.
use mathlib.Core.Path.{◌≡◌, refl, sym, ap, ◌∙◌}
use mathlib.Core.Logic.{◌↔◌}
use mathlib.Core.List.{List, [], ◌∷◌}
use Prim.Native.Nat.{ℕ, ◌+◌}
use lib.Dec.{leb}
use lib.ListN.{length}
use Rattle.rules.specs.Lists.{All}
use Rattle.rules.specs.Replies.{Reply, passed, need, ◌then◌}
use Rattle.rules.specs.Checks.{size_check, room_check}
use Rattle.image_check.specs.Checks.{lists_check}
use Rattle.image_check.proofs.FullLaws.{count-without}
use Rattle.image_writer.specs.Writing.{given, names_check, image_length, shape_check, write_check}
use Rattle.image_writer.proofs.GivenLaws.{CountsRules, names-full}
use Rattle.image_writer.proofs.WriteLaws.{write-facts}

-- ---- the checks without 24, as they were before request 07

unfoldable pub names_without : (l least : ℕ) → (ids counts : List ℕ) → Reply
names_without l least [] ns = passed
names_without l least (i ∷ is) [] = passed
names_without l least (i ∷ is) (n ∷ ns) =
    need (leb least i) 13 l 0
    then size_check l n
    then names_without (l + 1) (i + 1) is ns

-- The writer's checks without 24.
unfoldable pub write_without : (f w : ℕ) → (ids counts cares values decisions : List ℕ) → (room : ℕ) → Reply
write_without f w ids ns cs vs ds room =
    shape_check f w ids ns cs vs ds
    then names_without 1 0 ids ns
    then lists_check w 1 (given ids ns cs vs ds)
    then need (leb (image_length f (length ids) (length ds)) 65536) 10 0 0
    then room_check (image_length f (length ids) (length ds)) room

names-without : (l least : ℕ) (ids ns : List ℕ) → All CountsRules ns → names_check l least ids ns ≡ names_without l least ids ns
unfolding names_check names_without
names-without l least [] ns a = refl
names-without l least (i ∷ is) [] a = refl
names-without l least (i ∷ is) (n ∷ ns) a =
    λ j. need (leb least i) 13 l 0
    then count-without l n a.0 j
    then names-without (l + 1) (i + 1) is ns a.1 j

module _ (f w : ℕ) (ids ns cs vs ds : List ℕ) (room : ℕ) where
  -- Where every list has a rule, the writer's checks are those without 24: the same number and place, or taken.
  pub write-checked-without : All CountsRules ns → write_check f w ids ns cs vs ds room ≡ write_without f w ids ns cs vs ds room
  unfolding write_check write_without
  write-checked-without a =
      ap (λ (u : Reply).
      shape_check f w ids ns cs vs ds
      then u
      then lists_check w 1 (given ids ns cs vs ds)
      then need (leb (image_length f (length ids) (length ds)) 65536) 10 0 0
      then room_check (image_length f (length ids) (length ds)) room)
      (names-without 1 0 ids ns a)

  -- The writer takes exactly what is taken without 24 where every list has a rule.
  pub write-takes-exactly : (write_check f w ids ns cs vs ds room ≡ passed) ↔ ((write_without f w ids ns cs vs ds room ≡ passed) × All CountsRules ns)
  write-takes-exactly = (
    (λ e.
        let k = write-facts f w ids ns cs vs ds room [] e in
        let a = names-full 1 0 ids ns k.shape.paired k.names in
        (sym (write-checked-without a) ∙ e, a)),
    (λ p. write-checked-without p.1 ∙ p.0),
  )
