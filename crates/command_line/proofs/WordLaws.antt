-- Laws of words that are compared byte by byte, and of a command line that ends in defaults.
use mathlib.Core.Path.{◌≡◌, refl, ap}
use mathlib.Core.List.{List, [], ◌∷◌}
use mathlib.Core.Bool.{Bool, true, ◌&&◌}
use Prim.Native.Nat.{ℕ, ◌≤◌}
use lib.Dec.{eqb, leb}
use borrow.Author.Tests.{leb-true}
use Rattle.words.proofs.Tests.{and-true}
use lib.Pointwise.{pointwise}
use Rattle.command_line.specs.Words.{same_bytes, names_defaults}

-- What `==` on two slices says, in this crate's words.
pub same_pointwise : (xs ys : List ℕ) → pointwise eqb xs ys ≡ same_bytes xs ys
unfolding same_bytes
same_pointwise [] [] = refl
same_pointwise [] (y ∷ ys) = refl
same_pointwise (x ∷ xs) [] = refl
same_pointwise (x ∷ xs) (y ∷ ys) = ap (λ (t : Bool). eqb x y && t) (same_pointwise xs ys)

-- A comparison that ends in its defaults has at least seven words.
pub defaults-long : (word last_but_two : List ℕ) (words : ℕ) → names_defaults word last_but_two words ≡ true → 7 ≤ words
unfolding names_defaults
defaults-long word last_but_two words e = leb-true 7 words (and-true (leb 7 words) _ e).0
