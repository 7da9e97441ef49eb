-- What the writer's three parts write together is the image of the lists given.
use mathlib.Core.Path.{◌≡◌, refl, sym, ap, ◌∙◌}
use mathlib.Core.List.{List, [], ◌∷◌, ◌++◌, append_assoc}
use Prim.Native.Nat.{ℕ, suc, ◌+◌, ◌*◌, ◌≤◌, ◌<◌}
use native.Mathlib.Omega.{arith}
use lib.Dec.{leb}
use mathlib.Core.Bool.{true}
use lib.ListN.{length, take, drop, length-append, length-drop, take-append-drop}
use lib.Seq.{length-take-le}
use borrow.Author.Tests.{leb-true}
use Rattle.rules.specs.Rule.{Rule}
use Rattle.rules.specs.declared.Refusal.{Refusal}
use Rattle.rules.specs.Replies.{Reply, Gives, passed, need, ◌then◌, refusal_reply}
use Rattle.rules.specs.Checks.{room_check}
use Rattle.rules.specs.Slices.{rules_of, filled}
use Rattle.rules.proofs.ReplyLaws.{then_next, then-stop, stop-up, same-refused, same-given, need-then, then-second, bare-first}
use Rattle.rules.proofs.SliceLaws.{rules-length}
use Rattle.std.specs.Prelude.{Result, Ok, IsErrAnd}
use Rattle.image_form.specs.Formats.{rule_size}
use Rattle.image_form.specs.declared.Entry.{Entry}
use Rattle.image_form.specs.Images.{entry_with, entries_for, rule_bytes, rules_bytes, bodies_bytes, contents_bytes, bytes_of}
use Rattle.image_check.specs.Checks.{lists_check}
use Rattle.image_writer.specs.Writing.{sum_of, lists_from, given, names_check, image_length, shape_check, write_check, write_reply, Written}
use Rattle.image_writer.specs.Putting.{over, entries_given}
use Rattle.image_check.proofs.BareLaws.{bare-lists}
use Rattle.image_writer.proofs.PutLaws.{over-over, over-imaged, length-contents, length-rules_bytes, length-given}
use Rattle.image_writer.proofs.GivenLaws.{Shape, shape-facts, shape-passes, bare-shape, bare-names, names-sum, write-fine}

-- ---- what passing the writer's checks says

pub record WriteFacts (fmt w : ℕ) (ids ns cs vs ds : List ℕ) (room : ℕ) : Type 0 where
  pub shape : Shape fmt w ids ns cs vs ds
  pub names : names_check 1 0 ids ns ≡ passed
  pub rules : lists_check w 1 (given ids ns cs vs ds) ≡ passed
  pub small : image_length fmt (length ids) (length ds) ≤ 65536
  pub fits : image_length fmt (length ids) (length ds) ≤ room

pub write-facts : (fmt w : ℕ) (ids ns cs vs ds : List ℕ) (room : ℕ) (ms : List ℕ) → write_check fmt w ids ns cs vs ds room ≡ Gives ms → WriteFacts fmt w ids ns cs vs ds room
unfolding write_check room_check
write-facts fmt w ids ns cs vs ds room ms f =
    let size = image_length fmt (length ids) (length ds) in
    let a = then-second (shape_check fmt w ids ns cs vs ds) _ ms f in
    let b = then-second (names_check 1 0 ids ns) _ ms a in
    let d = then-second (lists_check w 1 (given ids ns cs vs ds)) _ ms b in
    let e = then-second (need (leb size 65536) 10 0 0) _ ms d in
    record {
      shape = shape-facts fmt w ids ns cs vs ds (bare-first (shape_check fmt w ids ns cs vs ds) _ (bare-shape fmt w ids ns cs vs ds) ms f);
      names = bare-first (names_check 1 0 ids ns) _ (bare-names 1 0 ids ns) ms a;
      rules = bare-first (lists_check w 1 (given ids ns cs vs ds)) _ (bare-lists w 1 (given ids ns cs vs ds)) ms b;
      small = leb-true _ _ (need-then (leb size 65536) 10 0 0 _ ms d);
      fits = leb-true _ _ (gives-yes e);
    }
  where
    gives-yes : need (leb (image_length fmt (length ids) (length ds)) room) 7 0 0 ≡ Gives ms → leb (image_length fmt (length ids) (length ds)) room ≡ true
    gives-yes e = need-then _ 7 0 0 (Gives ms) ms (then_same e)
      where
        then_same : need (leb (image_length fmt (length ids) (length ds)) room) 7 0 0 ≡ Gives ms → (need (leb (image_length fmt (length ids) (length ds)) room) 7 0 0 then Gives ms) ≡ Gives ms
        then_same k = ap (λ (x : Reply). x then Gives ms) k

-- what has all that passes them
pub facts-write : (fmt w : ℕ) (ids ns cs vs ds : List ℕ) (room : ℕ) → WriteFacts fmt w ids ns cs vs ds room → write_check fmt w ids ns cs vs ds room ≡ passed
facts-write fmt w ids ns cs vs ds room f =
    write-fine fmt w ids ns cs vs ds room (shape-passes fmt w ids ns cs vs ds f.shape) f.names f.rules f.small f.fits

pub wrote : (fmt w : ℕ) (ids ns cs vs ds : List ℕ) (room : ℕ) → passed ≡ write_check fmt w ids ns cs vs ds room → WriteFacts fmt w ids ns cs vs ds room
wrote fmt w ids ns cs vs ds room p = write-facts fmt w ids ns cs vs ds room [] (sym p)

module _ (fmt w : ℕ) (ids ns cs vs ds : List ℕ) (room : ℕ) (f : WriteFacts fmt w ids ns cs vs ds room) where
  -- the counts add up to the rules that fit
  pub counts-small : 4 + 8 * length ids + rule_size fmt * sum_of ns ≤ 65536
  counts-small = omega (arith, f.small, ap (λ (k : ℕ). rule_size fmt * k) f.shape.sums)

  pub rules-few : length ds < 65536
  rules-few = omega (arith, f.shape.few, f.shape.sums, names-sum 1 0 ids ns f.shape.paired f.names)

-- ---- the lists that are given, as bytes

pub length_cut : (ids ns : List ℕ) (rs : List Rule) → length ns ≡ length ids → length (lists_from ids ns rs) ≡ length ids
unfolding lists_from
length_cut [] ns rs h = refl
length_cut (i ∷ is) [] rs h = absurd (omega arith)
length_cut (i ∷ is) (n ∷ ns) rs h = ap suc (length_cut is ns (drop n rs) (omega arith))

pub entries-cut : (fmt next : ℕ) (ids ns : List ℕ) (rs : List Rule) → length ns ≡ length ids → sum_of ns ≤ length rs → entries_for fmt next (lists_from ids ns rs) ≡ entries_given fmt next ids ns
unfolding entries_for lists_from entries_given sum_of
entries-cut fmt next [] ns rs h s = refl
entries-cut fmt next (i ∷ is) [] rs h s = absurd (omega arith)
entries-cut fmt next (i ∷ is) (n ∷ ns) rs h s =
    let t : length (take n rs) ≡ n = length-take-le n rs (omega arith) in
    (λ j. entry_with next (t j) i ∷ entries_for fmt (next + rule_size fmt * t j) (lists_from is ns (drop n rs)))
    ∙ ap (λ (es : List Entry). entry_with next n i ∷ es) (entries-cut fmt (next + rule_size fmt * n) is ns (drop n rs) (omega arith) (omega (arith, length-drop n rs)))

rules-join : (fmt : ℕ) (xs ys : List Rule) → rules_bytes fmt (xs ++ ys) ≡ rules_bytes fmt xs ++ rules_bytes fmt ys
unfolding rules_bytes
rules-join fmt [] ys = refl
rules-join fmt (x ∷ xs) ys = ap (λ (l : List ℕ). rule_bytes fmt x ++ l) (rules-join fmt xs ys) ∙ sym (append_assoc (rule_bytes fmt x) (rules_bytes fmt xs) (rules_bytes fmt ys))

pub bodies-cut : (fmt : ℕ) (ids ns : List ℕ) (rs : List Rule) → length ns ≡ length ids → sum_of ns ≡ length rs → bodies_bytes fmt (lists_from ids ns rs) ≡ rules_bytes fmt rs
unfolding bodies_bytes lists_from sum_of rules_bytes
bodies-cut fmt [] [] [] h s = refl
bodies-cut fmt [] [] (r ∷ rs) h s = absurd (omega arith)
bodies-cut fmt [] (n ∷ ns) rs h s = absurd (omega arith)
bodies-cut fmt (i ∷ is) [] rs h s = absurd (omega arith)
bodies-cut fmt (i ∷ is) (n ∷ ns) rs h s =
    ap (λ (l : List ℕ). rules_bytes fmt (take n rs) ++ l) (bodies-cut fmt is ns (drop n rs) (omega arith) (omega (arith, length-drop n rs)))
    ∙ sym (rules-join fmt (take n rs) (drop n rs)) ∙ ap (rules_bytes fmt) (take-append-drop n rs)

module _ (fmt w : ℕ) (ids ns cs vs ds : List ℕ) (shape : Shape fmt w ids ns cs vs ds) where
  pub rules-given : length (rules_of cs vs ds) ≡ length ds
  rules-given = rules-length cs vs ds shape.lent

  pub bytes-given : bytes_of fmt w (given ids ns cs vs ds)
      ≡ fmt ∷ w ∷ length ids ∷ 0 ∷ (contents_bytes (entries_given fmt (4 + 8 * length ids) ids ns) ++ rules_bytes fmt (rules_of cs vs ds))
  unfolding bytes_of
  bytes-given =
      let l = length_cut ids ns (rules_of cs vs ds) shape.paired in
      let e = entries-cut fmt (4 + 8 * length ids) ids ns (rules_of cs vs ds) shape.paired (omega (arith, shape.sums, rules-given)) in
      let b = bodies-cut fmt ids ns (rules_of cs vs ds) shape.paired (shape.sums ∙ sym rules-given) in
      (λ j. fmt ∷ w ∷ l j ∷ 0 ∷ (contents_bytes (entries_for fmt (4 + 8 * l j) (given ids ns cs vs ds)) ++ b j))
      ∙ ap (λ (es : List Entry). fmt ∷ w ∷ length ids ∷ 0 ∷ (contents_bytes es ++ rules_bytes fmt (rules_of cs vs ds))) e

  pub length-image : length (bytes_of fmt w (given ids ns cs vs ds)) ≡ image_length fmt (length ids) (length ds)
  length-image =
      let es : List Entry = entries_given fmt (4 + 8 * length ids) ids ns in
      ap length bytes-given
      ∙ omega (arith, length-append (contents_bytes es) (rules_bytes fmt (rules_of cs vs ds)), length-contents es, length-given fmt (4 + 8 * length ids) ids ns shape.paired, length-rules_bytes fmt (rules_of cs vs ds), ap (λ (k : ℕ). rule_size fmt * k) rules-given)

  -- the head, then the contents, then the rules
  pub parts-given : (out s₁ s₂ s₃ : List ℕ) → image_length fmt (length ids) (length ds) ≤ length out
      → s₁ ≡ over out 0 (fmt ∷ w ∷ length ids ∷ 0 ∷ []) → s₂ ≡ over s₁ 4 (contents_bytes (entries_given fmt (4 + 8 * length ids) ids ns)) → s₃ ≡ over s₂ (4 + 8 * length ids) (rules_bytes fmt (rules_of cs vs ds))
      → s₃ ≡ filled (bytes_of fmt w (given ids ns cs vs ds)) out
  parts-given out s₁ s₂ s₃ h e₁ e₂ e₃ =
      let H : List ℕ = fmt ∷ w ∷ length ids ∷ 0 ∷ [] in
      let X : List ℕ = contents_bytes (entries_given fmt (4 + 8 * length ids) ids ns) in
      let Y : List ℕ = rules_bytes fmt (rules_of cs vs ds) in
      let x : length X ≡ 8 * length ids = length-contents (entries_given fmt (4 + 8 * length ids) ids ns) ∙ ap (λ (k : ℕ). 8 * k) (length-given fmt (4 + 8 * length ids) ids ns shape.paired) in
      let y : length Y ≡ rule_size fmt * length ds = length-rules_bytes fmt (rules_of cs vs ds) ∙ ap (λ (k : ℕ). rule_size fmt * k) rules-given in
      let z : length (H ++ X) ≡ 4 + length X = length-append H X in
      e₃ ∙ ap (λ (t : List ℕ). over t (4 + 8 * length ids) Y) (e₂ ∙ ap (λ (t : List ℕ). over t 4 X) e₁ ∙ over-over out 0 4 H X refl (omega arith))
      ∙ over-over out 0 (4 + 8 * length ids) (H ++ X) Y (omega arith) (omega arith)
      ∙ over-imaged out ((H ++ X) ++ Y)
      ∙ ap (λ (t : List ℕ). filled t out) (sym bytes-given)

-- ---- the call

module _ (fmt w : ℕ) (ids ns cs vs ds out : List ℕ) where
  pub written-refused : (r : Result ℕ Refusal) (x : Refusal) → IsErrAnd r (λ y. y ≡ x) → refusal_reply x ≡ write_check fmt w ids ns cs vs ds (length out) → Written fmt w ids ns cs vs ds out r out
  unfolding write_reply
  written-refused r x up q =
      record {
        answer = stop-up _ r _ _ x up q;
        bytes = same-refused (write_reply fmt w ids ns cs vs ds out) x _ out (then-stop _ _ x (sym q));
      }

  pub written : passed ≡ write_check fmt w ids ns cs vs ds (length out) → (size : ℕ) → size ≡ rule_size fmt * length ds → (s₁ s₂ s₃ : List ℕ)
      → s₁ ≡ over out 0 (fmt ∷ w ∷ length ids ∷ 0 ∷ []) → s₂ ≡ over s₁ 4 (contents_bytes (entries_given fmt (4 + 8 * length ids) ids ns)) → s₃ ≡ over s₂ (4 + 8 * length ids) (rules_bytes fmt (rules_of cs vs ds))
      → Written fmt w ids ns cs vs ds out (Ok (4 + 8 * length ids + size)) s₃
  unfolding write_reply
  written q size z s₁ s₂ s₃ e₁ e₂ e₃ =
      let f = wrote fmt w ids ns cs vs ds (length out) q in
      let e : write_reply fmt w ids ns cs vs ds out ≡ Gives (image_length fmt (length ids) (length ds) ∷ []) = then_next _ _ (sym q) in
      record {
        answer = ap (λ (k : ℕ). Gives ((4 + 8 * length ids + k) ∷ [])) z ∙ sym e;
        bytes = parts-given fmt w ids ns cs vs ds f.shape out s₁ s₂ s₃ f.fits e₁ e₂ e₃ ∙ same-given (write_reply fmt w ids ns cs vs ds out) _ _ out e;
      }
