-- What `write` and the calls that read promise together: what was written is read back, and what was read is written again, byte for byte.
-- The hypotheses are the calls' promises and their answers, and of what is lent only what the types of the slices say.
use mathlib.Core.Path.{◌≡◌, refl, sym, ap, ◌∙◌, subst}
use mathlib.Core.List.{List, [], ◌∷◌}
use Prim.Native.Nat.{ℕ, ◌+◌, ◌*◌, ◌≤◌, ◌<◌}
use native.Mathlib.Omega.{arith}
use lib.Dec.{leb, eqb}
use lib.ListN.{length, get_or, take, drop, length-append, length-drop}
use lib.Seq.{take_at, drop_at}
use Rattle.words.proofs.SliceLaws.{Machine}
use Rattle.rules.specs.Rule.{Rule}
use Rattle.rules.specs.Slices.{rules_of, Lent, cares_of, values_of, decisions_of, filled}
use Rattle.rules.specs.Replies.{Reply, Gives, passed, need, ◌then◌, unless_refused}
use Rattle.rules.specs.Checks.{lengths_check, room_check}
use Rattle.rules.proofs.ReplyLaws.{then_next, then-second, one_value, Bare, bare-need, bare-then, bare-first, one-number}
use Rattle.rules.proofs.SliceLaws.{rules-length, rules-columns, rules-care, rules-value, rules-decision}
use Rattle.std.specs.Prelude.{Result, Ok}
use Rattle.rules.specs.declared.Refusal.{Refusal}
use Rattle.image_form.specs.Formats.{format_check, range_check}
use Rattle.image_form.specs.Images.{Named, format_in, width_in, count_in, lists_of, bytes_of}
use Rattle.image_check.specs.Checks.{lists_check, image_check}
use Rattle.image.specs.Calls.{format_reply, width_reply, count_reply, entry_reply, read_reply, ReadOut}
use Rattle.image.proofs.BackLaws.{AreBytes}
use Rattle.image.proofs.Theorems.{rules_named}
use Rattle.image_writer.specs.Writing.{sum_of, lists_from, given, names_check, image_length, given_check, shape_check, write_check, write_reply, Written}
use Rattle.image_writer.proofs.WriteLaws.{WriteFacts, write-facts, length_cut, rules-given, length-image}
use Rattle.image_writer.proofs.AgainLaws.{Rising}
use Rattle.image_writer.proofs.CarryLaws.{facts-carried, names_of, counts_of, joined}
use Rattle.image_writer.proofs.ListLaws.{list_at, named-at, entry_gives, read-gives, read-size, read-rules, cut-at, cut-size, cut-back, Laid, laid-rules, columns-lent, laid-lent}
use Rattle.image_writer.proofs.CollectLaws.{Collected, ReadWhole, lent-passes, collected-from, rises, whole-passes, whole-head, whole-lists}
use Rattle.image_writer.proofs.Theorems.{AreIds, written-accepted, written-lists, rewritten}
use Rattle.image_writer.proofs.Unique.{write-once}

-- ---- written, and read back

bare-write : (f w : ℕ) (ids ns cs vs ds : List ℕ) (room : ℕ) → Bare (write_check f w ids ns cs vs ds room)
unfolding write_check room_check
bare-write f w ids ns cs vs ds room =
    bare-then (shape_check f w ids ns cs vs ds) _
    (bare-then (names_check 1 0 ids ns) _
    (bare-then (lists_check w 1 (given ids ns cs vs ds)) _
    (bare-then (need (leb (image_length f (length ids) (length ds)) 65536) 10 0 0) _ (bare-need (leb (image_length f (length ids) (length ds)) room) 7 0 0))))

-- `write` answered with the number n, and left out' in the bytes that held out.
module _ (f w : ℕ) (ids ns cs vs ds out out' : List ℕ) (n : ℕ) (a : AreIds ids) (W : Written f w ids ns cs vs ds out (Ok n) out') where
  check : write_check f w ids ns cs vs ds (length out) ≡ passed
  unfolding write_reply
  check = bare-first (write_check f w ids ns cs vs ds (length out)) _ (bare-write f w ids ns cs vs ds (length out)) (n ∷ []) (sym W.answer)

  facts : WriteFacts f w ids ns cs vs ds (length out)
  facts = write-facts f w ids ns cs vs ds (length out) [] check

  length-is : length (bytes_of f w (given ids ns cs vs ds)) ≡ n
  unfolding write_reply
  length-is = length-image f w ids ns cs vs ds facts.shape ∙ one_value (then-second (write_check f w ids ns cs vs ds (length out)) _ (n ∷ []) (sym W.answer))

  left : out' ≡ filled (bytes_of f w (given ids ns cs vs ds)) out
  left = W.bytes ∙ ap (λ (u : Reply). unless_refused u (filled (bytes_of f w (given ids ns cs vs ds)) out) out) (sym W.answer)

  -- The first n bytes are the image of the format, the width and the lists given.
  pub written-bytes : take n out' ≡ bytes_of f w (given ids ns cs vs ds)
  written-bytes = let b : List ℕ = bytes_of f w (given ids ns cs vs ds) in ap (take n) left ∙ take_at b (drop (length b) out) n length-is

  -- Later bytes are as they were.
  pub written-rest : drop n out' ≡ drop n out
  written-rest =
      let b : List ℕ = bytes_of f w (given ids ns cs vs ds) in
      ap (drop n) left ∙ drop_at b (drop (length b) out) n length-is ∙ ap (λ (k : ℕ). drop k out) length-is

  -- There was room for n bytes, n of them are the image, and there are as many bytes as before.
  pub written-fits : (n ≤ length out) × (length (take n out') ≡ n) × (length out' ≡ length out)
  written-fits =
      let b : List ℕ = bytes_of f w (given ids ns cs vs ds) in
      let fits : n ≤ length out = omega (arith, facts.fits, length-image f w ids ns cs vs ds facts.shape, length-is) in (
        fits,
        ap length written-bytes ∙ length-is,
        ap length left ∙ length-append b (drop (length b) out) ∙ omega (arith, length-is, length-drop (length b) out),
      )

  -- `check` finds nothing against the written bytes.
  pub written-passes : image_check (take n out') ≡ passed
  written-passes = ap image_check written-bytes ∙ written-accepted f w ids ns cs vs ds (length out) a check

  -- ---- what the calls tell of the written bytes

  lists : lists_of (take n out') ≡ given ids ns cs vs ds
  lists = ap lists_of written-bytes ∙ written-lists f w ids ns cs vs ds (length out) a check

  head-is : (format_in (take n out') ≡ f) × (width_in (take n out') ≡ w) × (count_in (take n out') ≡ length ids)
  unfolding bytes_of
  head-is = (ap format_in written-bytes, ap width_in written-bytes, ap count_in written-bytes ∙ length_cut ids ns (rules_of cs vs ds) facts.shape.paired)

  -- `format`, `width` and `count` tell the format, the width and the number of ids given.
  pub written-asked : (format_reply (take n out') ≡ Gives (f ∷ [])) × (width_reply (take n out') ≡ Gives (w ∷ [])) × (count_reply (take n out') ≡ Gives (length ids ∷ []))
  unfolding format_reply width_reply count_reply
  written-asked = (
    then_next _ _ written-passes ∙ ap (λ (k : ℕ). Gives (k ∷ [])) head-is.0,
    then_next _ _ written-passes ∙ ap (λ (k : ℕ). Gives (k ∷ [])) head-is.1,
    then_next _ _ written-passes ∙ ap (λ (k : ℕ). Gives (k ∷ [])) head-is.2,
  )

  -- `read`, where it gives a number, gives the number of rules given for that id, and the first places of its slices hold them.
  pub written-reads : (id : ℕ) (c v d c' v' d' : List ℕ) (m : ℕ) → ReadOut (take n out') id c v d (Ok m) c' v' d'
      → (rules_of (take (m * 2) c') (take (m * 2) v') (take m d') ≡ rules_named id (given ids ns cs vs ds)) × (m ≡ length (rules_named id (given ids ns cs vs ds)))
  written-reads id c v d c' v' d' m o = (
    read-rules (take n out') id c v d m c' v' d' o ∙ ap (rules_named id) lists,
    sym (read-size (take n out') id c v d m c' v' d' o) ∙ ap (λ (l : List Named). length (rules_named id l)) lists,
  )

  given-rises : Rising 0 (given ids ns cs vs ds)
  given-rises = (facts-carried f w ids ns cs vs ds (length out) a facts).rising

  back : (names_of (given ids ns cs vs ds) ≡ ids) × (counts_of (given ids ns cs vs ds) ≡ ns) × (joined (given ids ns cs vs ds) ≡ rules_of cs vs ds)
  back = cut-back ids ns (rules_of cs vs ds) facts.shape.paired (facts.shape.sums ∙ sym (rules-given f w ids ns cs vs ds facts.shape))

  -- Whoever reads the written bytes whole.
  module _ (f' w' : ℕ) (ids' ns' cs' vs' ds' : List ℕ) (R : ReadWhole (take n out') f' w' ids' ns' cs' vs' ds') where
    laid : Laid (given ids ns cs vs ds) ids' ns' cs' vs' ds'
    laid = rw lists at (whole-lists (take n out') f' w' ids' ns' cs' vs' ds' R (rw lists given-rises))

    -- Written, then read: the format, the width, the ids, the counts and the rules that were given.
    pub written-whole : (f' ≡ f) × (w' ≡ w) × (ids' ≡ ids) × (ns' ≡ ns) × (rules_of cs' vs' ds' ≡ rules_of cs vs ds)
    written-whole =
        let head = whole-head (take n out') f' w' ids' ns' cs' vs' ds' R in
        (head.0 ∙ head-is.0, head.1 ∙ head-is.1, laid.names ∙ back.0, laid.counts ∙ back.1, laid-rules (given ids ns cs vs ds) ids' ns' cs' vs' ds' laid ∙ back.2)

    -- The slices too are those that were given, where these are slices of machine words.
    pub written-slices : Machine cs → Machine vs → (cs' ≡ cs) × (vs' ≡ vs) × (ds' ≡ ds)
    written-slices c v =
        let l : Lent cs vs ds = facts.shape.lent in (
          laid.cares ∙ ap cares_of back.2 ∙ rules-care cs vs ds l c,
          laid.values ∙ ap values_of back.2 ∙ rules-value cs vs ds l v,
          laid.decisions ∙ ap decisions_of back.2 ∙ rules-decision cs vs ds l,
        )

  -- The list of the id at place k of the ids, counted from 0.
  module _ (k : ℕ) (h : k < length ids) where
    at-id : (list_at (given ids ns cs vs ds) k).id ≡ get_or ids k 0
    at-id = ap (λ (l : Named). l.id) (cut-at ids ns (rules_of cs vs ds) k facts.shape.paired h)

    at_size : length (list_at (given ids ns cs vs ds) k).rules ≡ get_or ns k 0
    at_size =
        cut-size ids ns (rules_of cs vs ds) k facts.shape.paired h
        (omega (arith, facts.shape.sums, rules-given f w ids ns cs vs ds facts.shape))

    below : k < count_in (take n out')
    below = omega (arith, head-is.2)

    names-it : rules_named (get_or ids k 0) (given ids ns cs vs ds) ≡ (list_at (given ids ns cs vs ds) k).rules
    names-it =
        let ls : List Named = given ids ns cs vs ds in
        ap (λ (i : ℕ). rules_named i ls) (sym at-id) ∙ named-at 0 ls k given-rises (omega (arith, length_cut ids ns (rules_of cs vs ds) facts.shape.paired))

    -- The rules given for it: as many as the count at place k says, after those of the counts before it.
    pub written-part : rules_named (get_or ids k 0) (given ids ns cs vs ds) ≡ take (get_or ns k 0) (drop (sum_of (take k ns)) (rules_of cs vs ds))
    written-part = names-it ∙ ap (λ (l : Named). l.rules) (cut-at ids ns (rules_of cs vs ds) k facts.shape.paired h)

    part-size : length (rules_named (get_or ids k 0) (given ids ns cs vs ds)) ≡ get_or ns k 0
    part-size = ap length names-it ∙ at_size

    -- `entry` tells its id and its count.
    pub written_entry : entry_reply (take n out') (k + 1) ≡ Gives (get_or ids k 0 ∷ get_or ns k 0 ∷ [])
    written_entry =
        entry_gives (take n out') k written-passes below
        ∙ ap (λ (l : List Named). Gives ((list_at l k).id ∷ length (list_at l k).rules ∷ [])) lists
        ∙ (λ j. Gives (at-id j ∷ at_size j ∷ []))

    -- `read` with its id does not refuse slices that belong together and have room for its rules.
    pub written-found : (c v d : List ℕ) → lengths_check c v d ≡ passed → length (rules_named (get_or ids k 0) (given ids ns cs vs ds)) ≤ length d
        → read_reply (take n out') (get_or ids k 0) c v d ≡ Gives (length (rules_named (get_or ids k 0) (given ids ns cs vs ds)) ∷ [])
    written-found c v d l =
        let id : ℕ = get_or ids k 0 in
        subst (λ (x : List Named). length (rules_named id x) ≤ length d → read_reply (take n out') id c v d ≡ Gives (length (rules_named id x) ∷ [])) lists
        (read-gives (take n out') k written-passes below id (sym (ap (λ (x : List Named). (list_at x k).id) lists ∙ at-id)) c v d l)

    -- Written, then read: the answer is the count given for the id, and the first places of the slices hold the rules given for it.
    pub written-list : (c v d c' v' d' : List ℕ) (r : Result ℕ Refusal) → lengths_check c v d ≡ passed → get_or ns k 0 ≤ length d
        → ReadOut (take n out') (get_or ids k 0) c v d r c' v' d'
        → (r ≡ Ok (get_or ns k 0))
        × (rules_of (take (get_or ns k 0 * 2) c') (take (get_or ns k 0 * 2) v') (take (get_or ns k 0) d') ≡ take (get_or ns k 0) (drop (sum_of (take k ns)) (rules_of cs vs ds)))
    written-list c v d c' v' d' r l room o =
        let m : ℕ = get_or ns k 0 in
        let answer : r ≡ Ok m =
        one-number r (Ok m) (o.answer ∙ written-found c v d l (omega (arith, part-size)) ∙ ap (λ (i : ℕ). Gives (i ∷ [])) part-size) in
        let told : ReadOut (take n out') (get_or ids k 0) c v d (Ok m) c' v' d' = rw answer at o in
        (answer, (written-reads (get_or ids k 0) c v d c' v' d' m told).0 ∙ written-part)

-- ---- read, and written again

-- The image again: the answer is its length, the bytes start with it, and later bytes are as they were.
abbrev pub Again : (b out : List ℕ) → (r : Result ℕ Refusal) → (out' : List ℕ) → Type 0
Again b out r out' = (r ≡ Ok (length b)) × (take (length b) out' ≡ b) × (drop (length b) out' ≡ drop (length b) out)

-- the writer goes by the rules: slices that belong together and hold the same rules are written alike
module _ (f w : ℕ) (ids ns c v d cs vs ds out : List ℕ) (l : Lent c v d) (m : Lent cs vs ds) (e : rules_of c v d ≡ rules_of cs vs ds) where
  same-reply : write_reply f w ids ns c v d out ≡ write_reply f w ids ns cs vs ds out
  unfolding write_reply write_check shape_check given_check
  same-reply =
      let p : lengths_check c v d ≡ lengths_check cs vs ds = lent-passes c v d l ∙ sym (lent-passes cs vs ds m) in
      let q : length d ≡ length ds = sym (rules-length c v d l) ∙ ap length e ∙ rules-length cs vs ds m in
      λ j. ((format_check f
      then range_check f w
      then (need (eqb (length ids) (length ns)) 2 0 0 then p j then need (eqb (sum_of ns) (q j)) 2 0 0)
      then need (leb 1 (length ids)) 12 0 0
      then need (leb (length ids) 16) 12 0 0)
      then names_check 1 0 ids ns
      then lists_check w 1 (lists_from ids ns (e j))
      then need (leb (image_length f (length ids) (q j)) 65536) 10 0 0
      then room_check (image_length f (length ids) (q j)) (length out))
      then Gives (image_length f (length ids) (q j) ∷ [])

  same-written : (r : Result ℕ Refusal) (out' : List ℕ) → Written f w ids ns c v d out r out' → Written f w ids ns cs vs ds out r out'
  same-written r out' W =
      record {
        answer = W.answer ∙ same-reply;
        bytes = W.bytes ∙ (λ j. unless_refused (same-reply j) (filled (bytes_of f w (lists_from ids ns (e j))) out) out);
      }

-- An accepted image.
module _ (b : List ℕ) (h : AreBytes b) (f : image_check b ≡ passed) where
  -- What a caller collects of all entries is the ids, the counts and the rules of the image's lists.
  pub collected-lists : (ids ns cs vs ds : List ℕ) → Collected b 1 ids ns cs vs ds → length ids ≡ count_in b
      → (ids ≡ names_of (lists_of b)) × (ns ≡ counts_of (lists_of b)) × (rules_of cs vs ds ≡ joined (lists_of b)) × Lent cs vs ds
  collected-lists ids ns cs vs ds k e =
      let l : Laid (lists_of b) ids ns cs vs ds = collected-from b f (rises b h f) 0 1 ids ns cs vs ds k refl (omega arith) in
      (l.names, l.counts, laid-rules (lists_of b) ids ns cs vs ds l, laid-lent (lists_of b) ids ns cs vs ds l)

  -- Where `write` is given the format, the width and the lists of an image, there is no result but the image again.
  pub rewritten-bytes : (out out' : List ℕ) (r : Result ℕ Refusal) → length b ≤ length out
      → Written (format_in b) (width_in b) (names_of (lists_of b)) (counts_of (lists_of b)) (cares_of (joined (lists_of b))) (values_of (joined (lists_of b))) (decisions_of (joined (lists_of b))) out r out'
      → Again b out r out'
  rewritten-bytes out out' r room W =
      let rs : List Rule = joined (lists_of b) in
      let e = write-once (format_in b) (width_in b) (names_of (lists_of b)) (counts_of (lists_of b)) (cares_of rs) (values_of rs) (decisions_of rs) out r (Ok (length b)) out' (filled b out)
      W (rewritten b out h f room) in
      (e.0, ap (take (length b)) e.1 ∙ take_at b (drop (length b) out) (length b) refl, ap (drop (length b)) e.1 ∙ drop_at b (drop (length b) out) (length b) refl)

  -- The same of any slices that belong together and hold the rules of its lists one after the other.
  pub rewritten-rules : (cs vs ds out out' : List ℕ) (r : Result ℕ Refusal) → Lent cs vs ds → rules_of cs vs ds ≡ joined (lists_of b) → length b ≤ length out
      → Written (format_in b) (width_in b) (names_of (lists_of b)) (counts_of (lists_of b)) cs vs ds out r out' → Again b out r out'
  rewritten-rules cs vs ds out out' r l e room W =
      let ls : List Named = lists_of b in
      let rs : List Rule = joined ls in
      rewritten-bytes out out' r room
      (same-written (format_in b) (width_in b) (names_of ls) (counts_of ls) cs vs ds (cares_of rs) (values_of rs) (decisions_of rs) out l (columns-lent rs) (e ∙ sym (rules-columns rs)) r out' W)

-- An image that a caller read whole.
module _ (b : List ℕ) (f w : ℕ) (ids ns cs vs ds : List ℕ) (h : AreBytes b) (R : ReadWhole b f w ids ns cs vs ds) where
  -- Read, then written: the format, the width, the ids and the counts that were told, and slices that belong together and hold the rules
  -- that were read, give the image's bytes.
  pub rewritten-from-rules : (c v d out out' : List ℕ) (r : Result ℕ Refusal) → Lent c v d → rules_of c v d ≡ rules_of cs vs ds → length b ≤ length out
      → Written f w ids ns c v d out r out' → Again b out r out'
  rewritten-from-rules c v d out out' r l e room W =
      let k = whole-passes b f w ids ns cs vs ds R in
      let head = whole-head b f w ids ns cs vs ds R in
      let all = collected-lists b h k ids ns cs vs ds R.lists head.2 in
      rewritten-rules b h k c v d out out' r l (e ∙ all.2) room (rw (head.0, head.1, all.0, all.1) at W)

  -- So do the slices as they were collected.
  pub rewritten-by-calls : (out out' : List ℕ) (r : Result ℕ Refusal) → length b ≤ length out → Written f w ids ns cs vs ds out r out' → Again b out r out'
  rewritten-by-calls out out' r room W =
      let all = collected-lists b h (whole-passes b f w ids ns cs vs ds R) ids ns cs vs ds R.lists (whole-head b f w ids ns cs vs ds R).2 in
      rewritten-from-rules cs vs ds out out' r all.3 refl room W
