-- What reading a list of an image into slices with room for any list gives: the image's refusal and its 15, or the rules of the
-- list in the first places, which pass the checks of a list.
use mathlib.Core.Path.{◌≡◌, refl, sym, ap, ◌∙◌, subst⁻¹}
use mathlib.Core.List.{List, [], ◌∷◌, map}
use Prim.Native.Nat.{ℕ, zero, suc, ◌*◌, ◌≤◌}
use native.Mathlib.Omega.{arith}
use lib.ListN.{length, take, drop, length-map}
use lib.Seq.{take_at}
use Rattle.words.specs.Slices.{halves_of}
use Rattle.words.proofs.SliceLaws.{halves-length}
use Rattle.rules.specs.Rule.{Rule}
use Rattle.rules.specs.declared.Refusal.{Refusal}
use Rattle.rules.specs.Rules.{Valid}
use Rattle.rules.specs.Slices.{rules_of, Lent, care_of, value_of, decision_of, cares_of, values_of, decisions_of, filled}
use Rattle.rules.specs.Lists.{All}
use Rattle.rules.specs.Replies.{Reply, Gives, Refuses, passed, ◌then◌, refusal_reply, unless_refused, number_reply}
use Rattle.rules.specs.Checks.{lengths_check, room_check}
use Rattle.rules.specs.Calls.{check_list}
use Rattle.rules.proofs.ReplyLaws.{then_next, then-second, gives-refuses, one_value, Bare, bare-first, bare-then, bare-need}
use Rattle.rules.proofs.CheckLaws.{sound-list, lengths-yes, room-yes, width-inside}
use Rattle.rules.proofs.SliceLaws.{rules-length, rules-columns}
use Rattle.std.specs.Prelude.{Result, Ok, Err, is_some}
use Rattle.image_form.specs.Images.{width_in}
use Rattle.image_check.specs.Checks.{image_check}
use Rattle.image.specs.Places.{place_of, count_at, list_with}
use Rattle.image.specs.Calls.{id_check, read_reply, ReadOut}
use Rattle.image_check.proofs.BareLaws.{bare-image}
use Rattle.image.proofs.PassedLaws.{length-with, list-facts}

-- ---- rules in the first places of three slices, two numbers to a rule in the first two

pub record Held (n : ℕ) (rs : List Rule) (c v d : List ℕ) : Type 0 where
  pub size : length rs ≡ n
  pub cares : take (n * 2) c ≡ cares_of rs
  pub values : take (n * 2) v ≡ values_of rs
  pub decisions : take n d ≡ decisions_of rs

pub words_size : (f : Rule → ℕ) (rs : List Rule) (n : ℕ) → length rs ≡ n → length (halves_of (map f rs)) ≡ n * 2
words_size f rs n e = halves-length (map f rs) ∙ ap (λ (k : ℕ). k * 2) (length-map rs f ∙ e)

pub take-room : (n : ℕ) (c : List ℕ) → n ≡ length (take n c) → n ≤ length c
take-room zero c e = omega arith
take-room (suc n) [] e = absurd (omega arith)
take-room (suc n) (x ∷ xs) e = let r : n ≤ length xs = take-room n xs (omega arith) in omega arith

module _ (n : ℕ) (rs : List Rule) (c v d : List ℕ) (h : Held n rs c v d) where
  pub held-rules : rules_of (take (n * 2) c) (take (n * 2) v) (take n d) ≡ rs
  held-rules = (λ j. rules_of (h.cares j) (h.values j) (h.decisions j)) ∙ rules-columns rs

  pub held-cares : n * 2 ≡ length (take (n * 2) c)
  held-cares = sym (ap length h.cares ∙ words_size care_of rs n h.size)

  pub held-values : n * 2 ≡ length (take (n * 2) v)
  held-values = sym (ap length h.values ∙ words_size value_of rs n h.size)

  pub held-decisions : n ≡ length (take n d)
  held-decisions = sym (ap length h.decisions ∙ length-map rs decision_of ∙ h.size)

  pub room-cares : n * 2 ≤ length c
  room-cares = take-room (n * 2) c held-cares

  pub room-values : n * 2 ≤ length v
  room-values = take-room (n * 2) v held-values

  pub room-decisions : n ≤ length d
  room-decisions = take-room n d held-decisions

-- slices that belong together and hold the rules of an accepted image's list pass the checks of a list, as any list's number
pub list-passes : (b : List ℕ) (id l : ℕ) (c v d : List ℕ) → image_check b ≡ passed → Lent c v d → rules_of c v d ≡ list_with b id → check_list (width_in b) l c v d ≡ passed
list-passes b id l c v d p t e =
    let f = list-facts b id p in
    sound-list (width_in b) l c v d
    (record {
      width = width-inside (width_in b) f.least f.most;
      lent = t;
      few = omega (arith, rules-length c v d t, ap length e, length-with b id, f.few);
      valid = subst⁻¹ (All (Valid (width_in b))) e f.valid;
    })

-- so do the first places of slices that such a list was read into
pub held-passes : (b : List ℕ) (id l n : ℕ) (c v d : List ℕ) → image_check b ≡ passed → Held n (list_with b id) c v d
    → check_list (width_in b) l (take (n * 2) c) (take (n * 2) v) (take n d) ≡ passed
held-passes b id l n c v d p h =
    let cs = held-cares n (list_with b id) c v d h in
    let vs = held-values n (list_with b id) c v d h in
    let ds = held-decisions n (list_with b id) c v d h in
    list-passes b id l (take (n * 2) c) (take (n * 2) v) (take n d) p
    (record { values = sym vs ∙ cs; decisions = ap (λ (k : ℕ). k * 2) (sym ds) ∙ cs })
    (held-rules n (list_with b id) c v d h)

-- ---- what the call gives

pub bare-id : (b : List ℕ) (id : ℕ) → Bare (id_check b id)
unfolding id_check
bare-id b id = bare-then (image_check b) _ (bare-need (is_some (place_of b id)) 15 0 0)

pub id-image : (b : List ℕ) (id : ℕ) → id_check b id ≡ passed → image_check b ≡ passed
unfolding id_check
id-image b id p = bare-first (image_check b) _ (bare-image b) [] p

same_next : (a x y : Reply) → Bare a → (a ≡ passed → x ≡ y) → (a then x) ≡ (a then y)
same_next (Gives ns) x y k f = f (k ns refl)
same_next (Refuses n l r) x y k f = refl

gives-stop : (a : Reply) (ns : List ℕ) (x : Refusal) → (a then Gives ns) ≡ refusal_reply x → a ≡ refusal_reply x
gives-stop (Gives ms) ns x e = absurd (gives-refuses e)
gives-stop (Refuses n l r) ns x e = e

-- slices of 1,024 places, two numbers to each of the first two, are never too short
room-enough : (b : List ℕ) (id : ℕ) (c v d : List ℕ) → length c ≡ 2048 → length v ≡ 2048 → length d ≡ 1024
    → read_reply b id c v d ≡ (id_check b id then Gives (count_at (place_of b id) ∷ []))
unfolding read_reply
room-enough b id c v d p q s =
    same_next (id_check b id) _ _ (bare-id b id)
    (λ e.
    then_next (lengths_check c v d) _ (lengths-yes c v d (p ∙ sym q) (omega arith))
    ∙ then_next (room_check (count_at (place_of b id)) (length d)) _ (room-yes _ _ (omega (arith, (list-facts b id (id-image b id e)).few))))

module _ (b : List ℕ) (id : ℕ) (c v d : List ℕ) (x : Result ℕ Refusal) (c' v' d' : List ℕ) (o : ReadOut b id c v d x c' v' d') where
  pub read-refused : length c ≡ 2048 → length v ≡ 2048 → length d ≡ 1024 → {y : Refusal} → x ≡ Err y → id_check b id ≡ refusal_reply y
  read-refused p q s {y} e =
      gives-stop (id_check b id) _ y (sym (room-enough b id c v d p q s) ∙ sym o.answer ∙ ap number_reply e)

  module _ (n : ℕ) (e : x ≡ Ok n) where
    told : read_reply b id c v d ≡ Gives (n ∷ [])
    told = sym o.answer ∙ ap number_reply e

    pub read-passed : id_check b id ≡ passed
    unfolding read_reply
    read-passed = bare-first (id_check b id) _ (bare-id b id) (n ∷ []) told

    pub read-image : image_check b ≡ passed
    read-image = id-image b id read-passed

    counted : count_at (place_of b id) ≡ n
    unfolding read_reply
    counted =
        one_value (then-second (room_check (count_at (place_of b id)) (length d)) _ (n ∷ [])
        (then-second (lengths_check c v d) _ (n ∷ []) (then-second (id_check b id) _ (n ∷ []) told)))

    pub read-few : n ≤ 1024
    read-few = omega (arith, counted, (list-facts b id read-image).few)

    size : length (list_with b id) ≡ n
    size = length-with b id ∙ counted

    column : (l : List ℕ) (k : ℕ) (s s' : List ℕ) → length l ≡ k → s' ≡ unless_refused (read_reply b id c v d) (filled l s) s → take k s' ≡ l
    column l k s s' h p =
        ap (take k) (p ∙ ap (λ (u : Reply). unless_refused u (filled l s) s) told) ∙ take_at l (drop (length l) s) k h

    pub read_held : Held n (list_with b id) c' v' d'
    read_held =
        record {
          size = size;
          cares = column (cares_of (list_with b id)) (n * 2) c c' (words_size care_of (list_with b id) n size) o.cares;
          values = column (values_of (list_with b id)) (n * 2) v v' (words_size value_of (list_with b id) n size) o.values;
          decisions = column (decisions_of (list_with b id)) n d d' (length-map (list_with b id) decision_of ∙ size) o.decisions;
        }
