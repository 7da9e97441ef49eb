-- No second result: two answers that meet a call's promise are equal.
use mathlib.Core.Path.{◌≡◌, sym, ◌∙◌}
use mathlib.Core.List.{List}
use Prim.Native.Nat.{ℕ}
use lib.ListN.{take}
use Rattle.rules.specs.Replies.{Reply}
use Rattle.rules.specs.declared.Refusal.{Refusal}
use Rattle.std.specs.Prelude.{Option, None, Result}
use Rattle.compare.specs.declared.Compared.{Compared}
use Rattle.compare.specs.Runs.{Run}
use Rattle.compare.proofs.Unique.{one-compared}
use Rattle.run_lines.specs.declared.FilesCompared.{FilesCompared}
use Rattle.run_lines.specs.Shown.{Shown, FirstShown, ListsShown, FilesShown}

shown-once : (check : Reply) (rs : List Run) (r s : Result Compared Refusal) → Shown check rs r → Shown check rs s → r ≡ s
shown-once check rs r s p q =
    one-compared r s (p.count ∙ sym q.count) (p.reply ∙ sym q.reply)

-- `show_first`
pub show-first-once : (old : List ℕ) (old_default : Option ℕ) (new : List ℕ) (new_default : Option ℕ) (start : ℕ) (r s : Result Compared Refusal)
    → FirstShown old old_default new new_default start r → FirstShown old old_default new new_default start s → r ≡ s
show-first-once old old_default new new_default start r s p q = shown-once _ _ r s p q

-- `show_lists`
pub show-lists-once : (old : List ℕ) (i : ℕ) (old_default : Option ℕ) (new : List ℕ) (j : ℕ) (new_default : Option ℕ) (start : ℕ) (r s : Result Compared Refusal)
    → ListsShown old i old_default new j new_default start r → ListsShown old i old_default new j new_default start s → r ≡ s
show-lists-once old i old_default new j new_default start r s p q = shown-once _ _ r s p q

-- `show_files`: one comparison for the bytes that were read.
pub show-files-once : (old' new' : List ℕ) (r s : FilesCompared) → r.old ≡ s.old → r.new ≡ s.new
    → FilesShown old' new' r → FilesShown old' new' s → r.compared ≡ s.compared
show-files-once old' new' r s a b p q =
    show-first-once (take s.old old') None (take s.new new') None 0 r.compared s.compared moved q.shown
  where
    moved : FirstShown (take s.old old') None (take s.new new') None 0 r.compared
    moved = rw (← a, ← b) p.shown
