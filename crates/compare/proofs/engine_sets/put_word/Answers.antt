use mathlib.Core.Path.{sym}
use Rattle.compare.proofs.EngineMembers.{put-none}
use native.Mathlib.Omega.{arith}
use Rattle.compare.proofs.engine_sets.put_word.Goals as goal

pub returns-else-keep-ne0 : goal.returns-else-keep-ne0
returns-else-keep-ne0 c = let a = c.args in
    let p = c.requires in
    (p.0, λ k. rw c.if-keep-ne0.false (sym (put-none a.out.now a.w p.0 p.1 k (λ e. p.2 k (omega arith)))))
