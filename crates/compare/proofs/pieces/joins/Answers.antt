use Rattle.words.specs.Halves.{num}
use Rattle.words.proofs.WordLaws.{holds}
use Rattle.compare.proofs.EngineNumbers.{says, says_of}
use native.Mathlib.Omega.{arith}
use borrow.Author.Rules.{rules}
use Rattle.compare.proofs.pieces.joins.Goals as goal

pub returns-then-new_answer-p : goal.returns-then-new_answer-p
returns-then-new_answer-p c =
    let E = says_of _ _ c.eq.ensures (holds c.word_at.ensures) (holds c.before-then-new_answer-p.ensures) in
    let z = (says (num c.args.lo) 0 c.is_zero.ensures).1 c.if-is_zero.false in
    (λ e. record { some = omega arith; next = (let n = E.0 e in omega (arith, n, z)); olds = search rules; news = search rules }, λ e J. E.1 e (omega (arith, J.next)))
