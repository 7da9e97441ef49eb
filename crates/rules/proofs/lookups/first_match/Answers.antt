use Rattle.rules.proofs.FoundLaws.{found_here, none_here, none_at_all}
use Rattle.rules.proofs.SliceLaws.{told}
use borrow.Author.Rules.{rules}
use native.Mathlib.Omega.{arith}
use Rattle.rules.proofs.lookups.first_match.Goals as goal

pub loop-i-init : goal.loop-i-init
loop-i-init c = λ j l. absurd (omega arith)

pub returns-then-rule_matches : goal.returns-then-rule_matches
returns-then-rule_matches c = let o = c.loop-i in
    found_here _ _ _ _ _ (search rules) o.invariant _ _ c.loop-i-test.true (told c.rule_at.ensures) c.rule_matches.ensures c.if-rule_matches.true

pub loop-i-preserved : goal.loop-i-preserved
loop-i-preserved c = let o = c.loop-i in
    none_here _ _ _ _ _ (search rules) o.invariant _ _ c.loop-i-test.true (told c.rule_at.ensures) c.rule_matches.ensures c.if-rule_matches.false

pub returns : goal.returns
returns c = none_at_all _ _ _ _ _ (search rules) c.loop-i.invariant c.loop-i-test.false
