use mathlib.Core.Path.{sym, ap, ◌∙◌}
use mathlib.Core.List.{[], ◌∷◌}
use Rattle.words.specs.Halves.{num}
use Rattle.words.proofs.WordLaws.{num-halves}
use Rattle.rules.specs.Replies.{Gives}
use Rattle.rules.proofs.ReplyLaws.{then_next, need-passed}
use Rattle.five_numbers.specs.Calls.{header_reply}
use Rattle.five_numbers.proofs.FieldLaws.{in-fields}
use Rattle.five_numbers.proofs.headers.header.Goals as goal

pub joined-requires : goal.joined-requires
joined-requires c = let w = in-fields _ (need-passed _ 6 0 0 (sym c.in_ok-fields_verdict.ensures)) in (w.source_port, w.destination_port, w.protocol)

pub returns-clause-reply : goal.returns-clause-reply
unfolding header_reply
returns-clause-reply c = ap (λ n. Gives (n ∷ [])) (ap num c.joined.ensures ∙ num-halves _) ∙ sym (then_next _ _ (sym c.in_ok-fields_verdict.ensures))
