use mathlib.Core.Path.{sym, ap, ◌∙◌}
use Rattle.std.proofs.lemmas.List.{take_rest}
use Rattle.words.specs.Halves.{limit}
use Rattle.text.proofs.NumberLaws.{some_digits, number-hex, number-decimal}
use Rattle.text.proofs.numbers.read_number.Goals as goal

pub returns-in-Some : goal.returns-in-Some
returns-in-Some c = let e = c.in-Some.ensures.cases in
    -- what stands behind 0x, where it is taken as a part of the word
    let r = take_rest c.args.word.now 2 in
    c.digits_of.ensures ∙ ap (some_digits limit 16) (cc) ∙ number-hex _ _ e.0

pub returns-in-None : goal.returns-in-None
returns-in-None c = c.digits_of-in-None.ensures ∙ sym (number-decimal _ _ c.in-None.ensures.cases)
