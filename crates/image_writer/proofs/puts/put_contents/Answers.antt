use Rattle.image_form.proofs.FormatLaws.{layout-body}
use mathlib.Core.Path.{ap, sym, ◌∙◌}
use Prim.Native.Nat.{ℕ, ◌*◌}
use native.Mathlib.Omega.{arith}
use Rattle.image_form.specs.Formats.{rule_size}
use Rattle.image_writer.proofs.PutLaws.{entries-put, entries-put-end}
use Rattle.image_writer.proofs.GivenLaws.{size-turn}
use Rattle.image_writer.proofs.puts.put_contents.Goals as goal

pub overflow_mul-next-in-loop-i : goal.overflow_mul-next-in-loop-i
overflow_mul-next-in-loop-i c = omega (arith, layout-body _ _ c.layout-rule.ensures c.from.result)

pub overflow_add-next-in-loop-i : goal.overflow_add-next-in-loop-i
overflow_add-next-in-loop-i c = let a = c.args in
    omega (arith, layout-body a.format _ c.layout-rule.ensures c.from.result, size-turn a.format a.counts.now c.loop-i.i _ (omega arith) c.from.ensures)

pub loop-i-preserved : goal.loop-i-preserved
loop-i-preserved c = let o = c.loop-i in
    let a = c.args in
    let n = a.counts.now in
    let s = size-turn a.format n o.i _ (omega arith) c.from.ensures in
    let z = layout-body a.format _ c.layout-rule.ensures c.from.result in (
      c.put_entry.auto.out ∙ o.invariant.0,
      omega (arith, s, z),
      sym (entries-put a.format o.out _ a.ids.now n o.i o.next _ (omega arith) c.requires.0 (omega arith) c.put_entry.ensures
          (z.0 ∙ ap (λ (k : ℕ). rule_size a.format * k) c.from.ensures)) ∙ o.invariant.2,
    )

pub returns : goal.returns
returns c = let o = c.loop-i in
    sym (entries-put-end _ o.out _ _ o.i _ o.next (omega arith)) ∙ o.invariant.2
