use Rattle.five_fields.proofs.EntryLaws.{care-within, value-within, address-within, entry-made}
use Rattle.five_numbers.proofs.FieldLaws.{fields_in}
use borrow.Author.Rules.{rules}
use Rattle.five_fields.proofs.entries.entry.Goals as goal

pub joined-care-requires : goal.joined-care-requires
joined-care-requires c = let a = c.args in
    fields_in _ (record { source = address-within _ _ c.address_care.ensures; destination = address-within _ _ c.address_care-2.ensures; source_port = search rules; destination_port = search rules; protocol = care-within a.rule.protocol _ c.protocol_care.ensures })

pub joined-value-requires : goal.joined-value-requires
joined-value-requires c = fields_in _ (record { source = search rules; destination = search rules; source_port = search rules; destination_port = search rules; protocol = value-within c.args.rule.protocol _ c.requires.protocol c.protocol_value.ensures })

pub returns : goal.returns
returns c = entry-made _ _ _ _ _ _ _ c.address_care.ensures c.address_care-2.ensures c.protocol_care.ensures c.protocol_value.ensures (rw (c.from.ensures, c.from-2.ensures) at c.joined-care.ensures) (rw (c.from-3.ensures, c.from-4.ensures) at c.joined-value.ensures)
