use Rattle.five_fields.proofs.CountLaws.{ports-answered, ports-counted}
use Rattle.five_fields.proofs.counts.prefix_count.Goals as goal

pub unwrap-requires : goal.unwrap-requires
unwrap-requires c = ports-answered _ _ _ c.range_prefix_count.ensures c.requires

pub returns : goal.returns
returns c = ports-counted _ _ _ c.range_prefix_count.ensures c.unwrap.ensures
