use Rattle.five_fields.proofs.CountLaws.{ports-written, ports-put}
use Rattle.five_fields.proofs.expansions.put_ports.Goals as goal

pub unwrap-requires : goal.unwrap-requires
unwrap-requires c = ports-written _ _ _ _ _ _ _ c.range_prefixes.ensures c.requires.0 c.requires.1 c.requires.2

pub returns : goal.returns
returns c = ports-put _ _ _ _ _ _ _ c.range_prefixes.ensures _ c.unwrap.ensures
