use native.Mathlib.Omega.{arith}
use Rattle.five_numbers.proofs.FieldLaws.{joined_made}
use Rattle.five_numbers.proofs.headers.joined.Goals as goal

pub returns : goal.returns
returns c = let n = c.args.numbers in
    rw (c.from-source.ensures, c.from-destination.ensures, c.from-source_port.ensures, c.from-destination_port.ensures, c.from-protocol.ensures)
    (joined_made n.source n.destination n.source_port n.destination_port n.protocol (record { source = omega (arith, c.well_formed.0); destination = omega (arith, c.well_formed.0); source_port = c.requires.0; destination_port = c.requires.1; protocol = c.requires.2 }))
