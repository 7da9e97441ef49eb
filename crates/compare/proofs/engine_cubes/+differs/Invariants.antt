use Rattle.std.proofs.Common.{◌-◌}
use Rattle.std.specs.Int.Count.{ones}
use Rattle.words.specs.Halves.{num}
use Rattle.compare.proofs.engine_cubes.+differs.Given as goal

abbrev pub decreases-differs : goal.decreases-differs
decreases-differs l = 128 - ones (num l.cube.care)
