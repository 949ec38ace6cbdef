-- `chain::steps::kept::count` meets its contract. Assumes nothing.
use mathlib.Core.Path.{◌≡◌, ◌∙◌}
use native.Mathlib.Omega.{arith}
use lib.IntN.{pos}
use mir.Syntax.{w64}
use mir.Val.{to_z, of_z}
use Rattle.rounding.proofs.Machine.{rd}
use Rattle.ranges.proofs.Ranges.{Natural, natural}
use Rattle.chain.proofs.steps.kept.count.Lts as lts
use Rattle.chain.proofs.steps.kept.count.Reads as reads
use Rattle.chain.proofs.steps.kept.count.Goals as goal

abbrev TheStart : Type 0
TheStart = lts.Start reads.Pre reads.Post

few : (s : TheStart) → Natural 0 s.args.n 8
few s = natural 0 s.args.n 8 s.requires

read : (s : TheStart) → to_z w64 (of_z w64 s.args.n) ≡ pos (few s).n
read s = rd s.ranges.n ∙ (few s).is

pub overflow_cast-result : goal.overflow_cast-result
overflow_cast-result c = let h = (few c).high in rw (read c) (tt, record { fits = omega arith })
