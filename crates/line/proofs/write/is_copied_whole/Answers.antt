-- `line::write::is_copied_whole` meets its contract. Assumes nothing.
use Rattle.std.proofs.Common.{◌≡◌, arith, w64, to_z, of_z, rules}
use Rattle.line.proofs.Capped.{never}
use Rattle.line.proofs.Moved as M
use Rattle.line.proofs.write.is_copied_whole.Goals as goal

pub returns : goal.returns
returns c =
    λ e.
    let x-read : to_z w64 (of_z w64 c.args.p.x) ≡ c.args.p.x = search rules in
    let y-read : to_z w64 (of_z w64 c.args.p.y) ≡ c.args.p.y = search rules in
    record { enough = omega arith; few = omega arith; long = λ r. M.long-enough r c.args.p (rw x-read at c.if-p-gtminus10000000000.false) (rw y-read at e) }

pub returns-then-line-lt32 : goal.returns-then-line-lt32
returns-then-line-lt32 c e = absurd (never e)

pub returns-then-place-gt32 : goal.returns-then-place-gt32
returns-then-place-gt32 c e = absurd (never e)

pub returns-then-p-gtminus10000000000 : goal.returns-then-p-gtminus10000000000
returns-then-p-gtminus10000000000 c e = absurd (never e)
