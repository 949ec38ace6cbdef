-- `capi::point_line::can_come` meets its contract. Assumes nothing.
use mathlib.Core.Path.{◌∙◌, ap, ap₂}
use mathlib.Core.Bool.{Bool, not, ◌&&◌}
use Prim.Native.Nat.{ℕ}
use lib.Dec.{leb, ltb}
use Rattle.rounding.proofs.Machine.{told}
use Rattle.chain.specs.Numbers.{number}
use Rattle.capi.specs.Fragments.{flag, point_time}
use Rattle.capi.proofs.point_line.can_come.Goals as goal

pub returns : goal.returns
unfolding point_time
returns c =
    let n = c.args.n.now in
    ap₂ ◌&&◌
    (ap₂ (λ (a : Bool) (k : ℕ). not a && ltb k 1000000) (c.flag-finished.ensures ∙ ap flag
    (told {z = number n 4} c.flag-arg-1.given)) c.lines_in-lines.ensures.0)
    (ap₂ leb c.steps_in-steps.ensures c.lines_in-lines.ensures.0)
