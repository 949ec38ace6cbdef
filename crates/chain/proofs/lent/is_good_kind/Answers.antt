-- `chain::lent::is_good_kind` meets its contract: a letter of no kind is refused. Assumes nothing.
use lib.IntN.{pos, neg_ℤ}
use mathlib.Core.Path.{refl}
use Rattle.ranges.proofs.Ranges.{above}
use Rattle.chain.specs.Faults.{kind_range}
use Rattle.chain.specs.Numbers.{number, kind_from, good_kind}
use Rattle.chain.proofs.Letters.{no-letter}
use Rattle.chain.proofs.lent.is_good_kind.Goals as goal

pub returns : goal.returns
unfolding kind_from good_kind kind_range
returns c =
    let n = number c.args.n.now 0 in
    rw (no-letter n 84 c.if-kind-eq-SHIFT.false, no-letter n 86 c.if-kind-eq-VELOCITY.false, no-letter n 66 c.if-kind-eq-BURSA_WOLF.false, no-letter n 70 c.if-kind-eq-FRAME.false, above (neg_ℤ (pos 100000000)) (pos 100000001) (pos 100000000) refl)
