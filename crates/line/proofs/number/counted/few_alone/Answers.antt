-- `line::number::counted::few_alone` meets its contract. Assumes nothing.
use Rattle.std.proofs.Common.{◌≡◌, ℕ, ◌<◌, ◌≤◌, Bool, false, ◌||◌, eqb, refl, arith, eqb-true}
use borrow.Author.Tests.{eqb-false, not-false}
use Rattle.line.proofs.Ahead as L
use Rattle.line.proofs.Counted as K
use Rattle.line.proofs.Few as F
use Rattle.line.proofs.number.counted.few_alone.Goals as goal

-- ---- one to seven are counted
some : (k : ℕ) → (eqb k 0 || eqb k 8) ≡ false → k ≤ 8 → (0 < k) × (k ≤ 7)
some k h m =
    let a = eqb-false k 0 (L.or_left (eqb k 0) (eqb k 8) h) in
    let b = eqb-false k 8 (L.or_right (eqb k 0) (eqb k 8) h) in
    (omega arith, omega arith)

-- ---- where none of the three tests was met: a byte that is no digit, a 0 in front, and no tab behind
none : (a b c : Bool) → (a || b || c) ≡ false → (a ≡ false) × (b ≡ false) × (c ≡ false)
none a b c h =
    let two = L.or_left (a || b) c h in
    (L.or_left a b two, L.or_right a b two, L.or_right (a || b) c h)

pub eight-requires : goal.eight-requires
eight-requires c =
    let k = c.digits_before-k.result in
    let n = some k c.if-k.false c.digits_before-k.ensures in
    let z = none _ _ _ c.if-other_eight-d.false in
    F.small (F.spelt-few c.word-d.ensures k (omega (arith, n)) (c.other_eight.ensures z.0))

pub returns : goal.returns
returns c =
    let k = c.digits_before-k.result in
    let n = some k c.if-k.false c.digits_before-k.ensures in
    let z = none _ _ _ c.if-other_eight-d.false in
    let y = F.counted (F.spelt-few c.word-d.ensures k (omega (arith, n)) (c.other_eight.ensures z.0)) (omega (arith, n, c.requires)) n.0 (F.led-by c.word-d.ensures (eqb-false _ 0 z.1)) in
    (n.0, n.1, K.tabbed (omega (arith, n, c.requires)) (eqb-true _ 9 (not-false _ z.2)) refl y, rw c.eight.ensures y)
