-- `chain::steps::turn_gain` meets its contract. Assumes nothing.
use mathlib.Core.Path.{◌≡◌, ◌∙◌}
use Prim.Native.Nat.{◌+◌, ◌≤◌}
use native.Mathlib.Omega.{arith}
use lib.IntN.{ℤ, pos, neg_ℤ, nat_abs, ◌-ℤ◌}
use mir.Syntax.{w64}
use mir.Val.{SFits, to_z, of_z}
use Rattle.rounding.proofs.Zn.{k, abs_neg}
use Rattle.rounding.proofs.Machine.{rd, fits, rd0-, fit0-, to₄, of₃, of₄}
use Rattle.chain.specs.declared.steps.Turn.{Turn}
use Rattle.chain.specs.Parts.{part, gain, over11}
use Rattle.chain.specs.Ready.{TurnOk, PartOk}
use Rattle.chain.specs.Ready.{position}
use Rattle.chain.proofs.steps.turn_gain.Tie as tie
use Rattle.chain.proofs.steps.turn_gain.Lts as lts
use Rattle.chain.proofs.steps.turn_gain.Reads as reads
use Rattle.chain.proofs.steps.turn_gain.Goals as goal

abbrev TheStart : Type 0
TheStart = lts.Start tie.the-claims reads.Pre reads.Post

-- a shift, a rotation or a scale, as the machine reads it, and with the other sign
opposite : (z : ℤ) → nat_abs z ≤ 100000000 → SFits w64 (neg_ℤ z)
opposite z h = fits 100000000 (omega (arith, abs_neg z)) (omega arith)

read : (z : ℤ) → nat_abs z ≤ 100000000 → to_z w64 (of_z w64 z) ≡ z
read z h = rd (fits 100000000 h (omega arith))

turned : (z : ℤ) → nat_abs z ≤ 100000000 → to_z w64 (of_z w64 (pos 0 -ℤ to_z w64 (of_z w64 z))) ≡ neg_ℤ z
turned z h = rd0- (read z h) (opposite z h)

module _ (s : TheStart) where
  abbrev T : Turn
  T = s.args.t

  abbrev ok : TurnOk T
  ok = s.requires.0

  dx : to_z w64 (of_z w64 T.dx) ≡ T.dx
  dx = read T.dx ok.dx

  dy : to_z w64 (of_z w64 T.dy) ≡ T.dy
  dy = read T.dy ok.dy

  dz : to_z w64 (of_z w64 T.dz) ≡ T.dz
  dz = read T.dz ok.dz

  hx : nat_abs T.rx ≤ 100000000
  hx = omega (arith, ok.rx)

  hy : nat_abs T.ry ≤ 100000000
  hy = omega (arith, ok.ry)

  hz : nat_abs T.rz ≤ 100000000
  hz = omega (arith, ok.rz)

  sc : to_z w64 (of_z w64 T.s) ≡ T.s
  sc = read T.s (omega (arith, ok.s))

  -- the three parts' numbers
  part-ok : (d a b c : ℤ) → nat_abs d ≤ 100000000 → nat_abs a + nat_abs b + nat_abs c ≤ 11696468 → PartOk d a b c s.args.p
  part-ok d a b c h l = record { start = h; linear = record { sum = l; small = s.requires.1 } }

  ok-x : PartOk T.dx T.s (neg_ℤ T.rz) T.ry s.args.p
  ok-x = part-ok T.dx T.s (neg_ℤ T.rz) T.ry ok.dx (omega (arith, ok, abs_neg T.rz))

  ok-y : PartOk T.dy T.rz T.s (neg_ℤ T.rx) s.args.p
  ok-y = part-ok T.dy T.rz T.s (neg_ℤ T.rx) ok.dy (omega (arith, ok, abs_neg T.rx))

  ok-z : PartOk T.dz (neg_ℤ T.ry) T.rx T.s s.args.p
  ok-z = part-ok T.dz (neg_ℤ T.ry) T.rx T.s ok.dz (omega (arith, ok, abs_neg T.ry))

  asked : ℤ → ℤ → ℤ → ℤ → Type 0
  asked k a b c = PartOk k a b c s.args.p

  given : ℤ → ℤ → ℤ → ℤ → ℤ
  given k a b c = part (over11 k a b c) s.args.p

pub overflow_sub-t : goal.overflow_sub-t
overflow_sub-t c = let s = c.before.before.before in fit0- (read (T s).rz (hz s)) (opposite (T s).rz (hz s))

pub turn_part-x-requires : goal.turn_part-x-requires
unfolding asked
turn_part-x-requires c = let s = c.before.before.before.before.before.before in to₄ (asked s) (dx s) (sc s) (turned (T s).rz (hz s)) (read (T s).ry (hy s)) (ok-x s)

pub overflow_sub-t-2 : goal.overflow_sub-t-2
overflow_sub-t-2 c = let s = c.before.before.before.before.before.before.before.before.before in fit0- (read (T s).rx (hx s)) (opposite (T s).rx (hx s))

pub turn_part-y-requires : goal.turn_part-y-requires
unfolding asked
turn_part-y-requires c =
    let s = c.before.before.before.before.before.before.before.before.before.before.before.before in
    to₄ (asked s) (dy s) (read (T s).rz (hz s)) (sc s) (turned (T s).rx (hx s)) (ok-y s)

pub overflow_sub-t-3 : goal.overflow_sub-t-3
overflow_sub-t-3 c =
    let s = c.before.before.before.before.before.before.before.before.before.before.before.before.before.before.before in
    fit0- (read (T s).ry (hy s)) (opposite (T s).ry (hy s))

pub turn_part-z-requires : goal.turn_part-z-requires
unfolding asked
turn_part-z-requires c =
    let s = c.before.before.before.before.before.before.before.before.before.before.before.before.before.before.before.before.before.before in
    to₄ (asked s) (dz s) (turned (T s).ry (hy s)) (read (T s).rx (hx s)) (sc s) (ok-z s)

pub returns : goal.returns
unfolding gain given
returns c =
    let s = c.before.before.before.before.before.before.before.before.before.before.before.before.before.before.before.before.before.before in
    let x = c.turn_part-x in
    let y = c.turn_part-y in
    let z = c.turn_part-z in
    of₃ position (rd (record { sfits = x.type_inv }) ∙ x.ensures ∙ of₄ (given s) (dx s) (sc s) (turned (T s).rz (hz s)) (read (T s).ry (hy s)))
    (rd (record { sfits = y.type_inv }) ∙ y.ensures ∙ of₄ (given s) (dy s) (read (T s).rz (hz s)) (sc s) (turned (T s).rx (hx s)))
    (rd (record { sfits = z.type_inv }) ∙ z.ensures ∙ of₄ (given s) (dz s) (turned (T s).ry (hy s)) (read (T s).rx (hx s)) (sc s))
