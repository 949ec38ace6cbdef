-- `latest::gather::put_row` meets its contract. Assumes nothing.
use borrow.Author.Rules.{rules}
use mathlib.Core.Path.{◌≡◌, refl, ap}
use Prim.Native.Nat.{ℕ}
use lib.ListN.{set}
use mir.Syntax.{w64}
use mir.Val.{to_z, of_z}
use Rattle.latest.proofs.gather.put_row.Goals as goal

pub returns : goal.returns
returns c =
    let a = c.args in
    let e : to_z w64 (of_z w64 a.label.issue) ≡ a.label.issue = search rules in
    (refl, refl, ap (λ (n : ℕ). set a.s.now a.k n) (rw e at c.unsigned_abs.ensures.value), refl)
