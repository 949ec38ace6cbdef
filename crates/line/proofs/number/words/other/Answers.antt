-- `line::number::words::other` meets its contract. Assumes nothing.
use Rattle.std.proofs.Common.{ℕ, sym, ap, ◌∙◌, eqb-true}
use lib.Bits.{bit_and}
use borrow.Author.Tests.{not-false}
use Rattle.line.proofs.Words as W
use Rattle.line.proofs.number.words.other.Goals as goal

pub returns : goal.returns
returns c =
    λ e. (
    let g = c.args in
    let n = W.none-set (bit_and g.d g.mask) (bit_and c.wrapping_add_u64.result g.mask) (eqb-true _ _ (not-false _ e)) in
    record { plain = n.0; raised = ap (λ (r : ℕ). bit_and r g.mask) (sym c.wrapping_add_u64.ensures.value) ∙ n.1 })
