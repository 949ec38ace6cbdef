-- `chain::steps::convert::join::join_fault` meets its contract: the first chain decides, then the second, then the two together. Assumes nothing.
use Rattle.std.proofs.Common.{sym, ◌∙◌}
use Rattle.std.proofs.lemmas.Result.{err_from_is_err_and}
use Rattle.refusal.proofs.Refusals.{not-none}
use Rattle.chain.proofs.Accepted.{chain-passed}
use Rattle.chain.proofs.Joins.{by_first, by-second, by-pair}
use Rattle.chain.proofs.steps.convert.join.join_fault.Goals as goal

pub returns-in_err-chain_fault : goal.returns-in_err-chain_fault
returns-in_err-chain_fault c =
    let s = c.args in
    let p = err_from_is_err_and c.from_residual.result c.from_residual.ensures.1 in
    let f = c.in_err-chain_fault.ensures in
    rw (p.1, p.2) (f ∙ by_first s.first s.second (λ e. not-none _ (f ∙ e)))

pub returns-in_err-chain_fault-2 : goal.returns-in_err-chain_fault-2
returns-in_err-chain_fault-2 c =
    let s = c.args in
    let p = err_from_is_err_and c.from_residual-in_err-chain_fault-2.result c.from_residual-in_err-chain_fault-2.ensures.1 in
    let f = c.in_err-chain_fault-2.ensures in
    rw (p.1, p.2) (f ∙ by-second s.first s.second (sym c.in_ok-chain_fault.ensures) (λ e. not-none _ (f ∙ e)))

pub pair_fault-requires : goal.pair_fault-requires
pair_fault-requires c =
    let s = c.args in
    ((chain-passed s.first (sym c.in_ok-chain_fault.ensures)).0, (chain-passed s.second (sym c.in_ok-chain_fault-2.ensures)).0)

pub returns : goal.returns
returns c =
    let s = c.args in
    c.pair_fault.ensures ∙ by-pair s.first s.second (sym c.in_ok-chain_fault.ensures) (sym c.in_ok-chain_fault-2.ensures)
