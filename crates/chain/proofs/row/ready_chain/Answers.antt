-- `chain::row::ready_chain` meets its contract: the chain's fault, and with none its steps. Assumes nothing.
use borrow.Author.Rules.{rules}
use Rattle.chain.proofs.Readying.{ready-made}
use Rattle.chain.proofs.row.ready_chain.Goals as goal

pub returns : goal.returns
returns c = ready-made c.args.chain (search rules) (search rules) (search rules)
