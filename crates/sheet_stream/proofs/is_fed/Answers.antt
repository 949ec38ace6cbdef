-- `sheet_stream::is_fed` meets its contract. Assumes nothing.
use Rattle.sheet_stream.proofs.Scanning.{fed-none, fed-past, fed-last}
use Rattle.sheet_stream.proofs.is_fed.Goals as goal

pub returns-then-end-eq0 : goal.returns-then-end-eq0
returns-then-end-eq0 c = fed-none _ _ c.if-end-eq0.true

pub returns-then-bytes-end : goal.returns-then-bytes-end
returns-then-bytes-end c = fed-past _ _ c.if-bytes-end.true

pub returns : goal.returns
returns c = fed-last _ _ c.if-end-eq0.false
