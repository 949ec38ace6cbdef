-- `line::name::is_name_byte` meets its contract. Assumes nothing.
use Rattle.line.proofs.NameBytes as B
use Rattle.line.proofs.name.is_name_byte.Goals as goal

pub returns-then-b-lt45 : goal.returns-then-b-lt45
returns-then-b-lt45 c = B.below _ c.if-b-lt45.true

pub returns-then-b-gt90 : goal.returns-then-b-gt90
returns-then-b-gt90 c = B.above _ c.if-b-gt90.true

pub returns : goal.returns
returns c = B.by_bit _ c.if-b-lt45.false c.if-b-gt90.false
