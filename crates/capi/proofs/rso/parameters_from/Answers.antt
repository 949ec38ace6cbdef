-- `capi::rso::parameters_from` meets its contract: each number is read where it stands. Assumes nothing.
use Rattle.rounding.proofs.Machine.{told}
use Rattle.capi.specs.Rso.{parameters_from}
use Rattle.capi.proofs.rso.parameters_from.Goals as goal

pub returns : goal.returns
unfolding parameters_from
returns c =
    rw (told c.result-1.given, told c.result-2-1.given, told c.result-3-1.given, told c.result-4-1.given, told c.result-5-1.given, told c.result-6-1.given, told c.result-7-1.given, told c.result-8-1.given)
