-- `capi::conversion::point_from` meets its contract: each number is read where it stands. Assumes nothing.
use Rattle.capi.specs.Chains.{point_from}
use Rattle.rounding.proofs.Machine.{told}
use Rattle.capi.proofs.conversion.point_from.Goals as goal

pub returns : goal.returns
unfolding point_from
returns c =
    let c2 = c.before.before in
    let c3 = c2.before in
    let c4 = c3.before in
    let c5 = c4 in
    rw (told c5.result-1.given, told c5.result-2-1.given, told c4.result-3-1.given, told c3.result-4-1.given, told c2.result-5-1.given, told c.result-6-1.given, told c.result-7-1.given)
