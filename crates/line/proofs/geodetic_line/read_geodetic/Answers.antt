-- `line::geodetic_line::read_geodetic` meets its contract. Assumes nothing.
use Rattle.std.proofs.Common.{◌≡◌, w64, to_z, of_z, rules}
use Rattle.std.proofs.lemmas.Result.{err_from_is_err_and}
use Rattle.line.specs.Fields.{said}
use Rattle.line.specs.Forms.{geodetic_form}
use Rattle.line.specs.Readers.{geodetic_fault, read_geodetic}
use Rattle.line.specs.Reading.{capped_geodetic}
use Rattle.line.proofs.Faults.{careful-geodetic}
use Rattle.line.proofs.Formed as F
use Rattle.line.proofs.GoodForm.{geodetic-exactly}
use Rattle.line.proofs.geodetic_line.read_geodetic.Goals as goal

pub returns-in_err-g : goal.returns-in_err-g
unfolding read_geodetic
returns-in_err-g c =
    let line = c.args.line.now in
    let p = err_from_is_err_and c.from_residual.result c.from_residual.ensures.1 in
    rw (p.1, p.2) (F.malformed geodetic_fault careful-geodetic _ (said geodetic_form line) _ (F.read geodetic_form capped_geodetic line _ _ (geodetic-exactly line) c.in_err-g.ensures))

pub returns-in_err-angles_fault : goal.returns-in_err-angles_fault
unfolding read_geodetic
returns-in_err-angles_fault c =
    let g = c.in_ok-g.g in
    let a : to_z w64 (of_z w64 g.latitude) ≡ g.latitude = search rules in
    let o : to_z w64 (of_z w64 g.longitude) ≡ g.longitude = search rules in
    let line = c.args.line.now in
    let p = err_from_is_err_and c.from_residual-in_err-angles_fault.result c.from_residual-in_err-angles_fault.ensures.1 in
    rw (p.1, p.2)
    (F.refused geodetic_fault careful-geodetic _ (said geodetic_form line) _ (F.read geodetic_form capped_geodetic line _ _ (geodetic-exactly line) c.in_ok-g.ensures)
    c.in_err-angles_fault.field-0.0 (rw (a, o) at c.in_err-angles_fault.ensures))

pub returns : goal.returns
unfolding read_geodetic
returns c =
    let g = c.in_ok-g.g in
    let a : to_z w64 (of_z w64 g.latitude) ≡ g.latitude = search rules in
    let o : to_z w64 (of_z w64 g.longitude) ≡ g.longitude = search rules in
    let line = c.args.line.now in
    F.good geodetic_fault careful-geodetic _ (said geodetic_form line) _ (F.read geodetic_form capped_geodetic line _ _ (geodetic-exactly line) c.in_ok-g.ensures)
    (rw (a, o) at c.in_ok-angles_fault.ensures)
