-- `lot_plan::chain_text::lot::lot_of` meets its contract: each part's answer, or its refusal. Assumes nothing.
use borrow.Author.Rules.{rules}
use mathlib.Core.Path.{◌≡◌, sym, ap, ◌∙◌}
use mir.Syntax.{w64}
use mir.Val.{to_z, of_z}
use Prim.Native.Nat.{ℕ}
use Rattle.std.proofs.Common.{Result}
use Rattle.refusal.specs.Refusals.{told}
use Rattle.chain.specs.declared.Point.{Point}
use Rattle.chain.proofs.Keeping.{holds-fresh}
use Rattle.lot_plan.specs.LotPlan.{chain_text, on_answer, laid_from}
use Rattle.lot_plan.proofs.Laws.{handed-on}
use Rattle.lot_plan.proofs.Lots.{no-chain, no-point, along}
use Rattle.lot_plan.proofs.Text.{found, missed}
use Rattle.lot_plan.proofs.chain_text.lot.lot_of.Goals as goal

pub read_chain-requires : goal.read_chain-requires
read_chain-requires c = holds-fresh

pub returns-in_err-profile : goal.returns-in_err-profile
returns-in_err-profile c =
    handed-on _ _ c.from_residual.ensures.1
    ∙ sym (no-chain _ _ _ _ (missed (chain_text c.args.chain.now) _ _ _ c.read_chain.ensures (ap told c.in_err-profile.was)))

pub returns-in_err-given : goal.returns-in_err-given
returns-in_err-given c =
    let y : to_z w64 (of_z w64 c.in_ok-profile.profile) ≡ c.in_ok-profile.profile = search rules in
    let f = found (chain_text c.args.chain.now) _ _ c.in_ok-profile.profile c.read_chain.ensures (ap told c.in_ok-profile.was) in
    let r = rw y at c.read_point.ensures in
    handed-on _ _ c.from_residual-in_err-given.ensures.1 ∙ sym (no-point _ _ _ _ _ f _ (sym (ap told c.in_err-given.was) ∙ r))

pub returns-in_err-converted : goal.returns-in_err-converted
returns-in_err-converted c =
    let y : to_z w64 (of_z w64 c.in_ok-profile.profile) ≡ c.in_ok-profile.profile = search rules in
    let f = found (chain_text c.args.chain.now) _ _ c.in_ok-profile.profile c.read_chain.ensures (ap told c.in_ok-profile.was) in
    let r = rw y at c.read_point.ensures in
    let a = along c.args.chain.now c.args.point.now c.args.o _ _ f c.in_ok-given.given (sym (ap told c.in_ok-given.was) ∙ r) in
    handed-on _ _ c.from_residual-in_err-converted.ensures.1
    ∙ sym (a ∙ ap (λ (x : Result Point ℕ). on_answer x (laid_from c.args.o)) (sym c.forward_prepared.ensures ∙ ap told c.in_err-converted.was))

pub returns-in_err-angles : goal.returns-in_err-angles
returns-in_err-angles c =
    let y : to_z w64 (of_z w64 c.in_ok-profile.profile) ≡ c.in_ok-profile.profile = search rules in
    let f = found (chain_text c.args.chain.now) _ _ c.in_ok-profile.profile c.read_chain.ensures (ap told c.in_ok-profile.was) in
    let r = rw y at c.read_point.ensures in
    let a = along c.args.chain.now c.args.point.now c.args.o _ _ f c.in_ok-given.given (sym (ap told c.in_ok-given.was) ∙ r) in
    let F = sym c.forward_prepared.ensures ∙ ap told c.in_ok-converted.was in
    let e : to_z w64 (of_z w64 c.args.o.ellipsoid) ≡ c.args.o.ellipsoid = search rules in
    let u : to_z w64 (of_z w64 c.in_ok-converted.converted.position.x) ≡ c.in_ok-converted.converted.position.x = search rules in
    let v : to_z w64 (of_z w64 c.in_ok-converted.converted.position.y) ≡ c.in_ok-converted.converted.position.y = search rules in
    let w : to_z w64 (of_z w64 c.in_ok-converted.converted.position.z) ≡ c.in_ok-converted.converted.position.z = search rules in
    let g = rw (e, u, v, w) at c.geodetic_units.ensures in
    handed-on _ _ c.from_residual-in_err-angles.ensures.1 ∙ sym (a ∙ rw (F, sym g ∙ ap told c.in_err-angles.was))

pub returns-in_err-plane : goal.returns-in_err-plane
returns-in_err-plane c =
    let y : to_z w64 (of_z w64 c.in_ok-profile.profile) ≡ c.in_ok-profile.profile = search rules in
    let f = found (chain_text c.args.chain.now) _ _ c.in_ok-profile.profile c.read_chain.ensures (ap told c.in_ok-profile.was) in
    let r = rw y at c.read_point.ensures in
    let a = along c.args.chain.now c.args.point.now c.args.o _ _ f c.in_ok-given.given (sym (ap told c.in_ok-given.was) ∙ r) in
    let F = sym c.forward_prepared.ensures ∙ ap told c.in_ok-converted.was in
    let e : to_z w64 (of_z w64 c.args.o.ellipsoid) ≡ c.args.o.ellipsoid = search rules in
    let u : to_z w64 (of_z w64 c.in_ok-converted.converted.position.x) ≡ c.in_ok-converted.converted.position.x = search rules in
    let v : to_z w64 (of_z w64 c.in_ok-converted.converted.position.y) ≡ c.in_ok-converted.converted.position.y = search rules in
    let w : to_z w64 (of_z w64 c.in_ok-converted.converted.position.z) ≡ c.in_ok-converted.converted.position.z = search rules in
    let g = rw (e, u, v, w) at c.geodetic_units.ensures in
    let G = sym g ∙ ap told c.in_ok-angles.was in
    let lat : to_z w64 (of_z w64 c.in_ok-angles.angles.latitude) ≡ c.in_ok-angles.angles.latitude = search rules in
    let lon : to_z w64 (of_z w64 c.in_ok-angles.angles.longitude) ≡ c.in_ok-angles.angles.longitude = search rules in
    let k = rw (lat, lon) at c.cassini_millimetres.ensures in
    handed-on _ _ c.from_residual-in_err-plane.ensures.1 ∙ sym (a ∙ rw (F, G, sym k ∙ ap told c.in_err-plane.was))

pub returns : goal.returns
returns c =
    let y : to_z w64 (of_z w64 c.in_ok-profile.profile) ≡ c.in_ok-profile.profile = search rules in
    let f = found (chain_text c.args.chain.now) _ _ c.in_ok-profile.profile c.read_chain.ensures (ap told c.in_ok-profile.was) in
    let r = rw y at c.read_point.ensures in
    let a = along c.args.chain.now c.args.point.now c.args.o _ _ f c.in_ok-given.given (sym (ap told c.in_ok-given.was) ∙ r) in
    let F = sym c.forward_prepared.ensures ∙ ap told c.in_ok-converted.was in
    let e : to_z w64 (of_z w64 c.args.o.ellipsoid) ≡ c.args.o.ellipsoid = search rules in
    let u : to_z w64 (of_z w64 c.in_ok-converted.converted.position.x) ≡ c.in_ok-converted.converted.position.x = search rules in
    let v : to_z w64 (of_z w64 c.in_ok-converted.converted.position.y) ≡ c.in_ok-converted.converted.position.y = search rules in
    let w : to_z w64 (of_z w64 c.in_ok-converted.converted.position.z) ≡ c.in_ok-converted.converted.position.z = search rules in
    let g = rw (e, u, v, w) at c.geodetic_units.ensures in
    let G = sym g ∙ ap told c.in_ok-angles.was in
    let lat : to_z w64 (of_z w64 c.in_ok-angles.angles.latitude) ≡ c.in_ok-angles.angles.latitude = search rules in
    let lon : to_z w64 (of_z w64 c.in_ok-angles.angles.longitude) ≡ c.in_ok-angles.angles.longitude = search rules in
    let k = rw (lat, lon) at c.cassini_millimetres.ensures in
    let m : to_z w64 (of_z w64 c.in_ok-plane.plane.easting) ≡ c.in_ok-plane.plane.easting = search rules in
    let n : to_z w64 (of_z w64 c.in_ok-plane.plane.northing) ≡ c.in_ok-plane.plane.northing = search rules in
    rw (m, n) (sym (a ∙ rw (F, G, sym k ∙ ap told c.in_ok-plane.was)))
