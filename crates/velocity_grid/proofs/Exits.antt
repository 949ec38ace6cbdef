-- What the exit of a `?` answers about a grid's text: the fault that the call ended with. Assumes nothing.
use mathlib.Core.Path.{◌≡◌, ap}
use Rattle.std.specs.Prelude.{Result, Ok, Err, IsErrAnd}
use Rattle.velocity_grid.specs.Answers.{GridFault, fault_told, examined, grid_told}
use Rattle.velocity_grid.specs.declared.GridFault as declared

pub examined-is : (r : Result Unit declared.GridFault) (f : declared.GridFault) → IsErrAnd r (λ (d : declared.GridFault). d ≡ f) → examined r ≡ fault_told f
examined-is (Ok x) f h = absurd h
examined-is (Err d) f h = ap fault_told h

pub grid-is : {T : Type 0} (r : Result T declared.GridFault) (f : declared.GridFault) → IsErrAnd r (λ (d : declared.GridFault). d ≡ f) → grid_told r ≡ Err (fault_told f)
grid-is (Ok x) f h = absurd h
grid-is (Err d) f h = ap (λ (g : declared.GridFault). Err (fault_told g)) h
