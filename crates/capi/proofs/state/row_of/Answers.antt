-- `capi::state::row_of` meets its contract. Assumes nothing.
use mathlib.Core.Path.{◌≡◌, ◌∙◌}
use mir.Syntax.{w64}
use mir.Val.{to_z, of_z}
use Rattle.rounding.proofs.Machine.{told}
use Rattle.capi.proofs.Streams.{shift-row, velocity-row, bursa-wolf-row, frame_row}
use borrow.Author.Rules.{rules}
use Rattle.capi.proofs.state.row_of.Tie as tie
use Rattle.capi.proofs.state.row_of.Lts as lts
use Rattle.capi.proofs.state.row_of.Reads as reads
use Rattle.capi.proofs.state.row_of.Goals as goal

abbrev TheAfterStructTold : Type 0
TheAfterStructTold = lts.After-struct_told tie.the-claims reads.Pre reads.Post

abbrev TheAfterStructTold2 : Type 0
TheAfterStructTold2 = lts.After-struct_told2 tie.the-claims reads.Pre reads.Post

abbrev TheAfterStructTold3 : Type 0
TheAfterStructTold3 = lts.After-struct_told3 tie.the-claims reads.Pre reads.Post

abbrev TheAfterStructTold4 : Type 0
TheAfterStructTold4 = lts.After-struct_told4 tie.the-claims reads.Pre reads.Post

-- the ends of the step, as they were read
datum-before : (c : TheAfterStructTold) → to_z w64 (of_z w64 c.args.step.before.datum) ≡ c.args.step.before.datum
datum-before c = search rules

epoch-before : (c : TheAfterStructTold2) → to_z w64 (of_z w64 c.args.step.before.epoch) ≡ c.args.step.before.epoch
epoch-before c = search rules

datum-after : (c : TheAfterStructTold3) → to_z w64 (of_z w64 c.args.step.after.datum) ≡ c.args.step.after.datum
datum-after c = search rules

epoch-after : (c : TheAfterStructTold4) → to_z w64 (of_z w64 c.args.step.after.epoch) ≡ c.args.step.after.epoch
epoch-after c = search rules

pub returns-in-Shift : goal.returns-in-Shift
returns-in-Shift c =
    shift-row c.args.step (search rules) (search rules) (search rules) (search rules) c.in-Shift.is (search rules) (search rules) (search rules)

pub returns-in-Velocity : goal.returns-in-Velocity
returns-in-Velocity c =
    velocity-row c.args.step (search rules) (search rules) (search rules) (search rules) c.in-Velocity.is (search rules) (search rules) (search rules)

pub returns-in-BursaWolf : goal.returns-in-BursaWolf
returns-in-BursaWolf c =
    let t = c.struct_told-in-BursaWolf-1.given in
    bursa-wolf-row c.args.step (datum-before c.before.before.before.before.before.before) (epoch-before c.before.before.before.before.before)
    (datum-after c.before.before.before.before) (epoch-after c.before.before.before) c.in-BursaWolf.is
    (told c.convention_number-convention.type_inv ∙ c.convention_number-convention.ensures)
    (told t.1.0.1) (told t.1.1.0.1) (told t.1.1.1.0.1) (told t.1.1.1.1.0.1) (told t.1.1.1.1.1.0.1) (told t.1.1.1.1.1.1.0.1) (told t.1.1.1.1.1.1.1.0.1)

pub returns-in-Frame : goal.returns-in-Frame
returns-in-Frame c = frame_row c.args.step (search rules) (search rules) (search rules) (search rules) c.in-Frame.is
