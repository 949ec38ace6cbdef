-- `line::grid_line::read_grid_header` meets its contract. Assumes nothing.
use Rattle.std.proofs.Common.{◌≡◌, Err, refl, ◌∙◌}
use mathlib.Core.Option.{Option, none, some, map}
use Rattle.line.specs.declared.GridHeader.{GridHeader}
use Rattle.line.specs.Answers.{Fault}
use Rattle.line.specs.Fields.{said}
use Rattle.line.specs.Forms.{grid_form}
use Rattle.line.specs.Readers.{grid_as, read_grid_header}
use Rattle.line.specs.Reading.{capped_header, form_as}
use Rattle.line.proofs.Formed as F
use Rattle.line.proofs.GoodForm.{grid-exactly}
use Rattle.line.proofs.grid_line.read_grid_header.Goals as goal

same : (f : Fault) (o : Option GridHeader) → form_as f (map capped_header o) ≡ grid_as (Err f) o
same f none = refl
same f (some header) = refl

pub returns : goal.returns
unfolding read_grid_header
returns c = let line = c.args.line.now in F.read grid_form capped_header line _ _ (grid-exactly line) c.read_form.ensures ∙ same _ (said grid_form line)
