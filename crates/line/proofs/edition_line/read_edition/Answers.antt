-- `line::edition_line::read_edition` meets its contract. Assumes nothing.
use Rattle.std.proofs.Common.{◌≡◌, ℤ, Err, refl, ◌∙◌}
use mathlib.Core.Option.{Option, none, some, map}
use Rattle.line.specs.Answers.{Fault}
use Rattle.line.specs.Fields.{said}
use Rattle.line.specs.Forms.{edition_form}
use Rattle.line.specs.Readers.{edition_as, read_edition}
use Rattle.line.specs.Reading.{capped_z, form_as}
use Rattle.line.proofs.Formed as F
use Rattle.line.proofs.GoodForm.{edition-exactly}
use Rattle.line.proofs.edition_line.read_edition.Goals as goal

same : (f : Fault) (o : Option ℤ) → form_as f (map capped_z o) ≡ edition_as (Err f) o
same f none = refl
same f (some year) = refl

pub returns : goal.returns
unfolding read_edition
returns c = let line = c.args.line.now in F.read edition_form capped_z line _ _ (edition-exactly line) c.read_form.ensures ∙ same _ (said edition_form line)
