-- `line::node_line::read_node` meets its contract. Assumes nothing.
use Rattle.std.proofs.Common.{◌≡◌, ℕ, Some, Ok, Err, sym, ap, ◌∙◌, arith}
use Rattle.std.proofs.lemmas.Result.{err_from_is_err_and}
use mathlib.Core.Option.{Option, none, some, map}
use Rattle.line.specs.declared.VelocityParts.{VelocityParts}
use Rattle.line.specs.Answers.{Fault}
use Rattle.line.specs.Fields.{said}
use Rattle.line.specs.Forms.{node_form}
use Rattle.line.specs.Readers.{parts_as, read_node}
use Rattle.line.specs.Reading.{capped_parts, form_as}
use Rattle.line.proofs.Formed as F
use Rattle.line.proofs.GoodForm.{node-exactly}
use Rattle.line.proofs.node_line.read_node.Goals as goal

bad : (g f : Fault) (o : Option VelocityParts) → Err g ≡ form_as f (map capped_parts o) → Err g ≡ parts_as (Err f) o
bad g f none e = let z : g ≡ f = cc in ap Err z
bad g f (some p) e = let z : ◌≡◌ {A = ℕ} 0 1 = cc in absurd (omega arith)

good : (v : VelocityParts) (f : Fault) (o : Option VelocityParts) → Ok v ≡ form_as f (map capped_parts o) → Ok (Some v) ≡ parts_as (Err f) o
good v f none e = let z : ◌≡◌ {A = ℕ} 0 1 = cc in absurd (omega arith)
good v f (some p) e = let z : v ≡ capped_parts p = cc in ap (λ (x : VelocityParts). Ok (Some x)) z

pub returns-then-hyphen_line : goal.returns-then-hyphen_line
unfolding read_node
returns-then-hyphen_line c = rw (sym c.hyphen_line.ensures ∙ c.if-hyphen_line.true)

pub returns-in_err-parts : goal.returns-in_err-parts
unfolding read_node
returns-in_err-parts c =
    let line = c.args.line.now in
    let p = err_from_is_err_and c.from_residual.result c.from_residual.ensures.1 in
    rw (p.1, p.2, sym c.hyphen_line.ensures ∙ c.if-hyphen_line.false) (bad _ _ (said node_form line) (F.read node_form capped_parts line _ _ (node-exactly line) c.in_err-parts.ensures))

pub returns : goal.returns
unfolding read_node
returns c =
    let line = c.args.line.now in
    rw (sym c.hyphen_line.ensures ∙ c.if-hyphen_line.false) (good _ _ (said node_form line) (F.read node_form capped_parts line _ _ (node-exactly line) c.in_ok-parts.ensures))
