-- `capi::fragments::first_end` meets its contract. Assumes nothing.
use mathlib.Core.Path.{sym, ◌∙◌, ap}
use mathlib.Core.List.{List}
use Prim.Native.Nat.{ℕ}
use native.Mathlib.Omega.{arith}
use lib.ListN.{length}
use lib.Seq.{length-take-le, take_all}
use Rattle.line.specs.Lines.{line_end}
use Rattle.capi.proofs.fragments.first_end.Goals as goal

pub slice_bounds-line_end-end : goal.slice_bounds-line_end-end
slice_bounds-line_end-end c = sym (length-take-le _ _ (omega arith))

pub returns : goal.returns
returns c =
    let f = c.args.fragment.now in
    c.line_end.ensures ∙ ap (λ (l : List ℕ). line_end l 0) (take_all (length f) f (omega arith))
