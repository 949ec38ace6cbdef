-- The line of a lot plan, byte for byte.
use Rattle.std.specs.Prelude.{ℕ, List, [], ◌∷◌, ℤ}
use Rattle.chain.specs.declared.Label.{Label}
use Rattle.line.specs.Bytes.{letter_c}
use Rattle.line.specs.Text.{integer, name_text, line_text}

-- C, id, issue, order, E, N
unfoldable pub lot_text : Label → ℤ → ℤ → List ℕ
lot_text l e n = line_text ((letter_c ∷ []) ∷ name_text l.id ∷ integer l.issue ∷ integer l.order ∷ integer e ∷ integer n ∷ [])
