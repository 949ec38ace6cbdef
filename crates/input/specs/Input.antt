-- What reading standard input answers, read by read.
use Rattle.std.specs.Prelude.{ℕ, ◌+◌, ◌≡◌, cond, List, [], ◌∷◌, eqb, ltb, Option, Some, None}
use Rattle.std.specs.declared.ops.ControlFlow.{ControlFlow}
use Rattle.std.specs.declared.ops.ControlFlow.TheVariants.{Continue, Break}

-- what follows from one read, of a buffer with that room and so many bytes held: a read that failed fails the whole; at the end of the input what is held
-- is the whole; otherwise the bytes read are held too, and reading goes on until the buffer is full
unfoldable pub after_read : ℕ → ℕ → Option ℕ → ControlFlow (Option ℕ) ℕ
after_read room held None = Break None
after_read room held (Some n) = cond (eqb n 0) (Break (Some held)) (cond (ltb (held + n) room) (Continue (held + n)) (Break (Some room)))

-- what a list of reads' answers gives, if they decide it
abbrev pub decided : ControlFlow (Option ℕ) ℕ → (ℕ → Option (Option ℕ)) → Option (Option ℕ)
decided (Continue held) go = go held
decided (Break answer) go = Some answer

unfoldable pub input_of : ℕ → ℕ → List (Option ℕ) → Option (Option ℕ)
input_of room held [] = None
input_of room held (got ∷ gots) = decided (after_read room held got) (λ (more : ℕ). input_of room more gots)

-- an answer that some read's answer decides, and one that some list of them does
pub record Follows (room held : ℕ) (r : ControlFlow (Option ℕ) ℕ) : Type 0 where
  pub got : Option ℕ
  pub next : r ≡ after_read room held got

pub record Reads (room held : ℕ) (r : Option ℕ) : Type 0 where
  pub answers : List (Option ℕ)
  pub input : input_of room held answers ≡ Some r
