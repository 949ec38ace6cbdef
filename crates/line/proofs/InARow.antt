-- Several numbers in a row, which the machine has as they were read: what was told of each is told of the record that holds them. Assumes nothing.
use Rattle.std.proofs.Common.{◌≡◌, ℕ, List, ℤ, ◌∙◌, w64, to_z, of_z}
use mathlib.Core.Option.{Option}
use Rattle.line.specs.Fields.{ends, field}
use Rattle.line.specs.Number.{number_of}
use Rattle.line.specs.Reading.{capped_z, Got, Told, Tail}
use Rattle.line.proofs.Walk.{lost, lost-on, more, done}

-- a number as the machine has it
abbrev held : ℤ → ℤ
held z = to_z w64 (of_z w64 z)

-- three, of which `have` makes what the code has, and `make` what the line says
module _ {A C : Type 0} {s : List ℕ} {image : A → C} (have : ℤ → ℤ → ℤ → C) (make : ℤ → ℤ → ℤ → A) (on : (p q r : ℤ) → have (capped_z p) (capped_z q) (capped_z r) ≡ image (make p q r))
    {at a b last : ℕ} {x y z : ℤ} (m : Got s capped_z number_of at x a) (n : Got s capped_z number_of a y b) (o : Got s capped_z number_of b z last)
    (mx : held x ≡ x) (ny : held y ≡ y) (oz : held z ≡ z) where
  pub three : Told s image (field number_of λ p. field number_of λ q. field number_of λ r. ends (make p q r)) at (have (held x) (held y) (held z)) last
  three =
      more m (lost-on n (lost o)) λ p e _.
      more n (lost o) λ q f _.
      more o (λ h. h) λ r g i.
      done (rw (mx ∙ e, ny ∙ f, oz ∙ g) (on p q r)) i

  -- behind fields of which one may be bad
  pub three-tail : Tail s image (field number_of λ p. field number_of λ q. field number_of λ r. ends (make p q r)) at (have (held x) (held y) (held z)) last
  three-tail = record { told = λ _. three; lost = lost-on m (lost-on n (lost o)) }

-- five, behind a letter
module _ {A C : Type 0} {s : List ℕ} {image : A → C} (have : ℤ → ℤ → ℤ → ℤ → ℤ → C) (make : ℤ → ℤ → ℤ → ℤ → ℤ → A)
    (on : (p q r t u : ℤ) → have (capped_z p) (capped_z q) (capped_z r) (capped_z t) (capped_z u) ≡ image (make p q r t u)) where
  pub five-after : {B D : Type 0} {part : B → D} {read : List ℕ → Option B} {from at a b c d last : ℕ} {l : D} {v w x y z : ℤ}
      → Got s part read from l at → Got s capped_z number_of at v a → Got s capped_z number_of a w b → Got s capped_z number_of b x c → Got s capped_z number_of c y d → Got s capped_z number_of d z last
      → held v ≡ v → held w ≡ w → held x ≡ x → held y ≡ y → held z ≡ z
      → Told s image (field read λ _. field number_of λ p. field number_of λ q. field number_of λ r. field number_of λ t. field number_of λ u. ends (make p q r t u)) from (have (held v) (held w) (held x) (held y) (held z)) last
  five-after k m n o i j hv hw hx hy hz =
      let l4 = lost j in
      let l3 = lost-on i l4 in
      let l2 = lost-on o l3 in
      let l1 = lost-on n l2 in
      more k (lost-on m l1) λ _ _ _.
      more m l1 λ p d _.
      more n l2 λ q e _.
      more o l3 λ r f _.
      more i l4 λ t g _.
      more j (λ h. h) λ u h b.
      done (rw (hv ∙ d, hw ∙ e, hx ∙ f, hy ∙ g, hz ∙ h) (on p q r t u)) b
