-- What makes an answer by numbers as good as the answer itself: no two refusals have one number, so what a definition says by numbers leaves one answer of the code.
use Rattle.std.specs.Prelude.{◌≡◌, Result}
use Rattle.refusal.specs.Refusals.{number, told, fault_number}
use Rattle.refusal.specs.declared.Refusal.{Refusal}

pub record RefusalLaws : Type 1 where
  pub numbers : (a b : Refusal) → number a ≡ number b → a ≡ b
  pub answers : {T : Type 0} (r s : Result T Refusal) → told r ≡ told s → r ≡ s
  pub faults : (r s : Result Unit Refusal) → fault_number r ≡ fault_number s → r ≡ s
