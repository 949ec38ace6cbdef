-- Lines and whole texts, from the laws of their crates. Assumes nothing.
use Rattle.line.proofs.AsWritten.{point-text}
use Rattle.line.proofs.WrittenNumbers.{number-back}
use Rattle.line.proofs.Back.{point-back}
use Rattle.line.proofs.Lengths.{length-point, length-projected, length-refusal}
use Rattle.sheet_rules.proofs.Room.{sheet-fits}
use Rattle.plan_rules.proofs.Room.{plan-fits}
use Rattle.theorems.specs.Texts.{Texts}

pub texts : Texts
texts = record {
  number = number-back;
  point = λ y p name named None-found. point-back y p None-found (record { name = name; named = named });
  text = point-text;
  lengths = record { point = length-point; projected = length-projected; refusal = length-refusal };
  sheet = sheet-fits;
  plan = plan-fits;
}
