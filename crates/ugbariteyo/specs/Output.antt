-- What a writer answers as one struct: the refusal, and the number of bytes written beside it.
use Rattle.rules.specs.Refusal.{bytes}
use Rattle.octets.specs.declared.count.Bytes.{Bytes}
use Rattle.rules.specs.declared.refusal.Refusal.{Refusal}
use Rattle.std.specs.Prelude.{Err, Ok, Result}
use Rattle.ugbariteyo.specs.Zero.{no_refusal}
use Rattle.ugbariteyo.specs.declared.output.UgbOutput.{UgbOutput}

unfoldable pub output_answer : Result Bytes Refusal → UgbOutput
output_answer (Ok n) = record { refusal = no_refusal; length = n }
output_answer (Err r) = record { refusal = r; length = bytes 0 }
