-- The length by a law: computing it takes too long.
use Rattle.std.proofs.Common.{ℕ, sym}
use lib.ListN.{length-replicate}
use Rattle.streams.proofs.section.section_buffer.Goals as goal

pub returns-clause-value_2 : goal.returns-clause-value_2
returns-clause-value_2 c = sym (length-replicate {A = ℕ} 3145729 0)
