-- The error messages of the program.
-- Pinned by: `tests/all`
use Rattle.std.specs.Prelude.{ℕ, List, codes}
use Rattle.ip_frames.specs.declared.run.RunError.{RunError}
use Rattle.ip_frames.specs.declared.run.RunError.TheVariants.{Read, Write, Memory}

-- the message of an error
abbrev pub error_text : RunError → List ℕ
error_text Read = codes "ip_frames: read failed"
error_text Write = codes "ip_frames: write failed"
error_text Memory = codes "ip_frames: out of memory"
