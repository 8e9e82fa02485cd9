-- The length of a rebuilt frame.
use Rattle.std.proofs.Common.{◌≡◌, ◌∙◌, ◌≤◌, ℕ, ℤ, List, length, nat_le, pos, subst, true, arith}
use Rattle.std.proofs.lemmas.Bool.Decides.{nat_tests}
use Rattle.ip_wire.proofs.Settles.{Rebuilds-frame}
use Rattle.ip_wire.specs.Frame.{rebuilt}
use Rattle.c_structs.proofs.Filled.{within-is}
use Rattle.c_write.specs.Failures.{rebuild_failure}
use Rattle.c_write.specs.Frames.{rebuilt_of}
use Rattle.c_structs.specs.Written.{Writes, max_len, within}

-- with room for the frame that is read, the rebuilt one fits
pub fits : (frame read old out : List ℕ) (answer : ℤ) → read ≡ within frame → Writes (rebuilt_of read) (rebuild_failure read) old out answer
    → 14 ≤ length frame → length frame ≤ length old → length old ≤ max_len → answer ≡ pos (length (rebuilt frame))
fits frame read old out answer is written whole room limit =
    let shorter : length (rebuilt frame) ≤ length frame = Rebuilds-frame.no_longer frame in
    let long : nat_le 14 (length frame) ≡ true = grind (arith, nat_tests, whole) in
    let all : read ≡ frame = is ∙ within-is frame (omega (arith, room, limit)) in
    let same : Writes (rebuilt_of frame) (rebuild_failure frame) old out answer = subst (λ f. Writes (rebuilt_of f) (rebuild_failure f) old out answer) all written in
    let bytes = rw long at same in
    (bytes.fits (omega (arith, shorter, room)) limit).0
