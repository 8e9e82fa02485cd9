-- The fields of a frame with a TCP header.
use Rattle.std.proofs.Common.{ℕ, ◌≡◌, nat_le, if◌then◌else◌, Bool, true, false, List, [], arith, length, refl}
use Rattle.ip_wire.specs.Ethernet.{ethernet_of}
use Rattle.c_read.specs.FrameFields.{fields_of, frame_headers}
use Rattle.c_structs.specs.Written.{max_len, within}
use Rattle.c_structs.specs.declared.types.FrameFields.{FrameFields}

none-in : (fields_of []).transport ≡ 0
unfolding fields_of frame_headers ethernet_of
none-in = refl

used : (b : Bool) (bytes : List ℕ) → (fields_of (if b then bytes else [])).transport ≡ 2 → (if b then bytes else []) ≡ bytes
used true bytes tcp = refl
used false bytes tcp = absurd (omega (arith, tcp, none-in))

-- a frame that is too long has no TCP header
pub used-whole : (bytes : List ℕ) (f : FrameFields) → f ≡ fields_of (within bytes) → f.transport ≡ 2 → within bytes ≡ bytes
unfolding within
used-whole bytes f is tcp = used (nat_le (length bytes) max_len) bytes (rw is at tcp)
