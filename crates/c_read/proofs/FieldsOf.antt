-- The struct of a frame, by whether the frame holds an Ethernet header, and of a packet, by whether it has a version.
use Rattle.std.proofs.Common.{ℕ, ◌≡◌, ◌≤◌, ◌<◌, ◌+◌, ◌-◌, nat_le, nat_lt, min, true, false, List, ap, drop, length, refl, sym, arith}
use Rattle.std.proofs.Math.Nat.{min-eq_left}
use Rattle.std.proofs.lemmas.Bool.Decides.{nat_tests}
use Rattle.ip_wire.specs.Ethernet.{ethernet_of, header_of}
use Rattle.c_structs.specs.Nothing.{nothing_of}
use Rattle.c_structs.specs.declared.types.FrameFields.{FrameFields}
use Rattle.c_read.specs.FrameFields.{bare_of, fields_of, frame_headers, packet_fields_of, packet_headers, with_captured, with_frame, with_packet}

-- the struct of a frame or packet, by its headers
pub fields_of-is : (frame : List ℕ) → fields_of frame ≡ with_captured (length frame) (frame_headers frame)
unfolding fields_of
fields_of-is frame = refl

pub packet_fields_of-is : (bytes : List ℕ) → packet_fields_of bytes ≡ with_captured (length bytes) (packet_headers bytes)
unfolding packet_fields_of
packet_fields_of-is bytes = refl

-- all bytes of a payload that ends within the first n bytes are among them
pub all-captured : (n : ℕ) (f : FrameFields) → f.payload_offset + f.payload_len ≤ n → record f { payload_captured = f.payload_len } ≡ with_captured n f
all-captured n f h =
    let is : min f.payload_len (n - f.payload_offset) ≡ f.payload_len = min-eq_left (omega (arith, h)) in
    ap (λ (k : ℕ). record f { payload_captured = k }) (sym is)

-- the struct of a frame of fewer than 14 bytes
pub frame_headers-short : (frame : List ℕ) → length frame < 14 → frame_headers frame ≡ nothing_of (length frame)
unfolding frame_headers ethernet_of
frame_headers-short frame h =
    let few : nat_le 14 (length frame) ≡ false = grind (arith, nat_tests) in
    rw few refl

-- the struct of a longer frame, which has an Ethernet header
pub frame_headers-long : (frame : List ℕ) → 14 ≤ length frame → frame_headers frame ≡ with_frame (nothing_of (length frame)) (header_of frame) (drop 14 frame)
unfolding frame_headers ethernet_of
frame_headers-long frame h =
    let enough : nat_le 14 (length frame) ≡ true = grind (arith, nat_tests) in
    rw enough refl

-- the struct of a packet of no byte
pub packet_headers-none : (bytes : List ℕ) → length bytes < 1 → packet_headers bytes ≡ nothing_of (length bytes)
unfolding packet_headers
packet_headers-none bytes h =
    let few : nat_lt (length bytes) 1 ≡ true = grind (arith, nat_tests) in
    rw few refl

-- the struct of a packet that has a version
pub packet_headers-some : (bytes : List ℕ) → 1 ≤ length bytes → packet_headers bytes ≡ with_packet (bare_of (length bytes)) bytes
unfolding packet_headers
packet_headers-some bytes h =
    let enough : nat_lt (length bytes) 1 ≡ false = grind (arith, nat_tests) in
    rw enough refl
