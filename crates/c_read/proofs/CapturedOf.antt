-- The struct of captured bytes, by how many there are.
use Rattle.std.proofs.Common.{ℕ, ◌≡◌, ◌∙◌, ◌≤◌, ◌<◌, ◌+◌, ◌-◌, ◌==◌, nat_lt, true, false, List, ap, drop, length, refl, take, arith}
use Rattle.std.proofs.lemmas.Bool.Decides.{nat_tests}
use Rattle.std.proofs.lemmas.Grind.{common_steps}
use Rattle.ip_wire.specs.Ethernet.{header_of}
use Rattle.c_structs.specs.Nothing.{nothing_of}
use Rattle.c_read.specs.Captured.{captured_headers, captured_of, captured_packet_headers, captured_packet_of, cut_frame, cut_header, cut_packet}
use Rattle.c_read.specs.FrameFields.{bare_of, fields_of, frame_headers, packet_fields_of, packet_headers, with_captured}

-- the struct of captured bytes, by its headers
pub captured_of-is : (bytes : List ℕ) (missing : ℕ) → captured_of bytes missing ≡ with_captured (length bytes) (captured_headers bytes missing)
unfolding captured_of
captured_of-is bytes missing = refl

pub captured_packet_of-is : (bytes : List ℕ) (missing : ℕ) → captured_packet_of bytes missing ≡ with_captured (length bytes) (captured_packet_headers bytes missing)
unfolding captured_packet_of
captured_packet_of-is bytes missing = refl

-- nothing is missing
pub captured_of-whole : (bytes : List ℕ) → captured_of bytes 0 ≡ fields_of bytes
unfolding captured_of captured_headers fields_of
captured_of-whole bytes = refl

pub captured_packet_of-whole : (bytes : List ℕ) → captured_packet_of bytes 0 ≡ packet_fields_of bytes
unfolding captured_packet_of captured_packet_headers packet_fields_of
captured_packet_of-whole bytes = refl

pub captured_headers-whole : (bytes : List ℕ) → captured_headers bytes 0 ≡ frame_headers bytes
unfolding captured_headers
captured_headers-whole bytes = refl

pub captured_packet_headers-whole : (bytes : List ℕ) → captured_packet_headers bytes 0 ≡ packet_headers bytes
unfolding captured_packet_headers
captured_packet_headers-whole bytes = refl

-- too few bytes for the first header
pub captured_headers-short : (bytes : List ℕ) (missing : ℕ) → 0 < missing → length bytes < 14 → captured_headers bytes missing ≡ cut_header (nothing_of (length bytes + missing)) 14
unfolding captured_headers
captured_headers-short bytes missing some h =
    let part : (missing == 0) ≡ false = grind (arith, nat_tests) in
    let few : nat_lt (length bytes) 14 ≡ true = grind (arith, nat_tests) in
    rw (part, few) refl

pub captured_packet_headers-short : (bytes : List ℕ) (missing : ℕ) → 0 < missing → length bytes < 1 → captured_packet_headers bytes missing ≡ cut_header (bare_of (length bytes + missing)) 1
unfolding captured_packet_headers
captured_packet_headers-short bytes missing some h =
    let part : (missing == 0) ≡ false = grind (arith, nat_tests) in
    let few : nat_lt (length bytes) 1 ≡ true = grind (arith, nat_tests) in
    rw (part, few) refl

-- the first header was captured
pub captured_headers-long : (bytes : List ℕ) (missing : ℕ) → 0 < missing → 14 ≤ length bytes
    → captured_headers bytes missing ≡ cut_frame (nothing_of (length bytes + missing)) (header_of bytes) (drop 14 bytes)
unfolding captured_headers
captured_headers-long bytes missing some h =
    let part : (missing == 0) ≡ false = grind (arith, nat_tests) in
    let enough : nat_lt (length bytes) 14 ≡ false = grind (arith, nat_tests) in
    rw (part, enough) refl

pub captured_packet_headers-long : (bytes : List ℕ) (missing : ℕ) → 0 < missing → 1 ≤ length bytes
    → captured_packet_headers bytes missing ≡ cut_packet (bare_of (length bytes + missing)) bytes
unfolding captured_packet_headers
captured_packet_headers-long bytes missing some h =
    let part : (missing == 0) ≡ false = grind (arith, nat_tests) in
    let enough : nat_lt (length bytes) 1 ≡ false = grind (arith, nat_tests) in
    rw (part, enough) refl

-- fewer bytes than the frame has are all taken
pub taken : {A : Type 0} (of : List ℕ → ℕ → A) (at : ℕ → A) (bytes : List ℕ) (len : ℕ) → length bytes < len
    → of bytes (len - length bytes) ≡ at (length bytes + (len - length bytes)) → of (take len bytes) (len - length bytes) ≡ at len
taken of at bytes len h is =
    let all : take len bytes ≡ bytes = grind (arith, common_steps) in
    let sum : length bytes + (len - length bytes) ≡ len = omega (arith, h) in
    ap (λ (b : List ℕ). of b (len - length bytes)) all ∙ is ∙ ap at sum
