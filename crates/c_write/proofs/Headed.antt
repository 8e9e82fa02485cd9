-- A rebuilt frame begins with the Ethernet header that was read.
use Rattle.std.proofs.Common.{ℕ, ◌≡◌, ◌∙◌, ◌≤◌, ◌<◌, ◌+◌, ◌/◌, ◌%◌, ◌++◌, Bool, true, false, List, None, ap, arith, drop, length, length-append, nat_le, refl, slice_index, take}
use Rattle.std.proofs.lemmas.Bool.Decides.{nat_tests}
use Rattle.std.proofs.lemmas.List.{length-take-le}
use Rattle.ip_wire.proofs.Frames.{rebuilt-read}
use Rattle.ip_wire.specs.Ethernet.{bytes_of, header_of, protocol_of}
use Rattle.ip_wire.specs.Field.{field}
use Rattle.ip_wire.specs.Frame.{rebuilt, rebuilt_payload}
use Rattle.wire_ethernet.proofs.EthernetComputed.{ethernet_of-whole}
use Rattle.wire_ethernet.proofs.EthernetNormal.{number_of-protocol_of}
use Rattle.net_base.proofs.Cells.{cells-drop}
use Rattle.net_base.proofs.Spelled.{AreBytes}
use Rattle.c_write.specs.Frames.{rebuilt_of}
use Rattle.c_write.specs.Headers.{only_if}
use Rattle.c_structs.specs.Written.{Fills}

-- the header that was read is emitted unchanged
bytes_of-read : (frame : List ℕ) → AreBytes frame → 14 ≤ length frame → bytes_of (header_of frame) ≡ take 14 frame
bytes_of-read frame h whole =
    let a = h 12 in
    let b = h 13 in
    let high : field frame 96 16 / 256 % 256 ≡ slice_index frame 12 = omega (arith, a, b) in
    let low : field frame 96 16 % 256 ≡ slice_index frame 13 = omega (arith, a, b) in
    rw (number_of-protocol_of (field frame 96 16), high, low) (rw (cells-drop 14 frame whole) refl)

-- the rebuilt frame: its header, and what it carries rebuilt
pub rebuilt-headed : (frame : List ℕ) → AreBytes frame → 14 ≤ length frame
    → rebuilt frame ≡ take 14 frame ++ rebuilt_payload (protocol_of (field frame 96 16)) (drop 14 frame)
rebuilt-headed frame h whole =
    rebuilt-read frame (header_of frame) (ethernet_of-whole frame whole)
    ∙ ap (λ (front : List ℕ). front ++ rebuilt_payload (protocol_of (field frame 96 16)) (drop 14 frame)) (bytes_of-read frame h whole)

pub length-rebuilt : (frame : List ℕ) → AreBytes frame → 14 ≤ length frame
    → length (rebuilt frame) ≡ 14 + length (rebuilt_payload (protocol_of (field frame 96 16)) (drop 14 frame))
length-rebuilt frame h whole =
    let front = length-take-le 14 frame whole in
    ap length (rebuilt-headed frame h whole) ∙ simp (length-append, front) refl

-- the slice stays: there is no rebuilt frame, or it does not fit
stays : (b : Bool) (frame old new : List ℕ) → (b ≡ true → length old < length (rebuilt frame)) → new ≡ old
    → Fills (only_if b (rebuilt frame)) old new None
stays true frame old new small same = (small refl, same)
stays false frame old new small same = (refl, same)

pub fills-none : (frame old new : List ℕ) → (14 ≤ length frame → length old < length (rebuilt frame)) → new ≡ old → Fills (rebuilt_of frame) old new None
fills-none frame old new small same =
    stays (nat_le 14 (length frame)) frame old new (λ whole. small (grind (arith, nat_tests, whole))) same
