use Rattle.std.proofs.Common.{ℕ, ◌∙◌, ◌≤◌, ◌<◌, ◌-◌, ap, arith, drop, length, sym}
use Rattle.ip_wire.specs.Ethernet.{frame_bytes, header_of}
use Rattle.c_structs.specs.Nothing.{nothing_of}
use Rattle.c_read.proofs.CapturedOf.{captured_headers-long, captured_headers-short, taken}
use Rattle.c_read.specs.Captured.{captured_headers, cut_frame, cut_header}
use Rattle.c_read.proofs.captured.store_captured_headers.Goals as goal

pub returns-then-captured-lt-ETHERNET_HEADER_LEN-clause-value : goal.returns-then-captured-lt-ETHERNET_HEADER_LEN-clause-value
returns-then-captured-lt-ETHERNET_HEADER_LEN-clause-value c =
    let bytes = c.args.captured.now in
    let len = c.args.len in
    let part : length bytes < len = c.requires.part in
    let few : length bytes < 14 = omega (arith, c.if-captured-lt-ETHERNET_HEADER_LEN.true) in
    c.reject_cut.ensures ∙ ap (λ f. cut_header f 14) c.nothing.ensures
    ∙ sym (taken captured_headers (λ (n : ℕ). cut_header (nothing_of n) 14) bytes len part (captured_headers-short bytes (len - length bytes) (omega (arith, part)) few))

pub returns-else-captured-lt-ETHERNET_HEADER_LEN-clause-value : goal.returns-else-captured-lt-ETHERNET_HEADER_LEN-clause-value
returns-else-captured-lt-ETHERNET_HEADER_LEN-clause-value c =
    let bytes = c.args.captured.now in
    let len = c.args.len in
    let part : length bytes < len = c.requires.part in
    let long : 14 ≤ length bytes = omega (arith, c.if-captured-lt-ETHERNET_HEADER_LEN.false) in
    let seen = frame_bytes c.new_unchecked.result in
    c.store_cut_frame.ensures.value ∙ ap (λ f. cut_frame f (header_of seen) (drop 14 seen)) c.nothing.ensures
    ∙ ap (λ slice. cut_frame (nothing_of len) (header_of slice.now) (drop 14 slice.now)) c.new_unchecked.ensures
    ∙ sym (taken captured_headers (λ (n : ℕ). cut_frame (nothing_of n) (header_of bytes) (drop 14 bytes)) bytes len part (captured_headers-long bytes (len - length bytes) (omega (arith, part)) long))
