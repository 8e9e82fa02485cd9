-- An Ethernet frame without VLAN tags, read by its link type.
use Rattle.std.proofs.Common.{ℕ, ◌≡◌, ◌∙◌, ◌≤◌, ◌<◌, ◌+◌, ◌-◌, nat_lt, if◌then◌else◌, Bool, true, false, List, Ok, Err, inl, inr, ap, drop, length, refl, slice_range, sym, arith}
use Rattle.std.proofs.lemmas.Bool.{cases_lt}
use Rattle.ip_wire.specs.Ethernet.{header_of, protocol_of}
use Rattle.ip_wire.specs.Field.{field}
use Rattle.wire_ethernet.proofs.EthernetNormal.{number_of-protocol_of}
use Rattle.wire_link.specs.Link.{and_then, is_tag, link_of, untagged, with_tag}
use Rattle.wire_link.specs.declared.link.LinkFault.TheVariants as fault
use Rattle.wire_link.specs.declared.link_type.LinkType.TheVariants as kind
use Rattle.c_structs.specs.Nothing.{nothing_of}
use Rattle.c_structs.specs.declared.codes.Reason.TheVariants as reason
use Rattle.c_structs.specs.declared.types.FrameFields.{FrameFields}
use Rattle.c_read.proofs.CapturedOf.{captured_headers-long, captured_headers-short}
use Rattle.c_read.proofs.CutBytes.{lt-false, lt-true}
use Rattle.c_read.proofs.CutIpv4.{dropped}
use Rattle.c_read.proofs.FieldsOf.{frame_headers-long, frame_headers-short}
use Rattle.c_read.specs.Captured.{captured_headers, captured_of, cut_carried, cut_header}
use Rattle.c_read.specs.FrameFields.{after_header, fields_of, frame_headers, rejected, with_captured, with_carried, with_link}
use Rattle.c_read.specs.Links.{carried_by, linked_after, linked_by, linked_headers, linked_of, with_linked}

-- link type 1 is Ethernet
linked_headers-ethernet : (bytes : List ℕ) (len : ℕ) → linked_headers 1 bytes len ≡ linked_by (nothing_of len) bytes kind.Ethernet
unfolding linked_headers
linked_headers-ethernet bytes len = refl

-- too few bytes for the header
linked-short : (f : FrameFields) (bytes : List ℕ) → length bytes < 14 → linked_by f bytes kind.Ethernet ≡ cut_header f 14
linked-short f bytes few =
    let none : link_of kind.Ethernet bytes ≡ Err (fault.TooShort 14) = rw (lt-true (length bytes) 14 few) refl in
    ap (linked_after f bytes kind.Ethernet) none

-- the struct after the header
abbrev headed : List ℕ → ℕ → FrameFields
headed bytes len = with_link (nothing_of len) (header_of bytes) (len - 14)

-- the header is that of Ethernet
linked-header : (bytes : List ℕ) (len : ℕ) → with_linked (nothing_of len) kind.Ethernet (untagged 14 (field bytes 96 16)) bytes ≡ headed bytes len
linked-header bytes len =
    ap (λ (n : ℕ). record (after_header (nothing_of len) 14 (len - 14)) {
      ethernet = record { src = slice_range bytes 6 12; dst = slice_range bytes 0 6; ethertype = n };
      reason = 0;
    }) (sym (number_of-protocol_of (field bytes 96 16)))

-- the header has no tag after it
link-untagged : (bytes : List ℕ) → 14 ≤ length bytes → is_tag (field bytes 96 16) ≡ false → link_of kind.Ethernet bytes ≡ Ok (untagged 14 (field bytes 96 16))
link-untagged bytes h none =
    let l = untagged 14 (field bytes 96 16) in
    let plain : with_tag bytes l ≡ Ok l = rw none refl in
    ap (λ (b : Bool). if b then Err (fault.TooShort 14) else and_then (with_tag bytes) (with_tag bytes l)) (lt-false (length bytes) 14 h)
    ∙ ap (and_then (with_tag bytes)) plain ∙ plain

linked-long : (bytes : List ℕ) (len : ℕ) → 14 ≤ length bytes → is_tag (field bytes 96 16) ≡ false
    → linked_by (nothing_of len) bytes kind.Ethernet ≡ carried_by (headed bytes len) (protocol_of (field bytes 96 16)) (drop 14 bytes)
linked-long bytes len h none =
    ap (linked_after (nothing_of len) bytes kind.Ethernet) (link-untagged bytes h none)
    ∙ ap (λ (f : FrameFields). carried_by f (protocol_of (field bytes 96 16)) (drop 14 bytes)) (linked-header bytes len)

captured-headers : (bytes : List ℕ) (missing : ℕ) → 0 < missing → is_tag (field bytes 96 16) ≡ false → linked_headers 1 bytes (length bytes + missing) ≡ captured_headers bytes missing
captured-headers bytes missing some none =
    let len = length bytes + missing in
    elim (cases_lt (length bytes) 14) [
      | inl few ↦ linked_headers-ethernet bytes len ∙ linked-short (nothing_of len) bytes few ∙ sym (captured_headers-short bytes missing some few)
      | inr h ↦
          let type = protocol_of (field bytes 96 16) in
          let size : length (drop 14 bytes) ≡ length bytes - 14 = dropped 14 bytes in
          let part : nat_lt (length (drop 14 bytes)) (len - 14) ≡ true = lt-true _ _ (omega (arith, size, h, some)) in
          linked_headers-ethernet bytes len ∙ linked-long bytes len h none
          ∙ ap (λ (b : Bool). if b then cut_carried (headed bytes len) type (drop 14 bytes) else with_carried (headed bytes len) type (drop 14 bytes)) part
          ∙ sym (captured_headers-long bytes missing some h)
    ]

whole-headers : (bytes : List ℕ) → is_tag (field bytes 96 16) ≡ false → linked_headers 1 bytes (length bytes) ≡ frame_headers bytes
whole-headers bytes none =
    let len = length bytes in
    elim (cases_lt len 14) [
      | inl few ↦
          linked_headers-ethernet bytes len ∙ linked-short (nothing_of len) bytes few
          ∙ ap (λ (b : Bool). rejected (nothing_of len) (if b then reason.TooShort else reason.HeaderCut)) (lt-true len 14 few)
          ∙ sym (frame_headers-short bytes few)
      | inr h ↦
          let type = protocol_of (field bytes 96 16) in
          let size : length (drop 14 bytes) ≡ len - 14 = dropped 14 bytes in
          let whole : nat_lt (length (drop 14 bytes)) (len - 14) ≡ false = lt-false _ _ (omega (arith, size)) in
          linked_headers-ethernet bytes len ∙ linked-long bytes len h none
          ∙ ap (λ (b : Bool). if b then cut_carried (headed bytes len) type (drop 14 bytes) else with_carried (headed bytes len) type (drop 14 bytes)) whole
          ∙ ap (λ (n : ℕ). with_carried (with_link (nothing_of len) (header_of bytes) n) type (drop 14 bytes)) (sym size)
          ∙ sym (frame_headers-long bytes h)
    ]

-- a part of the frame was captured
pub linked-captured : (bytes : List ℕ) (missing : ℕ) → 0 < missing → is_tag (field bytes 96 16) ≡ false → linked_of 1 bytes (length bytes + missing) ≡ captured_of bytes missing
unfolding linked_of captured_of
linked-captured bytes missing some none = ap (with_captured (length bytes)) (captured-headers bytes missing some none)

-- all of it was captured
pub linked-whole : (bytes : List ℕ) → is_tag (field bytes 96 16) ≡ false → linked_of 1 bytes (length bytes) ≡ fields_of bytes
unfolding linked_of fields_of
linked-whole bytes none = ap (with_captured (length bytes)) (whole-headers bytes none)
