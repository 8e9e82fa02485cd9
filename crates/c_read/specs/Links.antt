-- Link-layer headers, and the packets after them, as the structs of C.
-- Pinned by: `worked/link`, `judge`
use Rattle.std.specs.Prelude.{ℕ, ◌-◌, nat_lt, if◌then◌else◌, List, drop, length, slice_range, Result, Ok, Err}
use Rattle.std.specs.Option.{option_map_or}
use Rattle.wire_link.specs.Link.{link_of, link_type_of}
use Rattle.wire_link.specs.declared.link.Link.{Link}
use Rattle.wire_link.specs.declared.link.LinkFault.{LinkFault}
use Rattle.wire_link.specs.declared.link.LinkFault.TheVariants as fault
use Rattle.wire_link.specs.declared.link_type.LinkType.{LinkType}
use Rattle.wire_link.specs.declared.link_type.LinkType.TheVariants as kind
use Rattle.ip_wire.specs.Ethernet.{protocol_of}
use Rattle.ip_wire.specs.Types.{EthernetProtocol}
use Rattle.c_structs.specs.Codes.{reason_code}
use Rattle.c_structs.specs.Nothing.{no_ethernet, nothing_of}
use Rattle.c_structs.specs.declared.codes.Reason.TheVariants as reason
use Rattle.c_structs.specs.declared.types.Ethernet.{Ethernet}
use Rattle.c_structs.specs.declared.types.FrameFields.{FrameFields}
use Rattle.c_read.specs.Captured.{cut_carried, cut_header}
use Rattle.c_read.specs.FrameFields.{after_header, rejected, with_captured, with_carried}

-- ---- the header

-- the header that was found, or what was stored before
abbrev pub found_or : Link → Result Link LinkFault → Link
found_or old (Ok link) = link
found_or old (Err why) = old

-- the number of the reason why a header is rejected; 0 if there is one
abbrev pub fault_reason : Result Link LinkFault → ℕ
fault_reason (Ok link) = reason_code reason.Read
fault_reason (Err (fault.TooShort least)) = reason_code reason.TooShort
fault_reason (Err fault.BadVersion) = reason_code reason.BadVersion

-- the header of the link type with this number, or what was stored before
abbrev pub link_or : ℕ → List ℕ → Link → Link
link_or number bytes old = option_map_or (λ t. found_or old (link_of t bytes)) (link_type_of number) old

-- the number of the reason why there is no header of the link type with this number; 0 if there is one
abbrev pub link_reason : ℕ → List ℕ → ℕ
link_reason number bytes = option_map_or (λ t. fault_reason (link_of t bytes)) (link_type_of number) (reason_code reason.UnknownLink)

-- ---- the packet

-- the fields with those of a packet of this EtherType, whether all of its bytes were captured or not
abbrev pub carried_by : FrameFields → EthernetProtocol → List ℕ → FrameFields
carried_by f t bytes = if nat_lt (length bytes) f.payload_len then cut_carried f t bytes else with_carried f t bytes

-- the Ethernet header with this EtherType: the destination is bytes 0 to 5, the source 6 to 11; other link types have
-- zeros
abbrev pub ethernet_in : LinkType → ℕ → List ℕ → Ethernet
ethernet_in kind.Ethernet ethertype bytes = record { src = slice_range bytes 6 12; dst = slice_range bytes 0 6; ethertype = ethertype }
ethernet_in t ethertype bytes = record no_ethernet { ethertype = ethertype }

-- the fields with those of a link-layer header; the packet begins after it and its tags
abbrev pub with_linked : FrameFields → LinkType → Link → List ℕ → FrameFields
with_linked f t link bytes =
    let next = after_header f link.offset (f.payload_len - link.offset) in record next {
      ethernet = ethernet_in t link.ethertype bytes;
      reason = reason_code reason.Read;
    }

-- the fields after a link-layer header was rejected
abbrev pub rejected_link : FrameFields → LinkFault → FrameFields
rejected_link f (fault.TooShort least) = cut_header f least
rejected_link f fault.BadVersion = rejected f reason.BadVersion

-- the fields with those of a packet whose link-layer header is this one
abbrev pub linked_after : FrameFields → List ℕ → LinkType → Result Link LinkFault → FrameFields
linked_after f bytes t (Ok link) = carried_by (with_linked f t link bytes) (protocol_of link.ethertype) (drop link.offset bytes)
linked_after f bytes t (Err why) = rejected_link f why

-- the fields with those of a packet of this link type
abbrev pub linked_by : FrameFields → List ℕ → LinkType → FrameFields
linked_by f bytes t = linked_after f bytes t (link_of t bytes)

-- the values of the headers of a packet of `len` bytes of the link type with this number, of which these bytes were
-- captured
unfoldable pub linked_headers : ℕ → List ℕ → ℕ → FrameFields
linked_headers number bytes len =
    option_map_or (linked_by (nothing_of len) bytes) (link_type_of number) (rejected (nothing_of len) reason.UnknownLink)

-- the struct of a packet of `len` bytes of the link type with this number, of which these bytes were captured
unfoldable pub linked_of : ℕ → List ℕ → ℕ → FrameFields
linked_of number bytes len = with_captured (length bytes) (linked_headers number bytes len)
