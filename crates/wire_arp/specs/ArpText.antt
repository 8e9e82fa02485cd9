-- The texts that ARP packets print as.
-- Pinned by: `wire/arp`, `cases/arp_shapes`, `cases/arp_lengths`
use Rattle.std.specs.Prelude.{ℕ, ◌++◌, ◌&&◌, nat_le, if◌then◌else◌, Bool, List, codes, decimal, length}
use Rattle.std.specs.List.{join_by}
use Rattle.std.specs.Option.{option_map_or}
use Rattle.wire_addr.specs.Printed.{dashed, dotted}
use Rattle.wire_arp.specs.Arp.{arp_of, hardware_len, hardware_of, hardware_type_of, opcode_of, operation_of, protocol_len, protocol_type_of, source_hardware_addr, source_protocol_addr, target_hardware_addr, target_protocol_addr, target_protocol_end}
use Rattle.wire_ethernet.specs.Ethernet.{protocol_of}
use Rattle.wire_arp.specs.declared.arp.ArpHardware.{ArpHardware}
use Rattle.wire_arp.specs.declared.arp.ArpHardware.TheVariants as hardware
use Rattle.wire_arp.specs.declared.arp.ArpOperation.{ArpOperation}
use Rattle.wire_arp.specs.declared.arp.ArpOperation.TheVariants as operation
use Rattle.wire_arp.specs.declared.arp.repr.ArpRepr.{ArpRepr}
use Rattle.wire_arp.specs.declared.arp.repr.ArpRepr.TheVariants.{EthernetIpv4}
use Rattle.wire_ethernet.specs.declared.ethernet.EthernetProtocol.{EthernetProtocol}
use Rattle.wire_ethernet.specs.declared.ethernet.EthernetProtocol.TheVariants as protocol

-- ---- words

-- the printed word for a number without a name
abbrev pub unknown_word : ℕ → List ℕ
unknown_word n = codes "Unknown(" ++ decimal n ++ codes ")"

-- the printed word for a hardware type
abbrev pub hardware_word : ArpHardware → List ℕ
hardware_word hardware.Ethernet = codes "Ethernet"
hardware_word (hardware.Unknown n) = unknown_word n

-- the printed word for a protocol type
abbrev pub protocol_word : EthernetProtocol → List ℕ
protocol_word protocol.Ipv4 = codes "Ipv4"
protocol_word protocol.Arp = codes "Arp"
protocol_word protocol.Ipv6 = codes "Ipv6"
protocol_word (protocol.Unknown n) = unknown_word n

-- the printed word for an ARP operation
abbrev pub operation_word : ArpOperation → List ℕ
operation_word operation.Request = codes "Request"
operation_word operation.Reply = codes "Reply"
operation_word (operation.Unknown n) = unknown_word n

-- the bytes of an address in decimal, with `, ` between them, in square brackets
abbrev pub list_text : List ℕ → List ℕ
list_text bytes = codes "[" ++ join_by decimal (codes ", ") bytes ++ codes "]"

-- ---- texts

-- the printed text of an ARP packet's values
unfoldable pub value_text : ArpRepr → List ℕ
value_text (EthernetIpv4 operation source_hardware source_protocol target_hardware target_protocol) =
    codes "ARP type=Ethernet+IPv4 src=" ++ dashed source_hardware.0 ++ codes "/" ++ dotted source_protocol
    ++ codes " tgt=" ++ dashed target_hardware.0 ++ codes "/" ++ dotted target_protocol ++ codes " op=" ++ operation_word operation

-- the printed text of the first five fields of a packet that is not for Ethernet and IPv4
unfoldable pub numbers_text : ArpHardware → EthernetProtocol → ℕ → ℕ → ArpOperation → List ℕ
numbers_text hardware protocol hardware_len protocol_len operation =
    codes "ARP (unrecognized) htype=" ++ hardware_word hardware ++ codes " ptype=" ++ protocol_word protocol
    ++ codes " hlen=" ++ decimal hardware_len ++ codes " plen=" ++ decimal protocol_len ++ codes " op=" ++ operation_word operation

-- the printed text of the four addresses of a packet, those of the source first
unfoldable pub addresses_text : List ℕ → List ℕ
addresses_text bytes =
    codes " sha=" ++ list_text (source_hardware_addr bytes) ++ codes " spa=" ++ list_text (source_protocol_addr bytes)
    ++ codes " tha=" ++ list_text (target_hardware_addr bytes) ++ codes " tpa=" ++ list_text (target_protocol_addr bytes)

-- the printed text of all fields of a packet that is not for Ethernet and IPv4
unfoldable pub fields_text : List ℕ → List ℕ
fields_text bytes =
    numbers_text (hardware_of (hardware_type_of bytes)) (protocol_of (protocol_type_of bytes)) (hardware_len bytes) (protocol_len bytes) (operation_of (opcode_of bytes))
    ++ addresses_text bytes

-- whether the lengths are valid
abbrev pub has_lengths : List ℕ → Bool
has_lengths bytes = nat_le 8 (length bytes) && nat_le (target_protocol_end bytes) (length bytes)

-- the printed text of a packet: that of its values, or that of its fields if it is not for Ethernet and IPv4, or that
-- the lengths are invalid
unfoldable pub packet_text : List ℕ → List ℕ
packet_text bytes =
    option_map_or value_text (arp_of bytes) (if has_lengths bytes then fields_text bytes else codes "ARP (wire::Error)")
