-- The struct of a frame of which nothing is parsed.
-- Pinned by: `worked/read`
use Rattle.std.specs.Prelude.{ℕ, replicate}
use Rattle.c_structs.specs.Addresses.{no_endpoint}
use Rattle.c_structs.specs.Codes.{network_code, reason_code, transport_code, verdict_code}
use Rattle.c_structs.specs.declared.codes.NetworkKind.TheVariants as network
use Rattle.c_structs.specs.declared.codes.Reason.TheVariants as reason
use Rattle.c_structs.specs.declared.codes.TransportKind.TheVariants as transport
use Rattle.c_structs.specs.declared.codes.Verdict.TheVariants as verdict
use Rattle.c_structs.specs.declared.types.Arp.{Arp}
use Rattle.c_structs.specs.declared.types.Ethernet.{Ethernet}
use Rattle.c_structs.specs.declared.types.FrameFields.{FrameFields}
use Rattle.c_structs.specs.declared.types.Icmp.{Icmp}
use Rattle.c_structs.specs.declared.types.Ip.{Ip}
use Rattle.c_structs.specs.declared.types.Tcp.{Tcp}

-- the struct of no Ethernet header: zeros
abbrev pub no_ethernet : Ethernet
no_ethernet = record { src = replicate 6 0; dst = replicate 6 0; ethertype = 0 }

-- the struct of no ARP packet: zeros
abbrev pub no_arp : Arp
no_arp = record { operation = 0; src_hardware = replicate 6 0; dst_hardware = replicate 6 0 }

-- the struct of no IP header: zeros
abbrev pub no_ip : Ip
no_ip = record {
  ident = 0;
  flow_label = 0;
  fragment_offset = 0;
  protocol = 0;
  hop_limit = 0;
  dscp = 0;
  ecn = 0;
  more_fragments = 0;
  dont_fragment = 0;
}

-- the struct of no TCP header: zeros
abbrev pub no_tcp : Tcp
no_tcp = record { seq_number = 0; ack_number = 0; window_len = 0; urgent_at = 0; flags = 0; header_len = 0 }

-- the struct of no ICMP message: zeros
abbrev pub no_icmp : Icmp
no_icmp = record { word = 0; msg_type = 0; code = 0 }

-- the struct of a frame of this length of which no header is parsed, because it is too short for the first one
abbrev pub nothing_of : ℕ → FrameFields
nothing_of len = record {
  network_offset = 0;
  transport_offset = 0;
  payload_offset = 0;
  payload_len = len;
  payload_captured = 0;
  src = no_endpoint;
  dst = no_endpoint;
  ip = no_ip;
  tcp = no_tcp;
  ethernet = no_ethernet;
  arp = no_arp;
  reason = reason_code reason.TooShort;
  network = network_code network.None;
  transport = transport_code transport.None;
  rejected = transport_code transport.None;
  is_fragment = 0;
  ipv4_checksum = verdict_code verdict.None;
  transport_checksum = verdict_code verdict.None;
  protocol = 0;
  unused = replicate 4 0;
  icmp = no_icmp;
}
