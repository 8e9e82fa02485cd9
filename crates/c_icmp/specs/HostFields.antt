-- A host as the struct of C, and what the call for it returns and writes.
-- Pinned by: `worked/hosts`, `judge`, `AnsweredOnce`
use Rattle.std.specs.Prelude.{ℤ, ◌≡◌, List, ℕ, Option, None, Some}
use Rattle.std.specs.Option.{option_map}
use Rattle.app_host.specs.Host.{RepliesBytes}
use Rattle.app_host.specs.IcmpEcho.{reply_dscp}
use Rattle.app_host.specs.declared.host.Host.{Host}
use Rattle.app_host.specs.declared.interface.Interface.{Interface}
use Rattle.app_host.specs.declared.tcp_reply.Offer.{Offer}
use Rattle.ip_wire.specs.TcpRepr.{seq_of}
use Rattle.c_write.specs.Headers.{is_yes}
use Rattle.c_structs.specs.Written.{failure_code}
use Rattle.c_structs.specs.declared.failures.Failure.TheVariants as failure
use Rattle.c_icmp.specs.Interfaces.{WritesReplyTo, interface_of}
use Rattle.c_icmp.specs.declared.types.HostFields.{HostFields}

-- what the open TCP ports of a host offer to a SYN
abbrev pub offer_of : HostFields → Offer
offer_of h = record {
  initial = seq_of h.seq_number;
  window_len = h.window_len;
  max_seg_size = h.max_seg_size;
  window_scale = h.window_scale;
  clock = h.tsval;
}

-- the host in a struct, at this interface
abbrev pub host_at : HostFields → Interface → Host
host_at h interface = record {
  interface = interface;
  echo_port = h.echo_port;
  open_udp_ports = h.open_udp_ports;
  open_ports = h.open_ports;
  offer = offer_of h;
}

-- the host in a struct, if it has an address of each version
abbrev pub host_of : HostFields → Option Host
host_of h = option_map (host_at h) (interface_of h.ipv4 h.ipv6 h.hardware (is_yes h.is_router))

-- The reply of a host to a frame is written. Without a host nothing is written.
abbrev pub WritesAnswer : Option Host → List ℕ → List ℕ → List ℕ → ℤ → Type 0
WritesAnswer None frame old new answer = (answer ≡ failure_code failure.NoVersion) × (new ≡ old)
WritesAnswer (Some host) frame old new answer = WritesReplyTo frame (reply_dscp frame) (RepliesBytes host frame) old new answer
