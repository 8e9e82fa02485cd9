use Rattle.c_write.proofs.Exact.{addr-exact, arp-exact, block-exact, ip-exact, options-exact, tcp-exact, udp-exact}
use Rattle.c_write.proofs.ExactFrames.{arp-frame-exact, rebuilt-exact, tcp-frame-exact, tcp-packet-exact, udp-frame-exact, udp-packet-exact}
use Rattle.c_write.proofs.laws.failures_are_exact.Goals as goal

pub returns : goal.returns
returns c = record {
  addr = addr-exact;
  block = block-exact;
  arp = arp-exact;
  ip = ip-exact;
  udp = udp-exact;
  tcp = tcp-exact;
  options = options-exact;
  udp_packet = udp-packet-exact;
  tcp_packet = tcp-packet-exact;
  udp_frame = udp-frame-exact;
  tcp_frame = tcp-frame-exact;
  arp_frame = arp-frame-exact;
  rebuilt = rebuilt-exact;
}
